-- SPDX-License-Identifier: MIT OR Apache-2.0
-- The command line of the program, as `clap` sees it.
use Rattle.std.specs.Prelude.{◌≡◌, ◌≢◌, ℕ, true, Option, Some, None, option_map}
use Rattle.std.specs.Prelude.{unwrap_or, List}
use Rattle.std.specs.Prelude.{[], map, codes, string_bytes}
use Rattle.std.specs.Borrow.{Bor}
use Rattle.clap.specs.Words.{App, Rule, Row, Text, new_app, new_rule, with_rule, with_subcommand}
use Rattle.clap.specs.Words.{first_of, fault_of}
use Rattle.program_base.specs.declared.words.Task.{Task}
use Rattle.program_base.specs.declared.words.Task.TheVariants.{Run, Replay, Decode}

-- the options `--config FILE` and `--break N`, and the commands that take them
abbrev pub config : Rule
config = record (new_rule (codes "config")) { long = Some (codes "config") }

abbrev pub required_config : Rule
required_config = record config { required = true }

abbrev pub break_option : Rule
break_option = record (new_rule (codes "break")) { long = Some (codes "break") }

abbrev pub run_command : App
run_command = with_rule (new_app (codes "run")) required_config

abbrev pub replay_command : App
replay_command = with_rule (with_rule (new_app (codes "replay")) config) break_option

abbrev pub decode_command : App
decode_command = new_app (codes "decode")

abbrev pub program : App
program = let app = new_app (codes "bsc") in record {
  top = record app.top { no_binary_name = true; subcommand_required = true };
  subs = app.subs;
}

-- the rules of the program's command line, which must name one of three subcommands
abbrev pub bsc : App
bsc =
    with_subcommand
    (with_subcommand (with_subcommand program run_command.top) replay_command.top)
    decode_command.top

-- the texts of borrowed words
abbrev pub texts : List (Bor (List ℕ)) → List Text
texts words = map (λ word. word.now) words

-- `clap` takes the words (`AreTaken`), or refuses them (`AreRefused`)
abbrev pub AreTaken : List Text → Type 0
AreTaken words = fault_of bsc words ≡ []

abbrev pub AreRefused : List Text → Type 0
AreRefused words = fault_of bsc words ≢ []

-- the task is the subcommand that `clap` found, with the values of its options; if `clap` found no
-- subcommand (`None`), there is no task
unfoldable pub IsTask : Task → Option (Text × List Row) → Type 0
IsTask task None = ⊥
IsTask (Run settings) (Some found) =
    (found.0 ≡ codes "run")
    × (string_bytes settings ≡ unwrap_or (first_of (codes "config") found.1) [])
IsTask (Replay settings breaks) (Some found) =
    (found.0 ≡ codes "replay")
    × (option_map string_bytes settings ≡ first_of (codes "config") found.1)
    × (option_map string_bytes breaks ≡ first_of (codes "break") found.1)
IsTask Decode (Some found) = found.0 ≡ codes "decode"
