-- SPDX-License-Identifier: MIT OR Apache-2.0
-- The command lines of the tools: the words after a tool's name, as `clap` sees them.
use Rattle.std.specs.Prelude.{◌≡◌, ◌≢◌, ℕ, Bool, true, ◌&&◌, if◌then◌else◌, Option, Some, None, List, []}
use Rattle.std.specs.Prelude.{◌∷◌, codes, option_map, string_bytes, unwrap_or}
use Rattle.std.specs.Str.{bytes_eq}
use Rattle.clap.specs.Words.{App, Row, Rule, Text, fault_of, first_of, matches_of, new_app}
use Rattle.clap.specs.Words.{new_rule, with_rule}
use Rattle.clap.specs.declared.builder.action.ArgAction.TheVariants.{SetTrue}
use Rattle.program_base.specs.CommandLine.{required_config}
use Rattle.program_base.specs.declared.words.Tool.{Tool}
use Rattle.program_base.specs.declared.words.Tool.TheVariants.{Trace, Judge, DecodeLong}

-- an option without a value
abbrev pub flag : List ℕ → Rule
flag name = record (new_rule name) { long = Some name; action = Some SetTrue }

-- a tool without its options
abbrev pub tool_program : List ℕ → App
tool_program name = let app = new_app name in record {
  top = record app.top { no_binary_name = true };
  subs = app.subs;
}

-- `--chart[=FORM]`; without FORM, the form is `text`
abbrev pub chart_option : Rule
chart_option = record (new_rule (codes "chart")) {
  long = Some (codes "chart");
  range = Some (record { start_inclusive = 0; end_inclusive = 1 });
  missing = codes "text" ∷ [];
}

-- `--capture FILE`
abbrev pub capture_option : Rule
capture_option = record (new_rule (codes "capture")) { long = Some (codes "capture") }

-- `trace --config FILE [--strict] [--chart[=FORM]] [--capture FILE]`: the words after `trace`
abbrev pub trace_command : App
trace_command =
    with_rule
    (with_rule
    (with_rule
    (with_rule (tool_program (codes "bsc trace")) required_config)
    (flag (codes "strict")))
    chart_option)
    capture_option

-- `--settings FILE`
abbrev pub settings_option : Rule
settings_option = record (new_rule (codes "settings")) { long = Some (codes "settings") }

-- `judge [--settings FILE] [--strict] [--tap]`: the words after `judge`
abbrev pub judge_command : App
judge_command =
    with_rule
    (with_rule
    (with_rule (tool_program (codes "bsc judge")) settings_option)
    (flag (codes "strict")))
    (flag (codes "tap"))

-- `decode --long`: the words after `decode`
abbrev pub long_command : App
long_command = with_rule (tool_program (codes "bsc decode")) (flag (codes "long"))

-- the tool is `trace`, with the values of its options from `rows`
unfoldable pub IsTrace : Tool → List Row → Type 0
IsTrace (Trace settings strict chart capture) rows =
    (string_bytes settings ≡ unwrap_or (first_of (codes "config") rows) [])
    × (strict ≡ true → first_of (codes "strict") rows ≡ Some (codes "true"))
    × (first_of (codes "strict") rows ≡ Some (codes "true") → strict ≡ true)
    × (option_map string_bytes chart ≡ first_of (codes "chart") rows)
    × (option_map string_bytes capture ≡ first_of (codes "capture") rows)
IsTrace _ rows = ⊥

-- `given` is true exactly if the values of the options, `rows`, hold the flag `name`
abbrev pub IsFlag : Bool → List ℕ → List Row → Type 0
IsFlag given name rows =
    (given ≡ true → first_of name rows ≡ Some (codes "true"))
    × (first_of name rows ≡ Some (codes "true") → given ≡ true)

unfoldable pub IsJudge : Tool → List Row → Type 0
IsJudge (Judge settings strict tap) rows =
    (option_map string_bytes settings ≡ first_of (codes "settings") rows)
    × IsFlag strict (codes "strict") rows × IsFlag tap (codes "tap") rows
IsJudge _ rows = ⊥

-- the words after `trace`, if that is the first word
abbrev pub behind_trace : List Text → Option (List Text)
behind_trace [] = None
behind_trace (word ∷ words) = if bytes_eq word (codes "trace") then Some words else None

-- the words after `judge`, if that is the first word
abbrev pub behind_judge : List Text → Option (List Text)
behind_judge [] = None
behind_judge (word ∷ words) = if bytes_eq word (codes "judge") then Some words else None

-- the words after `decode`, if that is the first word and `--long` the second
abbrev pub behind_decode : List Text → Option (List Text)
behind_decode [] = None
behind_decode (word ∷ []) = None
behind_decode (word ∷ next ∷ words) =
    if bytes_eq word (codes "decode") && bytes_eq next (codes "--long") then Some (next ∷ words)
    else None

-- The words ask for `tool`. The three arguments are the words after `trace`, `decode` and `judge`;
-- the first of them that is `Some` counts.
abbrev pub IsToolBy : Tool → Option (List Text) → Option (List Text) → Option (List Text) → Type 0
IsToolBy tool (Some options) long judge =
    (fault_of trace_command options ≡ []) × IsTrace tool (matches_of trace_command options)
IsToolBy tool None (Some options) judge =
    (fault_of long_command options ≡ []) × (tool ≡ DecodeLong)
IsToolBy tool None None (Some options) =
    (fault_of judge_command options ≡ []) × IsJudge tool (matches_of judge_command options)
IsToolBy tool None None None = ⊥

abbrev pub AreNoToolBy : Option (List Text) → Option (List Text) → Option (List Text) → Type 0
AreNoToolBy (Some options) long judge = fault_of trace_command options ≢ []
AreNoToolBy None (Some options) judge = fault_of long_command options ≢ []
AreNoToolBy None None (Some options) = fault_of judge_command options ≢ []
AreNoToolBy None None None = Unit {0}

-- the words ask for this tool
abbrev pub IsTool : Tool → List Text → Type 0
IsTool tool words =
    IsToolBy tool (behind_trace words) (behind_decode words) (behind_judge words)

-- the words ask for no tool
abbrev pub AreNoTool : List Text → Type 0
AreNoTool words = AreNoToolBy (behind_trace words) (behind_decode words) (behind_judge words)
