-- SPDX-License-Identifier: MIT OR Apache-2.0
-- The page of help that words ask for.
use Rattle.std.specs.Prelude.{ℕ, List, [], ◌∷◌, Option, Some, None, codes, if◌then◌else◌}
use Rattle.std.specs.Prelude.{unwrap_or}
use Rattle.std.specs.Str.{bytes_eq}
use Rattle.program_base.specs.declared.usage.Page.{Page}
use Rattle.program_base.specs.declared.usage.Page.TheVariants.{Program, Run, Replay, Trace, Judge}
use Rattle.program_base.specs.declared.usage.Page.TheVariants.{Decode}

-- the page of the command with this name
abbrev pub page_named : List ℕ → Option Page
page_named name =
    if bytes_eq name (codes "run") then Some Run
    else (if bytes_eq name (codes "replay") then Some Replay
    else (if bytes_eq name (codes "trace") then Some Trace
    else (if bytes_eq name (codes "judge") then Some Judge
    else (if bytes_eq name (codes "decode") then Some Decode else None))))

-- the page of the first command that the words name, or the program's page if they name no command
abbrev pub page_of : List (List ℕ) → Page
page_of [] = Program
page_of (word ∷ words) = unwrap_or (page_named word) (page_of words)
