-- SPDX-License-Identifier: MIT OR Apache-2.0
-- The outputs that the options of `replay` ask for.
use Rattle.std.specs.Prelude.{ℕ, List, length, Option, Some, None, Result, Ok, Err, option_map}
use Rattle.std.specs.Borrow.{Bor}
use Rattle.settings.specs.Parameters.{Parameters}
use Rattle.program_base.specs.Words.{source_in}
use Rattle.program_base.specs.declared.fault.ProgramFault.{ProgramFault}
use Rattle.program_base.specs.declared.fault.ProgramFault.TheVariants.{BadBreak}
use Rattle.program_base.specs.SettingsText.{settings_of}

-- what is asked for: the report of the fixed world (`fixed`); the report of the world of the
-- settings (`controlled`); or a line for each place at which the link of a source breaks
-- (`breaking`)
pub data Asked : Type 0 where
  fixed : Asked
  controlled : Parameters → Asked
  breaking : Parameters → ℕ → Asked

abbrev pub asked_of_source : Parameters → Option ℕ → Result Asked ProgramFault
asked_of_source settings None = Err BadBreak
asked_of_source settings (Some source) = Ok (breaking settings source)

-- what the settings and the word after `--break` ask for; the word must be the number of a source
-- in the world of the settings
abbrev pub asked_with : Result Parameters ProgramFault → Option (List ℕ) → Result Asked ProgramFault
asked_with (Err fault) breaks = Err fault
asked_with (Ok settings) None = Ok (controlled settings)
asked_with (Ok settings) (Some word) =
    asked_of_source settings (source_in (length settings.cells) word)

-- The output that the settings' text and the word after `--break` ask for, or a fault. A fault of
-- the settings comes before a fault of the word. `--break` without settings is a fault.
abbrev pub asked : Option (List ℕ) → Option (List ℕ) → Result Asked ProgramFault
asked (Some text) breaks = asked_with (settings_of text) breaks
asked None None = Ok fixed
asked None (Some word) = Err BadBreak

-- the output that the arguments of `replay` ask for
abbrev pub asked_for : Option (Bor (List ℕ)) → Option (Bor (List ℕ)) → Result Asked ProgramFault
asked_for settings breaks =
    asked (option_map (λ text. text.now) settings) (option_map (λ word. word.now) breaks)

-- the output that the arguments of `replay` ask for, if they include the text of settings
abbrev pub asked_of_text : List ℕ → Option (Bor (List ℕ)) → Result Asked ProgramFault
asked_of_text text breaks = asked_with (settings_of text) (option_map (λ word. word.now) breaks)

-- the number of cells in the world for which the script's lines are read
abbrev pub cells_of : Asked → ℕ
cells_of fixed = 1
cells_of (controlled settings) = length settings.cells
cells_of (breaking settings source) = length settings.cells
