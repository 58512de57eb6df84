-- SPDX-License-Identifier: MIT OR Apache-2.0
-- The status that the program ends with for a fault.
use Rattle.std.specs.Prelude.{ℕ}
use Rattle.program_base.specs.declared.fault.ProgramFault.{ProgramFault}
use Rattle.program_base.specs.declared.fault.ProgramFault.TheVariants.{UnreadSettings, Settings}
use Rattle.program_base.specs.declared.fault.ProgramFault.TheVariants.{BadBreak, Failed}
use Rattle.program_io.specs.Status.{status_of}

-- 1 for settings, 2 for a bad `--break`, and the failure's own status for `Failed`
abbrev pub status_of_fault : ProgramFault → ℕ
status_of_fault UnreadSettings = 1
status_of_fault (Settings fault) = 1
status_of_fault BadBreak = 2
status_of_fault (Failed failure) = status_of failure
