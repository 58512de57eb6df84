-- SPDX-License-Identifier: MIT OR Apache-2.0
-- The settings that a text holds.
use Rattle.std.specs.Prelude.{ℕ, List, Result, Ok, Err}
use Rattle.std.specs.declared.io.ErrorKind.{ErrorKind}
use Rattle.std.specs.declared.io.ErrorKind.TheVariants.{OutOfMemory}
use Rattle.toml.specs.Parse.{parse_document}
use Rattle.settings.specs.declared.fault.SettingsFault.{SettingsFault}
use Rattle.settings.specs.Parameters.{Parameters}
use Rattle.settings.specs.Tables.{settings_in}
use Rattle.program_base.specs.declared.fault.ProgramFault.{ProgramFault}
use Rattle.program_io.specs.declared.failure.Failure.TheVariants.{Memory}
use Rattle.program_base.specs.declared.fault.ProgramFault.TheVariants.{Settings}
use Rattle.program_base.specs.declared.fault.ProgramFault.TheVariants.{Failed, UnreadSettings}

abbrev pub settings_or_fault : Result Parameters SettingsFault → Result Parameters ProgramFault
settings_or_fault (Ok settings) = Ok settings
settings_or_fault (Err fault) = Err (Settings fault)

-- the settings in a text, or their first fault
abbrev pub settings_of : List ℕ → Result Parameters ProgramFault
settings_of text = settings_or_fault (settings_in (parse_document text))

-- the program's fault if the settings' file can't be read: `Failed Memory` if memory ran out, else
-- `UnreadSettings`
abbrev pub unread_fault : ErrorKind → ProgramFault
unread_fault OutOfMemory = Failed Memory
unread_fault _ = UnreadSettings
