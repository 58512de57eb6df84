-- SPDX-License-Identifier: MIT OR Apache-2.0
-- Definitions against literal faults.
use Rattle.std.proofs.Common.{◌≡◌, [], ◌∷◌, map, refl}
use Rattle.std.specs.declared.io.ErrorKind.TheVariants as kinds
use Rattle.settings.specs.declared.fault.SettingsFault.TheVariants.{NotToml}
use Rattle.program_io.specs.declared.failure.Failure.TheVariants.{BadEvent, Memory, Device}
use Rattle.program_base.specs.declared.fault.ProgramFault.TheVariants as program
use Rattle.program_base.specs.declared.fault.ProgramFault.TheVariants.{UnreadSettings, Settings, BadBreak}
use Rattle.program_base.specs.FaultStatus.{status_of_fault}
use Rattle.program_base.specs.SettingsText.{unread_fault}

fault_statuses : map status_of_fault (UnreadSettings ∷ Settings NotToml ∷ BadBreak ∷ program.Failed (BadEvent 7) ∷ program.Failed Memory ∷ program.Failed Device ∷ []) ≡ 1 ∷ 1 ∷ 2 ∷ 2 ∷ 3 ∷ 3 ∷ []
fault_statuses = refl

files_not_read : map unread_fault (kinds.OutOfMemory ∷ kinds.NotFound ∷ kinds.InvalidData ∷ []) ≡ program.Failed Memory ∷ UnreadSettings ∷ UnreadSettings ∷ []
files_not_read = refl
