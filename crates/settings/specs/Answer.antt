-- SPDX-License-Identifier: MIT OR Apache-2.0
-- How the result of a call relates to the first fault of its input.
use Rattle.std.specs.Prelude.{◌≡◌, ⊤, Option, Some, None, Result, Ok, Err}
use Rattle.settings.specs.declared.fault.SettingsFault.{SettingsFault}
use Rattle.settings.specs.declared.fault.SettingsFault.TheVariants.{Unknown, Missing}
use Rattle.settings.specs.declared.fault.SettingsFault.TheVariants.{BadType, BadValue}
use Rattle.settings.specs.declared.fault.SettingsFault.TheVariants.{Repeated, Memory}
use Rattle.settings.specs.declared.finding.Finding.{Finding}
use Rattle.settings.specs.declared.finding.Finding.TheVariants as found
use Rattle.settings.specs.Keys.{path_in}

-- ---- results that need no allocation

-- The fault that a finding stands for.
abbrev pub fault_found : Finding → SettingsFault
fault_found (found.Unknown table name) = Unknown (path_in table name.now)
fault_found (found.Missing key) = Missing key
fault_found (found.BadType key) = BadType key
fault_found (found.BadValue key) = BadValue key
fault_found (found.Repeated key) = Repeated key

-- If the result is `Ok`, the input has no fault, and `seen` of the result is `value`. If the result
-- is `Err`, its finding stands for the first fault.
abbrev pub Finds : {X Y : Type 0} → Result X Finding → (X → Y) → Y → Option SettingsFault
    → Type 0
Finds (Ok x) seen value first = (first ≡ None) × (seen x ≡ value)
Finds (Err finding) seen value first = first ≡ Some (fault_found finding)

-- ---- results that may need an allocation

-- Whether the call allocates: it does if there is no fault, or if the first fault is an unknown
-- key, whose name is copied.
abbrev pub TakesMemory : Option SettingsFault → Type 0
TakesMemory None = ⊤
TakesMemory (Some (Unknown name)) = ⊤
TakesMemory (Some _) = ⊥

-- The fault returned is the first fault, or `Memory` if the call allocates.
abbrev pub Refuses : SettingsFault → Option SettingsFault → Type 0
Refuses Memory first = TakesMemory first
Refuses fault first = first ≡ Some fault

-- If the result is `Ok`, the input has no fault and the result is `value`. If the result is `Err`,
-- its fault is one that `Refuses` allows.
abbrev pub Reads : {X : Type 0} → Result X SettingsFault → X → Option SettingsFault → Type 0
Reads (Ok x) value first = (first ≡ None) × (x ≡ value)
Reads (Err fault) value first = Refuses fault first
