-- SPDX-License-Identifier: MIT OR Apache-2.0
-- Checks which results are allowed for a first fault, and for none.
use Rattle.std.proofs.Common.{◌≡◌, ℕ, List, ◌++◌, Some, None, Ok, Err, codes, refl}
use Rattle.std.specs.Borrow.{Bor}
use Rattle.settings.specs.declared.fault.SettingsFault.TheVariants.{NotToml, Unknown, Missing, BadType, BadValue, Repeated, Memory}
use Rattle.settings.specs.declared.finding.Finding.TheVariants as found
use Rattle.settings.specs.declared.key.Key.TheVariants as keys
use Rattle.settings.specs.Answer.{Reads, TakesMemory, fault_found}

-- ---- the fault that was found

unknown_at_the_top : (name : Bor (List ℕ)) → fault_found (found.Unknown None name) ≡ Unknown name.now
unknown_at_the_top name = refl

unknown_in_timers : (name : Bor (List ℕ)) →
    fault_found (found.Unknown (Some keys.Timers) name) ≡ Unknown (codes "timers" ++ codes "." ++ name.now)
unknown_in_timers name = refl

missing_found : fault_found (found.Missing keys.Mcc) ≡ Missing keys.Mcc
missing_found = refl

type_found : fault_found (found.BadType keys.Mcc) ≡ BadType keys.Mcc
type_found = refl

value_found : fault_found (found.BadValue keys.Mcc) ≡ BadValue keys.Mcc
value_found = refl

repeated_found : fault_found (found.Repeated keys.Bsic) ≡ Repeated keys.Bsic
repeated_found = refl

-- ---- where memory is taken

for_settings : TakesMemory None
for_settings = tt

for_a_name : TakesMemory (Some (Unknown (codes "colour")))
for_a_name = tt

not_for_a_missing_key : TakesMemory (Some (Missing keys.Network)) → ⊥
not_for_a_missing_key takes = takes

not_for_a_bad_type : TakesMemory (Some (BadType keys.Cell)) → ⊥
not_for_a_bad_type takes = takes

not_for_a_bad_value : TakesMemory (Some (BadValue keys.Mnc)) → ⊥
not_for_a_bad_value takes = takes

not_for_a_repeated_key : TakesMemory (Some (Repeated keys.Listen)) → ⊥
not_for_a_repeated_key takes = takes

-- ---- what is answered

the_value : Reads {X = ℕ} (Ok 7) 7 None
the_value = (refl, refl)

no_other_value : Reads {X = ℕ} (Ok 7) 8 None → ⊥
no_other_value reads = absurd (cc (reads.1))

no_value_beside_a_fault : Reads {X = ℕ} (Ok 7) 7 (Some (Repeated keys.Bsic)) → ⊥
no_value_beside_a_fault reads = absurd (cc (reads.0))

the_first_fault : Reads {X = ℕ} (Err (Missing keys.Switch)) 7 (Some (Missing keys.Switch))
the_first_fault = refl

no_later_fault : Reads {X = ℕ} (Err (Missing keys.Switch)) 7 (Some (Missing keys.Network)) → ⊥
no_later_fault reads = absurd (cc (reads))

no_fault_beside_none : Reads {X = ℕ} (Err NotToml) 7 None → ⊥
no_fault_beside_none reads = absurd (cc (reads))

memory_beside_none : Reads {X = ℕ} (Err Memory) 7 None
memory_beside_none = tt

no_memory_beside_a_fault : Reads {X = ℕ} (Err Memory) 7 (Some (BadType keys.Network)) → ⊥
no_memory_beside_a_fault reads = reads
