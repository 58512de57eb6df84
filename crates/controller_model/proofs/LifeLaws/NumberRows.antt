-- SPDX-License-Identifier: MIT OR Apache-2.0
-- The numbers of connections, at literal values.
use Rattle.controller_model.proofs.Prelude.{ℕ, ◌<◌, ◌≤◌, List, [], ◌∷◌, map, arith, AreRising, IsNumbered, Controller, Entry}
use Rattle.controller_model.proofs.LifeLaws.OwnRows.{busy, entry, own}

abbrev numbered : List ℕ → List Entry
numbered numbers = map (λ number. entry (record own { number = number })) numbers

abbrev with_numbers : List ℕ → ℕ → Controller
with_numbers numbers next = record busy { entries = numbered numbers; next_number = next }

-- ---- they rise

none_rise : AreRising (numbered [])
none_rise = tt

-- not one by one
rising : AreRising (numbered (2 ∷ 3 ∷ 7 ∷ []))
rising = ((omega arith, (omega arith, tt)), ((omega arith, tt), (tt, tt)))

not_twice : AreRising (numbered (2 ∷ 3 ∷ 3 ∷ [])) → ⊥
not_twice rise = let low : 3 < 3 = rise.1.0.0 in absurd (omega (arith, low))

not_falling : AreRising (numbered (3 ∷ 2 ∷ [])) → ⊥
not_falling rise = let low : 3 < 2 = rise.0.0 in absurd (omega (arith, low))

-- the first is below each, not below the second alone
below_each : AreRising (numbered (3 ∷ 5 ∷ 3 ∷ [])) → ⊥
below_each rise = let low : 3 < 3 = rise.0.1.0 in absurd (omega (arith, low))

-- ---- from 1 on, and below the next one

first_and_last : IsNumbered (with_numbers (1 ∷ 8 ∷ []) 9)
first_and_last = record { rising = ((omega arith, tt), (tt, tt)); below = (omega arith, (omega arith, tt)); above = (omega arith, (omega arith, tt)); next = omega arith }

none_at_first : IsNumbered (with_numbers [] 1)
none_at_first = record { rising = tt; below = tt; above = tt; next = omega arith }

not_falling_below_the_next : IsNumbered (with_numbers (8 ∷ 1 ∷ []) 9) → ⊥
not_falling_below_the_next is = let low : 8 < 1 = is.rising.0.0 in absurd (omega (arith, low))

not_the_next : IsNumbered (with_numbers (1 ∷ 9 ∷ []) 9) → ⊥
not_the_next is = let low : 9 < 9 = is.below.1.0 in absurd (omega (arith, low))

not_zero : IsNumbered (with_numbers (0 ∷ 8 ∷ []) 9) → ⊥
not_zero is = let low : 0 < 0 = is.above.0 in absurd (omega (arith, low))

not_from_zero : IsNumbered (with_numbers [] 0) → ⊥
not_from_zero is = let low : 1 ≤ 0 = is.next in absurd (omega (arith, low))
