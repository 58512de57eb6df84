-- SPDX-License-Identifier: MIT OR Apache-2.0
-- Words as texts.
use Rattle.std.proofs.Common.{◌≡◌, ℕ, ◌-◌, ◌<◌, ◌≤◌, List, [], ◌∷◌, length, slice_index_or, Bor, refl, arith}
use Rattle.program_base.specs.CommandLine.{texts}

-- one word, as a text
pub texts_of_one : (words : List (Bor (List ℕ))) (other : Bor (List ℕ)) →
    1 ≤ length words →
    length words < 2 →
    texts words ≡ (slice_index_or words 0 other).now ∷ []
texts_of_one [] other least below = absurd (omega (arith, least))
texts_of_one (word ∷ []) other least below = refl
texts_of_one (word ∷ next ∷ words) other least below = absurd (omega (arith, below))

-- two words, as texts
pub texts_of_two : (words : List (Bor (List ℕ))) (other : Bor (List ℕ)) → 2 ≤ length words → length words < 3
    → texts words ≡ (slice_index_or words 0 other).now ∷ (slice_index_or words 1 other).now ∷ []
texts_of_two [] other least below = absurd (omega (arith, least))
texts_of_two (word ∷ []) other least below = absurd (omega (arith, least))
texts_of_two (word ∷ next ∷ []) other least below = refl
texts_of_two (word ∷ next ∷ third ∷ words) other least below = absurd (omega (arith, below))
