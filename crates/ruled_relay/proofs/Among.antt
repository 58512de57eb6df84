-- SPDX-License-Identifier: MIT OR Apache-2.0
-- Setting or clearing one bit of a set of sources.
use Rattle.std.proofs.Common.{◌≡◌, ◌≢◌, ℕ, ◌+◌, ◌*◌, ◌/◌, ◌%◌, ◌^◌, ◌<◌, ◌≤◌, List, length, max, refl, sym, ap, ap₂, subst, ◌∙◌, inl, inr, arith}
use Rattle.std.specs.Prelude.{slice_index_or, slice_set}
use Rattle.std.specs.Int.{bit_at, bit_not, w64}
use Rattle.std.specs.Int.Bits.{bit_or, bit_and}
use Rattle.std.proofs.lemmas.Bool.{cases_eq, cases_lt}
use Rattle.std.proofs.lemmas.Grind.{get_or_default_zero}
use Rattle.std.proofs.lemmas.List.{get_or-set_same, get_or-set_other, length-set}
use Rattle.std.proofs.lemmas.Nat.Bits.{bit_at_or, bit_at_set_same, bit_at_set_other, bit_at_clear_same, bit_at_clear_other}
use Rattle.ruled_relay.specs.Signs.{HasNoneBetween}
use Rattle.ruled_relay.specs.Among.{HasNoneFrom, OthersStay, among}

same_source : (other source : ℕ) → other / 64 ≡ source / 64 → other % 64 ≡ source % 64 → other ≡ source
same_source other source word bit = omega (arith, word, bit)

-- a word at its place
pub new_word : (words : List ℕ) (source word : ℕ) →
    source / 64 < length words →
    among (slice_set words (source / 64) word) source ≡ bit_at word (source % 64)
new_word words source word room = ap (λ w. bit_at w (source % 64)) (get_or-set_same words (source / 64) word 0 room)

-- where the word of a source changes at its own bit alone, the others are unchanged
others_same : (words : List ℕ) (source old new : ℕ) → source / 64 < length words → old ≡ slice_index_or words (source / 64) old
    → ((bit : ℕ) → bit < 64 → bit ≢ source % 64 → bit_at new bit ≡ bit_at old bit) → (other : ℕ) → other ≢ source
    → among (slice_set words (source / 64) new) other ≡ among words other
others_same words source old new room is same other differs =
    elim (cases_eq (other / 64) (source / 64)) [
      | inl here ↦
          let at : slice_index_or (slice_set words (source / 64) new) (other / 64) 0 ≡ new =
          ap (λ p. slice_index_or (slice_set words (source / 64) new) p 0) here ∙ get_or-set_same words (source / 64) new 0 room in
          let was : old ≡ slice_index_or words (other / 64) 0 =
          is ∙ get_or_default_zero words (source / 64) old room ∙ ap (λ p. slice_index_or words p 0) (sym here) in
          ap (λ w. bit_at w (other % 64)) at ∙ same (other % 64) (omega arith) (λ bit. differs (same_source other source here bit)) ∙ ap (λ w. bit_at w (other % 64)) was
      | inr there ↦ ap (λ w. bit_at w (other % 64)) (get_or-set_other words (source / 64) (other / 64) new 0 there)
    ]

others_stay : (words : List ℕ) (source old new : ℕ) → source / 64 < length words → old ≡ slice_index_or words (source / 64) old
    → ((bit : ℕ) → bit < 64 → bit ≢ source % 64 → bit_at new bit ≡ bit_at old bit) → OthersStay source words (slice_set words (source / 64) new)
others_stay words source old new room is same = (length-set words (source / 64) new, others_same words source old new room is same)

-- ---- a source is added, and removed

pub come_in : (words : List ℕ) (source old : ℕ) →
    source / 64 < length words →
    among (slice_set words (source / 64) (bit_or old (1 * 2 ^ (source % 64) % 2 ^ 64))) source ≡ 1
come_in words source old room = new_word words source _ room ∙ bit_at_set_same w64 old (source % 64) (omega arith)

pub others_at_coming : (words : List ℕ) (source old : ℕ) → source / 64 < length words → old ≡ slice_index_or words (source / 64) old
    → OthersStay source words (slice_set words (source / 64) (bit_or old (1 * 2 ^ (source % 64) % 2 ^ 64)))
others_at_coming words source old room is = others_stay words source old _ room is (λ bit small other. bit_at_set_other w64 old (source % 64) (omega arith) bit other)

pub gone : (words : List ℕ) (source old : ℕ) →
    source / 64 < length words →
    among (slice_set words (source / 64) (bit_and old (bit_not w64 (1 * 2 ^ (source % 64) % 2 ^ 64)))) source ≡ 0
gone words source old room = new_word words source _ room ∙ bit_at_clear_same w64 old (source % 64) (omega arith)

pub others_at_going : (words : List ℕ) (source old : ℕ) → source / 64 < length words → old ≡ slice_index_or words (source / 64) old
    → OthersStay source words (slice_set words (source / 64) (bit_and old (bit_not w64 (1 * 2 ^ (source % 64) % 2 ^ 64))))
others_at_going words source old room is = others_stay words source old _ room is (λ bit small other. bit_at_clear_other w64 old (source % 64) (omega arith) bit small other)

-- ---- looking for the first, word by word

-- before the word of the first place there is nothing to look at
pub none_before : (from : ℕ) (words : List ℕ) → HasNoneFrom from (from / 64 * 64) words
none_before from words source least below = grind (arith, least, below)

pub none_below : (from to less : ℕ) (words : List ℕ) → less ≤ to → HasNoneFrom from to words → HasNoneFrom from less words
none_below from to less words within none source least below = none source least (omega (arith, within, below))

-- a bit that two words together don't have is in neither
bit_of_second : (first second bit : ℕ) → bit_at (bit_or first second) bit ≡ 0 → bit_at second bit ≡ 0
bit_of_second first second bit none = let both = sym (bit_at_or first second bit) ∙ none in omega (arith, both)

in_word : (source place : ℕ) → place * 64 ≤ source → source < place * 64 + 64 → source / 64 ≡ place
in_word source place least below = omega (arith, least, below)

-- none is in the words before, nor in this word up to a bit
pub none_more : (from place begin signs upto : ℕ) (words : List ℕ) → begin ≡ max from (place * 64) → upto ≤ 64 → HasNoneFrom from (place * 64) words
    → HasNoneBetween (begin % 64) upto (bit_or signs (slice_index_or words place 0)) → HasNoneFrom from (place * 64 + upto) words
none_more from place begin signs upto words is small before here source least below =
    elim (cases_lt source (place * 64)) [
      | inl early ↦ before source least early
      | inr late ↦
          let word : source / 64 ≡ place = in_word source place (omega (arith, late)) (omega (arith, below, small)) in
          ap (λ p. bit_at (slice_index_or words p 0) (source % 64)) word
          ∙ bit_of_second signs (slice_index_or words place 0) (source % 64)
          (here (source % 64) (omega (arith, is, least, late, below, small, word)) (omega (arith, late, below, small, word)))
    ]
