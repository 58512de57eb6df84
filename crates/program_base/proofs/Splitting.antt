-- SPDX-License-Identifier: MIT OR Apache-2.0
-- Lines and their words.
use Rattle.std.proofs.Common.{◌≡◌, ◌≢◌, ℕ, ◌+◌, ◌<◌, Bool, List, [], ◌∷◌, length, refl, sym, ap, ◌∙◌, arith, inl, inr, not, None, Some, take, drop, get_or, false}
use Rattle.std.proofs.lemmas.Bool.{cases_Bool, cond-true, cond-false}
use Rattle.std.proofs.lemmas.List.Sums.{position_or_len_is}
use Rattle.memchr.specs.Find.{IsFirstByte, Nowhere, Passes, is_byte}
use Rattle.program_base.specs.WordsLeft.{is_space}
use Rattle.std.proofs.lemmas.List.Splits.{slice_split-cons_no, slice_split_first, length-slice_split}
use Rattle.program_base.specs.Words.{end_of}
use Rattle.std.specs.List.{slice_split, onto_first, position_or_len, before_first, after_first}

-- a line without a space is one word
pub slice_split_unfound : (p : ℕ → Bool) (line : List ℕ) → position_or_len p line ≡ length line → slice_split p line ≡ line ∷ []
slice_split_unfound p [] none = refl
slice_split_unfound p (x ∷ xs) none =
    elim (cases_Bool (p x)) [
      | inl found ↦
          let here : position_or_len p (x ∷ xs) ≡ 0 = cond-false (not (p x)) _ _ (ap not found) in
          absurd (omega arith)
      | inr past ↦
          let behind : position_or_len p (x ∷ xs) ≡ position_or_len p xs + 1 = cond-true (not (p x)) _ _ (ap not past) ∙ omega arith in
          slice_split-cons_no p x xs past ∙ ap (onto_first x) (slice_split_unfound p xs (omega arith))
    ]

-- a line has a word, if an empty one
pub slice_split-some : (p : ℕ → Bool) (line : List ℕ) → slice_split p line ≢ []
slice_split-some p line none = let some = length-slice_split p line in let length_is : length (slice_split p line) ≡ 0 = ap length none in absurd (omega arith)

-- the first word of a line with a space, and the line behind it
pub slice_split_found : (p : ℕ → Bool) (line word rest : List ℕ) →
    (position_or_len p line < length line) × (word ≡ before_first p line) × (rest ≡ after_first p line) →
    slice_split p line ≡ word ∷ slice_split p rest
slice_split_found p line word rest found =
    slice_split_first p line 0 found.0 ∙ ap (λ (front : List ℕ). front ∷ slice_split p (after_first p line)) (sym found.1)
    ∙ ap (λ (back : List ℕ). word ∷ slice_split p back) (sym found.2)

pub end_of-some : (words : List (List ℕ)) → words ≢ [] → end_of words ≡ None
end_of-some [] some = absurd (some refl)
end_of-some (word ∷ words) some = refl

-- ---- where the first space is

fails_before : (line : List ℕ) (n k : ℕ) → Nowhere (Passes (is_byte 32) line) 0 n → k < n → is_space (get_or line k 0) ≡ false
fails_before line n k none below =
    elim (cases_Bool (is_space (get_or line k 0))) [
      | inl found ↦ absurd (none k (omega arith) below found)
      | inr past ↦ past
    ]

pub space_at : (line : List ℕ) (n : ℕ) →
    IsFirstByte (is_byte 32) line (Some n) →
    slice_split is_space line ≡ take n line ∷ slice_split is_space (drop (n + 1) line)
space_at line n first =
    let high : n < length line = first.0.high in
    let at : position_or_len is_space line ≡ n = position_or_len_is is_space line n 0 (omega arith) (λ k below. fails_before line n k first.0.before below) (λ _. first.1) in
    slice_split_found is_space line (take n line) (drop (n + 1) line)
    (omega arith, ap (λ (i : ℕ). take i line) (sym at), ap (λ (i : ℕ). drop (i + 1) line) (sym at))

pub no_space : (line : List ℕ) → IsFirstByte (is_byte 32) line None → slice_split is_space line ≡ line ∷ []
no_space line none =
    slice_split_unfound is_space line
    (position_or_len_is is_space line (length line) 0 (omega arith) (λ k below. fails_before line (length line) k none below) (λ (below : length line < length line). absurd (omega arith)))
