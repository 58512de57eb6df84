-- SPDX-License-Identifier: MIT OR Apache-2.0
-- A line is the text of the event that is read from it, and of no other.
use Rattle.std.proofs.Common.{◌≡◌, ℕ, false, Some, List, [], ◌∷◌, refl, sym, ap, ◌∙◌, subst, inl, inr}
use Rattle.std.specs.List.{AllByRecursion, join_with_byte, slice_split, onto_first}
use Rattle.std.proofs.lemmas.Bool.{cases_Bool}
use Rattle.std.proofs.lemmas.List.Elements.{All-nil, All-cons}
use Rattle.std.proofs.lemmas.List.Splits.{slice_split-cons_yes, slice_split-cons_no, slice_split_none, slice_split_at, join_with_byte-slice_split}
use Rattle.world_model.specs.declared.event.Event.{Event}
use Rattle.program_base.specs.WordsLeft.{is_space}
use Rattle.program_base.specs.Script.{HasNoSpace, AreWords, words_of, IsLine}
use Rattle.program_base.specs.ScriptReading.{line_at}
use Rattle.program_base.proofs.Saying.{line_at_says, line_at-again}

onto_first-no_space : (octet : ℕ) (words : List (List ℕ)) →
    is_space octet ≡ false →
    AllByRecursion HasNoSpace words →
    AllByRecursion HasNoSpace (onto_first octet words)
onto_first-no_space octet [] here words = (All-cons (λ octet. is_space octet ≡ false) octet [] here (All-nil (λ octet. is_space octet ≡ false)), tt)
onto_first-no_space octet (word ∷ others) here words = (All-cons (λ octet. is_space octet ≡ false) octet word here words.0, words.1)

-- the words of a line have no space in them
words_no_space : (line : List ℕ) → AllByRecursion HasNoSpace (slice_split is_space line)
words_no_space [] = (All-nil (λ octet. is_space octet ≡ false), tt)
words_no_space (octet ∷ line) =
    elim (cases_Bool (is_space octet)) [
      | inl space ↦ subst (AllByRecursion HasNoSpace) (sym (slice_split-cons_yes is_space octet line space)) (All-nil (λ octet. is_space octet ≡ false), words_no_space line)
      | inr other ↦ subst (AllByRecursion HasNoSpace) (sym (slice_split-cons_no is_space octet line other)) (onto_first-no_space octet (slice_split is_space line) other (words_no_space line))
    ]

-- words that one space parts are found again
slice_split-join : (word : List ℕ) (words : List (List ℕ)) →
    AllByRecursion HasNoSpace (word ∷ words) →
    slice_split is_space (join_with_byte 32 (word ∷ words)) ≡ word ∷ words
slice_split-join word [] none = slice_split_none is_space word none.0
slice_split-join word (next ∷ words) none =
    slice_split_at is_space word 32 (join_with_byte 32 (next ∷ words)) none.0 refl ∙ ap (λ rest. word ∷ rest) (slice_split-join next words none.1)

-- what is read of a line's words
pub IsLine-read : (cells : ℕ) (line : List ℕ) (event : Event) →
    line_at cells (slice_split is_space line) ≡ Some event →
    IsLine cells event line
IsLine-read cells line event is = record {
  words = slice_split is_space line;
  parted = sym (join_with_byte-slice_split 32 line);
  are_words = words_no_space line;
  say = line_at_says cells (slice_split is_space line) event is;
}

are_words_split : (cells : ℕ) (event : Event) (words : List (List ℕ)) →
    AreWords cells (words_of event) words →
    AllByRecursion HasNoSpace words →
    slice_split is_space (join_with_byte 32 words) ≡ words
unfolding line_at
are_words_split cells event [] say none = let read : line_at cells [] ≡ Some event = line_at-again cells event [] say in absurd cc
are_words_split cells event (word ∷ words) say none = slice_split-join word words none

pub read_is_line : (cells : ℕ) (line : List ℕ) (event : Event) →
    IsLine cells event line →
    line_at cells (slice_split is_space line) ≡ Some event
read_is_line cells line event is =
    let split : slice_split is_space line ≡ is.words = ap (slice_split is_space) is.parted ∙ are_words_split cells event is.words is.say is.are_words in
    ap (line_at cells) split ∙ line_at-again cells event is.words is.say
