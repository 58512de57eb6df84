-- SPDX-License-Identifier: MIT OR Apache-2.0
-- Lemmas: columns and lines by the places of tabs and line feeds.
use Rattle.std.proofs.Common.{◌≡◌, ◌≢◌, ℕ, ◌+◌, ◌<◌, ◌≤◌, false, List, [], ◌∷◌, ◌++◌, length, take, drop, get_or, refl, sym, ap, subst, ◌∙◌, arith, inl, inr, Some, None, Err}
use Rattle.std.specs.List.{All, before_first, onto_first, slice_split}
use Rattle.std.proofs.lemmas.Bool.{cases_Bool, cond-false, eq-eqb, eqb-true}
use Rattle.std.proofs.lemmas.List.{drop_more, get_or-take, length-take, take-append-drop, take_all}
use Rattle.std.proofs.lemmas.List.Elements.{All-head, All-tail, All-from_get_or}
use Rattle.std.proofs.lemmas.List.Splits.{length-slice_split, slice_split_at, slice_split_none}
use Rattle.std.proofs.lemmas.List.Sums.{position_or_len_is}
use Rattle.memchr.specs.Find.{IsFirstByte, Nowhere, Passes, is_byte}
use Rattle.judge_lines.specs.Columns.{is_tab, six_columns}
use Rattle.judge_lines.specs.Lines.{HasNoFeed, is_feed, lines_of}
use Rattle.judge_lines.specs.declared.fault.LineFault.TheVariants.{NotSixColumns}

-- ---- where the first octet with a value is

abbrev pub Lacks : ℕ → List ℕ → Type 0
Lacks octet octets = All (λ o. is_byte octet o ≡ false) octets

fails_at : (octet : ℕ) (octets : List ℕ) (n k : ℕ) →
    Nowhere (Passes (is_byte octet) octets) 0 n →
    k < n →
    is_byte octet (get_or octets k 0) ≡ false
fails_at octet octets n k none below =
    elim (cases_Bool (is_byte octet (get_or octets k 0))) [
      | inl found ↦ absurd (none k (omega arith) below found)
      | inr past ↦ past
    ]

pub lacks_before : (octet : ℕ) (octets : List ℕ) (n : ℕ) →
    Nowhere (Passes (is_byte octet) octets) 0 n →
    n ≤ length octets →
    Lacks octet (take n octets)
lacks_before octet octets n none within =
    All-from_get_or (λ o. is_byte octet o ≡ false) (take n octets) 0
    (λ i below.
    let under : i < n = omega (arith, length-take n octets) in
    subst (λ (o : ℕ). is_byte octet o ≡ false) (sym (get_or-take n octets i 0 under)) (fails_at octet octets n i none under))

pub lacks_all : (octet : ℕ) (octets : List ℕ) → IsFirstByte (is_byte octet) octets None → Lacks octet octets
lacks_all octet octets none = subst (Lacks octet) (take_all (length octets) octets (omega arith)) (lacks_before octet octets (length octets) none (omega arith))

-- the octets are those before the first with this value, it, and those behind
pub parted_at : (octet : ℕ) (octets : List ℕ) (n : ℕ) →
    IsFirstByte (is_byte octet) octets (Some n) →
    octets ≡ take n octets ++ octet ∷ drop (n + 1) octets
parted_at octet octets n first =
    let here : get_or octets n 0 ≡ octet = eqb-true (get_or octets n 0) octet first.1 in
    sym (take-append-drop n octets) ∙ ap (λ (behind : List ℕ). take n octets ++ behind) (drop_more octets n 0 first.0.high ∙ ap (λ (o : ℕ). o ∷ drop (n + 1) octets) here)

-- ---- columns

pub column_at : (octet : ℕ) (line : List ℕ) (n : ℕ) → IsFirstByte (is_byte octet) line (Some n)
    → slice_split (is_byte octet) line ≡ take n line ∷ slice_split (is_byte octet) (drop (n + 1) line)
column_at octet line n first =
    ap (slice_split (is_byte octet)) (parted_at octet line n first)
    ∙ slice_split_at (is_byte octet) (take n line) octet (drop (n + 1) line) (lacks_before octet line n first.0.before (omega (arith, first.0.high))) (eq-eqb octet octet refl)

pub column_alone : (octet : ℕ) (line : List ℕ) → IsFirstByte (is_byte octet) line None → slice_split (is_byte octet) line ≡ line ∷ []
column_alone octet line none = slice_split_none (is_byte octet) line (lacks_all octet line none)

-- the first column, then the others
pub columns_on : (column : List ℕ) (all behind columns : List (List ℕ)) → all ≡ column ∷ behind → behind ≡ columns → all ≡ column ∷ columns
columns_on column all behind columns first others = first ∙ ap (λ (xs : List (List ℕ)). column ∷ xs) others

seven_by : (a b c d e f : List ℕ) (others : List (List ℕ)) →
    length others ≢ 0 →
    six_columns (a ∷ b ∷ c ∷ d ∷ e ∷ f ∷ others) ≡ Err NotSixColumns
seven_by a b c d e f [] some = absurd (some refl)
seven_by a b c d e f (g ∷ others) some = refl

-- more than six columns
pub seven : (a b c d e f line : List ℕ) → six_columns (a ∷ b ∷ c ∷ d ∷ e ∷ f ∷ slice_split is_tab line) ≡ Err NotSixColumns
seven a b c d e f line = seven_by a b c d e f (slice_split is_tab line) (λ none. let more = length-slice_split is_tab line in omega (arith, more))

-- ---- words

pub word_until : (octet : ℕ) (text : List ℕ) (n : ℕ) →
    IsFirstByte (is_byte octet) text (Some n) →
    before_first (is_byte octet) text ≡ take n text
word_until octet text n first =
    let high : n < length text = first.0.high in
    ap (λ (i : ℕ). take i text) (position_or_len_is (is_byte octet) text n 0 (omega arith) (λ k below. fails_at octet text n k first.0.before below) (λ _. first.1))

pub word_alone : (octet : ℕ) (text : List ℕ) → IsFirstByte (is_byte octet) text None → before_first (is_byte octet) text ≡ text
word_alone octet text none =
    ap (λ (i : ℕ). take i text) (position_or_len_is (is_byte octet) text (length text) 0 (omega arith) (λ k below. fails_at octet text (length text) k none below) (λ (below : length text < length text). absurd (omega arith)))
    ∙ take_all (length text) text (omega arith)

-- ---- lines

pub line_at : (line rest : List ℕ) → HasNoFeed line → lines_of (line ++ 10 ∷ rest) ≡ line ∷ lines_of rest
line_at [] rest none = refl
line_at (octet ∷ line) rest none =
    let here : is_feed octet ≡ false = All-head (λ o. is_feed o ≡ false) octet line none in
    cond-false (is_feed octet) ([] ∷ lines_of (line ++ 10 ∷ rest)) (onto_first octet (lines_of (line ++ 10 ∷ rest))) here
    ∙ ap (onto_first octet) (line_at line rest (All-tail (λ o. is_feed o ≡ false) octet line none))

-- an octet before lines begins the first of them
begun_by : (octet : ℕ) (lines : List (List ℕ)) →
    (line : List ℕ) × (others : List (List ℕ)) × (onto_first octet lines ≡ (octet ∷ line) ∷ others)
begun_by octet [] = ([], [], refl)
begun_by octet (line ∷ others) = (line, others, refl)

-- octets without a line feed begin the first line, whatever comes behind them
pub line_begun : (octet : ℕ) (octets more : List ℕ) → HasNoFeed (octet ∷ octets)
    → (line : List ℕ) × (others : List (List ℕ)) × (lines_of ((octet ∷ octets) ++ more) ≡ ((octet ∷ octets) ++ line) ∷ others)
line_begun octet [] more none =
    let here : is_feed octet ≡ false = All-head (λ o. is_feed o ≡ false) octet [] none in
    let begun = begun_by octet (lines_of more) in
    (begun.0, begun.1, cond-false (is_feed octet) ([] ∷ lines_of more) (onto_first octet (lines_of more)) here ∙ begun.2)
line_begun octet (next ∷ octets) more none =
    let here : is_feed octet ≡ false = All-head (λ o. is_feed o ≡ false) octet (next ∷ octets) none in
    let later = line_begun next octets more (All-tail (λ o. is_feed o ≡ false) octet (next ∷ octets) none) in (
      later.0,
      later.1,
      cond-false (is_feed octet) ([] ∷ lines_of ((next ∷ octets) ++ more)) (onto_first octet (lines_of ((next ∷ octets) ++ more))) here
          ∙ ap (onto_first octet) later.2,
    )

-- octets without a line feed are one line
pub line_alone : (octet : ℕ) (octets : List ℕ) → HasNoFeed (octet ∷ octets) → lines_of (octet ∷ octets) ≡ (octet ∷ octets) ∷ []
line_alone octet [] none =
    let here : is_feed octet ≡ false = All-head (λ o. is_feed o ≡ false) octet [] none in
    cond-false (is_feed octet) ([] ∷ []) ((octet ∷ []) ∷ []) here
line_alone octet (next ∷ octets) none =
    let here : is_feed octet ≡ false = All-head (λ o. is_feed o ≡ false) octet (next ∷ octets) none in
    cond-false (is_feed octet) ([] ∷ lines_of (next ∷ octets)) (onto_first octet (lines_of (next ∷ octets))) here
    ∙ ap (onto_first octet) (line_alone next octets (All-tail (λ o. is_feed o ≡ false) octet (next ∷ octets) none))
