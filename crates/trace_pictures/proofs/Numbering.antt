-- SPDX-License-Identifier: MIT OR Apache-2.0
-- The numbers of the events so far, and how an event extends them.
use Rattle.std.proofs.Common.{◌≡◌, ℕ, suc, ◌+◌, List, [], ◌∷◌, ◌++◌, map, refl, ap, ◌∙◌, arith}
use Rattle.std.proofs.lemmas.List.{map-append}
use Rattle.frame_pictures.specs.declared.chart.ChartEvent.{ChartEvent}
use Rattle.program_base.specs.WholeScript.{line_count}
use Rattle.trace_pictures.specs.Numbered.{line_numbers}

-- the numbers of the events of a chart
abbrev pub numbers_of : List ChartEvent → List ℕ
numbers_of events = map (λ event. event.number) events

pub none_numbered : (events : List ChartEvent) → events ≡ [] → numbers_of events ≡ line_numbers 0
unfolding line_numbers
none_numbered events none = ap numbers_of none

line_more : (n : ℕ) → line_numbers n ++ line_count (n + 1) ∷ [] ≡ line_numbers (n + 1)
unfolding line_numbers
line_more n = let next : n + 1 ≡ suc n = omega arith in rw next refl

counted_more : (n : ℕ) → line_count (line_count n + 1) ≡ line_count (n + 1)
counted_more n = omega arith

-- the number of the next line
pub number_more : (n number more : ℕ) → number ≡ line_count n → more ≡ line_count (number + 1) → more ≡ line_count (n + 1)
number_more n number more counted next = next ∙ ap (λ (k : ℕ). line_count (k + 1)) counted ∙ counted_more n

pub numbers_more : (n : ℕ) (drawn : ChartEvent) (old new : List ChartEvent) → numbers_of old ≡ line_numbers n → drawn.number ≡ line_count (n + 1)
    → new ≡ old ++ drawn ∷ [] → numbers_of new ≡ line_numbers (n + 1)
numbers_more n drawn old new some is grown =
    ap numbers_of grown ∙ map-append (λ (event : ChartEvent). event.number) old (drawn ∷ [])
    ∙ ap (λ (ns : List ℕ). ns ++ drawn.number ∷ []) some ∙ ap (λ (k : ℕ). line_numbers n ++ k ∷ []) is ∙ line_more n
