-- SPDX-License-Identifier: MIT OR Apache-2.0
-- Sums over the last reports when another report arrives.
use Rattle.std.proofs.Common.{◌≡◌, ℕ, ◌+◌, ◌-◌, ◌*◌, ◌<◌, ◌≤◌, Bool, true, false, Option, Some, None, List, [], ◌∷◌, ◌++◌, length, drop, cond, ltb, sum_by, arith, sym, ap, ◌∙◌, refl, inl, inr, length-append}
use Rattle.std.specs.List.{All, slice_get}
use Rattle.std.proofs.lemmas.Bool.{ltb-true, ltb-false}
use Rattle.std.proofs.lemmas.Option.{get_or_from_slice_get, slice_get_cases}
use Rattle.std.proofs.lemmas.List.{drop-append-le, length-drop}
use Rattle.std.proofs.lemmas.List.Elements.{All-drop}
use Rattle.std.proofs.lemmas.List.Sums.{sum_by-drop_more, sum_by-le}
use Rattle.dtap_codec.specs.declared.report.Report.{Report}
use Rattle.ho_decision.specs.declared.settings.TheConstants.{MAX_WINDOW}
use Rattle.ho_decision.specs.declared.running.RunningSum.{RunningSum}
use Rattle.ho_decision.specs.declared.sums.Sums.{Sums}
use Rattle.ho_decision.specs.Settings.{Settings}
use Rattle.ho_decision.specs.Average.{last}
use Rattle.ho_decision.specs.Measure.{value_of}
use Rattle.ho_decision.specs.Sums.{IsSum, AreSums, AreOf, AreOfSame}
use Rattle.ho_decision.proofs.Ten.{last-last}

pub length-last : {X : Type 0} (n : ℕ) (xs : List X) → length (last n xs) ≡ length xs - (length xs - n)
length-last n xs = length-drop (length xs - n) xs

-- the last ones, after one more
pub last-more : {X : Type 0} (w : ℕ) (xs : List X) (x : X) → 1 ≤ w → last w (xs ++ x ∷ []) ≡ last (w - 1) xs ++ x ∷ []
last-more w xs x some =
    let k = length xs - (w - 1) in
    let here : length (xs ++ x ∷ []) - w ≡ k = omega (arith, length-append xs (x ∷ [])) in
    ap (λ j. drop j (xs ++ x ∷ [])) here ∙ drop-append-le k xs (x ∷ []) (omega arith)

some_none : {X : Type 0} (o : Option X) (x : X) → o ≡ Some x → o ≡ None → ⊥
some_none o x e n = absurd cc

-- what is so far from the back
found_by : {X : Type 0} (b : Bool) (xs : List X) (back : ℕ) (x : X) →
    ltb back (length xs) ≡ b →
    Some x ≡ cond b (slice_get xs (length xs - back - 1)) None →
    (back < length xs) × (slice_get xs (length xs - back - 1) ≡ Some x)
found_by true xs back x is e = (ltb-true back (length xs) is, sym e)
found_by false xs back x is e = absurd cc

missing_by : {X : Type 0} (b : Bool) (xs : List X) (back : ℕ) →
    ltb back (length xs) ≡ b →
    None ≡ cond b (slice_get xs (length xs - back - 1)) None →
    length xs ≤ back
missing_by true xs back is e =
    let within : back < length xs = ltb-true back (length xs) is in
    elim ((slice_get_cases xs (length xs - back - 1)).1) [
      | inl some ↦ absurd (some_none (slice_get xs (length xs - back - 1)) some.0 some.2 (sym e))
      | inr past ↦ absurd (omega (arith, past.0, within))
    ]
missing_by false xs back is e = ltb-false back (length xs) is

-- one element more of the last ones
pub sum_by-leaving : {X : Type 0} (f : X → ℕ) (xs : List X) (back : ℕ) (x : X) →
    Some x ≡ cond (ltb back (length xs)) (slice_get xs (length xs - back - 1)) None →
    sum_by f (last (back + 1) xs) ≡ f x + sum_by f (last back xs)
sum_by-leaving f xs back x e =
    let found = found_by (ltb back (length xs)) xs back x refl e in
    let i = length xs - back - 1 in
    let there : i < length xs = omega (arith, found.0) in
    let value = get_or_from_slice_get xs i x x found.1 in
    let here : length xs - (back + 1) ≡ i = omega arith in
    let next : i + 1 ≡ length xs - back = omega (arith, found.0) in
    ap (λ k. sum_by f (drop k xs)) here
    ∙ sum_by-drop_more f xs i x there
    ∙ ap (λ v. f v + sum_by f (drop (i + 1) xs)) value
    ∙ ap (λ k. f x + sum_by f (drop k xs)) next

-- what leaves a window
pub leaving_window : (total : ℕ → ℕ) (w back left : ℕ) →
    back + 1 ≡ w →
    total (back + 1) ≡ left + total back →
    total w ≡ left + total (w - 1)
leaving_window total w back left next e =
    let before : back ≡ w - 1 = omega arith in
    ap total (sym next) ∙ e ∙ ap (λ k. left + total k) before

-- there is none more
pub sum_by-staying : {X : Type 0} (f : X → ℕ) (xs : List X) (back : ℕ) →
    None ≡ cond (ltb back (length xs)) (slice_get xs (length xs - back - 1)) None →
    sum_by f (last (back + 1) xs) ≡ sum_by f (last back xs)
sum_by-staying f xs back e =
    let few = missing_by (ltb back (length xs)) xs back refl e in
    let here : length xs - (back + 1) ≡ length xs - back = omega (arith, few) in
    ap (λ k. sum_by f (drop k xs)) here

-- a sum of octets
pub sum_by_last_le : {X : Type 0} (f : X → ℕ) (n : ℕ) (xs : List X) →
    All (λ x. f x ≤ 255) xs →
    sum_by f (last n xs) ≤ length (last n xs) * 255
sum_by_last_le f n xs octets =
    sum_by-le f 255 (last n xs) (All-drop (λ x. f x ≤ 255) (length xs - n) xs octets)

-- a sum over the last ten reports
pub is_sum_last : (reports : List Report) (sum : RunningSum) → IsSum reports sum → IsSum (last MAX_WINDOW reports) sum
is_sum_last reports sum h = record {
  window = h.window;
  total = h.total ∙ sym (ap (λ ys. sum_by (value_of sum.of.measure) ys) (last-last sum.of.window MAX_WINDOW reports h.window.1));
  octets = All-drop (λ r. value_of sum.of.measure r ≤ 255) (length reports - MAX_WINDOW) reports h.octets;
}

pub are_sums_last : (reports : List Report) (sums : Sums) → AreSums reports sums → AreSums (last MAX_WINDOW reports) sums
are_sums_last reports sums h = record {
  serving_level = is_sum_last reports sums.serving_level h.serving_level;
  serving_quality = is_sum_last reports sums.serving_quality h.serving_quality;
  bad_quality = is_sum_last reports sums.bad_quality h.bad_quality;
}

-- sums of the same as those of the settings
pub are_of_same : (s : Settings) (before after : Sums) → AreOf s before → AreOfSame before after → AreOf s after
are_of_same s before after h same = record {
  serving_level = same.serving_level ∙ h.serving_level;
  serving_quality = same.serving_quality ∙ h.serving_quality;
  bad_quality = same.bad_quality ∙ h.bad_quality;
}
