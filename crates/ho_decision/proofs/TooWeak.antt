-- SPDX-License-Identifier: MIT OR Apache-2.0
-- A cell's level is at most the bound for its frequency. If all levels are below a value, their
-- average is.
use Rattle.std.proofs.Common.{◌≡◌, ℕ, ◌-◌, ◌<◌, ◌≤◌, ◌==◌, ◌&&◌, Bool, true, false, Option, Some, option_map, unwrap_or, cond, find, List, [], ◌∷◌, length, slice_index, arith, sym, ap, subst, refl, inl, inr}
use Rattle.std.specs.List.{All}
use Rattle.std.proofs.lemmas.Bool.{cases_Bool, eqb-true}
use Rattle.std.proofs.lemmas.List.Elements.{All-head, All-tail, All-drop, All-weaker}
use Rattle.std.proofs.lemmas.List.Sums.{sum_by-le}
use Rattle.std.proofs.Math.Nat.{div-le_of_le-mul}
use Rattle.dtap_codec.specs.declared.report.Neighbour.{Neighbour}
use Rattle.dtap_codec.specs.declared.report.Report.{Report}
use Rattle.dtap_codec.specs.Report.{neighbours_of}
use Rattle.ho_decision.specs.Average.{average, last}
use Rattle.ho_decision.specs.Heard.{IsWithin}
use Rattle.ho_decision.specs.Measure.{names_at, level_at}

-- the level that was found, 0 where none was
abbrev level_of : Option Neighbour → ℕ
level_of o = unwrap_or (option_map (λ (n : Neighbour). n.rxlev) o) 0

both_true : (a b : Bool) → (a && b) ≡ true → a ≡ true
both_true true b e = refl
both_true false b e = absurd cc

-- an entry that names a cell is of its frequency
of_frequency : (place bsic : ℕ) (n : Neighbour) → names_at (Some place) bsic n ≡ true → n.bcch_freq ≡ place
of_frequency place bsic n named = eqb-true n.bcch_freq place (both_true (n.bcch_freq == place) (n.bsic == bsic) named)

found_within : (place bsic : ℕ) (greatest : List ℕ) (ns : List Neighbour) →
    All (IsWithin greatest) ns →
    level_of (find (names_at (Some place) bsic) ns) ≤ slice_index greatest place
found_within place bsic greatest [] within = omega arith
found_within place bsic greatest (n ∷ ns) within =
    let P : Option Neighbour → Type 0 = λ o. level_of o ≤ slice_index greatest place in
    elim (cases_Bool (names_at (Some place) bsic n)) [
      | inl named ↦
          subst P (sym (ap (λ b. cond b (Some n) (find (names_at (Some place) bsic) ns)) named))
          (subst (λ (k : ℕ). n.rxlev ≤ slice_index greatest k) (of_frequency place bsic n named) (All-head (IsWithin greatest) n ns within))
      | inr other ↦
          subst P (sym (ap (λ b. cond b (Some n) (find (names_at (Some place) bsic) ns)) other))
          (found_within place bsic greatest ns (All-tail (IsWithin greatest) n ns within))
    ]

pub level_within : (place bsic : ℕ) (greatest : List ℕ) (r : Report) →
    All (IsWithin greatest) (neighbours_of r) →
    level_at (Some place) bsic r ≤ slice_index greatest place
level_within place bsic greatest r within = found_within place bsic greatest (neighbours_of r) within

-- the average of values that are all below a level, over one report at least
pub average_below : (value : Report → ℕ) (w level : ℕ) (reports : List Report) →
    0 < length reports →
    All (λ r. value r < level) reports →
    average value w reports < level
average_below value w level (r ∷ rs) some below =
    let first : value r < level = All-head (λ x. value x < level) r rs below in
    let most : All (λ x. value x ≤ level - 1) (r ∷ rs) = All-weaker (λ x. value x < level) (λ x. value x ≤ level - 1) (λ x h. omega (arith, h)) (r ∷ rs) below in
    let sum = sum_by-le value (level - 1) (last w (r ∷ rs)) (All-drop (λ x. value x ≤ level - 1) (length (r ∷ rs) - w) (r ∷ rs) most) in
    let cut = div-le_of_le-mul (length (last w (r ∷ rs))) sum in
    omega arith
average_below value w level [] some below = absurd (omega arith)
