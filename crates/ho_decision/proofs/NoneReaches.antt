-- SPDX-License-Identifier: MIT OR Apache-2.0
-- A cell's level in a report is at most the greatest level there. An average is below a level if
-- the values add up to less than the level times their count.
use Rattle.std.proofs.Common.{ℕ, ◌*◌, ◌<◌, ◌≤◌, Bool, Option, Some, option_map, unwrap_or, cond, find, List, [], ◌∷◌, length, sum_by, arith, sym, ap, subst, inl, inr}
use Rattle.std.specs.List.{All}
use Rattle.std.proofs.lemmas.Bool.{cases_Bool}
use Rattle.std.proofs.lemmas.List.Elements.{All-head, All-tail}
use Rattle.std.proofs.Math.Nat.{div-lt_iff_lt-mul}
use Rattle.dtap_codec.specs.declared.report.Neighbour.{Neighbour}
use Rattle.dtap_codec.specs.declared.report.Report.{Report}
use Rattle.ho_decision.specs.Average.{average, last}
use Rattle.ho_decision.proofs.Window.{length-last}

-- the level that was found, 0 where none was
abbrev level_of : Option Neighbour → ℕ
level_of o = unwrap_or (option_map (λ (n : Neighbour). n.rxlev) o) 0

pub found_at_most : (p : Neighbour → Bool) (most : ℕ) (ns : List Neighbour) →
    All (λ (n : Neighbour). n.rxlev ≤ most) ns →
    level_of (find p ns) ≤ most
found_at_most p most [] all = omega arith
found_at_most p most (n ∷ ns) all =
    let P : Option Neighbour → Type 0 = λ o. level_of o ≤ most in
    let Q : Neighbour → Type 0 = λ m. m.rxlev ≤ most in
    elim (cases_Bool (p n)) [
      | inl is ↦ subst P (sym (ap (λ b. cond b (Some n) (find p ns)) is)) (All-head Q n ns all)
      | inr other ↦ subst P (sym (ap (λ b. cond b (Some n) (find p ns)) other)) (found_at_most p most ns (All-tail Q n ns all))
    ]

-- over one report at least
pub average_of_less : (value : Report → ℕ) (w level : ℕ) (reports : List Report) →
    1 ≤ w →
    0 < length reports →
    sum_by value (last w reports) < level * length (last w reports) →
    average value w reports < level
average_of_less value w level reports wide some less =
    let many : 0 < length (last w reports) = omega (arith, length-last w reports, wide, some) in
    (div-lt_iff_lt-mul many).1 less
