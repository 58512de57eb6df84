-- SPDX-License-Identifier: MIT OR Apache-2.0
-- The sums over the reports that are kept, with one more.
use Rattle.std.proofs.Common.{◌≡◌, ◌-◌, List, [], ◌∷◌, ◌++◌, length, drop, sym, ap, ◌∙◌, subst}
use Rattle.circular_buffer.specs.Buffer.{Buffer}
use Rattle.dtap_codec.specs.declared.report.Report.{Report}
use Rattle.ho_decision.specs.declared.settings.TheConstants.{MAX_WINDOW}
use Rattle.ho_decision.specs.Average.{last}
use Rattle.ho_decision.specs.Sums.{AreSums}
use Rattle.ho_decision.proofs.Window.{are_of_same, are_sums_last}
use Rattle.ho_decision.proofs.averages.Averages.add.Goals as goal

pub invariant_of-self : goal.invariant_of-self
invariant_of-self c =
    let full = c.self.invariant.0 in
    let all : List Report = c.self.inside.reports.items ++ c.args.report.now ∷ [] in
    let kept : c.push_back.new.self.items ≡ last MAX_WINDOW all = ap (λ (b : Buffer Report). b.items) c.push_back.ensures.items ∙ ap (λ n. drop (length all - n) all) full in
    let P : List Report → Type 0 = λ rs. AreSums rs c.add.new.self in (
      ap (λ (b : Buffer Report). b.capacity) c.push_back.ensures.items ∙ full,
      c.self.invariant.1,
      are_of_same c.self.inside.settings.value c.self.inside.sums c.add.new.self c.self.invariant.2 c.add.ensures.of,
      subst P (sym kept) (are_sums_last all c.add.new.self c.add.ensures.sums),
    )
