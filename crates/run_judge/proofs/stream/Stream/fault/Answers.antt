-- SPDX-License-Identifier: MIT OR Apache-2.0
use Rattle.std.proofs.Common.{◌≡◌, ◌∙◌, ap, subst}
use Rattle.run_judge.specs.Flow.{fault_by, fault_with, is_due, passed_before}
use Rattle.run_judge.specs.StreamState.{StreamState}
use Rattle.run_judge.proofs.Dues.{faulted}
use Rattle.run_judge.proofs.stream.Stream.fault.Goals as goal

pub returns : goal.returns
returns c =
    let P : StreamState → Type 0 = λ s. fault_with c.is_due-is_due.result c.passed_before-before.result c.args.passing.message c.args.passing.frame c.take_at.result ≡ fault_by c.args.passing.message c.args.passing.frame s in
    c.fault_of.ensures
    ∙ subst P c.self.view_is
    (faulted (record { due = c.self.inside.due.items; passed = c.self.inside.passed.items; reached = c.self.inside.reached }) c.standing_place-place.result c.is_due-is_due.result c.passed_before-before.result c.take_at.result
    c.args.passing.message c.args.passing.frame
    (c.is_due-is_due.ensures ∙ ap (λ l. is_due l c.self.inside.due.items) c.as_slice.ensures)
    (c.passed_before-before.ensures ∙ ap (λ l. passed_before l c.as_slice-2.result.now) c.as_slice-3.ensures ∙ ap (λ l. passed_before c.args.passing.message l) c.as_slice-2.ensures.value)
    c.standing_place-place.ensures c.take_at.ensures.first)
