-- SPDX-License-Identifier: MIT OR Apache-2.0
use Rattle.controller.proofs.Prelude.{◌≡◌, ◌++◌, find, refl, sym, subst, ap, ◌∙◌, AllByRecursion, ConnectionsState, IsBelow, Controller}
use Rattle.controller.proofs.Prelude.{Turn, entry_of, has_number}
use Rattle.connections.specs.Entries.{decision_with}
use Rattle.connections.specs.Steps.{all_with_report}
use Rattle.controller.specs.contracts.controller.Controller.{the_view}
use Rattle.controller.specs.Reporting.{decided_in}
use Rattle.controller.proofs.Measuring.{added, measured_there, report_remains_below}
use Rattle.controller_model.proofs.Entries.{number_of_found}
use Rattle.controller.proofs.controller.Controller.measure.Goals as goal

pub invariant_of-self : goal.invariant_of-self
invariant_of-self c = record {
  settings = ap (λ (cs : ConnectionsState). cs.settings) c.add.ensures ∙ c.self-2.invariant.settings;
  links = c.self-2.invariant.links;
  below =
      subst (λ (cs : ConnectionsState). AllByRecursion (IsBelow c.self-2.inside.next_number) cs.entries) (sym c.add.ensures)
      (report_remains_below c.self-2.inside.next_number c.args.connection c.args.number c.args.report.now c.self-2.inside.connections.entries c.self-2.invariant.below);
  numbers = c.self-2.invariant.numbers;
}

pub returns-clause-ok : goal.returns-clause-ok
returns-clause-ok c =
    let old = c.args.self.now in
    let decides : c.in_ok-decision.decision ≡ decision_with c.args.number c.args.report.now (entry_of old c.args.connection) =
    c.in_ok-decision.ensures.decision ∙ ap (λ (v : Controller). decision_with c.args.number c.args.report.now (entry_of v c.args.connection)) c.self.view_is in
    let same = c.self-2.view_is ∙ c.in_ok-follow_decision.ensures.ok.0 in
    let behind : added c.args.connection c.args.number c.args.report.now (decided_in c.in_ok-decision.decision old (entry_of old c.args.connection)) ≡ _ =
    ap (λ d. added c.args.connection c.args.number c.args.report.now (decided_in d old (entry_of old c.args.connection))) decides
    ∙ sym (measured_there c.args.connection c.args.number c.args.report.now old (entry_of old c.args.connection) c.requires.valid refl c.requires.there (number_of_found c.args.connection old.entries)) in (
      ap (λ (cs : ConnectionsState). record (the_view c.self-2.inside) { entries = cs.entries }) c.add.ensures
          ∙ ap (λ (v : Controller). record v { entries = all_with_report c.args.number c.args.report.now (find (has_number c.args.connection) v.entries) v.entries }) same
          ∙ ap (λ (t : Turn). t.next) behind,
      c.in_ok-follow_decision.ensures.ok.1 ∙ ap (λ (t : Turn). c.args.outputs.now.outs ++ t.outs) behind,
    )
