-- SPDX-License-Identifier: MIT OR Apache-2.0
use Rattle.std.proofs.Common.{◌≡◌, List, None, find, sym, subst, ◌∙◌}
use Rattle.controller_model.specs.Controller.{Entry, has_number}
use Rattle.connections.specs.Index.{listed}
use Rattle.connections.specs.Steps.{all_with_report}
use Rattle.connections.proofs.Indexed.{find_none}
use Rattle.connections.proofs.Settled.{no_report, report_index, report_list}
use Rattle.connections.proofs.Vacant.{vacant_changed}
use Rattle.connections.proofs.table.Table.add.Goals as goal

pub invariant_of-self : goal.invariant_of-self
invariant_of-self c = record {
  index = report_index c.self.inside.slots.slots c.add_at.new.slots.slots c.self.inside.index.entries c.args.number c.in-Some.key c.args.report.now c.args.report_number
      c.self.invariant.index (sym c.in-Some.ensures) c.add_at.ensures.slot.others c.add_at.ensures.slot.changed;
  others = vacant_changed c.self.inside.slots.slots c.add_at.new.slots.slots c.self.inside.index.entries c.args.number c.in-Some.key (sym c.in-Some.ensures) c.add_at.ensures.slot.others c.self.invariant.others;
}

pub returns-in-Some : goal.returns-in-Some
returns-in-Some c =
    subst (λ (es : List Entry). listed c.add_at.new.slots.slots c.self.inside.index.entries ≡ all_with_report c.args.report_number c.args.report.now (find (has_number c.args.number) es) es) c.self.view_is
    (report_list c.self.inside.slots.slots c.add_at.new.slots.slots c.self.inside.index.entries c.args.number c.in-Some.key c.args.report.now c.args.report_number
    c.self.invariant.index (sym c.in-Some.ensures) c.add_at.ensures.slot.others c.add_at.ensures.slot.changed)

pub returns-in_default : goal.returns-in_default
returns-in_default c =
    no_report c.args.number c.args.report.now c.args.report_number c.args.self.now
    (subst (λ (es : List Entry). find (has_number c.args.number) es ≡ None) c.self.view_is
    (find_none c.self.inside.slots.slots c.self.inside.index.entries c.args.number c.self.invariant.index (sym c.key_of.ensures ∙ c.in_default.is)))
