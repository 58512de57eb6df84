-- SPDX-License-Identifier: MIT OR Apache-2.0
use Rattle.controller.proofs.Prelude.{◌≤◌, None, sym, subst, ap, ◌∙◌}
use Rattle.std.specs.Option.{option_copied}
use Rattle.conn_rules.specs.Table.{row_of, serving_after}
use Rattle.controller.proofs.Cells.{serves_a_cell}
use Rattle.controller.proofs.Inputs.{needs_no_offer}
use Rattle.controller.proofs.controller.Controller.offer_for.Goals as goal

pub returns-then-not-may_begin-clause-row : goal.returns-then-not-may_begin-clause-row
returns-then-not-may_begin-clause-row c = λ e found. sym (needs_no_offer e.connection c.args.input.now _ (sym c.may_begin.ensures ∙ c.if-not-may_begin.true))

pub assignment_offer-requires : goal.assignment_offer-requires
assignment_offer-requires c =
    subst (λ channel. 1 ≤ channel.station) (sym (c.serving_after-serving.ensures ∙ ap (λ s. serving_after s (row_of s c.args.input.now None)) c.connection.ensures))
    (serves_a_cell c.self.inside.connections.settings c.in_ok-entry.entry.now c.args.input.now (c.get.ensures.kept c.in_ok-entry.entry.now (ap (λ o. option_copied o) c.in_ok-entry.was))).0
