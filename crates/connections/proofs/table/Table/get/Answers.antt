-- SPDX-License-Identifier: MIT OR Apache-2.0
use Rattle.std.proofs.Common.{List, find, sym, ap, ◌∙◌}
use Rattle.controller_model.specs.Controller.{Entry, has_number}
use Rattle.connections.proofs.Indexed.{find_found, find_none}
use Rattle.connections.proofs.table.Table.get.Goals as goal

pub returns-in-Some : goal.returns-in-Some
returns-in-Some c =
    c.get.ensures
    ∙ sym (find_found c.self.inside.slots.slots c.self.inside.index.entries c.args.number c.in-Some.key c.self.invariant.index (sym c.in-Some.ensures))
    ∙ ap (λ (es : List Entry). find (has_number c.args.number) es) c.self.view_is

pub returns-in-None : goal.returns-in-None
returns-in-None c =
    sym (find_none c.self.inside.slots.slots c.self.inside.index.entries c.args.number c.self.invariant.index (sym c.in-None.ensures))
    ∙ ap (λ (es : List Entry). find (has_number c.args.number) es) c.self.view_is
