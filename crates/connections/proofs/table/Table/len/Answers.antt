-- SPDX-License-Identifier: MIT OR Apache-2.0
use Rattle.std.proofs.Common.{List, length, sym, ap, ◌∙◌}
use Rattle.controller_model.specs.Controller.{Entry}
use Rattle.connections.proofs.Indexed.{length-listed}
use Rattle.connections.proofs.table.Table.len.Goals as goal

pub returns : goal.returns
returns c =
    c.len.ensures
    ∙ sym (length-listed c.self.inside.slots.slots c.self.inside.index.entries c.self.invariant.index)
    ∙ ap (λ (es : List Entry). length es) c.self.view_is
