-- SPDX-License-Identifier: MIT OR Apache-2.0
use Rattle.std.proofs.Common.{List, slice_get, sym, ap, ◌∙◌}
use Rattle.std.specs.Option.{option_and_then}
use Rattle.controller_model.specs.Controller.{Entry}
use Rattle.connections.specs.Index.{at}
use Rattle.connections.proofs.Indexed.{behind_key, get_listed}
use Rattle.connections.proofs.table.Table.at.Goals as goal

pub returns-in-Some : goal.returns-in-Some
returns-in-Some c =
    c.get.ensures
    ∙ ap (option_and_then (at c.self.inside.slots.slots)) c.in-Some.ensures
    ∙ behind_key c.self.inside.slots.slots (slice_get c.self.inside.index.entries c.args.place)
    ∙ sym (get_listed c.self.inside.slots.slots c.self.inside.index.entries c.args.place c.self.invariant.index)
    ∙ ap (λ (es : List Entry). slice_get es c.args.place) c.self.view_is

pub returns-in-None : goal.returns-in-None
returns-in-None c =
    ap (option_and_then (at c.self.inside.slots.slots)) c.in-None.ensures
    ∙ behind_key c.self.inside.slots.slots (slice_get c.self.inside.index.entries c.args.place)
    ∙ sym (get_listed c.self.inside.slots.slots c.self.inside.index.entries c.args.place c.self.invariant.index)
    ∙ ap (λ (es : List Entry). slice_get es c.args.place) c.self.view_is
