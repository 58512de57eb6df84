-- SPDX-License-Identifier: MIT OR Apache-2.0
use Rattle.std.proofs.Common.{sym, subst}
use Rattle.controller_model.specs.Controller.{Entry}
use Rattle.connections.specs.Entries.{IsKept}
use Rattle.connections.proofs.Kept.{step_serves}
use Rattle.connections.proofs.entry.Entry.step.Goals as goal

pub follow-requires-clause-channel : goal.follow-requires-clause-channel
follow-requires-clause-channel c =
    let before : Entry = record { connection = c.self.inside.conn; averages = c.self.inside.averages } in
    step_serves c.args.cells.now before c.args.input c.args.offer c.in_ok-fits.fits c.step.new.self _ _
    (subst (λ (e : Entry). IsKept c.args.cells.now e) (sym c.self.view_is) c.requires.kept) c.requires.offer c.in_ok-fits.ensures.done
