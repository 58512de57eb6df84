-- SPDX-License-Identifier: MIT OR Apache-2.0
use Rattle.std.proofs.Common.{sym, subst}
use Rattle.connections.specs.Entries.{AreKept}
use Rattle.connections.proofs.Rising.{reports_kept}
use Rattle.connections.proofs.connections.Connections.add.Goals as goal

pub invariant_of-self : goal.invariant_of-self
invariant_of-self c = subst (AreKept c.self.inside.cells) (sym c.add.ensures) (reports_kept c.self.inside.cells c.args.number c.args.report_number c.args.report.now c.self.inside.table c.self.invariant)
