-- SPDX-License-Identifier: MIT OR Apache-2.0
use Rattle.std.proofs.Common.{sym}
use Rattle.connections.proofs.Rising.{find_kept}
use Rattle.connections.proofs.connections.Connections.decide_with.Goals as goal

pub decide_with-requires : goal.decide_with-requires
decide_with-requires c = find_kept c.self.inside.cells c.args.number c.self.inside.table c.self.invariant _ (sym c.in-Some.ensures)
