-- SPDX-License-Identifier: MIT OR Apache-2.0
use Rattle.std.proofs.Common.{sym, subst}
use Rattle.connections.specs.Entries.{AreKept}
use Rattle.connections.proofs.Rising.{all_aged_kept}
use Rattle.connections.proofs.connections.Connections.age.Goals as goal

pub invariant_of-self : goal.invariant_of-self
invariant_of-self c = subst (AreKept c.self.inside.cells) (sym c.age.ensures) (all_aged_kept c.self.inside.cells c.args.ms c.self.inside.table c.self.invariant)
