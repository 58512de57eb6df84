-- SPDX-License-Identifier: MIT OR Apache-2.0
use Rattle.connections.proofs.Rising.{commits_kept, find_kept}
use Rattle.connections.proofs.connections.Connections.commit.Goals as goal

pub commit-requires-clause-kept : goal.commit-requires-clause-kept
commit-requires-clause-kept c = find_kept c.self.inside.cells c.args.number c.self.inside.table c.self.invariant

pub invariant_of-self : goal.invariant_of-self
invariant_of-self c = commits_kept c.self.inside.cells c.args.number c.args.plan.input c.self.inside.table c.commit.new.self c.commit.result.outs c.self.invariant c.commit.ensures
