-- SPDX-License-Identifier: MIT OR Apache-2.0
use Rattle.std.proofs.Common.{sym, subst}
use Rattle.connections.specs.Entries.{IsOffer, ConnectionsState}
use Rattle.connections.proofs.Rising.{answer_kept, find_kept}
use Rattle.connections.proofs.connections.Connections.step.Goals as goal

pub step-requires-clause-kept : goal.step-requires-clause-kept
step-requires-clause-kept c = find_kept c.self.inside.cells c.args.number c.self.inside.table c.self.invariant

pub invariant_of-self : goal.invariant_of-self
invariant_of-self c =
    answer_kept c.self.inside.cells c.args.number c.args.input c.args.offer c.step.result c.self.inside.table c.step.new.self c.args.outputs.now.outs c.step.new.outputs.outs c.self.invariant
    (subst (λ (s : ConnectionsState). IsOffer s.settings c.args.offer) (sym c.self.view_is) c.requires.offer) c.step.ensures.done c.step.ensures.err
