-- SPDX-License-Identifier: MIT OR Apache-2.0
use Rattle.std.proofs.Common.{sym, subst}
use Rattle.std.specs.List.{AllByRecursion}
use Rattle.controller_model.specs.Controller.{Entry}
use Rattle.connections.specs.Entries.{ConnectionsState, IsBelow, IsOfCell}
use Rattle.connections.proofs.Rising.{push_kept}
use Rattle.connections.proofs.connections.Connections.open.Goals as goal

pub push-requires-clause-last : goal.push-requires-clause-last
push-requires-clause-last c =
    subst (λ (e : Entry). AllByRecursion (IsBelow e.connection.number) c.self.inside.table) (sym c.in_ok-entry.ensures)
    (subst (λ (s : ConnectionsState). AllByRecursion (IsBelow c.args.number) s.entries) (sym c.self.view_is) c.requires.last)

pub invariant_of-self : goal.invariant_of-self
invariant_of-self c =
    push_kept c.self.inside.cells c.in_ok-entry.entry c.push.result c.self.inside.table c.push.new.self c.args.number c.args.channel c.args.request c.args.delay c.in_ok-entry.ensures c.self.invariant
    (subst (λ (s : ConnectionsState). IsOfCell s.settings c.args.channel) (sym c.self.view_is) c.requires.channel)
    (subst (λ (s : ConnectionsState). AllByRecursion (IsBelow c.args.number) s.entries) (sym c.self.view_is) c.requires.last) c.push.ensures.ok c.push.ensures.err
