-- SPDX-License-Identifier: MIT OR Apache-2.0
use Rattle.std.proofs.Common.{rules, subst, ◌+◌}
use Rattle.bsc_program.specs.Report.{WritesIfSome, connection_text}
use Rattle.bsc_program.proofs.Reporting.{connections_more, connections_none, lists_all, lists_to}
use Rattle.bsc_program.proofs.report.write_each_connection.Goals as goal

pub loop-connection-init : goal.loop-connection-init
loop-connection-init g c = connections_none c.args.world.now.scene (g.W.Write.contents c.args.output.now)

pub loop-connection-preserved : goal.loop-connection-preserved
loop-connection-preserved g c =
    connections_more c.args.world.now.scene c.loop-connection.connection (g.W.Write.contents c.args.output.now) (g.W.Write.contents c.loop-connection.output) (g.W.Write.contents c.write_connection.new.output)
    c.loop-connection.invariant (subst (λ b. WritesIfSome b (connection_text c.args.world.now.scene c.loop-connection.connection) (g.W.Write.contents c.loop-connection.output) (g.W.Write.contents c.write_connection.new.output)) c.if-not-branch.false c.in_ok-write_connection.ensures.ok)

pub returns-then-not-branch-clause-ok : goal.returns-then-not-branch-clause-ok
returns-then-not-branch-clause-ok g c =
    let scene = c.args.world.now.scene in
    let mid = g.W.Write.contents c.loop-connection.output in
    let new = g.W.Write.contents c.write_connection.new.output in
    let next = c.loop-connection.connection in
    lists_to scene next (g.W.Write.contents c.args.output.now) mid new c.loop-connection.invariant c.loop-connection-test.true
    (subst (λ b. WritesIfSome b (connection_text scene next) mid new) c.if-not-branch.true c.in_ok-write_connection.ensures.ok)

pub returns-else-not-branch-clause-ok : goal.returns-else-not-branch-clause-ok
returns-else-not-branch-clause-ok g c =
    let scene = c.args.world.now.scene in
    let old = g.W.Write.contents c.args.output.now in
    let mid = g.W.Write.contents c.loop-connection.output in
    let new = g.W.Write.contents c.write_connection.new.output in
    let next = c.loop-connection.connection in
    lists_all scene (next + 1) old new
    (connections_more scene next old mid new c.loop-connection.invariant
    (subst (λ b. WritesIfSome b (connection_text scene next) mid new) c.if-not-branch.false c.in_ok-write_connection.ensures.ok))
    (search rules)
