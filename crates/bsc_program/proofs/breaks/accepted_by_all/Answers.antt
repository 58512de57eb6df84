-- SPDX-License-Identifier: MIT OR Apache-2.0
use Rattle.std.proofs.Common.{◌+◌, length, rules, sym}
use Rattle.world.specs.Views.{accepted_list}
use Rattle.bsc_program.proofs.Counting.{below_all, below_end, below_more, below_none}
use Rattle.bsc_program.proofs.breaks.accepted_by_all.Goals as goal

pub loop-connection-init : goal.loop-connection-init
loop-connection-init c = below_none (accepted_list c.args.world.now.scene)

pub loop-connection-preserved : goal.loop-connection-preserved
loop-connection-preserved c =
    below_more (accepted_list c.args.world.now.scene) c.loop-connection.connection c.loop-connection.count c.in-Some.accepted.now c.loop-connection.invariant c.loop-connection-test.true (sym c.in-Some.ensures) (search rules)

pub returns-in_default : goal.returns-in_default
returns-in_default c =
    below_end (accepted_list c.args.world.now.scene) c.loop-connection.connection c.loop-connection.count c.loop-connection.invariant c.loop-connection-test.true (sym c.in_default.ensures)

pub returns-in-Some : goal.returns-in-Some
returns-in-Some c =
    below_all (accepted_list c.args.world.now.scene) (c.loop-connection.connection + 1) (c.loop-connection.count + length c.in-Some.accepted.now)
    (below_more (accepted_list c.args.world.now.scene) c.loop-connection.connection c.loop-connection.count c.in-Some.accepted.now c.loop-connection.invariant c.loop-connection-test.true (sym c.in-Some.ensures) (search rules)) (search rules)
