-- SPDX-License-Identifier: MIT OR Apache-2.0
use Rattle.std.proofs.Common.{rules, ◌+◌}
use Rattle.bsc_program.proofs.Reporting.{mobiles_all, mobiles_more, mobiles_none}
use Rattle.bsc_program.proofs.report.write_each_mobile.Goals as goal

pub loop-mobile-init : goal.loop-mobile-init
loop-mobile-init g c = mobiles_none c.args.world.now.scene (g.W.Write.contents c.args.output.now)

pub loop-mobile-preserved : goal.loop-mobile-preserved
loop-mobile-preserved g c =
    mobiles_more c.args.world.now.scene c.loop-mobile.mobile (g.W.Write.contents c.args.output.now) (g.W.Write.contents c.loop-mobile.output) (g.W.Write.contents c.write_mobile.new.output)
    c.loop-mobile.invariant c.in_ok-write_mobile.ensures.ok

pub returns-in_ok-write_mobile-clause-ok : goal.returns-in_ok-write_mobile-clause-ok
returns-in_ok-write_mobile-clause-ok g c =
    let scene = c.args.world.now.scene in
    let old = g.W.Write.contents c.args.output.now in
    let mid = g.W.Write.contents c.loop-mobile.output in
    let new = g.W.Write.contents c.write_mobile.new.output in
    let next = c.loop-mobile.mobile in
    mobiles_all scene (next + 1) old new (mobiles_more scene next old mid new c.loop-mobile.invariant c.in_ok-write_mobile.ensures.ok) (search rules)
