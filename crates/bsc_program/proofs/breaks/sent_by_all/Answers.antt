-- SPDX-License-Identifier: MIT OR Apache-2.0
use Rattle.std.proofs.Common.{◌+◌, rules}
use Rattle.world.specs.Views.{sent_list}
use Rattle.bsc_program.proofs.Counting.{up_to_all, up_to_more, up_to_none}
use Rattle.bsc_program.proofs.breaks.sent_by_all.Goals as goal

pub loop-mobile-init : goal.loop-mobile-init
loop-mobile-init c = up_to_none (sent_list c.args.world.now.scene)

pub loop-mobile-preserved : goal.loop-mobile-preserved
loop-mobile-preserved c =
    up_to_more (sent_list c.args.world.now.scene) c.loop-mobile.mobile c.loop-mobile.count c.sent_by.result c.loop-mobile.invariant c.sent_by.ensures (search rules)

pub returns-2 : goal.returns-2
returns-2 c =
    up_to_all (sent_list c.args.world.now.scene) (c.loop-mobile.mobile + 1) (c.loop-mobile.count + c.sent_by.result)
    (up_to_more (sent_list c.args.world.now.scene) c.loop-mobile.mobile c.loop-mobile.count c.sent_by.result c.loop-mobile.invariant c.sent_by.ensures (search rules)) (search rules)
