-- SPDX-License-Identifier: MIT OR Apache-2.0
use Rattle.controller.proofs.Prelude.{map, ap, ◌∙◌, ChannelState}
use Rattle.controller.proofs.Carrying.{break_done, down_ready, on_station, on_switch}
use Rattle.controller.proofs.controller.Controller.on_break.Goals as goal
use Rattle.controller.specs.contracts.controller.Controller.{the_view}
use Rattle.controller.specs.Many.{planned_for}
use Rattle.controller_model.specs.Controller.{freed_station}
use Rattle.std.specs.Prelude.{List}

pub carry_out-requires-clause-ready : goal.carry_out-requires-clause-ready
carry_out-requires-clause-ready c =
    down_ready c.args.source c.args.self.now c.take_down.new.self (map planned_for c.in_ok-planned.planned.items) c.in_ok-planned.ensures.rising c.in_ok-planned.ensures.planned c.take_down.ensures

pub returns-then-source-ne-SWITCH_LINK-clause-ok : goal.returns-then-source-ne-SWITCH_LINK-clause-ok
returns-then-source-ne-SWITCH_LINK-clause-ok c =
    on_station c.args.source c.args.self.now c.carry_out.new.self (the_view (record c.self.inside { channels = c.free_station.new.self })) c.args.outputs.now.outs c.carry_out.new.outputs.outs c.if-source-ne-SWITCH_LINK.true
    (break_done c.args.source c.args.self.now c.take_down.new.self c.carry_out.new.self (map planned_for c.in_ok-planned.planned.items) c.args.outputs.now.outs c.plan_with_room.new.outputs.outs c.carry_out.new.outputs.outs
    c.in_ok-planned.ensures.rising c.in_ok-planned.ensures.planned c.take_down.ensures c.plan_with_room.ensures.outs c.carry_out.ensures)
    (ap (λ (channels : List (List ChannelState)). the_view (record c.self.inside { channels = channels })) c.free_station.ensures ∙ ap (freed_station c.args.source) c.self.view_is)

pub returns-else-source-ne-SWITCH_LINK-clause-ok : goal.returns-else-source-ne-SWITCH_LINK-clause-ok
returns-else-source-ne-SWITCH_LINK-clause-ok c =
    on_switch c.args.source c.args.self.now c.carry_out.new.self c.args.outputs.now.outs c.carry_out.new.outputs.outs c.if-source-ne-SWITCH_LINK.false
    (break_done c.args.source c.args.self.now c.take_down.new.self c.carry_out.new.self (map planned_for c.in_ok-planned.planned.items) c.args.outputs.now.outs c.plan_with_room.new.outputs.outs c.carry_out.new.outputs.outs
    c.in_ok-planned.ensures.rising c.in_ok-planned.ensures.planned c.take_down.ensures c.plan_with_room.ensures.outs c.carry_out.ensures)
