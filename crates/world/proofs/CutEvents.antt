-- SPDX-License-Identifier: MIT OR Apache-2.0
-- An event and the break of a link that is up: both orders have the same result.
use Rattle.std.proofs.Common.{◌≡◌, ℕ, true}
use Rattle.std.specs.Prelude.{option_map}
use Rattle.world_model.specs.declared.event.Event.{Event}
use Rattle.world_model.specs.declared.event.Event.TheVariants.{AirAck, AirDown, AirDownLost, AirUp, Arrive, BaseTakes, Connect, Handle}
use Rattle.world_model.specs.declared.event.Event.TheVariants.{Move, Report, Return, SwitchDoes, SwitchTakes, Tick, Touch, Upper}
use Rattle.world_model.specs.Life.{event_after}
use Rattle.world_model.specs.Mobiles.{hearing, ignored}
use Rattle.world_model.specs.World.{Actors}
use Rattle.world.specs.Beside.{is_beside}
use Rattle.world.proofs.Cut.{cut}
use Rattle.world.proofs.CutMobiles.{air_ack_beside, air_down_beside, air_up_beside, apart, upper_beside}
use Rattle.world.proofs.CutMoves.{arriving_beside, connecting_beside, move_beside, report_beside, return_beside, touch_beside}
use Rattle.world.proofs.CutRelay.{handle_beside, switch_does_beside, switch_takes_beside, tick_beside}
use Rattle.world.proofs.CutStations.{base_takes_beside}

pub event_beside : (source : ℕ) (w : Actors) (event : Event) → is_beside w event source ≡ true
    → event_after (cut source w) event ≡ option_map (cut source) (event_after w event)
unfolding event_after
event_beside source w (Upper mobile sapi message) is = upper_beside source w mobile sapi message
event_beside source w (AirUp mobile sapi) is = air_up_beside source w mobile sapi is
event_beside source w (AirAck mobile sapi) is = air_ack_beside source w mobile sapi is
event_beside source w (AirDown mobile) is = air_down_beside source w mobile hearing is
event_beside source w (AirDownLost mobile) is = air_down_beside source w mobile ignored is
event_beside source w (Connect mobile station initial accepts) is = connecting_beside source w mobile station initial accepts (apart station source is)
event_beside source w (Move mobile) is = move_beside source w mobile is
event_beside source w (Touch mobile) is = touch_beside source w mobile is
event_beside source w (Arrive mobile) is = arriving_beside source w mobile is
event_beside source w (Return mobile) is = return_beside source w mobile is
event_beside source w (Report mobile report) is = report_beside source w mobile report is
event_beside source w (BaseTakes station) is = base_takes_beside source w station (apart station source is)
event_beside source w Handle is = handle_beside source w is
event_beside source w SwitchTakes is = switch_takes_beside source w is
event_beside source w (SwitchDoes action) is = switch_does_beside source w action is
event_beside source w (Tick ms) is = tick_beside source w ms
event_beside source w _ is = absurd cc
