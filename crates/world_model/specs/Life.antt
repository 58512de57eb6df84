-- SPDX-License-Identifier: MIT OR Apache-2.0
-- The world after any list of events.
use Rattle.std.specs.Prelude.{◌+◌, min, if◌then◌else◌, is_some, unwrap_or, List, fold}
use Rattle.std.specs.Prelude.{Option}
use Rattle.settings.specs.Parameters.{Parameters}
use Rattle.world_model.specs.declared.event.Event.{Event}
use Rattle.world_model.specs.declared.event.Event.TheVariants.{Upper, Connect, AirUp, AirAck}
use Rattle.world_model.specs.declared.event.Event.TheVariants.{AirDown, AirDownLost, Move, Touch}
use Rattle.world_model.specs.declared.event.Event.TheVariants.{Arrive, Return, BaseTakes, BasePush}
use Rattle.world_model.specs.declared.event.Event.TheVariants.{Handle, SwitchTakes, SwitchDoes}
use Rattle.world_model.specs.declared.event.Event.TheVariants.{Tick, BaseDown, Report}
use Rattle.world_model.specs.declared.limits.TheConstants.{MAX_NOT_TAKEN}
use Rattle.world_model.specs.Mobiles.{after_upper, after_connecting, after_air_up, after_air_ack}
use Rattle.world_model.specs.Mobiles.{after_air_down, after_air_down_lost, after_move, after_touch}
use Rattle.world_model.specs.Mobiles.{after_arriving, after_return, after_report}
use Rattle.world_model.specs.Relay.{after_base_push, after_handle, after_tick, after_break}
use Rattle.world_model.specs.Stations.{after_base_takes}
use Rattle.world_model.specs.SwitchSide.{after_switch_takes, after_switch_does}
use Rattle.world_model.specs.World.{Actors, World, new_world}

-- the actors after an event; None if the actor of the event can't take the event
unfoldable pub event_after : Actors → Event → Option Actors
event_after w (Upper mobile sapi message) = after_upper w mobile sapi message
event_after w (Connect mobile station initial accepts) =
    after_connecting w mobile station initial accepts
event_after w (AirUp mobile sapi) = after_air_up w mobile sapi
event_after w (AirAck mobile sapi) = after_air_ack w mobile sapi
event_after w (AirDown mobile) = after_air_down w mobile
event_after w (AirDownLost mobile) = after_air_down_lost w mobile
event_after w (Move mobile) = after_move w mobile
event_after w (Touch mobile) = after_touch w mobile
event_after w (Arrive mobile) = after_arriving w mobile
event_after w (Return mobile) = after_return w mobile
event_after w (BaseTakes station) = after_base_takes w station
event_after w (BasePush source) = after_base_push w source
event_after w Handle = after_handle w
event_after w SwitchTakes = after_switch_takes w
event_after w (SwitchDoes action) = after_switch_does w action
event_after w (Tick ms) = after_tick w ms
event_after w (BaseDown source) = after_break w source
event_after w (Report mobile report) = after_report w mobile report

-- the actors after an event; unchanged if the event isn't taken
abbrev pub actors_after : Actors → Event → Actors
actors_after w event = unwrap_or (event_after w event) w

-- the world after an event: an event that isn't taken is counted
abbrev pub after : World → Event → World
after w event = record {
  actors = actors_after w.actors event;
  not_taken =
      if is_some (event_after w.actors event) then w.not_taken
      else min (w.not_taken + 1) MAX_NOT_TAKEN;
}

-- the actors after these events, one after the other
abbrev pub actors_after_all : Actors → List Event → Actors
actors_after_all w events = fold actors_after w events

abbrev pub world_after : Parameters → List Event → World
world_after settings events = fold after (new_world settings) events
