-- SPDX-License-Identifier: MIT OR Apache-2.0
-- Events that are known to give the same result before and after the break of a link.
use Rattle.std.specs.Prelude.{◌≡◌, ℕ, ◌==◌, ◌&&◌, not, nat_lt, Bool, true, false, length, Option}
use Rattle.std.specs.Prelude.{Some, option_map}
use Rattle.conn_messages.specs.declared.parameters.TheConstants.{SWITCH_LINK}
use Rattle.world_model.specs.declared.event.Event.{Event}
use Rattle.world_model.specs.declared.event.Event.TheVariants.{Upper, Connect, AirUp, AirAck}
use Rattle.world_model.specs.declared.event.Event.TheVariants.{AirDown, AirDownLost, Move, Touch}
use Rattle.world_model.specs.declared.event.Event.TheVariants.{Arrive, Return, BaseTakes, Handle}
use Rattle.world_model.specs.declared.event.Event.TheVariants.{SwitchTakes, SwitchDoes, Tick}
use Rattle.world_model.specs.declared.event.Event.TheVariants.{BaseDown, Report}
use Rattle.world_model.specs.declared.seat.Seat.{Seat}
use Rattle.world_model.specs.declared.seat.Seat.TheVariants.{On, Moving}
use Rattle.world_model.specs.World.{Actors, is_up, mobile_of}
use Rattle.world.specs.declared.world.Scene.{Scene}
use Rattle.world.specs.declared.world.Scene.TheVariants.{Fixed, Controlled}
use Rattle.world.specs.World.{after}
use Rattle.world.specs.WorldState.{WorldState}

-- whether no channel of this seat is of the source
abbrev pub is_off : ℕ → Option Seat → Bool
is_off source (Some (On tenure command)) = not (tenure.at.station == source)
is_off source (Some (Moving from command)) =
    not (from.at.station == source) && not (command.target.at.station == source)
is_off source _ = true

abbrev pub sits_off : ℕ → Actors → ℕ → Bool
sits_off source w mobile = is_off source (option_map (λ p. p.seat) (mobile_of w mobile))

-- Whether the event isn't one of the source and appends no item to the inbox. A `Handle` counts
-- only if the inbox isn't empty: it then handles an item that waited before the break.
abbrev pub is_beside : Actors → Event → ℕ → Bool
is_beside w (Upper mobile sapi message) source = true
is_beside w (Connect mobile station initial accepts) source = not (station == source)
is_beside w (AirUp mobile sapi) source = sits_off source w mobile
is_beside w (AirAck mobile sapi) source = sits_off source w mobile
is_beside w (AirDown mobile) source = sits_off source w mobile
is_beside w (AirDownLost mobile) source = sits_off source w mobile
is_beside w (Move mobile) source = sits_off source w mobile
is_beside w (Touch mobile) source = sits_off source w mobile
is_beside w (Arrive mobile) source = sits_off source w mobile
is_beside w (Return mobile) source = sits_off source w mobile
is_beside w (Report mobile report) source = sits_off source w mobile
is_beside w (BaseTakes station) source = not (station == source)
is_beside w Handle source = nat_lt 0 (length w.inbox)
is_beside w SwitchTakes source = not (source == SWITCH_LINK)
is_beside w (SwitchDoes action) source = not (source == SWITCH_LINK)
is_beside w (Tick ms) source = true
is_beside w _ source = false

-- ---- in a world

abbrev pub is_up_in : Scene → ℕ → Bool
is_up_in (Fixed world) source = false
is_up_in (Controlled w) source = is_up w source

-- whether the link of the source is up and its break can change places with the event
abbrev pub is_up_and_beside : Scene → Event → ℕ → Bool
is_up_and_beside (Fixed world) event source = false
is_up_and_beside (Controlled w) event source = is_up w source && is_beside w event source

-- a break of the link before the event has the same result as one after it
abbrev pub MakesTheSame : WorldState → Event → ℕ → Type 0
MakesTheSame world event source =
    after (after world (BaseDown source)) event ≡ after (after world event) (BaseDown source)
