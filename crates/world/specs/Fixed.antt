-- SPDX-License-Identifier: MIT OR Apache-2.0
-- The fixed world after each event; None if the actor of the event can't take the event.
use Rattle.std.specs.Prelude.{ℕ, ◌==◌, Option, Some, None, Result, Ok}
use Rattle.std.specs.Prelude.{Err, List, [], ◌∷◌, ◌++◌, if◌then◌else◌}
use Rattle.dtap_codec.specs.declared.sapi.Sapi.{Sapi}
use Rattle.dtap_codec.specs.declared.sapi.Sapi.TheVariants.{Zero}
use Rattle.mobile_end.specs.declared.fault.MobileFault.{MobileFault}
use Rattle.mobile_end.specs.MobileState.{MobileState}
use Rattle.mobile_end.specs.Mobile.{new_mobile, connected_mobile, after_queue, refusal_of_send}
use Rattle.mobile_end.specs.Mobile.{frame_answer, after_frame, is_acknowledged, after_acked}
use Rattle.world_model.specs.declared.event.Event.{Event}
use Rattle.world_model.specs.declared.event.Event.TheVariants.{Upper, AirUp, AirAck, SwitchTakes}
use Rattle.world.specs.declared.fixed.TheConstants.{FIXED_MOBILE}
use Rattle.world.specs.FixedState.{FixedState}

-- the fixed world before any event: one mobile, connected without an initial message
abbrev pub fixed_beginning : ℕ → FixedState
fixed_beginning m =
    record {
      mobile = connected_mobile (new_mobile m);
      outbox = [];
      switch = record { modulus = m; taken = [] };
    }

abbrev pub with_mobile : FixedState → MobileState → FixedState
with_mobile world mobile = record { mobile = mobile; outbox = world.outbox; switch = world.switch }

-- the world `new`; None if the mobile refuses the message
abbrev pub unless_refused : Option MobileFault → FixedState → FixedState → Option FixedState
unless_refused (Some fault) old new = None
unless_refused None old new = Some new

abbrev pub after_upper : FixedState → Sapi → List ℕ → Option FixedState
after_upper world sapi message =
    unless_refused (refusal_of_send world.mobile sapi message) world
    (with_mobile world (after_queue world.mobile sapi message))

-- the frame that the station can take, if any
abbrev pub frame_in : Result (Option (List ℕ)) MobileFault → Option (List ℕ)
frame_in (Ok frame) = frame
frame_in (Err fault) = None

abbrev pub frame_up : FixedState → Option (List ℕ)
frame_up world = frame_in (frame_answer world.mobile Zero)

-- the world after the station takes a frame, which is appended to the switch's outbox
abbrev pub air_up_with : Option (List ℕ) → FixedState → Option FixedState
air_up_with None world = None
air_up_with (Some frame) world =
    Some (record world {
      mobile = after_frame world.mobile Zero;
      outbox = world.outbox ++ frame ∷ [];
    })

abbrev pub after_air_up : FixedState → Option FixedState
after_air_up world = air_up_with (frame_up world) world

abbrev pub after_air_ack : FixedState → Option FixedState
after_air_ack world =
    if is_acknowledged world.mobile Zero
    then Some (with_mobile world (after_acked world.mobile Zero))
    else None

-- the world after the switch takes the first message of its outbox; None if the outbox is empty
abbrev pub after_taking : List (List ℕ) → FixedState → Option FixedState
after_taking [] world = None
after_taking (first ∷ others) world =
    Some (record {
      mobile = world.mobile;
      outbox = others;
      switch = record { modulus = world.switch.modulus; taken = world.switch.taken ++ first ∷ [] };
    })

abbrev pub after_switch_takes : FixedState → Option FixedState
after_switch_takes world = after_taking world.outbox world

abbrev pub where_fixed : {X : Type 0} → ℕ → Option X → Option X
where_fixed mobile next = if mobile == FIXED_MOBILE then next else None

-- The world after an event. Only these four kinds of events are taken, and events of a mobile only
-- if the mobile is number 1.
abbrev pub fixed_after : FixedState → Event → Option FixedState
fixed_after world (Upper mobile sapi message) = where_fixed mobile (after_upper world sapi message)
fixed_after world (AirUp mobile Zero) = where_fixed mobile (after_air_up world)
fixed_after world (AirAck mobile Zero) = where_fixed mobile (after_air_ack world)
fixed_after world SwitchTakes = after_switch_takes world
fixed_after world _ = None
