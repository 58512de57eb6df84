-- SPDX-License-Identifier: MIT OR Apache-2.0
-- The effect of each call of a mobile. A message of the flow gets its number when the upper layers
-- send it: the message at place k of the sent list carries k modulo m (TS 24.007 clause
-- 11.2.3.2.3). After a change of channel, the unacknowledged message is sent again with the same
-- number, after the control message of the new channel (TS 44.006 clause 5.4.3).
use Rattle.std.specs.Prelude.{ℕ, ◌%◌, Bool, true, false, ◌&&◌, Option, Some, None, Result}
use Rattle.std.specs.Prelude.{Ok, Err, List, [], ◌∷◌, ◌++◌, length, if◌then◌else◌}
use Rattle.octets.specs.Refusal.{first_refusal}
use Rattle.dtap_codec.specs.Message.{is_flow_message}
use Rattle.dtap_codec.specs.Number.{with_number}
use Rattle.dtap_codec.specs.declared.sapi.Sapi.{Sapi}
use Rattle.dtap_codec.specs.declared.sapi.Sapi.TheVariants.{Zero, Three}
use Rattle.link_model.specs.AirLink.{is_reached}
use Rattle.link_model.specs.declared.air_link.Air.TheVariants.{Empty}
use Rattle.mobile_end.specs.declared.fault.MobileFault.{MobileFault}
use Rattle.mobile_end.specs.declared.fault.MobileFault.TheVariants.{NotConnected, BadMessage}
use Rattle.mobile_end.specs.declared.mobile_end.Place.{Place}
use Rattle.mobile_end.specs.declared.mobile_end.Place.TheVariants.{OnChannel, Moving}
use Rattle.mobile_end.specs.declared.mobile_end.Stage.{Stage}
use Rattle.mobile_end.specs.declared.mobile_end.Stage.TheVariants.{New, Connected}
use Rattle.mobile_end.specs.DataLinkState.{DataLinkState}
use Rattle.mobile_end.specs.DataLink.{waits, lent_message, after_lending}
use Rattle.mobile_end.specs.DataLink.{after_acknowledgement, after_resume, after_repeat}
use Rattle.mobile_end.specs.Lawful.{is_initial, is_sendable}
use Rattle.mobile_end.specs.MobileState.{MobileState}

abbrev pub idle_link : DataLinkState
idle_link = record { waiting = []; air = Empty }

-- a mobile that isn't connected and has sent no message
abbrev pub new_mobile : ℕ → MobileState
new_mobile m =
    record {
      modulus = m;
      stage = New;
      place = OnChannel;
      sent = [];
      zero = idle_link;
      three = idle_link;
    }

-- the data link of a SAPI
abbrev pub link_of : MobileState → Sapi → DataLinkState
link_of mobile Zero = mobile.zero
link_of mobile Three = mobile.three

-- the mobile with `link` as the data link of this SAPI
abbrev pub with_link : MobileState → Sapi → DataLinkState → MobileState
with_link mobile Zero link = record mobile { zero = link }
with_link mobile Three link = record mobile { three = link }

-- the mobile once a message of the flow was appended to its sent list and waits on SAPI 0; the
-- waiting message carries its place in the list, modulo `modulus`
abbrev pub after_number : MobileState → List ℕ → MobileState
after_number mobile message =
    record mobile {
      sent = mobile.sent ++ message ∷ [];
      zero = waits mobile.zero (with_number (length mobile.sent % mobile.modulus) message);
    }

-- the mobile after a message of the upper layers is queued
abbrev pub after_queue : MobileState → Sapi → List ℕ → MobileState
after_queue mobile sapi message =
    if is_flow_message message
    then after_number mobile message
    else with_link mobile sapi (waits (link_of mobile sapi) message)

abbrev pub connected_mobile : MobileState → MobileState
connected_mobile mobile = record mobile { stage = Connected }

-- the mobile after `connect`: the initial message, if there is one, waits on SAPI 0
abbrev pub after_connect : MobileState → Option (List ℕ) → MobileState
after_connect mobile None = connected_mobile mobile
after_connect mobile (Some initial) = connected_mobile (after_queue mobile Zero initial)

abbrev pub refusal_of_connect : Option (List ℕ) → Option MobileFault
refusal_of_connect None = None
refusal_of_connect (Some initial) = if is_initial initial then None else Some BadMessage

abbrev pub refusal_before_connect : Stage → Option MobileFault
refusal_before_connect New = Some NotConnected
refusal_before_connect Connected = None

abbrev pub refusal_of_send : MobileState → Sapi → List ℕ → Option MobileFault
refusal_of_send mobile sapi message =
    first_refusal (refusal_before_connect mobile.stage)
    (if is_sendable sapi message then None else Some BadMessage)

abbrev pub frame_answer_at : Stage → Place → Option (List ℕ) → Result (Option (List ℕ)) MobileFault
frame_answer_at New place message = Err NotConnected
frame_answer_at Connected Moving message = Ok None
frame_answer_at Connected OnChannel message = Ok message

-- the answer of `frame`: NotConnected before `connect`, None between two channels, else the message
-- that the station can take, if there is one
abbrev pub frame_answer : MobileState → Sapi → Result (Option (List ℕ)) MobileFault
frame_answer mobile sapi =
    frame_answer_at mobile.stage mobile.place (lent_message (link_of mobile sapi))

abbrev pub after_frame_at : Stage → Place → MobileState → Sapi → MobileState
after_frame_at Connected OnChannel mobile sapi =
    with_link mobile sapi (after_lending (link_of mobile sapi))
after_frame_at _ _ mobile sapi = mobile

-- the mobile after `frame`
abbrev pub after_frame : MobileState → Sapi → MobileState
after_frame mobile sapi = after_frame_at mobile.stage mobile.place mobile sapi

abbrev pub is_on_channel : Place → Bool
is_on_channel OnChannel = true
is_on_channel Moving = false

abbrev pub is_acknowledged : MobileState → Sapi → Bool
is_acknowledged mobile sapi = is_on_channel mobile.place && is_reached (link_of mobile sapi).air

abbrev pub after_acked_at : Place → MobileState → Sapi → MobileState
after_acked_at OnChannel mobile sapi =
    with_link mobile sapi (after_acknowledgement (link_of mobile sapi))
after_acked_at Moving mobile sapi = mobile

-- the mobile after `acked`
abbrev pub after_acked : MobileState → Sapi → MobileState
after_acked mobile sapi = after_acked_at mobile.place mobile sapi

-- the mobile after `leave`
abbrev pub after_leave : MobileState → MobileState
after_leave mobile = record mobile { place = Moving }

-- The mobile after `arrive` or `give_up`: on SAPI 0, the control message is sent first on the
-- channel, then the messages that aren't acknowledged.
abbrev pub after_arrival : MobileState → List ℕ → MobileState
after_arrival mobile control =
    record mobile {
      place = OnChannel;
      zero = after_resume mobile.zero control;
      three = after_repeat mobile.three;
    }
