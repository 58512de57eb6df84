-- SPDX-License-Identifier: MIT OR Apache-2.0
-- The actors after each event of a mobile; None if the mobile can't take the event.
use Rattle.std.specs.Prelude.{ℕ, ◌+◌, ◌%◌, ◌==◌, ◌&&◌, nat_lt, Bool, true, false}
use Rattle.std.specs.Prelude.{if◌then◌else◌}
use Rattle.std.specs.Prelude.{List, [], ◌∷◌, ◌++◌, length, Option, Some, None, Result, Ok}
use Rattle.std.specs.Prelude.{Err}
use Rattle.std.specs.Option.{is_none, option_and_then}
use Rattle.conn_messages.specs.declared.causes.TheConstants.{NORMAL_EVENT}
use Rattle.conn_messages.specs.declared.channel.Change.{Change}
use Rattle.conn_messages.specs.declared.channel.Change.TheVariants.{Assignment, Handover}
use Rattle.conn_messages.specs.declared.channel.Place.{Place}
use Rattle.conn_rules.specs.Streams.{is_dtap}
use Rattle.dtap_codec.specs.declared.report.TheConstants.{REPORT_LENGTH}
use Rattle.dtap_codec.specs.declared.rr.RrMessage.{RrMessage}
use Rattle.dtap_codec.specs.declared.rr.RrMessage.TheVariants.{AssignmentCommand, HandoverCommand}
use Rattle.dtap_codec.specs.declared.rr.RrMessage.TheVariants.{AssignmentComplete, HandoverComplete}
use Rattle.dtap_codec.specs.declared.rr.RrMessage.TheVariants.{AssignmentFailure, HandoverFailure}
use Rattle.dtap_codec.specs.declared.rr.RrMessage.TheVariants.{ChannelRelease, MeasurementReport}
use Rattle.dtap_codec.specs.declared.rr_fault.RrFault.{RrFault}
use Rattle.dtap_codec.specs.declared.sapi.Sapi.{Sapi}
use Rattle.dtap_codec.specs.declared.sapi.Sapi.TheVariants.{Zero, Three}
use Rattle.dtap_codec.specs.RrReading.{rr_reading}
use Rattle.dtap_codec.specs.RrText.{rr_text}
use Rattle.link_model.specs.BaseState.{BaseState}
use Rattle.link_model.specs.Base.{after_tell, after_establish, after_up}
use Rattle.mobile_end.specs.declared.fault.MobileFault.{MobileFault}
use Rattle.mobile_end.specs.Mobile.{new_mobile, after_connect, refusal_of_connect, after_queue}
use Rattle.mobile_end.specs.Mobile.{refusal_of_send, frame_answer, after_frame, is_acknowledged}
use Rattle.mobile_end.specs.Mobile.{after_acked, after_leave, after_arrival}
use Rattle.rsl_codec.specs.declared.channel_number.TheConstants.{RACH}
use Rattle.rsl_codec.specs.declared.rsl.Rsl.{Rsl}
use Rattle.rsl_codec.specs.declared.rsl.Rsl.TheVariants.{ChannelRequired, HandoverDetection}
use Rattle.rsl_codec.specs.declared.rsl.Rsl.TheVariants.{MeasurementResult}
use Rattle.world_model.specs.declared.line.AirMessage.{AirMessage}
use Rattle.world_model.specs.declared.limits.TheConstants.{TIMER_EXPIRED}
use Rattle.world_model.specs.declared.seat.Command.{Command}
use Rattle.world_model.specs.declared.seat.Seat.{Seat}
use Rattle.world_model.specs.declared.seat.Seat.TheVariants.{Asking, On, Moving, Gone}
use Rattle.world_model.specs.declared.seat.Tenure.{Tenure}
use Rattle.world_model.specs.World.{Actors, Mobile, is_station_up, mobile_of, with_mobile, base_of}
use Rattle.world_model.specs.World.{with_base, spot_at, with_spot, is_reached}

abbrev pub only_if : Bool → Actors → Option Actors
only_if condition w = if condition then Some w else None

-- the actors after an act of the mobile with this number; None if no mobile has the number, or if
-- the act is None
abbrev pub by_mobile : Actors → ℕ → (Mobile → Option Actors) → Option Actors
by_mobile w number act = option_and_then act (mobile_of w number)

-- the actors after a station makes a message
abbrev pub with_message_made : ℕ → Rsl → Actors → Actors
with_message_made station message w = with_base station (after_tell (base_of w station) message) w

-- ---- the mobile's upper layers send: while the mobile is on a channel or between two channels

abbrev pub may_send : Seat → Bool
may_send (On tenure command) = true
may_send (Moving from command) = true
may_send _ = false

abbrev pub sent_by : Actors → Sapi → List ℕ → Mobile → Option Actors
sent_by w sapi message p =
    only_if (may_send p.seat && is_none (refusal_of_send p.end sapi message))
    (with_mobile (record p { end = after_queue p.end sapi message }) w)

abbrev pub after_upper : Actors → ℕ → Sapi → List ℕ → Option Actors
after_upper w number sapi message = by_mobile w number (sent_by w sapi message)

-- ---- a new mobile connects; mobiles are numbered from 1

-- the CHANNEL REQUIRED of the station: the access octet of the request is the mobile's number
abbrev pub channel_required : ℕ → Rsl
channel_required number =
    ChannelRequired (record {
      channel = RACH;
      reference = record { access = number; frame = 0 };
      access_delay = record { 0 = 0 };
    })

abbrev pub connected : ℕ → ℕ → List ℕ → Bool → Mobile
connected m number initial accepts = record {
  number = number;
  end = after_connect (new_mobile m) (Some initial);
  accepts_sapi_three = accepts;
  seat = Asking;
  opens = true;
  received = [];
}

abbrev pub is_new : Actors → ℕ → Bool
is_new w number = nat_lt 0 number && is_none (mobile_of w number)

abbrev pub after_connecting : Actors → ℕ → ℕ → List ℕ → Bool → Option Actors
after_connecting w number station initial accepts =
    only_if (is_new w number && is_station_up w station
    && is_none (refusal_of_connect (Some initial)))
    (with_message_made station (channel_required number) (record w {
      mobiles =
          w.mobiles ++ connected w.modulus number initial accepts ∷ [];
    }))

-- ---- the station takes the frame that the mobile has in the air

abbrev pub frame_in : Result (Option (List ℕ)) MobileFault → Option (List ℕ)
frame_in (Ok frame) = frame
frame_in (Err fault) = None

-- the station after a frame of SAPI 0: an ESTABLISH INDICATION brings the initial message, and a
-- DATA INDICATION brings any other
abbrev pub signalling_brought : BaseState → ℕ → Bool → List ℕ → BaseState
signalling_brought base channel true frame = after_establish base channel Zero (Some frame)
signalling_brought base channel false frame = after_up base channel Zero frame

-- the station after a frame of SAPI 3, in a DATA INDICATION: if the data link of SAPI 3 isn't up,
-- an ESTABLISH INDICATION comes before it
abbrev pub short_message_brought : BaseState → ℕ → Bool → List ℕ → BaseState
short_message_brought base channel true frame = after_up base channel Three frame
short_message_brought base channel false frame =
    after_up (after_establish base channel Three None) channel Three frame

abbrev pub framed : Mobile → Sapi → Mobile
framed p sapi = record p { end = after_frame p.end sapi }

abbrev pub brought : Actors → Mobile → Place → Sapi → List ℕ → Actors
brought w p at Zero frame =
    with_mobile (record (framed p Zero) { opens = false })
    (with_base at.station (signalling_brought (base_of w at.station) at.number p.opens frame) w)
brought w p at Three frame =
    with_mobile (framed p Three)
    (with_spot at (record (spot_at w at) { sapi_three_up = true })
    (with_base at.station (short_message_brought (base_of w at.station) at.number
    (spot_at w at).sapi_three_up frame) w))

abbrev pub brought_up : Actors → Sapi → Mobile → Seat → Option Actors
brought_up w sapi p (On tenure command) =
    option_and_then (λ frame. only_if (is_reached w tenure) (brought w p tenure.at sapi frame))
    (frame_in (frame_answer p.end sapi))
brought_up w sapi p _ = None

abbrev pub after_air_up : Actors → ℕ → Sapi → Option Actors
after_air_up w number sapi = by_mobile w number (λ p. brought_up w sapi p p.seat)

-- ---- the station acknowledges the frame that it took from the mobile

abbrev pub acknowledged : Actors → Sapi → Mobile → Seat → Option Actors
acknowledged w sapi p (On tenure command) =
    only_if (is_reached w tenure && is_acknowledged p.end sapi) (with_mobile (record p {
      end =
          after_acked p.end sapi;
    }) w)
acknowledged w sapi p _ = None

abbrev pub after_air_ack : Actors → ℕ → Sapi → Option Actors
after_air_ack w number sapi = by_mobile w number (λ p. acknowledged w sapi p p.seat)

-- ---- the mobile takes a message from the air, or the message is lost

abbrev pub remembering : Mobile → Change → Tenure → Seat → Mobile
remembering p change target (On tenure command) =
    record p { seat = On tenure (Some (record { change = change; target = target })) }
remembering p change target seat = p

-- The mobile after a message of radio resource management. The mobile remembers a command of the
-- controller, which has a target, but not a command that the switch wrote into a message. After a
-- CHANNEL RELEASE it is `Gone`.
abbrev pub controlled : Mobile → Option Tenure → Result RrMessage RrFault → Mobile
controlled p target (Ok (ChannelRelease cause)) = record p { seat = Gone }
controlled p (Some target) (Ok (AssignmentCommand channel)) = remembering p Assignment target p.seat
controlled p (Some target) (Ok (HandoverCommand cell channel reference)) =
    remembering p Handover target p.seat
controlled p target _ = p

-- the mobile after a message: it keeps DTAP as received; any other message is of radio resource
-- management
abbrev pub hearing : Mobile → AirMessage → Mobile
hearing p a =
    if is_dtap a.message then record p { received = p.received ++ a.message ∷ [] }
    else controlled p a.target (rr_reading a.message)

abbrev pub ignored : Mobile → AirMessage → Mobile
ignored p a = p

abbrev pub taken_from_air : Actors → (Mobile → AirMessage → Mobile) → Mobile → Place
    → List AirMessage → Option Actors
taken_from_air w hears p at [] = None
taken_from_air w hears p at (first ∷ others) =
    Some (with_mobile (hears p first) (with_spot at (record (spot_at w at) { air = others }) w))

abbrev pub brought_down : Actors → (Mobile → AirMessage → Mobile) → Mobile → Seat → Option Actors
brought_down w hears p (On tenure command) =
    if is_reached w tenure then taken_from_air w hears p tenure.at (spot_at w tenure.at).air
    else None
brought_down w hears p _ = None

abbrev pub after_air_down : Actors → ℕ → Option Actors
after_air_down w number = by_mobile w number (λ p. brought_down w hearing p p.seat)

abbrev pub after_air_down_lost : Actors → ℕ → Option Actors
after_air_down_lost w number = by_mobile w number (λ p. brought_down w ignored p p.seat)

-- ---- the mobile leaves its channel on command

abbrev pub left : Actors → Mobile → Tenure → Command → Actors
left w p from command =
    with_mobile (record p { end = after_leave p.end; seat = Moving from command; opens = false })
    (with_spot from.at (record (spot_at w from.at) { air = []; sapi_three_up = false }) w)

abbrev pub moved : Actors → Mobile → Seat → Option Actors
moved w p (On tenure (Some command)) = only_if (is_reached w tenure) (left w p tenure command)
moved w p _ = None

abbrev pub after_move : Actors → ℕ → Option Actors
after_move w number = by_mobile w number (λ p. moved w p p.seat)

-- ---- the station hears the mobile on the target channel of a handover

abbrev pub handover_detection : ℕ → Rsl
handover_detection channel = HandoverDetection (record { channel = channel; access_delay = None })

abbrev pub is_to_handover : Change → Bool
is_to_handover Handover = true
is_to_handover Assignment = false

abbrev pub touched : Actors → Seat → Option Actors
touched w (Moving from command) =
    only_if (is_to_handover command.change
    && is_reached w command.target) (with_message_made command.target.at.station
    (handover_detection command.target.at.number) w)
touched w _ = None

abbrev pub after_touch : Actors → ℕ → Option Actors
after_touch w number = by_mobile w number (λ p. touched w p.seat)

-- ---- the mobile arrives on the target of its command, or returns to the channel that it left

abbrev pub complete : Change → List ℕ
complete Assignment = rr_text (AssignmentComplete (record { 0 = NORMAL_EVENT }))
complete Handover = rr_text (HandoverComplete (record { 0 = NORMAL_EVENT }))

abbrev pub failure : Change → List ℕ
failure Assignment = rr_text (AssignmentFailure (record { 0 = TIMER_EXPIRED }))
failure Handover = rr_text (HandoverFailure (record { 0 = TIMER_EXPIRED }))

-- the actors after the mobile comes to the channel of a tenure: its data link of SAPI 0 is
-- established there, and it sends `control`, of radio resource management, first
abbrev pub seated : Actors → Mobile → Tenure → List ℕ → Actors
seated w p tenure control =
    with_mobile (record p { end = after_arrival p.end control; seat = On tenure None })
    (with_base tenure.at.station (after_establish
    (base_of w tenure.at.station) tenure.at.number Zero None) w)

abbrev pub arrived : Actors → Mobile → Seat → Option Actors
arrived w p (Moving from command) =
    only_if (is_reached w command.target) (seated w p command.target (complete command.change))
arrived w p _ = None

abbrev pub after_arriving : Actors → ℕ → Option Actors
after_arriving w number = by_mobile w number (λ p. arrived w p p.seat)

abbrev pub returned : Actors → Mobile → Seat → Option Actors
returned w p (Moving from command) =
    only_if (is_reached w from) (seated w p from (failure command.change))
returned w p _ = None

abbrev pub after_return : Actors → ℕ → Option Actors
after_return w number = by_mobile w number (λ p. returned w p p.seat)

-- ---- the measurement report of the mobile reaches the station

-- the MEASUREMENT RESULT, without the station's own measurements
abbrev pub measurement_result : ℕ → ℕ → List ℕ → Rsl
measurement_result channel number report = MeasurementResult (record {
  channel = channel;
  number = record { 0 = number };
  uplink = None;
  bs_power = None;
  l1 = None;
  l3 = Some (rr_text (MeasurementReport report));
})

abbrev pub reported_at : Actors → Place → List ℕ → Actors
reported_at w at report =
    with_message_made at.station (measurement_result at.number (spot_at w at).reports report)
    (with_spot at (record (spot_at w at) { reports = ((spot_at w at).reports + 1) % 256 }) w)

abbrev pub reported : Actors → List ℕ → Seat → Option Actors
reported w report (On tenure command) =
    only_if (is_reached w tenure && (length report
    == REPORT_LENGTH)) (reported_at w tenure.at report)
reported w report _ = None

abbrev pub after_report : Actors → ℕ → List ℕ → Option Actors
after_report w number report = by_mobile w number (λ p. reported w report p.seat)
