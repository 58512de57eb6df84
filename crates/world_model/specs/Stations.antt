-- SPDX-License-Identifier: MIT OR Apache-2.0
-- How a station takes the first entry of its outbox.
use Rattle.std.specs.Prelude.{ℕ, ◌+◌, ◌==◌, ◌&&◌, Bool, true, false}
use Rattle.std.specs.Prelude.{if◌then◌else◌, List, [], ◌∷◌}
use Rattle.std.specs.Prelude.{◌++◌, find, slice_index_or, Option, Some, None, Result, Ok}
use Rattle.std.specs.Result.{result_ok}
use Rattle.conn_messages.specs.declared.channel.Place.{Place}
use Rattle.controller_model.specs.Controller.{place_at}
use Rattle.dtap_codec.specs.declared.rr.RrMessage.{RrMessage}
use Rattle.dtap_codec.specs.declared.rr.RrMessage.TheVariants.{ImmediateAssignment}
use Rattle.dtap_codec.specs.declared.rr_fault.RrFault.{RrFault}
use Rattle.dtap_codec.specs.declared.sapi.Sapi.TheVariants.{Three}
use Rattle.dtap_codec.specs.RrReading.{rr_reading}
use Rattle.ipa_framing.specs.declared.frame.Frame.{Frame}
use Rattle.ipa_framing.specs.declared.streams.TheConstants.{RSL_STREAM}
use Rattle.link_model.specs.declared.fault.LinkFault.{LinkFault}
use Rattle.link_model.specs.Base.{after_activate, refusal_of_activate, after_release}
use Rattle.link_model.specs.Message.{link_on}
use Rattle.rsl_codec.specs.declared.rsl.Rsl.{Rsl}
use Rattle.rsl_codec.specs.declared.rsl.Rsl.TheVariants.{DataRequest, EstablishRequest}
use Rattle.rsl_codec.specs.declared.rsl.Rsl.TheVariants.{EstablishConfirm, ReleaseIndication}
use Rattle.rsl_codec.specs.declared.rsl.Rsl.TheVariants.{ImmediateAssignCommand, ChannelActivation}
use Rattle.rsl_codec.specs.declared.rsl.Rsl.TheVariants.{RfChannelRelease}
use Rattle.rsl_codec.specs.ChannelNumber.{is_channel}
use Rattle.rsl_codec.specs.RslReading.{rsl_reading}
use Rattle.world_model.specs.declared.line.AirMessage.{AirMessage}
use Rattle.world_model.specs.declared.line.OutboxEntry.{OutboxEntry}
use Rattle.world_model.specs.declared.limits.TheConstants.{MAX_TENURE}
use Rattle.world_model.specs.declared.seat.Seat.{Seat}
use Rattle.world_model.specs.declared.seat.Seat.TheVariants.{Asking, On}
use Rattle.world_model.specs.declared.seat.Tenure.{Tenure}
use Rattle.world_model.specs.Mobiles.{with_message_made}
use Rattle.world_model.specs.World.{Actors, Mobile, Spot, is_station_up, outbox_of, with_outbox}
use Rattle.world_model.specs.World.{mobile_of, with_mobile, base_of, with_base, spot_at, with_spot}
use Rattle.world_model.specs.World.{is_active_at, tenure_at}

-- the message of an RSL frame; None if the frame is of another stream or can't be read
abbrev pub rsl_in : Frame → Option Rsl
rsl_in frame = if frame.stream == RSL_STREAM then result_ok (rsl_reading frame.body) else None

-- ---- CHANNEL ACTIVATION begins a new tenure; an active channel is left as it is

abbrev pub new_tenure : Spot → Spot
new_tenure spot = record { tenure = spot.tenure + 1; sapi_three_up = false; air = []; reports = 0 }

abbrev pub activated_unless : Option LinkFault → Place → Actors → Actors
activated_unless (Some fault) at w = w
activated_unless None at w =
    with_spot at (new_tenure (spot_at w at))
    (with_base at.station (after_activate (base_of w at.station) at.number) w)

abbrev pub activated : Place → Actors → Actors
activated at w = activated_unless (refusal_of_activate (base_of w at.station) at.number) at w

-- ---- IMMEDIATE ASSIGNMENT

-- If the mobile that the request reference names is `Asking`, it is then on the channel. If the
-- channel octet is no channel number (TS 48.058 clause 9.3.1), nothing changes.

abbrev pub assigned_from : Seat → Tenure → Mobile → Actors → Actors
assigned_from Asking tenure p w = with_mobile (record p { seat = On tenure None }) w
assigned_from seat tenure p w = w

abbrev pub assigned_to : Option Mobile → Tenure → Actors → Actors
assigned_to None tenure w = w
assigned_to (Some p) tenure w = assigned_from p.seat tenure p w

abbrev pub assigned : ℕ → Result RrMessage RrFault → Actors → Actors
assigned station (Ok (ImmediateAssignment channel request advance)) w =
    if is_channel channel.channel.0
    then assigned_to (mobile_of w (slice_index_or request 0 0))
    (tenure_at w (place_at station channel.channel.0)) w else w
assigned station _ w = w

-- ---- DATA REQUEST: the message waits in `air` of its channel if the channel is active

abbrev pub aired : Place → AirMessage → Actors → Actors
aired at message w =
    if is_active_at w at then with_spot at
    (record (spot_at w at) { air = (spot_at w at).air ++ message ∷ [] }) w else w

-- ---- ESTABLISH REQUEST: SAPI 3 is confirmed if the mobile on the channel accepts it

abbrev pub is_same : Tenure → Tenure → Bool
is_same one other =
    (one.at.station == other.at.station) && (one.at.number == other.at.number)
    && (one.number == other.number)

abbrev pub is_on : Tenure → Seat → Bool
is_on tenure (On other command) = is_same tenure other
is_on tenure _ = false

abbrev pub mobile_on : Actors → Tenure → Option Mobile
mobile_on w tenure = find (λ p. is_on tenure p.seat) w.mobiles

abbrev pub accepts : Option Mobile → Bool
accepts None = false
accepts (Some p) = p.accepts_sapi_three

abbrev pub link_answer : Bool → ℕ → Rsl
link_answer true channel =
    EstablishConfirm (record { channel = channel; link = link_on channel Three })
link_answer false channel =
    ReleaseIndication (record { channel = channel; link = link_on channel Three })

abbrev pub answered : Bool → Place → Actors → Actors
answered answer at w =
    with_message_made at.station (link_answer answer at.number)
    (with_spot at (record (spot_at w at) { sapi_three_up = answer }) w)

abbrev pub asked_for_link : Place → Actors → Actors
asked_for_link at w = answered (is_active_at w at && accepts (mobile_on w (tenure_at w at))) at w

-- ---- RF CHANNEL RELEASE ends a tenure

abbrev pub released : Place → Actors → Actors
released at w =
    with_spot at (record (spot_at w at) {
      sapi_three_up =
          false;
      air = [];
    }) (with_base at.station (after_release (base_of w at.station) at.number) w)

-- ---- the station takes one entry; any other message, or an unreadable one, changes nothing

-- The actors after a station takes a message. None for the activation of a channel whose last
-- tenure has the greatest number.
abbrev pub took : ℕ → Option Tenure → Option Rsl → Actors → Option Actors
took station target (Some (ChannelActivation a)) w =
    if (spot_at w (place_at station a.channel)).tenure == MAX_TENURE then None
    else Some (activated (place_at station a.channel) w)
took station target (Some (ImmediateAssignCommand i)) w =
    Some (assigned station (rr_reading i.information) w)
took station target (Some (DataRequest d)) w =
    Some (aired (place_at station d.channel) (record { message = d.l3; target = target }) w)
took station target (Some (EstablishRequest l)) w =
    Some (asked_for_link (place_at station l.channel) w)
took station target (Some (RfChannelRelease channel)) w =
    Some (released (place_at station channel) w)
took station target _ w = Some w

abbrev pub took_first : ℕ → List OutboxEntry → Actors → Option Actors
took_first station [] w = None
took_first station (first ∷ others) w =
    took station first.target (rsl_in first.out.frame) (with_outbox station others w)

abbrev pub after_base_takes : Actors → ℕ → Option Actors
after_base_takes w station =
    if is_station_up w station then took_first station (outbox_of w station) w else None
