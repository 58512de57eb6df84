-- SPDX-License-Identifier: MIT OR Apache-2.0
-- Rows: the stations, the mobiles and the switch of a world after literal calls.
use Rattle.std.proofs.Common.{◌≡◌, ℕ, true, false, List, [], ◌∷◌, ◌++◌, map, replicate, Some, None, refl, Option, ◌<◌, ◌≤◌, Bool, arith}
use Rattle.std.proofs.Common.{zero, suc, slice_index}
use Rattle.octets.proofs.Hex.{hex}
use Rattle.bssmap_codec.specs.declared.sccp.Sccp.{Sccp}
use Rattle.bssmap_codec.specs.declared.sccp.Sccp.TheVariants.{ConnectionRequest, ConnectionConfirm, Released, DataForm1}
use Rattle.conn_messages.specs.declared.channel.Change.TheVariants.{Handover}
use Rattle.conn_messages.specs.declared.channel.Place.{Place}
use Rattle.dtap_codec.specs.declared.sapi.Sapi.TheVariants.{Zero, Three}
use Rattle.ipa_framing.specs.declared.streams.TheConstants.{RSL_STREAM, SCCP_STREAM}
use Rattle.link_model.specs.BaseState.{BaseState}
use Rattle.link_model.specs.declared.air_link.Air.{Air}
use Rattle.link_model.specs.declared.air_link.Air.TheVariants.{Empty, Given, Reached}
use Rattle.mobile_end.specs.DataLinkState.{DataLinkState}
use Rattle.mobile_end.specs.MobileState.{MobileState}
use Rattle.mobile_end.specs.declared.mobile_end.Place.{Place as EndPlace}
use Rattle.mobile_end.specs.declared.mobile_end.Stage.TheVariants.{Connected}
use Rattle.msc_end.specs.declared.connection.Connection.{Connection}
use Rattle.msc_end.specs.declared.connection.Stage.{Stage}
use Rattle.msc_end.specs.declared.connection.Stage.TheVariants.{Open, Clearing, Ended}
use Rattle.octets.specs.Walk.{walk}
use Rattle.rsl_codec.specs.RslReading.{activation_at, breaks_off, channel_only_at, elements_of, message_at, rsl_reading}
use Rattle.rsl_codec.specs.RslText.{rsl_write_fault}
use Rattle.rsl_codec.specs.RslType.{rsl_type}
use Rattle.rsl_codec.specs.declared.rsl.Rsl.{Rsl}
use Rattle.rsl_codec.specs.declared.rsl.Rsl.TheVariants.{ChannelActivationAck, DataIndication, EstablishConfirm, EstablishIndication}
use Rattle.rsl_codec.specs.declared.rsl.Rsl.TheVariants.{MeasurementResult, ReleaseIndication, RfChannelReleaseAck, ChannelActivation}
use Rattle.rsl_codec.specs.declared.rsl.Rsl.TheVariants.{RfChannelRelease}
use Rattle.world_ends.specs.Activations.{activated_by}
use Rattle.world_ends.specs.Mobiles.{acknowledging, after_opening, arriving, assigned_to, at_mobile, by_mobile, frame_of, is_moving}
use Rattle.world_ends.specs.Mobiles.{leaving, mobile_in, place_in, sending, taken_from, taking, with_mobile_in}
use Rattle.world_ends.specs.MobilesState.{MobilesState}
use Rattle.world_ends.specs.Placed.{IsFit, IsPlaced}
use Rattle.world_ends.specs.Stations.{activated_on, aired_on, answered_on, at_station, brought_on, established_on, given_on, is_active_in}
use Rattle.world_ends.specs.Stations.{is_present, left_on, released_on, reported_on, silenced, spot_in, spot_of, station_in, taken_on}
use Rattle.world_ends.specs.Stations.{station_after_message, with_spot_of}
use Rattle.world_ends.specs.Switch.{assigning, clearing, sending as switch_sending, took}
use Rattle.world_ends.specs.SwitchSideState.{SwitchSideState}
use Rattle.world_ends.specs.SwitchWritten.{IsShort, IsShortIn, IsWritten as IsWrittenBySwitch}
use Rattle.world_ends.specs.Written.{HasWritten, IsWritten}
use Rattle.world_model.proofs.Worlds.{on_literals}
use Rattle.world_model.specs.Stations.{rsl_in}
use Rattle.world_model.specs.World.{Spot, Station, new_spot, no_station, Mobile}
use Rattle.world_model.specs.declared.line.AirMessage.{AirMessage}
use Rattle.world_model.specs.declared.seat.Command.{Command}
use Rattle.world_model.specs.declared.seat.Seat.{Seat}
use Rattle.world_model.specs.declared.seat.Seat.TheVariants.{Asking, On, Moving, Gone}
use Rattle.world_model.specs.declared.seat.Tenure.{Tenure}
use Rattle.mobile_end.specs.declared.mobile_end.Place.TheVariants as places

-- ---- base stations: station 1 with two channels, an SDCCH 0B and a TCH 0A, of which 0A is active

abbrev air : ℕ → AirMessage
air octet = record { message = octet ∷ []; target = None }

-- made before, and not given out yet
abbrev before : Rsl
before = RfChannelReleaseAck 0x41

-- these channels are active; these messages were made since; and so are channels 0A and 0B
abbrev station : List ℕ → List Rsl → Spot → Spot → Station
station active made one other = record {
  base = record { station = 1; active = active; messages = before ∷ made };
  spots = replicate 0x0a new_spot ++ one ∷ other ∷ [];
}

-- a channel with two messages for the air
abbrev full : Spot
full = record { tenure = 3; sapi_three_up = true; air = air 5 ∷ air 6 ∷ []; reports = 254 }

abbrev used : Spot
used = record { tenure = 8; sapi_three_up = false; air = air 7 ∷ []; reports = 255 }

abbrev one : Station
one = station (0x0a ∷ []) [] full used

-- ---- channels

spots_are : map (spot_of one) (hex "09 0a 0b 0c") ≡ new_spot ∷ full ∷ used ∷ new_spot ∷ []
spots_are = refl

spot_is_changed : with_spot_of 0x0b full one ≡ station (0x0a ∷ []) [] full full
spot_is_changed = refl

no_spot_is_changed : with_spot_of 0x0c full one ≡ one
no_spot_is_changed = refl

tells : station_after_message (RfChannelReleaseAck 0x0b) one ≡ station (0x0a ∷ []) (RfChannelReleaseAck 0x0b ∷ []) full used
tells = refl

-- CHANNEL ACTIVATION, which an active channel doesn't take
activates : activated_on 0x0b one ≡
    station (hex "0a 0b") (ChannelActivationAck (record { channel = 0x0b; frame = Some (record { 0 = 0 }) }) ∷ []) full (record { tenure = 9; sapi_three_up = false; air = []; reports = 0 })
activates = refl

activates_once : activated_on 0x0a one ≡ one
activates_once = refl

-- RF CHANNEL RELEASE
releases : released_on 0x0a one ≡ station [] (RfChannelReleaseAck 0x0a ∷ []) (record { tenure = 3; sapi_three_up = false; air = []; reports = 254 }) used
releases = refl

leaves : left_on 0x0a one ≡ station (0x0a ∷ []) [] (record { tenure = 3; sapi_three_up = false; air = []; reports = 254 }) used
leaves = refl

-- ---- what arrives from a mobile

brings_initial : brought_on 0x0a true Zero (hex "05 24") one ≡ station (0x0a ∷ []) (EstablishIndication (record { channel = 0x0a; link = 0x00; l3 = Some (hex "05 24") }) ∷ []) full used
brings_initial = refl

brings_data : brought_on 0x0a false Zero (hex "05 24") one ≡ station (0x0a ∷ []) (DataIndication (record { channel = 0x0a; link = 0x00; l3 = hex "05 24" }) ∷ []) full used
brings_data = refl

-- on SAPI 3, whose data link is up on 0A and not on 0B; there is no initial message
brings_short_message : map (λ opens. brought_on 0x0a opens Three (hex "09 01") one) (true ∷ false ∷ []) ≡
    station (0x0a ∷ []) (DataIndication (record { channel = 0x0a; link = 0x43; l3 = hex "09 01" }) ∷ []) full used
    ∷ station (0x0a ∷ []) (DataIndication (record { channel = 0x0a; link = 0x43; l3 = hex "09 01" }) ∷ []) full used ∷ []
brings_short_message = refl

establishes_short_messages : brought_on 0x0b false Three (hex "09 01") one ≡
    station (0x0a ∷ []) (EstablishIndication (record { channel = 0x0b; link = 0x43; l3 = None }) ∷ DataIndication (record { channel = 0x0b; link = 0x43; l3 = hex "09 01" }) ∷ [])
    full (record { tenure = 8; sapi_three_up = true; air = air 7 ∷ []; reports = 255 })
establishes_short_messages = refl

establishes : established_on 0x0a one ≡ station (0x0a ∷ []) (EstablishIndication (record { channel = 0x0a; link = 0x00; l3 = None }) ∷ []) full used
establishes = refl

-- reports are counted modulo 256
reports_the_last : reported_on 0x0b (replicate 16 0x14) one ≡
    station (0x0a ∷ []) (MeasurementResult (record { channel = 0x0b; number = record { 0 = 255 }; uplink = None; bs_power = None; l1 = None; l3 = Some (0x06 ∷ 0x15 ∷ replicate 16 0x14) }) ∷ [])
    full (record { tenure = 8; sapi_three_up = false; air = air 7 ∷ []; reports = 0 })
reports_the_last = refl

reports_the_one_before : (spot_of (reported_on 0x0a (replicate 16 0x14) one) 0x0a).reports ≡ 255
reports_the_one_before = refl

-- ---- the air

airs_last : aired_on 0x0a (air 9) one ≡ station (0x0a ∷ []) [] (record { tenure = 3; sapi_three_up = true; air = air 5 ∷ air 6 ∷ air 9 ∷ []; reports = 254 }) used
airs_last = refl

airs_on_no_other : aired_on 0x0b (air 9) one ≡ one
airs_on_no_other = refl

takes_first : taken_on 0x0a one ≡ station (0x0a ∷ []) [] (record { tenure = 3; sapi_three_up = true; air = air 6 ∷ []; reports = 254 }) used
takes_first = refl

takes_none : taken_on 0x09 one ≡ one
takes_none = refl

-- ESTABLISH REQUEST: yes is confirmed
confirms : answered_on true 0x0b one ≡
    station (0x0a ∷ []) (EstablishConfirm (record { channel = 0x0b; link = 0x43 }) ∷ []) full (record { tenure = 8; sapi_three_up = true; air = air 7 ∷ []; reports = 255 })
confirms = refl

denies : answered_on false 0x0a one ≡
    station (0x0a ∷ []) (ReleaseIndication (record { channel = 0x0a; link = 0x43 }) ∷ []) (record { tenure = 3; sapi_three_up = false; air = air 5 ∷ air 6 ∷ []; reports = 254 }) used
denies = refl

-- ---- what was made

gives_first : given_on (station (0x0a ∷ []) (RfChannelReleaseAck 0x0b ∷ []) full used) ≡
    record { base = record { station = 1; active = 0x0a ∷ []; messages = RfChannelReleaseAck 0x0b ∷ [] }; spots = replicate 0x0a new_spot ++ full ∷ used ∷ [] }
gives_first = refl

drops_all : silenced one ≡ record { base = record { station = 1; active = 0x0a ∷ []; messages = [] }; spots = replicate 0x0a new_spot ++ full ∷ used ∷ [] }
drops_all = refl

-- ---- all stations, numbered from 1

abbrev two : Station
two = record { base = record { station = 2; active = 0x0b ∷ []; messages = [] }; spots = replicate 0x0a new_spot ++ new_spot ∷ full ∷ [] }

stations_are : map (station_in (one ∷ two ∷ [])) (1 ∷ 2 ∷ 3 ∷ []) ≡ one ∷ two ∷ no_station ∷ []
stations_are = refl

second_is_changed : at_station 2 silenced (two ∷ one ∷ []) ≡ two ∷ silenced one ∷ []
second_is_changed = refl

third_is_not : at_station 3 silenced (two ∷ one ∷ []) ≡ two ∷ one ∷ []
third_is_not = refl

abbrev place : ℕ → ℕ → Place
place number channel = record { station = number; number = channel }

spots_in_all : map (spot_in (one ∷ two ∷ [])) (place 1 0x0a ∷ place 1 0x0b ∷ place 2 0x0a ∷ place 2 0x0b ∷ place 3 0x0a ∷ []) ≡ full ∷ used ∷ new_spot ∷ full ∷ new_spot ∷ []
spots_in_all = refl

active_are : map (is_active_in (one ∷ two ∷ [])) (place 1 0x0a ∷ place 1 0x0b ∷ place 2 0x0a ∷ place 2 0x0b ∷ place 3 0x0a ∷ []) ≡ true ∷ false ∷ false ∷ true ∷ false ∷ []
active_are = refl

-- a tenure before the last one is not present, nor is one of a channel that is not active
present_are : map (is_present (one ∷ two ∷ []))
    (record { at = place 1 0x0a; number = 2 } ∷ record { at = place 1 0x0a; number = 3 } ∷ record { at = place 1 0x0a; number = 4 } ∷ record { at = place 1 0x0b; number = 8 } ∷ record { at = place 2 0x0b; number = 3 } ∷ [])
    ≡ false ∷ true ∷ false ∷ false ∷ true ∷ []
present_are = refl

-- ---- what can be written: a layer 3 message has 1 to 251 octets

abbrev data_of : List ℕ → Rsl
data_of message = DataIndication (record { channel = 0x0a; link = 0x00; l3 = message })

writes_1 : IsWritten (data_of (0x05 ∷ []))
unfolding rsl_write_fault
writes_1 = refl

writes_251 : IsWritten (data_of (replicate 251 0x05))
unfolding rsl_write_fault
writes_251 = refl

writes_not_252 : IsWritten (data_of (replicate 252 0x05)) → ⊥
unfolding rsl_write_fault
writes_not_252 h = absurd cc

writes_not_none : IsWritten (data_of []) → ⊥
unfolding rsl_write_fault
writes_not_none h = absurd cc

abbrev made : List Rsl → BaseState
made messages = record { station = 1; active = []; messages = messages }

all_are_written : HasWritten (made (before ∷ data_of (0x05 ∷ []) ∷ []))
unfolding rsl_write_fault
all_are_written = (refl, (refl, tt))

last_is_not : HasWritten (made (before ∷ data_of [] ∷ [])) → ⊥
unfolding rsl_write_fault
last_is_not h = writes_not_none h.1.0

-- ---- the channels that frames activate

of_message : activated_by (Some (ChannelActivation (record { channel = 0x0b; activation = record { 0 = 0x00 }; mode = record { 0 = 0x05 ∷ [] }; reference = None }))) ≡ Some 0x0b
of_message = refl

of_release : activated_by (Some (RfChannelRelease 0x0b)) ≡ None
of_release = refl

of_nothing : activated_by None ≡ None
of_nothing = refl

abbrev in_frame : ℕ → List ℕ → Option ℕ
in_frame stream body = activated_by (rsl_in (record { stream = stream; body = body }))

-- the elements are in any order, and of two channel numbers the first counts
in_written_order : in_frame RSL_STREAM (hex "08 21 01 0b 03 00 06 01 05 01 0a") ≡ Some 0x0b
unfolding rsl_reading rsl_type breaks_off elements_of walk message_at activation_at
in_written_order = refl

in_other_order : in_frame RSL_STREAM (hex "08 21 03 00 06 01 05 01 41") ≡ Some 0x41
unfolding rsl_reading rsl_type breaks_off elements_of walk message_at activation_at
in_other_order = refl

-- a channel mode is missing; an element is cut; the octet is no channel number; the type is RF
-- CHANNEL RELEASE; another stream
without_mode : in_frame RSL_STREAM (hex "08 21 01 0b 03 00") ≡ None
unfolding rsl_reading rsl_type breaks_off elements_of walk message_at activation_at
without_mode = refl

cut : in_frame RSL_STREAM (hex "08 21 01 0b 03 00 06 02 05") ≡ None
unfolding rsl_reading rsl_type breaks_off elements_of walk message_at activation_at
cut = refl

no_channel : in_frame RSL_STREAM (hex "08 21 01 07 03 00 06 01 05") ≡ None
unfolding rsl_reading rsl_type breaks_off elements_of walk message_at activation_at
no_channel = refl

other_type : in_frame RSL_STREAM (hex "08 2e 01 0b") ≡ None
unfolding rsl_reading rsl_type breaks_off elements_of walk message_at channel_only_at
other_type = refl

other_stream : in_frame SCCP_STREAM (hex "08 21 01 0b 03 00 06 01 05") ≡ None
other_stream = refl

-- ---- mobiles: mobile 7, whose initial message was taken, and mobile 3

abbrev here : Tenure
here = record { at = record { station = 1; number = 0x41 }; number = 3 }

abbrev there : Tenure
there = record { at = record { station = 2; number = 0x0a }; number = 5 }

abbrev command : Command
command = record { change = Handover; target = there }

-- of SAPI 3 a message waits, and another is in the air
abbrev short_messages : Air → DataLinkState
short_messages air = record { waiting = (hex "09 02") ∷ []; air = air }

-- it sent these messages, and on SAPI 0 these wait
abbrev end_with : EndPlace → List (List ℕ) → List (List ℕ) → Air → Air → MobileState
end_with place sent waiting zero_air three_air =
    record { modulus = 4; stage = Connected; place = place; sent = sent; zero = record { waiting = waiting; air = zero_air }; three = short_messages three_air }

abbrev seated : ℕ → Seat → Bool → MobileState → Mobile
seated number seat opens end = record { number = number; end = end; accepts_sapi_three = true; seat = seat; opens = opens; received = (hex "83 02") ∷ [] }

-- on the channel, with one message on SAPI 0 in the air and none behind it
abbrev on_air : Air → Air → MobileState
on_air zero_air three_air = end_with places.OnChannel ((hex "05 24") ∷ []) [] zero_air three_air

abbrev seats : List Seat
seats = Asking ∷ On here None ∷ Moving here command ∷ Gone ∷ []

-- ---- its upper layers send

sends_with_number : sending Zero (hex "03 05") (seated 7 (On here None) true (on_air Empty Empty)) ≡
    Some (seated 7 (On here None) true (end_with places.OnChannel ((hex "05 24") ∷ (hex "03 05") ∷ []) ((hex "03 45") ∷ []) Empty Empty))
sends_with_number = refl

sends_short_message : sending Three (hex "09 01") (seated 7 (Moving here command) false (on_air Empty Empty)) ≡
    Some (seated 7 (Moving here command) false (record (on_air Empty Empty) { three = record { waiting = (hex "09 02") ∷ (hex "09 01") ∷ []; air = Empty } }))
sends_short_message = refl

sends_nothing_before_or_after : map (λ seat. sending Zero (hex "03 05") (seated 7 seat true (on_air Empty Empty))) (Asking ∷ Gone ∷ []) ≡ None ∷ None ∷ []
sends_nothing_before_or_after = refl

sends_nothing_that_its_end_refuses : sending Zero (hex "03 45") (seated 7 (On here None) true (on_air Empty Empty)) ≡ None
sends_nothing_that_its_end_refuses = refl

-- ---- the station takes the frame in the air

frames_are : map (λ air. frame_of Zero (seated 7 (On here None) true (on_air air Empty))) (Given (0x0a ∷ []) ∷ Reached (0x0b ∷ []) ∷ Empty ∷ []) ≡ Some (0x0a ∷ []) ∷ None ∷ None ∷ []
frames_are = refl

frame_of_sapi_3 : frame_of Three (seated 7 (On here None) true (on_air (Given (0x0a ∷ [])) Empty)) ≡ Some (hex "09 02")
frame_of_sapi_3 = refl

no_frame_between_channels : frame_of Zero (seated 7 (Moving here command) true (end_with places.Moving [] [] (Given (0x0a ∷ [])) Empty)) ≡ None
no_frame_between_channels = refl

-- once a frame of SAPI 0 was taken, the next is no initial message
takes_initial : taking Zero (seated 7 (On here None) true (on_air (Given (0x0a ∷ [])) Empty)) ≡ Some (seated 7 (On here None) false (on_air (Reached (0x0a ∷ [])) Empty))
takes_initial = refl

takes_short_message : taking Three (seated 7 (On here None) true (on_air (Given (0x0a ∷ [])) (Given (hex "09 03")))) ≡
    Some (seated 7 (On here None) true (on_air (Given (0x0a ∷ [])) (Reached (hex "09 03"))))
takes_short_message = refl

takes_nothing_twice : taking Zero (seated 7 (On here None) true (on_air (Reached (0x0a ∷ [])) Empty)) ≡ None
takes_nothing_twice = refl

after_frame_of_sapi_0 : taken_from Zero (seated 7 (On here None) true (on_air (Given (0x0a ∷ [])) Empty)) ≡ seated 7 (On here None) false (on_air (Reached (0x0a ∷ [])) Empty)
after_frame_of_sapi_0 = refl

opens_by_sapi_0 : map (λ sapi. (after_opening sapi (seated 7 (On here None) true (on_air Empty Empty))).opens) (Zero ∷ Three ∷ []) ≡ false ∷ true ∷ []
opens_by_sapi_0 = refl

-- ---- the station acknowledges what it took

acknowledges : acknowledging Zero (seated 7 (On here None) false (on_air (Reached (0x0a ∷ [])) (Reached (hex "09 03")))) ≡
    Some (seated 7 (On here None) false (on_air Empty (Reached (hex "09 03"))))
acknowledges = refl

acknowledges_sapi_3 : acknowledging Three (seated 7 (On here None) true (on_air (Reached (0x0a ∷ [])) (Reached (hex "09 03")))) ≡
    Some (seated 7 (On here None) true (on_air (Reached (0x0a ∷ [])) Empty))
acknowledges_sapi_3 = refl

acknowledges_nothing_else : map (λ air. acknowledging Zero (seated 7 (On here None) true (on_air air (Reached (hex "09 03"))))) (Given (0x0a ∷ []) ∷ Empty ∷ []) ≡ None ∷ None ∷ []
acknowledges_nothing_else = refl

acknowledges_nothing_between_channels : acknowledging Zero (seated 7 (Moving here command) false (end_with places.Moving [] [] (Reached (0x0a ∷ [])) Empty)) ≡ None
acknowledges_nothing_between_channels = refl

-- ---- it changes its channel

mobile_leaves : leaving here command (seated 7 (On here (Some command)) true (on_air (Reached (0x0a ∷ [])) Empty)) ≡
    seated 7 (Moving here command) false (end_with places.Moving ((hex "05 24") ∷ []) [] (Reached (0x0a ∷ [])) Empty)
mobile_leaves = refl

moving_are : map is_moving seats ≡ false ∷ false ∷ true ∷ false ∷ []
moving_are = refl

-- what wasn't acknowledged is sent again behind the message of radio resource management
arrives : arriving there (hex "06 2c 00") (seated 7 (Moving here command) false (end_with places.Moving [] ((hex "03 8f") ∷ []) (Reached (0x0a ∷ [])) (Reached (hex "09 03")))) ≡
    seated 7 (On there None) false (end_with places.OnChannel [] ((0x0a ∷ []) ∷ (hex "03 8f") ∷ []) (Given (hex "06 2c 00")) (Given (hex "09 03")))
arrives = refl

is_assigned : assigned_to there (seated 7 Asking true (on_air Empty Empty)) ≡ seated 7 (On there None) true (on_air Empty Empty)
is_assigned = refl

-- ---- all mobiles, by number

abbrev seven : Mobile
seven = seated 7 (On here None) true (on_air (Given (0x0a ∷ [])) Empty)

abbrev three : Mobile
three = seated 3 Asking true (on_air Empty Empty)

abbrev both : List Mobile → MobilesState
both mobiles = record { modulus = 4; mobiles = mobiles }

places_are : map (λ number. place_in number (seven ∷ three ∷ [])) (7 ∷ 3 ∷ 0 ∷ []) ≡ 0 ∷ 1 ∷ 2 ∷ []
places_are = refl

mobiles_are : map (λ number. mobile_in number (seven ∷ three ∷ [])) (7 ∷ 3 ∷ 0 ∷ []) ≡ Some seven ∷ Some three ∷ None ∷ []
mobiles_are = refl

is_put_back : with_mobile_in 3 (assigned_to there three) (both (seven ∷ three ∷ [])) ≡ both (seven ∷ assigned_to there three ∷ [])
is_put_back = refl

happens_to_it : at_mobile 3 (assigned_to there) (both (seven ∷ three ∷ [])) ≡ both (seven ∷ seated 3 (On there None) true (on_air Empty Empty) ∷ [])
happens_to_it = refl

happens_to_none : at_mobile 5 (assigned_to there) (both (seven ∷ three ∷ [])) ≡ both (seven ∷ three ∷ [])
happens_to_none = refl

does_where_it_can : by_mobile 7 (taking Zero) (both (three ∷ seven ∷ [])) ≡ Some (both (three ∷ seated 7 (On here None) false (on_air (Reached (0x0a ∷ [])) Empty) ∷ []))
does_where_it_can = refl

does_nothing_else : map (λ number. by_mobile number (taking Zero) (both (three ∷ seven ∷ []))) (3 ∷ 5 ∷ []) ≡ None ∷ None ∷ []
does_nothing_else = refl

-- ---- what holds of every mobile

moving_is_placed : IsPlaced (Moving here command) places.Moving
moving_is_placed = refl

moving_is_not_on_a_channel : IsPlaced (Moving here command) places.OnChannel → ⊥
moving_is_not_on_a_channel h = absurd cc

placed_elsewhere : (place : EndPlace) → IsPlaced (On here (Some command)) place
placed_elsewhere place = tt

sizes : (0 < 2) × (2 ≤ 251)
sizes = (omega arith, omega arith)

is_fit : IsFit (Moving here command) (end_with places.Moving [] ((hex "03 8f") ∷ []) (Given (hex "03 45")) Empty)
is_fit = record { placed = refl; sized = record { zero = record { waiting = (sizes, tt); air = sizes }; three = record { waiting = (sizes, tt); air = tt } } }

empty_message_waits : (air : Air) → IsFit Asking (end_with places.OnChannel [] ([] ∷ []) air Empty) → ⊥
empty_message_waits air h = absurd (omega (arith, h.sized.zero.waiting.0.0))

long_message_in_air : IsFit Asking (end_with places.OnChannel [] [] Empty (Given (replicate 252 0x09))) → ⊥
long_message_in_air h = absurd (omega (arith, h.sized.three.air.1))

-- ---- the switch: two connections, the second of which is being cleared, and a message made before

-- the second connection
abbrev second : Connection
second = record { peer = 0x040506; number = 0x800002; stage = Clearing; reception = record { modulus = 4; taken = (hex "05 08") ∷ [] } }

-- made before, and not given out yet
abbrev switch_before : Sccp
switch_before = ConnectionConfirm 0x070809 0x800003

-- the first connection at this stage, on which these messages were taken; and these were made since
abbrev side : Stage → List (List ℕ) → List Sccp → SwitchSideState
side stage taken made = record {
  switch = record {
    modulus = 4;
    connections = record { peer = 0x010203; number = 0x800001; stage = stage; reception = record { modulus = 4; taken = taken } } ∷ second ∷ [];
  };
  made = switch_before ∷ made;
}

-- ---- it takes a message

takes_nothing : took None (side Open [] []) ≡ side Open [] []
takes_nothing = refl

takes_dtap : took (Some (DataForm1 0x800001 (hex "01 80 02 03 45"))) (side Open ((0x05 ∷ []) ∷ []) []) ≡ side Open ((0x05 ∷ []) ∷ (hex "03 45") ∷ []) []
unfolding on_literals
takes_dtap = refl

-- what it replies is made last
clears_as_asked : took (Some (DataForm1 0x800001 (hex "00 04 22 04 01 20"))) (side Open [] []) ≡ side Clearing [] (DataForm1 0x010203 (hex "00 04 20 04 01 20") ∷ [])
unfolding on_literals
clears_as_asked = refl

ends_what_is_cleared : took (Some (DataForm1 0x800001 (hex "00 01 21"))) (side Clearing [] []) ≡ side Ended [] (Released 0x010203 0x800001 ∷ [])
unfolding on_literals
ends_what_is_cleared = refl

confirms_the_third : (took (Some (ConnectionRequest 0x0a0b0c None)) (side Open [] [])).made ≡ switch_before ∷ ConnectionConfirm 0x0a0b0c 0x800003 ∷ []
confirms_the_third = refl

-- ---- it does something of its own on a connection that is open

asks_for_speech : assigning 1 (side Open [] []) ≡ Some (side Open [] (DataForm1 0x010203 (hex "00 06 01 0b 03 01 08 01") ∷ []))
unfolding on_literals
asks_for_speech = refl

asks_on_no_other : map (λ connection. assigning connection (side Open [] [])) (0 ∷ 2 ∷ 3 ∷ []) ≡ None ∷ None ∷ None ∷ []
asks_on_no_other = refl

asks_on_none_that_ended : assigning 1 (side Ended [] []) ≡ None
asks_on_none_that_ended = refl

clears : clearing 1 (side Open [] []) ≡ Some (side Clearing [] (DataForm1 0x010203 (hex "00 04 20 04 01 09") ∷ []))
unfolding on_literals
clears = refl

clears_no_other : map (λ connection. clearing connection (side Open [] [])) (0 ∷ 2 ∷ 3 ∷ []) ≡ None ∷ None ∷ None ∷ []
clears_no_other = refl

clears_once : clearing 1 (side Clearing [] []) ≡ None
clears_once = refl

sends_on_sapi_0 : switch_sending 1 Zero (hex "83 02") (side Open [] []) ≡ Some (side Open [] (DataForm1 0x010203 (hex "01 00 02 83 02") ∷ []))
unfolding on_literals
sends_on_sapi_0 = refl

sends_on_sapi_3 : switch_sending 1 Three (hex "09 01 05") (side Open [] []) ≡ Some (side Open [] (DataForm1 0x010203 (hex "01 03 03 09 01 05") ∷ []))
unfolding on_literals
sends_on_sapi_3 = refl

sends_on_no_other : map (λ connection. switch_sending connection Zero (hex "83 02") (side Open [] [])) (0 ∷ 2 ∷ 3 ∷ []) ≡ None ∷ None ∷ None ∷ []
sends_on_no_other = refl

sends_on_none_that_ended : switch_sending 1 Zero (hex "83 02") (side Ended [] []) ≡ None
sends_on_none_that_ended = refl

-- ---- what can be written, and what is short: 255 octets of user data at most

writes_255 : IsWrittenBySwitch (DataForm1 0x010203 (replicate 255 0xff))
writes_255 = refl

writes_not_256 : IsWrittenBySwitch (DataForm1 0x010203 (replicate 256 0xff)) → ⊥
writes_not_256 h = absurd cc

short_in_none : IsShortIn None
short_in_none = tt

is_short : IsShortIn (Some (DataForm1 0x010203 (0xff ∷ [])))
is_short = (omega arith, within) where
  within : (i : ℕ) → slice_index (0xff ∷ []) i < 256
  within zero = omega arith
  within (suc i) = omega arith

request_is_short : (user : List ℕ) → IsShort (ConnectionRequest 0x010203 (Some user))
request_is_short user = tt

is_long : IsShortIn (Some (DataForm1 0x010203 (replicate 256 0x00))) → ⊥
is_long h = absurd (omega (arith, h.0))

has_no_octet : IsShort (DataForm1 0x010203 (0x100 ∷ [])) → ⊥
has_no_octet h = absurd (omega (arith, h.1 0))
