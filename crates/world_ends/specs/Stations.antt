-- SPDX-License-Identifier: MIT OR Apache-2.0
-- The effect of each call of the stations, in the terms of `world_model`, which defines the same
-- effect for the whole world.
use Rattle.std.specs.Prelude.{ℕ, ◌+◌, ◌-◌, ◌%◌, ◌==◌, ◌&&◌, Bool, true, false}
use Rattle.std.specs.Prelude.{if◌then◌else◌}
use Rattle.std.specs.Prelude.{List, [], ◌∷◌, ◌++◌, set, slice_index_or, Option, Some}
use Rattle.std.specs.Prelude.{None}
use Rattle.conn_messages.specs.declared.channel.Place.{Place}
use Rattle.dtap_codec.specs.declared.sapi.Sapi.{Sapi}
use Rattle.dtap_codec.specs.declared.sapi.Sapi.TheVariants.{Zero, Three}
use Rattle.link_model.specs.declared.fault.LinkFault.{LinkFault}
use Rattle.link_model.specs.Base.{is_active, refusal_of_activate, after_activate, after_establish}
use Rattle.link_model.specs.Base.{after_next, after_release, after_take_down, after_tell}
use Rattle.rsl_codec.specs.declared.rsl.Rsl.{Rsl}
use Rattle.world_model.specs.declared.line.AirMessage.{AirMessage}
use Rattle.world_model.specs.declared.seat.Tenure.{Tenure}
use Rattle.world_model.specs.Lists.{behind_first}
use Rattle.world_model.specs.Mobiles.{measurement_result, signalling_brought, short_message_brought}
use Rattle.world_model.specs.Stations.{link_answer, new_tenure}
use Rattle.world_model.specs.World.{Spot, Station, new_spot, no_station}

-- ---- one station

abbrev pub spot_of : Station → ℕ → Spot
spot_of s channel = slice_index_or s.spots channel new_spot

abbrev pub with_spot_of : ℕ → Spot → Station → Station
with_spot_of channel spot s = record s { spots = set s.spots channel spot }

-- the station with these messages waiting for the air of a channel
abbrev pub with_air_of : ℕ → List AirMessage → Station → Station
with_air_of channel air s = with_spot_of channel (record (spot_of s channel) { air = air }) s

-- the station with the data link of SAPI 3 of a channel up or down
abbrev pub with_sapi_three : Bool → ℕ → Station → Station
with_sapi_three up channel s =
    with_spot_of channel (record (spot_of s channel) { sapi_three_up = up }) s

-- the station after it counts one more measurement report on a channel, modulo 256
abbrev pub counted_on : ℕ → Station → Station
counted_on channel s =
    with_spot_of channel
    (record (spot_of s channel) { reports = ((spot_of s channel).reports + 1) % 256 }) s

-- the station after it makes a message for the controller
abbrev pub station_after_message : Rsl → Station → Station
station_after_message message s = record s { base = after_tell s.base message }

-- the station after it begins a tenure of a channel; unchanged if the channel is active
abbrev pub activated_unless : Option LinkFault → ℕ → Station → Station
activated_unless (Some fault) channel s = s
activated_unless None channel s =
    with_spot_of channel (new_tenure (spot_of s channel))
    (record s { base = after_activate s.base channel })

abbrev pub activated_on : ℕ → Station → Station
activated_on channel s = activated_unless (refusal_of_activate s.base channel) channel s

-- the station after a frame of a mobile arrives on a SAPI of a channel; `opens` says whether the
-- frame is the initial message
abbrev pub brought_on : ℕ → Bool → Sapi → List ℕ → Station → Station
brought_on channel opens Zero frame s =
    record s { base = signalling_brought s.base channel opens frame }
brought_on channel opens Three frame s =
    let up = (spot_of s channel).sapi_three_up in
    with_spot_of channel (record (spot_of s channel) { sapi_three_up = true })
    (record s { base = short_message_brought s.base channel up frame })

-- the station after a mobile establishes the data link of SAPI 0 on a channel
abbrev pub established_on : ℕ → Station → Station
established_on channel s = record s { base = after_establish s.base channel Zero None }

-- the station after a mobile leaves a channel
abbrev pub left_on : ℕ → Station → Station
left_on channel s =
    with_spot_of channel (record (spot_of s channel) { air = []; sapi_three_up = false }) s

-- the station after a message is put into the air of a channel; unchanged if the channel isn't
-- active
abbrev pub aired_on : ℕ → AirMessage → Station → Station
aired_on channel message s =
    if is_active s.base.active channel
    then with_air_of channel ((spot_of s channel).air ++ message ∷ []) s
    else s

-- the station after the first message is taken from the air of a channel
abbrev pub taken_on : ℕ → Station → Station
taken_on channel s =
    with_air_of channel (behind_first (spot_of s channel).air) s

-- the station after it answers an ESTABLISH REQUEST for SAPI 3
abbrev pub answered_on : Bool → ℕ → Station → Station
answered_on answer channel s =
    station_after_message (link_answer answer channel) (with_sapi_three answer channel s)

-- the station after it releases a channel
abbrev pub released_on : ℕ → Station → Station
released_on channel s =
    with_spot_of channel (record (spot_of s channel) { sapi_three_up = false; air = [] })
    (record s { base = after_release s.base channel })

-- the station after a measurement report of a mobile arrives on a channel
abbrev pub reported_on : ℕ → List ℕ → Station → Station
reported_on channel report s =
    station_after_message (measurement_result channel (spot_of s channel).reports report)
    (counted_on channel s)

-- the station after its oldest message is given out
abbrev pub given_on : Station → Station
given_on s = record s { base = after_next s.base }

-- the station after all messages that it made are discarded
abbrev pub silenced : Station → Station
silenced s = record s { base = after_take_down s.base }

-- ---- all stations

-- the station with a number, counted from 1
abbrev pub station_in : List Station → ℕ → Station
station_in stations number = slice_index_or stations (number - 1) no_station

-- the stations after `happens` changes the station with a number
abbrev pub at_station : ℕ → (Station → Station) → List Station → List Station
at_station number happens stations =
    set stations (number - 1) (happens (station_in stations number))

-- the stations after `happens` changes a channel of a station
abbrev pub at_channel : Place → (ℕ → Station → Station) → List Station → List Station
at_channel at happens stations = at_station at.station (happens at.number) stations

abbrev pub spot_in : List Station → Place → Spot
spot_in stations at = spot_of (station_in stations at.station) at.number

abbrev pub is_active_in : List Station → Place → Bool
is_active_in stations at = is_active (station_in stations at.station).base.active at.number

-- whether the channel of the tenure is active and the tenure is its last one
abbrev pub is_present : List Station → Tenure → Bool
is_present stations t = is_active_in stations t.at && ((spot_in stations t.at).tenure == t.number)
