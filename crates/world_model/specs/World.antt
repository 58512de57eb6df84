-- SPDX-License-Identifier: MIT OR Apache-2.0
-- The world with a controller, as a record of plain lists.
use Rattle.std.specs.Prelude.{ℕ, ◌+◌, ◌-◌, ◌==◌, ◌&&◌, not, Bool, true, false}
use Rattle.std.specs.Prelude.{if◌then◌else◌, List}
use Rattle.std.specs.Prelude.{[], ◌∷◌, length, replicate, find, slice_index_or, set, Option}
use Rattle.bssmap_codec.specs.declared.sccp.Sccp.{Sccp}
use Rattle.conn_messages.specs.declared.channel.Place.{Place}
use Rattle.conn_messages.specs.declared.parameters.TheConstants.{SWITCH_LINK}
use Rattle.controller_model.specs.declared.limits.TheConstants.{CHANNEL_NUMBERS}
use Rattle.controller_model.specs.Controller.{Controller, new_controller}
use Rattle.dtap_codec.specs.declared.number.Modulus.TheVariants.{Four, Two}
use Rattle.dtap_codec.specs.Number.{count_of}
use Rattle.link_model.specs.BaseState.{BaseState}
use Rattle.link_model.specs.Base.{new_base, is_active}
use Rattle.mobile_end.specs.MobileState.{MobileState}
use Rattle.msc_end.specs.SwitchState.{SwitchState}
use Rattle.ruled_relay.specs.declared.item.Item.{Item}
use Rattle.settings.specs.Parameters.{Parameters, CellParameters}
use Rattle.world_model.specs.declared.line.AirMessage.{AirMessage}
use Rattle.world_model.specs.declared.line.OutboxEntry.{OutboxEntry}
use Rattle.world_model.specs.declared.seat.Seat.{Seat}
use Rattle.world_model.specs.declared.seat.Tenure.{Tenure}

-- a mobile: its end of the radio link, and its state in the world
pub record Mobile : Type 0 where
  pub number : ℕ
  pub end : MobileState
  -- whether the mobile accepts the data link of SAPI 3
  pub accepts_sapi_three : Bool
  pub seat : Seat
  -- whether the mobile's next frame of SAPI 0 is the initial message
  pub opens : Bool
  pub received : List (List ℕ)

-- a channel of a station; the station's `base` keeps whether the channel is active
pub record Spot : Type 0 where
  -- the number of the channel's last tenure, which is the present one while the channel is active
  pub tenure : ℕ
  -- whether the data link of SAPI 3 is up
  pub sapi_three_up : Bool
  -- the messages that wait to be sent to the mobile
  pub air : List AirMessage
  -- how many measurement reports arrived in the last tenure, modulo 256
  pub reports : ℕ

-- A base station: its end of the controller's link, with the messages that it made and that aren't
-- in the inbox yet, and its channels in the order of their numbers.
pub record Station : Type 0 where
  pub base : BaseState
  pub spots : List Spot

-- a link of the controller: whether it is up, and its outbox
pub record Link : Type 0 where
  pub up : Bool
  pub outbox : List OutboxEntry

pub record Actors : Type 0 where
  -- the modulus of the numbers that the messages of the flow carry
  pub modulus : ℕ
  -- the mobiles in the order in which they connected
  pub mobiles : List Mobile
  -- the stations in the order of their numbers, from station 1 on
  pub stations : List Station
  pub switch : SwitchState
  -- the messages that the switch made and that aren't in the inbox yet
  pub switch_made : List Sccp
  -- the items of all sources that the controller hasn't handled yet, in the order of their arrival
  pub inbox : List Item
  pub controller : Controller
  -- the links of the controller: first that of the switch, then those of the stations by number
  pub links : List Link

-- the actors, and the count of events that no actor could take
pub record World : Type 0 where
  pub actors : Actors
  pub not_taken : ℕ

-- ---- the beginning

abbrev pub new_link : Link
new_link = record { up = true; outbox = [] }

abbrev pub new_spot : Spot
new_spot = record { tenure = 0; sapi_three_up = false; air = []; reports = 0 }

abbrev pub new_station : ℕ → Station
new_station number = record { base = new_base number; spots = replicate CHANNEL_NUMBERS new_spot }

-- a station for each of these cells, from this number on
abbrev pub stations_from : ℕ → List CellParameters → List Station
stations_from number [] = []
stations_from number (cell ∷ cells) = new_station number ∷ stations_from (number + 1) cells

-- the modulus of the settings' network
abbrev pub modulus_in : Parameters → ℕ
modulus_in settings = count_of (if settings.network.release98 then Two else Four)

abbrev pub new_actors : Parameters → Actors
new_actors settings = record {
  modulus = modulus_in settings;
  mobiles = [];
  stations = stations_from 1 settings.cells;
  switch = record { modulus = modulus_in settings; connections = [] };
  switch_made = [];
  inbox = [];
  controller = new_controller settings;
  links = replicate (length settings.cells + 1) new_link;
}

abbrev pub new_world : Parameters → World
new_world settings = record { actors = new_actors settings; not_taken = 0 }

-- ---- links

-- a link that broke; a link that doesn't exist is read as a broken link
abbrev pub broken_link : Link
broken_link = record { up = false; outbox = [] }

abbrev pub link_of : Actors → ℕ → Link
link_of w number = slice_index_or w.links number broken_link

abbrev pub with_link : ℕ → Link → Actors → Actors
with_link number link w = record w { links = set w.links number link }

abbrev pub is_up : Actors → ℕ → Bool
is_up w number = (link_of w number).up

abbrev pub is_station_up : Actors → ℕ → Bool
is_station_up w station = not (station == SWITCH_LINK) && is_up w station

abbrev pub outbox_of : Actors → ℕ → List OutboxEntry
outbox_of w number = (link_of w number).outbox

abbrev pub with_outbox : ℕ → List OutboxEntry → Actors → Actors
with_outbox number entries w = with_link number (record (link_of w number) { outbox = entries }) w

-- ---- mobiles

abbrev pub has_number : ℕ → Mobile → Bool
has_number number p = p.number == number

abbrev pub mobile_of : Actors → ℕ → Option Mobile
mobile_of w number = find (has_number number) w.mobiles

-- the mobiles, with `p` in the place of the first mobile that has the number of `p`
abbrev pub put_back : Mobile → List Mobile → List Mobile
put_back p [] = []
put_back p (x ∷ xs) = if has_number p.number x then p ∷ xs else x ∷ put_back p xs

abbrev pub with_mobile : Mobile → Actors → Actors
with_mobile p w = record w { mobiles = put_back p w.mobiles }

-- ---- stations and channels

abbrev pub no_station : Station
no_station = record { base = new_base 0; spots = [] }

abbrev pub station_of : Actors → ℕ → Station
station_of w number = slice_index_or w.stations (number - 1) no_station

abbrev pub with_station : ℕ → Station → Actors → Actors
with_station number station w = record w { stations = set w.stations (number - 1) station }

abbrev pub base_of : Actors → ℕ → BaseState
base_of w number = (station_of w number).base

abbrev pub with_base : ℕ → BaseState → Actors → Actors
with_base number base w = with_station number (record (station_of w number) { base = base }) w

abbrev pub spot_at : Actors → Place → Spot
spot_at w at = slice_index_or (station_of w at.station).spots at.number new_spot

abbrev pub with_spot : Place → Spot → Actors → Actors
with_spot at spot w =
    with_station at.station (record (station_of w at.station) {
      spots =
          set (station_of w at.station).spots at.number spot;
    }) w

abbrev pub is_active_at : Actors → Place → Bool
is_active_at w at = is_active (base_of w at.station).active at.number

abbrev pub tenure_at : Actors → Place → Tenure
tenure_at w at = record { at = at; number = (spot_at w at).tenure }

-- whether the tenure is the last of its channel, the channel is active, and the station's link is
-- up
abbrev pub is_reached : Actors → Tenure → Bool
is_reached w t =
    is_station_up w t.at.station && is_active_at w t.at && ((spot_at w t.at).tenure == t.number)
