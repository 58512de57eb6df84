-- SPDX-License-Identifier: MIT OR Apache-2.0
-- The break of a link that is up, field by field: an item appended to the inbox, the link, and the
-- messages that the source made.
use Rattle.std.proofs.Common.{◌≡◌, ◌≢◌, ℕ, suc, zero, ◌==◌, ◌-◌, Bool, true, false, if◌then◌else◌, List, [], ◌∷◌, ◌++◌}
use Rattle.std.proofs.Common.{refl, sym, ap, ◌∙◌, inl, inr, set, get_or, get_or-set_other}
use Rattle.std.proofs.Common.{set-set, arith}
use Rattle.std.proofs.lemmas.Bool.{cases_Bool, eqb-false}
use Rattle.std.proofs.lemmas.List.{set_comm}
use Rattle.bssmap_codec.specs.declared.sccp.Sccp.{Sccp}
use Rattle.conn_messages.specs.declared.channel.Place.{Place}
use Rattle.conn_messages.specs.declared.parameters.TheConstants.{SWITCH_LINK}
use Rattle.link_model.specs.Base.{after_take_down, after_tell}
use Rattle.link_model.specs.BaseState.{BaseState}
use Rattle.rsl_codec.specs.declared.rsl.Rsl.{Rsl}
use Rattle.ruled_relay.specs.declared.item.Item.{Item}
use Rattle.ruled_relay.specs.declared.item.What.TheVariants as whats
use Rattle.world_model.specs.declared.line.OutboxEntry.{OutboxEntry}
use Rattle.world_model.specs.Mobiles.{with_message_made}
use Rattle.world_model.specs.Relay.{with_item, broken}
use Rattle.world_model.specs.World.{Actors, Link, Spot, Station, base_of, broken_link, is_up, link_of, new_spot}
use Rattle.world_model.specs.World.{no_station, station_of, tenure_at, with_base, with_link, with_outbox, with_spot}
use Rattle.world_model.specs.World.{with_station}

abbrev pub down : ℕ → Item
down source = record { source = source; what = whats.Down }

abbrev pub cut_station : Station → Station
cut_station station = record station { base = after_take_down station.base }

abbrev pub cut_stations : Bool → ℕ → List Station → List Station
cut_stations true source stations = stations
cut_stations false source stations = set stations (source - 1) (cut_station (get_or stations (source - 1) no_station))

abbrev pub cut_made : Bool → List Sccp → List Sccp
cut_made true made = []
cut_made false made = made

abbrev pub cut_by : Bool → ℕ → Actors → Actors
cut_by at_switch source w = record w {
  stations = cut_stations at_switch source w.stations;
  switch_made = cut_made at_switch w.switch_made;
  inbox = w.inbox ++ down source ∷ [];
  links = set w.links source broken_link;
}

-- of the switch where the first says so
abbrev pub cut : ℕ → Actors → Actors
cut source w = cut_by (source == SWITCH_LINK) source w

pub broken-cut : (source : ℕ) (w : Actors) → broken source w ≡ cut source w
broken-cut source w = by (source == SWITCH_LINK) where
  by : (b : Bool)
      → with_item (down source) (if b then record (with_link source broken_link w) { switch_made = [] } else with_base source (after_take_down (base_of (with_link source broken_link w) source)) (with_link source broken_link w)) ≡ cut_by b source w
  by true = refl
  by false = refl

-- ---- links

pub link_beside : (source : ℕ) (w : Actors) (n : ℕ) → n ≢ source → link_of (cut source w) n ≡ link_of w n
link_beside source w n differs = get_or-set_other w.links source n broken_link broken_link differs

pub with_link_beside : (source : ℕ) (w : Actors) (n : ℕ) (link : Link) → n ≢ source
    → with_link n link (cut source w) ≡ cut source (with_link n link w)
with_link_beside source w n link differs =
    ap (λ (links : List Link). record (cut source w) { links = links }) (set_comm w.links source n broken_link link (λ is. differs (sym is)))

pub with_outbox_beside : (source : ℕ) (w : Actors) (n : ℕ) (entries : List OutboxEntry) → n ≢ source
    → with_outbox n entries (cut source w) ≡ cut source (with_outbox n entries w)
with_outbox_beside source w n entries differs =
    ap (λ (link : Link). with_link n (record link { outbox = entries }) (cut source w)) (link_beside source w n differs)
    ∙ with_link_beside source w n (record (link_of w n) { outbox = entries }) differs

down_there : (links : List Link) (n : ℕ) → (get_or (set links n broken_link) n broken_link).up ≡ false
down_there [] n = refl
down_there (link ∷ links) zero = refl
down_there (link ∷ links) (suc n) = down_there links n

pub cut-down : (source : ℕ) (w : Actors) → is_up (cut source w) source ≡ false
cut-down source w = down_there w.links source

-- what another link changed of it
pub cut-own : (source : ℕ) (w : Actors) (link : Link) → cut source (with_link source link w) ≡ cut source w
cut-own source w link = ap (λ (links : List Link). record (cut source w) { links = links }) (set-set w.links source link broken_link)

-- ---- stations

less_differ : (n m : ℕ) → n ≢ 0 → m ≢ 0 → n ≢ m → n - 1 ≢ m - 1
less_differ n m n_some m_some differ is = differ (let same : n ≡ m = omega arith in same)

pub station_beside : (source : ℕ) (w : Actors) (n : ℕ) → n ≢ 0 → n ≢ source → station_of (cut source w) n ≡ station_of w n
station_beside source w n some differs =
    elim (cases_Bool (source == SWITCH_LINK)) [
      | inl is ↦ ap (λ (b : Bool). get_or (cut_stations b source w.stations) (n - 1) no_station) is
      | inr not_switch ↦
          ap (λ (b : Bool). get_or (cut_stations b source w.stations) (n - 1) no_station) not_switch
          ∙ get_or-set_other w.stations (source - 1) (n - 1) (cut_station (get_or w.stations (source - 1) no_station)) no_station (less_differ n source some (eqb-false source SWITCH_LINK not_switch) differs)
    ]

pub with_station_beside : (source : ℕ) (w : Actors) (n : ℕ) (station : Station) → n ≢ 0 → n ≢ source
    → with_station n station (cut source w) ≡ cut source (with_station n station w)
with_station_beside source w n station some differs =
    elim (cases_Bool (source == SWITCH_LINK)) [
      | inl is ↦
          ap (λ (b : Bool). record (cut source w) { stations = set (cut_stations b source w.stations) (n - 1) station }) is
          ∙ ap (λ (b : Bool). record (cut source w) { stations = cut_stations b source (set w.stations (n - 1) station) }) (sym is)
      | inr not_switch ↦
          ap (λ (b : Bool). record (cut source w) { stations = set (cut_stations b source w.stations) (n - 1) station }) not_switch
          ∙ ap (λ (stations : List Station). record (cut source w) { stations = stations }) (swapped (less_differ n source some (eqb-false source SWITCH_LINK not_switch) differs))
          ∙ ap (λ (b : Bool). record (cut source w) { stations = cut_stations b source (set w.stations (n - 1) station) }) (sym not_switch)
    ] where
      swapped : n - 1 ≢ source - 1
          → set (cut_stations false source w.stations) (n - 1) station ≡ cut_stations false source (set w.stations (n - 1) station)
      swapped apart =
          set_comm w.stations (source - 1) (n - 1) (cut_station (get_or w.stations (source - 1) no_station)) station (λ is. apart (sym is))
          ∙ ap (λ (s : Station). set (set w.stations (n - 1) station) (source - 1) (cut_station s)) (sym (get_or-set_other w.stations (n - 1) (source - 1) station no_station (λ is. apart (sym is))))

pub with_base_beside : (source : ℕ) (w : Actors) (n : ℕ) (base : BaseState) → n ≢ 0 → n ≢ source
    → with_base n base (cut source w) ≡ cut source (with_base n base w)
with_base_beside source w n base some differs =
    ap (λ (s : Station). with_station n (record s { base = base }) (cut source w)) (station_beside source w n some differs)
    ∙ with_station_beside source w n (record (station_of w n) { base = base }) some differs

pub made_beside : (source : ℕ) (w : Actors) (n : ℕ) (message : Rsl) → n ≢ 0 → n ≢ source
    → with_message_made n message (cut source w) ≡ cut source (with_message_made n message w)
made_beside source w n message some differs =
    ap (λ (s : Station). with_base n (after_tell s.base message) (cut source w)) (station_beside source w n some differs)
    ∙ with_base_beside source w n (after_tell (base_of w n) message) some differs

pub with_spot_beside : (source : ℕ) (w : Actors) (at : Place) (spot : Spot) → at.station ≢ 0 → at.station ≢ source
    → with_spot at spot (cut source w) ≡ cut source (with_spot at spot w)
with_spot_beside source w at spot some differs =
    ap (λ (s : Station). with_station at.station (record s { spots = set s.spots at.number spot }) (cut source w)) (station_beside source w at.station some differs)
    ∙ with_station_beside source w at.station (record (station_of w at.station) { spots = set (station_of w at.station).spots at.number spot }) some differs

-- no channel changes its tenure, also of the source itself
spots_there : (stations : List Station) (i n : ℕ)
    → (get_or (set stations i (cut_station (get_or stations i no_station))) n no_station).spots ≡ (get_or stations n no_station).spots
spots_there [] i n = refl
spots_there (s ∷ stations) zero zero = refl
spots_there (s ∷ stations) zero (suc n) = refl
spots_there (s ∷ stations) (suc i) zero = refl
spots_there (s ∷ stations) (suc i) (suc n) = spots_there stations i n

spots_kept : (b : Bool) (source : ℕ) (w : Actors) (n : ℕ)
    → (get_or (cut_stations b source w.stations) (n - 1) no_station).spots ≡ (station_of w n).spots
spots_kept true source w n = refl
spots_kept false source w n = spots_there w.stations (source - 1) (n - 1)

pub tenure_beside : (source : ℕ) (w : Actors) (at : Place) → tenure_at (cut source w) at ≡ tenure_at w at
tenure_beside source w at = ap (λ (spots : List Spot). record { at = at; number = (get_or spots at.number new_spot).tenure }) (spots_kept (source == SWITCH_LINK) source w at.station)
