-- SPDX-License-Identifier: MIT OR Apache-2.0
-- A station's first message is put at the inbox's end.
use Rattle.world_actors.proofs.Prelude.{◌≡◌, ℕ, ◌-◌, true, false, List, [], ◌∷◌, set, Option, Some, None, refl, sym, ap, ◌∙◌, subst}
use Rattle.world_actors.proofs.Prelude.{set-get_or, Rsl, Takes, Actors, Station, base_of, no_station, station_of, at_station}
use Rattle.link_model.specs.Base.{first_message, first_of_messages, messages_behind_first}
use Rattle.world_model.specs.Relay.{pushed_by_station, station_item}
use Rattle.world_actors.specs.Relay.{with_item_in}
use Rattle.world_actors.specs.RelayState.{RelayState}
use Rattle.world_ends.specs.Stations.{given_on}
use Rattle.world_actors.proofs.Turning.{relay_of, with_relay}

abbrev pushes : ℕ → Actors → Option Rsl → Option Actors
pushes station w o = pushed_by_station station o w

pub push_idle : (w : Actors) (station : ℕ) (stations : List Station) → first_message (base_of w station) ≡ None → stations ≡ at_station station given_on w.stations
    → Takes w (pushed_by_station station (first_message (base_of w station)) w) false (record w { stations = stations })
push_idle w station stations none is =
    subst (λ (o : Option Rsl). Takes w (pushes station w o) false (record w { stations = stations })) (sym none)
    (refl, ap (λ (all : List Station). record w { stations = all }) (is ∙ ap (set w.stations (station - 1)) (gives_none (station_of w station) none) ∙ set-get_or w.stations (station - 1) no_station)) where
      gives_none : (s : Station) → first_message s.base ≡ None → given_on s ≡ s
      gives_none s none = by_messages s.base.messages refl none where
        by_messages : (messages : List Rsl) →
            s.base.messages ≡ messages →
            first_of_messages messages ≡ None →
            record s { base = record s.base { messages = messages_behind_first s.base.messages } } ≡ s
        by_messages [] are h = ap (λ (all : List Rsl). record s { base = record s.base { messages = messages_behind_first all } }) are ∙ ap (λ (all : List Rsl). record s { base = record s.base { messages = all } }) (sym are)
        by_messages (m ∷ others) are h = absurd cc

pub push_done : (w : Actors) (station : ℕ) (message : Rsl) (stations : List Station) (relay : RelayState) → first_message (base_of w station) ≡ Some message → stations ≡ at_station station given_on w.stations
    → relay ≡ with_item_in (station_item station message) (relay_of w)
    → Takes w (pushed_by_station station (first_message (base_of w station)) w) true (record (with_relay w relay) { stations = stations })
push_done w station message stations relay first is puts =
    subst (λ (o : Option Rsl). Takes w (pushes station w o) true (record (with_relay w relay) { stations = stations })) (sym first) (
      refl,
      ap (λ (all : List Station). record (with_relay w relay) { stations = all }) is
          ∙ ap (λ (r : RelayState). record (with_relay w r) { stations = at_station station given_on w.stations }) puts,
    )
