-- SPDX-License-Identifier: MIT OR Apache-2.0
-- Definitions of acknowledgements on their way up, at literal values.
use Rattle.world_laws.proofs.Prelude.{◌≡◌, ℕ, true, false, List, [], ◌∷◌, map, refl, place_at, usual_settings, Zero}
use Rattle.world_laws.proofs.Prelude.{activation_ack, data_indication, Rsl, RfChannelRelease, RfChannelReleaseAck, station_item}
use Rattle.world_laws.proofs.Prelude.{Actors, base_of, new_actors, with_base, true≢false, false≢true, read_of, messages_up}
use Rattle.world_laws.proofs.Prelude.{acknowledgements_up, acknowledgements_taken, is_release_ack, NoneReleases, ReleasesLast}
use Rattle.octets.proofs.Hex.{hex}
use Rattle.ruled_relay.specs.declared.item.What.TheVariants as whats
use Rattle.world_model.proofs.Worlds.{on_literals}

abbrev text_on : ℕ → Rsl
text_on channel = data_indication channel Zero (hex "03 05")

-- of station 1 two messages wait in the inbox, and it made two more
abbrev world : Actors
world = record (with_base 1 (record (base_of (new_actors usual_settings) 1) { messages = text_on 0x41 ∷ RfChannelReleaseAck 0x41 ∷ [] }) (new_actors usual_settings)) {
  inbox = station_item 1 (activation_ack 0x41) ∷ station_item 2 (RfChannelReleaseAck 0x41) ∷ station_item 1 (activation_ack 0x0a) ∷ [];
}

read_of_its_station : read_of 1 (station_item 1 (RfChannelReleaseAck 0x41)) ≡ RfChannelReleaseAck 0x41 ∷ []
unfolding on_literals
read_of_its_station = refl

none_of_another_station : read_of 2 (station_item 1 (RfChannelReleaseAck 0x41)) ≡ []
none_of_another_station = refl

none_of_a_break : read_of 1 (record { source = 1; what = whats.Down }) ≡ []
none_of_a_break = refl

inbox_comes_first : messages_up world 1 ≡ activation_ack 0x41 ∷ activation_ack 0x0a ∷ text_on 0x41 ∷ RfChannelReleaseAck 0x41 ∷ []
unfolding on_literals
inbox_comes_first = refl

of_its_channel : acknowledgements_up world (place_at 1 0x41) ≡ activation_ack 0x41 ∷ RfChannelReleaseAck 0x41 ∷ []
unfolding on_literals
of_its_channel = refl

of_another_channel : acknowledgements_up world (place_at 1 0x0a) ≡ activation_ack 0x0a ∷ []
unfolding on_literals
of_another_channel = refl

taken_of_its_channel : acknowledgements_taken (place_at 1 0x41) (station_item 1 (activation_ack 0x41) ∷ station_item 1 (text_on 0x41) ∷ station_item 2 (activation_ack 0x41) ∷ []) ≡ activation_ack 0x41 ∷ []
unfolding on_literals
taken_of_its_channel = refl

releases_are : map is_release_ack (RfChannelReleaseAck 0x41 ∷ RfChannelRelease 0x41 ∷ activation_ack 0x41 ∷ text_on 0x41 ∷ []) ≡ true ∷ false ∷ false ∷ false ∷ []
releases_are = refl

none_is_there : NoneReleases (activation_ack 0x41 ∷ []) × (NoneReleases (activation_ack 0x41 ∷ RfChannelReleaseAck 0x41 ∷ []) → ⊥)
none_is_there = ((refl, tt), λ none. absurd (true≢false none.1.0))

last_is : ReleasesLast (activation_ack 0x41 ∷ RfChannelReleaseAck 0x41 ∷ [])
last_is = ((λ is. absurd (false≢true is)), ((λ is. refl), tt))

last_isnt : ReleasesLast (RfChannelReleaseAck 0x41 ∷ activation_ack 0x41 ∷ []) → ⊥
last_isnt last = absurd (never (last.0 refl)) where
  never : (let xs : List Rsl = activation_ack 0x41 ∷ [] in xs) ≡ [] → ⊥
  never h = absurd cc
