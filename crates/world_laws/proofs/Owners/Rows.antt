-- SPDX-License-Identifier: MIT OR Apache-2.0
-- What the laws' definitions say, at literal events.
use Rattle.world_laws.proofs.Prelude.{◌≡◌, true, false, List, [], ◌∷◌, ◌++◌, option_map, map, Some, None, refl, Connection}
use Rattle.world_laws.proofs.Prelude.{new_connection, connection_of, activation_ack, Rsl, Event, Connect, BaseDown}
use Rattle.world_laws.proofs.Prelude.{BaseTakes, BasePush, Handle, actors_after_all, channel_required, owner_in, station_item, IsMobiles}
use Rattle.world_laws.proofs.Prelude.{is_request_of, requests_in, requests_up}
use Rattle.octets.proofs.Hex.{hex}
use Rattle.world_model.proofs.Worlds.{on_literals}
use Rattle.world_laws.proofs.Owners.LinkEnds.{frame_down}
use Rattle.world_laws.specs.Owners.LinkEnds.{EndsWithDown, LinksAreUp, down_of}
use Rattle.world_laws.proofs.Usual.{begin, channel}

-- ---- requests

of_its_mobile : map (λ m. is_request_of 7 m) (channel_required 7 ∷ channel_required 9 ∷ activation_ack 7 ∷ []) ≡ true ∷ false ∷ false ∷ []
of_its_mobile = refl

counted : requests_in 7 (channel_required 7 ∷ activation_ack 0x41 ∷ channel_required 9 ∷ channel_required 7 ∷ []) ≡ 2
counted = refl

-- mobile 7 asks for a channel
abbrev asking : List Event
asking = Connect 7 1 (hex "05 24 71") true ∷ []

made_by_the_station : requests_up (actors_after_all begin asking) 7 ≡ 1
unfolding on_literals begin
made_by_the_station = refl

none_of_another : requests_up (actors_after_all begin asking) 9 ≡ 0
unfolding on_literals begin
none_of_another = refl

asks_once : requests_up (actors_after_all begin (asking ++ asking)) 7 ≡ 1
unfolding on_literals begin
asks_once = refl

in_the_inbox : requests_up (actors_after_all begin (asking ++ BasePush 1 ∷ [])) 7 ≡ 1
unfolding on_literals begin
in_the_inbox = refl

-- the controller takes it, and a connection of the mobile begins
answered : requests_up (actors_after_all begin (asking ++ BasePush 1 ∷ Handle ∷ [])) 7 ≡ 0
unfolding on_literals begin
answered = refl

answered_by : option_map (λ s. s.request.access) (connection_of (actors_after_all begin (asking ++ BasePush 1 ∷ Handle ∷ [])).controller 1) ≡ Some 7
unfolding on_literals begin
answered_by = refl

unanswered_before : option_map (λ s. s.request.access) (connection_of (actors_after_all begin (asking ++ BasePush 1 ∷ [])).controller 1) ≡ None
unfolding on_literals begin
unanswered_before = refl

-- a request that was made is lost with its link
lost : requests_up (actors_after_all begin (asking ++ BaseDown 1 ∷ [])) 7 ≡ 0
unfolding on_literals begin
lost = refl

-- ---- the ends of links

abbrev made : Rsl
made = activation_ack 0x41

down_comes_last : EndsWithDown 1 (station_item 1 made ∷ down_of 1 ∷ station_item 2 made ∷ [])
down_comes_last = ((λ is. absurd (frame_down 1 (station_item 1 made) _ refl is)), ((λ is. refl), ((λ is. absurd (frame_down 1 (station_item 2 made) _ refl is)), tt)))

nothing_behind : EndsWithDown 1 (down_of 1 ∷ station_item 1 made ∷ []) → ⊥
unfolding on_literals
nothing_behind ends = let empty = ends.0 refl in absurd cc

down_once : EndsWithDown 1 (down_of 1 ∷ down_of 1 ∷ []) → ⊥
unfolding on_literals
down_once ends = let empty = ends.0 refl in absurd cc

-- ---- whose a channel is

-- it was activated for mobile 7, and the station took that
abbrev activated : List Event
activated = asking ++ BasePush 1 ∷ Handle ∷ BaseTakes 1 ∷ []

its_own : IsMobiles (owner_in begin activated) (actors_after_all begin activated) 7 (channel 1 0x41)
unfolding on_literals begin
its_own = record { last = λ up. refl; present = λ up active. refl }

no_others : IsMobiles (owner_in begin activated) (actors_after_all begin activated) 9 (channel 1 0x41) → ⊥
unfolding on_literals begin
no_others own = let is = own.last refl in absurd cc

-- ---- the links of a connection

abbrev connection : Connection
connection = new_connection 1 (channel 1 0x41) (record { access = 7; frame = 0 }) 0

links_up : LinksAreUp (actors_after_all begin activated) connection
unfolding on_literals begin
links_up = record { switch = refl; stations = (refl, tt) }

links_down : LinksAreUp (actors_after_all begin (activated ++ BaseDown 1 ∷ BasePush 1 ∷ Handle ∷ Handle ∷ [])) connection → ⊥
unfolding on_literals begin
links_down links = let up = links.stations.0 in absurd cc
