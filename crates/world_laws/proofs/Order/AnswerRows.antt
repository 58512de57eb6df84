-- SPDX-License-Identifier: MIT OR Apache-2.0
-- What the laws' definitions say, at literal events.
use Rattle.world_laws.proofs.Prelude.{◌≡◌, ℕ, true, List, [], ◌∷◌, option_map, Some, refl, sym, ap, ◌∙◌, arith, connection_of}
use Rattle.world_laws.proofs.Prelude.{to_be_taken, BasePush, Connect, Handle, actors_after_all, connected, Mobile, mobile_of, controls_of}
use Rattle.world_laws.proofs.Prelude.{behind_first, IsNew}
use Rattle.octets.proofs.Hex.{hex}
use Rattle.world_model.proofs.Worlds.{on_literals}
use Rattle.world_laws.proofs.Order.Coming.{connected_runs}
use Rattle.world_laws.proofs.Usual.{begin, service_request}

-- a mobile that asks with PAGING RESPONSE
abbrev paging : List ℕ
paging = hex "06 27 71"

-- ---- as it connected

-- it remains so until it is assigned its channel
still_asks : mobile_of (actors_after_all begin (Connect 7 1 service_request true ∷ BasePush 1 ∷ [])) 7 ≡ Some (connected 4 7 service_request true)
unfolding on_literals begin
still_asks = refl

-- also where a connection has begun by its request
asks_of_its_connection : mobile_of (actors_after_all begin (Connect 7 1 service_request true ∷ BasePush 1 ∷ Handle ∷ [])) 7 ≡ Some (connected 4 7 service_request true)
unfolding on_literals begin
asks_of_its_connection = refl

begun_for_it : option_map (λ s. s.request.access) (connection_of (actors_after_all begin (Connect 7 1 service_request true ∷ BasePush 1 ∷ Handle ∷ [])).controller 1) ≡ Some 7
unfolding on_literals begin
begun_for_it = refl

-- ---- how it begins

-- its link holds its initial message, and nothing behind it
holds_service : to_be_taken (connected 4 7 service_request true).end.zero ≡ service_request ∷ []
holds_service = refl

holds_paging : to_be_taken (connected 4 7 paging true).end.zero ≡ paging ∷ []
holds_paging = refl

-- a PAGING RESPONSE would be counted with COMPLETE and FAILURE, but the initial message is not
-- among what is counted
counted_of_paging : controls_of (to_be_taken (connected 4 7 paging true).end.zero) ≡ 1
counted_of_paging = refl

behind_paging : controls_of (behind_first (to_be_taken (connected 4 7 paging true).end.zero)) ≡ 0
behind_paging = refl

-- so a mobile is new with any initial message
new_with_service : IsNew 4 (connected 4 7 service_request true)
new_with_service = record { opens = refl; carries_on = connected_runs 4 service_request refl; no_control = refl }

new_with_paging : IsNew 4 (connected 4 7 paging true)
new_with_paging = record { opens = refl; carries_on = connected_runs 4 paging refl; no_control = refl }

-- and not with a message of radio resource management behind it
one_and_none : (n : ℕ) → n ≡ 1 → n ≡ 0 → ⊥
one_and_none n one none = absurd (omega (arith, one, none))

not_new_with_paging_behind : (p : Mobile) → to_be_taken p.end.zero ≡ service_request ∷ paging ∷ [] → IsNew 4 p → ⊥
not_new_with_paging_behind p holds new = one_and_none 1 refl (ap (λ (messages : List (List ℕ)). controls_of (behind_first messages)) (sym holds) ∙ new.no_control)

-- a connection begins for a mobile with PAGING RESPONSE as for any other
begun_with_paging : option_map (λ s. s.request.access) (connection_of (actors_after_all begin (Connect 7 1 paging true ∷ BasePush 1 ∷ Handle ∷ [])).controller 1) ≡ Some 7
unfolding on_literals begin
begun_with_paging = refl

asked_with_paging : mobile_of (actors_after_all begin (Connect 7 1 paging true ∷ BasePush 1 ∷ Handle ∷ [])) 7 ≡ Some (connected 4 7 paging true)
unfolding on_literals begin
asked_with_paging = refl
