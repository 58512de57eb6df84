-- SPDX-License-Identifier: MIT OR Apache-2.0
-- Definitions at literal values: which messages let a mobile go, which states are early, and what a
-- mobile begins with.
use Rattle.world_laws.proofs.Prelude.{◌≡◌, ℕ, true, false, List, [], ◌∷◌, Some, option_map, refl, arith, Place, WaitActivation, WaitConfirm}
use Rattle.world_laws.proofs.Prelude.{place_at, usual_settings, Zero, Three, Empty, data_indication, establish_indication, AirAck, AirUp}
use Rattle.world_laws.proofs.Prelude.{BasePush, BaseTakes, Connect, Handle, Upper, connected, station_item, Actors, Mobile, World}
use Rattle.world_laws.proofs.Prelude.{mobile_of, new_actors, new_world, after_all, is_release, messages_in, coming_up, initial_by}
use Rattle.world_laws.proofs.Prelude.{initials_up, BeginsOnce, IsNew, behind_first, data_by, data_up, IsEarlyIn}
use Rattle.octets.proofs.Hex.{hex}
use Rattle.dtap_codec.specs.RrReading.{cause_at, rr_reading, typed_at}
use Rattle.dtap_codec.specs.RrType.{rr_type}
use Rattle.octets.specs.Front.{octet_at}
use Rattle.dtap_codec.specs.Places.Rise.{over}
use Rattle.world_model.proofs.Worlds.{on_literals}
use Rattle.world_laws.specs.Access.Coming.BeginsOnce.{began, to_begin}
use Rattle.world_laws.proofs.Usual.{paging_response, service_request}

-- CHANNEL RELEASE with a cause
a_release : is_release (rr_reading (hex "06 0d 00")) ≡ true
unfolding rr_reading typed_at rr_type cause_at octet_at
a_release = refl

-- without one it is none
a_short_one : is_release (rr_reading (hex "06 0d")) ≡ false
unfolding rr_reading typed_at rr_type cause_at octet_at
a_short_one = refl

-- a text of call control
a_text : is_release (rr_reading (hex "03 0d 00")) ≡ false
unfolding rr_reading typed_at rr_type cause_at octet_at
a_text = refl

early_at_first : IsEarlyIn WaitActivation
early_at_first = tt

early_until_the_request : IsEarlyIn WaitConfirm → ⊥
early_until_the_request early = early

-- ---- what a mobile begins with

behind_none : behind_first [] ≡ []
behind_none = refl

behind_one : behind_first (paging_response ∷ service_request ∷ paging_response ∷ []) ≡ service_request ∷ paging_response ∷ []
behind_one = refl

-- a PAGING RESPONSE, which is of radio resource management
abbrev called : Mobile
called = connected 4 1 paging_response true

begins_with_it : IsNew 4 called
begins_with_it = record { opens = refl; carries_on = record { now = over 0; anew = over 0 }; no_control = refl }

-- but not behind another message
abbrev with_two : List ℕ → List ℕ → Mobile
with_two first second = record called { end = record called.end { zero = record { waiting = first ∷ second ∷ []; air = Empty } } }

begins_and_continues : IsNew 4 (with_two paging_response (hex "09 01"))
begins_and_continues = record { opens = refl; carries_on = record { now = over 0; anew = over 0 }; no_control = refl }

begins_with_another : IsNew 4 (with_two (hex "09 01") paging_response) → ⊥
begins_with_another new = let none = new.no_control in cc

begins_with_two : IsNew 4 (with_two paging_response paging_response) → ⊥
begins_with_two new = let none = new.no_control in cc

-- ---- what a DATA INDICATION of SAPI 0 brings of a channel

brings_data : data_by 0x41 (data_indication 0x41 Zero paging_response) ≡ paging_response ∷ []
brings_data = refl

of_another_channel : data_by 0x41 (data_indication 0x42 Zero paging_response) ≡ []
of_another_channel = refl

of_short_messages : data_by 0x41 (data_indication 0x41 Three paging_response) ≡ []
of_short_messages = refl

-- an initial message arrives in an ESTABLISH INDICATION
of_an_initial_one : (data_by 0x41 (establish_indication 0x41 Zero (Some paging_response)) ≡ []) × (initial_by 0x41 (establish_indication 0x41 Zero (Some paging_response)) ≡ paging_response ∷ [])
of_an_initial_one = (refl, refl)

-- ---- it begins once: on its channel, and once its station took the initial message and the one behind it

abbrev on_channel : World
on_channel = after_all (new_world usual_settings) (Connect 1 1 paging_response true ∷ BasePush 1 ∷ Handle ∷ BaseTakes 1 ∷ BasePush 1 ∷ Handle ∷ BaseTakes 1 ∷ [])

abbrev was_sent : World
was_sent = after_all on_channel (AirUp 1 Zero ∷ Upper 1 Zero service_request ∷ AirAck 1 Zero ∷ AirUp 1 Zero ∷ [])

abbrev seat_at : Place
seat_at = place_at 1 0x41

to_begin_there : option_map (λ p. p.opens) (mobile_of on_channel.actors 1) ≡ Some true
unfolding on_literals
to_begin_there = refl

none_came : messages_in (coming_up on_channel.actors seat_at) ≡ []
unfolding on_literals
none_came = refl

began_there : option_map (λ p. p.opens) (mobile_of was_sent.actors 1) ≡ Some false
unfolding on_literals
began_there = refl

one_initial : initials_up was_sent.actors seat_at ≡ paging_response ∷ []
unfolding on_literals
one_initial = refl

one_behind : data_up was_sent.actors seat_at ≡ service_request ∷ []
unfolding on_literals
one_behind = refl

-- with what is on its way up behind the initial message, and what its link still gives
abbrev behind_it : List ℕ → Actors
behind_it message = record (new_actors usual_settings) { inbox = station_item 1 (establish_indication 0x41 Zero (Some paging_response)) ∷ station_item 1 (data_indication 0x41 Zero message) ∷ [] }

abbrev sender : List (List ℕ) → Mobile
sender messages = record called { opens = false; end = record called.end { zero = record { waiting = messages; air = Empty } } }

behind_it_comes : data_up (behind_it service_request) seat_at ≡ service_request ∷ []
unfolding on_literals
behind_it_comes = refl

began_with_it : BeginsOnce (behind_it service_request) (sender (service_request ∷ [])) seat_at
unfolding on_literals
began_with_it = began refl (omega arith) refl

-- none of radio resource management is on its way up behind it
none_is_behind : BeginsOnce (behind_it paging_response) (sender []) seat_at → ⊥
unfolding on_literals
none_is_behind (to_begin opens silent behind) = absurd cc
none_is_behind (began opens few left) = absurd cc

-- or to be taken of its link
none_is_to_come : BeginsOnce (behind_it service_request) (sender (paging_response ∷ [])) seat_at → ⊥
unfolding on_literals
none_is_to_come (to_begin opens silent behind) = absurd cc
none_is_to_come (began opens few left) = absurd cc
