-- SPDX-License-Identifier: MIT OR Apache-2.0
-- Rows: the message that a mobile connected with, and the beginning of the messages that the switch
-- took on its connection.
use Rattle.std.proofs.Common.{◌≡◌, ℕ, zero, suc, ◌-◌, Bool, true, if◌then◌else◌, List, [], ◌∷◌, ◌++◌, map, option_map, slice_get}
use Rattle.std.proofs.Common.{slice_index_or, Some, None, refl, sym, ap, ◌∙◌, arith}
use Rattle.std.proofs.lemmas.Bool.{ne_eqb}
use Rattle.std.proofs.lemmas.Option.{none-some, same_Some}
use Rattle.octets.proofs.Hex.{hex}
use Rattle.controller_model.proofs.Lives.{usual_settings}
use Rattle.dtap_codec.specs.declared.sapi.Sapi.TheVariants.{Zero}
use Rattle.msc_end.specs.declared.connection.Connection.{Connection}
use Rattle.msc_end.specs.declared.connection.Stage.TheVariants.{Open}
use Rattle.world_laws.specs.Order.Order.{opener_of}
use Rattle.world_model.specs.declared.event.Event.{Event}
use Rattle.world_model.specs.declared.event.Event.TheVariants.{AirUp, BasePush, BaseTakes, Connect, Handle, SwitchTakes}
use Rattle.world_model.specs.Life.{actors_after_all}
use Rattle.world_model.specs.Views.{taken}
use Rattle.world_model.specs.World.{Actors, new_actors}
use Rattle.world_model.proofs.Worlds.{on_literals}
use Rattle.world_openers.specs.Initials.{initial_at, initial_of}
use Rattle.world_openers.specs.Openers.{BeginsWithMessage, OpenersMessageIsFirst}

abbrev beginning : Actors
beginning = new_actors usual_settings

abbrev paging_response : List ℕ
paging_response = hex "06 27 00"

abbrev service_request : List ℕ
service_request = hex "05 24 71"

-- ---- with which message it connected

abbrev connects_with : List ℕ → Event
connects_with message = Connect 1 1 message true

-- it is its own message, at its own event
at_its_event : map (initial_at beginning (connects_with paging_response)) (0 ∷ 1 ∷ 2 ∷ []) ≡ None ∷ Some paging_response ∷ None ∷ []
unfolding on_literals
at_its_event = refl

at_another_event : initial_at beginning (AirUp 1 Zero) 1 ≡ None
at_another_event = refl

-- where the event can't be taken it is none: no such station is there, or no connection begins so
at_no_station : initial_at beginning (Connect 1 9 paging_response true) 1 ≡ None
unfolding on_literals
at_no_station = refl

no_initial_message : initial_at beginning (connects_with (hex "03 05")) 1 ≡ None
unfolding on_literals
no_initial_message = refl

-- it connects once
at_first : initial_of beginning (connects_with paging_response ∷ connects_with service_request ∷ []) 1 ≡ Some paging_response
unfolding on_literals
at_first = refl

not_again : initial_at (actors_after_all beginning (connects_with paging_response ∷ [])) (connects_with service_request) 1 ≡ None
unfolding on_literals
not_again = refl

-- after an event that couldn't be taken
at_second : initial_of beginning (Connect 1 9 paging_response true ∷ connects_with service_request ∷ []) 1 ≡ Some service_request
unfolding on_literals
at_second = refl

each_its_own : map (initial_of beginning (Connect 9 2 paging_response true ∷ connects_with service_request ∷ []))
    (1 ∷ 2 ∷ 9 ∷ []) ≡ Some service_request ∷ None ∷ Some paging_response ∷ []
unfolding on_literals
each_its_own = refl

-- ---- how what the switch took begins

-- the mobile of this number connects with this message, up to the connection request that the
-- switch takes
abbrev opening_by : ℕ → ℕ → List ℕ → List Event
opening_by mobile station message =
    Connect mobile station message true ∷ BasePush station ∷ Handle ∷ BaseTakes station ∷ BasePush station ∷ Handle ∷ BaseTakes station
    ∷ AirUp mobile Zero ∷ BasePush station ∷ Handle ∷ SwitchTakes ∷ []

-- mobile 9 answers a call, and then mobile 1 asks for a service
abbrev two_open : List Event
two_open = opening_by 9 2 paging_response ++ opening_by 1 1 service_request

what_was_taken : map (taken (actors_after_all beginning two_open)) (0 ∷ 1 ∷ 2 ∷ 3 ∷ []) ≡ None ∷ Some (paging_response ∷ []) ∷ Some
    (service_request ∷ []) ∷ None ∷ []
unfolding on_literals
what_was_taken = refl

called : BeginsWithMessage beginning two_open 1 (paging_response ∷ [])
unfolding on_literals
called = record { mobile = 9; opened = refl; initial = paging_response; connected = refl; others = []; first = refl }

asks : BeginsWithMessage beginning two_open 2 (service_request ∷ paging_response ∷ [])
unfolding on_literals
asks = record { mobile = 1; opened = refl; initial = service_request; connected = refl; others = paging_response ∷ []; first = refl }

-- so of each connection
none_behind : (n : ℕ) → taken (actors_after_all beginning two_open) (suc (suc (suc n))) ≡ None
unfolding on_literals
none_behind n =
    let number : ℕ = suc (suc (suc n)) in
    let place : suc (suc (suc n)) - 1 ≡ suc (suc n) = omega arith in
    ap (λ (b : Bool). option_map (λ (c : Connection). c.reception.taken)
    (if b then None else slice_get (actors_after_all beginning two_open).switch.connections (number - 1)))
    (ne_eqb number 0 (λ is. absurd (omega (arith, is))))
    ∙ ap (λ (i : ℕ). option_map (λ (c : Connection). c.reception.taken)
    (slice_get (actors_after_all beginning two_open).switch.connections i)) place

each_begins : OpenersMessageIsFirst beginning two_open
unfolding on_literals
each_begins zero list is = absurd (none-some list is)
each_begins (suc zero) list is =
    record {
      mobile = 9;
      opened = refl;
      initial = paging_response;
      connected = refl;
      others = [];
      first =
          sym (same_Some (paging_response ∷ []) list is);
    }
each_begins (suc (suc zero)) list is =
    record {
      mobile = 1;
      opened = refl;
      initial = service_request;
      connected = refl;
      others = [];
      first =
          sym (same_Some (service_request ∷ []) list is);
    }
each_begins (suc (suc (suc n))) list is = absurd (none-some list (sym (none_behind n) ∙ is))

-- ---- what doesn't

-- the opener and its message are these
begins_so : {begin : Actors} {events : List Event} {connection : ℕ} {list : List (List ℕ)} (mobile : ℕ) (initial : List ℕ)
    → opener_of begin events connection ≡ Some mobile → initial_of begin events mobile ≡ Some initial
    → BeginsWithMessage begin events connection list → (others : List (List ℕ)) × (list ≡ initial ∷ others)
begins_so {begin} {events} mobile initial whose own begins =
    let is : begins.mobile ≡ mobile = same_Some _ _ (sym begins.opened ∙ whose) in
    let message : begins.initial ≡ initial = same_Some _ _ (sym begins.connected ∙ ap (initial_of begin events) is ∙ own) in
    (begins.others, begins.first ∙ ap (λ (x : List ℕ). x ∷ begins.others) message)

-- the octet at a place of the first message
abbrev octet_in : ℕ → List (List ℕ) → ℕ
octet_in place list = slice_index_or (slice_index_or list 0 []) place 0

opener_of_one : opener_of beginning two_open 1 ≡ Some 9
unfolding on_literals
opener_of_one = refl

opener_of_two : opener_of beginning two_open 2 ≡ Some 1
unfolding on_literals
opener_of_two = refl

opener_of_three : opener_of beginning two_open 3 ≡ None
unfolding on_literals
opener_of_three = refl

message_of_nine : initial_of beginning two_open 9 ≡ Some paging_response
unfolding on_literals
message_of_nine = refl

message_of_one : initial_of beginning two_open 1 ≡ Some service_request
unfolding on_literals
message_of_one = refl

-- the message of another mobile is first
anothers_first : BeginsWithMessage beginning two_open 1 (service_request ∷ paging_response ∷ []) → ⊥
anothers_first begins =
    let so = begins_so 9 paging_response opener_of_one message_of_nine begins in
    let differ : 5 ≡ 6 = ap (octet_in 0) so.1 in
    absurd (omega (arith, differ))

-- it carries another number than 0
numbered_one : BeginsWithMessage beginning two_open 2 ((hex "05 64 71") ∷ []) → ⊥
numbered_one begins =
    let so = begins_so 1 service_request opener_of_two message_of_one begins in
    let differ : 0x64 ≡ 0x24 = ap (octet_in 1) so.1 in
    absurd (omega (arith, differ))

-- nothing was taken
nothing_first : BeginsWithMessage beginning two_open 1 [] → ⊥
nothing_first begins = let none : [] ≡ begins.initial ∷ begins.others = begins.first in absurd cc

-- the connection isn't there
nobodys : BeginsWithMessage beginning two_open 3 (paging_response ∷ []) → ⊥
nobodys begins = none-some begins.mobile (sym opener_of_three ∙ begins.opened)

-- a switch that took another message of the connection, before its mobile's arrived
abbrev took_before : Actors
took_before =
    record beginning {
      switch =
          record beginning.switch {
            connections =
                record { peer = 1; stage = Open; reception = record { modulus = 4; taken = service_request ∷ [] }; number = 65537 } ∷ [];
          };
    }

opener_before : opener_of took_before (opening_by 1 1 paging_response) 1 ≡ Some 1
unfolding on_literals
opener_before = refl

message_before : initial_of took_before (opening_by 1 1 paging_response) 1 ≡ Some paging_response
unfolding on_literals
message_before = refl

taken_before : taken (actors_after_all took_before (opening_by 1 1 paging_response)) 1 ≡ Some (service_request ∷ [])
unfolding on_literals
taken_before = refl

another_before : OpenersMessageIsFirst took_before (opening_by 1 1 paging_response) → ⊥
another_before all =
    let so = begins_so 1 paging_response opener_before message_before (all 1 (service_request ∷ []) taken_before) in
    let differ : 5 ≡ 6 = ap (octet_in 0) so.1 in
    absurd (omega (arith, differ))
