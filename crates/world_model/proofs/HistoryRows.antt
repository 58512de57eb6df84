-- SPDX-License-Identifier: MIT OR Apache-2.0
-- Histories of queues, stations and the controller.
use Rattle.world_model.proofs.Prelude.{◌≡◌, ℕ, true, false, List, [], ◌∷◌, length, map, None, refl, Assignment, place_at, usual_settings}
use Rattle.world_model.proofs.Prelude.{Zero, activation_ack, RfChannelReleaseAck, rsl_text, Item, What, Connect, AirUp, AirAck, BaseTakes}
use Rattle.world_model.proofs.Prelude.{BasePush, Handle, SwitchTakes, SwitchDoes, Tick, BaseDown, Clear, Asking, On, Moving, Gone, Event}
use Rattle.world_model.proofs.Prelude.{all_given, acknowledgements, due, active_all, all_pushed, all_popped, of_source, all_put, all_taken}
use Rattle.world_model.proofs.Prelude.{all_steps, Actors, new_actors, Step, place_in}
use Rattle.octets.proofs.Hex.{hex}
use Rattle.world_model.proofs.Worlds.{on_literals}
use Rattle.controller_model.specs.declared.step.Step.TheVariants as taken_steps
use Rattle.ruled_relay.specs.declared.item.What.TheVariants as whats
use Rattle.mobile_end.specs.declared.mobile_end.Place.TheVariants as mobile_places
use Rattle.mobile_end.specs.declared.mobile_end.Place.TheVariants.{OnChannel}
use Rattle.world_model.specs.Reading.{frame_of}

abbrev begin : Actors
begin = new_actors usual_settings

-- the octets of items, none of the end of a link
abbrev what_body : What → List ℕ
what_body (whats.Frame frame) = frame.body
what_body whats.Down = []

abbrev item_bodies : List Item → List (List ℕ)
item_bodies items = map (λ item. what_body item.what) items

abbrev step_body : Step → List ℕ
step_body (taken_steps.Take item) = what_body item.what
step_body (taken_steps.Tick ms) = ms ∷ []

-- two mobiles ask; what the first station answers is handled, and the link of the second breaks
abbrev breaks_off : List Event
breaks_off = Connect 1 1 (hex "05 24 71") true ∷ Connect 2 2 (hex "05 24 72") true ∷ Handle ∷ BasePush 2 ∷ BasePush 1 ∷ BasePush 1 ∷ Handle ∷ BaseTakes 2 ∷ BaseTakes 2 ∷ BasePush 2 ∷ Tick 7 ∷ BaseDown 2 ∷ BaseDown 2 ∷ []

pushes : item_bodies (all_pushed begin breaks_off) ≡ (hex "0c 13 01 88 13 02 00 00 11 00") ∷ (hex "0c 13 01 88 13 01 00 00 11 00") ∷ (hex "08 22 01 41 08 00 00") ∷ [] ∷ []
unfolding on_literals
pushes = refl

pushes_of_each : item_bodies (of_source 2 (all_pushed begin breaks_off)) ≡ (hex "0c 13 01 88 13 02 00 00 11 00") ∷ (hex "08 22 01 41 08 00 00") ∷ [] ∷ []
unfolding on_literals
pushes_of_each = refl

pushes_of_the_other : item_bodies (of_source 1 (all_pushed begin breaks_off)) ≡ (hex "0c 13 01 88 13 01 00 00 11 00") ∷ []
unfolding on_literals
pushes_of_the_other = refl

pops : item_bodies (all_popped begin breaks_off) ≡ (hex "0c 13 01 88 13 02 00 00 11 00") ∷ []
unfolding on_literals
pops = refl

gives : map rsl_text (all_given 2 begin breaks_off) ≡ (hex "0c 13 01 88 13 02 00 00 11 00") ∷ (hex "08 22 01 41 08 00 00") ∷ []
unfolding on_literals
gives = refl

gives_of_the_other : map rsl_text (all_given 1 begin breaks_off) ≡ (hex "0c 13 01 88 13 01 00 00 11 00") ∷ []
unfolding on_literals
gives_of_the_other = refl

controller_took : map step_body (all_steps begin breaks_off) ≡ ((hex "0c 13 01 88 13 02 00 00 11 00") ∷ (7 ∷ []) ∷ [])
unfolding on_literals
controller_took = refl

puts : map (λ entry. entry.out.frame.body) (all_put 2 begin breaks_off) ≡ (hex "08 21 01 41 03 00 06 04 00 03 01 00") ∷ []
unfolding on_literals
puts = refl

puts_nothing_there : map (λ entry. entry.out.frame.body) (all_put 1 begin breaks_off) ≡ []
unfolding on_literals
puts_nothing_there = refl

takes_once : map (λ entry. entry.out.frame.body) (all_taken 2 begin breaks_off) ≡ (hex "08 21 01 41 03 00 06 04 00 03 01 00") ∷ []
unfolding on_literals
takes_once = refl

puts_none_where_it_broke : all_put 1 begin (Connect 1 1 (hex "05 24 71") true ∷ BasePush 1 ∷ BaseDown 1 ∷ Handle ∷ Tick 3000 ∷ []) ≡ []
unfolding on_literals
puts_none_where_it_broke = refl

-- a connection opens and is cleared
abbrev clears : List Event
clears = Connect 1 1 (hex "05 24 71") true ∷ BasePush 1 ∷ Handle ∷ BaseTakes 1 ∷ BasePush 1 ∷ Handle ∷ BaseTakes 1 ∷ AirUp 1 Zero ∷ BasePush 1 ∷ Handle ∷ SwitchTakes ∷ AirAck 1 Zero ∷ BasePush 0 ∷ Handle ∷ SwitchTakes ∷ SwitchDoes (Clear 1) ∷ BasePush 0 ∷ Handle ∷ SwitchTakes ∷ SwitchTakes ∷ Tick 1 ∷ []

switch_takes : map (λ entry. entry.out.frame.body) (all_taken 0 begin clears) ≡ (hex "01 00 00 01 02 02 04 02 42 fe 0f 12 00 10 57 05 08 00 00 f1 10 00 01 00 01 17 03 05 24 71 00") ∷ (hex "06 80 00 01 00 01 03 00 01 21") ∷ []
unfolding on_literals
switch_takes = refl

station_took : length (all_taken 1 begin clears) ≡ 2
unfolding on_literals
station_took = refl

station_was_put : map (λ entry. entry.out.frame.body) (all_put 1 begin clears) ≡ (hex "08 21 01 41 03 00 06 04 00 03 01 00") ∷ (hex "0c 16 01 90 2b 17 2d 06 3f 00 41 20 14 01 00 00 00 00 2b 2b 2b 2b 2b 2b 2b 2b 2b 2b 2b") ∷ (hex "03 01 01 41 02 00 0b 00 03 06 0d 00") ∷ (hex "08 2e 01 41") ∷ []
unfolding on_literals
station_was_put = refl

-- acknowledgements that are due
is_due : due 0x41 false (all_put 1 begin clears) ≡ activation_ack 0x41 ∷ RfChannelReleaseAck 0x41 ∷ []
unfolding on_literals
is_due = refl

is_not_due_for_another : due 0x49 false (all_put 1 begin clears) ≡ []
unfolding on_literals
is_not_due_for_another = refl

is_due_once : due 0x41 true (all_put 1 begin clears) ≡ RfChannelReleaseAck 0x41 ∷ []
unfolding on_literals
is_due_once = refl

was_acknowledged : acknowledgements 0x41 (all_given 1 begin clears) ≡ activation_ack 0x41 ∷ []
unfolding on_literals
was_acknowledged = refl

is_active_so_far : active_all 0x41 false (all_taken 1 begin clears) ≡ true
unfolding on_literals
is_active_so_far = refl

is_not_active_in_the_end : active_all 0x41 false (all_put 1 begin clears) ≡ false
unfolding on_literals
is_not_active_in_the_end = refl

no_other_is_active : active_all 0x49 false (all_taken 1 begin clears) ≡ false
unfolding on_literals
no_other_is_active = refl

-- frames of stations, and where a mobile is while it sits or moves
frame_of_a_message : frame_of (activation_ack 0x41) ≡ record { stream = 0; body = (hex "08 22 01 41 08 00 00") }
unfolding on_literals
frame_of_a_message = refl

places : map place_in (Asking ∷ On (record { at = place_at 1 0x41; number = 1 }) None ∷ Moving (record { at = place_at 1 0x41; number = 1 }) (record { change = Assignment; target = record { at = place_at 1 0x0a; number = 2 } }) ∷ Gone ∷ []) ≡ OnChannel ∷ OnChannel ∷ (mobile_places.Moving) ∷ OnChannel ∷ []
unfolding on_literals
places = refl
