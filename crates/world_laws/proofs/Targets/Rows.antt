-- SPDX-License-Identifier: MIT OR Apache-2.0
-- Definitions in worlds of literal events: what is quiet, and what is fresh.
use Rattle.world_laws.proofs.Prelude.{◌≡◌, ℕ, true, false, List, [], ◌∷◌, slice_index_or, Some, None, refl, ap, arith, Assignment, Handover}
use Rattle.world_laws.proofs.Prelude.{Place, Active, Preparing, Changing, Live, place_at, usual_settings, Zero, Given}
use Rattle.world_laws.proofs.Prelude.{Reached, data_indication, establish_indication, Connected, DataLinkState, Rsl, RfChannelReleaseAck}
use Rattle.world_laws.proofs.Prelude.{BasePush, BaseTakes, Handle, SwitchDoes, Assign, Seat, Asking, On, Gone, complete, station_item}
use Rattle.world_laws.proofs.Prelude.{Actors, Mobile, World, new_actors, outbox_of, opened, after_all, idle_link, BeginWith, IsAwaited}
use Rattle.world_laws.proofs.Prelude.{IsFreshIn, IsLedBy, IsOnPlace, IsQuiet, AreOnActive, is_ending}
use Rattle.octets.proofs.Hex.{hex}
use Rattle.mobile_end.specs.declared.mobile_end.Place.TheVariants.{OnChannel}
use Rattle.world_model.proofs.Worlds.{on_literals}
use Rattle.world_laws.proofs.Usual.{channel, to_0a}

-- ---- worlds

-- an assignment begins: its to_0a is to be activated
abbrev prepared : World
prepared = after_all opened (SwitchDoes (Assign 1) ∷ BasePush 0 ∷ Handle ∷ [])

-- the COMMAND waits for the station
abbrev at_command : World
at_command = after_all prepared (BaseTakes 1 ∷ BasePush 1 ∷ Handle ∷ [])

-- what a station made waits in the inbox of a new world
abbrev with_inbox : List Rsl → Actors
with_inbox [] = new_actors usual_settings
with_inbox (first ∷ []) = record (new_actors usual_settings) { inbox = station_item 1 first ∷ [] }
with_inbox (first ∷ second ∷ others) = record (new_actors usual_settings) { inbox = station_item 1 first ∷ station_item 1 second ∷ [] }

abbrev text : List ℕ
text = hex "03 45"

-- ---- quiet channels

new_is_quiet : IsQuiet (new_actors usual_settings) (place_at 1 0x41)
unfolding on_literals
new_is_quiet = record { nothing_arrives = refl; none_opens = refl; none_commanded = refl }

not_quiet_while_a_message_comes : IsQuiet (with_inbox (data_indication 0x41 Zero text ∷ [])) (place_at 1 0x41) → ⊥
unfolding on_literals
not_quiet_while_a_message_comes quiet = let none = quiet.nothing_arrives in absurd cc

quiet_beside : IsQuiet (with_inbox (data_indication 0x0a Zero text ∷ [])) (place_at 1 0x41)
unfolding on_literals
quiet_beside = record { nothing_arrives = refl; none_opens = refl; none_commanded = refl }

not_quiet_while_it_opens : IsQuiet (with_inbox (establish_indication 0x41 Zero (Some text) ∷ [])) (place_at 1 0x41) → ⊥
unfolding on_literals
not_quiet_while_it_opens quiet = let none = quiet.none_opens in absurd cc

not_quiet_at_command : IsQuiet (at_command).actors (place_at 1 0x41) → ⊥
unfolding on_literals
not_quiet_at_command quiet = let none = quiet.none_commanded in absurd cc

-- ---- commands in the tenures of their channel

on_active : AreOnActive 0x41 true (outbox_of (at_command).actors 1)
unfolding on_literals
on_active = ((λ idle. absurd cc), tt)

not_on_idle : AreOnActive 0x41 false (outbox_of (at_command).actors 1) → ⊥
unfolding on_literals
not_on_idle valid = let none = valid.0 refl in absurd cc

idle_beside_another : AreOnActive 0x0a false (outbox_of (at_command).actors 1)
unfolding on_literals
idle_beside_another = ((λ idle. refl), tt)

ends_on_its_way : is_ending (with_inbox (RfChannelReleaseAck 0x41 ∷ [])) (place_at 1 0x41) ≡ true
unfolding on_literals
ends_on_its_way = refl

none_ends : is_ending (with_inbox (data_indication 0x41 Zero text ∷ RfChannelReleaseAck 0x0a ∷ [])) (place_at 1 0x41) ≡ false
unfolding on_literals
none_ends = refl

-- ---- what is first

begins : BeginWith (complete Assignment) (complete Assignment ∷ text ∷ []) × BeginWith (complete Assignment) []
begins = (refl, tt)

begins_not : (BeginWith (complete Assignment) (text ∷ complete Assignment ∷ []) → ⊥) × (BeginWith (complete Assignment) (complete Handover ∷ []) → ⊥)
unfolding on_literals
begins_not = (
  λ is. let octet : 0x03 ≡ 0x06 = ap (λ (xs : List ℕ). slice_index_or xs 0 0) is in absurd (omega (arith, octet)),
  λ is. let octet : 0x2c ≡ 0x29 = ap (λ (xs : List ℕ). slice_index_or xs 1 0) is in absurd (omega (arith, octet)),
)

-- ---- targets

abbrev mobile : Seat → DataLinkState → Mobile
mobile seat link = record {
  number = 1;
  end = record { modulus = 4; stage = Connected; place = OnChannel; sent = []; zero = link; three = idle_link };
  accepts_sapi_three = true;
  seat = seat;
  opens = false;
  received = [];
}

abbrev on_target : Seat
on_target = On (record { at = place_at 1 0x0a; number = 1 }) None

is_there : IsOnPlace on_target (place_at 1 0x0a) × (IsOnPlace on_target (place_at 1 0x41) → ⊥) × (IsOnPlace Gone (place_at 1 0x0a) → ⊥) × (IsOnPlace Asking (place_at 1 0x0a) → ⊥)
is_there = (refl, λ is. let number : 0x0a ≡ 0x41 = ap (λ (p : Place). p.number) is in absurd (omega (arith, number)), λ is. is, λ is. is)

awaited_while_prepared : IsAwaited (prepared).actors (channel 1 0x0a)
unfolding on_literals
awaited_while_prepared = record { silent = refl; uncommanded = refl }

not_awaited_where_a_message_comes : IsAwaited (with_inbox (data_indication 0x0a Zero text ∷ [])) (channel 1 0x0a) → ⊥
unfolding on_literals
not_awaited_where_a_message_comes awaited = let none = awaited.silent in absurd cc

not_awaited_where_a_command_waits : IsAwaited (at_command).actors (channel 1 0x41) → ⊥
unfolding on_literals
not_awaited_where_a_command_waits awaited = let none = awaited.uncommanded in absurd cc

-- COMPLETE is on its way, and a message behind it
led_by_complete : IsLedBy (with_inbox (data_indication 0x0a Zero (complete Assignment) ∷ data_indication 0x0a Zero text ∷ [])) (mobile on_target idle_link) to_0a
unfolding on_literals
led_by_complete = record { first = refl; gives = λ none. absurd cc }

-- or the mobile gives it first
led_by_its_mobile : IsLedBy (new_actors usual_settings) (mobile on_target (record { waiting = text ∷ []; air = Given (complete Assignment) })) to_0a
unfolding on_literals
led_by_its_mobile = record { first = tt; gives = λ none up there. refl }

led_while_it_is_elsewhere : IsLedBy (new_actors usual_settings) (mobile Gone (record { waiting = text ∷ []; air = Reached text })) to_0a
unfolding on_literals
led_while_it_is_elsewhere = record { first = tt; gives = λ none up there. absurd there }

not_led_by_a_text : IsLedBy (with_inbox (data_indication 0x0a Zero text ∷ data_indication 0x0a Zero (complete Assignment) ∷ [])) (mobile on_target idle_link) to_0a →
    ⊥
unfolding on_literals
not_led_by_a_text led = let first = led.first in absurd cc

not_led_where_a_text_is_given : IsLedBy (new_actors usual_settings) (mobile on_target (record { waiting = complete Assignment ∷ []; air = Given text })) to_0a →
    ⊥
unfolding on_literals
not_led_where_a_text_is_given led = let given = led.gives refl refl refl in absurd cc

-- by the state of the connection
fresh_by_state : IsFreshIn (prepared).actors (mobile Gone idle_link) (Live 0x800001 (Preparing to_0a)) × IsFreshIn (at_command).actors (mobile Gone idle_link) (Live 0x800001 Active)
unfolding on_literals
fresh_by_state = (record { silent = refl; uncommanded = refl }, tt)

not_fresh_while_changing : IsFreshIn (with_inbox (data_indication 0x0a Zero text ∷ [])) (mobile on_target idle_link) (Live 0x800001 (Changing to_0a)) →
    ⊥
unfolding on_literals
not_fresh_while_changing led = let first = led.first in absurd cc
