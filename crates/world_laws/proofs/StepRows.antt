-- SPDX-License-Identifier: MIT OR Apache-2.0
-- Definitions of steps, at literal values.
use Rattle.world_laws.proofs.Prelude.{◌≡◌, ℕ, ◌==◌, Bool, true, false, if◌then◌else◌, List, [], ◌∷◌, map, Some, None, refl, arith}
use Rattle.world_laws.proofs.Prelude.{Assignment, Channel, Place, Drain, Active, Changing, Draining, State, Live, WaitActivation}
use Rattle.world_laws.proofs.Prelude.{WaitConfirm, WaitEstablish, Connection, new_connection, place_at, Zero, Three, Carries, next}
use Rattle.world_laws.proofs.Prelude.{Held, empty_tenure, establish_indication, data_indication, activation_ack, Empty, Given}
use Rattle.world_laws.proofs.Prelude.{DataLinkState, RfChannelReleaseAck, station_item, rr_reading, rise_over, fresh, released, on_serving}
use Rattle.world_laws.proofs.Prelude.{on_target, moving, gone, brings, brings_in, made_of, is_ended, is_opening, Opens, OwnStep}
use Rattle.world_laws.proofs.Prelude.{StillAwaits, lacks, change_in, EndsLast, mark, texts_of}
use Rattle.octets.proofs.Hex.{hex}
use Rattle.world_laws.specs.LineUp.Places.{Item}
use Rattle.world_laws.specs.LineUp.Places.Item.{brought}
use Rattle.world_model.proofs.Worlds.{on_literals}
use Rattle.world_laws.specs.LineUps.{has_arrived}
use Rattle.world_laws.specs.OwnRow.{over}
use Rattle.world_laws.specs.OwnStep.OwnStep.{completes, tells}
use Rattle.world_laws.proofs.Usual.{channel, to_0a, opening_sent}

-- ---- what a message brings of a channel

initial_is_brought : brings 0x41 (establish_indication 0x41 Zero (Some (hex "05 24"))) ≡ brought (hex "05 24") ∷ []
initial_is_brought = refl

data_is_brought : brings 0x41 (data_indication 0x41 Zero (hex "03 45")) ≡ brought (hex "03 45") ∷ []
data_is_brought = refl

end_is_brought : brings 0x41 (RfChannelReleaseAck 0x41) ≡ released ∷ []
end_is_brought = refl

of_this_channel_alone : made_of 0x41 (data_indication 0x0a Zero (hex "03 45") ∷ RfChannelReleaseAck 0x0a ∷ establish_indication 0x41 Zero None ∷ data_indication 0x41 Three (hex "09 01") ∷ activation_ack 0x41 ∷ []) ≡ []
of_this_channel_alone = refl

of_this_station_alone : brings_in (place_at 2 0x41) (station_item 1 (data_indication 0x41 Zero (hex "03 45"))) ≡ []
unfolding on_literals
of_this_station_alone = refl

in_the_inbox : brings_in (place_at 1 0x41) (station_item 1 (data_indication 0x41 Zero (hex "03 45"))) ≡ brought (hex "03 45") ∷ []
unfolding on_literals
in_the_inbox = refl

-- ---- what is missing

ended_is : map is_ended ((brought (hex "03 45") ∷ released ∷ []) ∷ (brought (hex "03 45") ∷ []) ∷ [] ∷ []) ≡ true ∷ false ∷ false ∷ []
ended_is = refl

comes_to_the_target : map has_arrived (on_serving ∷ on_target ∷ moving ∷ gone ∷ []) ≡ false ∷ true ∷ false ∷ true ∷ []
comes_to_the_target = refl

marks : map mark (true ∷ false ∷ []) ≡ ([] ∷ []) ∷ [] ∷ []
marks = refl

complete_is_not_relayed : texts_of (brought (hex "06 29 00") ∷ brought (hex "03 45") ∷ released ∷ []) ≡ (hex "03 45") ∷ []
complete_is_not_relayed = refl

release_is_last : EndsLast (brought (hex "03 45") ∷ released ∷ [])
release_is_last = refl

release_is_not_last : EndsLast (released ∷ brought (hex "03 45") ∷ []) → ⊥
release_is_not_last h = absurd cc

-- ---- commands

assignment_leads : change_in (rr_reading (hex "06 2e 0a 20 14 00")) ≡ Some Assignment
unfolding on_literals
assignment_leads = refl

release_leads_nowhere : change_in (rr_reading (hex "06 0d 00")) ≡ None
unfolding on_literals
release_leads_nowhere = refl

-- ---- a connection with channels of station 1, and an old one of station 2

abbrev connection_with : State → Channel → List Drain → List Held → Connection
connection_with state serving draining held =
    record (new_connection 1 serving (record { access = 7; frame = 0 }) 0) { state = state; draining = draining; up = record { limit = 32; tenures = held } }

abbrev held : List (List ℕ) → Held
held messages = record { zero = messages; three = (hex "09 01") ∷ [] }

-- what is on its way up from 41, and from any other channel
abbrev arriving : List Item → List Item → Place → List Item
arriving first others at = if at.number == 0x41 then first else others

-- whether the link of station 1 is up, and of any other
abbrev up : Bool → Bool → ℕ → Bool
up first others station = if station == 1 then first else others

-- ---- whether something may be missing of an old channel

abbrev drains : ℕ → Bool → Drain
drains station is_done = record { channel = channel station 0x41; is_done = is_done }

lacking : map (λ d. lacks (arriving (brought (hex "03 45") ∷ []) (released ∷ [])) (up false true) d) (drains 1 false ∷ drains 1 true ∷ drains 2 false ∷ []) ≡ true ∷ false ∷ false ∷ []
lacking = refl

lacks_nothing_once_released : lacks (arriving (brought (hex "03 45") ∷ released ∷ []) []) (up false true) (drains 1 false) ≡ false
lacks_nothing_once_released = refl

-- ---- over its channels: what arrives from each, in its place

abbrev link : DataLinkState
link = record { waiting = (hex "03 11") ∷ []; air = Given (hex "03 d0") }

is_over_old_and_serving : over (arriving (brought (0x0a ∷ []) ∷ []) (brought (0x0b ∷ []) ∷ [])) (up true false)
    (connection_with (Live 0x800001 Draining) (channel 1 0x0a) (drains 2 false ∷ []) (held ((hex "03 01") ∷ []) ∷ held ((hex "03 02") ∷ []) ∷ []))
    ((hex "05 24") ∷ []) link on_serving 3 ((hex "03 04") ∷ []) ((hex "03 05") ∷ []) ≡ record {
      sent = (hex "05 24") ∷ [];
      link = link;
      seat = on_serving;
      is_intact = false;
      is_opening = false;
      commands = 3;
      is_changing = false;
      is_confirmed = true;
      old = record { hold = (hex "03 01") ∷ []; items = brought (0x0a ∷ []) ∷ []; is_lost = true; is_done = false } ∷ [];
      serving = record { hold = (hex "03 02") ∷ []; items = brought (0x0b ∷ []) ∷ []; is_lost = false; is_done = false };
      target = fresh;
      out = (hex "03 04") ∷ [];
      taken = (hex "03 05") ∷ [];
    }
is_over_old_and_serving = refl

-- before COMPLETE, and behind it
abbrev changing : Connection
changing = connection_with (Live 0x800001 (Changing to_0a)) (channel 1 0x41) [] (empty_tenure ∷ [])

abbrev changed : Connection
changed = connection_with (Live 0x800001 Draining) (channel 1 0x0a) (drains 1 false ∷ []) (empty_tenure ∷ empty_tenure ∷ [])

target_comes : (over (arriving (brought (0x0a ∷ []) ∷ []) (brought (0x0b ∷ []) ∷ [])) (up true false) changing [] link on_target 0 [] []).target ≡
    record { hold = []; items = brought (0x0b ∷ []) ∷ []; is_lost = false; is_done = false }
target_comes = refl

-- ---- what a row does

abbrev complete : List Item
complete = brought (hex "06 29 00") ∷ []

completes_the_change : OwnStep (arriving [] complete) (arriving [] []) (up true true) changing changed 0 0 on_target on_serving
completes_the_change = completes to_0a refl refl refl (omega arith) (omega arith) (λ h. (refl, refl))

completes_once : OwnStep (arriving [] complete) (arriving [] complete) (up true true) changing changed 0 0 on_target on_serving → ⊥
completes_once (completes t is none serves fewer less none_lost) = absurd (omega (arith, fewer))

tells_the_command : OwnStep (arriving [] []) (arriving [] []) (up true true) (connection_with (Live 0x800001 Active) (channel 1 0x41) [] (empty_tenure ∷ [])) changing 0 1 on_serving on_serving
tells_the_command = tells refl refl to_0a refl (omega arith) refl (omega arith) (λ h. refl)

-- ---- the initial message is still to arrive

waits_to_open : map is_opening (WaitActivation ∷ WaitEstablish ∷ WaitConfirm ∷ Live 0x800001 Active ∷ []) ≡ false ∷ true ∷ false ∷ false ∷ []
waits_to_open = refl

-- the row that puts CR is none by which it still does
still_awaits : StillAwaits WaitActivation WaitEstablish × StillAwaits WaitEstablish WaitEstablish × StillAwaits WaitConfirm (Live 0x800001 Active) × (StillAwaits WaitEstablish WaitConfirm → ⊥)
still_awaits = (λ is. absurd cc, λ is. is, λ is. absurd cc, λ awaits. absurd (let is = awaits refl in cc))

-- ---- the row that opens a connection

at_0 : Carries 4 opening_sent 0 (hex "05 24")
at_0 = record { message = hex "05 24"; is_sent = refl; is_clear = record { is_flow = refl; cleared = refl }; carries = refl }

at_1 : Carries 4 opening_sent 1 (hex "03 45")
at_1 = record { message = hex "03 05"; is_sent = refl; is_clear = record { is_flow = refl; cleared = refl }; carries = refl }

-- with the second message on its way up behind the initial one
opens : Opens 4 opening_sent (record { waiting = []; air = Empty }) (hex "05 24") (arriving (brought (hex "03 45") ∷ []) []) (connection_with WaitConfirm (channel 1 0x41) [] (empty_tenure ∷ []))
opens = record {
  awaits = refl;
  none_drains = refl;
  none_held = refl;
  carries_on = record { now = next at_0 (next at_1 (rise_over 2)); anew = next at_0 (next at_1 (rise_over 2)) };
  no_control = refl;
}

opens_with_one_tenure : Opens 4 opening_sent (record { waiting = []; air = Empty }) (hex "05 24") (arriving (brought (hex "03 45") ∷ []) []) (connection_with WaitConfirm (channel 1 0x41) [] (empty_tenure ∷ empty_tenure ∷ [])) →
    ⊥
opens_with_one_tenure h = let none = h.none_held in absurd cc

opens_before_a_complete : Opens 4 opening_sent (record { waiting = []; air = Empty }) (hex "05 24") (arriving complete []) (connection_with WaitConfirm (channel 1 0x41) [] (empty_tenure ∷ [])) →
    ⊥
opens_before_a_complete h = let none = h.no_control in absurd cc

opens_before_the_confirm : Opens 4 opening_sent (record { waiting = []; air = Empty }) (hex "05 24") (arriving [] []) (connection_with (Live 0x800001 Active) (channel 1 0x41) [] (empty_tenure ∷ [])) →
    ⊥
opens_before_the_confirm h = let awaits = h.awaits in absurd cc
