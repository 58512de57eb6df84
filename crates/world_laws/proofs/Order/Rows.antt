-- SPDX-License-Identifier: MIT OR Apache-2.0
-- Definitions at literal values: which states asked the switch, which events are of octets, what is
-- fair, and what may still arrive from a line-up.
use Rattle.world_laws.proofs.Prelude.{◌≡◌, ◌<◌, true, false, [], ◌∷◌, map, Some, None, refl, arith, ConnectionRequest, Due, WaitActivation}
use Rattle.world_laws.proofs.Prelude.{WaitEstablish, WaitConfirm, Closed, Removed, Given, Reached, to_be_taken, outstanding_messages}
use Rattle.world_laws.proofs.Prelude.{Connect, Move, LineUp, fresh, released, on_serving, still_to_arrive, IsFair, IsOctetEvent, has_asked}
use Rattle.octets.proofs.Hex.{hex}
use Rattle.world_laws.specs.LineUp.Places.{LineTenure}
use Rattle.world_laws.specs.LineUp.Places.Item.{brought}
use Rattle.world_laws.specs.Order.Facts.{IsAsking}
use Rattle.world_laws.proofs.Order.OctetTexts.{octets_cons, octets_nil}

-- from the connection request on
asked : map has_asked (WaitActivation ∷ WaitEstablish ∷ WaitConfirm ∷ Closed (Due 9) ∷ Removed ∷ []) ≡ false ∷ false ∷ true ∷ true ∷ true ∷ []
asked = refl

-- a mobile's number is an octet, where it connects
number_fits : IsOctetEvent (Connect 255 1 (0x05 ∷ []) true)
number_fits = (omega arith, (octets_cons (omega arith) octets_nil).are)

number_is_past : IsOctetEvent (Connect 256 1 (0x05 ∷ []) true) → ⊥
number_is_past is = let less : 256 < 256 = is.0 in absurd (omega (arith, less))

text_is_past : IsOctetEvent (Connect 1 1 (256 ∷ []) true) → ⊥
text_is_past is = let less : 256 < 256 = is.1 0 in absurd (omega (arith, less))

others_say_nothing : IsOctetEvent (Move 256)
others_say_nothing = tt

-- a reference has three octets
reference_fits : IsFair (Some (ConnectionRequest 16777215 None))
reference_fits = omega arith

reference_is_past : IsFair (Some (ConnectionRequest 16777216 None)) → ⊥
reference_is_past is = let less : 16777216 < 16777216 = is in absurd (omega (arith, less))

-- no connection asks
none_asks : IsAsking None → ⊥
none_asks is = is

-- ---- what may still arrive

-- an old channel that holds one message and on which one is on its way; the serving one, on which
-- one is on its way
abbrev pub old_channel : LineTenure
old_channel = record fresh { hold = (hex "03 42") ∷ []; items = brought (hex "05 83") ∷ released ∷ [] }

abbrev pub serving_channel : LineTenure
serving_channel = record fresh { items = brought (hex "06 29") ∷ brought (hex "03 c4") ∷ [] }

-- one waits for the switch, one is in the air, and one waits behind it
abbrev pub six_come : LineUp
six_come = record {
  sent = [];
  link = record { waiting = (hex "05 46") ∷ []; air = Given (hex "03 05") };
  seat = on_serving;
  is_intact = true;
  is_opening = false;
  commands = 0;
  is_changing = false;
  is_confirmed = true;
  old = old_channel ∷ [];
  serving = serving_channel;
  target = fresh;
  out = (hex "05 01") ∷ [];
  taken = [];
}

come_in_order : still_to_arrive six_come (to_be_taken six_come.link) ≡ (hex "05 01") ∷ (hex "03 42") ∷ (hex "05 83") ∷ (hex "03 c4") ∷ (hex "03 05") ∷ (hex "05 46") ∷ []
come_in_order = refl

-- a station took the one in the air: it is sent again on another channel alone
abbrev pub one_taken : LineUp
one_taken = record six_come { link = record { waiting = (hex "05 46") ∷ []; air = Reached (hex "03 c4") } }

come_behind_the_taken : still_to_arrive one_taken (to_be_taken one_taken.link) ≡ (hex "05 01") ∷ (hex "03 42") ∷ (hex "05 83") ∷ (hex "03 c4") ∷ (hex "05 46") ∷ []
come_behind_the_taken = refl

come_again : still_to_arrive one_taken (outstanding_messages one_taken.link) ≡ (hex "05 01") ∷ (hex "03 42") ∷ (hex "05 83") ∷ (hex "03 c4") ∷ (hex "03 c4") ∷ (hex "05 46") ∷ []
come_again = refl

-- where something of the old channel is lost, nothing behind it arrives
come_up_to_a_loss : still_to_arrive (record six_come { old = record old_channel { is_lost = true } ∷ []; is_intact = false }) (to_be_taken six_come.link) ≡ (hex "05 01") ∷ (hex "03 42") ∷ (hex "05 83") ∷ []
come_up_to_a_loss = refl
