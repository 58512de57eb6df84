-- SPDX-License-Identifier: MIT OR Apache-2.0
-- Definitions of what is handled for a connection, at literal values.
use Rattle.world_laws.proofs.Prelude.{◌≡◌, ℕ, Bool, true, false, if◌then◌else◌, List, [], ◌∷◌, ◌++◌, map, Some, None, refl, arith}
use Rattle.world_laws.proofs.Prelude.{Assignment, Handover, Channel, Place, Connection, new_connection, Active, Preparing, Changing}
use Rattle.world_laws.proofs.Prelude.{Draining, WaitActivation, WaitEstablish, WaitConfirm, Live, Removed, roles_unchanged, role_commands}
use Rattle.world_laws.proofs.Prelude.{role_completes, role_reverts, place_at, Zero, Three, same_place, released, on_serving, on_target}
use Rattle.world_laws.proofs.Prelude.{moving, gone, awaited_in, IsRequested}
use Rattle.octets.proofs.Hex.{hex}
use Rattle.conn_rules.specs.declared.input.Input.TheVariants as inputs
use Rattle.world_laws.specs.LineUp.Places.{Item}
use Rattle.world_laws.specs.LineUp.Places.Item.{brought}
use Rattle.world_laws.specs.OwnItem.{said_by, IsRead, IsBesideTarget, CommandsAfter, seat_after, Finds}

-- ---- what an input brings

dtap_brings : map (said_by (inputs.Dtap (place_at 1 0x41) Zero (hex "03 45")) []) (place_at 1 0x41 ∷ place_at 1 0x0a ∷ place_at 2 0x41 ∷ []) ≡ (brought (hex "03 45") ∷ []) ∷ [] ∷ [] ∷ []
dtap_brings = refl

short_message_brings_nothing : said_by (inputs.Dtap (place_at 1 0x41) Three (hex "09 01")) [] (place_at 1 0x41) ≡ []
short_message_brings_nothing = refl

complete_brings_its_text : said_by (inputs.Complete (place_at 1 0x41) Assignment (record { 0 = 0 })) (hex "06 29 00") (place_at 1 0x41) ≡ brought (hex "06 29 00") ∷ []
complete_brings_its_text = refl

release_ends : map (said_by (inputs.ReleaseAck (place_at 1 0x41)) []) (place_at 1 0x41 ∷ place_at 1 0x0a ∷ []) ≡ (released ∷ []) ∷ [] ∷ []
release_ends = refl

complete_takes_the_mobile_along : map (seat_after role_completes) (on_serving ∷ on_target ∷ moving ∷ gone ∷ []) ≡ on_serving ∷ on_serving ∷ moving ∷ gone ∷ []
complete_takes_the_mobile_along = refl

others_leave_it : map (seat_after role_reverts) (on_serving ∷ on_target ∷ []) ≡ on_serving ∷ on_target ∷ []
others_leave_it = refl

a_command_is_put : CommandsAfter role_commands 0 1 × (CommandsAfter role_commands 0 2 → ⊥)
a_command_is_put = (omega arith, λ two. omega arith)

no_command_is_put : CommandsAfter roles_unchanged 1 1 × (CommandsAfter roles_unchanged 0 1 → ⊥)
no_command_is_put = (omega arith, λ one. omega arith)

same_places : map (λ at. same_place at (place_at 1 0x41)) (place_at 1 0x41 ∷ place_at 1 0x0a ∷ place_at 2 0x41 ∷ []) ≡ true ∷ false ∷ false ∷ []
same_places = refl

an_initial_message_brings : said_by (inputs.EstablishIndication (place_at 1 0x41) Zero (Some (hex "05 24"))) [] (place_at 1 0x41) ≡ brought (hex "05 24") ∷ []
an_initial_message_brings = refl

a_link_brings_nothing : said_by (inputs.EstablishIndication (place_at 1 0x41) Zero None) [] (place_at 1 0x41) ≡ []
a_link_brings_nothing = refl

failure_brings_its_text : said_by (inputs.Failure (place_at 1 0x41) Handover (record { 0 = 0 })) (hex "06 28 00") (place_at 1 0x41) ≡ brought (hex "06 28 00") ∷ []
failure_brings_its_text = refl

a_downlink_brings_nothing : said_by (inputs.Downlink Zero (hex "03 45")) [] (place_at 1 0x41) ≡ []
a_downlink_brings_nothing = refl

dtap_is_of_the_flow : IsRead (inputs.Dtap (place_at 1 0x41) Zero (hex "03 45")) [] × (IsRead (inputs.Dtap (place_at 1 0x41) Zero (hex "06 29")) [] → ⊥)
dtap_is_of_the_flow = (refl, λ read. absurd cc)

complete_is_of_radio_resource : IsRead (inputs.Complete (place_at 1 0x41) Assignment (record { 0 = 0 })) (hex "06 29 00") × (IsRead (inputs.Complete (place_at 1 0x41) Assignment (record { 0 = 0 })) (hex "03 45") → ⊥)
complete_is_of_radio_resource = (refl, λ read. absurd cc)

beside_the_target : IsBesideTarget (inputs.ActivationAck (place_at 1 0x41)) × IsBesideTarget (inputs.Failure (place_at 1 0x41) Handover (record { 0 = 0 })) × (IsBesideTarget (inputs.Complete (place_at 1 0x41) Handover (record { 0 = 0 })) → ⊥)
beside_the_target = (tt, tt, λ beside. beside)

-- ---- from the connection request on

requested_is : IsRequested WaitConfirm × IsRequested (Live 5 Active)
requested_is = (tt, tt)

requested_isnt : (IsRequested WaitActivation → ⊥) × (IsRequested WaitEstablish → ⊥) × (IsRequested Removed → ⊥)
requested_isnt = (λ is. is, λ is. is, λ is. is)

-- ---- the target for which the mobile isn't commanded yet

abbrev channel_at : ℕ → Channel
channel_at number = record { station = 1; number = number; cell = 1 ∷ []; description = record { arfcn = 20; ncc = 1; bcc = 1 }; reference = record { 0 = 0 } }

awaited : awaited_in (Live 5 (Preparing (record { change = Assignment; channel = channel_at 0x0a }))) ≡ channel_at 0x0a ∷ []
awaited = refl

none_is_awaited : map awaited_in (WaitConfirm ∷ Live 5 Active ∷ Live 5 (Changing (record { change = Assignment; channel = channel_at 0x0a })) ∷ Live 5 Draining ∷ Removed ∷ []) ≡ [] ∷ [] ∷ [] ∷ [] ∷ [] ∷ []
none_is_awaited = refl

-- ---- COMPLETE, first on its way on the target

abbrev changing_connection : Connection
changing_connection = record (new_connection 1 (channel_at 0x41) (record { access = 1; frame = 1 }) 0) { state = Live 5 (Changing (record { change = Assignment; channel = channel_at 0x0a })) }

abbrev complete_text : List ℕ
complete_text = hex "06 29 00"

complete_comes : Place → List Item
complete_comes place = if same_place place (place_at 1 0x0a) then brought complete_text ∷ brought (hex "03 45") ∷ [] else []

text_comes : Place → List Item
text_comes place = if same_place place (place_at 1 0x0a) then brought (hex "03 45") ∷ [] else []

complete_is_found : Finds (inputs.Complete (place_at 1 0x0a) Assignment (record { 0 = 0 })) complete_text complete_comes text_comes changing_connection
unfolding complete_comes text_comes
complete_is_found = record {
  read = refl;
  first = λ at. by (same_place at (place_at 1 0x0a));
  old_end = tt;
  others_continue = (refl, (refl, tt));
  silent = λ beside. absurd beside;
  whole = (tt, (((omega arith, omega arith), tt), tt));
} where
  by : (b : Bool) →
      (if b then brought complete_text ∷ brought (hex "03 45") ∷ [] else []) ≡ (if b then brought complete_text ∷ [] else []) ++ (if b then brought (hex "03 45") ∷ [] else [])
  by true = refl
  by false = refl
