-- SPDX-License-Identifier: MIT OR Apache-2.0
-- The definitions of streams at literal values: what messages carry, what may still arrive, and the
-- rows that the laws on streams refuse.
use Rattle.conn_rules.proofs.Prelude.{◌≡◌, ◌==◌, if◌then◌else◌, ℕ, true, false, true≢false, List, [], ◌∷◌, map, length, Some, None, refl, sym, ap, arith}
use Rattle.conn_rules.proofs.Prelude.{Channel, Place, Message, Station, Data, Request, ReleaseComplete, Sapi, Zero, Three, Assignment}
use Rattle.conn_rules.proofs.Prelude.{hex, Input, Connection, Drain, Stage, Active, Preparing, Changing, Draining}
use Rattle.conn_rules.proofs.Prelude.{WaitActivation, WaitEstablish, WaitConfirm, Live, Closed, Removed, Complete, Due, WasAsked, DataRequest}
use Rattle.conn_rules.proofs.Prelude.{OfRow, IsOpen, is_of, is_dtap, relayed, handed, IsHandedTo, Future, of_target, of_prepared}
use Rattle.conn_rules.proofs.Prelude.{still_to_relay, from_input, undone, used_channels, AreApart, KeepsUplink}
use Rattle.conn_rules.proofs.Prelude.{received_by, rejects, without_rejected, KeepsDownlink, IsChanging, IsSilent, OnlyReleases, IsFinal}
use Rattle.bssmap_codec.specs.declared.bssap.Bssap.TheVariants.{Management, Transfer}
use Rattle.bssmap_codec.specs.declared.bssmap.Bssmap.TheVariants as bssmap
use Rattle.conn_rules.specs.declared.input.Input.TheVariants as inputs
use Rattle.conn_rules.specs.Steps.{row}
use Rattle.conn_rules.specs.Streams.{Ends}
use Rattle.conn_rules.proofs.CaseRows.{live, connection, target, drains, is_done, held, held_up, tenure, call, text, ended}
use Rattle.conn_rules.proofs.Lives.{cell_1, cell_2, on_1, on_2}
use Rattle.rsl_codec.specs.declared.rsl.Rsl.TheVariants as rsl

none_is_some : {message : List ℕ} {messages : List (List ℕ)} → [] ≡ message ∷ messages → ⊥
none_is_some is = absurd cc

some_is_none : {message : List ℕ} {messages : List (List ℕ)} → message ∷ messages ≡ [] → ⊥
some_is_none is = absurd cc

-- ---- which connections are open

open_ones : IsOpen WaitActivation × IsOpen WaitEstablish × IsOpen WaitConfirm × IsOpen (Live 5 Active) × IsOpen (Live 5 Draining)
open_ones = (tt, tt, tt, tt, tt)

none_closed : IsOpen (Closed Complete) → ⊥
none_closed is = is

none_due : IsOpen (Closed (Due 1)) → ⊥
none_due is = is

none_asked : IsOpen (Closed (WasAsked 5)) → ⊥
none_asked is = is

none_removed : IsOpen Removed → ⊥
none_removed is = is

of_a_row : OfRow (λ r. length r.outs ≡ 0) (Some (row (ReleaseComplete 5 ∷ []) (connection Removed (cell_1 0x41)))) → ⊥
of_a_row of = omega (arith, of)

of_no_row : OfRow (λ r. ⊥) None
of_no_row = tt

-- ---- link identifiers and DLCIs: SAPI is in bits 3 to 1

of_sapi_0 : map (is_of Zero) (hex "00 40 80 c0 08 f8 01 02 03 04 05 06 07 43 83 c3") ≡
    true ∷ true ∷ true ∷ true ∷ true ∷ true ∷ false ∷ false ∷ false ∷ false ∷ false ∷ false ∷ false ∷ false ∷ false ∷ false ∷ []
of_sapi_0 = refl

of_sapi_3 : map (is_of Three) (hex "03 43 83 c3 0b fb 00 01 02 04 05 06 07 40 80 c0") ≡
    true ∷ true ∷ true ∷ true ∷ true ∷ true ∷ false ∷ false ∷ false ∷ false ∷ false ∷ false ∷ false ∷ false ∷ false ∷ false ∷ []
of_sapi_3 = refl

-- the discriminator of radio resource management is 6, in the lower half of the first octet
dtap_ones : map is_dtap (hex "03 05" ∷ hex "05 24 71" ∷ hex "0e 01" ∷ hex "60" ∷ hex "06 2e 00" ∷ hex "16 29" ∷ hex "f6" ∷ []) ≡
    true ∷ true ∷ true ∷ true ∷ false ∷ false ∷ false ∷ []
dtap_ones = refl

-- ---- what messages carry

abbrev clear_request : Message
clear_request = Data 0x800001 (Management (bssmap.ClearRequest (record { 0 = hex "01" })))

abbrev reject : Message
reject = Data 0x800001 (Management (bssmap.SapiNReject (record { 0 = 0x83 }) (record { 0 = hex "25" })))

abbrev opening : Message
opening = Request (Management (bssmap.CompleteLayer3Information (record { 0 = hex "00 00 f1 10 00 01 00 01" }) (hex "05 24 71")))

-- DTAP to the switch
abbrev up : ℕ → List ℕ → Message
up dlci message = Data 0x800001 (Transfer dlci message)

-- DATA REQUEST to a station
abbrev down : ℕ → ℕ → ℕ → List ℕ → Message
down station channel link message = Station station (DataRequest (record { channel = channel; link = link; l3 = message }))

abbrev put_up : List Message
put_up = opening ∷ up 0x00 (call 1) ∷ up 0x83 (text 1) ∷ clear_request ∷ up 0xc3 (text 2) ∷ up 0x00 (call 2)
    ∷ down 1 0x41 0x00 (call 3) ∷ reject ∷ ReleaseComplete 0x800001 ∷ Station 1 (rsl.RfChannelRelease 0x41) ∷ []

relayed_of_0 : relayed Zero put_up ≡ hex "05 24 71" ∷ call 1 ∷ call 2 ∷ []
relayed_of_0 = refl

relayed_of_3 : relayed Three put_up ≡ text 1 ∷ text 2 ∷ []
relayed_of_3 = refl

-- not the messages of radio resource management
abbrev put_down : List Message
put_down = down 1 0x41 0x00 (call 1) ∷ down 1 0x41 0x03 (text 1) ∷ down 1 0x41 0x00 (hex "06 0d 00") ∷ up 0x00 (call 9)
    ∷ down 2 0x0a 0x43 (text 2) ∷ Station 1 (rsl.EstablishRequest (record { channel = 0x41; link = 0x03 })) ∷ down 2 0x0a 0x00 (call 2) ∷ []

handed_of_0 : handed Zero put_down ≡ call 1 ∷ call 2 ∷ []
handed_of_0 = refl

handed_of_3 : handed Three put_down ≡ text 1 ∷ text 2 ∷ []
handed_of_3 = refl

-- to a channel: its station and its number; a message of radio resource management may go elsewhere
handed_to_it : IsHandedTo (cell_1 0x41) (down 1 0x41 0x00 (call 1)) × IsHandedTo (cell_1 0x41) (up 0x00 (call 1))
handed_to_it = (λ is. (refl, refl), tt)

commanded_elsewhere : IsHandedTo (cell_1 0x41) (down 1 0x0a 0x00 (hex "06 2e 00"))
commanded_elsewhere is = absurd (true≢false (sym is))

not_to_another_number : IsHandedTo (cell_1 0x41) (down 1 0x0a 0x00 (call 1)) → ⊥
not_to_another_number to = let same = (to refl).1 in omega (arith, same)

not_to_another_station : IsHandedTo (cell_1 0x41) (down 2 0x41 0x03 (text 1)) → ⊥
not_to_another_station to = let same = (to refl).0 in omega (arith, same)

-- ---- what is still to be relayed: 41 of cell 1 and 0B of cell 1 drained, and 0B is done; 0A of cell 2 serves, and 0A of
-- cell 1 is the target. The one message that may arrive on a channel is its station and its number

abbrev arriving : Future
arriving at = (at.station ∷ at.number ∷ []) ∷ []

abbrev old : List Drain
old = drains (cell_1 0x41) ∷ is_done (cell_1 0x0b) ∷ []

abbrev in_stage : Stage → Connection
in_stage stage = record (live stage (cell_2 0x0a)) {
  draining = old;
  up =
      held_up (tenure (call 1 ∷ []) (text 1 ∷ []) ∷ tenure (call 2 ∷ []) (text 2 ∷ [])
      ∷ tenure (call 3 ∷ call 4 ∷ []) (text 3 ∷ []) ∷ []);
}

abbrev changing : Connection
changing = in_stage (Changing (target Assignment (cell_1 0x0a)))

abbrev preparing : Connection
preparing = in_stage (Preparing (target Assignment (cell_1 0x0a)))

still_of_0 : still_to_relay Zero arriving changing ≡ call 1 ∷ hex "01 41" ∷ call 2 ∷ call 3 ∷ call 4 ∷ hex "02 0a" ∷ hex "01 0a" ∷ []
still_of_0 = refl

still_of_3 : still_to_relay Three arriving changing ≡ text 1 ∷ hex "01 41" ∷ text 2 ∷ text 3 ∷ hex "02 0a" ∷ hex "01 0a" ∷ []
still_of_3 = refl

-- before the COMMAND nothing counts of the target
still_before_the_command : still_to_relay Zero arriving preparing ≡ call 1 ∷ hex "01 41" ∷ call 2 ∷ call 3 ∷ call 4 ∷ hex "02 0a" ∷ []
still_before_the_command = refl

still_of_one : still_to_relay Zero arriving (live Active (cell_1 0x41)) ≡ hex "01 41" ∷ []
still_of_one = refl

targets_to_come : map (of_target arriving) (changing.state ∷ preparing.state ∷ Live 5 Active ∷ WaitConfirm ∷ []) ≡ (hex "01 0a" ∷ []) ∷ [] ∷ [] ∷ [] ∷ []
targets_to_come = refl

targets_before_the_command : map (of_prepared arriving) (changing.state ∷ preparing.state ∷ Live 5 Active ∷ WaitConfirm ∷ []) ≡ [] ∷ (hex "01 0a" ∷ []) ∷ [] ∷ [] ∷ []
targets_before_the_command = refl

-- an input's message is first on its channel, of its SAPI alone
abbrev places : List Place
places = on_1 0x41 ∷ on_1 0x0a ∷ on_2 0x41 ∷ []

abbrev arrives : Sapi → Input → List (List (List ℕ))
arrives sapi input = map (from_input sapi input arriving) places

abbrev first : List ℕ → List (List (List ℕ))
first message = (message ∷ hex "01 41" ∷ []) ∷ (hex "01 0a" ∷ []) ∷ (hex "02 41" ∷ []) ∷ []

abbrev as_before : List (List (List ℕ))
as_before = (hex "01 41" ∷ []) ∷ (hex "01 0a" ∷ []) ∷ (hex "02 41" ∷ []) ∷ []

come_of_0 : map (arrives Zero) (inputs.Dtap (on_1 0x41) Zero (call 1) ∷ inputs.EstablishIndication (on_1 0x41) Zero (Some (hex "05 24 71"))
    ∷ inputs.Dtap (on_1 0x41) Three (text 1) ∷ inputs.EstablishIndication (on_1 0x41) Zero None
    ∷ inputs.EstablishIndication (on_1 0x41) Three (Some (text 1)) ∷ inputs.Downlink Zero (call 1) ∷ inputs.Move ∷ []) ≡
    first (call 1) ∷ first (hex "05 24 71") ∷ as_before ∷ as_before ∷ as_before ∷ as_before ∷ as_before ∷ []
come_of_0 = refl

come_of_3 : map (arrives Three) (inputs.Dtap (on_1 0x41) Three (text 1) ∷ inputs.Dtap (on_1 0x41) Zero (call 1)
    ∷ inputs.EstablishIndication (on_1 0x41) Zero (Some (hex "05 24 71")) ∷ inputs.EstablishIndication (on_1 0x41) Three (Some (text 1))
    ∷ inputs.Downlink Three (text 1) ∷ []) ≡
    first (text 1) ∷ as_before ∷ as_before ∷ as_before ∷ as_before ∷ []
come_of_3 = refl

-- nothing is asked of what may arrive but on a channel that an input ends, or on a target
nothing_ends : Ends arriving changing.state (inputs.Dtap (on_1 0x41) Zero (call 1)) × Ends arriving changing.state (inputs.ActivationAck (on_1 0x0a))
    × Ends arriving preparing.state (inputs.Failure (on_2 0x0a) Assignment (record { 0 = 0 }))
    × Ends arriving changing.state (inputs.Complete (on_1 0x0a) Assignment (record { 0 = 0 }))
    × Ends arriving preparing.state (inputs.ActivationNack (on_1 0x0a)) × Ends arriving changing.state inputs.Expiry
nothing_ends = (tt, refl, refl, tt, tt, tt)

abbrev but_41 : Future
but_41 at = if (at.number == 0x41) then [] else (at.station ∷ at.number ∷ []) ∷ []

ends_of_its_place : Ends but_41 changing.state (inputs.ReleaseAck (on_1 0x41))
ends_of_its_place = refl

-- ---- the channels in use

abbrev number_of : Channel → ℕ
number_of channel = channel.number

undone_ones : map number_of (undone (is_done (cell_1 0x0b) ∷ drains (cell_1 0x41) ∷ is_done (cell_2 0x0a) ∷ drains (cell_2 0x49) ∷ [])) ≡ hex "41 49"
undone_ones = refl

used_ones : map number_of (used_channels changing) ≡ hex "41 0a 0a"
used_ones = refl

used_while_preparing : map number_of (used_channels (record preparing { serving = cell_1 0x49 })) ≡ hex "41 49 0a"
used_while_preparing = refl

used_without_target : map number_of (used_channels (in_stage Draining)) ≡ hex "41 0a"
used_without_target = refl

apart_ones : AreApart (cell_1 0x41 ∷ cell_2 0x41 ∷ cell_1 0x0a ∷ [])
apart_ones = ((refl, (refl, tt)), ((refl, tt), (tt, tt)))

not_apart_from_the_last : AreApart (cell_1 0x41 ∷ cell_2 0x41 ∷ cell_1 0x41 ∷ []) → ⊥
not_apart_from_the_last apart = true≢false apart.0.1.0

not_apart_behind_the_first : AreApart (cell_1 0x0a ∷ cell_2 0x41 ∷ cell_2 0x41 ∷ []) → ⊥
not_apart_behind_the_first apart = true≢false apart.1.0.0

-- ---- the uplink's law refuses a row that keeps a message back, that relays it twice, or of another SAPI

abbrev active : Connection
active = live Active (cell_1 0x41)

abbrev nothing : Future
nothing at = []

relays_it : KeepsUplink Zero nothing active (inputs.Dtap (on_1 0x41) Zero (call 1)) (row (up 0x00 (call 1) ∷ []) active)
relays_it is = refl

not_kept_back : KeepsUplink Zero nothing active (inputs.Dtap (on_1 0x41) Zero (call 1)) (row [] active) → ⊥
not_kept_back keeps = none_is_some (keeps tt)

not_relayed_twice : KeepsUplink Zero nothing active (inputs.Dtap (on_1 0x41) Zero (call 1)) (row (up 0x00 (call 1) ∷ up 0x00 (call 1) ∷ []) active) →
    ⊥
not_relayed_twice keeps = let long : 2 ≡ 1 = ap (λ (messages : List (List ℕ)). length messages) (keeps tt) in omega (arith, long)

not_of_the_other : KeepsUplink Three nothing active (inputs.Dtap (on_1 0x41) Three (text 1)) (row (up 0x00 (text 1) ∷ []) active) → ⊥
not_of_the_other keeps = none_is_some (keeps tt)

-- ---- the downlink

received_ones : map (received_by Zero) (inputs.Downlink Zero (call 1) ∷ inputs.Downlink Three (text 1) ∷ inputs.Dtap (on_1 0x41) Zero (call 2) ∷ []) ≡ (call 1 ∷ []) ∷ [] ∷ [] ∷ []
received_ones = refl

received_texts : map (received_by Three) (inputs.Downlink Zero (call 1) ∷ inputs.Downlink Three (text 1) ∷ inputs.Dtap (on_1 0x41) Three (text 2) ∷ []) ≡ [] ∷ (text 1 ∷ []) ∷ [] ∷ []
received_texts = refl

rejecting_ones : map rejects (put_up ∷ (clear_request ∷ up 0x83 (text 1) ∷ []) ∷ [] ∷ (reject ∷ []) ∷ []) ≡ true ∷ false ∷ false ∷ true ∷ []
rejecting_ones = refl

-- a reject takes all of SAPI 3, and nothing of SAPI 0
left_of_0 : without_rejected Zero (reject ∷ []) (call 1 ∷ call 2 ∷ []) ≡ call 1 ∷ call 2 ∷ []
left_of_0 = refl

left_of_3 : without_rejected Three (reject ∷ []) (text 1 ∷ text 2 ∷ []) ≡ []
left_of_3 = refl

left_without_a_reject : without_rejected Three (clear_request ∷ []) (text 1 ∷ text 2 ∷ []) ≡ text 1 ∷ text 2 ∷ []
left_without_a_reject = refl

abbrev holding : List (List ℕ) → List (List ℕ) → Connection
holding calls texts = record changing { down = held calls texts }

holds_it : KeepsDownlink Zero (holding (call 1 ∷ []) []) (inputs.Downlink Zero (call 2)) (row [] (holding (call 1 ∷ call 2 ∷ []) []))
holds_it = record { stream = λ is. refl; serving = tt }

not_dropped : KeepsDownlink Zero (holding (call 1 ∷ []) []) (inputs.Downlink Zero (call 2)) (row [] (holding (call 1 ∷ []) [])) → ⊥
not_dropped keeps = let long : 1 ≡ 2 = ap (λ (messages : List (List ℕ)). length messages) (keeps.stream tt) in omega (arith, long)

not_dropped_without_a_reject : KeepsDownlink Three (holding [] (text 1 ∷ [])) inputs.Expiry (row [] (holding [] [])) → ⊥
not_dropped_without_a_reject keeps = none_is_some (keeps.stream tt)

not_kept_though_rejected : KeepsDownlink Three (holding [] (text 1 ∷ [])) inputs.Expiry (row (reject ∷ []) (holding [] (text 1 ∷ []))) → ⊥
not_kept_though_rejected keeps = some_is_none (keeps.stream tt)

not_handed_elsewhere : KeepsDownlink Zero active (inputs.Downlink Zero (call 1)) (row (down 2 0x41 0x00 (call 1) ∷ []) active) → ⊥
not_handed_elsewhere keeps = let same = (keeps.serving.0 refl).0 in omega (arith, same)

-- ---- while a channel changes

no_change_of_a_waiting_one : IsChanging preparing.state → ⊥
no_change_of_a_waiting_one is = is

silent_row : IsSilent (row (down 1 0x41 0x00 (hex "06 2e 00") ∷ up 0x00 (call 1) ∷ []) changing)
silent_row is = (refl, refl)

not_silent : IsSilent (row (down 1 0x41 0x00 (call 1) ∷ []) changing) → ⊥
not_silent silent = some_is_none (silent tt).0

not_silent_of_3 : IsSilent (row (down 1 0x41 0x43 (text 1) ∷ []) changing) → ⊥
not_silent_of_3 silent = some_is_none (silent tt).1

-- ---- the end

only_answers : OnlyReleases (Closed Complete) (ReleaseComplete 5 ∷ ReleaseComplete 6 ∷ []) × OnlyReleases (Closed (WasAsked 5)) (clear_request ∷ [])
only_answers = ((tt, (tt, tt)), tt)

nothing_else : OnlyReleases (Closed Complete) (ReleaseComplete 5 ∷ clear_request ∷ []) → ⊥
nothing_else only = only.1.0

abbrev closed : Connection
closed = ended (Closed (WasAsked 5)) active

final_row : IsFinal active (row (clear_request ∷ down 1 0x41 0x00 (hex "06 0d 00") ∷ []) closed)
final_row = record {
  remains_closed = λ shut. absurd (shut tt);
  relays = λ shut. elim [ Zero ↦ refl | Three ↦ refl ];
  hands = λ shut. elim [ Zero ↦ refl | Three ↦ refl ];
  cleared = tt;
}

not_opened_again : IsFinal closed (row [] active) → ⊥
not_opened_again final = final.remains_closed (λ is. is) tt

not_relayed_at_the_end : IsFinal active (row (up 0x83 (text 1) ∷ []) closed) → ⊥
not_relayed_at_the_end final = some_is_none (final.relays (λ is. is) Three)

not_handed_at_the_end : IsFinal active (row (down 1 0x41 0x00 (call 1) ∷ []) closed) → ⊥
not_handed_at_the_end final = some_is_none (final.hands (λ is. is) Zero)

not_put_once_cleared : IsFinal (ended (Closed Complete) active) (row (clear_request ∷ []) closed) → ⊥
not_put_once_cleared final = final.cleared.0
