-- SPDX-License-Identifier: MIT OR Apache-2.0
-- The definitions of the account of channels, at literal values: channel 41 of cell 1 serves.
use Rattle.conn_rules.proofs.Prelude.{◌≡◌, zero, suc, false, true≢false, [], ◌∷◌, map, Option, Some, None, refl, sym, arith, Contains}
use Rattle.conn_rules.proofs.Prelude.{Channel, Assignment, Handover, Zero, Three, hex, Connection, Active, Preparing}
use Rattle.conn_rules.proofs.Prelude.{Closed, Removed, Complete, WaitActivation, rf_channel_release, change_activation, handing}
use Rattle.conn_rules.proofs.Prelude.{drops, refused, commands, unchanged, channel_release, clear_complete}
use Rattle.conn_rules.specs.declared.input.Input.TheVariants as inputs
use Rattle.conn_rules.specs.Roles.{Roles, TargetRole, change_by, MayBegin, orders, IsOfSwitch, FitsEnd, to_stations, IsGivenUp, IsTaken, IsAcknowledged, channels_in_use, IsNew, ChangesRolesBy}
use Rattle.conn_rules.specs.Roles.IsGivenUp.{released, broke, not_activated}
use Rattle.conn_rules.proofs.CaseRows.{live, target, held, call, text, ended}
use Rattle.conn_rules.proofs.Lives.{cell_1, cell_2, on_1, on_2, request}

none_there : {A : Type 0} {x : A} → Contains [] x → ⊥
none_there there = let short = there.1 in omega arith

the_one : {A : Type 0} {x y : A} → Contains (x ∷ []) y → x ≡ y
the_one (zero, short, is) = is
the_one (suc k, short, is) = absurd (omega arith)

there_alone : {A : Type 0} {x : A} → Contains (x ∷ []) x
there_alone = (0, omega arith, refl)

abbrev active : Connection
active = live Active (cell_1 0x41)

abbrev roles : Option TargetRole → Roles
roles to = record { serving = cell_1 0x41; target = to; draining = [] }

abbrev waiting_target : TargetRole
waiting_target = record { target = target Handover (cell_2 0x41); is_commanded = false }

-- ---- a change begins: a handover by a report, an assignment by all else, with what is offered, and one at a time

begun_by : map change_by (inputs.Move ∷ request ∷ inputs.ReleaseAck (on_1 0x0a) ∷ inputs.ActivationNack (on_1 0x0a) ∷ []) ≡
    Handover ∷ Assignment ∷ Assignment ∷ Assignment ∷ []
begun_by = refl

begins_by_a_report : MayBegin (Some (target Handover (cell_2 0x41))) inputs.Move (Some (cell_2 0x41)) (roles None)
begins_by_a_report = (refl, refl, refl)

not_by_a_request : MayBegin (Some (target Handover (cell_2 0x41))) request (Some (cell_2 0x41)) (roles None) → ⊥
not_by_a_request may = absurd (let same = may.0 in cc)

not_without_an_offer : MayBegin (Some (target Handover (cell_2 0x41))) inputs.Move None (roles None) → ⊥
not_without_an_offer may = absurd (let same = may.1 in cc)

not_beside_another : MayBegin (Some (target Handover (cell_2 0x41))) inputs.Move (Some (cell_2 0x41)) (roles (Some waiting_target)) → ⊥
not_beside_another may = absurd (let same = may.2 in cc)

-- ---- what is ordered of stations, and what the mobile gets

ordered_ones : orders (change_activation Handover (cell_2 0x41) ∷ handing (cell_1 0x41) Zero (call 1) ∷ rf_channel_release (cell_1 0x41)
    ∷ clear_complete 5 ∷ channel_release (cell_1 0x41) 0 ∷ []) ≡ change_activation Handover (cell_2 0x41) ∷ rf_channel_release (cell_1 0x41) ∷ []
ordered_ones = refl

what_stations_get : to_stations (clear_complete 5 ∷ handing (cell_1 0x41) Zero (call 1) ∷ rf_channel_release (cell_1 0x41) ∷ []) ≡
    handing (cell_1 0x41) Zero (call 1) ∷ rf_channel_release (cell_1 0x41) ∷ []
what_stations_get = refl

held_or_came : IsOfSwitch (held (call 1 ∷ []) (text 1 ∷ [])) (inputs.Downlink Zero (call 2)) (handing (cell_1 0x41) Zero (call 1))
    × IsOfSwitch (held (call 1 ∷ []) (text 1 ∷ [])) (inputs.Downlink Zero (call 2)) (handing (cell_1 0x41) Three (text 1))
    × IsOfSwitch (held (call 1 ∷ []) (text 1 ∷ [])) (inputs.Downlink Zero (call 2)) (handing (cell_1 0x41) Zero (call 2))
held_or_came = ((0, omega arith, refl), (1, omega arith, refl), (2, omega arith, refl))

not_of_the_mobile : IsOfSwitch (held [] []) (inputs.Dtap (on_1 0x41) Zero (call 2)) (handing (cell_1 0x41) Zero (call 2)) → ⊥
not_of_the_mobile of = none_there of

-- ---- ends

refused_on_its_channel : FitsEnd refused (roles None) (inputs.ActivationNack (on_1 0x41))
refused_on_its_channel = (refl, refl)

not_refused_elsewhere : FitsEnd refused (roles None) (inputs.ActivationNack (on_2 0x41)) → ⊥
not_refused_elsewhere fits = true≢false (sym fits.0)

not_refused_by_time : FitsEnd refused (roles None) inputs.Expiry → ⊥
not_refused_by_time fits = fits

not_dropped_with_a_target : FitsEnd drops (roles (Some waiting_target)) inputs.Expiry → ⊥
not_dropped_with_a_target fits = absurd cc

-- ---- a channel is given up by its RF CHANNEL RELEASE, by its station's break, by its activation's refusal, and by nothing else

given_up : IsGivenUp (cell_1 0x41) inputs.Expiry (rf_channel_release (cell_1 0x41) ∷ []) × IsGivenUp (cell_1 0x41) (inputs.StationDown 1) []
    × IsGivenUp (cell_1 0x41) (inputs.ActivationNack (on_1 0x41)) []
given_up = (released there_alone, broke refl, not_activated (on_1 0x41) refl refl)

not_by_time : IsGivenUp (cell_1 0x41) inputs.Expiry [] → ⊥
not_by_time (released there) = none_there there
not_by_time (broke is) = absurd cc
not_by_time (not_activated at is there) = absurd cc

not_by_another_release : IsGivenUp (cell_1 0x41) inputs.Expiry (rf_channel_release (cell_2 0x41) ∷ []) → ⊥
not_by_another_release (released there) = absurd (let same = the_one there in cc)
not_by_another_release (broke is) = absurd cc
not_by_another_release (not_activated at is there) = absurd cc

not_by_another_break : IsGivenUp (cell_1 0x41) (inputs.StationDown 2) [] → ⊥
not_by_another_break (released there) = none_there there
not_by_another_break (broke is) = absurd cc
not_by_another_break (not_activated at is there) = absurd cc

not_by_its_acknowledgement : IsGivenUp (cell_1 0x41) (inputs.ReleaseAck (on_1 0x41)) [] → ⊥
not_by_its_acknowledgement (released there) = none_there there
not_by_its_acknowledgement (broke is) = absurd cc
not_by_its_acknowledgement (not_activated at is there) = absurd cc

-- ---- it is taken as it was offered, with its CHANNEL ACTIVATION

taken : IsTaken (cell_2 0x41) inputs.Move (Some (cell_2 0x41)) (change_activation Handover (cell_2 0x41) ∷ [])
taken = (refl, there_alone)

not_taken_without_an_offer : IsTaken (cell_2 0x41) inputs.Move None (change_activation Handover (cell_2 0x41) ∷ []) → ⊥
not_taken_without_an_offer is = absurd (let same = is.0 in cc)

not_taken_without_its_activation : IsTaken (cell_2 0x41) inputs.Move (Some (cell_2 0x41)) [] → ⊥
not_taken_without_its_activation is = none_there is.1

-- ---- its release is acknowledged on its place

acknowledged : IsAcknowledged (cell_1 0x0a) (inputs.ReleaseAck (on_1 0x0a))
acknowledged = record { at = on_1 0x0a; acknowledges = refl; there = refl }

not_acknowledged_by_an_activation : IsAcknowledged (cell_1 0x0a) (inputs.ActivationAck (on_1 0x0a)) → ⊥
not_acknowledged_by_an_activation is = absurd (let same = is.acknowledges in cc)

-- ---- the channels in use, and which channel is new

in_use : map (λ (s : Connection). map (λ (c : Channel). c.number) (channels_in_use s))
    (active ∷ live (Preparing (target Assignment (cell_1 0x0a))) (cell_1 0x41) ∷ record active { state = WaitActivation }
    ∷ ended (Closed Complete) active ∷ ended Removed active ∷ []) ≡ hex "41" ∷ hex "41 0a" ∷ hex "41" ∷ [] ∷ [] ∷ []
in_use = refl

new_channels : IsNew (Some (cell_2 0x41)) (cell_1 0x41 ∷ cell_2 0x0a ∷ []) × IsNew None (cell_1 0x41 ∷ [])
new_channels = ((refl, (refl, tt)), tt)

not_new : IsNew (Some (cell_2 0x0a)) (cell_1 0x41 ∷ cell_2 0x0a ∷ []) → ⊥
not_new is = true≢false is.1.0

-- ---- where no row fits, the input brings no step

not_without_a_row : ChangesRolesBy (live (Preparing (target Assignment (cell_1 0x0a))) (cell_1 0x41)) (inputs.ActivationAck (on_1 0x0a)) None None →
    ⊥
not_without_a_row is = absurd (let same : commands ≡ unchanged = is in cc)
