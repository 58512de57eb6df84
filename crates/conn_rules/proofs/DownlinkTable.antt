-- SPDX-License-Identifier: MIT OR Apache-2.0
-- The effect of every row on the messages of the switch.
use Rattle.conn_rules.proofs.Prelude.{◌≡◌, ℕ, zero, suc, Bool, ◌&&◌, ◌||◌, leb, length, List, [], ◌∷◌, ◌++◌, map, refl, sym, ◌∙◌, subst}
use Rattle.conn_rules.proofs.Prelude.{Option, Some, None, eqb, ABNORMAL_RELEASE, EQUIPMENT_FAILURE, NORMAL_EVENT, RADIO_INTERFACE_FAILURE}
use Rattle.conn_rules.proofs.Prelude.{RADIO_INTERFACE_MESSAGE_FAILURE, Change, Assignment, Handover, Channel, rf_channel_release, relaying}
use Rattle.conn_rules.proofs.Prelude.{change_complete, release_complete, clear_complete, cond_both, Sapi, Zero, Three, TenureHold, Place}
use Rattle.conn_rules.proofs.Prelude.{INITIAL_LIMIT, change_command, Input, Drain, Stage, Preparing, Changing, Draining, State}
use Rattle.conn_rules.proofs.Prelude.{WaitActivation, WaitEstablish, WaitConfirm, Live, Closed, Removed, Connection, emptied, first_channel}
use Rattle.conn_rules.proofs.Prelude.{is_at, drain_at, tenure_at, OfRow, IsOpen, IsChanging, Reference, Due, WasAsked, Complete, RrCause}
use Rattle.conn_rules.specs.declared.input.Input.TheVariants as inputs
use Rattle.conn_rules.specs.Steps.{Row, dropping, may_begin, tenure_outs, relay_held, done_at, leave, shifted, settled, settled_stage, resting_stage, resting, moved}
use Rattle.conn_rules.specs.Table.{access, on_activation_ack, nack_outs, on_activation_nack, on_establish_indication, was_asked, on_establish_confirm, on_release_indication, on_error_indication, on_connection_failure, dtap_on_target, dtap_in, on_dtap, same_change, on_complete, failure_outs, on_failure, release, release_in, on_release_ack, on_move, on_confirm, on_refused, on_released, on_downlink, on_assignment_request, on_cipher_mode_command, on_clear_command, on_expiry, is_some_draining, on_drain_expiry, drains_at, targets, on_station_down, on_switch_down, row_of}
use Rattle.conn_rules.proofs.ValidSteps.{of_row_row_if, in_stage, asked_for, none_held}
use Rattle.conn_rules.proofs.DownlinkMessages.{AllByRecursion-append, IsQuiet, AreQuiet}
use Rattle.conn_rules.proofs.DownlinkSteps.{Does, BringsNothing, are_parting_end, does_ending, does_failing, does_dropping, does_without, does_broken, does_begin, does_waiting, does_handing, does_hold_down, does_short_message, does_link_up, does_link_down, does_hold_up, does_changed}
use Rattle.conn_rules.proofs.DownlinkSteps.Does.{ends, passes}

-- ---- old channels leave

are_quiet_relaying : (reference : ℕ) (channel : Channel) (sapi : Sapi) (messages : List (List ℕ)) →
    AreQuiet (map (relaying reference channel sapi) messages)
are_quiet_relaying reference channel sapi [] = tt
are_quiet_relaying reference channel sapi (m ∷ ms) = (tt, are_quiet_relaying reference channel sapi ms)

are_quiet_tenure : (reference : ℕ) (channel : Channel) (tenures : List TenureHold) → AreQuiet (tenure_outs reference channel tenures)
are_quiet_tenure reference channel [] = tt
are_quiet_tenure reference channel (first ∷ rest) =
    AllByRecursion-append IsQuiet (map (relaying reference channel Zero) first.zero) (map (relaying reference channel Three) first.three)
    (are_quiet_relaying reference channel Zero first.zero) (are_quiet_relaying reference channel Three first.three)

-- a step that hands nothing, and leaves the state and what is held of the switch's messages
record IsApartFrom (s : Connection) (r : Row) : Type 0 where
  pub quiet : AreQuiet r.outs
  pub down : r.next.down ≡ s.down
  pub state : r.next.state ≡ s.state

is_apart_from_leave : (reference : ℕ) (ds : List Drain) (s : Connection) → IsApartFrom s (leave reference ds s)
is_apart_from_leave reference [] s = record { quiet = tt; down = refl; state = refl }
is_apart_from_leave reference (d ∷ ds) s =
    let next : Connection = (relay_held reference (shifted ds s)).next in
    let rest = is_apart_from_leave reference ds next in
    cond_both d.is_done _ _ (IsApartFrom s)
    (λ _. record {
      quiet = AllByRecursion-append IsQuiet (relay_held reference (shifted ds s)).outs (leave reference ds next).outs
          (are_quiet_tenure reference (first_channel ds s.serving) (shifted ds s).up.tenures) rest.quiet;
      down = rest.down;
      state = rest.state;
    })
    (λ _. record { quiet = tt; down = refl; state = refl })

-- the state behind it
record Settles (s next : Connection) : Type 0 where
  pub down : next.down ≡ s.down
  pub remains_open : IsOpen s.state → IsOpen next.state

settles_settled : (reference : ℕ) (stage : Stage) (ds : List Drain) (s : Connection) → Settles s (settled reference stage ds s)
settles_settled reference Draining [] s = record { down = refl; remains_open = λ _. tt }
settles_settled reference _ _ s = record { down = refl; remains_open = λ is_open. is_open }

release_does : (reference : ℕ) (stage : Stage) (s : Connection) (input : Input) (place : ℕ) (offer : Option Channel) →
    s.state ≡ Live reference stage →
    BringsNothing input →
    Does (Live reference stage) s input (release reference stage place offer s)
release_does reference stage s input place offer is nothing =
    let left : Row = leave reference (done_at place s.draining) s in
    let rests : Connection = settled reference stage left.next.draining left.next in
    let leaves = is_apart_from_leave reference (done_at place s.draining) s in
    let settles = settles_settled reference stage left.next.draining left.next in
    does_waiting (Live reference stage) s input (settled_stage stage rests.draining) reference offer (left.outs ++ []) rests tt
    (settles.remains_open (subst IsOpen (sym (leaves.state ∙ is)) tt))
    (AllByRecursion-append IsQuiet left.outs [] leaves.quiet tt) (settles.down ∙ leaves.down) nothing

-- ---- channels are activated

activation_ack_does : (state : State) (s : Connection) (at : Place) →
    s.state ≡ state →
    OfRow (Does state s (inputs.ActivationAck at)) (on_activation_ack state s at)
activation_ack_does WaitActivation s at is = of_row_row_if (Does WaitActivation s (inputs.ActivationAck at)) (is_at at s.serving) _ (λ _. passes tt tt (tt, tt) refl tt)
activation_ack_does (Live reference (Preparing target)) s at is =
    of_row_row_if (Does (Live reference (Preparing target)) s (inputs.ActivationAck at)) (is_at at target.channel) _ (λ _. passes tt tt (quiet target.change, tt) refl tt)
  where
    quiet : (change : Change) → IsQuiet (change_command s.serving change target.channel)
    quiet Assignment = refl
    quiet Handover = refl
activation_ack_does _ s at is = tt

are_quiet_nack : (change : Change) (reference : ℕ) → AreQuiet (nack_outs change reference)
are_quiet_nack Assignment reference = (tt, tt)
are_quiet_nack Handover reference = tt

still_resting : (draining : List Drain) (reference : ℕ) → IsChanging (Live reference (resting_stage draining)) → ⊥
still_resting [] reference changes = changes
still_resting (d ∷ ds) reference changes = changes

activation_nack_does : (state : State) (s : Connection) (at : Place) (offer : Option Channel) →
    s.state ≡ state →
    OfRow (Does state s (inputs.ActivationNack at)) (on_activation_nack state s at offer)
activation_nack_does WaitActivation s at offer is = of_row_row_if (Does WaitActivation s (inputs.ActivationNack at)) (is_at at s.serving) _ (λ _. ends absurd tt tt)
activation_nack_does (Live reference (Preparing target)) s at offer is =
    of_row_row_if (Does (Live reference (Preparing target)) s (inputs.ActivationNack at)) (is_at at target.channel) _
    (λ _. does_waiting (Live reference (Preparing target)) s (inputs.ActivationNack at) (resting_stage s.draining) reference offer
    (nack_outs target.change reference) (resting reference s) tt tt (are_quiet_nack target.change reference) refl tt)
activation_nack_does _ s at offer is = tt

-- ---- the mobile's links

access_does : (initial : Option (List ℕ)) (s : Connection) (at : Place) (sapi : Sapi) →
    Does WaitEstablish s (inputs.EstablishIndication at sapi initial) (access initial s)
access_does (Some initial) s at sapi =
    cond_both (leb (length initial) INITIAL_LIMIT) _ _ (Does WaitEstablish s (inputs.EstablishIndication at sapi (Some initial)))
    (λ _. passes tt tt (tt, tt) refl tt) (λ _. does_dropping WaitEstablish s (inputs.EstablishIndication at sapi (Some initial)) tt)
access_does None s at sapi = does_dropping WaitEstablish s (inputs.EstablishIndication at sapi None) tt

establish_indication_does : (state : State) (s : Connection) (at : Place) (sapi : Sapi) (message : Option (List ℕ)) →
    s.state ≡ state →
    OfRow (Does state s (inputs.EstablishIndication at sapi message)) (on_establish_indication state s at sapi message)
establish_indication_does WaitEstablish s at Zero message is = of_row_row_if (Does WaitEstablish s (inputs.EstablishIndication at Zero message)) (is_at at s.serving) _ (λ _. access_does message s at Zero)
establish_indication_does (Live reference (Changing target)) s at sapi message is = tt
establish_indication_does (Live reference stage) s at Three message is =
    of_row_row_if (Does (Live reference stage) s (inputs.EstablishIndication at Three message)) (is_at at s.serving) _ (λ _. does_link_up reference stage s (inputs.EstablishIndication at Three message) tt is tt)
establish_indication_does _ s at sapi message is = tt

establish_confirm_does : (state : State) (s : Connection) (at : Place) (sapi : Sapi) →
    s.state ≡ state →
    OfRow (Does state s (inputs.EstablishConfirm at sapi)) (on_establish_confirm state s at sapi)
establish_confirm_does (Live reference (Changing target)) s at sapi is = tt
establish_confirm_does (Live reference stage) s at Three is =
    of_row_row_if (Does (Live reference stage) s (inputs.EstablishConfirm at Three)) (was_asked s.link && is_at at s.serving) _ (λ _. does_link_up reference stage s (inputs.EstablishConfirm at Three) tt is tt)
establish_confirm_does _ s at sapi is = tt

release_indication_does : (state : State) (s : Connection) (at : Place) (sapi : Sapi) →
    s.state ≡ state →
    OfRow (Does state s (inputs.ReleaseIndication at sapi)) (on_release_indication state s at sapi)
release_indication_does WaitEstablish s at Zero is =
    of_row_row_if (Does WaitEstablish s (inputs.ReleaseIndication at Zero)) (is_at at s.serving) _ (λ _. does_dropping WaitEstablish s (inputs.ReleaseIndication at Zero) tt)
release_indication_does WaitConfirm s at Zero is =
    of_row_row_if (Does WaitConfirm s (inputs.ReleaseIndication at Zero)) (is_at at s.serving) _ (λ _. does_failing WaitConfirm s (inputs.ReleaseIndication at Zero) RADIO_INTERFACE_FAILURE tt)
release_indication_does (Live reference (Changing target)) s at sapi is = tt
release_indication_does (Live reference stage) s at Zero is =
    of_row_row_if (Does (Live reference stage) s (inputs.ReleaseIndication at Zero)) (is_at at s.serving) _ (λ _. does_failing (Live reference stage) s (inputs.ReleaseIndication at Zero) RADIO_INTERFACE_FAILURE tt)
release_indication_does (Live reference stage) s at Three is =
    of_row_row_if (Does (Live reference stage) s (inputs.ReleaseIndication at Three)) (is_at at s.serving) _ (λ _. does_link_down reference stage s.link s (inputs.ReleaseIndication at Three) tt is tt)
release_indication_does _ s at sapi is = tt

error_indication_does : (state : State) (s : Connection) (at : Place) (sapi : Sapi) →
    s.state ≡ state →
    OfRow (Does state s (inputs.ErrorIndication at sapi)) (on_error_indication state s at sapi)
error_indication_does (Live reference (Changing target)) s at sapi is = tt
error_indication_does (Live reference stage) s at Three is =
    of_row_row_if (Does (Live reference stage) s (inputs.ErrorIndication at Three)) (is_at at s.serving) _ (λ _. does_link_down reference stage s.link s (inputs.ErrorIndication at Three) tt is tt)
error_indication_does _ s at sapi is = tt

connection_failure_does : (state : State) (s : Connection) (at : Place) →
    OfRow (Does state s (inputs.ConnectionFailure at)) (on_connection_failure state s at)
connection_failure_does WaitEstablish s at = of_row_row_if (Does WaitEstablish s (inputs.ConnectionFailure at)) (is_at at s.serving) _ (λ _. does_dropping WaitEstablish s (inputs.ConnectionFailure at) tt)
connection_failure_does WaitConfirm s at =
    of_row_row_if (Does WaitConfirm s (inputs.ConnectionFailure at)) (is_at at s.serving) _ (λ _. does_failing WaitConfirm s (inputs.ConnectionFailure at) RADIO_INTERFACE_FAILURE tt)
connection_failure_does (Live reference (Changing target)) s at = tt
connection_failure_does (Live reference stage) s at =
    of_row_row_if (Does (Live reference stage) s (inputs.ConnectionFailure at)) (is_at at s.serving) _ (λ _. does_failing (Live reference stage) s (inputs.ConnectionFailure at) RADIO_INTERFACE_FAILURE tt)
connection_failure_does _ s at = tt

-- ---- the mobile's messages

dtap_on_target_does : (reference : ℕ) (stage : Stage) (s : Connection) (at : Place) (sapi : Sapi) (input : Input) →
    OfRow (Does (Live reference stage) s input) (dtap_on_target reference stage s at sapi)
dtap_on_target_does reference (Changing target) s at Zero input =
    of_row_row_if (Does (Live reference (Changing target)) s input) (is_at at target.channel) _ (λ _. does_failing (Live reference (Changing target)) s input EQUIPMENT_FAILURE tt)
dtap_on_target_does reference _ s at sapi input = tt

dtap_in_does : (tenure : Option ℕ) (reference : ℕ) (stage : Stage) (s : Connection) (at : Place) (sapi : Sapi) (message : List ℕ) →
    s.state ≡ Live reference stage →
    OfRow (Does (Live reference stage) s (inputs.Dtap at sapi message)) (dtap_in tenure reference stage s at sapi message)
dtap_in_does (Some zero) reference stage s at sapi message is = passes tt (subst IsOpen (sym is) tt) (tt, tt) refl tt
dtap_in_does (Some (suc tenure)) reference stage s at sapi message is = does_hold_up (Live reference stage) s (inputs.Dtap at sapi message) (suc tenure) sapi message tt is tt
dtap_in_does None reference stage s at sapi message is = dtap_on_target_does reference stage s at sapi (inputs.Dtap at sapi message)

dtap_does : (state : State) (s : Connection) (at : Place) (sapi : Sapi) (message : List ℕ) →
    s.state ≡ state →
    OfRow (Does state s (inputs.Dtap at sapi message)) (on_dtap state s at sapi message)
dtap_does WaitEstablish s at Zero message is = of_row_row_if (Does WaitEstablish s (inputs.Dtap at Zero message)) (is_at at s.serving) _ (λ _. does_dropping WaitEstablish s (inputs.Dtap at Zero message) tt)
dtap_does WaitConfirm s at sapi message is =
    of_row_row_if (Does WaitConfirm s (inputs.Dtap at sapi message)) (is_at at s.serving) _ (λ _. does_hold_up WaitConfirm s (inputs.Dtap at sapi message) 0 sapi message tt is tt)
dtap_does (Live reference stage) s at sapi message is = dtap_in_does (tenure_at at s.serving s.draining) reference stage s at sapi message is
dtap_does _ s at sapi message is = tt

complete_does : (state : State) (s : Connection) (at : Place) (change : Change) (cause : RrCause) (offer : Option Channel) →
    OfRow (Does state s (inputs.Complete at change cause)) (on_complete state s at change cause.0 offer)
complete_does (Live reference (Changing target)) s at change cause offer =
    of_row_row_if (Does (Live reference (Changing target)) s (inputs.Complete at change cause)) (is_at at target.channel && same_change change target.change) _
    (λ _. does_changed (Live reference (Changing target)) s (inputs.Complete at change cause) (change_complete reference change target.channel cause.0 ∷ rf_channel_release s.serving ∷ [])
    (moved reference target.channel s) Draining reference offer tt (quiet change, (tt, tt)) refl tt tt absurd)
  where
    quiet : (change : Change) → IsQuiet (change_complete reference change target.channel cause.0)
    quiet Assignment = tt
    quiet Handover = tt
complete_does _ s at change cause offer = tt

failure_does : (state : State) (s : Connection) (at : Place) (change : Change) (cause : RrCause) (offer : Option Channel) →
    OfRow (Does state s (inputs.Failure at change cause)) (on_failure state s at change cause.0 offer)
failure_does (Live reference (Changing target)) s at change cause offer =
    of_row_row_if (Does (Live reference (Changing target)) s (inputs.Failure at change cause)) (is_at at s.serving && same_change change target.change) _
    (λ _. does_changed (Live reference (Changing target)) s (inputs.Failure at change cause) (failure_outs change reference cause.0 ++ rf_channel_release target.channel ∷ [])
    (resting reference s) (resting_stage s.draining) reference offer tt (quiet change) refl tt tt (still_resting s.draining reference))
  where
    quiet : (change : Change) → AreQuiet (failure_outs change reference cause.0 ++ rf_channel_release target.channel ∷ [])
    quiet Assignment = (tt, (tt, tt))
    quiet Handover = (tt, tt)
failure_does _ s at change cause offer = tt

release_in_does : (place : Option ℕ) (reference : ℕ) (stage : Stage) (s : Connection) (at : Place) (offer : Option Channel) →
    s.state ≡ Live reference stage →
    OfRow (Does (Live reference stage) s (inputs.ReleaseAck at)) (release_in place reference stage offer s)
release_in_does (Some place) reference stage s at offer is = release_does reference stage s (inputs.ReleaseAck at) place offer is tt
release_in_does None reference stage s at offer is = tt

release_ack_does : (state : State) (s : Connection) (at : Place) (offer : Option Channel) →
    s.state ≡ state →
    OfRow (Does state s (inputs.ReleaseAck at)) (on_release_ack state s at offer)
release_ack_does (Live reference stage) s at offer is = release_in_does (drain_at at s.draining) reference stage s at offer is
release_ack_does _ s at offer is = tt

move_does : (state : State) (s : Connection) (offer : Option Channel) →
    s.state ≡ state →
    OfRow (Does state s inputs.Move) (on_move state s offer)
move_does (Live reference stage) s offer is =
    of_row_row_if (Does (Live reference stage) s inputs.Move) (may_begin stage s.draining) _ (λ _. does_begin (Live reference stage) s inputs.Move reference Handover offer tt (subst IsOpen (sym is) tt) tt)
move_does _ s offer is = tt

-- ---- the switch

confirm_does : (state : State) (s : Connection) (source : Reference) →
    OfRow (Does state s (inputs.ConnectionConfirm source)) (on_confirm state s source)
confirm_does WaitConfirm s source = passes tt tt (are_quiet_tenure source (first_channel s.draining s.serving) s.up.tenures) refl tt
confirm_does (Closed (Due cause)) s source = ends absurd (tt, tt) tt
confirm_does _ s source = tt

refused_does : (state : State) (s : Connection) → OfRow (Does state s inputs.ConnectionRefused) (on_refused state s)
refused_does WaitConfirm s = ends absurd (refl, (tt, tt)) tt
refused_does (Closed (Due cause)) s = ends absurd tt tt
refused_does _ s = tt

released_does : (state : State) (s : Connection) (source : Reference) →
    OfRow (Does state s (inputs.Released source)) (on_released state s source)
released_does WaitConfirm s source = ends absurd (refl, (tt, (tt, tt))) tt
released_does (Live own stage) s source = does_ending (Live own stage) s (inputs.Released source) ABNORMAL_RELEASE (release_complete source ∷ []) (emptied Removed s) tt absurd (tt, tt)
released_does (Closed Complete) s source = ends absurd (tt, tt) (tt, tt)
released_does (Closed clearing) s source = ends absurd (tt, tt) tt
released_does _ s source = tt

downlink_does : (state : State) (s : Connection) (sapi : Sapi) (message : List ℕ) →
    s.state ≡ state →
    OfRow (Does state s (inputs.Downlink sapi message)) (on_downlink state s sapi message)
downlink_does (Live reference (Changing target)) s sapi message is = does_hold_down reference target s sapi message is
downlink_does (Live reference stage) s Zero message is = does_handing reference stage s Zero message tt is (λ valid. none_held stage s.draining s.down s.link s.waits tt (in_stage reference stage s is valid))
downlink_does (Live reference stage) s Three message is =
    does_short_message reference stage s.link s message tt is (λ valid. asked_for stage s.draining s.down s.link s.waits tt (in_stage reference stage s is valid))
downlink_does _ s sapi message is = tt

assignment_request_does : (state : State) (s : Connection) (is_speech : Bool) (offer : Option Channel) →
    s.state ≡ state →
    OfRow (Does state s (inputs.AssignmentRequest is_speech)) (on_assignment_request state s is_speech offer)
assignment_request_does (Live reference stage) s is_speech offer is =
    let opened : IsOpen s.state = subst IsOpen (sym is) tt in
    let Holds : Row → Type 0 = Does (Live reference stage) s (inputs.AssignmentRequest is_speech) in
    cond_both is_speech _ _ Holds
    (λ _. cond_both (may_begin stage s.draining) _ _ Holds (λ _. does_begin (Live reference stage) s (inputs.AssignmentRequest is_speech) reference Assignment offer tt opened tt)
    (λ _. cond_both s.waits _ _ Holds (λ _. passes tt opened (tt, tt) refl tt) (λ _. passes tt opened tt refl tt)))
    (λ _. passes tt opened (tt, tt) refl tt)
assignment_request_does _ s is_speech offer is = tt

cipher_mode_command_does : (state : State) (s : Connection) →
    s.state ≡ state →
    OfRow (Does state s inputs.CipherModeCommand) (on_cipher_mode_command state s)
cipher_mode_command_does (Live reference stage) s is = passes tt (subst IsOpen (sym is) tt) (tt, tt) refl tt
cipher_mode_command_does _ s is = tt

clear_command_does : (state : State) (s : Connection) → OfRow (Does state s inputs.ClearCommand) (on_clear_command state s)
clear_command_does (Live reference stage) s = does_ending (Live reference stage) s inputs.ClearCommand NORMAL_EVENT (clear_complete reference ∷ []) (emptied (Closed Complete) s) tt absurd (tt, tt)
clear_command_does (Closed (WasAsked reference)) s = ends absurd (tt, tt) tt
clear_command_does _ s = tt

-- ---- timers and links

expiry_does : (state : State) (s : Connection) → OfRow (Does state s inputs.Expiry) (on_expiry state s)
expiry_does WaitActivation s = does_dropping WaitActivation s inputs.Expiry tt
expiry_does WaitEstablish s = does_dropping WaitEstablish s inputs.Expiry tt
expiry_does (Live reference (Preparing target)) s = does_failing (Live reference (Preparing target)) s inputs.Expiry RADIO_INTERFACE_MESSAGE_FAILURE tt
expiry_does (Live reference (Changing target)) s = does_failing (Live reference (Changing target)) s inputs.Expiry RADIO_INTERFACE_MESSAGE_FAILURE tt
expiry_does _ s = tt

drain_expiry_does : (state : State) (s : Connection) → OfRow (Does state s inputs.DrainExpiry) (on_drain_expiry state s)
drain_expiry_does (Live reference stage) s =
    of_row_row_if (Does (Live reference stage) s inputs.DrainExpiry) (is_some_draining s.draining) _ (λ _. does_failing (Live reference stage) s inputs.DrainExpiry EQUIPMENT_FAILURE tt)
drain_expiry_does _ s = tt

station_down_does : (state : State) (s : Connection) (station : ℕ) →
    OfRow (Does state s (inputs.StationDown station)) (on_station_down state s station)
station_down_does WaitActivation s station =
    of_row_row_if (Does WaitActivation s (inputs.StationDown station)) (eqb s.serving.station station) _ (λ _. does_without WaitActivation s (inputs.StationDown station) station (dropping s) tt absurd (tt, tt))
station_down_does WaitEstablish s station =
    of_row_row_if (Does WaitEstablish s (inputs.StationDown station)) (eqb s.serving.station station) _ (λ _. does_without WaitEstablish s (inputs.StationDown station) station (dropping s) tt absurd (tt, tt))
station_down_does WaitConfirm s station =
    of_row_row_if (Does WaitConfirm s (inputs.StationDown station)) (eqb s.serving.station station) _ (λ _. does_broken WaitConfirm s (inputs.StationDown station) station EQUIPMENT_FAILURE tt)
station_down_does (Live reference stage) s station =
    of_row_row_if (Does (Live reference stage) s (inputs.StationDown station)) (eqb s.serving.station station || targets station stage || drains_at station s.draining) _
    (λ _. does_broken (Live reference stage) s (inputs.StationDown station) station EQUIPMENT_FAILURE tt)
station_down_does _ s station = tt

switch_down_does : (state : State) (s : Connection) → OfRow (Does state s inputs.SwitchDown) (on_switch_down state s)
switch_down_does WaitActivation s = does_dropping WaitActivation s inputs.SwitchDown tt
switch_down_does WaitEstablish s = does_dropping WaitEstablish s inputs.SwitchDown tt
switch_down_does WaitConfirm s = ends absurd (refl, (tt, tt)) tt
switch_down_does (Live reference stage) s = ends absurd (are_parting_end (Live reference stage) s.serving ABNORMAL_RELEASE) tt
switch_down_does (Closed Complete) s = ends absurd tt tt
switch_down_does (Closed clearing) s = ends absurd tt tt
switch_down_does Removed s = tt

-- ---- the whole table

pub Does-row : (s : Connection) (input : Input) (offer : Option Channel) → OfRow (Does s.state s input) (row_of s input offer)
unfolding row_of
Does-row s (inputs.ActivationAck at) offer = activation_ack_does s.state s at refl
Does-row s (inputs.ActivationNack at) offer = activation_nack_does s.state s at offer refl
Does-row s (inputs.EstablishIndication at sapi message) offer = establish_indication_does s.state s at sapi message refl
Does-row s (inputs.EstablishConfirm at sapi) offer = establish_confirm_does s.state s at sapi refl
Does-row s (inputs.ReleaseIndication at sapi) offer = release_indication_does s.state s at sapi refl
Does-row s (inputs.ErrorIndication at sapi) offer = error_indication_does s.state s at sapi refl
Does-row s (inputs.ConnectionFailure at) offer = connection_failure_does s.state s at
Does-row s (inputs.Dtap at sapi message) offer = dtap_does s.state s at sapi message refl
Does-row s (inputs.Complete at change cause) offer = complete_does s.state s at change cause offer
Does-row s (inputs.Failure at change cause) offer = failure_does s.state s at change cause offer
Does-row s (inputs.ReleaseAck at) offer = release_ack_does s.state s at offer refl
Does-row s inputs.Move offer = move_does s.state s offer refl
Does-row s (inputs.ConnectionConfirm source) offer = confirm_does s.state s source
Does-row s inputs.ConnectionRefused offer = refused_does s.state s
Does-row s (inputs.Released source) offer = released_does s.state s source
Does-row s (inputs.Downlink sapi message) offer = downlink_does s.state s sapi message refl
Does-row s (inputs.AssignmentRequest is_speech) offer = assignment_request_does s.state s is_speech offer refl
Does-row s inputs.CipherModeCommand offer = cipher_mode_command_does s.state s refl
Does-row s inputs.ClearCommand offer = clear_command_does s.state s
Does-row s inputs.Expiry offer = expiry_does s.state s
Does-row s inputs.DrainExpiry offer = drain_expiry_does s.state s
Does-row s (inputs.StationDown station) offer = station_down_does s.state s station
Does-row s inputs.SwitchDown offer = switch_down_does s.state s
