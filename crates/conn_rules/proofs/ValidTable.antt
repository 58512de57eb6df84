-- SPDX-License-Identifier: MIT OR Apache-2.0
-- Every row keeps the invariant.
use Rattle.conn_rules.proofs.Prelude.{◌≡◌, ℕ, zero, suc, Bool, true, ◌&&◌, ◌||◌, leb, List, length, refl, eqb, Option, Some, None, IsLayer3}
use Rattle.conn_rules.proofs.Prelude.{EQUIPMENT_FAILURE, RADIO_INTERFACE_FAILURE, RADIO_INTERFACE_MESSAGE_FAILURE, Place, INITIAL_LIMIT}
use Rattle.conn_rules.proofs.Prelude.{Change, Assignment, Handover, Channel, cond_both, Sapi, Zero, Three, Input, Due, WasAsked, Complete}
use Rattle.conn_rules.proofs.Prelude.{Down, Stage, Active, Preparing, Changing, Draining, State, WaitActivation, WaitEstablish, WaitConfirm}
use Rattle.conn_rules.proofs.Prelude.{Live, Closed, Removed, Connection, enter, is_at, drain_at, tenure_at, IsValid, IsCarried, OfRow}
use Rattle.conn_rules.specs.declared.input.Input.TheVariants as inputs
use Rattle.conn_rules.specs.Steps.{Row, may_begin, begin}
use Rattle.conn_rules.specs.Table.{access, on_activation_ack, on_activation_nack, on_establish_indication, was_asked, on_establish_confirm, on_release_indication, on_error_indication, on_connection_failure, dtap_on_target, dtap_in, on_dtap, same_change, on_complete, on_failure, release_in, on_release_ack, on_move, on_confirm, on_refused, on_released, on_downlink, speech_request, on_assignment_request, on_cipher_mode_command, on_clear_command, on_expiry, is_some_draining, on_drain_expiry, drains_at, targets, on_station_down, on_switch_down, row_of}
use Rattle.conn_rules.proofs.ValidSteps.{of_row_row_if, holds_of, valid_removed, valid_closed, valid_failing, valid_enter, by_state, alive, in_stage, valid_live, valid_but_of, valid_in_waiting, valid_begin, valid_link_up, valid_link_down, valid_hold_down, valid_short_message, valid_hold_up, valid_hold_first, valid_confirmed}
use Rattle.conn_rules.proofs.ValidChanges.{valid_nack, valid_failure, valid_complete, valid_release}

-- the connection behind a row
abbrev Next : Row → Type 0
Next r = IsValid r.next

-- ---- channels are activated

activation_ack_valid : (state : State) (s : Connection) (at : Place) →
    s.state ≡ state →
    IsValid s →
    OfRow Next (on_activation_ack state s at)
activation_ack_valid WaitActivation s at is valid =
    of_row_row_if Next (is_at at s.serving) _ (λ _. valid_enter WaitEstablish s (by_state WaitActivation s is valid) valid)
activation_ack_valid (Live reference (Preparing target)) s at is valid =
    of_row_row_if Next (is_at at target.channel) _ (λ _.
    valid_live reference (Changing target) (enter (Live reference (Changing target)) (record s { link = Down })) refl (alive reference (Preparing target) s is valid)
    ((in_stage reference (Preparing target) s is valid).0, refl))
activation_ack_valid _ s at is valid = tt

activation_nack_valid : (state : State) (s : Connection) (at : Place) (offer : Option Channel) →
    s.state ≡ state →
    IsValid s →
    OfRow Next (on_activation_nack state s at offer)
activation_nack_valid WaitActivation s at offer is valid = of_row_row_if Next (is_at at s.serving) _ (λ _. valid_removed s (holds_of s valid))
activation_nack_valid (Live reference (Preparing target)) s at offer is valid =
    of_row_row_if Next (is_at at target.channel) _ (λ _. valid_nack reference target offer s is valid)
activation_nack_valid _ s at offer is valid = tt

-- ---- the mobile's links

access_valid : (initial : Option (List ℕ)) (s : Connection) → s.state ≡ WaitEstablish → IsValid s → IsValid (access initial s).next
access_valid (Some initial) s is valid =
    let bare = by_state WaitEstablish s is valid in
    cond_both (leb (length initial) INITIAL_LIMIT) _ _ Next
    (λ fits. valid_enter WaitConfirm s
    (record { none_drains = bare.0.none_drains; none_handed = bare.0.none_handed; one_tenure = rw bare.0.one_tenure refl; down_link = bare.1; none_waits = bare.0.none_waits }) valid)
    (λ long. valid_removed s (holds_of s valid))
access_valid None s is valid = valid_removed s (holds_of s valid)

establish_indication_valid : (state : State) (s : Connection) (at : Place) (sapi : Sapi) (message : Option (List ℕ)) →
    s.state ≡ state →
    IsValid s →
    OfRow Next (on_establish_indication state s at sapi message)
establish_indication_valid WaitEstablish s at Zero message is valid = of_row_row_if Next (is_at at s.serving) _ (λ _. access_valid message s is valid)
establish_indication_valid (Live reference Active) s at Three message is valid = of_row_row_if Next (is_at at s.serving) _ (λ _. valid_link_up reference Active s tt is valid)
establish_indication_valid (Live reference (Preparing target)) s at Three message is valid = of_row_row_if Next (is_at at s.serving) _ (λ _. valid_link_up reference (Preparing target) s tt is valid)
establish_indication_valid (Live reference Draining) s at Three message is valid = of_row_row_if Next (is_at at s.serving) _ (λ _. valid_link_up reference Draining s tt is valid)
establish_indication_valid _ s at sapi message is valid = tt

establish_confirm_valid : (state : State) (s : Connection) (at : Place) (sapi : Sapi) →
    s.state ≡ state →
    IsValid s →
    OfRow Next (on_establish_confirm state s at sapi)
establish_confirm_valid (Live reference (Changing target)) s at sapi is valid = tt
establish_confirm_valid (Live reference stage) s at Three is valid = of_row_row_if Next (was_asked s.link && is_at at s.serving) _ (λ _. valid_link_up reference stage s tt is valid)
establish_confirm_valid _ s at sapi is valid = tt

release_indication_valid : (state : State) (s : Connection) (at : Place) (sapi : Sapi) →
    s.state ≡ state →
    IsValid s →
    OfRow Next (on_release_indication state s at sapi)
release_indication_valid WaitEstablish s at Zero is valid = of_row_row_if Next (is_at at s.serving) _ (λ _. valid_removed s (holds_of s valid))
release_indication_valid WaitConfirm s at Zero is valid = of_row_row_if Next (is_at at s.serving) _ (λ _. valid_failing WaitConfirm s RADIO_INTERFACE_FAILURE (holds_of s valid))
release_indication_valid (Live reference (Changing target)) s at sapi is valid = tt
release_indication_valid (Live reference stage) s at Zero is valid = of_row_row_if Next (is_at at s.serving) _ (λ _. valid_failing (Live reference stage) s RADIO_INTERFACE_FAILURE (holds_of s valid))
release_indication_valid (Live reference stage) s at Three is valid = of_row_row_if Next (is_at at s.serving) _ (λ _. valid_link_down reference stage s.link s refl tt is valid)
release_indication_valid _ s at sapi is valid = tt

error_indication_valid : (state : State) (s : Connection) (at : Place) (sapi : Sapi) →
    s.state ≡ state →
    IsValid s →
    OfRow Next (on_error_indication state s at sapi)
error_indication_valid (Live reference (Changing target)) s at sapi is valid = tt
error_indication_valid (Live reference stage) s at Three is valid = of_row_row_if Next (is_at at s.serving) _ (λ _. valid_link_down reference stage s.link s refl tt is valid)
error_indication_valid _ s at sapi is valid = tt

connection_failure_valid : (state : State) (s : Connection) (at : Place) →
    s.state ≡ state →
    IsValid s →
    OfRow Next (on_connection_failure state s at)
connection_failure_valid WaitEstablish s at is valid = of_row_row_if Next (is_at at s.serving) _ (λ _. valid_removed s (holds_of s valid))
connection_failure_valid WaitConfirm s at is valid = of_row_row_if Next (is_at at s.serving) _ (λ _. valid_failing WaitConfirm s RADIO_INTERFACE_FAILURE (holds_of s valid))
connection_failure_valid (Live reference (Changing target)) s at is valid = tt
connection_failure_valid (Live reference stage) s at is valid = of_row_row_if Next (is_at at s.serving) _ (λ _. valid_failing (Live reference stage) s RADIO_INTERFACE_FAILURE (holds_of s valid))
connection_failure_valid _ s at is valid = tt

-- ---- the mobile's messages

dtap_on_target_valid : (reference : ℕ) (stage : Stage) (s : Connection) (at : Place) (sapi : Sapi) →
    IsValid s →
    OfRow Next (dtap_on_target reference stage s at sapi)
dtap_on_target_valid reference (Changing target) s at Zero valid = of_row_row_if Next (is_at at target.channel) _ (λ _. valid_failing (Live reference (Changing target)) s EQUIPMENT_FAILURE (holds_of s valid))
dtap_on_target_valid reference _ s at sapi valid = tt

dtap_in_valid : (tenure : Option ℕ) (reference : ℕ) (stage : Stage) (s : Connection) (at : Place) (sapi : Sapi) (message : List ℕ) →
    s.state ≡ Live reference stage →
    IsLayer3 message →
    IsValid s →
    OfRow Next (dtap_in tenure reference stage s at sapi message)
dtap_in_valid (Some zero) reference stage s at sapi message is carried valid = valid
dtap_in_valid (Some (suc tenure)) reference stage s at sapi message is carried valid = valid_hold_up reference stage tenure sapi message s is carried valid
dtap_in_valid None reference stage s at sapi message is carried valid = dtap_on_target_valid reference stage s at sapi valid

dtap_valid : (state : State) (s : Connection) (at : Place) (sapi : Sapi) (message : List ℕ) →
    s.state ≡ state →
    IsLayer3 message →
    IsValid s →
    OfRow Next (on_dtap state s at sapi message)
dtap_valid WaitEstablish s at Zero message is carried valid = of_row_row_if Next (is_at at s.serving) _ (λ _. valid_removed s (holds_of s valid))
dtap_valid WaitConfirm s at sapi message is carried valid = of_row_row_if Next (is_at at s.serving) _ (λ _. valid_hold_first sapi message s is carried valid)
dtap_valid (Live reference stage) s at sapi message is carried valid = dtap_in_valid (tenure_at at s.serving s.draining) reference stage s at sapi message is carried valid
dtap_valid _ s at sapi message is carried valid = tt

complete_valid : (state : State) (s : Connection) (at : Place) (change : Change) (cause : ℕ) (offer : Option Channel) →
    s.state ≡ state →
    IsValid s →
    OfRow Next (on_complete state s at change cause offer)
complete_valid (Live reference (Changing target)) s at change cause offer is valid =
    of_row_row_if Next (is_at at target.channel && same_change change target.change) _ (λ _. valid_complete reference target change target.channel cause offer s is valid)
complete_valid _ s at change cause offer is valid = tt

failure_valid : (state : State) (s : Connection) (at : Place) (change : Change) (cause : ℕ) (offer : Option Channel) →
    s.state ≡ state →
    IsValid s →
    OfRow Next (on_failure state s at change cause offer)
failure_valid (Live reference (Changing target)) s at change cause offer is valid =
    of_row_row_if Next (is_at at s.serving && same_change change target.change) _ (λ _. valid_failure reference target change target.channel cause offer s is valid)
failure_valid _ s at change cause offer is valid = tt

release_in_valid : (place : Option ℕ) (reference : ℕ) (stage : Stage) (offer : Option Channel) (s : Connection) →
    s.state ≡ Live reference stage →
    IsValid s →
    OfRow Next (release_in place reference stage offer s)
release_in_valid (Some place) reference stage offer s is valid = valid_release reference stage place offer s is valid
release_in_valid None reference stage offer s is valid = tt

release_ack_valid : (state : State) (s : Connection) (at : Place) (offer : Option Channel) →
    s.state ≡ state →
    IsValid s →
    OfRow Next (on_release_ack state s at offer)
release_ack_valid (Live reference stage) s at offer is valid = release_in_valid (drain_at at s.draining) reference stage offer s is valid
release_ack_valid _ s at offer is valid = tt

-- ---- a change begins

begin_valid : (reference : ℕ) (stage : Stage) (change : Change) (offer : Option Channel) (s : Connection) →
    s.state ≡ Live reference stage →
    may_begin stage s.draining ≡ true →
    IsValid s →
    IsValid (begin reference change offer s).next
begin_valid reference stage change offer s is may valid =
    valid_begin reference stage change offer s (alive reference stage s is valid) may
    (valid_but_of stage s.draining s.down s.link s.waits (in_stage reference stage s is valid)) valid

move_valid : (state : State) (s : Connection) (offer : Option Channel) → s.state ≡ state → IsValid s → OfRow Next (on_move state s offer)
move_valid (Live reference stage) s offer is valid = of_row_row_if Next (may_begin stage s.draining) _ (λ may. begin_valid reference stage Handover offer s is may valid)
move_valid _ s offer is valid = tt

speech_request_valid : (reference : ℕ) (stage : Stage) (offer : Option Channel) (s : Connection) →
    s.state ≡ Live reference stage →
    IsValid s →
    IsValid (speech_request reference stage offer s).next
speech_request_valid reference stage offer s is valid =
    cond_both (may_begin stage s.draining) _ _ Next (λ may. begin_valid reference stage Assignment offer s is may valid)
    (λ full. cond_both s.waits _ _ Next (λ _. valid) (λ _. valid_live reference stage (record s { waits = true }) is (alive reference stage s is valid)
    (valid_in_waiting stage s.draining s.down s.link full (valid_but_of stage s.draining s.down s.link s.waits (in_stage reference stage s is valid)))))

assignment_request_valid : (state : State) (s : Connection) (is_speech : Bool) (offer : Option Channel) →
    s.state ≡ state →
    IsValid s →
    OfRow Next (on_assignment_request state s is_speech offer)
assignment_request_valid (Live reference stage) s is_speech offer is valid =
    cond_both is_speech _ _ Next (λ _. speech_request_valid reference stage offer s is valid) (λ _. valid)
assignment_request_valid _ s is_speech offer is valid = tt

-- ---- the switch

confirm_valid : (state : State) (s : Connection) (reference : ℕ) → s.state ≡ state → IsValid s → OfRow Next (on_confirm state s reference)
confirm_valid WaitConfirm s reference is valid = valid_confirmed reference s is valid
confirm_valid (Closed (Due cause)) s reference is valid = valid_enter (Closed (WasAsked reference)) s (by_state (Closed (Due cause)) s is valid) valid
confirm_valid _ s reference is valid = tt

refused_valid : (state : State) (s : Connection) → IsValid s → OfRow Next (on_refused state s)
refused_valid WaitConfirm s valid = valid_removed s (holds_of s valid)
refused_valid (Closed (Due cause)) s valid = valid_removed s (holds_of s valid)
refused_valid _ s valid = tt

released_valid : (state : State) (s : Connection) (reference : ℕ) → IsValid s → OfRow Next (on_released state s reference)
released_valid WaitConfirm s reference valid = valid_removed s (holds_of s valid)
released_valid (Live own stage) s reference valid = valid_removed s (holds_of s valid)
released_valid (Closed clearing) s reference valid = valid_removed s (holds_of s valid)
released_valid _ s reference valid = tt

downlink_valid : (state : State) (s : Connection) (sapi : Sapi) (message : List ℕ) →
    s.state ≡ state →
    IsLayer3 message →
    IsValid s →
    OfRow Next (on_downlink state s sapi message)
downlink_valid (Live reference (Changing target)) s sapi message is carried valid = valid_hold_down reference target sapi message s is carried valid
downlink_valid (Live reference stage) s Zero message is carried valid = valid
downlink_valid (Live reference stage) s Three message is carried valid = valid_short_message reference stage s.link message s tt is carried valid
downlink_valid _ s sapi message is carried valid = tt

cipher_mode_command_valid : (state : State) (s : Connection) → IsValid s → OfRow Next (on_cipher_mode_command state s)
cipher_mode_command_valid (Live reference stage) s valid = valid
cipher_mode_command_valid _ s valid = tt

clear_command_valid : (state : State) (s : Connection) → s.state ≡ state → IsValid s → OfRow Next (on_clear_command state s)
clear_command_valid (Live reference stage) s is valid = valid_closed Complete s (holds_of s valid)
clear_command_valid (Closed (WasAsked reference)) s is valid = valid_enter (Closed Complete) s (by_state (Closed (WasAsked reference)) s is valid) valid
clear_command_valid _ s is valid = tt

-- ---- timers and links

expiry_valid : (state : State) (s : Connection) → IsValid s → OfRow Next (on_expiry state s)
expiry_valid WaitActivation s valid = valid_removed s (holds_of s valid)
expiry_valid WaitEstablish s valid = valid_removed s (holds_of s valid)
expiry_valid (Live reference (Preparing target)) s valid = valid_failing (Live reference (Preparing target)) s RADIO_INTERFACE_MESSAGE_FAILURE (holds_of s valid)
expiry_valid (Live reference (Changing target)) s valid = valid_failing (Live reference (Changing target)) s RADIO_INTERFACE_MESSAGE_FAILURE (holds_of s valid)
expiry_valid _ s valid = tt

drain_expiry_valid : (state : State) (s : Connection) → IsValid s → OfRow Next (on_drain_expiry state s)
drain_expiry_valid (Live reference stage) s valid = of_row_row_if Next (is_some_draining s.draining) _ (λ _. valid_failing (Live reference stage) s EQUIPMENT_FAILURE (holds_of s valid))
drain_expiry_valid _ s valid = tt

station_down_valid : (state : State) (s : Connection) (station : ℕ) → IsValid s → OfRow Next (on_station_down state s station)
station_down_valid WaitActivation s station valid = of_row_row_if Next (eqb s.serving.station station) _ (λ _. valid_removed s (holds_of s valid))
station_down_valid WaitEstablish s station valid = of_row_row_if Next (eqb s.serving.station station) _ (λ _. valid_removed s (holds_of s valid))
station_down_valid WaitConfirm s station valid = of_row_row_if Next (eqb s.serving.station station) _ (λ _. valid_failing WaitConfirm s EQUIPMENT_FAILURE (holds_of s valid))
station_down_valid (Live reference stage) s station valid =
    of_row_row_if Next (eqb s.serving.station station || targets station stage || drains_at station s.draining) _ (λ _. valid_failing (Live reference stage) s EQUIPMENT_FAILURE (holds_of s valid))
station_down_valid _ s station valid = tt

switch_down_valid : (state : State) (s : Connection) → IsValid s → OfRow Next (on_switch_down state s)
switch_down_valid Removed s valid = tt
switch_down_valid _ s valid = valid_removed s (holds_of s valid)

-- ---- the whole table

pub IsValid-row : (s : Connection) (input : Input) (offer : Option Channel) →
    IsValid s →
    IsCarried input →
    OfRow (λ r. IsValid r.next) (row_of s input offer)
unfolding row_of
IsValid-row s (inputs.ActivationAck at) offer valid carried = activation_ack_valid s.state s at refl valid
IsValid-row s (inputs.ActivationNack at) offer valid carried = activation_nack_valid s.state s at offer refl valid
IsValid-row s (inputs.EstablishIndication at sapi message) offer valid carried = establish_indication_valid s.state s at sapi message refl valid
IsValid-row s (inputs.EstablishConfirm at sapi) offer valid carried = establish_confirm_valid s.state s at sapi refl valid
IsValid-row s (inputs.ReleaseIndication at sapi) offer valid carried = release_indication_valid s.state s at sapi refl valid
IsValid-row s (inputs.ErrorIndication at sapi) offer valid carried = error_indication_valid s.state s at sapi refl valid
IsValid-row s (inputs.ConnectionFailure at) offer valid carried = connection_failure_valid s.state s at refl valid
IsValid-row s (inputs.Dtap at sapi message) offer valid carried = dtap_valid s.state s at sapi message refl carried valid
IsValid-row s (inputs.Complete at change cause) offer valid carried = complete_valid s.state s at change cause.0 offer refl valid
IsValid-row s (inputs.Failure at change cause) offer valid carried = failure_valid s.state s at change cause.0 offer refl valid
IsValid-row s (inputs.ReleaseAck at) offer valid carried = release_ack_valid s.state s at offer refl valid
IsValid-row s inputs.Move offer valid carried = move_valid s.state s offer refl valid
IsValid-row s (inputs.ConnectionConfirm source) offer valid carried = confirm_valid s.state s source refl valid
IsValid-row s inputs.ConnectionRefused offer valid carried = refused_valid s.state s valid
IsValid-row s (inputs.Released source) offer valid carried = released_valid s.state s source valid
IsValid-row s (inputs.Downlink sapi message) offer valid carried = downlink_valid s.state s sapi message refl carried valid
IsValid-row s (inputs.AssignmentRequest is_speech) offer valid carried = assignment_request_valid s.state s is_speech offer refl valid
IsValid-row s inputs.CipherModeCommand offer valid carried = cipher_mode_command_valid s.state s valid
IsValid-row s inputs.ClearCommand offer valid carried = clear_command_valid s.state s refl valid
IsValid-row s inputs.Expiry offer valid carried = expiry_valid s.state s valid
IsValid-row s inputs.DrainExpiry offer valid carried = drain_expiry_valid s.state s valid
IsValid-row s (inputs.StationDown station) offer valid carried = station_down_valid s.state s station valid
IsValid-row s inputs.SwitchDown offer valid carried = switch_down_valid s.state s valid
