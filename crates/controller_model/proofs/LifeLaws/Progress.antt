-- SPDX-License-Identifier: MIT OR Apache-2.0
-- How far the switch knows a connection after a row: CR is put with the initial message, CC
-- confirms it, and that doesn't change again.
use Rattle.controller_model.proofs.Prelude.{◌≡◌, ◌⊎◌, ℕ, zero, suc, ◌==◌, ◌&&◌, nat_le, Bool, true, false, List, [], ◌∷◌, length, Option}
use Rattle.controller_model.proofs.Prelude.{Some, None, refl, sym, subst, inl, inr, EQUIPMENT_FAILURE, Change, Assignment, Handover}
use Rattle.controller_model.proofs.Prelude.{Channel, Place, Message, Input, Due, WasAsked, Drain, ShortMessageLink, Up, Stage, Active}
use Rattle.controller_model.proofs.Prelude.{Preparing, Changing, Draining, State, WaitActivation, WaitEstablish, WaitConfirm, Live, Closed}
use Rattle.controller_model.proofs.Prelude.{Removed, Connection, enter, tenure_at, drain_at, Row, row, dropping, failing, begin}
use Rattle.controller_model.proofs.Prelude.{begin_waiting, after_waiting, hold_down, short_message, link_down, hold_up, relay_held, leave}
use Rattle.controller_model.proofs.Prelude.{shifted, settled, settled_stage, resting_stage, resting, moved, hand_held, ask_for_held}
use Rattle.controller_model.proofs.Prelude.{done_at, may_begin, OfRow, IsOpen, refuse, access, complete, failure, speech_request}
use Rattle.controller_model.proofs.Prelude.{release_in, dtap_in, dtap_on_target, on_activation_ack, on_activation_nack}
use Rattle.controller_model.proofs.Prelude.{on_establish_indication, on_establish_confirm, on_release_indication, on_error_indication}
use Rattle.controller_model.proofs.Prelude.{on_connection_failure, on_dtap, on_complete, on_failure, on_release_ack, on_move, on_confirm}
use Rattle.controller_model.proofs.Prelude.{on_refused, on_released, on_downlink, on_assignment_request, on_cipher_mode_command}
use Rattle.controller_model.proofs.Prelude.{on_clear_command, on_expiry, on_drain_expiry, on_station_down, on_switch_down, either}
use Rattle.controller_model.proofs.Prelude.{where_fits, Sapi, Zero, Three, complete_layer3, chain_count, put_in, INITIAL_LIMIT, received_by}
use Rattle.controller_model.proofs.Prelude.{requests, is_confirm, failing_shut}
use Rattle.conn_rules.specs.declared.input.Input.TheVariants as inputs
use Rattle.conn_rules.specs.Table.{row_of}

-- ---- words

abbrev pub IsLive : State → Type 0
IsLive (Live reference stage) = Unit {0}
IsLive _ = ⊥

abbrev pub NotDown : Input → Type 0
NotDown (inputs.Downlink sapi message) = ⊥
NotDown _ = Unit {0}

pub received_none : (sapi : Sapi) (input : Input) → NotDown input → received_by sapi input ≡ []
received_none Zero (inputs.Downlink sapi message) up = absurd up
received_none Three (inputs.Downlink sapi message) up = absurd up
received_none _ _ up = refl

abbrev pub Next : State → Input → State → List Message → Type 0
Next WaitActivation input next put = (next ≡ WaitEstablish) × (requests put ≡ false) × NotDown input
Next WaitEstablish input next put = (next ≡ WaitConfirm) × (requests put ≡ true) × NotDown input
Next WaitConfirm input next put = NotDown input × (((next ≡ WaitConfirm) × (is_confirm input ≡ false)) ⊎ (IsLive next × (is_confirm input ≡ true)))
Next (Live reference stage) input next put = IsLive next
Next _ input next put = ⊥

-- while it remains open
abbrev pub Advances : State → Input → Row → Type 0
Advances state input r = IsOpen r.next.state → Next state input r.next.state r.outs

live_from : (s : Connection) (reference : ℕ) (stage : Stage) → s.state ≡ Live reference stage → IsLive s.state
live_from s reference stage is = subst IsLive (sym is) tt

-- ---- steps

-- the next is live
BecomesLive : Row → Type 0
BecomesLive r = IsOpen r.next.state → IsLive r.next.state

live_begin : (reference : ℕ) (change : Change) (offer : Option Channel) (s : Connection) →
    IsLive s.state →
    IsLive (begin reference change offer s).next.state
live_begin reference change (Some channel) s live = tt
live_begin reference change None s live = live

live_waiting : (b : Bool) (reference : ℕ) (offer : Option Channel) (s : Connection) →
    IsLive s.state →
    IsLive (after_waiting b reference offer s).state
live_waiting true reference (Some channel) s live = tt
live_waiting true reference None s live = live
live_waiting false reference offer s live = live

live_begin_waiting : (stage : Stage) (reference : ℕ) (offer : Option Channel) (s : Connection) →
    IsLive s.state →
    IsLive (begin_waiting stage reference offer s).next.state
live_begin_waiting stage reference offer s live = live_waiting (s.waits && may_begin stage s.draining) reference offer s live

live_hold_down : (state : State) (sapi : Sapi) (message : List ℕ) (s : Connection) →
    IsLive s.state →
    BecomesLive (hold_down state sapi message s)
unfolding BecomesLive
live_hold_down state sapi message s live = either BecomesLive _ _ _ (λ there. absurd (failing_shut state s EQUIPMENT_FAILURE there)) (λ there. live)

live_short : (state : State) (link : ShortMessageLink) (message : List ℕ) (s : Connection) →
    IsLive s.state →
    BecomesLive (short_message state link message s)
unfolding BecomesLive
live_short state Up message s live = λ there. live
live_short state _ message s live = either BecomesLive _ _ _ (λ there. absurd (failing_shut state s EQUIPMENT_FAILURE there)) (λ there. live)

live_link_down : (link : ShortMessageLink) (reference : ℕ) (s : Connection) →
    IsLive s.state →
    IsLive (link_down link reference s).next.state
live_link_down Up reference s live = live
live_link_down _ reference s live = live

live_hold_up : (state : State) (tenure : ℕ) (sapi : Sapi) (message : List ℕ) (s : Connection) →
    IsLive s.state →
    BecomesLive (hold_up state tenure sapi message s)
unfolding BecomesLive
live_hold_up state tenure sapi message s live = either BecomesLive _ _ _ (λ there. absurd (failing_shut state s EQUIPMENT_FAILURE there)) (λ there. live)

live_leave : (reference : ℕ) (draining : List Drain) (s : Connection) → IsLive s.state → IsLive (leave reference draining s).next.state
live_leave reference [] s live = live
live_leave reference (d ∷ ds) s live = either (λ r. IsLive r.next.state) d.is_done _ _ (live_leave reference ds (relay_held reference (shifted ds s)).next live) live

live_settled : (reference : ℕ) (stage : Stage) (draining : List Drain) (s : Connection) →
    IsLive s.state →
    IsLive (settled reference stage draining s).state
live_settled reference Draining [] s live = tt
live_settled reference _ _ s live = live

-- ---- rows

of_access : (at : Place) (message : Option (List ℕ)) (s : Connection) →
    Advances WaitEstablish (inputs.EstablishIndication at Zero message) (access message s)
of_access at (Some initial) s = either (λ r. Advances WaitEstablish (inputs.EstablishIndication at Zero (Some initial)) r) (nat_le (length initial) INITIAL_LIMIT) (row (complete_layer3 s.serving initial ∷ []) (enter WaitConfirm s)) (dropping s) (λ there. (refl, refl, tt)) (λ there. absurd there)
of_access at None s = λ there. absurd there

of_activation_ack : (state : State) (s : Connection) (at : Place) →
    OfRow (Advances state (inputs.ActivationAck at)) (on_activation_ack state s at)
of_activation_ack WaitActivation s at = where_fits (Advances WaitActivation (inputs.ActivationAck at)) _ _ (λ there. (refl, refl, tt))
of_activation_ack (Live reference (Preparing target)) s at = where_fits (Advances (Live reference (Preparing target)) (inputs.ActivationAck at)) _ _ (λ there. tt)
of_activation_ack _ s at = tt

of_activation_nack : (state : State) (s : Connection) (at : Place) (offer : Option Channel) →
    OfRow (Advances state (inputs.ActivationNack at)) (on_activation_nack state s at offer)
of_activation_nack WaitActivation s at offer = where_fits (Advances WaitActivation (inputs.ActivationNack at)) _ _ (λ there. absurd there)
of_activation_nack (Live reference (Preparing target)) s at offer = where_fits (Advances (Live reference (Preparing target)) (inputs.ActivationNack at)) _ (refuse reference target.change offer s) (λ there. live_begin_waiting (resting_stage s.draining) reference offer (resting reference s) tt)
of_activation_nack _ s at offer = tt

of_establish_indication : (state : State) (s : Connection) →
    s.state ≡ state →
    (at : Place) (sapi : Sapi) (message : Option (List ℕ)) →
    OfRow (Advances state (inputs.EstablishIndication at sapi message)) (on_establish_indication state s at sapi message)
of_establish_indication WaitEstablish s is at Zero message = where_fits (Advances WaitEstablish (inputs.EstablishIndication at Zero message)) _ _ (of_access at message s)
of_establish_indication (Live reference (Changing target)) s is at sapi message = tt
of_establish_indication (Live reference stage) s is at Three message = where_fits (Advances (Live reference stage) (inputs.EstablishIndication at Three message)) _ _ (λ there. live_from s reference stage is)
of_establish_indication _ s is at sapi message = tt

of_establish_confirm : (state : State) (s : Connection) →
    s.state ≡ state →
    (at : Place) (sapi : Sapi) →
    OfRow (Advances state (inputs.EstablishConfirm at sapi)) (on_establish_confirm state s at sapi)
of_establish_confirm (Live reference (Changing target)) s is at sapi = tt
of_establish_confirm (Live reference stage) s is at Three = where_fits (Advances (Live reference stage) (inputs.EstablishConfirm at Three)) _ _ (λ there. live_from s reference stage is)
of_establish_confirm _ s is at sapi = tt

of_release_indication : (state : State) (s : Connection) →
    s.state ≡ state →
    (at : Place) (sapi : Sapi) →
    OfRow (Advances state (inputs.ReleaseIndication at sapi)) (on_release_indication state s at sapi)
of_release_indication WaitEstablish s is at Zero = where_fits (Advances WaitEstablish (inputs.ReleaseIndication at Zero)) _ _ (λ there. absurd there)
of_release_indication WaitConfirm s is at Zero = where_fits (Advances WaitConfirm (inputs.ReleaseIndication at Zero)) _ _ (λ there. absurd there)
of_release_indication (Live reference (Changing target)) s is at sapi = tt
of_release_indication (Live reference stage) s is at Zero = where_fits (Advances (Live reference stage) (inputs.ReleaseIndication at Zero)) _ _ (λ there. absurd there)
of_release_indication (Live reference stage) s is at Three = where_fits (Advances (Live reference stage) (inputs.ReleaseIndication at Three)) _ _ (λ there. live_link_down s.link reference s (live_from s reference stage is))
of_release_indication _ s is at sapi = tt

of_error_indication : (state : State) (s : Connection) →
    s.state ≡ state →
    (at : Place) (sapi : Sapi) →
    OfRow (Advances state (inputs.ErrorIndication at sapi)) (on_error_indication state s at sapi)
of_error_indication (Live reference (Changing target)) s is at sapi = tt
of_error_indication (Live reference stage) s is at Three = where_fits (Advances (Live reference stage) (inputs.ErrorIndication at Three)) _ _ (λ there. live_link_down s.link reference s (live_from s reference stage is))
of_error_indication _ s is at sapi = tt

of_connection_failure : (state : State) (s : Connection) (at : Place) →
    OfRow (Advances state (inputs.ConnectionFailure at)) (on_connection_failure state s at)
of_connection_failure WaitEstablish s at = where_fits (Advances WaitEstablish (inputs.ConnectionFailure at)) _ _ (λ there. absurd there)
of_connection_failure WaitConfirm s at = where_fits (Advances WaitConfirm (inputs.ConnectionFailure at)) _ _ (λ there. absurd there)
of_connection_failure (Live reference (Changing target)) s at = tt
of_connection_failure (Live reference stage) s at = where_fits (Advances (Live reference stage) (inputs.ConnectionFailure at)) _ _ (λ there. absurd there)
of_connection_failure _ s at = tt

of_dtap_on_target : (reference : ℕ) (stage : Stage) (s : Connection) (at of : Place) (sapi on : Sapi) (message : List ℕ) →
    OfRow (Advances (Live reference stage) (inputs.Dtap of on message)) (dtap_on_target reference stage s at sapi)
of_dtap_on_target reference (Changing target) s at of Zero on message = where_fits (Advances (Live reference (Changing target)) (inputs.Dtap of on message)) _ _ (λ there. absurd there)
of_dtap_on_target reference _ s at of _ on message = tt

of_dtap_in : (place : Option ℕ) (reference : ℕ) (stage : Stage) (s : Connection) →
    s.state ≡ Live reference stage →
    (at : Place) (sapi : Sapi) (message : List ℕ) →
    OfRow (Advances (Live reference stage) (inputs.Dtap at sapi message)) (dtap_in place reference stage s at sapi message)
unfolding BecomesLive
of_dtap_in (Some zero) reference stage s is at sapi message = λ there. live_from s reference stage is
of_dtap_in (Some (suc tenure)) reference stage s is at sapi message = live_hold_up (Live reference stage) (suc tenure) sapi message s (live_from s reference stage is)
of_dtap_in None reference stage s is at sapi message = of_dtap_on_target reference stage s at at sapi sapi message

waits_on : (sapi : Sapi) (at : Place) (message : List ℕ) (s : Connection) →
    s.state ≡ WaitConfirm →
    Advances WaitConfirm (inputs.Dtap at sapi message) (hold_up WaitConfirm 0 sapi message s)
waits_on sapi at message s is = either (λ r. Advances WaitConfirm (inputs.Dtap at sapi message) r) (chain_count s.up == s.up.limit) (failing WaitConfirm s EQUIPMENT_FAILURE) (row [] (record s { up = record s.up { tenures = put_in 0 sapi message s.up.tenures } })) (λ there. absurd there) (λ there. (tt, inl (is, refl)))

of_dtap : (state : State) (s : Connection) →
    s.state ≡ state →
    (at : Place) (sapi : Sapi) (message : List ℕ) →
    OfRow (Advances state (inputs.Dtap at sapi message)) (on_dtap state s at sapi message)
of_dtap WaitEstablish s is at Zero message = where_fits (Advances WaitEstablish (inputs.Dtap at Zero message)) _ _ (λ there. absurd there)
of_dtap WaitEstablish s is at Three message = tt
of_dtap WaitConfirm s is at sapi message = where_fits (Advances WaitConfirm (inputs.Dtap at sapi message)) _ _ (waits_on sapi at message s is)
of_dtap (Live reference stage) s is at sapi message = of_dtap_in (tenure_at at s.serving s.draining) reference stage s is at sapi message
of_dtap _ s is at sapi message = tt

of_complete : (state : State) (s : Connection) (at : Place) (change : Change) (cause : _) (offer : Option Channel) →
    OfRow (Advances state (inputs.Complete at change cause)) (on_complete state s at change cause.0 offer)
of_complete (Live reference (Changing target)) s at change cause offer = where_fits (Advances (Live reference (Changing target)) (inputs.Complete at change cause)) _ (complete reference change target.channel cause.0 offer s) (λ there. live_begin_waiting Draining reference offer (ask_for_held (hand_held Zero (moved reference target.channel s)).next).next tt)
of_complete _ s at change cause offer = tt

of_failure : (state : State) (s : Connection) (at : Place) (change : Change) (cause : _) (offer : Option Channel) →
    OfRow (Advances state (inputs.Failure at change cause)) (on_failure state s at change cause.0 offer)
of_failure (Live reference (Changing target)) s at change cause offer = where_fits (Advances (Live reference (Changing target)) (inputs.Failure at change cause)) _ (failure reference change target.channel cause.0 offer s) (λ there. live_begin_waiting (resting_stage s.draining) reference offer (ask_for_held (hand_held Zero (resting reference s)).next).next tt)
of_failure _ s at change cause offer = tt

of_release : (reference : ℕ) (stage : Stage) (at : Place) (place : Option ℕ) (offer : Option Channel) (s : Connection) →
    s.state ≡ Live reference stage →
    OfRow (Advances (Live reference stage) (inputs.ReleaseAck at)) (release_in place reference stage offer s)
of_release reference stage at None offer s is = tt
of_release reference stage at (Some place) offer s is = λ there.
    let left : Connection = (leave reference (done_at place s.draining) s).next in
    let rests : Connection = settled reference stage left.draining left in
    live_begin_waiting (settled_stage stage rests.draining) reference offer rests (live_settled reference stage left.draining left (live_leave reference (done_at place s.draining) s (live_from s reference stage is)))

of_release_ack : (state : State) (s : Connection) →
    s.state ≡ state →
    (at : Place) (offer : Option Channel) →
    OfRow (Advances state (inputs.ReleaseAck at)) (on_release_ack state s at offer)
of_release_ack (Live reference stage) s is at offer = of_release reference stage at (drain_at at s.draining) offer s is
of_release_ack _ s is at offer = tt

of_move : (state : State) (s : Connection) →
    s.state ≡ state →
    (offer : Option Channel) →
    OfRow (Advances state inputs.Move) (on_move state s offer)
of_move (Live reference stage) s is offer = where_fits (Advances (Live reference stage) inputs.Move) _ (begin reference Handover offer s) (λ there. live_begin reference Handover offer s (live_from s reference stage is))
of_move _ s is offer = tt

of_confirm : (state : State) (s : Connection) (source : _) →
    OfRow (Advances state (inputs.ConnectionConfirm source)) (on_confirm state s source)
of_confirm WaitConfirm s source = λ there. (tt, inr (tt, refl))
of_confirm (Closed (Due cause)) s source = λ there. absurd there
of_confirm _ s source = tt

of_refused : (state : State) (s : Connection) → OfRow (Advances state inputs.ConnectionRefused) (on_refused state s)
of_refused WaitConfirm s = λ there. absurd there
of_refused (Closed (Due cause)) s = λ there. absurd there
of_refused _ s = tt

of_released : (state : State) (s : Connection) (source : _) → OfRow (Advances state (inputs.Released source)) (on_released state s source)
of_released WaitConfirm s source = λ there. absurd there
of_released (Live reference stage) s source = λ there. absurd there
of_released (Closed clearing) s source = λ there. absurd there
of_released _ s source = tt

of_downlink : (state : State) (s : Connection) →
    s.state ≡ state →
    (sapi : Sapi) (message : List ℕ) →
    OfRow (Advances state (inputs.Downlink sapi message)) (on_downlink state s sapi message)
unfolding BecomesLive
of_downlink (Live reference (Changing target)) s is sapi message = live_hold_down (Live reference (Changing target)) sapi message s (live_from s reference (Changing target) is)
of_downlink (Live reference stage) s is Zero message = λ there. live_from s reference stage is
of_downlink (Live reference stage) s is Three message = live_short (Live reference stage) s.link message s (live_from s reference stage is)
of_downlink _ s is sapi message = tt

of_speech : (reference : ℕ) (stage : Stage) (offer : Option Channel) (s : Connection) →
    IsLive s.state →
    IsLive (speech_request reference stage offer s).next.state
of_speech reference stage offer s live = either (λ r. IsLive r.next.state) (may_begin stage s.draining) _ _ (live_begin reference Assignment offer s live) (either (λ r. IsLive r.next.state) s.waits _ _ live live)

of_assignment_request : (state : State) (s : Connection) →
    s.state ≡ state →
    (is_speech : Bool) (offer : Option Channel) →
    OfRow (Advances state (inputs.AssignmentRequest is_speech)) (on_assignment_request state s is_speech offer)
of_assignment_request (Live reference stage) s is true offer = λ there. of_speech reference stage offer s (live_from s reference stage is)
of_assignment_request (Live reference stage) s is false offer = λ there. live_from s reference stage is
of_assignment_request _ s is is_speech offer = tt

of_cipher : (state : State) (s : Connection) →
    s.state ≡ state →
    OfRow (Advances state inputs.CipherModeCommand) (on_cipher_mode_command state s)
of_cipher (Live reference stage) s is = λ there. live_from s reference stage is
of_cipher _ s is = tt

of_clear : (state : State) (s : Connection) → OfRow (Advances state inputs.ClearCommand) (on_clear_command state s)
of_clear (Live reference stage) s = λ there. absurd there
of_clear (Closed (WasAsked reference)) s = λ there. absurd there
of_clear _ s = tt

of_expiry : (state : State) (s : Connection) → OfRow (Advances state inputs.Expiry) (on_expiry state s)
of_expiry WaitActivation s = λ there. absurd there
of_expiry WaitEstablish s = λ there. absurd there
of_expiry (Live reference (Preparing target)) s = λ there. absurd there
of_expiry (Live reference (Changing target)) s = λ there. absurd there
of_expiry _ s = tt

of_drain_expiry : (state : State) (s : Connection) → OfRow (Advances state inputs.DrainExpiry) (on_drain_expiry state s)
of_drain_expiry (Live reference stage) s = where_fits (Advances (Live reference stage) inputs.DrainExpiry) _ _ (λ there. absurd there)
of_drain_expiry _ s = tt

of_station_down : (state : State) (s : Connection) (station : ℕ) →
    OfRow (Advances state (inputs.StationDown station)) (on_station_down state s station)
of_station_down WaitActivation s station = where_fits (Advances WaitActivation (inputs.StationDown station)) _ _ (λ there. absurd there)
of_station_down WaitEstablish s station = where_fits (Advances WaitEstablish (inputs.StationDown station)) _ _ (λ there. absurd there)
of_station_down WaitConfirm s station = where_fits (Advances WaitConfirm (inputs.StationDown station)) _ _ (λ there. absurd there)
of_station_down (Live reference stage) s station = where_fits (Advances (Live reference stage) (inputs.StationDown station)) _ _ (λ there. absurd there)
of_station_down _ s station = tt

of_switch_down : (state : State) (s : Connection) → OfRow (Advances state inputs.SwitchDown) (on_switch_down state s)
of_switch_down Removed s = tt
of_switch_down _ s = λ there. absurd there

pub advances : (s : Connection) (input : Input) (offer : Option Channel) → OfRow (Advances s.state input) (row_of s input offer)
unfolding row_of
advances s (inputs.ActivationAck at) offer = of_activation_ack s.state s at
advances s (inputs.ActivationNack at) offer = of_activation_nack s.state s at offer
advances s (inputs.EstablishIndication at sapi message) offer = of_establish_indication s.state s refl at sapi message
advances s (inputs.EstablishConfirm at sapi) offer = of_establish_confirm s.state s refl at sapi
advances s (inputs.ReleaseIndication at sapi) offer = of_release_indication s.state s refl at sapi
advances s (inputs.ErrorIndication at sapi) offer = of_error_indication s.state s refl at sapi
advances s (inputs.ConnectionFailure at) offer = of_connection_failure s.state s at
advances s (inputs.Dtap at sapi message) offer = of_dtap s.state s refl at sapi message
advances s (inputs.Complete at change cause) offer = of_complete s.state s at change cause offer
advances s (inputs.Failure at change cause) offer = of_failure s.state s at change cause offer
advances s (inputs.ReleaseAck at) offer = of_release_ack s.state s refl at offer
advances s inputs.Move offer = of_move s.state s refl offer
advances s (inputs.ConnectionConfirm source) offer = of_confirm s.state s source
advances s inputs.ConnectionRefused offer = of_refused s.state s
advances s (inputs.Released source) offer = of_released s.state s source
advances s (inputs.Downlink sapi message) offer = of_downlink s.state s refl sapi message
advances s (inputs.AssignmentRequest is_speech) offer = of_assignment_request s.state s refl is_speech offer
advances s inputs.CipherModeCommand offer = of_cipher s.state s refl
advances s inputs.ClearCommand offer = of_clear s.state s
advances s inputs.Expiry offer = of_expiry s.state s
advances s inputs.DrainExpiry offer = of_drain_expiry s.state s
advances s (inputs.StationDown station) offer = of_station_down s.state s station
advances s inputs.SwitchDown offer = of_switch_down s.state s

-- ---- where a row always fits

pub confirm_fits : (s : Connection) (source : _) (offer : Option Channel) →
    s.state ≡ WaitConfirm →
    row_of s (inputs.ConnectionConfirm source) offer ≡ None →
    ⊥
unfolding row_of
confirm_fits s source offer is none = by s.state is none
  where
    by : (state : State) → state ≡ WaitConfirm → on_confirm state s source ≡ None → ⊥
    by WaitConfirm same none = absurd cc
    by _ same none = absurd cc

pub downlink_fits : (s : Connection) (sapi : Sapi) (message : List ℕ) (offer : Option Channel) →
    IsLive s.state →
    row_of s (inputs.Downlink sapi message) offer ≡ None →
    ⊥
unfolding row_of
downlink_fits s sapi message offer live none = by s.state sapi live none
  where
    by : (state : State) (sapi : Sapi) → IsLive state → on_downlink state s sapi message ≡ None → ⊥
    by (Live reference Active) Zero live none = absurd cc
    by (Live reference Active) Three live none = absurd cc
    by (Live reference Draining) Zero live none = absurd cc
    by (Live reference Draining) Three live none = absurd cc
    by (Live reference (Preparing target)) Zero live none = absurd cc
    by (Live reference (Preparing target)) Three live none = absurd cc
    by (Live reference (Changing target)) Zero live none = absurd cc
    by (Live reference (Changing target)) Three live none = absurd cc
    by _ sapi live none = live
