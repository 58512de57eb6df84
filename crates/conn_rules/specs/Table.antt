-- SPDX-License-Identifier: MIT OR Apache-2.0
-- The state table of a connection: for each input and state the row that fits, or `None` if no row
-- fits.
use Rattle.std.specs.Prelude.{ℕ, zero, suc, ◌==◌, ◌||◌, ◌&&◌, nat_le, Bool, true}
use Rattle.std.specs.Prelude.{false, not, if◌then◌else◌, List, [], ◌∷◌, ◌++◌}
use Rattle.std.specs.Prelude.{length, Option, Some, None}
use Rattle.conn_messages.specs.declared.causes.TheConstants.{ABNORMAL_RELEASE, BSS_NOT_EQUIPPED}
use Rattle.conn_messages.specs.declared.causes.TheConstants.{EQUIPMENT_FAILURE, NORMAL_EVENT}
use Rattle.conn_messages.specs.declared.causes.TheConstants.{PROTOCOL_ERROR}
use Rattle.conn_messages.specs.declared.causes.TheConstants.{RADIO_INTERFACE_FAILURE}
use Rattle.conn_messages.specs.declared.causes.TheConstants.{RADIO_INTERFACE_MESSAGE_FAILURE}
use Rattle.conn_messages.specs.declared.causes.TheConstants.{REVERSION_TO_OLD_CHANNEL}
use Rattle.conn_messages.specs.declared.channel.Change.{Change}
use Rattle.conn_messages.specs.declared.channel.Change.TheVariants.{Assignment, Handover}
use Rattle.conn_messages.specs.declared.channel.Channel.{Channel}
use Rattle.conn_messages.specs.declared.channel.Place.{Place}
use Rattle.conn_messages.specs.declared.message.Message.{Message}
use Rattle.conn_messages.specs.StationMessage.{change_command, handing, immediate_assign_command}
use Rattle.conn_messages.specs.StationMessage.{rf_channel_release}
use Rattle.conn_messages.specs.SwitchMessage.{assignment_failure, change_complete}
use Rattle.conn_messages.specs.SwitchMessage.{cipher_mode_reject, clear_complete, clear_request}
use Rattle.conn_messages.specs.SwitchMessage.{complete_layer3, release_complete, relaying}
use Rattle.conn_rules.specs.declared.input.Input.{Input}
use Rattle.conn_rules.specs.declared.input.Input.TheVariants as inputs
use Rattle.conn_rules.specs.declared.state.Clearing.TheVariants.{Due, Asked as WasAsked, Complete}
use Rattle.conn_rules.specs.declared.state.Drain.{Drain}
use Rattle.conn_rules.specs.declared.state.ShortMessageLink.{ShortMessageLink}
use Rattle.conn_rules.specs.declared.state.ShortMessageLink.TheVariants.{Down, Asked}
use Rattle.conn_rules.specs.declared.state.Stage.{Stage}
use Rattle.conn_rules.specs.declared.state.Stage.TheVariants.{Active, Preparing, Changing, Draining}
use Rattle.conn_rules.specs.declared.state.State.{State}
use Rattle.conn_rules.specs.declared.state.Target.{Target}
use Rattle.conn_rules.specs.declared.state.State.TheVariants.{WaitActivation, WaitEstablish}
use Rattle.conn_rules.specs.declared.state.State.TheVariants.{WaitConfirm, Live, Closed, Removed}
use Rattle.conn_rules.specs.Connection.{Connection, enter, emptied, is_at, drain_at, tenure_at}
use Rattle.conn_rules.specs.Connection.{first_channel}
use Rattle.conn_rules.specs.Steps.{Row, row, ◌then◌, ending, failing, dropping, without_station}
use Rattle.conn_rules.specs.Steps.{may_begin, begin, begin_waiting, resting_stage, resting, moved}
use Rattle.conn_rules.specs.Steps.{hold_down, hand_held, short_message, ask_for_held, link_up}
use Rattle.conn_rules.specs.Steps.{link_down, hold_up, relay_held, done_at, leave, settled_stage}
use Rattle.conn_rules.specs.Steps.{settled}
use Rattle.dtap_codec.specs.declared.sapi.Sapi.{Sapi}
use Rattle.dtap_codec.specs.declared.sapi.Sapi.TheVariants.{Zero, Three}
use Rattle.octets.specs.declared.limits.TheConstants.{INITIAL_LIMIT}

-- the row if the test holds, else no row
abbrev pub row_if : Bool → Row → Option Row
row_if test r = if test then Some r else None

-- ---- channels are activated

-- the row that assigns the mobile its access channel
abbrev pub assign_immediately : Connection → Row
assign_immediately s =
    row (immediate_assign_command s.serving s.request s.delay ∷ []) (enter WaitEstablish s)

-- the row that commands the mobile to the target
abbrev pub command_to : ℕ → Target → Connection → Row
command_to reference target s =
    row (change_command s.serving target.change target.channel ∷ [])
    (enter (Live reference (Changing target)) (record s { link = Down }))

-- TS 44.018 clauses 3.3.1.1.3.1, 3.4.3.1, 3.4.4.1; TS 48.058 clauses 4.1, 5.6.
abbrev pub on_activation_ack : State → Connection → Place → Option Row
on_activation_ack WaitActivation s at = row_if (is_at at s.serving) (assign_immediately s)
on_activation_ack (Live reference (Preparing target)) s at =
    row_if (is_at at target.channel) (command_to reference target s)
on_activation_ack _ s at = None

-- the ASSIGNMENT FAILURE that tells the switch that the target couldn't be activated; none for a
-- handover
abbrev pub nack_outs : Change → ℕ → List Message
nack_outs Assignment reference = assignment_failure reference EQUIPMENT_FAILURE None ∷ []
nack_outs Handover reference = []

-- the row if the target can't be activated: the change is given up, and a waiting request may begin
abbrev pub refuse : ℕ → Change → Option Channel → Connection → Row
refuse reference change offer s =
    row (nack_outs change reference) (resting reference s)
    then begin_waiting (resting_stage s.draining) reference offer

-- TS 48.008 clause 3.1.1.3; TS 48.058 clause 4.1.
abbrev pub on_activation_nack : State → Connection → Place → Option Channel → Option Row
on_activation_nack WaitActivation s at offer =
    row_if (is_at at s.serving) (row [] (emptied Removed s))
on_activation_nack (Live reference (Preparing target)) s at offer =
    row_if (is_at at target.channel) (refuse reference target.change offer s)
on_activation_nack _ s at offer = None

-- ---- the mobile's links

-- The row at access: the initial message opens a connection to the switch. If there is no initial
-- message, or it is too long, the connection is dropped.
abbrev pub access : Option (List ℕ) → Connection → Row
access (Some initial) s =
    if nat_le (length initial) INITIAL_LIMIT
    then row (complete_layer3 s.serving initial ∷ []) (enter WaitConfirm s) else dropping s
access None s = dropping s

-- TS 48.006 clause 9.1; TS 48.008 clause 3.1.16; TS 48.058 clause 3.1.
abbrev pub on_establish_indication : State → Connection → Place → Sapi → Option (List ℕ)
    → Option Row
on_establish_indication WaitEstablish s at Zero message =
    row_if (is_at at s.serving) (access message s)
on_establish_indication (Live reference (Changing target)) s at sapi message = None
on_establish_indication (Live reference stage) s at Three message =
    row_if (is_at at s.serving) (link_up s)
on_establish_indication _ s at sapi message = None

abbrev pub was_asked : ShortMessageLink → Bool
was_asked Asked = true
was_asked _ = false

-- TS 48.058 clause 3.2.
abbrev pub on_establish_confirm : State → Connection → Place → Sapi → Option Row
on_establish_confirm (Live reference (Changing target)) s at sapi = None
on_establish_confirm (Live reference stage) s at Three =
    row_if (was_asked s.link && is_at at s.serving) (link_up s)
on_establish_confirm _ s at sapi = None

-- TS 44.018 clause 3.4.13.2; TS 48.008 clauses 3.1.9.2, 3.1.18; TS 48.058 clause 3.3.
abbrev pub on_release_indication : State → Connection → Place → Sapi → Option Row
on_release_indication WaitEstablish s at Zero = row_if (is_at at s.serving) (dropping s)
on_release_indication WaitConfirm s at Zero =
    row_if (is_at at s.serving) (failing WaitConfirm s RADIO_INTERFACE_FAILURE)
on_release_indication (Live reference (Changing target)) s at sapi = None
on_release_indication (Live reference stage) s at Zero =
    row_if (is_at at s.serving) (failing (Live reference stage) s RADIO_INTERFACE_FAILURE)
on_release_indication (Live reference stage) s at Three =
    row_if (is_at at s.serving) (link_down s.link reference s)
on_release_indication _ s at sapi = None

-- TS 48.008 clause 3.1.18; TS 48.058 clause 3.9.
abbrev pub on_error_indication : State → Connection → Place → Sapi → Option Row
on_error_indication (Live reference (Changing target)) s at sapi = None
on_error_indication (Live reference stage) s at Three =
    row_if (is_at at s.serving) (link_down s.link reference s)
on_error_indication _ s at sapi = None

-- TS 44.018 clause 3.4.13.2; TS 48.008 clause 3.1.9.2; TS 48.058 clause 4.10.
abbrev pub on_connection_failure : State → Connection → Place → Option Row
on_connection_failure WaitEstablish s at = row_if (is_at at s.serving) (dropping s)
on_connection_failure WaitConfirm s at =
    row_if (is_at at s.serving) (failing WaitConfirm s RADIO_INTERFACE_FAILURE)
on_connection_failure (Live reference (Changing target)) s at = None
on_connection_failure (Live reference stage) s at =
    row_if (is_at at s.serving) (failing (Live reference stage) s RADIO_INTERFACE_FAILURE)
on_connection_failure _ s at = None

-- ---- the mobile's messages

-- the row for DTAP on the target, where only COMPLETE is expected: DTAP of SAPI 0 makes the
-- connection fail
abbrev pub dtap_on_target : ℕ → Stage → Connection → Place → Sapi → Option Row
dtap_on_target reference (Changing target) s at Zero =
    row_if (is_at at target.channel) (failing
    (Live reference (Changing target)) s EQUIPMENT_FAILURE)
dtap_on_target reference stage s at sapi = None

abbrev pub relay_dtap : ℕ → Sapi → List ℕ → Connection → Row
relay_dtap reference sapi message s =
    row (relaying reference (first_channel s.draining s.serving) sapi message ∷ []) s

-- the row for DTAP on the channel of a tenure: a message of the first tenure is relayed, a message
-- of another tenure is held
abbrev pub dtap_in : Option ℕ → ℕ → Stage → Connection → Place → Sapi → List ℕ
    → Option Row
dtap_in (Some zero) reference stage s at sapi message = Some (relay_dtap reference sapi message s)
dtap_in (Some (suc tenure)) reference stage s at sapi message =
    Some (hold_up (Live reference stage) (suc tenure) sapi message s)
dtap_in None reference stage s at sapi message = dtap_on_target reference stage s at sapi

-- the row for DTAP before the initial message: DTAP of SAPI 0 makes the controller drop the
-- connection
abbrev pub dtap_before_access : Connection → Place → Sapi → Option Row
dtap_before_access s at Zero = row_if (is_at at s.serving) (dropping s)
dtap_before_access s at Three = None

-- TS 44.018 clauses 3.4.3.2, 3.4.4.3; TS 48.006 clause 9.3; TS 48.058 clause 3.6.
abbrev pub on_dtap : State → Connection → Place → Sapi → List ℕ → Option Row
on_dtap WaitEstablish s at sapi message = dtap_before_access s at sapi
on_dtap WaitConfirm s at sapi message =
    row_if (is_at at s.serving) (hold_up WaitConfirm 0 sapi message s)
on_dtap (Live reference stage) s at sapi message =
    dtap_in (tenure_at at s.serving s.draining) reference stage s at sapi message
on_dtap _ s at sapi message = None

abbrev pub same_change : Change → Change → Bool
same_change Assignment Assignment = true
same_change Handover Handover = true
same_change _ _ = false

-- the row for COMPLETE on the target: the target serves, the channel that served is released, and
-- held messages are handed
abbrev pub complete : ℕ → Change → Channel → ℕ → Option Channel → Connection → Row
complete reference change channel cause offer s =
    row (change_complete reference change channel cause ∷ rf_channel_release s.serving
    ∷ []) (moved reference channel s)
    then hand_held Zero then ask_for_held then begin_waiting Draining reference offer

-- TS 44.018 clauses 3.4.3.2, 3.4.4.3; TS 48.008 clauses 3.1.1.2, 3.1.7; TS 48.058 clause 4.7.
abbrev pub on_complete : State → Connection → Place → Change → ℕ → Option Channel
    → Option Row
on_complete (Live reference (Changing target)) s at change cause offer =
    row_if (is_at at target.channel && same_change change target.change)
    (complete reference change target.channel cause offer s)
on_complete _ s at change cause offer = None

-- the ASSIGNMENT FAILURE that tells the switch that the mobile returned to the old channel; none
-- for a handover
abbrev pub failure_outs : Change → ℕ → ℕ → List Message
failure_outs Assignment reference cause =
    assignment_failure reference REVERSION_TO_OLD_CHANNEL (Some (record { 0 = cause })) ∷ []
failure_outs Handover reference cause = []

-- the row for FAILURE on the serving channel: the mobile is back there, the target is released, and
-- held messages are handed
abbrev pub failure : ℕ → Change → Channel → ℕ → Option Channel → Connection → Row
failure reference change channel cause offer s =
    row (failure_outs change reference cause ++ rf_channel_release channel ∷ [])
    (resting reference s)
    then hand_held Zero then ask_for_held
    then begin_waiting (resting_stage s.draining) reference offer

-- TS 44.018 clauses 3.4.3.3, 3.4.4.4; TS 48.008 clause 3.1.1.3; TS 48.058 clause 4.7.
abbrev pub on_failure : State → Connection → Place → Change → ℕ → Option Channel
    → Option Row
on_failure (Live reference (Changing target)) s at change cause offer =
    row_if (is_at at s.serving && same_change change target.change)
    (failure reference change target.channel cause offer s)
on_failure _ s at change cause offer = None

-- the row for RF CHANNEL RELEASE ACK of the old channel at this position: the oldest channels that
-- are done leave, and a waiting request may begin
abbrev pub release : ℕ → Stage → ℕ → Option Channel → Connection → Row
release reference stage place offer s =
    leave reference (done_at place s.draining) s
    then (λ left. row [] (settled reference stage left.draining left))
    then (λ rests. begin_waiting (settled_stage stage rests.draining) reference offer rests)

abbrev pub release_in : Option ℕ → ℕ → Stage → Option Channel → Connection
    → Option Row
release_in (Some place) reference stage offer s = Some (release reference stage place offer s)
release_in None reference stage offer s = None

-- TS 48.058 clause 4.7.
abbrev pub on_release_ack : State → Connection → Place → Option Channel → Option Row
on_release_ack (Live reference stage) s at offer =
    release_in (drain_at at s.draining) reference stage offer s
on_release_ack _ s at offer = None

-- TS 44.018 clause 3.4.4.1; TS 48.008 clause 3.1.7.
abbrev pub on_move : State → Connection → Option Channel → Option Row
on_move (Live reference stage) s offer =
    row_if (may_begin stage s.draining) (begin reference Handover offer s)
on_move _ s offer = None

-- ---- the switch

-- TS 48.006 clause 9.1; TS 48.008 clause 3.1.9.2.
abbrev pub on_confirm : State → Connection → ℕ → Option Row
on_confirm WaitConfirm s reference =
    Some (row [] (enter (Live reference Active) s) then relay_held reference)
on_confirm (Closed (Due cause)) s reference =
    Some (row (clear_request reference cause ∷ []) (enter (Closed (WasAsked reference)) s))
on_confirm _ s reference = None

-- TS 48.006 clause 9.1.
abbrev pub on_refused : State → Connection → Option Row
on_refused WaitConfirm s = Some (ending WaitConfirm s ABNORMAL_RELEASE Removed)
on_refused (Closed (Due cause)) s = Some (row [] (emptied Removed s))
on_refused _ s = None

-- the row that answers RLSD with RLC, for the reference that the switch named
abbrev pub release_complete_to : ℕ → Connection → Row
release_complete_to reference s = row (release_complete reference ∷ []) s

-- TS 48.006 clause 9.2.
abbrev pub on_released : State → Connection → ℕ → Option Row
on_released WaitConfirm s reference =
    Some (ending WaitConfirm s ABNORMAL_RELEASE Removed then release_complete_to reference)
on_released (Live own stage) s reference =
    Some (ending (Live own stage) s ABNORMAL_RELEASE Removed then release_complete_to reference)
on_released (Closed clearing) s reference =
    Some (row (release_complete reference ∷ []) (emptied Removed s))
on_released _ s reference = None

-- TS 44.018 clauses 3.4.3.1, 3.4.4.1; TS 48.006 clause 9.3; TS 48.058 clauses 3.2, 3.5.
abbrev pub on_downlink : State → Connection → Sapi → List ℕ → Option Row
on_downlink (Live reference (Changing target)) s sapi message =
    Some (hold_down (Live reference (Changing target)) sapi message s)
on_downlink (Live reference stage) s Zero message =
    Some (row (handing s.serving Zero message ∷ []) s)
on_downlink (Live reference stage) s Three message =
    Some (short_message (Live reference stage) s.link message s)
on_downlink _ s sapi message = None

-- the row for a request for speech: the assignment begins if a change may begin; else the request
-- waits, or fails if another request waits already
abbrev pub speech_request : ℕ → Stage → Option Channel → Connection → Row
speech_request reference stage offer s =
    if may_begin stage s.draining then begin reference Assignment offer s
    else if s.waits then row (assignment_failure reference PROTOCOL_ERROR None ∷ []) s
    else row [] (record s { waits = true })

-- TS 48.008 clause 3.1.1.
abbrev pub on_assignment_request : State → Connection → Bool → Option Channel → Option Row
on_assignment_request (Live reference stage) s is_speech offer =
    Some (if is_speech then speech_request reference stage offer s
    else row (assignment_failure reference BSS_NOT_EQUIPPED None ∷ []) s)
on_assignment_request _ s is_speech offer = None

-- TS 48.008 clause 3.1.14.
abbrev pub on_cipher_mode_command : State → Connection → Option Row
on_cipher_mode_command (Live reference stage) s = Some (row (cipher_mode_reject reference ∷ []) s)
on_cipher_mode_command _ s = None

-- TS 44.018 clause 3.4.13.1; TS 48.008 clause 3.1.9.1.
abbrev pub on_clear_command : State → Connection → Option Row
on_clear_command (Live reference stage) s =
    Some (ending (Live reference stage) s NORMAL_EVENT (Closed Complete)
    then (λ closed. row (clear_complete reference ∷ []) closed))
on_clear_command (Closed (WasAsked reference)) s =
    Some (row (clear_complete reference ∷ []) (enter (Closed Complete) s))
on_clear_command _ s = None

-- ---- timers and links

-- TS 44.018 clauses 3.3.1.1.3.2, 3.4.3.3, 3.4.4.4, 11.1.2.
abbrev pub on_expiry : State → Connection → Option Row
on_expiry WaitActivation s = Some (dropping s)
on_expiry WaitEstablish s = Some (dropping s)
on_expiry (Live reference (Preparing target)) s =
    Some (failing (Live reference (Preparing target)) s RADIO_INTERFACE_MESSAGE_FAILURE)
on_expiry (Live reference (Changing target)) s =
    Some (failing (Live reference (Changing target)) s RADIO_INTERFACE_MESSAGE_FAILURE)
on_expiry _ s = None

abbrev pub is_some_draining : List Drain → Bool
is_some_draining [] = false
is_some_draining (d ∷ ds) = true

-- Our own: no clause of the standard asks for it.
abbrev pub on_drain_expiry : State → Connection → Option Row
on_drain_expiry (Live reference stage) s =
    row_if (is_some_draining s.draining) (failing (Live reference stage) s EQUIPMENT_FAILURE)
on_drain_expiry _ s = None

-- whether an old channel that isn't done is at this station
abbrev pub drains_at : ℕ → List Drain → Bool
drains_at station [] = false
drains_at station (d ∷ ds) =
    (d.channel.station == station && not d.is_done) || drains_at station ds

abbrev pub targets : ℕ → Stage → Bool
targets station (Preparing target) = target.channel.station == station
targets station (Changing target) = target.channel.station == station
targets station _ = false

-- the row for the broken link of a station: the connection ends if the serving channel, the target,
-- or an old channel that isn't done is at the station
-- Our own: no clause of the standard asks for it.
abbrev pub on_station_down : State → Connection → ℕ → Option Row
on_station_down WaitActivation s station =
    row_if (s.serving.station == station) (without_station station (dropping s))
on_station_down WaitEstablish s station =
    row_if (s.serving.station == station) (without_station station (dropping s))
on_station_down WaitConfirm s station =
    row_if (s.serving.station == station)
    (without_station station (failing WaitConfirm s EQUIPMENT_FAILURE))
on_station_down (Live reference stage) s station =
    row_if (s.serving.station == station || targets station stage
    || drains_at station s.draining)
    (without_station station (failing (Live reference stage) s EQUIPMENT_FAILURE))
on_station_down _ s station = None

-- Our own: no clause of the standard asks for it.
abbrev pub on_switch_down : State → Connection → Option Row
on_switch_down WaitActivation s = Some (dropping s)
on_switch_down WaitEstablish s = Some (dropping s)
on_switch_down WaitConfirm s = Some (ending WaitConfirm s ABNORMAL_RELEASE Removed)
on_switch_down (Live reference stage) s =
    Some (ending (Live reference stage) s ABNORMAL_RELEASE Removed)
on_switch_down (Closed clearing) s = Some (row [] (emptied Removed s))
on_switch_down Removed s = None

-- ---- the whole table; `offer` is the free channel for a change that the row may begin

unfoldable pub row_of : Connection → Input → Option Channel → Option Row
row_of s (inputs.ActivationAck at) offer = on_activation_ack s.state s at
row_of s (inputs.ActivationNack at) offer = on_activation_nack s.state s at offer
row_of s (inputs.EstablishIndication at sapi message) offer =
    on_establish_indication s.state s at sapi message
row_of s (inputs.EstablishConfirm at sapi) offer = on_establish_confirm s.state s at sapi
row_of s (inputs.ReleaseIndication at sapi) offer = on_release_indication s.state s at sapi
row_of s (inputs.ErrorIndication at sapi) offer = on_error_indication s.state s at sapi
row_of s (inputs.ConnectionFailure at) offer = on_connection_failure s.state s at
row_of s (inputs.Dtap at sapi message) offer = on_dtap s.state s at sapi message
row_of s (inputs.Complete at change cause) offer = on_complete s.state s at change cause.0 offer
row_of s (inputs.Failure at change cause) offer = on_failure s.state s at change cause.0 offer
row_of s (inputs.ReleaseAck at) offer = on_release_ack s.state s at offer
row_of s inputs.Move offer = on_move s.state s offer
row_of s (inputs.ConnectionConfirm source) offer = on_confirm s.state s source
row_of s inputs.ConnectionRefused offer = on_refused s.state s
row_of s (inputs.Released source) offer = on_released s.state s source
row_of s (inputs.Downlink sapi message) offer = on_downlink s.state s sapi message
row_of s (inputs.AssignmentRequest is_speech) offer =
    on_assignment_request s.state s is_speech offer
row_of s inputs.CipherModeCommand offer = on_cipher_mode_command s.state s
row_of s inputs.ClearCommand offer = on_clear_command s.state s
row_of s inputs.Expiry offer = on_expiry s.state s
row_of s inputs.DrainExpiry offer = on_drain_expiry s.state s
row_of s (inputs.StationDown station) offer = on_station_down s.state s station
row_of s inputs.SwitchDown offer = on_switch_down s.state s

-- the channel that serves after the row; the serving channel if no row fits
abbrev pub serving_after : Connection → Option Row → Channel
serving_after s None = s.serving
serving_after s (Some r) = r.next.serving
