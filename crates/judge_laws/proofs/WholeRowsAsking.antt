-- SPDX-License-Identifier: MIT OR Apache-2.0
-- The row that asks the switch for a connection: its input is the mobile's initial message.
use Rattle.std.proofs.Common.{◌≡◌, ℕ, Bool, true, false, List, [], ◌∷◌, Option, Some, None, refl, subst, length, nat_le}
use Rattle.std.specs.Prelude.{if◌then◌else◌}
use Rattle.conn_messages.specs.declared.channel.Channel.{Channel}
use Rattle.conn_messages.specs.declared.channel.Place.{Place}
use Rattle.conn_messages.specs.SwitchMessage.{complete_layer3}
use Rattle.conn_rules.specs.Connection.{Connection, enter, is_at}
use Rattle.conn_rules.specs.declared.input.Input.{Input}
use Rattle.conn_rules.specs.declared.input.Input.TheVariants as inputs
use Rattle.conn_rules.specs.declared.state.State.{State}
use Rattle.conn_rules.specs.declared.state.State.TheVariants.{Closed, Live, Removed, WaitActivation, WaitConfirm, WaitEstablish}
use Rattle.conn_rules.specs.Steps.{Row, dropping, row, without_station}
use Rattle.conn_rules.specs.Streams.{OfRow}
use Rattle.conn_rules.specs.Table.{access, on_activation_ack, on_activation_nack, on_assignment_request, on_cipher_mode_command, on_clear_command, on_complete, on_confirm, on_connection_failure, on_downlink, on_drain_expiry, on_dtap, on_error_indication, on_establish_confirm, on_establish_indication, on_expiry, on_failure, on_move, on_refused, on_release_ack, on_release_indication, on_released, on_station_down, on_switch_down, row_if, row_of}
use Rattle.dtap_codec.specs.declared.sapi.Sapi.{Sapi}
use Rattle.dtap_codec.specs.declared.sapi.Sapi.TheVariants.{Zero, Three}
use Rattle.octets.specs.declared.limits.TheConstants.{INITIAL_LIMIT}
use Rattle.judge_laws.proofs.Fine.{IsEarly}

pub record IsAskingRow (s : Connection) (input : Input) (r : Row) : Type 0 where
  pub at : Place
  pub message : List ℕ
  pub state : s.state ≡ WaitEstablish
  pub by_input : input ≡ inputs.EstablishIndication at Zero (Some message)
  pub is : r ≡ row (complete_layer3 s.serving message ∷ []) (enter WaitConfirm s)

-- a row that leads to this state
abbrev Asks : Connection → Input → Row → Type 0
Asks s input q = q.next.state ≡ WaitConfirm → IsAskingRow s input q

asks_if : (s : Connection) (input : Input) (b : Bool) (q : Row) → Asks s input q → OfRow (Asks s input) (row_if b q)
asks_if s input true q asks = asks
asks_if s input false q asks = tt

drops : (s : Connection) (input : Input) → Asks s input (dropping s)
drops s input is = absurd (let both : Removed ≡ WaitConfirm = is in cc)

drops_at : (s : Connection) (input : Input) (station : ℕ) → Asks s input (without_station station (dropping s))
drops_at s input station is = absurd (let both : Removed ≡ WaitConfirm = is in cc)

-- of a connection that isn't asked for yet
early_state : (P : State → Type 0) (state : State) → IsEarly state → P WaitActivation → P WaitEstablish → P state
early_state P WaitActivation early one other = one
early_state P WaitEstablish early one other = other
early_state P WaitConfirm early one other = absurd early
early_state P (Live reference stage) early one other = absurd early
early_state P (Closed clearing) early one other = absurd early
early_state P Removed early one other = absurd early

-- the initial message, or none
access_asks : (s : Connection) (at : Place) (message : Option (List ℕ)) →
    s.state ≡ WaitEstablish →
    Asks s (inputs.EstablishIndication at Zero message) (access message s)
access_asks s at None is = drops s (inputs.EstablishIndication at Zero None)
access_asks s at (Some message) is = by (nat_le (length message) INITIAL_LIMIT)
  where
    by : (b : Bool) →
        Asks s (inputs.EstablishIndication at Zero (Some message)) (if b then row (complete_layer3 s.serving message ∷ []) (enter WaitConfirm s) else dropping s)
    by true waits = record { at = at; message = message; state = is; by_input = refl; is = refl }
    by false waits = drops s (inputs.EstablishIndication at Zero (Some message)) waits

establish_asks : (s : Connection) (at : Place) (sapi : Sapi) (message : Option (List ℕ)) →
    s.state ≡ WaitEstablish →
    OfRow (Asks s (inputs.EstablishIndication at sapi message)) (on_establish_indication WaitEstablish s at sapi message)
establish_asks s at Zero message is = asks_if s (inputs.EstablishIndication at Zero message) (is_at at s.serving) (access message s) (access_asks s at message is)
establish_asks s at Three message is = tt

release_asks : (s : Connection) (at : Place) (sapi : Sapi) →
    OfRow (Asks s (inputs.ReleaseIndication at sapi)) (on_release_indication WaitEstablish s at sapi)
release_asks s at Zero = asks_if s (inputs.ReleaseIndication at Zero) (is_at at s.serving) (dropping s) (drops s (inputs.ReleaseIndication at Zero))
release_asks s at Three = tt

dtap_asks : (s : Connection) (at : Place) (sapi : Sapi) (message : List ℕ) →
    OfRow (Asks s (inputs.Dtap at sapi message)) (on_dtap WaitEstablish s at sapi message)
dtap_asks s at Zero message = asks_if s (inputs.Dtap at Zero message) (is_at at s.serving) (dropping s) (drops s (inputs.Dtap at Zero message))
dtap_asks s at Three message = tt

-- row by row
table_asks : (s : Connection) (input : Input) (offer : Option Channel) → IsEarly s.state → OfRow (Asks s input) (row_of s input offer)
unfolding row_of
table_asks s (inputs.ActivationAck at) offer early = early_state (λ state. OfRow (Asks s (inputs.ActivationAck at)) (on_activation_ack state s at)) s.state early (asks_if s (inputs.ActivationAck at) (is_at at s.serving) _ (λ is. absurd (let both : WaitEstablish ≡ WaitConfirm = is in cc))) tt
table_asks s (inputs.ActivationNack at) offer early = early_state (λ state. OfRow (Asks s (inputs.ActivationNack at)) (on_activation_nack state s at offer)) s.state early (asks_if s (inputs.ActivationNack at) (is_at at s.serving) _ (λ is. absurd (let both : Removed ≡ WaitConfirm = is in cc))) tt
table_asks s (inputs.EstablishIndication at sapi message) offer early = early_state (λ state. s.state ≡ state → OfRow (Asks s (inputs.EstablishIndication at sapi message)) (on_establish_indication state s at sapi message)) s.state early (λ is. tt) (λ is. establish_asks s at sapi message is) refl
table_asks s (inputs.EstablishConfirm at sapi) offer early = early_state (λ state. OfRow (Asks s (inputs.EstablishConfirm at sapi)) (on_establish_confirm state s at sapi)) s.state early tt tt
table_asks s (inputs.ReleaseIndication at sapi) offer early = early_state (λ state. OfRow (Asks s (inputs.ReleaseIndication at sapi)) (on_release_indication state s at sapi)) s.state early tt (release_asks s at sapi)
table_asks s (inputs.ErrorIndication at sapi) offer early = early_state (λ state. OfRow (Asks s (inputs.ErrorIndication at sapi)) (on_error_indication state s at sapi)) s.state early tt tt
table_asks s (inputs.ConnectionFailure at) offer early = early_state (λ state. OfRow (Asks s (inputs.ConnectionFailure at)) (on_connection_failure state s at)) s.state early tt (asks_if s (inputs.ConnectionFailure at) (is_at at s.serving) (dropping s) (drops s (inputs.ConnectionFailure at)))
table_asks s (inputs.Dtap at sapi message) offer early = early_state (λ state. OfRow (Asks s (inputs.Dtap at sapi message)) (on_dtap state s at sapi message)) s.state early tt (dtap_asks s at sapi message)
table_asks s (inputs.Complete at change cause) offer early = early_state (λ state. OfRow (Asks s (inputs.Complete at change cause)) (on_complete state s at change cause.0 offer)) s.state early tt tt
table_asks s (inputs.Failure at change cause) offer early = early_state (λ state. OfRow (Asks s (inputs.Failure at change cause)) (on_failure state s at change cause.0 offer)) s.state early tt tt
table_asks s (inputs.ReleaseAck at) offer early = early_state (λ state. OfRow (Asks s (inputs.ReleaseAck at)) (on_release_ack state s at offer)) s.state early tt tt
table_asks s inputs.Move offer early = early_state (λ state. OfRow (Asks s inputs.Move) (on_move state s offer)) s.state early tt tt
table_asks s (inputs.ConnectionConfirm source) offer early = early_state (λ state. OfRow (Asks s (inputs.ConnectionConfirm source)) (on_confirm state s source)) s.state early tt tt
table_asks s inputs.ConnectionRefused offer early = early_state (λ state. OfRow (Asks s inputs.ConnectionRefused) (on_refused state s)) s.state early tt tt
table_asks s (inputs.Released source) offer early = early_state (λ state. OfRow (Asks s (inputs.Released source)) (on_released state s source)) s.state early tt tt
table_asks s (inputs.Downlink sapi message) offer early = early_state (λ state. OfRow (Asks s (inputs.Downlink sapi message)) (on_downlink state s sapi message)) s.state early tt tt
table_asks s (inputs.AssignmentRequest is_speech) offer early = early_state (λ state. OfRow (Asks s (inputs.AssignmentRequest is_speech)) (on_assignment_request state s is_speech offer)) s.state early tt tt
table_asks s inputs.CipherModeCommand offer early = early_state (λ state. OfRow (Asks s inputs.CipherModeCommand) (on_cipher_mode_command state s)) s.state early tt tt
table_asks s inputs.ClearCommand offer early = early_state (λ state. OfRow (Asks s inputs.ClearCommand) (on_clear_command state s)) s.state early tt tt
table_asks s inputs.Expiry offer early = early_state (λ state. OfRow (Asks s inputs.Expiry) (on_expiry state s)) s.state early (drops s inputs.Expiry) (drops s inputs.Expiry)
table_asks s inputs.DrainExpiry offer early = early_state (λ state. OfRow (Asks s inputs.DrainExpiry) (on_drain_expiry state s)) s.state early tt tt
table_asks s (inputs.StationDown station) offer early = early_state (λ state. OfRow (Asks s (inputs.StationDown station)) (on_station_down state s station)) s.state early
    (asks_if s (inputs.StationDown station) _ _ (drops_at s (inputs.StationDown station) station)) (asks_if s (inputs.StationDown station) _ _ (drops_at s (inputs.StationDown station) station))
table_asks s inputs.SwitchDown offer early = early_state (λ state. OfRow (Asks s inputs.SwitchDown) (on_switch_down state s)) s.state early (drops s inputs.SwitchDown) (drops s inputs.SwitchDown)

pub asking_row : (s : Connection) (input : Input) (offer : Option Channel) (r : Row) →
    row_of s input offer ≡ Some r →
    IsEarly s.state →
    r.next.state ≡ WaitConfirm →
    IsAskingRow s input r
asking_row s input offer r fits early waits = (subst (OfRow (Asks s input)) fits (table_asks s input offer early)) waits
