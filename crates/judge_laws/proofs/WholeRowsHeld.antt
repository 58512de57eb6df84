-- SPDX-License-Identifier: MIT OR Apache-2.0
-- The messages that a connection holds for its mobile after a row: those that it held, and those of
-- the row's input.
use Rattle.std.proofs.Common.{◌≡◌, ℕ, zero, suc, ◌&&◌, Bool, true, false, if◌then◌else◌, List, [], ◌∷◌, ◌++◌, Option, Some, None, refl, sym, ◌∙◌, length, nat_le}
use Rattle.std.specs.List.{AllByRecursion}
use Rattle.conn_messages.specs.declared.causes.TheConstants.{EQUIPMENT_FAILURE}
use Rattle.conn_messages.specs.declared.channel.Change.{Change}
use Rattle.conn_messages.specs.declared.channel.Change.TheVariants.{Assignment, Handover}
use Rattle.conn_messages.specs.declared.channel.Channel.{Channel}
use Rattle.conn_messages.specs.declared.channel.Place.{Place}
use Rattle.conn_messages.specs.SwitchMessage.{complete_layer3}
use Rattle.conn_rules.specs.declared.input.Input.{Input}
use Rattle.conn_rules.specs.declared.input.Input.TheVariants as inputs
use Rattle.conn_rules.specs.declared.state.Clearing.TheVariants.{Due, Asked as WasAsked}
use Rattle.conn_rules.specs.declared.state.Drain.{Drain}
use Rattle.conn_rules.specs.declared.state.ShortMessageLink.{ShortMessageLink}
use Rattle.conn_rules.specs.declared.state.ShortMessageLink.TheVariants.{Asked, Up}
use Rattle.conn_rules.specs.declared.state.Stage.{Stage}
use Rattle.conn_rules.specs.declared.state.Stage.TheVariants.{Preparing, Changing, Draining}
use Rattle.conn_rules.specs.declared.state.State.{State}
use Rattle.conn_rules.specs.declared.state.State.TheVariants.{WaitActivation, WaitEstablish, WaitConfirm, Live, Closed, Removed}
use Rattle.conn_rules.specs.Connection.{Connection, drain_at, enter, is_at, tenure_at}
use Rattle.conn_rules.specs.Steps.{Row, dropping, failing, row, begin, begin_waiting, after_waiting, hold_down, hold_short_message, short_message, link_down, hold_up, relay_held, leave, shifted, settled, settled_stage, resting_stage, resting, moved, hand_held, ask_for_held, done_at, may_begin}
use Rattle.conn_rules.specs.Streams.{OfRow}
use Rattle.conn_rules.specs.Table.{row_of, row_if, same_change, serving_after, refuse, access, release, complete, failure, speech_request, release_in, dtap_in, dtap_on_target, on_activation_ack, on_activation_nack, on_establish_indication, on_establish_confirm, on_release_indication, on_error_indication, on_connection_failure, on_dtap, on_complete, on_failure, on_release_ack, on_move, on_confirm, on_refused, on_released, on_downlink, on_assignment_request, on_cipher_mode_command, on_clear_command, on_expiry, on_drain_expiry, on_station_down, on_switch_down}
use Rattle.conn_rules.proofs.Channels.{serves_on, serves_where}
use Rattle.dtap_codec.specs.declared.sapi.Sapi.{Sapi}
use Rattle.dtap_codec.specs.declared.sapi.Sapi.TheVariants.{Zero, Three}
use Rattle.octets.specs.declared.limits.TheConstants.{INITIAL_LIMIT}

-- of the switch's message that an input brings
abbrev pub BringsSuch : (List ℕ → Type 0) → Input → Type 0
BringsSuch P (inputs.Downlink sapi message) = P message
BringsSuch P _ = Unit {0}

module _ (P : List ℕ → Type 0) where
  abbrev Holds : Connection → Type 0
  Holds s = AllByRecursion P s.down.zero × AllByRecursion P s.down.three

  abbrev NextHolds : Row → Type 0
  NextHolds r = Holds r.next

  either : (b : Bool) (r q : Row) → NextHolds r → NextHolds q → NextHolds (if b then r else q)
  either true r q h k = h
  either false r q h k = k

  where_fits : (b : Bool) (r : Row) → NextHolds r → OfRow NextHolds (row_if b r)
  where_fits true r h = h
  where_fits false r h = tt

  -- ---- steps

  of_failing : (state : State) (s : Connection) (cause : ℕ) → Holds s → NextHolds (failing state s cause)
  of_failing WaitActivation s cause w = (tt, tt)
  of_failing _ s cause w = (tt, tt)

  of_begin : (reference : ℕ) (change : Change) (offer : Option Channel) (s : Connection) →
      Holds s →
      NextHolds (begin reference change offer s)
  of_begin reference change (Some channel) s w = w
  of_begin reference change None s w = w

  of_after_waiting : (b : Bool) (reference : ℕ) (offer : Option Channel) (s : Connection) →
      Holds s →
      Holds (after_waiting b reference offer s)
  of_after_waiting true reference (Some channel) s w = w
  of_after_waiting true reference None s w = w
  of_after_waiting false reference offer s w = w

  of_waiting : (stage : Stage) (reference : ℕ) (offer : Option Channel) (s : Connection) →
      Holds s →
      NextHolds (begin_waiting stage reference offer s)
  of_waiting stage reference offer s w = of_after_waiting (s.waits && may_begin stage s.draining) reference offer s w

  push : (ms : List (List ℕ)) (m : List ℕ) → AllByRecursion P ms → P m → AllByRecursion P (ms ++ m ∷ [])
  push [] m all one = (one, tt)
  push (x ∷ xs) m all one = (all.0, push xs m all.1 one)

  of_hold_down : (state : State) (sapi : Sapi) (message : List ℕ) (s : Connection) →
      Holds s →
      P message →
      NextHolds (hold_down state sapi message s)
  of_hold_down state Zero message s w one = either _ _ _ (of_failing state s EQUIPMENT_FAILURE w) (push s.down.zero message w.0 one, w.1)
  of_hold_down state Three message s w one = either _ _ _ (of_failing state s EQUIPMENT_FAILURE w) (w.0, push s.down.three message w.1 one)

  of_hold_short_message : (state : State) (message : List ℕ) (s : Connection) →
      Holds s →
      P message →
      NextHolds (hold_short_message state message s)
  of_hold_short_message state message s w one = either _ _ _ (of_failing state s EQUIPMENT_FAILURE w) (w.0, push s.down.three message w.1 one)

  of_short_message : (state : State) (link : ShortMessageLink) (message : List ℕ) (s : Connection) →
      Holds s →
      P message →
      NextHolds (short_message state link message s)
  of_short_message state Up message s w one = w
  of_short_message state _ message s w one = of_hold_short_message state message s w one

  of_link_down : (link : ShortMessageLink) (reference : ℕ) (s : Connection) → Holds s → NextHolds (link_down link reference s)
  of_link_down Asked reference s w = (w.0, tt)
  of_link_down _ reference s w = w

  of_hold_up : (state : State) (tenure : ℕ) (sapi : Sapi) (message : List ℕ) (s : Connection) →
      Holds s →
      NextHolds (hold_up state tenure sapi message s)
  of_hold_up state tenure sapi message s w = either _ _ _ (of_failing state s EQUIPMENT_FAILURE w) w

  of_leave : (reference : ℕ) (draining : List Drain) (s : Connection) → Holds s → NextHolds (leave reference draining s)
  of_leave reference [] s w = w
  of_leave reference (d ∷ ds) s w = either d.is_done _ _ (of_leave reference ds (relay_held reference (shifted ds s)).next w) w

  of_settled : (reference : ℕ) (stage : Stage) (draining : List Drain) (s : Connection) →
      Holds s →
      Holds (settled reference stage draining s)
  of_settled reference Draining [] s w = w
  of_settled reference Draining (d ∷ ds) s w = w
  of_settled reference _ draining s w = w

  of_resting : (reference : ℕ) (s : Connection) → Holds s → Holds (resting reference s)
  of_resting reference s w = w

  -- ---- rows

  of_access : (message : Option (List ℕ)) (s : Connection) → Holds s → NextHolds (access message s)
  of_access (Some initial) s w = either (nat_le (length initial) INITIAL_LIMIT) (row (complete_layer3 s.serving initial ∷ []) (enter WaitConfirm s)) (dropping s) w (tt, tt)
  of_access None s w = (tt, tt)

  of_activation_ack : (state : State) (s : Connection) (at : Place) → Holds s → OfRow NextHolds (on_activation_ack state s at)
  of_activation_ack WaitActivation s at w = where_fits _ _ w
  of_activation_ack (Live reference (Preparing target)) s at w = where_fits _ _ w
  of_activation_ack _ s at w = tt

  of_refuse : (reference : ℕ) (change : Change) (offer : Option Channel) (s : Connection) →
      Holds s →
      NextHolds (refuse reference change offer s)
  of_refuse reference change offer s w = of_waiting (resting_stage s.draining) reference offer (resting reference s) (of_resting reference s w)

  of_activation_nack : (state : State) (s : Connection) (at : Place) (offer : Option Channel) →
      Holds s →
      OfRow NextHolds (on_activation_nack state s at offer)
  of_activation_nack WaitActivation s at offer w = where_fits _ _ (tt, tt)
  of_activation_nack (Live reference (Preparing target)) s at offer w = where_fits _ (refuse reference target.change offer s) (of_refuse reference target.change offer s w)
  of_activation_nack _ s at offer w = tt

  of_establish_indication : (state : State) (s : Connection) (at : Place) (sapi : Sapi) (message : Option (List ℕ)) →
      Holds s →
      OfRow NextHolds (on_establish_indication state s at sapi message)
  of_establish_indication WaitEstablish s at Zero message w = where_fits _ _ (of_access message s w)
  of_establish_indication (Live reference (Changing target)) s at sapi message w = tt
  of_establish_indication (Live reference stage) s at Three message w = where_fits _ _ (w.0, tt)
  of_establish_indication _ s at sapi message w = tt

  of_establish_confirm : (state : State) (s : Connection) (at : Place) (sapi : Sapi) →
      Holds s →
      OfRow NextHolds (on_establish_confirm state s at sapi)
  of_establish_confirm (Live reference (Changing target)) s at sapi w = tt
  of_establish_confirm (Live reference stage) s at Three w = where_fits _ _ (w.0, tt)
  of_establish_confirm _ s at sapi w = tt

  of_release_indication : (state : State) (s : Connection) (at : Place) (sapi : Sapi) →
      Holds s →
      OfRow NextHolds (on_release_indication state s at sapi)
  of_release_indication WaitEstablish s at Zero w = where_fits _ _ (tt, tt)
  of_release_indication WaitConfirm s at Zero w = where_fits _ _ (tt, tt)
  of_release_indication (Live reference (Changing target)) s at sapi w = tt
  of_release_indication (Live reference stage) s at Zero w = where_fits _ _ (tt, tt)
  of_release_indication (Live reference stage) s at Three w = where_fits _ _ (of_link_down s.link reference s w)
  of_release_indication _ s at sapi w = tt

  of_error_indication : (state : State) (s : Connection) (at : Place) (sapi : Sapi) →
      Holds s →
      OfRow NextHolds (on_error_indication state s at sapi)
  of_error_indication (Live reference (Changing target)) s at sapi w = tt
  of_error_indication (Live reference stage) s at Three w = where_fits _ _ (of_link_down s.link reference s w)
  of_error_indication _ s at sapi w = tt

  of_connection_failure : (state : State) (s : Connection) (at : Place) → Holds s → OfRow NextHolds (on_connection_failure state s at)
  of_connection_failure WaitEstablish s at w = where_fits _ _ (tt, tt)
  of_connection_failure WaitConfirm s at w = where_fits _ _ (tt, tt)
  of_connection_failure (Live reference (Changing target)) s at w = tt
  of_connection_failure (Live reference stage) s at w = where_fits _ _ (tt, tt)
  of_connection_failure _ s at w = tt

  of_dtap_on_target : (reference : ℕ) (stage : Stage) (s : Connection) (at : Place) (sapi : Sapi) →
      Holds s →
      OfRow NextHolds (dtap_on_target reference stage s at sapi)
  of_dtap_on_target reference (Changing target) s at Zero w = where_fits _ _ (tt, tt)
  of_dtap_on_target reference _ s at _ w = tt

  of_dtap_in : (place : Option ℕ) (reference : ℕ) (stage : Stage) (s : Connection) (at : Place) (sapi : Sapi) (message : List ℕ) →
      Holds s →
      OfRow NextHolds (dtap_in place reference stage s at sapi message)
  of_dtap_in (Some zero) reference stage s at sapi message w = w
  of_dtap_in (Some (suc tenure)) reference stage s at sapi message w = of_hold_up (Live reference stage) (suc tenure) sapi message s w
  of_dtap_in None reference stage s at sapi message w = of_dtap_on_target reference stage s at sapi w

  of_dtap : (state : State) (s : Connection) (at : Place) (sapi : Sapi) (message : List ℕ) →
      Holds s →
      OfRow NextHolds (on_dtap state s at sapi message)
  of_dtap WaitEstablish s at Zero message w = where_fits _ _ (tt, tt)
  of_dtap WaitEstablish s at Three message w = tt
  of_dtap WaitConfirm s at sapi message w = where_fits _ _ (of_hold_up WaitConfirm 0 sapi message s w)
  of_dtap (Live reference stage) s at sapi message w = of_dtap_in (tenure_at at s.serving s.draining) reference stage s at sapi message w
  of_dtap _ s at sapi message w = tt

  of_complete : (state : State) (s : Connection) (at : Place) (change : Change) (cause : ℕ) (offer : Option Channel) →
      Holds s →
      OfRow NextHolds (on_complete state s at change cause offer)
  of_complete (Live reference (Changing target)) s at change cause offer w =
      where_fits _ (complete reference change target.channel cause offer s)
      (of_waiting Draining reference offer (ask_for_held (hand_held Zero (moved reference target.channel s)).next).next (tt, w.1))
  of_complete _ s at change cause offer w = tt

  of_failure : (state : State) (s : Connection) (at : Place) (change : Change) (cause : ℕ) (offer : Option Channel) →
      Holds s →
      OfRow NextHolds (on_failure state s at change cause offer)
  of_failure (Live reference (Changing target)) s at change cause offer w =
      where_fits _ (failure reference change target.channel cause offer s)
      (of_waiting (resting_stage s.draining) reference offer (ask_for_held (hand_held Zero (resting reference s)).next).next (tt, w.1))
  of_failure _ s at change cause offer w = tt

  of_release : (reference : ℕ) (stage : Stage) (place : ℕ) (offer : Option Channel) (s : Connection) →
      Holds s →
      NextHolds (release reference stage place offer s)
  of_release reference stage place offer s w =
      let left : Connection = (leave reference (done_at place s.draining) s).next in
      let rests : Connection = settled reference stage left.draining left in
      of_waiting (settled_stage stage rests.draining) reference offer rests (of_settled reference stage left.draining left (of_leave reference (done_at place s.draining) s w))

  of_release_in : (place : Option ℕ) (reference : ℕ) (stage : Stage) (offer : Option Channel) (s : Connection) →
      Holds s →
      OfRow NextHolds (release_in place reference stage offer s)
  of_release_in (Some place) reference stage offer s w = of_release reference stage place offer s w
  of_release_in None reference stage offer s w = tt

  of_release_ack : (state : State) (s : Connection) (at : Place) (offer : Option Channel) →
      Holds s →
      OfRow NextHolds (on_release_ack state s at offer)
  of_release_ack (Live reference stage) s at offer w = of_release_in (drain_at at s.draining) reference stage offer s w
  of_release_ack _ s at offer w = tt

  of_move : (state : State) (s : Connection) (offer : Option Channel) → Holds s → OfRow NextHolds (on_move state s offer)
  of_move (Live reference stage) s offer w = where_fits _ _ (of_begin reference Handover offer s w)
  of_move _ s offer w = tt

  of_confirm : (state : State) (s : Connection) (reference : ℕ) → Holds s → OfRow NextHolds (on_confirm state s reference)
  of_confirm WaitConfirm s reference w = w
  of_confirm (Closed (Due cause)) s reference w = w
  of_confirm _ s reference w = tt

  of_refused : (state : State) (s : Connection) → Holds s → OfRow NextHolds (on_refused state s)
  of_refused WaitConfirm s w = (tt, tt)
  of_refused (Closed (Due cause)) s w = (tt, tt)
  of_refused _ s w = tt

  of_released : (state : State) (s : Connection) (reference : ℕ) → Holds s → OfRow NextHolds (on_released state s reference)
  of_released WaitConfirm s reference w = (tt, tt)
  of_released (Live own stage) s reference w = (tt, tt)
  of_released (Closed clearing) s reference w = (tt, tt)
  of_released _ s reference w = tt

  of_downlink : (state : State) (s : Connection) (sapi : Sapi) (message : List ℕ) →
      Holds s →
      P message →
      OfRow NextHolds (on_downlink state s sapi message)
  of_downlink (Live reference (Changing target)) s sapi message w one = of_hold_down (Live reference (Changing target)) sapi message s w one
  of_downlink (Live reference stage) s Zero message w one = w
  of_downlink (Live reference stage) s Three message w one = of_short_message (Live reference stage) s.link message s w one
  of_downlink _ s sapi message w one = tt

  of_speech : (reference : ℕ) (stage : Stage) (offer : Option Channel) (s : Connection) →
      Holds s →
      NextHolds (speech_request reference stage offer s)
  of_speech reference stage offer s w = either _ _ _ (of_begin reference Assignment offer s w) (either s.waits _ _ w w)

  of_assignment_request : (state : State) (s : Connection) (is_speech : Bool) (offer : Option Channel) →
      Holds s →
      OfRow NextHolds (on_assignment_request state s is_speech offer)
  of_assignment_request (Live reference stage) s is_speech offer w = either is_speech _ _ (of_speech reference stage offer s w) w
  of_assignment_request _ s is_speech offer w = tt

  of_cipher_mode_command : (state : State) (s : Connection) → Holds s → OfRow NextHolds (on_cipher_mode_command state s)
  of_cipher_mode_command (Live reference stage) s w = w
  of_cipher_mode_command _ s w = tt

  of_clear_command : (state : State) (s : Connection) → Holds s → OfRow NextHolds (on_clear_command state s)
  of_clear_command (Live reference stage) s w = (tt, tt)
  of_clear_command (Closed (WasAsked reference)) s w = w
  of_clear_command _ s w = tt

  of_expiry : (state : State) (s : Connection) → Holds s → OfRow NextHolds (on_expiry state s)
  of_expiry WaitActivation s w = (tt, tt)
  of_expiry WaitEstablish s w = (tt, tt)
  of_expiry (Live reference (Preparing target)) s w = (tt, tt)
  of_expiry (Live reference (Changing target)) s w = (tt, tt)
  of_expiry _ s w = tt

  of_drain_expiry : (state : State) (s : Connection) → Holds s → OfRow NextHolds (on_drain_expiry state s)
  of_drain_expiry (Live reference stage) s w = where_fits _ _ (tt, tt)
  of_drain_expiry _ s w = tt

  of_station_down : (state : State) (s : Connection) (station : ℕ) → Holds s → OfRow NextHolds (on_station_down state s station)
  of_station_down WaitActivation s station w = where_fits _ _ (tt, tt)
  of_station_down WaitEstablish s station w = where_fits _ _ (tt, tt)
  of_station_down WaitConfirm s station w = where_fits _ _ (tt, tt)
  of_station_down (Live reference stage) s station w = where_fits _ _ (tt, tt)
  of_station_down _ s station w = tt

  of_switch_down : (state : State) (s : Connection) → Holds s → OfRow NextHolds (on_switch_down state s)
  of_switch_down Removed s w = tt
  of_switch_down _ s w = (tt, tt)

  pub held_row : (s : Connection) (input : Input) (offer : Option Channel) →
      AllByRecursion P s.down.zero →
      AllByRecursion P s.down.three →
      BringsSuch P input →
      OfRow NextHolds (row_of s input offer)
  unfolding row_of
  held_row s (inputs.ActivationAck at) offer hand short brings = of_activation_ack s.state s at (hand, short)
  held_row s (inputs.ActivationNack at) offer hand short brings = of_activation_nack s.state s at offer (hand, short)
  held_row s (inputs.EstablishIndication at sapi message) offer hand short brings = of_establish_indication s.state s at sapi message (hand, short)
  held_row s (inputs.EstablishConfirm at sapi) offer hand short brings = of_establish_confirm s.state s at sapi (hand, short)
  held_row s (inputs.ReleaseIndication at sapi) offer hand short brings = of_release_indication s.state s at sapi (hand, short)
  held_row s (inputs.ErrorIndication at sapi) offer hand short brings = of_error_indication s.state s at sapi (hand, short)
  held_row s (inputs.ConnectionFailure at) offer hand short brings = of_connection_failure s.state s at (hand, short)
  held_row s (inputs.Dtap at sapi message) offer hand short brings = of_dtap s.state s at sapi message (hand, short)
  held_row s (inputs.Complete at change cause) offer hand short brings = of_complete s.state s at change cause.0 offer (hand, short)
  held_row s (inputs.Failure at change cause) offer hand short brings = of_failure s.state s at change cause.0 offer (hand, short)
  held_row s (inputs.ReleaseAck at) offer hand short brings = of_release_ack s.state s at offer (hand, short)
  held_row s inputs.Move offer hand short brings = of_move s.state s offer (hand, short)
  held_row s (inputs.ConnectionConfirm source) offer hand short brings = of_confirm s.state s source (hand, short)
  held_row s inputs.ConnectionRefused offer hand short brings = of_refused s.state s (hand, short)
  held_row s (inputs.Released source) offer hand short brings = of_released s.state s source (hand, short)
  held_row s (inputs.Downlink sapi message) offer hand short brings = of_downlink s.state s sapi message (hand, short) brings
  held_row s (inputs.AssignmentRequest is_speech) offer hand short brings = of_assignment_request s.state s is_speech offer (hand, short)
  held_row s inputs.CipherModeCommand offer hand short brings = of_cipher_mode_command s.state s (hand, short)
  held_row s inputs.ClearCommand offer hand short brings = of_clear_command s.state s (hand, short)
  held_row s inputs.Expiry offer hand short brings = of_expiry s.state s (hand, short)
  held_row s inputs.DrainExpiry offer hand short brings = of_drain_expiry s.state s (hand, short)
  held_row s (inputs.StationDown station) offer hand short brings = of_station_down s.state s station (hand, short)
  held_row s inputs.SwitchDown offer hand short brings = of_switch_down s.state s (hand, short)

-- ---- the offer doesn't decide which channel serves behind a row

alike_complete : (state : State) (s : Connection) (at : Place) (change : Change) (cause : ℕ) (offer : Option Channel) →
    serving_after s (on_complete state s at change cause None) ≡ serving_after s (on_complete state s at change cause offer)
alike_complete (Live reference (Changing target)) s at change cause offer =
    serves_where (is_at at target.channel && same_change change target.change) reference change target.channel cause None s
    ∙ sym (serves_where (is_at at target.channel && same_change change target.change) reference change target.channel cause offer s)
alike_complete _ s at change cause offer = refl

pub serving_alike : (s : Connection) (input : Input) (offer : Option Channel) →
    serving_after s (row_of s input None) ≡ serving_after s (row_of s input offer)
unfolding row_of
serving_alike s (inputs.Complete at change cause) offer = alike_complete s.state s at change cause.0 offer
serving_alike s input offer = serves_on s input None tt ∙ sym (serves_on s input offer tt)
