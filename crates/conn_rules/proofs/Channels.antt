-- SPDX-License-Identifier: MIT OR Apache-2.0
-- A row keeps the number of its connection; the channel that serves after it is the serving one or
-- the target, and the target after it is the target or the offer.
use Rattle.conn_rules.proofs.Prelude.{◌≡◌, ℕ, zero, suc, ◌&&◌, Bool, true, false, if◌then◌else◌, List, [], ◌∷◌, ◌++◌, Option, Some, None}
use Rattle.conn_rules.proofs.Prelude.{Contains, refl, sym, subst, append_assoc, Contains-push, Contains-append_left, Contains-append_right}
use Rattle.conn_rules.proofs.Prelude.{AllByRecursion, EQUIPMENT_FAILURE, Change, Assignment, Handover, Channel, Place, Sapi, Zero, Three}
use Rattle.conn_rules.proofs.Prelude.{option_to_list, Input, Due, WasAsked, Drain, ShortMessageLink, Up, Stage, Preparing, Changing}
use Rattle.conn_rules.proofs.Prelude.{Draining, State, WaitActivation, WaitEstablish, WaitConfirm, Live, Closed, Removed, Connection}
use Rattle.conn_rules.proofs.Prelude.{tenure_at, drain_at, OfRow, target_in}
use Rattle.conn_rules.specs.declared.input.Input.TheVariants as inputs
use Rattle.conn_rules.specs.Roles.{KeepsChannels}
use Rattle.conn_rules.specs.Steps.{Row, failing, begin, begin_waiting, after_waiting, hold_down, hold_short_message, short_message, link_down, hold_up, relay_held, leave, shifted, settled, settled_stage, resting_stage, resting, moved, hand_held, ask_for_held, done_at, may_begin}
use Rattle.conn_rules.specs.Table.{row_of, row_if, serving_after, refuse, access, release, complete, failure, speech_request, release_in, dtap_in, dtap_on_target, on_activation_ack, on_activation_nack, on_establish_indication, on_establish_confirm, on_release_indication, on_error_indication, on_connection_failure, on_dtap, on_complete, on_failure, on_release_ack, on_move, on_confirm, on_refused, on_released, on_downlink, on_assignment_request, on_cipher_mode_command, on_clear_command, on_expiry, on_drain_expiry, on_station_down, on_switch_down}

-- what holds of channels that serve, and what holds of targets
module _ (P Q : Channel → Type 0) where
  -- the connection has this number, and its channels are such ones
  abbrev pub IsWithin : ℕ → Connection → Type 0
  IsWithin n s = (s.number ≡ n) × P s.serving × AllByRecursion Q (target_in s.state)

  abbrev pub NextIsWithin : ℕ → Row → Type 0
  NextIsWithin n r = IsWithin n r.next

  either : (b : Bool) (n : ℕ) (r q : Row) → NextIsWithin n r → NextIsWithin n q → NextIsWithin n (if b then r else q)
  either true n r q h k = h
  either false n r q h k = k

  where_fits : (b : Bool) (n : ℕ) (r : Row) → NextIsWithin n r → OfRow (NextIsWithin n) (row_if b r)
  where_fits true n r h = h
  where_fits false n r h = tt

  -- ---- steps

  of_failing : (state : State) (s : Connection) (cause n : ℕ) → IsWithin n s → NextIsWithin n (failing state s cause)
  of_failing WaitActivation s cause n w = (w.0, w.1, tt)
  of_failing _ s cause n w = (w.0, w.1, tt)

  of_begin : (reference : ℕ) (change : Change) (offer : Option Channel) (s : Connection) (n : ℕ) →
      IsWithin n s →
      AllByRecursion Q (option_to_list offer) →
      NextIsWithin n (begin reference change offer s)
  of_begin reference change (Some channel) s n w o = (w.0, w.1, o)
  of_begin reference change None s n w o = w

  of_after_waiting : (b : Bool) (reference : ℕ) (offer : Option Channel) (s : Connection) (n : ℕ) →
      IsWithin n s →
      AllByRecursion Q (option_to_list offer) →
      IsWithin n (after_waiting b reference offer s)
  of_after_waiting true reference (Some channel) s n w o = (w.0, w.1, o)
  of_after_waiting true reference None s n w o = w
  of_after_waiting false reference offer s n w o = w

  of_waiting : (stage : Stage) (reference : ℕ) (offer : Option Channel) (s : Connection) (n : ℕ) →
      IsWithin n s →
      AllByRecursion Q (option_to_list offer) →
      NextIsWithin n (begin_waiting stage reference offer s)
  of_waiting stage reference offer s n w o = of_after_waiting (s.waits && may_begin stage s.draining) reference offer s n w o

  of_hold_down : (state : State) (sapi : Sapi) (message : List ℕ) (s : Connection) (n : ℕ) →
      IsWithin n s →
      NextIsWithin n (hold_down state sapi message s)
  of_hold_down state sapi message s n w = either _ n _ _ (of_failing state s EQUIPMENT_FAILURE n w) w

  of_hold_short_message : (state : State) (message : List ℕ) (s : Connection) (n : ℕ) →
      IsWithin n s →
      NextIsWithin n (hold_short_message state message s)
  of_hold_short_message state message s n w = either _ n _ _ (of_failing state s EQUIPMENT_FAILURE n w) w

  of_short_message : (state : State) (link : ShortMessageLink) (message : List ℕ) (s : Connection) (n : ℕ) →
      IsWithin n s →
      NextIsWithin n (short_message state link message s)
  of_short_message state Up message s n w = w
  of_short_message state _ message s n w = of_hold_short_message state message s n w

  of_link_down : (link : ShortMessageLink) (reference : ℕ) (s : Connection) (n : ℕ) →
      IsWithin n s →
      NextIsWithin n (link_down link reference s)
  of_link_down Up reference s n w = w
  of_link_down _ reference s n w = w

  of_hold_up : (state : State) (tenure : ℕ) (sapi : Sapi) (message : List ℕ) (s : Connection) (n : ℕ) →
      IsWithin n s →
      NextIsWithin n (hold_up state tenure sapi message s)
  of_hold_up state tenure sapi message s n w = either _ n _ _ (of_failing state s EQUIPMENT_FAILURE n w) w

  of_leave : (reference : ℕ) (draining : List Drain) (s : Connection) (n : ℕ) → IsWithin n s → NextIsWithin n (leave reference draining s)
  of_leave reference [] s n w = w
  of_leave reference (d ∷ ds) s n w = either d.is_done n _ _ (of_leave reference ds (relay_held reference (shifted ds s)).next n w) w

  of_settled : (reference : ℕ) (stage : Stage) (draining : List Drain) (s : Connection) (n : ℕ) →
      IsWithin n s →
      IsWithin n (settled reference stage draining s)
  of_settled reference Draining [] s n w = (w.0, w.1, tt)
  of_settled reference Draining (d ∷ ds) s n w = w
  of_settled reference _ draining s n w = w

  none_targeted : (reference : ℕ) (draining : List Drain) → AllByRecursion Q (target_in (Live reference (resting_stage draining)))
  none_targeted reference [] = tt
  none_targeted reference (d ∷ ds) = tt

  of_resting : (reference : ℕ) (s : Connection) (n : ℕ) → IsWithin n s → IsWithin n (resting reference s)
  of_resting reference s n w = (w.0, w.1, none_targeted reference s.draining)

  -- ---- rows

  of_access : (message : Option (List ℕ)) (s : Connection) (n : ℕ) → IsWithin n s → NextIsWithin n (access message s)
  of_access (Some initial) s n w = either _ n _ _ (w.0, w.1, tt) (w.0, w.1, tt)
  of_access None s n w = (w.0, w.1, tt)

  of_activation_ack : (state : State) (s : Connection) (at : Place) (n : ℕ) →
      IsWithin n s →
      AllByRecursion Q (target_in state) →
      OfRow (NextIsWithin n) (on_activation_ack state s at)
  of_activation_ack WaitActivation s at n w t = where_fits _ n _ (w.0, w.1, tt)
  of_activation_ack (Live reference (Preparing target)) s at n w t = where_fits _ n _ (w.0, w.1, t)
  of_activation_ack _ s at n w t = tt

  of_refuse : (reference : ℕ) (change : Change) (offer : Option Channel) (s : Connection) (n : ℕ) →
      IsWithin n s →
      AllByRecursion Q (option_to_list offer) →
      NextIsWithin n (refuse reference change offer s)
  of_refuse reference change offer s n w o = of_waiting (resting_stage s.draining) reference offer (resting reference s) n (of_resting reference s n w) o

  of_activation_nack : (state : State) (s : Connection) (at : Place) (offer : Option Channel) (n : ℕ) →
      IsWithin n s →
      AllByRecursion Q (option_to_list offer) →
      OfRow (NextIsWithin n) (on_activation_nack state s at offer)
  of_activation_nack WaitActivation s at offer n w o = where_fits _ n _ (w.0, w.1, tt)
  of_activation_nack (Live reference (Preparing target)) s at offer n w o = where_fits _ n (refuse reference target.change offer s) (of_refuse reference target.change offer s n w o)
  of_activation_nack _ s at offer n w o = tt

  of_establish_indication : (state : State) (s : Connection) (at : Place) (sapi : Sapi) (message : Option (List ℕ)) (n : ℕ) →
      IsWithin n s →
      OfRow (NextIsWithin n) (on_establish_indication state s at sapi message)
  of_establish_indication WaitEstablish s at Zero message n w = where_fits _ n _ (of_access message s n w)
  of_establish_indication (Live reference (Changing target)) s at sapi message n w = tt
  of_establish_indication (Live reference stage) s at Three message n w = where_fits _ n _ w
  of_establish_indication _ s at sapi message n w = tt

  of_establish_confirm : (state : State) (s : Connection) (at : Place) (sapi : Sapi) (n : ℕ) →
      IsWithin n s →
      OfRow (NextIsWithin n) (on_establish_confirm state s at sapi)
  of_establish_confirm (Live reference (Changing target)) s at sapi n w = tt
  of_establish_confirm (Live reference stage) s at Three n w = where_fits _ n _ w
  of_establish_confirm _ s at sapi n w = tt

  of_release_indication : (state : State) (s : Connection) (at : Place) (sapi : Sapi) (n : ℕ) →
      IsWithin n s →
      OfRow (NextIsWithin n) (on_release_indication state s at sapi)
  of_release_indication WaitEstablish s at Zero n w = where_fits _ n _ (w.0, w.1, tt)
  of_release_indication WaitConfirm s at Zero n w = where_fits _ n _ (w.0, w.1, tt)
  of_release_indication (Live reference (Changing target)) s at sapi n w = tt
  of_release_indication (Live reference stage) s at Zero n w = where_fits _ n _ (w.0, w.1, tt)
  of_release_indication (Live reference stage) s at Three n w = where_fits _ n _ (of_link_down s.link reference s n w)
  of_release_indication _ s at sapi n w = tt

  of_error_indication : (state : State) (s : Connection) (at : Place) (sapi : Sapi) (n : ℕ) →
      IsWithin n s →
      OfRow (NextIsWithin n) (on_error_indication state s at sapi)
  of_error_indication (Live reference (Changing target)) s at sapi n w = tt
  of_error_indication (Live reference stage) s at Three n w = where_fits _ n _ (of_link_down s.link reference s n w)
  of_error_indication _ s at sapi n w = tt

  of_connection_failure : (state : State) (s : Connection) (at : Place) (n : ℕ) →
      IsWithin n s →
      OfRow (NextIsWithin n) (on_connection_failure state s at)
  of_connection_failure WaitEstablish s at n w = where_fits _ n _ (w.0, w.1, tt)
  of_connection_failure WaitConfirm s at n w = where_fits _ n _ (w.0, w.1, tt)
  of_connection_failure (Live reference (Changing target)) s at n w = tt
  of_connection_failure (Live reference stage) s at n w = where_fits _ n _ (w.0, w.1, tt)
  of_connection_failure _ s at n w = tt

  of_dtap_on_target : (reference : ℕ) (stage : Stage) (s : Connection) (at : Place) (sapi : Sapi) (n : ℕ) →
      IsWithin n s →
      OfRow (NextIsWithin n) (dtap_on_target reference stage s at sapi)
  of_dtap_on_target reference (Changing target) s at Zero n w = where_fits _ n _ (w.0, w.1, tt)
  of_dtap_on_target reference _ s at _ n w = tt

  of_dtap_in : (place : Option ℕ) (reference : ℕ) (stage : Stage) (s : Connection) (at : Place) (sapi : Sapi) (message : List ℕ) (n : ℕ) →
      IsWithin n s →
      OfRow (NextIsWithin n) (dtap_in place reference stage s at sapi message)
  of_dtap_in (Some zero) reference stage s at sapi message n w = w
  of_dtap_in (Some (suc tenure)) reference stage s at sapi message n w = of_hold_up (Live reference stage) (suc tenure) sapi message s n w
  of_dtap_in None reference stage s at sapi message n w = of_dtap_on_target reference stage s at sapi n w

  of_dtap : (state : State) (s : Connection) (at : Place) (sapi : Sapi) (message : List ℕ) (n : ℕ) →
      IsWithin n s →
      OfRow (NextIsWithin n) (on_dtap state s at sapi message)
  of_dtap WaitEstablish s at Zero message n w = where_fits _ n _ (w.0, w.1, tt)
  of_dtap WaitEstablish s at Three message n w = tt
  of_dtap WaitConfirm s at sapi message n w = where_fits _ n _ (of_hold_up WaitConfirm 0 sapi message s n w)
  of_dtap (Live reference stage) s at sapi message n w = of_dtap_in (tenure_at at s.serving s.draining) reference stage s at sapi message n w
  of_dtap _ s at sapi message n w = tt

  of_complete : (state : State) (s : Connection) (at : Place) (change : Change) (cause : ℕ) (offer : Option Channel) (n : ℕ) →
      IsWithin n s →
      AllByRecursion P (target_in state) →
      AllByRecursion Q (option_to_list offer) →
      OfRow (NextIsWithin n) (on_complete state s at change cause offer)
  of_complete (Live reference (Changing target)) s at change cause offer n w t o =
      where_fits _ n (complete reference change target.channel cause offer s)
      (of_waiting Draining reference offer (ask_for_held (hand_held Zero (moved reference target.channel s)).next).next n (w.0, t.0, tt) o)
  of_complete _ s at change cause offer n w t o = tt

  of_failure : (state : State) (s : Connection) (at : Place) (change : Change) (cause : ℕ) (offer : Option Channel) (n : ℕ) →
      IsWithin n s →
      AllByRecursion Q (option_to_list offer) →
      OfRow (NextIsWithin n) (on_failure state s at change cause offer)
  of_failure (Live reference (Changing target)) s at change cause offer n w o =
      where_fits _ n (failure reference change target.channel cause offer s)
      (of_waiting (resting_stage s.draining) reference offer (ask_for_held (hand_held Zero (resting reference s)).next).next n (of_resting reference s n w) o)
  of_failure _ s at change cause offer n w o = tt

  of_release : (reference : ℕ) (stage : Stage) (place : ℕ) (offer : Option Channel) (s : Connection) (n : ℕ) →
      IsWithin n s →
      AllByRecursion Q (option_to_list offer) →
      NextIsWithin n (release reference stage place offer s)
  of_release reference stage place offer s n w o =
      let left : Connection = (leave reference (done_at place s.draining) s).next in
      let rests : Connection = settled reference stage left.draining left in
      of_waiting (settled_stage stage rests.draining) reference offer rests n (of_settled reference stage left.draining left n (of_leave reference (done_at place s.draining) s n w)) o

  of_release_in : (place : Option ℕ) (reference : ℕ) (stage : Stage) (offer : Option Channel) (s : Connection) (n : ℕ) →
      IsWithin n s →
      AllByRecursion Q (option_to_list offer) →
      OfRow (NextIsWithin n) (release_in place reference stage offer s)
  of_release_in (Some place) reference stage offer s n w o = of_release reference stage place offer s n w o
  of_release_in None reference stage offer s n w o = tt

  of_release_ack : (state : State) (s : Connection) (at : Place) (offer : Option Channel) (n : ℕ) →
      IsWithin n s →
      AllByRecursion Q (option_to_list offer) →
      OfRow (NextIsWithin n) (on_release_ack state s at offer)
  of_release_ack (Live reference stage) s at offer n w o = of_release_in (drain_at at s.draining) reference stage offer s n w o
  of_release_ack _ s at offer n w o = tt

  of_move : (state : State) (s : Connection) (offer : Option Channel) (n : ℕ) →
      IsWithin n s →
      AllByRecursion Q (option_to_list offer) →
      OfRow (NextIsWithin n) (on_move state s offer)
  of_move (Live reference stage) s offer n w o = where_fits _ n _ (of_begin reference Handover offer s n w o)
  of_move _ s offer n w o = tt

  of_confirm : (state : State) (s : Connection) (reference n : ℕ) → IsWithin n s → OfRow (NextIsWithin n) (on_confirm state s reference)
  of_confirm WaitConfirm s reference n w = (w.0, w.1, tt)
  of_confirm (Closed (Due cause)) s reference n w = (w.0, w.1, tt)
  of_confirm _ s reference n w = tt

  of_refused : (state : State) (s : Connection) (n : ℕ) → IsWithin n s → OfRow (NextIsWithin n) (on_refused state s)
  of_refused WaitConfirm s n w = (w.0, w.1, tt)
  of_refused (Closed (Due cause)) s n w = (w.0, w.1, tt)
  of_refused _ s n w = tt

  of_released : (state : State) (s : Connection) (reference n : ℕ) → IsWithin n s → OfRow (NextIsWithin n) (on_released state s reference)
  of_released WaitConfirm s reference n w = (w.0, w.1, tt)
  of_released (Live own stage) s reference n w = (w.0, w.1, tt)
  of_released (Closed clearing) s reference n w = (w.0, w.1, tt)
  of_released _ s reference n w = tt

  of_downlink : (state : State) (s : Connection) (sapi : Sapi) (message : List ℕ) (n : ℕ) →
      IsWithin n s →
      OfRow (NextIsWithin n) (on_downlink state s sapi message)
  of_downlink (Live reference (Changing target)) s sapi message n w = of_hold_down (Live reference (Changing target)) sapi message s n w
  of_downlink (Live reference stage) s Zero message n w = w
  of_downlink (Live reference stage) s Three message n w = of_short_message (Live reference stage) s.link message s n w
  of_downlink _ s sapi message n w = tt

  of_speech : (reference : ℕ) (stage : Stage) (offer : Option Channel) (s : Connection) (n : ℕ) →
      IsWithin n s →
      AllByRecursion Q (option_to_list offer) →
      NextIsWithin n (speech_request reference stage offer s)
  of_speech reference stage offer s n w o = either _ n _ _ (of_begin reference Assignment offer s n w o) (either s.waits n _ _ w w)

  of_assignment_request : (state : State) (s : Connection) (is_speech : Bool) (offer : Option Channel) (n : ℕ) →
      IsWithin n s →
      AllByRecursion Q (option_to_list offer) →
      OfRow (NextIsWithin n) (on_assignment_request state s is_speech offer)
  of_assignment_request (Live reference stage) s is_speech offer n w o = either is_speech n _ _ (of_speech reference stage offer s n w o) w
  of_assignment_request _ s is_speech offer n w o = tt

  of_cipher_mode_command : (state : State) (s : Connection) (n : ℕ) → IsWithin n s → OfRow (NextIsWithin n) (on_cipher_mode_command state s)
  of_cipher_mode_command (Live reference stage) s n w = w
  of_cipher_mode_command _ s n w = tt

  of_clear_command : (state : State) (s : Connection) (n : ℕ) → IsWithin n s → OfRow (NextIsWithin n) (on_clear_command state s)
  of_clear_command (Live reference stage) s n w = (w.0, w.1, tt)
  of_clear_command (Closed (WasAsked reference)) s n w = (w.0, w.1, tt)
  of_clear_command _ s n w = tt

  of_expiry : (state : State) (s : Connection) (n : ℕ) → IsWithin n s → OfRow (NextIsWithin n) (on_expiry state s)
  of_expiry WaitActivation s n w = (w.0, w.1, tt)
  of_expiry WaitEstablish s n w = (w.0, w.1, tt)
  of_expiry (Live reference (Preparing target)) s n w = (w.0, w.1, tt)
  of_expiry (Live reference (Changing target)) s n w = (w.0, w.1, tt)
  of_expiry _ s n w = tt

  of_drain_expiry : (state : State) (s : Connection) (n : ℕ) → IsWithin n s → OfRow (NextIsWithin n) (on_drain_expiry state s)
  of_drain_expiry (Live reference stage) s n w = where_fits _ n _ (w.0, w.1, tt)
  of_drain_expiry _ s n w = tt

  of_station_down : (state : State) (s : Connection) (station n : ℕ) →
      IsWithin n s →
      OfRow (NextIsWithin n) (on_station_down state s station)
  of_station_down WaitActivation s station n w = where_fits _ n _ (w.0, w.1, tt)
  of_station_down WaitEstablish s station n w = where_fits _ n _ (w.0, w.1, tt)
  of_station_down WaitConfirm s station n w = where_fits _ n _ (w.0, w.1, tt)
  of_station_down (Live reference stage) s station n w = where_fits _ n _ (w.0, w.1, tt)
  of_station_down _ s station n w = tt

  of_switch_down : (state : State) (s : Connection) (n : ℕ) → IsWithin n s → OfRow (NextIsWithin n) (on_switch_down state s)
  of_switch_down Removed s n w = tt
  of_switch_down _ s n w = (w.0, w.1, tt)

  -- of a COMPLETE, the target is one that may serve
  abbrev pub MayServe : Input → Connection → Type 0
  MayServe (inputs.Complete at change cause) s = AllByRecursion P (target_in s.state)
  MayServe _ s = Unit {0}

  pub next_is_within : (s : Connection) (input : Input) (offer : Option Channel) (n : ℕ) →
      IsWithin n s →
      MayServe input s →
      AllByRecursion Q (option_to_list offer) →
      OfRow (NextIsWithin n) (row_of s input offer)
  unfolding row_of
  next_is_within s (inputs.ActivationAck at) offer n w t o = of_activation_ack s.state s at n w w.2
  next_is_within s (inputs.ActivationNack at) offer n w t o = of_activation_nack s.state s at offer n w o
  next_is_within s (inputs.EstablishIndication at sapi message) offer n w t o = of_establish_indication s.state s at sapi message n w
  next_is_within s (inputs.EstablishConfirm at sapi) offer n w t o = of_establish_confirm s.state s at sapi n w
  next_is_within s (inputs.ReleaseIndication at sapi) offer n w t o = of_release_indication s.state s at sapi n w
  next_is_within s (inputs.ErrorIndication at sapi) offer n w t o = of_error_indication s.state s at sapi n w
  next_is_within s (inputs.ConnectionFailure at) offer n w t o = of_connection_failure s.state s at n w
  next_is_within s (inputs.Dtap at sapi message) offer n w t o = of_dtap s.state s at sapi message n w
  next_is_within s (inputs.Complete at change cause) offer n w t o = of_complete s.state s at change cause.0 offer n w t o
  next_is_within s (inputs.Failure at change cause) offer n w t o = of_failure s.state s at change cause.0 offer n w o
  next_is_within s (inputs.ReleaseAck at) offer n w t o = of_release_ack s.state s at offer n w o
  next_is_within s inputs.Move offer n w t o = of_move s.state s offer n w o
  next_is_within s (inputs.ConnectionConfirm source) offer n w t o = of_confirm s.state s source n w
  next_is_within s inputs.ConnectionRefused offer n w t o = of_refused s.state s n w
  next_is_within s (inputs.Released source) offer n w t o = of_released s.state s source n w
  next_is_within s (inputs.Downlink sapi message) offer n w t o = of_downlink s.state s sapi message n w
  next_is_within s (inputs.AssignmentRequest is_speech) offer n w t o = of_assignment_request s.state s is_speech offer n w o
  next_is_within s inputs.CipherModeCommand offer n w t o = of_cipher_mode_command s.state s n w
  next_is_within s inputs.ClearCommand offer n w t o = of_clear_command s.state s n w
  next_is_within s inputs.Expiry offer n w t o = of_expiry s.state s n w
  next_is_within s inputs.DrainExpiry offer n w t o = of_drain_expiry s.state s n w
  next_is_within s (inputs.StationDown station) offer n w t o = of_station_down s.state s station n w
  next_is_within s inputs.SwitchDown offer n w t o = of_switch_down s.state s n w

  may_serve : (input : Input) (s : Connection) → AllByRecursion P (target_in s.state) → MayServe input s
  may_serve (inputs.Complete at change cause) s t = t
  may_serve _ s t = tt

  -- where the target may serve, whatever the input is
  pub all_within : (s : Connection) (input : Input) (offer : Option Channel) (n : ℕ) →
      IsWithin n s →
      AllByRecursion P (target_in s.state) →
      AllByRecursion Q (option_to_list offer) →
      OfRow (NextIsWithin n) (row_of s input offer)
  all_within s input offer n w t o = next_is_within s input offer n w (may_serve input s t) o

-- ---- the law

-- each of a list is among those of a list that has it at its end
all_among : (ys xs : List Channel) → AllByRecursion (Contains (ys ++ xs)) xs
all_among ys [] = tt
all_among ys (x ∷ xs) = (
  Contains-append_right ys (x ∷ xs) x (Contains-append_left (x ∷ []) xs x (Contains-push [] x)),
  subst (λ zs. AllByRecursion (Contains zs) xs) (append_assoc ys (x ∷ []) xs) (all_among (ys ++ x ∷ []) xs),
)

of_more : (ys zs xs : List Channel) → AllByRecursion (Contains ys) xs → AllByRecursion (Contains (ys ++ zs)) xs
of_more ys zs [] all = tt
of_more ys zs (x ∷ xs) all = (Contains-append_left ys zs x all.0, of_more ys zs xs all.1)

of_law : (s : Connection) (offer : Option Channel) (r : Option Row) →
    OfRow (NextIsWithin (Contains (s.serving ∷ target_in s.state)) (Contains (target_in s.state ++ option_to_list offer)) s.number) r →
    OfRow (KeepsChannels s offer) r
of_law s offer (Some r) w = record { number = w.0; serving = w.1; target = w.2 }
of_law s offer None w = tt

pub keeps_channels : (s : Connection) (input : Input) (offer : Option Channel) → OfRow (KeepsChannels s offer) (row_of s input offer)
keeps_channels s input offer =
    let targets : List Channel = target_in s.state in
    of_law s offer (row_of s input offer) (all_within _ _ s input offer s.number
    (refl, Contains-append_left (s.serving ∷ []) targets s.serving (Contains-push [] s.serving), of_more targets (option_to_list offer) targets (all_among [] targets))
    (all_among (s.serving ∷ []) targets) (all_among targets (option_to_list offer)))

-- ---- what serves after a row

of_serving : (c : Channel) (s : Connection) (n : ℕ) (r : Option Row) →
    c ≡ s.serving →
    OfRow (NextIsWithin (λ x. x ≡ c) (λ x. Unit {0}) n) r →
    serving_after s r ≡ c
of_serving c s n None is w = sym is
of_serving c s n (Some r) is w = w.1

all_are : (xs : List Channel) → AllByRecursion (λ x. Unit {0}) xs
all_are [] = tt
all_are (x ∷ xs) = (tt, all_are xs)

-- where the input is no COMPLETE, the channel that served serves
pub serves_on : (s : Connection) (input : Input) (offer : Option Channel) →
    MayServe (λ x. x ≡ s.serving) (λ x. Unit {0}) input s →
    serving_after s (row_of s input offer) ≡ s.serving
serves_on s input offer none =
    of_serving s.serving s s.number (row_of s input offer) refl
    (next_is_within (λ x. x ≡ s.serving) (λ x. Unit {0}) s input offer s.number (refl, refl, all_are (target_in s.state)) none (all_are (option_to_list offer)))

-- after a COMPLETE that fits the target serves
completed_serves : (reference : ℕ) (change : Change) (channel : Channel) (cause : ℕ) (offer : Option Channel) (s : Connection) →
    (complete reference change channel cause offer s).next.serving ≡ channel
completed_serves reference change channel cause offer s =
    (of_waiting (λ x. x ≡ channel) (λ x. Unit {0}) Draining reference offer (ask_for_held (hand_held Zero (moved reference channel s)).next).next s.number (refl, refl, tt) (all_are (option_to_list offer))).1

pub serves_where : (test : Bool) (reference : ℕ) (change : Change) (channel : Channel) (cause : ℕ) (offer : Option Channel) (s : Connection) →
    serving_after s (row_if test (complete reference change channel cause offer s)) ≡ (if test then channel else s.serving)
serves_where true reference change channel cause offer s = completed_serves reference change channel cause offer s
serves_where false reference change channel cause offer s = refl
