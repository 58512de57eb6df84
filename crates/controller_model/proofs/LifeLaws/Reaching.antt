-- SPDX-License-Identifier: MIT OR Apache-2.0
-- The messages of a row that leaves its connection open go to the stations of its channels and of
-- the offer.
use Rattle.controller_model.proofs.Prelude.{ℕ, zero, suc, ◌==◌, ◌&&◌, nat_le, Bool, true, false, if◌then◌else◌, List, [], ◌∷◌, ◌++◌, length}
use Rattle.controller_model.proofs.Prelude.{map, Option, Some, None, AllByRecursion, option_to_list, BSS_NOT_EQUIPPED, EQUIPMENT_FAILURE}
use Rattle.controller_model.proofs.Prelude.{PROTOCOL_ERROR, RADIO_INTERFACE_FAILURE, Change, Assignment, Handover, Channel, Place, Message}
use Rattle.controller_model.proofs.Prelude.{Station, handing, rf_channel_release, assignment_failure, change_complete, complete_layer3}
use Rattle.controller_model.proofs.Prelude.{relaying, AllByRecursion-append, Input, Due, WasAsked, Drain, ShortMessageLink, Down, Up, Stage}
use Rattle.controller_model.proofs.Prelude.{Preparing, Changing, Draining, State, WaitActivation, WaitEstablish, WaitConfirm, Live, Closed}
use Rattle.controller_model.proofs.Prelude.{Removed, Connection, emptied, enter, first_channel, tenure_at, drain_at, Row, row, ◌then◌}
use Rattle.controller_model.proofs.Prelude.{dropping, failing, link_up, without_station, begin, begin_waiting, waiting_outs, hold_down}
use Rattle.controller_model.proofs.Prelude.{hold_short_message, short_message, request_where, link_down, hold_up, relay_held, leave}
use Rattle.controller_model.proofs.Prelude.{shifted, settled, settled_stage, resting_stage, resting, moved, request_for, done_at, may_begin}
use Rattle.controller_model.proofs.Prelude.{OfRow, IsOpen, target_in, assign_immediately, command_to, refuse, nack_outs, access, release}
use Rattle.controller_model.proofs.Prelude.{complete, failure, failure_outs, speech_request, release_in, dtap_in, dtap_on_target}
use Rattle.controller_model.proofs.Prelude.{on_activation_ack, on_activation_nack, on_establish_indication, on_establish_confirm}
use Rattle.controller_model.proofs.Prelude.{on_release_indication, on_error_indication, on_connection_failure, on_dtap, on_complete}
use Rattle.controller_model.proofs.Prelude.{on_failure, on_release_ack, on_move, on_confirm, on_refused, on_released, on_downlink}
use Rattle.controller_model.proofs.Prelude.{on_assignment_request, on_cipher_mode_command, on_clear_command, on_expiry, on_drain_expiry}
use Rattle.controller_model.proofs.Prelude.{on_station_down, on_switch_down, either, where_fits, Sapi, Zero, Three, chain_count, put_in}
use Rattle.controller_model.proofs.Prelude.{count, messages, with_messages, INITIAL_LIMIT, begin_outs, tenure_outs}
use Rattle.conn_rules.specs.declared.input.Input.TheVariants as inputs
use Rattle.conn_rules.specs.declared.state.ShortMessageLink.TheVariants.{Asked}
use Rattle.conn_rules.specs.Table.{row_of}
use Rattle.hold_queue.specs.ChainState.{TenureHold}

-- what is sent to a station is sent to one of which this holds
abbrev pub Reaches : (ℕ → Type 0) → Message → Type 0
Reaches P (Station station message) = P station
Reaches P _ = Unit {0}

module _ (P : ℕ → Type 0) where
  abbrev AllReach : List Message → Type 0
  AllReach outs = AllByRecursion (Reaches P) outs

  -- of a row that leaves the connection open
  abbrev pub Reaching : Row → Type 0
  Reaching r = IsOpen r.next.state → AllByRecursion (Reaches P) r.outs

  -- ---- messages

  all_handed : (c : Channel) (sapi : Sapi) (ms : List (List ℕ)) → P c.station → AllReach (map (handing c sapi) ms)
  all_handed c sapi [] here = tt
  all_handed c sapi (m ∷ ms) here = (here, all_handed c sapi ms here)

  all_relayed : (reference : ℕ) (c : Channel) (sapi : Sapi) (ms : List (List ℕ)) → AllReach (map (relaying reference c sapi) ms)
  all_relayed reference c sapi [] = tt
  all_relayed reference c sapi (m ∷ ms) = (tt, all_relayed reference c sapi ms)

  all_of_tenure : (reference : ℕ) (c : Channel) (ts : List TenureHold) → AllReach (tenure_outs reference c ts)
  all_of_tenure reference c [] = tt
  all_of_tenure reference c (t ∷ ts) = AllByRecursion-append (Reaches P) (map (relaying reference c Zero) t.zero) (map (relaying reference c Three) t.three) (all_relayed reference c Zero t.zero) (all_relayed reference c Three t.three)

  begins : (reference : ℕ) (change : Change) (offer : Option Channel) →
      AllByRecursion (λ (c : Channel). P c.station) (option_to_list offer) →
      AllReach (begin_outs reference change offer)
  begins reference Assignment (Some channel) there = there
  begins reference Handover (Some channel) there = there
  begins reference Assignment None there = (tt, tt)
  begins reference Handover None there = tt

  waits : (b : Bool) (reference : ℕ) (offer : Option Channel) →
      AllByRecursion (λ (c : Channel). P c.station) (option_to_list offer) →
      AllReach (waiting_outs b reference offer)
  waits true reference offer there = begins reference Assignment offer there
  waits false reference offer there = tt

  requests : (link : ShortMessageLink) (c : Channel) → P c.station → AllReach (request_where link c)
  requests Down c here = (here, tt)
  requests _ c here = tt

  requests_for : (ms : List (List ℕ)) (c : Channel) → P c.station → AllReach (request_for ms c)
  requests_for [] c here = tt
  requests_for (m ∷ ms) c here = (here, tt)

  -- ---- steps

  of_failing : (state : State) (s : Connection) (cause : ℕ) → Reaching (failing state s cause)
  of_failing WaitActivation s cause there = absurd there
  of_failing _ s cause there = absurd there

  of_hold_down : (state : State) (sapi : Sapi) (message : List ℕ) (s : Connection) → Reaching (hold_down state sapi message s)
  of_hold_down state sapi message s = either Reaching (count s.down == s.down.limit) (failing state s EQUIPMENT_FAILURE) (row [] (record s { down = with_messages s.down sapi (messages s.down sapi ++ message ∷ []) })) (of_failing state s EQUIPMENT_FAILURE) (λ _. tt)

  of_hold_short_message : (state : State) (message : List ℕ) (s : Connection) →
      P s.serving.station →
      Reaching (hold_short_message state message s)
  of_hold_short_message state message s here =
      either Reaching (count s.down == s.down.limit) (failing state s EQUIPMENT_FAILURE) (row (request_where s.link s.serving) (record s { link = Asked; down = with_messages s.down Three (messages s.down Three ++ message ∷ []) }))
      (of_failing state s EQUIPMENT_FAILURE) (λ _. requests s.link s.serving here)

  of_short_message : (state : State) (link : ShortMessageLink) (message : List ℕ) (s : Connection) →
      P s.serving.station →
      Reaching (short_message state link message s)
  of_short_message state Up message s here = λ _. (here, tt)
  of_short_message state _ message s here = of_hold_short_message state message s here

  of_link_down : (link : ShortMessageLink) (reference : ℕ) (s : Connection) → Reaching (link_down link reference s)
  of_link_down Asked reference s there = (tt, tt)
  of_link_down _ reference s there = tt

  of_hold_up : (state : State) (tenure : ℕ) (sapi : Sapi) (message : List ℕ) (s : Connection) →
      Reaching (hold_up state tenure sapi message s)
  of_hold_up state tenure sapi message s = either Reaching (chain_count s.up == s.up.limit) (failing state s EQUIPMENT_FAILURE) (row [] (record s { up = record s.up { tenures = put_in tenure sapi message s.up.tenures } })) (of_failing state s EQUIPMENT_FAILURE) (λ _. tt)

  of_leave : (reference : ℕ) (draining : List Drain) (s : Connection) → AllReach (leave reference draining s).outs
  of_leave reference [] s = tt
  of_leave reference (d ∷ ds) s =
      either (λ (r : Row). AllReach r.outs) d.is_done (row [] (shifted ds s) then relay_held reference then leave reference ds) (row [] (record s { draining = d ∷ ds }))
      (AllByRecursion-append (Reaches P) (relay_held reference (shifted ds s)).outs (leave reference ds (relay_held reference (shifted ds s)).next).outs
      (all_of_tenure reference (first_channel ds s.serving) (shifted ds s).up.tenures) (of_leave reference ds (relay_held reference (shifted ds s)).next))
      tt

  -- ---- rows

  of_access : (message : Option (List ℕ)) (s : Connection) → Reaching (access message s)
  of_access (Some initial) s = either Reaching (nat_le (length initial) INITIAL_LIMIT) (row (complete_layer3 s.serving initial ∷ []) (enter WaitConfirm s)) (dropping s) (λ _. (tt, tt)) (λ there. absurd there)
  of_access None s = λ there. absurd there

  of_activation_ack : (state : State) (s : Connection) (at : Place) → P s.serving.station → OfRow Reaching (on_activation_ack state s at)
  of_activation_ack WaitActivation s at here = where_fits Reaching _ (assign_immediately s) (λ _. (here, tt))
  of_activation_ack (Live reference (Preparing target)) s at here = where_fits Reaching _ (command_to reference target s) (λ _. (here, tt))
  of_activation_ack _ s at here = tt

  of_refuse : (reference : ℕ) (change : Change) (offer : Option Channel) (s : Connection) →
      AllByRecursion (λ (c : Channel). P c.station) (option_to_list offer) →
      Reaching (refuse reference change offer s)
  of_refuse reference change offer s there _ =
      AllByRecursion-append (Reaches P) (nack_outs change reference) (begin_waiting (resting_stage s.draining) reference offer (resting reference s)).outs (nacks change) (waits (s.waits && may_begin (resting_stage s.draining) s.draining) reference offer there)
    where
      nacks : (change : Change) → AllReach (nack_outs change reference)
      nacks Assignment = (tt, tt)
      nacks Handover = tt

  of_activation_nack : (state : State) (s : Connection) (at : Place) (offer : Option Channel) →
      AllByRecursion (λ (c : Channel). P c.station) (option_to_list offer) →
      OfRow Reaching (on_activation_nack state s at offer)
  of_activation_nack WaitActivation s at offer there = where_fits Reaching _ (row [] (emptied Removed s)) (λ is_open. absurd is_open)
  of_activation_nack (Live reference (Preparing target)) s at offer there = where_fits Reaching _ (refuse reference target.change offer s) (of_refuse reference target.change offer s there)
  of_activation_nack _ s at offer there = tt

  of_link_up : (s : Connection) → P s.serving.station → AllReach (map (handing s.serving Three) (messages s.down Three))
  of_link_up s here = all_handed s.serving Three (messages s.down Three) here

  of_establish_indication : (state : State) (s : Connection) (at : Place) (sapi : Sapi) (message : Option (List ℕ)) →
      P s.serving.station →
      OfRow Reaching (on_establish_indication state s at sapi message)
  of_establish_indication WaitEstablish s at Zero message here = where_fits Reaching _ (access message s) (of_access message s)
  of_establish_indication (Live reference (Changing target)) s at sapi message here = tt
  of_establish_indication (Live reference stage) s at Three message here = where_fits Reaching _ (link_up s) (λ _. of_link_up s here)
  of_establish_indication _ s at sapi message here = tt

  of_establish_confirm : (state : State) (s : Connection) (at : Place) (sapi : Sapi) →
      P s.serving.station →
      OfRow Reaching (on_establish_confirm state s at sapi)
  of_establish_confirm (Live reference (Changing target)) s at sapi here = tt
  of_establish_confirm (Live reference stage) s at Three here = where_fits Reaching _ (link_up s) (λ _. of_link_up s here)
  of_establish_confirm _ s at sapi here = tt

  of_release_indication : (state : State) (s : Connection) (at : Place) (sapi : Sapi) →
      OfRow Reaching (on_release_indication state s at sapi)
  of_release_indication WaitEstablish s at Zero = where_fits Reaching _ (dropping s) (λ is_open. absurd is_open)
  of_release_indication WaitConfirm s at Zero = where_fits Reaching _ (failing WaitConfirm s RADIO_INTERFACE_FAILURE) (λ is_open. absurd is_open)
  of_release_indication (Live reference (Changing target)) s at sapi = tt
  of_release_indication (Live reference stage) s at Zero = where_fits Reaching _ (failing (Live reference stage) s RADIO_INTERFACE_FAILURE) (λ is_open. absurd is_open)
  of_release_indication (Live reference stage) s at Three = where_fits Reaching _ (link_down s.link reference s) (of_link_down s.link reference s)
  of_release_indication _ s at sapi = tt

  of_error_indication : (state : State) (s : Connection) (at : Place) (sapi : Sapi) → OfRow Reaching (on_error_indication state s at sapi)
  of_error_indication (Live reference (Changing target)) s at sapi = tt
  of_error_indication (Live reference stage) s at Three = where_fits Reaching _ (link_down s.link reference s) (of_link_down s.link reference s)
  of_error_indication _ s at sapi = tt

  of_connection_failure : (state : State) (s : Connection) (at : Place) → OfRow Reaching (on_connection_failure state s at)
  of_connection_failure WaitEstablish s at = where_fits Reaching _ (dropping s) (λ is_open. absurd is_open)
  of_connection_failure WaitConfirm s at = where_fits Reaching _ (failing WaitConfirm s RADIO_INTERFACE_FAILURE) (λ is_open. absurd is_open)
  of_connection_failure (Live reference (Changing target)) s at = tt
  of_connection_failure (Live reference stage) s at = where_fits Reaching _ (failing (Live reference stage) s RADIO_INTERFACE_FAILURE) (λ is_open. absurd is_open)
  of_connection_failure _ s at = tt

  of_dtap_on_target : (reference : ℕ) (stage : Stage) (s : Connection) (at : Place) (sapi : Sapi) →
      OfRow Reaching (dtap_on_target reference stage s at sapi)
  of_dtap_on_target reference (Changing target) s at Zero = where_fits Reaching _ (failing (Live reference (Changing target)) s EQUIPMENT_FAILURE) (λ is_open. absurd is_open)
  of_dtap_on_target reference _ s at _ = tt

  of_dtap_in : (place : Option ℕ) (reference : ℕ) (stage : Stage) (s : Connection) (at : Place) (sapi : Sapi) (message : List ℕ) →
      OfRow Reaching (dtap_in place reference stage s at sapi message)
  of_dtap_in (Some zero) reference stage s at sapi message = λ _. (tt, tt)
  of_dtap_in (Some (suc tenure)) reference stage s at sapi message = of_hold_up (Live reference stage) (suc tenure) sapi message s
  of_dtap_in None reference stage s at sapi message = of_dtap_on_target reference stage s at sapi

  of_dtap : (state : State) (s : Connection) (at : Place) (sapi : Sapi) (message : List ℕ) →
      OfRow Reaching (on_dtap state s at sapi message)
  of_dtap WaitEstablish s at Zero message = where_fits Reaching _ (dropping s) (λ is_open. absurd is_open)
  of_dtap WaitEstablish s at Three message = tt
  of_dtap WaitConfirm s at sapi message = where_fits Reaching _ (hold_up WaitConfirm 0 sapi message s) (of_hold_up WaitConfirm 0 sapi message s)
  of_dtap (Live reference stage) s at sapi message = of_dtap_in (tenure_at at s.serving s.draining) reference stage s at sapi message
  of_dtap _ s at sapi message = tt

  completes : (reference : ℕ) (change : Change) (channel : Channel) (cause : ℕ) → Reaches P (change_complete reference change channel cause)
  completes reference Assignment channel cause = tt
  completes reference Handover channel cause = tt

  -- after a change: what was held is handed, and perhaps the next one begins
  of_end : (stage : Stage) (reference : ℕ) (offer : Option Channel) (s : Connection) → P s.serving.station → AllByRecursion (λ (c : Channel). P c.station) (option_to_list offer) → (outs : List Message) → AllReach outs →
      AllReach (outs ++ map (handing s.serving Zero) (messages s.down Zero) ++ request_for s.down.three s.serving ++ waiting_outs (s.waits && may_begin stage s.draining) reference offer)
  of_end stage reference offer s here there outs first =
      let held : List Message = map (handing s.serving Zero) (messages s.down Zero) in
      let asked : List Message = request_for s.down.three s.serving in
      AllByRecursion-append (Reaches P) (outs ++ held ++ asked) (waiting_outs (s.waits && may_begin stage s.draining) reference offer)
      (AllByRecursion-append (Reaches P) (outs ++ held) asked (AllByRecursion-append (Reaches P) outs held first (all_handed s.serving Zero (messages s.down Zero) here)) (requests_for s.down.three s.serving here))
      (waits (s.waits && may_begin stage s.draining) reference offer there)

  of_complete : (state : State) (s : Connection) (at : Place) (change : Change) (cause : ℕ) (offer : Option Channel) →
      P s.serving.station →
      AllByRecursion (λ (c : Channel). P c.station) (target_in state) →
      AllByRecursion (λ (c : Channel). P c.station) (option_to_list offer) →
      OfRow Reaching (on_complete state s at change cause offer)
  of_complete (Live reference (Changing target)) s at change cause offer here target_there there =
      where_fits Reaching _ (complete reference change target.channel cause offer s)
      (λ _. of_end Draining reference offer (moved reference target.channel s) target_there.0 there (change_complete reference change target.channel cause ∷ rf_channel_release s.serving ∷ []) (completes reference change target.channel cause, (here, tt)))
  of_complete _ s at change cause offer here target_there there = tt

  fails : (reference : ℕ) (change : Change) (cause : ℕ) → AllReach (failure_outs change reference cause)
  fails reference Assignment cause = (tt, tt)
  fails reference Handover cause = tt

  of_failure : (state : State) (s : Connection) (at : Place) (change : Change) (cause : ℕ) (offer : Option Channel) →
      P s.serving.station →
      AllByRecursion (λ (c : Channel). P c.station) (target_in state) →
      AllByRecursion (λ (c : Channel). P c.station) (option_to_list offer) →
      OfRow Reaching (on_failure state s at change cause offer)
  of_failure (Live reference (Changing target)) s at change cause offer here target_there there =
      where_fits Reaching _ (failure reference change target.channel cause offer s)
      (λ _. of_end (resting_stage s.draining) reference offer (resting reference s) here there (failure_outs change reference cause ++ rf_channel_release target.channel ∷ []) (AllByRecursion-append (Reaches P) (failure_outs change reference cause) (rf_channel_release target.channel ∷ []) (fails reference change cause) (target_there.0, tt)))
  of_failure _ s at change cause offer here target_there there = tt

  of_release : (reference : ℕ) (stage : Stage) (place : ℕ) (offer : Option Channel) (s : Connection) →
      AllByRecursion (λ (c : Channel). P c.station) (option_to_list offer) →
      Reaching (release reference stage place offer s)
  of_release reference stage place offer s there _ =
      let left : Connection = (leave reference (done_at place s.draining) s).next in
      let rests : Connection = settled reference stage left.draining left in
      AllByRecursion-append (Reaches P) ((leave reference (done_at place s.draining) s).outs ++ []) (begin_waiting (settled_stage stage rests.draining) reference offer rests).outs
      (AllByRecursion-append (Reaches P) (leave reference (done_at place s.draining) s).outs [] (of_leave reference (done_at place s.draining) s) tt)
      (waits (rests.waits && may_begin (settled_stage stage rests.draining) rests.draining) reference offer there)

  of_release_in : (place : Option ℕ) (reference : ℕ) (stage : Stage) (offer : Option Channel) (s : Connection) →
      AllByRecursion (λ (c : Channel). P c.station) (option_to_list offer) →
      OfRow Reaching (release_in place reference stage offer s)
  of_release_in (Some place) reference stage offer s there = of_release reference stage place offer s there
  of_release_in None reference stage offer s there = tt

  of_release_ack : (state : State) (s : Connection) (at : Place) (offer : Option Channel) →
      AllByRecursion (λ (c : Channel). P c.station) (option_to_list offer) →
      OfRow Reaching (on_release_ack state s at offer)
  of_release_ack (Live reference stage) s at offer there = of_release_in (drain_at at s.draining) reference stage offer s there
  of_release_ack _ s at offer there = tt

  of_move : (state : State) (s : Connection) (offer : Option Channel) →
      AllByRecursion (λ (c : Channel). P c.station) (option_to_list offer) →
      OfRow Reaching (on_move state s offer)
  of_move (Live reference stage) s offer there = where_fits Reaching _ (begin reference Handover offer s) (λ _. begins reference Handover offer there)
  of_move _ s offer there = tt

  of_confirm : (state : State) (s : Connection) (reference : ℕ) → OfRow Reaching (on_confirm state s reference)
  of_confirm WaitConfirm s reference = λ _. all_of_tenure reference (first_channel s.draining s.serving) s.up.tenures
  of_confirm (Closed (Due cause)) s reference = λ is_open. absurd is_open
  of_confirm _ s reference = tt

  of_refused : (state : State) (s : Connection) → OfRow Reaching (on_refused state s)
  of_refused WaitConfirm s = λ is_open. absurd is_open
  of_refused (Closed (Due cause)) s = λ is_open. absurd is_open
  of_refused _ s = tt

  of_released : (state : State) (s : Connection) (reference : ℕ) → OfRow Reaching (on_released state s reference)
  of_released WaitConfirm s reference = λ is_open. absurd is_open
  of_released (Live own stage) s reference = λ is_open. absurd is_open
  of_released (Closed clearing) s reference = λ is_open. absurd is_open
  of_released _ s reference = tt

  of_downlink : (state : State) (s : Connection) (sapi : Sapi) (message : List ℕ) →
      P s.serving.station →
      OfRow Reaching (on_downlink state s sapi message)
  of_downlink (Live reference (Changing target)) s sapi message here = of_hold_down (Live reference (Changing target)) sapi message s
  of_downlink (Live reference stage) s Zero message here = λ _. (here, tt)
  of_downlink (Live reference stage) s Three message here = of_short_message (Live reference stage) s.link message s here
  of_downlink _ s sapi message here = tt

  of_speech : (reference : ℕ) (stage : Stage) (offer : Option Channel) (s : Connection) →
      AllByRecursion (λ (c : Channel). P c.station) (option_to_list offer) →
      Reaching (speech_request reference stage offer s)
  of_speech reference stage offer s there =
      either Reaching (may_begin stage s.draining) (begin reference Assignment offer s) (if s.waits then row (assignment_failure reference PROTOCOL_ERROR None ∷ []) s else row [] (record s { waits = true }))
      (λ _. begins reference Assignment offer there)
      (either Reaching s.waits (row (assignment_failure reference PROTOCOL_ERROR None ∷ []) s) (row [] (record s { waits = true })) (λ _. (tt, tt)) (λ _. tt))

  of_assignment_request : (state : State) (s : Connection) (is_speech : Bool) (offer : Option Channel) →
      AllByRecursion (λ (c : Channel). P c.station) (option_to_list offer) →
      OfRow Reaching (on_assignment_request state s is_speech offer)
  of_assignment_request (Live reference stage) s is_speech offer there =
      either Reaching is_speech (speech_request reference stage offer s) (row (assignment_failure reference BSS_NOT_EQUIPPED None ∷ []) s) (of_speech reference stage offer s there) (λ _. (tt, tt))
  of_assignment_request _ s is_speech offer there = tt

  of_cipher_mode_command : (state : State) (s : Connection) → OfRow Reaching (on_cipher_mode_command state s)
  of_cipher_mode_command (Live reference stage) s = λ _. (tt, tt)
  of_cipher_mode_command _ s = tt

  of_clear_command : (state : State) (s : Connection) → OfRow Reaching (on_clear_command state s)
  of_clear_command (Live reference stage) s = λ is_open. absurd is_open
  of_clear_command (Closed (WasAsked reference)) s = λ is_open. absurd is_open
  of_clear_command _ s = tt

  of_expiry : (state : State) (s : Connection) → OfRow Reaching (on_expiry state s)
  of_expiry WaitActivation s = λ is_open. absurd is_open
  of_expiry WaitEstablish s = λ is_open. absurd is_open
  of_expiry (Live reference (Preparing target)) s = λ is_open. absurd is_open
  of_expiry (Live reference (Changing target)) s = λ is_open. absurd is_open
  of_expiry _ s = tt

  of_drain_expiry : (state : State) (s : Connection) → OfRow Reaching (on_drain_expiry state s)
  of_drain_expiry (Live reference stage) s = where_fits Reaching _ (failing (Live reference stage) s EQUIPMENT_FAILURE) (λ is_open. absurd is_open)
  of_drain_expiry _ s = tt

  of_station_down : (state : State) (s : Connection) (station : ℕ) → OfRow Reaching (on_station_down state s station)
  of_station_down WaitActivation s station = where_fits Reaching _ (without_station station (dropping s)) (λ is_open. absurd is_open)
  of_station_down WaitEstablish s station = where_fits Reaching _ (without_station station (dropping s)) (λ is_open. absurd is_open)
  of_station_down WaitConfirm s station = where_fits Reaching _ (without_station station (failing WaitConfirm s EQUIPMENT_FAILURE)) (λ is_open. absurd is_open)
  of_station_down (Live reference stage) s station = where_fits Reaching _ (without_station station (failing (Live reference stage) s EQUIPMENT_FAILURE)) (λ is_open. absurd is_open)
  of_station_down _ s station = tt

  of_switch_down : (state : State) (s : Connection) → OfRow Reaching (on_switch_down state s)
  of_switch_down Removed s = tt
  of_switch_down _ s = λ is_open. absurd is_open

  pub open_reaches : (s : Connection) (input : Input) (offer : Option Channel) →
      P s.serving.station →
      AllByRecursion (λ (c : Channel). P c.station) (target_in s.state) →
      AllByRecursion (λ (c : Channel). P c.station) (option_to_list offer) →
      OfRow Reaching (row_of s input offer)
  unfolding row_of
  open_reaches s (inputs.ActivationAck at) offer h t o = of_activation_ack s.state s at h
  open_reaches s (inputs.ActivationNack at) offer h t o = of_activation_nack s.state s at offer o
  open_reaches s (inputs.EstablishIndication at sapi message) offer h t o = of_establish_indication s.state s at sapi message h
  open_reaches s (inputs.EstablishConfirm at sapi) offer h t o = of_establish_confirm s.state s at sapi h
  open_reaches s (inputs.ReleaseIndication at sapi) offer h t o = of_release_indication s.state s at sapi
  open_reaches s (inputs.ErrorIndication at sapi) offer h t o = of_error_indication s.state s at sapi
  open_reaches s (inputs.ConnectionFailure at) offer h t o = of_connection_failure s.state s at
  open_reaches s (inputs.Dtap at sapi message) offer h t o = of_dtap s.state s at sapi message
  open_reaches s (inputs.Complete at change cause) offer h t o = of_complete s.state s at change cause.0 offer h t o
  open_reaches s (inputs.Failure at change cause) offer h t o = of_failure s.state s at change cause.0 offer h t o
  open_reaches s (inputs.ReleaseAck at) offer h t o = of_release_ack s.state s at offer o
  open_reaches s inputs.Move offer h t o = of_move s.state s offer o
  open_reaches s (inputs.ConnectionConfirm source) offer h t o = of_confirm s.state s source
  open_reaches s inputs.ConnectionRefused offer h t o = of_refused s.state s
  open_reaches s (inputs.Released source) offer h t o = of_released s.state s source
  open_reaches s (inputs.Downlink sapi message) offer h t o = of_downlink s.state s sapi message h
  open_reaches s (inputs.AssignmentRequest is_speech) offer h t o = of_assignment_request s.state s is_speech offer o
  open_reaches s inputs.CipherModeCommand offer h t o = of_cipher_mode_command s.state s
  open_reaches s inputs.ClearCommand offer h t o = of_clear_command s.state s
  open_reaches s inputs.Expiry offer h t o = of_expiry s.state s
  open_reaches s inputs.DrainExpiry offer h t o = of_drain_expiry s.state s
  open_reaches s (inputs.StationDown station) offer h t o = of_station_down s.state s station
  open_reaches s inputs.SwitchDown offer h t o = of_switch_down s.state s
