-- SPDX-License-Identifier: MIT OR Apache-2.0
-- A property holds of every row if it holds of each message in the table's lists and of each state
-- that its rows enter.
use Rattle.conn_rules.proofs.Prelude.{ℕ, zero, suc, ◌≡◌, refl, ◌≤◌, ◌==◌, ◌&&◌, nat_le, Bool, true, false, not, if◌then◌else◌, List, []}
use Rattle.conn_rules.proofs.Prelude.{◌∷◌, ◌++◌, length, map, Option, Some, None, AllByRecursion, ABNORMAL_RELEASE, EQUIPMENT_FAILURE}
use Rattle.conn_rules.proofs.Prelude.{NORMAL_EVENT, RADIO_INTERFACE_FAILURE, RADIO_INTERFACE_MESSAGE_FAILURE, Change, Assignment, Handover}
use Rattle.conn_rules.proofs.Prelude.{Channel, Place, Message, channel_release, handing, rf_channel_release}
use Rattle.conn_rules.proofs.Prelude.{change_complete, clear_complete, relaying, release_complete, Sapi, Zero, Three, TenureHold, chain_count}
use Rattle.conn_rules.proofs.Prelude.{count, messages, INITIAL_LIMIT, drop, leb-true, option_to_list, activation, change_command}
use Rattle.conn_rules.proofs.Prelude.{establish_request, immediate_assign_command, assignment_failure, complete_layer3, Input, Due}
use Rattle.conn_rules.proofs.Prelude.{WasAsked, Complete, Drain, ShortMessageLink, Down, Asked, Up, Stage, Active, Preparing, Changing}
use Rattle.conn_rules.proofs.Prelude.{Draining, State, WaitActivation, WaitEstablish, WaitConfirm, Live, Closed, Removed, Connection}
use Rattle.conn_rules.proofs.Prelude.{drain_at, enter, first_channel, tenure_at, OfRow, target_in, first_cleared}
use Rattle.bssmap_codec.specs.declared.values.RrCause.{RrCause}
use Rattle.conn_messages.specs.declared.causes.TheConstants.{BSS_NOT_EQUIPPED, NO_RADIO_RESOURCE, PROTOCOL_ERROR, REVERSION_TO_OLD_CHANNEL}
use Rattle.conn_messages.specs.SwitchMessage.{cipher_mode_reject, clear_request, sapi_3_reject}
use Rattle.conn_rules.proofs.Downlink.{of_row_so}
use Rattle.conn_rules.proofs.DownlinkMessages.{AllByRecursion-append, AllByRecursion-filter}
use Rattle.conn_rules.specs.declared.input.Input.TheVariants as inputs
use Rattle.conn_rules.specs.Steps.{Row, row, ◌then◌, after_waiting, ask_for_held, begin, begin_outs, begin_waiting, done_at, dropping, end_outs, ending, failing, is_for_station, hand_held, hold_down, hold_short_message, hold_up, leave, link_down, link_up, may_begin, moved, relay_held, request_for, request_where, resting, resting_stage, settled, settled_stage, shifted, short_message, target_release, tenure_outs, waiting_outs, without_station}
use Rattle.conn_rules.specs.Table.{row_if, access, complete, dtap_in, dtap_on_target, failure, failure_outs, nack_outs, on_activation_ack, on_activation_nack, on_assignment_request, on_cipher_mode_command, on_clear_command, on_complete, on_confirm, on_connection_failure, on_downlink, on_drain_expiry, on_dtap, on_error_indication, on_establish_confirm, on_establish_indication, on_expiry, on_failure, on_move, on_refused, on_release_ack, on_release_indication, on_released, on_station_down, on_switch_down, refuse, release, release_in, row_of, speech_request}
use Rattle.rsl_codec.specs.declared.values.ActivationType.{ActivationType}
use Rattle.rsl_codec.specs.declared.values.HandoverReference.{HandoverReference}
use Rattle.rsl_codec.specs.declared.values.RequestReference.{RequestReference}
use Rattle.rsl_codec.specs.declared.values.TheConstants.{ASYNCHRONOUS_HANDOVER, NORMAL_ASSIGNMENT}

-- of one of two rows
pub either : (P : Row → Type 0) (b : Bool) (r q : Row) → P r → P q → P (if b then r else q)
either P true r q one other = one
either P false r q one other = other

-- of a row that fits where a test says so
pub where_fits : (P : Row → Type 0) (b : Bool) (r : Row) → P r → OfRow P (row_if b r)
where_fits P true r holds = holds
where_fits P false r holds = tt

-- ---- of what messages are made

-- what is known of the channels, of the switch's references, of causes and of layer 3 messages; and
-- whether CLEAR COMPLETE may be put
pub record Kinds : Type 1 where
  pub channel : Channel → Type 0
  pub reference : ℕ → Type 0
  pub cause : ℕ → Type 0
  pub layer3 : List ℕ → Type 0
  pub clears : Type 0

abbrev pub HasReference : Kinds → State → Type 0
HasReference k (Live reference stage) = k.reference reference
HasReference k (Closed (WasAsked reference)) = k.reference reference
HasReference k _ = Unit {0}

abbrev pub HasCause : Kinds → State → Type 0
HasCause k (Closed (Due cause)) = k.cause cause
HasCause k _ = Unit {0}

abbrev pub Layer3s : Kinds → List (List ℕ) → Type 0
Layer3s k ms = AllByRecursion k.layer3 ms

abbrev pub AreHeld : Kinds → List TenureHold → Type 0
AreHeld k tenures = AllByRecursion (λ (t : TenureHold). Layer3s k t.zero × Layer3s k t.three) tenures

abbrev pub Offered : Kinds → Option Channel → Type 0
Offered k offer = AllByRecursion k.channel (option_to_list offer)

-- of a state
pub record Knows (k : Kinds) (state : State) : Type 0 where
  pub target : AllByRecursion k.channel (target_in state)
  pub own : HasReference k state
  pub due : HasCause k state

-- of the causes for which rows fail
abbrev pub FailsFor : Kinds → Type 0
FailsFor k = k.cause EQUIPMENT_FAILURE × k.cause RADIO_INTERFACE_FAILURE × k.cause RADIO_INTERFACE_MESSAGE_FAILURE

-- of a connection, and of the channel that is offered
pub record Parts (k : Kinds) (s : Connection) (offer : Option Channel) : Type 0 where
  pub state : Knows k s.state
  pub serving : k.channel s.serving
  pub offered : Offered k offer
  pub zero : Layer3s k s.down.zero
  pub three : Layer3s k s.down.three
  pub up : AreHeld k s.up.tenures
  pub causes : FailsFor k

-- of an input
abbrev pub Brings : Kinds → Input → Type 0
Brings k (inputs.EstablishIndication at sapi message) = Layer3s k (option_to_list message)
Brings k (inputs.Dtap at sapi message) = k.layer3 message
Brings k (inputs.Downlink sapi message) = k.layer3 message
Brings k (inputs.ConnectionConfirm source) = k.reference source
Brings k (inputs.Released source) = k.reference source
Brings k inputs.ClearCommand = k.clears
Brings k _ = Unit {0}

-- ---- what has to hold

-- it holds of each kind of message
pub record Puts (k : Kinds) (P : Message → Type 0) (s : Connection) : Type 0 where
  pub assigns : P (immediate_assign_command s.serving s.request s.delay)
  pub commands : (change : Change) (target : Channel) → P (change_command s.serving change target)
  pub activates : (c : Channel) (kind : ActivationType) (mark : Option HandoverReference) → k.channel c → P (activation c kind mark)
  pub establishes : (c : Channel) → k.channel c → P (establish_request c)
  pub dismisses : (c : Channel) (cause : ℕ) → k.channel c → P (channel_release c cause)
  pub releases : (c : Channel) → k.channel c → P (rf_channel_release c)
  pub hands : (c : Channel) (sapi : Sapi) (message : List ℕ) → k.channel c → k.layer3 message → P (handing c sapi message)
  pub opens : (initial : List ℕ) → k.layer3 initial → length initial ≤ INITIAL_LIMIT → P (complete_layer3 s.serving initial)
  pub relays : (reference : ℕ) (c : Channel) (sapi : Sapi) (message : List ℕ) →
      k.reference reference →
      k.layer3 message →
      P (relaying reference c sapi message)
  pub completes : (reference : ℕ) (c : Channel) (cause : ℕ) → k.reference reference → P (change_complete reference Assignment c cause)
  pub performs : (reference : ℕ) (c : Channel) (cause : ℕ) →
      k.reference reference →
      k.channel c →
      P (change_complete reference Handover c cause)
  pub fails : (reference cause : ℕ) (rr_cause : Option RrCause) → k.reference reference → P (assignment_failure reference cause rr_cause)
  pub rejects : (reference : ℕ) (c : Channel) → k.reference reference → P (sapi_3_reject reference c)
  pub refuses : (reference : ℕ) → k.reference reference → P (cipher_mode_reject reference)
  pub asks : (reference cause : ℕ) → k.reference reference → k.cause cause → P (clear_request reference cause)
  pub clears : (reference : ℕ) → k.reference reference → k.clears → P (clear_complete reference)
  pub answers : (source : ℕ) → k.reference source → P (release_complete source)

-- it is kept by each state that is entered; and the request of the mobile is unchanged
pub record Enters (k : Kinds) (Q : State → RequestReference → Type 0) : Type 0 where
  pub establishes : (before : State) (request : RequestReference) → Q before request → Q WaitEstablish request
  pub confirms : (before : State) (request : RequestReference) → Q before request → Q WaitConfirm request
  pub once_live : (before : State) (request : RequestReference) (reference : ℕ) (stage : Stage) →
      Q before request →
      k.reference reference →
      Q (Live reference stage) request
  pub due : (before : State) (request : RequestReference) (cause : ℕ) → Q before request → k.cause cause → Q (Closed (Due cause)) request
  pub asks : (before : State) (request : RequestReference) (reference : ℕ) →
      Q before request →
      k.reference reference →
      Q (Closed (WasAsked reference)) request
  pub clears : (before : State) (request : RequestReference) → Q before request → Q (Closed Complete) request
  pub removes : (before : State) (request : RequestReference) → Q before request → Q Removed request

-- of a row: where it leads, and what it puts
abbrev pub Keeps : (Message → Type 0) → (State → RequestReference → Type 0) → Row → Type 0
Keeps P Q r = Q r.next.state r.next.request × AllByRecursion P r.outs

module _ (k : Kinds) (P : Message → Type 0) (Q : State → RequestReference → Type 0) (s : Connection) (offer : Option Channel) (puts : Puts k P s) (enters : Enters k Q) (parts : Parts k s offer) (before : Q s.state s.request) where
  abbrev All : List Message → Type 0
  All outs = AllByRecursion P outs

  abbrev Is : Row → Type 0
  Is r = Keeps P Q r

  -- ---- states

  lived : (reference : ℕ) (stage : Stage) → k.reference reference → Q (Live reference stage) s.request
  lived reference stage own = enters.once_live s.state s.request reference stage before own

  due : (cause : ℕ) → k.cause cause → Q (Closed (Due cause)) s.request
  due cause is = enters.due s.state s.request cause before is

  asked : (reference : ℕ) → k.reference reference → Q (Closed (WasAsked reference)) s.request
  asked reference own = enters.asks s.state s.request reference before own

  cleared : Q (Closed Complete) s.request
  cleared = enters.clears s.state s.request before

  removed : Q Removed s.request
  removed = enters.removes s.state s.request before

  -- ---- messages

  handed : (c : Channel) (sapi : Sapi) (ms : List (List ℕ)) → k.channel c → Layer3s k ms → All (map (handing c sapi) ms)
  handed c sapi [] here all = tt
  handed c sapi (m ∷ ms) here all = (puts.hands c sapi m here all.0, handed c sapi ms here all.1)

  relayed : (reference : ℕ) (c : Channel) (sapi : Sapi) (ms : List (List ℕ)) →
      k.reference reference →
      Layer3s k ms →
      All (map (relaying reference c sapi) ms)
  relayed reference c sapi [] own all = tt
  relayed reference c sapi (m ∷ ms) own all = (puts.relays reference c sapi m own all.0, relayed reference c sapi ms own all.1)

  of_tenure : (reference : ℕ) (c : Channel) (ts : List TenureHold) → k.reference reference → AreHeld k ts → All (tenure_outs reference c ts)
  of_tenure reference c [] own all = tt
  of_tenure reference c (t ∷ ts) own all =
      let zero = relayed reference c Zero t.zero own all.0.0 in
      let three = relayed reference c Three t.three own all.0.1 in
      AllByRecursion-append P (map (relaying reference c Zero) t.zero) _ zero three

  begins : (reference : ℕ) (change : Change) (o : Option Channel) →
      k.reference reference →
      Offered k o →
      All (begin_outs reference change o)
  begins reference Assignment (Some channel) own there = (puts.activates channel NORMAL_ASSIGNMENT None there.0, tt)
  begins reference Handover (Some channel) own there = (puts.activates channel ASYNCHRONOUS_HANDOVER (Some channel.reference) there.0, tt)
  begins reference Assignment None own there = (puts.fails reference NO_RADIO_RESOURCE None own, tt)
  begins reference Handover None own there = tt

  waits : (b : Bool) (reference : ℕ) → k.reference reference → All (waiting_outs b reference offer)
  waits true reference own = begins reference Assignment offer own parts.offered
  waits false reference own = tt

  requests : (link : ShortMessageLink) → All (request_where link s.serving)
  requests Down = (puts.establishes s.serving parts.serving, tt)
  requests _ = tt

  requests_for : (ms : List (List ℕ)) (c : Channel) → k.channel c → All (request_for ms c)
  requests_for [] c here = tt
  requests_for (m ∷ ms) c here = (puts.establishes c here, tt)

  target_released : (state : State) → Knows k state → All (target_release state)
  target_released (Live reference (Preparing target)) knows = (puts.releases target.channel knows.target.0, tt)
  target_released (Live reference (Changing target)) knows = (puts.releases target.channel knows.target.0, tt)
  target_released _ knows = tt

  serving_released : P (rf_channel_release s.serving)
  serving_released = puts.releases s.serving parts.serving

  ends : (state : State) (cause : ℕ) → Knows k state → All (end_outs state s.serving cause)
  ends state cause knows = (puts.dismisses s.serving cause parts.serving, (serving_released, target_released state knows))

  ends_then : (state : State) (cause : ℕ) (message : Message) →
      Knows k state →
      P message →
      All (end_outs state s.serving cause ++ message ∷ [])
  ends_then state cause message knows last = AllByRecursion-append P (end_outs state s.serving cause) _ (ends state cause knows) (last, tt)

  -- ---- steps

  of_failing : (state : State) (cause : ℕ) → Knows k state → k.cause cause → Is (failing state s cause)
  of_failing (Live reference stage) cause knows is =
      let first : P (clear_request reference cause) = puts.asks reference cause knows.own is in
      (asked reference knows.own, (first, ends (Live reference stage) ABNORMAL_RELEASE knows))
  of_failing WaitActivation cause knows is = (due cause is, ends WaitActivation ABNORMAL_RELEASE knows)
  of_failing WaitEstablish cause knows is = (due cause is, ends WaitEstablish ABNORMAL_RELEASE knows)
  of_failing WaitConfirm cause knows is = (due cause is, ends WaitConfirm ABNORMAL_RELEASE knows)
  of_failing (Closed clearing) cause knows is = (due cause is, ends (Closed clearing) ABNORMAL_RELEASE knows)
  of_failing Removed cause knows is = (due cause is, ends Removed ABNORMAL_RELEASE knows)

  by_equipment : (state : State) → Knows k state → Is (failing state s EQUIPMENT_FAILURE)
  by_equipment state knows = of_failing state EQUIPMENT_FAILURE knows parts.causes.0

  by_interface : (state : State) → Knows k state → Is (failing state s RADIO_INTERFACE_FAILURE)
  by_interface state knows = of_failing state RADIO_INTERFACE_FAILURE knows parts.causes.1

  by_message : (state : State) → Knows k state → Is (failing state s RADIO_INTERFACE_MESSAGE_FAILURE)
  by_message state knows = of_failing state RADIO_INTERFACE_MESSAGE_FAILURE knows parts.causes.2

  of_dropping : Is (dropping s)
  of_dropping = (removed, (serving_released, tt))

  of_removing : (state : State) → Knows k state → Is (ending state s ABNORMAL_RELEASE Removed)
  of_removing state knows = (removed, ends state ABNORMAL_RELEASE knows)

  of_without : (station : ℕ) (r : Row) → Is r → Is (without_station station r)
  of_without station r is = (is.0, AllByRecursion-filter P (λ message. not (is_for_station station message)) r.outs is.1)

  of_hold_down : (state : State) (sapi : Sapi) (message : List ℕ) → Knows k state → Is (hold_down state sapi message s)
  of_hold_down state sapi message knows =
      either Is (count s.down == s.down.limit) _ _ (by_equipment state knows) (before, tt)

  of_hold_short_message : (state : State) (message : List ℕ) → Knows k state → Is (hold_short_message state message s)
  of_hold_short_message state message knows =
      either Is (count s.down == s.down.limit) _ _ (by_equipment state knows) (before, requests s.link)

  of_short_message : (state : State) (link : ShortMessageLink) (message : List ℕ) →
      Knows k state →
      k.layer3 message →
      Is (short_message state link message s)
  of_short_message state Up message knows layer3 = (before, (puts.hands s.serving Three message parts.serving layer3, tt))
  of_short_message state _ message knows layer3 = of_hold_short_message state message knows

  of_link_up : Is (link_up s)
  of_link_up = (before, handed s.serving Three (messages s.down Three) parts.serving parts.three)

  of_link_down : (link : ShortMessageLink) (reference : ℕ) → k.reference reference → Is (link_down link reference s)
  of_link_down Asked reference own = (before, (puts.rejects reference s.serving own, tt))
  of_link_down _ reference own = (before, tt)

  of_hold_up : (state : State) (tenure : ℕ) (sapi : Sapi) (message : List ℕ) → Knows k state → Is (hold_up state tenure sapi message s)
  of_hold_up state tenure sapi message knows =
      either Is (chain_count s.up == s.up.limit) _ _ (by_equipment state knows) (before, tt)

  tail_held : (ts : List TenureHold) → AreHeld k ts → AreHeld k (drop 1 ts)
  tail_held [] all = tt
  tail_held (t ∷ ts) all = all.1

  cleared_held : (ts : List TenureHold) → AreHeld k ts → AreHeld k (first_cleared ts)
  cleared_held [] all = tt
  cleared_held (t ∷ ts) all = ((tt, tt), all.1)

  of_leave : (reference : ℕ) (draining : List Drain) (t : Connection) →
      k.reference reference →
      AreHeld k t.up.tenures →
      Q t.state t.request →
      Is (leave reference draining t)
  of_leave reference [] t own held is = (is, tt)
  of_leave reference (d ∷ ds) t own held is =
      let left = tail_held t.up.tenures held in
      let rest = of_leave reference ds (relay_held reference (shifted ds t)).next own (cleared_held (shifted ds t).up.tenures left) is in
      let relayed_first = of_tenure reference (first_channel ds t.serving) (shifted ds t).up.tenures own left in
      either Is d.is_done _ _ (rest.0, AllByRecursion-append P (relay_held reference (shifted ds t)).outs _ relayed_first rest.1) (is, tt)

  begun : (reference : ℕ) (change : Change) (o : Option Channel) → k.reference reference → Offered k o → Is (begin reference change o s)
  begun reference change None own there = (before, begins reference change None own there)
  begun reference change (Some channel) own there = (lived reference _ own, begins reference change (Some channel) own there)

  after_wait : (b : Bool) (reference : ℕ) (o : Option Channel) (t : Connection) →
      k.reference reference →
      Q t.state t.request →
      Q (after_waiting b reference o t).state (after_waiting b reference o t).request
  after_wait true reference (Some channel) t own is = enters.once_live t.state t.request reference _ is own
  after_wait true reference None t own is = is
  after_wait false reference o t own is = is

  after_settled : (reference : ℕ) (stage : Stage) (draining : List Drain) (t : Connection) →
      k.reference reference →
      Q t.state t.request →
      Q (settled reference stage draining t).state (settled reference stage draining t).request
  after_settled reference Draining [] t own is = enters.once_live t.state t.request reference Active is own
  after_settled reference Draining (d ∷ ds) t own is = is
  after_settled reference _ draining t own is = is

  -- then the request that waits begins, where it may
  of_waiting : (stage : Stage) (reference : ℕ) (r : Row) → k.reference reference → Is r → Is (r then begin_waiting stage reference offer)
  of_waiting stage reference r own is =
      let may : Bool = r.next.waits && may_begin stage r.next.draining in
      let all : All (r then begin_waiting stage reference offer).outs = AllByRecursion-append P r.outs _ is.1 (waits may reference own) in
      (after_wait may reference offer r.next own is.0, all)

  -- after a change: what was held is handed, and perhaps the next one begins
  of_end : (stage : Stage) (reference : ℕ) (t : Connection) (outs : List Message) → k.reference reference → k.channel t.serving → Layer3s k t.down.zero → Is (row outs t) →
      Is (row outs t then hand_held Zero then ask_for_held then begin_waiting stage reference offer)
  of_end stage reference t outs own here held_zero is =
      let held : List Message = map (handing t.serving Zero) (messages t.down Zero) in
      let all = AllByRecursion-append P outs held is.1 (handed t.serving Zero (messages t.down Zero) here held_zero) in
      let asked = AllByRecursion-append P (outs ++ held) _ all (requests_for t.down.three t.serving here) in
      of_waiting stage reference (row outs t then hand_held Zero then ask_for_held) own (is.0, asked)

  -- ---- rows

  of_access : (message : Option (List ℕ)) → Layer3s k (option_to_list message) → Is (access message s)
  of_access (Some initial) brings = by (nat_le (length initial) INITIAL_LIMIT) refl
    where
      by : (b : Bool) →
          nat_le (length initial) INITIAL_LIMIT ≡ b →
          Is (if b then row (complete_layer3 s.serving initial ∷ []) (enter WaitConfirm s) else dropping s)
      by true few =
          let opened : P (complete_layer3 s.serving initial) = puts.opens initial brings.0 (leb-true (length initial) INITIAL_LIMIT few) in
          (enters.confirms s.state s.request before, (opened, tt))
      by false few = of_dropping
  of_access None brings = of_dropping

  of_activation_ack : (state : State) (at : Place) → Knows k state → OfRow Is (on_activation_ack state s at)
  of_activation_ack WaitActivation at knows = where_fits Is _ _ (enters.establishes s.state s.request before, (puts.assigns, tt))
  of_activation_ack (Live reference (Preparing target)) at knows =
      let ordered : P (change_command s.serving target.change target.channel) = puts.commands target.change target.channel in
      where_fits Is _ _ (lived reference _ knows.own, (ordered, tt))
  of_activation_ack _ at knows = tt

  of_refuse : (reference : ℕ) (change : Change) → k.reference reference → Is (refuse reference change offer s)
  of_refuse reference change own =
      let rests : Row = row (nack_outs change reference) (resting reference s) in
      of_waiting (resting_stage s.draining) reference rests own (lived reference _ own, nacks change)
    where
      nacks : (change : Change) → All (nack_outs change reference)
      nacks Assignment = (puts.fails reference EQUIPMENT_FAILURE None own, tt)
      nacks Handover = tt

  of_activation_nack : (state : State) (at : Place) → Knows k state → OfRow Is (on_activation_nack state s at offer)
  of_activation_nack WaitActivation at knows = where_fits Is _ _ (removed, tt)
  of_activation_nack (Live reference (Preparing target)) at knows = where_fits Is _ _ (of_refuse reference target.change knows.own)
  of_activation_nack _ at knows = tt

  of_establish_indication : (state : State) (at : Place) (sapi : Sapi) (message : Option (List ℕ)) →
      Layer3s k (option_to_list message) →
      OfRow Is (on_establish_indication state s at sapi message)
  of_establish_indication WaitEstablish at Zero message brings = where_fits Is _ _ (of_access message brings)
  of_establish_indication (Live reference (Changing target)) at sapi message brings = tt
  of_establish_indication (Live reference stage) at Three message brings = where_fits Is _ _ of_link_up
  of_establish_indication _ at sapi message brings = tt

  of_establish_confirm : (state : State) (at : Place) (sapi : Sapi) → OfRow Is (on_establish_confirm state s at sapi)
  of_establish_confirm (Live reference (Changing target)) at sapi = tt
  of_establish_confirm (Live reference stage) at Three = where_fits Is _ _ of_link_up
  of_establish_confirm _ at sapi = tt

  of_release_indication : (state : State) (at : Place) (sapi : Sapi) → Knows k state → OfRow Is (on_release_indication state s at sapi)
  of_release_indication WaitEstablish at Zero knows = where_fits Is _ _ of_dropping
  of_release_indication WaitConfirm at Zero knows = where_fits Is _ _ (by_interface WaitConfirm knows)
  of_release_indication (Live reference (Changing target)) at sapi knows = tt
  of_release_indication (Live reference stage) at Zero knows = where_fits Is _ _ (by_interface (Live reference stage) knows)
  of_release_indication (Live reference stage) at Three knows = where_fits Is _ _ (of_link_down s.link reference knows.own)
  of_release_indication _ at sapi knows = tt

  of_error_indication : (state : State) (at : Place) (sapi : Sapi) → Knows k state → OfRow Is (on_error_indication state s at sapi)
  of_error_indication (Live reference (Changing target)) at sapi knows = tt
  of_error_indication (Live reference stage) at Three knows = where_fits Is _ _ (of_link_down s.link reference knows.own)
  of_error_indication _ at sapi knows = tt

  of_connection_failure : (state : State) (at : Place) → Knows k state → OfRow Is (on_connection_failure state s at)
  of_connection_failure WaitEstablish at knows = where_fits Is _ _ of_dropping
  of_connection_failure WaitConfirm at knows = where_fits Is _ _ (by_interface WaitConfirm knows)
  of_connection_failure (Live reference (Changing target)) at knows = tt
  of_connection_failure (Live reference stage) at knows = where_fits Is _ _ (by_interface (Live reference stage) knows)
  of_connection_failure _ at knows = tt

  of_dtap_on_target : (reference : ℕ) (stage : Stage) (at : Place) (sapi : Sapi) →
      Knows k (Live reference stage) →
      OfRow Is (dtap_on_target reference stage s at sapi)
  of_dtap_on_target reference (Changing target) at Zero knows = where_fits Is _ _ (by_equipment (Live reference (Changing target)) knows)
  of_dtap_on_target reference _ at _ knows = tt

  of_dtap_in : (place : Option ℕ) (reference : ℕ) (stage : Stage) (at : Place) (sapi : Sapi) (message : List ℕ) →
      Knows k (Live reference stage) →
      k.layer3 message →
      OfRow Is (dtap_in place reference stage s at sapi message)
  of_dtap_in (Some zero) reference stage at sapi message knows layer3 =
      let held_for = puts.relays reference (first_channel s.draining s.serving) sapi message knows.own layer3 in
      (before, (held_for, tt))
  of_dtap_in (Some (suc tenure)) reference stage at sapi message knows layer3 = of_hold_up (Live reference stage) (suc tenure) sapi message knows
  of_dtap_in None reference stage at sapi message knows layer3 = of_dtap_on_target reference stage at sapi knows

  of_dtap : (state : State) (at : Place) (sapi : Sapi) (message : List ℕ) →
      Knows k state →
      k.layer3 message →
      OfRow Is (on_dtap state s at sapi message)
  of_dtap WaitEstablish at Zero message knows layer3 = where_fits Is _ _ of_dropping
  of_dtap WaitEstablish at Three message knows layer3 = tt
  of_dtap WaitConfirm at sapi message knows layer3 = where_fits Is _ _ (of_hold_up WaitConfirm 0 sapi message knows)
  of_dtap (Live reference stage) at sapi message knows layer3 = of_dtap_in (tenure_at at s.serving s.draining) reference stage at sapi message knows layer3
  of_dtap _ at sapi message knows layer3 = tt

  of_complete : (state : State) (at : Place) (change : Change) (cause : ℕ) →
      Knows k state →
      OfRow Is (on_complete state s at change cause offer)
  of_complete (Live reference (Changing target)) at change cause knows =
      let next : Connection = moved reference target.channel s in
      let outs : List Message = change_complete reference change target.channel cause ∷ rf_channel_release s.serving ∷ [] in
      let first : Is (row outs next) = (lived reference Draining knows.own, (completes change, (serving_released, tt))) in
      let ends_so = of_end Draining reference next outs knows.own knows.target.0 parts.zero first in
      where_fits Is _ (complete reference change target.channel cause offer s) ends_so
    where
      completes : (change : Change) → P (change_complete reference change target.channel cause)
      completes Assignment = puts.completes reference target.channel cause knows.own
      completes Handover = puts.performs reference target.channel cause knows.own knows.target.0
  of_complete _ at change cause knows = tt

  of_failure : (state : State) (at : Place) (change : Change) (cause : ℕ) →
      Knows k state →
      OfRow Is (on_failure state s at change cause offer)
  of_failure (Live reference (Changing target)) at change cause knows =
      let next : Connection = resting reference s in
      let released : List Message = rf_channel_release target.channel ∷ [] in
      let outs : List Message = failure_outs change reference cause ++ released in
      let held_for : P (rf_channel_release target.channel) = puts.releases target.channel knows.target.0 in
      let all : All outs = AllByRecursion-append P (failure_outs change reference cause) released (fails change) (held_for, tt) in
      let first : Is (row outs next) = (lived reference (resting_stage s.draining) knows.own, all) in
      let ends_so = of_end (resting_stage s.draining) reference next outs knows.own parts.serving parts.zero first in
      where_fits Is _ (failure reference change target.channel cause offer s) ends_so
    where
      fails : (change : Change) → All (failure_outs change reference cause)
      fails Assignment = (puts.fails reference REVERSION_TO_OLD_CHANNEL (Some (record { 0 = cause })) knows.own, tt)
      fails Handover = tt
  of_failure _ at change cause knows = tt

  of_release : (reference : ℕ) (stage : Stage) (place : ℕ) → k.reference reference → Is (release reference stage place offer s)
  of_release reference stage place own =
      let leaves : Row = leave reference (done_at place s.draining) s in
      let first : Is leaves = of_leave reference (done_at place s.draining) s own parts.up before in
      let rests : Row = leaves then (λ left. row [] (settled reference stage left.draining left)) in
      of_waiting (settled_stage stage rests.next.draining) reference rests own
      (after_settled reference stage leaves.next.draining leaves.next own first.0, AllByRecursion-append P leaves.outs [] first.1 tt)

  of_release_in : (place : Option ℕ) (reference : ℕ) (stage : Stage) →
      k.reference reference →
      OfRow Is (release_in place reference stage offer s)
  of_release_in (Some place) reference stage own = of_release reference stage place own
  of_release_in None reference stage own = tt

  of_release_ack : (state : State) (at : Place) → Knows k state → OfRow Is (on_release_ack state s at offer)
  of_release_ack (Live reference stage) at knows = of_release_in (drain_at at s.draining) reference stage knows.own
  of_release_ack _ at knows = tt

  of_move : (state : State) → Knows k state → OfRow Is (on_move state s offer)
  of_move (Live reference stage) knows = where_fits Is _ _ (begun reference Handover offer knows.own parts.offered)
  of_move _ knows = tt

  of_confirm : (state : State) (source : ℕ) → Knows k state → k.reference source → OfRow Is (on_confirm state s source)
  of_confirm WaitConfirm source knows known =
      let all = of_tenure source (first_channel s.draining s.serving) s.up.tenures known parts.up in
      (lived source Active known, all)
  of_confirm (Closed (Due cause)) source knows known = (asked source known, (puts.asks source cause known knows.due, tt))
  of_confirm _ source knows known = tt

  of_refused : (state : State) → Knows k state → OfRow Is (on_refused state s)
  of_refused WaitConfirm knows = of_removing WaitConfirm knows
  of_refused (Closed (Due cause)) knows = (removed, tt)
  of_refused _ knows = tt

  of_released : (state : State) (source : ℕ) → Knows k state → k.reference source → OfRow Is (on_released state s source)
  of_released WaitConfirm source knows known = (removed, ends_then WaitConfirm ABNORMAL_RELEASE _ knows (puts.answers source known))
  of_released (Live own stage) source knows known =
      (removed, ends_then (Live own stage) ABNORMAL_RELEASE _ knows (puts.answers source known))
  of_released (Closed clearing) source knows known = (removed, (puts.answers source known, tt))
  of_released _ source knows known = tt

  of_downlink : (state : State) (sapi : Sapi) (message : List ℕ) →
      Knows k state →
      k.layer3 message →
      OfRow Is (on_downlink state s sapi message)
  of_downlink (Live reference (Changing target)) sapi message knows layer3 = of_hold_down (Live reference (Changing target)) sapi message knows
  of_downlink (Live reference stage) Zero message knows layer3 = (before, (puts.hands s.serving Zero message parts.serving layer3, tt))
  of_downlink (Live reference stage) Three message knows layer3 = of_short_message (Live reference stage) s.link message knows layer3
  of_downlink _ sapi message knows layer3 = tt

  of_speech : (reference : ℕ) (stage : Stage) → k.reference reference → Is (speech_request reference stage offer s)
  of_speech reference stage own =
      let first : Is (begin reference Assignment offer s) = begun reference Assignment offer own parts.offered in
      let second : P (assignment_failure reference PROTOCOL_ERROR None) = puts.fails reference PROTOCOL_ERROR None own in
      either Is (may_begin stage s.draining) _ _ first (either Is s.waits _ _ (before, (second, tt)) (before, tt))

  of_assignment_request : (state : State) (is_speech : Bool) → Knows k state → OfRow Is (on_assignment_request state s is_speech offer)
  of_assignment_request (Live reference stage) is_speech knows =
      either Is is_speech _ _ (of_speech reference stage knows.own) (before, (puts.fails reference BSS_NOT_EQUIPPED None knows.own, tt))
  of_assignment_request _ is_speech knows = tt

  of_cipher_mode_command : (state : State) → Knows k state → OfRow Is (on_cipher_mode_command state s)
  of_cipher_mode_command (Live reference stage) knows = (before, (puts.refuses reference knows.own, tt))
  of_cipher_mode_command _ knows = tt

  of_clear_command : (state : State) → Knows k state → k.clears → OfRow Is (on_clear_command state s)
  of_clear_command (Live reference stage) knows may =
      let last : P (clear_complete reference) = puts.clears reference knows.own may in
      (cleared, ends_then (Live reference stage) NORMAL_EVENT (clear_complete reference) knows last)
  of_clear_command (Closed (WasAsked reference)) knows may = (cleared, (puts.clears reference knows.own may, tt))
  of_clear_command _ knows may = tt

  of_expiry : (state : State) → Knows k state → OfRow Is (on_expiry state s)
  of_expiry WaitActivation knows = of_dropping
  of_expiry WaitEstablish knows = of_dropping
  of_expiry (Live reference (Preparing target)) knows = by_message (Live reference (Preparing target)) knows
  of_expiry (Live reference (Changing target)) knows = by_message (Live reference (Changing target)) knows
  of_expiry _ knows = tt

  of_drain_expiry : (state : State) → Knows k state → OfRow Is (on_drain_expiry state s)
  of_drain_expiry (Live reference stage) knows = where_fits Is _ _ (by_equipment (Live reference stage) knows)
  of_drain_expiry _ knows = tt

  without_failing : (state : State) (station : ℕ) → Knows k state → Is (without_station station (failing state s EQUIPMENT_FAILURE))
  without_failing state station knows = of_without station (failing state s EQUIPMENT_FAILURE) (by_equipment state knows)

  of_station_down : (state : State) (station : ℕ) → Knows k state → OfRow Is (on_station_down state s station)
  of_station_down WaitActivation station knows = where_fits Is _ _ (of_without station (dropping s) of_dropping)
  of_station_down WaitEstablish station knows = where_fits Is _ _ (of_without station (dropping s) of_dropping)
  of_station_down WaitConfirm station knows = where_fits Is _ _ (without_failing WaitConfirm station knows)
  of_station_down (Live reference stage) station knows = where_fits Is _ _ (without_failing (Live reference stage) station knows)
  of_station_down _ station knows = tt

  of_switch_down : (state : State) → Knows k state → OfRow Is (on_switch_down state s)
  of_switch_down WaitConfirm knows = of_removing WaitConfirm knows
  of_switch_down (Live reference stage) knows = of_removing (Live reference stage) knows
  of_switch_down (Closed clearing) knows = (removed, tt)
  of_switch_down Removed knows = tt
  of_switch_down _ knows = of_dropping

  pub row_puts : (input : Input) → Brings k input → OfRow (Keeps P Q) (row_of s input offer)
  unfolding row_of
  row_puts (inputs.ActivationAck at) brings = of_activation_ack s.state at parts.state
  row_puts (inputs.ActivationNack at) brings = of_activation_nack s.state at parts.state
  row_puts (inputs.EstablishIndication at sapi message) brings = of_establish_indication s.state at sapi message brings
  row_puts (inputs.EstablishConfirm at sapi) brings = of_establish_confirm s.state at sapi
  row_puts (inputs.ReleaseIndication at sapi) brings = of_release_indication s.state at sapi parts.state
  row_puts (inputs.ErrorIndication at sapi) brings = of_error_indication s.state at sapi parts.state
  row_puts (inputs.ConnectionFailure at) brings = of_connection_failure s.state at parts.state
  row_puts (inputs.Dtap at sapi message) brings = of_dtap s.state at sapi message parts.state brings
  row_puts (inputs.Complete at change cause) brings = of_complete s.state at change cause.0 parts.state
  row_puts (inputs.Failure at change cause) brings = of_failure s.state at change cause.0 parts.state
  row_puts (inputs.ReleaseAck at) brings = of_release_ack s.state at parts.state
  row_puts inputs.Move brings = of_move s.state parts.state
  row_puts (inputs.ConnectionConfirm source) brings = of_confirm s.state source parts.state brings
  row_puts inputs.ConnectionRefused brings = of_refused s.state parts.state
  row_puts (inputs.Released source) brings = of_released s.state source parts.state brings
  row_puts (inputs.Downlink sapi message) brings = of_downlink s.state sapi message parts.state brings
  row_puts (inputs.AssignmentRequest is_speech) brings = of_assignment_request s.state is_speech parts.state
  row_puts inputs.CipherModeCommand brings = of_cipher_mode_command s.state parts.state
  row_puts inputs.ClearCommand brings = of_clear_command s.state parts.state brings
  row_puts inputs.Expiry brings = of_expiry s.state parts.state
  row_puts inputs.DrainExpiry brings = of_drain_expiry s.state parts.state
  row_puts (inputs.StationDown station) brings = of_station_down s.state station parts.state
  row_puts inputs.SwitchDown brings = of_switch_down s.state parts.state

-- ---- of causes alone, and of CLEAR COMPLETE

abbrev pub loose : (ℕ → Type 0) → Type 0 → Kinds
loose cause clears = record {
  channel = λ c. Unit {0};
  reference = λ reference. Unit {0};
  cause = cause;
  layer3 = λ message. Unit {0};
  clears = clears;
}

any_of : {A : Type 0} (xs : List A) → AllByRecursion (λ x. Unit {0}) xs
any_of [] = tt
any_of (x ∷ xs) = (tt, any_of xs)

any_held : (cause : ℕ → Type 0) (clears : Type 0) (ts : List TenureHold) → AreHeld (loose cause clears) ts
any_held cause clears [] = tt
any_held cause clears (t ∷ ts) = ((any_of t.zero, any_of t.three), any_held cause clears ts)

any_reference : (cause : ℕ → Type 0) (clears : Type 0) (state : State) → HasReference (loose cause clears) state
any_reference cause clears (Closed (WasAsked reference)) = tt
any_reference cause clears _ = tt

pub loose_parts : (cause : ℕ → Type 0) (clears : Type 0) (s : Connection) (offer : Option Channel) →
    HasCause (loose cause clears) s.state →
    FailsFor (loose cause clears) →
    Parts (loose cause clears) s offer
loose_parts cause clears s offer due causes = record {
  state = record { target = any_of (target_in s.state); own = any_reference cause clears s.state; due = due };
  serving = tt;
  offered = any_of (option_to_list offer);
  zero = any_of s.down.zero;
  three = any_of s.down.three;
  up = any_held cause clears s.up.tenures;
  causes = causes;
}

pub loose_brings : (cause : ℕ → Type 0) (clears : Type 0) (input : Input) →
    (input ≡ inputs.ClearCommand → clears) →
    Brings (loose cause clears) input
loose_brings cause clears (inputs.EstablishIndication at sapi message) may = any_of (option_to_list message)
loose_brings cause clears inputs.ClearCommand may = may refl
loose_brings cause clears _ may = tt

-- of messages of which nothing is asked
abbrev pub free : Type 0 → Kinds
free clears = loose (λ cause. Unit {0}) clears

pub any_cause : (k : Kinds) → ((cause : ℕ) → k.cause cause) → (state : State) → HasCause k state
any_cause k any (Closed (Due cause)) = any cause
any_cause k any _ = tt

pub free_parts : (clears : Type 0) (s : Connection) (offer : Option Channel) → Parts (free clears) s offer
free_parts clears s offer = loose_parts (λ cause. Unit {0}) clears s offer (any_cause (free clears) (λ cause. tt) s.state) (tt, tt, tt)

pub free_brings : (clears : Type 0) (input : Input) → (input ≡ inputs.ClearCommand → clears) → Brings (free clears) input
free_brings clears input may = loose_brings (λ cause. Unit {0}) clears input may

enters_any : (k : Kinds) → Enters k (λ state request. Unit {0})
enters_any k = record {
  establishes = λ before request is. tt;
  confirms = λ before request is. tt;
  once_live = λ before request reference stage is own. tt;
  due = λ before request cause is small. tt;
  asks = λ before request reference is own. tt;
  clears = λ before request is. tt;
  removes = λ before request is. tt;
}

pub row_messages : (P : Message → Type 0) (clears : Type 0) (s : Connection) (input : Input) (offer : Option Channel) →
    Puts (free clears) P s →
    (input ≡ inputs.ClearCommand → clears) →
    OfRow (λ r. AllByRecursion P r.outs) (row_of s input offer)
row_messages P clears s input offer puts may =
    let entered = enters_any (free clears) in
    of_row_so (Keeps P (λ state request. Unit {0})) (λ r. AllByRecursion P r.outs) (λ r kept. kept.1) (row_of s input offer)
    (row_puts (free clears) P (λ state request. Unit {0}) s offer puts entered (free_parts clears s offer) tt input (free_brings clears input may))
