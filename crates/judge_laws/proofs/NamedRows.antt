-- SPDX-License-Identifier: MIT OR Apache-2.0
-- Each row puts only messages that its connection may put for the switch.
use Rattle.std.proofs.Common.{◌≡◌, ℕ, zero, suc, ◌==◌, ◌&&◌, nat_le, Bool, true, false, not, if◌then◌else◌, List, [], ◌∷◌, ◌++◌, length, filter, map, Option, Some, None, refl, sym, subst}
use Rattle.conn_messages.specs.declared.causes.TheConstants.{NORMAL_EVENT}
use Rattle.conn_messages.specs.declared.channel.Change.{Change}
use Rattle.conn_messages.specs.declared.channel.Change.TheVariants.{Assignment, Handover}
use Rattle.conn_messages.specs.declared.channel.Channel.{Channel}
use Rattle.conn_messages.specs.declared.channel.Place.{Place}
use Rattle.conn_messages.specs.declared.message.Message.{Message}
use Rattle.conn_messages.specs.declared.message.Message.TheVariants.{ReleaseComplete, Request, Data, Station}
use Rattle.conn_messages.specs.StationMessage.{rf_channel_release, handing}
use Rattle.conn_messages.specs.SwitchMessage.{complete_layer3}
use Rattle.conn_rules.proofs.DownlinkMessages.{AllByRecursion-append, AllByRecursion-filter, AllByRecursion-so}
use Rattle.conn_rules.specs.declared.input.Input.{Input}
use Rattle.conn_rules.specs.declared.state.Clearing.TheVariants.{Due, Asked as WasAsked, Complete}
use Rattle.conn_rules.specs.declared.state.Drain.{Drain}
use Rattle.conn_rules.specs.declared.state.Stage.TheVariants.{Preparing, Changing, Draining}
use Rattle.conn_rules.specs.declared.state.State.{State}
use Rattle.conn_rules.specs.declared.state.State.TheVariants.{WaitActivation, WaitEstablish, WaitConfirm, Live, Closed, Removed}
use Rattle.conn_rules.specs.Connection.{Connection, enter, drain_at}
use Rattle.conn_rules.specs.Steps.{Row, row, dropping, without_station, done_at, is_for_station, begin}
use Rattle.conn_rules.specs.Streams.{OfRow}
use Rattle.conn_rules.specs.Table.{assign_immediately, command_to, access, release_in, dtap_in, on_activation_ack, on_activation_nack, on_establish_indication, on_establish_confirm, on_release_indication, on_error_indication, on_connection_failure, on_dtap, on_complete, on_failure, on_release_ack, on_move, on_confirm, on_refused, on_released, on_downlink, on_assignment_request, on_cipher_mode_command, on_clear_command, on_drain_expiry, on_station_down, on_switch_down}
use Rattle.conn_rules.proofs.RowPuts.{where_fits, either}
use Rattle.dtap_codec.specs.declared.sapi.Sapi.{Sapi}
use Rattle.dtap_codec.specs.declared.sapi.Sapi.TheVariants.{Zero, Three}
use Rattle.octets.specs.declared.limits.TheConstants.{INITIAL_LIMIT}
use Rattle.hold_queue.specs.ChainState.{chain_count, put_in}
use Rattle.hold_queue.specs.HoldState.{count, messages, with_messages}
use Rattle.conn_messages.specs.declared.causes.TheConstants.{ABNORMAL_RELEASE, BSS_NOT_EQUIPPED, EQUIPMENT_FAILURE, PROTOCOL_ERROR}
use Rattle.conn_messages.specs.declared.causes.TheConstants.{RADIO_INTERFACE_FAILURE, RADIO_INTERFACE_MESSAGE_FAILURE}
use Rattle.conn_messages.specs.SwitchMessage.{assignment_failure, cipher_mode_reject, change_complete, release_complete, relaying}
use Rattle.conn_rules.specs.declared.input.Input.TheVariants as inputs
use Rattle.conn_rules.specs.declared.state.ShortMessageLink.{ShortMessageLink}
use Rattle.conn_rules.specs.declared.state.ShortMessageLink.TheVariants.{Down, Asked, Up}
use Rattle.conn_rules.specs.declared.state.Stage.{Stage}
use Rattle.conn_rules.specs.Connection.{emptied, first_channel, tenure_at}
use Rattle.conn_rules.specs.Steps.{◌then◌, after_waiting, ask_for_held, end_outs, ending, hand_held, failing, link_up}
use Rattle.conn_rules.specs.Steps.{begin_outs, begin_waiting, waiting_outs, hold_down, hold_short_message, short_message, request_where}
use Rattle.conn_rules.specs.Steps.{link_down, hold_up, relay_held, tenure_outs, leave, shifted, settled, settled_stage, resting_stage}
use Rattle.conn_rules.specs.Steps.{resting, moved, request_for, may_begin, target_release}
use Rattle.conn_rules.specs.Table.{row_of, refuse, nack_outs, release, complete, failure, failure_outs, speech_request, on_expiry}
use Rattle.hold_queue.specs.ChainState.{TenureHold}
use Rattle.judge_laws.proofs.Naming.{AreLast, ArePlain, AreQuiet, FromNamed, FromWaiting, IsLast, IsNamedRow, IsPlain, IsQuiet}
use Rattle.conn_rules.proofs.UplinkSteps.{leave-state}

-- ---- messages

quiet_plain : (k : ℕ) (m : Message) → IsQuiet m → IsPlain k m
quiet_plain k (Request message) quiet = absurd quiet
quiet_plain k (Data destination message) quiet = absurd quiet
quiet_plain k (ReleaseComplete destination) quiet = absurd quiet
quiet_plain k _ quiet = tt

pub are_plain : (k : ℕ) (ms : List Message) → AreQuiet ms → ArePlain k ms
are_plain k ms quiet = AllByRecursion-so IsQuiet (IsPlain k) (quiet_plain k) ms quiet

quiet_last : (m : Message) → IsQuiet m → IsLast m
quiet_last (Request message) quiet = absurd quiet
quiet_last (Data destination message) quiet = absurd quiet
quiet_last (ReleaseComplete destination) quiet = absurd quiet
quiet_last (Station station message) quiet = tt

pub are_last : (ms : List Message) → AreQuiet ms → AreLast ms
are_last ms quiet = AllByRecursion-so IsQuiet IsLast quiet_last ms quiet

all_handed : (k : ℕ) (c : Channel) (sapi : Sapi) (ms : List (List ℕ)) → ArePlain k (map (handing c sapi) ms)
all_handed k c sapi [] = tt
all_handed k c sapi (m ∷ ms) = (tt, all_handed k c sapi ms)

all_relayed : (k : ℕ) (c : Channel) (sapi : Sapi) (ms : List (List ℕ)) → ArePlain k (map (relaying k c sapi) ms)
all_relayed k c sapi [] = tt
all_relayed k c sapi (m ∷ ms) = (refl, all_relayed k c sapi ms)

all_of_tenure : (k : ℕ) (c : Channel) (ts : List TenureHold) → ArePlain k (tenure_outs k c ts)
all_of_tenure k c [] = tt
all_of_tenure k c (t ∷ ts) = AllByRecursion-append (IsPlain k) (map (relaying k c Zero) t.zero) (map (relaying k c Three) t.three) (all_relayed k c Zero t.zero) (all_relayed k c Three t.three)

begins : (k : ℕ) (change : Change) (offer : Option Channel) → ArePlain k (begin_outs k change offer)
begins k Assignment (Some channel) = (tt, tt)
begins k Handover (Some channel) = (tt, tt)
begins k Assignment None = (refl, tt)
begins k Handover None = tt

waits : (b : Bool) (k : ℕ) (offer : Option Channel) → ArePlain k (waiting_outs b k offer)
waits true k offer = begins k Assignment offer
waits false k offer = tt

requests : (k : ℕ) (link : ShortMessageLink) (c : Channel) → ArePlain k (request_where link c)
requests k Down c = (tt, tt)
requests k _ c = tt

requests_for : (k : ℕ) (ms : List (List ℕ)) (c : Channel) → ArePlain k (request_for ms c)
requests_for k [] c = tt
requests_for k (m ∷ ms) c = (tt, tt)

targets : (state : State) → AreQuiet (target_release state)
targets (Live reference (Preparing target)) = (tt, tt)
targets (Live reference (Changing target)) = (tt, tt)
targets _ = tt

ends : (state : State) (c : Channel) (cause : ℕ) → AreQuiet (end_outs state c cause)
ends state c cause = (tt, (tt, targets state))

-- ---- the reference is unchanged

unfoldable IsNamed : ℕ → State → Type 0
IsNamed k (Live own stage) = own ≡ k
IsNamed k _ = ⊥

named : (k : ℕ) (state : State) (put : List Message) → IsNamed k state → ArePlain k put → FromNamed k put state
unfolding IsNamed
named k (Live own stage) put is plain = (is, plain)
named k _ put is plain = absurd is

after_named : (b : Bool) (k : ℕ) (offer : Option Channel) (s : Connection) → IsNamed k s.state → IsNamed k (after_waiting b k offer s).state
unfolding IsNamed
after_named true k (Some channel) s is = refl
after_named true k None s is = is
after_named false k offer s is = is

settled_named : (k : ℕ) (stage : Stage) (draining : List Drain) (s : Connection) →
    IsNamed k s.state →
    IsNamed k (settled k stage draining s).state
unfolding IsNamed
settled_named k Draining [] s is = refl
settled_named k _ _ s is = is

-- ---- of a connection with a reference

abbrev IsFromNamed : ℕ → Row → Type 0
IsFromNamed k r = FromNamed k r.outs r.next.state

of_failing : (k : ℕ) (stage : Stage) (s : Connection) (cause : ℕ) → IsFromNamed k (failing (Live k stage) s cause)
of_failing k stage s cause = (refl, (refl, are_plain k (end_outs (Live k stage) s.serving ABNORMAL_RELEASE) (ends (Live k stage) s.serving ABNORMAL_RELEASE)))

of_removing : (k : ℕ) (state : State) (s : Connection) (cause : ℕ) → IsFromNamed k (ending state s cause Removed)
of_removing k state s cause = are_last (end_outs state s.serving cause) (ends state s.serving cause)

without : (station : ℕ) (ms : List Message) → AreQuiet ms → AreQuiet (filter (λ message. not (is_for_station station message)) ms)
without station ms quiet = AllByRecursion-filter IsQuiet (λ message. not (is_for_station station message)) ms quiet

without_last : (station : ℕ) (ms : List Message) → AreLast ms → AreLast (filter (λ message. not (is_for_station station message)) ms)
without_last station ms last = AllByRecursion-filter IsLast (λ message. not (is_for_station station message)) ms last

of_hold_down : (k : ℕ) (stage : Stage) (sapi : Sapi) (message : List ℕ) (s : Connection) →
    IsNamed k s.state →
    IsFromNamed k (hold_down (Live k stage) sapi message s)
of_hold_down k stage sapi message s own =
    either (IsFromNamed k) (count s.down == s.down.limit) (failing (Live k stage) s EQUIPMENT_FAILURE) (row [] (record s { down = with_messages s.down sapi (messages s.down sapi ++ message ∷ []) }))
    (of_failing k stage s EQUIPMENT_FAILURE) (named k s.state [] own tt)

of_hold_short_message : (k : ℕ) (stage : Stage) (message : List ℕ) (s : Connection) →
    IsNamed k s.state →
    IsFromNamed k (hold_short_message (Live k stage) message s)
of_hold_short_message k stage message s own =
    either (IsFromNamed k) (count s.down == s.down.limit) (failing (Live k stage) s EQUIPMENT_FAILURE) (row (request_where s.link s.serving) (record s { link = Asked; down = with_messages s.down Three (messages s.down Three ++ message ∷ []) }))
    (of_failing k stage s EQUIPMENT_FAILURE) (named k s.state (request_where s.link s.serving) own (requests k s.link s.serving))

of_short_message : (k : ℕ) (stage : Stage) (link : ShortMessageLink) (message : List ℕ) (s : Connection) →
    IsNamed k s.state →
    IsFromNamed k (short_message (Live k stage) link message s)
of_short_message k stage Up message s own = named k s.state (handing s.serving Three message ∷ []) own (tt, tt)
of_short_message k stage _ message s own = of_hold_short_message k stage message s own

of_link_down : (k : ℕ) (link : ShortMessageLink) (s : Connection) → IsNamed k s.state → IsFromNamed k (link_down link k s)
of_link_down k Asked s own = named k s.state (link_down Asked k s).outs own (refl, tt)
of_link_down k _ s own = named k s.state [] own tt

of_link_up : (k : ℕ) (s : Connection) → IsNamed k s.state → IsFromNamed k (link_up s)
of_link_up k s own = named k s.state (map (handing s.serving Three) (messages s.down Three)) own (all_handed k s.serving Three (messages s.down Three))

of_hold_up : (k : ℕ) (stage : Stage) (tenure : ℕ) (sapi : Sapi) (message : List ℕ) (s : Connection) →
    IsNamed k s.state →
    IsFromNamed k (hold_up (Live k stage) tenure sapi message s)
of_hold_up k stage tenure sapi message s own =
    either (IsFromNamed k) (chain_count s.up == s.up.limit) (failing (Live k stage) s EQUIPMENT_FAILURE) (row [] (record s { up = record s.up { tenures = put_in tenure sapi message s.up.tenures } }))
    (of_failing k stage s EQUIPMENT_FAILURE) (named k s.state [] own tt)

of_leave : (k : ℕ) (draining : List Drain) (s : Connection) → ArePlain k (leave k draining s).outs
of_leave k [] s = tt
of_leave k (d ∷ ds) s =
    either (λ (r : Row). ArePlain k r.outs) d.is_done (row [] (shifted ds s) then relay_held k then leave k ds) (row [] (record s { draining = d ∷ ds }))
    (AllByRecursion-append (IsPlain k) (relay_held k (shifted ds s)).outs (leave k ds (relay_held k (shifted ds s)).next).outs
    (all_of_tenure k (first_channel ds s.serving) (shifted ds s).up.tenures) (of_leave k ds (relay_held k (shifted ds s)).next))
    tt

of_refuse : (k : ℕ) (change : Change) (offer : Option Channel) (s : Connection) → IsFromNamed k (refuse k change offer s)
unfolding IsNamed
of_refuse k change offer s =
    named k (after_waiting (s.waits && may_begin (resting_stage s.draining) s.draining) k offer (resting k s)).state (nack_outs change k ++ waiting_outs (s.waits && may_begin (resting_stage s.draining) s.draining) k offer)
    (after_named (s.waits && may_begin (resting_stage s.draining) s.draining) k offer (resting k s) refl)
    (AllByRecursion-append (IsPlain k) (nack_outs change k) (waiting_outs (s.waits && may_begin (resting_stage s.draining) s.draining) k offer) (nacks change) (waits (s.waits && may_begin (resting_stage s.draining) s.draining) k offer))
  where
    nacks : (change : Change) → ArePlain k (nack_outs change k)
    nacks Assignment = (refl, tt)
    nacks Handover = tt

-- after a change: what was held is handed, and perhaps the next one begins
of_end : (stage : Stage) (k : ℕ) (offer : Option Channel) (s : Connection) (outs : List Message) → ArePlain k outs →
    ArePlain k (outs ++ map (handing s.serving Zero) (messages s.down Zero) ++ request_for s.down.three s.serving ++ waiting_outs (s.waits && may_begin stage s.draining) k offer)
of_end stage k offer s outs first =
    let held : List Message = map (handing s.serving Zero) (messages s.down Zero) in
    let asked : List Message = request_for s.down.three s.serving in
    AllByRecursion-append (IsPlain k) (outs ++ held ++ asked) (waiting_outs (s.waits && may_begin stage s.draining) k offer)
    (AllByRecursion-append (IsPlain k) (outs ++ held) asked (AllByRecursion-append (IsPlain k) outs held first (all_handed k s.serving Zero (messages s.down Zero))) (requests_for k s.down.three s.serving))
    (waits (s.waits && may_begin stage s.draining) k offer)

completes : (k : ℕ) (change : Change) (c : Channel) (cause : ℕ) → IsPlain k (change_complete k change c cause)
completes k Assignment c cause = refl
completes k Handover c cause = refl

of_complete : (k : ℕ) (change : Change) (c : Channel) (cause : ℕ) (offer : Option Channel) (s : Connection) →
    IsFromNamed k (complete k change c cause offer s)
unfolding IsNamed
of_complete k change c cause offer s =
    let next : Connection = moved k c s in
    let rests : Connection = (ask_for_held (hand_held Zero next).next).next in
    named k (complete k change c cause offer s).next.state (complete k change c cause offer s).outs (after_named (rests.waits && may_begin Draining rests.draining) k offer rests refl)
    (of_end Draining k offer next (change_complete k change c cause ∷ rf_channel_release s.serving ∷ []) (completes k change c cause, (tt, tt)))

of_failure : (k : ℕ) (change : Change) (c : Channel) (cause : ℕ) (offer : Option Channel) (s : Connection) →
    IsFromNamed k (failure k change c cause offer s)
unfolding IsNamed
of_failure k change c cause offer s =
    let next : Connection = resting k s in
    let rests : Connection = (ask_for_held (hand_held Zero next).next).next in
    named k (failure k change c cause offer s).next.state (failure k change c cause offer s).outs (after_named (rests.waits && may_begin (resting_stage s.draining) rests.draining) k offer rests refl)
    (of_end (resting_stage s.draining) k offer next (failure_outs change k cause ++ rf_channel_release c ∷ []) (AllByRecursion-append (IsPlain k) (failure_outs change k cause) (rf_channel_release c ∷ []) (fails change) (tt, tt)))
  where
    fails : (change : Change) → ArePlain k (failure_outs change k cause)
    fails Assignment = (refl, tt)
    fails Handover = tt

of_release : (k : ℕ) (stage : Stage) (place : ℕ) (offer : Option Channel) (s : Connection) →
    IsNamed k s.state →
    IsFromNamed k (release k stage place offer s)
of_release k stage place offer s own =
    let left : Connection = (leave k (done_at place s.draining) s).next in
    let rests : Connection = settled k stage left.draining left in
    named k (release k stage place offer s).next.state (release k stage place offer s).outs
    (after_named (rests.waits && may_begin (settled_stage stage rests.draining) rests.draining) k offer rests (settled_named k stage left.draining left (subst (IsNamed k) (sym (leave-state k (done_at place s.draining) s)) own)))
    (AllByRecursion-append (IsPlain k) ((leave k (done_at place s.draining) s).outs ++ []) (begin_waiting (settled_stage stage rests.draining) k offer rests).outs
    (AllByRecursion-append (IsPlain k) (leave k (done_at place s.draining) s).outs [] (of_leave k (done_at place s.draining) s) tt)
    (waits (rests.waits && may_begin (settled_stage stage rests.draining) rests.draining) k offer))

of_begin : (k : ℕ) (change : Change) (offer : Option Channel) (s : Connection) → IsNamed k s.state → IsFromNamed k (begin k change offer s)
of_begin k change None s own = named k s.state (begin_outs k change None) own (begins k change None)
of_begin k change (Some channel) s own = (refl, begins k change (Some channel))

of_speech : (k : ℕ) (stage : Stage) (offer : Option Channel) (s : Connection) →
    IsNamed k s.state →
    IsFromNamed k (speech_request k stage offer s)
of_speech k stage offer s own =
    either (IsFromNamed k) (may_begin stage s.draining) (begin k Assignment offer s) (if s.waits then row (assignment_failure k PROTOCOL_ERROR None ∷ []) s else row [] (record s { waits = true }))
    (of_begin k Assignment offer s own)
    (either (IsFromNamed k) s.waits (row (assignment_failure k PROTOCOL_ERROR None ∷ []) s) (row [] (record s { waits = true })) (named k s.state (assignment_failure k PROTOCOL_ERROR None ∷ []) own (refl, tt)) (named k s.state [] own tt))

of_dtap_in : (place : Option ℕ) (k : ℕ) (stage : Stage) (s : Connection) (at : Place) (sapi : Sapi) (message : List ℕ) →
    IsNamed k s.state →
    OfRow (IsFromNamed k) (dtap_in place k stage s at sapi message)
of_dtap_in (Some zero) k stage s at sapi message own = named k s.state (relaying k (first_channel s.draining s.serving) sapi message ∷ []) own (refl, tt)
of_dtap_in (Some (suc tenure)) k stage s at sapi message own = of_hold_up k stage (suc tenure) sapi message s own
of_dtap_in None k (Changing target) s at Zero message own = where_fits (IsFromNamed k) _ (failing (Live k (Changing target)) s EQUIPMENT_FAILURE) (of_failing k (Changing target) s EQUIPMENT_FAILURE)
of_dtap_in _ k _ s at _ message own = tt

of_release_in : (place : Option ℕ) (k : ℕ) (stage : Stage) (offer : Option Channel) (s : Connection) →
    IsNamed k s.state →
    OfRow (IsFromNamed k) (release_in place k stage offer s)
of_release_in (Some place) k stage offer s own = of_release k stage place offer s own
of_release_in None k stage offer s own = tt

of_released : (k destination : ℕ) (state : State) (s : Connection) →
    AreLast (ending state s ABNORMAL_RELEASE Removed then (λ (t : Connection). row (release_complete destination ∷ []) t)).outs
of_released k destination state s = AllByRecursion-append IsLast (end_outs state s.serving ABNORMAL_RELEASE) (release_complete destination ∷ []) (are_last (end_outs state s.serving ABNORMAL_RELEASE) (ends state s.serving ABNORMAL_RELEASE)) (tt, tt)

-- ---- by inputs

own_named : (k : ℕ) (stage : Stage) (s : Connection) → s.state ≡ Live k stage → IsNamed k s.state
unfolding IsNamed
own_named k stage s is = subst (IsNamed k) (sym is) refl

abbrev In : Input → State → Option Row → Type 0
In input state o = OfRow (IsNamedRow input state) o

dropped : (s : Connection) → AreLast (dropping s).outs
dropped s = (tt, tt)

of_access : (input : Input) (message : Option (List ℕ)) (s : Connection) → IsNamedRow input WaitEstablish (access message s)
of_access input (Some initial) s =
    either (IsNamedRow input WaitEstablish) (nat_le (length initial) INITIAL_LIMIT) (row (complete_layer3 s.serving initial ∷ []) (enter WaitConfirm s)) (dropping s)
    (record { cell = record { 0 = s.serving.cell }; initial = initial; is = refl }) (dropped s)
of_access input None s = dropped s

of_activation_ack : (input : Input) (state : State) (s : Connection) (at : Place) → In input state (on_activation_ack state s at)
of_activation_ack input WaitActivation s at = where_fits (IsNamedRow input WaitActivation) _ (assign_immediately s) (tt, tt)
of_activation_ack input (Live k (Preparing target)) s at = where_fits (IsFromNamed k) _ (command_to k target s) (refl, commands target.change)
  where
    commands : (change : Change) → ArePlain k (command_to k target s).outs
    commands change = (tt, tt)
of_activation_ack input _ s at = tt

of_activation_nack : (input : Input) (state : State) (s : Connection) (at : Place) (offer : Option Channel) →
    In input state (on_activation_nack state s at offer)
of_activation_nack input WaitActivation s at offer = where_fits (IsNamedRow input WaitActivation) _ (row [] (emptied Removed s)) tt
of_activation_nack input (Live k (Preparing target)) s at offer = where_fits (IsFromNamed k) _ (refuse k target.change offer s) (of_refuse k target.change offer s)
of_activation_nack input _ s at offer = tt

of_establish_indication : (input : Input) (state : State) (s : Connection) (at : Place) (sapi : Sapi) (message : Option (List ℕ)) →
    s.state ≡ state →
    In input state (on_establish_indication state s at sapi message)
of_establish_indication input WaitEstablish s at Zero message is = where_fits (IsNamedRow input WaitEstablish) _ (access message s) (of_access input message s)
of_establish_indication input (Live k (Changing target)) s at sapi message is = tt
of_establish_indication input (Live k stage) s at Three message is = where_fits (IsFromNamed k) _ (link_up s) (of_link_up k s (own_named k stage s is))
of_establish_indication input _ s at sapi message is = tt

of_establish_confirm : (input : Input) (state : State) (s : Connection) (at : Place) (sapi : Sapi) →
    s.state ≡ state →
    In input state (on_establish_confirm state s at sapi)
of_establish_confirm input (Live k (Changing target)) s at sapi is = tt
of_establish_confirm input (Live k stage) s at Three is = where_fits (IsFromNamed k) _ (link_up s) (of_link_up k s (own_named k stage s is))
of_establish_confirm input _ s at sapi is = tt

of_release_indication : (input : Input) (state : State) (s : Connection) (at : Place) (sapi : Sapi) →
    s.state ≡ state →
    In input state (on_release_indication state s at sapi)
of_release_indication input WaitEstablish s at Zero is = where_fits (IsNamedRow input WaitEstablish) _ (dropping s) (dropped s)
of_release_indication input WaitConfirm s at Zero is = where_fits (IsNamedRow input WaitConfirm) _ (failing WaitConfirm s RADIO_INTERFACE_FAILURE) (ends WaitConfirm s.serving ABNORMAL_RELEASE)
of_release_indication input (Live k (Changing target)) s at sapi is = tt
of_release_indication input (Live k stage) s at Zero is = where_fits (IsFromNamed k) _ (failing (Live k stage) s RADIO_INTERFACE_FAILURE) (of_failing k stage s RADIO_INTERFACE_FAILURE)
of_release_indication input (Live k stage) s at Three is = where_fits (IsFromNamed k) _ (link_down s.link k s) (of_link_down k s.link s (own_named k stage s is))
of_release_indication input _ s at sapi is = tt

of_error_indication : (input : Input) (state : State) (s : Connection) (at : Place) (sapi : Sapi) →
    s.state ≡ state →
    In input state (on_error_indication state s at sapi)
of_error_indication input (Live k (Changing target)) s at sapi is = tt
of_error_indication input (Live k stage) s at Three is = where_fits (IsFromNamed k) _ (link_down s.link k s) (of_link_down k s.link s (own_named k stage s is))
of_error_indication input _ s at sapi is = tt

of_connection_failure : (input : Input) (state : State) (s : Connection) (at : Place) → In input state (on_connection_failure state s at)
of_connection_failure input WaitEstablish s at = where_fits (IsNamedRow input WaitEstablish) _ (dropping s) (dropped s)
of_connection_failure input WaitConfirm s at = where_fits (IsNamedRow input WaitConfirm) _ (failing WaitConfirm s RADIO_INTERFACE_FAILURE) (ends WaitConfirm s.serving ABNORMAL_RELEASE)
of_connection_failure input (Live k (Changing target)) s at = tt
of_connection_failure input (Live k stage) s at = where_fits (IsFromNamed k) _ (failing (Live k stage) s RADIO_INTERFACE_FAILURE) (of_failing k stage s RADIO_INTERFACE_FAILURE)
of_connection_failure input _ s at = tt

of_hold_before : (input : Input) (sapi : Sapi) (message : List ℕ) (s : Connection) →
    s.state ≡ WaitConfirm →
    IsNamedRow input WaitConfirm (hold_up WaitConfirm 0 sapi message s)
of_hold_before input sapi message s is =
    either (IsNamedRow input WaitConfirm) (chain_count s.up == s.up.limit) (failing WaitConfirm s EQUIPMENT_FAILURE) (row [] (record s { up = record s.up { tenures = put_in 0 sapi message s.up.tenures } }))
    (ends WaitConfirm s.serving ABNORMAL_RELEASE) (subst (FromWaiting input []) (sym is) tt)

of_dtap : (input : Input) (state : State) (s : Connection) (at : Place) (sapi : Sapi) (message : List ℕ) →
    s.state ≡ state →
    In input state (on_dtap state s at sapi message)
of_dtap input WaitEstablish s at Zero message is = where_fits (IsNamedRow input WaitEstablish) _ (dropping s) (dropped s)
of_dtap input WaitEstablish s at Three message is = tt
of_dtap input WaitConfirm s at sapi message is = where_fits (IsNamedRow input WaitConfirm) _ (hold_up WaitConfirm 0 sapi message s) (of_hold_before input sapi message s is)
of_dtap input (Live k stage) s at sapi message is = of_dtap_in (tenure_at at s.serving s.draining) k stage s at sapi message (own_named k stage s is)
of_dtap input _ s at sapi message is = tt

of_completes : (input : Input) (state : State) (s : Connection) (at : Place) (change : Change) (cause : ℕ) (offer : Option Channel) →
    In input state (on_complete state s at change cause offer)
of_completes input (Live k (Changing target)) s at change cause offer = where_fits (IsFromNamed k) _ (complete k change target.channel cause offer s) (of_complete k change target.channel cause offer s)
of_completes input _ s at change cause offer = tt

of_failures : (input : Input) (state : State) (s : Connection) (at : Place) (change : Change) (cause : ℕ) (offer : Option Channel) →
    In input state (on_failure state s at change cause offer)
of_failures input (Live k (Changing target)) s at change cause offer = where_fits (IsFromNamed k) _ (failure k change target.channel cause offer s) (of_failure k change target.channel cause offer s)
of_failures input _ s at change cause offer = tt

of_release_ack : (input : Input) (state : State) (s : Connection) (at : Place) (offer : Option Channel) →
    s.state ≡ state →
    In input state (on_release_ack state s at offer)
of_release_ack input (Live k stage) s at offer is = of_release_in (drain_at at s.draining) k stage offer s (own_named k stage s is)
of_release_ack input _ s at offer is = tt

of_move : (input : Input) (state : State) (s : Connection) (offer : Option Channel) →
    s.state ≡ state →
    In input state (on_move state s offer)
of_move input (Live k stage) s offer is = where_fits (IsFromNamed k) _ (begin k Handover offer s) (of_begin k Handover offer s (own_named k stage s is))
of_move input _ s offer is = tt

of_confirm : (state : State) (s : Connection) (source : ℕ) → In (inputs.ConnectionConfirm source) state (on_confirm state s source)
of_confirm WaitConfirm s source = (refl, all_of_tenure source (first_channel s.draining s.serving) s.up.tenures)
of_confirm (Closed (Due cause)) s source = (refl, (refl, tt))
of_confirm _ s source = tt

of_refused : (input : Input) (state : State) (s : Connection) → In input state (on_refused state s)
of_refused input WaitConfirm s = are_last (end_outs WaitConfirm s.serving ABNORMAL_RELEASE) (ends WaitConfirm s.serving ABNORMAL_RELEASE)
of_refused input (Closed (Due cause)) s = tt
of_refused input (Closed (WasAsked k)) s = tt
of_refused input (Closed Complete) s = tt
of_refused input _ s = tt

of_releases : (input : Input) (state : State) (s : Connection) (source : ℕ) → In input state (on_released state s source)
of_releases input WaitConfirm s source = of_released 0 source WaitConfirm s
of_releases input (Live k stage) s source = of_released k source (Live k stage) s
of_releases input (Closed (Due cause)) s source = (tt, tt)
of_releases input (Closed (WasAsked k)) s source = (tt, tt)
of_releases input (Closed Complete) s source = (tt, tt)
of_releases input WaitActivation s source = tt
of_releases input WaitEstablish s source = tt
of_releases input Removed s source = tt

of_downlink : (input : Input) (state : State) (s : Connection) (sapi : Sapi) (message : List ℕ) →
    s.state ≡ state →
    In input state (on_downlink state s sapi message)
of_downlink input (Live k (Changing target)) s sapi message is = of_hold_down k (Changing target) sapi message s (own_named k (Changing target) s is)
of_downlink input (Live k stage) s Zero message is = named k s.state (handing s.serving Zero message ∷ []) (own_named k stage s is) (tt, tt)
of_downlink input (Live k stage) s Three message is = of_short_message k stage s.link message s (own_named k stage s is)
of_downlink input _ s sapi message is = tt

of_assignment_request : (input : Input) (state : State) (s : Connection) (is_speech : Bool) (offer : Option Channel) →
    s.state ≡ state →
    In input state (on_assignment_request state s is_speech offer)
of_assignment_request input (Live k stage) s is_speech offer is =
    either (IsFromNamed k) is_speech (speech_request k stage offer s) (row (assignment_failure k BSS_NOT_EQUIPPED None ∷ []) s) (of_speech k stage offer s (own_named k stage s is)) (named k s.state (assignment_failure k BSS_NOT_EQUIPPED None ∷ []) (own_named k stage s is) (refl, tt))
of_assignment_request input _ s is_speech offer is = tt

of_cipher_mode_command : (input : Input) (state : State) (s : Connection) →
    s.state ≡ state →
    In input state (on_cipher_mode_command state s)
of_cipher_mode_command input (Live k stage) s is = named k s.state (cipher_mode_reject k ∷ []) (own_named k stage s is) (refl, tt)
of_cipher_mode_command input _ s is = tt

of_clear_command : (input : Input) (state : State) (s : Connection) → In input state (on_clear_command state s)
of_clear_command input (Live k stage) s = record { first = end_outs (Live k stage) s.serving NORMAL_EVENT; is = refl; quiet = ends (Live k stage) s.serving NORMAL_EVENT }
of_clear_command input (Closed (WasAsked k)) s = record { first = []; is = refl; quiet = tt }
of_clear_command input _ s = tt

of_expiry : (input : Input) (state : State) (s : Connection) → In input state (on_expiry state s)
of_expiry input WaitActivation s = dropped s
of_expiry input WaitEstablish s = dropped s
of_expiry input (Live k (Preparing target)) s = of_failing k (Preparing target) s RADIO_INTERFACE_MESSAGE_FAILURE
of_expiry input (Live k (Changing target)) s = of_failing k (Changing target) s RADIO_INTERFACE_MESSAGE_FAILURE
of_expiry input _ s = tt

of_drain_expiry : (input : Input) (state : State) (s : Connection) → In input state (on_drain_expiry state s)
of_drain_expiry input (Live k stage) s = where_fits (IsFromNamed k) _ (failing (Live k stage) s EQUIPMENT_FAILURE) (of_failing k stage s EQUIPMENT_FAILURE)
of_drain_expiry input _ s = tt

of_station_down : (input : Input) (state : State) (s : Connection) (station : ℕ) → In input state (on_station_down state s station)
of_station_down input WaitActivation s station = where_fits (IsNamedRow input WaitActivation) _ (without_station station (dropping s)) (without_last station (dropping s).outs (dropped s))
of_station_down input WaitEstablish s station = where_fits (IsNamedRow input WaitEstablish) _ (without_station station (dropping s)) (without_last station (dropping s).outs (dropped s))
of_station_down input WaitConfirm s station = where_fits (IsNamedRow input WaitConfirm) _ (without_station station (failing WaitConfirm s EQUIPMENT_FAILURE)) (without station (failing WaitConfirm s EQUIPMENT_FAILURE).outs (ends WaitConfirm s.serving ABNORMAL_RELEASE))
of_station_down input (Live k stage) s station =
    where_fits (IsFromNamed k) _ (without_station station (failing (Live k stage) s EQUIPMENT_FAILURE))
    (refl, AllByRecursion-filter (IsPlain k) (λ message. not (is_for_station station message)) (failing (Live k stage) s EQUIPMENT_FAILURE).outs (of_failing k stage s EQUIPMENT_FAILURE).1)
of_station_down input _ s station = tt

of_switch_down : (input : Input) (state : State) (s : Connection) → In input state (on_switch_down state s)
of_switch_down input WaitActivation s = dropped s
of_switch_down input WaitEstablish s = dropped s
of_switch_down input WaitConfirm s = are_last (end_outs WaitConfirm s.serving ABNORMAL_RELEASE) (ends WaitConfirm s.serving ABNORMAL_RELEASE)
of_switch_down input (Live k stage) s = are_last (end_outs (Live k stage) s.serving ABNORMAL_RELEASE) (ends (Live k stage) s.serving ABNORMAL_RELEASE)
of_switch_down input (Closed (Due cause)) s = tt
of_switch_down input (Closed (WasAsked k)) s = tt
of_switch_down input (Closed Complete) s = tt
of_switch_down input Removed s = tt

pub named_row : (s : Connection) (input : Input) (offer : Option Channel) → OfRow (IsNamedRow input s.state) (row_of s input offer)
unfolding row_of
named_row s (inputs.ActivationAck at) offer = of_activation_ack (inputs.ActivationAck at) s.state s at
named_row s (inputs.ActivationNack at) offer = of_activation_nack (inputs.ActivationNack at) s.state s at offer
named_row s (inputs.EstablishIndication at sapi message) offer = of_establish_indication (inputs.EstablishIndication at sapi message) s.state s at sapi message refl
named_row s (inputs.EstablishConfirm at sapi) offer = of_establish_confirm (inputs.EstablishConfirm at sapi) s.state s at sapi refl
named_row s (inputs.ReleaseIndication at sapi) offer = of_release_indication (inputs.ReleaseIndication at sapi) s.state s at sapi refl
named_row s (inputs.ErrorIndication at sapi) offer = of_error_indication (inputs.ErrorIndication at sapi) s.state s at sapi refl
named_row s (inputs.ConnectionFailure at) offer = of_connection_failure (inputs.ConnectionFailure at) s.state s at
named_row s (inputs.Dtap at sapi message) offer = of_dtap (inputs.Dtap at sapi message) s.state s at sapi message refl
named_row s (inputs.Complete at change cause) offer = of_completes (inputs.Complete at change cause) s.state s at change cause.0 offer
named_row s (inputs.Failure at change cause) offer = of_failures (inputs.Failure at change cause) s.state s at change cause.0 offer
named_row s (inputs.ReleaseAck at) offer = of_release_ack (inputs.ReleaseAck at) s.state s at offer refl
named_row s inputs.Move offer = of_move inputs.Move s.state s offer refl
named_row s (inputs.ConnectionConfirm source) offer = of_confirm s.state s source
named_row s inputs.ConnectionRefused offer = of_refused inputs.ConnectionRefused s.state s
named_row s (inputs.Released source) offer = of_releases (inputs.Released source) s.state s source
named_row s (inputs.Downlink sapi message) offer = of_downlink (inputs.Downlink sapi message) s.state s sapi message refl
named_row s (inputs.AssignmentRequest is_speech) offer = of_assignment_request (inputs.AssignmentRequest is_speech) s.state s is_speech offer refl
named_row s inputs.CipherModeCommand offer = of_cipher_mode_command inputs.CipherModeCommand s.state s refl
named_row s inputs.ClearCommand offer = of_clear_command inputs.ClearCommand s.state s
named_row s inputs.Expiry offer = of_expiry inputs.Expiry s.state s
named_row s inputs.DrainExpiry offer = of_drain_expiry inputs.DrainExpiry s.state s
named_row s (inputs.StationDown station) offer = of_station_down (inputs.StationDown station) s.state s station
named_row s inputs.SwitchDown offer = of_switch_down inputs.SwitchDown s.state s
