-- SPDX-License-Identifier: MIT OR Apache-2.0
-- The steps that may need memory, by the contract of each call.
use Rattle.controller.proofs.Prelude.{◌≡◌, ◌≢◌, ℕ, Bool, true, false, [], Option, Some, None, refl, sym, subst, ◌∙◌, inl, inr, Channel, Input, State, WaitActivation}
use Rattle.controller.proofs.Prelude.{WaitEstablish, WaitConfirm, Live, Closed, Removed, Connection, Row, Controller, Entry, Report}
use Rattle.std.proofs.Common.{Result, IfErr, ◌&&◌}
use Rattle.std.specs.Option.{is_some}
use Rattle.conn_fsm.specs.Doing.{WantsForHeld}
use Rattle.conn_fsm.specs.Views.{joined}
use Rattle.conn_messages.specs.declared.channel.Change.{Change}
use Rattle.conn_messages.specs.declared.channel.Place.{Place}
use Rattle.conn_rules.specs.declared.input.Input.TheVariants as inputs
use Rattle.conn_rules.specs.declared.state.Stage.{Stage}
use Rattle.conn_rules.specs.declared.state.Stage.TheVariants.{Active, Preparing, Changing, Draining}
use Rattle.conn_rules.specs.Connection.{drain_at, is_at}
use Rattle.conn_rules.specs.Steps.{may_begin}
use Rattle.conn_rules.specs.Table.{on_activation_nack, on_assignment_request, on_complete, on_failure, on_move, on_release_ack, release_in, row_if, row_of, same_change}
use Rattle.connections.specs.Entries.{ComparesWith, decision_with}
use Rattle.connections.specs.Steps.{row_at}
use Rattle.controller.specs.declared.many.Cause.TheVariants.{Break}
use Rattle.controller.specs.Reporting.{measures_in}
use Rattle.controller.specs.Wanting.{IsDue, IsGiven, MayWantFrame, MayWantMemory, MayWantReport, MayWantReportAt, MayWantWord, MovesBy, all_held_for}
use Rattle.controller.proofs.Held.{joined_is}
use Rattle.controller_model.specs.declared.step.Step.TheVariants.{Take}
use Rattle.controller_model.specs.declared.word.Word.{Word}
use Rattle.controller_model.specs.declared.word.Word.TheVariants.{Nothing, Ping, Asks, OnChannel, Reports, OnConnection}
use Rattle.controller_model.specs.Controller.{is_up}
use Rattle.controller_model.specs.Channels.{access_channel}
use Rattle.controller_model.specs.Life.{fits, may_open}
use Rattle.controller_model.specs.Views.{held_up_for}
use Rattle.controller_model.specs.Reading.{word_of}
use Rattle.controller_parts.proofs.Readable.{any_refusal, frame_said, refusal_by}
use Rattle.controller_parts.specs.Words.{IsReadableFrame, SaysSomething}
use Rattle.dtap_codec.specs.declared.sapi.Sapi.{Sapi}
use Rattle.ho_decision.specs.declared.decision.Decision.{Decision}
use Rattle.hold_queue.specs.HoldState.{messages}
use Rattle.ipa_framing.specs.declared.frame.Frame.{Frame}
use Rattle.octets.specs.declared.memory.Memory.{Memory}
use Rattle.ruled_relay.specs.declared.item.Item.{Item}
use Rattle.ruled_relay.specs.declared.item.What.TheVariants as whats

pub pings : {T E : Type 0} (r : Result T E) (source : ℕ) (c : Controller) → IfErr r (λ (e : E). MayWantWord source Ping c)
pings r source c = any_refusal r (MayWantWord source Ping c) tt

pub wants_says : (source : ℕ) (word : Word) (c : Controller) → MayWantWord source word c → SaysSomething word
wants_says source Nothing c wants = wants
wants_says source Ping c wants = tt
wants_says source (Asks request delay) c wants = tt
wants_says source (OnChannel at input) c wants = tt
wants_says source (Reports at number report) c wants = tt
wants_says source (OnConnection number input) c wants = tt

pub read_wants : (source : ℕ) (frame : Frame) → IsReadableFrame source frame → MayWantFrame source frame
read_wants source frame h = inr h

pub word_wants : {T E : Type 0} (r : Result T E) (source : ℕ) (frame : Frame) (word : Word) (c : Controller) → word ≡ word_of source frame →
    IfErr r (λ (e : E). MayWantWord source word c) → IfErr r (λ (e : E). MayWantFrame source frame)
word_wants r source frame word c is h = refusal_by r (λ wants. frame_said source frame word is (wants_says source word c wants)) h

pub frame_wants : {T E : Type 0} (r : Result T E) (c : Controller) (item : Item) (frame : Frame) → is_up c item.source ≡ true → item.what ≡ whats.Frame frame →
    IfErr r (λ (e : E). MayWantFrame item.source frame) → IfErr r (λ (e : E). MayWantMemory (Take item) c)
frame_wants r c item frame up is h = refusal_by r (λ wants. (up, rw is wants)) h

pub break_wants : {T E : Type 0} (r : Result T E) (c : Controller) (item : Item) → is_up c item.source ≡ true → item.what ≡ whats.Down →
    IfErr r (λ (e : E). IsDue (Break item.source) c) → IfErr r (λ (e : E). MayWantMemory (Take item) c)
break_wants r c item up is h = refusal_by r (λ wants. (up, rw is wants)) h

-- a frame, or the end of a link
pub ruleset wants = (frame_wants, break_wants)

-- ---- a row: whether one fits doesn't depend on the offer

if_alike : (b : Bool) (r other : Row) → is_some (row_if b r) ≡ is_some (row_if b other)
if_alike true r other = refl
if_alike false r other = refl

nack_alike : (st : State) (s : Connection) (at : Place) (offer : Option Channel) →
    is_some (on_activation_nack st s at offer) ≡ is_some (on_activation_nack st s at None)
nack_alike WaitActivation s at offer = refl
nack_alike WaitEstablish s at offer = refl
nack_alike WaitConfirm s at offer = refl
nack_alike (Live reference Active) s at offer = refl
nack_alike (Live reference (Preparing target)) s at offer = if_alike (is_at at target.channel) _ _
nack_alike (Live reference (Changing target)) s at offer = refl
nack_alike (Live reference Draining) s at offer = refl
nack_alike (Closed clearing) s at offer = refl
nack_alike Removed s at offer = refl

complete_alike : (st : State) (s : Connection) (at : Place) (change : Change) (cause : ℕ) (offer : Option Channel) →
    is_some (on_complete st s at change cause offer) ≡ is_some (on_complete st s at change cause None)
complete_alike WaitActivation s at change cause offer = refl
complete_alike WaitEstablish s at change cause offer = refl
complete_alike WaitConfirm s at change cause offer = refl
complete_alike (Live reference Active) s at change cause offer = refl
complete_alike (Live reference (Preparing target)) s at change cause offer = refl
complete_alike (Live reference (Changing target)) s at change cause offer = if_alike (is_at at target.channel && same_change change target.change) _ _
complete_alike (Live reference Draining) s at change cause offer = refl
complete_alike (Closed clearing) s at change cause offer = refl
complete_alike Removed s at change cause offer = refl

failure_alike : (st : State) (s : Connection) (at : Place) (change : Change) (cause : ℕ) (offer : Option Channel) →
    is_some (on_failure st s at change cause offer) ≡ is_some (on_failure st s at change cause None)
failure_alike WaitActivation s at change cause offer = refl
failure_alike WaitEstablish s at change cause offer = refl
failure_alike WaitConfirm s at change cause offer = refl
failure_alike (Live reference Active) s at change cause offer = refl
failure_alike (Live reference (Preparing target)) s at change cause offer = refl
failure_alike (Live reference (Changing target)) s at change cause offer = if_alike (is_at at s.serving && same_change change target.change) _ _
failure_alike (Live reference Draining) s at change cause offer = refl
failure_alike (Closed clearing) s at change cause offer = refl
failure_alike Removed s at change cause offer = refl

release_in_alike : (place : Option ℕ) (reference : ℕ) (stage : Stage) (offer : Option Channel) (s : Connection) →
    is_some (release_in place reference stage offer s) ≡ is_some (release_in place reference stage None s)
release_in_alike None reference stage offer s = refl
release_in_alike (Some place) reference stage offer s = refl

release_alike : (st : State) (s : Connection) (at : Place) (offer : Option Channel) →
    is_some (on_release_ack st s at offer) ≡ is_some (on_release_ack st s at None)
release_alike WaitActivation s at offer = refl
release_alike WaitEstablish s at offer = refl
release_alike WaitConfirm s at offer = refl
release_alike (Live reference stage) s at offer = release_in_alike (drain_at at s.draining) reference stage offer s
release_alike (Closed clearing) s at offer = refl
release_alike Removed s at offer = refl

move_alike : (st : State) (s : Connection) (offer : Option Channel) → is_some (on_move st s offer) ≡ is_some (on_move st s None)
move_alike WaitActivation s offer = refl
move_alike WaitEstablish s offer = refl
move_alike WaitConfirm s offer = refl
move_alike (Live reference stage) s offer = if_alike (may_begin stage s.draining) _ _
move_alike (Closed clearing) s offer = refl
move_alike Removed s offer = refl

request_alike : (st : State) (s : Connection) (is_speech : Bool) (offer : Option Channel) →
    is_some (on_assignment_request st s is_speech offer) ≡ is_some (on_assignment_request st s is_speech None)
request_alike WaitActivation s is_speech offer = refl
request_alike WaitEstablish s is_speech offer = refl
request_alike WaitConfirm s is_speech offer = refl
request_alike (Live reference stage) s is_speech offer = refl
request_alike (Closed clearing) s is_speech offer = refl
request_alike Removed s is_speech offer = refl

fits_alike : (s : Connection) (input : Input) (offer : Option Channel) → is_some (row_of s input offer) ≡ is_some (row_of s input None)
unfolding row_of
fits_alike s (inputs.ActivationNack at) offer = nack_alike s.state s at offer
fits_alike s (inputs.Complete at change cause) offer = complete_alike s.state s at change cause.0 offer
fits_alike s (inputs.Failure at change cause) offer = failure_alike s.state s at change cause.0 offer
fits_alike s (inputs.ReleaseAck at) offer = release_alike s.state s at offer
fits_alike s inputs.Move offer = move_alike s.state s offer
fits_alike s (inputs.AssignmentRequest is_speech) offer = request_alike s.state s is_speech offer
fits_alike s (inputs.ActivationAck at) offer = refl
fits_alike s (inputs.EstablishIndication at sapi message) offer = refl
fits_alike s (inputs.EstablishConfirm at sapi) offer = refl
fits_alike s (inputs.ReleaseIndication at sapi) offer = refl
fits_alike s (inputs.ErrorIndication at sapi) offer = refl
fits_alike s (inputs.ConnectionFailure at) offer = refl
fits_alike s (inputs.Dtap at sapi message) offer = refl
fits_alike s (inputs.ConnectionConfirm source) offer = refl
fits_alike s inputs.ConnectionRefused offer = refl
fits_alike s (inputs.Released source) offer = refl
fits_alike s (inputs.Downlink sapi message) offer = refl
fits_alike s inputs.CipherModeCommand offer = refl
fits_alike s inputs.ClearCommand offer = refl
fits_alike s inputs.Expiry offer = refl
fits_alike s inputs.DrainExpiry offer = refl
fits_alike s (inputs.StationDown station) offer = refl
fits_alike s inputs.SwitchDown offer = refl

pub row_fits : (o : Option Entry) (input : Input) (offer : Option Channel) → is_some (row_at input offer o) ≡ true → fits o input ≡ true
row_fits None input offer some = some
row_fits (Some e) input offer some = sym (fits_alike e.connection input offer) ∙ some

-- ---- a channel that is asked for

pub given_on_refusal : {T : Type 0} (r : Result T Memory) (c : Controller) (station : ℕ) →
    may_open c ≡ true →
    is_some (access_channel c station) ≡ true →
    IfErr r (λ (e : Memory). IsGiven c station)
given_on_refusal r c station opens free = any_refusal r (IsGiven c station) (opens, free)

-- ---- a report

pub compares : (number : ℕ) (report : Report) (o : Option Entry) → ComparesWith number report o → MayWantReport number report o
compares number report o compared = inl compared

pub moves_by : (number : ℕ) (report : Report) (d : Decision) (o : Option Entry) →
    d ≡ decision_with number report o →
    MovesBy d o →
    MayWantReport number report o
moves_by number report d o is moves = inr (subst (λ (decision : Decision). MovesBy decision o) is moves)

-- it is compared, or a handover begins
pub ruleset reports = (compares, moves_by)

pub measured_wants : {T : Type 0} (r : Result T Memory) (at : Place) (number : ℕ) (report : Report) (o : Option Entry) → measures_in at o ≡ true →
    IfErr r (λ (e : Memory). MayWantReport number report o) → IfErr r (λ (e : Memory). MayWantReportAt at number report o)
measured_wants r at number report o measured wants = refusal_by r (λ want. (measured, want)) wants

-- ---- what is held

pub held_there : {T : Type 0} (r : Result T Memory) (sapi : Sapi) (e : Entry) (o : Option Entry) →
    o ≡ Some e →
    messages e.connection.down sapi ≢ [] →
    WantsForHeld r (all_held_for sapi o)
held_there r sapi e o is some = any_refusal r (all_held_for sapi o ≢ []) (subst (λ (found : Option Entry). all_held_for sapi found ≢ []) (sym is) some)

pub held_up_there : {T : Type 0} (r : Result T Memory) (sapi : Sapi) (e : Entry) (o : Option Entry) →
    o ≡ Some e →
    WantsForHeld r (joined sapi e.connection.up.tenures) →
    WantsForHeld r (held_up_for sapi o)
held_up_there r sapi e o is wants =
    refusal_by r (λ (some : joined sapi e.connection.up.tenures ≢ []). subst (λ (found : Option Entry). held_up_for sapi found ≢ []) (sym is)
    (λ none. some (joined_is sapi e.connection.up.tenures ∙ none))) wants
