-- SPDX-License-Identifier: MIT OR Apache-2.0
-- The judge's state of a connection whose row follows, after the row's input; also for inputs in
-- which a judge hears nothing.
use Rattle.std.proofs.Common.{◌≡◌, ◌≢◌, ℕ, ◌==◌, ◌&&◌, Bool, true, false, List, [], ◌++◌, Option, Some, None, refl, sym, subst, ap, ◌∙◌, filter, ◌∷◌, inl, inr}
use Rattle.std.proofs.lemmas.Bool.{and_parts, cond-true, eqb-true}
use Rattle.std.specs.List.{AllByRecursion}
use Rattle.std.specs.Prelude.{map, if◌then◌else◌}
use Rattle.conn_messages.specs.declared.channel.Change.TheVariants.{Assignment, Handover}
use Rattle.conn_messages.specs.declared.channel.Channel.{Channel}
use Rattle.conn_messages.specs.declared.channel.Place.{Place}
use Rattle.conn_rules.specs.Connection.{Connection, drain_at, is_at}
use Rattle.conn_rules.specs.declared.input.Input.{Input}
use Rattle.conn_rules.specs.declared.input.Input.TheVariants as inputs
use Rattle.conn_rules.specs.declared.state.Clearing.TheVariants.{Due}
use Rattle.conn_rules.specs.declared.state.Stage.TheVariants.{Preparing}
use Rattle.conn_rules.specs.declared.state.State.{State}
use Rattle.conn_rules.specs.declared.state.State.TheVariants.{Closed, Live, Removed, WaitActivation, WaitConfirm, WaitEstablish}
use Rattle.conn_rules.specs.declared.state.Target.{Target}
use Rattle.conn_rules.specs.Roles.{RemainsOpen, RoleStep, Roles, awaits_at, changes_by, is_target_at, leaves_at, roles_of, step_by}
use Rattle.conn_rules.specs.Roles.RoleStep.{commands as command_step, completes, reverts, unchanged}
use Rattle.conn_rules.specs.Steps.{Row}
use Rattle.conn_rules.specs.Streams.{AreApart, Ends, IsOpen, from_input, is_dtap, received_by, relayed, still_to_relay, undone, used_channels}
use Rattle.conn_rules.specs.Table.{command_to, on_activation_ack, on_activation_nack, refuse, row_if, row_of}
use Rattle.conn_rules.specs.Validity.{IsValid}
use Rattle.controller_model.specs.Controller.{Controller, Entry, place_of, state_in, channel_state, entry_of, freed, with_state}
use Rattle.controller_model.specs.declared.channel_state.ChannelState.TheVariants.{InUse, Free}
use Rattle.controller_model.specs.LifeLaws.History.{connection_of}
use Rattle.dtap_codec.specs.declared.sapi.Sapi.{Sapi}
use Rattle.dtap_codec.specs.declared.sapi.Sapi.TheVariants.{Zero, Three}
use Rattle.hold_queue.specs.HoldState.{messages}
use Rattle.run_judge.specs.declared.channels.ChannelView.{ChannelView}
use Rattle.run_judge.specs.declared.channels.ChannelView.TheVariants as views
use Rattle.run_judge.specs.declared.connection.Tenure.{Tenure}
use Rattle.run_judge.specs.declared.said.StationChannel.{StationChannel}
use Rattle.run_judge.specs.Channels.{view_at}
use Rattle.run_judge.specs.ConnectionState.{ConnectionState}
use Rattle.run_judge.specs.Judging.{Judging, after}
use Rattle.judge_laws.proofs.Agreeing.{After, Arrived, after_row, carried_on, down_is, downlink, prepared_unchanged, uplink}
use Rattle.judge_laws.proofs.Arrivals.{nothing_received}
use Rattle.judge_laws.proofs.Changing.{up_same}
use Rattle.judge_laws.proofs.Fine.{IsCalled, IsEarly, IsFine, IsNoCommand, IsNotOffered, IsPresent, IsUncleared, IsUnasked, IsUnconfirmed, AreFine}
use Rattle.judge_laws.proofs.Moving.{IsNamed}
use Rattle.judge_laws.proofs.Opening.{MayBeIgnored}
use Rattle.judge_laws.proofs.Well.{Well}
use Rattle.judge_laws.specs.Agreeing.{Agrees, Future, IsAsked, IsOpenRow, Prepared, awaited_in, flow_of, lines_of}
use Rattle.judge_laws.specs.Places.{at_of, spot}
use Rattle.conn_messages.specs.declared.parameters.TheConstants.{SWITCH_LINK}
use Rattle.bssmap_codec.specs.SccpReading.{sccp_reading}
use Rattle.ipa_framing.specs.declared.frame.Frame.{Frame}
use Rattle.ipa_framing.specs.declared.streams.TheConstants.{CCM_STREAM, PING, RSL_STREAM, SCCP_STREAM}
use Rattle.rsl_codec.specs.RslReading.{rsl_reading}
use Rattle.controller_model.specs.declared.word.Word.{Word}
use Rattle.controller_model.specs.declared.word.Word.TheVariants as words
use Rattle.controller_model.specs.Life.{entry_at}
use Rattle.controller_model.specs.Reading.{body_word, link_management, management_of_link, other, word_of}
use Rattle.controller_model.proofs.LifeLaws.OwningWords.{Holds}
use Rattle.controller_model.proofs.LifeLaws.Places.{free≢use, set_or_not}
use Rattle.controller_model.proofs.LifeLaws.Sources.{IsFrom}
use Rattle.controller_model.proofs.LifeLaws.UsingWords.{IsHere, Ready}
use Rattle.run_judge.specs.declared.said.Said.{Said}
use Rattle.run_judge.specs.Reading.{said_by_station, said_by_switch}
use Rattle.judge_laws.specs.Lives.{said_in}
use Rattle.judge_laws.proofs.Hears.{station_matches, switch_matches}
use Rattle.judge_laws.specs.Hearing.{IsUnheard, Matches}

-- ---- a connection whose row follows

-- the switch calls it so once the input is heard
abbrev pub IsCalledBy : Input → ℕ → State → Type 0
IsCalledBy input reference WaitConfirm = input ≡ inputs.ConnectionConfirm reference
IsCalledBy input reference (Closed (Due cause)) = input ≡ inputs.ConnectionConfirm reference
IsCalledBy input reference state = IsCalled reference state

-- A row that remains open: what is prepared for it. Before the row of a COMMAND it agrees.
pub data Follows (s : Connection) (input : Input) (r : Row) (k : ConnectionState) : Type 0 where
  prepared : step_by input (roles_of s) ≢ command_step → Prepared r k → Follows s input r k
  commands : (reference : ℕ) (target : Target) →
      s.state ≡ Live reference (Preparing target) →
      input ≡ inputs.ActivationAck (place_of target.channel) →
      r ≡ command_to reference target s →
      Agrees s k →
      Follows s input r k

-- what an input brings for the mobile isn't taken for a COMMAND of the controller
abbrev pub BringsNoCommand : Input → Type 0
BringsNoCommand (inputs.Downlink sapi message) = IsNoCommand message
BringsNoCommand _ = Unit {0}

pub record IsReadyJudged (n : ℕ) (s : Connection) (input : Input) (r : Row) (k : ConnectionState) (j : Judging) : Type 0 where
  pub follows : IsAsked s.state → IsOpen r.next.state → Follows s input r k
  pub owned : IsAsked s.state → AllByRecursion (λ (t : Tenure). view_at j.channels t.at ≡ views.Owned n k.number) (lines_of k)
  pub uncleared : IsUncleared s.state → k.is_cleared ≡ false
  pub called : (reference : ℕ) → IsCalledBy input reference s.state → k.switch ≡ Some reference
  pub commandless : AllByRecursion IsNoCommand s.down.zero × AllByRecursion IsNoCommand s.down.three
  pub brings : BringsNoCommand input

-- the initial message came on the channel
abbrev pub IsOpening : List ℕ → ChannelView → Type 0
IsOpening message (views.Opened o) = (o.message ≡ message) × AllByRecursion MayBeIgnored o.early
IsOpening message view = ⊥

abbrev pub OpensBy : Input → ChannelView → Type 0
OpensBy (inputs.EstablishIndication at Zero (Some message)) view = IsOpening message view
OpensBy _ view = Unit {0}

pub record IsReadyOwn (n : ℕ) (s : Connection) (input : Input) (r : Row) (j : Judging) : Type 0 where
  pub unasked : IsEarly s.state → j.connections n ≡ None
  pub opens : s.state ≡ WaitEstablish → OpensBy input (view_at j.channels (at_of s.serving))
  pub well : (k : ConnectionState) → j.connections n ≡ Some k → Well n k
  pub judged : (k : ConnectionState) → j.connections n ≡ Some k → k.unjudged ≡ None → IsReadyJudged n s input r k j
  pub named : (reference : ℕ) → IsCalledBy input reference s.state → IsNamed n (j.by_switch reference) (j.connections n)
  -- where the row leaves it unconfirmed
  pub unconfirmed : (k : ConnectionState) → IsUnconfirmed s.state → IsUnconfirmed r.next.state → j.connections n ≡ Some k → k.switch ≡ None
  pub present : IsUnconfirmed s.state → IsUnconfirmed r.next.state → IsPresent (j.connections n)
  pub access : IsEarly s.state → IsNotOffered (view_at j.channels (at_of s.serving))
  pub offered : (reference : ℕ) (target : Target) →
      s.state ≡ Live reference (Preparing target) →
      target.change ≡ Handover →
      view_at j.channels (at_of target.channel) ≡ views.Activated (Some target.channel.reference.0)
  pub assigned : (reference : ℕ) (target : Target) →
      s.state ≡ Live reference (Preparing target) →
      target.change ≡ Assignment →
      target.channel.station ≡ s.serving.station

-- A row of this entry follows in a controller: all other connections are fine.
pub record IsReady (c : Controller) (e : Entry) (input : Input) (r : Row) (j : Judging) : Type 0 where
  pub own : IsReadyOwn e.connection.number e.connection input r j
  pub others : (m : ℕ) → m ≢ e.connection.number → IsFine c j m
  pub owners : (at : StationChannel) (n m number : ℕ) →
      state_in c.channels (spot at) ≡ InUse n →
      view_at j.channels at ≡ views.Owned m number →
      m ≡ n

-- ---- inputs in which a judge hears nothing

abbrev pub IsSilentInput : Input → Type 0
IsSilentInput (inputs.EstablishIndication at Zero (Some message)) = ⊥
IsSilentInput (inputs.Dtap at sapi message) = ⊥
IsSilentInput (inputs.Complete at change cause) = ⊥
IsSilentInput (inputs.Failure at change cause) = ⊥
IsSilentInput (inputs.ReleaseAck at) = ⊥
IsSilentInput (inputs.ConnectionConfirm source) = ⊥
IsSilentInput inputs.ConnectionRefused = ⊥
IsSilentInput (inputs.Downlink sapi message) = ⊥
IsSilentInput _ = Unit {0}

silent_future : (sapi : Sapi) (input : Input) (future : Future) → IsSilentInput input → from_input sapi input future ≡ future
silent_future Zero (inputs.Dtap at of message) future silent = absurd silent
silent_future Three (inputs.Dtap at of message) future silent = absurd silent
silent_future Zero (inputs.EstablishIndication at Zero (Some message)) future silent = absurd silent
silent_future Zero (inputs.EstablishIndication at Zero None) future silent = refl
silent_future Zero (inputs.EstablishIndication at Three message) future silent = refl
silent_future _ _ future silent = refl

silent_received : (sapi : Sapi) (input : Input) → IsSilentInput input → received_by sapi input ≡ []
silent_received Zero (inputs.Downlink of message) silent = absurd silent
silent_received Three (inputs.Downlink of message) silent = absurd silent
silent_received _ _ silent = refl

arrived_silent : (s : Connection) (input : Input) (k : ConnectionState) → IsSilentInput input → Agrees s k → Arrived s input k
arrived_silent s input k silent agrees = record {
  at = agrees.at;
  old = agrees.old;
  awaited = agrees.awaited;
  rising = agrees.rising;
  up = λ sapi. up_same (λ future. still_to_relay sapi future s) (λ future. still_to_relay sapi (from_input sapi input future) s) (lines_of k) k.serving.rank (flow_of sapi k.up) (λ future. ap (λ (f : Future). still_to_relay sapi f s) (silent_future sapi input future silent)) (agrees.up sapi);
  down = λ sapi. nothing_received sapi s input (flow_of sapi k.down) (silent_received sapi input silent) (agrees.down sapi);
  is_open = agrees.is_open;
}

-- only an ACTIVATION ACK brings a COMMAND
abbrev pub IsNoAck : Input → Type 0
IsNoAck (inputs.ActivationAck at) = ⊥
IsNoAck _ = Unit {0}

pub no_command_step : (input : Input) (roles : Roles) → IsNoAck input → step_by input roles ≢ command_step
no_command_step (inputs.ActivationAck at) roles none = absurd none
no_command_step (inputs.ActivationNack at) roles none = either (awaits_at at roles.target)
  where
    either : (b : Bool) → (let step : RoleStep = if b then reverts else unchanged in step) ≢ command_step
    either true same = cc
    either false same = cc
no_command_step (inputs.Complete at change cause) roles none = either (is_target_at at roles.target && changes_by change roles.target)
  where
    either : (b : Bool) → (let step : RoleStep = if b then completes else unchanged in step) ≢ command_step
    either true same = cc
    either false same = cc
no_command_step (inputs.Failure at change cause) roles none = either (is_at at roles.serving && changes_by change roles.target)
  where
    either : (b : Bool) → (let step : RoleStep = if b then reverts else unchanged in step) ≢ command_step
    either true same = cc
    either false same = cc
no_command_step (inputs.ReleaseAck at) roles none = by (drain_at at roles.draining)
  where
    by : (o : Option ℕ) → leaves_at o ≢ command_step
    by None same = cc
    by (Some place) same = cc
no_command_step _ roles none = λ same. cc

-- the target of a change that hasn't begun is given up
prepared_gives_up : (s : Connection) (input : Input) (offer : Option Channel) (r : Row) (k : ConnectionState) (reference : ℕ) (target : Target) →
    IsOpenRow s input offer r →
    s.state ≡ Live reference (Preparing target) →
    step_by input (roles_of s) ≡ reverts →
    ((future : Future) → Ends future s.state input) →
    Arrived s input k →
    Prepared r k
prepared_gives_up s input offer r k reference target row is back none arrived =
    let on : RemainsOpen reverts (roles_of s) s.down input offer r = subst (λ (step : RoleStep). RemainsOpen step (roles_of s) s.down input offer r) back (carried_on s input offer r row) in
    let after : After reverts s r = after_row reverts s input offer r on in
    record {
      at = arrived.at ∙ ap at_of (sym after.serving);
      old = arrived.old ∙ ap (λ ds. map at_of (undone ds)) (sym after.draining);
      awaited = arrived.awaited ∙ ap awaited_in is ∙ sym after.awaited;
      rising = arrived.rising;
      up = λ sapi. up_same (λ future. still_to_relay sapi (from_input sapi input future) s) (λ future. relayed sapi r.outs ++ still_to_relay sapi future r.next) (lines_of k) k.serving.rank (flow_of sapi k.up) (λ future. uplink s input offer r row sapi future (none future)) (arrived.up sapi);
      down = λ sapi. down_is sapi (filter is_dtap (messages s.down sapi ++ received_by sapi input)) (filter is_dtap (messages r.next.down sapi)) r.outs (flow_of sapi k.down) (downlink s input offer r row sapi) (arrived.down sapi);
      is_open = arrived.is_open;
    }

-- ---- what fits in the table

pub none_fits : {P : Type 0} (r : Row) → (let o : Option Row = None in o) ≡ Some r → P
none_fits r fits = absurd cc

pub where_true : (b : Bool) (q r : Row) → row_if b q ≡ Some r → (b ≡ true) × (q ≡ r)
where_true true q r fits = (refl, (let same : Some q ≡ Some r = fits in cc))
where_true false q r fits = none_fits r fits

at_place : (at : Place) (c : Channel) → is_at at c ≡ true → at ≡ place_of c
at_place at c is =
    let parts = and_parts (at.station == c.station) (at.number == c.number) is in
    ap (λ (k : ℕ). two k at.number) (eqb-true at.station c.station parts.0) ∙ ap (λ (k : ℕ). two c.station k) (eqb-true at.number c.number parts.1)
  where
    two : ℕ → ℕ → Place
    two station number = record { station = station; number = number }

-- an activation is acknowledged: the COMMAND follows
ack_follows : (s : Connection) (at : Place) (offer : Option Channel) (r : Row) (k : ConnectionState) →
    row_of s (inputs.ActivationAck at) offer ≡ Some r →
    IsAsked s.state →
    Agrees s k →
    Follows s (inputs.ActivationAck at) r k
unfolding row_of
ack_follows s at offer r k fits asked agrees = by s.state refl asked fits
  where
    by : (state : State) → s.state ≡ state → IsAsked state → on_activation_ack state s at ≡ Some r → Follows s (inputs.ActivationAck at) r k
    by (Live reference (Preparing target)) is asked fits =
        let parts = where_true (is_at at target.channel) (command_to reference target s) r fits in
        commands reference target is (ap (λ (p : Place). inputs.ActivationAck p) (at_place at target.channel parts.0)) (sym parts.1) agrees
    by WaitActivation is asked fits = absurd asked
    by _ is asked fits = none_fits r fits

-- or refused: the target is given up
nack_follows : (s : Connection) (at : Place) (offer : Option Channel) (r : Row) (k : ConnectionState) →
    IsOpenRow s (inputs.ActivationNack at) offer r →
    IsAsked s.state →
    Agrees s k →
    Follows s (inputs.ActivationNack at) r k
unfolding row_of
nack_follows s at offer r k row asked agrees = by s.state refl asked row.fits
  where
    by : (state : State) →
        s.state ≡ state →
        IsAsked state →
        on_activation_nack state s at offer ≡ Some r →
        Follows s (inputs.ActivationNack at) r k
    by (Live reference (Preparing target)) is asked fits =
        let parts = where_true (is_at at target.channel) (refuse reference target.change offer s) r fits in
        let back : step_by (inputs.ActivationNack at) (roles_of s) ≡ reverts = rw is (cond-true _ _ _ parts.0) in
        prepared (no_command_step (inputs.ActivationNack at) (roles_of s) tt) (prepared_gives_up s (inputs.ActivationNack at) offer r k reference target row is back (λ future. tt) (arrived_silent s (inputs.ActivationNack at) k tt agrees))
    by WaitActivation is asked fits = absurd asked
    by _ is asked fits = none_fits r fits

-- any other one leaves the channels
same_follows : (s : Connection) (input : Input) (offer : Option Channel) (r : Row) (k : ConnectionState) →
    IsOpenRow s input offer r →
    step_by input (roles_of s) ≡ unchanged →
    ((future : Future) → Ends future s.state input) →
    IsSilentInput input →
    Agrees s k →
    Follows s input r k
same_follows s input offer r k row still none silent agrees = prepared (λ same. (let differ : unchanged ≡ command_step = sym still ∙ same in cc)) (prepared_unchanged s input offer r k row still none (arrived_silent s input k silent agrees))

pub silent_follows : (s : Connection) (input : Input) (offer : Option Channel) (r : Row) (k : ConnectionState) →
    IsSilentInput input →
    IsOpenRow s input offer r →
    IsAsked s.state →
    Agrees s k →
    Follows s input r k
silent_follows s (inputs.ActivationAck at) offer r k silent row asked agrees = ack_follows s at offer r k row.fits asked agrees
silent_follows s (inputs.ActivationNack at) offer r k silent row asked agrees = nack_follows s at offer r k row asked agrees
silent_follows s (inputs.Complete at change cause) offer r k silent row asked agrees = absurd silent
silent_follows s (inputs.Failure at change cause) offer r k silent row asked agrees = absurd silent
silent_follows s (inputs.ReleaseAck at) offer r k silent row asked agrees = absurd silent
silent_follows s input offer r k silent row asked agrees = same_follows s input offer r k row refl (λ future. tt) silent agrees

-- ---- the connection of an entry

-- an input that isn't CC
abbrev pub IsNoConfirm : Input → Type 0
IsNoConfirm (inputs.ConnectionConfirm source) = ⊥
IsNoConfirm _ = Unit {0}

silent_confirm : (input : Input) → IsSilentInput input → IsNoConfirm input
silent_confirm (inputs.ConnectionConfirm source) silent = absurd silent
silent_confirm _ silent = tt

-- then the switch called it so before
pub called_before : (input : Input) (reference : ℕ) (state : State) →
    IsNoConfirm input →
    IsCalledBy input reference state →
    IsCalled reference state
called_before input reference WaitConfirm none called = subst IsNoConfirm called none
called_before input reference (Closed (Due cause)) none called = subst IsNoConfirm called none
called_before input reference state none called = called

pub silent_opens : (input : Input) (view : ChannelView) → IsSilentInput input → OpensBy input view
silent_opens (inputs.EstablishIndication at Zero (Some message)) view silent = absurd silent
silent_opens _ view silent = tt

silent_brings : (input : Input) → IsSilentInput input → BringsNoCommand input
silent_brings (inputs.Downlink sapi message) silent = absurd silent
silent_brings _ silent = tt

-- a connection that is fine is ready for the row of such an input
pub still_own : (c : Controller) (n : ℕ) (s : Connection) (input : Input) (offer : Option Channel) (r : Row) (j : Judging) →
    IsSilentInput input →
    connection_of c n ≡ Some s →
    row_of s input offer ≡ Some r →
    IsValid s →
    (IsOpen s.state → AreApart (used_channels s)) →
    IsFine c j n →
    IsReadyOwn n s input r j
still_own c n s input offer r j silent there fits valid apart fine = record {
  unasked = λ early. fine.unasked (subst (IsUnasked c.next_number n) (sym there) early);
  opens = λ waits. silent_opens input (view_at j.channels (at_of s.serving)) silent;
  well = fine.well;
  judged = λ k has judged.
      let old = fine.judged s k there has judged in
      record {
        follows = λ asked is_open. silent_follows s input offer r k silent (record { fits = fits; valid = valid; apart = apart (asked_open s.state asked); was_open = asked_open s.state asked; is_open = is_open }) asked (old.agrees asked);
        owned = old.owned;
        uncleared = old.uncleared;
        called = λ reference called. old.called reference (before reference called);
        commandless = old.commandless;
        brings = silent_brings input silent;
      };
  named = λ reference called. fine.named s reference there (before reference called);
  unconfirmed = λ k un after has. fine.unconfirmed s k there un has;
  present = λ un after. fine.present s there un;
  access = λ early. fine.access s there early;
  offered = λ reference target is change. fine.offered s reference target there is change;
  assigned = λ reference target is change. fine.assigned s reference target there is change;
}
  where
    before : (reference : ℕ) → IsCalledBy input reference s.state → IsCalled reference s.state
    before reference called = called_before input reference s.state (silent_confirm input silent) called

    asked_open : (state : State) → IsAsked state → IsOpen state
    asked_open WaitConfirm asked = tt
    asked_open (Live reference stage) asked = tt
    asked_open WaitActivation asked = absurd asked
    asked_open WaitEstablish asked = absurd asked
    asked_open (Closed clearing) asked = absurd asked
    asked_open Removed asked = absurd asked

-- ---- which connection a word is for

-- no row fits
abbrev pub MissedBy : Input → Option Entry → Type 0
MissedBy input None = Unit {0}
MissedBy input (Some e) = (offer : Option Channel) × (row_of e.connection input offer ≡ None)

abbrev pub IsMissed : Controller → Word → Type 0
IsMissed c (words.OnChannel at input) = MissedBy input (entry_at c (channel_state c at))
IsMissed c (words.OnConnection m input) = MissedBy input (entry_of c m)
IsMissed c _ = Unit {0}

-- the input of the word is this entry's
abbrev pub IsTaken : Controller → Word → Entry → Input → Type 0
IsTaken c (words.OnChannel at own) e input = (entry_at c (channel_state c at) ≡ Some e) × (own ≡ input)
IsTaken c (words.OnConnection m own) e input = (entry_of c m ≡ Some e) × (own ≡ input)
IsTaken c _ e input = ⊥

-- behind a frame for which no row fits all is fine
abbrev pub MissedKeep : Type 0
MissedKeep = (c : Controller) (frame : ℕ) (word : Word) (said : Said) (j : Judging) → Matches word said → IsMissed c word → Ready c → AreFine c j → AreFine c (after frame said j)

-- else the connection is ready for the row; the word is one that its link may have (`word_from`)
abbrev pub HeardKeep : Type 0
HeardKeep = (source : ℕ) (c : Controller) (frame : ℕ) (word : Word) (said : Said) (j : Judging) (e : Entry) (input : Input) (offer : Option Channel) (r : Row) → IsFrom source word → Matches word said → IsTaken c word e input
    → row_of e.connection input offer ≡ Some r → IsHere c.links c e → Ready c → AreFine c j → IsReady c e input r (after frame said j)

-- and where nothing is heard: also for timers, links and a move
abbrev pub PlainKeep : Type 0
PlainKeep = (links : List Bool) (c : Controller) (e : Entry) (input : Input) (offer : Option Channel) (r : Row) (j : Judging) → IsSilentInput input → IsHere links c e → Holds links c → row_of e.connection input offer ≡ Some r → AreFine c j → IsReady c e input r j

-- a channel may be freed before the row
pub ready_freed : (at : Place) (c : Controller) (e : Entry) (input : Input) (r : Row) (j : Judging) →
    IsReady c e input r j →
    IsReady (freed at c) e input r j
ready_freed at c e input r j ready = record {
  own = ready.own;
  others = λ m differ. freed_fine m (ready.others m differ);
  owners = λ place n m number using view. ready.owners place n m number (was place n using) view;
}
  where
    freed_fine : (m : ℕ) → IsFine c j m → IsFine (freed at c) j m
    freed_fine m fine = record {
      unasked = fine.unasked;
      well = fine.well;
      judged = fine.judged;
      named = fine.named;
      unconfirmed = fine.unconfirmed;
      present = fine.present;
      access = fine.access;
      offered = fine.offered;
      assigned = fine.assigned;
    }

    was : (place : StationChannel) (n : ℕ) →
        state_in (with_state at Free c.channels) (spot place) ≡ InUse n →
        state_in c.channels (spot place) ≡ InUse n
    was place n using = elim (set_or_not c.channels at (spot place) Free) [
      | inl free ↦ absurd (free≢use n (sym free ∙ using))
      | inr left ↦ sym left ∙ using
    ]

-- ---- frames

pub data SaysWord (word : Word) : List Said → Type 0 where
  one : (said : Said) → Matches word said → SaysWord word (said ∷ [])
  none : IsUnheard word → SaysWord word []

pub frame_matches : (link : ℕ) (frame : Frame) → SaysWord (word_of link frame) (said_in link frame)
unfolding word_of
frame_matches link frame = by (link == SWITCH_LINK) refl
  where
    managed : (body : List ℕ) → IsUnheard (management_of_link body)
    managed [] = tt
    managed (first ∷ rest) = ping (first == PING)
      where
        ping : (b : Bool) → IsUnheard (if b then words.Ping else words.Nothing)
        ping true = tt
        ping false = tt

    -- a frame of another stream
    silent : (b : Bool) → IsUnheard (body_word (if b then link_management else other) link frame.body)
    silent true = managed frame.body
    silent false = tt

    switch : (link == SWITCH_LINK) ≡ true →
        (b : Bool) →
        (frame.stream == SCCP_STREAM) ≡ b →
        SaysWord (word_of link frame) (said_in link frame)
    switch is true hit =
        let not_link : (frame.stream == CCM_STREAM) ≡ false = ap (λ (s : ℕ). s == CCM_STREAM) (eqb-true frame.stream SCCP_STREAM hit) in
        rw (is, hit, not_link) (one (said_by_switch (sccp_reading frame.body)) (switch_matches (sccp_reading frame.body)))
    switch is false miss = rw (is, miss) (none (silent (frame.stream == CCM_STREAM)))

    station : (link == SWITCH_LINK) ≡ false →
        (b : Bool) →
        (frame.stream == RSL_STREAM) ≡ b →
        SaysWord (word_of link frame) (said_in link frame)
    station is true hit =
        let not_link : (frame.stream == CCM_STREAM) ≡ false = ap (λ (s : ℕ). s == CCM_STREAM) (eqb-true frame.stream RSL_STREAM hit) in
        rw (is, hit, not_link) (one (said_by_station link (rsl_reading frame.body)) (station_matches link (rsl_reading frame.body)))
    station is false miss = rw (is, miss) (none (silent (frame.stream == CCM_STREAM)))

    by : (b : Bool) → (link == SWITCH_LINK) ≡ b → SaysWord (word_of link frame) (said_in link frame)
    by true is = switch is (frame.stream == SCCP_STREAM) refl
    by false is = station is (frame.stream == RSL_STREAM) refl
