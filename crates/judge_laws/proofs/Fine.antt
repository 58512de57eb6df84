-- SPDX-License-Identifier: MIT OR Apache-2.0
-- What holds of a controller and of a judge of its frames at the end of each step.
use Rattle.std.proofs.Common.{◌≡◌, ℕ, ◌≤◌, false, List, [], Option, Some, None, refl}
use Rattle.std.specs.List.{AllByRecursion}
use Rattle.conn_messages.specs.declared.channel.Change.TheVariants.{Assignment, Handover}
use Rattle.conn_rules.specs.Connection.{Connection}
use Rattle.conn_rules.specs.declared.state.Clearing.TheVariants.{Due, Asked as WasAsked, Complete}
use Rattle.conn_rules.specs.declared.state.Stage.TheVariants.{Preparing}
use Rattle.conn_rules.specs.declared.state.State.{State}
use Rattle.conn_rules.specs.declared.state.State.TheVariants.{Closed, Live, WaitActivation, WaitConfirm, WaitEstablish}
use Rattle.conn_rules.specs.declared.state.Target.{Target}
use Rattle.controller_model.specs.declared.channel_state.ChannelState.TheVariants.{InUse}
use Rattle.controller_model.specs.Controller.{Controller, new_controller, state_in}
use Rattle.controller_model.specs.LifeLaws.History.{connection_of}
use Rattle.dtap_codec.specs.RrReading.{rr_reading}
use Rattle.run_judge.specs.declared.channels.ChannelView.{ChannelView}
use Rattle.run_judge.specs.declared.channels.ChannelView.TheVariants as views
use Rattle.run_judge.specs.declared.connection.Tenure.{Tenure}
use Rattle.run_judge.specs.declared.said.Said.TheVariants as says
use Rattle.run_judge.specs.declared.said.StationChannel.{StationChannel}
use Rattle.run_judge.specs.Channels.{view_at}
use Rattle.run_judge.specs.ConnectionState.{ConnectionState}
use Rattle.run_judge.specs.Judging.{Judging, new_judging}
use Rattle.run_judge.specs.Reading.{command, is_dtap}
use Rattle.settings.specs.Parameters.{Parameters}
use Rattle.judge_laws.proofs.Moving.{IsNamed}
use Rattle.judge_laws.proofs.Well.{Well}
use Rattle.judge_laws.specs.Agreeing.{Agrees, IsAsked, lines_of}
use Rattle.judge_laws.specs.Places.{at_of, spot}

-- ---- how far a connection is

abbrev pub IsEarly : State → Type 0
IsEarly WaitActivation = Unit {0}
IsEarly WaitEstablish = Unit {0}
IsEarly _ = ⊥

-- it isn't there yet, or the switch wasn't asked for it
abbrev pub IsUnasked : ℕ → ℕ → Option Connection → Type 0
IsUnasked next n None = next ≤ n
IsUnasked next n (Some s) = IsEarly s.state

-- the switch calls it so
abbrev pub IsCalled : ℕ → State → Type 0
IsCalled reference (Live own stage) = own ≡ reference
IsCalled reference (Closed (WasAsked own)) = own ≡ reference
IsCalled reference _ = ⊥

abbrev pub IsUnconfirmed : State → Type 0
IsUnconfirmed WaitConfirm = Unit {0}
IsUnconfirmed (Closed (Due cause)) = Unit {0}
IsUnconfirmed _ = ⊥

-- the judge has it
abbrev pub IsPresent : Option ConnectionState → Type 0
IsPresent None = ⊥
IsPresent (Some k) = Unit {0}

-- CLEAR COMPLETE wasn't put
abbrev pub IsUncleared : State → Type 0
IsUncleared (Closed Complete) = ⊥
IsUncleared _ = Unit {0}

-- the channel wasn't activated for a handover
abbrev pub IsNotOffered : ChannelView → Type 0
IsNotOffered (views.Activated (Some reference)) = ⊥
IsNotOffered view = Unit {0}

-- a message of radio resource management that isn't taken for a COMMAND of the controller
abbrev pub IsNoCommand : List ℕ → Type 0
IsNoCommand l3 = is_dtap l3 ≡ false → (at : StationChannel) → command at (rr_reading l3) ≡ says.Nothing

-- ---- one that is judged

pub record IsJudged (n : ℕ) (s : Connection) (k : ConnectionState) (j : Judging) : Type 0 where
  pub agrees : IsAsked s.state → Agrees s k
  -- its channels are its own: old ones, the serving one, the one that is awaited
  pub owned : IsAsked s.state → AllByRecursion (λ (t : Tenure). view_at j.channels t.at ≡ views.Owned n k.number) (lines_of k)
  pub uncleared : IsUncleared s.state → k.is_cleared ≡ false
  pub called : (reference : ℕ) → IsCalled reference s.state → k.switch ≡ Some reference
  -- nothing that is held for the mobile is taken for a COMMAND
  pub commandless : AllByRecursion IsNoCommand s.down.zero × AllByRecursion IsNoCommand s.down.three

-- ---- any one

pub record IsFine (c : Controller) (j : Judging) (n : ℕ) : Type 0 where
  -- it is there only once the switch was asked for it
  pub unasked : IsUnasked c.next_number n (connection_of c n) → j.connections n ≡ None
  -- and then the judge says no fault of it, whatever becomes of it
  pub well : (k : ConnectionState) → j.connections n ≡ Some k → Well n k
  pub judged : (s : Connection) (k : ConnectionState) →
      connection_of c n ≡ Some s →
      j.connections n ≡ Some k →
      k.unjudged ≡ None →
      IsJudged n s k j
  -- whose the switch's reference is, to which its DT1s go
  pub named : (s : Connection) (reference : ℕ) →
      connection_of c n ≡ Some s →
      IsCalled reference s.state →
      IsNamed n (j.by_switch reference) (j.connections n)
  pub unconfirmed : (s : Connection) (k : ConnectionState) →
      connection_of c n ≡ Some s →
      IsUnconfirmed s.state →
      j.connections n ≡ Some k →
      k.switch ≡ None
  -- the judge has it, from the CR to the switch's answer
  pub present : (s : Connection) → connection_of c n ≡ Some s → IsUnconfirmed s.state → IsPresent (j.connections n)
  -- its channel for access may be that of an initial message
  pub access : (s : Connection) → connection_of c n ≡ Some s → IsEarly s.state → IsNotOffered (view_at j.channels (at_of s.serving))
  -- the target of a handover is offered until the COMMAND; that of an assignment is of the same station
  pub offered : (s : Connection) (reference : ℕ) (target : Target) →
      connection_of c n ≡ Some s →
      s.state ≡ Live reference (Preparing target) →
      target.change ≡ Handover →
      view_at j.channels (at_of target.channel) ≡ views.Activated (Some target.channel.reference.0)
  pub assigned : (s : Connection) (reference : ℕ) (target : Target) →
      connection_of c n ≡ Some s →
      s.state ≡ Live reference (Preparing target) →
      target.change ≡ Assignment →
      target.channel.station ≡ s.serving.station

pub record AreFine (c : Controller) (j : Judging) : Type 0 where
  pub each : (n : ℕ) → IsFine c j n
  -- a channel in use is no other connection's
  pub owners : (at : StationChannel) (n m number : ℕ) →
      state_in c.channels (spot at) ≡ InUse n →
      view_at j.channels at ≡ views.Owned m number →
      m ≡ n

-- the judge knows the cell of no station
abbrev pub KnowsNone : Judging → Type 0
KnowsNone j = j.cells ≡ []

-- at first
pub new_fine : (p : Parameters) (modulus : ℕ) → AreFine (new_controller p) (new_judging modulus [])
new_fine p modulus = record {
  each = λ n. record {
    unasked = λ un. refl;
    well = λ k is. absurd (let none : None ≡ Some k = is in cc);
    judged = λ s k is there none. absurd (let none : None ≡ Some s = is in cc);
    named = λ s reference is called. absurd (let none : None ≡ Some s = is in cc);
    unconfirmed = λ s k is un there. absurd (let none : None ≡ Some s = is in cc);
    present = λ s is un. absurd (let none : None ≡ Some s = is in cc);
    access = λ s is early. absurd (let none : None ≡ Some s = is in cc);
    offered = λ s reference target is state change. absurd (let none : None ≡ Some s = is in cc);
    assigned = λ s reference target is state change. absurd (let none : None ≡ Some s = is in cc);
  };
  owners = λ at n m number using view. absurd (let none : views.Unknown ≡ views.Owned m number = view in cc);
}
