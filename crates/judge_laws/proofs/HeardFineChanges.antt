-- SPDX-License-Identifier: MIT OR Apache-2.0
-- A frame that arrives changes at most one entry of a judge; what is fine stays fine.
use Rattle.std.proofs.Common.{◌≡◌, ℕ, false, List, Option, Some, None, refl, sym, subst, ap, ◌∙◌, option_map}
use Rattle.std.specs.List.{AllByRecursion}
use Rattle.conn_messages.specs.declared.channel.Change.TheVariants.{Assignment, Handover}
use Rattle.conn_rules.specs.Connection.{Connection}
use Rattle.conn_rules.specs.declared.input.Input.{Input}
use Rattle.conn_rules.specs.declared.state.Stage.TheVariants.{Preparing}
use Rattle.conn_rules.specs.declared.state.State.TheVariants.{Live, WaitEstablish}
use Rattle.conn_rules.specs.declared.state.Target.{Target}
use Rattle.conn_rules.specs.Steps.{Row}
use Rattle.conn_rules.specs.Streams.{IsOpen}
use Rattle.controller_model.specs.Controller.{Controller}
use Rattle.controller_model.specs.LifeLaws.History.{connection_of}
use Rattle.run_judge.specs.declared.channels.ChannelView.TheVariants as views
use Rattle.run_judge.specs.declared.connection.Tenure.{Tenure}
use Rattle.run_judge.specs.declared.connection.Unjudged.{Unjudged}
use Rattle.run_judge.specs.declared.judge.Named.{Named}
use Rattle.run_judge.specs.declared.judge.Named.TheVariants.{One, Shared}
use Rattle.run_judge.specs.declared.said.StationChannel.{StationChannel}
use Rattle.run_judge.specs.Channels.{view_at}
use Rattle.run_judge.specs.Connection.{while_judged, while_judged_of}
use Rattle.run_judge.specs.ConnectionState.{ConnectionState}
use Rattle.run_judge.specs.Judging.{Judging}
use Rattle.judge_laws.proofs.Fine.{IsCalled, IsEarly, IsFine, IsNoCommand, IsNotOffered, IsPresent, IsUnasked, IsUncleared, IsUnconfirmed}
use Rattle.judge_laws.proofs.HeardFine.{BringsNoCommand, Follows, IsCalledBy, IsNoConfirm, IsReadyOwn, OpensBy, called_before}
use Rattle.judge_laws.proofs.Moving.{IsNamed}
use Rattle.judge_laws.proofs.Well.{Well, well_judged}
use Rattle.judge_laws.specs.Agreeing.{Agrees, IsAsked, lines_of}
use Rattle.judge_laws.specs.Places.{at_of}

abbrev Entry : Type 0
Entry = Option ConnectionState

-- the channels of this connection are its own
abbrev pub AreOwned : Judging → ℕ → ℕ → List Tenure → Type 0
AreOwned j n number ts = AllByRecursion (λ (t : Tenure). view_at j.channels t.at ≡ views.Owned n number) ts

-- what is seen of channels that are no connection's remains
pub record Sees (j next : Judging) : Type 0 where
  pub access : (at : StationChannel) → IsNotOffered (view_at j.channels at) → IsNotOffered (view_at next.channels at)
  pub offered : (at : StationChannel) (reference : ℕ) →
      view_at j.channels at ≡ views.Activated (Some reference) →
      view_at next.channels at ≡ views.Activated (Some reference)

pub sees_same : (j next : Judging) → next.channels ≡ j.channels → Sees j next
sees_same j next same = record {
  access = λ at was. subst (λ stations. IsNotOffered (view_at stations at)) (sym same) was;
  offered = λ at reference was. ap (λ stations. view_at stations at) same ∙ was;
}

pub owned_same : (j next : Judging) →
    next.channels ≡ j.channels →
    (n number : ℕ) (ts : List Tenure) →
    AreOwned j n number ts →
    AreOwned next n number ts
owned_same j next same n number ts owned = subst (λ stations. AllByRecursion (λ (t : Tenure). view_at stations t.at ≡ views.Owned n number) ts) (sym same) owned

-- ---- a change that keeps what isn't said of flows and channels

pub record IsTame (change : ConnectionState → ConnectionState) : Type 0 where
  pub well : (n : ℕ) (k : ConnectionState) → Well n k → Well n (change k)
  pub switch : (k : ConnectionState) → (change k).switch ≡ k.switch
  pub cleared : (k : ConnectionState) → (change k).is_cleared ≡ k.is_cleared
  pub number : (k : ConnectionState) → (change k).number ≡ k.number

-- where the frame is for this connection, its entry changes; else it remains
pub data Changes (Hit : ConnectionState → Type 0) (change : ConnectionState → ConnectionState) (c : Controller) (j next : Judging) (n : ℕ) : Type 0 where
  still : next.connections n ≡ j.connections n → ((k : ConnectionState) → j.connections n ≡ Some k → Hit k → ⊥)
      → ((k : ConnectionState) → j.connections n ≡ Some k → AreOwned j n k.number (lines_of k) → AreOwned next n k.number (lines_of k))
      → Changes Hit change c j next n
  moves : (k : ConnectionState) → j.connections n ≡ Some k → Hit k → next.connections n ≡ option_map (while_judged change) (j.connections n)
      → ((s : Connection) → connection_of c n ≡ Some s → IsAsked s.state → Agrees s k → AreOwned j n k.number (lines_of k) → AreOwned next n k.number (lines_of (change k)))
      → Changes Hit change c j next n

pub same_names : (n : ℕ) (o : Option Named) (change : ConnectionState → ConnectionState) (x : Entry) →
    IsNamed n o x →
    IsNamed n o (option_map (while_judged change) x)
same_names n None change x named = absurd named
same_names n (Some (One m)) change x named = named
same_names n (Some Shared) change None named = named
same_names n (Some Shared) change (Some k) named = (named.0, ap (λ (u : Option Unjudged). (while_judged_of u change k).unjudged) named.1 ∙ named.1)

-- ---- all that is fine but for the agreement

pub record IsKept (n : ℕ) (s : Connection) (k : ConnectionState) (j : Judging) : Type 0 where
  pub owned : IsAsked s.state → AreOwned j n k.number (lines_of k)
  pub uncleared : IsUncleared s.state → k.is_cleared ≡ false
  pub called : (reference : ℕ) → IsCalled reference s.state → k.switch ≡ Some reference
  pub commandless : AllByRecursion IsNoCommand s.down.zero × AllByRecursion IsNoCommand s.down.three

pub record IsBehind (c : Controller) (j : Judging) (n : ℕ) : Type 0 where
  pub unasked : IsUnasked c.next_number n (connection_of c n) → j.connections n ≡ None
  pub well : (k : ConnectionState) → j.connections n ≡ Some k → Well n k
  pub kept : (s : Connection) (k : ConnectionState) →
      connection_of c n ≡ Some s →
      j.connections n ≡ Some k →
      k.unjudged ≡ None →
      IsKept n s k j
  pub named : (s : Connection) (reference : ℕ) →
      connection_of c n ≡ Some s →
      IsCalled reference s.state →
      IsNamed n (j.by_switch reference) (j.connections n)
  pub unconfirmed : (s : Connection) (k : ConnectionState) →
      connection_of c n ≡ Some s →
      IsUnconfirmed s.state →
      j.connections n ≡ Some k →
      k.switch ≡ None
  pub present : (s : Connection) → connection_of c n ≡ Some s → IsUnconfirmed s.state → IsPresent (j.connections n)
  pub access : (s : Connection) → connection_of c n ≡ Some s → IsEarly s.state → IsNotOffered (view_at j.channels (at_of s.serving))
  pub offered : (s : Connection) (reference : ℕ) (target : Target) →
      connection_of c n ≡ Some s →
      s.state ≡ Live reference (Preparing target) →
      target.change ≡ Handover →
      view_at j.channels (at_of target.channel) ≡ views.Activated (Some target.channel.reference.0)
  pub assigned : (s : Connection) (reference : ℕ) (target : Target) →
      connection_of c n ≡ Some s →
      s.state ≡ Live reference (Preparing target) →
      target.change ≡ Assignment →
      target.channel.station ≡ s.serving.station

-- the same for a judge of which the row's own connection agrees
abbrev pub AgreeIn : Controller → Judging → ℕ → Type 0
AgreeIn c j n = (s : Connection) (k : ConnectionState) → connection_of c n ≡ Some s → j.connections n ≡ Some k → k.unjudged ≡ None → IsAsked s.state → Agrees s k

pub fine_by : (c : Controller) (j : Judging) (n : ℕ) → IsBehind c j n → AgreeIn c j n → IsFine c j n
fine_by c j n behind agree = record {
  unasked = behind.unasked;
  well = behind.well;
  judged = λ s k there has judged.
      let kept = behind.kept s k there has judged in
      record { agrees = λ asked. agree s k there has judged asked; owned = kept.owned; uncleared = kept.uncleared; called = kept.called; commandless = kept.commandless };
  named = behind.named;
  unconfirmed = behind.unconfirmed;
  present = behind.present;
  access = behind.access;
  offered = behind.offered;
  assigned = behind.assigned;
}

abbrev pub FollowIn : Judging → ℕ → Connection → Input → Row → Type 0
FollowIn j n s input r = (k : ConnectionState) → j.connections n ≡ Some k → k.unjudged ≡ None → IsAsked s.state → IsOpen r.next.state → Follows s input r k

pub ready_by : (c : Controller) (j : Judging) (n : ℕ) (s : Connection) (input : Input) (r : Row) →
    connection_of c n ≡ Some s →
    IsNoConfirm input →
    ((k : ConnectionState) → j.connections n ≡ Some k → k.unjudged ≡ None → BringsNoCommand input) →
    (s.state ≡ WaitEstablish → OpensBy input (view_at j.channels (at_of s.serving))) →
    IsBehind c j n →
    FollowIn j n s input r →
    IsReadyOwn n s input r j
ready_by c j n s input r there no_confirm brings opens behind follow = record {
  unasked = λ early. behind.unasked (subst (IsUnasked c.next_number n) (sym there) early);
  opens = opens;
  well = behind.well;
  judged = λ k has judged.
      let kept = behind.kept s k there has judged in
      record {
        follows = follow k has judged;
        owned = kept.owned;
        uncleared = kept.uncleared;
        called = λ reference called. kept.called reference (before reference called);
        commandless = kept.commandless;
        brings = brings k has judged;
      };
  named = λ reference called. behind.named s reference there (before reference called);
  unconfirmed = λ k un after has. behind.unconfirmed s k there un has;
  present = λ un after. behind.present s there un;
  access = λ early. behind.access s there early;
  offered = λ reference target is change. behind.offered s reference target there is change;
  assigned = λ reference target is change. behind.assigned s reference target there is change;
}
  where
    before : (reference : ℕ) → IsCalledBy input reference s.state → IsCalled reference s.state
    before reference called = called_before input reference s.state no_confirm called

-- ---- behind the frame

-- an entry that is judged, behind a change
pub record WasJudged (change : ConnectionState → ConnectionState) (k x : ConnectionState) : Type 0 where
  pub judged : k.unjudged ≡ None
  pub is : change k ≡ x

pub was_judged : (change : ConnectionState → ConnectionState) (k x : ConnectionState) →
    while_judged change k ≡ x →
    x.unjudged ≡ None →
    WasJudged change k x
was_judged change k x same judged = by k.unjudged refl
  where
    by : (u : Option Unjudged) → k.unjudged ≡ u → WasJudged change k x
    by None is = record { judged = is; is = sym (ap (λ (u : Option Unjudged). while_judged_of u change k) is) ∙ same }
    by (Some unjudged) is =
        let left : k ≡ x = sym (ap (λ (u : Option Unjudged). while_judged_of u change k) is) ∙ same in
        absurd (let both : Some unjudged ≡ None = sym is ∙ ap (λ (y : ConnectionState). y.unjudged) left ∙ judged in cc)

same_switch : (change : ConnectionState → ConnectionState) (k : ConnectionState) →
    (change k).switch ≡ k.switch →
    (while_judged change k).switch ≡ k.switch
same_switch change k same = by k.unjudged
  where
    by : (u : Option Unjudged) → (while_judged_of u change k).switch ≡ k.switch
    by None = same
    by (Some unjudged) = refl

abbrev pub KeepsNames : Judging → Judging → ℕ → Type 0
KeepsNames j next n = (source : ℕ) → IsNamed n (j.by_switch source) (j.connections n) → IsNamed n (next.by_switch source) (next.connections n)

pub still_behind : (c : Controller) (j next : Judging) (n : ℕ) → next.connections n ≡ j.connections n → KeepsNames j next n → Sees j next
    → ((k : ConnectionState) → j.connections n ≡ Some k → AreOwned j n k.number (lines_of k) → AreOwned next n k.number (lines_of k)) → IsFine c j n → IsBehind c next n
still_behind c j next n same names sees owned fine = record {
  unasked = λ un. same ∙ fine.unasked un;
  well = λ k has. fine.well k (sym same ∙ has);
  kept = λ s k there has judged.
      let old = fine.judged s k there (sym same ∙ has) judged in
      record { owned = λ asked. owned k (sym same ∙ has) (old.owned asked); uncleared = old.uncleared; called = old.called; commandless = old.commandless };
  named = λ s reference there called. names reference (fine.named s reference there called);
  unconfirmed = λ s k there un has. fine.unconfirmed s k there un (sym same ∙ has);
  present = λ s there un. subst IsPresent (sym same) (fine.present s there un);
  access = λ s there early. sees.access (at_of s.serving) (fine.access s there early);
  offered = λ s reference target there is change. sees.offered (at_of target.channel) target.channel.reference.0 (fine.offered s reference target there is change);
  assigned = fine.assigned;
}

pub moved_behind : (c : Controller) (j next : Judging) (n : ℕ) (change : ConnectionState → ConnectionState) (k : ConnectionState) → IsTame change → j.connections n ≡ Some k → next.connections n ≡ option_map (while_judged change) (j.connections n) → KeepsNames j next n → Sees j next
    → ((s : Connection) → connection_of c n ≡ Some s → IsAsked s.state → Agrees s k → AreOwned j n k.number (lines_of k) → AreOwned next n k.number (lines_of (change k))) → IsFine c j n → IsBehind c next n
moved_behind c j next n change k tame had moved names sees owned fine = record {
  unasked = λ un. absurd (let none : None ≡ Some k = sym (fine.unasked un) ∙ had in cc);
  well = λ x has. subst (Well n) (is x has) (well_judged n change k (fine.well k had) (λ judged. tame.well n k (fine.well k had)));
  kept = λ s x there has judged.
      let was : WasJudged change k x = was_judged change k x (is x has) judged in
      let old = fine.judged s k there had was.judged in
      subst (λ (y : ConnectionState). IsKept n s y next) was.is (record {
        owned = λ asked. subst (λ (number : ℕ). AreOwned next n number (lines_of (change k))) (sym (tame.number k)) (owned s there asked (old.agrees asked) (old.owned asked));
        uncleared = λ un. tame.cleared k ∙ old.uncleared un;
        called = λ reference called. tame.switch k ∙ old.called reference called;
        commandless = old.commandless;
      });
  named = λ s reference there called. names reference (fine.named s reference there called);
  unconfirmed = λ s x there un has. ap (λ (y : ConnectionState). y.switch) (sym (is x has)) ∙ same_switch change k (tame.switch k) ∙ fine.unconfirmed s k there un had;
  present = λ s there un. subst IsPresent (sym there_is) tt;
  access = λ s there early. sees.access (at_of s.serving) (fine.access s there early);
  offered = λ s reference target there is change. sees.offered (at_of target.channel) target.channel.reference.0 (fine.offered s reference target there is change);
  assigned = fine.assigned;
}
  where
    there_is : next.connections n ≡ Some (while_judged change k)
    there_is = moved ∙ ap (option_map (while_judged change)) had

    is : (x : ConnectionState) → next.connections n ≡ Some x → while_judged change k ≡ x
    is x has = (let both : Some (while_judged change k) ≡ Some x = sym there_is ∙ has in cc)

-- what a frame that arrives leaves of a judge
pub record Arrives (Hit : ℕ → ConnectionState → Type 0) (change : ConnectionState → ConnectionState) (c : Controller) (j next : Judging) : Type 0 where
  pub entries : (n : ℕ) → Changes (Hit n) change c j next n
  pub names : (source : ℕ) → next.by_switch source ≡ j.by_switch source
  pub sees : Sees j next
  pub owners : (at : StationChannel) (n number : ℕ) →
      view_at next.channels at ≡ views.Owned n number →
      view_at j.channels at ≡ views.Owned n number

module _ (Hit : ℕ → ConnectionState → Type 0) (change : ConnectionState → ConnectionState) (c : Controller) (j next : Judging) (tame : IsTame change) (came : Arrives Hit change c j next) where
  pub behind : (n : ℕ) → IsFine c j n → IsBehind c next n
  behind n fine = by (came.entries n)
    where
      by : Changes (Hit n) change c j next n → IsBehind c next n
      by (still same none owned) = still_behind c j next n same (λ source named. rw (came.names source, same) named) came.sees owned fine
      by (moves k had hit moved owned) = moved_behind c j next n change k tame had moved (λ source named. rw (came.names source, moved) (same_names n (j.by_switch source) change (j.connections n) named)) came.sees owned fine

  -- where the change keeps the agreement of those that it hits
  pub agree : (n : ℕ) →
      IsFine c j n →
      ((s : Connection) (k : ConnectionState) → connection_of c n ≡ Some s → j.connections n ≡ Some k → Hit n k → k.unjudged ≡ None → IsAsked s.state → Agrees s k → (change k).unjudged ≡ None → Agrees s (change k)) →
      AgreeIn c next n
  agree n fine keeps s x there has judged asked = by (came.entries n)
    where
      by : Changes (Hit n) change c j next n → Agrees s x
      by (still same none owned) = (fine.judged s x there (sym same ∙ has) judged).agrees asked
      by (moves k had hit moved owned) =
          let same : while_judged change k ≡ x = (let both : Some (while_judged change k) ≡ Some x = sym (moved ∙ ap (option_map (while_judged change)) had) ∙ has in cc) in
          let was : WasJudged change k x = was_judged change k x same judged in
          subst (Agrees s) was.is (keeps s k there had hit was.judged asked ((fine.judged s k there had was.judged).agrees asked) (ap (λ (y : ConnectionState). y.unjudged) was.is ∙ judged))

  -- an entry that is judged and was hit
  pub was_hit : (n : ℕ) (x : ConnectionState) →
      ((k : ConnectionState) → j.connections n ≡ Some k → Hit n k) →
      next.connections n ≡ Some x →
      x.unjudged ≡ None →
      (k : ConnectionState) × (k.unjudged ≡ None) × ((change k).unjudged ≡ None)
  was_hit n x hits has judged = by (came.entries n)
    where
      by : Changes (Hit n) change c j next n → (k : ConnectionState) × (k.unjudged ≡ None) × ((change k).unjudged ≡ None)
      by (still same none owned) = (let had : j.connections n ≡ Some x = sym same ∙ has in absurd (none x had (hits x had)))
      by (moves k had hit moved owned) =
          let same : while_judged change k ≡ x = (let both : Some (while_judged change k) ≡ Some x = sym (moved ∙ ap (option_map (while_judged change)) had) ∙ has in cc) in
          let was : WasJudged change k x = was_judged change k x same judged in
          (k, was.judged, ap (λ (y : ConnectionState). y.unjudged) was.is ∙ judged)

  -- where each connection whose row remains open is hit, and prepared by the change
  pub follow : (n : ℕ) (s : Connection) (input : Input) (r : Row) → connection_of c n ≡ Some s → IsFine c j n
      → ((k : ConnectionState) → j.connections n ≡ Some k → IsAsked s.state → IsOpen r.next.state → Agrees s k → AreOwned j n k.number (lines_of k) → Hit n k)
      → ((k : ConnectionState) → j.connections n ≡ Some k → k.unjudged ≡ None → (change k).unjudged ≡ None → IsAsked s.state → IsOpen r.next.state → Agrees s k → Follows s input r (change k)) → FollowIn next n s input r
  follow n s input r there fine hits prepares x has judged asked is_open = by (came.entries n)
    where
      by : Changes (Hit n) change c j next n → Follows s input r x
      by (still same none owned) =
          let had : j.connections n ≡ Some x = sym same ∙ has in
          let old = fine.judged s x there had judged in
          absurd (none x had (hits x had asked is_open (old.agrees asked) (old.owned asked)))
      by (moves k had hit moved owned) =
          let same : while_judged change k ≡ x = (let both : Some (while_judged change k) ≡ Some x = sym (moved ∙ ap (option_map (while_judged change)) had) ∙ has in cc) in
          let was : WasJudged change k x = was_judged change k x same judged in
          subst (Follows s input r) was.is (prepares k had was.judged (ap (λ (y : ConnectionState). y.unjudged) was.is ∙ judged) asked is_open ((fine.judged s k there had was.judged).agrees asked))
