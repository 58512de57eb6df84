-- SPDX-License-Identifier: MIT OR Apache-2.0
-- Lemmas: a row changes no other connection, neither in the controller nor in the judge.
use Rattle.std.proofs.Common.{◌≡◌, ◌≢◌, ◌⊎◌, ℕ, ◌+◌, Bool, List, [], ◌∷◌, ◌++◌, Option, Some, None, refl, sym, subst, ap, ◌∙◌, fold}
use Rattle.std.specs.List.{AllByRecursion}
use Rattle.std.specs.Prelude.{map}
use Rattle.conn_messages.specs.declared.channel.Change.TheVariants.{Handover}
use Rattle.conn_messages.specs.declared.channel.Channel.{Channel}
use Rattle.conn_messages.specs.declared.message.Message.{Message}
use Rattle.conn_rules.specs.Connection.{Connection}
use Rattle.conn_rules.specs.declared.state.Stage.TheVariants.{Preparing, Changing, Active, Draining}
use Rattle.conn_rules.specs.declared.state.State.{State}
use Rattle.conn_rules.specs.declared.state.State.TheVariants.{Closed, Live, Removed, WaitActivation, WaitConfirm, WaitEstablish}
use Rattle.conn_rules.specs.declared.state.Target.{Target}
use Rattle.conn_rules.specs.Roles.{roles_of, target_channels, target_role}
use Rattle.conn_rules.specs.Streams.{IsOpen, undone}
use Rattle.controller_model.specs.declared.channel_state.ChannelState.{ChannelState}
use Rattle.controller_model.specs.declared.channel_state.ChannelState.TheVariants.{InUse, Releasing}
use Rattle.controller_model.specs.Controller.{Controller, channels_after, holder, place_of, state_in}
use Rattle.controller_model.specs.LifeLaws.History.{connection_of}
use Rattle.controller_model.specs.LifeLaws.Owning.{AreIn, Owns, OwnsOpen}
use Rattle.run_judge.specs.declared.channels.ChannelView.TheVariants as views
use Rattle.run_judge.specs.declared.connection.Awaited.{Awaited}
use Rattle.run_judge.specs.declared.connection.Tenure.{Tenure}
use Rattle.run_judge.specs.declared.said.StationChannel.{StationChannel}
use Rattle.run_judge.specs.Channels.{view_at}
use Rattle.run_judge.specs.ConnectionState.{ConnectionState}
use Rattle.run_judge.specs.Judging.{Judging}
use Rattle.judge_laws.proofs.Fine.{IsEarly, IsFine, IsJudged, IsNotOffered, IsPresent, IsUnasked}
use Rattle.judge_laws.proofs.Moving.{IsNamed}
use Rattle.judge_laws.proofs.WholeRowsViews.{Channels, all_elsewhere, else_untouched, views_by}
use Rattle.judge_laws.specs.Agreeing.{IsAsked, awaited_in, lines_by, lines_of}
use Rattle.judge_laws.specs.Places.{at_of, spot}

-- ---- what a row changes

-- of other connections nothing; of channels what its messages say, and those in use by it may become
-- its own for the judge
pub record Changes (n : ℕ) (channels : Channels) (ms : List Message) (j next : Judging) : Type 0 where
  pub others : (k : ℕ) → k ≢ n → next.connections k ≡ j.connections k
  pub named : (k reference : ℕ) (entry : Option ConnectionState) →
      k ≢ n →
      IsNamed k (j.by_switch reference) entry →
      IsNamed k (next.by_switch reference) entry
  pub own : (at : StationChannel) (m number : ℕ) →
      view_at next.channels at ≡ views.Owned m number →
      (views_by at ms (view_at j.channels at) ≡ views.Owned m number) ⊎ ((m ≡ n) × (state_in channels (spot at) ≡ InUse n))
  pub views : (at : StationChannel) →
      state_in channels (spot at) ≢ InUse n →
      view_at next.channels at ≡ views_by at ms (view_at j.channels at)

-- ---- the channels of what the judge has

ats_all : (P : StationChannel → Type 0) (ts : List Tenure) (ds : List Channel) →
    map (λ (t : Tenure). t.at) ts ≡ map at_of ds →
    AllByRecursion (λ (d : Channel). P (at_of d)) ds →
    AllByRecursion (λ (t : Tenure). P t.at) ts
ats_all P [] ds are all = tt
ats_all P (t ∷ ts) [] are all = absurd cc
ats_all P (t ∷ ts) (d ∷ ds) are all =
    let first : t.at ≡ at_of d = cc in
    let others : map (λ (x : Tenure). x.at) ts ≡ map at_of ds = cc in
    (subst P (sym first) all.0, ats_all P ts ds others all.1)

all_behind : {A : Type 0} (P : A → Type 0) (xs ys : List A) → AllByRecursion P xs → AllByRecursion P ys → AllByRecursion P (xs ++ ys)
all_behind P [] ys one two = two
all_behind P (x ∷ xs) ys one two = (one.0, all_behind P xs ys one.1 two)

awaited_all : (P : StationChannel → Type 0) (state : State) (a : Awaited) →
    awaited_in state ≡ Some a →
    AllByRecursion (λ (d : Channel). P (at_of d)) (target_channels (target_role state)) →
    P a.at
awaited_all P (Live reference (Changing target)) a is all = (let same : at_of target.channel ≡ a.at = of is in subst P same all.0)
  where
    of : (let o : Option Awaited = Some (record { at = at_of target.channel; change = target.change }) in o) ≡ Some a →
        at_of target.channel ≡ a.at
    of is = cc
awaited_all P (Live reference (Preparing target)) a is all = absurd cc
awaited_all P (Live reference Active) a is all = absurd cc
awaited_all P (Live reference Draining) a is all = absurd cc
awaited_all P WaitActivation a is all = absurd cc
awaited_all P WaitEstablish a is all = absurd cc
awaited_all P WaitConfirm a is all = absurd cc
awaited_all P (Closed clearing) a is all = absurd cc
awaited_all P Removed a is all = absurd cc

-- what holds of the connection's channels holds of the judge's tenures
pub lines_all : (P : StationChannel → Type 0) (s : Connection) (k : ConnectionState) →
    k.serving.at ≡ at_of s.serving →
    map (λ (t : Tenure). t.at) k.former ≡ map at_of (undone s.draining) →
    k.awaited ≡ awaited_in s.state →
    P (at_of s.serving) →
    (k.awaited ≢ None → AllByRecursion (λ (d : Channel). P (at_of d)) (target_channels (target_role s.state))) →
    AllByRecursion (λ (d : Channel). P (at_of d)) (undone s.draining) →
    AllByRecursion (λ (t : Tenure). P t.at) (lines_of k)
lines_all P s k at old awaited serving targets drains = by k.awaited refl
  where
    first : AllByRecursion (λ (t : Tenure). P t.at) (k.former ++ k.serving ∷ [])
    first = all_behind (λ (t : Tenure). P t.at) k.former (k.serving ∷ []) (ats_all P k.former (undone s.draining) old drains) (subst P (sym at) serving, tt)

    by : (o : Option Awaited) → k.awaited ≡ o → AllByRecursion (λ (t : Tenure). P t.at) (lines_by k.former k.serving o)
    by None is = first
    by (Some a) is = all_behind (λ (t : Tenure). P t.at) (k.former ++ k.serving ∷ []) (record { at = a.at; rank = k.serving.rank + 1 } ∷ []) first (awaited_all P s.state a (sym awaited ∙ is) (targets (λ none. (let both : None ≡ Some a = sym none ∙ is in absurd cc))), tt)

-- ---- another connection

asked_open : (state : State) → IsAsked state → IsOpen state
asked_open WaitConfirm asked = tt
asked_open (Live reference stage) asked = tt
asked_open WaitActivation asked = absurd asked
asked_open WaitEstablish asked = absurd asked
asked_open (Closed clearing) asked = absurd asked
asked_open Removed asked = absurd asked

early_open : (state : State) → IsEarly state → IsOpen state
early_open WaitActivation early = tt
early_open WaitEstablish early = tt
early_open WaitConfirm early = absurd early
early_open (Live reference stage) early = absurd early
early_open (Closed clearing) early = absurd early
early_open Removed early = absurd early

module _ (links : List Bool) (n m : ℕ) (channels : Channels) (ms : List Message) (j next : Judging) (differ : m ≢ n) (changes : Changes n channels ms j next) where
  abbrev After : Channels
  After = fold (channels_after n) channels ms

  -- its channel's view
  view_kept : (d : Channel) (was is : ChannelState) →
      state_in channels (place_of d) ≡ was →
      was ≢ InUse n →
      state_in After (place_of d) ≡ is →
      holder is ≡ Some m →
      view_at next.channels (at_of d) ≡ view_at j.channels (at_of d)
  view_kept d was is before other now held =
      changes.views (at_of d) (λ same. other (sym before ∙ same))
      ∙ all_elsewhere (at_of d) ms (view_at j.channels (at_of d)) (else_untouched n m (at_of d) channels ms differ (ap holder now ∙ held))

  use_differs : InUse m ≢ InUse n
  use_differs same = differ (of same)
    where
      of : InUse m ≡ InUse n → m ≡ n
      of same = cc

  in_use_kept : (ds : List Channel) →
      AreIn channels (InUse m) ds →
      AreIn After (InUse m) ds →
      AllByRecursion (λ (d : Channel). view_at next.channels (at_of d) ≡ view_at j.channels (at_of d)) ds
  in_use_kept [] before now = tt
  in_use_kept (d ∷ ds) before now = (view_kept d (InUse m) (InUse m) before.0 use_differs now.0 refl, in_use_kept ds before.1 now.1)

  releasing_kept : (ds : List Channel) →
      AreIn channels (Releasing m) ds →
      AreIn After (Releasing m) ds →
      AllByRecursion (λ (d : Channel). view_at next.channels (at_of d) ≡ view_at j.channels (at_of d)) ds
  releasing_kept [] before now = tt
  releasing_kept (d ∷ ds) before now = (view_kept d (Releasing m) (Releasing m) before.0 (λ same. (let both : Releasing m ≡ InUse n = same in absurd cc)) now.0 refl, releasing_kept ds before.1 now.1)

  owned_kept : (number : ℕ) (ts : List Tenure) →
      AllByRecursion (λ (t : Tenure). view_at next.channels t.at ≡ view_at j.channels t.at) ts →
      AllByRecursion (λ (t : Tenure). view_at j.channels t.at ≡ views.Owned m number) ts →
      AllByRecursion (λ (t : Tenure). view_at next.channels t.at ≡ views.Owned m number) ts
  owned_kept number [] same owned = tt
  owned_kept number (t ∷ ts) same owned = (same.0 ∙ owned.0, owned_kept number ts same.1 owned.1)

  judged_kept : (s : Connection) (k : ConnectionState) →
      (IsOpen s.state → Owns channels links m (roles_of s)) →
      (IsOpen s.state → Owns After links m (roles_of s)) →
      IsJudged m s k j →
      IsJudged m s k next
  judged_kept s k before now judged = record {
    agrees = judged.agrees;
    owned = λ asked.
        let agrees = judged.agrees asked in
        let is_open = asked_open s.state asked in
        let was = before is_open in
        let is = now is_open in
        let using = in_use_kept (s.serving ∷ target_channels (target_role s.state)) was.using is.using in
        owned_kept k.number (lines_of k)
        (lines_all (λ (at : StationChannel). view_at next.channels at ≡ view_at j.channels at) s k agrees.at agrees.old agrees.awaited using.0 (λ some. using.1) (releasing_kept (undone s.draining) was.releasing is.releasing))
        (judged.owned asked);
    uncleared = judged.uncleared;
    called = judged.called;
    commandless = judged.commandless;
  }

  pub other_fine : (c after : Controller) →
      c.channels ≡ channels →
      after.channels ≡ After →
      after.next_number ≡ c.next_number →
      connection_of after m ≡ connection_of c m →
      OwnsOpen channels links m (connection_of c m) →
      OwnsOpen After links m (connection_of c m) →
      IsFine c j m →
      IsFine after next m
  other_fine c after from to numbers same before now fine = record {
    unasked = λ un. changes.others m differ ∙ fine.unasked (subst (λ (o : Option Connection). IsUnasked c.next_number m o) same (subst (λ (k : ℕ). IsUnasked k m (connection_of after m)) numbers un));
    well = λ k there. fine.well k (back there);
    judged = λ s k is there none. judged_kept s k (of channels before s (sym same ∙ is)) (of After now s (sym same ∙ is)) (fine.judged s k (sym same ∙ is) (back there) none);
    named = λ s reference is called. subst (IsNamed m (next.by_switch reference)) (sym (changes.others m differ)) (changes.named m reference (j.connections m) differ (fine.named s reference (sym same ∙ is) called));
    unconfirmed = λ s k is un there. fine.unconfirmed s k (sym same ∙ is) un (back there);
    present = λ s is un. subst IsPresent (sym (changes.others m differ)) (fine.present s (sym same ∙ is) un);
    access = λ s is early.
        let is_open = early_open s.state early in
        let kept = in_use_kept (s.serving ∷ target_channels (target_role s.state)) (of channels before s (sym same ∙ is) is_open).using (of After now s (sym same ∙ is) is_open).using in
        subst IsNotOffered (sym kept.0) (fine.access s (sym same ∙ is) early);
    offered = λ s reference target is state change. offered s reference target (sym same ∙ is) state change;
    assigned = λ s reference target is state change. fine.assigned s reference target (sym same ∙ is) state change;
  }
    where
      back : {k : ConnectionState} → next.connections m ≡ Some k → j.connections m ≡ Some k
      back there = sym (changes.others m differ) ∙ there

      of : (at : Channels) →
          OwnsOpen at links m (connection_of c m) →
          (s : Connection) →
          connection_of c m ≡ Some s →
          IsOpen s.state →
          Owns at links m (roles_of s)
      of at owns s is = subst (OwnsOpen at links m) is owns

      offered : (s : Connection) (reference : ℕ) (target : Target) →
          connection_of c m ≡ Some s →
          s.state ≡ Live reference (Preparing target) →
          target.change ≡ Handover →
          view_at next.channels (at_of target.channel) ≡ views.Activated (Some target.channel.reference.0)
      offered s reference target is state change =
          let is_open : IsOpen s.state = subst IsOpen (sym state) tt in
          let kept = in_use_kept (s.serving ∷ target_channels (target_role s.state)) (of channels before s is is_open).using (of After now s is is_open).using in
          let targets : AllByRecursion (λ (d : Channel). view_at next.channels (at_of d) ≡ view_at j.channels (at_of d)) (target_channels (target_role (Live reference (Preparing target)))) = subst (λ (x : State). AllByRecursion (λ (d : Channel). view_at next.channels (at_of d) ≡ view_at j.channels (at_of d)) (target_channels (target_role x))) state kept.1 in
          targets.0 ∙ fine.offered s reference target is state change
