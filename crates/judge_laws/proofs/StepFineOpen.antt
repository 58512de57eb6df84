-- SPDX-License-Identifier: MIT OR Apache-2.0
-- CHANNEL REQUIRED: a connection begins, and its channel is activated for access.
use Rattle.std.proofs.Common.{◌≡◌, ◌≢◌, ℕ, ◌+◌, Bool, false, List, [], ◌∷◌, ◌++◌, Option, Some, None, sym, subst, ap, ◌∙◌, arith, inl, inr, option_map}
use Rattle.std.proofs.lemmas.Bool.{cases_Bool, true≢false}
use Rattle.std.specs.List.{AllByRecursion}
use Rattle.std.specs.Prelude.{map}
use Rattle.conn_messages.specs.declared.channel.Channel.{Channel}
use Rattle.conn_messages.specs.declared.channel.Place.{Place}
use Rattle.conn_rules.specs.Connection.{Connection, new_connection}
use Rattle.conn_rules.specs.declared.state.Stage.TheVariants.{Changing, Preparing}
use Rattle.conn_rules.specs.declared.state.State.{State}
use Rattle.conn_rules.specs.declared.state.State.TheVariants.{Closed, Live, Removed, WaitActivation, WaitConfirm, WaitEstablish}
use Rattle.conn_rules.specs.declared.state.Target.{Target}
use Rattle.conn_rules.specs.Roles.{roles_of, target_channels, target_role}
use Rattle.conn_rules.specs.Streams.{IsOpen, undone}
use Rattle.controller_model.specs.declared.channel_state.ChannelState.{ChannelState}
use Rattle.controller_model.specs.declared.channel_state.ChannelState.TheVariants.{Free, InUse, Releasing}
use Rattle.controller_model.specs.Controller.{Controller, Entry, entry_of, place_of, state_in, with_state}
use Rattle.controller_model.specs.Life.{new_entry, with_connection}
use Rattle.controller_model.specs.LifeLaws.History.{connection_of}
use Rattle.controller_model.specs.LifeLaws.Owning.{AreIn, Owns, OwnsOpen}
use Rattle.controller_model.proofs.LifeLaws.Entries.{behind_found, behind_over}
use Rattle.controller_model.proofs.LifeLaws.Owning.{IsOffered}
use Rattle.controller_model.proofs.LifeLaws.OwningWords.{Holds}
use Rattle.controller_model.proofs.LifeLaws.Places.{free≢release, free≢use}
use Rattle.controller_model.proofs.LifeLaws.UsingRows.{take_use}
use Rattle.controller_model.proofs.LifeLaws.Words.{decide_same}
use Rattle.rsl_codec.specs.declared.values.RequestReference.{RequestReference}
use Rattle.run_judge.specs.declared.channels.ChannelView.{ChannelView}
use Rattle.run_judge.specs.declared.channels.ChannelView.TheVariants as views
use Rattle.run_judge.specs.declared.connection.Awaited.{Awaited}
use Rattle.run_judge.specs.declared.connection.Tenure.{Tenure}
use Rattle.run_judge.specs.declared.said.StationChannel.{StationChannel}
use Rattle.run_judge.specs.Channels.{view_at}
use Rattle.run_judge.specs.Connection.{is_same}
use Rattle.run_judge.specs.ConnectionState.{ConnectionState}
use Rattle.run_judge.specs.Judging.{Judging, with_channel}
use Rattle.run_judge.specs.Reading.{channel_at}
use Rattle.judge_laws.proofs.Fine.{AreFine, IsCalled, IsEarly, IsFine, IsJudged, IsNotOffered, IsUnasked, IsUnconfirmed}
use Rattle.judge_laws.proofs.Ranks.{is_itself, same_is}
use Rattle.judge_laws.proofs.Views.{view_other, view_same}
use Rattle.judge_laws.specs.Agreeing.{Agrees, IsAsked, awaited_in, lines_by, lines_of}
use Rattle.judge_laws.specs.Places.{at_of, spot}

-- ---- the channels of a connection are elsewhere

abbrev IsElse : Channel → StationChannel → Type 0
IsElse channel at = is_same (at_of channel) at ≡ false

else_of : (channels : List (List ChannelState)) (channel d : Channel) →
    state_in channels (place_of channel) ≡ Free →
    (state_in channels (place_of d) ≡ Free → ⊥) →
    IsElse channel (at_of d)
else_of channels channel d is_free used = elim (cases_Bool (is_same (at_of channel) (at_of d))) [
  | inr differ ↦ differ
  | inl same ↦
      let is : at_of channel ≡ at_of d = same_is (at_of channel) (at_of d) same in
      absurd (used (sym (ap (λ (at : StationChannel). state_in channels (spot at)) is) ∙ is_free))
]

all_else : (channels : List (List ChannelState)) (channel : Channel) (state : ChannelState) (cs : List Channel) →
    state_in channels (place_of channel) ≡ Free →
    (Free ≡ state → ⊥) →
    AreIn channels state cs →
    AllByRecursion (λ (d : Channel). IsElse channel (at_of d)) cs
all_else channels channel state [] is_free differ all = tt
all_else channels channel state (d ∷ ds) is_free differ all = (else_of channels channel d is_free (λ free. differ (sym free ∙ all.0)), all_else channels channel state ds is_free differ all.1)

all_of : (P : StationChannel → Type 0) (ts : List Tenure) (cs : List Channel) →
    map (λ (t : Tenure). t.at) ts ≡ map at_of cs →
    AllByRecursion (λ (d : Channel). P (at_of d)) cs →
    AllByRecursion (λ (t : Tenure). P t.at) ts
all_of P [] cs are all = tt
all_of P (t ∷ ts) [] are all = absurd cc
all_of P (t ∷ ts) (c ∷ cs) are all =
    let one : t.at ≡ at_of c = cc in
    let others : map (λ (x : Tenure). x.at) ts ≡ map at_of cs = cc in
    (subst P (sym one) all.0, all_of P ts cs others all.1)

push : (P : Tenure → Type 0) (ts : List Tenure) (u : Tenure) → AllByRecursion P ts → P u → AllByRecursion P (ts ++ u ∷ [])
push P [] u all one = (one, tt)
push P (t ∷ ts) u all one = (all.0, push P ts u all.1 one)

-- its lines are on its channels
pub lines_on : (P : StationChannel → Type 0) (s : Connection) (k : ConnectionState) →
    Agrees s k →
    AllByRecursion (λ (d : Channel). P (at_of d)) (undone s.draining) →
    AllByRecursion (λ (d : Channel). P (at_of d)) (s.serving ∷ target_channels (target_role s.state)) →
    AllByRecursion (λ (t : Tenure). P t.at) (lines_of k)
lines_on P s k agrees old using = subst (λ (o : Option Awaited). AllByRecursion (λ (t : Tenure). P t.at) (lines_by k.former k.serving o)) (sym agrees.awaited) (by s.state using.1)
  where
    base : AllByRecursion (λ (t : Tenure). P t.at) (k.former ++ k.serving ∷ [])
    base = push (λ (t : Tenure). P t.at) k.former k.serving (all_of P k.former (undone s.draining) agrees.old old) (subst P (sym agrees.at) using.0)

    by : (state : State) →
        AllByRecursion (λ (d : Channel). P (at_of d)) (target_channels (target_role state)) →
        AllByRecursion (λ (t : Tenure). P t.at) (lines_by k.former k.serving (awaited_in state))
    by (Live reference (Changing target)) targets = push (λ (t : Tenure). P t.at) (k.former ++ k.serving ∷ []) (record { at = at_of target.channel; rank = k.serving.rank + 1 }) base targets.0
    by _ targets = base

pub asked_open : (state : State) → IsAsked state → IsOpen state
asked_open WaitConfirm asked = tt
asked_open (Live reference stage) asked = tt
asked_open WaitActivation asked = absurd asked
asked_open WaitEstablish asked = absurd asked
asked_open (Closed clearing) asked = absurd asked
asked_open Removed asked = absurd asked

early_open : (state : State) → IsEarly state → IsOpen state
early_open WaitActivation early = tt
early_open WaitEstablish early = tt
early_open WaitConfirm early = absurd early
early_open (Live reference stage) early = absurd early
early_open (Closed clearing) early = absurd early
early_open Removed early = absurd early

-- ---- a free channel is activated for access

same_views : (channel : Channel) (reference number : ℕ) (view : ChannelView) (j : Judging) (ts : List Tenure) →
    AllByRecursion (λ (t : Tenure). IsElse channel t.at) ts →
    AllByRecursion (λ (t : Tenure). view_at j.channels t.at ≡ views.Owned reference number) ts →
    AllByRecursion (λ (t : Tenure). view_at (with_channel (at_of channel) view j).channels t.at ≡ views.Owned reference number) ts
same_views channel reference number view j [] away all = tt
same_views channel reference number view j (t ∷ ts) away all = (view_other (at_of channel) t.at view j.channels away.0 ∙ all.0, same_views channel reference number view j ts away.1 all.1)

abbrev behind : Channel → Judging → Judging
behind channel j = with_channel (at_of channel) (views.Activated None) j

-- one that was there
open_judged : (links : List Bool) (c : Controller) (channel : Channel) (n : ℕ) (s : Connection) (k : ConnectionState) (j : Judging) →
    IsOffered c.channels links channel →
    (IsOpen s.state → Owns c.channels links n (roles_of s)) →
    IsJudged n s k j →
    IsJudged n s k (behind channel j)
open_judged links c channel n s k j offered owns judged = record {
  agrees = judged.agrees;
  owned = λ asked.
      let own = owns (asked_open s.state asked) in
      same_views channel n k.number (views.Activated None) j (lines_of k)
      (lines_on (IsElse channel) s k (judged.agrees asked)
      (all_else c.channels channel (Releasing n) (undone s.draining) offered.is_free (free≢release n) own.releasing)
      (all_else c.channels channel (InUse n) (s.serving ∷ target_channels (target_role s.state)) offered.is_free (free≢use n) own.using))
      (judged.owned asked);
  uncleared = judged.uncleared;
  called = judged.called;
  commandless = judged.commandless;
}

target_else : (links : List Bool) (c : Controller) (channel : Channel) (n reference : ℕ) (target : Target) (s : Connection) →
    IsOffered c.channels links channel →
    (IsOpen s.state → Owns c.channels links n (roles_of s)) →
    s.state ≡ Live reference (Preparing target) →
    IsElse channel (at_of target.channel)
target_else links c channel n reference target s offered owns is =
    let used : AreIn c.channels (InUse n) (s.serving ∷ target_channels (target_role s.state)) = (owns (subst IsOpen (sym is) tt)).using in
    let own : AreIn c.channels (InUse n) (s.serving ∷ target.channel ∷ []) = subst (λ (state : State). AreIn c.channels (InUse n) (s.serving ∷ target_channels (target_role state))) is used in
    else_of c.channels channel target.channel offered.is_free (λ free. free≢use n (sym free ∙ own.1.0))

serving_else : (links : List Bool) (c : Controller) (channel : Channel) (n : ℕ) (s : Connection) →
    IsOffered c.channels links channel →
    (IsOpen s.state → Owns c.channels links n (roles_of s)) →
    IsOpen s.state →
    IsElse channel (at_of s.serving)
serving_else links c channel n s offered owns is_open = else_of c.channels channel s.serving offered.is_free (λ free. free≢use n (sym free ∙ (owns is_open).using.0))

owns_some : (links : List Bool) (c : Controller) (n : ℕ) (s : Connection) →
    connection_of c n ≡ Some s →
    Holds links c →
    IsOpen s.state →
    Owns c.channels links n (roles_of s)
owns_some links c n s is holds = subst (OwnsOpen c.channels links n) is (holds.each n)

-- those that were there
open_other : (links : List Bool) (c : Controller) (channel : Channel) (request : RequestReference) (delay n : ℕ) (j : Judging) →
    IsOffered c.channels links channel →
    Holds links c →
    n ≢ c.next_number →
    IsFine c j n →
    IsFine (with_connection c channel request delay).next (behind channel j) n
open_other links c channel request delay n j offered holds differ fine =
    let same : connection_of (with_connection c channel request delay).next n ≡ connection_of c n = ap (option_map (λ (x : Entry). x.connection)) (behind_over n (new_entry c.settings c.next_number channel request delay) c.entries differ) in
    record {
      unasked = λ un. fine.unasked (fewer (connection_of c n) (subst (IsUnasked (c.next_number + 1) n) same un));
      well = fine.well;
      judged = λ s k is there judged. open_judged links c channel n s k j offered (owns_some links c n s (sym same ∙ is) holds) (fine.judged s k (sym same ∙ is) there judged);
      named = λ s reference is. fine.named s reference (sym same ∙ is);
      unconfirmed = λ s k is. fine.unconfirmed s k (sym same ∙ is);
      present = λ s is. fine.present s (sym same ∙ is);
      access = λ s is early. subst IsNotOffered (sym (view_other (at_of channel) (at_of s.serving) (views.Activated None) j.channels (serving_else links c channel n s offered (owns_some links c n s (sym same ∙ is) holds) (early_open s.state early)))) (fine.access s (sym same ∙ is) early);
      offered = λ s reference target is state change. view_other (at_of channel) (at_of target.channel) (views.Activated None) j.channels (target_else links c channel n reference target s offered (owns_some links c n s (sym same ∙ is) holds) state) ∙ fine.offered s reference target (sym same ∙ is) state change;
      assigned = λ s reference target is. fine.assigned s reference target (sym same ∙ is);
    }
  where
    fewer : (o : Option Connection) → IsUnasked (c.next_number + 1) n o → IsUnasked c.next_number n o
    fewer None un = omega arith
    fewer (Some s) un = un

-- the one that begins
open_new : (c : Controller) (channel : Channel) (request : RequestReference) (delay : ℕ) (j : Judging) →
    entry_of c c.next_number ≡ None →
    IsFine c j c.next_number →
    IsFine (with_connection c channel request delay).next (behind channel j) c.next_number
open_new c channel request delay j none fine =
    let m : ℕ = c.next_number in
    let begun : Connection = new_connection m channel request delay in
    let found : connection_of (with_connection c channel request delay).next m ≡ Some begun = ap (option_map (λ (x : Entry). x.connection)) (behind_found (new_entry c.settings m channel request delay) c.entries none) in
    let absent : j.connections m ≡ None = fine.unasked (subst (IsUnasked m m) (sym (ap (option_map (λ (x : Entry). x.connection)) none)) (omega arith)) in
    record {
      unasked = λ un. absent;
      well = fine.well;
      judged = λ s k is there. absurd (let both : None ≡ Some k = sym absent ∙ there in cc);
      named = λ s reference is called. absurd (subst (λ (x : Connection). IsCalled reference x.state) (of begun s found is) called);
      unconfirmed = λ s k is un. absurd (subst (λ (x : Connection). IsUnconfirmed x.state) (of begun s found is) un);
      present = λ s is un. absurd (subst (λ (x : Connection). IsUnconfirmed x.state) (of begun s found is) un);
      access = λ s is early. subst (λ (x : Connection). IsNotOffered (view_at (behind channel j).channels (at_of x.serving))) (sym (of begun s found is)) (subst IsNotOffered (sym (view_same (at_of channel) (views.Activated None) j.channels)) tt);
      offered = λ s reference target is state. absurd (waits reference target (sym (ap (λ (x : Connection). x.state) (of begun s found is)) ∙ state));
      assigned = λ s reference target is state. absurd (waits reference target (sym (ap (λ (x : Connection). x.state) (of begun s found is)) ∙ state));
    }
  where
    of : (begun s : Connection) →
        connection_of (with_connection c channel request delay).next c.next_number ≡ Some begun →
        connection_of (with_connection c channel request delay).next c.next_number ≡ Some s →
        s ≡ begun
    of begun s found is = (let both : Some begun ≡ Some s = sym found ∙ is in cc)

    waits : (reference : ℕ) (target : Target) → WaitActivation ≡ Live reference (Preparing target) → ⊥
    waits reference target is = cc

pub open_fine : (links : List Bool) (c : Controller) (channel : Channel) (request : RequestReference) (delay : ℕ) (j : Judging) →
    IsOffered c.channels links channel →
    Holds links c →
    entry_of c c.next_number ≡ None →
    AreFine c j →
    AreFine (with_connection c channel request delay).next (behind channel j)
open_fine links c channel request delay j offered holds none fine = record {
  each = λ n. decide_same n c.next_number (IsFine (with_connection c channel request delay).next (behind channel j) n)
      (λ same. subst (IsFine (with_connection c channel request delay).next (behind channel j)) (sym same) (open_new c channel request delay j none (fine.each c.next_number)))
      (λ differ. open_other links c channel request delay n j offered holds differ (fine.each n));
  owners = λ at n m number used view. elim (cases_Bool (is_same (at_of channel) at)) [
    | inl same ↦ absurd (let here : views.Activated None ≡ views.Owned m number = sym (view_same (at_of channel) (views.Activated None) j.channels) ∙ ap (view_at (behind channel j).channels) (same_is (at_of channel) at same) ∙ view in cc)
    | inr differ ↦ fine.owners at n m number (was at n differ used) (sym (view_other (at_of channel) at (views.Activated None) j.channels differ) ∙ view)
  ];
}
  where
    was : (at : StationChannel) (n : ℕ) →
        is_same (at_of channel) at ≡ false →
        state_in (with_state (place_of channel) (InUse c.next_number) c.channels) (spot at) ≡ InUse n →
        state_in c.channels (spot at) ≡ InUse n
    was at n differ used = elim (take_use c.next_number n (place_of channel) (spot at) c.channels used) [
      | inl takes ↦ absurd (true≢false (sym (is_itself (at_of channel)) ∙ ap (is_same (at_of channel)) (at_spot at channel takes.1) ∙ differ))
      | inr kept ↦ kept.0
    ]
      where
        at_spot : (at : StationChannel) (d : Channel) → place_of d ≡ spot at → at_of d ≡ at
        at_spot at d is = ap (λ (p : Place). channel_at p.station p.number) is
