-- SPDX-License-Identifier: MIT OR Apache-2.0
-- A station's frame changes in the judge the entry of the connection that has the channel, or the
-- view of the channel.
use Rattle.std.proofs.Common.{◌≡◌, ◌≢◌, ℕ, ◌+◌, ◌==◌, ◌&&◌, not, Bool, true, false, List, [], ◌∷◌, ◌++◌, Option, Some, None, refl, sym, subst, ap, ◌∙◌, inl, inr}
use Rattle.std.proofs.lemmas.Bool.{cases_Bool, cond-false, cond-true, eq-eqb, eqb-true, true≢false}
use Rattle.std.specs.List.{AllByRecursion}
use Rattle.std.specs.Option.{is_some}
use Rattle.std.specs.Prelude.{if◌then◌else◌, map}
use Rattle.conn_messages.specs.declared.channel.Change.{Change}
use Rattle.conn_rules.specs.Connection.{Connection, drain_at}
use Rattle.conn_rules.specs.Streams.{AreApart, used_channels}
use Rattle.controller_model.specs.Controller.{Controller}
use Rattle.controller_model.specs.LifeLaws.History.{connection_of}
use Rattle.controller_model.proofs.LifeLaws.Words.{decide_same}
use Rattle.dtap_codec.specs.declared.sapi.Sapi.{Sapi}
use Rattle.run_judge.specs.declared.channels.ChannelView.{ChannelView}
use Rattle.run_judge.specs.declared.channels.ChannelView.TheVariants as views
use Rattle.run_judge.specs.declared.channels.Early.{Early}
use Rattle.run_judge.specs.declared.connection.Awaited.{Awaited}
use Rattle.run_judge.specs.declared.connection.Tenure.{Tenure}
use Rattle.run_judge.specs.declared.said.Said.TheVariants as says
use Rattle.run_judge.specs.declared.said.StationChannel.{StationChannel}
use Rattle.run_judge.specs.Channels.{early_before, followed_by, opening_behind, optional_early, view_at}
use Rattle.run_judge.specs.Connection.{brought, brought_in, completed, completed_by, failed, failed_by, is_alike, is_same, moved, old_rank, rank_of, released}
use Rattle.run_judge.specs.ConnectionState.{ConnectionState}
use Rattle.run_judge.specs.Judging.{Judging, after, brought_by, early_of, left_by, numbered_connection, opened_in, owner_in, owner_of, with_channel, with_owner, with_owner_in}
use Rattle.run_judge.specs.OpeningState.{OpeningState}
use Rattle.judge_laws.proofs.Arrivals.{apart_known, known_in, lines_are, more_by, more_places}
use Rattle.judge_laws.proofs.Effects.{Effect}
use Rattle.judge_laws.proofs.Fine.{IsNotOffered}
use Rattle.judge_laws.proofs.Hearing.{HasChannel, not_released, owner_is, released_effect}
use Rattle.judge_laws.proofs.HeardFine.{IsOpening}
use Rattle.judge_laws.proofs.HeardFineChanges.{Arrives, Changes, IsTame, owned_same, sees_same}
use Rattle.judge_laws.proofs.HeardFineChanges.Changes.{moves, still}
use Rattle.judge_laws.proofs.Leaving.{Kept, all_kept_away, old_there, rest_away}
use Rattle.judge_laws.proofs.Moving.{Moves, owner_moves}
use Rattle.judge_laws.proofs.Opening.{MayBeIgnored}
use Rattle.judge_laws.proofs.Ranks.{is_itself, same_is}
use Rattle.judge_laws.proofs.Views.{view_other, view_same}
use Rattle.judge_laws.proofs.Well.{Well, well_brought, well_completed, well_failed, well_released}
use Rattle.judge_laws.specs.Agreeing.{Agrees, IsAsked, lines_by, lines_of}
use Rattle.judge_laws.specs.Places.{at_of, spot}

abbrev Entry : Type 0
Entry = Option ConnectionState

-- ---- tenures

pub all_so : (P Q : Tenure → Type 0) (ts : List Tenure) → ((t : Tenure) → P t → Q t) → AllByRecursion P ts → AllByRecursion Q ts
all_so P Q [] so all = tt
all_so P Q (t ∷ ts) so all = (so t all.0, all_so P Q ts so all.1)

pub all_front : (P : Tenure → Type 0) (ts us : List Tenure) → AllByRecursion P (ts ++ us) → AllByRecursion P ts
all_front P [] us all = tt
all_front P (t ∷ ts) us all = (all.0, all_front P ts us all.1)

pub all_back : (P : Tenure → Type 0) (ts us : List Tenure) → AllByRecursion P (ts ++ us) → AllByRecursion P us
all_back P [] us all = all
all_back P (t ∷ ts) us all = all_back P ts us all.1

all_joined : (P : Tenure → Type 0) (ts us : List Tenure) → AllByRecursion P ts → AllByRecursion P us → AllByRecursion P (ts ++ us)
all_joined P [] us one two = two
all_joined P (t ∷ ts) us one two = (one.0, all_joined P ts us one.1 two)

-- those that aren't there any more may have been at a place
all_kept : (P : Tenure → Type 0) (at : StationChannel) (ts : List Tenure) → AllByRecursion P ts → AllByRecursion P (Kept at ts)
all_kept P at [] all = tt
all_kept P at (t ∷ ts) all = by (is_same t.at at) (all_kept P at ts all.1)
  where
    by : (b : Bool) → AllByRecursion P (Kept at ts) → AllByRecursion P (if not b then t ∷ Kept at ts else Kept at ts)
    by true rest = rest
    by false rest = (all.0, rest)

all_two : (P Q R : Tenure → Type 0) (ts : List Tenure) →
    ((t : Tenure) → P t → Q t → R t) →
    AllByRecursion P ts →
    AllByRecursion Q ts →
    AllByRecursion R ts
all_two P Q R [] so one two = tt
all_two P Q R (t ∷ ts) so one two = (so t one.0 two.0, all_two P Q R ts so one.1 two.1)

-- ---- what frames make of an entry

-- the channels remain among those that were
abbrev KeepsLines : (ConnectionState → ConnectionState) → Type 1
KeepsLines change = (P : Tenure → Type 0) (k : ConnectionState) → AllByRecursion P (lines_of k) → AllByRecursion P (lines_of (change k))

module _ (at : StationChannel) (sapi : Sapi) (message : List ℕ) (frame : ℕ) where
  pub tame_brought : IsTame (brought at sapi message frame)
  tame_brought = record {
    well = λ n k well. well_brought n at sapi message frame k well;
    switch = λ k. switch k (rank_of at k);
    cleared = λ k. cleared k (rank_of at k);
    number = λ k. number k (rank_of at k);
  }
    where
      switch : (k : ConnectionState) (o : Option ℕ) → (brought_in o at sapi message frame k).switch ≡ k.switch
      switch k None = refl
      switch k (Some rank) = refl

      cleared : (k : ConnectionState) (o : Option ℕ) → (brought_in o at sapi message frame k).is_cleared ≡ k.is_cleared
      cleared k None = refl
      cleared k (Some rank) = refl

      number : (k : ConnectionState) (o : Option ℕ) → (brought_in o at sapi message frame k).number ≡ k.number
      number k None = refl
      number k (Some rank) = refl

  lines_brought : KeepsLines (brought at sapi message frame)
  lines_brought P k all = by (rank_of at k)
    where
      by : (o : Option ℕ) → AllByRecursion P (lines_of (brought_in o at sapi message frame k))
      by None = all
      by (Some rank) = all

pub if_one : {A : Type 0} (b : Bool) (x y k : A) (P : A → Type 0) → P x → P y → P (if b then x else y)
if_one true x y k P one other = one
if_one false x y k P one other = other

module _ (at : StationChannel) (change : Change) where
  completed_keeps : (P : ConnectionState → Type 0) (k : ConnectionState) → P k → P (moved at k) → P (completed at change k)
  completed_keeps P k same moving = by k.awaited
    where
      by : (o : Option Awaited) → P (completed_by o at change k)
      by None = same
      by (Some a) = if_one (is_same a.at at && is_alike a.change change) (moved at k) k k P moving same

  failed_keeps : (P : ConnectionState → Type 0) (k : ConnectionState) → P k → P (record k { awaited = None }) → P (failed at change k)
  failed_keeps P k same back = by k.awaited
    where
      by : (o : Option Awaited) → P (failed_by o at change k)
      by None = same
      by (Some a) = if_one (is_same k.serving.at at && is_alike a.change change) (record k { awaited = None }) k k P back same

  pub tame_completed : IsTame (completed at change)
  tame_completed = record {
    well = λ n k well. well_completed n at change k well;
    switch = λ k. completed_keeps (λ x. x.switch ≡ k.switch) k refl refl;
    cleared = λ k. completed_keeps (λ x. x.is_cleared ≡ k.is_cleared) k refl refl;
    number = λ k. completed_keeps (λ x. x.number ≡ k.number) k refl refl;
  }

  pub tame_failed : IsTame (failed at change)
  tame_failed = record {
    well = λ n k well. well_failed n at change k well;
    switch = λ k. failed_keeps (λ x. x.switch ≡ k.switch) k refl refl;
    cleared = λ k. failed_keeps (λ x. x.is_cleared ≡ k.is_cleared) k refl refl;
    number = λ k. failed_keeps (λ x. x.number ≡ k.number) k refl refl;
  }

  -- the channel that was commanded serves
  lines_completed : KeepsLines (completed at change)
  lines_completed P k all = by k.awaited all
    where
      where_here : (a : Awaited) (b : Bool) →
          is_same a.at at ≡ b →
          (d : Bool) →
          AllByRecursion P (lines_by k.former k.serving (Some a)) →
          AllByRecursion P (lines_of k) →
          AllByRecursion P (lines_of (if b && d then moved at k else k))
      where_here a true here true of_a of_k = subst (λ (x : StationChannel). AllByRecursion P ((k.former ++ k.serving ∷ []) ++ record { at = x; rank = k.serving.rank + 1 } ∷ [])) (same_is a.at at here) of_a
      where_here a true here false of_a of_k = of_k
      where_here a false there d of_a of_k = of_k

      by : (o : Option Awaited) →
          AllByRecursion P (lines_by k.former k.serving o) →
          AllByRecursion P (lines_of (completed_by o at change k))
      by None of_o = all
      by (Some a) of_o = where_here a (is_same a.at at) refl (is_alike a.change change) of_o all

  lines_failed : KeepsLines (failed at change)
  lines_failed P k all = failed_keeps (λ (x : ConnectionState). AllByRecursion P (lines_of x)) k all (front k.awaited all)
    where
      front : (o : Option Awaited) → AllByRecursion P (lines_by k.former k.serving o) → AllByRecursion P (k.former ++ k.serving ∷ [])
      front None all = all
      front (Some a) all = all_front P (k.former ++ k.serving ∷ []) (record { at = a.at; rank = k.serving.rank + 1 } ∷ []) all

pub tame_released : (at : StationChannel) → IsTame (released at)
tame_released at = record {
  well = λ n k well. well_released n at k well;
  switch = λ k. refl;
  cleared = λ k. refl;
  number = λ k. refl;
}

pub tame_none : IsTame (λ k. k)
tame_none = record { well = λ n k well. well; switch = λ k. refl; cleared = λ k. refl; number = λ k. refl }

-- ---- whose the channel is

pub data Owner (at : StationChannel) (j : Judging) : Type 0 where
  nobody : owner_of at j ≡ None → Owner at j
  mine : (m : ℕ) (k : ConnectionState) → HasChannel m at j k → Owner at j

pub owner_by : (at : StationChannel) (j : Judging) → ((n : ℕ) (k : ConnectionState) → j.connections n ≡ Some k → Well n k) → Owner at j
owner_by at j well = by (view_at j.channels at) refl
  where
    none : (view : ChannelView) → view_at j.channels at ≡ view → owner_in view j ≡ None → Owner at j
    none view is free = nobody (ap (λ (v : ChannelView). owner_in v j) is ∙ free)

    in_entry : (reference number : ℕ) (o : Entry) →
        view_at j.channels at ≡ views.Owned reference number →
        j.connections reference ≡ o →
        Owner at j
    in_entry reference number None is has = none (views.Owned reference number) is (ap (numbered_connection number) has)
    in_entry reference number (Some k) is has = elim (cases_Bool (k.number == number)) [
      | inl hit ↦ mine reference k (record { there = has; own = (well reference k has).is; view = is ∙ ap (λ (x : ℕ). views.Owned reference x) (sym (eqb-true k.number number hit)) })
      | inr miss ↦ none (views.Owned reference number) is (ap (numbered_connection number) has ∙ cond-false _ _ _ miss)
    ]

    by : (view : ChannelView) → view_at j.channels at ≡ view → Owner at j
    by (views.Owned reference number) is = in_entry reference number (j.connections reference) is refl
    by views.Unknown is = none views.Unknown is refl
    by (views.Activated reference) is = none (views.Activated reference) is refl
    by (views.Opened opening) is = none (views.Opened opening) is refl

pub owner_some : (n : ℕ) (at : StationChannel) (j : Judging) (k : ConnectionState) →
    j.connections n ≡ Some k →
    view_at j.channels at ≡ views.Owned n k.number →
    owner_of at j ≡ Some k
owner_some n at j k has view =
    ap (λ (v : ChannelView). owner_in v j) view
    ∙ ap (numbered_connection k.number) has
    ∙ cond-true _ _ _ (eq-eqb k.number k.number refl)

not_nobody : {P : Type 0} (n : ℕ) (at : StationChannel) (j : Judging) (k : ConnectionState) →
    owner_of at j ≡ None →
    j.connections n ≡ Some k →
    view_at j.channels at ≡ views.Owned n k.number →
    P
not_nobody n at j k none has view = absurd (let both : None ≡ Some k = sym none ∙ owner_some n at j k has view in cc)

owned_by : (m n a b : ℕ) → (let view : ChannelView = views.Owned m a in view) ≡ views.Owned n b → m ≡ n
owned_by m n a b same = cc

-- ---- a frame on a channel

abbrev pub HitAt : StationChannel → Judging → ℕ → ConnectionState → Type 0
HitAt at j n k = HasChannel n at j k

-- nothing changes
pub same_arrives : (Hit : ℕ → ConnectionState → Type 0) (change : ConnectionState → ConnectionState) (c : Controller) (j : Judging) →
    ((n : ℕ) (k : ConnectionState) → j.connections n ≡ Some k → Hit n k → ⊥) →
    Arrives Hit change c j j
same_arrives Hit change c j none = record {
  entries = λ n. still refl (none n) (λ k has owned. owned);
  names = λ source. refl;
  sees = sees_same j j refl;
  owners = λ at n number view. view;
}

-- the entry of the connection that has the channel
pub moves_arrives : (at : StationChannel) (change : ConnectionState → ConnectionState) (c : Controller) (j next : Judging) (m : ℕ) (k : ConnectionState) →
    HasChannel m at j k →
    Moves m change j next →
    KeepsLines change →
    Arrives (HitAt at j) change c j next
moves_arrives at change c j next m k has moved lines = record {
  entries = λ n. decide_same n m (Changes (HitAt at j n) change c j next n)
      (λ same. subst (λ (x : ℕ). Changes (HitAt at j x) change c j next x) (sym same)
      (moves k has.there has moved.mine (λ s there asked agrees owned. lines (λ (t : Tenure). view_at next.channels t.at ≡ views.Owned m k.number) k (owned_same j next moved.channels m k.number (lines_of k) owned))))
      (λ differ. still (moved.others n differ) (λ x had hit. differ (owned_by n m x.number k.number (sym hit.view ∙ has.view))) (λ x had owned. owned_same j next moved.channels n x.number (lines_of x) owned));
  names = moved.by_switch;
  sees = sees_same j next moved.channels;
  owners = λ other n number view. ap (λ stations. view_at stations other) (sym moved.channels) ∙ view;
}

pub owner_arrives : (at : StationChannel) (change : ConnectionState → ConnectionState) (c : Controller) (j : Judging) →
    Owner at j →
    KeepsLines change →
    Arrives (HitAt at j) change c j (with_owner at change j)
owner_arrives at change c j (nobody none) lines =
    subst (Arrives (HitAt at j) change c j) (sym (ap (λ (o : Entry). with_owner_in o change j) none))
    (same_arrives (HitAt at j) change c j (λ n k has hit. not_nobody n at j k none has hit.view))
owner_arrives at change c j (mine m k has) lines = moves_arrives at change c j (with_owner at change j) m k has (owner_moves m at change j k k.number has.there has.view refl has.own) lines

-- what is known of a channel that is nobody's
pub opened_arrives : (Hit : ℕ → ConnectionState → Type 0) (at : StationChannel) (o : OpeningState) (change : ConnectionState → ConnectionState) (c : Controller) (j : Judging) →
    owner_of at j ≡ None →
    IsNotOffered (view_at j.channels at) →
    ((n : ℕ) (k : ConnectionState) → j.connections n ≡ Some k → Hit n k → ⊥) →
    Arrives Hit change c j (with_channel at (views.Opened o) j)
opened_arrives Hit at o change c j unowned free none = record {
  entries = λ n. still refl (none n) (λ k has owned. all_so (λ (t : Tenure). view_at j.channels t.at ≡ views.Owned n k.number) (λ (t : Tenure). view_at next.channels t.at ≡ views.Owned n k.number) (lines_of k) (λ t view. seen n k has t.at view) owned);
  names = λ source. refl;
  sees = record {
    access = λ other was. elim (cases_Bool (is_same at other)) [
      | inl here ↦ subst IsNotOffered (sym (now other here)) tt
      | inr there ↦ subst IsNotOffered (sym (view_other at other (views.Opened o) j.channels there)) was
    ];
    offered = λ other reference was. elim (cases_Bool (is_same at other)) [
      | inl here ↦ absurd (subst IsNotOffered (ap (λ (x : StationChannel). view_at j.channels x) (same_is at other here) ∙ was) free)
      | inr there ↦ view_other at other (views.Opened o) j.channels there ∙ was
    ];
  };
  owners = λ other n number view. elim (cases_Bool (is_same at other)) [
    | inl here ↦ absurd (let both : views.Opened o ≡ views.Owned n number = sym (now other here) ∙ view in cc)
    | inr there ↦ sym (view_other at other (views.Opened o) j.channels there) ∙ view
  ];
}
  where
    next : Judging
    next = with_channel at (views.Opened o) j

    now : (other : StationChannel) → is_same at other ≡ true → view_at (with_channel at (views.Opened o) j).channels other ≡ views.Opened o
    now other here = ap (λ (x : StationChannel). view_at (with_channel at (views.Opened o) j).channels x) (sym (same_is at other here)) ∙ view_same at (views.Opened o) j.channels

    seen : (n : ℕ) (k : ConnectionState) →
        j.connections n ≡ Some k →
        (other : StationChannel) →
        view_at j.channels other ≡ views.Owned n k.number →
        view_at (with_channel at (views.Opened o) j).channels other ≡ views.Owned n k.number
    seen n k has other view = elim (cases_Bool (is_same at other)) [
      | inl here ↦ not_nobody n at j k unowned has (ap (λ (x : StationChannel). view_at j.channels x) (same_is at other here) ∙ view)
      | inr there ↦ view_other at other (views.Opened o) j.channels there ∙ view
    ]

pub brings_arrives : (at : StationChannel) (sapi : Sapi) (message : List ℕ) (frame : ℕ) (c : Controller) (j : Judging) →
    Owner at j →
    Arrives (HitAt at j) (brought at sapi message frame) c j (after frame (says.Brings at sapi message) j)
brings_arrives at sapi message frame c j owner = by (view_at j.channels at) refl
  where
    owned : Arrives (HitAt at j) (brought at sapi message frame) c j (with_owner at (brought at sapi message frame) j)
    owned = owner_arrives at (brought at sapi message frame) c j owner (lines_brought at sapi message frame)

    by : (view : ChannelView) →
        view_at j.channels at ≡ view →
        Arrives (HitAt at j) (brought at sapi message frame) c j (brought_by view at sapi message frame j)
    by (views.Opened o) is =
        let unowned : owner_of at j ≡ None = ap (λ (v : ChannelView). owner_in v j) is in
        opened_arrives (HitAt at j) at (followed_by (early_of sapi message frame) o) (brought at sapi message frame) c j unowned (subst IsNotOffered (sym is) tt) (λ n k has hit. not_nobody n at j k unowned has hit.view)
    by views.Unknown is = owned
    by (views.Activated reference) is = owned
    by (views.Owned reference number) is = owned

pub completes_arrives : (at : StationChannel) (change : Change) (frame : ℕ) (c : Controller) (j : Judging) →
    Owner at j →
    Arrives (HitAt at j) (completed at change) c j (after frame (says.Completes at change) j)
completes_arrives at change frame c j owner = owner_arrives at (completed at change) c j owner (lines_completed at change)

pub fails_arrives : (at : StationChannel) (change : Change) (frame : ℕ) (c : Controller) (j : Judging) →
    Owner at j →
    Arrives (HitAt at j) (failed at change) c j (after frame (says.Fails at change) j)
fails_arrives at change frame c j owner = owner_arrives at (failed at change) c j owner (lines_failed at change)

-- ---- an initial message

abbrev pub NoHit : ℕ → ConnectionState → Type 0
NoHit n k = ⊥

pub establishes_arrives : (at : StationChannel) (message : List ℕ) (frame : ℕ) (c : Controller) (j : Judging) →
    Arrives NoHit (λ k. k) c j (after frame (says.Establishes at message) j)
establishes_arrives at message frame c j = by (view_at j.channels at) refl (owner_of at j) refl
  where
    same : Arrives NoHit (λ k. k) c j j
    same = same_arrives NoHit (λ k. k) c j (λ n k has hit. hit)

    opens : (view : ChannelView) →
        view_at j.channels at ≡ view →
        IsNotOffered view →
        owner_of at j ≡ None →
        Arrives NoHit (λ k. k) c j (with_channel at (views.Opened (opening_behind view message frame)) j)
    opens view is free unowned = opened_arrives NoHit at (opening_behind view message frame) (λ k. k) c j unowned (subst IsNotOffered (sym is) free) (λ n k has hit. hit)

    by : (view : ChannelView) →
        view_at j.channels at ≡ view →
        (o : Entry) →
        owner_of at j ≡ o →
        Arrives NoHit (λ k. k) c j (opened_in view o at message frame j)
    by (views.Activated (Some reference)) is o owner = same
    by (views.Activated None) is (Some k) owner = same
    by (views.Activated None) is None owner = opens (views.Activated None) is tt owner
    by views.Unknown is (Some k) owner = same
    by views.Unknown is None owner = opens views.Unknown is tt owner
    by (views.Opened opening) is (Some k) owner = same
    by (views.Opened opening) is None owner = opens (views.Opened opening) is tt owner
    by (views.Owned reference number) is (Some k) owner = same
    by (views.Owned reference number) is None owner = opens (views.Owned reference number) is tt owner

all_optional : (es : List Early) → AllByRecursion MayBeIgnored (map optional_early es)
all_optional [] = tt
all_optional (e ∷ es) = (refl, all_optional es)

early_optional : (view : ChannelView) → AllByRecursion MayBeIgnored (early_before view)
early_optional (views.Opened o) = all_optional o.early
early_optional views.Unknown = tt
early_optional (views.Activated reference) = tt
early_optional (views.Owned reference number) = tt

-- on a channel for access that nobody has
pub establishes_opens : (at : StationChannel) (message : List ℕ) (frame : ℕ) (j : Judging) →
    IsNotOffered (view_at j.channels at) →
    owner_of at j ≡ None →
    IsOpening message (view_at (after frame (says.Establishes at message) j).channels at)
establishes_opens at message frame j free unowned = by (view_at j.channels at) free (owner_of at j) unowned
  where
    opens : (view : ChannelView) →
        IsOpening message (view_at (with_channel at (views.Opened (opening_behind view message frame)) j).channels at)
    opens view = subst (IsOpening message) (sym (view_same at (views.Opened (opening_behind view message frame)) j.channels)) (refl, early_optional view)

    by : (view : ChannelView) →
        IsNotOffered view →
        (o : Entry) →
        o ≡ None →
        IsOpening message (view_at (opened_in view o at message frame j).channels at)
    by (views.Activated (Some reference)) free o none = absurd free
    by (views.Activated None) free (Some k) none = absurd (let some : Some k ≡ None = none in cc)
    by (views.Activated None) free None none = opens (views.Activated None)
    by views.Unknown free (Some k) none = absurd (let some : Some k ≡ None = none in cc)
    by views.Unknown free None none = opens views.Unknown
    by (views.Opened opening) free (Some k) none = absurd (let some : Some k ≡ None = none in cc)
    by (views.Opened opening) free None none = opens (views.Opened opening)
    by (views.Owned reference number) free (Some k) none = absurd (let some : Some k ≡ None = none in cc)
    by (views.Owned reference number) free None none = opens (views.Owned reference number)

-- ---- RF CHANNEL RELEASE ACK

-- it is for an old channel of the connection
abbrev pub HitOld : StationChannel → Judging → ℕ → ConnectionState → Type 0
HitOld at j n k = HasChannel n at j k × (is_some (old_rank at k.former) ≡ true)

-- where an old tenure is, one drains
pub drains : (s : Connection) (k : ConnectionState) (at : StationChannel) →
    Agrees s k →
    is_some (old_rank at k.former) ≡ true →
    (place : ℕ) × (drain_at (spot at) s.draining ≡ Some place)
drains s k at agrees old = by (drain_at (spot at) s.draining) refl
  where
    by : (o : Option ℕ) → drain_at (spot at) s.draining ≡ o → (place : ℕ) × (drain_at (spot at) s.draining ≡ Some place)
    by (Some place) is = (place, is)
    by None is = absurd (true≢false (sym old ∙ ap (λ (o : Option ℕ). is_some o) (old_there at s.draining k.former is agrees.old)))

-- the channels that are left aren't there
left_away : (s : Connection) (k : ConnectionState) (at : StationChannel) →
    Agrees s k →
    AreApart (used_channels s) →
    is_some (old_rank at k.former) ≡ true →
    AllByRecursion (λ (t : Tenure). is_same t.at at ≡ false) (lines_of (released at k))
left_away s k at agrees apart old =
    let found = drains s k at agrees old in
    let behind : List Tenure = k.serving ∷ more_by k.serving k.awaited in
    let places : map (λ (t : Tenure). t.at) behind ≡ map at_of (s.serving ∷ known_in s.state) = (let more = more_places k.serving s.state k.awaited agrees.awaited in let serves = agrees.at in cc) in
    let others = rest_away at found.0 s.draining (s.serving ∷ known_in s.state) behind found.1 (apart_known s s.state refl apart) places in
    subst (AllByRecursion (λ (t : Tenure). is_same t.at at ≡ false)) (sym (lines_are (Kept at k.former) k.serving k.awaited))
    (all_joined (λ (t : Tenure). is_same t.at at ≡ false) (Kept at k.former) behind (all_kept_away at k.former) others)

lines_left : (P : Tenure → Type 0) (k : ConnectionState) (at : StationChannel) →
    AllByRecursion P (lines_of k) →
    AllByRecursion P (lines_of (released at k))
lines_left P k at all =
    let behind : List Tenure = k.serving ∷ more_by k.serving k.awaited in
    let these : AllByRecursion P (k.former ++ behind) = subst (AllByRecursion P) (lines_are k.former k.serving k.awaited) all in
    subst (AllByRecursion P) (sym (lines_are (Kept at k.former) k.serving k.awaited))
    (all_joined P (Kept at k.former) behind (all_kept P at k.former (all_front P k.former behind these)) (all_back P k.former behind these))

gone_arrives : (at : StationChannel) (c : Controller) (j next : Judging) (m : ℕ) (k : ConnectionState) → HasChannel m at j k → is_some (old_rank at k.former) ≡ true → Effect m at (released at) j next → view_at next.channels at ≡ views.Unknown
    → ((n : ℕ) (s : Connection) → connection_of c n ≡ Some s → IsAsked s.state → AreApart (used_channels s)) → Arrives (HitOld at j) (released at) c j next
gone_arrives at c j next m k has old effect now apart = record {
  entries = λ n. decide_same n m (Changes (HitOld at j n) (released at) c j next n)
      (λ same. subst (λ (x : ℕ). Changes (HitOld at j x) (released at) c j next x) (sym same) (moves k has.there (has, old) effect.mine
      (λ s there asked agrees owned. all_two (λ (t : Tenure). view_at j.channels t.at ≡ views.Owned m k.number) (λ (t : Tenure). is_same t.at at ≡ false) (λ (t : Tenure). view_at next.channels t.at ≡ views.Owned m k.number) (lines_of (released at k))
      (λ t view there. effect.views t.at (flip t.at there) ∙ view)
      (lines_left (λ (t : Tenure). view_at j.channels t.at ≡ views.Owned m k.number) k at owned) (left_away s k at agrees (apart m s there asked) old))))
      (λ differ. still (effect.others n differ) (λ x had hit. differ (owned_by n m x.number k.number (sym hit.0.view ∙ has.view)))
      (λ x had owned. all_so (λ (t : Tenure). view_at j.channels t.at ≡ views.Owned n x.number) (λ (t : Tenure). view_at next.channels t.at ≡ views.Owned n x.number) (lines_of x) (λ t view. other n x.number t.at (λ same. differ same) view) owned));
  names = effect.by_switch;
  sees = record {
    access = λ place was. elim (cases_Bool (is_same at place)) [
      | inl here ↦ subst IsNotOffered (sym (gone place here)) tt
      | inr there ↦ subst IsNotOffered (sym (effect.views place there)) was
    ];
    offered = λ place reference was. elim (cases_Bool (is_same at place)) [
      | inl here ↦ absurd (let both : views.Owned m k.number ≡ views.Activated (Some reference) = sym has.view ∙ ap (λ (x : StationChannel). view_at j.channels x) (same_is at place here) ∙ was in cc)
      | inr there ↦ effect.views place there ∙ was
    ];
  };
  owners = λ place n number view. elim (cases_Bool (is_same at place)) [
    | inl here ↦ absurd (let both : views.Unknown ≡ views.Owned n number = sym (gone place here) ∙ view in cc)
    | inr there ↦ sym (effect.views place there) ∙ view
  ];
}
  where
    gone : (place : StationChannel) → is_same at place ≡ true → view_at next.channels place ≡ views.Unknown
    gone place here = ap (λ (x : StationChannel). view_at next.channels x) (sym (same_is at place here)) ∙ now

    flip : (place : StationChannel) → is_same place at ≡ false → is_same at place ≡ false
    flip place there = elim (cases_Bool (is_same at place)) [
      | inr miss ↦ miss
      | inl hit ↦ absurd (true≢false (sym (is_itself at) ∙ ap (λ (x : StationChannel). is_same x at) (same_is at place hit) ∙ there))
    ]

    other : (n number : ℕ) (place : StationChannel) →
        n ≢ m →
        view_at j.channels place ≡ views.Owned n number →
        view_at next.channels place ≡ views.Owned n number
    other n number place differ view = elim (cases_Bool (is_same at place)) [
      | inl here ↦ absurd (differ (owned_by n m number k.number (sym view ∙ ap (λ (x : StationChannel). view_at j.channels x) (sym (same_is at place here)) ∙ has.view)))
      | inr there ↦ effect.views place there ∙ view
    ]

pub released_arrives : (at : StationChannel) (frame : ℕ) (c : Controller) (j : Judging) →
    Owner at j →
    ((n : ℕ) (s : Connection) → connection_of c n ≡ Some s → IsAsked s.state → AreApart (used_channels s)) →
    Arrives (HitOld at j) (released at) c j (after frame (says.Released at) j)
released_arrives at frame c j (nobody none) apart =
    subst (Arrives (HitOld at j) (released at) c j) (sym (ap (λ (o : Entry). left_by o at j) none))
    (same_arrives (HitOld at j) (released at) c j (λ n k has hit. not_nobody n at j k none has hit.0.view))
released_arrives at frame c j (mine m k has) apart = elim (cases_Bool (is_some (old_rank at k.former))) [
  | inl old ↦ gone_arrives at c j (after frame (says.Released at) j) m k has old (released_effect m frame at j k has old) (gone old) apart
  | inr new ↦
      subst (Arrives (HitOld at j) (released at) c j) (sym (not_released m frame at j k has new))
      (same_arrives (HitOld at j) (released at) c j (λ n x had hit. never n x had hit new))
]
  where
    never : (n : ℕ) (x : ConnectionState) → j.connections n ≡ Some x → HitOld at j n x → is_some (old_rank at k.former) ≡ false → ⊥
    never n x had hit new =
        let same : Some x ≡ Some k = sym (owner_is n at j x hit.0) ∙ owner_is m at j k has in
        let one : x ≡ k = cc in
        true≢false (sym hit.1 ∙ ap (λ (y : ConnectionState). is_some (old_rank at y.former)) one ∙ new)

    gone : is_some (old_rank at k.former) ≡ true → view_at (after frame (says.Released at) j).channels at ≡ views.Unknown
    gone old =
        ap (λ (o : Entry). view_at (left_by o at j).channels at) (owner_is m at j k has)
        ∙ ap (λ (x : Judging). view_at x.channels at) (cond-true _ _ _ old)
        ∙ view_same at views.Unknown j.channels
