-- SPDX-License-Identifier: MIT OR Apache-2.0
-- Lemmas: the judge after the switch's answer to a CR, CC or CREF.
use Rattle.std.proofs.Common.{◌≡◌, ◌≢◌, ℕ, ◌⊎◌, inl, inr, Option, Some, None, refl, sym, subst, ap, ◌∙◌, option_map}
use Rattle.std.proofs.lemmas.Bool.{cond-false, cond-true, eq-eqb, eqb-true, false_from_ne_true}
use Rattle.std.specs.Option.{is_none, is_some}
use Rattle.std.specs.Prelude.{if◌then◌else◌}
use Rattle.conn_messages.specs.declared.channel.Channel.{Channel}
use Rattle.conn_rules.specs.Connection.{Connection}
use Rattle.conn_rules.specs.declared.input.Input.TheVariants as inputs
use Rattle.conn_rules.specs.declared.state.Clearing.TheVariants.{Due, Asked as WasAsked, Complete}
use Rattle.conn_rules.specs.declared.state.State.{State}
use Rattle.conn_rules.specs.declared.state.State.TheVariants.{Closed, Live, Removed, WaitActivation, WaitConfirm, WaitEstablish}
use Rattle.conn_rules.specs.declared.state.Stage.TheVariants.{Preparing}
use Rattle.conn_rules.specs.declared.state.Target.{Target}
use Rattle.conn_rules.specs.Roles.{roles_of}
use Rattle.conn_rules.specs.Steps.{Row}
use Rattle.conn_rules.specs.Streams.{AreApart, IsOpen, OfRow, used_channels}
use Rattle.conn_rules.specs.Table.{on_confirm, on_refused, row_of}
use Rattle.conn_rules.specs.Validity.{IsValid}
use Rattle.controller_model.specs.Controller.{Controller}
use Rattle.controller_model.specs.LifeLaws.History.{connection_of}
use Rattle.controller_model.proofs.LifeLaws.Words.{decide_same}
use Rattle.run_judge.specs.declared.connection.Reason.TheVariants as reasons
use Rattle.run_judge.specs.declared.connection.Unjudged.{Unjudged}
use Rattle.run_judge.specs.declared.judge.Named.{Named}
use Rattle.run_judge.specs.declared.judge.Named.TheVariants.{One, Shared}
use Rattle.run_judge.specs.declared.said.Said.TheVariants as says
use Rattle.run_judge.specs.Connection.{confirmed, first_of, unjudged_from, while_judged, while_judged_of}
use Rattle.run_judge.specs.ConnectionState.{ConnectionState}
use Rattle.run_judge.specs.Judging.{Judging, after, confirmed_by, is_unconfirmed, named_by, put, refused, with_judged, without, without_switch_reference}
use Rattle.judge_laws.proofs.Agreeing.{prepared_unchanged}
use Rattle.judge_laws.proofs.Arrivals.{arrived_plain}
use Rattle.judge_laws.proofs.Fine.{IsEarly, IsFine, IsJudged, IsPresent, IsUnconfirmed}
use Rattle.judge_laws.proofs.HeardFine.{Follows, IsCalledBy, IsReadyJudged, IsReadyOwn, no_command_step}
use Rattle.judge_laws.proofs.HeardFine.Follows.{prepared}
use Rattle.judge_laws.proofs.HeardFineChanges.{IsTame, KeepsNames, fine_by, moved_behind, owned_same, sees_same, still_behind}
use Rattle.judge_laws.proofs.Hearing.{IsConfirmed, confirms_first}
use Rattle.judge_laws.proofs.Moving.{IsIdle, IsNamed, judged_moves}
use Rattle.judge_laws.proofs.Well.{Well, well_confirmed, well_judged, well_unjudged}
use Rattle.judge_laws.specs.Agreeing.{Agrees, IsAsked}
use Rattle.judge_laws.specs.Places.{at_of}

abbrev Entry : Type 0
Entry = Option ConnectionState

-- ---- the states of a connection that waits for the answer

-- one that waits isn't there early, and the switch doesn't call it yet
waits_not_early : (state : State) → IsUnconfirmed state → IsEarly state → ⊥
waits_not_early WaitConfirm un early = early
waits_not_early (Closed clearing) un early = early
waits_not_early WaitActivation un early = un
waits_not_early WaitEstablish un early = un
waits_not_early (Live reference stage) un early = un
waits_not_early Removed un early = un

-- CC: what the switch called it before, or its source
called_as : (source reference : ℕ) (state : State) →
    IsUnconfirmed state →
    IsCalledBy (inputs.ConnectionConfirm source) reference state →
    source ≡ reference
called_as source reference WaitConfirm un is = cc
called_as source reference (Closed (Due cause)) un is = cc
called_as source reference (Closed (WasAsked own)) un is = absurd un
called_as source reference (Closed Complete) un is = absurd un
called_as source reference WaitActivation un is = absurd un
called_as source reference WaitEstablish un is = absurd un
called_as source reference (Live own stage) un is = absurd un
called_as source reference Removed un is = absurd un

-- CREF: none
never_called : (reference : ℕ) (state : State) → IsUnconfirmed state → IsCalledBy inputs.ConnectionRefused reference state → ⊥
never_called reference WaitConfirm un is = (let differ : inputs.ConnectionRefused ≡ inputs.ConnectionConfirm reference = is in cc)
never_called reference (Closed (Due cause)) un is = (let differ : inputs.ConnectionRefused ≡ inputs.ConnectionConfirm reference = is in cc)
never_called reference (Closed (WasAsked own)) un is = un
never_called reference (Closed Complete) un is = un
never_called reference WaitActivation un is = un
never_called reference WaitEstablish un is = un
never_called reference (Live own stage) un is = un
never_called reference Removed un is = un

-- an answer has a row exactly of those, and leaves none so
pub confirm_row : (s : Connection) (source : ℕ) (offer : Option Channel) (r : Row) →
    row_of s (inputs.ConnectionConfirm source) offer ≡ Some r →
    IsUnconfirmed s.state × (IsUnconfirmed r.next.state → ⊥)
unfolding row_of
confirm_row s source offer r fits = subst (OfRow (λ (q : Row). IsUnconfirmed s.state × (IsUnconfirmed q.next.state → ⊥))) fits (by s.state)
  where
    by : (state : State) → OfRow (λ (q : Row). IsUnconfirmed state × (IsUnconfirmed q.next.state → ⊥)) (on_confirm state s source)
    by WaitConfirm = (tt, λ un. un)
    by (Closed (Due cause)) = (tt, λ un. un)
    by _ = tt

pub refuse_row : (s : Connection) (offer : Option Channel) (r : Row) →
    row_of s inputs.ConnectionRefused offer ≡ Some r →
    IsUnconfirmed s.state × (IsUnconfirmed r.next.state → ⊥) × (IsOpen r.next.state → ⊥)
unfolding row_of
refuse_row s offer r fits = subst (OfRow (λ (q : Row). IsUnconfirmed s.state × (IsUnconfirmed q.next.state → ⊥) × (IsOpen q.next.state → ⊥))) fits (by s.state)
  where
    by : (state : State) →
        OfRow (λ (q : Row). IsUnconfirmed state × (IsUnconfirmed q.next.state → ⊥) × (IsOpen q.next.state → ⊥)) (on_refused state s)
    by WaitConfirm = (tt, (λ un. un), (λ open_still. open_still))
    by (Closed (Due cause)) = (tt, (λ un. un), (λ open_still. open_still))
    by _ = tt

pub confirm_misses : (s : Connection) (source : ℕ) (offer : Option Channel) →
    row_of s (inputs.ConnectionConfirm source) offer ≡ None →
    IsUnconfirmed s.state →
    ⊥
unfolding row_of
confirm_misses s source offer misses un = by s.state un misses
  where
    by : (state : State) → IsUnconfirmed state → on_confirm state s source ≡ None → ⊥
    by WaitConfirm un misses = cc
    by (Closed (Due cause)) un misses = cc
    by _ un misses = un

pub refuse_misses : (s : Connection) (offer : Option Channel) → row_of s inputs.ConnectionRefused offer ≡ None → IsUnconfirmed s.state → ⊥
unfolding row_of
refuse_misses s offer misses un = by s.state un misses
  where
    by : (state : State) → IsUnconfirmed state → on_refused state s ≡ None → ⊥
    by WaitConfirm un misses = cc
    by (Closed (Due cause)) un misses = cc
    by _ un misses = un

-- ---- CC

abbrev unjudges : ℕ → ConnectionState → ConnectionState
unjudges frame k = unjudged_from reasons.SharedReference frame k

tame_unjudged : (frame : ℕ) → IsTame (unjudges frame)
tame_unjudged frame = record { well = λ n k well. well_unjudged n reasons.SharedReference frame k well; switch = λ k. refl; cleared = λ k. refl; number = λ k. refl }

-- from then on it isn't judged
is_unjudged : (frame : ℕ) (k : ConnectionState) → (unjudged : Unjudged) × ((while_judged (unjudges frame) k).unjudged ≡ Some unjudged)
is_unjudged frame k = by k.unjudged refl
  where
    first : (u : Option Unjudged) →
        u ≡ None →
        first_of u (record { reason = reasons.SharedReference; frame = frame }) ≡ Some (record { reason = reasons.SharedReference; frame = frame })
    first None is = refl
    first (Some unjudged) is = absurd cc

    by : (u : Option Unjudged) → k.unjudged ≡ u → (unjudged : Unjudged) × ((while_judged_of u (unjudges frame) k).unjudged ≡ Some unjudged)
    by None is = (record { reason = reasons.SharedReference; frame = frame }, first k.unjudged is)
    by (Some unjudged) is = (unjudged, is)

idle_behind : (frame : ℕ) (o : Entry) → IsIdle (option_map (while_judged (unjudges frame)) o)
idle_behind frame None = tt
idle_behind frame (Some k) = is_unjudged frame k

-- a second time it is the same
twice : (frame : ℕ) (o : Entry) →
    option_map (while_judged (unjudges frame)) (option_map (while_judged (unjudges frame)) o) ≡ option_map (while_judged (unjudges frame)) o
twice frame None = refl
twice frame (Some k) =
    let unjudged = is_unjudged frame k in
    ap (λ (x : ConnectionState). Some x) (ap (λ (u : Option Unjudged). while_judged_of u (unjudges frame) (while_judged (unjudges frame) k)) unjudged.1)

-- the source may be another connection's too: those that it is of aren't judged any more
pub record IsShared (n source frame : ℕ) (j next : Judging) : Type 0 where
  pub own : next.connections n ≡ option_map (while_judged (unjudges frame)) (j.connections n)
  pub each : (m : ℕ) →
      (next.connections m ≡ j.connections m) ⊎ (next.connections m ≡ option_map (while_judged (unjudges frame)) (j.connections m))
  pub names : (m : ℕ) → KeepsNames j next m
  pub named : next.by_switch source ≡ Some Shared
  pub channels : next.channels ≡ j.channels

-- what CC makes of a judge
pub data Answered (n source frame : ℕ) (j next : Judging) : Type 0 where
  same : next ≡ j → ((k : ConnectionState) → j.connections n ≡ Some k → k.switch ≡ None → ⊥) → Answered n source frame j next
  first : (k : ConnectionState) →
      j.connections n ≡ Some k →
      k.switch ≡ None →
      j.by_switch source ≡ None →
      IsConfirmed n source k j next →
      Answered n source frame j next
  shares : IsShared n source frame j next → Answered n source frame j next

module _ (n source frame : ℕ) (j : Judging) where
  abbrev unjudge : Judging → ℕ → Judging
  unjudge i m = with_judged m (unjudges frame) i

  unjudge_at : (i : Judging) (m x : ℕ) →
      ((unjudge i m).connections x ≡ i.connections x) ⊎ ((unjudge i m).connections x ≡ option_map (while_judged (unjudges frame)) (i.connections x))
  unjudge_at i m x =
      let moved = judged_moves m (unjudges frame) i in
      decide_same x m (((unjudge i m).connections x ≡ i.connections x) ⊎ ((unjudge i m).connections x ≡ option_map (while_judged (unjudges frame)) (i.connections x)))
      (λ is. inr (subst (λ (y : ℕ). (unjudge i m).connections y ≡ option_map (while_judged (unjudges frame)) (i.connections y)) (sym is) moved.mine))
      (λ differ. inl (moved.others x differ))

  -- an entry that isn't judged any more remains so
  names_by : (m : ℕ) (o : Option Named) (x y : Entry) →
      (y ≡ x) ⊎ (y ≡ option_map (while_judged (unjudges frame)) x) →
      IsNamed m o x →
      IsNamed m o y
  names_by m None x y is named = absurd named
  names_by m (Some (One other)) x y is named = named
  names_by m (Some Shared) x y is named = elim is [
    | inl left ↦ subst IsIdle (sym left) named
    | inr changed ↦ subst IsIdle (sym changed) (idle_behind frame x)
  ]

  with_shared : j.by_switch source ≡ Some Shared → IsShared n source frame j (named_by (Some Shared) n source frame j)
  with_shared is =
      let moved = judged_moves n (unjudges frame) j in
      record {
        own = moved.mine;
        each = λ m. unjudge_at j n m;
        names = λ m reference named. names_by m (j.by_switch reference) (j.connections m) ((unjudge j n).connections m) (unjudge_at j n m) named;
        named = is;
        channels = refl;
      }

  with_other : (other : ℕ) →
      j.by_switch source ≡ Some (One other) →
      IsShared n source frame j (named_by (Some (One other)) n source frame j)
  with_other other is = record {
    own = own;
    each = λ m. each m (unjudge_at j n m) (unjudge_at (unjudge j n) other m);
    names = λ m reference named. decide_same reference source (IsNamed m (put source (Some Shared) j.by_switch reference) ((unjudge (unjudge j n) other).connections m))
        (λ here. subst (λ (o : Option Named). IsNamed m o ((unjudge (unjudge j n) other).connections m)) (sym (cond-true _ _ _ (eq-eqb source reference (sym here)))) (of_source m (subst (λ (x : ℕ). IsNamed m (j.by_switch x) (j.connections m)) here named)))
        (λ there. subst (λ (o : Option Named). IsNamed m o ((unjudge (unjudge j n) other).connections m)) (sym (cond-false _ _ _ (false_from_ne_true _ (λ hit. there (sym (eqb-true source reference hit))))))
        (names_by m (j.by_switch reference) (j.connections m) ((unjudge (unjudge j n) other).connections m) (each m (unjudge_at j n m) (unjudge_at (unjudge j n) other m)) named));
    named = cond-true _ _ _ (eq-eqb source source refl);
    channels = refl;
  }
    where
      each : (m : ℕ) → ((unjudge j n).connections m ≡ j.connections m) ⊎ ((unjudge j n).connections m ≡ option_map (while_judged (unjudges frame)) (j.connections m))
          → ((unjudge (unjudge j n) other).connections m ≡ (unjudge j n).connections m) ⊎ ((unjudge (unjudge j n) other).connections m ≡ option_map (while_judged (unjudges frame)) ((unjudge j n).connections m))
          → ((unjudge (unjudge j n) other).connections m ≡ j.connections m) ⊎ ((unjudge (unjudge j n) other).connections m ≡ option_map (while_judged (unjudges frame)) (j.connections m))
      each m one two = elim one [
        | inl first_same ↦ elim two [
          | inl still ↦ inl (still ∙ first_same)
          | inr changed ↦ inr (changed ∙ ap (option_map (while_judged (unjudges frame))) first_same)
        ]
        | inr first_changed ↦ elim two [
          | inl still ↦ inr (still ∙ first_changed)
          | inr changed ↦ inr (changed ∙ ap (option_map (while_judged (unjudges frame))) first_changed ∙ twice frame (j.connections m))
        ]
      ]

      own : (unjudge (unjudge j n) other).connections n ≡ option_map (while_judged (unjudges frame)) (j.connections n)
      own =
          let first_time = (judged_moves n (unjudges frame) j).mine in
          elim (unjudge_at (unjudge j n) other n) [
            | inl still ↦ still ∙ first_time
            | inr changed ↦ changed ∙ ap (option_map (while_judged (unjudges frame))) first_time ∙ twice frame (j.connections n)
          ]

      -- the one that had the source
      of_source : (m : ℕ) → IsNamed m (j.by_switch source) (j.connections m) → IsIdle ((unjudge (unjudge j n) other).connections m)
      of_source m named =
          let same : other ≡ m = subst (λ (o : Option Named). IsNamed m o (j.connections m)) is named in
          subst (λ (x : ℕ). IsIdle ((unjudge (unjudge j n) other).connections x)) same
          (subst IsIdle (sym (judged_moves other (unjudges frame) (unjudge j n)).mine) (idle_behind frame ((unjudge j n).connections other)))

  pub answered : Answered n source frame j (after frame (says.Confirms n source) j)
  answered = by (j.connections n) refl
    where
      goes : (o : Option Named) →
          j.by_switch source ≡ o →
          IsShared n source frame j (named_by o n source frame j) →
          IsShared n source frame j (named_by (j.by_switch source) n source frame j)
      goes o is shared = subst (λ (x : Option Named). IsShared n source frame j (named_by x n source frame j)) (sym is) shared

      to_named : (k : ConnectionState) →
          j.connections n ≡ Some k →
          k.switch ≡ None →
          after frame (says.Confirms n source) j ≡ named_by (j.by_switch source) n source frame j
      to_named k has unconfirmed =
          ap (λ (o : Entry). confirmed_by o n source frame j) has
          ∙ ap (λ (o : Option ℕ). if is_some o then j else named_by (j.by_switch source) n source frame j) unconfirmed

      named : (k : ConnectionState) →
          j.connections n ≡ Some k →
          k.switch ≡ None →
          (o : Option Named) →
          j.by_switch source ≡ o →
          Answered n source frame j (after frame (says.Confirms n source) j)
      named k has unconfirmed None is = first k has unconfirmed is (confirms_first n source frame j k has unconfirmed is)
      named k has unconfirmed (Some (One other)) is = shares (subst (IsShared n source frame j) (sym (to_named k has unconfirmed)) (goes (Some (One other)) is (with_other other is)))
      named k has unconfirmed (Some Shared) is = shares (subst (IsShared n source frame j) (sym (to_named k has unconfirmed)) (goes (Some Shared) is (with_shared is)))

      by_switch : (k : ConnectionState) →
          j.connections n ≡ Some k →
          (o : Option ℕ) →
          k.switch ≡ o →
          Answered n source frame j (after frame (says.Confirms n source) j)
      by_switch k has None is = named k has is (j.by_switch source) refl
      by_switch k has (Some known) is = same (ap (λ (o : Entry). confirmed_by o n source frame j) has ∙ ap (λ (o : Option ℕ). if is_some o then j else named_by (j.by_switch source) n source frame j) is)
          (λ x had none. (let one : Some k ≡ Some x = sym has ∙ had in let both : Some known ≡ None = sym is ∙ ap (λ (y : ConnectionState). y.switch) (let eq : k ≡ x = cc in eq) ∙ none in cc))

      by : (o : Entry) → j.connections n ≡ o → Answered n source frame j (after frame (says.Confirms n source) j)
      by None has = same (ap (λ (o : Entry). confirmed_by o n source frame j) has) (λ x had none. (let both : None ≡ Some x = sym has ∙ had in cc))
      by (Some k) has = by_switch k has k.switch refl

-- ---- what is fine behind CC

confirmed_agrees : (s : Connection) (source : ℕ) (k : ConnectionState) → Agrees s k → Agrees s (confirmed source k)
confirmed_agrees s source k agrees = record { at = agrees.at; old = agrees.old; awaited = agrees.awaited; rising = agrees.rising; up = agrees.up; down = agrees.down; is_open = agrees.is_open }

-- names of others, and of the one that is confirmed
first_names : (n source : ℕ) (k : ConnectionState) (j next : Judging) (m : ℕ) →
    j.by_switch source ≡ None →
    IsConfirmed n source k j next →
    ((o : Option Named) → IsNamed m o (j.connections m) → IsNamed m o (next.connections m)) →
    KeepsNames j next m
first_names n source k j next m free is keeps reference named = decide_same reference source (IsNamed m (next.by_switch reference) (next.connections m))
    (λ here. absurd (subst (λ (o : Option Named). IsNamed m o (j.connections m)) (ap j.by_switch here ∙ free) named))
    (λ there. subst (λ (o : Option Named). IsNamed m o (next.connections m)) (sym (is.other_names reference there)) (keeps (j.by_switch reference) named))

confirmed_names : (m source : ℕ) (k : ConnectionState) (o : Option Named) → IsNamed m o (Some k) → IsNamed m o (Some (confirmed source k))
confirmed_names m source k None named = absurd named
confirmed_names m source k (Some (One other)) named = named
confirmed_names m source k (Some Shared) named = named

-- another connection
other_first : (c : Controller) (j next : Judging) (n m source : ℕ) (k : ConnectionState) →
    m ≢ n →
    j.by_switch source ≡ None →
    IsConfirmed n source k j next →
    IsFine c j m →
    IsFine c next m
other_first c j next n m source k differ free is fine =
    let left : next.connections m ≡ j.connections m = is.others m differ in
    fine_by c next m
    (still_behind c j next m left (first_names n source k j next m free is (λ o named. subst (IsNamed m o) (sym left) named)) (sees_same j next is.channels) (λ x had owned. owned_same j next is.channels m x.number _ owned) fine)
    (λ s x there has judged asked. (fine.judged s x there (sym left ∙ has) judged).agrees asked)

-- the one that is confirmed, where it doesn't wait for it
own_first : (c : Controller) (j next : Judging) (n source : ℕ) (k : ConnectionState) →
    j.connections n ≡ Some k →
    k.switch ≡ None →
    j.by_switch source ≡ None →
    IsConfirmed n source k j next →
    ((s : Connection) → connection_of c n ≡ Some s → IsUnconfirmed s.state → ⊥) →
    IsFine c j n →
    IsFine c next n
own_first c j next n source k had unconfirmed free is none fine = record {
  unasked = λ un. absurd (let both : None ≡ Some k = sym (fine.unasked un) ∙ had in cc);
  well = λ x has. subst (Well n) (one x has) (well_confirmed n source k (fine.well k had));
  judged = λ s x there has judged.
      let old = fine.judged s k there had (ap (λ (y : ConnectionState). y.unjudged) (one x has) ∙ judged) in
      subst (λ (y : ConnectionState). IsJudged n s y next) (one x has) (record {
        agrees = λ asked. confirmed_agrees s source k (old.agrees asked);
        owned = λ asked. owned_same j next is.channels n k.number _ (old.owned asked);
        uncleared = old.uncleared;
        called = λ reference called. absurd (let both : None ≡ Some reference = sym unconfirmed ∙ old.called reference called in cc);
        commandless = old.commandless;
      });
  named = λ s reference there called. first_names n source k j next n free is (λ o named. subst (IsNamed n o) (sym is.mine) (confirmed_names n source k o (subst (IsNamed n o) had named))) reference (fine.named s reference there called);
  unconfirmed = λ s x there un has. absurd (none s there un);
  present = λ s there un. absurd (none s there un);
  access = λ s there early. (sees_same j next is.channels).access (at_of s.serving) (fine.access s there early);
  offered = λ s reference target there live change. (sees_same j next is.channels).offered (at_of target.channel) target.channel.reference.0 (fine.offered s reference target there live change);
  assigned = fine.assigned;
}
  where
    one : (x : ConnectionState) → next.connections n ≡ Some x → confirmed source k ≡ x
    one x has = (let both : Some (confirmed source k) ≡ Some x = sym is.mine ∙ has in cc)

-- one that isn't judged any more, or is as it was
shared_fine : (c : Controller) (j next : Judging) (n m source frame : ℕ) → IsShared n source frame j next → IsFine c j m → IsFine c next m
shared_fine c j next n m source frame is fine = elim (is.each m) [
  | inl left ↦
      fine_by c next m
      (still_behind c j next m left (is.names m) (sees_same j next is.channels) (λ x had owned. owned_same j next is.channels m x.number _ owned) fine)
      (λ s x there has judged asked. (fine.judged s x there (sym left ∙ has) judged).agrees asked)
  | inr changed ↦ by (j.connections m) refl changed
]
  where
    by : (o : Entry) →
        j.connections m ≡ o →
        next.connections m ≡ option_map (while_judged (unjudges frame)) (j.connections m) →
        IsFine c next m
    by None none changed =
        let left : next.connections m ≡ j.connections m = changed ∙ ap (option_map (while_judged (unjudges frame))) none ∙ sym none in
        fine_by c next m
        (still_behind c j next m left (is.names m) (sees_same j next is.channels) (λ x had owned. owned_same j next is.channels m x.number _ owned) fine)
        (λ s x there has judged asked. (fine.judged s x there (sym left ∙ has) judged).agrees asked)
    by (Some k) had changed = fine_by c next m
        (moved_behind c j next m (unjudges frame) k (tame_unjudged frame) had changed (is.names m) (sees_same j next is.channels) (λ s there asked agrees owned. owned_same j next is.channels m k.number _ owned) fine)
        (λ s x there has judged asked.
        let same : while_judged (unjudges frame) k ≡ x = (let both : Some (while_judged (unjudges frame) k) ≡ Some x = sym (changed ∙ ap (option_map (while_judged (unjudges frame))) had) ∙ has in cc) in
        let unjudged = is_unjudged frame k in
        absurd (let both : Some unjudged.0 ≡ None = sym unjudged.1 ∙ ap (λ (y : ConnectionState). y.unjudged) same ∙ judged in cc))

-- any connection but the one that waits for it
pub answered_fine : (c : Controller) (j next : Judging) (n m source frame : ℕ) →
    Answered n source frame j next →
    (m ≡ n → (s : Connection) → connection_of c m ≡ Some s → IsUnconfirmed s.state → ⊥) →
    IsFine c j m →
    IsFine c next m
answered_fine c j next n m source frame (same is none) waits fine = subst (λ (i : Judging). IsFine c i m) (sym is) fine
answered_fine c j next n m source frame (shares is) waits fine = shared_fine c j next n m source frame is fine
answered_fine c j next n m source frame (first k had unconfirmed free is) waits fine = decide_same m n (IsFine c next m)
    (λ own. subst (λ (x : ℕ). IsFine c next x) (sym own) (own_first c j next n source k had unconfirmed free is (λ s there un. waits own s (subst (λ (x : ℕ). connection_of c x ≡ Some s) (sym own) there) un) (subst (IsFine c j) own fine)))
    (λ differ. other_first c j next n m source k differ free is fine)

pub answered_channels : (n source frame : ℕ) (j next : Judging) → Answered n source frame j next → next.channels ≡ j.channels
answered_channels n source frame j next (same is none) = ap (λ (i : Judging). i.channels) is
answered_channels n source frame j next (first k had unconfirmed free is) = is.channels
answered_channels n source frame j next (shares is) = is.channels

-- the one that waits: the row follows
pub answered_ready : (c : Controller) (j next : Judging) (n source frame : ℕ) (s : Connection) (offer : Option Channel) (r : Row) →
    Answered n source frame j next →
    connection_of c n ≡ Some s →
    row_of s (inputs.ConnectionConfirm source) offer ≡ Some r →
    IsValid s →
    (IsOpen s.state → AreApart (used_channels s)) →
    IsFine c j n →
    IsReadyOwn n s (inputs.ConnectionConfirm source) r next
answered_ready c j next n source frame s offer r answer there fits valid apart fine = by answer
  where
    row : IsUnconfirmed s.state × (IsUnconfirmed r.next.state → ⊥)
    row = confirm_row s source offer r fits

    asked_open : (state : State) → IsAsked state → IsOpen state
    asked_open WaitConfirm asked = tt
    asked_open (Live reference stage) asked = tt
    asked_open WaitActivation asked = absurd asked
    asked_open WaitEstablish asked = absurd asked
    asked_open (Closed clearing) asked = absurd asked
    asked_open Removed asked = absurd asked

    early : {P : Type 0} → IsEarly s.state → P
    early is = absurd (waits_not_early s.state row.0 is)

    live : {P : Type 0} (reference : ℕ) (target : Target) → s.state ≡ Live reference (Preparing target) → P
    live reference target is = absurd (subst IsUnconfirmed is row.0)

    follow : (k : ConnectionState) →
        Agrees s k →
        IsAsked s.state →
        IsOpen r.next.state →
        Follows s (inputs.ConnectionConfirm source) r (confirmed source k)
    follow k agrees asked is_open = prepared (no_command_step (inputs.ConnectionConfirm source) (roles_of s) tt) (prepared_unchanged s (inputs.ConnectionConfirm source) offer r (confirmed source k)
        (record { fits = fits; valid = valid; apart = apart (asked_open s.state asked); was_open = asked_open s.state asked; is_open = is_open }) refl (λ future. tt)
        (arrived_plain s (inputs.ConnectionConfirm source) (confirmed source k) tt (confirmed_agrees s source k agrees)))

    ready : ((k : ConnectionState) → next.connections n ≡ Some k → Well n k) →
        ((k : ConnectionState) → next.connections n ≡ Some k → k.unjudged ≡ None → IsReadyJudged n s (inputs.ConnectionConfirm source) r k next) →
        IsNamed n (next.by_switch source) (next.connections n) →
        IsReadyOwn n s (inputs.ConnectionConfirm source) r next
    ready well judged named = record {
      unasked = λ is. early is;
      opens = λ is. tt;
      well = well;
      judged = judged;
      named = λ reference called. subst (λ (x : ℕ). IsNamed n (next.by_switch x) (next.connections n)) (called_as source reference s.state row.0 called) named;
      unconfirmed = λ k un still has. absurd (row.1 still);
      present = λ un still. absurd (row.1 still);
      access = λ is. early is;
      offered = λ reference target is change. live reference target is;
      assigned = λ reference target is change. live reference target is;
    }

    by : Answered n source frame j next → IsReadyOwn n s (inputs.ConnectionConfirm source) r next
    by (same is none) = absurd (never (j.connections n) refl (fine.present s there row.0))
      where
        never : (o : Entry) → j.connections n ≡ o → IsPresent o → ⊥
        never None has present = present
        never (Some k) has present = none k has (fine.unconfirmed s k there row.0 has)
    by (first k had unconfirmed free is) = ready
        (λ x has. subst (Well n) (one x has) (well_confirmed n source k (fine.well k had)))
        (λ x has judged.
        let old = fine.judged s k there had (ap (λ (y : ConnectionState). y.unjudged) (one x has) ∙ judged) in
        subst (λ (y : ConnectionState). IsReadyJudged n s (inputs.ConnectionConfirm source) r y next) (one x has) (record {
          follows = λ asked is_open. follow k (old.agrees asked) asked is_open;
          owned = λ asked. owned_same j next is.channels n k.number _ (old.owned asked);
          uncleared = old.uncleared;
          called = λ reference called. ap (λ (x : ℕ). Some x) (called_as source reference s.state row.0 called);
          commandless = old.commandless;
          brings = tt;
        }))
        (subst (λ (o : Option Named). IsNamed n o (next.connections n)) (sym is.named) refl)
      where
        one : (x : ConnectionState) → next.connections n ≡ Some x → confirmed source k ≡ x
        one x has = (let both : Some (confirmed source k) ≡ Some x = sym is.mine ∙ has in cc)
    by (shares is) = ready
        (λ x has. subst_well (j.connections n) refl x has)
        (λ x has judged. absurd (never x has judged))
        (subst (λ (o : Option Named). IsNamed n o (next.connections n)) (sym is.named) idle)
      where
        idle : IsIdle (next.connections n)
        idle = subst IsIdle (sym is.own) (idle_behind frame (j.connections n))

        never : (x : ConnectionState) → next.connections n ≡ Some x → x.unjudged ≡ None → ⊥
        never x has judged =
            let unjudged : IsIdle (Some x) = subst IsIdle has idle in
            (let both : Some unjudged.0 ≡ None = sym unjudged.1 ∙ judged in cc)

        subst_well : (o : Entry) → j.connections n ≡ o → (x : ConnectionState) → next.connections n ≡ Some x → Well n x
        subst_well None none x has = absurd (let both : None ≡ Some x = sym (is.own ∙ ap (option_map (while_judged (unjudges frame))) none) ∙ has in cc)
        subst_well (Some k) had x has =
            let both : Some (while_judged (unjudges frame) k) ≡ Some x = sym (is.own ∙ ap (option_map (while_judged (unjudges frame))) had) ∙ has in
            let one : while_judged (unjudges frame) k ≡ x = cc in
            subst (Well n) one (well_judged n (unjudges frame) k (fine.well k had) (λ judged. well_unjudged n reasons.SharedReference frame k (fine.well k had)))

-- ---- CREF

-- the connection ends for the judge, or nothing changes
pub data Refused (n : ℕ) (j next : Judging) : Type 0 where
  left : next ≡ j → Refused n j next
  ends : next.connections n ≡ None →
      ((m : ℕ) → m ≢ n → next.connections m ≡ j.connections m) →
      ((source : ℕ) → next.by_switch source ≡ j.by_switch source) →
      next.channels ≡ j.channels →
      Refused n j next

pub refused_is : (n frame : ℕ) (j : Judging) → Refused n j (after frame (says.Refuses n) j)
refused_is n frame j = by (j.connections n) refl
  where
    gone : (k : ConnectionState) → k.switch ≡ None → Refused n j (without (Some k) n j)
    gone k unconfirmed = subst (Refused n j) (sym (ap (λ (o : Option ℕ). without_switch_reference o n (record j { connections = put n None j.connections })) unconfirmed))
        (ends (cond-true _ _ _ (eq-eqb n n refl)) (λ m differ. cond-false _ _ _ (false_from_ne_true _ (λ hit. differ (sym (eqb-true n m hit))))) (λ source. refl) refl)

    by_switch : (k : ConnectionState) (o : Option ℕ) → k.switch ≡ o → Refused n j (if is_none o then without (Some k) n j else j)
    by_switch k None is = gone k is
    by_switch k (Some known) is = left refl

    by_entry : (o : Entry) → Refused n j (if is_unconfirmed o then without o n j else j)
    by_entry None = left refl
    by_entry (Some k) = by_switch k k.switch refl

    by : (o : Entry) → j.connections n ≡ o → Refused n j (refused n j)
    by o is = by_entry (j.connections n)

pub refused_channels : (n : ℕ) (j next : Judging) → Refused n j next → next.channels ≡ j.channels
refused_channels n j next (left is) = ap (λ (i : Judging). i.channels) is
refused_channels n j next (ends gone others names channels) = channels

none_names : (m : ℕ) (o : Option Named) (x : Entry) → IsNamed m o x → IsNamed m o None
none_names m None x named = absurd named
none_names m (Some (One other)) x named = named
none_names m (Some Shared) x named = tt

pub refused_fine : (c : Controller) (j next : Judging) (n m : ℕ) →
    Refused n j next →
    (m ≡ n → (s : Connection) → connection_of c m ≡ Some s → IsUnconfirmed s.state → ⊥) →
    IsFine c j m →
    IsFine c next m
refused_fine c j next n m (left is) waits fine = subst (λ (i : Judging). IsFine c i m) (sym is) fine
refused_fine c j next n m (ends gone others names channels) waits fine = decide_same m n (IsFine c next m) own other
  where
    own : m ≡ n → IsFine c next m
    own is =
        let none : next.connections m ≡ None = ap next.connections is ∙ gone in
        record {
          unasked = λ un. none;
          well = λ x has. absurd (let both : None ≡ Some x = sym none ∙ has in cc);
          judged = λ s x there has judged. absurd (let both : None ≡ Some x = sym none ∙ has in cc);
          named = λ s reference there called. rw (names reference, none) (none_names m (j.by_switch reference) (j.connections m) (fine.named s reference there called));
          unconfirmed = λ s x there un has. absurd (waits is s there un);
          present = λ s there un. absurd (waits is s there un);
          access = λ s there early. (sees_same j next channels).access (at_of s.serving) (fine.access s there early);
          offered = λ s reference target there live change. (sees_same j next channels).offered (at_of target.channel) target.channel.reference.0 (fine.offered s reference target there live change);
          assigned = fine.assigned;
        }

    other : m ≢ n → IsFine c next m
    other differ =
        let same : next.connections m ≡ j.connections m = others m differ in
        fine_by c next m
        (still_behind c j next m same (λ source named. rw (names source, same) named) (sees_same j next channels) (λ x had owned. owned_same j next channels m x.number _ owned) fine)
        (λ s x there has judged asked. (fine.judged s x there (sym same ∙ has) judged).agrees asked)

pub refused_ready : (c : Controller) (j next : Judging) (n : ℕ) (s : Connection) (offer : Option Channel) (r : Row) →
    Refused n j next →
    connection_of c n ≡ Some s →
    row_of s inputs.ConnectionRefused offer ≡ Some r →
    IsFine c j n →
    IsReadyOwn n s inputs.ConnectionRefused r next
refused_ready c j next n s offer r refuses there fits fine = by refuses
  where
    row : IsUnconfirmed s.state × (IsUnconfirmed r.next.state → ⊥) × (IsOpen r.next.state → ⊥)
    row = refuse_row s offer r fits

    early : {P : Type 0} → IsEarly s.state → P
    early is = absurd (waits_not_early s.state row.0 is)

    live : {P : Type 0} (reference : ℕ) (target : Target) → s.state ≡ Live reference (Preparing target) → P
    live reference target is = absurd (subst IsUnconfirmed is row.0)

    ready : (i : Judging) →
        ((k : ConnectionState) → i.connections n ≡ Some k → Well n k) →
        ((k : ConnectionState) → i.connections n ≡ Some k → k.unjudged ≡ None → IsReadyJudged n s inputs.ConnectionRefused r k i) →
        IsReadyOwn n s inputs.ConnectionRefused r i
    ready i well judged = record {
      unasked = λ is. early is;
      opens = λ is. tt;
      well = well;
      judged = judged;
      named = λ reference called. absurd (never_called reference s.state row.0 called);
      unconfirmed = λ k un still has. absurd (row.1 still);
      present = λ un still. absurd (row.1 still);
      access = λ is. early is;
      offered = λ reference target is change. live reference target is;
      assigned = λ reference target is change. live reference target is;
    }

    by : Refused n j next → IsReadyOwn n s inputs.ConnectionRefused r next
    by (left is) = subst (IsReadyOwn n s inputs.ConnectionRefused r) (sym is) (ready j fine.well (λ k has judged.
        let old = fine.judged s k there has judged in
        record {
          follows = λ asked is_open. absurd (row.2 is_open);
          owned = old.owned;
          uncleared = old.uncleared;
          called = λ reference called. absurd (never_called reference s.state row.0 called);
          commandless = old.commandless;
          brings = tt;
        }))
    by (ends gone others names channels) = ready next (λ k has. absurd (let both : None ≡ Some k = sym gone ∙ has in cc)) (λ k has judged. absurd (let both : None ≡ Some k = sym gone ∙ has in cc))
