-- SPDX-License-Identifier: MIT OR Apache-2.0
-- A station's frame on a channel. The controller finds the connection that has the channel; the
-- judge's connection is prepared for the row, or agrees as before if no row fits.
use Rattle.std.proofs.Common.{◌≡◌, ℕ, ◌+◌, ◌⊎◌, ◌&&◌, Bool, true, false, List, [], ◌∷◌, ◌++◌, Option, Some, None, refl, sym, subst, ap, ◌∙◌, inl, inr}
use Rattle.std.proofs.lemmas.Bool.{and_parts, cases_Bool, cond-false, true≢false}
use Rattle.std.specs.List.{AllByRecursion}
use Rattle.std.specs.Option.{is_some}
use Rattle.std.specs.Prelude.{if◌then◌else◌, map}
use Rattle.conn_messages.specs.declared.channel.Change.{Change}
use Rattle.conn_messages.specs.declared.channel.Channel.{Channel}
use Rattle.conn_messages.specs.declared.channel.Place.{Place}
use Rattle.conn_rules.specs.Connection.{Connection, drain_at, is_at}
use Rattle.conn_rules.specs.declared.input.Input.TheVariants as inputs
use Rattle.conn_rules.specs.declared.state.Stage.{Stage}
use Rattle.conn_rules.specs.declared.state.Stage.TheVariants.{Changing}
use Rattle.conn_rules.specs.declared.state.State.{State}
use Rattle.conn_rules.specs.declared.state.State.TheVariants.{Closed, Live, Removed, WaitActivation, WaitConfirm, WaitEstablish}
use Rattle.conn_rules.specs.Roles.{RoleStep, changes_by, is_target_at, roles_of, target_channels, target_role}
use Rattle.conn_rules.specs.Roles.RoleStep.{completes, reverts, unchanged}
use Rattle.conn_rules.specs.Steps.{Row}
use Rattle.conn_rules.specs.Streams.{IsOpen, undone}
use Rattle.conn_rules.specs.Table.{complete, failure, on_complete, on_failure, on_release_ack, release_in, row_if, row_of, same_change}
use Rattle.conn_rules.specs.Validity.{IsValid, IsValidState}
use Rattle.controller_model.specs.Controller.{place_of, state_in}
use Rattle.controller_model.specs.declared.channel_state.ChannelState.{ChannelState}
use Rattle.controller_model.specs.declared.channel_state.ChannelState.TheVariants.{InUse, Releasing}
use Rattle.controller_model.specs.LifeLaws.Owning.{Owns}
use Rattle.dtap_codec.specs.declared.rr.RrCause.{RrCause}
use Rattle.dtap_codec.specs.declared.sapi.Sapi.{Sapi}
use Rattle.run_judge.specs.declared.connection.Awaited.{Awaited}
use Rattle.run_judge.specs.declared.connection.Tenure.{Tenure}
use Rattle.run_judge.specs.declared.connection.Unjudged.{Unjudged}
use Rattle.run_judge.specs.declared.said.StationChannel.{StationChannel}
use Rattle.run_judge.specs.Connection.{brought, brought_in, completed, completed_by, failed, failed_by, first_of, is_same, old_rank, rank_of}
use Rattle.run_judge.specs.ConnectionState.{ConnectionState}
use Rattle.judge_laws.proofs.Arrivals.{lines_are, more_by}
use Rattle.judge_laws.proofs.Heard.{missed_complete}
use Rattle.judge_laws.proofs.HeardFine.{where_true}
use Rattle.judge_laws.proofs.HeardFineChannels.{all_back, all_front, drains}
use Rattle.judge_laws.proofs.Mine.{IsRanked, old_found, ranked, tenure_of}
use Rattle.judge_laws.proofs.Moves.{same_at}
use Rattle.judge_laws.proofs.Ranks.{same_is}
use Rattle.judge_laws.proofs.Stays.{not_failed}
use Rattle.judge_laws.specs.Agreeing.{Agrees, IsAsked, lines_by, lines_of, awaited_in}
use Rattle.judge_laws.specs.Places.{at_of, spot}

-- ---- the controller knows whose the channel is

abbrev pub IsOf : List (List ChannelState) → Place → ℕ → Type 0
IsOf channels at n = (state_in channels at ≡ InUse n) ⊎ (state_in channels at ≡ Releasing n)

-- an old one of these tenures is there
old_of : (P : StationChannel → Type 0) (at : StationChannel) (rank : ℕ) (ts : List Tenure) →
    AllByRecursion (λ (t : Tenure). P t.at) ts →
    old_rank at ts ≡ Some rank →
    P at
old_of P at rank [] all is = absurd cc
old_of P at rank (t ∷ ts) all is = elim (cases_Bool (is_same t.at at)) [
  | inl here ↦ subst P (same_is t.at at here) all.0
  | inr there ↦ old_of P at rank ts all.1 (sym (cond-false _ _ _ there) ∙ is)
]

-- the tenure of this rank is there
pub rank_of_lines : (P : StationChannel → Type 0) (at : StationChannel) (rank : ℕ) (k : ConnectionState) →
    AllByRecursion (λ (t : Tenure). P t.at) (k.former ++ k.serving ∷ []) →
    rank_of at k ≡ Some rank →
    P at
rank_of_lines P at rank k all is = elim (cases_Bool (is_same k.serving.at at)) [
  | inl here ↦ subst P (same_is k.serving.at at here) (all_back (λ (t : Tenure). P t.at) k.former (k.serving ∷ []) all).0
  | inr there ↦ old_of P at rank k.former (all_front (λ (t : Tenure). P t.at) k.former (k.serving ∷ []) all) (sym (cond-false _ _ _ there) ∙ is)
]

-- tenures and their channels
all_tenures : (P : StationChannel → Type 0) (ts : List Tenure) (cs : List Channel) →
    map (λ (t : Tenure). t.at) ts ≡ map at_of cs →
    AllByRecursion (λ (c : Channel). P (at_of c)) cs →
    AllByRecursion (λ (t : Tenure). P t.at) ts
all_tenures P [] cs are all = tt
all_tenures P (t ∷ ts) [] are all = absurd cc
all_tenures P (t ∷ ts) (c ∷ cs) are all =
    let one : t.at ≡ at_of c = cc in
    let others : map (λ (x : Tenure). x.at) ts ≡ map at_of cs = cc in
    (subst P (sym one) all.0, all_tenures P ts cs others all.1)

module _ (channels : List (List ChannelState)) (links : List Bool) (n : ℕ) (s : Connection) (k : ConnectionState) (owns : Owns channels links n (roles_of s)) (agrees : Agrees s k) where
  abbrev IsMine : StationChannel → Type 0
  IsMine at = IsOf channels (spot at) n

  of_using : (cs : List Channel) →
      AllByRecursion (λ (c : Channel). state_in channels (place_of c) ≡ InUse n) cs →
      AllByRecursion (λ (c : Channel). IsMine (at_of c)) cs
  of_using [] all = tt
  of_using (c ∷ cs) all = (inl all.0, of_using cs all.1)

  of_releasing : (cs : List Channel) →
      AllByRecursion (λ (c : Channel). state_in channels (place_of c) ≡ Releasing n) cs →
      AllByRecursion (λ (c : Channel). IsMine (at_of c)) cs
  of_releasing [] all = tt
  of_releasing (c ∷ cs) all = (inr all.0, of_releasing cs all.1)

  old_mine : AllByRecursion (λ (t : Tenure). IsMine t.at) k.former
  old_mine = all_tenures IsMine k.former (undone s.draining) agrees.old (of_releasing (undone s.draining) owns.releasing)

  serving_mine : IsMine k.serving.at
  serving_mine = subst IsMine (sym agrees.at) (inl owns.using.0)

  both_mine : (ts : List Tenure) →
      AllByRecursion (λ (t : Tenure). IsMine t.at) ts →
      AllByRecursion (λ (t : Tenure). IsMine t.at) (ts ++ k.serving ∷ [])
  both_mine [] all = (serving_mine, tt)
  both_mine (t ∷ ts) all = (all.0, both_mine ts all.1)

  pub rank_mine : (at : StationChannel) (rank : ℕ) → rank_of at k ≡ Some rank → IsOf channels (spot at) n
  rank_mine at rank is = rank_of_lines IsMine at rank k (both_mine k.former old_mine) is

  pub old_rank_mine : (at : StationChannel) → is_some (old_rank at k.former) ≡ true → IsOf channels (spot at) n
  old_rank_mine at is = by (old_rank at k.former) refl is
    where
      by : (o : Option ℕ) → old_rank at k.former ≡ o → is_some o ≡ true → IsOf channels (spot at) n
      by None found is = absurd (true≢false (sym is))
      by (Some rank) found is = old_of IsMine at rank k.former old_mine found

  -- DTAP that leaves it judged
  pub brought_mine : (at : StationChannel) (sapi : Sapi) (message : List ℕ) (frame : ℕ) →
      k.unjudged ≡ None →
      (brought at sapi message frame k).unjudged ≡ None →
      IsOf channels (spot at) n
  brought_mine at sapi message frame judged still = by (rank_of at k) refl still
    where
      by : (o : Option ℕ) → rank_of at k ≡ o → (brought_in o at sapi message frame k).unjudged ≡ None → IsOf channels (spot at) n
      by (Some rank) is still = rank_mine at rank is
      by None is still = absurd (first k.unjudged _ judged still)
        where
          first : (u : Option Unjudged) (x : Unjudged) → u ≡ None → first_of u x ≡ None → ⊥
          first None x same none = cc
          first (Some y) x same none = cc

  -- COMPLETE counts on the target, which is in use
  pub completed_mine : (at : StationChannel) (change : Change) → (completed at change k ≡ k) ⊎ IsOf channels (spot at) n
  completed_mine at change = by s.state refl
    where
      none : (state : State) → s.state ≡ state → awaited_in state ≡ None → (completed at change k ≡ k) ⊎ IsOf channels (spot at) n
      none state is idle = inl (ap (λ (o : Option Awaited). completed_by o at change k) (agrees.awaited ∙ ap awaited_in is ∙ idle))

      by : (state : State) → s.state ≡ state → (completed at change k ≡ k) ⊎ IsOf channels (spot at) n
      by (Live reference (Changing target)) is = elim (cases_Bool (is_same (at_of target.channel) at)) [
        | inl here ↦
            let using : AllByRecursion (λ (c : Channel). state_in channels (place_of c) ≡ InUse n) (s.serving ∷ target_channels (target_role (Live reference (Changing target)))) = subst (λ (x : State). AllByRecursion (λ (c : Channel). state_in channels (place_of c) ≡ InUse n) (s.serving ∷ target_channels (target_role x))) is owns.using in
            inr (subst IsMine (same_is (at_of target.channel) at here) (inl using.1.0))
        | inr there ↦ inl (ap (λ (o : Option Awaited). completed_by o at change k) (agrees.awaited ∙ ap awaited_in is) ∙ rw there refl)
      ]
      by state is = none state is refl

  -- FAILURE counts on the channel that serves
  pub failed_mine : (at : StationChannel) (change : Change) → (failed at change k ≡ k) ⊎ IsOf channels (spot at) n
  failed_mine at change = elim (cases_Bool (is_same k.serving.at at)) [
    | inl here ↦ inr (subst IsMine (same_is k.serving.at at here) serving_mine)
    | inr there ↦ inl (by there k.awaited)
  ]
    where
      by : is_same k.serving.at at ≡ false → (o : Option Awaited) → failed_by o at change k ≡ k
      by there None = refl
      by there (Some a) = rw there refl

-- ---- a row that remains open is on a channel of the connection

pub dtap_on : (P : StationChannel → Type 0) (s : Connection) (offer : Option Channel) (r : Row) (k : ConnectionState) (at : StationChannel) (of : Sapi) (message : List ℕ) →
    IsAsked s.state →
    IsValid s →
    IsOpen r.next.state →
    row_of s (inputs.Dtap (spot at) of message) offer ≡ Some r →
    Agrees s k →
    AllByRecursion (λ (t : Tenure). P t.at) (lines_of k) →
    P at
dtap_on P s offer r k at of message asked valid is_open fits agrees all =
    let tenure = tenure_of s offer r at of message asked valid is_open fits in
    let rank : IsRanked at k = ranked s k at tenure.0 agrees tenure.1 in
    rank_of_lines P at rank.rank k (served P k all) rank.is
  where
    served : (P : StationChannel → Type 0) (k : ConnectionState) →
        AllByRecursion (λ (t : Tenure). P t.at) (lines_of k) →
        AllByRecursion (λ (t : Tenure). P t.at) (k.former ++ k.serving ∷ [])
    served P k all = by k.awaited all
      where
        by : (o : Option Awaited) →
            AllByRecursion (λ (t : Tenure). P t.at) (lines_by k.former k.serving o) →
            AllByRecursion (λ (t : Tenure). P t.at) (k.former ++ k.serving ∷ [])
        by None all = all
        by (Some a) all = all_front (λ (t : Tenure). P t.at) (k.former ++ k.serving ∷ []) _ all

none_fits : {P : Type 0} (r : Row) → (let o : Option Row = None in o) ≡ Some r → P
none_fits r fits = absurd cc

pub complete_on : (P : StationChannel → Type 0) (s : Connection) (offer : Option Channel) (r : Row) (k : ConnectionState) (at : StationChannel) (change : Change) (cause : RrCause) →
    row_of s (inputs.Complete (spot at) change cause) offer ≡ Some r →
    Agrees s k →
    AllByRecursion (λ (t : Tenure). P t.at) (lines_of k) →
    P at
unfolding row_of
complete_on P s offer r k at change cause fits agrees all = by s.state refl fits
  where
    last : (o : Option Awaited) (a : Awaited) →
        o ≡ Some a →
        AllByRecursion (λ (t : Tenure). P t.at) (lines_by k.former k.serving o) →
        P a.at
    last None a is all = absurd cc
    last (Some b) a is all =
        let same : b ≡ a = cc in
        subst (λ (x : Awaited). P x.at) same (all_back (λ (t : Tenure). P t.at) (k.former ++ k.serving ∷ []) (record { at = b.at; rank = k.serving.rank + 1 } ∷ []) all).0

    by : (state : State) → s.state ≡ state → on_complete state s (spot at) change cause.0 offer ≡ Some r → P at
    by (Live reference (Changing target)) is fits =
        let parts = where_true (is_at (spot at) target.channel && same_change change target.change) (complete reference change target.channel cause.0 offer s) r fits in
        let both = and_parts (is_at (spot at) target.channel) (same_change change target.change) parts.0 in
        subst P (same_is (at_of target.channel) at (same_at at target.channel ∙ both.0)) (last k.awaited (record { at = at_of target.channel; change = target.change }) (agrees.awaited ∙ ap awaited_in is) all)
    by _ is fits = none_fits r fits

pub failure_on : (P : StationChannel → Type 0) (s : Connection) (offer : Option Channel) (r : Row) (k : ConnectionState) (at : StationChannel) (change : Change) (cause : RrCause) →
    row_of s (inputs.Failure (spot at) change cause) offer ≡ Some r →
    Agrees s k →
    AllByRecursion (λ (t : Tenure). P t.at) (lines_of k) →
    P at
unfolding row_of
failure_on P s offer r k at change cause fits agrees all = by s.state fits
  where
    served : AllByRecursion (λ (t : Tenure). P t.at) (k.former ++ k.serving ∷ more_by k.serving k.awaited) → P k.serving.at
    served all = (all_back (λ (t : Tenure). P t.at) k.former (k.serving ∷ more_by k.serving k.awaited) all).0

    by : (state : State) → on_failure state s (spot at) change cause.0 offer ≡ Some r → P at
    by (Live reference (Changing target)) fits =
        let parts = where_true (is_at (spot at) s.serving && same_change change target.change) (failure reference change target.channel cause.0 offer s) r fits in
        let both = and_parts (is_at (spot at) s.serving) (same_change change target.change) parts.0 in
        let here : is_same k.serving.at at ≡ true = ap (λ (x : StationChannel). is_same x at) agrees.at ∙ same_at at s.serving ∙ both.0 in
        subst P (same_is k.serving.at at here) (served (subst (AllByRecursion (λ (t : Tenure). P t.at)) (lines_are k.former k.serving k.awaited) all))
    by _ fits = none_fits r fits

-- ---- an old channel

pub release_old : (s : Connection) (offer : Option Channel) (r : Row) (k : ConnectionState) (at : StationChannel) →
    row_of s (inputs.ReleaseAck (spot at)) offer ≡ Some r →
    Agrees s k →
    is_some (old_rank at k.former) ≡ true
unfolding row_of
release_old s offer r k at fits agrees = by s.state fits
  where
    in_live : (o : Option ℕ) →
        drain_at (spot at) s.draining ≡ o →
        (reference : ℕ) (stage : Stage) →
        release_in o reference stage offer s ≡ Some r →
        is_some (old_rank at k.former) ≡ true
    in_live (Some place) found reference stage fits = ap (λ (o : Option ℕ). is_some o) (old_found at place s.draining k.former found agrees.old).is
    in_live None found reference stage fits = none_fits r fits

    by : (state : State) → on_release_ack state s (spot at) offer ≡ Some r → is_some (old_rank at k.former) ≡ true
    by (Live reference stage) fits = in_live (drain_at (spot at) s.draining) refl reference stage fits
    by _ fits = none_fits r fits

pub release_on : (P : StationChannel → Type 0) (k : ConnectionState) (at : StationChannel) →
    is_some (old_rank at k.former) ≡ true →
    AllByRecursion (λ (t : Tenure). P t.at) (lines_of k) →
    P at
release_on P k at old all = by (old_rank at k.former) refl old
  where
    by : (o : Option ℕ) → old_rank at k.former ≡ o → is_some o ≡ true → P at
    by None found is = absurd (true≢false (sym is))
    by (Some rank) found is = old_of P at rank k.former (all_front (λ (t : Tenure). P t.at) k.former (k.serving ∷ more_by k.serving k.awaited) (subst (AllByRecursion (λ (t : Tenure). P t.at)) (lines_are k.former k.serving k.awaited) all)) found

-- ---- no row fits

some_misses : {P : Type 0} (q : Row) → (let o : Option Row = Some q in o) ≡ None → P
some_misses q misses = absurd cc

where_false : (b : Bool) (q : Row) → row_if b q ≡ None → b ≡ false
where_false false q misses = refl
where_false true q misses = some_misses q misses

no_step : (b : Bool) (step : RoleStep) → b ≡ false → (if b then step else unchanged) ≡ unchanged
no_step b step is = cond-false _ _ _ is

and_none : (b : Bool) → (b && false) ≡ false
and_none true = refl
and_none false = refl

pub complete_misses : (s : Connection) (offer : Option Channel) (k : ConnectionState) (at : StationChannel) (change : Change) (cause : RrCause) →
    row_of s (inputs.Complete (spot at) change cause) offer ≡ None →
    Agrees s k →
    Agrees s (completed at change k)
unfolding row_of
complete_misses s offer k at change cause misses agrees = missed_complete s k at change cause (by s.state misses) agrees
  where
    by : (state : State) →
        on_complete state s (spot at) change cause.0 offer ≡ None →
        (if (is_target_at (spot at) (target_role state) && changes_by change (target_role state)) then completes else unchanged) ≡ unchanged
    by (Live reference (Changing target)) misses = no_step _ completes (where_false (is_at (spot at) target.channel && same_change change target.change) (complete reference change target.channel cause.0 offer s) misses)
    by state misses = no_step _ completes (and_none (is_target_at (spot at) (target_role state)))

pub failure_misses : (s : Connection) (offer : Option Channel) (k : ConnectionState) (at : StationChannel) (change : Change) (cause : RrCause) →
    row_of s (inputs.Failure (spot at) change cause) offer ≡ None →
    Agrees s k →
    Agrees s (failed at change k)
unfolding row_of
failure_misses s offer k at change cause misses agrees = subst (Agrees s) (sym (not_failed s k at change cause agrees (by s.state misses))) agrees
  where
    by : (state : State) →
        on_failure state s (spot at) change cause.0 offer ≡ None →
        (if (is_at (spot at) s.serving && changes_by change (target_role state)) then reverts else unchanged) ≡ unchanged
    by (Live reference (Changing target)) misses = no_step _ reverts (where_false (is_at (spot at) s.serving && same_change change target.change) (failure reference change target.channel cause.0 offer s) misses)
    by state misses = no_step _ reverts (and_none (is_at (spot at) s.serving))

-- where an old channel is a row fits
pub release_fits : {P : Type 0} (s : Connection) (offer : Option Channel) (k : ConnectionState) (at : StationChannel) →
    IsAsked s.state →
    IsValid s →
    Agrees s k →
    is_some (old_rank at k.former) ≡ true →
    row_of s (inputs.ReleaseAck (spot at)) offer ≡ None →
    P
unfolding row_of
release_fits {P = P} s offer k at asked valid agrees old misses = by s.state refl asked misses
  where
    found : (place : ℕ) × (drain_at (spot at) s.draining ≡ Some place)
    found = drains s k at agrees old

    in_live : (o : Option ℕ) →
        drain_at (spot at) s.draining ≡ o →
        (reference : ℕ) (stage : Stage) →
        release_in o reference stage offer s ≡ None →
        P
    in_live (Some place) is reference stage misses = some_misses _ misses
    in_live None is reference stage misses = absurd (let both : None ≡ Some found.0 = sym is ∙ found.1 in cc)

    by : (state : State) → s.state ≡ state → IsAsked state → on_release_ack state s (spot at) offer ≡ None → P
    by (Live reference stage) is asked misses = in_live (drain_at (spot at) s.draining) refl reference stage misses
    by WaitConfirm is asked misses =
        let none : s.draining ≡ [] = (subst (λ (state : State). IsValidState state s.draining s.down s.up.tenures s.link s.waits) is valid.state).none_drains in
        absurd (let both : None ≡ Some found.0 = sym (ap (drain_at (spot at)) none) ∙ found.1 in cc)
    by WaitActivation is asked misses = absurd asked
    by WaitEstablish is asked misses = absurd asked
    by (Closed clearing) is asked misses = absurd asked
    by Removed is asked misses = absurd asked
