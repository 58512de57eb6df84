-- SPDX-License-Identifier: MIT OR Apache-2.0
-- The frames of a judged connection: it hears an input, with a row or without one.
use Rattle.std.proofs.Common.{◌≡◌, ℕ, zero, suc, ◌&&◌, Bool, true, false, not, List, [], ◌∷◌, Option, Some, None, refl, sym, subst, ap, ◌∙◌, inl, inr, length, option_map}
use Rattle.std.proofs.lemmas.Bool.{and_parts, cases_Bool, cond-false, cond-true, true≢false}
use Rattle.std.specs.Prelude.{map}
use Rattle.conn_messages.specs.declared.channel.Channel.{Channel}
use Rattle.conn_rules.specs.Connection.{Connection, drain_at, is_at, tenure_at}
use Rattle.conn_rules.specs.declared.input.Input.TheVariants as inputs
use Rattle.conn_rules.specs.declared.state.Drain.{Drain}
use Rattle.conn_rules.specs.declared.state.Stage.{Stage}
use Rattle.conn_rules.specs.declared.state.Stage.TheVariants.{Active, Changing, Draining, Preparing}
use Rattle.conn_rules.specs.declared.state.State.{State}
use Rattle.conn_rules.specs.declared.state.State.TheVariants.{Closed, Live, Removed, WaitActivation, WaitConfirm, WaitEstablish}
use Rattle.conn_rules.specs.declared.state.Target.{Target}
use Rattle.conn_rules.specs.Steps.{Row, failing}
use Rattle.conn_rules.specs.Streams.{IsOpen, undone}
use Rattle.conn_rules.specs.Table.{dtap_in, dtap_on_target, on_dtap, row_if, row_of}
use Rattle.conn_rules.specs.Validity.{IsValid, IsValidState}
use Rattle.conn_messages.specs.declared.causes.TheConstants.{EQUIPMENT_FAILURE}
use Rattle.dtap_codec.specs.declared.sapi.Sapi.{Sapi}
use Rattle.dtap_codec.specs.declared.sapi.Sapi.TheVariants.{Zero, Three}
use Rattle.run_judge.specs.declared.connection.Tenure.{Tenure}
use Rattle.run_judge.specs.declared.said.StationChannel.{StationChannel}
use Rattle.run_judge.specs.Connection.{brought, brought_in, is_same, old_rank, rank_of}
use Rattle.run_judge.specs.ConnectionState.{ConnectionState}
use Rattle.judge_laws.proofs.Agreeing.{prepared_unchanged}
use Rattle.judge_laws.proofs.Arrivals.{arrived_dtap}
use Rattle.judge_laws.proofs.Leaving.{old_there}
use Rattle.judge_laws.proofs.Moves.{same_at}
use Rattle.judge_laws.specs.Agreeing.{Agrees, IsAsked, IsOpenRow, Prepared}
use Rattle.judge_laws.specs.Places.{at_of, spot}

-- ---- where a channel drains, the judge has an old one

pub record HasRank (at : StationChannel) (ts : List Tenure) : Type 0 where
  pub rank : ℕ
  pub is : old_rank at ts ≡ Some rank

pub old_found : (at : StationChannel) (place : ℕ) (ds : List Drain) (ts : List Tenure) →
    drain_at (spot at) ds ≡ Some place →
    map (λ (t : Tenure). t.at) ts ≡ map at_of (undone ds) →
    HasRank at ts
old_found at place [] ts is are = absurd cc
old_found at place (d ∷ ds) ts is are = elim (cases_Bool (is_at (spot at) d.channel && not d.is_done)) [
  | inl here ↦
      let parts = and_parts (is_at (spot at) d.channel) (not d.is_done) here in
      first ts (are ∙ ap (map at_of) (cond-false _ _ _ (undo d.is_done parts.1))) (same_at at d.channel ∙ parts.0)
  | inr there ↦ later (λ p us found others. old_found at p ds us found others) (drain_at (spot at) ds) refl (sym (cond-false _ _ _ there) ∙ is) d.is_done refl ts are
]
  where
    undo : (b : Bool) → not b ≡ true → b ≡ false
    undo true is = absurd (true≢false (sym is))
    undo false is = refl

    first : (ts : List Tenure) →
        map (λ (t : Tenure). t.at) ts ≡ map at_of (d.channel ∷ undone ds) →
        is_same (at_of d.channel) at ≡ true →
        HasRank at ts
    first [] are hit = absurd cc
    first (t ∷ us) are hit =
        let one : t.at ≡ at_of d.channel = cc in
        record { rank = t.rank; is = cond-true _ _ _ (ap (λ (x : StationChannel). is_same x at) one ∙ hit) }

    -- behind one that is elsewhere, or here
    behind : (t : Tenure) (us : List Tenure) → HasRank at us → HasRank at (t ∷ us)
    behind t us found = elim (cases_Bool (is_same t.at at)) [
      | inl hit ↦ record { rank = t.rank; is = cond-true _ _ _ hit }
      | inr miss ↦ record { rank = found.rank; is = cond-false _ _ _ miss ∙ found.is }
    ]

    later : ((p : ℕ) (us : List Tenure) → drain_at (spot at) ds ≡ Some p → map (λ (t : Tenure). t.at) us ≡ map at_of (undone ds) → HasRank at us) →
        (o : Option ℕ) →
        drain_at (spot at) ds ≡ o →
        option_map (λ p. suc p) o ≡ Some place →
        (b : Bool) →
        d.is_done ≡ b →
        (ts : List Tenure) →
        map (λ (t : Tenure). t.at) ts ≡ map at_of (undone (d ∷ ds)) →
        HasRank at ts
    later others None found is b done ts are = absurd (let none : (let o : Option ℕ = None in o) ≡ Some place = is in cc)
    later others (Some p) found is true done ts are = others p ts found (are ∙ ap (map at_of) (cond-true _ _ _ done))
    later others (Some p) found is false drains [] are = absurd (let both : map (λ (t : Tenure). t.at) [] ≡ map at_of (d.channel ∷ undone ds) = are ∙ ap (map at_of) (cond-false _ _ _ drains) in cc)
    later others (Some p) found is false drains (t ∷ us) are =
        let both : map (λ (x : Tenure). x.at) (t ∷ us) ≡ map at_of (d.channel ∷ undone ds) = are ∙ ap (map at_of) (cond-false _ _ _ drains) in
        let tail : map (λ (x : Tenure). x.at) us ≡ map at_of (undone ds) = cc in
        behind t us (others p us found tail)

-- ---- DTAP is of a tenure of the controller exactly where it is of one of the judge

pub record IsRanked (at : StationChannel) (c : ConnectionState) : Type 0 where
  pub rank : ℕ
  pub is : rank_of at c ≡ Some rank

pub ranked : (s : Connection) (c : ConnectionState) (at : StationChannel) (place : ℕ) →
    Agrees s c →
    tenure_at (spot at) s.serving s.draining ≡ Some place →
    IsRanked at c
ranked s c at place agrees is = elim (cases_Bool (is_same c.serving.at at)) [
  | inl here ↦ record { rank = c.serving.rank; is = cond-true _ _ _ here }
  | inr there ↦
      let miss : is_at (spot at) s.serving ≡ false = sym (same_at at s.serving) ∙ ap (λ (x : StationChannel). is_same x at) (sym agrees.at) ∙ there in
      let old = old_found at place s.draining c.former (sym (cond-false _ _ _ miss) ∙ is) agrees.old in
      record { rank = old.rank; is = cond-false _ _ _ there ∙ old.is }
]

pub unranked : (s : Connection) (c : ConnectionState) (at : StationChannel) →
    Agrees s c →
    tenure_at (spot at) s.serving s.draining ≡ None →
    rank_of at c ≡ None
unranked s c at agrees is = elim (cases_Bool (is_at (spot at) s.serving)) [
  | inl here ↦ absurd (let none : Some (length s.draining) ≡ None = sym (cond-true _ _ _ here) ∙ is in cc)
  | inr there ↦
      let miss : is_same c.serving.at at ≡ false = ap (λ (x : StationChannel). is_same x at) agrees.at ∙ same_at at s.serving ∙ there in
      cond-false _ _ _ miss ∙ old_there at s.draining c.former (sym (cond-false _ _ _ there) ∙ is) agrees.old
]

-- ---- a row of DTAP that remains open

-- a message of the mobile on a channel that isn't a tenure's changes nothing that counts
outside_agrees : (s : Connection) (c : ConnectionState) (at : StationChannel) (of : Sapi) (message : List ℕ) (frame : ℕ) →
    rank_of at c ≡ None →
    Agrees s c →
    Agrees s (brought at of message frame c)
outside_agrees s c at of message frame none agrees =
    subst (Agrees s) (sym (ap (λ (o : Option ℕ). brought_in o at of message frame c) none))
    (record { at = agrees.at; old = agrees.old; awaited = agrees.awaited; rising = agrees.rising; up = agrees.up; down = agrees.down; is_open = agrees.is_open })

-- in the table, by the tenure of its place
pub tenure_of : (s : Connection) (offer : Option Channel) (r : Row) (at : StationChannel) (of : Sapi) (message : List ℕ) →
    IsAsked s.state →
    IsValid s →
    IsOpen r.next.state →
    row_of s (inputs.Dtap (spot at) of message) offer ≡ Some r →
    (place : ℕ) × (tenure_at (spot at) s.serving s.draining ≡ Some place)
unfolding row_of
tenure_of s offer r at of message asked valid is_open fits = by s.state asked fits
  where
    Found : Type 0
    Found = (place : ℕ) × (tenure_at (spot at) s.serving s.draining ≡ Some place)

    none_fits : (let o : Option Row = None in o) ≡ Some r → ⊥
    none_fits fits = cc

    closes : (b : Bool) (reference : ℕ) (target : Target) →
        row_if b (failing (Live reference (Changing target)) s EQUIPMENT_FAILURE) ≡ Some r →
        ⊥
    closes true reference target fits =
        let same : failing (Live reference (Changing target)) s EQUIPMENT_FAILURE ≡ r = cc in
        subst (λ (q : Row). IsOpen q.next.state) (sym same) is_open
    closes false reference target fits = none_fits fits

    on_target : (reference : ℕ) (stage : Stage) (of : Sapi) → dtap_on_target reference stage s (spot at) of ≡ Some r → ⊥
    on_target reference (Changing target) Zero fits = closes (is_at (spot at) target.channel) reference target fits
    on_target reference (Changing target) Three fits = none_fits fits
    on_target reference Active of fits = none_fits fits
    on_target reference (Preparing target) of fits = none_fits fits
    on_target reference Draining of fits = none_fits fits

    in_live : (o : Option ℕ) (reference : ℕ) (stage : Stage) →
        tenure_at (spot at) s.serving s.draining ≡ o →
        dtap_in o reference stage s (spot at) of message ≡ Some r →
        Found
    in_live (Some place) reference stage is fits = (place, is)
    in_live None reference stage is fits = absurd (on_target reference stage of fits)

    where_true : (b : Bool) (q : Row) → row_if b q ≡ Some r → b ≡ true
    where_true true q fits = refl
    where_true false q fits = absurd (none_fits fits)

    by : (state : State) → IsAsked state → on_dtap state s (spot at) of message ≡ Some r → Found
    by (Live reference stage) asked fits = in_live (tenure_at (spot at) s.serving s.draining) reference stage refl fits
    by WaitConfirm asked fits = (length s.draining, cond-true _ _ _ (where_true (is_at (spot at) s.serving) _ fits))
    by WaitActivation asked fits = absurd asked
    by WaitEstablish asked fits = absurd asked
    by (Closed clearing) asked fits = absurd asked
    by Removed asked fits = absurd asked

pub heard_dtap : (s : Connection) (offer : Option Channel) (r : Row) (c : ConnectionState) (at : StationChannel) (of : Sapi) (message : List ℕ) (frame : ℕ) →
    IsOpenRow s (inputs.Dtap (spot at) of message) offer r →
    IsAsked s.state →
    Agrees s c →
    Prepared r (brought at of message frame c)
heard_dtap s offer r c at of message frame row asked agrees =
    let tenure = tenure_of s offer r at of message asked row.valid row.is_open row.fits in
    let rank = ranked s c at tenure.0 agrees tenure.1 in
    prepared_unchanged s (inputs.Dtap (spot at) of message) offer r (brought at of message frame c) row refl (λ future. tt) (arrived_dtap s c at of message frame rank.rank row.apart agrees rank.is)

-- ---- no row fits it

tenure_none : (s : Connection) (offer : Option Channel) (at : StationChannel) (of : Sapi) (message : List ℕ) →
    IsAsked s.state →
    IsValid s →
    row_of s (inputs.Dtap (spot at) of message) offer ≡ None →
    tenure_at (spot at) s.serving s.draining ≡ None
unfolding row_of
tenure_none s offer at of message asked valid misses = by s.state asked refl misses
  where
    where_false : (b : Bool) (q : Row) → row_if b q ≡ None → b ≡ false
    where_false false q misses = refl
    where_false true q misses = absurd (let some : Some q ≡ None = misses in cc)

    in_live : (o : Option ℕ) (reference : ℕ) (stage : Stage) → dtap_in o reference stage s (spot at) of message ≡ None → o ≡ None
    in_live None reference stage misses = refl
    in_live (Some zero) reference stage misses = absurd cc
    in_live (Some (suc place)) reference stage misses = absurd cc

    by : (state : State) →
        IsAsked state →
        s.state ≡ state →
        on_dtap state s (spot at) of message ≡ None →
        tenure_at (spot at) s.serving s.draining ≡ None
    by (Live reference stage) asked is misses = in_live (tenure_at (spot at) s.serving s.draining) reference stage misses
    by WaitConfirm asked is misses =
        let none : s.draining ≡ [] = (subst (λ (state : State). IsValidState state s.draining s.down s.up.tenures s.link s.waits) is valid.state).none_drains in
        let there : is_at (spot at) s.serving ≡ false = where_false (is_at (spot at) s.serving) _ misses in
        cond-false _ _ _ there ∙ ap (drain_at (spot at)) none
    by WaitActivation asked is misses = absurd asked
    by WaitEstablish asked is misses = absurd asked
    by (Closed clearing) asked is misses = absurd asked
    by Removed asked is misses = absurd asked

pub missed_dtap : (s : Connection) (offer : Option Channel) (c : ConnectionState) (at : StationChannel) (of : Sapi) (message : List ℕ) (frame : ℕ) →
    IsAsked s.state →
    IsValid s →
    row_of s (inputs.Dtap (spot at) of message) offer ≡ None →
    Agrees s c →
    Agrees s (brought at of message frame c)
missed_dtap s offer c at of message frame asked valid misses agrees = outside_agrees s c at of message frame (unranked s c at agrees (tenure_none s offer at of message asked valid misses)) agrees
