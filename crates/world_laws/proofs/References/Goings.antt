-- SPDX-License-Identifier: MIT OR Apache-2.0
-- What a step of the controller does to one connection, by the connection's stage.
use Rattle.world_laws.proofs.Prelude.{◌≡◌, ◌⊎◌, ℕ, Bool, List, [], ◌∷◌, Option, None, refl, sym, ap, subst, inl, inr, Message, Input, Due}
use Rattle.world_laws.proofs.Prelude.{WasAsked, Complete, State, WaitConfirm, Live, Closed, Removed, Connection, Row, OfRow, Acts, Brought}
use Rattle.world_laws.proofs.Prelude.{IsBrought, kept_in, rests, ages, opens, takes_row, same_state}
use Rattle.conn_rules.specs.declared.input.Input.TheVariants as inputs
use Rattle.world_laws.specs.References.Naming.{AreQuiet, From, FromCleared, FromEarly, FromNamed, FromWaiting, StepsTo, Reach, early, waits}
use Rattle.world_laws.specs.References.Naming.{due, named, cleared, reach_in, reach_of}
use Rattle.world_laws.specs.References.Naming.StepsTo.{unchanged, leaves, fails, asks, confirmed, speaks, clears}
use Rattle.world_laws.proofs.References.NamedRows.{named_row}

-- ---- one row

module _ (given : ℕ → Type 0) (input : Input) (put : List Message) (confirms_it : (r : ℕ) → input ≡ inputs.ConnectionConfirm r → given r) where
  from_early : (after : State) → FromEarly put after → StepsTo given put early (reach_in after)
  from_early Removed from = leaves from
  from_early WaitConfirm from = asks from
  from_early (Live reference stage) from = absurd from
  from_early (Closed clearing) from = absurd from
  from_early _ from = unchanged from

  from_waits : (after : State) → FromWaiting input put after → StepsTo given put waits (reach_in after)
  from_waits WaitConfirm from = unchanged from
  from_waits (Closed (Due cause)) from = fails tt tt from
  from_waits Removed from = leaves from
  from_waits (Live reference stage) from = confirmed reference tt (confirms_it reference from.0) from.1
  from_waits (Closed (WasAsked reference)) from = confirmed reference tt (confirms_it reference from.0) from.1
  from_waits _ from = absurd from

  from_due : (after : State) → FromWaiting input put after → StepsTo given put due (reach_in after)
  from_due WaitConfirm from = fails tt tt from
  from_due (Closed (Due cause)) from = unchanged from
  from_due Removed from = leaves from
  from_due (Live reference stage) from = confirmed reference tt (confirms_it reference from.0) from.1
  from_due (Closed (WasAsked reference)) from = confirmed reference tt (confirms_it reference from.0) from.1
  from_due _ from = absurd from

  from_named : (k : ℕ) (after : State) → FromNamed k put after → StepsTo given put (named k) (reach_in after)
  from_named k (Live own stage) from = subst (λ (r : ℕ). StepsTo given put (named k) (named r)) (sym from.0) (speaks from.1)
  from_named k (Closed (WasAsked own)) from = subst (λ (r : ℕ). StepsTo given put (named k) (named r)) (sym from.0) (speaks from.1)
  from_named k (Closed Complete) from = clears from
  from_named k Removed from = leaves from
  from_named k _ from = absurd from

  from_cleared : (after : State) → FromCleared put after → StepsTo given put cleared (reach_in after)
  from_cleared (Closed Complete) from = unchanged from
  from_cleared Removed from = leaves from
  from_cleared _ from = absurd from

  steps_by_states : (before after : State) → From input put before after → StepsTo given put (reach_in before) (reach_in after)
  steps_by_states WaitConfirm after from = from_waits after from
  steps_by_states (Live k stage) after from = from_named k after from
  steps_by_states (Closed (Due cause)) after from = from_due after from
  steps_by_states (Closed (WasAsked k)) after from = from_named k after from
  steps_by_states (Closed Complete) after from = from_cleared after from
  steps_by_states Removed after from = absurd from
  steps_by_states _ after from = from_early after from

-- a connection that is removed is there no more
kept_reach : (state : State) (s : Connection) → s.state ≡ state → reach_of (kept_in state s) ≡ reach_in state
kept_reach Removed s is = refl
kept_reach _ s is = ap reach_in is

-- ---- one step

-- it begins as the next one, and is early, and puts what is quiet; or it continues
pub record Begins (next number : ℕ) (put : List Message) (before after : Option Connection) : Type 0 where
  pub is_next : number ≡ next
  pub none : before ≡ None
  pub is_early : reach_of after ≡ early
  pub quiet : AreQuiet put

pub acts_go : {number next : ℕ} {up : Bool} {brought : Brought} {before after : Option Connection} {put : List Message} (given : ℕ → Type 0) → ((r : ℕ) → IsBrought brought (inputs.ConnectionConfirm r) → given r) → Acts number next up brought before put after
    → Begins next number put before after ⊎ StepsTo given put (reach_of before) (reach_of after)
acts_go {before = before} {put = put} given confirms_it (rests silent same none) = inr (subst (λ (o : Option Connection). StepsTo given put (reach_of before) (reach_of o)) (sym same) (unchanged (subst AreQuiet (sym silent) tt)))
acts_go {after = after} {put = put} given confirms_it (ages old s is_time was aged silent same) =
    inr (subst (λ (o : Option Connection). StepsTo given put (reach_of o) (reach_of after)) (sym was) (subst (λ (o : Option Connection). StepsTo given put (reach_in old.state) (reach_of o)) (sym same)
    (subst (λ (state : State). StepsTo given put (reach_in old.state) (reach_in state)) (sym (same_state old s aged)) (unchanged (subst AreQuiet (sym silent) tt)))))
acts_go given confirms_it (opens begins linked channel request delay is_nothing none put_is same) = inl (record { is_next = begins; none = none; is_early = ap reach_of same; quiet = subst AreQuiet (sym put_is) (tt, tt) })
acts_go {brought = brought} {after = after} {put = put} given confirms_it (takes_row old s input offer r was aged by fits put_is same) =
    let from : From input r.outs s.state r.next.state = subst (OfRow (λ (q : Row). From input q.outs s.state q.next.state)) fits (named_row s input offer) in
    let one : StepsTo given r.outs (reach_in s.state) (reach_in r.next.state) = steps_by_states given input r.outs (λ k is. confirms_it k (subst (IsBrought brought) is by)) s.state r.next.state from in
    let own : StepsTo given put (reach_in s.state) (reach_in r.next.state) = subst (λ (xs : List Message). StepsTo given xs (reach_in s.state) (reach_in r.next.state)) (sym put_is) one in
    let whole : StepsTo given put (reach_in s.state) (reach_of after) = subst (λ (o : Option Connection). StepsTo given put (reach_in s.state) (reach_of o)) (sym same) (subst (λ (x : Reach). StepsTo given put (reach_in s.state) x) (sym (kept_reach r.next.state r.next refl)) own) in
    inr (subst (λ (o : Option Connection). StepsTo given put (reach_of o) (reach_of after)) (sym was) (subst (λ (state : State). StepsTo given put (reach_in state) (reach_of after)) (same_state old s aged) whole))
