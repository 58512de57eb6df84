-- SPDX-License-Identifier: MIT OR Apache-2.0
-- A connection that isn't open any more puts no more for the switch.
use Rattle.world_laws.proofs.Prelude.{◌≡◌, ℕ, ◌≤◌, ◌<◌, ◌==◌, Bool, true, false, if◌then◌else◌, List, [], ◌∷◌, ◌++◌, map, Option}
use Rattle.world_laws.proofs.Prelude.{None, refl, sym, ap, ◌∙◌, subst, arith, AllByRecursion, Out, SWITCH_LINK, AllByRecursion-filter}
use Rattle.world_laws.proofs.Prelude.{brought_in, IsThere, connection_of, messages_on, passed_by, IsOctetStep, step_keeps_rest, life_fits}
use Rattle.world_laws.proofs.Prelude.{forwarded_seen, life_sends, step_does, Forwarded, Step, Controller, each, hears, step, Sapi, Zero}
use Rattle.world_laws.proofs.Prelude.{Three, Item, AreAllowed, Parameters, Event, Handle, Tick, OutboxEntry, Tenure, actors_after}
use Rattle.world_laws.proofs.Prelude.{outputs, outputs_at, to_link, target_in, all_steps, first_taken, step_at, Actors}
use Rattle.world_laws.proofs.Prelude.{is_up, new_actors, FollowsTable-new, both_empty, step_silence, acts_usual, life, take, tick}
use Rattle.world_laws.proofs.Prelude.{forwarded, IsOver, OverPutsNoMore, TakesOctets, carried_for, entry_out}
use Rattle.controller_model.specs.declared.step.Step.TheVariants as steps
use Rattle.world_model.specs.Relay.{entry_of}
use Rattle.world_laws.proofs.SwitchTakes.{forwarded-first}
use Rattle.world_laws.proofs.References.Moving.{lived, moves}
use Rattle.world_laws.proofs.Events.{world}

-- ---- nothing is forwarded

-- nothing on any SAPI is nothing at all
pub none_forwarded : (fs : List Forwarded) → ((sapi : Sapi) → messages_on sapi fs ≡ []) → fs ≡ []
none_forwarded [] none = refl
none_forwarded (f ∷ fs) none = absurd (by f.sapi (none f.sapi)) where
  by : (sapi : Sapi) → passed_by sapi (record { sapi = sapi; message = f.message }) ++ messages_on sapi fs ≡ [] → ⊥
  by Zero is = absurd cc
  by Three is = absurd cc

each_empty : (number : ℕ) (outs : List Out) → forwarded outs number ≡ [] → AllByRecursion (λ out. carried_for number out ≡ []) outs
each_empty number [] none = tt
each_empty number (out ∷ outs) none =
    let both = both_empty (forwarded (out ∷ []) number) (forwarded outs number) (sym (sym (forwarded-first out outs number) ∙ none)) in
    (ap (map (λ (f : Forwarded). f.message)) both.0, each_empty number outs both.1)

-- ---- one step

record IsSilent (number : ℕ) (c : Controller) (s : Step) : Type 0 where
  none : AllByRecursion (λ out. carried_for number out ≡ []) (step c s).outs
  past : number < (step c s).next.next_number
  closed : IsThere (connection_of (step c s).next number) → ⊥

silent_step : (p : Parameters) (ss : List Step) (s : Step) (number : ℕ) →
    AreAllowed p →
    AllByRecursion IsOctetStep ss →
    IsOctetStep s →
    1 ≤ number →
    number < (life p ss).next.next_number →
    (IsThere (connection_of (life p ss).next number) → ⊥) →
    IsSilent number (life p ss).next s
silent_step p ss s number allowed octets own from_one less over =
    let c : Controller = (life p ss).next in
    let fits = life_fits p ss number from_one in
    let does = step_does number c s from_one fits.numbered in
    let silence = step_silence number c s from_one fits in
    let closed = silence.remains_away less over in
    let usual = acts_usual number c.next_number (hears c SWITCH_LINK) (brought_in c number s) (connection_of c number) (connection_of (step c s).next number) does.put does.acts in
    let rises = (step_keeps_rest c s).numbers in
    record {
      none = each_empty number (step c s).outs (none_forwarded (forwarded (step c s).outs number) (λ sapi. forwarded_seen number (step c s).outs does.put from_one does.outs usual (life_sends p ss s allowed octets own) sapi ∙ (silence.over closed).relays sapi));
      past = omega (arith, less, rises);
      closed = closed;
    }

abbrev IsOverIn : ℕ → Controller → Type 0
IsOverIn number c = (number < c.next_number) × (IsThere (connection_of c number) → ⊥)

-- ---- what is put

entries_empty : (number : ℕ) (target : Option Tenure) (outs : List Out) →
    AllByRecursion (λ out. carried_for number out ≡ []) outs →
    AllByRecursion (λ (entry : OutboxEntry). carried_for number entry.out ≡ []) (map (entry_of target) outs)
entries_empty number target [] none = tt
entries_empty number target (out ∷ outs) none = (ap (carried_for number) (entry_out target out) ∙ none.0, entries_empty number target outs none.1)

put_empty : (number : ℕ) (b : Bool) (entries : List OutboxEntry) →
    AllByRecursion (λ (entry : OutboxEntry). carried_for number entry.out ≡ []) entries →
    AllByRecursion (λ (entry : OutboxEntry). carried_for number entry.out ≡ []) (if b then to_link SWITCH_LINK entries else [])
put_empty number true entries none = AllByRecursion-filter (λ (entry : OutboxEntry). carried_for number entry.out ≡ []) (λ entry. entry.out.to == SWITCH_LINK) entries none
put_empty number false entries none = tt

-- ---- the event

-- the controller of a world whose steps are silent
module _ (number : ℕ) (w : Actors) (silent : (s : Step) → IsOctetStep s → IsSilent number w.controller s) where
  put_items : (items : List Item) →
      AllByRecursion IsOctetStep (first_taken items) →
      AllByRecursion (λ (entry : OutboxEntry). carried_for number entry.out ≡ []) (outputs_at w items)
  put_items [] own = tt
  put_items (item ∷ items) own = entries_empty number (target_in w item.source item.what) (take item w.controller).outs (silent (steps.Take item) own.0).none

  put_event : (event : Event) →
      TakesOctets w event →
      AllByRecursion (λ (entry : OutboxEntry). carried_for number entry.out ≡ []) (outputs w event)
  put_event Handle own = put_items w.inbox own
  put_event (Tick ms) own = entries_empty number None (tick ms w.controller).outs (silent (steps.Tick ms) own.0).none
  put_event _ own = tt

  remains_items : IsOver w number →
      (items : List Item) →
      AllByRecursion IsOctetStep (first_taken items) →
      (c : Controller) →
      c ≡ (each step w.controller (first_taken items)).next →
      IsOverIn number c
  remains_items over [] own c is = subst (IsOverIn number) (sym is) (over.past, over.closed)
  remains_items over (item ∷ items) own c is = let one = silent (steps.Take item) own.0 in subst (IsOverIn number) (sym is) (one.past, one.closed)

  remains_event : IsOver w number →
      (event : Event) →
      TakesOctets w event →
      (c : Controller) →
      c ≡ (each step w.controller (step_at w event)).next →
      IsOverIn number c
  remains_event over Handle own c is = remains_items over w.inbox own c is
  remains_event over (Tick ms) own c is = let one = silent (steps.Tick ms) own.0 in subst (IsOverIn number) (sym is) (one.past, one.closed)
  remains_event over _ own c is = subst (IsOverIn number) (sym is) (over.past, over.closed)

pub over_puts_no_more_new : (settings : Parameters) (events : List Event) (event : Event) → OverPutsNoMore settings events event
over_puts_no_more_new settings events event number allowed octets own from_one over =
    let w : Actors = world settings events in
    let by_table : w.controller ≡ lived settings events = FollowsTable-new settings events in
    let silent : (s : Step) → IsOctetStep s → IsSilent number w.controller s = λ s comes. subst (λ (c : Controller). IsSilent number c s) (sym by_table)
    (silent_step settings (all_steps (new_actors settings) events) s number allowed octets comes from_one
    (subst (λ (c : Controller). number < c.next_number) by_table over.past) (subst (λ (c : Controller). IsThere (connection_of c number) → ⊥) by_table over.closed)) in
    let after : IsOverIn number (actors_after w event).controller = remains_event number w silent over event own (actors_after w event).controller (moves settings events event ∙ ap (λ (c : Controller). (each step c (step_at w event)).next) (sym by_table)) in
    (put_empty number (is_up w SWITCH_LINK) (outputs w event) (put_event number w silent event own), record { past = after.0; closed = after.1 })
