-- SPDX-License-Identifier: MIT OR Apache-2.0
-- In each run with allowed settings, what the controller puts for the switch is fair, and so all
-- that arrives at the controller is octets.
use Rattle.world_laws.proofs.Prelude.{◌==◌, Bool, true, false, if◌then◌else◌, List, [], ◌∷◌, ◌++◌, map, Option, Some, None, sym, subst}
use Rattle.world_laws.proofs.Prelude.{AllByRecursion, Out, SWITCH_LINK, AllByRecursion-filter, IsOctetStep, Step, Controller, step, Item}
use Rattle.world_laws.proofs.Prelude.{AreAllowed, Parameters, Event, Tenure, outputs, outputs_at, put, to_link, target_in}
use Rattle.world_laws.proofs.Prelude.{all_steps, first_taken, step_at, sccp_in, Actors, is_up, new_actors, FollowsTable-new, take, tick}
use Rattle.world_laws.proofs.Prelude.{TookOctets, ArriveInOctets, IsFair, IsFairEntry, PutsFairly}
use Rattle.controller_model.specs.declared.step.Step.TheVariants as steps
use Rattle.world_model.specs.Relay.{entry_of}
use Rattle.world_laws.proofs.Order.CauseLife.{step_fair}
use Rattle.world_laws.proofs.Order.EventKinds.{Kind, kind}
use Rattle.world_laws.proofs.Order.EventKinds.Kind.{handles, ticks, switch_takes, beside}
use Rattle.world_laws.proofs.Order.OctetRun.{come_in_fairly_new}
use Rattle.world_laws.proofs.Events.{snoc_steps, world}
use Rattle.world_laws.proofs.Framing.{all_left, all_right}

abbrev AreFair : List Out → Type 0
AreFair outs = AllByRecursion (λ (out : Out). IsFair (sccp_in out.frame)) outs

entries_fair : (target : Option Tenure) (outs : List Out) → AreFair outs → AllByRecursion IsFairEntry (map (entry_of target) outs)
entries_fair target [] all = tt
entries_fair None (out ∷ outs) all = (all.0, entries_fair None outs all.1)
entries_fair (Some tenure) (out ∷ outs) all = (all.0, entries_fair (Some tenure) outs all.1)

module _ (settings : Parameters) (allowed : AreAllowed settings) (events : List Event) where
  abbrev w : Actors
  w = world settings events

  -- a step of the controller that is there
  stepped : (s : Step) → TookOctets settings events → IsOctetStep s → AreFair (step w.controller s).outs
  stepped s octets own = subst (λ (c : Controller). AreFair (step c s).outs) (sym (FollowsTable-new settings events)) (step_fair settings (all_steps (new_actors settings) events) s allowed octets own)

  handled : (items : List Item) →
      TookOctets settings events →
      AllByRecursion IsOctetStep (first_taken items) →
      AllByRecursion IsFairEntry (outputs_at w items)
  handled [] octets own = tt
  handled (item ∷ items) octets own = entries_fair (target_in w item.source item.what) (take item w.controller).outs (stepped (steps.Take item) octets own.0)

  outputs_fair : (event : Event) →
      Kind w 0 event →
      TookOctets settings events →
      AllByRecursion IsOctetStep (step_at w event) →
      AllByRecursion IsFairEntry (outputs w event)
  outputs_fair event handles octets own = handled w.inbox octets own
  outputs_fair event (ticks ms) octets own = entries_fair None (tick ms w.controller).outs (stepped (steps.Tick ms) octets own.0)
  outputs_fair event switch_takes octets own = tt
  outputs_fair event (beside is not none nothing delivers) octets own = subst (AllByRecursion IsFairEntry) (sym nothing) tt
  outputs_fair event _ octets own = tt

  put_fair : (event : Event) → TookOctets settings (events ++ event ∷ []) → AllByRecursion IsFairEntry (put SWITCH_LINK w event)
  put_fair event octets = by (is_up w SWITCH_LINK) where
    both : AllByRecursion IsOctetStep (all_steps (new_actors settings) events ++ step_at w event)
    both = subst (AllByRecursion IsOctetStep) (snoc_steps (new_actors settings) events event) octets

    fair : AllByRecursion IsFairEntry (outputs w event)
    fair = outputs_fair event (kind w 0 event) (all_left IsOctetStep (all_steps (new_actors settings) events) (step_at w event) both) (all_right IsOctetStep (all_steps (new_actors settings) events) (step_at w event) both)

    by : (b : Bool) → AllByRecursion IsFairEntry (if b then to_link SWITCH_LINK (outputs w event) else [])
    by true = AllByRecursion-filter IsFairEntry (λ entry. entry.out.to == SWITCH_LINK) (outputs w event) fair
    by false = tt

pub puts_fairly_new : (settings : Parameters) → PutsFairly settings
puts_fairly_new settings allowed events event octets = put_fair settings allowed events event octets

pub ArriveInOctets-new : (settings : Parameters) (events : List Event) → ArriveInOctets settings events
ArriveInOctets-new settings events allowed octets = come_in_fairly_new settings events (puts_fairly_new settings allowed) octets
