-- SPDX-License-Identifier: MIT OR Apache-2.0
-- In every run no acknowledgement of a channel that began is still to arrive; so it is active where
-- its station's link is up.
use Rattle.world_laws.proofs.Prelude.{◌≡◌, ◌≢◌, ℕ, ◌≤◌, true, unwrap_or, List, [], ◌∷◌, ◌++◌, length, Option, Some, None, refl, sym, ap}
use Rattle.world_laws.proofs.Prelude.{◌∙◌, subst, AllByRecursion, Channel, Place, Message, SWITCH_LINK, Input, State}
use Rattle.world_laws.proofs.Prelude.{WaitEstablish, WaitConfirm, Live, Removed, Connection, new_connection, target_channels}
use Rattle.world_laws.proofs.Prelude.{target_role, IsValid, IsOpen, Acts, ActsOn, IsBrought, brought_in, kept_in, rests, ages, opens}
use Rattle.world_laws.proofs.Prelude.{takes_row}
use Rattle.world_laws.proofs.Prelude.{connection_of, IsOctetStep, aged_holds, pass_valid, life_acts, Free, InUse, Step, Controller}
use Rattle.world_laws.proofs.Prelude.{channel_state, hears, place_at, place_of, step, Item, Rsl, AreAllowed, Parameters, Event, BaseTakes}
use Rattle.world_laws.proofs.Prelude.{Handle, Tenure, actors_after, actors_after_all, AllAgree, acknowledged_in, is_in_use, to_arrive}
use Rattle.world_laws.proofs.Prelude.{owner_in, acknowledgements, due, handled, target_in, with_turn, all_steps, step_at, Actors, base_of}
use Rattle.world_laws.proofs.Prelude.{is_active_at, is_station_up, is_up, new_actors, outbox_of, up_right, FollowsTable-new, Rests}
use Rattle.world_laws.proofs.Prelude.{beside_rests, IsKnownItem, known_inbox, Right, handle_turned, heard_of, kinds, there_of}
use Rattle.world_laws.proofs.Prelude.{tick-turned, beside_step, Serves, Turned, both_empty, place-is, same_Some, kept_controller, take}
use Rattle.world_laws.proofs.Prelude.{takes_rests, is_beside, TookOctets, IsHad, commanded_target, IsRequested, AreActiveAt}
use Rattle.world_laws.proofs.Prelude.{commanded_channels}
use Rattle.conn_rules.specs.declared.input.Input.TheVariants as inputs
use Rattle.controller_model.specs.declared.step.Step.TheVariants as steps
use Rattle.world_model.specs.declared.event.Event.TheVariants as events
use Rattle.world_model.specs.Life.{event_after}
use Rattle.world_model.proofs.OwnerRuns.{ServesAt}
use Rattle.world_laws.proofs.Apart.{all_both}
use Rattle.world_laws.proofs.OwnerRun.{serves_event, snoc_steps}
use Rattle.world_laws.proofs.ValidConnections.{connections_are_valid_new}
use Rattle.world_laws.specs.Channels.Begun.{BegunIsTaken, EstablishedAreActive, HasBegun, ServedAreActive, begun_in}
use Rattle.world_laws.proofs.Channels.Agreeing.{IsPlaced, agreed, owns_at, placed_at, used_at}
use Rattle.world_laws.proofs.Channels.BegunRow.{IsAckOf, begun_used, row_begun}
use Rattle.world_laws.proofs.Channels.BegunTurn.{ack_heard, rests_silent, turn_begins, turn_kept}
use Rattle.world_laws.proofs.Targets.Within.{still_all}
use Rattle.world_laws.proofs.Events.{snoc_actors, world}
use Rattle.world_laws.proofs.Framing.{all_left, all_right}

-- each connection took the ACTIVATION ACKs of the channels that began
AllBegun : Actors → Type 0
AllBegun w = (number : ℕ) (s : Connection) → 1 ≤ number → connection_of w.controller number ≡ Some s → HasBegun w s

-- ---- the channels that began are in use

InUseAt : Controller → ℕ → Channel → Type 0
InUseAt c number x = channel_state c (place_of x) ≡ InUse number

begun_in_use : (settings : Parameters) (events : List Event) →
    AreAllowed settings →
    (number : ℕ) (s : Connection) →
    connection_of (world settings events).controller number ≡ Some s →
    AllByRecursion (InUseAt (world settings events).controller number) (begun_in s.state s.serving)
unfolding InUseAt
begun_in_use settings events allowed number s there =
    let c : Controller = (world settings events).controller in
    begun_used (InUseAt c number) s.state s.serving (λ opened. (owns_at settings events allowed number s there opened).using)

used_placed : (settings : Parameters) (events : List Event) →
    AreAllowed settings →
    (at : Place) (number : ℕ) →
    channel_state (world settings events).controller at ≡ InUse number →
    IsPlaced settings (world settings events) at
used_placed settings events allowed at number used = placed_at settings events allowed at (λ free. absurd (let both : Free ≡ InUse number = sym free ∙ used in cc))

-- ---- a step of the controller

pub kept_some : (state : State) (s x : Connection) → kept_in state s ≡ Some x → s ≡ x
kept_some Removed s x is = absurd cc
kept_some _ s x is = same_Some _ _ is

-- what an event at which the controller takes a step does to the channels of a connection
record Stepping (settings : Parameters) (owner : Tenure → ℕ) (w v : Actors) (s : Step) (heard : Place → List Rsl) : Type 0 where
  target : Option Tenure
  turned : (at : Place) → Turned w v at target (step w.controller s) (heard at)
  serves : (at : Place) → 1 ≤ at.station → at.station ≤ length settings.cells → Serves owner w at target (step w.controller s) (heard at)
  acks : (number : ℕ) (at : Place) → IsBrought (brought_in w.controller number s) (inputs.ActivationAck at) → heard at ≢ []

module _ (settings : Parameters) (done : List Event) (event : Event) (v : Actors) (is_then : v ≡ world settings (done ++ event ∷ [])) (allowed : AreAllowed settings) (owner : Tenure → ℕ) (agree : AllAgree settings owner (world settings done)) (s : Step) (heard : Place → List Rsl) (stepping : Stepping settings owner (world settings done) v s heard) where
  abbrev w : Actors
  w = world settings done

  abbrev c : Controller
  c = w.controller

  next_is : v.controller ≡ (step c s).next
  next_is = (stepping.turned (place_at 0 0)).controller

  used_then : (number : ℕ) (x : Connection) →
      connection_of v.controller number ≡ Some x →
      AllByRecursion (InUseAt v.controller number) (begun_in x.state x.serving)
  used_then number x there =
      subst (λ (u : Actors). AllByRecursion (InUseAt u.controller number) (begun_in x.state x.serving)) (sym is_then)
      (begun_in_use settings (done ++ event ∷ []) allowed number x (subst (λ (u : Actors). connection_of u.controller number ≡ Some x) is_then there))

  placed_then : (at : Place) (number : ℕ) → channel_state v.controller at ≡ InUse number → IsPlaced settings v at
  placed_then at number used =
      subst (λ (u : Actors). IsPlaced settings u at) (sym is_then) (used_placed settings (done ++ event ∷ []) allowed at number (subst (λ (u : Actors). channel_state u.controller at ≡ InUse number) is_then used))

  -- nothing of it is still to arrive, if it is in use then
  abbrev Silent : ℕ → Channel → Type 0
  Silent number y = channel_state v.controller (place_of y) ≡ InUse number → to_arrive v (place_of y) ≡ []

  hears-then : (at : Place) (number : ℕ) → channel_state v.controller at ≡ InUse number → hears (step c s).next at.station ≡ true
  hears-then at number used = subst (λ (d : Controller). hears d at.station ≡ true) next_is (placed_then at number used).hearing

  in_use_next : (at : Place) (number : ℕ) → channel_state v.controller at ≡ InUse number → channel_state (step c s).next at ≡ InUse number
  in_use_next at number used = subst (λ (d : Controller). channel_state d at ≡ InUse number) next_is used

  keep : (number : ℕ) (y : Channel) → to_arrive w (place_of y) ≡ [] → InUseAt c number y → Silent number y
  unfolding InUseAt
  keep number y none used still =
      let at : Place = place_of y in
      let placed = placed_then at number still in
      turn_kept owner w v at stepping.target (step c s) (heard at) (stepping.turned at) (stepping.serves at placed.least placed.most) (agree at placed.least placed.most) number used (in_use_next at number still) (hears-then at number still) none

  keep_all : AllBegun w →
      (number : ℕ) (x : Connection) →
      1 ≤ number →
      connection_of c number ≡ Some x →
      AllByRecursion (Silent number) (begun_in x.state x.serving)
  unfolding AllBegun
  keep_all begun number x from_one there = all_both (λ y. to_arrive w (place_of y) ≡ []) (InUseAt c number) (Silent number) (begun_in x.state x.serving) (keep number) (begun number x from_one there) (begun_in_use settings done allowed number x there)

  begins : (number : ℕ) (input : Input) → IsBrought (brought_in c number s) input → IsAckOf input (InUseAt c number) (Silent number)
  unfolding InUseAt
  begins number input brought place y same here used still =
      let at : Place = place_of y in
      let placed = placed_then at number still in
      turn_begins owner w v at stepping.target (step c s) (heard at) (stepping.turned at) (stepping.serves at placed.least placed.most) (agree at placed.least placed.most) number used (in_use_next at number still) (hears-then at number still)
      (subst (λ (p : Place). heard p ≢ []) (place-is place y here) (stepping.acks number place (subst (IsBrought (brought_in c number s)) same brought)))

  finish : (number : ℕ) (x : Connection) →
      connection_of v.controller number ≡ Some x →
      AllByRecursion (Silent number) (begun_in x.state x.serving) →
      HasBegun v x
  unfolding InUseAt
  finish number x there all = all_both (Silent number) (InUseAt v.controller number) (λ y. to_arrive v (place_of y) ≡ []) (begun_in x.state x.serving) (λ y silent used. silent used) all (used_then number x there)

  by_acts : AllBegun w →
      (number : ℕ) (x : Connection) (put : List Message) →
      1 ≤ number →
      connection_of v.controller number ≡ Some x →
      Acts number c.next_number (hears c SWITCH_LINK) (brought_in c number s) (connection_of c number) put (connection_of (step c s).next number) →
      HasBegun v x
  unfolding InUseAt
  by_acts begun number x put from_one there (rests silent same none) = finish number x there (keep_all begun number x from_one (sym same ∙ ap (λ (d : Controller). connection_of d number) (sym next_is) ∙ there))
  by_acts begun number x put from_one there (ages old y passes before aged silent after) =
      let is : y ≡ x = (let both : Some y ≡ Some x = sym after ∙ ap (λ (d : Controller). connection_of d number) (sym next_is) ∙ there in cc) in
      finish number x there (subst (λ (z : Connection). AllByRecursion (Silent number) (begun_in z.state z.serving)) is
      (aged_holds (λ z. AllByRecursion (Silent number) (begun_in z.state z.serving)) (λ ms z all. all) old y aged (keep_all begun number old from_one before)))
  by_acts begun number x put from_one there (opens next up channel request delay nothing before put_is after) =
      let is : new_connection number channel request delay ≡ x = (let both : Some (new_connection number channel request delay) ≡ Some x = sym after ∙ ap (λ (d : Controller). connection_of d number) (sym next_is) ∙ there in cc) in
      subst (HasBegun v) is tt
  by_acts begun number x put from_one there (takes_row old y input offer r before aged brought fits put_is after) =
      let is : r.next ≡ x = kept_some r.next.state r.next x (sym after ∙ ap (λ (d : Controller). connection_of d number) (sym next_is) ∙ there) in
      finish number x there (subst (λ (z : Connection). AllByRecursion (Silent number) (begun_in z.state z.serving)) is
      (row_begun (InUseAt c number) (Silent number) y input offer r (aged_holds IsValid pass_valid old y aged (connections_are_valid_new settings done number old before)) fits (begins number input brought)
      (aged_holds (λ z. IsOpen z.state → AllByRecursion (InUseAt c number) (z.serving ∷ target_channels (target_role z.state))) (λ ms z all. all) old y aged (owned number old before))
      (aged_holds (λ z. AllByRecursion (Silent number) (begun_in z.state z.serving)) (λ ms z all. all) old y aged (keep_all begun number old from_one before))))
    where
      owned : (number : ℕ) (old : Connection) →
          connection_of c number ≡ Some old →
          IsOpen old.state →
          AllByRecursion (InUseAt c number) (old.serving ∷ target_channels (target_role old.state))
      owned number old there opened = (owns_at settings done allowed number old there opened).using

  stepping_begun : AllBegun w → AllBegun v
  unfolding AllBegun
  stepping_begun begun number x from_one there =
      let acts = subst (λ (d : Controller). ActsOn number d s) (sym (FollowsTable-new settings done)) (life_acts settings (all_steps (new_actors settings) done) s number from_one) in
      by_acts begun number x acts.put from_one there acts.acts

-- ---- each event

module _ (settings : Parameters) (done : List Event) (allowed : AreAllowed settings) (octets : TookOctets settings done) (begun : AllBegun (world settings done)) where
  abbrev now : Actors
  now = world settings done

  abbrev own_of : Tenure → ℕ
  own_of = owner_in (new_actors settings) done

  right : Right settings own_of now []
  right = agreed settings done allowed octets

  resting : (e : Event) →
      (actors_after now e).controller ≡ now.controller →
      ((at : Place) → 1 ≤ at.station → at.station ≤ length settings.cells → Rests at now e) →
      AllBegun (actors_after now e)
  unfolding AllBegun InUseAt
  resting e same quiet number x from_one there =
      let there_now : connection_of now.controller number ≡ Some x = subst (λ (d : Controller). connection_of d number ≡ Some x) same there in
      all_both (λ y. to_arrive now (place_of y) ≡ []) (InUseAt now.controller number) (λ y. to_arrive (actors_after now e) (place_of y) ≡ []) (begun_in x.state x.serving)
      (λ y none used.
      let placed = used_placed settings done allowed (place_of y) number used in
      rests_silent (place_of y) now e (there_of settings own_of now [] (place_of y) right placed.least placed.most) right.good (quiet (place_of y) placed.least placed.most) none)
      (begun number x from_one there_now) (begun_in_use settings done allowed number x there_now)

  beside : (e : Event) → is_beside e ≡ true → AllBegun (actors_after now e)
  beside e is = resting e (beside_step now e is).controller (λ at least most. beside_rests at now e is (there_of settings own_of now [] at right least most))

  takes : (station : ℕ) → AllBegun (actors_after now (BaseTakes station))
  takes station = resting (BaseTakes station) (kept_controller now station) (λ at least most. takes_rests own_of at now station (there_of settings own_of now [] at right least most) right.spots (right.agree at least most))

  ticks : (ms : ℕ) → AllByRecursion IsOctetStep (step_at now (events.Tick ms)) → AllBegun (actors_after now (events.Tick ms))
  unfolding ServesAt event_after
  ticks ms took_octets =
      stepping_begun settings done (events.Tick ms) (actors_after now (events.Tick ms)) (sym (snoc_actors (new_actors settings) done (events.Tick ms))) allowed own_of right.agree (steps.Tick ms) (λ at. [])
      (record {
        target = None;
        turned = λ at. tick-turned now at ms;
        serves = serves_event settings own_of done now (events.Tick ms) refl allowed octets took_octets right.agree;
        acks = λ number at brought. absurd brought;
      }) begun

  handles : AllByRecursion IsOctetStep (step_at now Handle) → AllBegun (actors_after now Handle)
  unfolding ServesAt event_after
  handles took_octets = by now.inbox refl where
    by : (items : List Item) → now.inbox ≡ items → AllBegun (actors_after now Handle)
    by [] is = subst AllBegun (sym (ap (λ (items : List Item). unwrap_or (handled items now) now) is)) begun
    by (item ∷ items) is =
        let v : Actors = with_turn (target_in now item.source item.what) (take item now.controller) (record now { inbox = items }) in
        let same : actors_after now Handle ≡ v = ap (λ (all : List Item). unwrap_or (handled all now) now) is in
        let known : AllByRecursion IsKnownItem (item ∷ items) = subst (AllByRecursion IsKnownItem) is (known_inbox settings done) in
        subst AllBegun (sym same)
        (stepping_begun settings done Handle v (sym same ∙ sym (snoc_actors (new_actors settings) done Handle)) allowed own_of right.agree (steps.Take item) (λ at. heard_of at item)
        (record {
          target = target_in now item.source item.what;
          turned = λ at. handle_turned now at item items is;
          serves = serves_event settings own_of done now Handle refl allowed octets took_octets right.agree item items is;
          acks = λ number at brought. ack_heard now now.controller number item at (used_at settings done allowed) known.0 brought;
        }) begun)

  event_begun : (e : Event) → AllByRecursion IsOctetStep (step_at now e) → AllBegun (actors_after now e)
  event_begun = kinds (λ e. AllByRecursion IsOctetStep (step_at now e) → AllBegun (actors_after now e)) (λ e is took_octets. beside e is) handles ticks (λ station took_octets. takes station)

-- ---- over all events

begun_all : (settings : Parameters) (done rest : List Event) (w : Actors) →
    w ≡ world settings done →
    AreAllowed settings →
    TookOctets settings done →
    AllByRecursion IsOctetStep (all_steps w rest) →
    AllBegun w →
    AllBegun (actors_after_all w rest)
begun_all settings done [] w is allowed octets later begun = begun
begun_all settings done (event ∷ rest) w is allowed octets later begun =
    let own : AllByRecursion IsOctetStep (step_at (world settings done) event) = subst (λ (u : Actors). AllByRecursion IsOctetStep (step_at u event)) is (all_left IsOctetStep (step_at w event) (all_steps (actors_after w event) rest) later) in
    let next : AllBegun (actors_after w event) = subst (λ (u : Actors). AllBegun (actors_after u event)) (sym is) (event_begun settings done allowed octets (subst AllBegun is begun) event own) in
    begun_all settings (done ++ event ∷ []) rest (actors_after w event) (ap (λ (u : Actors). actors_after u event) is ∙ sym (snoc_actors (new_actors settings) done event)) allowed
    (snoc_steps IsOctetStep (new_actors settings) done event octets own) (all_right IsOctetStep (step_at w event) (all_steps (actors_after w event) rest) later) next

begun_new : (settings : Parameters) → AllBegun (new_actors settings)
unfolding AllBegun
begun_new settings number x from_one there = absurd cc

begun_at : (settings : Parameters) (events : List Event) →
    AreAllowed settings →
    TookOctets settings events →
    AllBegun (world settings events)
begun_at settings events allowed octets = begun_all settings [] events (new_actors settings) refl allowed tt octets (begun_new settings)

pub begun_is_taken_new : (settings : Parameters) (events : List Event) → BegunIsTaken settings events
unfolding AllBegun
begun_is_taken_new settings events s allowed octets had = begun_at settings events allowed octets s.number s had.from_one had.there

-- ---- so it is active

begun_active : (settings : Parameters) (events : List Event) → AreAllowed settings → TookOctets settings events → (at : Place) (number : ℕ) → channel_state (world settings events).controller at ≡ InUse number → is_up (world settings events) at.station ≡ true
    → to_arrive (world settings events) at ≡ [] → is_active_at (world settings events) at ≡ true
begun_active settings events allowed octets at number used up silent =
    let w : Actors = world settings events in
    let placed = used_placed settings events allowed at number used in
    let way = ((agreed settings events allowed octets).agree at placed.least placed.most).way placed.hearing in
    let waits : List Rsl = due at.number (is_active_at w at) (outbox_of w at.station) in
    let none : waits ≡ [] = (both_empty (acknowledgements at.number (base_of w at.station).messages) waits (sym (both_empty (acknowledged_in at w.inbox) (acknowledgements at.number (base_of w at.station).messages ++ waits) (sym silent)).1)).1 in
    sym (still_all at.number (is_active_at w at) (outbox_of w at.station) none) ∙ way.active up ∙ ap is_in_use used

-- it began on the serving channel, and on the target of the command
abbrev BothBegan : Channel → State → Type 0
BothBegan serving state = begun_in state serving ≡ serving ∷ commanded_channels (commanded_target state)

requested_began : (state : State) (serving : Channel) → IsRequested state → BothBegan serving state
requested_began WaitConfirm serving requested = refl
requested_began (Live reference stage) serving requested = refl
requested_began _ serving requested = absurd requested

began_active : (settings : Parameters) (events : List Event) (station : ℕ) (s : Connection) → AreAllowed settings → TookOctets settings events → IsHad (world settings events) s → BothBegan s.serving s.state
    → is_station_up (world settings events) station ≡ true → AreActiveAt station (world settings events) s
unfolding InUseAt
began_active settings events station s allowed octets had began up =
    let w : Actors = world settings events in
    subst (AllByRecursion (λ y. y.station ≡ station → is_active_at w (place_of y) ≡ true)) began
    (all_both (λ y. to_arrive w (place_of y) ≡ []) (InUseAt w.controller s.number) (λ y. y.station ≡ station → is_active_at w (place_of y) ≡ true) (begun_in s.state s.serving)
    (λ y none used here. begun_active settings events allowed octets (place_of y) s.number used (ap (is_up w) here ∙ (up_right station w up).1) none)
    (begun_is_taken_new settings events s allowed octets had) (begun_in_use settings events allowed s.number s had.there))

pub served_are_active_new : (settings : Parameters) (events : List Event) → ServedAreActive settings events
served_are_active_new settings events station s allowed octets had requested up = began_active settings events station s allowed octets had (requested_began s.state s.serving requested) up

pub established_are_active_new : (settings : Parameters) (events : List Event) → EstablishedAreActive settings events
established_are_active_new settings events station s allowed octets had established up =
    let began : BothBegan s.serving WaitEstablish = refl in
    began_active settings events station s allowed octets had (subst (BothBegan s.serving) (sym established) began) up
