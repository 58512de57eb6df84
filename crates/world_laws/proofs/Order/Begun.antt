-- SPDX-License-Identifier: MIT OR Apache-2.0
-- The serving channel of a connection that begins is quiet.
use Rattle.world_laws.proofs.Prelude.{◌≡◌, ◌≢◌, ◌⊎◌, inl, inr, ℕ, ◌≤◌, nat_eq, Bool, true, false, if◌then◌else◌, map, length, List, [], ◌∷◌}
use Rattle.world_laws.proofs.Prelude.{◌++◌, Contains, Option, Some, None, refl, sym, ap, ◌∙◌, subst, arith, append_assoc, cases_Bool}
use Rattle.world_laws.proofs.Prelude.{eqb-true, eqb-false, append-nil, AllByRecursion, flat_map, list_any, Place, Message, Out, SWITCH_LINK}
use Rattle.world_laws.proofs.Prelude.{outs_of, Connection, AllByRecursion-filter, Acts, brought_in, connection_of, is_for, outs_for}
use Rattle.world_laws.proofs.Prelude.{IsOctetStep, IsSent, IsNotOn, life_after, contains_none, ChannelState, Free, InUse, Step}
use Rattle.world_laws.proofs.Prelude.{Controller, channel_state, hears, place_of, step, RelayItem, Rsl, AreAllowed, Parameters, Event}
use Rattle.world_laws.proofs.Prelude.{OutboxEntry, Tenure, actors_after, AllAgree, owner_in, is_active, acknowledgements, active_all}
use Rattle.world_laws.proofs.Prelude.{outputs, outputs_at, put, taken, to_link, target_in, all_steps, first_taken, step_at, Actors, Link}
use Rattle.world_laws.proofs.Prelude.{base_of, is_active_at, is_up, new_actors, outbox_of, FollowsTable-new, outbox-step, OutboxStep}
use Rattle.world_laws.proofs.Prelude.{breaks, RunsThrough, first_passes, runs, heard_of, Serves, hear, acks_append, length-stations_from}
use Rattle.world_laws.proofs.Prelude.{pipe-step, PipeStep, flows, stops, life_ready, Ready, free≢use, used_places, IsFine, life, take, tick}
use Rattle.world_laws.proofs.Prelude.{runs_kept, runs_activate, acknowledgements_up, is_release_ack, read_of, TookOctets, IsHad}
use Rattle.world_laws.proofs.Prelude.{is_ending, ChannelsBeginQuiet, NoDataEntry, Quiet, Waits, IsEarlyIn, hear_in_use}
use Rattle.controller_model.specs.declared.step.Step.TheVariants as steps
use Rattle.rsl_codec.specs.declared.rsl.Rsl.TheVariants as rsl
use Rattle.world_model.specs.declared.event.Event.TheVariants as events
use Rattle.world_model.specs.Relay.{entry_of}
use Rattle.world_model.proofs.Outboxes.Step.{kept_order}
use Rattle.world_model.proofs.OwnerRuns.{ServesAt}
use Rattle.world_laws.proofs.OwnerRun.{serves_event}
use Rattle.world_laws.proofs.Channels.Agreeing.{IsPlaced, owns_at, placed_at, used_at}
use Rattle.world_laws.proofs.Handling.Finishing.{controller-is, handle_is, tick_is}
use Rattle.world_laws.proofs.Handling.Knowing.{Steps, octets_arrived, steps_known}
use Rattle.world_laws.proofs.Targets.Calm.{down_active}
use Rattle.world_laws.proofs.Targets.FreeQuiet.{Known, hear_free, known_new}
use Rattle.world_laws.proofs.Targets.Ways.{heard_read}
use Rattle.world_laws.specs.Order.QuietDown.Quiet.{begun, waits}
use Rattle.world_laws.proofs.Order.Avoiding.{OthersPut, others_put}
use Rattle.world_laws.proofs.Order.Begin.{begins_waiting}
use Rattle.world_laws.proofs.Order.Down.{less_one, stations-all}
use Rattle.world_laws.proofs.Order.Early.{Fate, fate}
use Rattle.world_laws.proofs.Order.Early.Fate.{begins, remained}
use Rattle.world_laws.proofs.Order.NoData.{NoDataOut, by_each, entries_none, messages_none, pong_none}
use Rattle.world_laws.proofs.Order.QuietDown.{IsIdle, quiet_step}
use Rattle.world_laws.proofs.Events.{snoc_actors, snoc_steps, world}
use Rattle.world_laws.proofs.References.Numbered.{outs_of_one}

hear-used : (heard : List Rsl) (n : ℕ) → hear heard (InUse n) ≡ InUse n
hear-used [] n = refl
hear-used (rsl.RfChannelReleaseAck channel ∷ rest) n = refl
hear-used (_ ∷ rest) n = refl

runs_from_use : {at : Place} {state end : ChannelState} {outs : List Out} (n : ℕ) →
    RunsThrough at state outs end →
    end ≡ InUse n →
    (state ≡ InUse n) ⊎ (state ≡ Free)
runs_from_use n (runs all) is = inl (runs_kept n all is)
runs_from_use n (first_passes beside rest) is = runs_from_use n rest is
runs_from_use n (runs_activate a says channel few rest) is = inr refl

module _ (settings : Parameters) (done : List Event) (event : Event) (s : Connection) (allowed : AreAllowed settings) (octets : TookOctets settings (done ++ event ∷ []))
    (new : connection_of (world settings done).controller s.number ≡ None) (has : IsHad (world settings (done ++ event ∷ [])) s) (early_then : IsEarlyIn s.state) where
  abbrev w : Actors
  w = world settings done

  abbrev vv : Actors
  vv = world settings (done ++ event ∷ [])

  abbrev v : Actors
  v = actors_after w event

  abbrev c : Controller
  c = w.controller

  abbrev at : Place
  at = place_of s.serving

  same : vv ≡ v
  same = snoc_actors (new_actors settings) done event

  took_octets : TookOctets settings done × AllByRecursion IsOctetStep (step_at w event)
  took_octets = octets_arrived settings done event octets

  used_then : channel_state vv.controller at ≡ InUse s.number
  used_then = (owns_at settings (done ++ event ∷ []) allowed s.number s has.there has.is_open).using.0

  placed : IsPlaced settings vv at
  placed = placed_at settings (done ++ event ∷ []) allowed at (λ free. absurd (let both : Free ≡ InUse s.number = sym free ∙ used_then in cc))

  at_is : at.station ≢ SWITCH_LINK
  at_is is = absurd (let least = placed.least in omega (arith, is, least))

  before : Known settings done at
  before = known_new settings done at allowed took_octets.0 placed.least placed.most

  after : Known settings (done ++ event ∷ []) at
  after = known_new settings (done ++ event ∷ []) at allowed octets placed.least placed.most

  pub agree : AllAgree settings (owner_in (new_actors settings) done) w
  agree = λ p least most. (known_new settings done p allowed took_octets.0 least most).agrees

  rests_not : step_at w event ≡ [] → Quiet vv at
  rests_not none =
      let still : vv.controller ≡ c =
      FollowsTable-new settings (done ++ event ∷ [])
      ∙ ap (λ (ss : List Step). (life settings ss).next) (snoc_steps (new_actors settings) done event ∙ ap (λ (ss : List Step). all_steps (new_actors settings) done ++ ss) none ∙ append-nil (all_steps (new_actors settings) done))
      ∙ sym (FollowsTable-new settings done) in
      absurd (let both : Some s ≡ None = sym has.there ∙ ap (λ (d : Controller). connection_of d s.number) still ∙ new in cc)

  -- s isn't there before
  unused : channel_state c at ≡ InUse s.number → ⊥
  unused used = contains_none at (subst (λ (o : Option Connection). Contains (used_places o) at) new (((used_at settings done allowed).using at s.number).0 used))

  module _ (x : Step) (target : Option Tenure) (heard rest : List Rsl) (own : IsOctetStep x) (puts : outputs w event ≡ map (entry_of target) (step c x).outs) (next : vv.controller ≡ (step c x).next) (untaken : taken at.station w event ≡ [])
      (serves : Serves (owner_in (new_actors settings) done) w at target (step c x) heard) (hears_it : acknowledgements_up w at ≡ heard ++ rest) where
    does : Steps c x s.number
    does = steps_known settings done x s.number allowed took_octets.0 own has.from_one

    there : connection_of (step c x).next s.number ≡ Some s
    there = ap (λ (d : Controller). connection_of d s.number) (sym next) ∙ has.there

    fine : IsFine (connection_of c s.number)
    fine = subst (λ (d : Controller). IsFine (connection_of d s.number)) (sym (FollowsTable-new settings done)) ((life_after settings (all_steps (new_actors settings) done) allowed).fits s.number has.from_one).fine

    ready : Ready c
    ready = subst (λ (d : Controller). Ready d) (sym (FollowsTable-new settings done)) (life_ready settings (all_steps (new_actors settings) done) allowed)

    end_is : channel_state (step c x).next at ≡ InUse s.number
    end_is = ap (λ (d : Controller). channel_state d at) (sym next) ∙ used_then

    hearing_next : hears (step c x).next at.station ≡ true
    hearing_next = ap (λ (d : Controller). hears d at.station) (sym next) ∙ placed.hearing

    hearing : hears c at.station ≡ true
    hearing = serves.hearing hearing_next

    heard_free : hear heard (channel_state c at) ≡ Free
    heard_free = elim (runs_from_use s.number (serves.moves hearing_next) end_is) [
      | inl used ↦ absurd (unused (hear_in_use heard (channel_state c at) s.number used))
      | inr free ↦ free
    ]

    why : (channel_state c at ≡ Free) ⊎ (is_ending w at ≡ true)
    why = elim (hear_free heard (channel_state c at) heard_free) [
      | inl free ↦ inl free
      | inr acks ↦ inr (ap (list_any is_release_ack) (hears_it ∙ ap (λ (xs : List Rsl). xs ++ rest) acks.2))
    ]

    inactive : is_active_at w at ≡ false
    inactive = before.settled.idle hearing why

    others : (k : ℕ) → 1 ≤ k → s.number ≢ k → OthersPut k c x at
    others k from_one differs = subst (λ (d : Controller). channel_state d at ≡ channel_state c at → channel_state (step d x).next at ≡ InUse s.number → OthersPut k d x at) (sym (FollowsTable-new settings done))
        (λ here_now here_next. others_put settings (all_steps (new_actors settings) done) x s.number k at (channel_state c at) allowed from_one differs
        (λ both. free≢use _ (sym heard_free ∙ ap (hear heard) (sym both) ∙ hear-used heard k)) here_now here_next)
        refl end_is

    of_messages : (k : ℕ) (ms : List Message) →
        outs_for k (step c x).outs ≡ outs_of k ms →
        AllByRecursion (IsNotOn at) ms →
        AllByRecursion (NoDataOut at) (outs_for k (step c x).outs)
    of_messages k ms is none = subst (AllByRecursion (NoDataOut at)) (sym is) (messages_none at k ms placed.least (subst (AllByRecursion IsSent) is (AllByRecursion-filter IsSent (is_for k) (step c x).outs does.sent)) none)

    own_none : AllByRecursion (IsNotOn at) does.acts.put
    own_none = by (fate s.number c.next_number (hears c SWITCH_LINK) (brought_in c s.number x) (connection_of c s.number) does.acts.put s at fine early_then (subst (λ (o : Option Connection). Acts s.number c.next_number (hears c SWITCH_LINK) (brought_in c s.number x) (connection_of c s.number) does.acts.put o) there does.acts.acts)) where
      by : Fate at (connection_of c s.number) s does.acts.put → AllByRecursion (IsNotOn at) does.acts.put
      by (remained now is early_now serving off) = off
      by (begins none put_is) = subst (AllByRecursion (IsNotOn at)) (sym put_is) (tt, tt)

    nodata : AllByRecursion (NoDataOut at) (step c x).outs
    nodata = by_each (NoDataOut at) (step c x).outs (outs_of_one c x ready.numbered) (pong_none at) (λ k from_one. elim (cases_Bool (nat_eq s.number k)) [
      | inl hit ↦ subst (λ (n : ℕ). AllByRecursion (NoDataOut at) (outs_for n (step c x).outs)) (eqb-true s.number k hit) (of_messages s.number does.acts.put does.acts.outs own_none)
      | inr miss ↦ let other = others k from_one (eqb-false s.number k miss) in of_messages k other.put other.outs other.off
    ])

    nothing : AllByRecursion (NoDataEntry at.number) (put at.station w event)
    nothing = by (is_up w at.station) where
      by : (b : Bool) → AllByRecursion (NoDataEntry at.number) (if b then to_link at.station (outputs w event) else [])
      by true = subst (λ (es : List OutboxEntry). AllByRecursion (NoDataEntry at.number) (to_link at.station es)) (sym puts) (entries_none at target (step c x).outs nodata)
      by false = tt

    idle_then : IsIdle v at
    idle_then = subst (λ (y : Actors). IsIdle y at) same after.settled.air

    pipe : PipeStep at.station at.number w event v
    pipe = pipe-step at.station at.number w event at_is (less_one at.station (length w.stations) (length settings.cells) placed.least placed.most (stations-all (new_actors settings) done ∙ length-stations_from 1 settings.cells)) before.none

    down_quiet : is_up v at.station ≡ false → outbox_of v at.station ≡ [] → Quiet v at
    down_quiet down empty =
        begun (idle_then (ap (λ (active : List ℕ). is_active active at.number) (down_active at.station w event at_is down) ∙ inactive)) (subst (AllByRecursion (NoDataEntry at.number)) (sym empty) tt)

    waiting : is_up w at.station ≡ true → Waits at.number (outbox_of w at.station ++ put at.station w event)
    waiting up = subst (λ (es : List OutboxEntry). Waits at.number (outbox_of w at.station ++ es)) (sym (ap (λ (b : Bool). if b then to_link at.station (outputs w event) else []) up ∙ ap (to_link at.station) puts))
        (begins_waiting (owner_in (new_actors settings) done) w at target s.number before.agrees hearing up why inactive (serves.moves hearing_next) end_is (λ used. unused (hear_in_use heard (channel_state c at) s.number used)) nodata)

    up_quiet : is_up w at.station ≡ true → OutboxStep at.station w event v → PipeStep at.station at.number w event v → Quiet v at
    up_quiet up (breaks broken unput gone) p = down_quiet (ap (λ (l : Link). l.up) broken) (ap (λ (l : Link). l.outbox) broken)
    up_quiet up (kept_order now all) (stops down left dropped ungiven gone) = down_quiet down dropped
    up_quiet up (kept_order now all) (flows acks active) = waits
        (active ∙ ap (active_all at.number (is_active_at w at)) untaken ∙ inactive)
        (subst (λ (es : List OutboxEntry). Waits at.number (es ++ outbox_of v at.station)) untaken (subst (Waits at.number) all (waiting up)))

    pub begins_quiet : Quiet vv at
    begins_quiet = subst (λ (y : Actors). Quiet y at) (sym same) (by (is_up w at.station) refl) where
      by : (b : Bool) → is_up w at.station ≡ b → Quiet v at
      by true up = up_quiet up (outbox-step at.station w event) pipe
      by false down = quiet_step w event at at_is before.settled.air idle_then nothing pipe (begun (before.settled.air inactive) (subst (AllByRecursion (NoDataEntry at.number)) (sym (before.none down)) tt))

pub channels_begin_quiet_new : (settings : Parameters) (done : List Event) (event : Event) → ChannelsBeginQuiet settings done event
unfolding ServesAt
channels_begin_quiet_new settings done events.Handle s allowed octets new has early_then = by w.inbox refl where
  w : Actors
  w = world settings done

  n : ℕ
  n = s.serving.station

  by : (items : List RelayItem) → w.inbox ≡ items → Quiet (world settings (done ++ events.Handle ∷ [])) (place_of s.serving)
  by [] pending = rests_not settings done events.Handle s allowed octets new has early_then (ap first_taken pending)
  by (item ∷ items) pending =
      let at : Place = place_of s.serving in
      let took_octets = octets_arrived settings done events.Handle octets in
      let place = placed settings done events.Handle s allowed octets new has early_then in
      begins_quiet settings done events.Handle s allowed octets new has early_then (steps.Take item) (target_in w item.source item.what) (heard_of at item)
      (acknowledgements at.number (flat_map (read_of n) items ++ (base_of w n).messages))
      (subst (λ (xs : List RelayItem). AllByRecursion IsOctetStep (first_taken xs)) pending took_octets.1).0
      (ap (outputs_at w) pending)
      (ap (λ (x : Actors). x.controller) (snoc_actors (new_actors settings) done events.Handle ∙ handle_is w item items pending) ∙ controller-is (target_in w item.source item.what) (take item w.controller) (record w { inbox = items }))
      refl
      (serves_event settings (owner_in (new_actors settings) done) done w events.Handle refl allowed took_octets.0 took_octets.1 (agree settings done events.Handle s allowed octets new has early_then) item items pending at place.least place.most)
      (ap (λ (xs : List RelayItem). acknowledgements at.number (flat_map (read_of n) xs ++ (base_of w n).messages)) pending
      ∙ ap (acknowledgements at.number) (append_assoc (read_of n item) (flat_map (read_of n) items) (base_of w n).messages)
      ∙ acks_append at.number (read_of n item) (flat_map (read_of n) items ++ (base_of w n).messages)
      ∙ ap (λ (xs : List Rsl). xs ++ acknowledgements at.number (flat_map (read_of n) items ++ (base_of w n).messages)) (sym (heard_read at item ∙ ap (acknowledgements at.number) (append-nil (read_of n item)))))
channels_begin_quiet_new settings done (events.Tick ms) s allowed octets new has early_then =
    let w : Actors = world settings done in
    let at : Place = place_of s.serving in
    let took_octets = octets_arrived settings done (events.Tick ms) octets in
    let place = placed settings done (events.Tick ms) s allowed octets new has early_then in
    begins_quiet settings done (events.Tick ms) s allowed octets new has early_then (steps.Tick ms) None [] (acknowledgements_up w at) tt refl
    (ap (λ (x : Actors). x.controller) (snoc_actors (new_actors settings) done (events.Tick ms) ∙ tick_is w ms) ∙ controller-is None (tick ms w.controller) w)
    refl
    (serves_event settings (owner_in (new_actors settings) done) done w (events.Tick ms) refl allowed took_octets.0 took_octets.1 (agree settings done (events.Tick ms) s allowed octets new has early_then) at place.least place.most)
    refl
channels_begin_quiet_new settings done _ s allowed octets new has early_then = rests_not settings done _ s allowed octets new has early_then refl
