-- SPDX-License-Identifier: MIT OR Apache-2.0
-- Nothing is on its way up from a channel that the controller has as free.
use Rattle.world_laws.proofs.Prelude.{◌≡◌, ◌≢◌, ◌⊎◌, inl, inr, ℕ, ◌≤◌, Bool, true, false, unwrap_or, List, [], ◌∷◌, ◌++◌, length, Option}
use Rattle.world_laws.proofs.Prelude.{None, refl, sym, ap, ◌∙◌, subst, append_assoc, arith, eq-eqb, flat_map-append, append-nil}
use Rattle.world_laws.proofs.Prelude.{AllByRecursion, flat_map, Place, SWITCH_LINK, IsOctetStep, ChannelState, Free, InUse}
use Rattle.world_laws.proofs.Prelude.{Releasing, Controller, Turn, channel_state, hears, Tenures, tenure_brings, apart, Item, Rsl}
use Rattle.world_laws.proofs.Prelude.{AreAllowed, Parameters, Event, BaseTakes, Handle, Tenure, actors_after, actors_after_all, Agrees}
use Rattle.world_laws.proofs.Prelude.{acknowledged_in, to_arrive, owner_in, acknowledgements, due, all_popped, first_of, handled, target_in}
use Rattle.world_laws.proofs.Prelude.{with_turn, all_steps, step_at, Actors, base_of, is_active_at, new_actors, outbox_of, beside_rests}
use Rattle.world_laws.proofs.Prelude.{Right, handle_turned, heard_of, kinds, there_of, kept_controller}
use Rattle.world_laws.proofs.Prelude.{tick-turned, beside_step, IsOne, Serves, Turned, hear, both_empty, acks_append, free≢use, take, tick}
use Rattle.world_laws.proofs.Prelude.{IsOwed, popped, AreHonest-new, is_beside, acknowledgements_taken, messages_up, read_of, coming_up}
use Rattle.world_laws.proofs.Prelude.{TookOctets, FreeAreSilent}
use Rattle.link_model.specs.Tenures.Tenures.{begins, ends}
use Rattle.rsl_codec.specs.declared.rsl.Rsl.TheVariants as rsl
use Rattle.world_model.specs.declared.event.Event.TheVariants as events
use Rattle.world_model.specs.Life.{event_after}
use Rattle.world_model.proofs.OwnerRuns.{ServesAt}
use Rattle.world_laws.proofs.Acknowledged.{bound, brought_unbound, coming_read, given_read, nothing_outside, unbound}
use Rattle.world_laws.proofs.OwnerRun.{serves_event, snoc_steps}
use Rattle.world_laws.proofs.Channels.Agreeing.{agreed}
use Rattle.world_laws.proofs.Channels.RoleAcks.{by_said, free_silent, silent_of}
use Rattle.world_laws.proofs.Targets.FreeQuiet.{runs_to_free}
use Rattle.world_laws.proofs.Events.{snoc_actors, world}
use Rattle.world_laws.proofs.Framing.{all_left, all_right}

-- ---- whether a tenure lasts, behind acknowledgements

is_within : Bool → List Rsl → Bool
is_within within [] = within
is_within within (rsl.ChannelActivationAck a ∷ ms) = is_within true ms
is_within within (rsl.RfChannelReleaseAck channel ∷ ms) = is_within false ms
is_within within (_ ∷ ms) = is_within within ms

within_append : (b : Bool) (xs ys : List Rsl) → is_within b (xs ++ ys) ≡ is_within (is_within b xs) ys
unfolding is_within
within_append b [] ys = refl
within_append b (rsl.ChannelActivationAck a ∷ xs) ys = within_append true xs ys
within_append b (rsl.RfChannelReleaseAck channel ∷ xs) ys = within_append false xs ys
within_append b (_ ∷ xs) ys = within_append b xs ys

-- the acknowledgements of a channel say for all that arrives whether the tenure lasts
tenures_behind : {b e : Bool} (k : ℕ) (xs ys : List Rsl) → Tenures k b (xs ++ ys) e → Tenures k (is_within b (acknowledgements k xs)) ys e
unfolding is_within
tenures_behind k [] ys t = t
tenures_behind {b} {e} k (x ∷ xs) ys (begins t) = subst (λ (ms : List Rsl). Tenures k (is_within b ms) ys e) (sym (bound k x xs (eq-eqb k k refl))) (tenures_behind k xs ys t)
tenures_behind {b} {e} k (x ∷ xs) ys (tenure_brings is t) = subst (λ (ms : List Rsl). Tenures k (is_within b ms) ys e) (sym (unbound k x xs (brought_unbound k x is))) (tenures_behind k xs ys t)
tenures_behind {b} {e} k (x ∷ xs) ys (ends t) = subst (λ (ms : List Rsl). Tenures k (is_within b ms) ys e) (sym (bound k x xs (eq-eqb k k refl))) (tenures_behind k xs ys t)
tenures_behind {b} {e} k (x ∷ xs) ys (apart not_brought not_bound t) = subst (λ (ms : List Rsl). Tenures k (is_within b ms) ys e) (sym (unbound k x xs not_bound)) (tenures_behind k xs ys t)

-- ---- a channel becomes free by an RF CHANNEL RELEASE ACK alone

abbrev IsEnd : List Rsl → Type 0
IsEnd heard = (channel : ℕ) × (heard ≡ rsl.RfChannelReleaseAck channel ∷ [])

one_end : (channel : ℕ) (rest : List Rsl) → IsOne (rsl.RfChannelReleaseAck channel ∷ rest) → IsEnd (rsl.RfChannelReleaseAck channel ∷ rest)
one_end channel rest (inl none) = absurd cc
one_end channel [] (inr (m, one)) = (channel, refl)
one_end channel (x ∷ xs) (inr (m, one)) = absurd cc

heard_free : (heard : List Rsl) (state : ChannelState) → IsOne heard → hear heard state ≡ Free → (state ≡ Free) ⊎ IsEnd heard
heard_free (rsl.RfChannelReleaseAck channel ∷ rest) (Releasing m) one is = inr (one_end channel rest one)
heard_free (rsl.RfChannelReleaseAck channel ∷ rest) (InUse m) one is = absurd (free≢use _ (sym is))
heard_free _ _ one is = inl is

-- by a turn: it was free and nothing was heard, or its end was heard
turn_free : (owner : Tenure → ℕ) (w v : Actors) (at : Place) (target : Option Tenure) (t : Turn) (heard : List Rsl) →
    Turned w v at target t heard →
    Serves owner w at target t heard →
    Agrees owner w at →
    hears t.next at.station ≡ true →
    channel_state t.next at ≡ Free →
    ((channel_state w.controller at ≡ Free) × (heard ≡ [])) ⊎ IsEnd heard
turn_free owner w v at target t heard turned serves agrees hearing free = by (heard_free heard (channel_state w.controller at) turned.one (runs_to_free (serves.moves hearing) free)) where
  by : (channel_state w.controller at ≡ Free) ⊎ IsEnd heard → ((channel_state w.controller at ≡ Free) × (heard ≡ [])) ⊎ IsEnd heard
  by (inr end) = inr end
  by (inl was) =
      let way = agrees.way (serves.hearing hearing) in
      let none : to_arrive w at ++ way.lost ≡ [] = free_silent at.number (to_arrive w at ++ way.lost) (subst (λ (s : ChannelState). IsOwed at.number s (to_arrive w at ++ way.lost)) was way.owed) in
      let first : acknowledged_in at w.inbox ≡ [] = (both_empty (acknowledged_in at w.inbox) (acknowledgements at.number (base_of w at.station).messages ++ due at.number (is_active_at w at) (outbox_of w at.station)) (sym (both_empty (to_arrive w at) way.lost (sym none)).0)).0 in
      inl (was, (both_empty heard (acknowledged_in at v.inbox) (sym first ∙ turned.inbox)).0)

-- ---- over all events

-- of a free channel the acknowledgements that the controller took leave no tenure
FreeIsOver : Parameters → List Event → Type 0
FreeIsOver settings done =
    (at : Place) → 1 ≤ at.station → at.station ≤ length settings.cells → hears (world settings done).controller at.station ≡ true → channel_state (world settings done).controller at ≡ Free
    → is_within false (acknowledgements_taken at (all_popped (new_actors settings) done)) ≡ false

snoc_popped : (w : Actors) (xs : List Event) (e : Event) → all_popped w (xs ++ e ∷ []) ≡ all_popped w xs ++ popped (actors_after_all w xs) e
snoc_popped w [] e = append-nil (popped w e)
snoc_popped w (x ∷ xs) e = ap (λ (items : List Item). popped w x ++ items) (snoc_popped (actors_after w x) xs e) ∙ sym (append_assoc (popped w x) (all_popped (actors_after w x) xs) (popped (actors_after_all (actors_after w x) xs) e))

taken_append : (at : Place) (xs ys : List Item) →
    acknowledgements_taken at (xs ++ ys) ≡ acknowledgements_taken at xs ++ acknowledgements_taken at ys
taken_append at xs ys = ap (acknowledgements at.number) (flat_map-append (read_of at.station) xs ys) ∙ acks_append at.number (flat_map (read_of at.station) xs) (flat_map (read_of at.station) ys)

taken_one : (at : Place) (item : Item) → acknowledgements_taken at (item ∷ []) ≡ heard_of at item
taken_one at item = ap (acknowledgements at.number) (append-nil (read_of at.station item) ∙ by_said at.station item.source item.what)

module _ (settings : Parameters) (done : List Event) (allowed : AreAllowed settings) (octets : TookOctets settings done) (free_over : FreeIsOver settings done) where
  abbrev w : Actors
  w = world settings done

  abbrev own_of : Tenure → ℕ
  own_of = owner_in (new_actors settings) done

  abbrev took : Place → List Rsl
  took at = acknowledgements_taken at (all_popped (new_actors settings) done)

  right : Right settings own_of w []
  right = agreed settings done allowed octets

  took_then : (at : Place) (e : Event) →
      acknowledgements_taken at (all_popped (new_actors settings) (done ++ e ∷ [])) ≡ took at ++ acknowledgements_taken at (popped w e)
  took_then at e = ap (acknowledgements_taken at) (snoc_popped (new_actors settings) done e) ∙ taken_append at (all_popped (new_actors settings) done) (popped w e)

  -- where the controller does nothing
  resting : (e : Event) →
      (actors_after w e).controller ≡ w.controller →
      ((at : Place) → 1 ≤ at.station → at.station ≤ length settings.cells → popped w e ≡ []) →
      FreeIsOver settings (done ++ e ∷ [])
  unfolding FreeIsOver
  resting e same none at least most hearing free =
      let next_is : (world settings (done ++ e ∷ [])).controller ≡ w.controller = ap (λ (u : Actors). u.controller) (snoc_actors (new_actors settings) done e) ∙ same in
      ap (is_within false) (took_then at e ∙ ap (λ (items : List Item). took at ++ acknowledgements_taken at items) (none at least most) ∙ append-nil (took at))
      ∙ free_over at least most (subst (λ (c : Controller). hears c at.station ≡ true) next_is hearing) (subst (λ (c : Controller). channel_state c at ≡ Free) next_is free)

  -- a turn
  turning : (e : Event) (v : Actors) (target : Option Tenure) (t : Turn) (heard : Place → List Rsl) →
      actors_after w e ≡ v →
      ((at : Place) → acknowledgements_taken at (popped w e) ≡ heard at) →
      ((at : Place) → Turned w v at target t (heard at)) →
      ((at : Place) → 1 ≤ at.station → at.station ≤ length settings.cells → Serves own_of w at target t (heard at)) →
      FreeIsOver settings (done ++ e ∷ [])
  unfolding FreeIsOver is_within
  turning e v target t heard same hears_it turned serves at least most hearing free = by (turn_free own_of w v at target t (heard at) (turned at) (serves at least most) (right.agree at least most) hearing_next free_next) where
    next_is : (world settings (done ++ e ∷ [])).controller ≡ t.next
    next_is = ap (λ (u : Actors). u.controller) (snoc_actors (new_actors settings) done e ∙ same) ∙ (turned at).controller

    hearing_next : hears t.next at.station ≡ true
    hearing_next = subst (λ (c : Controller). hears c at.station ≡ true) next_is hearing

    free_next : channel_state t.next at ≡ Free
    free_next = subst (λ (c : Controller). channel_state c at ≡ Free) next_is free

    took_is : acknowledgements_taken at (all_popped (new_actors settings) (done ++ e ∷ [])) ≡ took at ++ heard at
    took_is = took_then at e ∙ ap (λ (ms : List Rsl). took at ++ ms) (hears_it at)

    by : ((channel_state w.controller at ≡ Free) × (heard at ≡ [])) ⊎ IsEnd (heard at) →
        is_within false (acknowledgements_taken at (all_popped (new_actors settings) (done ++ e ∷ []))) ≡ false
    by (inl (was, none)) =
        ap (is_within false) (took_is ∙ ap (λ (ms : List Rsl). took at ++ ms) none ∙ append-nil (took at)) ∙ free_over at least most ((serves at least most).hearing hearing_next) was
    by (inr (channel, end)) = ap (is_within false) (took_is ∙ ap (λ (ms : List Rsl). took at ++ ms) end) ∙ within_append false (took at) (rsl.RfChannelReleaseAck channel ∷ [])

  beside : (e : Event) → is_beside e ≡ true → FreeIsOver settings (done ++ e ∷ [])
  beside e is = resting e (beside_step w e is).controller (λ at least most. (beside_rests at w e is (there_of settings own_of w [] at right least most)).pops)

  ticks : (ms : ℕ) → AllByRecursion IsOctetStep (step_at w (events.Tick ms)) → FreeIsOver settings (done ++ events.Tick ms ∷ [])
  unfolding ServesAt event_after
  ticks ms took_octets = turning (events.Tick ms) (actors_after w (events.Tick ms)) None (tick ms w.controller) (λ at. []) refl (λ at. refl) (λ at. tick-turned w at ms) (serves_event settings own_of done w (events.Tick ms) refl allowed octets took_octets right.agree)

  handles : AllByRecursion IsOctetStep (step_at w Handle) → FreeIsOver settings (done ++ Handle ∷ [])
  unfolding ServesAt event_after
  handles took_octets = by w.inbox refl where
    by : (items : List Item) → w.inbox ≡ items → FreeIsOver settings (done ++ Handle ∷ [])
    by [] is = resting Handle (ap (λ (items : List Item). (unwrap_or (handled items w) w).controller) is) (λ at least most. ap first_of is)
    by (item ∷ items) is =
        turning Handle (with_turn (target_in w item.source item.what) (take item w.controller) (record w { inbox = items })) (target_in w item.source item.what) (take item w.controller) (λ at. heard_of at item) (ap (λ (all : List Item). unwrap_or (handled all w) w) is)
        (λ at. ap (λ (all : List Item). acknowledgements_taken at (first_of all)) is ∙ taken_one at item) (λ at. handle_turned w at item items is) (serves_event settings own_of done w Handle refl allowed octets took_octets right.agree item items is)

  event_over : (e : Event) → AllByRecursion IsOctetStep (step_at w e) → FreeIsOver settings (done ++ e ∷ [])
  event_over = kinds (λ e. AllByRecursion IsOctetStep (step_at w e) → FreeIsOver settings (done ++ e ∷ [])) (λ e is took_octets. beside e is) handles ticks (λ station took_octets. resting (BaseTakes station) (kept_controller w station) (λ at least most. refl))

over_all : (settings : Parameters) (done rest : List Event) →
    AreAllowed settings →
    TookOctets settings done →
    AllByRecursion IsOctetStep (all_steps (world settings done) rest) →
    FreeIsOver settings done →
    FreeIsOver settings (done ++ rest)
over_all settings done [] allowed octets later free_over = subst (FreeIsOver settings) (sym (append-nil done)) free_over
over_all settings done (event ∷ rest) allowed octets later free_over =
    let w : Actors = world settings done in
    let own : AllByRecursion IsOctetStep (step_at w event) = all_left IsOctetStep (step_at w event) (all_steps (actors_after w event) rest) later in
    subst (FreeIsOver settings) (append_assoc done (event ∷ []) rest)
    (over_all settings (done ++ event ∷ []) rest allowed (snoc_steps IsOctetStep (new_actors settings) done event octets own)
    (subst (λ (u : Actors). AllByRecursion IsOctetStep (all_steps u rest)) (sym (snoc_actors (new_actors settings) done event)) (all_right IsOctetStep (step_at w event) (all_steps (actors_after w event) rest) later))
    (event_over settings done allowed octets free_over event own))

over_new : (settings : Parameters) → FreeIsOver settings []
unfolding FreeIsOver is_within
over_new settings at least most hearing free = refl

-- ---- so nothing is on its way up from it

pub free_coming : (settings : Parameters) (events : List Event) →
    AreAllowed settings →
    TookOctets settings events →
    (at : Place) →
    1 ≤ at.station →
    at.station ≤ length settings.cells →
    hears (world settings events).controller at.station ≡ true →
    channel_state (world settings events).controller at ≡ Free →
    coming_up (world settings events) at ≡ []
unfolding FreeIsOver
free_coming settings events allowed octets at least most hearing free =
    let w : Actors = world settings events in
    let took : List Rsl = flat_map (read_of at.station) (all_popped (new_actors settings) events) in
    let station = zero_less at.station least in
    let honest = AreHonest-new settings events at.station station at.number in
    let all = tenures_behind at.number took (messages_up w at.station)
    (subst (λ (ms : List Rsl). Tenures at.number false ms honest.0)
    (ap (λ (ms : List Rsl). ms ++ (base_of w at.station).messages) (given_read settings events at.station station) ∙ append_assoc took (flat_map (read_of at.station) w.inbox) (base_of w at.station).messages) honest.1) in
    let over_now : is_within false (acknowledgements at.number took) ≡ false = over_all settings [] events allowed tt octets (over_new settings) at least most hearing free in
    coming_read w at ∙ nothing_outside at.number (messages_up w at.station) (subst (λ (b : Bool). Tenures at.number b (messages_up w at.station) honest.0) over_now all) (silent_of settings events allowed octets at least most hearing free)
  where
    zero_less : (k : ℕ) → 1 ≤ k → k ≢ SWITCH_LINK
    zero_less k least is = absurd (omega (arith, is, least))

pub free_are_silent_new : (settings : Parameters) (events : List Event) → FreeAreSilent settings events
free_are_silent_new settings events at allowed octets least most hearing free = record {
  acknowledged = silent_of settings events allowed octets at least most hearing free;
  brings = free_coming settings events allowed octets at least most hearing free;
}
