-- SPDX-License-Identifier: MIT OR Apache-2.0
-- The fixed world over any list of events.
use Rattle.std.proofs.Common.{◌≡◌, ℕ, Bool, true, false, Option, Some, None, List, [], ◌∷◌, ◌++◌, refl, sym, ap, ◌∙◌, append_assoc, unwrap_or, option_to_list, option_map, cond, nat_eq, map}
use Rattle.std.proofs.lemmas.List.{map-append}
use Rattle.dtap_codec.specs.declared.sapi.Sapi.TheVariants.{Zero}
use Rattle.world_model.specs.declared.event.Event.{Event}
use Rattle.world_model.specs.declared.event.Event.TheVariants.{Upper, AirUp, AirAck, SwitchTakes}
use Rattle.world.specs.declared.fixed.TheConstants.{FIXED_MOBILE}
use Rattle.world.specs.declared.world.Scene.{Scene}
use Rattle.world.specs.declared.world.Scene.TheVariants.{Fixed}
use Rattle.world.specs.FixedState.{FixedState}
use Rattle.world.specs.Fixed.{fixed_after, after_upper, after_air_up, after_air_ack, frame_up}
use Rattle.world.specs.Queues.{Queue, Queued, outbox, inbox, message, in_switch_outbox, fixed_messages_put, fixed_messages_taken, messages_put, messages_taken, all_messages_put, all_messages_taken}
use Rattle.world.specs.World.{actors_after}
use Rattle.world.proofs.FixedKept.{FixedStep, FixedStep-none, upper_step, air_up_step, air_ack_step, switch_takes_step}

-- an event of another mobile does nothing
where_fixed_step : (b : Bool) (world : FixedState) (next : Option FixedState) →
    FixedStep world (unwrap_or next world) [] [] →
    FixedStep world (unwrap_or (cond b next None) world) [] []
where_fixed_step true world next step = step
where_fixed_step false world next step = FixedStep-none world

where_fixed_put : (b : Bool) (world : FixedState) →
    FixedStep world (unwrap_or (cond b (after_air_up world) None) world) (cond b (option_to_list (frame_up world)) []) []
where_fixed_put true world = air_up_step world
where_fixed_put false world = FixedStep-none world

abbrev pub fixed_next : FixedState → Event → FixedState
fixed_next world event = unwrap_or (fixed_after world event) world

-- what each event does
pub fixed_step : (world : FixedState) (event : Event) →
    FixedStep world (fixed_next world event) (fixed_messages_put world event) (fixed_messages_taken world event)
fixed_step world (Upper mobile sapi text) = where_fixed_step (nat_eq mobile FIXED_MOBILE) world (after_upper world sapi text) (upper_step world sapi text)
fixed_step world (AirUp mobile Zero) = where_fixed_put (nat_eq mobile FIXED_MOBILE) world
fixed_step world (AirAck mobile Zero) = where_fixed_step (nat_eq mobile FIXED_MOBILE) world (after_air_ack world) (air_ack_step world)
fixed_step world SwitchTakes = switch_takes_step world
fixed_step world _ = FixedStep-none world

-- the world after these events, and what they put into the switch's outbox and the switch took
-- there
abbrev pub fixed_all : FixedState → List Event → FixedState
fixed_all world [] = world
fixed_all world (event ∷ events) = fixed_all (fixed_next world event) events

abbrev pub all_fixed_messages_put : FixedState → List Event → List (List ℕ)
all_fixed_messages_put world [] = []
all_fixed_messages_put world (event ∷ events) = fixed_messages_put world event ++ all_fixed_messages_put (fixed_next world event) events

abbrev pub all_fixed_messages_taken : FixedState → List Event → List (List ℕ)
all_fixed_messages_taken world [] = []
all_fixed_messages_taken world (event ∷ events) = fixed_messages_taken world event ++ all_fixed_messages_taken (fixed_next world event) events

-- two steps in a row
FixedStep-then : {old mid new : FixedState} {put taken puts takens : List (List ℕ)} →
    FixedStep old mid put taken →
    FixedStep mid new puts takens →
    FixedStep old new (put ++ puts) (taken ++ takens)
FixedStep-then {old} {mid} {new} {put} {taken} {puts} {takens} one two = record {
  kept = λ kept. two.kept (one.kept kept);
  first_out =
      sym (append_assoc old.outbox put puts) ∙ ap (λ (xs : List (List ℕ)). xs ++ puts) one.first_out ∙ append_assoc taken mid.outbox puts
      ∙ ap (λ (xs : List (List ℕ)). taken ++ xs) two.first_out ∙ sym (append_assoc taken takens new.outbox);
  switch = two.switch ∙ ap (λ (xs : List (List ℕ)). xs ++ takens) one.switch ∙ append_assoc old.switch.taken taken takens;
}

-- what all the events do
pub fixed_steps : (world : FixedState) (events : List Event) →
    FixedStep world (fixed_all world events) (all_fixed_messages_put world events) (all_fixed_messages_taken world events)
fixed_steps world [] = FixedStep-none world
fixed_steps world (event ∷ events) = FixedStep-then (fixed_step world event) (fixed_steps (fixed_next world event) events)

-- the same of the scene that has this world
actors_after_fixed_by : (world : FixedState) (next : Option FixedState) →
    unwrap_or (option_map Fixed next) (Fixed world) ≡ Fixed (unwrap_or next world)
actors_after_fixed_by world None = refl
actors_after_fixed_by world (Some next) = refl

pub actors_after-fixed : (world : FixedState) (event : Event) → actors_after (Fixed world) event ≡ Fixed (fixed_next world event)
actors_after-fixed world event = actors_after_fixed_by world (fixed_after world event)

pub in_switch_outbox-append : (queue : Queue) (xs ys : List (List ℕ)) →
    in_switch_outbox queue (xs ++ ys) ≡ in_switch_outbox queue xs ++ in_switch_outbox queue ys
in_switch_outbox-append (outbox link) xs ys = by_link (nat_eq link 0)
  where
    by_link : (b : Bool) → cond b (map message (xs ++ ys)) [] ≡ cond b (map message xs) [] ++ cond b (map message ys) []
    by_link true = map-append message xs ys
    by_link false = refl
in_switch_outbox-append (inbox source) xs ys = refl

in_switch_outbox-nil : (queue : Queue) → in_switch_outbox queue [] ≡ []
in_switch_outbox-nil (outbox link) = by_link (nat_eq link 0)
  where
    by_link : (b : Bool) → cond b (map message []) [] ≡ []
    by_link true = refl
    by_link false = refl
in_switch_outbox-nil (inbox source) = refl

pub all_messages_put-fixed : (world : FixedState) (events : List Event) (queue : Queue) →
    all_messages_put (Fixed world) events queue ≡ in_switch_outbox queue (all_fixed_messages_put world events)
all_messages_put-fixed world [] queue = sym (in_switch_outbox-nil queue)
all_messages_put-fixed world (event ∷ events) queue =
    ap (λ (scene : Scene). messages_put (Fixed world) event queue ++ all_messages_put scene events queue) (actors_after-fixed world event)
    ∙ ap (λ (more : List Queued). messages_put (Fixed world) event queue ++ more) (all_messages_put-fixed (fixed_next world event) events queue)
    ∙ sym (in_switch_outbox-append queue (fixed_messages_put world event) (all_fixed_messages_put (fixed_next world event) events))

pub all_messages_taken-fixed : (world : FixedState) (events : List Event) (queue : Queue) →
    all_messages_taken (Fixed world) events queue ≡ in_switch_outbox queue (all_fixed_messages_taken world events)
all_messages_taken-fixed world [] queue = sym (in_switch_outbox-nil queue)
all_messages_taken-fixed world (event ∷ events) queue =
    ap (λ (scene : Scene). messages_taken (Fixed world) event queue ++ all_messages_taken scene events queue) (actors_after-fixed world event)
    ∙ ap (λ (more : List Queued). messages_taken (Fixed world) event queue ++ more) (all_messages_taken-fixed (fixed_next world event) events queue)
    ∙ sym (in_switch_outbox-append queue (fixed_messages_taken world event) (all_fixed_messages_taken (fixed_next world event) events))
