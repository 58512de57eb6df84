-- SPDX-License-Identifier: MIT OR Apache-2.0
-- The queues of a world with a controller, over any list of events.
use Rattle.std.proofs.Common.{◌≡◌, ℕ, ◌==◌, true, List, [], ◌∷◌, ◌++◌, Option, Some, None, refl, sym, ap, ◌∙◌, subst, unwrap_or, option_map, map}
use Rattle.std.proofs.lemmas.List.{map-append}
use Rattle.std.proofs.lemmas.List.Elements.{filter-append}
use Rattle.octets.specs.Lists.{IsPrefix}
use Rattle.ruled_relay.specs.declared.item.Item.{Item}
use Rattle.settings.specs.Parameters.{Parameters}
use Rattle.world_model.specs.declared.event.Event.{Event}
use Rattle.world_model.specs.Life.{event_after, actors_after as next_actors, actors_after_all}
use Rattle.world_model.specs.Queues.{put, taken, pushed, popped, of_source, all_put, all_taken, all_pushed, all_popped}
use Rattle.world_model.specs.World.{Actors, new_actors, outbox_of}
use Rattle.world_model.proofs.Outboxes.{KeepsQueues-new}
use Rattle.world.specs.declared.world.Scene.{Scene}
use Rattle.world.specs.declared.world.Scene.TheVariants.{Controlled}
use Rattle.world.specs.Headline.{QueuesKeepOrder}
use Rattle.world.specs.Queues.{Queue, Queued, outbox, inbox, entry, item, controlled_put, controlled_taken, controlled_left, all_messages_put, all_messages_taken, is_kept, IsTakenBySwitch}
use Rattle.world.specs.World.{controlled_world, actors_after, after, after_all}
use Rattle.world.specs.WorldState.{WorldState}
use Rattle.world.proofs.SwitchHistory.{switch_history}

-- ---- the scene is that of the actors

actors_after_controlled_by : (w : Actors) (next : Option Actors) →
    unwrap_or (option_map Controlled next) (Controlled w) ≡ Controlled (unwrap_or next w)
actors_after_controlled_by w None = refl
actors_after_controlled_by w (Some next) = refl

actors_after-controlled : (w : Actors) (event : Event) → actors_after (Controlled w) event ≡ Controlled (next_actors w event)
actors_after-controlled w event = actors_after_controlled_by w (event_after w event)

pub scene-after_all : (world : WorldState) (w : Actors) (events : List Event) →
    world.scene ≡ Controlled w →
    (after_all world events).scene ≡ Controlled (actors_after_all w events)
scene-after_all world w [] is = is
scene-after_all world w (event ∷ events) is =
    scene-after_all (after world event) (next_actors w event) events (ap (λ (scene : Scene). actors_after scene event) is ∙ actors_after-controlled w event)

-- ---- and its histories are theirs

abbrev controlled_all_put : Actors → List Event → Queue → List Queued
controlled_all_put w events (outbox link) = map entry (all_put link w events)
controlled_all_put w events (inbox source) = map item (of_source source (all_pushed w events))

abbrev controlled_all_taken : Actors → List Event → Queue → List Queued
controlled_all_taken w events (outbox link) = map entry (all_taken link w events)
controlled_all_taken w events (inbox source) = map item (of_source source (all_popped w events))

items_append : (source : ℕ) (xs ys : List Item) →
    map item (of_source source xs) ++ map item (of_source source ys) ≡ map item (of_source source (xs ++ ys))
items_append source xs ys =
    sym (map-append item (of_source source xs) (of_source source ys)) ∙ ap (map item) (sym (filter-append (λ item. item.source == source) xs ys))

put_more : (w : Actors) (event : Event) (events : List Event) (queue : Queue)
    → controlled_put w event queue ++ controlled_all_put (next_actors w event) events queue ≡ controlled_all_put w (event ∷ events) queue
put_more w event events (outbox link) = sym (map-append entry (put link w event) (all_put link (next_actors w event) events))
put_more w event events (inbox source) = items_append source (pushed w event) (all_pushed (next_actors w event) events)

taken_more : (w : Actors) (event : Event) (events : List Event) (queue : Queue)
    → controlled_taken w event queue ++ controlled_all_taken (next_actors w event) events queue ≡ controlled_all_taken w (event ∷ events) queue
taken_more w event events (outbox link) = sym (map-append entry (taken link w event) (all_taken link (next_actors w event) events))
taken_more w event events (inbox source) = items_append source (popped w event) (all_popped (next_actors w event) events)

none_put : (w : Actors) (queue : Queue) → [] ≡ controlled_all_put w [] queue
none_put w (outbox link) = refl
none_put w (inbox source) = refl

none_taken : (w : Actors) (queue : Queue) → [] ≡ controlled_all_taken w [] queue
none_taken w (outbox link) = refl
none_taken w (inbox source) = refl

all_messages_put-controlled : (w : Actors) (events : List Event) (queue : Queue) →
    all_messages_put (Controlled w) events queue ≡ controlled_all_put w events queue
all_messages_put-controlled w [] queue = none_put w queue
all_messages_put-controlled w (event ∷ events) queue =
    ap (λ (scene : Scene). controlled_put w event queue ++ all_messages_put scene events queue) (actors_after-controlled w event)
    ∙ ap (λ (more : List Queued). controlled_put w event queue ++ more) (all_messages_put-controlled (next_actors w event) events queue)
    ∙ put_more w event events queue

all_messages_taken-controlled : (w : Actors) (events : List Event) (queue : Queue) →
    all_messages_taken (Controlled w) events queue ≡ controlled_all_taken w events queue
all_messages_taken-controlled w [] queue = none_taken w queue
all_messages_taken-controlled w (event ∷ events) queue =
    ap (λ (scene : Scene). controlled_taken w event queue ++ all_messages_taken scene events queue) (actors_after-controlled w event)
    ∙ ap (λ (more : List Queued). controlled_taken w event queue ++ more) (all_messages_taken-controlled (next_actors w event) events queue)
    ∙ taken_more w event events queue

-- ---- each queue gives what was put there, in order

map-prefix : {X : Type 0} (f : X → Queued) (xs ys : List X) → IsPrefix xs ys → IsPrefix (map f xs) (map f ys)
map-prefix f xs ys is = (map f is.0, sym (map-append f xs is.0) ∙ ap (map f) is.1)

first_out_by : (settings : Parameters) (events : List Event) (queue : Queue)
    → IsPrefix (controlled_all_taken (new_actors settings) events queue) (controlled_all_put (new_actors settings) events queue)
first_out_by settings events (outbox link) =
    map-prefix entry (all_taken link (new_actors settings) events) (all_put link (new_actors settings) events) ((KeepsQueues-new settings events).outboxes link)
first_out_by settings events (inbox source) =
    let taken : List Item = of_source source (all_popped (new_actors settings) events) in
    let left : List Item = of_source source (actors_after_all (new_actors settings) events).inbox in
    (map item left, sym (map-append item taken left) ∙ ap (map item) (sym ((KeepsQueues-new settings events).sources source)))

left_by : (settings : Parameters) (events : List Event) (queue : Queue) → is_kept (Controlled (actors_after_all (new_actors settings) events)) queue ≡ true
    → controlled_all_put (new_actors settings) events queue ≡ controlled_all_taken (new_actors settings) events queue ++ controlled_left (actors_after_all (new_actors settings) events) queue
left_by settings events (outbox link) up =
    let w : Actors = actors_after_all (new_actors settings) events in
    ap (map entry) ((KeepsQueues-new settings events).left link up) ∙ map-append entry (all_taken link (new_actors settings) events) (outbox_of w link)
left_by settings events (inbox source) kept =
    let w : Actors = actors_after_all (new_actors settings) events in
    ap (map item) ((KeepsQueues-new settings events).sources source) ∙ map-append item (of_source source (all_popped (new_actors settings) events)) (of_source source w.inbox)

pub QueuesKeepOrder-controlled : (settings : Parameters) (events : List Event) →
    QueuesKeepOrder (Controlled (new_actors settings)) events (Controlled (actors_after_all (new_actors settings) events))
QueuesKeepOrder-controlled settings events =
    let begin : Actors = new_actors settings in
    record {
      first_out = λ queue.
          subst (λ (puts : List Queued). IsPrefix (all_messages_taken (Controlled begin) events queue) puts) (sym (all_messages_put-controlled begin events queue))
          (subst (λ (takes : List Queued). IsPrefix takes (controlled_all_put begin events queue)) (sym (all_messages_taken-controlled begin events queue)) (first_out_by settings events queue));
      left = λ queue kept.
          all_messages_put-controlled begin events queue ∙ left_by settings events queue kept
          ∙ ap (λ (takes : List Queued). takes ++ controlled_left (actors_after_all begin events) queue) (sym (all_messages_taken-controlled begin events queue));
      switch = subst (λ (takes : List Queued). IsTakenBySwitch (Controlled (actors_after_all begin events)) takes) (sym (all_messages_taken-controlled begin events (outbox 0))) (switch_history settings events);
    }

-- whatever events made a world from one with a controller
pub QueuesKeepOrder-reached : (settings : Parameters) (events : List Event) →
    QueuesKeepOrder (controlled_world settings).scene events (after_all (controlled_world settings) events).scene
QueuesKeepOrder-reached settings events =
    subst (λ (scene : Scene). QueuesKeepOrder (Controlled (new_actors settings)) events scene)
    (sym (scene-after_all (controlled_world settings) (new_actors settings) events refl)) (QueuesKeepOrder-controlled settings events)
