-- SPDX-License-Identifier: MIT OR Apache-2.0
-- The octets of a world's links: the controller took those that arrived, and the other ends took a
-- beginning of those that it put.
use Rattle.std.proofs.Common.{◌≡◌, ℕ, ◌==◌, Bool, true, false, cond, if◌then◌else◌, List, [], ◌∷◌, ◌++◌, filter, map, refl, sym, ap, ◌∙◌, inl, append-nil, append_assoc}
use Rattle.std.proofs.lemmas.Grind.{flat_map-append}
use Rattle.std.proofs.lemmas.List.{map-append}
use Rattle.std.proofs.lemmas.List.Elements.{filter-append}
use Rattle.std.specs.List.{AllByRecursion, flat_map}
use Rattle.conn_messages.specs.declared.out.Out.{Out}
use Rattle.controller_model.specs.declared.step.Step.{Step}
use Rattle.controller_model.specs.declared.step.Step.TheVariants as steps
use Rattle.controller_model.specs.Controller.{Turn, new_controller}
use Rattle.controller_model.specs.Life.{life}
use Rattle.controller_worker.specs.Steps.{frames_to, items_of, over}
use Rattle.ipa_framing.specs.declared.frame.Frame.{Frame}
use Rattle.ipa_framing.specs.Frame.{IsFrame, frame_text}
use Rattle.link_workers.specs.Reading.{frames_text, given}
use Rattle.octets.specs.Lists.{IsPrefix}
use Rattle.relay_order.specs.Explains.{frame_of, frames_taken}
use Rattle.ruled_relay.specs.declared.item.Item.{Item}
use Rattle.ruled_relay.specs.declared.item.What.TheVariants as whats
use Rattle.settings.specs.Parameters.{Parameters}
use Rattle.station_io.specs.Octets.{came_in, ended_behind, frames_in, octets_put, order_of}
use Rattle.station_io.proofs.Octets.{all_in, merged_again}
use Rattle.world_model.specs.declared.event.Event.{Event}
use Rattle.world_model.specs.declared.event.Event.TheVariants.{Handle, Tick}
use Rattle.world_model.specs.declared.line.OutboxEntry.{OutboxEntry}
use Rattle.world_model.specs.Life.{actors_after}
use Rattle.world_model.specs.Queues.{all_popped, all_put, all_taken, first_of, outputs, popped, to_link}
use Rattle.world_model.specs.Steps.{all_outputs, all_steps, first_taken, step_at}
use Rattle.world_model.specs.World.{Actors, is_up, new_actors}
use Rattle.world_model.proofs.Living.{RunsByTable-new}
use Rattle.world_model.proofs.Outboxes.{KeepsQueues-new, down_after}

-- ---- frames in octets

pub frames_again : (fs : List Frame) → AllByRecursion IsFrame fs → frames_in (frames_text fs) ≡ fs
frames_again fs each = all_in (frames_text fs) fs [] (record { whole = sym (append-nil (frames_text fs)); each = each }) (inl tt)

frames_of_given : (fs : List Frame) → flat_map frame_of (given fs) ≡ fs
frames_of_given [] = refl
frames_of_given (f ∷ fs) = ap (λ (gs : List Frame). f ∷ gs) (frames_of_given fs)

pub frames_of_ended : (fs : List Frame) → flat_map frame_of (ended_behind fs) ≡ fs
frames_of_ended fs = flat_map-append frame_of (given fs) (whats.Down ∷ []) ∙ append-nil (flat_map frame_of (given fs)) ∙ frames_of_given fs

-- ---- beginnings

prefix_map : {X Y : Type 0} (f : X → Y) (xs ys : List X) → IsPrefix xs ys → IsPrefix (map f xs) (map f ys)
prefix_map f xs ys (rest, is) = (map f rest, sym (map-append f xs rest) ∙ ap (map f) is)

prefix_text : (xs ys : List Frame) → IsPrefix xs ys → IsPrefix (frames_text xs) (frames_text ys)
prefix_text xs ys (rest, is) = (frames_text rest, sym (flat_map-append frame_text xs rest) ∙ ap frames_text is)

prefix_of_prefix : {X : Type 0} (xs ys zs : List X) → IsPrefix xs ys → IsPrefix ys zs → IsPrefix xs zs
prefix_of_prefix {X} xs ys zs (more, is) (rest, all) = (more ++ rest, sym (append_assoc xs more rest) ∙ ap (λ (front : List X). front ++ rest) is ∙ all)

-- ---- what the controller took

items_append : (xs ys : List Step) → items_of (xs ++ ys) ≡ items_of xs ++ items_of ys
items_append [] ys = refl
items_append (steps.Take item ∷ xs) ys = ap (λ (items : List Item). item ∷ items) (items_append xs ys)
items_append (steps.Tick ms ∷ xs) ys = items_append xs ys

items_first : (items : List Item) → items_of (first_taken items) ≡ first_of items
items_first [] = refl
items_first (item ∷ items) = refl

items_at : (w : Actors) (event : Event) → items_of (step_at w event) ≡ popped w event
items_at w Handle = items_first w.inbox
items_at w (Tick ms) = refl
items_at w _ = refl

pub items_all : (w : Actors) (events : List Event) → items_of (all_steps w events) ≡ all_popped w events
items_all w [] = refl
items_all w (event ∷ events) =
    items_append (step_at w event) (all_steps (actors_after w event) events)
    ∙ ap (λ (items : List Item). items ++ items_of (all_steps (actors_after w event) events)) (items_at w event)
    ∙ ap (λ (items : List Item). popped w event ++ items) (items_all (actors_after w event) events)

-- ---- what it put

abbrev entry_frame : OutboxEntry → Frame
entry_frame entry = entry.out.frame

frames_append : (link : ℕ) (xs ys : List Out) → frames_to link (xs ++ ys) ≡ frames_to link xs ++ frames_to link ys
frames_append link xs ys =
    ap (map (λ (out : Out). out.frame)) (filter-append (λ (out : Out). out.to == link) xs ys)
    ∙ map-append (λ (out : Out). out.frame) (filter (λ (out : Out). out.to == link) xs) (filter (λ (out : Out). out.to == link) ys)

frames_of_entries : (link : ℕ) (entries : List OutboxEntry) →
    frames_to link (map (λ entry. entry.out) entries) ≡ map entry_frame (to_link link entries)
frames_of_entries link [] = refl
frames_of_entries link (entry ∷ entries) = by (entry.out.to == link) (frames_of_entries link entries) where
  by : (b : Bool) → frames_to link (map (λ entry. entry.out) entries) ≡ map entry_frame (to_link link entries)
      → map (λ (out : Out). out.frame) (cond b (entry.out ∷ filter (λ (out : Out). out.to == link) (map (λ entry. entry.out) entries)) (filter (λ (out : Out). out.to == link) (map (λ entry. entry.out) entries)))
      ≡ map entry_frame (cond b (entry ∷ to_link link entries) (to_link link entries))
  by true rest = ap (λ (fs : List Frame). entry.out.frame ∷ fs) rest
  by false rest = rest

-- as in crates/world_model/proofs/Outboxes.antt
down_puts_all : (link : ℕ) (w : Actors) (events : List Event) → is_up w link ≡ false → all_put link w events ≡ []
down_puts_all link w [] down = refl
down_puts_all link w (event ∷ events) down =
    ap (λ (b : Bool). (if b then to_link link (outputs w event) else []) ++ all_put link (actors_after w event) events) down
    ∙ down_puts_all link (actors_after w event) events (down_after link w event down)

-- a link that is down gets nothing, so what was put there is the beginning of all that the
-- controller put for it
put_first : (link : ℕ) (w : Actors) (events : List Event) →
    IsPrefix (map entry_frame (all_put link w events)) (frames_to link (all_outputs w events))
put_first link w [] = ([], refl)
put_first link w (event ∷ events) = by (put_first link (actors_after w event) events) (is_up w link) refl where
  v : Actors
  v = actors_after w event

  now : List Frame
  now = map entry_frame (to_link link (outputs w event))

  whole : frames_to link (all_outputs w (event ∷ events)) ≡ now ++ frames_to link (all_outputs v events)
  whole = frames_append link (map (λ entry. entry.out) (outputs w event)) (all_outputs v events)
      ∙ ap (λ (fs : List Frame). fs ++ frames_to link (all_outputs v events)) (frames_of_entries link (outputs w event))

  by : IsPrefix (map entry_frame (all_put link v events)) (frames_to link (all_outputs v events)) → (b : Bool) → is_up w link ≡ b
      → IsPrefix (map entry_frame (all_put link w (event ∷ events))) (frames_to link (all_outputs w (event ∷ events)))
  by (rest, later) true up = (
    rest,
    ap (λ (b : Bool). map entry_frame ((if b then to_link link (outputs w event) else []) ++ all_put link v events) ++ rest) up
        ∙ ap (λ (fs : List Frame). fs ++ rest) (map-append entry_frame (to_link link (outputs w event)) (all_put link v events))
        ∙ append_assoc now (map entry_frame (all_put link v events)) rest
        ∙ ap (λ (fs : List Frame). now ++ fs) later
        ∙ sym whole,
  )
  by later false down = (
    frames_to link (all_outputs w (event ∷ events)),
    ap (λ (entries : List OutboxEntry). map entry_frame entries ++ frames_to link (all_outputs w (event ∷ events))) (down_puts_all link w (event ∷ events) down),
  )

outputs_are : (settings : Parameters) (events : List Event) →
    all_outputs (new_actors settings) events ≡ (over (new_controller settings) (all_steps (new_actors settings) events)).outs
unfolding life
outputs_are settings events = ap (λ (t : Turn). t.outs) (RunsByTable-new settings events)

-- what the other end of a link took
pub taken_first : (settings : Parameters) (events : List Event) (link : ℕ)
    → IsPrefix (frames_text (frames_taken settings events link)) (octets_put (new_controller settings) (order_of (all_steps (new_actors settings) events)) (came_in (all_steps (new_actors settings) events)) link)
taken_first settings events link =
    let w : Actors = new_actors settings in
    let all : List Step = all_steps w events in
    let first : IsPrefix (all_taken link w events) (all_put link w events) = (KeepsQueues-new settings events).outboxes link in
    let frames : IsPrefix (frames_taken settings events link) (frames_to link (all_outputs w events)) =
    prefix_of_prefix (map entry_frame (all_taken link w events)) (map entry_frame (all_put link w events)) (frames_to link (all_outputs w events)) (prefix_map entry_frame (all_taken link w events) (all_put link w events) first) (put_first link w events) in
    let texts : IsPrefix (frames_text (frames_taken settings events link)) (frames_text (frames_to link (all_outputs w events))) =
    prefix_text (frames_taken settings events link) (frames_to link (all_outputs w events)) frames in
    (texts.0, texts.1 ∙ ap (λ (outs : List Out). frames_text (frames_to link outs)) (outputs_are settings events) ∙ ap (λ (ss : List Step). frames_text (frames_to link (over (new_controller settings) ss).outs)) (sym (merged_again all)))

-- nothing was taken of a link that isn't there
pub taken_none : (settings : Parameters) (events : List Event) (link : ℕ) →
    is_up (new_actors settings) link ≡ false →
    frames_taken settings events link ≡ []
taken_none settings events link down =
    let w : Actors = new_actors settings in
    let first : IsPrefix (all_taken link w events) (all_put link w events) = (KeepsQueues-new settings events).outboxes link in
    ap (map entry_frame) (front_none (all_taken link w events) first.0 (first.1 ∙ down_puts_all link w events down)) where
      front_none : (xs ys : List OutboxEntry) → xs ++ ys ≡ [] → xs ≡ []
      front_none [] ys none = refl
      front_none (x ∷ xs) ys none = absurd cc
