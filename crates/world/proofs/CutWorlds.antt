-- SPDX-License-Identifier: MIT OR Apache-2.0
-- In a world: an event, and the break of a link that is up before and after the event, in either
-- order.
use Rattle.std.proofs.Common.{◌≡◌, ℕ, ◌+◌, ◌-◌, ◌^◌, ◌&&◌, min, Bool, true, false, if◌then◌else◌, Option, Some, None, refl, sym, ap, ◌∙◌}
use Rattle.std.specs.Prelude.{is_some, option_map, unwrap_or}
use Rattle.world_model.proofs.Leads.{and_left, and_right}
use Rattle.world_model.specs.declared.event.Event.{Event}
use Rattle.world_model.specs.declared.event.Event.TheVariants.{BaseDown}
use Rattle.world_model.specs.Life.{event_after}
use Rattle.world_model.specs.Relay.{broken}
use Rattle.world_model.specs.World.{Actors, is_up}
use Rattle.world.specs.declared.world.Scene.{Scene}
use Rattle.world.specs.declared.world.Scene.TheVariants.{Fixed, Controlled}
use Rattle.world.specs.Beside.{MakesTheSame, is_beside, is_up_in, is_up_and_beside}
use Rattle.world.specs.World.{after}
use Rattle.world.specs.WorldState.{WorldState}
use Rattle.world.proofs.Cut.{broken-cut, cut}
use Rattle.world.proofs.CutEvents.{event_beside}

abbrev world_of : Actors → ℕ → Bool → WorldState
world_of w untaken failed = record { scene = Controlled w; not_taken = untaken; failed = failed }

-- what the actors' answer to an event makes of the world
abbrev answered : Option Scene → WorldState → WorldState
answered next world = record world {
  scene = unwrap_or next world.scene;
  not_taken = if is_some next then world.not_taken else min (world.not_taken + 1) (2 ^ 64 - 1);
}

broke : (w : Actors) (untaken : ℕ) (failed : Bool) (source : ℕ) → is_up w source ≡ true
    → after (world_of w untaken failed) (BaseDown source) ≡ world_of (cut source w) untaken failed
unfolding event_after
broke w untaken failed source up =
    ap (λ (b : Bool). answered (option_map Controlled (if b then Some (broken source w) else None)) (world_of w untaken failed)) up
    ∙ ap (λ (v : Actors). world_of v untaken failed) (broken-cut source w)

-- by what the actors answer
by_answer : (w : Actors) (untaken : ℕ) (failed : Bool) (event : Event) (source : ℕ) (next : Option Actors) → event_after w event ≡ next
    → is_up w source ≡ true → is_up (unwrap_or next w) source ≡ true → event_after (cut source w) event ≡ option_map (cut source) next
    → MakesTheSame (world_of w untaken failed) event source
by_answer w untaken failed event source next is up still beside =
    ap (λ (world : WorldState). after world event) (broke w untaken failed source up)
    ∙ ap (λ (o : Option Actors). answered (option_map Controlled o) (world_of (cut source w) untaken failed)) beside
    ∙ by next still
    ∙ sym (ap (λ (o : Option Actors). after (answered (option_map Controlled o) (world_of w untaken failed)) (BaseDown source)) is) where
      by : (o : Option Actors) → is_up (unwrap_or o w) source ≡ true
          → answered (option_map Controlled (option_map (cut source) o)) (world_of (cut source w) untaken failed) ≡ after (answered (option_map Controlled o) (world_of w untaken failed)) (BaseDown source)
      by None there = sym (broke w (min (untaken + 1) (2 ^ 64 - 1)) failed source up)
      by (Some v) there = sym (broke v untaken failed source there)

still_up : (o : Option Actors) (w : Actors) (source : ℕ) → is_up_in (unwrap_or (option_map Controlled o) (Controlled w)) source ≡ true
    → is_up (unwrap_or o w) source ≡ true
still_up None w source up = up
still_up (Some v) w source up = up

by_scene : (scene : Scene) (untaken : ℕ) (failed : Bool) (event : Event) (source : ℕ) → is_up_and_beside scene event source ≡ true
    → is_up_in (after (record { scene = scene; not_taken = untaken; failed = failed }) event).scene source ≡ true
    → MakesTheSame (record { scene = scene; not_taken = untaken; failed = failed }) event source
by_scene (Fixed world) untaken failed event source not_failed still = absurd cc
by_scene (Controlled w) untaken failed event source not_failed still =
    by_answer w untaken failed event source (event_after w event) refl (and_left (is_up w source) (is_beside w event source) not_failed)
    (still_up (event_after w event) w source still)
    (event_beside source w event (and_right (is_up w source) (is_beside w event source) not_failed))

pub beside_same : (world : WorldState) (event : Event) (source : ℕ) → is_up_and_beside world.scene event source ≡ true
    → is_up_in (after world event).scene source ≡ true → MakesTheSame world event source
beside_same world event source not_failed still = by_scene world.scene world.not_taken world.failed event source not_failed still
