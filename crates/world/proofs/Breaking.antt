-- SPDX-License-Identifier: MIT OR Apache-2.0
-- Events with the break of a link among them.
use Rattle.std.proofs.Common.{◌≡◌, ℕ, min, List, ◌∷◌, Result, Ok, Err, OnOk, length, take, drop, sym, ap, ◌∙◌}
use Rattle.std.proofs.lemmas.List.{take_min, drop_min}
use Rattle.world_model.specs.declared.event.Event.{Event}
use Rattle.world_model.specs.declared.event.Event.TheVariants.{BaseDown}
use Rattle.world.specs.World.{after, after_all, broken}
use Rattle.world.specs.WorldState.{WorldState}
use Rattle.world.proofs.Order.{after_all-append}

-- the events in front of the place, the break, and the events from there on
pub after_all-broken : (world : WorldState) (events before others : List Event) (place source : ℕ)
    → before ≡ take (min place (length events)) events → others ≡ drop (min place (length events)) events
    → after_all (after (after_all world before) (BaseDown source)) others ≡ after_all world (broken events place source)
after_all-broken world events before others place source front back =
    ap (λ (xs : List Event). after_all (after (after_all world xs) (BaseDown source)) others) (front ∙ take_min place events)
    ∙ ap (λ (xs : List Event). after_all (after (after_all world (take place events)) (BaseDown source)) xs) (back ∙ drop_min place events)
    ∙ sym (after_all-append world (take place events) (BaseDown source ∷ drop place events))

-- the result of the last events is the expected one
pub run_last : {X E : Type 0} {made next : WorldState} (result : Result X E) (new : WorldState) →
    made ≡ next →
    OnOk result (new ≡ made) →
    OnOk result (new ≡ next)
run_last (Ok x) new same is = is ∙ same
run_last (Err e) new same is = tt
