-- SPDX-License-Identifier: MIT OR Apache-2.0
-- The step at which the call worker ran out of memory.
use Rattle.std.specs.Prelude.{◌≡◌, ℕ, ◌≤◌, min, List, [], ◌∷◌}
use Rattle.controller.specs.Wanting.{MayWantMemory}
use Rattle.controller_model.specs.declared.step.Step.{Step}
use Rattle.controller_model.specs.declared.step.Step.TheVariants.{Take, Tick}
use Rattle.controller_model.specs.Controller.{Controller}
use Rattle.controller_worker.specs.declared.limits.TheConstants.{TICK_MS}
use Rattle.controller_worker.specs.Links.{IsGivenUpAt}
use Rattle.ruled_relay.specs.declared.item.Item.{Item}
use Rattle.ruled_relay.specs.declared.item.What.TheVariants as whats
use Rattle.ruled_relay.specs.Outbox.{PutterView}

-- a tick of `ms` milliseconds is due: of all the time that has gathered, as far as it fits into a
-- `u32`
abbrev pub IsTickOf : ℕ → ℕ → Type 0
IsTickOf gathered ms = (TICK_MS ≤ gathered) × (ms ≡ min gathered 4294967295)

-- If the list has an item, the step takes this item, the last one. If the list is empty, the step
-- is the `Down` of a link whose outbox was given up, or a tick of the gathered time.
abbrev pub IsStepOf : List Item → ℕ → List PutterView → Step → Type 0
IsStepOf (item ∷ items) gathered putters step = step ≡ Take item
IsStepOf [] gathered putters (Take item) =
    (item.what ≡ whats.Down) × IsGivenUpAt putters item.source
IsStepOf [] gathered putters (Tick ms) = IsTickOf gathered ms

-- the step at which the controller stopped; the step may need memory
pub record StopsAt (last : List Item) (gathered : ℕ) (putters : List PutterView)
    (c : Controller) : Type 0 where
  pub step : Step
  pub wants : MayWantMemory step c
  pub which : IsStepOf last gathered putters step
