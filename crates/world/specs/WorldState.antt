-- SPDX-License-Identifier: MIT OR Apache-2.0
-- A world: its actors, the count of events that no actor could take, and whether an allocation
-- failed.
use Rattle.std.specs.Prelude.{ℕ, Bool}
use Rattle.world.specs.declared.world.Scene.{Scene}

pub record WorldState : Type 0 where
  pub scene : Scene
  pub not_taken : ℕ
  pub failed : Bool
