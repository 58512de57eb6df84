-- SPDX-License-Identifier: MIT OR Apache-2.0
-- The mobiles of a world, in plain lists.
use Rattle.std.specs.Prelude.{ℕ, List}
use Rattle.world_model.specs.World.{Mobile}

-- the modulus by which mobiles number the messages of their flows, and the mobiles in the order in
-- which they connected
pub record MobilesState : Type 0 where
  pub modulus : ℕ
  pub mobiles : List Mobile
