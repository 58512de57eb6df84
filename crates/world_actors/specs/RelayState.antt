-- SPDX-License-Identifier: MIT OR Apache-2.0
-- The controller of a world with its queues, in plain lists.
use Rattle.std.specs.Prelude.{List}
use Rattle.controller_model.specs.Controller.{Controller}
use Rattle.ruled_relay.specs.declared.item.Item.{Item}
use Rattle.world_model.specs.World.{Link}

-- the items of all sources, in the order in which they arrived; the controller; and the
-- controller's links, the first of which is the switch's
pub record RelayState : Type 0 where
  pub inbox : List Item
  pub controller : Controller
  pub links : List Link
