-- SPDX-License-Identifier: MIT OR Apache-2.0
-- The world after the controller handles an item that was taken from the inbox.
use Rattle.controller_model.specs.Life.{take}
use Rattle.ruled_relay.specs.declared.item.Item.{Item}
use Rattle.world_model.specs.Relay.{target_in, with_turn}
use Rattle.world_model.specs.World.{Actors}

abbrev pub after_item : Item → Actors → Actors
after_item item w = with_turn (target_in w item.source item.what) (take item w.controller) w
