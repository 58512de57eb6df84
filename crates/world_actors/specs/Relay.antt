-- SPDX-License-Identifier: MIT OR Apache-2.0
-- The controller with its queues after each call of `Relay`.
use Rattle.std.specs.Prelude.{ℕ, [], ◌∷◌, ◌++◌, Option, None}
use Rattle.controller_model.specs.Controller.{Turn}
use Rattle.controller_model.specs.Life.{take, tick}
use Rattle.ruled_relay.specs.declared.item.Item.{Item}
use Rattle.ruled_relay.specs.declared.item.What.TheVariants as whats
use Rattle.world_model.specs.declared.seat.Tenure.{Tenure}
use Rattle.world_actors.specs.Links.{all_joined_in, broken_in}
use Rattle.world_actors.specs.RelayState.{RelayState}

-- an item is appended to the inbox
abbrev pub with_item_in : Item → RelayState → RelayState
with_item_in item r = record r { inbox = r.inbox ++ item ∷ [] }

-- the controller is as after a step, and the step's outputs join the outboxes
abbrev pub with_turn_in : Option Tenure → Turn → RelayState → RelayState
with_turn_in target t r =
    record r { controller = t.next; links = all_joined_in target r.links t.outs }

-- the controller handles an item
abbrev pub handling : Option Tenure → Item → RelayState → RelayState
handling target item r = with_turn_in target (take item r.controller) r

-- time passes for the controller
abbrev pub ticking : ℕ → RelayState → RelayState
ticking ms r = with_turn_in None (tick ms r.controller) r

-- the link of a source breaks, and the break is appended to the inbox
abbrev pub breaking : ℕ → RelayState → RelayState
breaking source r =
    with_item_in (record { source = source; what = whats.Down })
    (record r { links = broken_in source r.links })
