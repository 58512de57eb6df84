-- SPDX-License-Identifier: MIT OR Apache-2.0
-- The events that are the controller's turn. At any other event, the controller's connections are
-- unchanged.
use Rattle.std.specs.Prelude.{Bool, true, false, if◌then◌else◌, List, []}
use Rattle.connection_notes.specs.declared.sight.Sight.{Sight}
use Rattle.connection_notes.specs.Sights.{sights_of}
use Rattle.controller_model.specs.Controller.{Controller}
use Rattle.world_model.specs.declared.event.Event.{Event}
use Rattle.world_model.specs.declared.event.Event.TheVariants.{Handle, Tick}

abbrev pub is_turn : Event → Bool
is_turn Handle = true
is_turn (Tick ms) = true
is_turn _ = false

abbrev pub turn_sights : Event → Controller → List Sight
turn_sights event c = if is_turn event then sights_of c.entries else []
