-- SPDX-License-Identifier: MIT OR Apache-2.0
-- The order of messages in the world that a script's events make.
use Rattle.std.specs.Prelude.{ℕ, List, length}
use Rattle.settings.specs.Parameters.{AreAllowed, Parameters}
use Rattle.world_model.specs.declared.event.Event.{Event}
use Rattle.world.specs.Headline.{IsInOrder}
use Rattle.world.specs.World.{after_all, controlled_world}
use Rattle.program_base.specs.WholeScript.{IsScript}

-- The world that a script's events make is in order, if the settings are allowed.
abbrev pub ScriptsRunInOrder : Parameters → List ℕ → List Event → Type 0
ScriptsRunInOrder settings octets events =
    AreAllowed settings → IsScript (length settings.cells) octets events
    → IsInOrder (controlled_world settings).scene events
    (after_all (controlled_world settings) events).scene
