-- SPDX-License-Identifier: MIT OR Apache-2.0
-- The events of a script carry octets, so its run is in order.
use Rattle.std.proofs.Common.{ℕ, List, [], ◌∷◌}
use Rattle.settings.specs.Parameters.{Parameters}
use Rattle.world_model.specs.declared.event.Event.{Event}
use Rattle.world.specs.Headline.{AreEventsFor}
use Rattle.world.specs.Headline.Begins.{controlled}
use Rattle.world.specs.World.{controlled_world}
use Rattle.bsc_program.proofs.LineOctets.{line_is_of_octets}
use Rattle.world.proofs.Order.{IsInOrder-reached}
use Rattle.program_base.specs.WholeScript.{AreTexts}
use Rattle.bsc_program.specs.ScriptOrder.{ScriptsRunInOrder}

of_octets : (settings : Parameters) (cells : ℕ) (events : List Event) (lines : List (List ℕ)) →
    AreTexts cells events lines →
    AreEventsFor (controlled_world settings).scene events
of_octets settings cells [] lines texts = tt
of_octets settings cells (event ∷ events) [] texts = absurd texts
of_octets settings cells (event ∷ events) (line ∷ lines) texts = (line_is_of_octets cells event line texts.0, of_octets settings cells events lines texts.1)

pub scripts_run_in_order : (settings : Parameters) (octets : List ℕ) (events : List Event) → ScriptsRunInOrder settings octets events
scripts_run_in_order settings octets events allowed script = IsInOrder-reached (controlled_world settings) events (controlled settings allowed) (of_octets settings _ events script.lines script.texts)
