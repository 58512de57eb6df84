-- SPDX-License-Identifier: MIT OR Apache-2.0
-- Definitions against literal scripts and worlds.
use Rattle.std.proofs.Common.{◌≡◌, [], ◌∷◌, ◌++◌, map, Some, None, refl}
use Rattle.std.specs.Prelude.{codes, decimal}
use Rattle.octets.proofs.Hex.{hex}
use Rattle.hex.proofs.OnLiterals.{hex_on_literals}
use Rattle.dtap_codec.specs.declared.sapi.Sapi.TheVariants.{Zero}
use Rattle.world_model.specs.declared.event.Event.TheVariants.{Upper, AirUp, AirAck, SwitchTakes, Handle}
use Rattle.world.specs.World.{after_all, fixed_world}
use Rattle.world.specs.WorldState.{WorldState}
use Rattle.bsc_program.specs.Report.{connection_text, mobile_text, not_taken_line}
use Rattle.program_base.specs.WholeScript.{line_count, lines_text}

-- ---- scripts

lines : lines_text (codes "handle" ∷ [] ∷ codes "tick 1" ∷ []) ≡ codes "handle\n\ntick 1\n"
lines = refl

counts : map line_count (0 ∷ 7 ∷ 18446744073709551615 ∷ 18446744073709551616 ∷ []) ≡ 0 ∷ 7 ∷ 18446744073709551615 ∷ 18446744073709551615 ∷ []
counts = refl

-- ---- reports

-- a message of the flow and one without a number were sent up, and one more waits
abbrev some_messages : WorldState
some_messages =
    after_all (fixed_world 4)
    (
    Upper 1 Zero (hex "03 0f") ∷ Upper 1 Zero (hex "0c ab") ∷ Upper 1 Zero (hex "03 05") ∷ AirUp 1 Zero ∷ AirAck 1 Zero ∷ SwitchTakes ∷ AirUp 1 Zero ∷ AirAck 1 Zero ∷ SwitchTakes ∷ AirUp 1 Zero ∷ AirAck 1 Zero
    ∷ SwitchTakes ∷ Upper 1 Zero (hex "03 06") ∷ Handle ∷ []
    )

its_mobile : mobile_text some_messages.scene 1 ≡
    (codes "mobile " ++ decimal 1 ++ codes " sent " ++ (decimal 3 ++ codes "\n" ++ codes "030f\n0305\n0306\n")) ++ (codes "mobile " ++ decimal 1 ++ codes " received " ++ (decimal 0 ++ codes "\n" ++ []))
unfolding hex_on_literals
its_mobile = refl

no_other_mobile : mobile_text some_messages.scene 2 ≡ []
no_other_mobile = refl

its_connection : connection_text some_messages.scene 1 ≡
    Some (
    (codes "conn " ++ decimal 1 ++ codes " taken " ++ (decimal 3 ++ codes "\n" ++ codes "030f\n0cab\n0345\n")) ++ (codes "conn " ++ decimal 1 ++ codes " accepted " ++ (decimal 2 ++ codes "\n" ++ codes "030f\n0305\n"))
    ++ (codes "conn " ++ decimal 1 ++ codes " unnumbered " ++ (decimal 1 ++ codes "\n" ++ codes "0cab\n"))
    )
unfolding hex_on_literals
its_connection = refl

no_other_connection : connection_text some_messages.scene 2 ≡ None
no_other_connection = refl

one_not_taken : not_taken_line some_messages.not_taken ≡ codes "events not taken " ++ decimal 1 ++ codes "\n"
one_not_taken = refl
