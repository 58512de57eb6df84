-- SPDX-License-Identifier: MIT OR Apache-2.0
-- Literal rows against bugs planted by hand in the table and the code together, which no other row
-- caught.
use Rattle.conn_rules.proofs.Prelude.{◌≡◌, [], ◌∷◌, Some, None, refl, Assignment, hex}
use Rattle.conn_messages.specs.Out.{out_of}
use Rattle.conn_rules.specs.declared.input.Input.TheVariants as inputs
use Rattle.conn_rules.specs.Table.{row_of}
use Rattle.conn_rules.proofs.Lives.{put, turn, played, on_1, changing}
use Rattle.rsl_codec.specs.RslText.{rsl_element_text}

-- ---- the mobile's RR cause is passed on with all its eight bits

completes_with_each_cause : played changing (turn (inputs.Complete (on_1 0x0a) Assignment (record { 0 = 0xff })) None ∷ [])
    ≡ Some (put 0 (hex "06 80 00 01 00 01 05 00 03 02 15 ff") ∷ put 1 (hex "08 2e 01 41") ∷ []) ∷ []
unfolding row_of out_of rsl_element_text
completes_with_each_cause = refl

returns_with_each_cause : played changing (turn (inputs.Failure (on_1 0x41) Assignment (record { 0 = 0xff })) None ∷ [])
    ≡ Some (put 0 (hex "06 80 00 01 00 01 08 00 06 03 04 01 0a 15 ff") ∷ put 1 (hex "08 2e 01 0a") ∷ []) ∷ []
unfolding row_of out_of rsl_element_text
returns_with_each_cause = refl
