-- SPDX-License-Identifier: MIT OR Apache-2.0
-- The COMMAND that a row puts leads its mobile to the target.
use Rattle.world_laws.proofs.Prelude.{◌≡◌, ℕ, ◌==◌, Bool, true, if◌then◌else◌, [], ◌∷◌, Option, Some, None, refl, ap, ◌∙◌, result_ok}
use Rattle.world_laws.proofs.Prelude.{Change, Assignment, Handover, Channel, IsReadOf, rr_text, Rsl, Tenure, change_command, command}
use Rattle.world_laws.proofs.Prelude.{leading, leading_by, leading_from_outbox, change_in}
use Rattle.conn_messages.specs.Out.{out_of}
use Rattle.dtap_codec.specs.RrReading.{assignment_command_at, handover_command_at, rr_reading, three_at, typed_at}
use Rattle.dtap_codec.specs.RrType.{rr_type}
use Rattle.octets.specs.Front.{octet_at}
use Rattle.world_model.specs.Relay.{commands, entry_of, is_change_command}

pub change-read : (change : Change) (c : Channel) → change_in (rr_reading (rr_text (command change c))) ≡ Some change
unfolding rr_reading octet_at typed_at rr_type assignment_command_at three_at handover_command_at
change-read Assignment c = refl
change-read Handover c = refl

is_change : (change : Change) (c : Channel) → is_change_command (rr_reading (rr_text (command change c))) ≡ true
unfolding rr_reading octet_at typed_at rr_type assignment_command_at three_at handover_command_at
is_change Assignment c = refl
is_change Handover c = refl

-- on which channel the output leads: on its own
pub command_leads : (number channel : ℕ) (serving : Channel) (change : Change) (c : Channel) (tenure : Tenure) → IsReadOf number (change_command serving change c) (out_of number (change_command serving change c)).frame.body
    → leading_from_outbox channel (entry_of (Some tenure) (out_of number (change_command serving change c))) ≡ (if serving.number == channel then record { message = rr_text (command change c); target = Some tenure } ∷ [] else [])
unfolding out_of
command_leads number channel serving change c tenure read =
    ap (λ (o : Option Rsl). leading_by channel (if commands o then Some tenure else None) o) (ap result_ok read)
    ∙ ap (λ (b : Bool). if serving.number == channel then leading (rr_text (command change c)) (if b then Some tenure else None) else []) (is_change change c)
