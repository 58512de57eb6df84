-- SPDX-License-Identifier: MIT OR Apache-2.0
-- Rows: the definitions on literal times and steps.
use Rattle.std.proofs.Common.{◌≡◌, ℕ, List, [], ◌∷◌, refl}
use Rattle.octets.proofs.Hex.{hex}
use Rattle.conn_messages.specs.declared.out.Out.{Out}
use Rattle.controller_model.specs.declared.step.Step.TheVariants.{Take, Tick}
use Rattle.ipa_framing.specs.Front.{frame}
use Rattle.ruled_relay.specs.declared.item.What.TheVariants as what
use Rattle.run_record.specs.declared.entry.Entry.{Entry}
use Rattle.run_record.specs.declared.entry.Entry.TheVariants.{Head, Took, Passed, Put}
use Rattle.run_record.specs.declared.entry.Stamp.{Stamp}
use Rattle.run_record.specs.declared.entry.Stamped.{Stamped}
use Rattle.step_recorder.specs.Writing.{first_state, head_entries, later, state_behind, step_entries}

abbrev at : ℕ → ℕ → Stamp
at seconds microseconds = record { seconds = seconds; microseconds = microseconds }

abbrev entry_at : ℕ → Entry → Stamped
entry_at microseconds entry = record { stamp = at 5 microseconds; entry = entry }

-- a time of the clock that is set back is no entry's
later_times : later (at 5 7) (at 5 8) ∷ later (at 5 8) (at 5 7) ∷ later (at 5 999999) (at 6 0) ∷ later (at 6 0) (at 5 999999) ∷ later (at 5 7) (at 5 7) ∷ []
    ≡ at 5 8 ∷ at 5 8 ∷ at 6 0 ∷ at 6 0 ∷ at 5 7 ∷ []
later_times = refl

abbrev out_to : ℕ → ℕ → List ℕ → Out
out_to link stream body = record { to = link; conn = 1; frame = frame stream body }

of_a_step : step_entries (at 5 7) (Take (record { source = 1; what = what.Frame (frame 0x00 (hex "03 02 01 41")) }))
    (out_to 0 0xfd (hex "06 80 00 01") ∷ out_to 1 0x00 (hex "08 2e 01 0a") ∷ [])
    ≡ entry_at 7 (Took 1 (what.Frame (frame 0x00 (hex "03 02 01 41")))) ∷ entry_at 7 (Put 0 (frame 0xfd (hex "06 80 00 01")))
    ∷ entry_at 7 (Put 1 (frame 0x00 (hex "08 2e 01 0a"))) ∷ []
of_a_step = refl

of_a_tick : step_entries (at 5 8) (Tick 100) [] ≡ entry_at 8 (Passed 100) ∷ []
of_a_tick = refl

of_an_end : step_entries (at 5 9) (Take (record { source = 2; what = what.Down })) [] ≡ entry_at 9 (Took 2 what.Down) ∷ []
of_an_end = refl

of_a_head : head_entries (at 5 1) (hex "62 73 63" ∷ hex "5b 63 5d" ∷ []) ≡ entry_at 1 (Head (hex "62 73 63")) ∷ entry_at 1 (Head (hex "5b 63 5d")) ∷ []
of_a_head = refl

begins_before_all_times : later first_state.stamp (at 0 1) ≡ at 0 1
begins_before_all_times = refl

numbers_packets : (state_behind first_state.place (at 5 1) (head_entries (at 5 1) (hex "62" ∷ hex "73" ∷ []))).place.packets ≡ 2
numbers_packets = refl
