-- SPDX-License-Identifier: MIT OR Apache-2.0
use Rattle.std.proofs.Common.{◌≡◌, ◌++◌, take}
use Rattle.std.specs.List.{flat_map}
use Rattle.rerun_lines.specs.StepText.{note_shown}
use Rattle.rerun_lines.proofs.step_lines.put_notes.Given as goal

abbrev pub invariant-loop-note : goal.invariant-loop-note
invariant-loop-note l = l.text.items ≡ l.fn.text.items
    ++ flat_map (note_shown l.choice l.mark l.touched) (take l.note-index l.notes)
