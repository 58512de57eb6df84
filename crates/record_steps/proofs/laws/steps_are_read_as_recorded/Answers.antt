-- SPDX-License-Identifier: MIT OR Apache-2.0
use Rattle.record_steps.specs.Runs.{entries_with}
use Rattle.record_steps.proofs.Rounds.{written_is_read}
use Rattle.record_steps.proofs.laws.steps_are_read_as_recorded.Goals as goal

pub returns : goal.returns
returns c links stamp pieces steps of can =
    written_is_read links stamp pieces steps of (c.what_is_written_is_read.ensures (entries_with stamp pieces steps) can)
