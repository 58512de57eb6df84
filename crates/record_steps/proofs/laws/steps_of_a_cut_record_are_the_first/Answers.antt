-- SPDX-License-Identifier: MIT OR Apache-2.0
use Rattle.record_steps.specs.Runs.{entries_with}
use Rattle.record_steps.proofs.Rounds.{cut_is_first}
use Rattle.record_steps.proofs.laws.steps_of_a_cut_record_are_the_first.Goals as goal

pub returns : goal.returns
returns c links stamp pieces steps octets rest of can same =
    cut_is_first links stamp pieces steps octets of
    (c.what_was_cut_is_read_so_far.ensures (entries_with stamp pieces steps) octets rest can same)
