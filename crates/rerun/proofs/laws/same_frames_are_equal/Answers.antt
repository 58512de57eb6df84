-- SPDX-License-Identifier: MIT OR Apache-2.0
use Rattle.rerun.proofs.Differing.{all_same}
use Rattle.rerun.proofs.laws.same_frames_are_equal.Goals as goal

pub returns : goal.returns
returns c = all_same
