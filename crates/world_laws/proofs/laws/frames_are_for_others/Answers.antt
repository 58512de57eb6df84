-- SPDX-License-Identifier: MIT OR Apache-2.0
use Rattle.world_laws.proofs.OthersFrame.{frames_are_for_others_new}
use Rattle.world_laws.proofs.laws.frames_are_for_others.Goals as goal

pub returns : goal.returns
returns c = frames_are_for_others_new
