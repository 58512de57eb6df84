-- SPDX-License-Identifier: MIT OR Apache-2.0
use Rattle.world_laws.proofs.OwnFrameLaw.{frame_is_handled_new}
use Rattle.world_laws.proofs.laws.frames_are_handled.Goals as goal

pub returns : goal.returns
returns c = frame_is_handled_new
