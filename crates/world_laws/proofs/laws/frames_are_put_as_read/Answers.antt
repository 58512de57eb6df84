-- SPDX-License-Identifier: MIT OR Apache-2.0
use Rattle.world_laws.proofs.PutAsRead.{frames_are_put_as_read_new}
use Rattle.world_laws.proofs.laws.frames_are_put_as_read.Goals as goal

pub returns : goal.returns
returns c = frames_are_put_as_read_new
