-- SPDX-License-Identifier: MIT OR Apache-2.0
use Rattle.world_laws.proofs.Whole.{messages_are_whole_new}
use Rattle.world_laws.proofs.laws.messages_are_whole.Goals as goal

pub returns : goal.returns
returns c = messages_are_whole_new
