-- SPDX-License-Identifier: MIT OR Apache-2.0
use Rattle.controller_model.proofs.LifeLaws.Concerning.{frame_leaves}
use Rattle.controller_model.proofs.life_laws.others_are_left_alone.Goals as goal

pub returns : goal.returns
returns c p steps number source frame allowed from_one = frame_leaves p steps number source frame allowed from_one
