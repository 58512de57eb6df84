-- SPDX-License-Identifier: MIT OR Apache-2.0
use Rattle.world_laws.proofs.References.Heard.{unknown_remain_unknown_new}
use Rattle.world_laws.proofs.reference_laws.unknown_remain_unknown.Goals as goal

pub returns : goal.returns
returns c = unknown_remain_unknown_new
