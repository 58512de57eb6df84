-- SPDX-License-Identifier: MIT OR Apache-2.0
use Rattle.world_laws.proofs.Others.{relay_leaves_others_new, time_leaves_others_new}
use Rattle.world_laws.proofs.laws.relay_leaves_others.Goals as goal

pub returns-clause-handled : goal.returns-clause-handled
returns-clause-handled c = relay_leaves_others_new

pub returns-clause-passed : goal.returns-clause-passed
returns-clause-passed c = time_leaves_others_new
