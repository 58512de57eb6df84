-- SPDX-License-Identifier: MIT OR Apache-2.0
use Rattle.world_laws.proofs.Targets.RemainsFresh.{fresh_means_new, targets_remain_fresh_new}
use Rattle.world_laws.proofs.target_laws.targets_remain_fresh.Goals as goal

pub returns-clause-fresh : goal.returns-clause-fresh
returns-clause-fresh c = targets_remain_fresh_new

pub returns-clause-tells : goal.returns-clause-tells
returns-clause-tells c = fresh_means_new
