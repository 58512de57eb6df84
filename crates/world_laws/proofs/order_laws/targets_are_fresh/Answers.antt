-- SPDX-License-Identifier: MIT OR Apache-2.0
use Rattle.world_laws.proofs.Order.Targets.{targets_are_fresh}
use Rattle.world_laws.proofs.order_laws.targets_are_fresh.Goals as goal

pub returns : goal.returns
returns c = targets_are_fresh
