-- SPDX-License-Identifier: MIT OR Apache-2.0
use Rattle.world_laws.proofs.Remaining.{keeps_due_all}
use Rattle.world_laws.proofs.laws.due_follows_orders.Goals as goal

pub returns : goal.returns
returns c = keeps_due_all
