-- SPDX-License-Identifier: MIT OR Apache-2.0
use Rattle.world_laws.proofs.TurnsSteps.{orders_take_turns_new}
use Rattle.world_laws.proofs.laws.orders_take_turns.Goals as goal

pub returns : goal.returns
returns c = orders_take_turns_new
