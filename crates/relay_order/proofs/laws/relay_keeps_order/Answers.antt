-- SPDX-License-Identifier: MIT OR Apache-2.0
use Rattle.relay_order.proofs.Joined.{runs_in_order}
use Rattle.relay_order.proofs.Shown.{runs_are_shown}
use Rattle.relay_order.proofs.laws.relay_keeps_order.Goals as goal

pub returns-clause-shown : goal.returns-clause-shown
returns-clause-shown c = runs_are_shown

pub returns-clause-order : goal.returns-clause-order
returns-clause-order c = runs_in_order
