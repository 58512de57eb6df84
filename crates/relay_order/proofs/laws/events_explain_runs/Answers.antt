-- SPDX-License-Identifier: MIT OR Apache-2.0
use Rattle.controller.proofs.LifeLaws.{new_keeps_laws}
use Rattle.relay_order.proofs.Converse.{carried_on}
use Rattle.relay_order.proofs.laws.events_explain_runs.Goals as goal

pub returns : goal.returns
returns c = carried_on new_keeps_laws
