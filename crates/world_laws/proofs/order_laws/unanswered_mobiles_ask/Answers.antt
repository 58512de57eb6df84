-- SPDX-License-Identifier: MIT OR Apache-2.0
use Rattle.world_laws.proofs.Order.Unanswered.{unanswered_mobiles_ask_new}
use Rattle.world_laws.proofs.order_laws.unanswered_mobiles_ask.Goals as goal

pub returns : goal.returns
returns c = unanswered_mobiles_ask_new
