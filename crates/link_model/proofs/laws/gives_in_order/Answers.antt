-- SPDX-License-Identifier: MIT OR Apache-2.0
use Rattle.link_model.proofs.Giving.{given_calls}
use Rattle.link_model.proofs.laws.gives_in_order.Goals as goal

pub returns : goal.returns
returns c base calls = given_calls base calls
