-- SPDX-License-Identifier: MIT OR Apache-2.0
use Rattle.world_laws.proofs.Order.Following.{cut_numbers_remain_cut_new}
use Rattle.world_laws.proofs.order_laws.cut_numbers_remain_cut.Goals as goal

pub returns : goal.returns
returns c = cut_numbers_remain_cut_new
