-- SPDX-License-Identifier: MIT OR Apache-2.0
use Rattle.world_laws.proofs.Order.Begun.{channels_begin_quiet_new}
use Rattle.world_laws.proofs.Order.Down.{channels_remain_quiet_new, quiet_lets_none_go_new}
use Rattle.world_laws.proofs.order_laws.channel_of_a_coming_one_is_quiet_down.Goals as goal

pub returns-clause-begins : goal.returns-clause-begins
returns-clause-begins c = channels_begin_quiet_new

pub returns-clause-quiet : goal.returns-clause-quiet
returns-clause-quiet c = channels_remain_quiet_new

pub returns-clause-none_go : goal.returns-clause-none_go
returns-clause-none_go c = quiet_lets_none_go_new
