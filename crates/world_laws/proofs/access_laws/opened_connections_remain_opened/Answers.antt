-- SPDX-License-Identifier: MIT OR Apache-2.0
use Rattle.world_laws.proofs.Access.Opened.{opened_remain_opened_new}
use Rattle.world_laws.proofs.access_laws.opened_connections_remain_opened.Goals as goal

pub returns : goal.returns
returns c = opened_remain_opened_new
