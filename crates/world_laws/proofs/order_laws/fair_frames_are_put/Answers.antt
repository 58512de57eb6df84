-- SPDX-License-Identifier: MIT OR Apache-2.0
use Rattle.world_laws.proofs.Order.Fairly.{puts_fairly_new}
use Rattle.world_laws.proofs.order_laws.fair_frames_are_put.Goals as goal

pub returns : goal.returns
returns c = puts_fairly_new
