-- SPDX-License-Identifier: MIT OR Apache-2.0
use Rattle.hold_queue.proofs.hold.Hold.get.Goals as goal
use Rattle.hold_queue.proofs.Holds.{messages_of_tenure}

pub returns : goal.returns
returns c = rw (← c.self.view_is, messages_of_tenure) c.get.ensures
