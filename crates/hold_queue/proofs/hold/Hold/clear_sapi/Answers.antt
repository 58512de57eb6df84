-- SPDX-License-Identifier: MIT OR Apache-2.0
use Rattle.hold_queue.proofs.hold.Hold.clear_sapi.Goals as goal
use Rattle.hold_queue.proofs.Holds.{messages_of_tenure}

pub returns-clause-count : goal.returns-clause-count
returns-clause-count c = rw (← c.self.view_is, messages_of_tenure) c.clear_sapi.ensures.count
