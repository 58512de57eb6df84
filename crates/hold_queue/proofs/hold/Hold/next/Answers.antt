-- SPDX-License-Identifier: MIT OR Apache-2.0
use Rattle.std.proofs.Common.{refl}
use Rattle.hold_queue.proofs.Holds.{messages_of_tenure, with_messages_of_tenure}
use Rattle.hold_queue.proofs.hold.Hold.next.Goals as goal

pub returns-clause-first : goal.returns-clause-first
returns-clause-first c = rw (← c.self.view_is, messages_of_tenure) c.next.ensures.first

pub returns-clause-rest : goal.returns-clause-rest
returns-clause-rest c = rw (← c.self.view_is, messages_of_tenure, with_messages_of_tenure, c.next.ensures.rest) refl
