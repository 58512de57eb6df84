-- SPDX-License-Identifier: MIT OR Apache-2.0
use Rattle.std.proofs.Common.{ap}
use Rattle.std.proofs.lemmas.Result.{on_ok_weaker}
use Rattle.hold_queue.proofs.Holds.{hold_of, messages_of_tenure, with_messages_of_tenure}
use Rattle.hold_queue.proofs.hold.Hold.put.Goals as goal

pub returns-clause-put : goal.returns-clause-put
returns-clause-put c = on_ok_weaker c.put.result (λ put. rw (← c.self.view_is, messages_of_tenure, with_messages_of_tenure) (ap (hold_of c.self.inside.limit) put)) c.put.ensures.put
