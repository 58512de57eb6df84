-- SPDX-License-Identifier: MIT OR Apache-2.0
use Rattle.std.proofs.Common.{ap, sym, ◌∙◌}
use Rattle.ruled_relay.specs.Outbox.{PutterView}
use Rattle.worker_tests.proofs.outbox.an_outbox_of_one_line.Goals as goal

pub finish-unsent-requires : goal.finish-unsent-requires
finish-unsent-requires g c =
    c.put-2.ensures.same ∙ c.is_refused-2.ensures ∙ c.is_refused.ensures ∙ c.put.ensures.same ∙ ap (λ (p : PutterView). p.queue) c.in_ok-putter.ensures.0
    ∙ sym (c.take-3.ensures.same ∙ c.take-2.ensures.same ∙ c.take.ensures.same)
