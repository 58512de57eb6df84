-- SPDX-License-Identifier: MIT OR Apache-2.0
use Rattle.controller_worker.proofs.Outboxes.{accepted, refused}
use Rattle.controller_worker.proofs.sending.try_first.Goals as goal

pub returns-in-Ok : goal.returns-in-Ok
returns-in-Ok g c = accepted c.args.putter.now c.put.new.self c.args.waiting.now c.in-Some.frame c.pop.new.self c.requires c.in-Some.ensures.first c.in-Ok.ensures.puts

pub returns-in-Err : goal.returns-in-Err
returns-in-Err g c =
    refused c.args.putter.now c.put.new.self c.args.waiting.now c.in-Some.frame c.pop.new.self c.keep.new.waiting c.in-Err.field-0 c.requires c.in-Some.ensures.first c.in-Err.ensures.puts
    c.keep.ensures.dropped
    (λ h. c.keep.ensures.kept h c.in-Some.frame c.in-Err.ensures.puts.0)
