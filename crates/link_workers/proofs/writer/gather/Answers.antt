-- SPDX-License-Identifier: MIT OR Apache-2.0
use Rattle.std.proofs.Common.{subst}
use Rattle.ruled_relay.specs.Outbox.{TakesLine}
use Rattle.link_workers.specs.Faults.{fault_of_frame}
use Rattle.link_workers.specs.Writing.{Gathers}
use Rattle.link_workers.proofs.Reading.{as_error}
use Rattle.link_workers.proofs.Gathering.{gathers_frame, gathers_refused}
use Rattle.link_workers.proofs.writer.gather.Goals as goal

pub returns-in_err-write_frame-in-Some-Frame-clause-gathers : goal.returns-in_err-write_frame-in-Some-Frame-clause-gathers
returns-in_err-write_frame-in-Some-Frame-clause-gathers g c =
    let fault = c.in_err-write_frame-in-Some-Frame.field-0.0 in
    let taken = subst (λ line. TakesLine c.loop.taker line c.take.new.self) c.in-Some-Frame.field-0-is c.in-Some-Frame.ensures.takes in
    as_error c.from_residual.result (fault_of_frame fault) (Gathers c.args.taker.now c.take.new.self c.args.text.now.items c.write_frame.new.out.items) c.from_residual.ensures.1
    (gathers_refused c.args.taker.now c.loop.taker c.take.new.self c.args.text.now.items c.loop.text.items c.write_frame.new.out.items c.in-Some-Frame.frame fault c.loop.invariant.2 taken
    c.in_err-write_frame-in-Some-Frame.ensures.refused)

pub loop-preserved-in-Some-Frame : goal.loop-preserved-in-Some-Frame
loop-preserved-in-Some-Frame g c =
    let taken = subst (λ line. TakesLine c.loop.taker line c.take.new.self) c.in-Some-Frame.field-0-is c.in-Some-Frame.ensures.takes in (
      tt,
      tt,
      gathers_frame c.args.taker.now c.loop.taker c.take.new.self c.args.text.now.items c.loop.text.items c.write_frame.new.out.items c.in-Some-Frame.frame c.loop.invariant.2 taken
          c.in_ok-write_frame-in-Some-Frame.ensures.ok c.in_ok-write_frame-in-Some-Frame.ensures.refused,
      c.loop.invariant.3,
    )
