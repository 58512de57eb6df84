-- SPDX-License-Identifier: MIT OR Apache-2.0
use Rattle.std.proofs.Common.{Ok, subst, ◌∙◌}
use Rattle.ipa_framing.specs.Framer.{Takes}
use Rattle.program_base.proofs.Decoding.{prints_more, stops_printing}
use Rattle.program_io.proofs.Ends.{said_of}
use Rattle.program_base.proofs.decode_command.print_frames.Goals as goal

pub loop-frame-preserved : goal.loop-frame-preserved
loop-frame-preserved g c =
    let takes = subst (λ found. Takes c.loop-frame.framer (Ok found) c.next.new.self) c.in-Some.is c.in_ok-frame.ensures in (
      prints_more g.L.FrameLine.line c.args.framer.now c.loop-frame.framer c.next.new.self (g.W.Write.contents c.args.output.now) (g.W.Write.contents c.loop-frame.output) (g.W.Write.contents c.print.new.output)
          c.in-Some.frame c.loop-frame.invariant.0 takes.0 c.in_ok-print.ensures,
      takes.1 ∙ c.loop-frame.invariant.1,
    )

pub returns-in_err-print-clause-err : goal.returns-in_err-print-clause-err
returns-in_err-print-clause-err g c =
    let takes = subst (λ found. Takes c.loop-frame.framer (Ok found) c.next.new.self) c.in-Some.is c.in_ok-frame.ensures in
    said_of c.from_residual-in_err-print.result _ _ c.from_residual-in_err-print.ensures.1
    (λ stop is.
    stops_printing g.L.FrameLine.line c.args.framer.now c.loop-frame.framer (g.W.Write.contents c.args.output.now) (g.W.Write.contents c.loop-frame.output) (g.W.Write.contents c.print.new.output)
    c.in-Some.frame c.next.new.self.octets _ stop c.loop-frame.invariant.0 takes.0 c.in_err-print.ensures is)
