-- SPDX-License-Identifier: MIT OR Apache-2.0
use Rattle.std.proofs.Common.{refl}
use Rattle.program_base.proofs.Decoding.{stops_flushing}
use Rattle.program_io.proofs.Ends.{said_of}
use Rattle.program_base.proofs.decode_command.NamerSink.take.Goals as goal

pub returns-in_err-flush-clause-refused : goal.returns-in_err-flush-clause-refused
returns-in_err-flush-clause-refused g c =
    said_of c.from_residual-in_err-flush.result _ _ c.from_residual-in_err-flush.ensures.1
    (λ stop is. (
      refl,
      λ working.
          stops_flushing g.L.FrameLine.line c.args.self.now.framer c.feed.new.self c.print_frames.new.framer c.args.piece.now (g.W.Write.contents c.args.self.now.output.now) (g.W.Write.contents c.print_frames.new.output) (g.W.Write.contents c.flush.new.self)
          _ stop c.in_ok-feed.ensures c.in_ok-print_frames.ensures.ok.0 c.in_err-flush.ensures.bytes is,
    ))
