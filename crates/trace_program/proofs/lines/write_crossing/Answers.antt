-- SPDX-License-Identifier: MIT OR Apache-2.0
use Rattle.std.proofs.lemmas.Result.{on_ok_weaker}
use Rattle.dtap_codec.specs.Number.{count_of}
use Rattle.trace_program.proofs.Tracing.{line_written}
use Rattle.trace_program.proofs.lines.write_crossing.Goals as goal

pub returns-clause-text : goal.returns-clause-text
returns-clause-text g c =
    on_ok_weaker c.write_frame.result
    (line_written (count_of c.args.modulus) c.args.number c.args.fate c.args.crossing.now
    (g.W.Write.contents c.args.output.now) (g.W.Write.contents c.write_head.new.output) (g.W.Write.contents c.write_frame.new.output)
    c.in_ok-write_head.ensures.text)
    c.write_frame.ensures.text
