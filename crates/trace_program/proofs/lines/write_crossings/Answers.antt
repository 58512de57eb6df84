-- SPDX-License-Identifier: MIT OR Apache-2.0
use Rattle.std.proofs.KnownBytes.{Appends-nil}
use Rattle.dtap_codec.specs.Number.{count_of}
use Rattle.trace_program.proofs.Tracing.{crossings_all, crossings_more}
use Rattle.trace_program.proofs.lines.write_crossings.Goals as goal

pub loop-crossing-init : goal.loop-crossing-init
loop-crossing-init g c = Appends-nil (g.W.Write.contents c.args.output.now)

pub loop-crossing-preserved : goal.loop-crossing-preserved
loop-crossing-preserved g c =
    crossings_more (count_of c.args.modulus) c.args.number c.loop-crossing.crossing-index c.args.fate c.args.crossings.now
    c.crossing-item.result (g.W.Write.contents c.args.output.now) (g.W.Write.contents c.loop-crossing.output)
    (g.W.Write.contents c.write_crossing.new.output)
    c.loop-crossing.invariant
    c.loop-crossing-test.true c.crossing-item.is c.in_ok-write_crossing.ensures.text

pub returns-clause-text : goal.returns-clause-text
returns-clause-text g c =
    crossings_all (count_of c.args.modulus) c.args.number c.loop-crossing.crossing-index c.args.fate c.args.crossings.now
    (g.W.Write.contents c.args.output.now) (g.W.Write.contents c.loop-crossing.output) c.loop-crossing.invariant
    c.loop-crossing-test.false
