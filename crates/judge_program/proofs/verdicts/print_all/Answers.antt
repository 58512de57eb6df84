-- SPDX-License-Identifier: MIT OR Apache-2.0
use Rattle.std.proofs.Common.{refl}
use Rattle.std.proofs.KnownBytes.{Appends-nil}
use Rattle.judge_program.proofs.Printing.{sums_all, sums_more, texts_all, texts_more}
use Rattle.judge_program.proofs.verdicts.print_all.Goals as goal

pub loop-one-init : goal.loop-one-init
loop-one-init g c = record { sums = refl; text = Appends-nil (g.W.Write.contents c.args.output.now) }

pub loop-one-preserved : goal.loop-one-preserved
loop-one-preserved g c = record {
  sums =
      sums_more c.args.sums c.loop-one.all c.with-with.result c.args.judged.now c.loop-one.one-index
      c.one-item.result c.loop-one.invariant.sums c.loop-one-test.true c.one-item.is c.with-with.ensures;
  text =
      texts_more c.args.style c.args.sums c.loop-one.all c.with-with.result c.args.judged.now c.loop-one.one-index
      c.one-item.result (g.W.Write.contents c.args.output.now) (g.W.Write.contents c.loop-one.output)
      (g.W.Write.contents c.write_judged.new.output) c.loop-one.invariant.sums c.loop-one.invariant.text
      c.loop-one-test.true c.one-item.is c.with-with.ensures c.in_ok-write_judged.ensures.text;
}

pub returns-clause-sums : goal.returns-clause-sums
returns-clause-sums g c =
    sums_all c.args.sums c.loop-one.all c.args.judged.now c.loop-one.one-index c.loop-one.invariant.sums
    c.loop-one-test.false

pub returns-clause-text : goal.returns-clause-text
returns-clause-text g c =
    texts_all c.args.style c.args.sums c.args.judged.now c.loop-one.one-index (g.W.Write.contents c.args.output.now)
    (g.W.Write.contents c.loop-one.output) c.loop-one.invariant.text c.loop-one-test.false
