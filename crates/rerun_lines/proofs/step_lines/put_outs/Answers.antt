-- SPDX-License-Identifier: MIT OR Apache-2.0
use Rattle.dtap_codec.specs.Number.{count_of}
use Rattle.rerun_lines.specs.StepText.{out_shown}
use Rattle.rerun_lines.proofs.Writing.{outs_more}
use Rattle.rerun_lines.proofs.step_lines.put_outs.Goals as goal

pub loop-out-preserved : goal.loop-out-preserved
loop-out-preserved c =
    outs_more (out_shown (count_of c.args.view.now.modulus) c.args.view.now.choice c.args.mark) c.loop-out.out-index c.args.outs.now
    c.out-item.result c.args.text.now.items c.loop-out.text.items c.put_out.new.text.items c.loop-out.invariant c.loop-out-test.true
    c.out-item.is c.in_ok-put_out.ensures.text
