-- SPDX-License-Identifier: MIT OR Apache-2.0
use Rattle.std.proofs.Common.{◌≡◌, take}
use Rattle.std.specs.Prelude.{fold}
use Rattle.std.specs.Io.KnownBytes.{Appends}
use Rattle.judge_report.specs.Sums.{with_one}
use Rattle.judge_program.specs.RunState.{verdicts}
use Rattle.judge_program.proofs.verdicts.print_all.Given as goal

abbrev pub invariant-loop-one : goal.invariant-loop-one
invariant-loop-one g l = record {
  sums : l.all ≡ fold with_one l.fn.sums (take l.one-index l.judged);
  text : Appends (g.W.Write.contents l.fn.output) (g.W.Write.contents l.output)
      (verdicts l.style l.fn.sums (take l.one-index l.judged));
}
