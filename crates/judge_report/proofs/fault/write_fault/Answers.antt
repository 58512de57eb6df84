-- SPDX-License-Identifier: MIT OR Apache-2.0
use Rattle.std.proofs.Common.{subst, sym}
use Rattle.std.specs.Prelude.{OnOk}
use Rattle.std.specs.Io.KnownBytes.{Appends}
use Rattle.dtap_codec.specs.Number.{count_of}
use Rattle.run_judge.specs.declared.fault.Fault.{Fault}
use Rattle.judge_report.specs.FaultText.{fault_text}
use Rattle.judge_report.proofs.fault.write_fault.Goals as goal

pub returns-in-HandedWhileChanging-clause-text : goal.returns-in-HandedWhileChanging-clause-text
returns-in-HandedWhileChanging-clause-text g c =
    subst (λ (fault : Fault). OnOk c.write_misplaced.result (Appends (g.W.Write.contents c.args.output.now) (g.W.Write.contents c.write_misplaced.new.output)
    (fault_text (count_of c.args.modulus) c.args.direction fault))) (sym c.in-HandedWhileChanging.is) c.write_misplaced.ensures.text
