-- SPDX-License-Identifier: MIT OR Apache-2.0
use Rattle.std.proofs.Common.{◌≡◌, sym, ◌∙◌}
use Rattle.std.proofs.lemmas.Result.{on_ok_weaker}
use Rattle.dtap_codec.specs.Number.{count_of}
use Rattle.run_judge.specs.ConnectionSteps.{made_by}
use Rattle.run_judge.specs.Judging.{with_judged}
use Rattle.run_judge.specs.JudgeState.{shown}
use Rattle.run_judge.proofs.JudgeLemmas.{with_owner-none, with_owner-some}
use Rattle.run_judge.proofs.judge.Judge.tell_owner.Goals as goal

pub returns-in-Some : goal.returns-in-Some
returns-in-Some c =
    let change = made_by (count_of c.args.self.now.modulus) c.args.frame c.args.told in
    let same = with_owner-some change (shown c.args.self.now) c.args.at c.in-Some.reference c.in-Some.ensures in
    on_ok_weaker c.tell.result (λ (done : shown c.tell.new.self ≡ with_judged c.in-Some.reference change (shown c.args.self.now)). done ∙ sym same) c.tell.ensures

pub returns-in-None : goal.returns-in-None
returns-in-None c =
    sym (with_owner-none (made_by (count_of c.args.self.now.modulus) c.args.frame c.args.told) (shown c.args.self.now) c.args.at c.in-None.ensures)
