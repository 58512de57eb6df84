-- SPDX-License-Identifier: MIT OR Apache-2.0
use Rattle.std.proofs.Common.{◌≡◌, ◌++◌, map, ap, ◌∙◌}
use Rattle.std.proofs.lemmas.Result.{on_ok_weaker}
use Rattle.judge_orders.specs.Trial.{first_finding, judged_as, second_finding}
use Rattle.judge_orders.proofs.trial.decide.Goals as goal

pub returns : goal.returns
returns c =
    let first = c.first_finding-first.ensures ∙ ap first_finding c.as_slice.ensures.value in
    let second = c.second_finding-second.ensures ∙ ap second_finding c.as_slice-2.ensures.value in
    on_ok_weaker c.add_judged.result (λ (done : c.add_judged.new.judged.items ≡ c.args.judged.now.items
    ++ map (judged_as c.first_finding-first.result c.second_finding-second.result) c.args.tried.items).
    done ∙ (λ i. c.args.judged.now.items ++ map (judged_as (first i) (second i)) c.args.tried.items)) c.add_judged.ensures
