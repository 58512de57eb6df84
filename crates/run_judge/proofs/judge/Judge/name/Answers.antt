-- SPDX-License-Identifier: MIT OR Apache-2.0
use Rattle.std.proofs.Common.{◌≡◌, Some, ap, sym, ◌∙◌}
use Rattle.std.proofs.lemmas.Result.{on_ok_weaker}
use Rattle.run_judge.specs.declared.connection.Reason.TheVariants as reasons
use Rattle.run_judge.specs.Connection.{unjudged_from}
use Rattle.run_judge.specs.Judging.{with_judged}
use Rattle.run_judge.specs.JudgeState.{shown}
use Rattle.run_judge.proofs.JudgeLemmas.{named_again, named_first, named_shared}
use Rattle.run_judge.proofs.judge.Judge.name.Goals as goal

pub returns-in_ok-insert-in-None : goal.returns-in_ok-insert-in-None
returns-in_ok-insert-in-None c =
    c.give_reference.ensures
    ∙ named_first (shown c.args.self.now) c.args.self.now.by_switch.entries c.insert.new.self.entries c.args.reference c.args.source c.args.frame
    (c.in-None.ensures ∙ c.get.ensures.value) c.in_ok-insert-in-None.ensures.updates.0

pub returns-in_ok-unjudge-in-Some-One : goal.returns-in_ok-unjudge-in-Some-One
returns-in_ok-unjudge-in-Some-One c =
    let change = unjudged_from reasons.SharedReference c.args.frame in
    on_ok_weaker c.unjudge-in-Some-One.result (λ (done : shown c.unjudge-in-Some-One.new.self ≡ with_judged c.in-Some-One.other change (shown c.unjudge.new.self)).
    done
    ∙ ap (with_judged c.in-Some-One.other change) c.in_ok-unjudge-in-Some-One.ensures
    ∙ named_again (shown c.args.self.now) c.args.self.now.by_switch.entries c.insert-in-Some-One.new.self.entries c.args.reference c.args.source c.args.frame c.in-Some-One.other
    (ap Some (sym c.in-Some-One.field-0-is) ∙ c.in-Some-One.ensures ∙ c.get.ensures.value) c.in_ok-insert-in-Some-One.ensures.updates.0)
    c.unjudge-in-Some-One.ensures

pub returns-in-Some-Shared : goal.returns-in-Some-Shared
returns-in-Some-Shared c =
    on_ok_weaker c.unjudge-in-Some-Shared.result (λ (done : shown c.unjudge-in-Some-Shared.new.self ≡ with_judged c.args.reference (unjudged_from reasons.SharedReference c.args.frame) (shown c.args.self.now)).
    done
    ∙ named_shared (shown c.args.self.now) c.args.self.now.by_switch.entries c.args.self.now.by_switch.entries c.args.reference c.args.source c.args.frame
    (ap Some (sym c.in-Some-Shared.field-0-is) ∙ c.in-Some-Shared.ensures ∙ c.get.ensures.value))
    c.unjudge-in-Some-Shared.ensures
