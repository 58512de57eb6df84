-- SPDX-License-Identifier: MIT OR Apache-2.0
use Rattle.std.proofs.Common.{Some, ap, sym, ◌∙◌}
use Rattle.run_judge.specs.JudgeState.{shown}
use Rattle.run_judge.proofs.JudgeLemmas.{freed_reference-named}
use Rattle.run_judge.proofs.judge.Judge.free.Goals as goal

pub returns-then-owner-reference-clause-new : goal.returns-then-owner-reference-clause-new
returns-then-owner-reference-clause-new c =
    freed_reference-named (shown c.args.self.now) c.args.self.now.by_switch.entries c.swap_remove.new.self.entries c.args.reference c.args.source 0
    (ap Some (sym c.if-owner-reference.true) ∙ c.in-Some.ensures) c.swap_remove.ensures.updates.0
