-- SPDX-License-Identifier: MIT OR Apache-2.0
use Rattle.controller.proofs.Prelude.{◌++◌, into_iter_items, each, turn}
use Rattle.controller_model.specs.Life as words
use Rattle.controller.proofs.Lives.{Ends}
use Rattle.controller.proofs.controller.Controller.run_all.Given as goal

-- what is left makes the same as all do
abbrev pub invariant-loop-step : goal.invariant-loop-step
invariant-loop-step l =
    (goal.iterator-loop-step).can_next l.step-iterator × (goal.iterator-loop-step).is_finite l.step-iterator
    × Ends (turn (l.fn.outputs.outs ++ (each words.step l.fn.self l.fn.steps.items).outs) (each words.step l.fn.self l.fn.steps.items).next) l.self l.outputs.outs (into_iter_items l.step-iterator)
