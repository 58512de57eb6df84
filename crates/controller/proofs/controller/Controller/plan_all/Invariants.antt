-- SPDX-License-Identifier: MIT OR Apache-2.0
use Rattle.controller.proofs.Prelude.{◌≡◌, ◌++◌, map, drop}
use Rattle.controller.specs.Many.{all_due, planned_for}
use Rattle.controller.proofs.controller.Controller.plan_all.Given as goal

abbrev pub invariant-loop-place : goal.invariant-loop-place
invariant-loop-place l = map planned_for l.planned.items ++ all_due l.cause l.self.settings.timers (drop l.place l.self.entries) ≡ all_due l.cause l.self.settings.timers l.self.entries
