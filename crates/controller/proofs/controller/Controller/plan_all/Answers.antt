-- SPDX-License-Identifier: MIT OR Apache-2.0
use Rattle.controller.proofs.Prelude.{◌≡◌, ◌≤◌, ◌++◌, Some, None, length, slice_get, subst, arith, map, sym, ap, ◌∙◌, AreRising, Controller}
use Rattle.controller.proofs.Prelude.{Connection}
use Rattle.controller.specs.Many.{all_due, due_of, planned_for}
use Rattle.controller.proofs.Planning.{any_due, of_err, one_planned, all_planned, none_planned}
use Rattle.controller.proofs.controller.Controller.plan_all.Goals as goal
use Rattle.controller.proofs.controller.Controller.plan_all.Goals.{else-loop-place-test, then-loop-place-test+in_default}

pub loop-place-preserved : goal.loop-place-preserved
loop-place-preserved c =
    one_planned c.args.cause.now c.args.self.now.settings.timers c.args.self.now.entries c.loop-place.place c.in-Some.entry.now (map planned_for c.loop-place.planned.items) (map planned_for c.plan_one.new.planned.items) (all_due c.args.cause.now c.args.self.now.settings.timers c.args.self.now.entries)
    (subst (λ (d : Controller). slice_get d.entries c.loop-place.place ≡ Some c.in-Some.entry.now) c.self.view_is (sym c.in-Some.ensures)) (c.in_ok-plan_one.ensures.planned ∙ ap (λ (s : Connection). map planned_for c.loop-place.planned.items ++ due_of c.args.cause.now c.args.self.now.settings.timers s) c.connection.ensures) c.loop-place.invariant

pub returns-clause-planned : goal.returns-clause-planned
returns-clause-planned c =
    elim c.loop-place-test.branch [
      | else-loop-place-test w ↦
          let long = c.len-place-end.ensures.len in
          let past : length c.self.inside.connections.entries ≤ c.loop-place.place = omega (arith, long, w.loop-place-test.false) in
          all_planned c.args.cause.now c.args.self.now.settings.timers c.args.self.now.entries c.loop-place.place (map planned_for c.loop-place.planned.items) (all_due c.args.cause.now c.args.self.now.settings.timers c.args.self.now.entries)
          (subst (λ (d : Controller). length d.entries ≤ c.loop-place.place) c.self.view_is past) c.loop-place.invariant
      | then-loop-place-test+in_default w ↦
          none_planned c.args.cause.now c.args.self.now.settings.timers c.args.self.now.entries c.loop-place.place (map planned_for c.loop-place.planned.items) (all_due c.args.cause.now c.args.self.now.settings.timers c.args.self.now.entries)
          (subst (λ (d : Controller). slice_get d.entries c.loop-place.place ≡ None) c.self.view_is (sym w.in_default.ensures)) c.loop-place.invariant
    ]

pub returns-clause-rising : goal.returns-clause-rising
returns-clause-rising c = subst (λ (d : Controller). AreRising d.entries) c.self.view_is c.len-place-end.ensures.kept.rising

pub returns-in_err-plan_one-clause-memory : goal.returns-in_err-plan_one-clause-memory
returns-in_err-plan_one-clause-memory c =
    of_err c.from_residual.result
    (any_due c.args.cause.now c.args.self.now.settings.timers c.args.self.now.entries c.loop-place.place c.in-Some.entry.now (map planned_for c.loop-place.planned.items) (all_due c.args.cause.now c.args.self.now.settings.timers c.args.self.now.entries)
    (subst (λ (d : Controller). slice_get d.entries c.loop-place.place ≡ Some c.in-Some.entry.now) c.self.view_is (sym c.in-Some.ensures))
    (λ none. c.in_err-plan_one.ensures.memory (ap (λ (s : Connection). due_of c.args.cause.now c.args.self.now.settings.timers s) c.connection.ensures ∙ none)) c.loop-place.invariant)
