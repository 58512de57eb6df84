-- SPDX-License-Identifier: MIT OR Apache-2.0
use Rattle.controller.proofs.Prelude.{◌≡◌, ◌+◌, ◌<◌, ◌≤◌, length, arith, find, subst, sym, ◌∙◌, Controller, entry_of, has_number}
use Rattle.controller.proofs.Prelude.{Parameters}
use Rattle.connections.specs.Steps.{CommitsFor}
use Rattle.controller.specs.contracts.controller.Controller.{the_view}
use Rattle.controller.specs.Doing.{Turns}
use Rattle.controller.specs.Many.{IsReadyFor, PlannedState, carried_out, frames_of, planned_for}
use Rattle.controller.proofs.One.{below_commits, room_for, step_done}
use Rattle.controller.proofs.controller.Controller.carry_out_one.Goals as goal

pub invariant_of-self : goal.invariant_of-self
invariant_of-self c = record {
  settings = c.commit-made.ensures.settings ∙ c.self.invariant.settings;
  links = c.self.invariant.links;
  below =
      below_commits c.self.inside.next_number c.self.inside.connections.settings (find (has_number c.one.inside.number) c.self.inside.connections.entries) c.one.inside.plan.input c.self.inside.connections.entries c.commit-made.new.self.entries c.commit-made.result.outs
      c.commit-made.ensures.done c.self.invariant.below;
  numbers = c.self.invariant.numbers;
}

pub append-requires : goal.append-requires
append-requires c =
    let ready : IsReadyFor c.one.inside.plan.was (entry_of (the_view c.self.inside) c.one.inside.number) =
    subst (λ (d : Controller). IsReadyFor c.one.inside.plan.was (entry_of d c.one.inside.number)) (sym c.self.view_is) (subst (λ (x : PlannedState). IsReadyFor x.plan.was (entry_of c.args.self.now x.number)) (sym c.one.view_is) c.requires.ready) in
    let same : length c.commit-made.result.outs ≡ length c.one.inside.plan.outs =
    room_for c.self.inside.connections.settings (find (has_number c.one.inside.number) c.self.inside.connections.entries) c.one.inside.plan c.commit-made.result.outs c.self.inside.connections.entries c.commit-made.new.self.entries c.one.invariant ready c.commit-made.ensures.done in
    let room : frames_of (record { number = c.one.inside.number; plan = c.one.inside.plan }) ≤ c.args.outputs.now.spare = subst (λ (x : PlannedState). frames_of x ≤ c.args.outputs.now.spare) (sym c.one.view_is) c.requires.room in
    omega (arith, same, room)

pub returns-clause-turns : goal.returns-clause-turns
returns-clause-turns c =
    let byte : c.self.inside.handovers < 256 = omega arith in
    let done : CommitsFor c.self.inside.settings (find (has_number c.one.inside.number) c.self.inside.connections.entries) c.one.inside.plan.input c.self.inside.connections.entries c.commit-made.new.self.entries c.commit-made.result.outs =
    subst (λ (p : Parameters). CommitsFor p (find (has_number c.one.inside.number) c.self.inside.connections.entries) c.one.inside.plan.input c.self.inside.connections.entries c.commit-made.new.self.entries c.commit-made.result.outs) c.self.invariant.settings c.commit-made.ensures.done in
    subst (λ (x : PlannedState). Turns (carried_out c.args.self.now (planned_for x)) c.args.self.now c.follow.new.self c.args.outputs.now.outs c.append.new.self.outs) c.one.view_is
    (subst (λ (d : Controller). Turns (carried_out d (planned_for (record { number = c.one.inside.number; plan = c.one.inside.plan }))) d c.follow.new.self c.args.outputs.now.outs c.append.new.self.outs) c.self.view_is
    (step_done c.one.inside.number c.one.inside.plan.input (the_view c.self.inside) c.follow.new.self c.commit-made.result.outs c.args.outputs.now.outs c.append.new.self.outs c.commit-made.new.self.entries c.one.invariant.input byte done (λ messages sound is. c.follow.ensures messages sound (c.as_slice.ensures.outs ∙ is)) c.append.ensures.outs))

pub returns-clause-room : goal.returns-clause-room
returns-clause-room c =
    let ready : IsReadyFor c.one.inside.plan.was (entry_of (the_view c.self.inside) c.one.inside.number) =
    subst (λ (d : Controller). IsReadyFor c.one.inside.plan.was (entry_of d c.one.inside.number)) (sym c.self.view_is) (subst (λ (x : PlannedState). IsReadyFor x.plan.was (entry_of c.args.self.now x.number)) (sym c.one.view_is) c.requires.ready) in
    let same : length c.commit-made.result.outs ≡ length c.one.inside.plan.outs =
    room_for c.self.inside.connections.settings (find (has_number c.one.inside.number) c.self.inside.connections.entries) c.one.inside.plan c.commit-made.result.outs c.self.inside.connections.entries c.commit-made.new.self.entries c.one.invariant ready c.commit-made.ensures.done in
    subst (λ (x : PlannedState). c.args.outputs.now.spare ≤ c.append.new.self.spare + frames_of x) c.one.view_is (omega (arith, same, c.append.ensures.spare))
