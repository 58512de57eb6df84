-- SPDX-License-Identifier: MIT OR Apache-2.0
use Rattle.controller.proofs.Prelude.{◌≡◌, map, ap, subst, sym, ◌∙◌, AllByRecursion, ConnectionsState, IsBelow, all_aged}
use Rattle.controller.proofs.Carrying.{tick_done, tick_ready}
use Rattle.controller.proofs.One.{below_aged}
use Rattle.controller.proofs.controller.Controller.tick.Goals as goal
use Rattle.controller.specs.contracts.controller.Controller.{the_view}
use Rattle.controller.specs.Many.{planned_for}

pub invariant_of-self : goal.invariant_of-self
invariant_of-self c = record {
  settings = ap (λ (s : ConnectionsState). s.settings) c.age.ensures ∙ c.self.invariant.settings;
  links = c.self.invariant.links;
  below =
      subst (λ (s : ConnectionsState). AllByRecursion (IsBelow c.self.inside.next_number) s.entries) (sym c.age.ensures)
      (below_aged c.self.inside.next_number c.args.ms c.self.inside.connections.entries c.self.invariant.below);
  numbers = c.self.invariant.numbers;
}

pub carry_out-requires-clause-ready : goal.carry_out-requires-clause-ready
carry_out-requires-clause-ready c =
    let aged : the_view (record c.self.inside { connections = c.age.new.self }) ≡ all_aged c.args.ms c.args.self.now =
    ap (λ (s : ConnectionsState). the_view (record c.self.inside { connections = s })) c.age.ensures ∙ ap (all_aged c.args.ms) c.self.view_is in
    tick_ready c.args.ms c.args.self.now (the_view (record c.self.inside { connections = c.age.new.self })) (map planned_for c.in_ok-planned.planned.items) c.in_ok-planned.ensures.rising c.in_ok-planned.ensures.planned aged

pub returns-clause-ok : goal.returns-clause-ok
returns-clause-ok c =
    let aged : the_view (record c.self.inside { connections = c.age.new.self }) ≡ all_aged c.args.ms c.args.self.now =
    ap (λ (s : ConnectionsState). the_view (record c.self.inside { connections = s })) c.age.ensures ∙ ap (all_aged c.args.ms) c.self.view_is in
    tick_done c.args.ms c.args.self.now (the_view (record c.self.inside { connections = c.age.new.self })) c.carry_out.new.self (map planned_for c.in_ok-planned.planned.items) c.args.outputs.now.outs c.plan_with_room.new.outputs.outs c.carry_out.new.outputs.outs
    c.in_ok-planned.ensures.rising c.in_ok-planned.ensures.planned aged c.plan_with_room.ensures.outs c.carry_out.ensures
