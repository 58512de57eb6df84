-- SPDX-License-Identifier: MIT OR Apache-2.0
use Rattle.std.proofs.Common.{◌≡◌, List, None, find, sym, subst, ◌∙◌}
use Rattle.controller_model.specs.Controller.{Entry, has_number}
use Rattle.connections.specs.Index.{at, is_gone, listed}
use Rattle.connections.specs.Steps.{CommitsFor, IsPlanFor}
use Rattle.connections.proofs.Indexed.{find_found, find_none}
use Rattle.connections.proofs.Settled.{commits_done}
use Rattle.connections.proofs.Vacant.{vacant_settled}
use Rattle.connections.proofs.table.Table.commit.Goals as goal

pub unreachable-requires : goal.unreachable-requires
unreachable-requires c =
    subst (IsPlanFor c.args.plan)
    (subst (λ (es : List Entry). find (has_number c.args.number) es ≡ None) c.self.view_is
    (find_none c.self.inside.slots.slots c.self.inside.index.entries c.args.number c.self.invariant.index (sym c.key_of.ensures ∙ c.in_default.is))) c.requires.plan

pub commit_at-outputs-requires-clause-plan : goal.commit_at-outputs-requires-clause-plan
commit_at-outputs-requires-clause-plan c =
    let found_now : find (has_number c.args.number) c.args.self.now ≡ at c.self.inside.slots.slots c.in-Some.key =
    subst (λ (es : List Entry). find (has_number c.args.number) es ≡ at c.self.inside.slots.slots c.in-Some.key) c.self.view_is
    (find_found c.self.inside.slots.slots c.self.inside.index.entries c.args.number c.in-Some.key c.self.invariant.index (sym c.in-Some.ensures)) in
    subst (IsPlanFor c.args.plan) found_now c.requires.plan

pub commit_at-outputs-requires-clause-kept : goal.commit_at-outputs-requires-clause-kept
commit_at-outputs-requires-clause-kept c =
    (λ x is. c.requires.kept x (subst (λ (es : List Entry). find (has_number c.args.number) es ≡ at c.self.inside.slots.slots c.in-Some.key) c.self.view_is
    (find_found c.self.inside.slots.slots c.self.inside.index.entries c.args.number c.in-Some.key c.self.invariant.index (sym c.in-Some.ensures)) ∙ is))

pub invariant_of-self : goal.invariant_of-self
invariant_of-self c = record {
  index = (commits_done c.args.cells.now c.args.plan.input c.self.inside.slots.slots c.commit_at-outputs.new.slots.slots c.settle.new.slots.slots c.self.inside.index.entries c.settle.new.index.entries c.args.number c.in-Some.key c.commit_at-outputs.result.outs
      c.self.invariant.index (sym c.in-Some.ensures)
      (λ x is. c.requires.kept x (subst (λ (es : List Entry). find (has_number c.args.number) es ≡ at c.self.inside.slots.slots c.in-Some.key) c.self.view_is
      (find_found c.self.inside.slots.slots c.self.inside.index.entries c.args.number c.in-Some.key c.self.invariant.index (sym c.in-Some.ensures)) ∙ is))
      c.commit_at-outputs.ensures.slot.others c.commit_at-outputs.ensures.slot.changed c.commit_at-outputs.ensures.outputs c.commit_at-outputs.ensures.sound c.settle.ensures).1;
  others =
      vacant_settled (is_gone (at c.commit_at-outputs.new.slots.slots c.in-Some.key)) c.self.inside.slots.slots c.commit_at-outputs.new.slots.slots c.settle.new.slots.slots c.self.inside.index.entries c.settle.new.index.entries c.args.number c.in-Some.key
      (sym c.in-Some.ensures) c.commit_at-outputs.ensures.slot.others c.self.invariant.others c.settle.ensures;
}

pub returns : goal.returns
returns c =
    subst (λ (es : List Entry). CommitsFor c.args.cells.now (find (has_number c.args.number) es) c.args.plan.input es (listed c.settle.new.slots.slots c.settle.new.index.entries) c.commit_at-outputs.result.outs) c.self.view_is
    (commits_done c.args.cells.now c.args.plan.input c.self.inside.slots.slots c.commit_at-outputs.new.slots.slots c.settle.new.slots.slots c.self.inside.index.entries c.settle.new.index.entries c.args.number c.in-Some.key c.commit_at-outputs.result.outs
    c.self.invariant.index (sym c.in-Some.ensures)
    (λ x is. c.requires.kept x (subst (λ (es : List Entry). find (has_number c.args.number) es ≡ at c.self.inside.slots.slots c.in-Some.key) c.self.view_is
    (find_found c.self.inside.slots.slots c.self.inside.index.entries c.args.number c.in-Some.key c.self.invariant.index (sym c.in-Some.ensures)) ∙ is))
    c.commit_at-outputs.ensures.slot.others c.commit_at-outputs.ensures.slot.changed c.commit_at-outputs.ensures.outputs c.commit_at-outputs.ensures.sound c.settle.ensures).0
