-- SPDX-License-Identifier: MIT OR Apache-2.0
use Rattle.std.proofs.Common.{◌≡◌, List, None, find, sym, subst, ◌∙◌}
use Rattle.controller_model.specs.Controller.{Entry, has_number}
use Rattle.connections.specs.Index.{at, is_gone, listed}
use Rattle.connections.specs.Steps.{StepsFor}
use Rattle.connections.proofs.Indexed.{find_found, find_none, index_same}
use Rattle.connections.proofs.Settled.{no_step, refused_at, same_all, steps_done}
use Rattle.connections.proofs.Vacant.{vacant_same, vacant_settled}
use Rattle.connections.proofs.table.Table.step.Goals as goal

pub returns-in_default-clause-done : goal.returns-in_default-clause-done
returns-in_default-clause-done c =
    no_step c.args.cells.now c.args.number c.args.input c.args.offer c.args.self.now c.args.outputs.now.outs
    (subst (λ (es : List Entry). find (has_number c.args.number) es ≡ None) c.self.view_is
    (find_none c.self.inside.slots.slots c.self.inside.index.entries c.args.number c.self.invariant.index (sym c.key_of.ensures ∙ c.in_default.is)))

pub step_at-requires-clause-kept : goal.step_at-requires-clause-kept
step_at-requires-clause-kept c =
    (λ x is. c.requires.kept x (subst (λ (es : List Entry). find (has_number c.args.number) es ≡ at c.self.inside.slots.slots c.in-Some.key) c.self.view_is
    (find_found c.self.inside.slots.slots c.self.inside.index.entries c.args.number c.in-Some.key c.self.invariant.index (sym c.in-Some.ensures)) ∙ is))

pub invariant_of-self : goal.invariant_of-self
invariant_of-self c =
    let same = same_all c.in-Some.key c.self.inside.slots.slots c.step_at.new.slots.slots c.in_err-fits.ensures.err.others c.in_err-fits.ensures.err.changed in
    record {
      index = index_same c.self.inside.slots.slots c.step_at.new.slots.slots c.self.inside.index.entries same c.self.invariant.index;
      others = vacant_same c.self.inside.slots.slots c.step_at.new.slots.slots c.self.inside.index.entries same c.self.invariant.others;
    }

pub returns-in_err-fits-clause-memory : goal.returns-in_err-fits-clause-memory
returns-in_err-fits-clause-memory c =
    refused_at c.from_residual.result c.args.input c.args.offer (at c.self.inside.slots.slots c.in-Some.key) (find (has_number c.args.number) c.args.self.now)
    (subst (λ (es : List Entry). find (has_number c.args.number) es ≡ at c.self.inside.slots.slots c.in-Some.key) c.self.view_is
    (find_found c.self.inside.slots.slots c.self.inside.index.entries c.args.number c.in-Some.key c.self.invariant.index (sym c.in-Some.ensures)))
    c.in_err-fits.ensures.memory

pub invariant_of-self-2 : goal.invariant_of-self-2
invariant_of-self-2 c = record {
  index = (steps_done c.args.cells.now c.args.input c.args.offer c.self.inside.slots.slots c.step_at.new.slots.slots c.settle.new.slots.slots c.self.inside.index.entries c.settle.new.index.entries c.args.number c.in-Some.key c.in_ok-fits.fits c.args.outputs.now.outs c.step_at.new.outputs.outs
      c.self.invariant.index (sym c.in-Some.ensures)
      (λ x is. c.requires.kept x (subst (λ (es : List Entry). find (has_number c.args.number) es ≡ at c.self.inside.slots.slots c.in-Some.key) c.self.view_is
      (find_found c.self.inside.slots.slots c.self.inside.index.entries c.args.number c.in-Some.key c.self.invariant.index (sym c.in-Some.ensures)) ∙ is))
      c.requires.offer c.in_ok-fits.ensures.slot.others c.in_ok-fits.ensures.slot.changed c.in_ok-fits.ensures.fits c.in_ok-fits.ensures.outputs c.in_ok-fits.ensures.sound c.settle.ensures).1;
  others =
      vacant_settled (is_gone (at c.step_at.new.slots.slots c.in-Some.key)) c.self.inside.slots.slots c.step_at.new.slots.slots c.settle.new.slots.slots c.self.inside.index.entries c.settle.new.index.entries c.args.number c.in-Some.key
      (sym c.in-Some.ensures) c.in_ok-fits.ensures.slot.others c.self.invariant.others c.settle.ensures;
}

pub returns-clause-done : goal.returns-clause-done
returns-clause-done c =
    subst (λ (es : List Entry). StepsFor c.args.cells.now (find (has_number c.args.number) es) c.args.input c.args.offer c.in_ok-fits.fits es (listed c.settle.new.slots.slots c.settle.new.index.entries) c.args.outputs.now.outs c.step_at.new.outputs.outs) c.self.view_is
    (steps_done c.args.cells.now c.args.input c.args.offer c.self.inside.slots.slots c.step_at.new.slots.slots c.settle.new.slots.slots c.self.inside.index.entries c.settle.new.index.entries c.args.number c.in-Some.key c.in_ok-fits.fits c.args.outputs.now.outs c.step_at.new.outputs.outs
    c.self.invariant.index (sym c.in-Some.ensures)
    (λ x is. c.requires.kept x (subst (λ (es : List Entry). find (has_number c.args.number) es ≡ at c.self.inside.slots.slots c.in-Some.key) c.self.view_is
    (find_found c.self.inside.slots.slots c.self.inside.index.entries c.args.number c.in-Some.key c.self.invariant.index (sym c.in-Some.ensures)) ∙ is))
    c.requires.offer c.in_ok-fits.ensures.slot.others c.in_ok-fits.ensures.slot.changed c.in_ok-fits.ensures.fits c.in_ok-fits.ensures.outputs c.in_ok-fits.ensures.sound c.settle.ensures).0
