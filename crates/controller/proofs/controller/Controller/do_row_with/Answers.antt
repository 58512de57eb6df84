-- SPDX-License-Identifier: MIT OR Apache-2.0
use Rattle.controller.proofs.Prelude.{drop, length, subst, ap, ◌∙◌, entry_of}
use Rattle.controller.specs.contracts.controller.Controller.{the_view}
use Rattle.controller.specs.Doing.{Turns, by_offer}
use Rattle.controller.proofs.Stepping.{step_remains_below, step_turns, to_the_end}
use Rattle.controller.proofs.controller.Controller.do_row_with.Goals as goal

pub invariant_of-self-then-fits : goal.invariant_of-self-then-fits
invariant_of-self-then-fits c = record {
  settings = c.step.ensures.settings ∙ c.self.invariant.settings;
  links = c.self.invariant.links;
  below = step_remains_below _ _ c.args.number c.args.input c.args.offer _ _ _ _ _ c.self.invariant.below c.in_ok-fits.ensures.done;
  numbers = c.self.invariant.numbers;
}

pub returns-then-fits-clause-ok : goal.returns-then-fits-clause-ok
returns-then-fits-clause-ok c =
    subst (λ v. Turns (by_offer c.args.input c.args.offer v (entry_of v c.args.number)) v c.follow.new.self c.args.outputs.now.outs c.step.new.outputs.outs) c.self.view_is
    (step_turns c.self.inside.connections.settings (the_view c.self.inside) c.follow.new.self c.args.number c.args.input c.args.offer c.in_ok-fits.fits c.step.new.self.entries
    c.args.outputs.now.outs c.step.new.outputs.outs c.self.invariant.settings c.if-fits.true c.in_ok-fits.ensures.done
    (λ messages sound is. c.follow.ensures messages sound
    (to_the_end c.as_slice.result.now c.len-from.result ∙ ap (λ from. drop from c.as_slice.result.now) c.len-from.ensures ∙ ap (λ outs. drop (length c.args.outputs.now.outs) outs) c.as_slice.ensures.outs ∙ is)))
