-- SPDX-License-Identifier: MIT OR Apache-2.0
use Rattle.std.proofs.Common.{[], ◌∷◌, ◌++◌, reverse, sym, ap, ◌∙◌, subst, append-nil}
use Rattle.std.proofs.lemmas.List.{reverse-reverse}
use Rattle.controller_worker.proofs.Outputs.{SomeAll, all_none, first_of_reversed, next_done, open_both, open_none, some_all_both}
use Rattle.controller_worker.proofs.sending.send_all.Goals as goal

pub loop-out-init : goal.loop-out-init
loop-out-init g c = (
  c.requires,
  ([], ap (λ o. reverse o.outs) c.reverse.ensures ∙ reverse-reverse c.args.outputs.now.outs, ([], all_none c.args.putters.now.items c.args.marks.now.items)),
  λ h. open_none c.args.putters.now.items,
)

pub loop-out-preserved : goal.loop-out-preserved
loop-out-preserved g c =
    let count = c.loop-out.invariant.0 in
    let so_far = c.loop-out.invariant.1 in
    let sent = c.send_to.ensures.sent in (
      sent.1.marks ∙ count ∙ sym sent.1.count,
      (
        so_far.0 ++ c.in-Some.out ∷ [],
        next_done so_far.0 c.in-Some.out (reverse c.loop-out.outputs.outs) (reverse c.pop.new.self.outs) c.args.outputs.now.outs so_far.1
            (first_of_reversed c.loop-out.outputs.outs c.pop.new.self.outs c.in-Some.out c.in-Some.ensures),
        some_all_both c.args.putters.now.items c.args.marks.now.items c.loop-out.putters.items c.loop-out.marks.items c.send_to.new.putters.items c.send_to.new.marks.items so_far.0
            (c.in-Some.out ∷ []) so_far.2 sent,
      ),
      λ h.
          open_both c.args.putters.now.items c.loop-out.putters.items c.send_to.new.putters.items (c.loop-out.invariant.2 (c.and-sent.ensures.gives_up h).0) (c.send_to.ensures.remain (c.and-sent.ensures.gives_up h).1),
    )

pub returns-clause-sent : goal.returns-clause-sent
returns-clause-sent g c =
    let so_far = c.loop-out.invariant.1 in
    subst (λ os. SomeAll c.args.putters.now.items c.args.marks.now.items os c.loop-out.putters.items c.loop-out.marks.items)
    (sym (append-nil so_far.0) ∙ ap (λ os. so_far.0 ++ reverse os) (sym c.in_default.ensures.0) ∙ so_far.1) so_far.2
