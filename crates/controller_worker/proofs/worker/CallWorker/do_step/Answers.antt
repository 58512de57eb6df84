-- SPDX-License-Identifier: MIT OR Apache-2.0
use Rattle.std.proofs.Common.{[], ◌∙◌, refl, sym, ap, subst, length}
use Rattle.controller_worker.specs.Advancing.{DoesStep, SendsAll, State, RemainOpen}
use Rattle.controller_worker.specs.Seen.{seen}
use Rattle.controller_worker.proofs.Outputs.{open_none}
use Rattle.controller_worker.proofs.Turns.{does_nothing, does_sent, valid_on}
use Rattle.controller_worker.proofs.worker.CallWorker.do_step.Goals as goal

pub returns-clause-ok : goal.returns-clause-ok
returns-clause-ok g c =
    let kept = c.in_ok-step_shown.ensures.kept in
    does_sent c.args.step (seen g.K.Clock.told c.args.self.now) (seen g.K.Clock.told c.send.new.self) c.step_shown.new.self.controller [] c.step_shown.new.self.outputs.outs
    c.send.ensures.sent.0 c.requires refl c.in_ok-step_shown.ensures.ok.0 c.in_ok-step_shown.ensures.ok.1
    (subst (λ (s : State). SendsAll s.putters s.marks c.step_shown.new.self.outputs.outs c.send.ensures.sent.0 c.send.new.self.putters.items c.send.new.self.marks.items) kept c.send.ensures.sent.1)
    (c.send.ensures.same ∙ ap (λ (s : State). record s { putters = c.send.new.self.putters.items; marks = c.send.new.self.marks.items }) kept)

pub send-requires : goal.send-requires
send-requires g c =
    let kept = c.in_ok-step_shown.ensures.kept in
    ap (λ (s : State). length s.marks) kept ∙ c.requires.marks ∙ sym (ap (λ (s : State). length s.putters) kept)

pub returns-clause-remain : goal.returns-clause-remain
returns-clause-remain g c = λ h. subst (λ (s : State). RemainOpen s.putters c.send.new.self.putters.items) c.in_ok-step_shown.ensures.kept (c.send.ensures.remain h)

pub returns-clause-valid : goal.returns-clause-valid
returns-clause-valid g c = valid_on c.args.step (seen g.K.Clock.told c.args.self.now) (seen g.K.Clock.told c.send.new.self) c.requires (returns-clause-ok g c)

pub returns-then-is_empty-clause-ok : goal.returns-then-is_empty-clause-ok
returns-then-is_empty-clause-ok g c =
    subst (λ after. DoesStep c.args.step (seen g.K.Clock.told c.args.self.now) after) (sym (c.put_none.ensures ∙ c.in_ok-step_shown.ensures.kept))
    (does_nothing c.args.step (seen g.K.Clock.told c.args.self.now) c.step_shown.new.self.controller [] c.step_shown.new.self.outputs.outs c.requires refl
    c.in_ok-step_shown.ensures.ok.0 c.in_ok-step_shown.ensures.ok.1 (c.if-is_empty.ensures.0 refl))

pub returns-then-is_empty-clause-remain : goal.returns-then-is_empty-clause-remain
returns-then-is_empty-clause-remain g c =
    λ h.
    subst (λ (s : State). RemainOpen c.args.self.now.putters.items s.putters) (sym (c.put_none.ensures ∙ c.in_ok-step_shown.ensures.kept)) (open_none c.args.self.now.putters.items)

pub returns-then-is_empty-clause-valid : goal.returns-then-is_empty-clause-valid
returns-then-is_empty-clause-valid g c =
    valid_on c.args.step (seen g.K.Clock.told c.args.self.now) (seen g.K.Clock.told c.put_none.new.self) c.requires (returns-then-is_empty-clause-ok g c)
