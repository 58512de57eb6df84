-- SPDX-License-Identifier: MIT OR Apache-2.0
use Rattle.std.proofs.Common.{[], ◌∷◌, ◌++◌, sym, subst}
use Rattle.controller_worker.specs.Advancing.{SendsSome}
use Rattle.controller_worker.proofs.Outboxes.{sends_dropped, sends_queued, some_both}
use Rattle.controller_worker.proofs.sending.send.Goals as goal
use Rattle.controller_worker.proofs.sending.send.Goals.{then-is_first, else-is_first}

pub returns-then-is_given_up : goal.returns-then-is_given_up
returns-then-is_given_up g c =
    some_both c.args.putter.now c.make_room.new.putter c.make_room.new.putter c.args.waiting.now [] c.make_room.new.waiting (c.args.frame ∷ []) c.make_room.new.waiting c.make_room.ensures.sends
    (0, sends_dropped c.make_room.new.putter c.make_room.new.waiting (c.args.frame ∷ []) (sym c.if-is_given_up.ensures))

pub returns : goal.returns
returns g c =
    let queued : SendsSome c.args.putter.now c.args.waiting.now (c.args.frame ∷ []) c.make_room.new.putter c.push.new.self =
    subst (λ l. SendsSome c.args.putter.now c.args.waiting.now (c.args.frame ∷ []) c.make_room.new.putter l) (sym c.push.ensures)
    (some_both c.args.putter.now c.make_room.new.putter c.make_room.new.putter c.args.waiting.now [] c.make_room.new.waiting (c.args.frame ∷ [])
    (c.make_room.new.waiting ++ c.args.frame ∷ []) c.make_room.ensures.sends (0, sends_queued c.make_room.new.putter c.make_room.new.waiting (c.args.frame ∷ []) (sym c.if-is_given_up.ensures))) in
    elim c.if-is_first.branch [
      | then-is_first w ↦
          subst (λ l. SendsSome c.args.putter.now c.args.waiting.now (c.args.frame ∷ []) c.if-is_first.putter l) (sym w.waiting-is)
          (subst (λ y. SendsSome c.args.putter.now c.args.waiting.now (c.args.frame ∷ []) y w.try_first.new.waiting) (sym w.putter-is)
          (some_both c.args.putter.now c.make_room.new.putter w.try_first.new.putter c.args.waiting.now (c.args.frame ∷ []) c.push.new.self [] w.try_first.new.waiting queued w.try_first.ensures))
      | else-is_first w ↦
          subst (λ l. SendsSome c.args.putter.now c.args.waiting.now (c.args.frame ∷ []) c.if-is_first.putter l) (sym w.waiting-is)
          (subst (λ y. SendsSome c.args.putter.now c.args.waiting.now (c.args.frame ∷ []) y c.push.new.self) (sym w.putter-is) queued)
    ]
