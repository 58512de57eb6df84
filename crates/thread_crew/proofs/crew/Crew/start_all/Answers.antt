-- SPDX-License-Identifier: MIT OR Apache-2.0
use Rattle.std.proofs.Common.{[], ◌∷◌, ◌++◌, ap, ◌∙◌, append_assoc}
use Rattle.std.specs.Vec.Iter.{into_iter_items}
use Rattle.std.proofs.lemmas.List.Elements.{All-rest}
use Rattle.thread_crew.proofs.Lists.{comes}
use Rattle.thread_crew.proofs.crew.Crew.start_all.Goals as goal

pub loop-worker-preserved : goal.loop-worker-preserved
loop-worker-preserved g c =
    let so_far = c.loop-worker.invariant in
    let to_arrive = into_iter_items c.loop-worker.worker-iterator in
    let rest = into_iter_items c.next.new.self in
    let worker = c.in-Some.worker in
    let is = c.in-Some.ensures.steps.0 in
    let started = c.in_ok-start.ensures.ok in (
      tt,
      tt,
      ap (λ l. l ++ rest) started ∙ comes c.loop-worker.self to_arrive rest (c.args.self.now ++ c.args.workers.items) worker so_far.2 is,
      All-rest g.W.Worker.can_work worker rest to_arrive is so_far.3,
      (
        so_far.4.0 ++ worker ∷ [],
        started ∙ ap (λ l. l ++ worker ∷ []) so_far.4.1 ∙ append_assoc c.args.self.now so_far.4.0 (worker ∷ []),
        comes so_far.4.0 to_arrive rest c.args.workers.items worker so_far.4.2 is,
      ),
    )
