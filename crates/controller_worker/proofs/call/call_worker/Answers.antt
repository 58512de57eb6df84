-- SPDX-License-Identifier: MIT OR Apache-2.0
use Rattle.std.proofs.Common.{◌≡◌, ℕ, vec_len, Option, None, Some, refl, sym, subst, arith}
use Rattle.link_workers.specs.declared.fault.IoFault.{IoFault}
use Rattle.link_workers.specs.declared.fault.IoFault.TheVariants as faults
use Rattle.controller_worker.specs.declared.worker.CallWorker.{CallWorker}
use Rattle.controller_worker.specs.Call.{Runs}
use Rattle.controller_worker.specs.Advancing.{State}
use Rattle.controller_worker.specs.Seen.{seen}
use Rattle.controller_worker.proofs.Runs.{parts_given, runs_part, runs_whole}
use Rattle.controller_worker.proofs.call.call_worker.Goals as goal
use Rattle.controller_worker.proofs.call.call_worker.Goals.{in-Ok, in-Err}

same_run : {K : Type 0} (told : K → ℕ) (start : State) (fault f : Option IoFault) (worker w : CallWorker K) → fault ≡ f → worker ≡ w → Runs f (parts_given start) (parts_given (seen told w))
    → Runs fault (parts_given start) (parts_given (seen told worker))
same_run told start fault f worker w is same run =
    subst (λ x. Runs x (parts_given start) (parts_given (seen told worker))) (sym is) (subst (λ v. Runs f (parts_given start) (parts_given (seen told v))) (sym same) run)

pub returns-clause-runs : goal.returns-clause-runs
returns-clause-runs g c =
    let start : State = record {
      controller = c.args.controller;
      desk = c.args.desk;
      putters = c.args.putters.items;
      marks = c.args.marks.of_links.items;
      ended = 0;
      told = g.K.Clock.told c.args.clock;
      gathered = 0;
    } in
    elim c.match-relay.branch [
      | in-Ok w ↦
          same_run g.K.Clock.told start c.match-relay.fault None c.match-relay.worker c.relay.new.self w.fault-is w.worker-is
          (runs_whole start (seen g.K.Clock.told c.relay.new.self) (vec_len c.args.putters) c.requires.new c.requires.marks refl refl w.in-Ok.ensures.course w.in-Ok.ensures.finishes
          (let e = w.in-Ok.ensures.ended in omega (arith, c.relay.new.self.putters.ok.0)))
      | in-Err w ↦
          same_run g.K.Clock.told start c.match-relay.fault (Some faults.Memory) c.match-relay.worker w.end_alone.new.self w.fault-is w.worker-is
          (runs_part faults.Memory start (seen g.K.Clock.told c.relay.new.self) (seen g.K.Clock.told w.end_alone.new.self) (vec_len c.args.putters) c.requires.new c.requires.marks refl refl w.in-Err.ensures.course
          w.end_alone.ensures.course (let e = w.end_alone.ensures.ended in omega (arith, w.end_alone.new.self.putters.ok.0)))
    ]
