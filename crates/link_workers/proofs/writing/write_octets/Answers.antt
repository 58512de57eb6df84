-- SPDX-License-Identifier: MIT OR Apache-2.0
use Rattle.std.proofs.Common.{Ok, ◌∙◌, ap, refl, subst, sym}
use Rattle.link_workers.specs.Writing.{WritesOnce}
use Rattle.link_workers.proofs.Gathering.{PutsSome, all_of, puts_kept, puts_more}
use Rattle.link_workers.proofs.writing.write_octets.Goals.{in-Octets, in-Interrupted}
use Rattle.link_workers.proofs.writing.write_octets.Goals as goal

pub loop-preserved : goal.loop-preserved
loop-preserved g c =
    let old = g.O.Write.contents c.args.writer.now in
    let mid = g.O.Write.contents c.loop.writer in
    let new = g.O.Write.contents c.write_once.new.writer in
    elim c.match-branch-2.branch [
      | in-Octets w ↦
          let wrote = subst (λ wrote. WritesOnce mid new c.loop.rest.now (Ok wrote)) w.in-Octets.is c.in_ok-count.ensures in
          puts_more c.args.octets.now c.loop.rest.now c.match-branch-2.rest.now w.in-Octets.count old mid new c.loop.invariant wrote.2
          (ap (λ b. b.now) w.rest-is ∙ all_of c.loop.rest.now w.in-Octets.count _ refl)
      | in-Interrupted w ↦
          let kept = subst (λ wrote. WritesOnce mid new c.loop.rest.now (Ok wrote)) w.in-Interrupted.is c.in_ok-count.ensures in
          subst (λ b. PutsSome c.args.octets.now b.now old new) (sym w.rest-is) (puts_kept c.args.octets.now c.loop.rest.now old mid new c.loop.invariant kept.1)
    ]
