-- SPDX-License-Identifier: MIT OR Apache-2.0
use Rattle.std.proofs.Common.{◌∙◌, ap, refl, subst, sym}
use Rattle.program_io.proofs.Putting.{PutsSome, puts_kept, puts_more}
use Rattle.program_io.proofs.Lists.{all_of}
use Rattle.program_io.proofs.output.put_all.Goals.{in-Ok, in-Err}
use Rattle.program_io.proofs.output.put_all.Goals as goal

pub loop-preserved : goal.loop-preserved
loop-preserved g c =
    let old = g.W.Write.contents c.args.output.now in
    let mid = g.W.Write.contents c.loop.output in
    let new = g.W.Write.contents c.write.new.self in
    elim c.match-write.branch [
      | in-Ok w ↦
          puts_more c.args.octets.now c.loop.rest.now c.match-write.rest.now w.in-Ok.count old mid new c.loop.invariant w.in-Ok.ensures.bytes
          (ap (λ b. b.now) w.rest-is ∙ all_of c.loop.rest.now w.in-Ok.count _ refl)
      | in-Err w ↦
          subst (λ b. PutsSome c.args.octets.now b.now old new) (sym w.rest-is) (puts_kept c.args.octets.now c.loop.rest.now old mid new c.loop.invariant w.in-Err.ensures.bytes)
    ]
