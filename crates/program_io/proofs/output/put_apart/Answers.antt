-- SPDX-License-Identifier: MIT OR Apache-2.0
use Rattle.std.proofs.Common.{subst, take}
use Rattle.std.specs.Io.KnownBytes.{Appends}
use Rattle.program_io.specs.Output.{AppendsBeginning}
use Rattle.program_io.proofs.Putting.{begins_part, puts_failed, puts_last, puts_more}
use Rattle.program_io.proofs.output.put_apart.Goals as goal

pub returns-in_err-put : goal.returns-in_err-put
returns-in_err-put g c =
    let old = g.W.Write.contents c.args.output.now in
    let mid = g.W.Write.contents c.loop-size.output in
    let new = g.W.Write.contents c.put.new.output in
    let begun : AppendsBeginning mid new (take c.min.result c.loop-size.rest.now) =
    subst (AppendsBeginning mid new) {y = take c.min.result c.loop-size.rest.now} c.split_at.ensures.front c.in_err-put.ensures in
    puts_failed c.from_residual.result _ _ _ _ c.from_residual.ensures.1
    (begins_part c.args.octets.now c.loop-size.rest.now c.min.result old mid new c.loop-size.invariant begun)

pub loop-size-preserved : goal.loop-size-preserved
loop-size-preserved g c =
    let old = g.W.Write.contents c.args.output.now in
    let mid = g.W.Write.contents c.loop-size.output in
    let new = g.W.Write.contents c.put.new.output in
    let wrote : Appends mid new (take c.min.result c.loop-size.rest.now) =
    subst (Appends mid new) {y = take c.min.result c.loop-size.rest.now} c.split_at.ensures.front c.in_ok-put.ensures in
    puts_more c.args.octets.now c.loop-size.rest.now c.split_at.result.1.now c.min.result old mid new c.loop-size.invariant wrote
    c.split_at.ensures.back

pub returns : goal.returns
returns g c =
    let old = g.W.Write.contents c.args.output.now in
    let mid = g.W.Write.contents c.loop-size.output in
    puts_last c.put-2.result c.args.octets.now c.loop-size.rest.now old mid (g.W.Write.contents c.put-2.new.output)
    c.loop-size.invariant c.put-2.ensures
