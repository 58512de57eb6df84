-- SPDX-License-Identifier: MIT OR Apache-2.0
use Rattle.std.proofs.Common.{Ok, subst, ◌∙◌, ◌++◌, ◌∷◌, []}
use Rattle.ipa_framing.specs.Framer.{Takes}
use Rattle.link_workers.proofs.Letting.{each_both}
use Rattle.link_workers.proofs.Reading.{puts_more}
use Rattle.link_workers.proofs.reader.put_frames.Goals as goal

pub returns-in_err-put-clause-each : goal.returns-in_err-put-clause-each
returns-in_err-put-clause-each g c = each_both _ _ _ c.args.gated.now.pass c.loop-frame.gated.pass c.put.new.self.pass c.loop-frame.invariant.3 c.put.ensures.each

pub loop-frame-preserved : goal.loop-frame-preserved
loop-frame-preserved g c =
    let takes = subst (λ found. Takes c.loop-frame.framer (Ok found) c.next.new.self) c.in-Some.is c.in_ok-frame.ensures in
    let some = c.loop-frame.invariant.0 in
    let put = c.in_ok-put.ensures.puts in (
      (
        some.0 ++ c.in-Some.frame ∷ [],
        puts_more c.args.framer.now.octets _ _ _ c.args.gated.now.pass c.loop-frame.gated.pass c.put.new.self.pass some.0 c.loop-frame.framer.octets c.in-Some.frame c.next.new.self.octets some.1 takes.0 put.0 put.1,
      ),
      takes.1 ∙ c.loop-frame.invariant.1,
      c.in_ok-put.ensures.same ∙ c.loop-frame.invariant.2,
      each_both _ _ _ c.args.gated.now.pass c.loop-frame.gated.pass c.put.new.self.pass c.loop-frame.invariant.3 c.put.ensures.each,
    )
