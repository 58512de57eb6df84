-- SPDX-License-Identifier: MIT OR Apache-2.0
use Rattle.std.proofs.Common.{subst, ◌∙◌, ◌++◌, ◌∷◌, [], List, ◌≡◌}
use Rattle.ipa_framing.specs.declared.frame.Frame.{Frame}
use Rattle.ruled_relay.specs.Outbox.{TakesLine}
use Rattle.link_workers.specs.Writing.{having_taken, lines}
use Rattle.link_workers.proofs.Gathering.{taken_frame}
use Rattle.link_workers.proofs.writer.drop_lines.Goals.{in-Some-Frame, in-None-take}
use Rattle.link_workers.proofs.writer.drop_lines.Goals as goal

pub loop-preserved-after-take : goal.loop-preserved-after-take
loop-preserved-after-take g c =
    let some = c.loop.invariant.2 in
    let now : (frames : List Frame) × (c.take.new.self ≡ having_taken c.args.taker.now (lines frames)) =
    elim c.match-take.branch [
      | in-Some-Frame w ↦
          let frame = w.in-Some-Frame.field-0-0 in
          let taken = subst (λ line. TakesLine c.loop.taker line c.take.new.self) w.in-Some-Frame.field-0-is w.in-Some-Frame.ensures.takes in
          (some.0 ++ frame ∷ [], taken_frame c.args.taker.now c.loop.taker c.take.new.self some.0 frame some.1 taken)
      | in-None-take w ↦ (some.0, w.in-None-take.ensures.takes ∙ some.1)
    ]
    in
    (tt, tt, now)
