-- SPDX-License-Identifier: MIT OR Apache-2.0
use Rattle.std.proofs.Common.{ap, length, sym}
use Rattle.ipa_framing.proofs.Stream.{splits_behind, splits_end}
use Rattle.ipa_framing.proofs.framer.Framer.rest.Goals as goal

pub loop-frame-preserved : goal.loop-frame-preserved
loop-frame-preserved c = λ frames rest splits.
    let front = rw c.in-Ok-Some.field-0-is at c.in-Ok-Some.ensures.found in
    let so_far = c.loop-frame.invariant frames rest splits in
    splits_behind _ so_far.0 rest _ (sym front) so_far.1

pub returns-in-Ok-None : goal.returns-in-Ok-None
returns-in-Ok-None c = λ frames rest splits.
    let front = rw c.in-Ok-None.field-0-is at c.in-Ok-None.ensures.found in
    let so_far = c.loop-frame.invariant frames rest splits in
    ap length (splits_end _ so_far.0 rest (λ found e. absurd (cc (e, front))) so_far.1)

pub returns-in-Err : goal.returns-in-Err
returns-in-Err c = λ frames rest splits.
    let so_far = c.loop-frame.invariant frames rest splits in
    ap length (splits_end _ so_far.0 rest (λ found e. absurd (cc (e, c.in-Err.ensures.found))) so_far.1)
