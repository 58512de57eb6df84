-- SPDX-License-Identifier: MIT OR Apache-2.0
use Rattle.std.proofs.Common.{◌∙◌, ap, get_or, refl}
use Rattle.run_judge.proofs.Dues.{all-optional, optional-step}
use Rattle.run_judge.proofs.stream.make_optional.Goals as goal

pub loop-d-preserved : goal.loop-d-preserved
loop-d-preserved c =
    optional-step c.loop-d.d-index _ c.args.due.now c.loop-d.due (get_or c.loop-d.due c.loop-d.d-index c.d-item.result) c.loop-d-test.true c.loop-d.invariant
    (ap (λ d. get_or c.loop-d.due c.loop-d.d-index d) c.d-item.is) refl

pub returns : goal.returns
returns c = c.loop-d.invariant ∙ all-optional c.loop-d.d-index c.args.due.now c.loop-d-test.false
