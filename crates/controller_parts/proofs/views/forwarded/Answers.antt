-- SPDX-License-Identifier: MIT OR Apache-2.0
use Rattle.std.proofs.Common.{ap, ◌∙◌, subst}
use Rattle.controller_model.specs.Views as views
use Rattle.controller_model.specs.Views.{to_switch}
use Rattle.controller_parts.specs.Views.{forwarded_of, PutsToSwitch}
use Rattle.controller_parts.proofs.Passed.{forwarded_cons, forwarded_nil, pushed, finished, passes}
use Rattle.controller_parts.proofs.Readable.{any_refusal}
use Rattle.controller_parts.proofs.views.forwarded.Goals as goal

pub loop-out-preserved : goal.loop-out-preserved
loop-out-preserved c = pushed (λ outs. views.forwarded outs c.args.conn) (forwarded_of c.args.conn) (forwarded_cons c.args.conn) c.as_slice-out-items.result.now c.loop-out.out-index c.out-item.result _ _ c.loop-out-test.true c.out-item.is c.loop-out.invariant c.in_ok-put_forwarded.ensures.puts

pub returns-clause-reads : goal.returns-clause-reads
returns-clause-reads c =
    finished (λ outs. views.forwarded outs c.args.conn) (forwarded_nil c.args.conn) c.as_slice-out-items.result.now c.loop-out.out-index _ c.loop-out-test.false c.loop-out.invariant
    ∙ ap (λ outs. views.forwarded outs c.args.conn) c.as_slice-out-items.ensures.outs

pub returns-in_err-put_forwarded-clause-memory : goal.returns-in_err-put_forwarded-clause-memory
returns-in_err-put_forwarded-clause-memory c =
    any_refusal c.from_residual.result (PutsToSwitch c.args.conn c.args.outputs.now.outs)
    (subst (λ outs. PutsToSwitch c.args.conn outs) c.as_slice-out-items.ensures.outs
    (passes (to_switch c.args.conn) c.as_slice-out-items.result.now c.loop-out.out-index c.out-item.result c.loop-out-test.true c.out-item.is c.in_err-put_forwarded.ensures.memory))
