-- SPDX-License-Identifier: MIT OR Apache-2.0
use Rattle.std.proofs.Common.{arith}
use Rattle.controller_model.specs.LifeLaws.Sending.{IsOctetStep}
use Rattle.controller.proofs.InOctets.{none_left, one_more}
use Rattle.controller.proofs.of_octets.arrive_in_octets.Goals as goal

pub loop-step-init : goal.loop-step-init
loop-step-init c all = all

pub loop-step-preserved : goal.loop-step-preserved
loop-step-preserved c =
    one_more IsOctetStep c.args.steps.now c.loop-step.step-index c.step-item.result c.loop-step-test.true c.step-item.is c.arrives_in_octets.ensures c.loop-step.invariant

pub returns : goal.returns
returns c = c.loop-step.invariant (none_left IsOctetStep c.loop-step.step-index c.args.steps.now (omega arith))
