-- SPDX-License-Identifier: MIT OR Apache-2.0
use Rattle.std.proofs.Common.{drop}
use Rattle.std.specs.List.{AllByRecursion}
use Rattle.controller_model.specs.LifeLaws.Sending.{IsOctetStep}
use Rattle.controller.proofs.of_octets.arrive_in_octets.Given as goal

-- all carry octets only, where those that are left do
abbrev pub invariant-loop-step : goal.invariant-loop-step
invariant-loop-step l = AllByRecursion IsOctetStep (drop l.step-index l.steps) → AllByRecursion IsOctetStep l.steps
