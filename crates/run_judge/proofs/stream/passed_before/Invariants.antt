-- SPDX-License-Identifier: MIT OR Apache-2.0
use Rattle.std.proofs.Common.{◌≡◌, drop}
use Rattle.run_judge.specs.Flow.{passed_before}
use Rattle.run_judge.proofs.stream.passed_before.Given as goal

abbrev pub invariant-loop-p : goal.invariant-loop-p
invariant-loop-p l = passed_before l.message (drop l.p-index l.passed) ≡ passed_before l.message l.passed
