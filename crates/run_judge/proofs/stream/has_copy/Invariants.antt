-- SPDX-License-Identifier: MIT OR Apache-2.0
use Rattle.std.proofs.Common.{◌≡◌, drop}
use Rattle.run_judge.specs.Flow.{has_copy}
use Rattle.run_judge.proofs.stream.has_copy.Given as goal

abbrev pub invariant-loop-p : goal.invariant-loop-p
invariant-loop-p l = has_copy l.rank l.message (drop l.p-index l.passed) ≡ has_copy l.rank l.message l.passed
