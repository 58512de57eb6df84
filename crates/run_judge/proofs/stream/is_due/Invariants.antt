-- SPDX-License-Identifier: MIT OR Apache-2.0
use Rattle.std.proofs.Common.{◌≡◌, drop}
use Rattle.run_judge.specs.Flow.{is_due}
use Rattle.run_judge.proofs.stream.is_due.Given as goal

abbrev pub invariant-loop-place : goal.invariant-loop-place
invariant-loop-place l = is_due l.message (drop l.place l.due.items) ≡ is_due l.message l.due.items
