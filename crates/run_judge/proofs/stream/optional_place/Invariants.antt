-- SPDX-License-Identifier: MIT OR Apache-2.0
use Rattle.std.proofs.Common.{◌≡◌, drop}
use Rattle.run_judge.specs.Flow.{among_optional}
use Rattle.run_judge.proofs.stream.optional_place.Given as goal

abbrev pub invariant-loop-place : goal.invariant-loop-place
invariant-loop-place l = among_optional l.message (drop l.place l.due.items) ≡ among_optional l.message l.due.items
