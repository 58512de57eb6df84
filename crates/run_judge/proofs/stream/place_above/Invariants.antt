-- SPDX-License-Identifier: MIT OR Apache-2.0
use Rattle.std.proofs.Common.{◌≡◌, ◌+◌, drop, ltb}
use Rattle.std.specs.List.{position_or_len}
use Rattle.run_judge.proofs.stream.place_above.Given as goal

abbrev pub invariant-loop-place : goal.invariant-loop-place
invariant-loop-place l =
    l.place + position_or_len (λ d. ltb l.rank d.rank) (drop l.place l.due.items) ≡ position_or_len (λ d. ltb l.rank d.rank) l.due.items
