-- SPDX-License-Identifier: MIT OR Apache-2.0
use Rattle.std.proofs.Common.{◌≡◌}
use Rattle.run_judge.proofs.Dues.{front_optional}
use Rattle.run_judge.proofs.stream.make_optional.Given as goal

abbrev pub invariant-loop-d : goal.invariant-loop-d
invariant-loop-d l = l.due ≡ front_optional l.d-index l.initial.due
