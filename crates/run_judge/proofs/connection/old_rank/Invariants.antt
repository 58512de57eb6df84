-- SPDX-License-Identifier: MIT OR Apache-2.0
use Rattle.std.proofs.Common.{◌≡◌, drop}
use Rattle.run_judge.specs.Connection.{old_rank}
use Rattle.run_judge.proofs.connection.old_rank.Given as goal

abbrev pub invariant-loop-tenure : goal.invariant-loop-tenure
invariant-loop-tenure l = old_rank l.at (drop l.tenure-index l.tenures) ≡ old_rank l.at l.tenures
