-- SPDX-License-Identifier: MIT OR Apache-2.0
use Rattle.std.proofs.Common.{◌≡◌, fold}
use Rattle.run_judge.specs.Connection.{with_early}
use Rattle.run_judge.proofs.connection.Flows.arrive_early.Given as goal

abbrev pub invariant-loop-e : goal.invariant-loop-e
invariant-loop-e l = l.self ≡ fold with_early l.initial.self l.yielded
