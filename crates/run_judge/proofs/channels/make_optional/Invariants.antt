-- SPDX-License-Identifier: MIT OR Apache-2.0
use Rattle.std.proofs.Common.{◌≡◌, ◌++◌, drop, map, take}
use Rattle.run_judge.specs.Channels.{optional_early}
use Rattle.run_judge.proofs.channels.make_optional.Given as goal

abbrev pub invariant-loop-e : goal.invariant-loop-e
invariant-loop-e l = l.early ≡ map optional_early (take l.e-index l.initial.early) ++ drop l.e-index l.initial.early
