-- SPDX-License-Identifier: MIT OR Apache-2.0
use Rattle.controller.proofs.Prelude.{◌≡◌, ◌+◌, drop}
use Rattle.std.proofs.Common.{sum_by}
use Rattle.controller.specs.Many.{frames_of}
use Rattle.controller.proofs.many.frames.Given as goal

abbrev pub invariant-loop-one : goal.invariant-loop-one
invariant-loop-one l = l.count + sum_by frames_of (drop l.one-index l.planned) ≡ sum_by frames_of l.planned
