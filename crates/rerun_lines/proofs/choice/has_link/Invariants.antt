-- SPDX-License-Identifier: MIT OR Apache-2.0
use Rattle.std.proofs.Common.{◌≡◌, drop}
use Rattle.rerun_lines.specs.Chosen.{has_link}
use Rattle.rerun_lines.proofs.choice.has_link.Given as goal

abbrev pub invariant-loop-out : goal.invariant-loop-out
invariant-loop-out l = has_link l.link (drop l.out-index l.outs) ≡ has_link l.link l.outs
