-- SPDX-License-Identifier: MIT OR Apache-2.0
use Rattle.std.proofs.Common.{◌≤◌, length}
use Rattle.frame_pictures.proofs.text_chart.put_line.Given as goal

abbrev pub invariant-loop-end : goal.invariant-loop-end
invariant-loop-end l = l.end ≤ length l.line

abbrev pub decreases-loop-end : goal.decreases-loop-end
decreases-loop-end l = l.end
