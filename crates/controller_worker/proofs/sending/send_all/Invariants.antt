-- SPDX-License-Identifier: MIT OR Apache-2.0
use Rattle.std.proofs.Common.{◌≡◌, false, length, List, ◌++◌, reverse}
use Rattle.controller_worker.specs.Advancing.{RemainOpen}
use Rattle.controller_worker.proofs.Outputs.{SomeAll}
use Rattle.controller_worker.proofs.sending.send_all.Given as goal
use Rattle.conn_messages.specs.declared.out.Out.{Out}

abbrev pub invariant-loop-out : goal.invariant-loop-out
invariant-loop-out g l =
    (length l.marks.items ≡ length l.putters.items)
    × ((done : List Out) × (done ++ reverse l.outputs.outs ≡ l.fn.outputs.outs) × SomeAll l.fn.putters.items l.fn.marks.items done l.putters.items l.marks.items)
    × (l.sent.gives_up ≡ false → RemainOpen l.fn.putters.items l.putters.items)

abbrev pub decreases-loop-out : goal.decreases-loop-out
decreases-loop-out g l = length l.outputs.outs
