-- SPDX-License-Identifier: MIT OR Apache-2.0
use Rattle.world.specs.Views.{accepted_list}
use Rattle.bsc_program.proofs.Counting.{CountsBelow}
use Rattle.bsc_program.proofs.breaks.accepted_by_all.Given as goal

abbrev pub invariant-loop-connection : goal.invariant-loop-connection
invariant-loop-connection l = CountsBelow (accepted_list l.world.scene) l.connection l.count
