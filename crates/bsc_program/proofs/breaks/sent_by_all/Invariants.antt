-- SPDX-License-Identifier: MIT OR Apache-2.0
use Rattle.world.specs.Views.{sent_list}
use Rattle.bsc_program.proofs.Counting.{CountsUpTo}
use Rattle.bsc_program.proofs.breaks.sent_by_all.Given as goal

abbrev pub invariant-loop-mobile : goal.invariant-loop-mobile
invariant-loop-mobile l = CountsUpTo (sent_list l.world.scene) l.mobile l.count
