-- SPDX-License-Identifier: MIT OR Apache-2.0
use Rattle.bsc_program.proofs.Reporting.{WritesMobiles}
use Rattle.bsc_program.proofs.report.write_each_mobile.Given as goal

abbrev pub invariant-loop-mobile : goal.invariant-loop-mobile
invariant-loop-mobile g l = WritesMobiles l.world.scene l.mobile (g.W.Write.contents l.fn.output) (g.W.Write.contents l.output)
