-- SPDX-License-Identifier: MIT OR Apache-2.0
use Rattle.bsc_program.proofs.Reporting.{WritesConnections}
use Rattle.bsc_program.proofs.report.write_each_connection.Given as goal

abbrev pub invariant-loop-connection : goal.invariant-loop-connection
invariant-loop-connection g l = WritesConnections l.world.scene l.connection (g.W.Write.contents l.fn.output) (g.W.Write.contents l.output)
