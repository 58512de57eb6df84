-- SPDX-License-Identifier: MIT OR Apache-2.0
use Rattle.std.proofs.Common.{subst}
use Rattle.std.specs.Io.KnownBytes.{Appends}
use Rattle.bsc_program.specs.Report.{not_taken_line}
use Rattle.bsc_program.proofs.Reporting.{report_is}
use Rattle.bsc_program.proofs.report.write_report.Goals as goal

pub returns-clause-ok : goal.returns-clause-ok
returns-clause-ok g c =
    let mid = g.W.Write.contents c.write_each_connection.new.output in
    report_is c.args.world.now (g.W.Write.contents c.args.output.now) (g.W.Write.contents c.write_each_mobile.new.output) mid
    (g.W.Write.contents c.writeln.new.self) (g.W.Write.contents c.flush.new.self)
    c.in_ok-write_each_mobile.ensures.ok c.in_ok-write_each_connection.ensures.ok
    (subst (λ n. Appends mid (g.W.Write.contents c.writeln.new.self) (not_taken_line n)) c.not_taken-not_taken.ensures c.in_ok-writeln.ensures.bytes) c.in_ok-flush.ensures.bytes
