-- SPDX-License-Identifier: MIT OR Apache-2.0
use Rattle.std.proofs.Common.{sym}
use Rattle.bsc_program.proofs.Reporting.{connection_is}
use Rattle.bsc_program.proofs.report.write_connection.Goals as goal

pub returns-clause-ok : goal.returns-clause-ok
returns-clause-ok g c =
    connection_is c.args.world.now.scene c.args.connection c.in-Some-Some-Some.taken.now c.in-Some-Some-Some.accepted.now c.in-Some-Some-Some.unnumbered.now (g.W.Write.contents c.args.output.now) (g.W.Write.contents c.write_list.new.output)
    (g.W.Write.contents c.write_list-2.new.output) (g.W.Write.contents c.write_list-3.new.output) (sym c.in-Some-Some-Some.ensures) (sym c.in-Some-Some-Some.ensures') (sym c.in-Some-Some-Some.ensures'') c.in_ok-write_list.ensures.ok
    c.in_ok-write_list-2.ensures.ok c.in_ok-write_list-3.ensures.ok
