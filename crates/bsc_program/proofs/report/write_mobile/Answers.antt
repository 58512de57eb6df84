-- SPDX-License-Identifier: MIT OR Apache-2.0
use Rattle.std.proofs.Common.{sym}
use Rattle.std.proofs.lemmas.Result.{on_ok_weaker}
use Rattle.bsc_program.proofs.Reporting.{mobile_is}
use Rattle.bsc_program.proofs.report.write_mobile.Goals as goal

pub returns-clause-ok : goal.returns-clause-ok
returns-clause-ok g c =
    on_ok_weaker c.write_list-2.result
    (mobile_is c.args.world.now.scene c.args.mobile c.from-number.result c.in-Some-Some.sent.now c.in-Some-Some.received.now (g.W.Write.contents c.args.output.now) (g.W.Write.contents c.write_list.new.output) (g.W.Write.contents c.write_list-2.new.output)
    c.from-number.ensures (sym c.in-Some-Some.ensures) (sym c.in-Some-Some.ensures') c.in_ok-write_list.ensures.ok)
    c.write_list-2.ensures.ok
