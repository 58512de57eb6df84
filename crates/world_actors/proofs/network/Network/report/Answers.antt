-- SPDX-License-Identifier: MIT OR Apache-2.0
use Rattle.world_actors.proofs.Prelude.{◌≡◌, sym, ◌∙◌, true, Some, subst, Takes, Actors}
use Rattle.world_model.specs.Mobiles.{after_report}
use Rattle.world_actors.specs.contracts.network.Network.{the_view}
use Rattle.world_actors.specs.Seats.{reached_by}
use Rattle.world_actors.proofs.Airing.{report_done, report_unreached, report_wants}
use Rattle.world_actors.proofs.Sitting.{reaches}
use Rattle.world_actors.proofs.network.Network.report.Goals as goal

pub returns-in_default-clause-ok : goal.returns-in_default-clause-ok
returns-in_default-clause-ok c = report_unreached c.args.self.now c.args.mobile c.args.report.now (sym c.reached_by.ensures ∙ c.in_default.is)

pub returns-in_err-report-clause-memory : goal.returns-in_err-report-clause-memory
returns-in_err-report-clause-memory c =
    report_wants c.from_residual.result c.args.self.now c.args.mobile c.args.report.now c.in-Some.tenure (reaches c.args.self.now c.args.mobile c.in-Some.tenure (sym c.reached_by.ensures ∙ c.in-Some.is)) c.if-report-ne-REPORT_LENGTH.false

pub returns-clause-ok : goal.returns-clause-ok
returns-clause-ok c =
    subst (λ (w : Actors). reached_by w c.args.mobile ≡ Some c.in-Some.tenure → Takes w (after_report w c.args.mobile c.args.report.now) true (record (the_view c.self.inside) { stations = c.report.new.self })) c.self.view_is
    (λ is. report_done (the_view c.self.inside) c.args.mobile c.args.report.now c.in-Some.tenure c.report.new.self (reaches (the_view c.self.inside) c.args.mobile c.in-Some.tenure is) c.if-report-ne-REPORT_LENGTH.false c.in_ok-report.ensures)
    (sym c.reached_by.ensures ∙ c.in-Some.is)
