-- SPDX-License-Identifier: MIT OR Apache-2.0
-- A cell's level is bounded by that of its frequency.
use Rattle.std.proofs.Common.{◌<◌, get_or, sym, subst}
use Rattle.dtap_codec.specs.declared.report.Report.{Report}
use Rattle.ho_decision.specs.declared.measure.Measure.{Measure}
use Rattle.ho_decision.specs.Measure.{value_of}
use Rattle.ho_decision.proofs.heard.Heard.may_have.Goals as goal

pub returns-in-NeighbourLevel : goal.returns-in-NeighbourLevel
returns-in-NeighbourLevel c =
    λ reports heard weak k d within.
    let r : Report = get_or reports k d in
    subst (λ (m : Measure). value_of m r < c.args.level) (sym c.in-NeighbourLevel.is) (c.has_level.ensures reports heard weak c.in-NeighbourLevel.bsic k d within)
