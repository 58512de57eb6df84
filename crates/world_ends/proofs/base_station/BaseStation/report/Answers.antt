-- SPDX-License-Identifier: MIT OR Apache-2.0
use Rattle.std.proofs.Common.{List, ℕ, None, Some, sym, subst}
use Rattle.rsl_codec.specs.declared.rsl.Rsl.TheVariants.{MeasurementResult}
use Rattle.world_ends.specs.Written.{IsWritten}
use Rattle.world_ends.proofs.Written.{report_written}
use Rattle.world_ends.proofs.base_station.BaseStation.report.Goals as goal

pub tell-requires-clause-written : goal.tell-requires-clause-written
tell-requires-clause-written c =
    subst (λ (l3 : List ℕ). IsWritten (MeasurementResult (record { channel = c.args.channel; number = record { 0 = c.reports.result }; uplink = None; bs_power = None; l1 = None; l3 = Some l3 })))
    (sym c.in_ok-l3.ensures) (report_written c.args.channel c.reports.result c.args.report.now c.requires)
