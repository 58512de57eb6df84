-- SPDX-License-Identifier: MIT OR Apache-2.0
use Rattle.world_laws.proofs.Breaks.{station_breaks_keep_line_ups_new}
use Rattle.world_laws.proofs.laws.station_breaks_keep_line_ups.Goals as goal

pub returns : goal.returns
returns c = station_breaks_keep_line_ups_new
