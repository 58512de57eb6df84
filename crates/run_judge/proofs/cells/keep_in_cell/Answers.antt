-- SPDX-License-Identifier: MIT OR Apache-2.0
use Rattle.std.proofs.Common.{rules}
use Rattle.std.proofs.lemmas.Fn.{filter_same}
use Rattle.run_judge.specs.declared.said.StationChannel.{StationChannel}
use Rattle.run_judge.specs.Channels.{cell_at, may_be_cell}
use Rattle.run_judge.proofs.cells.keep_in_cell.Goals as goal

pub returns : goal.returns
returns c = filter_same _ (λ (at : StationChannel). may_be_cell c.args.cell.now (cell_at at.station c.args.cells.now)) _ (λ x b g called. (search rules, search rules)) _ _ c.retain.ensures.filtered
