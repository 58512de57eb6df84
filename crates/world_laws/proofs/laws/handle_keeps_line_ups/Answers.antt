-- SPDX-License-Identifier: MIT OR Apache-2.0
use Rattle.world_laws.proofs.OwnHandled.{handle_keeps_line_ups_new, time_ages_line_ups_new}
use Rattle.world_laws.proofs.laws.handle_keeps_line_ups.Goals as goal

pub returns-clause-handled : goal.returns-clause-handled
returns-clause-handled c = handle_keeps_line_ups_new

pub returns-clause-passed : goal.returns-clause-passed
returns-clause-passed c = time_ages_line_ups_new
