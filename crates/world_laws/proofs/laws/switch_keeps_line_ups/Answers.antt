-- SPDX-License-Identifier: MIT OR Apache-2.0
use Rattle.world_laws.proofs.SwitchTakes.{switch_keeps_line_ups_new}
use Rattle.world_laws.proofs.laws.switch_keeps_line_ups.Goals as goal

pub returns : goal.returns
returns c = switch_keeps_line_ups_new
