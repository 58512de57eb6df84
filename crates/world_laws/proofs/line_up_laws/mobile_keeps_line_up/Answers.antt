-- SPDX-License-Identifier: MIT OR Apache-2.0
use Rattle.world_laws.proofs.LineUp.Moving.{alive_mobile}
use Rattle.world_laws.proofs.line_up_laws.mobile_keeps_line_up.Goals as goal

pub returns : goal.returns
returns c m before after step alive = alive_mobile step alive
