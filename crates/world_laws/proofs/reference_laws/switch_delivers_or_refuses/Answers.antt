-- SPDX-License-Identifier: MIT OR Apache-2.0
use Rattle.world_laws.proofs.References.Heard.{switch_delivers_or_refuses_new}
use Rattle.world_laws.proofs.reference_laws.switch_delivers_or_refuses.Goals as goal

pub returns : goal.returns
returns c = switch_delivers_or_refuses_new
