-- SPDX-License-Identifier: MIT OR Apache-2.0
use Rattle.world_laws.proofs.References.Heard.{dropped_are_unheard_new}
use Rattle.world_laws.proofs.reference_laws.dropped_are_unheard.Goals as goal

pub returns : goal.returns
returns c = dropped_are_unheard_new
