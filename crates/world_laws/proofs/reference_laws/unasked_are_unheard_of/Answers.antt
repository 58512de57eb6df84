-- SPDX-License-Identifier: MIT OR Apache-2.0
use Rattle.world_laws.proofs.References.Heard.{unasked_are_unheard_of_new}
use Rattle.world_laws.proofs.reference_laws.unasked_are_unheard_of.Goals as goal

pub returns : goal.returns
returns c = unasked_are_unheard_of_new
