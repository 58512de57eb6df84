-- SPDX-License-Identifier: MIT OR Apache-2.0
use Rattle.world_laws.proofs.References.Always.{names_always_agree_new}
use Rattle.world_laws.proofs.reference_laws.names_agree.Goals as goal

pub returns : goal.returns
returns c = names_always_agree_new
