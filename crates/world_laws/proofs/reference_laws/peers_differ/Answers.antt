-- SPDX-License-Identifier: MIT OR Apache-2.0
use Rattle.world_laws.proofs.References.Always.{peers_differ_new}
use Rattle.world_laws.proofs.reference_laws.peers_differ.Goals as goal

pub returns : goal.returns
returns c = peers_differ_new
