-- SPDX-License-Identifier: MIT OR Apache-2.0
use Rattle.world_laws.proofs.AcksBegin.{acks_begin_new}
use Rattle.world_laws.proofs.laws.acknowledgements_begin.Goals as goal

pub returns : goal.returns
returns c = acks_begin_new
