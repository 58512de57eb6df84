-- SPDX-License-Identifier: MIT OR Apache-2.0
use Rattle.world_laws.proofs.References.Over.{over_puts_no_more_new}
use Rattle.world_laws.proofs.reference_laws.over_puts_no_more.Goals as goal

pub returns : goal.returns
returns c = over_puts_no_more_new
