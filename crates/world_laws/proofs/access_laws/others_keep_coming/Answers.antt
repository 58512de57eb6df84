-- SPDX-License-Identifier: MIT OR Apache-2.0
use Rattle.world_laws.proofs.Access.Coming.{others_keep_coming_new}
use Rattle.world_laws.proofs.access_laws.others_keep_coming.Goals as goal

pub returns : goal.returns
returns c = others_keep_coming_new
