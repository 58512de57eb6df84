-- SPDX-License-Identifier: MIT OR Apache-2.0
use Rattle.octets.proofs.Walks.{cut_front}
use Rattle.octets.proofs.element.is_cut.Goals as goal

pub loop-found-preserved : goal.loop-found-preserved
loop-found-preserved c = let is = rw c.in-Ok-Some.field-0-is at c.in-Ok-Some.ensures in cut_front _ _ _ _ is c.loop-found.invariant

pub returns-in-Ok-None : goal.returns-in-Ok-None
returns-in-Ok-None c = let is = rw c.in-Ok-None.field-0-is at c.in-Ok-None.ensures in cut_front _ _ _ _ is c.loop-found.invariant

pub returns-in-Err : goal.returns-in-Err
returns-in-Err c = cut_front _ _ _ _ c.in-Err.ensures c.loop-found.invariant
