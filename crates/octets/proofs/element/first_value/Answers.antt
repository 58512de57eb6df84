-- SPDX-License-Identifier: MIT OR Apache-2.0
use Rattle.std.proofs.Common.{◌∙◌, sym}
use Rattle.octets.specs.Element.{element}
use Rattle.octets.proofs.Walks.{first_front, first_here, first_behind}
use Rattle.octets.proofs.element.first_value.Goals as goal

pub returns-then-found-id : goal.returns-then-found-id
returns-then-found-id c =
    let is = rw c.in-Ok-Some.field-0-is at c.in-Ok-Some.ensures in
    sym (first_here (element c.in-Ok-Some.found.id c.in-Ok-Some.found.value.now) _ _ c.if-found-id.true) ∙ first_front _ _ _ _ _ is c.loop-found.invariant

pub loop-found-preserved : goal.loop-found-preserved
loop-found-preserved c =
    let is = rw c.in-Ok-Some.field-0-is at c.in-Ok-Some.ensures in
    sym (first_behind (element c.in-Ok-Some.found.id c.in-Ok-Some.found.value.now) _ _ c.if-found-id.false) ∙ first_front _ _ _ _ _ is c.loop-found.invariant

pub returns-in-Ok-None : goal.returns-in-Ok-None
returns-in-Ok-None c = let is = rw c.in-Ok-None.field-0-is at c.in-Ok-None.ensures in first_front _ _ _ _ _ is c.loop-found.invariant

pub returns-in-Err : goal.returns-in-Err
returns-in-Err c = first_front _ _ _ _ _ c.in-Err.ensures c.loop-found.invariant
