-- SPDX-License-Identifier: MIT OR Apache-2.0
use Rattle.std.proofs.Common.{sym}
use Rattle.bssmap_codec.proofs.Options.{option_shorter, data_kept, data_here, data_on}
use Rattle.bssmap_codec.proofs.pointers.data.Goals as goal

pub returns-then-found-eq-USER_DATA : goal.returns-then-found-eq-USER_DATA
returns-then-found-eq-USER_DATA c =
    let is = rw c.in-Ok-Some.field-0-is at c.in-Ok-Some.ensures in
    data_here _ _ _ _ _ is c.loop-found.invariant c.if-found-eq-USER_DATA.true

pub loop-found-smaller : goal.loop-found-smaller
loop-found-smaller c =
    let is = rw c.in-Ok-Some.field-0-is at c.in-Ok-Some.ensures in
    option_shorter _ _ (sym is)

pub loop-found-preserved : goal.loop-found-preserved
loop-found-preserved c =
    let is = rw c.in-Ok-Some.field-0-is at c.in-Ok-Some.ensures in
    data_on _ _ _ _ _ is c.loop-found.invariant c.if-found-eq-USER_DATA.false

pub returns-in-Ok-None : goal.returns-in-Ok-None
returns-in-Ok-None c = let is = rw c.in-Ok-None.field-0-is at c.in-Ok-None.ensures in data_kept _ _ _ is c.loop-found.invariant

pub returns-in-Err : goal.returns-in-Err
returns-in-Err c = data_kept _ _ _ c.in-Err.ensures c.loop-found.invariant
