-- SPDX-License-Identifier: MIT OR Apache-2.0
-- All steps of the line-up of a connection that lives, one after the other.
use Rattle.std.specs.Prelude.{ℕ}
use Rattle.world_laws.specs.LineUp.Places.{LineUp}
use Rattle.world_laws.specs.LineUp.MobileStep.{MobileStep}
use Rattle.world_laws.specs.LineUp.RelayStep.{RelayStep}
use Rattle.world_laws.specs.LineUp.ChangeStep.{ChangeStep}
use Rattle.world_laws.specs.LineUp.BreakStep.{BreakStep}

pub data Step (m : ℕ) : LineUp → LineUp → Type 0 where
  by_mobile : {before after : LineUp} → MobileStep m before after → Step m before after
  by_relaying : {before after : LineUp} → RelayStep before after → Step m before after
  by_change : {before after : LineUp} → ChangeStep before after → Step m before after
  by_break : {before after : LineUp} → BreakStep before after → Step m before after

pub data Steps (m : ℕ) : LineUp → LineUp → Type 0 where
  none : (l : LineUp) → Steps m l l
  first : {before next after : LineUp} → Step m before next → Steps m next after
      → Steps m before after
