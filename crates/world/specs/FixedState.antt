-- SPDX-License-Identifier: MIT OR Apache-2.0
-- The fixed world in plain lists.
use Rattle.std.specs.Prelude.{ℕ, List}
use Rattle.mobile_end.specs.MobileState.{MobileState}
use Rattle.nsd_filter.specs.Reception.{ReceptionState}

-- the mobile, the outbox to the switch, and the messages that the switch took
pub record FixedState : Type 0 where
  pub mobile : MobileState
  pub outbox : List (List ℕ)
  pub switch : ReceptionState
