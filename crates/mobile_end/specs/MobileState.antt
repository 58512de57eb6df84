-- SPDX-License-Identifier: MIT OR Apache-2.0
-- The state of a mobile.
use Rattle.std.specs.Prelude.{ℕ, List}
use Rattle.mobile_end.specs.declared.mobile_end.Place.{Place}
use Rattle.mobile_end.specs.declared.mobile_end.Stage.{Stage}
use Rattle.mobile_end.specs.DataLinkState.{DataLinkState}

-- The modulus of the numbers, whether the mobile is connected, whether the mobile is on a channel,
-- the sent list, and the data links of SAPI 0 and SAPI 3. The sent list has the messages of the
-- flow that the upper layers sent, without numbers.
pub record MobileState : Type 0 where
  pub modulus : ℕ
  pub stage : Stage
  pub place : Place
  pub sent : List (List ℕ)
  pub zero : DataLinkState
  pub three : DataLinkState
