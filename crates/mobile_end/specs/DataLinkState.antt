-- SPDX-License-Identifier: MIT OR Apache-2.0
-- The data link of one SAPI: the message in the air, and the waiting messages, in order.
use Rattle.std.specs.Prelude.{ℕ, List}
use Rattle.link_model.specs.declared.air_link.Air.{Air}

pub record DataLinkState : Type 0 where
  pub waiting : List (List ℕ)
  pub air : Air
