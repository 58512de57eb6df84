-- SPDX-License-Identifier: MIT OR Apache-2.0
-- The state of a channel on which a mobile sent its initial message.
use Rattle.std.specs.Prelude.{ℕ, List}
use Rattle.run_judge.specs.declared.channels.Early.{Early}

pub record OpeningState : Type 0 where
  pub message : List ℕ
  -- the number of the frame with the initial message; once the CR was sent, that of the frame with
  -- the CR
  pub frame : ℕ
  -- the other messages that came on the channel, in the order of arrival
  pub early : List Early
