-- SPDX-License-Identifier: MIT OR Apache-2.0
-- The frames that are to be sent, as a list, and the room for more.
use Rattle.std.specs.Prelude.{ℕ, List}
use Rattle.conn_messages.specs.declared.out.Out.{Out}
use Rattle.ipa_framing.specs.Frame.{IsFrame}

pub record OutputsState : Type 0 where
  pub outs : List Out
  -- The number of frames that can be appended without allocation.
  pub spare : ℕ

-- A link can carry the frame: its body has at most 2048 octets.
abbrev pub IsSendable : Out → Type 0
IsSendable out = IsFrame out.frame
