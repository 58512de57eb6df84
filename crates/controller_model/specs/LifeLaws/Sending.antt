-- SPDX-License-Identifier: MIT OR Apache-2.0
-- The frames of a step: a link can carry each frame, and the frame's receiver reads the message
-- that was put.
use Rattle.std.specs.Prelude.{◌≡◌, ◌⊎◌}
use Rattle.std.specs.List.{AllByRecursion}
use Rattle.controller_model.specs.Prelude.{Message, Out, What}
use Rattle.conn_messages.specs.Out.{IsReadOf, out_of}
use Rattle.conn_messages.specs.OutputsState.{IsSendable}
use Rattle.controller_model.specs.declared.step.Step.{Step}
use Rattle.controller_model.specs.declared.step.Step.TheVariants.{Take, Tick}
use Rattle.controller_model.specs.Controller.{Controller}
use Rattle.controller_model.specs.Life.{pong, step}
use Rattle.octets.specs.Element.{AreOctets}
use Rattle.ruled_relay.specs.declared.item.What.TheVariants as whats

-- an item that arrived carries octets: numbers below 256
abbrev pub IsOfOctets : What → Type 0
IsOfOctets (whats.Frame frame) = AreOctets frame.body
IsOfOctets whats.Down = Unit {0}

abbrev pub IsOctetStep : Step → Type 0
IsOctetStep (Take item) = IsOfOctets item.what
IsOctetStep (Tick ms) = Unit {0}

-- The frame carries a message of a connection, and the frame's receiver reads that message: an RSL
-- message, a BSSAP message in a CR or DT1, or an RLC.
pub record IsMessage (out : Out) : Type 0 where
  pub message : Message
  pub put : out ≡ out_of out.conn message
  pub read : IsReadOf out.conn message out.frame.body

-- A link can carry the frame: its body has at most 2,048 octets. The frame carries a message of a
-- connection or is PONG.
pub record IsSent (out : Out) : Type 0 where
  pub fits : IsSendable out
  pub is : IsMessage out ⊎ (out ≡ pong out.to)

-- each frame of a step can be carried and read
abbrev pub SendsMessages : Controller → Step → Type 0
SendsMessages c s = AllByRecursion IsSent (step c s).outs
