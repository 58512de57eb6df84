-- SPDX-License-Identifier: MIT OR Apache-2.0
-- The channels on which a step puts the messages of a connection.
use Rattle.std.specs.Prelude.{◌≡◌, ℕ, List, [], Option, Some, None}
use Rattle.controller_model.specs.Prelude.{Message, outs_of, Connection}
use Rattle.conn_rules.specs.Putting.{ArePutOn, Using, uses_of}
use Rattle.conn_rules.specs.Roles.{channels_in_use}
use Rattle.controller_model.specs.LifeLaws.History.{connection_of, outs_for}
use Rattle.controller_model.specs.declared.step.Step.{Step}
use Rattle.controller_model.specs.Controller.{Controller}
use Rattle.controller_model.specs.Life.{step}

-- the places of the channels in use by a connection
abbrev pub used_by : Option Connection → Using
used_by None = uses_of []
used_by (Some s) = uses_of (channels_in_use s)

-- The messages that a step puts for a connection go to channels that the connection uses at that
-- moment. The connection used each of these channels before the step or activated the channel in
-- the step, and hasn't released the channel since.
pub record KeepsToChannels (number : ℕ) (c : Controller) (s : Step) : Type 0 where
  pub put : List Message
  pub outs : outs_for number (step c s).outs ≡ outs_of number put
  pub placed : ArePutOn (used_by (connection_of c number)) put
