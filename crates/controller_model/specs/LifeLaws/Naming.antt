-- SPDX-License-Identifier: MIT OR Apache-2.0
-- The mobile that an IMMEDIATE ASSIGNMENT names.
use Rattle.std.specs.Prelude.{◌≡◌, ℕ, List, Option, Some, None}
use Rattle.std.specs.List.{AllByRecursion}
use Rattle.controller_model.specs.Prelude.{Channel, Message, outs_of, Connection, RequestReference}
use Rattle.conn_messages.specs.declared.message.Message.TheVariants.{Station}
use Rattle.conn_messages.specs.StationMessage.{immediate_assign_command}
use Rattle.controller_model.specs.LifeLaws.History.{connection_of, outs_for}
use Rattle.controller_model.specs.declared.step.Step.{Step}
use Rattle.controller_model.specs.Controller.{Controller}
use Rattle.controller_model.specs.Life.{step}
use Rattle.rsl_codec.specs.declared.rsl.Rsl.TheVariants.{ImmediateAssignCommand}

-- an IMMEDIATE ASSIGN COMMAND assigns this channel to the mobile that sent this request; true of
-- any other message
abbrev pub Names : Channel → RequestReference → Message → Type 0
Names c request (Station station (ImmediateAssignCommand i)) =
    (delay : ℕ) × (Station station (ImmediateAssignCommand i)
    ≡ immediate_assign_command c request delay)
Names c request _ = Unit {0}

abbrev pub NamesOf : Option Connection → List Message → Type 0
NamesOf None put =
    AllByRecursion (λ m. (c : Channel) (request : RequestReference) → Names c request m) put
NamesOf (Some s) put = AllByRecursion (Names s.serving s.request) put

abbrev pub SameRequest : Option Connection → Option Connection → Type 0
SameRequest (Some before) (Some after) = after.request ≡ before.request
SameRequest _ _ = Unit {0}

-- An IMMEDIATE ASSIGNMENT that a step puts for a connection assigns the connection's serving
-- channel to the mobile that sent the connection's request. The step doesn't change the request.
pub record NamesItsMobile (number : ℕ) (c : Controller) (s : Step) : Type 0 where
  pub put : List Message
  pub outs : outs_for number (step c s).outs ≡ outs_of number put
  pub names : NamesOf (connection_of c number) put
  pub keeps_request : SameRequest (connection_of c number) (connection_of (step c s).next number)
