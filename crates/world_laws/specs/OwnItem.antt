-- SPDX-License-Identifier: MIT OR Apache-2.0
-- The first item of the inbox says an input to a connection, and brings from each channel what the
-- input says.
use Rattle.std.specs.Prelude.{◌≡◌, ℕ, ◌≤◌, Bool, true, false, if◌then◌else◌}
use Rattle.std.specs.Prelude.{List, [], ◌∷◌, ◌++◌}
use Rattle.std.specs.Prelude.{Option, Some}
use Rattle.std.specs.List.{AllByRecursion}
use Rattle.world_laws.specs.Prelude.{Channel, Place, Input, Connection, IsCarried, IsValid, Row}
use Rattle.world_laws.specs.Prelude.{AreApart, IsOpen, relayed, target_in}
use Rattle.world_laws.specs.Prelude.{undone, used_channels, row_of, place_of, Zero, is_control}
use Rattle.world_laws.specs.Prelude.{DataLinkState, same_place}
use Rattle.conn_rules.specs.declared.input.Input.TheVariants as inputs
use Rattle.conn_rules.specs.Roles.{RoleStep, roles_of, step_by}
use Rattle.conn_rules.specs.Roles.RoleStep.{commands as role_commands, completes as role_completes}
use Rattle.world_laws.specs.LineUp.Alive.{Alive}
use Rattle.world_laws.specs.LineUp.ChangeStep.{after_complete}
use Rattle.world_laws.specs.LineUp.Places.{Item, Seat, flow, messages_in}
use Rattle.world_laws.specs.LineUp.Places.Item.{brought, released}
use Rattle.world_laws.specs.LineUps.{Arriving, UpLinks, is_ended}
use Rattle.world_laws.specs.OwnRow.{over}
use Rattle.world_laws.specs.OwnStep.{StillAwaits}
use Rattle.world_laws.specs.KeptLineUps.{EndsLast}
use Rattle.world_laws.specs.ToArrive.{AreLayer3, texts_of}

-- What an input brings from a channel; `text` is the text of a COMPLETE or FAILURE.
abbrev pub said_by : Input → List ℕ → Place → List Item
said_by (inputs.Dtap at Zero message) text place =
    if same_place place at then brought message ∷ [] else []
said_by (inputs.EstablishIndication at Zero (Some initial)) text place =
    if same_place place at then brought initial ∷ [] else []
said_by (inputs.Complete at change cause) text place =
    if same_place place at then brought text ∷ [] else []
said_by (inputs.Failure at change cause) text place =
    if same_place place at then brought text ∷ [] else []
said_by (inputs.ReleaseAck at) text place = if same_place place at then released ∷ [] else []
said_by _ text place = []

-- COMPLETE and FAILURE are of radio resource management; messages that are relayed aren't.
abbrev pub IsRead : Input → List ℕ → Type 0
IsRead (inputs.Dtap at Zero message) text = is_control message ≡ false
IsRead (inputs.EstablishIndication at Zero (Some initial)) text = is_control initial ≡ false
IsRead (inputs.Complete at change cause) text = is_control text ≡ true
IsRead (inputs.Failure at change cause) text = is_control text ≡ true
IsRead _ text = Unit {0}

-- The inputs of a change of channel at which the mobile isn't on the target: the target's
-- activation is acknowledged, or the mobile returned.
abbrev pub IsBesideTarget : Input → Type 0
IsBesideTarget (inputs.ActivationAck at) = Unit {0}
IsBesideTarget (inputs.Failure at change cause) = Unit {0}
IsBesideTarget _ = ⊥

-- What is on its way up from a connection's channels, before an input is taken and after it.
pub record Finds (input : Input) (text : List ℕ) (before after : Arriving)
    (s : Connection) : Type 0 where
  pub read : IsRead input text
  -- what the input brings from a channel was the first on its way from there
  pub first : (at : Place) → before at ≡ said_by input text at ++ after at
  -- nothing on its way from an old channel follows the RF CHANNEL RELEASE ACK, and no other channel
  -- brings an RF CHANNEL RELEASE ACK
  pub old_end : AllByRecursion (λ c. EndsLast (before (place_of c))) (undone s.draining)
  pub others_continue : AllByRecursion (λ c. is_ended (before (place_of c)) ≡ false)
      (s.serving ∷ target_in s.state)
  -- no message is on its way up from a target before the COMMAND, or after the mobile returned
  pub silent : IsBesideTarget input
      → AllByRecursion (λ c. messages_in (before (place_of c)) ≡ []) (target_in s.state)
  pub whole : AllByRecursion (λ c. AreLayer3 (texts_of (before (place_of c)))) (used_channels s)

-- ---- the row that fits the input

-- How many COMMANDs are on their way to the mobile before a row and after it: at most one after a
-- row that puts a COMMAND, and otherwise no more than before.
abbrev pub CommandsAfter : RoleStep → ℕ → ℕ → Type 0
CommandsAfter role_commands commands commands2 = commands2 ≤ 1
CommandsAfter _ commands commands2 = commands2 ≤ commands

-- The mobile's seat after a row: once COMPLETE was received, the target is the serving channel.
abbrev pub seat_after : RoleStep → Seat → Seat
seat_after role_completes seat = after_complete seat
seat_after _ seat = seat

-- The controller takes the input by the row that fits. The row doesn't put CR and leaves the
-- connection open.
pub record TakesInput (s : Connection) (input : Input) (offer : Option Channel) (r : Row)
    (text : List ℕ) (before after : Arriving) (commands commands2 : ℕ) : Type 0 where
  pub fits : row_of s input offer ≡ Some r
  pub remains_open : IsOpen r.next.state
  pub awaits : StillAwaits s.state r.next.state
  pub valid : IsValid s
  pub carried : IsCarried input
  pub apart : AreApart (used_channels s)
  pub finds : Finds input text before after s
  pub whole : AreLayer3 (relayed Zero r.outs)
  pub commands_after : CommandsAfter (step_by input (roles_of s)) commands commands2

-- The row keeps the connection alive, and the messages that it relays join those that wait for the
-- switch.
abbrev pub InputKeepsLineUp : ℕ → Connection → Input → Option Channel → Row → Type 0
InputKeepsLineUp m s input offer r =
    (text : List ℕ) (before after : Arriving) (up : UpLinks) (commands commands2 : ℕ)
    (seat : Seat) (sent : List (List ℕ)) (link : DataLinkState) (out taken : List (List ℕ))
    → TakesInput s input offer r text before after commands commands2
    → Alive m (over before up s sent link seat commands out taken)
    → Alive m (over after up r.next sent link
    (seat_after (step_by input (roles_of s)) seat) commands2 (out
    ++ flow (relayed Zero r.outs)) taken)
