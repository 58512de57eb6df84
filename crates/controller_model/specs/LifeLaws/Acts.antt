-- SPDX-License-Identifier: MIT OR Apache-2.0
-- What a step does to one connection.
use Rattle.std.specs.Prelude.{◌≡◌, Bool, true, fold, ℕ, ◌==◌, if◌then◌else◌, List}
use Rattle.std.specs.Prelude.{[], ◌∷◌, Option}
use Rattle.std.specs.Prelude.{Some, None}
use Rattle.controller_model.specs.Prelude.{Channel, Message, Input, State, Connection, row_of}
use Rattle.controller_model.specs.Prelude.{SWITCH_LINK, outs_of, What, RequestReference}
use Rattle.conn_messages.specs.StationMessage.{access_activation}
use Rattle.conn_rules.specs.declared.input.Input.TheVariants as inputs
use Rattle.conn_rules.specs.declared.state.State.TheVariants.{Removed}
use Rattle.conn_rules.specs.Connection.{new_connection}
use Rattle.conn_rules.specs.Steps.{Row}
use Rattle.conn_rules.specs.Timers.{after_pass}
use Rattle.controller_model.specs.declared.step.Step.{Step}
use Rattle.controller_model.specs.declared.step.Step.TheVariants.{Take, Tick}
use Rattle.controller_model.specs.declared.word.Word.{Word}
use Rattle.controller_model.specs.declared.word.Word.TheVariants.{OnChannel, Reports, OnConnection}
use Rattle.controller_model.specs.Controller.{Controller, is_up, channel_state, holder}
use Rattle.controller_model.specs.LifeLaws.History.{connection_of, outs_for}
use Rattle.controller_model.specs.Life.{break_of, step}
use Rattle.controller_model.specs.Reading.{word_of}
use Rattle.ruled_relay.specs.declared.item.What.TheVariants as whats

-- ---- what a step brings to a connection

pub data Brought : Type 0 where
  -- no input
  nothing : Brought
  -- the input of a frame
  of_frame : Input → Brought
  -- a report on some channel; if the connection has the channel, a handover may begin
  reports : Brought
  -- the input by which the break of a link is made known
  breaks : Input → Brought
  -- time passes, and timers may expire
  passes : Brought

abbrev pub if_held : ℕ → Option ℕ → Input → Brought
if_held number None input = nothing
if_held number (Some holder) input = if holder == number then of_frame input else nothing

-- What a word brings to the connection with this number. An input on a channel is for the
-- connection that has the channel.
abbrev pub brought_by : Controller → ℕ → Word → Brought
brought_by c number (OnChannel at input) = if_held number (holder (channel_state c at)) input
brought_by c number (OnConnection destination input) = if_held number (Some destination) input
brought_by c number (Reports at of report) = reports
brought_by c number _ = nothing

abbrev pub brought_with : Controller → ℕ → ℕ → What → Brought
brought_with c number source (whats.Frame frame) = brought_by c number (word_of source frame)
brought_with c number source whats.Down = breaks (break_of source)

abbrev pub brought_in : Controller → ℕ → Step → Brought
brought_in c number (Take item) =
    if is_up c item.source then brought_with c number item.source item.what else nothing
brought_in c number (Tick ms) = passes

-- ---- what a step does to a connection

abbrev pub IsTimer : Input → Type 0
IsTimer inputs.Expiry = Unit {0}
IsTimer inputs.DrainExpiry = Unit {0}
IsTimer _ = ⊥

-- the input is one that the step brings
abbrev pub IsBrought : Brought → Input → Type 0
IsBrought nothing input = ⊥
IsBrought (of_frame brought) input = input ≡ brought
IsBrought reports input = input ≡ inputs.Move
IsBrought (breaks brought) input = input ≡ brought
IsBrought passes input = IsTimer input

-- there is no connection, or for some offer no row of the connection fits the input
abbrev pub MissesOf : Input → Option Connection → Type 0
MissesOf input None = Unit {0}
MissesOf input (Some s) = (offer : Option Channel) × (row_of s input offer ≡ None)

abbrev pub FitsNone : Brought → Option Connection → Type 0
FitsNone (of_frame input) before = MissesOf input before
FitsNone (breaks input) before = MissesOf input before
FitsNone _ before = Unit {0}

-- a removed connection isn't kept
abbrev pub kept_in : State → Connection → Option Connection
kept_in Removed s = None
kept_in _ s = Some s

abbrev pub kept : Connection → Option Connection
kept s = kept_in s.state s

-- time passes, in milliseconds
abbrev pub passed : Connection → ℕ → Connection
passed s ms = after_pass ms s

abbrev pub IsAged : Connection → Connection → Type 0
IsAged old s = (times : List ℕ) × (s ≡ fold passed old times)

-- What a step does to a connection: at most one row.
pub data Acts (number next : ℕ) (up : Bool) (brought : Brought) (before : Option Connection)
    (put : List Message) (after : Option Connection) : Type 0 where
  -- the connection doesn't exist or is unchanged, and no row fits the input
  rests : put ≡ [] → after ≡ before → FitsNone brought before
      → Acts number next up brought before put after
  -- time passes
  ages : (old s : Connection) → brought ≡ passes → before ≡ Some old → IsAged old s → put ≡ []
      → after ≡ Some s → Acts number next up brought before put after
  -- the connection opens, as the next one, while the link of the switch is up
  opens : number ≡ next → up ≡ true → (channel : Channel) (request : RequestReference) (delay : ℕ)
      → brought ≡ nothing → before ≡ None → put ≡ access_activation channel ∷ []
      → after ≡ Some (new_connection number channel request delay)
      → Acts number next up brought before put after
  -- a row of the table, perhaps after time passed
  takes_row : (old s : Connection) (input : Input) (offer : Option Channel) (r : Row)
      → before ≡ Some old
      → IsAged old s → IsBrought brought input → row_of s input offer ≡ Some r → put ≡ r.outs
      → after ≡ kept r.next → Acts number next up brought before put after

-- The messages that a step puts for a connection, and what the step does to the connection.
pub record ActsOn (number : ℕ) (c : Controller) (s : Step) : Type 0 where
  pub put : List Message
  pub outs : outs_for number (step c s).outs ≡ outs_of number put
  pub acts : Acts number c.next_number (is_up c SWITCH_LINK) (brought_in c number s)
      (connection_of c number) put (connection_of (step c s).next number)
