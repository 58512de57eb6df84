-- SPDX-License-Identifier: MIT OR Apache-2.0
-- The messages that a connection puts for the switch, by its stage: before CR, before CC, with the
-- reference that CC gave, and after CLEAR COMPLETE.
use Rattle.std.specs.Prelude.{◌≡◌, ℕ, List, [], ◌∷◌, ◌++◌, Option, Some, None}
use Rattle.std.specs.List.{AllByRecursion}
use Rattle.world_laws.specs.Prelude.{Management, Input, State, WaitActivation, WaitEstablish}
use Rattle.world_laws.specs.Prelude.{WaitConfirm, Live, Closed, Removed}
use Rattle.world_laws.specs.Prelude.{Connection, Row}
use Rattle.bssmap_codec.specs.declared.bssmap.Bssmap.TheVariants.{ClearComplete}
use Rattle.bssmap_codec.specs.declared.bssmap.Bssmap.TheVariants.{CompleteLayer3Information}
use Rattle.bssmap_codec.specs.declared.values.CellIdentifier.{CellIdentifier}
use Rattle.conn_messages.specs.declared.message.Message.{Message}
use Rattle.conn_messages.specs.declared.message.Message.TheVariants.{Station, Request, Data}
use Rattle.conn_messages.specs.declared.message.Message.TheVariants.{ReleaseComplete}
use Rattle.conn_messages.specs.SwitchMessage.{clear_complete}
use Rattle.conn_rules.specs.declared.input.Input.TheVariants as inputs
use Rattle.conn_rules.specs.declared.state.Clearing.TheVariants.{Due, Asked as WasAsked, Complete}

-- The message is one for a station, or is RLC.
abbrev pub IsQuiet : Message → Type 0
IsQuiet (Station station message) = Unit {0}
IsQuiet (ReleaseComplete destination) = Unit {0}
IsQuiet _ = ⊥

abbrev pub AreQuiet : List Message → Type 0
AreQuiet put = AllByRecursion IsQuiet put

-- the message is a DT1 to this reference, with neither CLEAR COMPLETE nor an initial message; or it
-- is quiet (`IsQuiet`)
abbrev pub IsPlain : ℕ → Message → Type 0
IsPlain reference (Data destination (Management ClearComplete)) = ⊥
IsPlain reference (Data destination (Management (CompleteLayer3Information cell initial))) = ⊥
IsPlain reference (Data destination message) = destination ≡ reference
IsPlain reference message = IsQuiet message

abbrev pub ArePlain : ℕ → List Message → Type 0
ArePlain reference put = AllByRecursion (IsPlain reference) put

-- The messages are CR with the initial message, and nothing else.
pub record IsAsking (put : List Message) : Type 0 where
  pub cell : CellIdentifier
  pub initial : List ℕ
  pub is : put ≡ Request (Management (CompleteLayer3Information cell initial)) ∷ []

-- The messages are quiet, except the last one, a CLEAR COMPLETE to this reference.
pub record IsClearing (reference : ℕ) (put : List Message) : Type 0 where
  pub first : List Message
  pub is : put ≡ first ++ clear_complete reference ∷ []
  pub quiet : AreQuiet first

-- ---- the messages put, by the state before

-- The messages put, and the state after, from a state in which the switch hasn't been asked.
abbrev pub FromEarly : List Message → State → Type 0
FromEarly put WaitActivation = AreQuiet put
FromEarly put WaitEstablish = AreQuiet put
FromEarly put Removed = AreQuiet put
FromEarly put WaitConfirm = IsAsking put
FromEarly put _ = ⊥

-- The messages put, and the state after, from a state in which the switch was asked and hasn't
-- confirmed.
abbrev pub FromWaiting : Input → List Message → State → Type 0
FromWaiting input put WaitConfirm = AreQuiet put
FromWaiting input put (Closed (Due cause)) = AreQuiet put
FromWaiting input put Removed = AreQuiet put
FromWaiting input put (Live reference stage) =
    (input ≡ inputs.ConnectionConfirm reference) × ArePlain reference put
FromWaiting input put (Closed (WasAsked reference)) =
    (input ≡ inputs.ConnectionConfirm reference) × ArePlain reference put
FromWaiting input put _ = ⊥

-- The messages put, and the state after, from a state that has the switch's reference.
abbrev pub FromNamed : ℕ → List Message → State → Type 0
FromNamed reference put (Live own stage) = (own ≡ reference) × ArePlain reference put
FromNamed reference put (Closed (WasAsked own)) = (own ≡ reference) × ArePlain reference put
FromNamed reference put (Closed Complete) = IsClearing reference put
FromNamed reference put Removed = AreQuiet put
FromNamed reference put _ = ⊥

-- The messages put, and the state after, from the state after CLEAR COMPLETE.
abbrev pub FromCleared : List Message → State → Type 0
FromCleared put (Closed Complete) = AreQuiet put
FromCleared put Removed = AreQuiet put
FromCleared put _ = ⊥

abbrev pub From : Input → List Message → State → State → Type 0
From input put WaitActivation after = FromEarly put after
From input put WaitEstablish after = FromEarly put after
From input put WaitConfirm after = FromWaiting input put after
From input put (Closed (Due cause)) after = FromWaiting input put after
From input put (Live reference stage) after = FromNamed reference put after
From input put (Closed (WasAsked reference)) after = FromNamed reference put after
From input put (Closed Complete) after = FromCleared put after
From input put Removed after = ⊥

-- The messages that a row puts agree with the states before the row and after it.
abbrev pub IsNamedRow : Input → State → Row → Type 0
IsNamedRow input before r = From input r.outs before r.next.state

-- ---- the stage of a connection

pub data Reach : Type 0 where
  -- the switch hasn't been asked for the connection
  early : Reach
  -- the switch was asked and hasn't answered; in `due`, the switch is to be asked to clear once it
  -- answers
  waits : Reach
  due : Reach
  -- the switch gave this reference
  named : ℕ → Reach
  -- CLEAR COMPLETE was put
  cleared : Reach
  -- the connection isn't there
  gone : Reach

abbrev pub reach_in : State → Reach
reach_in WaitActivation = early
reach_in WaitEstablish = early
reach_in WaitConfirm = waits
reach_in (Live reference stage) = named reference
reach_in (Closed (Due cause)) = due
reach_in (Closed (WasAsked reference)) = named reference
reach_in (Closed Complete) = cleared
reach_in Removed = gone

abbrev pub reach_of : Option Connection → Reach
reach_of None = gone
reach_of (Some s) = reach_in s.state

-- The switch was asked for the connection and hasn't confirmed it.
abbrev pub IsUnnamed : Reach → Type 0
IsUnnamed waits = Unit {0}
IsUnnamed due = Unit {0}
IsUnnamed _ = ⊥

-- One step of a connection, with the messages that it puts. The step may take a CC, whose reference
-- satisfies `given`.
pub data StepsTo (given : ℕ → Type 0) (put : List Message) : Reach → Reach → Type 0 where
  unchanged : {a : Reach} → AreQuiet put → StepsTo given put a a
  leaves : {a : Reach} → AreQuiet put → StepsTo given put a gone
  fails : {a b : Reach} → IsUnnamed a → IsUnnamed b → AreQuiet put → StepsTo given put a b
  asks : IsAsking put → StepsTo given put early waits
  confirmed : {a : Reach} (reference : ℕ) → IsUnnamed a → given reference → ArePlain reference put
      → StepsTo given put a (named reference)
  speaks : {reference : ℕ} → ArePlain reference put
      → StepsTo given put (named reference) (named reference)
  clears : {reference : ℕ} → IsClearing reference put → StepsTo given put (named reference) cleared
