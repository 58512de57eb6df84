-- SPDX-License-Identifier: MIT OR Apache-2.0
-- A connection's messages to the switch by its progress: before CR, before CC, with the reference
-- of CC, after CLEAR COMPLETE.
use Rattle.bssmap_codec.specs.declared.bssap.Bssap.TheVariants.{Management}
use Rattle.conn_rules.specs.declared.input.Input.{Input}
use Rattle.conn_rules.specs.declared.state.State.{State}
use Rattle.conn_rules.specs.declared.state.State.TheVariants.{WaitActivation, WaitEstablish, WaitConfirm, Live, Closed, Removed}
use Rattle.conn_rules.specs.Steps.{Row}
use Rattle.std.specs.Prelude.{◌≡◌, ℕ, List, [], ◌∷◌, ◌++◌}
use Rattle.std.specs.List.{AllByRecursion}
use Rattle.bssmap_codec.specs.declared.bssmap.Bssmap.TheVariants.{ClearComplete}
use Rattle.bssmap_codec.specs.declared.bssmap.Bssmap.TheVariants.{CompleteLayer3Information}
use Rattle.bssmap_codec.specs.declared.values.CellIdentifier.{CellIdentifier}
use Rattle.conn_messages.specs.declared.message.Message.{Message}
use Rattle.conn_messages.specs.declared.message.Message.TheVariants.{Station, Request, Data}
use Rattle.conn_messages.specs.declared.message.Message.TheVariants.{ReleaseComplete}
use Rattle.conn_messages.specs.SwitchMessage.{clear_complete}
use Rattle.conn_rules.specs.declared.input.Input.TheVariants as inputs
use Rattle.conn_rules.specs.declared.state.Clearing.TheVariants.{Due, Asked as WasAsked, Complete}

-- it is put for a station
abbrev pub IsQuiet : Message → Type 0
IsQuiet (Station station message) = Unit {0}
IsQuiet _ = ⊥

abbrev pub AreQuiet : List Message → Type 0
AreQuiet put = AllByRecursion IsQuiet put

-- or is RLC
abbrev pub IsLast : Message → Type 0
IsLast (Station station message) = Unit {0}
IsLast (ReleaseComplete destination) = Unit {0}
IsLast _ = ⊥

abbrev pub AreLast : List Message → Type 0
AreLast put = AllByRecursion IsLast put

-- DT1 to this reference, with neither CLEAR COMPLETE nor an initial message; or quiet
abbrev pub IsPlain : ℕ → Message → Type 0
IsPlain reference (Data destination (Management ClearComplete)) = ⊥
IsPlain reference (Data destination (Management (CompleteLayer3Information cell initial))) = ⊥
IsPlain reference (Data destination message) = destination ≡ reference
IsPlain reference message = IsQuiet message

abbrev pub ArePlain : ℕ → List Message → Type 0
ArePlain reference put = AllByRecursion (IsPlain reference) put

-- CR with the initial message alone
pub record IsAsking (put : List Message) : Type 0 where
  pub cell : CellIdentifier
  pub initial : List ℕ
  pub is : put ≡ Request (Management (CompleteLayer3Information cell initial)) ∷ []

-- CLEAR COMPLETE last, behind what is quiet
pub record IsClearing (reference : ℕ) (put : List Message) : Type 0 where
  pub first : List Message
  pub is : put ≡ first ++ clear_complete reference ∷ []
  pub quiet : AreQuiet first

-- ---- by the state before

-- not asked for
abbrev pub FromEarly : List Message → State → Type 0
FromEarly put WaitActivation = AreQuiet put
FromEarly put WaitEstablish = AreQuiet put
FromEarly put Removed = AreLast put
FromEarly put WaitConfirm = IsAsking put
FromEarly put _ = ⊥

-- asked for, and not confirmed
abbrev pub FromWaiting : Input → List Message → State → Type 0
FromWaiting input put WaitConfirm = AreQuiet put
FromWaiting input put (Closed (Due cause)) = AreQuiet put
FromWaiting input put Removed = AreLast put
FromWaiting input put (Live reference stage) =
    (input ≡ inputs.ConnectionConfirm reference) × ArePlain reference put
FromWaiting input put (Closed (WasAsked reference)) =
    (input ≡ inputs.ConnectionConfirm reference) × ArePlain reference put
FromWaiting input put _ = ⊥

-- with the reference of the switch
abbrev pub FromNamed : ℕ → List Message → State → Type 0
FromNamed reference put (Live own stage) = (own ≡ reference) × ArePlain reference put
FromNamed reference put (Closed (WasAsked own)) = (own ≡ reference) × ArePlain reference put
FromNamed reference put (Closed Complete) = IsClearing reference put
FromNamed reference put Removed = AreLast put
FromNamed reference put _ = ⊥

-- after CLEAR COMPLETE
abbrev pub FromCleared : List Message → State → Type 0
FromCleared put (Closed Complete) = AreQuiet put
FromCleared put Removed = AreLast put
FromCleared put _ = ⊥

abbrev pub From : Input → List Message → State → State → Type 0
From input put WaitActivation after = FromEarly put after
From input put WaitEstablish after = FromEarly put after
From input put WaitConfirm after = FromWaiting input put after
From input put (Closed (Due cause)) after = FromWaiting input put after
From input put (Live reference stage) after = FromNamed reference put after
From input put (Closed (WasAsked reference)) after = FromNamed reference put after
From input put (Closed Complete) after = FromCleared put after
From input put Removed after = ⊥

-- what a row puts, and where it leads
abbrev pub IsNamedRow : Input → State → Row → Type 0
IsNamedRow input before r = From input r.outs before r.next.state
