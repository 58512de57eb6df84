-- SPDX-License-Identifier: MIT OR Apache-2.0
-- When nothing is handed or relayed.
use Rattle.std.specs.Prelude.{◌≡◌, ℕ, ◌<◌, List, [], ◌∷◌, Option, Some, None}
use Rattle.std.specs.List.{AllByRecursion}
use Rattle.controller_model.specs.Prelude.{Message, Connection, outs_of, IsOpen, handed, Sapi}
use Rattle.controller_model.specs.Prelude.{AreAllowed, Parameters}
use Rattle.conn_rules.specs.Streams.{IsChanging, IsHandedTo, OnlyReleases, relayed}
use Rattle.controller_model.specs.LifeLaws.History.{IsHistory, Moment, all_messages, connection_of}
use Rattle.controller_model.specs.LifeLaws.History.{outs_for}
use Rattle.controller_model.specs.declared.step.Step.{Step}
use Rattle.controller_model.specs.Controller.{Controller, Turn, new_controller}
use Rattle.controller_model.specs.Life.{step}
use Rattle.controller_model.specs.Views.{forwarded, handed as handed_in}
use Rattle.controller_model.specs.LifeLaws.Sending.{IsOctetStep}
use Rattle.controller_model.specs.LifeLaws.Seen.{messages_on}

-- the connection exists and is open
abbrev pub IsThere : Option Connection → Type 0
IsThere None = ⊥
IsThere (Some s) = IsOpen s.state

-- nothing is handed or relayed
pub record HasNoStream (put : List Message) : Type 0 where
  pub relays : (sapi : Sapi) → relayed sapi put ≡ []
  pub hands : (sapi : Sapi) → handed sapi put ≡ []

-- the mobile was commanded to another channel and hasn't answered
abbrev pub IsAway : Option Connection → Type 0
IsAway None = ⊥
IsAway (Some s) = IsChanging s.state

-- messages that are handed go to the serving channel; without a connection nothing is handed
abbrev pub AreHandedToServing : Option Connection → List Message → Type 0
AreHandedToServing None put = (sapi : Sapi) → handed sapi put ≡ []
AreHandedToServing (Some s) put = AllByRecursion (IsHandedTo s.serving) put

-- after CLEAR COMPLETE only RLC is put, and nothing once the connection is gone
abbrev pub OnlyReleasesAfter : Option Connection → List Message → Type 0
OnlyReleasesAfter None put = put ≡ []
OnlyReleasesAfter (Some s) put = OnlyReleases s.state put

-- What holds of the messages that a step puts for a connection.
pub record KeepsSilence (number : ℕ) (c : Controller) (s : Step) (put : List Message) : Type 0 where
  -- while the mobile changes its channel, nothing is handed
  pub away : IsAway (connection_of (step c s).next number) → (sapi : Sapi) → handed sapi put ≡ []
  -- messages that are handed go to the channel that serves after the step
  pub serving : AreHandedToServing (connection_of (step c s).next number) put
  -- nothing is handed or relayed by the step that closes the connection, and from then on
  pub over : (IsThere (connection_of (step c s).next number) → ⊥) → HasNoStream put
  -- a closed connection doesn't open again
  pub remains_away : number < c.next_number → (IsThere (connection_of c number) → ⊥)
      → IsThere (connection_of (step c s).next number) → ⊥
  pub cleared : number < c.next_number → OnlyReleasesAfter (connection_of c number) put

-- each step of a history keeps silence
abbrev pub AllKeepSilence : ℕ → Controller → List Moment → Type 0
AllKeepSilence number c [] = Unit {0}
AllKeepSilence number c (m ∷ ms) =
    KeepsSilence number c m.taken m.messages × AllKeepSilence number (step c m.taken).next ms

-- the messages relayed and handed in each step are those read from the step's frames
abbrev pub AllAreRead : ℕ → Controller → List Moment → Type 0
AllAreRead number c [] = Unit {0}
AllAreRead number c (m ∷ ms) =
    ((sapi : Sapi) → (messages_on sapi (forwarded (step c m.taken).outs number)
    ≡ relayed sapi m.messages) × (handed_in (step c m.taken).outs number sapi
    ≡ handed sapi m.messages))
    × AllAreRead number (step c m.taken).next ms

-- There are messages, step by step, whose frames are the frames put for the connection, and each
-- step keeps silence. The messages relayed and handed are those read from the frames, if settings
-- are allowed and frames that arrived carry octets.
pub record SilenceIsKept (number : ℕ) (p : Parameters) (steps : List Step)
    (life : Turn) : Type 0 where
  pub moments : List Moment
  pub history : IsHistory number (new_controller p) steps moments
  pub frames : outs_for number life.outs ≡ outs_of number (all_messages moments)
  pub silent : AllKeepSilence number (new_controller p) moments
  pub read : AreAllowed p → AllByRecursion IsOctetStep steps
      → AllAreRead number (new_controller p) moments

-- Nothing is handed or relayed in these steps.
pub record IsSilentThrough (number : ℕ) (c : Controller) (steps : List Step) : Type 0 where
  pub moments : List Moment
  pub history : IsHistory number c steps moments
  pub silent : AllByRecursion (λ m. HasNoStream m.messages) moments
