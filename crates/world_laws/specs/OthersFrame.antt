-- SPDX-License-Identifier: MIT OR Apache-2.0
-- A frame that concerns another connection.
use Rattle.std.specs.Prelude.{◌≡◌, ◌≢◌, ℕ, ◌≤◌, List, Some}
use Rattle.std.specs.List.{AllByRecursion}
use Rattle.world_laws.specs.Prelude.{Connection, IsOpen, connection_of, IsOctetStep, take}
use Rattle.world_laws.specs.Prelude.{RelayItem, AreAllowed, Parameters, Event}
use Rattle.world_laws.specs.Prelude.{all_steps, Actors, new_actors}
use Rattle.world_laws.specs.Runs.{world}
use Rattle.controller_model.specs.Ownership.{concerned}
use Rattle.controller_model.specs.Reading.{word_of}
use Rattle.world_model.specs.Frame.{Frame}
use Rattle.octets.specs.Element.{AreOctets}
use Rattle.ruled_relay.specs.declared.item.What.TheVariants as whats
use Rattle.world_model.specs.Relay.{target_in}
use Rattle.world_laws.specs.KeptLineUps.{IsForOthers}

-- all that the controller took was octets
abbrev pub TookOctets : Parameters → List Event → Type 0
TookOctets settings events = AllByRecursion IsOctetStep (all_steps (new_actors settings) events)

-- the controller has this connection, and the connection is open
pub record IsHad (w : Actors) (s : Connection) : Type 0 where
  pub there : connection_of w.controller s.number ≡ Some s
  pub is_open : IsOpen s.state
  pub from_one : 1 ≤ s.number

-- The item is a frame that concerns a connection with another number than this one.
pub record ConcernsAnother (w : Actors) (item : RelayItem) (number : ℕ) : Type 0 where
  pub frame : Frame
  pub is : item.what ≡ whats.Frame frame
  pub octets : AreOctets frame.body
  pub other : ℕ
  pub concerns : concerned w.controller (word_of item.source frame) ≡ Some other
  pub from_one : 1 ≤ other
  pub differs : number ≢ other

-- Whatever happened before, if a frame concerns another connection, no output that the controller
-- puts for the frame is this open connection's.
abbrev pub FramesAreForOthers : Parameters → List Event → Type 0
FramesAreForOthers settings events =
    (s : Connection) (item : RelayItem) → AreAllowed settings → TookOctets settings events
    → IsHad (world settings events) s
    → ConcernsAnother (world settings events) item s.number
    → AllByRecursion (IsForOthers (target_in (world settings events) item.source item.what) s)
    (take item (world settings events).controller).outs
