-- SPDX-License-Identifier: MIT OR Apache-2.0
-- A connection that begins at an event is coming.
use Rattle.std.specs.Prelude.{◌≡◌, ℕ, ◌≤◌, List, [], ◌∷◌, ◌++◌, Some}
use Rattle.world_laws.specs.Prelude.{WaitActivation, Connection, place_of, AreAllowed}
use Rattle.world_laws.specs.Prelude.{Parameters, Event, actors_after}
use Rattle.world_laws.specs.Prelude.{Actors, Mobile, mobile_of, modulus_in}
use Rattle.world_laws.specs.Runs.{world}
use Rattle.world_laws.specs.OthersFrame.{TookOctets, IsHad}
use Rattle.world_laws.specs.Access.Coming.{IsComing}
use Rattle.world_laws.specs.Order.Unanswered.{IsAsItConnected, NoneNames}
use Rattle.world_laws.specs.Targets.Quiet.{IsQuiet}

-- ---- a connection that begins

-- The controller has the connection in its first state. The mobile that asked for the connection is
-- as it was when it connected, nothing is on its way on the connection's channel, and no IMMEDIATE
-- ASSIGNMENT that waits for a station names the mobile.
pub record Begins (m : ℕ) (events : List Event) (w : Actors) (s : Connection) : Type 0 where
  pub had : IsHad w s
  pub state : s.state ≡ WaitActivation
  pub one : Mobile
  pub found : mobile_of w s.request.access ≡ Some one
  pub as_connected : IsAsItConnected m events s.request.access one
  pub quiet : IsQuiet w (place_of s.serving)
  pub none_names : NoneNames w s.request.access

-- The connection of this number is still to begin, or it began and `IsSo` holds of it.
pub data HasBegun (IsSo : Actors → Connection → Type 0) (w : Actors) (number : ℕ) : Type 0 where
  not_yet : w.controller.next_number ≤ number → HasBegun IsSo w number
  begins : (s : Connection) → s.number ≡ number → IsSo w s → HasBegun IsSo w number

-- Whatever happened before, a connection that is still to begin either begins at an event, as
-- `Begins` says, or is still to begin after the event. Assumes: allowed settings; the controller
-- took only octets.
abbrev pub ConnectionsBegin : Parameters → List Event → Event → Type 0
ConnectionsBegin settings events event =
    (number : ℕ) → AreAllowed settings → TookOctets settings (events ++ event ∷ []) → 1 ≤ number
    → (world settings events).controller.next_number ≤ number
    → HasBegun (Begins (modulus_in settings) events)
    (actors_after (world settings events) event) number

-- ---- a connection that begins is coming

-- A connection that begins at an event is coming for the mobile that requested it, whatever the
-- mobile's initial message is.
abbrev pub ConnectionsBeginComing : Parameters → List Event → Event → Type 0
ConnectionsBeginComing settings events event =
    (number : ℕ) → AreAllowed settings → TookOctets settings (events ++ event ∷ []) → 1 ≤ number
    → (world settings events).controller.next_number ≤ number
    → HasBegun (λ w s. IsComing (modulus_in settings) w s.request.access s)
    (actors_after (world settings events) event) number
