-- SPDX-License-Identifier: MIT OR Apache-2.0
-- A connection that begins is coming: its mobile is to arrive on its channel.
use Rattle.std.specs.Prelude.{◌≡◌, ℕ, ◌≤◌, List, [], ◌∷◌, ◌++◌, Some, None}
use Rattle.std.specs.List.{AllByRecursion}
use Rattle.world_laws.specs.Prelude.{Place, Connection, connection_of, place_of, RelayItem}
use Rattle.world_laws.specs.Prelude.{AreAllowed, Parameters, Event, Handle, Asking}
use Rattle.world_laws.specs.Prelude.{actors_after, rsl_in, Actors, Mobile, mobile_of, modulus_in}
use Rattle.world_laws.specs.Prelude.{outbox_of}
use Rattle.world_laws.specs.Runs.{world}
use Rattle.world_laws.specs.LineUp.Places.{messages_in}
use Rattle.world_laws.specs.ComingUp.{coming_up}
use Rattle.world_laws.specs.GoingDown.{going_down}
use Rattle.world_laws.specs.OthersFrame.{TookOctets}
use Rattle.world_laws.specs.Access.Coming.{IsComing, IsNew}
use Rattle.world_laws.specs.Access.Requested.{AssignsAnother}
use Rattle.world_laws.specs.Owners.OneEach.{IsUnanswered}

-- A mobile of this number asks for a channel and sent nothing yet. No IMMEDIATE ASSIGNMENT that
-- waits for a station names this mobile.
pub record AwaitsChannel (m : ℕ) (w : Actors) (mobile : ℕ) : Type 0 where
  pub one : Mobile
  pub found : mobile_of w mobile ≡ Some one
  pub asking : one.seat ≡ Asking
  pub new : IsNew m one
  pub unassigned : (station : ℕ) → AllByRecursion
      (λ entry. AssignsAnother mobile (rsl_in entry.out.frame)) (outbox_of w station)

-- No message is on its way up from the channel, and no command is on its way down on it.
pub record IsQuietAt (w : Actors) (at : Place) : Type 0 where
  pub none_arrives : messages_in (coming_up w at) ≡ []
  pub none_commanded : going_down w at ≡ []

-- Whatever happened before, a connection that begins when the controller handles an item is coming.
-- Assumes: allowed settings; the controller took only octets; the mobile asks for a channel and has
-- no connection yet; the connection's channel was quiet.
abbrev pub ConnectionsBeginForTheirMobile : Parameters → List Event → Type 0
ConnectionsBeginForTheirMobile settings events =
    (s : Connection) (item : RelayItem) (items : List RelayItem) → AreAllowed settings
    → TookOctets settings (events ++ Handle ∷ [])
    → (world settings events).inbox ≡ item ∷ items → 1 ≤ s.number
    → connection_of (world settings events).controller s.number ≡ None
    → connection_of (actors_after (world settings events) Handle).controller s.number ≡ Some s
    → AwaitsChannel (modulus_in settings) (world settings events) s.request.access
    → IsQuietAt (world settings events) (place_of s.serving)
    → IsUnanswered (world settings events) s.request.access
    → IsComing (modulus_in settings)
    (actors_after (world settings events) Handle) s.request.access s
