-- SPDX-License-Identifier: MIT OR Apache-2.0
-- A mobile that never had a connection is as it was when it connected.
use Rattle.std.specs.Prelude.{◌≡◌, ℕ, Bool, true, List, ◌∷◌, ◌++◌, Some}
use Rattle.std.specs.List.{AllByRecursion}
use Rattle.mobile_end.specs.Lawful.{is_initial}
use Rattle.world_laws.specs.Prelude.{AreAllowed, Parameters, Event, rsl_in, Actors, Mobile}
use Rattle.world_laws.specs.Prelude.{mobile_of, modulus_in}
use Rattle.world_laws.specs.Prelude.{outbox_of}
use Rattle.world_laws.specs.Runs.{world}
use Rattle.world_model.specs.declared.event.Event.TheVariants.{Connect}
use Rattle.world_model.specs.Mobiles.{connected}
use Rattle.world_laws.specs.OthersFrame.{TookOctets}
use Rattle.world_laws.specs.Access.Requested.{AssignsAnother}
use Rattle.world_laws.specs.Owners.OneEach.{IsUnanswered}

-- This mobile had a connection at no moment of the run.
abbrev pub WasNeverAnswered : Parameters → List Event → ℕ → Type 0
WasNeverAnswered settings events mobile =
    (before after : List Event) → events ≡ before ++ after
    → IsUnanswered (world settings before) mobile

-- No IMMEDIATE ASSIGNMENT that waits for a station names this mobile.
abbrev pub NoneNames : Actors → ℕ → Type 0
NoneNames w mobile =
    (station : ℕ) → AllByRecursion (λ entry. AssignsAnother mobile (rsl_in entry.out.frame))
    (outbox_of w station)

-- The mobile connected in this run, with an initial message, and is as it was then: it asks for a
-- channel and has sent nothing.
pub record IsAsItConnected (m : ℕ) (events : List Event) (mobile : ℕ) (p : Mobile) : Type 0 where
  pub before : List Event
  pub station : ℕ
  pub initial : List ℕ
  pub accepts : Bool
  pub after : List Event
  pub connected_at : events ≡ before ++ Connect mobile station initial accepts ∷ after
  pub lawful : is_initial initial ≡ true
  pub same : p ≡ connected m mobile initial accepts

-- No IMMEDIATE ASSIGNMENT that waits for a station names the mobile of this number. If the mobile
-- exists, it is as it was when it connected.
pub record StillAsks (m : ℕ) (events : List Event) (w : Actors) (mobile : ℕ) : Type 0 where
  pub none_names : NoneNames w mobile
  pub as_connected : (p : Mobile) → mobile_of w mobile ≡ Some p → IsAsItConnected m events mobile p

-- Whatever happened, a mobile that never had a connection is as it was when it connected. Assumes:
-- allowed settings; the controller took only octets.
abbrev pub UnansweredMobilesAsk : Parameters → List Event → Type 0
UnansweredMobilesAsk settings events =
    (mobile : ℕ) → AreAllowed settings → TookOctets settings events
    → WasNeverAnswered settings events mobile
    → StillAsks (modulus_in settings) events (world settings events) mobile
