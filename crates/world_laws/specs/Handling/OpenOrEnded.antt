-- SPDX-License-Identifier: MIT OR Apache-2.0
-- A connection that lived is open, or ended in order, after a step of the controller.
use Rattle.std.specs.Prelude.{◌≡◌, ℕ, Bool, true, false, List, [], ◌∷◌, ◌++◌}
use Rattle.world_laws.specs.Prelude.{SWITCH_LINK, Connection, IsThere, connection_of, AreAllowed}
use Rattle.world_laws.specs.Prelude.{Parameters, Event, Handle, Tick}
use Rattle.world_laws.specs.Prelude.{actors_after, Actors, is_up, modulus_in}
use Rattle.world_laws.specs.Runs.{world}
use Rattle.world_laws.specs.Ended.{HasEnded}
use Rattle.world_laws.specs.AccountedFor.{AcksAgree, IsOpenAndLinedUp}
use Rattle.world_laws.specs.OthersFrame.{TookOctets, IsHad}
use Rattle.world_laws.specs.OwnFrame.{IsRequested}
use Rattle.world_laws.specs.KeptLineUps.{AreLinedUp}

-- whether the controller takes a step at the event
abbrev pub is_of_controller : Event → Bool
is_of_controller Handle = true
is_of_controller (Tick ms) = true
is_of_controller _ = false

-- The connection is still there, open and lined up with the mobile; or it isn't open any more and
-- ended in order.
pub data IsOpenOrEnded (m : ℕ) (w : Actors) (mobile : ℕ) (s : Connection) : Type 0 where
  carries_on : (next : Connection) → next.number ≡ s.number → IsHad w next
      → IsRequested next.state → next.request ≡ s.request → AreLinedUp m w mobile next
      → IsOpenOrEnded m w mobile s
  is_over : (IsThere (connection_of w.controller s.number) → ⊥) → HasEnded m w mobile s.number
      → IsOpenOrEnded m w mobile s

-- Whatever happened before, a connection that lives is open, or ended in order, after a step of the
-- controller. Assumes: allowed settings; the controller took only octets; the link of the switch is
-- up; acknowledgements agree with the roles of the channels.
abbrev pub LiveConnectionsContinue : Parameters → List Event → Event → Type 0
LiveConnectionsContinue settings events event =
    (mobile : ℕ) (s : Connection) → is_of_controller event ≡ true → AreAllowed settings
    → TookOctets settings (events ++ event ∷ [])
    → is_up (world settings events) SWITCH_LINK ≡ true
    → IsOpenAndLinedUp (modulus_in settings) (world settings events) mobile s
    → AcksAgree (world settings events) s
    → IsOpenOrEnded (modulus_in settings) (actors_after (world settings events) event) mobile s
