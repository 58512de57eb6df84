-- SPDX-License-Identifier: MIT OR Apache-2.0
-- The stage of a connection number in a run, from before the controller gives the number until no
-- message of the connection can arrive any more.
use Rattle.std.specs.Prelude.{◌≡◌, ℕ, ◌≤◌, ◌<◌, true, false, List, [], Option}
use Rattle.std.specs.Prelude.{Some, None}
use Rattle.std.specs.List.{AllByRecursion}
use Rattle.world_laws.specs.Prelude.{SWITCH_LINK, Connection, IsThere, connection_of}
use Rattle.world_laws.specs.Prelude.{SwitchConnection, Parameters, Event}
use Rattle.world_laws.specs.Prelude.{Actors, Mobile, is_up, modulus_in, place_of}
use Rattle.world_laws.specs.Runs.{world}
use Rattle.msc_end.specs.SwitchState.{SwitchState}
use Rattle.world_laws.specs.Ended.{HasEnded}
use Rattle.world_laws.specs.LineUps.{waiting_of}
use Rattle.world_laws.specs.AccountedFor.{IsUnknownForGood, IsOpenAndLinedUp}
use Rattle.world_laws.specs.References.Taken.{IsUnknownToSwitch}
use Rattle.world_laws.specs.Access.Coming.{IsComing}
use Rattle.world_laws.specs.Targets.Fresh.{IsFreshIn}
use Rattle.world_laws.specs.Order.QuietDown.{Quiet}

-- The connection is coming for this mobile, and its serving channel is quiet.
abbrev pub IsComingTo : ℕ → Actors → ℕ → Connection → Type 0
IsComingTo m w mobile s = IsComing m w mobile s × Quiet w (place_of s.serving)

-- the target of the connection's change of channel is fresh, in view of the connection's mobile
abbrev pub IsFresh : Actors → Mobile → Connection → Type 0
IsFresh w p s = IsFreshIn w p s.state

-- The stage while the link of the switch is up. Either the number is still to be given; or the
-- connection is coming and hasn't asked the switch; or it lives with the mobile that it first
-- served, and its target is fresh; or it ended in order; or the switch never hears of it.
pub data WhileUp (m : ℕ) (w : Actors) (opener : Option ℕ) (number : ℕ) : Type 0 where
  unborn : opener ≡ None → w.controller.next_number ≤ number → WhileUp m w opener number
  coming : (mobile : ℕ) (s : Connection) → opener ≡ None → s.number ≡ number
      → IsComingTo m w mobile s → WhileUp m w opener number
  lined_up : (mobile : ℕ) (s : Connection) → opener ≡ Some mobile → s.number ≡ number
      → (l : IsOpenAndLinedUp m w mobile s) → IsFresh w l.lined.one s → WhileUp m w opener number
  ended : (mobile : ℕ) → opener ≡ Some mobile → number < w.controller.next_number
      → (IsThere (connection_of w.controller number) → ⊥) → HasEnded m w mobile number
      → WhileUp m w opener number
  unknown_for_good : IsUnknownForGood w number → WhileUp m w opener number

-- The stage once the link of the switch broke. Either the switch has nothing of the connection, or
-- what the switch took of it is in order. No message of the connection waits for the switch.
pub data OnceDown (m : ℕ) (w : Actors) (opener : Option ℕ) (number : ℕ) : Type 0 where
  silent : IsUnknownToSwitch w number → OnceDown m w opener number
  cut : (mobile : ℕ) → opener ≡ Some mobile
      → HasEnded m w mobile number → waiting_of w number ≡ [] → OnceDown m w opener number

-- The stage of the connection of this number; `opener` is the mobile that it first served, if any.
pub data Whereabouts (m : ℕ) (w : Actors) (opener : Option ℕ) (number : ℕ) : Type 0 where
  while_up : is_up w SWITCH_LINK ≡ true → WhileUp m w opener number
      → Whereabouts m w opener number
  once_down : is_up w SWITCH_LINK ≡ false → OnceDown m w opener number
      → Whereabouts m w opener number

-- ---- the switch

-- The switch and all its connections have this modulus.
pub record IsOfModulus (m : ℕ) (switch : SwitchState) : Type 0 where
  pub own : switch.modulus ≡ m
  pub all : AllByRecursion (λ (c : SwitchConnection). c.reception.modulus ≡ m) switch.connections

-- Whatever happened, the modulus of the switch and of all its connections is that of the network in
-- the settings.
abbrev pub SwitchIsOfModulus : Parameters → List Event → Type 0
SwitchIsOfModulus settings events = IsOfModulus (modulus_in settings) (world settings events).switch
