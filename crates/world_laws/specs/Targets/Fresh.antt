-- SPDX-License-Identifier: MIT OR Apache-2.0
-- The target of a change of channel is fresh until the connection's mobile arrives there, and
-- COMPLETE is the first message from the target.
use Rattle.std.specs.Prelude.{◌≡◌, ℕ, true, List, [], ◌∷◌, ◌++◌, Some}
use Rattle.world_laws.specs.Prelude.{Channel, Place, State, Live, Target, Connection, place_of}
use Rattle.world_laws.specs.Prelude.{to_be_taken, AreAllowed, Parameters, Event}
use Rattle.world_laws.specs.Prelude.{On, actors_after, Actors, Mobile, is_up, mobile_of, modulus_in}
use Rattle.world_laws.specs.Runs.{world}
use Rattle.conn_rules.specs.declared.state.Stage.TheVariants.{Preparing, Changing}
use Rattle.world_laws.specs.LineUp.Places.{messages_in}
use Rattle.world_model.specs.declared.seat.Seat.{Seat}
use Rattle.world_model.specs.Lists.{first_in}
use Rattle.world_model.specs.Mobiles.{complete}
use Rattle.world_laws.specs.ComingUp.{coming_up}
use Rattle.world_laws.specs.GoingDown.{going_down}
use Rattle.world_laws.specs.AccountedFor.{IsOpenAndLinedUp, TargetIsFresh}
use Rattle.world_laws.specs.OthersFrame.{TookOctets, IsHad}
use Rattle.world_laws.specs.Seated.{IsAlone}

-- No message is on its way up from a target that is prepared, and no command is on its way down
-- there.
pub record IsAwaited (w : Actors) (c : Channel) : Type 0 where
  pub silent : messages_in (coming_up w (place_of c)) ≡ []
  pub uncommanded : going_down w (place_of c) ≡ []

-- If there are messages, the first of them is `text`.
abbrev pub BeginWith : List ℕ → List (List ℕ) → Type 0
BeginWith text [] = Unit {0}
BeginWith text (message ∷ messages) = message ≡ text

abbrev pub IsOnPlace : Seat → Place → Type 0
IsOnPlace (On tenure command) at = tenure.at ≡ at
IsOnPlace _ at = ⊥

-- COMPLETE is the first message from a target to which the mobile was commanded: the first on its
-- way up from the target; or, if no message is on its way up, the station's link is up and the
-- mobile is on the target, the first that the mobile gives.
pub record IsLedBy (w : Actors) (p : Mobile) (t : Target) : Type 0 where
  pub first : BeginWith (complete t.change) (messages_in (coming_up w (place_of t.channel)))
  pub gives : messages_in (coming_up w (place_of t.channel)) ≡ [] → is_up w t.channel.station ≡ true
      → IsOnPlace p.seat (place_of t.channel)
      → first_in (to_be_taken p.end.zero) ≡ Some (complete t.change)

-- The target of a connection in this state is fresh, in view of its mobile. In a state without a
-- target nothing is claimed.
abbrev pub IsFreshIn : Actors → Mobile → State → Type 0
IsFreshIn w p (Live reference (Preparing target)) = IsAwaited w target.channel
IsFreshIn w p (Live reference (Changing target)) = IsLedBy w p target
IsFreshIn w p _ = Unit {0}

-- `IsFreshIn`, which also looks at the mobile, implies `TargetIsFresh`.
abbrev pub FreshMeans : Actors → Mobile → Connection → Type 0
FreshMeans w p s = IsFreshIn w p s.state → TargetIsFresh w s

-- Whatever happened before, the target remains fresh at an event, while the connection is there and
-- open. Assumes: allowed settings; the controller took only octets; the connection lives, and no
-- other mobile is on its channels.
abbrev pub TargetsRemainFresh : Parameters → List Event → Event → Type 0
TargetsRemainFresh settings events event =
    (mobile : ℕ) (s s2 : Connection) (q : Mobile) → AreAllowed settings
    → TookOctets settings (events ++ event ∷ [])
    → (lined_up : IsOpenAndLinedUp (modulus_in settings) (world settings events) mobile s)
    → IsAlone (world settings events) mobile s
    → IsFreshIn (world settings events) lined_up.lined.one s.state
    → s2.number ≡ s.number → IsHad (actors_after (world settings events) event) s2
    → mobile_of (actors_after (world settings events) event) mobile ≡ Some q
    → IsFreshIn (actors_after (world settings events) event) q s2.state
