-- SPDX-License-Identifier: MIT OR Apache-2.0
-- A connection that closed or was removed: of its messages, only those in the outbox to the switch
-- can still arrive at the switch.
use Rattle.std.specs.Prelude.{◌≡◌, ℕ, ◌≤◌, List, [], Some}
use Rattle.std.specs.List.{AllByRecursion}
use Rattle.world_laws.specs.Prelude.{SWITCH_LINK, Connection, Parameters, Event, SwitchTakes}
use Rattle.world_laws.specs.Prelude.{actors_after, Actors}
use Rattle.world_laws.specs.Prelude.{Mobile, mobile_of, modulus_in, outbox_of}
use Rattle.world_laws.specs.Runs.{world}
use Rattle.world_laws.specs.LineUp.Places.{flow}
use Rattle.world_laws.specs.LineUp.Order.{Ended, IsInOrder}
use Rattle.world_model.specs.Queues.{put}
use Rattle.world_laws.specs.LineUps.{taken_of, waiting_of}
use Rattle.world_laws.specs.KeptLineUps.{AreLinedUp, DeliversFirst, carried_for}

-- The messages that the switch took on the connection, followed by those that wait for the switch,
-- are messages of this mobile, in order.
pub record HasEnded (m : ℕ) (w : Actors) (mobile number : ℕ) : Type 0 where
  pub one : Mobile
  pub found : mobile_of w mobile ≡ Some one
  pub in_order : Ended m one.end.sent (flow (waiting_of w number)) (flow (taken_of w number))

-- ---- a connection ends

-- A connection that is lined up ends in order if it closes or is removed.
abbrev pub LineUpsMayEnd : ℕ → Actors → ℕ → Connection → Type 0
LineUpsMayEnd m w mobile s = AreLinedUp m w mobile s → HasEnded m w mobile s.number

-- ---- a connection that ended remains in order

-- If the switch takes an entry at this event, it takes the connection's messages in the entry as
-- they were put.
abbrev pub DeliversAt : Actors → ℕ → Event → Type 0
DeliversAt w number SwitchTakes = DeliversFirst w number (outbox_of w SWITCH_LINK)
DeliversAt w number _ = Unit {0}

-- At this event the controller puts no message of the connection for the switch.
abbrev pub PutsNoMore : Actors → ℕ → Event → Type 0
PutsNoMore w number event =
    AllByRecursion (λ entry. carried_for number entry.out ≡ []) (put SWITCH_LINK w event)

-- A connection that ended in order remains so at an event. Assumes: the switch takes the
-- connection's messages as they were put, and the controller puts no more of them.
abbrev pub EndedRemainInOrder : Parameters → List Event → Event → Type 0
EndedRemainInOrder settings events event =
    (mobile number : ℕ) → DeliversAt (world settings events) number event
    → PutsNoMore (world settings events) number event
    → HasEnded (modulus_in settings) (world settings events) mobile number
    → HasEnded (modulus_in settings) (actors_after (world settings events) event) mobile number

-- ---- what the switch accepted

abbrev pub EndedAreInOrder : ℕ → Actors → ℕ → ℕ → Type 0
EndedAreInOrder m w mobile number =
    2 ≤ m → (ended : HasEnded m w mobile number)
    → IsInOrder m ended.one.end.sent (taken_of w number) (flow (waiting_of w number))
