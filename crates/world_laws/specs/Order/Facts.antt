-- SPDX-License-Identifier: MIT OR Apache-2.0
-- The facts on which the order of a run rests: those of each world of the run, and those of each
-- event.
use Rattle.std.specs.Prelude.{◌≡◌, ◌⊎◌, ℕ, ◌≤◌, ◌<◌, true, false, Option}
use Rattle.std.specs.Prelude.{Some, None}
use Rattle.world_laws.specs.Prelude.{SWITCH_LINK, WaitConfirm, Connection, IsThere, connection_of}
use Rattle.world_laws.specs.Prelude.{Event, BaseTakes}
use Rattle.world_laws.specs.Prelude.{SwitchTakes, actors_after, Actors, Mobile, is_station_up}
use Rattle.world_laws.specs.Prelude.{is_up, mobile_of, outbox_of}
use Rattle.world_laws.specs.Ended.{PutsNoMore}
use Rattle.world_laws.specs.AccountedFor.{AcksAgree, HasOpened, IsUnknownForGood, IsOpenAndLinedUp}
use Rattle.world_laws.specs.AccountedFor.{TargetIsFresh}
use Rattle.world_laws.specs.OthersFrame.{IsHad}
use Rattle.world_laws.specs.OwnFrame.{IsRequested}
use Rattle.world_laws.specs.Seated.{AreActiveAt, IsAlone}
use Rattle.world_laws.specs.KeptLineUps.{AreLinedUp, DeliversFirst, EndLast}
use Rattle.world_laws.specs.References.Taken.{ArePeers, IsUnknownToSwitch}
use Rattle.world_laws.specs.Order.Openers.{has_asked}
use Rattle.world_laws.specs.Handling.OpenOrEnded.{IsOpenOrEnded, is_of_controller}
use Rattle.world_laws.specs.Order.Beginning.{HasBegun}
use Rattle.world_laws.specs.Access.Requested.{HasAccess}
use Rattle.world_laws.specs.Order.Whereabouts.{IsComingTo, IsFresh}

-- ---- states of a connection

-- The controller has the connection, and the connection hasn't asked the switch.
abbrev pub IsAsking : Option Connection → Type 0
IsAsking None = ⊥
IsAsking (Some s) = has_asked s.state ≡ false

-- At this event the controller puts no message of the connection for the switch. After the event
-- the connection is closed or removed.
pub record IsOver (w : Actors) (event : Event) (number : ℕ) : Type 0 where
  pub puts : PutsNoMore w number event
  pub gone : IsThere (connection_of (actors_after w event).controller number) → ⊥
  pub past : number < (actors_after w event).controller.next_number

-- ---- the facts of each world of a run

pub record Holds (m : ℕ) (w : Actors) : Type 0 where
  -- about the channels of connections: which mobiles are on them, what is on its way up from them,
  -- and which are active
  pub alone : (s : Connection) → IsHad w s → IsAlone w s.request.access s
  pub agree : (s : Connection) → IsHad w s → AcksAgree w s
  pub end_last : (s : Connection) → IsHad w s → EndLast w s
  pub active : (s : Connection) (station : ℕ) → IsHad w s → IsRequested s.state
      → is_station_up w station ≡ true → AreActiveAt station w s
  pub stations : (station mobile : ℕ) (s : Connection) → AreActiveAt station w s
      → AreLinedUp m w mobile s → AreLinedUp m (actors_after w (BaseTakes station)) mobile s
  -- about the switch: it has nothing of a number that hasn't asked it, it takes entries as they
  -- were put or never hears of their connection, and its connections have different peers
  pub not_given : (number : ℕ) → 1 ≤ number → w.controller.next_number ≤ number
      → IsUnknownToSwitch w number
  pub not_asked : (number : ℕ) → 1 ≤ number → IsAsking (connection_of w.controller number)
      → IsUnknownToSwitch w number
  pub delivers : (number : ℕ) → 1 ≤ number → is_up w SWITCH_LINK ≡ true
      → DeliversFirst w number (outbox_of w SWITCH_LINK)
      ⊎ IsUnknownForGood (actors_after w SwitchTakes) number
  pub peers : ArePeers w
  -- a connection that is coming is open at the controller, and hasn't asked the switch
  pub is_coming : (mobile : ℕ) (s : Connection) → IsComingTo m w mobile s
      → IsHad w s × (has_asked s.state ≡ false)
  -- The target of a connection that just asked the switch is fresh, if there is a target. A target
  -- that is fresh in view of its mobile is fresh (`TargetIsFresh`).
  pub fresh_first : (p : Mobile) (s : Connection) → s.state ≡ WaitConfirm → IsFresh w p s
  pub fresh_means : (p : Mobile) (s : Connection) → IsFresh w p s → TargetIsFresh w s

-- ---- the facts of each event

pub record HoldsAt (m : ℕ) (w : Actors) (event : Event) : Type 0 where
  pub unknown_remains : (number : ℕ) → 1 ≤ number → IsUnknownForGood w number
      → IsUnknownForGood (actors_after w event) number
  pub remains_over : (number : ℕ) → 1 ≤ number → number < w.controller.next_number
      → (IsThere (connection_of w.controller number) → ⊥) → IsOver w event number
  pub steps_unheard : (number : ℕ) → 1 ≤ number
      → IsAsking (connection_of w.controller number)
      → (IsThere (connection_of (actors_after w event).controller number) → ⊥)
      → IsUnknownForGood (actors_after w event) number
  pub fresh : (mobile : ℕ) (s next : Connection) (q : Mobile)
      → (l : IsOpenAndLinedUp m w mobile s) → IsAlone w mobile s → AcksAgree w s
      → IsFresh w l.lined.one s → next.number ≡ s.number
      → IsHad (actors_after w event) next
      → mobile_of (actors_after w event) mobile ≡ Some q
      → IsFresh (actors_after w event) q next
  pub opened : (mobile : ℕ) (s next : Connection) → IsOpenAndLinedUp m w mobile s
      → IsAlone w mobile s → AcksAgree w s → next.number ≡ s.number
      → IsHad (actors_after w event) next
      → TargetIsFresh (actors_after w event) next
      → (lined : AreLinedUp m (actors_after w event) mobile next)
      → HasOpened (actors_after w event) lined.one next
  pub handled : (mobile : ℕ) (s : Connection) → is_of_controller event ≡ true
      → IsOpenAndLinedUp m w mobile s → AcksAgree w s → is_up w SWITCH_LINK ≡ true
      → IsOpenOrEnded m (actors_after w event) mobile s
  pub begun : (number : ℕ) → 1 ≤ number → is_up w SWITCH_LINK ≡ true
      → w.controller.next_number ≤ number
      → HasBegun (λ v s. IsComingTo m v s.request.access s) (actors_after w event) number
  pub has_access : (mobile : ℕ) (s : Connection) → is_up w SWITCH_LINK ≡ true
      → IsComingTo m w mobile s
      → HasAccess (IsComingTo m) m (actors_after w event) mobile s.number
