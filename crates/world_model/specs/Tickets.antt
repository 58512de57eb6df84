-- SPDX-License-Identifier: MIT OR Apache-2.0
-- One mobile per tenure. `owner` gives each tenure a mobile as its owner. The definitions say when
-- the messages that stations take, and the seats of mobiles, agree with `owner`.
use Rattle.std.specs.Prelude.{◌≡◌, ℕ, true, if◌then◌else◌, is_some, List, []}
use Rattle.std.specs.Prelude.{◌∷◌, ◌++◌}
use Rattle.std.specs.Prelude.{slice_index_or, Contains, Option, Some, None, Result, Ok}
use Rattle.std.specs.List.{AllByRecursion}
use Rattle.controller_model.specs.Controller.{place_at}
use Rattle.dtap_codec.specs.declared.rr.RrMessage.{RrMessage}
use Rattle.dtap_codec.specs.declared.rr.RrMessage.TheVariants.{ImmediateAssignment}
use Rattle.dtap_codec.specs.declared.rr_fault.RrFault.{RrFault}
use Rattle.dtap_codec.specs.RrReading.{rr_reading}
use Rattle.rsl_codec.specs.declared.rsl.Rsl.{Rsl}
use Rattle.rsl_codec.specs.declared.rsl.Rsl.TheVariants.{DataRequest, ImmediateAssignCommand}
use Rattle.world_model.specs.declared.event.Event.{Event}
use Rattle.world_model.specs.declared.event.Event.TheVariants.{AirUp, BaseTakes}
use Rattle.world_model.specs.declared.line.OutboxEntry.{OutboxEntry}
use Rattle.world_model.specs.declared.seat.Seat.{Seat}
use Rattle.world_model.specs.declared.seat.Seat.TheVariants.{On, Moving}
use Rattle.world_model.specs.declared.seat.Tenure.{Tenure}
use Rattle.world_model.specs.Life.{actors_after, event_after}
use Rattle.world_model.specs.Stations.{rsl_in}
use Rattle.world_model.specs.World.{Actors, Mobile, is_station_up, mobile_of, outbox_of, tenure_at}

-- ---- where mobiles are

-- the mobile owns the tenure on which it is or which it left, and the tenure to which it was
-- commanded
abbrev pub SitsBy : (Tenure → ℕ) → ℕ → Seat → Type 0
SitsBy owner number (On tenure None) = owner tenure ≡ number
SitsBy owner number (On tenure (Some command)) =
    (owner tenure ≡ number) × (owner command.target ≡ number)
SitsBy owner number (Moving from command) = (owner from ≡ number) × (owner command.target ≡ number)
SitsBy owner number _ = Unit {0}

abbrev pub AllSitBy : (Tenure → ℕ) → Actors → Type 0
AllSitBy owner w = AllByRecursion (λ p. SitsBy owner p.number p.seat) w.mobiles

-- ---- the entries that a station takes

-- an IMMEDIATE ASSIGNMENT names the owner of the last tenure of its channel
abbrev pub AssignsBy : (Tenure → ℕ) → Actors → ℕ → Result RrMessage RrFault → Type 0
AssignsBy owner w station (Ok (ImmediateAssignment channel request advance)) =
    owner (tenure_at w (place_at station channel.channel.0)) ≡ slice_index_or request 0 0
AssignsBy owner w station _ = Unit {0}

-- the tenure to which a command leads has the owner of the tenure on which the command is sent
abbrev pub LeadsBy : (Tenure → ℕ) → Tenure → Option Tenure → Type 0
LeadsBy owner here None = Unit {0}
LeadsBy owner here (Some target) = owner target ≡ owner here

abbrev pub TakesBy : (Tenure → ℕ) → Actors → ℕ → Option Tenure → Option Rsl → Type 0
TakesBy owner w station target (Some (ImmediateAssignCommand i)) =
    AssignsBy owner w station (rr_reading i.information)
TakesBy owner w station target (Some (DataRequest d)) =
    LeadsBy owner (tenure_at w (place_at station d.channel)) target
TakesBy owner w station target _ = Unit {0}

abbrev pub TakesFirstBy : (Tenure → ℕ) → Actors → ℕ → List OutboxEntry → Type 0
TakesFirstBy owner w station [] = Unit {0}
TakesFirstBy owner w station (first ∷ others) =
    TakesBy owner w station first.target (rsl_in first.out.frame)

-- the entry that a station takes at this event agrees with the ownership, if the station's link is
-- up
abbrev pub IsBy : (Tenure → ℕ) → Actors → Event → Type 0
IsBy owner w (BaseTakes station) =
    is_station_up w station ≡ true → TakesFirstBy owner w station (outbox_of w station)
IsBy owner w _ = Unit {0}

-- each entry that a station takes at these events agrees with the ownership
abbrev pub AllAreBy : (Tenure → ℕ) → Actors → List Event → Type 0
AllAreBy owner w [] = Unit {0}
AllAreBy owner w (event ∷ events) =
    IsBy owner w event × AllAreBy owner (actors_after w event) events

-- ---- who sends on which tenure

pub record Sender : Type 0 where
  pub mobile : ℕ
  pub tenure : Tenure

abbrev pub on_seat : ℕ → Seat → List Sender
on_seat number (On tenure command) = record { mobile = number; tenure = tenure } ∷ []
on_seat number _ = []

abbrev pub sender_of : Option Mobile → List Sender
sender_of None = []
sender_of (Some p) = on_seat p.number p.seat

-- the mobile whose frame a station takes at this event, with its tenure
abbrev pub sender_at : Actors → Event → List Sender
sender_at w (AirUp number sapi) =
    if is_some (event_after w (AirUp number sapi)) then sender_of (mobile_of w number) else []
sender_at w _ = []

-- the mobiles whose frames stations take at these events, each with its tenure, in order
abbrev pub senders : Actors → List Event → List Sender
senders w [] = []
senders w (event ∷ events) = sender_at w event ++ senders (actors_after w event) events

-- senders of the same tenure are the same mobile
abbrev pub OneMobileEach : List Sender → Type 0
OneMobileEach all =
    (one other : Sender) → Contains all one → Contains all other → one.tenure ≡ other.tenure
    → one.mobile ≡ other.mobile
