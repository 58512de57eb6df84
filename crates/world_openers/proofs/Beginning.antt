-- SPDX-License-Identifier: MIT OR Apache-2.0
-- Until a station took it, the message that a mobile connected with is the first of its link.
use Rattle.std.proofs.Common.{◌≡◌, ℕ, ◌%◌, Bool, true, false, if◌then◌else◌, List, [], ◌∷◌, ◌++◌, length, Option, Some, refl, sym, ap, ◌∙◌}
use Rattle.std.proofs.Common.{subst, Result, Ok}
use Rattle.std.proofs.Math.Nat.{zero-mod}
use Rattle.conn_messages.specs.declared.channel.Change.{Change}
use Rattle.conn_messages.specs.declared.channel.Change.TheVariants.{Assignment, Handover}
use Rattle.conn_rules.specs.Streams.{is_dtap}
use Rattle.dtap_codec.specs.declared.rr.RrMessage.{RrMessage}
use Rattle.dtap_codec.specs.declared.rr.RrMessage.TheVariants.{AssignmentCommand, ChannelRelease, HandoverCommand}
use Rattle.dtap_codec.specs.declared.rr_fault.RrFault.{RrFault}
use Rattle.dtap_codec.specs.declared.sapi.Sapi.{Sapi}
use Rattle.dtap_codec.specs.declared.sapi.Sapi.TheVariants.{Three, Zero}
use Rattle.dtap_codec.specs.Message.{is_flow_message}
use Rattle.dtap_codec.specs.Number.{with_number}
use Rattle.dtap_codec.specs.RrReading.{rr_reading}
use Rattle.mobile_end.proofs.Lives.{is_initial_clear}
use Rattle.mobile_end.proofs.Numbering.{IsClear-flow, to_be_taken-acknowledged, to_be_taken-waits}
use Rattle.mobile_end.specs.declared.mobile_end.Place.{Place as MobilePlace}
use Rattle.mobile_end.specs.declared.mobile_end.Place.TheVariants as places
use Rattle.mobile_end.specs.declared.mobile_end.Stage.{Stage}
use Rattle.mobile_end.specs.declared.mobile_end.Stage.TheVariants.{Connected}
use Rattle.mobile_end.specs.DataLink.{to_be_taken, waits}
use Rattle.mobile_end.specs.Lawful.{is_initial}
use Rattle.mobile_end.specs.Mobile.{after_acked, after_acked_at, after_connect, after_frame, after_frame_at, after_number, after_queue}
use Rattle.mobile_end.specs.Mobile.{connected_mobile, link_of, new_mobile, with_link}
use Rattle.mobile_end.specs.MobileState.{MobileState}
use Rattle.world_model.specs.declared.event.Event.{Event}
use Rattle.world_model.specs.declared.line.AirMessage.{AirMessage}
use Rattle.world_model.specs.declared.seat.Seat.{Seat}
use Rattle.world_model.specs.declared.seat.Seat.TheVariants.{Moving, On}
use Rattle.world_model.specs.declared.seat.Tenure.{Tenure}
use Rattle.world_model.specs.Mobiles.{connected, controlled, hearing, remembering}
use Rattle.world_model.specs.World.{Actors, Mobile}
use Rattle.world_model.proofs.Footprints.{Becomes, hearing-end, hearing-opens}
use Rattle.world_model.proofs.Footprints.Becomes.{arrives, hears, is_acked, leaves, lends, misses, opens, queues, returns, sits}

-- not between two channels
abbrev pub IsStill : Seat → Type 0
IsStill (Moving from command) = ⊥
IsStill _ = Unit {0}

-- While its next frame of SAPI 0 is to be the initial one, that is this message, and it left no
-- channel.
pub record BeginsWith (initial : List ℕ) (p : Mobile) : Type 0 where
  pub first : p.opens ≡ true → (rest : List (List ℕ)) × (to_be_taken p.end.zero ≡ initial ∷ rest)
  pub still : p.opens ≡ true → IsStill p.seat

-- ---- a mobile as it connected

first_clear : (m : ℕ) (initial : List ℕ) → is_initial initial ≡ true → is_flow_message initial ≡ true
    → with_number (0 % m) initial ≡ initial
first_clear m initial lawful flow =
    ap (λ (n : ℕ). with_number n initial) (zero-mod m) ∙ (IsClear-flow initial (is_initial_clear initial lawful) flow).cleared

connected_first : (m : ℕ) (initial : List ℕ) → is_initial initial ≡ true
    → to_be_taken (after_connect (new_mobile m) (Some initial)).zero ≡ initial ∷ []
connected_first m initial lawful = by (is_flow_message initial) refl where
  by : (b : Bool) → is_flow_message initial ≡ b
      → to_be_taken
      (connected_mobile
      (if b then after_number (new_mobile m) initial else with_link (new_mobile m) Zero
      (waits (link_of (new_mobile m) Zero) initial))).zero ≡ initial ∷ []
  by true flow = ap (λ (x : List ℕ). x ∷ []) (first_clear m initial lawful flow)
  by false apart = refl

pub connected_begins : (m number : ℕ) (initial : List ℕ) (accepts : Bool) → is_initial initial ≡ true
    → BeginsWith initial (connected m number initial accepts)
connected_begins m number initial accepts lawful = record { first = λ is. ([], connected_first m initial lawful); still = λ is. tt }

-- ---- what a mobile does

queued_first : (e : MobileState) (sapi : Sapi) (message initial : List ℕ) (rest : List (List ℕ)) → to_be_taken e.zero ≡ initial ∷ rest
    → (more : List (List ℕ)) × (to_be_taken (after_queue e sapi message).zero ≡ initial ∷ more)
queued_first e sapi message initial rest is = by (is_flow_message message) where
  behind : (x : List ℕ) → to_be_taken (waits e.zero x) ≡ initial ∷ (rest ++ x ∷ [])
  behind x = to_be_taken-waits e.zero x ∙ ap (λ (xs : List (List ℕ)). xs ++ x ∷ []) is

  on : (to : Sapi) → (more : List (List ℕ)) × (to_be_taken (with_link e to (waits (link_of e to) message)).zero ≡ initial ∷ more)
  on Zero = (rest ++ message ∷ [], behind message)
  on Three = (rest, is)

  by : (b : Bool)
      → (more : List (List ℕ)) ×
      (to_be_taken (if b then after_number e message else with_link e sapi (waits (link_of e sapi) message)).zero ≡ initial ∷ more)
  by true = (rest ++ with_number (length e.sent % e.modulus) message ∷ [], behind (with_number (length e.sent % e.modulus) message))
  by false = on sapi

frame_three : (e : MobileState) → (after_frame e Three).zero ≡ e.zero
frame_three e = by e.stage e.place where
  by : (stage : Stage) (place : MobilePlace) → (after_frame_at stage place e Three).zero ≡ e.zero
  by Connected places.OnChannel = refl
  by _ _ = refl

acked_same : (e : MobileState) (sapi : Sapi) → to_be_taken (after_acked e sapi).zero ≡ to_be_taken e.zero
acked_same e sapi = by e.place sapi where
  by : (place : MobilePlace) (to : Sapi) → to_be_taken (after_acked_at place e to).zero ≡ to_be_taken e.zero
  by places.OnChannel Zero = to_be_taken-acknowledged e.zero.waiting e.zero.air
  by places.OnChannel Three = refl
  by places.Moving to = refl

hearing_still : (p : Mobile) (a : AirMessage) → IsStill p.seat → IsStill (hearing p a).seat
hearing_still p a still = by_kind (is_dtap a.message) where
  by_seat : (change : Change) (target : Tenure) (seat : Seat) → IsStill (remembering p change target seat).seat
  by_seat change target (On tenure command) = tt
  by_seat change target _ = still

  by_message : (target : Option Tenure) (r : Result RrMessage RrFault) → IsStill (controlled p target r).seat
  by_message target (Ok (ChannelRelease cause)) = tt
  by_message (Some target) (Ok (AssignmentCommand channel)) = by_seat Assignment target p.seat
  by_message (Some target) (Ok (HandoverCommand cell channel reference)) = by_seat Handover target p.seat
  by_message target _ = still

  by_kind : (b : Bool)
      → IsStill (if b then record p { received = p.received ++ a.message ∷ [] } else controlled p a.target (rr_reading a.message)).seat
  by_kind true = still
  by_kind false = by_message a.target (rr_reading a.message)

same_first : {initial : List ℕ} {xs ys : List (List ℕ)} → ys ≡ xs → (rest : List (List ℕ)) × (xs ≡ initial ∷ rest)
    → (rest : List (List ℕ)) × (ys ≡ initial ∷ rest)
same_first is first = (first.0, is ∙ first.1)

pub become_begins : {w : Actors} {number : ℕ} {event : Event} {p q : Mobile} (initial : List ℕ) → Becomes w number event p q
    → BeginsWith initial p → BeginsWith initial q
become_begins initial (queues sapi message p may) begins = record {
  first = λ is. let first = begins.first is in queued_first p.end sapi message initial first.0 first.1;
  still = begins.still;
}
become_begins initial (opens p tenure frame lent) begins = record { first = λ is. absurd cc; still = λ is. absurd cc }
become_begins initial (lends p tenure frame lent) begins = record {
  first = λ is. same_first (ap to_be_taken (frame_three p.end)) (begins.first is);
  still = begins.still;
}
become_begins initial (is_acked sapi p) begins = record {
  first = λ is. same_first (acked_same p.end sapi) (begins.first is);
  still = begins.still;
}
become_begins initial (hears p tenure command first others seat reached pending) begins = record {
  first = λ is. same_first (ap (λ (e : MobileState). to_be_taken e.zero) (hearing-end p first))
      (begins.first (sym (hearing-opens p first) ∙ is));
  still = λ is. hearing_still p first (begins.still (sym (hearing-opens p first) ∙ is));
}
become_begins initial (misses p) begins = begins
become_begins initial (leaves p tenure command seat reached) begins = record { first = λ is. absurd cc; still = λ is. absurd cc }
become_begins initial (arrives p from command seat reached) begins =
    record { first = λ is. absurd (subst IsStill seat (begins.still is)); still = λ is. tt }
become_begins initial (returns p from command seat reached) begins =
    record { first = λ is. absurd (subst IsStill seat (begins.still is)); still = λ is. tt }
become_begins initial (sits station p channel asks) begins = record { first = begins.first; still = λ is. tt }
