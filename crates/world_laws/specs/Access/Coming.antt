-- SPDX-License-Identifier: MIT OR Apache-2.0
-- A connection that is coming has a channel and hasn't asked the switch for its connection yet. Its
-- mobile is to arrive on this channel or arrived there.
use Rattle.std.specs.Prelude.{◌≡◌, ℕ, ◌+◌, ◌≤◌, ◌==◌, if◌then◌else◌}
use Rattle.std.specs.Prelude.{true, false, List, [], ◌∷◌}
use Rattle.std.specs.Prelude.{length, slice_index_or, Option, Some, None, Result, Ok}
use Rattle.std.specs.List.{AllByRecursion, flat_map}
use Rattle.world_laws.specs.Prelude.{WaitEstablish, Place, Connection, place_of, sapi_of, RrMessage}
use Rattle.world_laws.specs.Prelude.{RrFault, rr_reading, to_be_taken}
use Rattle.world_laws.specs.Prelude.{RunsToEnd, Rsl, OutboxEntry, Asking, On, rsl_in, Actors}
use Rattle.world_laws.specs.Prelude.{Mobile}
use Rattle.world_laws.specs.Prelude.{mobile_of, outbox_of, tenure_at}
use Rattle.controller_model.specs.Controller.{place_at}
use Rattle.dtap_codec.specs.declared.rr.RrMessage.TheVariants.{ImmediateAssignment}
use Rattle.world_laws.specs.LineUp.Places.{controls_of, messages_in}
use Rattle.rsl_codec.specs.declared.rsl.Rsl.TheVariants.{DataIndication, ImmediateAssignCommand}
use Rattle.world_laws.specs.Acknowledged.{messages_up}
use Rattle.world_laws.specs.ComingUp.{coming_up, of_main}
use Rattle.world_laws.specs.GoingDown.{going_down}
use Rattle.world_laws.specs.AccountedFor.{initials_up}
use Rattle.world_laws.specs.OthersFrame.{IsHad}
use Rattle.world_laws.specs.Seated.{LinedUp}
use Rattle.world_laws.specs.References.Taken.{IsEarlyIn}

-- ---- the mobile

-- The messages after the first message; the empty list if there is no message.
abbrev pub behind_first : List (List ℕ) → List (List ℕ)
behind_first [] = []
behind_first (_ ∷ messages) = messages

-- The mobile sent nothing yet. Its link still gives all messages of the flow that its upper layers
-- sent. Whatever the first message in the link is, no message after it is of radio resource
-- management.
pub record IsNew (m : ℕ) (p : Mobile) : Type 0 where
  pub opens : p.opens ≡ true
  pub carries_on : RunsToEnd m p.end.sent [] p.end.zero
  pub no_control : controls_of (behind_first (to_be_taken p.end.zero)) ≡ 0

-- The message that a DATA INDICATION of SAPI 0 brings from a channel.
abbrev pub data_by : ℕ → Rsl → List (List ℕ)
data_by channel (DataIndication d) =
    if d.channel == channel then messages_in (of_main (sapi_of d.link) d.l3) else []
data_by channel _ = []

-- the messages in DATA INDICATIONs that are on their way up from a channel
abbrev pub data_up : Actors → Place → List (List ℕ)
data_up w at = flat_map (data_by at.number) (messages_up w at.station)

-- The mobile is still to send its initial message, and no message is on its way from the channel;
-- or it sent the initial message, and at most one initial message is on its way. No message after
-- the initial message is of radio resource management, on its way up or in the link.
pub data BeginsOnce (w : Actors) (p : Mobile) (at : Place) : Type 0 where
  to_begin : p.opens ≡ true → messages_in (coming_up w at) ≡ []
      → controls_of (behind_first (to_be_taken p.end.zero)) ≡ 0 → BeginsOnce w p at
  began : p.opens ≡ false → length (initials_up w at) ≤ 1 → controls_of (data_up w at)
      + controls_of (to_be_taken p.end.zero) ≡ 0 → BeginsOnce w p at

-- The mobile asks for a channel, and the serving channel is quiet; or the mobile is on the serving
-- channel in its last tenure, lined up with the connection.
pub data IsAccessing (m : ℕ) (w : Actors) (s : Connection) (p : Mobile) : Type 0 where
  asks : p.seat ≡ Asking → IsNew m p → messages_in (coming_up w (place_of s.serving)) ≡ []
      → going_down w (place_of s.serving) ≡ [] → IsAccessing m w s p
  arrived : s.state ≡ WaitEstablish → p.seat ≡ On (tenure_at w (place_of s.serving)) None
      → LinedUp m w p s → BeginsOnce w p (place_of s.serving) → IsAccessing m w s p

-- ---- the channel that is assigned to the mobile

-- If an IMMEDIATE ASSIGNMENT names the mobile, it assigns the connection's serving channel, and the
-- activation of this channel was acknowledged.
abbrev pub Assigns : ℕ → Connection → ℕ → Result RrMessage RrFault → Type 0
Assigns mobile s station (Ok (ImmediateAssignment channel request advance)) =
    slice_index_or request 0 0 ≡ mobile
    → (place_at station channel.channel.0 ≡ place_of s.serving) × (s.state ≡ WaitEstablish)
Assigns mobile s station _ = Unit {0}

abbrev pub AssignsBy : ℕ → Connection → ℕ → Option Rsl → Type 0
AssignsBy mobile s station (Some (ImmediateAssignCommand i)) =
    Assigns mobile s station (rr_reading i.information)
AssignsBy mobile s station _ = Unit {0}

abbrev pub AssignsIn : ℕ → Connection → ℕ → OutboxEntry → Type 0
AssignsIn mobile s station entry = AssignsBy mobile s station (rsl_in entry.out.frame)

-- Each IMMEDIATE ASSIGNMENT of the mobile that waits for a station assigns the connection's serving
-- channel.
abbrev pub AreAssigned : Actors → ℕ → Connection → Type 0
AreAssigned w mobile s =
    (station : ℕ) → AllByRecursion (AssignsIn mobile s station) (outbox_of w station)

-- ---- the connection

-- The controller has the connection, which this mobile asked for and which hasn't asked the switch
-- yet. The mobile is to arrive on the connection's channel, or arrived there.
pub record IsComing (m : ℕ) (w : Actors) (mobile : ℕ) (s : Connection) : Type 0 where
  pub had : IsHad w s
  pub early : IsEarlyIn s.state
  pub asked : s.request.access ≡ mobile
  pub one : Mobile
  pub found : mobile_of w mobile ≡ Some one
  pub accessing : IsAccessing m w s one
  pub assigned : AreAssigned w mobile s
