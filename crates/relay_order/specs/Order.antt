-- SPDX-License-Identifier: MIT OR Apache-2.0
-- The order of messages, stated on the octets of the relay's links.
use Rattle.std.specs.Prelude.{◌≡◌, ℕ, ◌≤◌, Bool, false, Option, Some, List, ◌∷◌}
use Rattle.std.specs.Prelude.{◌==◌, ◌&&◌, map, filter, Contains}
use Rattle.std.specs.Option.{option_and_then}
use Rattle.conn_messages.specs.declared.parameters.TheConstants.{SWITCH_LINK}
use Rattle.controller_model.specs.Life.{life}
use Rattle.controller_model.specs.LifeLaws.Downlink.{IsPart}
use Rattle.controller_model.specs.LifeLaws.Handing.{HandsInPlace}
use Rattle.dtap_codec.specs.declared.sapi.Sapi.{Sapi}
use Rattle.msc_end.specs.Switch.{accepted_on, connection_in, has_gap_on, taken_on}
use Rattle.msc_end.specs.SwitchState.{SwitchState}
use Rattle.octets.specs.Lists.{IsPrefix}
use Rattle.relay_order.specs.Run.{IsRun, Run, steps_of_run}
use Rattle.relay_order.specs.Explains.{Explains}
use Rattle.relay_order.specs.Stations.{handed_in, sent_in}
use Rattle.relay_order.specs.Switch.{FindConnections, new_switch, sccp_messages, switch_given}
use Rattle.settings.specs.Parameters.{Parameters}
use Rattle.world_laws.specs.Order.Openers.{first_served}
use Rattle.world_model.specs.declared.event.Event.{Event}
use Rattle.world_model.specs.declared.seat.Tenure.{Tenure}
use Rattle.world_model.specs.Life.{actors_after_all}
use Rattle.world_model.specs.Views.{sent}
use Rattle.world_model.specs.World.{modulus_in, new_actors}
use Rattle.world_openers.specs.Initials.{initial_of}

-- ---- uplink: the effect of octets on a switch

-- The mobile of a connection of the switch: the first mobile that was served by the controller's
-- connection with the number that the CR gave as its reference. `None` if that connection served no
-- mobile.
abbrev pub mobile_of : Parameters → List Event → SwitchState → ℕ → Option ℕ
mobile_of settings events switch connection =
    option_and_then (λ c. first_served (new_actors settings) events c.peer)
    (connection_in switch connection)

-- the owner is a mobile, and the list is a beginning of the messages that the mobile's upper layers
-- sent
pub record IsBeginningOfSent (settings : Parameters) (events : List Event) (owner : Option ℕ)
    (list : List (List ℕ)) : Type 0 where
  pub mobile : ℕ
  pub owned : owner ≡ Some mobile
  pub sent_list : List (List ℕ)
  pub is_sent : sent (actors_after_all (new_actors settings) events) mobile ≡ Some sent_list
  pub is_prefix : IsPrefix list sent_list

-- the owner is a mobile, and the list begins with the message with which this mobile connected
pub record BeginsWithMessage (settings : Parameters) (events : List Event) (owner : Option ℕ)
    (list : List (List ℕ)) : Type 0 where
  pub mobile : ℕ
  pub owned : owner ≡ Some mobile
  pub initial : List ℕ
  pub connected : initial_of (new_actors settings) events mobile ≡ Some initial
  pub others : List (List ℕ)
  pub first : list ≡ initial ∷ others

-- The uplink order of the connections of a switch that was given these octets.
pub record IsInOrderUp (settings : Parameters) (events : List Event) (octets : List ℕ)
    (switch : SwitchState) : Type 0 where
  -- The messages that the switch accepts on a connection are a beginning of those that the mobile
  -- sent, each once.
  pub accepted : (connection : ℕ) (list : List (List ℕ))
      → accepted_on switch connection ≡ Some list
      → IsBeginningOfSent settings events (mobile_of settings events switch connection) list
  -- The messages that the switch took on a connection begin with the mobile's initial message.
  pub opened : (connection : ℕ) (list : List (List ℕ))
      → taken_on switch connection ≡ Some list
      → BeginsWithMessage settings events (mobile_of settings events switch connection) list
  -- The switch never finds a gap in the numbers.
  pub no_gap : (connection : ℕ) (gap : Bool) → has_gap_on switch connection ≡ Some gap
      → gap ≡ false
  -- No DT1 arrives after the CLEAR COMPLETE of its connection, or for a connection that doesn't
  -- exist.
  pub live : FindConnections (new_switch (modulus_in settings)) (sccp_messages octets)

-- ---- downlink: the messages that the octets of stations' links hand to mobiles

-- a message that is handed to a mobile, and the tenure of the channel in which it is handed
pub record Handed : Type 0 where
  pub tenure : Tenure
  pub message : List ℕ

-- the messages that are handed to the mobile of a connection on a SAPI, in order; the connection is
-- named by the reference in its CR
abbrev pub Handing : Type 0
Handing = ℕ → Sapi → List Handed

abbrev pub is_in : Tenure → Handed → Bool
is_in t h =
    (h.tenure.at.station == t.at.station) && (h.tenure.at.number == t.at.number)
    && (h.tenure.number == t.number)

pub record IsInOrderDown (settings : Parameters) (run : Run) (handing : Handing) : Type 0 where
  -- The messages handed are some of those that the switch sent on the connection, each at most
  -- once, in order.
  pub in_order : (number : ℕ) (sapi : Sapi) → 1 ≤ number
      → IsPart (map (λ h. h.message) (handing number sapi))
      (sent_in (run.read SWITCH_LINK) number sapi)
  -- Each tenure belongs to one connection.
  pub apart : (number other : ℕ) (sapi others : Sapi) (one two : Handed)
      → Contains (handing number sapi) one → Contains (handing other others) two
      → one.tenure ≡ two.tenure → number ≡ other
  -- In each tenure, the messages that any beginning of the octets written to the station hands are
  -- a beginning of the messages handed in this tenure to the mobile of one connection.
  pub octets : (t : Tenure) (sapi : Sapi) (beginning : List ℕ) → 1 ≤ t.at.station
      → IsPrefix beginning (run.written t.at.station)
      → (number : ℕ) × (1 ≤ number) × IsPrefix (handed_in beginning t.at.number sapi t.number)
      (map (λ h. h.message) (filter (is_in t) (handing number sapi)))
  -- No message is handed from the COMMAND until COMPLETE, FAILURE or a clear. At other times
  -- messages are handed on the serving channel. Once CLEAR COMPLETE was put, only RLC is put.
  pub in_place : (number : ℕ) → 1 ≤ number
      → HandsInPlace number settings (steps_of_run run) (life settings (steps_of_run run))

-- ---- uplink and downlink

pub record IsInOrder (settings : Parameters) (run : Run) (events : List Event) : Type 0 where
  -- The uplink is in order for a switch that was given any beginning of the octets written to it.
  pub up : (beginning : List ℕ) → IsPrefix beginning (run.written SWITCH_LINK)
      → IsInOrderUp settings events beginning (switch_given (modulus_in settings) beginning)
  pub handing : Handing
  pub down : IsInOrderDown settings run handing

-- Messages are in order in every run that some network explains.
abbrev pub RunsInOrder : Type 0
RunsInOrder =
    (settings : Parameters) (links : ℕ) (run : Run) (events : List Event)
    → IsRun settings links run → Explains settings run events → IsInOrder settings run events
