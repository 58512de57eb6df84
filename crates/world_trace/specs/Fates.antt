-- SPDX-License-Identifier: MIT OR Apache-2.0
-- The fate of a message that the switch took on one of its connections, by the counts of messages
-- taken, accepted and unnumbered before and after the event.
use Rattle.std.specs.Prelude.{ℕ, ◌+◌, ◌-◌, ◌==◌, nat_le, nat_lt, Bool, false}
use Rattle.std.specs.Prelude.{if◌then◌else◌, List, length}
use Rattle.std.specs.Prelude.{Option, Some, None, Result, Ok, Err}
use Rattle.bssmap_codec.specs.SccpReading.{sccp_reading}
use Rattle.bssmap_codec.specs.declared.fault.InterfaceFault.{InterfaceFault}
use Rattle.bssmap_codec.specs.declared.sccp.Sccp.{Sccp}
use Rattle.bssmap_codec.specs.declared.sccp.Sccp.TheVariants.{ConnectionRequest, DataForm1}
use Rattle.conn_messages.specs.declared.parameters.TheConstants.{SWITCH_LINK}
use Rattle.ipa_framing.specs.declared.frame.Frame.{Frame}
use Rattle.ipa_framing.specs.declared.streams.TheConstants.{SCCP_STREAM}
use Rattle.msc_end.specs.Switch.{has_gap_on}
use Rattle.msc_end.specs.declared.parameters.TheConstants.{CONNECTION_LIMIT, REFERENCE_BASE}
use Rattle.world_model.specs.declared.event.Event.{Event}
use Rattle.world_model.specs.declared.event.Event.TheVariants.{SwitchTakes}
use Rattle.world_model.specs.declared.line.OutboxEntry.{OutboxEntry}
use Rattle.world_model.specs.Life.{actors_after}
use Rattle.world_model.specs.Lists.{first_in}
use Rattle.world_model.specs.Views.{accepted, taken, unnumbered}
use Rattle.world_model.specs.World.{Actors, outbox_of}
use Rattle.world_trace.specs.declared.fate.Counts.{Counts}
use Rattle.world_trace.specs.declared.fate.Fate.{Fate}
use Rattle.world_trace.specs.declared.fate.Fate.TheVariants.{Accepted, Duplicate, Gap, Unnumbered}

-- ---- the connection

-- the number that the next connection of the switch gets; 0 if no number is left
abbrev pub next_connection : Actors → ℕ
next_connection w =
    if nat_le CONNECTION_LIMIT (length w.switch.connections) then 0
    else length w.switch.connections + 1

-- the number of the connection that a CR asks for, or that a DT1 is on; 0 for any other message
abbrev pub number_of : Actors → Sccp → ℕ
number_of w (ConnectionRequest source user) = next_connection w
number_of w (DataForm1 destination user) = destination - REFERENCE_BASE
number_of w _ = 0

abbrev pub connection_by : Actors → Result Sccp InterfaceFault → ℕ
connection_by w (Ok message) = number_of w message
connection_by w (Err fault) = 0

abbrev pub connection_in : Actors → Frame → ℕ
connection_in w frame =
    if frame.stream == SCCP_STREAM then connection_by w (sccp_reading frame.body) else 0

abbrev pub connection_waiting : Actors → Option OutboxEntry → ℕ
connection_waiting w None = 0
connection_waiting w (Some entry) = connection_in w entry.out.frame

-- the number of the connection of the message that an event lets the switch take; 0 if there is no
-- such message or connection
abbrev pub connection_at : Actors → Event → ℕ
connection_at w SwitchTakes = connection_waiting w (first_in (outbox_of w SWITCH_LINK))
connection_at w event = 0

-- ---- the message

abbrev pub how_many : Option (List (List ℕ)) → ℕ
how_many None = 0
how_many (Some messages) = length messages

abbrev pub is_found : Option Bool → Bool
is_found None = false
is_found (Some found) = found

abbrev pub counts_of : Actors → ℕ → Counts
counts_of w connection = record {
  taken = how_many (taken w connection);
  accepted = how_many (accepted w connection);
  unnumbered = how_many (unnumbered w connection);
  has_gap = is_found (has_gap_on w.switch connection);
}

-- the fate of the message that the switch took between the two counts; `None` if the switch took no
-- message
abbrev pub fate_by : Counts → Counts → Option Fate
fate_by before behind =
    if before.taken == behind.taken then None
    else if nat_lt before.accepted behind.accepted then Some Accepted
    else if nat_lt before.unnumbered behind.unnumbered then Some Unnumbered
    else if behind.has_gap then Some Gap else Some Duplicate

-- the fate of the message that an event lets the switch take on `connection`; `None` if there is no
-- such message
abbrev pub fate_on : Actors → Event → ℕ → Option Fate
fate_on w event connection =
    fate_by (counts_of w connection) (counts_of (actors_after w event) connection)

abbrev pub fate_at : Actors → Event → Option Fate
fate_at w event = fate_on w event (connection_at w event)
