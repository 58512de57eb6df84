-- SPDX-License-Identifier: MIT OR Apache-2.0
-- The reactions of the switch end to a message, as functions of the list of its connections.
use Rattle.std.specs.Prelude.{ℕ, ◌+◌, ◌-◌, nat_le, ◌==◌, Bool, if◌then◌else◌, List}
use Rattle.std.specs.Prelude.{[], ◌∷◌, ◌++◌, length}
use Rattle.std.specs.Prelude.{slice_get, slice_set, Option, Some, None, option_map, option_to_list}
use Rattle.std.specs.Option.{is_none}
use Rattle.std.specs.Result.{result_ok}
use Rattle.bssmap_codec.specs.declared.bssap.Bssap.{Bssap}
use Rattle.bssmap_codec.specs.declared.bssap.Bssap.TheVariants.{Management, Transfer}
use Rattle.bssmap_codec.specs.declared.bssmap.Bssmap.TheVariants.{AssignmentRequest, ClearCommand}
use Rattle.bssmap_codec.specs.declared.bssmap.Bssmap.TheVariants.{ClearComplete, ClearRequest}
use Rattle.bssmap_codec.specs.declared.bssmap.Bssmap.TheVariants.{CompleteLayer3Information}
use Rattle.bssmap_codec.specs.declared.fault.InterfaceFault.{InterfaceFault}
use Rattle.bssmap_codec.specs.declared.sccp.Sccp.{Sccp}
use Rattle.bssmap_codec.specs.declared.sccp.Sccp.TheVariants.{ConnectionRequest, ConnectionConfirm}
use Rattle.bssmap_codec.specs.declared.sccp.Sccp.TheVariants.{ConnectionRefused, Released}
use Rattle.bssmap_codec.specs.declared.sccp.Sccp.TheVariants.{DataForm1}
use Rattle.bssmap_codec.specs.BssapReading.{bssap_reading, cause_of, channel_of}
use Rattle.bssmap_codec.specs.BssapText.{bssap_text, bssap_write_fault}
use Rattle.nsd_filter.specs.AcceptedList.{accepted_list, not_of_the_flow, progress}
use Rattle.dtap_codec.specs.declared.sapi.Sapi.{Sapi}
use Rattle.dtap_codec.specs.declared.sapi.Sapi.TheVariants.{Zero, Three}
use Rattle.msc_end.specs.declared.connection.Connection.{Connection}
use Rattle.msc_end.specs.declared.connection.Stage.{Stage}
use Rattle.msc_end.specs.declared.connection.Stage.TheVariants.{Open, Clearing, Ended}
use Rattle.msc_end.specs.declared.parameters.TheConstants.{CALL_CONTROL_CAUSE, CONNECTION_LIMIT}
use Rattle.msc_end.specs.declared.parameters.TheConstants.{REFERENCE_BASE, SAPI_0_LINK}
use Rattle.msc_end.specs.declared.parameters.TheConstants.{SAPI_3_LINK, SPEECH_CHANNEL}
use Rattle.msc_end.specs.SwitchState.{SwitchState}

-- the message read from octets; None if the octets have a fault
abbrev pub message_in : List ℕ → Option Bssap
message_in octets = result_ok (bssap_reading octets)

abbrev pub data_form_by : Option InterfaceFault → Sccp → Option Sccp
data_form_by None form = Some form
data_form_by (Some fault) form = None

-- the data form 1 that carries a message; None if the message can't be encoded
abbrev pub data_form : ℕ → Bssap → Option Sccp
data_form destination message =
    data_form_by (bssap_write_fault message) (DataForm1 destination (bssap_text message))

abbrev pub with_stage : Connection → Stage → Connection
with_stage c stage = record c { stage = stage }

abbrev pub with_message : Connection → List ℕ → Connection
with_message c message =
    record c { reception = record c.reception { taken = c.reception.taken ++ message ∷ [] } }

-- a connection that hadn't ended, after a message: a layer 3 message is taken, a CLEAR REQUEST sets
-- the stage to Clearing, a CLEAR COMPLETE sets the stage to Ended
abbrev pub live_connection_after : Connection → Bssap → Connection
live_connection_after c (Transfer dlci message) = with_message c message
live_connection_after c (Management (ClearRequest cause)) = with_stage c Clearing
live_connection_after c (Management ClearComplete) = with_stage c Ended
live_connection_after c (Management _) = c

-- the reply to a message on a connection that hasn't ended
abbrev pub live_reply_of : Connection → Bssap → Option Sccp
live_reply_of c (Management (ClearRequest cause)) =
    data_form c.peer (Management (ClearCommand cause))
live_reply_of c (Management ClearComplete) = Some (Released c.peer c.number)
live_reply_of c _ = None

abbrev pub connection_by : Stage → Connection → Bssap → Connection
connection_by Open c message = live_connection_after c message
connection_by Clearing c message = live_connection_after c message
connection_by Ended c message = c

abbrev pub reply_by : Stage → Connection → Bssap → Option Sccp
reply_by Open c message = live_reply_of c message
reply_by Clearing c message = live_reply_of c message
reply_by Ended c message = None

-- a connection after a message; a connection that has ended is unchanged
abbrev pub connection_after : Connection → Bssap → Connection
connection_after c message = connection_by c.stage c message

abbrev pub reply_of : Connection → Bssap → Option Sccp
reply_of c message = reply_by c.stage c message

-- the n-th connection, counted from 1
abbrev pub connection_of : List Connection → ℕ → Option Connection
connection_of connections n = if n == 0 then None else slice_get connections (n - 1)

abbrev pub connection_in : SwitchState → ℕ → Option Connection
connection_in switch n = connection_of switch.connections n

-- the messages taken on a connection, then those of the flow that were passed to the upper layers,
-- then those without a number; None if there is no such connection
abbrev pub taken_on : SwitchState → ℕ → Option (List (List ℕ))
taken_on switch n = option_map (λ c. c.reception.taken) (connection_in switch n)

abbrev pub accepted_on : SwitchState → ℕ → Option (List (List ℕ))
accepted_on switch n =
    option_map (λ c. accepted_list c.reception.modulus c.reception.taken) (connection_in switch n)

abbrev pub unnumbered_on : SwitchState → ℕ → Option (List (List ℕ))
unnumbered_on switch n =
    option_map (λ c. not_of_the_flow c.reception.taken) (connection_in switch n)

-- whether a gap was found in the numbers of the flow on a connection
abbrev pub has_gap_on : SwitchState → ℕ → Option Bool
has_gap_on switch n =
    option_map (λ c. is_none (progress c.reception.modulus c.reception.taken))
    (connection_in switch n)

-- the initial message that a COMPLETE LAYER 3 INFORMATION carries; none for any other message
abbrev pub initial_message_of : Option Bssap → List (List ℕ)
initial_message_of (Some (Management (CompleteLayer3Information cell layer3))) = layer3 ∷ []
initial_message_of _ = []

-- the messages taken from the data of a connection request
abbrev pub initial_messages : Option (List ℕ) → List (List ℕ)
initial_messages None = []
initial_messages (Some octets) = initial_message_of (message_in octets)

-- the connections and, last, the connection that a connection request opens
abbrev pub with_connection : ℕ → List Connection → ℕ → Option (List ℕ) → List Connection
with_connection m connections source user =
    connections ++ record {
      peer = source;
      stage = Open;
      reception = record {
        modulus = m;
        taken = initial_messages user;
      };
      number = REFERENCE_BASE + (length connections + 1);
    } ∷ []

abbrev pub connections_by : List Connection → ℕ → Option Connection → Option Bssap → List Connection
connections_by connections n (Some c) (Some message) =
    slice_set connections (n - 1) (connection_after c message)
connections_by connections n _ _ = connections

abbrev pub replies_by : Option Connection → Option Bssap → List Sccp
replies_by (Some c) (Some message) = option_to_list (reply_of c message)
replies_by _ _ = []

-- the connections after a message from the base station controller; m is the modulus of the numbers
abbrev pub connections_after : ℕ → List Connection → Sccp → List Connection
connections_after m connections (ConnectionRequest source user) =
    if nat_le CONNECTION_LIMIT (length connections)
    then connections
    else with_connection m connections source user
connections_after m connections (DataForm1 destination user) =
    connections_by connections (destination - REFERENCE_BASE)
    (connection_of connections (destination - REFERENCE_BASE)) (message_in user)
connections_after m connections _ = connections

-- the switch end after a message
abbrev pub after : SwitchState → Sccp → SwitchState
after switch message =
    record switch { connections = connections_after switch.modulus switch.connections message }

-- the replies to a message
abbrev pub replies : List Connection → Sccp → List Sccp
replies connections (ConnectionRequest source user) =
    if nat_le CONNECTION_LIMIT (length connections)
    then ConnectionRefused source ∷ []
    else ConnectionConfirm source (REFERENCE_BASE + (length connections + 1)) ∷ []
replies connections (DataForm1 destination user) =
    replies_by (connection_of connections (destination - REFERENCE_BASE)) (message_in user)
replies connections _ = []

-- the number of replies to a message on a connection that hasn't ended: one to a CLEAR REQUEST or a
-- CLEAR COMPLETE, none to any other message
abbrev pub live_reply_count : Bssap → ℕ
live_reply_count (Management (ClearRequest cause)) = 1
live_reply_count (Management ClearComplete) = 1
live_reply_count _ = 0

abbrev pub reply_count_by : Stage → Bssap → ℕ
reply_count_by Open message = live_reply_count message
reply_count_by Clearing message = live_reply_count message
reply_count_by Ended message = 0

abbrev pub reply_count_of : Option Connection → Option Bssap → ℕ
reply_count_of (Some c) (Some message) = reply_count_by c.stage message
reply_count_of _ _ = 0

abbrev pub reply_count : List Connection → Sccp → ℕ
reply_count connections (ConnectionRequest source user) = 1
reply_count connections (DataForm1 destination user) =
    reply_count_of (connection_of connections (destination - REFERENCE_BASE)) (message_in user)
reply_count connections _ = 0

-- the octet of a SAPI's DLCI
abbrev pub dlci_for : Sapi → ℕ
dlci_for Zero = SAPI_0_LINK
dlci_for Three = SAPI_3_LINK

abbrev pub assignment_request : Bssap
assignment_request = Management (AssignmentRequest (channel_of SPEECH_CHANNEL))

abbrev pub clear_command : Bssap
clear_command = Management (ClearCommand (cause_of (CALL_CONTROL_CAUSE ∷ [])))

-- the data form with which the switch sends a message on a connection; empty without a connection
abbrev pub data_forms_on : Option Connection → Bssap → List Sccp
data_forms_on None message = []
data_forms_on (Some c) message = option_to_list (data_form c.peer message)

abbrev pub connections_after_clear : List Connection → ℕ → Option Connection → List Connection
connections_after_clear connections n None = connections
connections_after_clear connections n (Some c) =
    slice_set connections (n - 1) (with_stage c Clearing)

-- the switch end after `clear` of the n-th connection; unchanged if there is no such connection
abbrev pub after_clear : SwitchState → ℕ → SwitchState
after_clear switch n =
    record switch {
      connections =
          connections_after_clear switch.connections n (connection_in switch n);
    }
