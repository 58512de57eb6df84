-- SPDX-License-Identifier: MIT OR Apache-2.0
-- The names that `decode` prints for the contents of frames.
use Rattle.std.specs.Prelude.{ℕ, ◌==◌, if◌then◌else◌, List, [], ◌∷◌, codes}
use Rattle.std.specs.Prelude.{Result, Ok, Err}
use Rattle.ipa_framing.specs.declared.frame.Frame.{Frame}
use Rattle.ipa_framing.specs.declared.streams.TheConstants.{CCM_STREAM, OML_STREAM, PING, PONG}
use Rattle.ipa_framing.specs.declared.streams.TheConstants.{RSL_STREAM, SCCP_STREAM}
use Rattle.rsl_codec.specs.declared.rsl.Rsl.{Rsl}
use Rattle.rsl_codec.specs.declared.rsl.Rsl.TheVariants as messages
use Rattle.rsl_codec.specs.declared.fault.RslFault.{RslFault}
use Rattle.rsl_codec.specs.declared.fault.RslFault.TheVariants as faults
use Rattle.rsl_codec.specs.RslReading.{rsl_reading}
use Rattle.bssmap_codec.specs.declared.sccp.Sccp.{Sccp}
use Rattle.bssmap_codec.specs.declared.sccp.Sccp.TheVariants as connection
use Rattle.bssmap_codec.specs.declared.fault.InterfaceFault.{InterfaceFault}
use Rattle.bssmap_codec.specs.declared.fault.InterfaceFault.TheVariants as interface
use Rattle.bssmap_codec.specs.SccpReading.{sccp_reading}

-- the name of a message of a base station link (TS 48.058 clause 8)
abbrev pub rsl_message_name : Rsl → List ℕ
rsl_message_name (messages.DataRequest _) = codes "DATA REQUEST"
rsl_message_name (messages.DataIndication _) = codes "DATA INDICATION"
rsl_message_name (messages.ErrorIndication _) = codes "ERROR INDICATION"
rsl_message_name (messages.EstablishRequest _) = codes "ESTABLISH REQUEST"
rsl_message_name (messages.EstablishConfirm _) = codes "ESTABLISH CONFIRM"
rsl_message_name (messages.EstablishIndication _) = codes "ESTABLISH INDICATION"
rsl_message_name (messages.ReleaseRequest _) = codes "RELEASE REQUEST"
rsl_message_name (messages.ReleaseConfirm _) = codes "RELEASE CONFIRM"
rsl_message_name (messages.ReleaseIndication _) = codes "RELEASE INDICATION"
rsl_message_name (messages.ChannelRequired _) = codes "CHANNEL REQUIRED"
rsl_message_name (messages.ImmediateAssignCommand _) = codes "IMMEDIATE ASSIGN COMMAND"
rsl_message_name (messages.ChannelActivation _) = codes "CHANNEL ACTIVATION"
rsl_message_name (messages.ChannelActivationAck _) = codes "CHANNEL ACTIVATION ACK"
rsl_message_name (messages.ChannelActivationNack _) = codes "CHANNEL ACTIVATION NACK"
rsl_message_name (messages.ConnectionFailure _) = codes "CONNECTION FAILURE"
rsl_message_name (messages.HandoverDetection _) = codes "HANDOVER DETECTION"
rsl_message_name (messages.MeasurementResult _) = codes "MEASUREMENT RESULT"
rsl_message_name (messages.RfChannelRelease _) = codes "RF CHANNEL RELEASE"
rsl_message_name (messages.RfChannelReleaseAck _) = codes "RF CHANNEL RELEASE ACK"

-- the name of the first fault in octets that aren't a message of a base station link; here no
-- reading runs out of memory, so S5 and A6 are never printed
abbrev pub rsl_fault_name : RslFault → List ℕ
rsl_fault_name faults.Short = codes "fault S1"
rsl_fault_name faults.UnknownType = codes "fault S2"
rsl_fault_name (faults.MissingElement id) = codes "fault S3"
rsl_fault_name faults.BadChannel = codes "fault S4"
rsl_fault_name faults.Memory = codes "fault S5"
rsl_fault_name faults.TooLong = codes "fault S6"

abbrev pub rsl_name_by : Result Rsl RslFault → List ℕ
rsl_name_by (Ok message) = rsl_message_name message
rsl_name_by (Err fault) = rsl_fault_name fault

abbrev pub rsl_name : List ℕ → List ℕ
rsl_name body = rsl_name_by (rsl_reading body)

-- the name of a message of the link's own management, by its first octet
abbrev pub ccm_name : List ℕ → List ℕ
ccm_name [] = codes "CCM"
ccm_name (first ∷ _) =
    if first == PING then codes "PING" else if first == PONG then codes "PONG" else codes "CCM"

-- the name of a message of the switch link (Q.713 clause 4)
abbrev pub sccp_message_name : Sccp → List ℕ
sccp_message_name (connection.ConnectionRequest _ _) = codes "CR"
sccp_message_name (connection.ConnectionConfirm _ _) = codes "CC"
sccp_message_name (connection.ConnectionRefused _) = codes "CREF"
sccp_message_name (connection.Released _ _) = codes "RLSD"
sccp_message_name (connection.ReleaseComplete _ _) = codes "RLC"
sccp_message_name (connection.DataForm1 _ _) = codes "DT1"

-- the name of the first fault in octets that aren't a message of the switch link
abbrev pub sccp_fault_name : InterfaceFault → List ℕ
sccp_fault_name interface.Short = codes "fault A1"
sccp_fault_name interface.UnknownType = codes "fault A2"
sccp_fault_name (interface.MissingElement id) = codes "fault A3"
sccp_fault_name interface.BadPointer = codes "fault A4"
sccp_fault_name interface.TooLong = codes "fault A5"
sccp_fault_name interface.Memory = codes "fault A6"

abbrev pub sccp_name_by : Result Sccp InterfaceFault → List ℕ
sccp_name_by (Ok message) = sccp_message_name message
sccp_name_by (Err fault) = sccp_fault_name fault

abbrev pub sccp_name : List ℕ → List ℕ
sccp_name body = sccp_name_by (sccp_reading body)

-- the name of a frame's contents, by its stream
abbrev pub name_of : Frame → List ℕ
name_of frame =
    if frame.stream == RSL_STREAM then rsl_name frame.body
    else if frame.stream == SCCP_STREAM then sccp_name frame.body
    else if frame.stream == CCM_STREAM then ccm_name frame.body
    else if frame.stream == OML_STREAM then codes "OML"
    else codes "unknown"
