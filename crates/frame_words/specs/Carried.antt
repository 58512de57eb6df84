-- SPDX-License-Identifier: MIT OR Apache-2.0
-- The name of the message inside a frame.
use Rattle.std.specs.Prelude.{ℕ, ◌==◌, if◌then◌else◌, List, codes, Option, Some, None}
use Rattle.std.specs.Prelude.{Result, Ok, Err}
use Rattle.bssmap_codec.specs.BssapReading.{bssap_reading}
use Rattle.bssmap_codec.specs.BssmapType.{type_of as bssmap_type_of}
use Rattle.bssmap_codec.specs.SccpReading.{sccp_reading}
use Rattle.bssmap_codec.specs.declared.bssap.Bssap.{Bssap}
use Rattle.bssmap_codec.specs.declared.bssap.Bssap.TheVariants.{Management, Transfer}
use Rattle.bssmap_codec.specs.declared.fault.InterfaceFault.{InterfaceFault}
use Rattle.bssmap_codec.specs.declared.sccp.Sccp.{Sccp}
use Rattle.bssmap_codec.specs.declared.sccp.Sccp.TheVariants.{DataForm1}
use Rattle.dtap_codec.specs.Message.{discriminator}
use Rattle.dtap_codec.specs.RrReading.{rr_reading}
use Rattle.dtap_codec.specs.RrType.{type_of as rr_type_of}
use Rattle.dtap_codec.specs.declared.message.TheConstants.{CALL_CONTROL, MOBILITY_MANAGEMENT}
use Rattle.dtap_codec.specs.declared.message.TheConstants.{RADIO_RESOURCE, SHORT_MESSAGES}
use Rattle.dtap_codec.specs.declared.message.TheConstants.{SUPPLEMENTARY_SERVICES}
use Rattle.dtap_codec.specs.declared.rr.RrMessage.{RrMessage}
use Rattle.dtap_codec.specs.declared.rr_fault.RrFault.{RrFault}
use Rattle.ipa_framing.specs.declared.frame.Frame.{Frame}
use Rattle.ipa_framing.specs.declared.streams.TheConstants.{RSL_STREAM, SCCP_STREAM}
use Rattle.rsl_codec.specs.RslReading.{rsl_reading}
use Rattle.rsl_codec.specs.declared.fault.RslFault.{RslFault}
use Rattle.rsl_codec.specs.declared.rsl.Rsl.{Rsl}
use Rattle.rsl_codec.specs.declared.rsl.Rsl.TheVariants.{DataRequest, DataIndication}
use Rattle.frame_words.specs.CarriedNames.{bssmap_name, dtap_name, interface_fault_name, rr_name}

-- the name of a radio resource message, which begins with `RR`; `RR` alone if the octets aren't
-- such a message
abbrev pub rr_name_by : Result RrMessage RrFault → List ℕ
rr_name_by (Ok message) = rr_name (rr_type_of message)
rr_name_by (Err fault) = codes "RR"

abbrev pub rr_message_name : List ℕ → List ℕ
rr_message_name message = rr_name_by (rr_reading message)

-- the name of the protocol that the discriminator of a layer 3 message gives (TS 24.007 clause
-- 11.2.3.1.1); for radio resource management, the name of the message
abbrev pub protocol_name : ℕ → List ℕ → List ℕ
protocol_name discriminator message =
    if discriminator == CALL_CONTROL then codes "CC"
    else if discriminator == MOBILITY_MANAGEMENT then codes "MM"
    else if discriminator == RADIO_RESOURCE then rr_message_name message
    else if discriminator == SHORT_MESSAGES then codes "SMS"
    else if discriminator == SUPPLEMENTARY_SERVICES then codes "SS"
    else codes "unknown"

abbrev pub layer_3_name_by : Option ℕ → List ℕ → List ℕ
layer_3_name_by None message = codes "unknown"
layer_3_name_by (Some discriminator) message = protocol_name discriminator message

abbrev pub layer_3_name : List ℕ → List ℕ
layer_3_name message = layer_3_name_by (discriminator message) message

-- the name of a BSSAP message, or of the fault in octets that aren't such a message
abbrev pub bssap_message_name : Bssap → List ℕ
bssap_message_name (Management message) = bssmap_name (bssmap_type_of message)
bssap_message_name (Transfer dlci message) = dtap_name dlci

abbrev pub bssap_name_by : Result Bssap InterfaceFault → List ℕ
bssap_name_by (Ok message) = bssap_message_name message
bssap_name_by (Err fault) = interface_fault_name fault

abbrev pub bssap_name : List ℕ → List ℕ
bssap_name octets = bssap_name_by (bssap_reading octets)

-- the name of the message inside a DATA REQUEST or a DATA INDICATION; `None` for any other message
abbrev pub rsl_carries_by : Result Rsl RslFault → Option (List ℕ)
rsl_carries_by (Ok (DataRequest message)) = Some (layer_3_name message.l3)
rsl_carries_by (Ok (DataIndication message)) = Some (layer_3_name message.l3)
rsl_carries_by (Ok message) = None
rsl_carries_by (Err fault) = None

abbrev pub rsl_carries : List ℕ → Option (List ℕ)
rsl_carries body = rsl_carries_by (rsl_reading body)

-- the name of the message inside a DT1; `None` for any other message
abbrev pub sccp_carries_by : Result Sccp InterfaceFault → Option (List ℕ)
sccp_carries_by (Ok (DataForm1 destination octets)) = Some (bssap_name octets)
sccp_carries_by (Ok message) = None
sccp_carries_by (Err fault) = None

abbrev pub sccp_carries : List ℕ → Option (List ℕ)
sccp_carries body = sccp_carries_by (sccp_reading body)

-- the name of the message inside a frame, by the frame's stream
abbrev pub carried_by : Frame → Option (List ℕ)
carried_by frame =
    if frame.stream == RSL_STREAM then rsl_carries frame.body
    else if frame.stream == SCCP_STREAM then sccp_carries frame.body
    else None
