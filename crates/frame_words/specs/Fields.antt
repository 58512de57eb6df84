-- SPDX-License-Identifier: MIT OR Apache-2.0
-- The fields of a frame: the channel or the references of its message.
use Rattle.std.specs.Prelude.{ℕ, ◌==◌, if◌then◌else◌, List, [], ◌∷◌, ◌++◌, codes}
use Rattle.std.specs.Prelude.{Option, Some, None, Result, Ok, Err}
use Rattle.hex.specs.Hex.{encode_lower}
use Rattle.ipa_framing.specs.declared.frame.Frame.{Frame}
use Rattle.ipa_framing.specs.declared.streams.TheConstants.{RSL_STREAM, SCCP_STREAM}
use Rattle.bssmap_codec.specs.Reference.{reference_text}
use Rattle.bssmap_codec.specs.SccpReading.{sccp_reading}
use Rattle.bssmap_codec.specs.declared.fault.InterfaceFault.{InterfaceFault}
use Rattle.bssmap_codec.specs.declared.sccp.Sccp.{Sccp}
use Rattle.bssmap_codec.specs.declared.sccp.Sccp.TheVariants as connection
use Rattle.rsl_codec.specs.RslReading.{rsl_reading}
use Rattle.rsl_codec.specs.declared.fault.RslFault.{RslFault}
use Rattle.rsl_codec.specs.declared.rsl.Rsl.{Rsl}
use Rattle.rsl_codec.specs.declared.rsl.Rsl.TheVariants as messages

-- ---- the octet of the channel number of a message on a station's link

abbrev pub channel_of : Rsl → ℕ
channel_of (messages.DataRequest message) = message.channel
channel_of (messages.DataIndication message) = message.channel
channel_of (messages.ErrorIndication message) = message.channel
channel_of (messages.EstablishRequest message) = message.channel
channel_of (messages.EstablishConfirm message) = message.channel
channel_of (messages.EstablishIndication message) = message.channel
channel_of (messages.ReleaseRequest message) = message.channel
channel_of (messages.ReleaseConfirm message) = message.channel
channel_of (messages.ReleaseIndication message) = message.channel
channel_of (messages.ChannelRequired message) = message.channel
channel_of (messages.ImmediateAssignCommand message) = message.channel
channel_of (messages.ChannelActivation message) = message.channel
channel_of (messages.ChannelActivationAck message) = message.channel
channel_of (messages.ChannelActivationNack message) = message.channel
channel_of (messages.ConnectionFailure message) = message.channel
channel_of (messages.HandoverDetection message) = message.channel
channel_of (messages.MeasurementResult message) = message.channel
channel_of (messages.RfChannelRelease channel) = channel
channel_of (messages.RfChannelReleaseAck channel) = channel

abbrev pub channel_by : Result Rsl RslFault → Option ℕ
channel_by (Ok message) = Some (channel_of message)
channel_by (Err fault) = None

abbrev pub channel_field : Option ℕ → List ℕ
channel_field None = []
channel_field (Some channel) = codes " channel " ++ encode_lower (channel ∷ [])

-- ---- the receiver's and the sender's reference in a message on the switch's link

abbrev pub destination_of : Sccp → Option (List ℕ)
destination_of (connection.ConnectionRequest source octets) = None
destination_of (connection.ConnectionConfirm destination source) = Some (reference_text destination)
destination_of (connection.ConnectionRefused destination) = Some (reference_text destination)
destination_of (connection.Released destination source) = Some (reference_text destination)
destination_of (connection.ReleaseComplete destination source) = Some (reference_text destination)
destination_of (connection.DataForm1 destination octets) = Some (reference_text destination)

abbrev pub source_of : Sccp → Option (List ℕ)
source_of (connection.ConnectionRequest source octets) = Some (reference_text source)
source_of (connection.ConnectionConfirm destination source) = Some (reference_text source)
source_of (connection.ConnectionRefused destination) = None
source_of (connection.Released destination source) = Some (reference_text source)
source_of (connection.ReleaseComplete destination source) = Some (reference_text source)
source_of (connection.DataForm1 destination octets) = None

abbrev pub reference_field : List ℕ → Option (List ℕ) → List ℕ
reference_field word None = []
reference_field word (Some octets) = word ++ encode_lower octets

abbrev pub references_text : Sccp → List ℕ
references_text message =
    reference_field (codes " to ") (destination_of message)
    ++ reference_field (codes " from ") (source_of message)

abbrev pub references_by : Result Sccp InterfaceFault → List ℕ
references_by (Ok message) = references_text message
references_by (Err fault) = []

-- ---- the fields of a frame, by its stream

abbrev pub fields_text : Frame → List ℕ
fields_text frame =
    if frame.stream == RSL_STREAM then channel_field (channel_by (rsl_reading frame.body))
    else if frame.stream == SCCP_STREAM then references_by (sccp_reading frame.body)
    else []
