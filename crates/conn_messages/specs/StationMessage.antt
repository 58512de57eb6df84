-- SPDX-License-Identifier: MIT OR Apache-2.0
-- The messages to a base station (TS 48.058 clause 8), and the messages to the mobile that a base
-- station hands on (TS 44.018 clause 9.1).
use Rattle.std.specs.Prelude.{ℕ, min, nat_le, if◌then◌else◌, List, Option, Some, None}
use Rattle.conn_messages.specs.declared.channel.Change.{Change}
use Rattle.conn_messages.specs.declared.channel.Change.TheVariants.{Assignment, Handover}
use Rattle.conn_messages.specs.declared.channel.Channel.{Channel}
use Rattle.conn_messages.specs.declared.message.Message.{Message}
use Rattle.conn_messages.specs.declared.message.Message.TheVariants.{Station}
use Rattle.conn_messages.specs.declared.parameters.TheConstants.{SDCCH_MODE, FULL_RATE_MODE}
use Rattle.conn_messages.specs.declared.parameters.TheConstants.{HALF_RATE_MODE, MAX_TIMING_ADVANCE}
use Rattle.dtap_codec.specs.declared.rr.ChannelDescription.{ChannelDescription}
use Rattle.dtap_codec.specs.declared.rr.RrMessage.{RrMessage}
use Rattle.dtap_codec.specs.declared.rr.RrMessage.TheVariants.{AssignmentCommand, HandoverCommand}
use Rattle.dtap_codec.specs.declared.rr.RrMessage.TheVariants.{ChannelRelease, ImmediateAssignment}
use Rattle.dtap_codec.specs.declared.sapi.Sapi.{Sapi}
use Rattle.dtap_codec.specs.declared.sapi.Sapi.TheVariants.{Zero, Three}
use Rattle.dtap_codec.specs.RrText.{rr_text}
use Rattle.rsl_codec.specs.declared.channel_number.TheConstants.{FIRST_TCH_H, FIRST_SDCCH}
use Rattle.rsl_codec.specs.declared.channel_number.TheConstants.{PCH_AND_AGCH}
use Rattle.rsl_codec.specs.declared.link_identifier.TheConstants.{MAIN_LINK_SAPI_0}
use Rattle.rsl_codec.specs.declared.rsl.Rsl.TheVariants.{DataRequest, EstablishRequest}
use Rattle.rsl_codec.specs.declared.rsl.Rsl.TheVariants.{ImmediateAssignCommand, ChannelActivation}
use Rattle.rsl_codec.specs.declared.rsl.Rsl.TheVariants.{RfChannelRelease}
use Rattle.rsl_codec.specs.declared.values.ActivationType.{ActivationType}
use Rattle.rsl_codec.specs.declared.values.TheConstants.{IMMEDIATE_ASSIGNMENT, NORMAL_ASSIGNMENT}
use Rattle.rsl_codec.specs.declared.values.TheConstants.{ASYNCHRONOUS_HANDOVER}
use Rattle.rsl_codec.specs.declared.values.HandoverReference.{HandoverReference}
use Rattle.rsl_codec.specs.declared.values.RequestReference.{RequestReference}
use Rattle.rsl_codec.specs.Fields.{reference_value}
use Rattle.rsl_codec.specs.LinkIdentifier.{short_message_link}

-- The link identifier of a SAPI: SAPI 0 uses the main link; SAPI 3 uses the main link of an SDCCH
-- and the SACCH of a TCH.
abbrev pub link_on : ℕ → Sapi → ℕ
link_on number Zero = MAIN_LINK_SAPI_0
link_on number Three = short_message_link number

-- ---- layer 3 messages to the mobile

-- DATA REQUEST: the layer 3 message `l3` for the mobile, on the link of `sapi`.
abbrev pub handing : Channel → Sapi → List ℕ → Message
handing c sapi l3 = Station c.station (DataRequest (record {
  channel = c.number;
  link = link_on c.number sapi;
  l3 = l3;
}))

-- A message of radio resource management for the mobile, on SAPI 0.
abbrev pub rr_to_mobile : Channel → RrMessage → Message
rr_to_mobile c message = handing c Zero (rr_text message)

abbrev pub channel_release : Channel → ℕ → Message
channel_release c cause = rr_to_mobile c (ChannelRelease (record { 0 = cause }))

-- The description of a channel. The training sequence code is the BCC of the channel's cell.
abbrev pub channel_description : Channel → ChannelDescription
channel_description c = record {
  channel = record { 0 = c.number };
  tsc = c.description.bcc;
  arfcn = c.description.arfcn;
}

-- The command to the mobile to change to the target channel.
abbrev pub command : Change → Channel → RrMessage
command Assignment target = AssignmentCommand (channel_description target)
command Handover target =
    HandoverCommand target.description (channel_description target) target.reference.0

abbrev pub change_command : Channel → Change → Channel → Message
change_command serving change target = rr_to_mobile serving (command change target)

-- ---- messages to the station itself

abbrev pub establish_request : Channel → Message
establish_request c = Station c.station (EstablishRequest (record {
  channel = c.number;
  link = short_message_link c.number;
}))

abbrev pub rf_channel_release : Channel → Message
rf_channel_release c = Station c.station (RfChannelRelease c.number)

-- The channel mode of the channel with this number: signalling for an SDCCH, speech for a TCH.
abbrev pub mode_of : ℕ → List ℕ
mode_of number =
    if nat_le FIRST_SDCCH number then SDCCH_MODE
    else (if nat_le FIRST_TCH_H number then HALF_RATE_MODE else FULL_RATE_MODE)

abbrev pub activation : Channel → ActivationType → Option HandoverReference → Message
activation c kind reference = Station c.station (ChannelActivation (record {
  channel = c.number;
  activation = kind;
  mode = record { 0 = mode_of c.number };
  reference = reference;
}))

-- The activation of a channel for the access of a mobile.
abbrev pub access_activation : Channel → Message
access_activation c = activation c IMMEDIATE_ASSIGNMENT None

-- The activation of the target of a change, with its handover reference for a handover.
abbrev pub change_activation : Change → Channel → Message
change_activation Assignment target = activation target NORMAL_ASSIGNMENT None
change_activation Handover target = activation target ASYNCHRONOUS_HANDOVER (Some target.reference)

-- The IMMEDIATE ASSIGNMENT of a channel. The timing advance is the access delay, but at most 63.
abbrev pub immediate_assignment : Channel → RequestReference → ℕ → RrMessage
immediate_assignment c request delay =
    ImmediateAssignment (channel_description c) (reference_value request)
    (min delay MAX_TIMING_ADVANCE)

abbrev pub immediate_assign_command : Channel → RequestReference → ℕ → Message
immediate_assign_command c request delay = Station c.station (ImmediateAssignCommand (record {
  channel = PCH_AND_AGCH;
  information = rr_text (immediate_assignment c request delay);
}))
