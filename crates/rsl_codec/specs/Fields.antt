-- SPDX-License-Identifier: MIT OR Apache-2.0
-- The elements of each message, in written order (TS 48.058 clause 8).
use Rattle.std.specs.Prelude.{ℕ, ◌/◌, ◌%◌, List, [], ◌∷◌, Some, option_map}
use Rattle.octets.specs.Field.{Field, field}
use Rattle.rsl_codec.specs.declared.identifiers.TheConstants.{ACCESS_DELAY, ACTIVATION_TYPE}
use Rattle.rsl_codec.specs.declared.identifiers.TheConstants.{BS_POWER, CAUSE, CHANNEL_MODE}
use Rattle.rsl_codec.specs.declared.identifiers.TheConstants.{CHANNEL_NUMBER, FRAME_NUMBER}
use Rattle.rsl_codec.specs.declared.identifiers.TheConstants.{FULL_IMMEDIATE_ASSIGN}
use Rattle.rsl_codec.specs.declared.identifiers.TheConstants.{HANDOVER_REFERENCE, L1_INFORMATION}
use Rattle.rsl_codec.specs.declared.identifiers.TheConstants.{L3_INFORMATION, LINK_IDENTIFIER}
use Rattle.rsl_codec.specs.declared.identifiers.TheConstants.{MEASUREMENT_NUMBER, RELEASE_MODE}
use Rattle.rsl_codec.specs.declared.identifiers.TheConstants.{REQUEST_REFERENCE, RLM_CAUSE}
use Rattle.rsl_codec.specs.declared.identifiers.TheConstants.{UPLINK_MEASUREMENTS}
use Rattle.rsl_codec.specs.declared.radio_link.Data.{Data}
use Rattle.rsl_codec.specs.declared.radio_link.Link.{Link}
use Rattle.rsl_codec.specs.declared.radio_link.ErrorReport.{ErrorReport}
use Rattle.rsl_codec.specs.declared.radio_link.Establishment.{Establishment}
use Rattle.rsl_codec.specs.declared.radio_link.Release.{Release}
use Rattle.rsl_codec.specs.declared.common_channel.ChannelRequired.{ChannelRequired}
use Rattle.rsl_codec.specs.declared.common_channel.ImmediateAssignment.{ImmediateAssignment}
use Rattle.rsl_codec.specs.declared.dedicated_channel.Activation.{Activation}
use Rattle.rsl_codec.specs.declared.dedicated_channel.ActivationAck.{ActivationAck}
use Rattle.rsl_codec.specs.declared.dedicated_channel.Failure.{Failure}
use Rattle.rsl_codec.specs.declared.dedicated_channel.Detection.{Detection}
use Rattle.rsl_codec.specs.declared.dedicated_channel.MeasurementResult.{MeasurementResult}
use Rattle.rsl_codec.specs.declared.values.RequestReference.{RequestReference}

-- ---- values

abbrev pub octet_value : ℕ → List ℕ
octet_value n = n ∷ []

-- a number in two octets, the high octet first
abbrev pub number_value : ℕ → List ℕ
number_value n = (n / 256) ∷ (n % 256) ∷ []

abbrev pub reference_value : RequestReference → List ℕ
reference_value r = r.access ∷ number_value r.frame

abbrev pub octet_field : ℕ → ℕ → Field
octet_field id n = field id (Some (octet_value n))

-- ---- the elements of each message

abbrev pub channel_fields : ℕ → List Field
channel_fields channel = octet_field CHANNEL_NUMBER channel ∷ []

abbrev pub link_fields : Link → List Field
link_fields m = octet_field CHANNEL_NUMBER m.channel ∷ octet_field LINK_IDENTIFIER m.link ∷ []

abbrev pub data_fields : Data → List Field
data_fields m =
    octet_field CHANNEL_NUMBER m.channel ∷ octet_field LINK_IDENTIFIER m.link ∷
    field L3_INFORMATION (Some m.l3) ∷ []

abbrev pub error_fields : ErrorReport → List Field
error_fields m =
    octet_field CHANNEL_NUMBER m.channel ∷ octet_field LINK_IDENTIFIER m.link ∷
    field RLM_CAUSE (option_map (λ c. c.0) m.cause) ∷ []

abbrev pub establishment_fields : Establishment → List Field
establishment_fields m =
    octet_field CHANNEL_NUMBER m.channel ∷ octet_field LINK_IDENTIFIER m.link ∷
    field L3_INFORMATION m.l3 ∷ []

abbrev pub release_fields : Release → List Field
release_fields m =
    octet_field CHANNEL_NUMBER m.channel ∷ octet_field LINK_IDENTIFIER m.link ∷
    octet_field RELEASE_MODE m.mode.0 ∷ []

abbrev pub channel_required_fields : ChannelRequired → List Field
channel_required_fields m =
    octet_field CHANNEL_NUMBER m.channel ∷
    field REQUEST_REFERENCE (Some (reference_value m.reference)) ∷
    octet_field ACCESS_DELAY m.access_delay.0 ∷ []

abbrev pub assignment_fields : ImmediateAssignment → List Field
assignment_fields m =
    octet_field CHANNEL_NUMBER m.channel ∷ field FULL_IMMEDIATE_ASSIGN (Some m.information) ∷ []

abbrev pub activation_fields : Activation → List Field
activation_fields m =
    octet_field CHANNEL_NUMBER m.channel ∷ octet_field ACTIVATION_TYPE m.activation.0 ∷
    field CHANNEL_MODE (Some m.mode.0)
    ∷ field HANDOVER_REFERENCE (option_map (λ r. octet_value r.0) m.reference) ∷ []

abbrev pub activation_ack_fields : ActivationAck → List Field
activation_ack_fields m =
    octet_field CHANNEL_NUMBER m.channel ∷
    field FRAME_NUMBER (option_map (λ n. number_value n.0) m.frame) ∷ []

abbrev pub failure_fields : Failure → List Field
failure_fields m =
    octet_field CHANNEL_NUMBER m.channel ∷ field CAUSE (option_map (λ c. c.0) m.cause) ∷ []

abbrev pub detection_fields : Detection → List Field
detection_fields m =
    octet_field CHANNEL_NUMBER m.channel ∷
    field ACCESS_DELAY (option_map (λ d. octet_value d.0) m.access_delay) ∷ []

-- the elements of a MEASUREMENT RESULT about the downlink
abbrev pub downlink_fields : MeasurementResult → List Field
downlink_fields m =
    field BS_POWER (option_map (λ p. octet_value p.0) m.bs_power) ∷
    field L1_INFORMATION (option_map (λ i. number_value i.0) m.l1)
    ∷ field L3_INFORMATION m.l3 ∷ []

abbrev pub measurement_result_fields : MeasurementResult → List Field
measurement_result_fields m =
    octet_field CHANNEL_NUMBER m.channel ∷ octet_field MEASUREMENT_NUMBER m.number.0 ∷
    field UPLINK_MEASUREMENTS (option_map (λ u. u.0) m.uplink) ∷ downlink_fields m
