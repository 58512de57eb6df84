-- SPDX-License-Identifier: MIT OR Apache-2.0
-- The grammar: which octets are a text of a message.
use Rattle.std.specs.Prelude.{◌≡◌, ℕ, ◌<◌, ◌≤◌, true, false, List, ◌∷◌}
use Rattle.std.specs.Prelude.{length, Option, Some, None}
use Rattle.octets.specs.Element.{Element, AreElements}
use Rattle.octets.specs.Field.{Field, Carries}
use Rattle.octets.specs.declared.limits.TheConstants.{MESSAGE_LIMIT}
use Rattle.rsl_codec.specs.declared.identifiers.TheConstants.{ELEMENTS}
use Rattle.rsl_codec.specs.declared.rsl.Rsl.{Rsl}
use Rattle.rsl_codec.specs.declared.rsl.Rsl.TheVariants.{DataRequest, DataIndication}
use Rattle.rsl_codec.specs.declared.rsl.Rsl.TheVariants.{ErrorIndication, EstablishRequest}
use Rattle.rsl_codec.specs.declared.rsl.Rsl.TheVariants.{EstablishConfirm, EstablishIndication}
use Rattle.rsl_codec.specs.declared.rsl.Rsl.TheVariants.{ReleaseRequest, ReleaseConfirm}
use Rattle.rsl_codec.specs.declared.rsl.Rsl.TheVariants.{ReleaseIndication, ChannelRequired}
use Rattle.rsl_codec.specs.declared.rsl.Rsl.TheVariants.{ImmediateAssignCommand, ChannelActivation}
use Rattle.rsl_codec.specs.declared.rsl.Rsl.TheVariants.{ChannelActivationAck}
use Rattle.rsl_codec.specs.declared.rsl.Rsl.TheVariants.{ChannelActivationNack, ConnectionFailure}
use Rattle.rsl_codec.specs.declared.rsl.Rsl.TheVariants.{HandoverDetection, MeasurementResult}
use Rattle.rsl_codec.specs.declared.rsl.Rsl.TheVariants.{RfChannelRelease, RfChannelReleaseAck}
use Rattle.rsl_codec.specs.ChannelNumber.{is_channel}
use Rattle.rsl_codec.specs.Fields.{channel_fields, link_fields, data_fields, error_fields}
use Rattle.rsl_codec.specs.Fields.{establishment_fields, release_fields, channel_required_fields}
use Rattle.rsl_codec.specs.Fields.{assignment_fields, activation_fields, activation_ack_fields}
use Rattle.rsl_codec.specs.Fields.{failure_fields, detection_fields, measurement_result_fields}
use Rattle.rsl_codec.specs.RslType.{rsl_type, type_of}

-- the elements of a message, in written order
abbrev pub fields : Rsl → List Field
fields (DataRequest m) = data_fields m
fields (DataIndication m) = data_fields m
fields (ErrorIndication m) = error_fields m
fields (EstablishRequest m) = link_fields m
fields (EstablishConfirm m) = link_fields m
fields (EstablishIndication m) = establishment_fields m
fields (ReleaseRequest m) = release_fields m
fields (ReleaseConfirm m) = link_fields m
fields (ReleaseIndication m) = link_fields m
fields (ChannelRequired m) = channel_required_fields m
fields (ImmediateAssignCommand m) = assignment_fields m
fields (ChannelActivation m) = activation_fields m
fields (ChannelActivationAck m) = activation_ack_fields m
fields (ChannelActivationNack m) = failure_fields m
fields (ConnectionFailure m) = failure_fields m
fields (HandoverDetection m) = detection_fields m
fields (MeasurementResult m) = measurement_result_fields m
fields (RfChannelRelease channel) = channel_fields channel
fields (RfChannelReleaseAck channel) = channel_fields channel

abbrev pub channel_of : Rsl → ℕ
channel_of (DataRequest m) = m.channel
channel_of (DataIndication m) = m.channel
channel_of (ErrorIndication m) = m.channel
channel_of (EstablishRequest m) = m.channel
channel_of (EstablishConfirm m) = m.channel
channel_of (EstablishIndication m) = m.channel
channel_of (ReleaseRequest m) = m.channel
channel_of (ReleaseConfirm m) = m.channel
channel_of (ReleaseIndication m) = m.channel
channel_of (ChannelRequired m) = m.channel
channel_of (ImmediateAssignCommand m) = m.channel
channel_of (ChannelActivation m) = m.channel
channel_of (ChannelActivationAck m) = m.channel
channel_of (ChannelActivationNack m) = m.channel
channel_of (ConnectionFailure m) = m.channel
channel_of (HandoverDetection m) = m.channel
channel_of (MeasurementResult m) = m.channel
channel_of (RfChannelRelease channel) = channel
channel_of (RfChannelReleaseAck channel) = channel

-- the L3 information of a message
abbrev pub l3_of : Rsl → Option (List ℕ)
l3_of (DataRequest m) = Some m.l3
l3_of (DataIndication m) = Some m.l3
l3_of (EstablishIndication m) = m.l3
l3_of (MeasurementResult m) = m.l3
l3_of _ = None

-- the L3 information, if present, has 1 to 251 octets
abbrev pub IsL3 : Option (List ℕ) → Type 0
IsL3 None = Unit {0}
IsL3 (Some l3) = (0 < length l3) × (length l3 ≤ MESSAGE_LIMIT)

-- the channel number of the message is allowed, and its L3 information, if present, has 1 to 251
-- octets
abbrev pub IsLawful : Rsl → Type 0
IsLawful v = (is_channel (channel_of v) ≡ true) × IsL3 (l3_of v)

-- The octets are a text of the message: the discriminator and the message type octet of its type,
-- then elements. Bit 1 of the discriminator is ignored. For each field, the first element with the
-- field's identifier has the field's value; if the field has no value, no element has the
-- identifier.
pub record IsRsl (octets : List ℕ) (v : Rsl) : Type 0 where
  pub discriminator : ℕ
  pub octet : ℕ
  pub body : List ℕ
  pub es : List Element
  pub is : octets ≡ discriminator ∷ octet ∷ body
  pub names : rsl_type discriminator octet ≡ Some (type_of v)
  pub are : AreElements ELEMENTS body es false
  pub carries : Carries es (fields v)
  pub lawful : IsLawful v
