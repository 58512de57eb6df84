-- SPDX-License-Identifier: MIT OR Apache-2.0
-- Reading as a function from octets to a message, or to the first fault of the octets.
use Rattle.std.specs.Prelude.{ℕ, ◌+◌, ◌*◌, Bool, List, [], ◌∷◌, length, Option}
use Rattle.std.specs.Prelude.{Some, None}
use Rattle.std.specs.Prelude.{option_map, Result, Ok, Err, nat_lt, if◌then◌else◌}
use Rattle.octets.specs.Answer.{◌>>=◌, result_map}
use Rattle.octets.specs.Element.{Element, element}
use Rattle.octets.specs.Walk.{walk, first_of}
use Rattle.rsl_codec.specs.declared.fault.RslFault.{RslFault}
use Rattle.rsl_codec.specs.declared.fault.RslFault.TheVariants as faults
use Rattle.rsl_codec.specs.declared.rsl_type.RslType.{RslType}
use Rattle.rsl_codec.specs.declared.rsl_type.RslType.TheVariants as types
use Rattle.rsl_codec.specs.declared.identifiers.TheConstants.{ELEMENTS, ACCESS_DELAY}
use Rattle.rsl_codec.specs.declared.identifiers.TheConstants.{ACTIVATION_TYPE, BS_POWER, CAUSE}
use Rattle.rsl_codec.specs.declared.identifiers.TheConstants.{CHANNEL_MODE, CHANNEL_NUMBER}
use Rattle.rsl_codec.specs.declared.identifiers.TheConstants.{FRAME_NUMBER, FULL_IMMEDIATE_ASSIGN}
use Rattle.rsl_codec.specs.declared.identifiers.TheConstants.{HANDOVER_REFERENCE, L1_INFORMATION}
use Rattle.rsl_codec.specs.declared.identifiers.TheConstants.{L3_INFORMATION, LINK_IDENTIFIER}
use Rattle.rsl_codec.specs.declared.identifiers.TheConstants.{MEASUREMENT_NUMBER, RELEASE_MODE}
use Rattle.rsl_codec.specs.declared.identifiers.TheConstants.{REQUEST_REFERENCE, RLM_CAUSE}
use Rattle.rsl_codec.specs.declared.identifiers.TheConstants.{UPLINK_MEASUREMENTS}
use Rattle.octets.specs.declared.limits.TheConstants.{MESSAGE_LIMIT}
use Rattle.rsl_codec.specs.declared.radio_link.Data.{Data}
use Rattle.rsl_codec.specs.declared.radio_link.Link.{Link}
use Rattle.rsl_codec.specs.declared.radio_link.ErrorReport.{ErrorReport}
use Rattle.rsl_codec.specs.declared.radio_link.Establishment.{Establishment}
use Rattle.rsl_codec.specs.declared.radio_link.Release.{Release}
use Rattle.rsl_codec.specs.declared.common_channel.ChannelRequired.{ChannelRequired}
use Rattle.rsl_codec.specs.declared.common_channel.ImmediateAssignment.{ImmediateAssignment}
use Rattle.rsl_codec.specs.declared.dedicated_channel.Activation.{Activation}
use Rattle.rsl_codec.specs.declared.dedicated_channel.ActivationAck.{ActivationAck}
use Rattle.rsl_codec.specs.declared.dedicated_channel.Failure.{Failure}
use Rattle.rsl_codec.specs.declared.dedicated_channel.Detection.{Detection}
use Rattle.rsl_codec.specs.declared.dedicated_channel.MeasurementResult.{MeasurementResult}
use Rattle.rsl_codec.specs.declared.values.RequestReference.{RequestReference}
use Rattle.rsl_codec.specs.declared.rsl.Rsl.{Rsl}
use Rattle.rsl_codec.specs.declared.rsl.Rsl.TheVariants as messages
use Rattle.rsl_codec.specs.ChannelNumber.{channel_by}
use Rattle.rsl_codec.specs.RslType.{rsl_type}

-- ---- the elements after the type

unfoldable pub elements_of : List ℕ → List Element
elements_of body = (walk ELEMENTS body).elements

unfoldable pub breaks_off : List ℕ → Bool
breaks_off body = (walk ELEMENTS body).is_cut

abbrev pub value_or_missing : ℕ → Option (List ℕ) → Result (List ℕ) RslFault
value_or_missing id None = Err (faults.MissingElement id)
value_or_missing id (Some value) = Ok value

-- the value of the first element with this identifier; MissingElement if there is no such element
abbrev pub needed_value : ℕ → List Element → Result (List ℕ) RslFault
needed_value id es = value_or_missing id (first_of id es)

-- ---- values

abbrev pub channel_at : List ℕ → Result ℕ RslFault
channel_at [] = Err faults.BadChannel
channel_at (octet ∷ _) = channel_by octet

abbrev pub octet_of : List ℕ → ℕ
octet_of [] = 0
octet_of (octet ∷ _) = octet

abbrev pub number_of : List ℕ → ℕ
number_of (high ∷ low ∷ _) = 256 * high + low
number_of _ = 0

abbrev pub reference_of : List ℕ → RequestReference
reference_of [] = record { access = 0; frame = 0 }
reference_of (access ∷ frame) = record { access = access; frame = number_of frame }

-- the L3 information if it has 1 to 251 octets, else the fault
abbrev pub l3_at : List ℕ → Result (List ℕ) RslFault
l3_at [] = Err faults.Short
l3_at (x ∷ xs) = if nat_lt MESSAGE_LIMIT (length (x ∷ xs)) then Err faults.TooLong else Ok (x ∷ xs)

abbrev pub optional_l3_at : Option (List ℕ) → Result (Option (List ℕ)) RslFault
optional_l3_at None = Ok None
optional_l3_at (Some value) = do
  l3 ← l3_at value
  Ok (Some l3)

-- ---- each message; checked first: mandatory elements, then channel number, then L3 information

unfoldable pub channel_only_at : List Element → Result ℕ RslFault
channel_only_at es = do
  number ← needed_value CHANNEL_NUMBER es
  channel_at number

unfoldable pub link_at : List Element → Result Link RslFault
link_at es = do
  number ← needed_value CHANNEL_NUMBER es
  link ← needed_value LINK_IDENTIFIER es
  channel ← channel_at number
  Ok (record { channel = channel; link = octet_of link })

unfoldable pub data_at : List Element → Result Data RslFault
data_at es = do
  number ← needed_value CHANNEL_NUMBER es
  link ← needed_value LINK_IDENTIFIER es
  text ← needed_value L3_INFORMATION es
  channel ← channel_at number
  l3 ← l3_at text
  Ok (record { channel = channel; link = octet_of link; l3 = l3 })

unfoldable pub error_at : List Element → Result ErrorReport RslFault
error_at es = do
  number ← needed_value CHANNEL_NUMBER es
  link ← needed_value LINK_IDENTIFIER es
  channel ← channel_at number
  Ok (record {
    channel = channel;
    link = octet_of link;
    cause = option_map (λ v. record { 0 = v }) (first_of RLM_CAUSE es);
  })

unfoldable pub establishment_at : List Element → Result Establishment RslFault
establishment_at es = do
  number ← needed_value CHANNEL_NUMBER es
  link ← needed_value LINK_IDENTIFIER es
  channel ← channel_at number
  l3 ← optional_l3_at (first_of L3_INFORMATION es)
  Ok (record { channel = channel; link = octet_of link; l3 = l3 })

unfoldable pub release_at : List Element → Result Release RslFault
release_at es = do
  number ← needed_value CHANNEL_NUMBER es
  link ← needed_value LINK_IDENTIFIER es
  mode ← needed_value RELEASE_MODE es
  channel ← channel_at number
  Ok (record { channel = channel; link = octet_of link; mode = record { 0 = octet_of mode } })

unfoldable pub channel_required_at : List Element → Result ChannelRequired RslFault
channel_required_at es = do
  number ← needed_value CHANNEL_NUMBER es
  request ← needed_value REQUEST_REFERENCE es
  delay ← needed_value ACCESS_DELAY es
  channel ← channel_at number
  Ok (record {
    channel = channel;
    reference = reference_of request;
    access_delay = record { 0 = octet_of delay };
  })

unfoldable pub assignment_at : List Element → Result ImmediateAssignment RslFault
assignment_at es = do
  number ← needed_value CHANNEL_NUMBER es
  text ← needed_value FULL_IMMEDIATE_ASSIGN es
  channel ← channel_at number
  Ok (record { channel = channel; information = text })

unfoldable pub activation_at : List Element → Result Activation RslFault
activation_at es = do
  number ← needed_value CHANNEL_NUMBER es
  activation ← needed_value ACTIVATION_TYPE es
  mode ← needed_value CHANNEL_MODE es
  channel ← channel_at number
  Ok (record {
    channel = channel;
    activation = record { 0 = octet_of activation };
    mode = record { 0 = mode };
    reference = option_map (λ v. record { 0 = octet_of v }) (first_of HANDOVER_REFERENCE es);
  })

unfoldable pub activation_ack_at : List Element → Result ActivationAck RslFault
activation_ack_at es = do
  number ← needed_value CHANNEL_NUMBER es
  channel ← channel_at number
  Ok (record {
    channel = channel;
    frame = option_map (λ v. record { 0 = number_of v }) (first_of FRAME_NUMBER es);
  })

unfoldable pub failure_at : List Element → Result Failure RslFault
failure_at es = do
  number ← needed_value CHANNEL_NUMBER es
  channel ← channel_at number
  Ok (record { channel = channel; cause = option_map (λ v. record { 0 = v }) (first_of CAUSE es) })

unfoldable pub detection_at : List Element → Result Detection RslFault
detection_at es = do
  number ← needed_value CHANNEL_NUMBER es
  channel ← channel_at number
  Ok (record {
    channel = channel;
    access_delay = option_map (λ v. record { 0 = octet_of v }) (first_of ACCESS_DELAY es);
  })

unfoldable pub measurement_result_at : List Element → Result MeasurementResult RslFault
measurement_result_at es = do
  number ← needed_value CHANNEL_NUMBER es
  result_number ← needed_value MEASUREMENT_NUMBER es
  channel ← channel_at number
  l3 ← optional_l3_at (first_of L3_INFORMATION es)
  Ok (record {
    channel = channel;
    number = record { 0 = octet_of result_number };
    uplink = option_map (λ v. record { 0 = v }) (first_of UPLINK_MEASUREMENTS es);
    bs_power = option_map (λ v. record { 0 = octet_of v }) (first_of BS_POWER es);
    l1 = option_map (λ v. record { 0 = number_of v }) (first_of L1_INFORMATION es);
    l3 = l3;
  })

-- the elements of DATA REQUEST and DATA INDICATION in written order
abbrev pub data_elements : ℕ → ℕ → List ℕ → List Element
data_elements channel link l3 =
    element CHANNEL_NUMBER (channel ∷ []) ∷ element LINK_IDENTIFIER (link ∷ []) ∷
    element L3_INFORMATION l3 ∷ []

-- ---- any message

unfoldable pub message_at : RslType → List Element → Result Rsl RslFault
message_at types.DataRequest es = result_map (λ m. messages.DataRequest m) (data_at es)
message_at types.DataIndication es = result_map (λ m. messages.DataIndication m) (data_at es)
message_at types.ErrorIndication es = result_map (λ m. messages.ErrorIndication m) (error_at es)
message_at types.EstablishRequest es = result_map (λ m. messages.EstablishRequest m) (link_at es)
message_at types.EstablishConfirm es = result_map (λ m. messages.EstablishConfirm m) (link_at es)
message_at types.EstablishIndication es =
    result_map (λ m. messages.EstablishIndication m) (establishment_at es)
message_at types.ReleaseRequest es = result_map (λ m. messages.ReleaseRequest m) (release_at es)
message_at types.ReleaseConfirm es = result_map (λ m. messages.ReleaseConfirm m) (link_at es)
message_at types.ReleaseIndication es = result_map (λ m. messages.ReleaseIndication m) (link_at es)
message_at types.ChannelRequired es =
    result_map (λ m. messages.ChannelRequired m) (channel_required_at es)
message_at types.ImmediateAssignCommand es =
    result_map (λ m. messages.ImmediateAssignCommand m) (assignment_at es)
message_at types.ChannelActivation es =
    result_map (λ m. messages.ChannelActivation m) (activation_at es)
message_at types.ChannelActivationAck es =
    result_map (λ m. messages.ChannelActivationAck m) (activation_ack_at es)
message_at types.ChannelActivationNack es =
    result_map (λ m. messages.ChannelActivationNack m) (failure_at es)
message_at types.ConnectionFailure es =
    result_map (λ m. messages.ConnectionFailure m) (failure_at es)
message_at types.HandoverDetection es =
    result_map (λ m. messages.HandoverDetection m) (detection_at es)
message_at types.MeasurementResult es =
    result_map (λ m. messages.MeasurementResult m) (measurement_result_at es)
message_at types.RfChannelRelease es =
    result_map (λ c. messages.RfChannelRelease c) (channel_only_at es)
message_at types.RfChannelReleaseAck es =
    result_map (λ c. messages.RfChannelReleaseAck c) (channel_only_at es)

abbrev pub rsl_reading_by : Option RslType → List ℕ → Result Rsl RslFault
rsl_reading_by None body = Err faults.UnknownType
rsl_reading_by (Some kind) body =
    if breaks_off body then Err faults.Short else message_at kind (elements_of body)

unfoldable pub rsl_reading : List ℕ → Result Rsl RslFault
rsl_reading (discriminator ∷ octet ∷ body) = rsl_reading_by (rsl_type discriminator octet) body
rsl_reading _ = Err faults.Short
