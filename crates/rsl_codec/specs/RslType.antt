-- SPDX-License-Identifier: MIT OR Apache-2.0
-- The types of the messages (TS 48.058 clauses 9.1 and 9.2).
use Rattle.std.specs.Prelude.{ℕ, ◌/◌, Bool, true, false, ◌==◌, ◌&&◌, nat_lt}
use Rattle.std.specs.Prelude.{if◌then◌else◌, Option}
use Rattle.std.specs.List.{find}
use Rattle.rsl_codec.specs.declared.rsl.Rsl.{Rsl}
use Rattle.rsl_codec.specs.declared.rsl.Rsl.TheVariants as messages
use Rattle.rsl_codec.specs.declared.rsl_type.RslType.{RslType}
use Rattle.rsl_codec.specs.declared.rsl_type.RslType.TheVariants.{DataRequest, DataIndication}
use Rattle.rsl_codec.specs.declared.rsl_type.RslType.TheVariants.{ErrorIndication, EstablishRequest}
use Rattle.rsl_codec.specs.declared.rsl_type.RslType.TheVariants.{EstablishConfirm}
use Rattle.rsl_codec.specs.declared.rsl_type.RslType.TheVariants.{EstablishIndication}
use Rattle.rsl_codec.specs.declared.rsl_type.RslType.TheVariants.{ReleaseRequest, ReleaseConfirm}
use Rattle.rsl_codec.specs.declared.rsl_type.RslType.TheVariants.{ReleaseIndication}
use Rattle.rsl_codec.specs.declared.rsl_type.RslType.TheVariants.{ChannelRequired}
use Rattle.rsl_codec.specs.declared.rsl_type.RslType.TheVariants.{ImmediateAssignCommand}
use Rattle.rsl_codec.specs.declared.rsl_type.RslType.TheVariants.{ChannelActivation}
use Rattle.rsl_codec.specs.declared.rsl_type.RslType.TheVariants.{ChannelActivationAck}
use Rattle.rsl_codec.specs.declared.rsl_type.RslType.TheVariants.{ChannelActivationNack}
use Rattle.rsl_codec.specs.declared.rsl_type.RslType.TheVariants.{ConnectionFailure}
use Rattle.rsl_codec.specs.declared.rsl_type.RslType.TheVariants.{HandoverDetection}
use Rattle.rsl_codec.specs.declared.rsl_type.RslType.TheVariants.{MeasurementResult}
use Rattle.rsl_codec.specs.declared.rsl_type.RslType.TheVariants.{RfChannelRelease}
use Rattle.rsl_codec.specs.declared.rsl_type.RslType.TheVariants.{RfChannelReleaseAck}
use Rattle.rsl_codec.specs.declared.rsl_type.TheConstants.{RSL_TYPES, FIRST_COMMON_CHANNEL}
use Rattle.rsl_codec.specs.declared.rsl_type.TheConstants.{FIRST_DEDICATED_CHANNEL, RADIO_LINK}
use Rattle.rsl_codec.specs.declared.rsl_type.TheConstants.{RADIO_LINK_TRANSPARENT}
use Rattle.rsl_codec.specs.declared.rsl_type.TheConstants.{DEDICATED_CHANNEL, COMMON_CHANNEL}

-- the message type octet
abbrev pub rsl_octet : RslType → ℕ
rsl_octet DataRequest = 0x01
rsl_octet DataIndication = 0x02
rsl_octet ErrorIndication = 0x03
rsl_octet EstablishRequest = 0x04
rsl_octet EstablishConfirm = 0x05
rsl_octet EstablishIndication = 0x06
rsl_octet ReleaseRequest = 0x07
rsl_octet ReleaseConfirm = 0x08
rsl_octet ReleaseIndication = 0x09
rsl_octet ChannelRequired = 0x13
rsl_octet ImmediateAssignCommand = 0x16
rsl_octet ChannelActivation = 0x21
rsl_octet ChannelActivationAck = 0x22
rsl_octet ChannelActivationNack = 0x23
rsl_octet ConnectionFailure = 0x24
rsl_octet HandoverDetection = 0x27
rsl_octet MeasurementResult = 0x28
rsl_octet RfChannelRelease = 0x2e
rsl_octet RfChannelReleaseAck = 0x33

-- the message is transparent: a base station passes its contents on unchanged
abbrev pub is_transparent : RslType → Bool
is_transparent DataRequest = true
is_transparent DataIndication = true
is_transparent _ = false

-- the discriminator of a message type octet: that of transparent messages if the Bool is true, else
-- that of the group to which the octet belongs
abbrev pub discriminator_by : Bool → ℕ → ℕ
discriminator_by true octet = RADIO_LINK_TRANSPARENT
discriminator_by false octet =
    if nat_lt octet FIRST_COMMON_CHANNEL then RADIO_LINK
    else if nat_lt octet FIRST_DEDICATED_CHANNEL then COMMON_CHANNEL
    else DEDICATED_CHANNEL

-- the message discriminator as it is written
abbrev pub rsl_discriminator : RslType → ℕ
rsl_discriminator kind = discriminator_by (is_transparent kind) (rsl_octet kind)

-- the type with this discriminator and message type octet; bit 1 of the discriminator is ignored
unfoldable pub rsl_type : ℕ → ℕ → Option RslType
rsl_type discriminator octet =
    find (λ kind.
    (rsl_discriminator kind / 2 == discriminator / 2) && (rsl_octet kind == octet)) RSL_TYPES

-- the type of a message
abbrev pub type_of : Rsl → RslType
type_of (messages.DataRequest _) = DataRequest
type_of (messages.DataIndication _) = DataIndication
type_of (messages.ErrorIndication _) = ErrorIndication
type_of (messages.EstablishRequest _) = EstablishRequest
type_of (messages.EstablishConfirm _) = EstablishConfirm
type_of (messages.EstablishIndication _) = EstablishIndication
type_of (messages.ReleaseRequest _) = ReleaseRequest
type_of (messages.ReleaseConfirm _) = ReleaseConfirm
type_of (messages.ReleaseIndication _) = ReleaseIndication
type_of (messages.ChannelRequired _) = ChannelRequired
type_of (messages.ImmediateAssignCommand _) = ImmediateAssignCommand
type_of (messages.ChannelActivation _) = ChannelActivation
type_of (messages.ChannelActivationAck _) = ChannelActivationAck
type_of (messages.ChannelActivationNack _) = ChannelActivationNack
type_of (messages.ConnectionFailure _) = ConnectionFailure
type_of (messages.HandoverDetection _) = HandoverDetection
type_of (messages.MeasurementResult _) = MeasurementResult
type_of (messages.RfChannelRelease _) = RfChannelRelease
type_of (messages.RfChannelReleaseAck _) = RfChannelReleaseAck
