-- SPDX-License-Identifier: MIT OR Apache-2.0
-- How octets are read as a message of radio resource management. Each function checks for faults in
-- the order of its steps.
use Rattle.std.specs.Prelude.{ℕ, ◌+◌, ◌*◌, ◌/◌, ◌%◌, ◌==◌}
use Rattle.std.specs.Prelude.{if◌then◌else◌, List, [], ◌∷◌, Option}
use Rattle.std.specs.Prelude.{Some, None, Result, Ok, Err}
use Rattle.octets.specs.Answer.{◌>>=◌}
use Rattle.octets.specs.Front.{octet_at, split_at}
use Rattle.dtap_codec.specs.declared.message.TheConstants.{RADIO_RESOURCE}
use Rattle.dtap_codec.specs.declared.report.TheConstants.{REPORT_LENGTH}
use Rattle.dtap_codec.specs.declared.rr.CellDescription.{CellDescription}
use Rattle.dtap_codec.specs.declared.rr.ChannelDescription.{ChannelDescription}
use Rattle.dtap_codec.specs.declared.rr.ChannelOctet.{ChannelOctet}
use Rattle.dtap_codec.specs.declared.rr.RrCause.{RrCause}
use Rattle.dtap_codec.specs.declared.rr.RrMessage.{RrMessage}
use Rattle.dtap_codec.specs.declared.rr.RrMessage.TheVariants.{HandoverCommand, AssignmentCommand}
use Rattle.dtap_codec.specs.declared.rr.RrMessage.TheVariants.{HandoverComplete, HandoverFailure}
use Rattle.dtap_codec.specs.declared.rr.RrMessage.TheVariants.{AssignmentComplete}
use Rattle.dtap_codec.specs.declared.rr.RrMessage.TheVariants.{AssignmentFailure, ChannelRelease}
use Rattle.dtap_codec.specs.declared.rr.RrMessage.TheVariants.{ImmediateAssignment}
use Rattle.dtap_codec.specs.declared.rr.RrMessage.TheVariants.{MeasurementReport, PagingResponse}
use Rattle.dtap_codec.specs.declared.rr.TheConstants.{IMMEDIATE_END_LENGTH}
use Rattle.dtap_codec.specs.declared.rr_fault.RrFault.{RrFault}
use Rattle.dtap_codec.specs.declared.rr_fault.RrFault.TheVariants.{Short, UnknownRr}
use Rattle.dtap_codec.specs.declared.rr_type.RrType.{RrType}
use Rattle.dtap_codec.specs.declared.rr_type.RrType.TheVariants as types
use Rattle.dtap_codec.specs.declared.rr_type.TheConstants.{PSEUDO_LENGTH, IMMEDIATE_ASSIGNMENT}
use Rattle.dtap_codec.specs.RrType.{rr_type}

unfoldable pub three_at : List ℕ → Result (ℕ × ℕ × ℕ × List ℕ) RrFault
three_at octets = do
  first ← octet_at Short octets
  second ← octet_at Short first.1
  third ← octet_at Short second.1
  Ok (first.0, second.0, third.0, third.1)

abbrev pub cause_of : ℕ → RrCause
cause_of octet = record { 0 = octet }

abbrev pub channel_octet : ℕ → ChannelOctet
channel_octet octet = record { 0 = octet }

-- A cell from its two octets. The first octet holds two high bits of the ARFCN, three bits of the
-- NCC and three bits of the BCC; the second octet holds the low eight bits of the ARFCN.
abbrev pub cell_of : ℕ → ℕ → CellDescription
cell_of first second =
    record { arfcn = 256 * (first / 64) + second; ncc = first / 8 % 8; bcc = first % 8 }

-- A channel from its three octets. The first octet is the channel octet; the second octet holds
-- three bits of the TSC, three ignored bits and two high bits of the ARFCN; the third octet holds
-- the low eight bits of the ARFCN.
abbrev pub channel_of : ℕ → ℕ → ℕ → ChannelDescription
channel_of first second third =
    record { channel = channel_octet first; tsc = second / 32; arfcn = 256 * (second % 4) + third }

unfoldable pub handover_command_at : List ℕ → Result RrMessage RrFault
handover_command_at octets = do
  first ← octet_at Short octets
  second ← octet_at Short first.1
  channel ← three_at second.1
  reference ← octet_at Short channel.3
  power ← octet_at Short reference.1
  Ok (HandoverCommand (cell_of first.0 second.0)
      (channel_of channel.0 channel.1 channel.2) reference.0)

unfoldable pub assignment_command_at : List ℕ → Result RrMessage RrFault
assignment_command_at octets = do
  channel ← three_at octets
  power ← octet_at Short channel.3
  Ok (AssignmentCommand (channel_of channel.0 channel.1 channel.2))

unfoldable pub cause_at : List ℕ → Result RrCause RrFault
cause_at octets = do
  cause ← octet_at Short octets
  Ok (cause_of cause.0)

-- Reads an IMMEDIATE ASSIGNMENT from the octets after its type. The page mode and two bits of the
-- timing advance's octet are ignored. At least 12 octets must follow the timing advance; these
-- octets are ignored too.
unfoldable pub immediate_assignment_at : List ℕ → Result RrMessage RrFault
immediate_assignment_at octets = do
  page_mode ← octet_at Short octets
  channel ← three_at page_mode.1
  request ← three_at channel.3
  advance ← octet_at Short request.3
  rest ← split_at Short IMMEDIATE_END_LENGTH advance.1
  Ok (ImmediateAssignment (channel_of channel.0 channel.1 channel.2)
      (request.0 ∷ request.1 ∷ request.2 ∷ []) (advance.0 % 64))

unfoldable pub measurement_report_at : List ℕ → Result RrMessage RrFault
measurement_report_at octets = do
  value ← split_at Short REPORT_LENGTH octets
  Ok (MeasurementReport value.0)

-- Reads a message of a type from the octets after the type. An IMMEDIATE ASSIGNMENT is refused
-- here, since it needs a pseudo length.
abbrev pub content_at : RrType → List ℕ → Result RrMessage RrFault
content_at types.HandoverCommand octets = handover_command_at octets
content_at types.AssignmentCommand octets = assignment_command_at octets
content_at types.HandoverComplete octets =
    cause_at octets >>= (λ cause. Ok (HandoverComplete cause))
content_at types.HandoverFailure octets = cause_at octets >>= (λ cause. Ok (HandoverFailure cause))
content_at types.AssignmentComplete octets =
    cause_at octets >>= (λ cause. Ok (AssignmentComplete cause))
content_at types.AssignmentFailure octets =
    cause_at octets >>= (λ cause. Ok (AssignmentFailure cause))
content_at types.ChannelRelease octets = cause_at octets >>= (λ cause. Ok (ChannelRelease cause))
content_at types.ImmediateAssignment octets = Err UnknownRr
content_at types.MeasurementReport octets = measurement_report_at octets
content_at types.PagingResponse octets = Ok (PagingResponse octets)

abbrev pub known_type : Option RrType → Result RrType RrFault
known_type None = Err UnknownRr
known_type (Some kind) = Ok kind

-- The octet must be the discriminator of radio resource management with skip indicator 0.
abbrev pub rr_discriminator : ℕ → Result ℕ RrFault
rr_discriminator octet = if octet == RADIO_RESOURCE then Ok octet else Err UnknownRr

-- Reads a message from the octets after its discriminator.
unfoldable pub typed_at : List ℕ → Result RrMessage RrFault
typed_at octets = do
  first ← octet_at Short octets
  kind ← known_type (rr_type first.0)
  content_at kind first.1

-- Reads a message from the octets after its pseudo length. Only an IMMEDIATE ASSIGNMENT may follow
-- a pseudo length.
unfoldable pub pseudo_at : List ℕ → Result RrMessage RrFault
pseudo_at octets = do
  first ← octet_at Short octets
  discriminator ← rr_discriminator first.0
  kind ← octet_at Short first.1
  if kind.0 == IMMEDIATE_ASSIGNMENT then immediate_assignment_at kind.1 else Err UnknownRr

abbrev pub plain_at : ℕ → List ℕ → Result RrMessage RrFault
plain_at first rest = rr_discriminator first >>= (λ discriminator. typed_at rest)

unfoldable pub rr_reading : List ℕ → Result RrMessage RrFault
rr_reading octets = do
  first ← octet_at Short octets
  if first.0 == PSEUDO_LENGTH then pseudo_at first.1 else plain_at first.0 first.1
