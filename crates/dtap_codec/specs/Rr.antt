-- SPDX-License-Identifier: MIT OR Apache-2.0
-- Messages of radio resource management, octet by octet (TS 44.018 clause 9.1).
use Rattle.std.specs.Prelude.{◌≡◌, ℕ, ◌+◌, ◌*◌, ◌/◌, ◌%◌, ◌<◌}
use Rattle.std.specs.Prelude.{◌≤◌, List, [], ◌∷◌, ◌++◌, length}
use Rattle.dtap_codec.specs.declared.message.TheConstants.{RADIO_RESOURCE}
use Rattle.dtap_codec.specs.declared.report.TheConstants.{REPORT_LENGTH}
use Rattle.dtap_codec.specs.declared.rr.CellDescription.{CellDescription}
use Rattle.dtap_codec.specs.declared.rr.ChannelDescription.{ChannelDescription}
use Rattle.dtap_codec.specs.declared.rr.RrCause.{RrCause}
use Rattle.dtap_codec.specs.declared.rr.RrMessage.{RrMessage}
use Rattle.dtap_codec.specs.declared.rr.RrMessage.TheVariants.{HandoverCommand, AssignmentCommand}
use Rattle.dtap_codec.specs.declared.rr.RrMessage.TheVariants.{HandoverComplete, HandoverFailure}
use Rattle.dtap_codec.specs.declared.rr.RrMessage.TheVariants.{AssignmentComplete}
use Rattle.dtap_codec.specs.declared.rr.RrMessage.TheVariants.{AssignmentFailure, ChannelRelease}
use Rattle.dtap_codec.specs.declared.rr.RrMessage.TheVariants.{ImmediateAssignment}
use Rattle.dtap_codec.specs.declared.rr.RrMessage.TheVariants.{MeasurementReport, PagingResponse}
use Rattle.dtap_codec.specs.declared.rr.TheConstants.{IMMEDIATE_END_LENGTH}
use Rattle.dtap_codec.specs.declared.rr_type.RrType.{RrType}
use Rattle.dtap_codec.specs.declared.rr_type.RrType.TheVariants as types
use Rattle.dtap_codec.specs.declared.rr_type.TheConstants.{PSEUDO_LENGTH, IMMEDIATE_ASSIGNMENT}
use Rattle.dtap_codec.specs.RrType.{rr_octet}

-- A cell in two octets (clause 10.5.2.2). The first octet holds two high bits of the ARFCN, three
-- bits of the NCC and three bits of the BCC; the second octet holds the low eight bits of the
-- ARFCN.
abbrev pub cell_text : CellDescription → List ℕ
cell_text c = (c.arfcn / 256 * 64 + c.ncc * 8 + c.bcc) ∷ (c.arfcn % 256) ∷ []

-- A channel in three octets (clause 10.5.2.5). The first octet is the channel octet; the second
-- octet holds three bits of the TSC, the three bits `more` and two high bits of the ARFCN; the
-- third octet holds the low eight bits of the ARFCN. `more` is written as 0.
abbrev pub channel_text : ℕ → ChannelDescription → List ℕ
channel_text more c = c.channel.0 ∷ (c.tsc * 32 + more * 4 + c.arfcn / 256) ∷ (c.arfcn % 256) ∷ []

-- each number fits its bits
pub record CellFits (c : CellDescription) : Type 0 where
  pub arfcn : c.arfcn < 1024
  pub ncc : c.ncc < 8
  pub bcc : c.bcc < 8

pub record ChannelFits (c : ChannelDescription) : Type 0 where
  pub tsc : c.tsc < 8
  pub arfcn : c.arfcn < 1024

pub record IsHandoverCommand (octets : List ℕ) (cell : CellDescription)
    (channel : ChannelDescription) (reference : ℕ) : Type 0 where
  pub bits : ℕ
  pub power : ℕ
  pub more : List ℕ
  pub is : octets ≡
      RADIO_RESOURCE ∷ rr_octet types.HandoverCommand ∷
      (cell_text cell ++ (channel_text bits channel ++ reference ∷ power ∷ more))
  pub three_bits : bits < 8
  pub cell_fits : CellFits cell
  pub channel_fits : ChannelFits channel

pub record IsAssignmentCommand (octets : List ℕ) (channel : ChannelDescription) : Type 0 where
  pub bits : ℕ
  pub power : ℕ
  pub more : List ℕ
  pub is : octets ≡
      RADIO_RESOURCE ∷ rr_octet types.AssignmentCommand ∷
      (channel_text bits channel ++ power ∷ more)
  pub three_bits : bits < 8
  pub channel_fits : ChannelFits channel

-- The octets are a message of type `kind` whose only part is `cause`. Any octets may follow the
-- cause.
pub record IsCauseOf (kind : RrType) (octets : List ℕ) (cause : RrCause) : Type 0 where
  pub more : List ℕ
  pub is : octets ≡ RADIO_RESOURCE ∷ rr_octet kind ∷ cause.0 ∷ more

-- The octets are an IMMEDIATE ASSIGNMENT: page mode, channel, request reference, an octet with two
-- ignored bits and six bits of timing advance, and at least 12 more octets.
pub record IsImmediateAssignment (octets : List ℕ) (channel : ChannelDescription) (request : List ℕ)
    (advance : ℕ) : Type 0 where
  pub page_mode : ℕ
  pub bits : ℕ
  pub high : ℕ
  pub last : List ℕ
  pub is : octets ≡
      PSEUDO_LENGTH ∷ RADIO_RESOURCE ∷ IMMEDIATE_ASSIGNMENT ∷ page_mode ∷
      (channel_text bits channel ++ (request ++ (high * 64 + advance) ∷ last))
  pub three_bits : bits < 8
  pub channel_fits : ChannelFits channel
  pub three : length request ≡ 3
  pub six_bits : advance < 64
  pub whole : IMMEDIATE_END_LENGTH ≤ length last

pub record IsMeasurementReport (octets value : List ℕ) : Type 0 where
  pub more : List ℕ
  pub is : octets ≡ RADIO_RESOURCE ∷ rr_octet types.MeasurementReport ∷ (value ++ more)
  pub whole : length value ≡ REPORT_LENGTH

-- The octets are a text of the message. Any octets may follow the message's parts, and parts that
-- `RrMessage` doesn't hold may have any value.
abbrev pub IsRr : List ℕ → RrMessage → Type 0
IsRr octets (HandoverCommand cell channel reference) =
    IsHandoverCommand octets cell channel reference
IsRr octets (AssignmentCommand channel) = IsAssignmentCommand octets channel
IsRr octets (HandoverComplete cause) = IsCauseOf types.HandoverComplete octets cause
IsRr octets (HandoverFailure cause) = IsCauseOf types.HandoverFailure octets cause
IsRr octets (AssignmentComplete cause) = IsCauseOf types.AssignmentComplete octets cause
IsRr octets (AssignmentFailure cause) = IsCauseOf types.AssignmentFailure octets cause
IsRr octets (ChannelRelease cause) = IsCauseOf types.ChannelRelease octets cause
IsRr octets (ImmediateAssignment channel request advance) =
    IsImmediateAssignment octets channel request advance
IsRr octets (MeasurementReport value) = IsMeasurementReport octets value
IsRr octets (PagingResponse rest) = octets ≡ RADIO_RESOURCE ∷ rr_octet types.PagingResponse ∷ rest

-- The numbers of a message fit their bits, and its octet strings have their lengths.
abbrev pub RrFits : RrMessage → Type 0
RrFits (HandoverCommand cell channel reference) = CellFits cell × ChannelFits channel
RrFits (AssignmentCommand channel) = ChannelFits channel
RrFits (ImmediateAssignment channel request advance) =
    ChannelFits channel × (length request ≡ 3) × (advance < 64)
RrFits (MeasurementReport value) = length value ≡ REPORT_LENGTH
RrFits _ = Unit {0}
