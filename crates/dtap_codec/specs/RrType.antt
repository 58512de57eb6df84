-- SPDX-License-Identifier: MIT OR Apache-2.0
-- The types of messages of radio resource management (TS 44.018 clause 10.4).
use Rattle.std.specs.Prelude.{ℕ, ◌==◌, Option}
use Rattle.std.specs.List.{find}
use Rattle.dtap_codec.specs.declared.rr.RrMessage.{RrMessage}
use Rattle.dtap_codec.specs.declared.rr.RrMessage.TheVariants.{HandoverCommand, AssignmentCommand}
use Rattle.dtap_codec.specs.declared.rr.RrMessage.TheVariants.{HandoverComplete, HandoverFailure}
use Rattle.dtap_codec.specs.declared.rr.RrMessage.TheVariants.{AssignmentComplete}
use Rattle.dtap_codec.specs.declared.rr.RrMessage.TheVariants.{AssignmentFailure, ChannelRelease}
use Rattle.dtap_codec.specs.declared.rr.RrMessage.TheVariants.{ImmediateAssignment}
use Rattle.dtap_codec.specs.declared.rr.RrMessage.TheVariants.{MeasurementReport, PagingResponse}
use Rattle.dtap_codec.specs.declared.rr_type.RrType.{RrType}
use Rattle.dtap_codec.specs.declared.rr_type.RrType.TheVariants as types
use Rattle.dtap_codec.specs.declared.rr_type.TheConstants.{RR_TYPES}

abbrev pub rr_octet : RrType → ℕ
rr_octet types.HandoverCommand = 0x2b
rr_octet types.AssignmentCommand = 0x2e
rr_octet types.HandoverComplete = 0x2c
rr_octet types.HandoverFailure = 0x28
rr_octet types.AssignmentComplete = 0x29
rr_octet types.AssignmentFailure = 0x2f
rr_octet types.ChannelRelease = 0x0d
rr_octet types.ImmediateAssignment = 0x3f
rr_octet types.MeasurementReport = 0x15
rr_octet types.PagingResponse = 0x27

-- The type with this octet; None if no known type has this octet.
unfoldable pub rr_type : ℕ → Option RrType
rr_type octet = find (λ kind. rr_octet kind == octet) RR_TYPES

-- the type of a message
abbrev pub type_of : RrMessage → RrType
type_of (HandoverCommand cell channel reference) = types.HandoverCommand
type_of (AssignmentCommand channel) = types.AssignmentCommand
type_of (HandoverComplete cause) = types.HandoverComplete
type_of (HandoverFailure cause) = types.HandoverFailure
type_of (AssignmentComplete cause) = types.AssignmentComplete
type_of (AssignmentFailure cause) = types.AssignmentFailure
type_of (ChannelRelease cause) = types.ChannelRelease
type_of (ImmediateAssignment channel request advance) = types.ImmediateAssignment
type_of (MeasurementReport value) = types.MeasurementReport
type_of (PagingResponse rest) = types.PagingResponse
