-- SPDX-License-Identifier: MIT OR Apache-2.0
-- The types of the messages of BSSMAP (TS 48.008 clause 3.2.2.1).
use Rattle.std.specs.Prelude.{ℕ, ◌==◌, Option}
use Rattle.std.specs.List.{find}
use Rattle.bssmap_codec.specs.declared.bssmap.Bssmap.{Bssmap}
use Rattle.bssmap_codec.specs.declared.bssmap.Bssmap.TheVariants as messages
use Rattle.bssmap_codec.specs.declared.bssmap_type.BssmapType.{BssmapType}
use Rattle.bssmap_codec.specs.declared.bssmap_type.BssmapType.TheVariants.{AssignmentRequest}
use Rattle.bssmap_codec.specs.declared.bssmap_type.BssmapType.TheVariants.{AssignmentComplete}
use Rattle.bssmap_codec.specs.declared.bssmap_type.BssmapType.TheVariants.{AssignmentFailure}
use Rattle.bssmap_codec.specs.declared.bssmap_type.BssmapType.TheVariants.{HandoverPerformed}
use Rattle.bssmap_codec.specs.declared.bssmap_type.BssmapType.TheVariants.{ClearCommand}
use Rattle.bssmap_codec.specs.declared.bssmap_type.BssmapType.TheVariants.{ClearComplete}
use Rattle.bssmap_codec.specs.declared.bssmap_type.BssmapType.TheVariants.{ClearRequest}
use Rattle.bssmap_codec.specs.declared.bssmap_type.BssmapType.TheVariants.{SapiNReject}
use Rattle.bssmap_codec.specs.declared.bssmap_type.BssmapType.TheVariants.{CipherModeCommand}
use Rattle.bssmap_codec.specs.declared.bssmap_type.BssmapType.TheVariants.{CompleteLayer3Information}
use Rattle.bssmap_codec.specs.declared.bssmap_type.BssmapType.TheVariants.{CipherModeReject}
use Rattle.bssmap_codec.specs.declared.bssmap_type.TheConstants.{BSSMAP_TYPES}

abbrev pub bssmap_octet : BssmapType → ℕ
bssmap_octet AssignmentRequest = 0x01
bssmap_octet AssignmentComplete = 0x02
bssmap_octet AssignmentFailure = 0x03
bssmap_octet HandoverPerformed = 0x17
bssmap_octet ClearCommand = 0x20
bssmap_octet ClearComplete = 0x21
bssmap_octet ClearRequest = 0x22
bssmap_octet SapiNReject = 0x25
bssmap_octet CipherModeCommand = 0x53
bssmap_octet CompleteLayer3Information = 0x57
bssmap_octet CipherModeReject = 0x59

-- the type with this octet; `None` if no known type has the octet
unfoldable pub bssmap_type : ℕ → Option BssmapType
bssmap_type octet = find (λ kind. bssmap_octet kind == octet) BSSMAP_TYPES

abbrev pub type_of : Bssmap → BssmapType
type_of (messages.AssignmentRequest channel_type) = AssignmentRequest
type_of (messages.AssignmentComplete rr_cause) = AssignmentComplete
type_of (messages.AssignmentFailure cause rr_cause) = AssignmentFailure
type_of (messages.HandoverPerformed cause cell) = HandoverPerformed
type_of (messages.ClearCommand cause) = ClearCommand
type_of messages.ClearComplete = ClearComplete
type_of (messages.ClearRequest cause) = ClearRequest
type_of (messages.SapiNReject dlci cause) = SapiNReject
type_of messages.CipherModeCommand = CipherModeCommand
type_of (messages.CompleteLayer3Information cell layer3) = CompleteLayer3Information
type_of (messages.CipherModeReject cause) = CipherModeReject
