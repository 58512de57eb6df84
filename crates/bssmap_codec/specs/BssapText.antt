-- SPDX-License-Identifier: MIT OR Apache-2.0
-- The text of a message of BSSAP, and the fault for which it isn't written.
use Rattle.std.specs.Prelude.{◌≡◌, ℕ, ◌+◌, true, List, ◌∷◌, length, Option, Some}
use Rattle.std.specs.Prelude.{None}
use Rattle.octets.specs.Field.{fields_text}
use Rattle.octets.specs.Front.{counted_text}
use Rattle.octets.specs.Refusal.{first_refusal}
use Rattle.bssmap_codec.specs.declared.fault.InterfaceFault.{InterfaceFault}
use Rattle.bssmap_codec.specs.declared.bssap.Bssap.{Bssap}
use Rattle.bssmap_codec.specs.declared.bssap.Bssap.TheVariants.{Management, Transfer}
use Rattle.bssmap_codec.specs.declared.bssmap.Bssmap.{Bssmap}
use Rattle.bssmap_codec.specs.declared.bssmap.Bssmap.TheVariants.{AssignmentRequest}
use Rattle.bssmap_codec.specs.declared.bssmap.Bssmap.TheVariants.{AssignmentComplete}
use Rattle.bssmap_codec.specs.declared.bssmap.Bssmap.TheVariants.{AssignmentFailure}
use Rattle.bssmap_codec.specs.declared.bssmap.Bssmap.TheVariants.{HandoverPerformed, ClearCommand}
use Rattle.bssmap_codec.specs.declared.bssmap.Bssmap.TheVariants.{ClearComplete, ClearRequest}
use Rattle.bssmap_codec.specs.declared.bssmap.Bssmap.TheVariants.{SapiNReject, CipherModeCommand}
use Rattle.bssmap_codec.specs.declared.bssmap.Bssmap.TheVariants.{CompleteLayer3Information}
use Rattle.bssmap_codec.specs.declared.bssmap.Bssmap.TheVariants.{CipherModeReject}
use Rattle.bssmap_codec.specs.declared.bssap.TheConstants.{MANAGEMENT, TRANSFER}
use Rattle.bssmap_codec.specs.declared.identifiers.TheConstants.{ELEMENTS}
use Rattle.bssmap_codec.specs.declared.values.RrCause.{RrCause}
use Rattle.bssmap_codec.specs.BssmapType.{bssmap_octet, type_of}
use Rattle.bssmap_codec.specs.Bssap.{fields}
use Rattle.bssmap_codec.specs.Layer3.{layer3_fault}
use Rattle.bssmap_codec.specs.SccpText.{size_fault}
use Rattle.bssmap_codec.specs.Values.{is_dlci}

-- the text of a message of BSSMAP: the type, then the elements in written order
abbrev pub bssmap_text : Bssmap → List ℕ
bssmap_text message = bssmap_octet (type_of message) ∷ fields_text ELEMENTS (fields message)

abbrev pub bssap_text : Bssap → List ℕ
bssap_text (Management message) = MANAGEMENT ∷ counted_text (bssmap_text message)
bssap_text (Transfer dlci message) = TRANSFER ∷ dlci ∷ counted_text message

abbrev pub rr_cause_size : Option RrCause → ℕ
rr_cause_size None = 0
rr_cause_size (Some cause) = 2

-- the number of octets of the text of a message of BSSMAP
abbrev pub bssmap_size : Bssmap → ℕ
bssmap_size (AssignmentRequest channel_type) = 3 + length channel_type.0
bssmap_size (AssignmentComplete rr_cause) = 1 + rr_cause_size rr_cause
bssmap_size (AssignmentFailure cause rr_cause) = 3 + length cause.0 + rr_cause_size rr_cause
bssmap_size (HandoverPerformed cause cell) = 5 + length cause.0 + length cell.0
bssmap_size (ClearCommand cause) = 3 + length cause.0
bssmap_size ClearComplete = 1
bssmap_size (ClearRequest cause) = 3 + length cause.0
bssmap_size (SapiNReject dlci cause) = 5 + length cause.0
bssmap_size CipherModeCommand = 1
bssmap_size (CompleteLayer3Information cell layer3) = 5 + length cell.0 + length layer3
bssmap_size (CipherModeReject cause) = 3 + length cause.0

abbrev pub content_fault : Bssmap → Option InterfaceFault
content_fault (CompleteLayer3Information cell layer3) = layer3_fault layer3
content_fault _ = None

-- The fault for which a message isn't written: that of its layer 3 message, else `TooLong` if a
-- message of BSSMAP has more octets than a length octet can count.
abbrev pub bssap_write_fault : Bssap → Option InterfaceFault
bssap_write_fault (Management message) =
    first_refusal (content_fault message) (size_fault (bssmap_size message))
bssap_write_fault (Transfer dlci message) = layer3_fault message

-- the message is BSSMAP, or DTAP with a SAPI of 0 or 3
abbrev pub HasDlci : Bssap → Type 0
HasDlci (Management message) = Unit {0}
HasDlci (Transfer dlci message) = is_dlci dlci ≡ true
