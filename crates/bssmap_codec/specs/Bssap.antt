-- SPDX-License-Identifier: MIT OR Apache-2.0
-- Messages of BSSAP and BSSMAP, octet by octet (TS 48.006 clause 9.3, TS 48.008 clause 3.2).
use Rattle.std.specs.Prelude.{◌≡◌, ℕ, ◌≤◌, true, false, List, [], ◌∷◌, ◌++◌}
use Rattle.std.specs.Prelude.{length, Option, Some}
use Rattle.std.specs.Prelude.{option_map}
use Rattle.octets.specs.Element.{Element, AreElements}
use Rattle.octets.specs.Field.{Field, field, Carries}
use Rattle.octets.specs.Front.{counted_text}
use Rattle.bssmap_codec.specs.declared.bssap.Bssap.{Bssap}
use Rattle.bssmap_codec.specs.declared.bssap.Bssap.TheVariants.{Management, Transfer}
use Rattle.bssmap_codec.specs.declared.bssmap.Bssmap.{Bssmap}
use Rattle.bssmap_codec.specs.declared.bssmap.Bssmap.TheVariants.{AssignmentRequest}
use Rattle.bssmap_codec.specs.declared.bssmap.Bssmap.TheVariants.{AssignmentComplete}
use Rattle.bssmap_codec.specs.declared.bssmap.Bssmap.TheVariants.{AssignmentFailure}
use Rattle.bssmap_codec.specs.declared.bssmap.Bssmap.TheVariants.{HandoverPerformed, ClearCommand}
use Rattle.bssmap_codec.specs.declared.bssmap.Bssmap.TheVariants.{ClearComplete, ClearRequest}
use Rattle.bssmap_codec.specs.declared.bssmap.Bssmap.TheVariants.{SapiNReject, CipherModeCommand}
use Rattle.bssmap_codec.specs.declared.bssmap.Bssmap.TheVariants.{CompleteLayer3Information}
use Rattle.bssmap_codec.specs.declared.bssmap.Bssmap.TheVariants.{CipherModeReject}
use Rattle.bssmap_codec.specs.declared.bssap.TheConstants.{MANAGEMENT, TRANSFER}
use Rattle.bssmap_codec.specs.declared.identifiers.TheConstants.{ELEMENTS, CAUSE, CELL_IDENTIFIER}
use Rattle.bssmap_codec.specs.declared.identifiers.TheConstants.{CHANNEL_TYPE, RR_CAUSE}
use Rattle.bssmap_codec.specs.declared.identifiers.TheConstants.{LAYER_3_INFORMATION, DLCI}
use Rattle.octets.specs.declared.limits.TheConstants.{LENGTH_LIMIT}
use Rattle.bssmap_codec.specs.declared.values.Cause.{Cause}
use Rattle.bssmap_codec.specs.declared.values.RrCause.{RrCause}
use Rattle.bssmap_codec.specs.BssmapType.{bssmap_octet, type_of}
use Rattle.bssmap_codec.specs.Layer3.{IsLayer3}
use Rattle.bssmap_codec.specs.Values.{is_dlci}

abbrev pub cause_field : Cause → Field
cause_field cause = field CAUSE (Some cause.0)

abbrev pub rr_cause_field : Option RrCause → Field
rr_cause_field rr_cause = field RR_CAUSE (option_map (λ cause. cause.0 ∷ []) rr_cause)

-- the elements of a message, in the order in which they are written
abbrev pub fields : Bssmap → List Field
fields (AssignmentRequest channel_type) = field CHANNEL_TYPE (Some channel_type.0) ∷ []
fields (AssignmentComplete rr_cause) = rr_cause_field rr_cause ∷ []
fields (AssignmentFailure cause rr_cause) = cause_field cause ∷ rr_cause_field rr_cause ∷ []
fields (HandoverPerformed cause cell) = cause_field cause ∷ field CELL_IDENTIFIER (Some cell.0) ∷ []
fields (ClearCommand cause) = cause_field cause ∷ []
fields ClearComplete = []
fields (ClearRequest cause) = cause_field cause ∷ []
fields (SapiNReject dlci cause) = field DLCI (Some (dlci.0 ∷ [])) ∷ cause_field cause ∷ []
fields CipherModeCommand = []
fields (CompleteLayer3Information cell layer3) =
    field CELL_IDENTIFIER (Some cell.0) ∷ field LAYER_3_INFORMATION (Some layer3) ∷ []
fields (CipherModeReject cause) = cause_field cause ∷ []

-- If the message carries a layer 3 message, the layer 3 message has 1 to 251 octets.
abbrev pub HasLayer3 : Bssmap → Type 0
HasLayer3 (CompleteLayer3Information cell layer3) = IsLayer3 layer3
HasLayer3 _ = Unit {0}

-- The octets are a text of the message: its type, then elements in any order. Each field of the
-- message is the first of these elements with the field's identifier.
pub record IsBssmap (octets : List ℕ) (message : Bssmap) : Type 0 where
  pub elements : List ℕ
  pub is : octets ≡ bssmap_octet (type_of message) ∷ elements
  pub found : List Element
  pub are : AreElements ELEMENTS elements found false
  pub carries : Carries found (fields message)
  pub layer3 : HasLayer3 message

-- the first octet of BSSMAP, a length octet, a text of the message of that length, and any octets
pub record IsManagement (octets : List ℕ) (message : Bssmap) : Type 0 where
  pub body : List ℕ
  pub more : List ℕ
  pub is : octets ≡ MANAGEMENT ∷ (counted_text body ++ more)
  pub short : length body ≤ LENGTH_LIMIT
  pub text : IsBssmap body message

-- the first octet of DTAP, a DLCI, a length octet, a layer 3 message of that length, and any octets
pub record IsTransfer (octets : List ℕ) (dlci : ℕ) (message : List ℕ) : Type 0 where
  pub more : List ℕ
  pub is : octets ≡ TRANSFER ∷ dlci ∷ (counted_text message ++ more)
  pub link : is_dlci dlci ≡ true
  pub layer3 : IsLayer3 message

-- The octets are a text of the message; any octets may follow those that its length counts.
abbrev pub IsBssap : List ℕ → Bssap → Type 0
IsBssap octets (Management message) = IsManagement octets message
IsBssap octets (Transfer dlci message) = IsTransfer octets dlci message
