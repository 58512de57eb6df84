-- SPDX-License-Identifier: MIT OR Apache-2.0
-- The first fault of octets that aren't a text of a message of BSSAP, stated by header and elements
-- (TS 48.006 clause 9.3, TS 48.008 clause 3.2).
use Rattle.std.specs.Prelude.{◌≡◌, ◌≢◌, ℕ, ◌<◌, Bool, not, ◌==◌, nat_lt, List}
use Rattle.std.specs.Prelude.{[], ◌∷◌, ◌++◌, map}
use Rattle.std.specs.Prelude.{length, take, Option, Some, None, is_none, Result}
use Rattle.octets.specs.Causes.{first_that_holds}
use Rattle.octets.specs.Element.{Element, AreElements}
use Rattle.octets.specs.Refusal.{RefusesBy}
use Rattle.octets.specs.Walk.{first_of}
use Rattle.octets.specs.declared.limits.TheConstants.{MESSAGE_LIMIT}
use Rattle.bssmap_codec.specs.declared.bssap.Bssap.{Bssap}
use Rattle.bssmap_codec.specs.declared.bssap.TheConstants.{MANAGEMENT, TRANSFER}
use Rattle.bssmap_codec.specs.declared.bssmap_type.BssmapType.{BssmapType}
use Rattle.bssmap_codec.specs.declared.bssmap_type.BssmapType.TheVariants.{AssignmentRequest}
use Rattle.bssmap_codec.specs.declared.bssmap_type.BssmapType.TheVariants.{AssignmentComplete}
use Rattle.bssmap_codec.specs.declared.bssmap_type.BssmapType.TheVariants.{AssignmentFailure}
use Rattle.bssmap_codec.specs.declared.bssmap_type.BssmapType.TheVariants.{HandoverPerformed}
use Rattle.bssmap_codec.specs.declared.bssmap_type.BssmapType.TheVariants.{ClearCommand}
use Rattle.bssmap_codec.specs.declared.bssmap_type.BssmapType.TheVariants.{ClearComplete}
use Rattle.bssmap_codec.specs.declared.bssmap_type.BssmapType.TheVariants.{ClearRequest}
use Rattle.bssmap_codec.specs.declared.bssmap_type.BssmapType.TheVariants.{SapiNReject}
use Rattle.bssmap_codec.specs.declared.bssmap_type.BssmapType.TheVariants.{CipherModeCommand}
use Rattle.bssmap_codec.specs.declared.bssmap_type.BssmapType.TheVariants.{CompleteLayer3Information}
use Rattle.bssmap_codec.specs.declared.bssmap_type.BssmapType.TheVariants.{CipherModeReject}
use Rattle.bssmap_codec.specs.declared.fault.InterfaceFault.{InterfaceFault}
use Rattle.bssmap_codec.specs.declared.fault.InterfaceFault.TheVariants.{Short, UnknownType}
use Rattle.bssmap_codec.specs.declared.fault.InterfaceFault.TheVariants.{MissingElement, TooLong}
use Rattle.bssmap_codec.specs.declared.fault.InterfaceFault.TheVariants.{Memory}
use Rattle.bssmap_codec.specs.declared.identifiers.TheConstants.{ELEMENTS, CAUSE, CELL_IDENTIFIER}
use Rattle.bssmap_codec.specs.declared.identifiers.TheConstants.{CHANNEL_TYPE, LAYER_3_INFORMATION}
use Rattle.bssmap_codec.specs.declared.identifiers.TheConstants.{DLCI}
use Rattle.bssmap_codec.specs.BssmapType.{bssmap_type}
use Rattle.bssmap_codec.specs.Values.{is_dlci}

-- the elements that a message of this type needs, in written order
abbrev pub needed : BssmapType → List ℕ
needed AssignmentRequest = CHANNEL_TYPE ∷ []
needed AssignmentComplete = []
needed AssignmentFailure = CAUSE ∷ []
needed HandoverPerformed = CAUSE ∷ CELL_IDENTIFIER ∷ []
needed ClearCommand = CAUSE ∷ []
needed ClearComplete = []
needed ClearRequest = CAUSE ∷ []
needed SapiNReject = DLCI ∷ CAUSE ∷ []
needed CipherModeCommand = []
needed CompleteLayer3Information = CELL_IDENTIFIER ∷ LAYER_3_INFORMATION ∷ []
needed CipherModeReject = CAUSE ∷ []

-- whether no element has this identifier
abbrev pub lacks : List Element → ℕ → Bool
lacks es id = is_none (first_of id es)

-- the faults of a layer 3 message, each with its condition; the list is empty without a layer 3
-- message
abbrev pub layer3_causes : Option (List ℕ) → List (Bool × InterfaceFault)
layer3_causes None = []
layer3_causes (Some message) =
    (length message == 0, Short) ∷ (nat_lt MESSAGE_LIMIT (length message), TooLong) ∷ []

-- the layer 3 message among the elements of a message of this type; `None` if there is none to look
-- at
abbrev pub layer3_in : BssmapType → List Element → Option (List ℕ)
layer3_in CompleteLayer3Information es = first_of LAYER_3_INFORMATION es
layer3_in _ es = None

-- the faults of the elements of a message of this type, each with its condition
abbrev pub element_causes : BssmapType → List Element → List (Bool × InterfaceFault)
element_causes kind es =
    map (λ id. (lacks es id, MissingElement id)) (needed kind) ++ layer3_causes (layer3_in kind es)

-- The faults of a message of BSSMAP after its type is known, each with its condition: `size` is its
-- length octet, `rest` are the octets after the length octet, `is_cut` says whether an element is
-- cut.
abbrev pub management_causes : ℕ → List ℕ → Bool → BssmapType → List Element →
    List (Bool × InterfaceFault)
management_causes size rest is_cut kind es =
    (nat_lt (length rest) size, Short) ∷ (is_cut, Short) ∷ element_causes kind es

-- The faults of DTAP after its header, each with its condition: `dlci` and `size` are its DLCI and
-- length octets, `rest` are the octets after the header.
abbrev pub transfer_causes : ℕ → ℕ → List ℕ → List (Bool × InterfaceFault)
transfer_causes dlci size rest =
    (not (is_dlci dlci), UnknownType) ∷ (nat_lt (length rest) size, Short) ∷
    layer3_causes (Some (take size rest))

-- The first fault of octets; `None` if they have no fault. After the first octet, BSSMAP is a
-- length octet and as many octets as it says: the type, then elements. After the first octet, DTAP
-- is a DLCI, a length octet and as many octets as it says.
pub data FirstFault : List ℕ → Option InterfaceFault → Type 0 where
  nothing : FirstFault [] (Some Short)
  other : (first : ℕ) (rest : List ℕ) → first ≢ MANAGEMENT → first ≢ TRANSFER →
      FirstFault (first ∷ rest) (Some UnknownType)
  no_length : FirstFault (MANAGEMENT ∷ []) (Some Short)
  no_type : (size : ℕ) (rest : List ℕ) → take size rest ≡ [] →
      FirstFault (MANAGEMENT ∷ size ∷ rest) (Some Short)
  unknown : (size octet : ℕ) (rest elements : List ℕ) → take size rest ≡ octet ∷ elements →
      bssmap_type octet ≡ None → FirstFault (MANAGEMENT ∷ size ∷ rest) (Some UnknownType)
  known : (size octet : ℕ) (rest elements : List ℕ) (kind : BssmapType) (es : List Element)
      (is_cut : Bool) → take size rest ≡ octet ∷ elements → bssmap_type octet ≡ Some kind →
      AreElements ELEMENTS elements es is_cut →
      FirstFault (MANAGEMENT ∷ size ∷ rest)
      (first_that_holds (management_causes size rest is_cut kind es))
  no_header : (rest : List ℕ) → length rest < 2 → FirstFault (TRANSFER ∷ rest) (Some Short)
  transfer : (dlci size : ℕ) (rest : List ℕ) →
      FirstFault (TRANSFER ∷ dlci ∷ size ∷ rest)
      (first_that_holds (transfer_causes dlci size rest))

-- If the octets have a fault, the result is their first fault. If they have none, the result is a
-- message or `Memory`.
pub record RefusesBssap (octets : List ℕ) (result : Result Bssap InterfaceFault) : Type 0 where
  pub first : Option InterfaceFault
  pub is_first : FirstFault octets first
  pub refuses : RefusesBy Memory result first
