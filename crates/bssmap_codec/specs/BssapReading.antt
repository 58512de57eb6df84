-- SPDX-License-Identifier: MIT OR Apache-2.0
-- The reading of octets as a message of BSSAP, as a function of the octets. Its steps stand in the
-- order in which faults are looked for.
use Rattle.std.specs.Prelude.{ℕ, Bool, ◌==◌, if◌then◌else◌, List, take, Option, Some}
use Rattle.std.specs.Prelude.{None, Result}
use Rattle.std.specs.Prelude.{Ok, Err}
use Rattle.std.specs.Option.{ok_or}
use Rattle.octets.specs.Answer.{◌>>=◌, result_map}
use Rattle.octets.specs.Element.{Element}
use Rattle.octets.specs.Front.{octet_at, split_at}
use Rattle.octets.specs.Walk.{walk, first_of}
use Rattle.bssmap_codec.specs.declared.bssap.Bssap.{Bssap}
use Rattle.bssmap_codec.specs.declared.bssap.Bssap.TheVariants.{Management, Transfer}
use Rattle.bssmap_codec.specs.declared.bssap.TheConstants.{MANAGEMENT, TRANSFER}
use Rattle.bssmap_codec.specs.declared.bssmap.Bssmap.{Bssmap}
use Rattle.bssmap_codec.specs.declared.bssmap.Bssmap.TheVariants.{AssignmentRequest}
use Rattle.bssmap_codec.specs.declared.bssmap.Bssmap.TheVariants.{AssignmentComplete}
use Rattle.bssmap_codec.specs.declared.bssmap.Bssmap.TheVariants.{AssignmentFailure}
use Rattle.bssmap_codec.specs.declared.bssmap.Bssmap.TheVariants.{HandoverPerformed, ClearCommand}
use Rattle.bssmap_codec.specs.declared.bssmap.Bssmap.TheVariants.{ClearComplete, ClearRequest}
use Rattle.bssmap_codec.specs.declared.bssmap.Bssmap.TheVariants.{SapiNReject, CipherModeCommand}
use Rattle.bssmap_codec.specs.declared.bssmap.Bssmap.TheVariants.{CompleteLayer3Information}
use Rattle.bssmap_codec.specs.declared.bssmap.Bssmap.TheVariants.{CipherModeReject}
use Rattle.bssmap_codec.specs.declared.bssmap_type.BssmapType.{BssmapType}
use Rattle.bssmap_codec.specs.declared.bssmap_type.BssmapType.TheVariants as kinds
use Rattle.bssmap_codec.specs.declared.fault.InterfaceFault.{InterfaceFault}
use Rattle.bssmap_codec.specs.declared.fault.InterfaceFault.TheVariants.{Short, UnknownType}
use Rattle.bssmap_codec.specs.declared.fault.InterfaceFault.TheVariants.{MissingElement}
use Rattle.bssmap_codec.specs.declared.identifiers.TheConstants.{ELEMENTS, CAUSE, CELL_IDENTIFIER}
use Rattle.bssmap_codec.specs.declared.identifiers.TheConstants.{CHANNEL_TYPE, RR_CAUSE}
use Rattle.bssmap_codec.specs.declared.identifiers.TheConstants.{LAYER_3_INFORMATION, DLCI}
use Rattle.bssmap_codec.specs.declared.values.Cause.{Cause}
use Rattle.bssmap_codec.specs.declared.values.CellIdentifier.{CellIdentifier}
use Rattle.bssmap_codec.specs.declared.values.ChannelType.{ChannelType}
use Rattle.bssmap_codec.specs.declared.values.RejectedDlci.{RejectedDlci}
use Rattle.bssmap_codec.specs.declared.values.RrCause.{RrCause}
use Rattle.bssmap_codec.specs.BssmapType.{bssmap_type}
use Rattle.bssmap_codec.specs.Layer3.{layer3_fault}
use Rattle.bssmap_codec.specs.Values.{dlci_of}

-- the elements of the octets, without a cut element at the end
unfoldable pub elements_of : List ℕ → List Element
elements_of octets = (walk ELEMENTS octets).elements

-- whether a cut element follows the elements
unfoldable pub breaks_off : List ℕ → Bool
breaks_off octets = (walk ELEMENTS octets).is_cut

abbrev pub cause_of : List ℕ → Cause
cause_of value = record { 0 = value }

abbrev pub cell_of : List ℕ → CellIdentifier
cell_of value = record { 0 = value }

abbrev pub channel_of : List ℕ → ChannelType
channel_of value = record { 0 = value }

abbrev pub rr_cause_of : ℕ → RrCause
rr_cause_of octet = record { 0 = octet }

abbrev pub rejected_of : ℕ → RejectedDlci
rejected_of octet = record { 0 = octet }

-- the value of the first element with this identifier, else `MissingElement`
unfoldable pub needed_value : ℕ → List Element → Result (List ℕ) InterfaceFault
needed_value id es = ok_or (first_of id es) (MissingElement id)

-- the first octet in the value of the first element with this identifier, else the fault
unfoldable pub needed_octet : ℕ → List Element → Result ℕ InterfaceFault
needed_octet id es = do
  value ← needed_value id es
  first ← octet_at Short value
  Ok first.0

abbrev pub rr_cause_by : Option (List ℕ) → Result (Option RrCause) InterfaceFault
rr_cause_by None = Ok None
rr_cause_by (Some value) = do
  first ← octet_at Short value
  Ok (Some (rr_cause_of first.0))

unfoldable pub rr_cause_in : List Element → Result (Option RrCause) InterfaceFault
rr_cause_in es = rr_cause_by (first_of RR_CAUSE es)

abbrev pub layer3_by : Option InterfaceFault → List ℕ → Result (List ℕ) InterfaceFault
layer3_by None value = Ok value
layer3_by (Some fault) value = Err fault

-- the octets if they are a layer 3 message, else their fault
unfoldable pub layer3_at : List ℕ → Result (List ℕ) InterfaceFault
layer3_at value = layer3_by (layer3_fault value) value

-- the cause of a message that needs only a cause, else `MissingElement`
unfoldable pub cause_at : List Element → Result Cause InterfaceFault
cause_at es = do
  cause ← needed_value CAUSE es
  Ok (cause_of cause)

unfoldable pub assignment_request_at : List Element → Result Bssmap InterfaceFault
assignment_request_at es = do
  channel ← needed_value CHANNEL_TYPE es
  Ok (AssignmentRequest (channel_of channel))

unfoldable pub assignment_complete_at : List Element → Result Bssmap InterfaceFault
assignment_complete_at es = do
  rr_cause ← rr_cause_in es
  Ok (AssignmentComplete rr_cause)

unfoldable pub assignment_failure_at : List Element → Result Bssmap InterfaceFault
assignment_failure_at es = do
  cause ← needed_value CAUSE es
  rr_cause ← rr_cause_in es
  Ok (AssignmentFailure (cause_of cause) rr_cause)

unfoldable pub handover_performed_at : List Element → Result Bssmap InterfaceFault
handover_performed_at es = do
  cause ← needed_value CAUSE es
  cell ← needed_value CELL_IDENTIFIER es
  Ok (HandoverPerformed (cause_of cause) (cell_of cell))

unfoldable pub reject_at : List Element → Result Bssmap InterfaceFault
reject_at es = do
  dlci ← needed_octet DLCI es
  cause ← needed_value CAUSE es
  Ok (SapiNReject (rejected_of dlci) (cause_of cause))

unfoldable pub complete_layer3_at : List Element → Result Bssmap InterfaceFault
complete_layer3_at es = do
  cell ← needed_value CELL_IDENTIFIER es
  value ← needed_value LAYER_3_INFORMATION es
  layer3 ← layer3_at value
  Ok (CompleteLayer3Information (cell_of cell) layer3)

abbrev pub content_at : BssmapType → List Element → Result Bssmap InterfaceFault
content_at kinds.AssignmentRequest es = assignment_request_at es
content_at kinds.AssignmentComplete es = assignment_complete_at es
content_at kinds.AssignmentFailure es = assignment_failure_at es
content_at kinds.HandoverPerformed es = handover_performed_at es
content_at kinds.ClearCommand es = result_map (λ cause. ClearCommand cause) (cause_at es)
content_at kinds.ClearComplete es = Ok ClearComplete
content_at kinds.ClearRequest es = result_map (λ cause. ClearRequest cause) (cause_at es)
content_at kinds.SapiNReject es = reject_at es
content_at kinds.CipherModeCommand es = Ok CipherModeCommand
content_at kinds.CompleteLayer3Information es = complete_layer3_at es
content_at kinds.CipherModeReject es = result_map (λ cause. CipherModeReject cause) (cause_at es)

-- the message of this type, read from the octets of its elements; `Short` if an element is cut
unfoldable pub message_at : BssmapType → List ℕ → Result Bssmap InterfaceFault
message_at kind octets =
    if breaks_off octets then Err Short else content_at kind (elements_of octets)

-- BSSMAP, read from the octets after its first: a length octet, then as many octets as it says
unfoldable pub management_at : List ℕ → Result Bssap InterfaceFault
management_at octets = do
  size ← octet_at Short octets
  first ← octet_at Short (take size.0 size.1)
  kind ← ok_or (bssmap_type first.0) UnknownType
  body ← split_at Short size.0 size.1
  message ← message_at kind first.1
  Ok (Management message)

-- DTAP, read from the octets after its first: a DLCI, a length octet, then as many octets as it
-- says
unfoldable pub transfer_at : List ℕ → Result Bssap InterfaceFault
transfer_at octets = do
  link ← octet_at Short octets
  size ← octet_at Short link.1
  dlci ← ok_or (dlci_of link.0) UnknownType
  body ← split_at Short size.0 size.1
  message ← layer3_at body.0
  Ok (Transfer dlci message)

unfoldable pub bssap_reading : List ℕ → Result Bssap InterfaceFault
bssap_reading octets = do
  first ← octet_at Short octets
  if first.0 == MANAGEMENT then management_at first.1
      else (if first.0 == TRANSFER then transfer_at first.1 else Err UnknownType)
