-- SPDX-License-Identifier: MIT OR Apache-2.0
-- The reading of texts that are cut, and of texts with FF in place of one octet.
use Rattle.std.proofs.Common.{◌≡◌, ℕ, List, [], ◌∷◌, ◌++◌, length, map, replicate, set, take, Some, None, Result, Ok, Err, refl}
use Rattle.std.specs.List.{range_with_len}
use Rattle.octets.proofs.Hex.{hex}
use Rattle.octets.specs.Front.{octet_at, counted_at}
use Rattle.octets.specs.Walk.{walk}
use Rattle.bssmap_codec.specs.declared.bssap.Bssap.TheVariants.{Management, Transfer}
use Rattle.bssmap_codec.specs.declared.bssmap.Bssmap.TheVariants.{AssignmentRequest, AssignmentComplete, AssignmentFailure, ClearCommand, ClearComplete, ClearRequest, SapiNReject}
use Rattle.bssmap_codec.specs.declared.fault.InterfaceFault.{InterfaceFault}
use Rattle.bssmap_codec.specs.declared.fault.InterfaceFault.TheVariants.{Short, UnknownType, MissingElement, BadPointer}
use Rattle.bssmap_codec.specs.declared.sccp.Sccp.{Sccp}
use Rattle.bssmap_codec.specs.declared.sccp.Sccp.TheVariants.{ConnectionConfirm, DataForm1}
use Rattle.bssmap_codec.specs.BssapReading.{cause_of, channel_of, rejected_of, rr_cause_of, elements_of, breaks_off, needed_value, needed_octet, rr_cause_in, layer3_at, cause_at, assignment_request_at, assignment_complete_at, assignment_failure_at, reject_at, content_at, message_at, management_at, transfer_at, bssap_reading}
use Rattle.bssmap_codec.specs.BssmapType.{bssmap_type}
use Rattle.bssmap_codec.specs.Reference.{reference_at, references_at}
use Rattle.bssmap_codec.specs.SccpReading.{part_at, fixed_references_at, data_behind_at, data_form_at, sccp_reading}
use Rattle.bssmap_codec.specs.SccpType.{sccp_type}

-- each proper beginning of a text, the shortest first, and the text with FF at each place
abbrev beginnings : List ℕ → List (List ℕ)
beginnings text = map (λ size. take size text) (range_with_len 0 (length text))

abbrev with_each_false : List ℕ → List (List ℕ)
with_each_false text = map (λ place. set text place 0xff) (range_with_len 0 (length text))

-- ---- data form 1: type, reference, 00, pointer, length and data

abbrev data_form : List ℕ
data_form = hex "06 00 00 01 00 01 05 01 03 02 09 01"

-- the pointer leads behind what breaks off before the length
data_form_cut : map sccp_reading (beginnings data_form) ≡
    Err Short ∷ Err Short ∷ Err Short ∷ Err Short ∷ Err Short ∷ Err Short ∷ Err BadPointer ∷ Err Short ∷ Err Short ∷ Err Short
    ∷ Err Short ∷ Err Short ∷ []
unfolding sccp_reading octet_at sccp_type reference_at part_at counted_at data_behind_at data_form_at
data_form_cut = refl

data_form_false : map sccp_reading (with_each_false data_form) ≡
    Err UnknownType ∷ Ok (DataForm1 0xff0001 (hex "01 03 02 09 01")) ∷ Ok (DataForm1 0x00ff01 (hex "01 03 02 09 01"))
    ∷ Ok (DataForm1 0x0000ff (hex "01 03 02 09 01")) ∷ Err UnknownType ∷ Err BadPointer ∷ Err Short
    ∷ Ok (DataForm1 0x000001 (hex "ff 03 02 09 01")) ∷ Ok (DataForm1 0x000001 (hex "01 ff 02 09 01"))
    ∷ Ok (DataForm1 0x000001 (hex "01 03 ff 09 01"))
    ∷ Ok (DataForm1 0x000001 (hex "01 03 02 ff 01")) ∷ Ok (DataForm1 0x000001 (hex "01 03 02 09 ff")) ∷ []
unfolding sccp_reading octet_at sccp_type reference_at part_at counted_at data_behind_at data_form_at
data_form_false = refl

-- ---- connection confirm: type, two references, class and pointer, of which these two aren't looked at

abbrev confirm : List ℕ
confirm = hex "02 00 00 01 80 00 01 02 00"

confirm_cut : map sccp_reading (beginnings confirm) ≡ replicate 9 (Err Short)
unfolding sccp_reading octet_at sccp_type reference_at references_at fixed_references_at
confirm_cut = refl

confirm_false : map sccp_reading (with_each_false confirm) ≡
    Err UnknownType ∷ Ok (ConnectionConfirm 0xff0001 0x800001) ∷ Ok (ConnectionConfirm 0x00ff01 0x800001)
    ∷ Ok (ConnectionConfirm 0x0000ff 0x800001)
    ∷ Ok (ConnectionConfirm 0x000001 0xff0001) ∷ Ok (ConnectionConfirm 0x000001 0x80ff01) ∷ Ok (ConnectionConfirm 0x000001 0x8000ff)
    ∷ Ok (ConnectionConfirm 0x000001 0x800001) ∷ Ok (ConnectionConfirm 0x000001 0x800001) ∷ []
unfolding sccp_reading octet_at sccp_type reference_at references_at fixed_references_at
confirm_false = refl

-- ---- DTAP: 01, DLCI, length and data. The SAPI of the DLCI FF is 7

abbrev transfer : List ℕ
transfer = hex "01 03 02 09 01"

transfer_cut : map bssap_reading (beginnings transfer) ≡ replicate 5 (Err Short)
unfolding bssap_reading octet_at transfer_at layer3_at
transfer_cut = refl

transfer_false : map bssap_reading (with_each_false transfer) ≡
    Err UnknownType ∷ Err UnknownType ∷ Err Short ∷ Ok (Transfer 0x03 (hex "ff 01")) ∷ Ok (Transfer 0x03 (hex "09 ff")) ∷ []
unfolding bssap_reading octet_at transfer_at layer3_at
transfer_false = refl

-- ---- CLEAR COMMAND: 00, length, type, and an element of 3 octets

abbrev clear : List ℕ
clear = hex "00 04 20 04 01 09"

clear_cut : map bssap_reading (beginnings clear) ≡ replicate 6 (Err Short)
unfolding bssap_reading octet_at management_at bssmap_type message_at breaks_off elements_of walk needed_value cause_at
clear_cut = refl

clear_false : map bssap_reading (with_each_false clear) ≡
    Err UnknownType ∷ Err Short ∷ Err UnknownType ∷ Err (MissingElement 0x04) ∷ Err Short
    ∷ Ok (Management (ClearCommand (cause_of (hex "ff")))) ∷ []
unfolding bssap_reading octet_at management_at bssmap_type message_at breaks_off elements_of walk needed_value cause_at
clear_false = refl

-- ---- other messages, each as BSSAP and within data form 1

-- what data form 1 with so many octets of data is read as where it breaks off
abbrev data_cut : ℕ → List (Result Sccp InterfaceFault)
data_cut size = replicate 6 (Err Short) ++ (Err BadPointer ∷ replicate size (Err Short))

-- and with FF at each place, the reference being the first and else one of the other three: a wrong
-- octet of the data is in the data
abbrev data_false : ℕ → ℕ → ℕ → ℕ → List ℕ → List (Result Sccp InterfaceFault)
data_false reference high middle low octets =
    Err UnknownType ∷ Ok (DataForm1 high octets) ∷ Ok (DataForm1 middle octets) ∷ Ok (DataForm1 low octets) ∷ Err UnknownType
    ∷ Err BadPointer ∷ Err Short ∷ map (λ wrong. Ok (DataForm1 reference wrong)) (with_each_false octets)

-- from bsc to the connection 800001 of the switch, and from the switch to the connection 000001
abbrev from_bsc_false : List ℕ → List (Result Sccp InterfaceFault)
from_bsc_false octets = data_false 0x800001 0xff0001 0x80ff01 0x8000ff octets

abbrev from_switch_false : List ℕ → List (Result Sccp InterfaceFault)
from_switch_false octets = data_false 0x000001 0xff0001 0x00ff01 0x0000ff octets

-- ---- CLEAR COMMAND, call control, of which the rows above have the BSSAP

clear_within : map sccp_reading (beginnings (hex "06 00 00 01 00 01 06 00 04 20 04 01 09")) ≡ data_cut 6
unfolding sccp_reading octet_at sccp_type reference_at part_at counted_at data_behind_at data_form_at
clear_within = refl

clear_within_false : map sccp_reading (with_each_false (hex "06 00 00 01 00 01 06 00 04 20 04 01 09")) ≡ from_switch_false clear
unfolding sccp_reading octet_at sccp_type reference_at part_at counted_at data_behind_at data_form_at
clear_within_false = refl

-- ---- CLEAR REQUEST, equipment failure

abbrev clear_request : List ℕ
clear_request = hex "00 04 22 04 01 20"

clear_request_cut : map bssap_reading (beginnings clear_request) ≡ replicate 6 (Err Short)
unfolding bssap_reading octet_at management_at bssmap_type message_at breaks_off elements_of walk needed_value cause_at
clear_request_cut = refl

clear_request_false : map bssap_reading (with_each_false clear_request) ≡
    Err UnknownType ∷ Err Short ∷ Err UnknownType ∷ Err (MissingElement 0x04) ∷ Err Short
    ∷ Ok (Management (ClearRequest (cause_of (hex "ff")))) ∷ []
unfolding bssap_reading octet_at management_at bssmap_type message_at breaks_off elements_of walk needed_value cause_at
clear_request_false = refl

clear_request_within : map sccp_reading (beginnings (hex "06 80 00 01 00 01 06 00 04 22 04 01 20")) ≡ data_cut 6
unfolding sccp_reading octet_at sccp_type reference_at part_at counted_at data_behind_at data_form_at
clear_request_within = refl

clear_request_within_false : map sccp_reading (with_each_false (hex "06 80 00 01 00 01 06 00 04 22 04 01 20")) ≡ from_bsc_false clear_request
unfolding sccp_reading octet_at sccp_type reference_at part_at counted_at data_behind_at data_form_at
clear_request_within_false = refl

-- ---- CLEAR COMPLETE, with no element

abbrev clear_complete : List ℕ
clear_complete = hex "00 01 21"

clear_complete_cut : map bssap_reading (beginnings clear_complete) ≡ replicate 3 (Err Short)
unfolding bssap_reading octet_at management_at bssmap_type message_at breaks_off elements_of walk needed_value
clear_complete_cut = refl

clear_complete_false : map bssap_reading (with_each_false clear_complete) ≡
    Err UnknownType ∷ Err Short ∷ Err UnknownType ∷ []
unfolding bssap_reading octet_at management_at bssmap_type message_at breaks_off elements_of walk needed_value
clear_complete_false = refl

clear_complete_within : map sccp_reading (beginnings (hex "06 80 00 01 00 01 03 00 01 21")) ≡ data_cut 3
unfolding sccp_reading octet_at sccp_type reference_at part_at counted_at data_behind_at data_form_at
clear_complete_within = refl

clear_complete_within_false : map sccp_reading (with_each_false (hex "06 80 00 01 00 01 03 00 01 21")) ≡ from_bsc_false clear_complete
unfolding sccp_reading octet_at sccp_type reference_at part_at counted_at data_behind_at data_form_at
clear_complete_within_false = refl

-- ---- SAPI N REJECT of SAPI 3: elements of 2 and 3 octets

abbrev reject : List ℕ
reject = hex "00 06 25 18 83 04 01 25"

reject_cut : map bssap_reading (beginnings reject) ≡ replicate 8 (Err Short)
unfolding bssap_reading octet_at management_at bssmap_type message_at breaks_off elements_of walk needed_value needed_octet reject_at
reject_cut = refl

reject_false : map bssap_reading (with_each_false reject) ≡
    Err UnknownType ∷ Err Short ∷ Err UnknownType ∷ Err (MissingElement 0x18)
    ∷ Ok (Management (SapiNReject (rejected_of 0xff) (cause_of (hex "25")))) ∷ Err (MissingElement 0x04) ∷ Err Short
    ∷ Ok (Management (SapiNReject (rejected_of 0x83) (cause_of (hex "ff")))) ∷ []
unfolding bssap_reading octet_at management_at bssmap_type message_at breaks_off elements_of walk needed_value needed_octet reject_at
reject_false = refl

reject_within : map sccp_reading (beginnings (hex "06 80 00 01 00 01 08 00 06 25 18 83 04 01 25")) ≡ data_cut 8
unfolding sccp_reading octet_at sccp_type reference_at part_at counted_at data_behind_at data_form_at
reject_within = refl

reject_within_false : map sccp_reading (with_each_false (hex "06 80 00 01 00 01 08 00 06 25 18 83 04 01 25")) ≡ from_bsc_false reject
unfolding sccp_reading octet_at sccp_type reference_at part_at counted_at data_behind_at data_form_at
reject_within_false = refl

-- ---- ASSIGNMENT REQUEST for speech: an element of 5 octets

abbrev assignment_request : List ℕ
assignment_request = hex "00 06 01 0b 03 01 08 01"

assignment_request_cut : map bssap_reading (beginnings assignment_request) ≡ replicate 8 (Err Short)
unfolding bssap_reading octet_at management_at bssmap_type message_at breaks_off elements_of walk needed_value assignment_request_at
assignment_request_cut = refl

assignment_request_false : map bssap_reading (with_each_false assignment_request) ≡
    Err UnknownType ∷ Err Short ∷ Err UnknownType ∷ Err (MissingElement 0x0b) ∷ Err Short
    ∷ Ok (Management (AssignmentRequest (channel_of (hex "ff 08 01"))))
    ∷ Ok (Management (AssignmentRequest (channel_of (hex "01 ff 01"))))
    ∷ Ok (Management (AssignmentRequest (channel_of (hex "01 08 ff")))) ∷ []
unfolding bssap_reading octet_at management_at bssmap_type message_at breaks_off elements_of walk needed_value assignment_request_at
assignment_request_false = refl

assignment_request_within : map sccp_reading (beginnings (hex "06 00 00 01 00 01 08 00 06 01 0b 03 01 08 01")) ≡ data_cut 8
unfolding sccp_reading octet_at sccp_type reference_at part_at counted_at data_behind_at data_form_at
assignment_request_within = refl

assignment_request_within_false : map sccp_reading (with_each_false (hex "06 00 00 01 00 01 08 00 06 01 0b 03 01 08 01")) ≡ from_switch_false assignment_request
unfolding sccp_reading octet_at sccp_type reference_at part_at counted_at data_behind_at data_form_at
assignment_request_within_false = refl

-- ---- ASSIGNMENT COMPLETE: an element of 2 octets, which may be missing

abbrev assignment_complete : List ℕ
assignment_complete = hex "00 03 02 15 00"

assignment_complete_cut : map bssap_reading (beginnings assignment_complete) ≡ replicate 5 (Err Short)
unfolding bssap_reading octet_at management_at bssmap_type message_at breaks_off elements_of walk needed_value rr_cause_in assignment_complete_at
assignment_complete_cut = refl

assignment_complete_false : map bssap_reading (with_each_false assignment_complete) ≡
    Err UnknownType ∷ Err Short ∷ Err UnknownType ∷ Ok (Management (AssignmentComplete None))
    ∷ Ok (Management (AssignmentComplete (Some (rr_cause_of 0xff)))) ∷ []
unfolding bssap_reading octet_at management_at bssmap_type message_at breaks_off elements_of walk needed_value rr_cause_in assignment_complete_at
assignment_complete_false = refl

assignment_complete_within : map sccp_reading (beginnings (hex "06 80 00 01 00 01 05 00 03 02 15 00")) ≡ data_cut 5
unfolding sccp_reading octet_at sccp_type reference_at part_at counted_at data_behind_at data_form_at
assignment_complete_within = refl

assignment_complete_within_false : map sccp_reading (with_each_false (hex "06 80 00 01 00 01 05 00 03 02 15 00")) ≡ from_bsc_false assignment_complete
unfolding sccp_reading octet_at sccp_type reference_at part_at counted_at data_behind_at data_form_at
assignment_complete_within_false = refl

-- ---- ASSIGNMENT FAILURE, protocol error between BSS and MSC

abbrev assignment_failure : List ℕ
assignment_failure = hex "00 04 03 04 01 60"

assignment_failure_cut : map bssap_reading (beginnings assignment_failure) ≡ replicate 6 (Err Short)
unfolding bssap_reading octet_at management_at bssmap_type message_at breaks_off elements_of walk needed_value rr_cause_in assignment_failure_at
assignment_failure_cut = refl

assignment_failure_false : map bssap_reading (with_each_false assignment_failure) ≡
    Err UnknownType ∷ Err Short ∷ Err UnknownType ∷ Err (MissingElement 0x04) ∷ Err Short
    ∷ Ok (Management (AssignmentFailure (cause_of (hex "ff")) None)) ∷ []
unfolding bssap_reading octet_at management_at bssmap_type message_at breaks_off elements_of walk needed_value rr_cause_in assignment_failure_at
assignment_failure_false = refl

assignment_failure_within : map sccp_reading (beginnings (hex "06 80 00 01 00 01 06 00 04 03 04 01 60")) ≡ data_cut 6
unfolding sccp_reading octet_at sccp_type reference_at part_at counted_at data_behind_at data_form_at
assignment_failure_within = refl

assignment_failure_within_false : map sccp_reading (with_each_false (hex "06 80 00 01 00 01 06 00 04 03 04 01 60")) ≡ from_bsc_false assignment_failure
unfolding sccp_reading octet_at sccp_type reference_at part_at counted_at data_behind_at data_form_at
assignment_failure_within_false = refl
