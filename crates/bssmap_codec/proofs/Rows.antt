-- SPDX-License-Identifier: MIT OR Apache-2.0
-- Definitions against literal octets, for reading and for writing.
use Rattle.std.proofs.Common.{◌≡◌, ℕ, Bool, List, filter, length, map, [], ◌∷◌, ◌++◌, true, false, replicate, Some, None, Ok, Err, refl}
use Rattle.std.specs.List.{range_with_len}
use Rattle.std.specs.Prelude.{slice_index}
use Rattle.octets.proofs.Hex.{hex}
use Rattle.octets.specs.Causes.{first_that_holds}
use Rattle.octets.specs.declared.element.Format.TheVariants.{Tv, Tlv}
use Rattle.octets.specs.Element.{element, format_in}
use Rattle.octets.specs.Front.{octet_at, counted_at}
use Rattle.octets.specs.Walk.{walk}
use Rattle.bssmap_codec.specs.declared.bssap.Bssap.TheVariants.{Management, Transfer}
use Rattle.bssmap_codec.specs.declared.bssmap.Bssmap.TheVariants.{AssignmentRequest, AssignmentComplete, AssignmentFailure, HandoverPerformed, ClearCommand, ClearComplete, ClearRequest, SapiNReject, CipherModeCommand, CompleteLayer3Information, CipherModeReject}
use Rattle.bssmap_codec.specs.declared.bssmap_type.BssmapType.{BssmapType}
use Rattle.bssmap_codec.specs.declared.bssmap_type.BssmapType.TheVariants as kinds
use Rattle.bssmap_codec.specs.declared.fault.InterfaceFault.{InterfaceFault}
use Rattle.bssmap_codec.specs.declared.fault.InterfaceFault.TheVariants.{Short, UnknownType, MissingElement, BadPointer, TooLong}
use Rattle.bssmap_codec.specs.declared.sccp.Sccp.TheVariants.{ConnectionRequest, ConnectionConfirm, ConnectionRefused, Released, ReleaseComplete, DataForm1}
use Rattle.bssmap_codec.specs.declared.sccp_type.SccpType.TheVariants as sccp_kinds
use Rattle.bssmap_codec.specs.declared.identifiers.TheConstants.{ELEMENTS}
use Rattle.bssmap_codec.specs.BssapFaults.{element_causes, needed}
use Rattle.bssmap_codec.specs.BssapReading.{cause_of, cell_of, channel_of, rr_cause_of, rejected_of, elements_of, breaks_off, needed_value, needed_octet, rr_cause_in, layer3_at, cause_at, assignment_request_at, assignment_complete_at, assignment_failure_at, handover_performed_at, reject_at, complete_layer3_at, content_at, message_at, management_at, transfer_at, bssap_reading}
use Rattle.bssmap_codec.specs.BssapText.{bssap_text, bssap_write_fault}
use Rattle.bssmap_codec.specs.BssmapType.{bssmap_type}
use Rattle.bssmap_codec.specs.Reference.{reference_at, references_at}
use Rattle.bssmap_codec.specs.SccpFaults.{fixed, has_parts, option_causes, part_causes}
use Rattle.bssmap_codec.specs.SccpReading.{part_at, option_at, data_in, user_data_at, request_at, fixed_references_at, refused_at, data_behind_at, data_form_at, sccp_reading}
use Rattle.bssmap_codec.specs.SccpText.{sccp_text, sccp_write_fault}
use Rattle.bssmap_codec.specs.SccpType.{sccp_type}
use Rattle.bssmap_codec.specs.Values.{dlci_of, is_dlci, is_speech_type}

-- ---- the elements of BSSMAP

formats : map (λ id. format_in ELEMENTS id) (hex "01 04 05 06 07 0b 15 17 18 21") ≡
    Some (Tv 2) ∷ Some Tlv ∷ Some Tlv ∷ Some Tlv ∷ Some Tlv ∷ Some Tlv ∷ Some (Tv 1) ∷ Some Tlv ∷ Some (Tv 1) ∷ Some (Tv 1) ∷ []
formats = refl

unknown_identifiers : map (λ id. format_in ELEMENTS id) (hex "00 02 03 08 0a 14 16 19 22 7f") ≡ replicate 10 None
unknown_identifiers = refl

no_other_element : length ELEMENTS ≡ 10
no_other_element = refl

-- ---- SCCP, read

request : sccp_reading (hex "01 01 02 03 02 02 04 02 42 fe 0f 03 00 01 21 00") ≡ Ok (ConnectionRequest 0x010203 (Some (hex "00 01 21")))
unfolding sccp_reading octet_at sccp_type reference_at request_at part_at counted_at user_data_at data_in option_at
request = refl

-- a pointer 0 to the options
request_without_options : sccp_reading (hex "01 01 02 03 02 02 00 02 42 fe") ≡ Ok (ConnectionRequest 0x010203 None)
unfolding sccp_reading octet_at sccp_type reference_at request_at part_at counted_at user_data_at data_in option_at
request_without_options = refl

request_of_another_class : sccp_reading (hex "01 01 02 03 03 02 00 02 42 fe") ≡ Ok (ConnectionRequest 0x010203 None)
unfolding sccp_reading octet_at sccp_type reference_at request_at part_at counted_at user_data_at data_in option_at
request_of_another_class = refl

-- the options before the called address
request_with_parts_exchanged : sccp_reading (hex "01 01 02 03 02 06 01 0f 01 05 00 01 fe")
    ≡ Ok (ConnectionRequest 0x010203 (Some (hex "05")))
unfolding sccp_reading octet_at sccp_type reference_at request_at part_at counted_at user_data_at data_in option_at
request_with_parts_exchanged = refl

another_option_before_data : sccp_reading (hex "01 01 02 03 02 02 04 02 42 fe 04 01 77 0f 02 05 24 00")
    ≡ Ok (ConnectionRequest 0x010203 (Some (hex "05 24")))
unfolding sccp_reading octet_at sccp_type reference_at request_at part_at counted_at user_data_at data_in option_at
another_option_before_data = refl

nothing_is_looked_at_behind_data : sccp_reading (hex "01 01 02 03 02 02 04 02 42 fe 0f 01 05 04 09")
    ≡ Ok (ConnectionRequest 0x010203 (Some (hex "05")))
unfolding sccp_reading octet_at sccp_type reference_at request_at part_at counted_at user_data_at data_in option_at
nothing_is_looked_at_behind_data = refl

data_of_no_octets : sccp_reading (hex "01 01 02 03 02 02 04 02 42 fe 0f 00 00") ≡ Ok (ConnectionRequest 0x010203 (Some []))
unfolding sccp_reading octet_at sccp_type reference_at request_at part_at counted_at user_data_at data_in option_at
data_of_no_octets = refl

options_end_with_the_octets : sccp_reading (hex "01 01 02 03 02 02 04 02 42 fe 04 01 77") ≡ Ok (ConnectionRequest 0x010203 None)
unfolding sccp_reading octet_at sccp_type reference_at request_at part_at counted_at user_data_at data_in option_at
options_end_with_the_octets = refl

options_end_before_data : sccp_reading (hex "01 01 02 03 02 02 04 02 42 fe 04 01 77 00 0f 01 05") ≡ Ok (ConnectionRequest 0x010203 None)
unfolding sccp_reading octet_at sccp_type reference_at request_at part_at counted_at user_data_at data_in option_at
options_end_before_data = refl

pointer_to_the_end_of_options : sccp_reading (hex "01 01 02 03 02 02 04 02 42 fe 00") ≡ Ok (ConnectionRequest 0x010203 None)
unfolding sccp_reading octet_at sccp_type reference_at request_at part_at counted_at user_data_at data_in option_at
pointer_to_the_end_of_options = refl

option_cut : sccp_reading (hex "01 01 02 03 02 02 04 02 42 fe 04 03 77") ≡ Err Short
unfolding sccp_reading octet_at sccp_type reference_at request_at part_at counted_at user_data_at data_in option_at
option_cut = refl

option_without_length : sccp_reading (hex "01 01 02 03 02 02 04 02 42 fe 04") ≡ Err Short
unfolding sccp_reading octet_at sccp_type reference_at request_at part_at counted_at user_data_at data_in option_at
option_without_length = refl

data_cut : sccp_reading (hex "01 01 02 03 02 02 04 02 42 fe 0f 03 05") ≡ Err Short
unfolding sccp_reading octet_at sccp_type reference_at request_at part_at counted_at user_data_at data_in option_at
data_cut = refl

options_pointer_past_the_end : sccp_reading (hex "01 01 02 03 02 02 04 02 42 fe") ≡ Err BadPointer
unfolding sccp_reading octet_at sccp_type reference_at request_at part_at counted_at user_data_at data_in option_at
options_pointer_past_the_end = refl

address_pointer_0 : sccp_reading (hex "01 01 02 03 02 00 00 02 42 fe") ≡ Err BadPointer
unfolding sccp_reading octet_at sccp_type reference_at request_at part_at counted_at user_data_at data_in option_at
address_pointer_0 = refl

address_pointer_past_the_end : sccp_reading (hex "01 01 02 03 02 05 00 02 42 fe") ≡ Err BadPointer
unfolding sccp_reading octet_at sccp_type reference_at request_at part_at counted_at user_data_at data_in option_at
address_pointer_past_the_end = refl

address_cut : sccp_reading (hex "01 01 02 03 02 04 00 02 42 fe") ≡ Err Short
unfolding sccp_reading octet_at sccp_type reference_at request_at part_at counted_at user_data_at data_in option_at
address_cut = refl

address_cut_before_options_pointer : sccp_reading (hex "01 01 02 03 02 04 09 02 42 fe") ≡ Err Short
unfolding sccp_reading octet_at sccp_type reference_at request_at part_at counted_at user_data_at data_in option_at
address_cut_before_options_pointer = refl

address_pointer_before_option_cut : sccp_reading (hex "01 01 02 03 02 09 04 02 42 fe 04 03") ≡ Err BadPointer
unfolding sccp_reading octet_at sccp_type reference_at request_at part_at counted_at user_data_at data_in option_at
address_pointer_before_option_cut = refl

request_without_options_pointer : sccp_reading (hex "01 01 02 03 02 00") ≡ Err Short
unfolding sccp_reading octet_at sccp_type reference_at request_at part_at counted_at user_data_at data_in option_at
request_without_options_pointer = refl

confirm : sccp_reading (hex "02 01 02 03 80 00 04 02 00") ≡ Ok (ConnectionConfirm 0x010203 0x800004)
unfolding sccp_reading octet_at sccp_type reference_at references_at fixed_references_at
confirm = refl

confirm_of_another_class : sccp_reading (hex "02 01 02 03 80 00 04 03 09 77") ≡ Ok (ConnectionConfirm 0x010203 0x800004)
unfolding sccp_reading octet_at sccp_type reference_at references_at fixed_references_at
confirm_of_another_class = refl

confirm_without_pointer : sccp_reading (hex "02 01 02 03 80 00 04 02") ≡ Err Short
unfolding sccp_reading octet_at sccp_type reference_at references_at fixed_references_at
confirm_without_pointer = refl

refused : sccp_reading (hex "03 01 02 03 00 00") ≡ Ok (ConnectionRefused 0x010203)
unfolding sccp_reading octet_at sccp_type reference_at refused_at
refused = refl

refused_for_another_cause : sccp_reading (hex "03 01 02 03 05 09") ≡ Ok (ConnectionRefused 0x010203)
unfolding sccp_reading octet_at sccp_type reference_at refused_at
refused_for_another_cause = refl

refused_without_pointer : sccp_reading (hex "03 01 02 03 00") ≡ Err Short
unfolding sccp_reading octet_at sccp_type reference_at refused_at
refused_without_pointer = refl

released : sccp_reading (hex "04 01 02 03 80 00 04 00 00") ≡ Ok (Released 0x010203 0x800004)
unfolding sccp_reading octet_at sccp_type reference_at references_at fixed_references_at
released = refl

released_for_another_cause : sccp_reading (hex "04 01 02 03 80 00 04 05 09") ≡ Ok (Released 0x010203 0x800004)
unfolding sccp_reading octet_at sccp_type reference_at references_at fixed_references_at
released_for_another_cause = refl

released_without_pointer : sccp_reading (hex "04 01 02 03 80 00 04 00") ≡ Err Short
unfolding sccp_reading octet_at sccp_type reference_at references_at fixed_references_at
released_without_pointer = refl

complete : sccp_reading (hex "05 80 00 04 01 02 03") ≡ Ok (ReleaseComplete 0x800004 0x010203)
unfolding sccp_reading octet_at sccp_type reference_at references_at
complete = refl

complete_with_more : sccp_reading (hex "05 80 00 04 01 02 03 00") ≡ Ok (ReleaseComplete 0x800004 0x010203)
unfolding sccp_reading octet_at sccp_type reference_at references_at
complete_with_more = refl

complete_cut : sccp_reading (hex "05 80 00 04 01 02") ≡ Err Short
unfolding sccp_reading octet_at sccp_type reference_at references_at
complete_cut = refl

data_form : sccp_reading (hex "06 01 02 03 00 01 02 05 24 99") ≡ Ok (DataForm1 0x010203 (hex "05 24"))
unfolding sccp_reading octet_at sccp_type reference_at part_at counted_at data_behind_at data_form_at
data_form = refl

data_form_with_octets_between : sccp_reading (hex "06 01 02 03 00 03 99 99 02 05 24") ≡ Ok (DataForm1 0x010203 (hex "05 24"))
unfolding sccp_reading octet_at sccp_type reference_at part_at counted_at data_behind_at data_form_at
data_form_with_octets_between = refl

data_form_of_no_octets : sccp_reading (hex "06 01 02 03 00 01 00") ≡ Ok (DataForm1 0x010203 [])
unfolding sccp_reading octet_at sccp_type reference_at part_at counted_at data_behind_at data_form_at
data_form_of_no_octets = refl

-- before its pointer is looked at
data_form_segmented : sccp_reading (hex "06 01 02 03 01 00") ≡ Err UnknownType
unfolding sccp_reading octet_at sccp_type reference_at part_at counted_at data_behind_at data_form_at
data_form_segmented = refl

-- more may follow, although the rest is a whole text
data_form_to_be_continued : sccp_reading (hex "06 00 00 01 01 01 01 00") ≡ Err UnknownType
unfolding sccp_reading octet_at sccp_type reference_at part_at counted_at data_behind_at data_form_at
data_form_to_be_continued = refl

data_form_with_pointer_0 : sccp_reading (hex "06 00 00 01 00 00 00") ≡ Err BadPointer
unfolding sccp_reading octet_at sccp_type reference_at part_at counted_at data_behind_at data_form_at
data_form_with_pointer_0 = refl

data_form_segmented_without_pointer : sccp_reading (hex "06 01 02 03 01") ≡ Err Short
unfolding sccp_reading octet_at sccp_type reference_at part_at counted_at data_behind_at data_form_at
data_form_segmented_without_pointer = refl

data_pointer_0 : sccp_reading (hex "06 01 02 03 00 00 00") ≡ Err BadPointer
unfolding sccp_reading octet_at sccp_type reference_at part_at counted_at data_behind_at data_form_at
data_pointer_0 = refl

data_pointer_past_the_end : sccp_reading (hex "06 01 02 03 00 03 01 05") ≡ Err BadPointer
unfolding sccp_reading octet_at sccp_type reference_at part_at counted_at data_behind_at data_form_at
data_pointer_past_the_end = refl

data_form_without_data : sccp_reading (hex "06 01 02 03 00 01") ≡ Err BadPointer
unfolding sccp_reading octet_at sccp_type reference_at part_at counted_at data_behind_at data_form_at
data_form_without_data = refl

data_form_cut : sccp_reading (hex "06 01 02 03 00 01 03 05 24") ≡ Err Short
unfolding sccp_reading octet_at sccp_type reference_at part_at counted_at data_behind_at data_form_at
data_form_cut = refl

nothing : sccp_reading [] ≡ Err Short
unfolding sccp_reading octet_at
nothing = refl

type_0_alone : sccp_reading (hex "00") ≡ Err UnknownType
unfolding sccp_reading octet_at sccp_type
type_0_alone = refl

type_7_alone : sccp_reading (hex "07") ≡ Err UnknownType
unfolding sccp_reading octet_at sccp_type
type_7_alone = refl

request_alone : sccp_reading (hex "01") ≡ Err Short
unfolding sccp_reading octet_at sccp_type reference_at request_at part_at counted_at user_data_at data_in option_at
request_alone = refl

-- the octets behind the type that each message always has: references, class, cause, pointers
fixed_octets : map fixed
    (sccp_kinds.ConnectionRequest ∷ sccp_kinds.ConnectionConfirm ∷ sccp_kinds.ConnectionRefused ∷ sccp_kinds.Released ∷
    sccp_kinds.ReleaseComplete ∷ sccp_kinds.DataForm1 ∷ []) ≡ 6 ∷ 8 ∷ 5 ∷ 8 ∷ 6 ∷ 5 ∷ []
fixed_octets = refl

with_parts : map has_parts
    (sccp_kinds.ConnectionRequest ∷ sccp_kinds.ConnectionConfirm ∷ sccp_kinds.ConnectionRefused ∷ sccp_kinds.Released ∷
    sccp_kinds.ReleaseComplete ∷ sccp_kinds.DataForm1 ∷ []) ≡ true ∷ false ∷ false ∷ false ∷ false ∷ true ∷ []
with_parts = refl

-- a pointer to a value: itself, past the end, to a value that is cut, to a whole one
parts : map (λ (octets : List ℕ). first_that_holds (part_causes (slice_index octets 0) octets)) (hex "00 00"
    ∷ hex "02 00" ∷ hex "01 01" ∷ hex "01 01 05" ∷ [])
    ≡ Some BadPointer ∷ Some BadPointer ∷ Some Short ∷ None ∷ []
parts = refl

-- a pointer to options: none, past the end, to options that are cut, to whole ones
options : map (λ (p : ℕ × Bool). first_that_holds (option_causes p.0 (p.0 ∷ 0x0f ∷ []) p.1))
    ((0, true) ∷ (2, true) ∷ (1, true) ∷ (1, false) ∷ []) ≡ None ∷ Some BadPointer ∷ Some Short ∷ None ∷ []
options = refl

-- ---- SCCP, written

request_written : sccp_text (ConnectionRequest 0x010203 (Some (hex "00 01 21"))) ≡ hex "01 01 02 03 02 02 04 02 42 fe 0f 03 00 01 21 00"
request_written = refl

request_without_data_written : sccp_text (ConnectionRequest 0x010203 None) ≡ hex "01 01 02 03 02 02 00 02 42 fe"
request_without_data_written = refl

confirm_written : sccp_text (ConnectionConfirm 0x010203 0x800004) ≡ hex "02 01 02 03 80 00 04 02 00"
confirm_written = refl

refused_written : sccp_text (ConnectionRefused 0x010203) ≡ hex "03 01 02 03 00 00"
refused_written = refl

released_written : sccp_text (Released 0x010203 0x800004) ≡ hex "04 01 02 03 80 00 04 00 00"
released_written = refl

complete_written : sccp_text (ReleaseComplete 0x800004 0x010203) ≡ hex "05 80 00 04 01 02 03"
complete_written = refl

data_form_written : sccp_text (DataForm1 0x010203 (hex "05 24")) ≡ hex "06 01 02 03 00 01 02 05 24"
data_form_written = refl

request_of_255_octets : sccp_write_fault (ConnectionRequest 1 (Some (replicate 255 7))) ≡ None
request_of_255_octets = refl

request_of_256_octets : sccp_write_fault (ConnectionRequest 1 (Some (replicate 256 7))) ≡ Some TooLong
request_of_256_octets = refl

request_of_none : sccp_write_fault (ConnectionRequest 1 None) ≡ None
request_of_none = refl

data_of_255_octets : sccp_write_fault (DataForm1 1 (replicate 255 7)) ≡ None
data_of_255_octets = refl

data_of_256_octets : sccp_write_fault (DataForm1 1 (replicate 256 7)) ≡ Some TooLong
data_of_256_octets = refl

-- ---- BSSAP, read

assignment_request : bssap_reading (hex "00 06 01 0b 03 01 08 02") ≡ Ok (Management (AssignmentRequest (channel_of (hex "01 08 02"))))
unfolding bssap_reading octet_at management_at bssmap_type message_at breaks_off elements_of walk needed_value assignment_request_at
assignment_request = refl

assignment_complete : bssap_reading (hex "00 03 02 15 07") ≡ Ok (Management (AssignmentComplete (Some (rr_cause_of 0x07))))
unfolding bssap_reading octet_at management_at bssmap_type message_at breaks_off elements_of walk rr_cause_in assignment_complete_at
assignment_complete = refl

assignment_complete_without_cause : bssap_reading (hex "00 01 02") ≡ Ok (Management (AssignmentComplete None))
unfolding bssap_reading octet_at management_at bssmap_type message_at breaks_off elements_of walk rr_cause_in assignment_complete_at
assignment_complete_without_cause = refl

assignment_failure : bssap_reading (hex "00 06 03 04 01 0a 15 03")
    ≡ Ok (Management (AssignmentFailure (cause_of (hex "0a")) (Some (rr_cause_of 0x03))))
unfolding bssap_reading octet_at management_at bssmap_type message_at breaks_off elements_of walk needed_value rr_cause_in assignment_failure_at
assignment_failure = refl

assignment_failure_without_rr_cause : bssap_reading (hex "00 05 03 04 02 0a 0b")
    ≡ Ok (Management (AssignmentFailure (cause_of (hex "0a 0b")) None))
unfolding bssap_reading octet_at management_at bssmap_type message_at breaks_off elements_of walk needed_value rr_cause_in assignment_failure_at
assignment_failure_without_rr_cause = refl

handover_performed : bssap_reading (hex "00 0e 17 04 01 0c 05 08 00 00 f1 10 00 01 00 02")
    ≡ Ok (Management (HandoverPerformed (cause_of (hex "0c")) (cell_of (hex "00 00 f1 10 00 01 00 02"))))
unfolding bssap_reading octet_at management_at bssmap_type message_at breaks_off elements_of walk needed_value handover_performed_at
handover_performed = refl

clear_command : bssap_reading (hex "00 04 20 04 01 09") ≡ Ok (Management (ClearCommand (cause_of (hex "09"))))
unfolding bssap_reading octet_at management_at bssmap_type message_at breaks_off elements_of walk needed_value cause_at
clear_command = refl

clear_complete : bssap_reading (hex "00 01 21 99") ≡ Ok (Management ClearComplete)
unfolding bssap_reading octet_at management_at bssmap_type message_at breaks_off elements_of walk needed_value
clear_complete = refl

clear_request : bssap_reading (hex "00 04 22 04 01 20") ≡ Ok (Management (ClearRequest (cause_of (hex "20"))))
unfolding bssap_reading octet_at management_at bssmap_type message_at breaks_off elements_of walk needed_value cause_at
clear_request = refl

reject : bssap_reading (hex "00 06 25 18 83 04 01 25") ≡ Ok (Management (SapiNReject (rejected_of 0x83) (cause_of (hex "25"))))
unfolding bssap_reading octet_at management_at bssmap_type message_at breaks_off elements_of walk needed_value needed_octet reject_at
reject = refl

cipher_mode_command : bssap_reading (hex "00 01 53") ≡ Ok (Management CipherModeCommand)
unfolding bssap_reading octet_at management_at bssmap_type message_at breaks_off elements_of walk needed_value
cipher_mode_command = refl

complete_layer3 : bssap_reading (hex "00 10 57 05 08 00 00 f1 10 00 01 00 02 17 03 05 24 71")
    ≡ Ok (Management (CompleteLayer3Information (cell_of (hex "00 00 f1 10 00 01 00 02")) (hex "05 24 71")))
unfolding bssap_reading octet_at management_at bssmap_type message_at breaks_off elements_of walk needed_value layer3_at complete_layer3_at
complete_layer3 = refl

cipher_mode_reject : bssap_reading (hex "00 04 59 04 01 40") ≡ Ok (Management (CipherModeReject (cause_of (hex "40"))))
unfolding bssap_reading octet_at management_at bssmap_type message_at breaks_off elements_of walk needed_value cause_at
cipher_mode_reject = refl

elements_in_another_order : bssap_reading (hex "00 06 25 04 01 25 18 82")
    ≡ Ok (Management (SapiNReject (rejected_of 0x82) (cause_of (hex "25"))))
unfolding bssap_reading octet_at management_at bssmap_type message_at breaks_off elements_of walk needed_value needed_octet reject_at
elements_in_another_order = refl

first_of_repeated_elements : bssap_reading (hex "00 08 20 04 01 09 04 02 0a 0b") ≡ Ok (Management (ClearCommand (cause_of (hex "09"))))
unfolding bssap_reading octet_at management_at bssmap_type message_at breaks_off elements_of walk needed_value cause_at
first_of_repeated_elements = refl

-- each format of the table
other_elements_are_passed_over : bssap_reading
    (hex "00 1d 20 01 aa bb 06 01 cc 07 02 dd ee 0b 01 a0 05 01 a1 17 01 a2 18 a3 15 a4 21 ff 04 01 09")
    ≡ Ok (Management (ClearCommand (cause_of (hex "09"))))
unfolding bssap_reading octet_at management_at bssmap_type message_at breaks_off elements_of walk needed_value cause_at
other_elements_are_passed_over = refl

nothing_is_looked_at_behind_unknown_element : bssap_reading (hex "00 06 20 04 01 09 7f 04")
    ≡ Ok (Management (ClearCommand (cause_of (hex "09"))))
unfolding bssap_reading octet_at management_at bssmap_type message_at breaks_off elements_of walk needed_value cause_at
nothing_is_looked_at_behind_unknown_element = refl

unknown_element_hides_what_follows : bssap_reading (hex "00 05 20 7f 04 01 09") ≡ Err (MissingElement 0x04)
unfolding bssap_reading octet_at management_at bssmap_type message_at breaks_off elements_of walk needed_value cause_at
unknown_element_hides_what_follows = refl

element_of_length_0 : bssap_reading (hex "00 03 20 04 00") ≡ Ok (Management (ClearCommand (cause_of [])))
unfolding bssap_reading octet_at management_at bssmap_type message_at breaks_off elements_of walk needed_value cause_at
element_of_length_0 = refl

what_follows_the_length_is_no_element : bssap_reading (hex "00 01 20 04 01 09") ≡ Err (MissingElement 0x04)
unfolding bssap_reading octet_at management_at bssmap_type message_at breaks_off elements_of walk needed_value cause_at
what_follows_the_length_is_no_element = refl

no_first_octet : bssap_reading [] ≡ Err Short
unfolding bssap_reading octet_at
no_first_octet = refl

first_octet_02 : bssap_reading (hex "02") ≡ Err UnknownType
unfolding bssap_reading octet_at
first_octet_02 = refl

management_alone : bssap_reading (hex "00") ≡ Err Short
unfolding bssap_reading octet_at management_at bssmap_type message_at breaks_off elements_of walk needed_value
management_alone = refl

management_without_type : bssap_reading (hex "00 01") ≡ Err Short
unfolding bssap_reading octet_at management_at bssmap_type message_at breaks_off elements_of walk needed_value
management_without_type = refl

management_of_length_0 : bssap_reading (hex "00 00 20") ≡ Err Short
unfolding bssap_reading octet_at management_at bssmap_type message_at breaks_off elements_of walk needed_value cause_at
management_of_length_0 = refl

unknown_type_with_too_few_octets : bssap_reading (hex "00 02 77") ≡ Err UnknownType
unfolding bssap_reading octet_at management_at bssmap_type message_at breaks_off elements_of walk needed_value
unknown_type_with_too_few_octets = refl

known_type_with_too_few_octets : bssap_reading (hex "00 02 20") ≡ Err Short
unfolding bssap_reading octet_at management_at bssmap_type message_at breaks_off elements_of walk needed_value cause_at
known_type_with_too_few_octets = refl

element_cut : bssap_reading (hex "00 03 20 04 01") ≡ Err Short
unfolding bssap_reading octet_at management_at bssmap_type message_at breaks_off elements_of walk needed_value cause_at
element_cut = refl

element_cut_behind_the_needed : bssap_reading (hex "00 07 20 04 01 09 05 02 00") ≡ Err Short
unfolding bssap_reading octet_at management_at bssmap_type message_at breaks_off elements_of walk needed_value cause_at
element_cut_behind_the_needed = refl

element_cut_before_missing : bssap_reading (hex "00 04 57 17 02 05") ≡ Err Short
unfolding bssap_reading octet_at management_at bssmap_type message_at breaks_off elements_of walk needed_value layer3_at complete_layer3_at
element_cut_before_missing = refl

assignment_request_missing : bssap_reading (hex "00 01 01") ≡ Err (MissingElement 0x0b)
unfolding bssap_reading octet_at management_at bssmap_type message_at breaks_off elements_of walk needed_value assignment_request_at
assignment_request_missing = refl

assignment_failure_missing : bssap_reading (hex "00 01 03") ≡ Err (MissingElement 0x04)
unfolding bssap_reading octet_at management_at bssmap_type message_at breaks_off elements_of walk needed_value rr_cause_in assignment_failure_at
assignment_failure_missing = refl

handover_performed_missing : bssap_reading (hex "00 01 17") ≡ Err (MissingElement 0x04)
unfolding bssap_reading octet_at management_at bssmap_type message_at breaks_off elements_of walk needed_value handover_performed_at
handover_performed_missing = refl

handover_performed_cell_missing : bssap_reading (hex "00 03 17 04 00") ≡ Err (MissingElement 0x05)
unfolding bssap_reading octet_at management_at bssmap_type message_at breaks_off elements_of walk needed_value handover_performed_at
handover_performed_cell_missing = refl

clear_command_missing : bssap_reading (hex "00 01 20") ≡ Err (MissingElement 0x04)
unfolding bssap_reading octet_at management_at bssmap_type message_at breaks_off elements_of walk needed_value cause_at
clear_command_missing = refl

clear_request_missing : bssap_reading (hex "00 01 22") ≡ Err (MissingElement 0x04)
unfolding bssap_reading octet_at management_at bssmap_type message_at breaks_off elements_of walk needed_value cause_at
clear_request_missing = refl

reject_missing : bssap_reading (hex "00 01 25") ≡ Err (MissingElement 0x18)
unfolding bssap_reading octet_at management_at bssmap_type message_at breaks_off elements_of walk needed_value needed_octet reject_at
reject_missing = refl

reject_cause_missing : bssap_reading (hex "00 03 25 18 83") ≡ Err (MissingElement 0x04)
unfolding bssap_reading octet_at management_at bssmap_type message_at breaks_off elements_of walk needed_value needed_octet reject_at
reject_cause_missing = refl

complete_layer3_both_missing : bssap_reading (hex "00 01 57") ≡ Err (MissingElement 0x05)
unfolding bssap_reading octet_at management_at bssmap_type message_at breaks_off elements_of walk needed_value layer3_at complete_layer3_at
complete_layer3_both_missing = refl

complete_layer3_missing : bssap_reading (hex "00 03 57 17 00") ≡ Err (MissingElement 0x05)
unfolding bssap_reading octet_at management_at bssmap_type message_at breaks_off elements_of walk needed_value layer3_at complete_layer3_at
complete_layer3_missing = refl

complete_layer3_information_missing : bssap_reading (hex "00 03 57 05 00") ≡ Err (MissingElement 0x17)
unfolding bssap_reading octet_at management_at bssmap_type message_at breaks_off elements_of walk needed_value layer3_at complete_layer3_at
complete_layer3_information_missing = refl

cipher_mode_reject_missing : bssap_reading (hex "00 01 59") ≡ Err (MissingElement 0x04)
unfolding bssap_reading octet_at management_at bssmap_type message_at breaks_off elements_of walk needed_value cause_at
cipher_mode_reject_missing = refl

empty_layer3_information : bssap_reading (hex "00 05 57 05 00 17 00") ≡ Err Short
unfolding bssap_reading octet_at management_at bssmap_type message_at breaks_off elements_of walk needed_value layer3_at complete_layer3_at
empty_layer3_information = refl

layer3_information_of_251_octets : content_at kinds.CompleteLayer3Information (element 0x05 [] ∷ element 0x17 (replicate 251 7) ∷ []) ≡
    Ok (CompleteLayer3Information (cell_of []) (replicate 251 7))
unfolding needed_value layer3_at complete_layer3_at
layer3_information_of_251_octets = refl

layer3_information_of_252_octets : content_at kinds.CompleteLayer3Information (element 0x05 [] ∷ element 0x17 (replicate 252 7) ∷ []) ≡
    Err TooLong
unfolding needed_value layer3_at complete_layer3_at
layer3_information_of_252_octets = refl

layer3_information_of_252_octets_without_cell : content_at kinds.CompleteLayer3Information (element 0x17 (replicate 252 7) ∷ []) ≡
    Err (MissingElement 0x05)
unfolding needed_value layer3_at complete_layer3_at
layer3_information_of_252_octets_without_cell = refl

transfer : bssap_reading (hex "01 c3 02 09 01 99") ≡ Ok (Transfer 0xc3 (hex "09 01"))
unfolding bssap_reading octet_at transfer_at layer3_at
transfer = refl

transfer_on_sapi_0 : bssap_reading (hex "01 80 01 05") ≡ Ok (Transfer 0x80 (hex "05"))
unfolding bssap_reading octet_at transfer_at layer3_at
transfer_on_sapi_0 = refl

transfer_of_251_octets : bssap_reading (hex "01 00 fb" ++ replicate 251 7) ≡ Ok (Transfer 0x00 (replicate 251 7))
unfolding bssap_reading octet_at transfer_at layer3_at
transfer_of_251_octets = refl

transfer_of_252_octets : bssap_reading (hex "01 00 fc" ++ replicate 252 7) ≡ Err TooLong
unfolding bssap_reading octet_at transfer_at layer3_at
transfer_of_252_octets = refl

transfer_of_252_octets_cut : bssap_reading (hex "01 00 fc" ++ replicate 251 7) ≡ Err Short
unfolding bssap_reading octet_at transfer_at layer3_at
transfer_of_252_octets_cut = refl

transfer_of_no_octets : bssap_reading (hex "01 00 00") ≡ Err Short
unfolding bssap_reading octet_at transfer_at layer3_at
transfer_of_no_octets = refl

transfer_cut : bssap_reading (hex "01 00 02 05") ≡ Err Short
unfolding bssap_reading octet_at transfer_at layer3_at
transfer_cut = refl

transfer_alone : bssap_reading (hex "01") ≡ Err Short
unfolding bssap_reading octet_at transfer_at layer3_at
transfer_alone = refl

sapi_2 : bssap_reading (hex "01 02 01 05") ≡ Err UnknownType
unfolding bssap_reading octet_at transfer_at layer3_at
sapi_2 = refl

sapi_2_with_too_few_octets : bssap_reading (hex "01 02 01") ≡ Err UnknownType
unfolding bssap_reading octet_at transfer_at layer3_at
sapi_2_with_too_few_octets = refl

sapi_2_without_length : bssap_reading (hex "01 02") ≡ Err Short
unfolding bssap_reading octet_at transfer_at layer3_at
sapi_2_without_length = refl

-- the elements that each message of BSSMAP needs, in written order
abbrev all_types : List BssmapType
all_types = kinds.AssignmentRequest ∷ kinds.AssignmentComplete ∷ kinds.AssignmentFailure ∷ kinds.HandoverPerformed ∷ kinds.ClearCommand ∷
    kinds.ClearComplete ∷ kinds.ClearRequest ∷ kinds.SapiNReject ∷ kinds.CipherModeCommand ∷ kinds.CompleteLayer3Information ∷
    kinds.CipherModeReject ∷ []

needed_elements : map needed all_types ≡
    hex "0b" ∷ [] ∷ hex "04" ∷ hex "04 05" ∷ hex "04" ∷ [] ∷ hex "04" ∷ hex "18 04" ∷ [] ∷ hex "05 17" ∷ hex "04" ∷ []
needed_elements = refl

-- the faults of elements, in the order in which they are looked for
order_of_faults : map (λ (cause : Bool × InterfaceFault). cause.1) (element_causes kinds.CompleteLayer3Information (element 0x17 [] ∷ [])) ≡
    MissingElement 0x05 ∷ MissingElement 0x17 ∷ Short ∷ TooLong ∷ []
order_of_faults = refl

-- ---- BSSAP, written

assignment_request_written : bssap_text (Management (AssignmentRequest (channel_of (hex "01 08 02")))) ≡ hex "00 06 01 0b 03 01 08 02"
assignment_request_written = refl

assignment_complete_written : bssap_text (Management (AssignmentComplete (Some (rr_cause_of 0x07)))) ≡ hex "00 03 02 15 07"
assignment_complete_written = refl

assignment_complete_without_cause_written : bssap_text (Management (AssignmentComplete None)) ≡ hex "00 01 02"
assignment_complete_without_cause_written = refl

assignment_failure_written : bssap_text (Management (AssignmentFailure (cause_of (hex "0a")) (Some (rr_cause_of 0x03))))
    ≡ hex "00 06 03 04 01 0a 15 03"
assignment_failure_written = refl

assignment_failure_without_rr_cause_written : bssap_text (Management (AssignmentFailure (cause_of (hex "0a 0b")) None))
    ≡ hex "00 05 03 04 02 0a 0b"
assignment_failure_without_rr_cause_written = refl

handover_performed_written : bssap_text (Management (HandoverPerformed (cause_of (hex "0c")) (cell_of (hex "00 00 f1 10 00 01 00 02"))))
    ≡ hex "00 0e 17 04 01 0c 05 08 00 00 f1 10 00 01 00 02"
handover_performed_written = refl

clear_command_written : bssap_text (Management (ClearCommand (cause_of (hex "09")))) ≡ hex "00 04 20 04 01 09"
clear_command_written = refl

clear_complete_written : bssap_text (Management ClearComplete) ≡ hex "00 01 21"
clear_complete_written = refl

clear_request_written : bssap_text (Management (ClearRequest (cause_of (hex "20")))) ≡ hex "00 04 22 04 01 20"
clear_request_written = refl

reject_written : bssap_text (Management (SapiNReject (rejected_of 0x83) (cause_of (hex "25")))) ≡ hex "00 06 25 18 83 04 01 25"
reject_written = refl

cipher_mode_command_written : bssap_text (Management CipherModeCommand) ≡ hex "00 01 53"
cipher_mode_command_written = refl

complete_layer3_written : bssap_text (Management (CompleteLayer3Information (cell_of (hex "00 00 f1 10 00 01 00 02")) (hex "05 24 71")))
    ≡ hex "00 10 57 05 08 00 00 f1 10 00 01 00 02 17 03 05 24 71"
complete_layer3_written = refl

cipher_mode_reject_written : bssap_text (Management (CipherModeReject (cause_of (hex "40")))) ≡ hex "00 04 59 04 01 40"
cipher_mode_reject_written = refl

transfer_written : bssap_text (Transfer 0xc3 (hex "09 01")) ≡ hex "01 c3 02 09 01"
transfer_written = refl

no_layer3_message : bssap_write_fault (Transfer 0x00 []) ≡ Some Short
no_layer3_message = refl

layer3_message_of_251 : bssap_write_fault (Transfer 0x00 (replicate 251 7)) ≡ None
layer3_message_of_251 = refl

layer3_message_of_252 : bssap_write_fault (Transfer 0x00 (replicate 252 7)) ≡ Some TooLong
layer3_message_of_252 = refl

cause_of_252 : bssap_write_fault (Management (ClearCommand (cause_of (replicate 252 7)))) ≡ None
cause_of_252 = refl

cause_of_253 : bssap_write_fault (Management (ClearCommand (cause_of (replicate 253 7)))) ≡ Some TooLong
cause_of_253 = refl

layer3_information_of_none_in_long_message : bssap_write_fault (Management (CompleteLayer3Information (cell_of (replicate 255 7)) [])) ≡
    Some Short
layer3_information_of_none_in_long_message = refl

layer3_information_of_240 : bssap_write_fault (Management (CompleteLayer3Information (cell_of (replicate 10 7)) (replicate 240 7))) ≡ None
layer3_information_of_240 = refl

layer3_information_of_241 : bssap_write_fault (Management (CompleteLayer3Information (cell_of (replicate 10 7)) (replicate 241 7))) ≡
    Some TooLong
layer3_information_of_241 = refl

-- ---- values

dlci_sapi_0 : dlci_of 0x00 ≡ Some 0x00
dlci_sapi_0 = refl

dlci_sapi_3 : dlci_of 0x03 ≡ Some 0x03
dlci_sapi_3 = refl

dlci_sapi_3_keeps_the_channel : dlci_of 0xc3 ≡ Some 0xc3
dlci_sapi_3_keeps_the_channel = refl

dlci_sapi_1 : dlci_of 0x01 ≡ None
dlci_sapi_1 = refl

-- of the eight SAPIs 0 and 3
sapis : map is_dlci (hex "00 01 02 03 04 05 06 07") ≡ true ∷ false ∷ false ∷ true ∷ false ∷ false ∷ false ∷ false ∷ []
sapis = refl

-- of all octets those whose bits 3 to 1 are 0 or 3
all_dlcis : filter is_dlci (range_with_len 0 256) ≡
    hex "00 03 08 0b 10 13 18 1b 20 23 28 2b 30 33 38 3b 40 43 48 4b 50 53 58 5b 60 63 68 6b 70 73 78 7b"
    ++ hex "80 83 88 8b 90 93 98 9b a0 a3 a8 ab b0 b3 b8 bb c0 c3 c8 cb d0 d3 d8 db e0 e3 e8 eb f0 f3 f8 fb"
all_dlcis = refl

dlci_sapi_4 : dlci_of 0x04 ≡ None
dlci_sapi_4 = refl

dlci_sapi_7 : dlci_of 0x87 ≡ None
dlci_sapi_7 = refl

asks_for_speech : is_speech_type (hex "01 08 01") ≡ true
asks_for_speech = refl

asks_for_speech_with_high_bits : is_speech_type (hex "f1") ≡ true
asks_for_speech_with_high_bits = refl

asks_for_data : is_speech_type (hex "02 08 01") ≡ false
asks_for_data = refl

asks_for_nine : is_speech_type (hex "09") ≡ false
asks_for_nine = refl

-- of all octets those whose bits 4 to 1 are 1; what follows isn't looked at
all_speech_types : filter (λ octet. is_speech_type (octet ∷ [])) (range_with_len 0 256)
    ≡ hex "01 11 21 31 41 51 61 71 81 91 a1 b1 c1 d1 e1 f1"
all_speech_types = refl

only_the_first_octet_counts : map is_speech_type (hex "02 01 01" ∷ hex "00 01" ∷ hex "01 00" ∷ []) ≡ false ∷ false ∷ true ∷ []
only_the_first_octet_counts = refl

asks_for_nothing : is_speech_type [] ≡ false
asks_for_nothing = refl
