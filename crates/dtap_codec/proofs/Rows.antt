-- SPDX-License-Identifier: MIT OR Apache-2.0
-- Checks the definitions on literal octets.
use Rattle.std.proofs.Common.{◌≡◌, ℕ, List, [], ◌∷◌, true, false, map, replicate, set, take, Some, None, Result, Ok, Err, refl, arith}
use Rattle.std.specs.List.{range_with_len}
use Rattle.octets.proofs.Hex.{hex}
use Rattle.octets.specs.Front.{octet_at}
use Rattle.dtap_codec.specs.declared.message.TheConstants.{CALL_CONTROL, MOBILITY_MANAGEMENT, RADIO_RESOURCE, SHORT_MESSAGES, SUPPLEMENTARY_SERVICES}
use Rattle.dtap_codec.specs.declared.report.Neighbour.{Neighbour}
use Rattle.dtap_codec.specs.declared.report.Report.{Report}
use Rattle.dtap_codec.specs.declared.rr.CellDescription.{CellDescription}
use Rattle.dtap_codec.specs.declared.rr.ChannelDescription.{ChannelDescription}
use Rattle.dtap_codec.specs.declared.rr.RrCause.{RrCause}
use Rattle.dtap_codec.specs.declared.rr.RrMessage.{RrMessage}
use Rattle.dtap_codec.specs.declared.rr.RrMessage.TheVariants.{HandoverCommand, AssignmentCommand, HandoverComplete, HandoverFailure, AssignmentComplete, AssignmentFailure, ChannelRelease, ImmediateAssignment, MeasurementReport, PagingResponse}
use Rattle.dtap_codec.specs.declared.rr_fault.RrFault.{RrFault}
use Rattle.dtap_codec.specs.declared.rr_fault.RrFault.TheVariants.{Short, UnknownRr}
use Rattle.dtap_codec.specs.declared.rr_type.RrType.TheVariants as types
use Rattle.dtap_codec.specs.declared.rr_type.TheConstants.{PSEUDO_LENGTH}
use Rattle.dtap_codec.specs.declared.number.Modulus.TheVariants.{Four, Two}
use Rattle.dtap_codec.specs.Message.{discriminator, is_flow_message, is_flow_protocol}
use Rattle.dtap_codec.specs.Number.{count_of, number_in, with_number, without_number}
use Rattle.dtap_codec.specs.Places.{with_numbers_from, Carries, Rise}
use Rattle.dtap_codec.specs.Places.Rise.{over, other, next, again}
use Rattle.dtap_codec.specs.Report.{IsReport, neighbours_of}
use Rattle.dtap_codec.specs.RrReading.{three_at, handover_command_at, assignment_command_at, cause_at, immediate_assignment_at, measurement_report_at, typed_at, pseudo_at, rr_reading}
use Rattle.dtap_codec.specs.RrText.{rr_text}
use Rattle.dtap_codec.specs.RrType.{rr_octet, rr_type}

-- ---- numbers of the standards

protocols : CALL_CONTROL ∷ MOBILITY_MANAGEMENT ∷ RADIO_RESOURCE ∷ SHORT_MESSAGES ∷ SUPPLEMENTARY_SERVICES ∷ [] ≡ hex "03 05 06 09 0b"
protocols = refl

pseudo_length : PSEUDO_LENGTH ≡ 0x2d
pseudo_length = refl

-- ---- messages of the flow

discriminators : map discriminator ([] ∷ hex "03" ∷ hex "83 05" ∷ hex "f4 45" ∷ hex "06 45" ∷ [])
    ≡ None ∷ Some 0x3 ∷ Some 0x3 ∷ Some 0x4 ∷ Some 0x6 ∷ []
discriminators = refl

of_the_flow : map is_flow_message (hex "05 24 71" ∷ hex "03 05" ∷ hex "0b 3a ff" ∷ hex "83 05" ∷ []) ≡ true ∷ true ∷ true ∷ true ∷ []
of_the_flow = refl

not_of_the_flow : map is_flow_message ([] ∷ hex "03" ∷ hex "06 45" ∷ hex "09 45" ∷ hex "f4 45" ∷ [])
    ≡ false ∷ false ∷ false ∷ false ∷ false ∷ []
not_of_the_flow = refl

-- of the sixteen protocols three: 3, 5 and B
protocols_of_the_flow : map is_flow_protocol
    (0x0 ∷ 0x1 ∷ 0x2 ∷ 0x3 ∷ 0x4 ∷ 0x5 ∷ 0x6 ∷ 0x7 ∷ 0x8 ∷ 0x9 ∷ 0xa ∷ 0xb ∷ 0xc ∷ 0xd ∷ 0xe ∷ 0xf ∷ []) ≡
    false ∷ false ∷ false ∷ true ∷ false ∷ true ∷ false ∷ false ∷ false ∷ false ∷ false ∷ true ∷ false ∷ false ∷ false ∷ false ∷ []
protocols_of_the_flow = refl

-- ---- send sequence numbers

four : count_of Four ≡ 4
four = refl

two : count_of Two ≡ 2
two = refl

numbers : map (number_in 4) (hex "05 24 71" ∷ hex "03 45" ∷ hex "03 8f" ∷ hex "03 c1" ∷ hex "0b fa ff" ∷ hex "83 45" ∷ []) ≡
    Some 0 ∷ Some 1 ∷ Some 2 ∷ Some 3 ∷ Some 3 ∷ Some 1 ∷ []
numbers = refl

no_numbers : map (number_in 4) ([] ∷ hex "03" ∷ hex "06 45" ∷ hex "09 45" ∷ hex "f4 45" ∷ []) ≡ None ∷ None ∷ None ∷ None ∷ None ∷ []
no_numbers = refl

numbered_0 : with_number 0 (hex "05 24 71") ≡ hex "05 24 71"
numbered_0 = refl

numbered_1 : with_number 1 (hex "83 05") ≡ hex "83 45"
numbered_1 = refl

numbered_2 : with_number 2 (hex "03 0f") ≡ hex "03 8f"
numbered_2 = refl

numbered_3 : with_number 3 (hex "0b 3a ff") ≡ hex "0b fa ff"
numbered_3 = refl

-- the number that was there is replaced
numbered_anew : with_number 1 (hex "03 c1") ≡ hex "03 41"
numbered_anew = refl

cleared_3 : without_number (hex "0b fa ff") ≡ hex "0b 3a ff"
cleared_3 = refl

cleared_1 : without_number (hex "03 45") ≡ hex "03 05"
cleared_1 = refl

places_wrap : with_numbers_from 4 3 (hex "05 24 71" ∷ hex "03 05" ∷ hex "03 01" ∷ []) ≡ hex "05 e4 71" ∷ hex "03 05" ∷ hex "03 41" ∷ []
places_wrap = refl

-- modulo 2: bit 8 isn't looked at, and is written 0
numbers_of_two : map (number_in (count_of Two)) (hex "03 05" ∷ hex "03 45" ∷ hex "03 85" ∷ hex "0b fa ff" ∷ hex "85 64" ∷ []) ≡
    Some 0 ∷ Some 1 ∷ Some 0 ∷ Some 1 ∷ Some 1 ∷ []
numbers_of_two = refl

no_numbers_of_two : map (number_in (count_of Two)) ([] ∷ hex "03" ∷ hex "06 45" ∷ hex "09 45" ∷ []) ≡ None ∷ None ∷ None ∷ None ∷ []
no_numbers_of_two = refl

numbered_0_of_two : with_number 0 (hex "03 c5") ≡ hex "03 05"
numbered_0_of_two = refl

numbered_1_of_two : with_number 1 (hex "0b ba ff") ≡ hex "0b 7a ff"
numbered_1_of_two = refl

cleared_bit_8 : without_number (hex "03 85") ≡ hex "03 05"
cleared_bit_8 = refl

places_of_two : with_numbers_from (count_of Two) 0 (hex "05 24 71" ∷ hex "03 05" ∷ hex "03 0f" ∷ hex "03 01" ∷ []) ≡
    hex "05 24 71" ∷ hex "03 45" ∷ hex "03 0f" ∷ hex "03 41" ∷ []
places_of_two = refl

abbrev sent : List (List ℕ)
sent = hex "05 24 71" ∷ hex "03 05" ∷ []

at_0 : Carries 4 sent 0 (hex "05 24 71")
at_0 = record { message = hex "05 24 71"; is_sent = refl; is_clear = record { is_flow = refl; cleared = refl }; carries = refl }

at_1 : Carries 4 sent 1 (hex "03 45")
at_1 = record { message = hex "03 05"; is_sent = refl; is_clear = record { is_flow = refl; cleared = refl }; carries = refl }

-- both messages in turn, the second twice, with one between them that isn't of the flow
rising : Rise 4 sent 0 (hex "05 24 71" ∷ hex "06 27" ∷ hex "03 45" ∷ hex "03 45" ∷ []) 2
rising = next at_0 (other refl (next at_1 (again refl at_1 (over 2))))

-- ---- types

octets_of_types : map rr_octet
    (types.HandoverCommand ∷ types.AssignmentCommand ∷ types.HandoverComplete ∷ types.HandoverFailure ∷ types.AssignmentComplete ∷
    types.AssignmentFailure ∷ types.ChannelRelease ∷ types.ImmediateAssignment ∷ types.MeasurementReport ∷ types.PagingResponse ∷ []) ≡
    hex "2b 2e 2c 28 29 2f 0d 3f 15 27"
octets_of_types = refl

types_of_octets : map rr_type (hex "2b 2e 2c 28 29 2f 0d 3f 15 27 99 2d") ≡
    Some types.HandoverCommand ∷ Some types.AssignmentCommand ∷ Some types.HandoverComplete ∷ Some types.HandoverFailure ∷
    Some types.AssignmentComplete ∷ Some types.AssignmentFailure ∷ Some types.ChannelRelease ∷ Some types.ImmediateAssignment ∷
    Some types.MeasurementReport ∷ Some types.PagingResponse ∷ None ∷ None ∷ []
unfolding rr_type
types_of_octets = refl

-- ---- values

-- the high bits 11 and the low octet 1E of the ARFCN, 010 of the NCC, 101 of the BCC
abbrev the_cell : CellDescription
the_cell = record { arfcn = 0x31e; ncc = 2; bcc = 5 }

-- SDCCH/8 of subchannel 0 on timeslot 1; 110 of the TSC, the high bits 10 and the low octet 14 of
-- the ARFCN
abbrev the_channel : ChannelDescription
the_channel = record { channel = record { 0 = 0x41 }; tsc = 6; arfcn = 0x214 }

abbrev cause : ℕ → RrCause
cause octet = record { 0 = octet }

abbrev sixteen : List ℕ
sixteen = hex "e1 ac 2b 8a 0a 4a 89 b8 09 25 68 b7 68 6d ff c9"

abbrev refused : RrFault → Result RrMessage RrFault
refused fault = Err fault

-- ---- what octets are read as; power command, hopping and spare bits, page mode and the end aren't looked at

handover_command : rr_reading (hex "06 2b d5 1e 41 c2 14 5c 00") ≡ Ok (HandoverCommand the_cell the_channel 0x5c)
unfolding rr_reading typed_at rr_type handover_command_at three_at octet_at
handover_command = refl

handover_command_with_spare_bits : rr_reading (hex "06 2b d5 1e 41 de 14 5c 07 99") ≡ Ok (HandoverCommand the_cell the_channel 0x5c)
unfolding rr_reading typed_at rr_type handover_command_at three_at octet_at
handover_command_with_spare_bits = refl

handover_command_cut : rr_reading (hex "06 2b d5 1e 41 c2 14 5c") ≡ refused Short
unfolding rr_reading typed_at rr_type handover_command_at three_at octet_at
handover_command_cut = refl

assignment_command : rr_reading (hex "06 2e 41 c2 14 07") ≡ Ok (AssignmentCommand the_channel)
unfolding rr_reading typed_at rr_type assignment_command_at three_at octet_at
assignment_command = refl

assignment_command_cut : rr_reading (hex "06 2e 41 c2 14") ≡ refused Short
unfolding rr_reading typed_at rr_type assignment_command_at three_at octet_at
assignment_command_cut = refl

handover_complete : rr_reading (hex "06 2c 00") ≡ Ok (HandoverComplete (cause 0x00))
unfolding rr_reading typed_at rr_type cause_at octet_at
handover_complete = refl

handover_complete_cut : rr_reading (hex "06 2c") ≡ refused Short
unfolding rr_reading typed_at rr_type cause_at octet_at
handover_complete_cut = refl

handover_failure : rr_reading (hex "06 28 03 99") ≡ Ok (HandoverFailure (cause 0x03))
unfolding rr_reading typed_at rr_type cause_at octet_at
handover_failure = refl

assignment_complete : rr_reading (hex "06 29 01") ≡ Ok (AssignmentComplete (cause 0x01))
unfolding rr_reading typed_at rr_type cause_at octet_at
assignment_complete = refl

assignment_failure : rr_reading (hex "06 2f 6f") ≡ Ok (AssignmentFailure (cause 0x6f))
unfolding rr_reading typed_at rr_type cause_at octet_at
assignment_failure = refl

channel_release : rr_reading (hex "06 0d ff") ≡ Ok (ChannelRelease (cause 0xff))
unfolding rr_reading typed_at rr_type cause_at octet_at
channel_release = refl

-- the 23 octets of an IMMEDIATE ASSIGNMENT
immediate_assignment : rr_reading (hex "2d 06 3f 05 41 de 14 7f 01 02 c5 11 12 13 14 15 16 17 18 19 1a 1b 1c") ≡
    Ok (ImmediateAssignment the_channel (hex "7f 01 02") 5)
unfolding rr_reading pseudo_at immediate_assignment_at three_at octet_at
immediate_assignment = refl

immediate_assignment_cut : rr_reading (hex "2d 06 3f 05 41 de 14 7f 01 02 c5 11 12 13 14 15 16 17 18 19 1a 1b") ≡ refused Short
unfolding rr_reading pseudo_at immediate_assignment_at three_at octet_at
immediate_assignment_cut = refl

measurement_report : rr_reading (hex "06 15 e1 ac 2b 8a 0a 4a 89 b8 09 25 68 b7 68 6d ff c9 99") ≡ Ok (MeasurementReport sixteen)
unfolding rr_reading typed_at rr_type measurement_report_at octet_at
measurement_report = refl

measurement_report_cut : rr_reading (hex "06 15 e1 ac 2b 8a 0a 4a 89 b8 09 25 68 b7 68 6d ff") ≡ refused Short
unfolding rr_reading typed_at rr_type measurement_report_at octet_at
measurement_report_cut = refl

paging_response : rr_reading (hex "06 27 71 08") ≡ Ok (PagingResponse (hex "71 08"))
unfolding rr_reading typed_at rr_type octet_at
paging_response = refl

paging_response_of_nothing : rr_reading (hex "06 27") ≡ Ok (PagingResponse [])
unfolding rr_reading typed_at rr_type octet_at
paging_response_of_nothing = refl

-- ---- faults, and which is first

short : map rr_reading ([] ∷ hex "06" ∷ hex "2d" ∷ hex "2d 06" ∷ hex "2d 06 3f" ∷ [])
    ≡ refused Short ∷ refused Short ∷ refused Short ∷ refused Short ∷ refused Short ∷ []
unfolding rr_reading typed_at pseudo_at immediate_assignment_at octet_at
short = refl

other_discriminators : map rr_reading (hex "03" ∷ hex "16 29 00" ∷ hex "2d 03" ∷ hex "2d 16 3f" ∷ hex "2d 2d" ∷ [])
    ≡ refused UnknownRr ∷ refused UnknownRr ∷ refused UnknownRr ∷ refused UnknownRr ∷ refused UnknownRr ∷ []
unfolding rr_reading typed_at pseudo_at octet_at
other_discriminators = refl

-- a type that isn't known precedes octets that are missing, and so does another discriminator
-- before its type
unknown_alone : map rr_reading (hex "06 99" ∷ hex "06 3f" ∷ hex "2d 06 15" ∷ hex "05" ∷ [])
    ≡ refused UnknownRr ∷ refused UnknownRr ∷ refused UnknownRr ∷ refused UnknownRr ∷ []
unfolding rr_reading typed_at rr_type pseudo_at octet_at
unknown_alone = refl

-- the type 3F without a pseudo length, and other types behind one
other_types : map rr_reading (hex "06 99" ∷ hex "06 3f 00" ∷ hex "2d 06 29 00" ∷ hex "2d 06 99" ∷ [])
    ≡ refused UnknownRr ∷ refused UnknownRr ∷ refused UnknownRr ∷ refused UnknownRr ∷ []
unfolding rr_reading typed_at rr_type pseudo_at octet_at
other_types = refl

-- ---- the texts that are written

handover_command_text : rr_text (HandoverCommand the_cell the_channel 0x5c) ≡ hex "06 2b d5 1e 41 c2 14 5c 00"
handover_command_text = refl

assignment_command_text : rr_text (AssignmentCommand the_channel) ≡ hex "06 2e 41 c2 14 00"
assignment_command_text = refl

cause_texts : map rr_text
    (HandoverComplete (cause 0x00) ∷ HandoverFailure (cause 0x03) ∷ AssignmentComplete (cause 0x01) ∷ AssignmentFailure (cause 0x6f) ∷
    ChannelRelease (cause 0xff) ∷ []) ≡
    hex "06 2c 00" ∷ hex "06 28 03" ∷ hex "06 29 01" ∷ hex "06 2f 6f" ∷ hex "06 0d ff" ∷ []
cause_texts = refl

immediate_assignment_text : rr_text (ImmediateAssignment the_channel (hex "7f 01 02") 5) ≡
    hex "2d 06 3f 00 41 c2 14 7f 01 02 05 00 2b 2b 2b 2b 2b 2b 2b 2b 2b 2b 2b"
immediate_assignment_text = refl

measurement_report_text : rr_text (MeasurementReport sixteen) ≡ hex "06 15 e1 ac 2b 8a 0a 4a 89 b8 09 25 68 b7 68 6d ff c9"
measurement_report_text = refl

paging_response_text : rr_text (PagingResponse (hex "71 08")) ≡ hex "06 27 71 08"
paging_response_text = refl

-- ---- a HANDOVER COMMAND that breaks off, and with FF in place of each octet: the first two are read, then any value is one

abbrev command : List ℕ
command = hex "06 2b 12 1e 41 40 1e 00 00"

abbrev commanded : ℕ → ℕ → ℕ → ℕ → ℕ → ℕ → ℕ → Result RrMessage RrFault
commanded cell_arfcn ncc bcc channel tsc arfcn reference = Ok (HandoverCommand (record { arfcn = cell_arfcn; ncc = ncc; bcc = bcc })
    (record { channel = record { 0 = channel }; tsc = tsc; arfcn = arfcn }) reference)

command_cut : map (λ size. rr_reading (take size command)) (range_with_len 0 9) ≡ replicate 9 (refused Short)
unfolding rr_reading typed_at rr_type handover_command_at three_at octet_at
command_cut = refl

command_false : map (λ place. rr_reading (set command place 0xff)) (range_with_len 0 9) ≡
    refused UnknownRr ∷ refused UnknownRr ∷ commanded 0x31e 7 7 0x41 2 0x01e 0x00 ∷ commanded 0x0ff 2 2 0x41 2 0x01e 0x00
    ∷ commanded 0x01e 2 2 0xff 2 0x01e 0x00 ∷ commanded 0x01e 2 2 0x41 7 0x31e 0x00 ∷ commanded 0x01e 2 2 0x41 2 0x0ff 0x00
    ∷ commanded 0x01e 2 2 0x41 2 0x01e 0xff ∷ commanded 0x01e 2 2 0x41 2 0x01e 0x00 ∷ []
unfolding rr_reading typed_at rr_type handover_command_at three_at octet_at
command_false = refl

-- ---- the RR messages of an access, an assignment and a handover, read and written back

-- the cell's BCC is 1, and its ARFCN 20
abbrev of_cell_1 : ℕ → ChannelDescription
of_cell_1 number = record { channel = record { 0 = number }; tsc = 1; arfcn = 20 }

abbrev IsReadBack : List ℕ → RrMessage → Type 0
IsReadBack octets message = (rr_reading octets ≡ Ok message) × (rr_text message ≡ octets)

assigned_at_access : IsReadBack (hex "2d 06 3f 00 41 20 14 7f 01 02 05 00 2b 2b 2b 2b 2b 2b 2b 2b 2b 2b 2b")
    (ImmediateAssignment (of_cell_1 0x41) (hex "7f 01 02") 5)
unfolding rr_reading pseudo_at immediate_assignment_at three_at octet_at
assigned_at_access = (refl, refl)

assigned_to_a_tch : IsReadBack (hex "06 2e 0a 20 14 00") (AssignmentCommand (of_cell_1 0x0a))
unfolding rr_reading typed_at rr_type assignment_command_at three_at octet_at
assigned_to_a_tch = (refl, refl)

-- to a cell with NCC 2, BCC 2 and ARFCN 30
handed_over : IsReadBack (hex "06 2b 12 1e 41 40 1e 00 00")
    (HandoverCommand (record { arfcn = 30; ncc = 2; bcc = 2 }) (record { channel = record { 0 = 0x41 }; tsc = 2; arfcn = 30 }) 0x00)
unfolding rr_reading typed_at rr_type handover_command_at three_at octet_at
handed_over = (refl, refl)

arrived : IsReadBack (hex "06 2c 00") (HandoverComplete (cause 0x00))
unfolding rr_reading typed_at rr_type cause_at octet_at
arrived = (refl, refl)

reported : IsReadBack (hex "06 15 14 14 00 57 02 40 00 00 00 00 00 00 00 00 00 00")
    (MeasurementReport (hex "14 14 00 57 02 40 00 00 00 00 00 00 00 00 00 00"))
unfolding rr_reading typed_at rr_type measurement_report_at octet_at
reported = (refl, refl)

-- ---- reports

abbrev entry : ℕ → ℕ → ℕ → Neighbour
entry rxlev bcch_freq bsic = record { rxlev = rxlev; bcch_freq = bcch_freq; bsic = bsic }

abbrev six_entries : List Neighbour
six_entries = entry 10 1 18 ∷ entry 21 2 27 ∷ entry 32 4 36 ∷ entry 43 8 45 ∷ entry 54 16 54 ∷ entry 63 31 9 ∷ []

abbrev a_report : ℕ → Report
a_report no_ncell =
    record {
      ba_used = 1;
      dtx_used = true;
      rxlev_full = 33;
      valid = true;
      rxlev_sub = 44;
      rxqual_full = 2;
      rxqual_sub = 5;
      no_ncell = no_ncell;
      entries = six_entries;
    }

-- a valid report: the bit of MEAS-VALID is 0
valid_report : IsReport sixteen (a_report 6)
valid_report = record {
  enough = omega arith;
  value = record { second = 1; third = 0; six = refl; fit = search arith; text = refl };
}

abbrev nothing : Neighbour
nothing = entry 0 0 0

-- a report that isn't valid, without a list of neighbours
invalid_report : IsReport (hex "14 55 f3 d7 02 40 00 00 00 00 00 00 00 00 00 00 99")
    (record {
      ba_used = 0;
      dtx_used = false;
      rxlev_full = 20;
      valid = false;
      rxlev_sub = 21;
      rxqual_full = 7;
      rxqual_sub = 1;
      no_ncell = 7;
      entries = entry 23 0 18 ∷ nothing ∷ nothing ∷ nothing ∷ nothing ∷ nothing ∷ [];
    })
invalid_report = record {
  enough = omega arith;
  value = record { second = 0; third = 1; six = refl; fit = search arith; text = refl };
}

-- RXLEV-FULL 20, and a first neighbour of RXLEV 23, at place 0, with BSIC 18
usual_report : IsReport (hex "14 14 00 57 02 40 00 00 00 00 00 00 00 00 00 00")
    (record {
      ba_used = 0;
      dtx_used = false;
      rxlev_full = 20;
      valid = true;
      rxlev_sub = 20;
      rxqual_full = 0;
      rxqual_sub = 0;
      no_ncell = 1;
      entries = entry 23 0 18 ∷ nothing ∷ nothing ∷ nothing ∷ nothing ∷ nothing ∷ [];
    })
usual_report = record {
  enough = omega arith;
  value = record { second = 0; third = 0; six = refl; fit = search arith; text = refl };
}

-- fifteen octets are no report's
report_cut : (report : Report) → IsReport (hex "14 14 00 57 02 40 00 00 00 00 00 00 00 00 00") report → ⊥
report_cut report is = omega (arith, is.enough)

no_octets_of_a_report : (report : Report) → IsReport [] report → ⊥
no_octets_of_a_report report is = omega (arith, is.enough)

neighbours : map (λ no_ncell. neighbours_of (a_report no_ncell)) (0 ∷ 1 ∷ 6 ∷ 7 ∷ []) ≡ [] ∷ (entry 10 1 18 ∷ []) ∷ six_entries ∷ [] ∷ []
neighbours = refl
