-- SPDX-License-Identifier: MIT OR Apache-2.0
-- Rows: what literal frames say, on both links and both ways.
use Rattle.std.proofs.Common.{◌≡◌, true, false, [], Some, None, refl}
use Rattle.octets.proofs.Hex.{hex}
use Rattle.octets.specs.Front.{octet_at, counted_at}
use Rattle.octets.specs.Walk.{walk}
use Rattle.bssmap_codec.specs.declared.fault.InterfaceFault.TheVariants as interface
use Rattle.bssmap_codec.specs.BssapReading.{elements_of as bssap_elements_of, breaks_off as bssap_breaks_off, needed_value, needed_octet, rr_cause_in, layer3_at, cause_at, assignment_request_at, assignment_complete_at, assignment_failure_at, handover_performed_at, reject_at, complete_layer3_at, message_at as bssap_message_at, management_at, transfer_at, bssap_reading}
use Rattle.bssmap_codec.specs.BssmapType.{bssmap_type}
use Rattle.bssmap_codec.specs.Reference.{reference_at, references_at}
use Rattle.bssmap_codec.specs.SccpReading.{part_at, option_at, data_in, user_data_at, request_at, fixed_references_at, refused_at, data_behind_at, data_form_at, sccp_reading}
use Rattle.bssmap_codec.specs.SccpType.{sccp_type}
use Rattle.conn_messages.specs.declared.channel.Change.TheVariants.{Assignment, Handover}
use Rattle.dtap_codec.specs.declared.sapi.Sapi.TheVariants.{Zero, Three}
use Rattle.dtap_codec.specs.RrReading.{three_at, handover_command_at, assignment_command_at, cause_at as rr_cause_at, immediate_assignment_at, measurement_report_at, typed_at, pseudo_at, rr_reading}
use Rattle.dtap_codec.specs.RrType.{rr_type}
use Rattle.rsl_codec.specs.declared.fault.RslFault.TheVariants as radio
use Rattle.rsl_codec.specs.RslReading.{elements_of, breaks_off, channel_only_at, link_at, data_at, error_at, establishment_at, release_at, channel_required_at, assignment_at, activation_at, activation_ack_at, failure_at, detection_at, measurement_result_at, message_at, rsl_reading}
use Rattle.rsl_codec.specs.RslType.{rsl_type}
use Rattle.run_judge.specs.declared.said.Said.TheVariants as says
use Rattle.run_judge.specs.declared.said.Way.TheVariants.{ToController, FromController}
use Rattle.run_judge.specs.Reading.{IsReadableBody, activation_elements, channel_at, is_dtap, said_by}

-- octets are read under one name
unfoldable on_literals : Unit {0}
unfolding octet_at counted_at walk bssap_elements_of bssap_breaks_off needed_value needed_octet rr_cause_in layer3_at cause_at assignment_request_at assignment_complete_at assignment_failure_at handover_performed_at reject_at complete_layer3_at bssap_message_at management_at transfer_at bssap_reading bssmap_type reference_at references_at part_at option_at data_in user_data_at request_at fixed_references_at refused_at data_behind_at data_form_at sccp_reading sccp_type three_at handover_command_at assignment_command_at rr_cause_at immediate_assignment_at measurement_report_at typed_at pseudo_at rr_reading rr_type elements_of breaks_off channel_only_at link_at data_at error_at establishment_at release_at channel_required_at assignment_at activation_at activation_ack_at failure_at detection_at measurement_result_at message_at rsl_reading rsl_type activation_elements
on_literals = tt

-- ---- a base station, to the controller

-- ESTABLISH INDICATION
establishes : said_by 2 ToController (hex "02 06 01 41 02 00 0b 00 03 05 24 71") ≡ says.Establishes (channel_at 2 0x41) (hex "05 24 71")
unfolding on_literals
establishes = refl

establishes_on_sapi_3 : said_by 2 ToController (hex "02 06 01 41 02 03 0b 00 03 05 24 71") ≡ says.Nothing
unfolding on_literals
establishes_on_sapi_3 = refl

establishes_without_message : said_by 2 ToController (hex "02 06 01 41 02 00") ≡ says.Nothing
unfolding on_literals
establishes_without_message = refl

-- SAPI 0 is the main link alone
establishes_on_the_sacch : said_by 2 ToController (hex "02 06 01 41 02 40 0b 00 03 05 24 71") ≡ says.Nothing
unfolding on_literals
establishes_on_the_sacch = refl

-- DATA INDICATION
brings : said_by 1 ToController (hex "03 02 01 0a 02 00 0b 00 03 03 45 01") ≡ says.Brings (channel_at 1 0x0a) Zero (hex "03 45 01")
unfolding on_literals
brings = refl

brings_on_sapi_3 : said_by 1 ToController (hex "03 02 01 41 02 03 0b 00 02 09 04") ≡ says.Brings (channel_at 1 0x41) Three (hex "09 04")
unfolding on_literals
brings_on_sapi_3 = refl

brings_on_sapi_3_of_the_sacch : said_by 1 ToController (hex "03 02 01 0a 02 43 0b 00 02 09 04") ≡ says.Brings (channel_at 1 0x0a) Three (hex "09 04")
unfolding on_literals
brings_on_sapi_3_of_the_sacch = refl

brings_on_sapi_3_of_no_channel : said_by 1 ToController (hex "03 02 01 0a 02 83 0b 00 02 09 04") ≡ says.Nothing
unfolding on_literals
brings_on_sapi_3_of_no_channel = refl

brings_on_sapi_1 : said_by 1 ToController (hex "03 02 01 0a 02 01 0b 00 02 09 04") ≡ says.Nothing
unfolding on_literals
brings_on_sapi_1 = refl

completes_an_assignment : said_by 1 ToController (hex "03 02 01 0a 02 00 0b 00 03 06 29 00") ≡ says.Completes (channel_at 1 0x0a) Assignment
unfolding on_literals
completes_an_assignment = refl

completes_a_handover : said_by 2 ToController (hex "03 02 01 09 02 00 0b 00 03 06 2c 00") ≡ says.Completes (channel_at 2 0x09) Handover
unfolding on_literals
completes_a_handover = refl

fails_an_assignment : said_by 1 ToController (hex "03 02 01 41 02 00 0b 00 03 06 2f 6f") ≡ says.Fails (channel_at 1 0x41) Assignment
unfolding on_literals
fails_an_assignment = refl

fails_a_handover : said_by 1 ToController (hex "03 02 01 0a 02 00 0b 00 03 06 28 6f") ≡ says.Fails (channel_at 1 0x0a) Handover
unfolding on_literals
fails_a_handover = refl

completes_on_sapi_3 : said_by 1 ToController (hex "03 02 01 0a 02 43 0b 00 03 06 29 00") ≡ says.Nothing
unfolding on_literals
completes_on_sapi_3 = refl

answers_without_cause : said_by 1 ToController (hex "03 02 01 0a 02 00 0b 00 02 06 29") ≡ says.Nothing
unfolding on_literals
answers_without_cause = refl

-- it is of radio resource management, and no answer
answers_with_skip_indicator : said_by 1 ToController (hex "03 02 01 0a 02 00 0b 00 03 16 29 00") ≡ says.Nothing
unfolding on_literals
answers_with_skip_indicator = refl

commands_upwards : said_by 1 ToController (hex "03 02 01 0a 02 00 0b 00 06 06 2e 0b 60 05 00") ≡ says.Nothing
unfolding on_literals
commands_upwards = refl

-- RF CHANNEL RELEASE ACK
released : said_by 3 ToController (hex "08 33 01 41") ≡ says.Released (channel_at 3 0x41)
unfolding on_literals
released = refl

released_without_channel : said_by 3 ToController (hex "08 33") ≡ says.Nothing
unfolding on_literals
released_without_channel = refl

requests_data_upwards : said_by 1 ToController (hex "03 01 01 0a 02 00 0b 00 03 03 45 01") ≡ says.Nothing
unfolding on_literals
requests_data_upwards = refl

activates_upwards : said_by 1 ToController (hex "08 21 01 41 03 00 06 03 00 03 00") ≡ says.Nothing
unfolding on_literals
activates_upwards = refl

-- ---- the controller, to a base station

-- CHANNEL ACTIVATION
activates : said_by 1 FromController (hex "08 21 01 41 03 00 06 03 00 03 00") ≡ says.Activates (channel_at 1 0x41) None
unfolding on_literals
activates = refl

activates_for_a_handover : said_by 2 FromController (hex "08 21 01 09 03 02 06 03 00 03 00 09 07") ≡ says.Activates (channel_at 2 0x09) (Some 0x07)
unfolding on_literals
activates_for_a_handover = refl

-- with channel identification, powers and power parameters
activates_with_other_elements : said_by 2 FromController (hex "08 21 01 09 03 02 06 04 00 03 08 00 05 06 64 09 40 16 72 00 09 01 04 00 0d 0e 1f 00") ≡ says.Activates (channel_at 2 0x09) (Some 0x01)
unfolding on_literals
activates_with_other_elements = refl

-- what follows an unknown identifier is not looked at
activates_with_an_unknown_element : said_by 2 FromController (hex "08 21 01 09 03 02 06 03 00 03 00 7f 00 09 07") ≡ says.Activates (channel_at 2 0x09) None
unfolding on_literals
activates_with_an_unknown_element = refl

-- RF CHANNEL RELEASE
releases : said_by 1 FromController (hex "08 2e 01 41") ≡ says.Releases (channel_at 1 0x41)
unfolding on_literals
releases = refl

assigns : said_by 1 FromController (hex "03 01 01 41 02 00 0b 00 06 06 2e 0b 60 05 00") ≡ says.Assigns (channel_at 1 0x41) 0x0b
unfolding on_literals
assigns = refl

hands_over : said_by 1 FromController (hex "03 01 01 0a 02 00 0b 00 09 06 2b 3a 64 09 20 65 07 00") ≡ says.HandsOver (channel_at 1 0x0a) (record { arfcn = 100; ncc = 7; bcc = 2 }) 0x09 0x07
unfolding on_literals
hands_over = refl

hands_over_to_a_high_number : said_by 1 FromController (hex "03 01 01 0a 02 00 0b 00 09 06 2b da 01 09 20 65 07 00") ≡ says.HandsOver (channel_at 1 0x0a) (record { arfcn = 769; ncc = 3; bcc = 2 }) 0x09 0x07
unfolding on_literals
hands_over_to_a_high_number = refl

commands_on_sapi_3 : said_by 1 FromController (hex "03 01 01 41 02 03 0b 00 06 06 2e 0b 60 05 00") ≡ says.Nothing
unfolding on_literals
commands_on_sapi_3 = refl

-- CHANNEL RELEASE
commands_nothing : said_by 1 FromController (hex "03 01 01 41 02 00 0b 00 03 06 0d 00") ≡ says.Nothing
unfolding on_literals
commands_nothing = refl

completes_downwards : said_by 1 FromController (hex "03 01 01 0a 02 00 0b 00 03 06 29 00") ≡ says.Nothing
unfolding on_literals
completes_downwards = refl

-- DATA REQUEST
hands : said_by 1 FromController (hex "03 01 01 0a 02 00 0b 00 03 83 01 02") ≡ says.Hands (channel_at 1 0x0a) Zero (hex "83 01 02")
unfolding on_literals
hands = refl

hands_on_sapi_3 : said_by 1 FromController (hex "03 01 01 0a 02 43 0b 00 02 89 04") ≡ says.Hands (channel_at 1 0x0a) Three (hex "89 04")
unfolding on_literals
hands_on_sapi_3 = refl

hands_on_sapi_1 : said_by 1 FromController (hex "03 01 01 0a 02 01 0b 00 02 89 04") ≡ says.Nothing
unfolding on_literals
hands_on_sapi_1 = refl

indicates_data_downwards : said_by 1 FromController (hex "03 02 01 0a 02 00 0b 00 03 03 45 01") ≡ says.Nothing
unfolding on_literals
indicates_data_downwards = refl

acknowledges_a_release_downwards : said_by 1 FromController (hex "08 33 01 41") ≡ says.Nothing
unfolding on_literals
acknowledges_a_release_downwards = refl

-- ---- the controller, to the switch

-- CR with COMPLETE LAYER 3 INFORMATION
requests : said_by 0 FromController (hex "01 00 00 07 02 02 04 02 42 fe 0f 12 00 10 57 05 08 00 62 f2 20 00 01 00 05 17 03 05 24 71 00") ≡ says.Requests 0x07 (hex "05 24 71")
unfolding on_literals
requests = refl

requests_without_data : said_by 0 FromController (hex "01 00 00 07 02 02 00 02 42 fe") ≡ says.Nothing
unfolding on_literals
requests_without_data = refl

-- CLEAR COMPLETE
requests_with_other_data : said_by 0 FromController (hex "01 00 00 07 02 02 04 02 42 fe 0f 03 00 01 21 00") ≡ says.Nothing
unfolding on_literals
requests_with_other_data = refl

-- DTAP
passes : said_by 0 FromController (hex "06 00 00 05 00 01 06 01 00 03 05 24 71") ≡ says.Passes 0x05 Zero (hex "05 24 71")
unfolding on_literals
passes = refl

passes_on_sapi_3 : said_by 0 FromController (hex "06 00 01 05 00 01 05 01 83 02 09 04") ≡ says.Passes 0x0105 Three (hex "09 04")
unfolding on_literals
passes_on_sapi_3 = refl

clears : said_by 0 FromController (hex "06 00 00 05 00 01 03 00 01 21") ≡ says.Clears 0x05
unfolding on_literals
clears = refl

rejects : said_by 0 FromController (hex "06 00 00 05 00 01 08 00 06 25 18 03 04 01 25") ≡ says.Rejects 0x05
unfolding on_literals
rejects = refl

-- CLEAR REQUEST
manages : said_by 0 FromController (hex "06 00 00 05 00 01 06 00 04 22 04 01 09") ≡ says.Manages 0x05
unfolding on_literals
manages = refl

-- neither BSSMAP nor DTAP
manages_by_unknown_data : said_by 0 FromController (hex "06 00 00 05 00 01 01 02") ≡ says.Manages 0x05
unfolding on_literals
manages_by_unknown_data = refl

-- RLC: its source is the controller
ends : said_by 0 FromController (hex "05 00 00 05 00 00 07") ≡ says.Ends 0x07
unfolding on_literals
ends = refl

-- RLSD
asks_to_end : said_by 0 FromController (hex "04 00 00 05 00 00 07 00 00") ≡ says.Nothing
unfolding on_literals
asks_to_end = refl

confirms_upwards : said_by 0 FromController (hex "02 00 00 07 00 00 05 02 00") ≡ says.Nothing
unfolding on_literals
confirms_upwards = refl

refuses_upwards : said_by 0 FromController (hex "03 00 00 07 00 00") ≡ says.Nothing
unfolding on_literals
refuses_upwards = refl

-- ---- the switch, to the controller

-- CC
confirms : said_by 0 ToController (hex "02 00 00 07 00 00 05 02 00") ≡ says.Confirms 0x07 0x05
unfolding on_literals
confirms = refl

-- CREF
refuses : said_by 0 ToController (hex "03 00 00 07 00 00") ≡ says.Refuses 0x07
unfolding on_literals
refuses = refl

-- DTAP
transfers : said_by 0 ToController (hex "06 00 00 07 00 01 06 01 00 03 85 01 02") ≡ says.Transfers 0x07 Zero (hex "85 01 02")
unfolding on_literals
transfers = refl

transfers_on_sapi_3 : said_by 0 ToController (hex "06 00 00 07 00 01 05 01 03 02 89 04") ≡ says.Transfers 0x07 Three (hex "89 04")
unfolding on_literals
transfers_on_sapi_3 = refl

transfers_radio_resource : said_by 0 ToController (hex "06 00 00 07 00 01 05 01 00 02 06 12") ≡ says.Transfers 0x07 Zero (hex "06 12")
unfolding on_literals
transfers_radio_resource = refl

-- CLEAR COMMAND
manages_downwards : said_by 0 ToController (hex "06 00 00 07 00 01 06 00 04 20 04 01 09") ≡ says.Nothing
unfolding on_literals
manages_downwards = refl

transfers_unknown_data : said_by 0 ToController (hex "06 00 00 07 00 01 01 02") ≡ says.Nothing
unfolding on_literals
transfers_unknown_data = refl

requests_downwards : said_by 0 ToController (hex "01 00 00 07 02 02 04 02 42 fe 0f 12 00 10 57 05 08 00 62 f2 20 00 01 00 05 17 03 05 24 71 00") ≡ says.Nothing
unfolding on_literals
requests_downwards = refl

ends_downwards : said_by 0 ToController (hex "05 00 00 07 00 00 05") ≡ says.Nothing
unfolding on_literals
ends_downwards = refl

-- ---- on the other link

radio_signalling_of_the_switch : said_by 0 ToController (hex "08 33 01 41") ≡ says.Nothing
unfolding on_literals
radio_signalling_of_the_switch = refl

connection_control_of_a_station : said_by 1 ToController (hex "02 00 00 07 00 00 05 02 00") ≡ says.Nothing
unfolding on_literals
connection_control_of_a_station = refl

-- ---- what says nothing

no_octets_of_the_switch : said_by 0 ToController (hex "") ≡ says.Nothing
unfolding on_literals
no_octets_of_the_switch = refl

no_octets_to_a_station : said_by 1 FromController (hex "") ≡ says.Nothing
unfolding on_literals
no_octets_to_a_station = refl

-- ---- which messages are DTAP

of_radio_resource : is_dtap (hex "06 29") ≡ false
of_radio_resource = refl

of_radio_resource_with_skip_indicator : is_dtap (hex "f6") ≡ false
of_radio_resource_with_skip_indicator = refl

of_call_control : is_dtap (hex "63") ≡ true
of_call_control = refl

of_no_octets : is_dtap [] ≡ true
of_no_octets = refl

-- ---- bodies that may want memory

readable_of_a_station : IsReadableBody 1 (hex "08 33 01 41")
unfolding on_literals
readable_of_a_station = tt

refused_of_a_station : IsReadableBody 1 (hex "08 33") → ⊥
unfolding on_literals
refused_of_a_station h = let same : radio.MissingElement 0x01 ≡ radio.Memory = h in cc

readable_of_the_switch : IsReadableBody 0 (hex "03 00 00 07 00 00")
unfolding on_literals
readable_of_the_switch = tt

refused_of_the_switch : IsReadableBody 0 (hex "03 00 00") → ⊥
unfolding on_literals
refused_of_the_switch h = let same : interface.Short ≡ interface.Memory = h in cc
