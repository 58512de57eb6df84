-- SPDX-License-Identifier: MIT OR Apache-2.0
-- Checks each message against its literal octets (TS 48.058, TS 44.018, Q.713, TS 48.006, TS
-- 48.008): the link that its frame is sent to, the connection, the stream and the body.
use Rattle.std.proofs.Common.{◌≡◌, ℕ, List, [], ◌∷◌, map, replicate, slice_index, Some, None, refl}
use Rattle.octets.proofs.Hex.{hex}
use Rattle.octets.specs.Front.{octet_at, counted_at}
use Rattle.octets.specs.Walk.{walk}
use Rattle.bssmap_codec.specs.BssapReading.{bssap_reading, breaks_off, cause_at, complete_layer3_at, elements_of, layer3_at, management_at, message_at, needed_value}
use Rattle.bssmap_codec.specs.BssmapType.{bssmap_type}
use Rattle.bssmap_codec.specs.Reference.{reference_at, references_at}
use Rattle.bssmap_codec.specs.SccpReading.{data_behind_at, data_form_at, data_in, fixed_references_at, option_at, part_at, request_at, sccp_reading, user_data_at}
use Rattle.bssmap_codec.specs.SccpType.{sccp_type}
use Rattle.conn_messages.specs.declared.causes.TheConstants.{ABNORMAL_RELEASE, BETTER_CELL, BSS_NOT_EQUIPPED, CIPHERING_NOT_SUPPORTED, EQUIPMENT_FAILURE, NORMAL_EVENT, NO_RADIO_RESOURCE, PROTOCOL_ERROR, RADIO_INTERFACE_FAILURE, RADIO_INTERFACE_MESSAGE_FAILURE, REVERSION_TO_OLD_CHANNEL}
use Rattle.conn_messages.specs.declared.channel.Change.TheVariants.{Assignment, Handover}
use Rattle.conn_messages.specs.declared.channel.Channel.{Channel}
use Rattle.conn_messages.specs.declared.out.Out.{Out}
use Rattle.conn_messages.specs.declared.uses.ChannelUse.TheVariants.{Activated, Released, Unchanged}
use Rattle.conn_messages.specs.ChannelUse.{use_by}
use Rattle.conn_messages.specs.Out.{IsReadOf, out_of, outs_of}
use Rattle.conn_messages.specs.StationMessage.{access_activation, change_activation, change_command, channel_release, establish_request, handing, immediate_assign_command, link_on, mode_of, rf_channel_release}
use Rattle.conn_messages.specs.SwitchMessage.{assignment_failure, change_complete, cipher_mode_reject, clear_complete, clear_request, complete_layer3, dlci_on, relaying, release_complete, sapi_3_reject}
use Rattle.dtap_codec.specs.declared.sapi.Sapi.TheVariants.{Zero, Three}
use Rattle.rsl_codec.specs.declared.values.RequestReference.{RequestReference}
use Rattle.rsl_codec.specs.RslReading.{breaks_off as rsl_breaks_off, channel_only_at, elements_of as rsl_elements_of, message_at as rsl_message_at, rsl_reading}
use Rattle.rsl_codec.specs.RslText.{rsl_element_text}
use Rattle.rsl_codec.specs.RslType.{rsl_type}

-- channels of two cells: ARFCN 20 and 30, BSIC 9 and 18
abbrev on_1 : ℕ → Channel
on_1 number = record {
  station = 1;
  number = number;
  cell = hex "00 00 f1 10 00 01 00 01";
  description = record { arfcn = 20; ncc = 1; bcc = 1 };
  reference = record { 0 = 0 };
}

abbrev on_2 : ℕ → Channel
on_2 number = record {
  station = 2;
  number = number;
  cell = hex "00 00 f1 10 00 01 00 02";
  description = record { arfcn = 30; ncc = 2; bcc = 2 };
  reference = record { 0 = 0 };
}

abbrev request : RequestReference
request = record { access = 0x7f; frame = 0x0102 }

-- a frame of connection 1 to a station, and one to the switch
abbrev to_station : ℕ → List ℕ → Out
to_station station body = record { to = station; conn = 1; frame = record { stream = 0x00; body = body } }

abbrev to_switch : List ℕ → Out
to_switch body = record { to = 0; conn = 1; frame = record { stream = 0xfd; body = body } }

abbrev full_rate : List ℕ
full_rate = hex "00 01 08 01"

abbrev half_rate : List ℕ
half_rate = hex "00 01 09 01"

abbrev signalling : List ℕ
signalling = hex "00 03 01 00"

-- ---- to a station

access_channel_activated : out_of 1 (access_activation (on_1 0x41)) ≡ to_station 1 (hex "08 21 01 41 03 00 06 04 00 03 01 00")
unfolding out_of rsl_element_text
access_channel_activated = refl

target_of_an_assignment_activated : out_of 1 (change_activation Assignment (on_1 0x0a))
    ≡ to_station 1 (hex "08 21 01 0a 03 01 06 04 00 01 08 01")
unfolding out_of rsl_element_text
target_of_an_assignment_activated = refl

target_of_a_handover_activated : out_of 1 (change_activation Handover (on_2 0x41))
    ≡ to_station 2 (hex "08 21 01 41 03 02 06 04 00 03 01 00 09 00")
unfolding out_of rsl_element_text
target_of_a_handover_activated = refl

-- the reference is sent with a handover alone
handover_reference_in_the_activation : out_of 1 (change_activation Handover (record (on_2 0x16) { reference = record { 0 = 0x5a } }))
    ≡ to_station 2 (hex "08 21 01 16 03 02 06 04 00 01 09 01 09 5a")
unfolding out_of rsl_element_text
handover_reference_in_the_activation = refl

no_reference_in_an_assignment : out_of 1 (change_activation Assignment (record (on_2 0x16) { reference = record { 0 = 0x5a } }))
    ≡ to_station 2 (hex "08 21 01 16 03 01 06 04 00 01 09 01")
unfolding out_of rsl_element_text
no_reference_in_an_assignment = refl

-- TCH/F, TCH/H, SDCCH, from the first to the last number of each
modes : map mode_of (hex "08 0f 10 1f 20 3f 40 7f")
    ≡ full_rate ∷ full_rate ∷ half_rate ∷ half_rate ∷ signalling ∷ signalling ∷ signalling ∷ signalling ∷ []
modes = refl

access_granted : out_of 1 (immediate_assign_command (on_1 0x41) request 5)
    ≡ to_station 1 (hex "0c 16 01 90 2b 17 2d 06 3f 00 41 20 14 7f 01 02 05 00 2b 2b 2b 2b 2b 2b 2b 2b 2b 2b 2b")
unfolding out_of rsl_element_text
access_granted = refl

-- the octet of the timing advance, for so much delay
timing_advances : map (λ delay. slice_index (out_of 1 (immediate_assign_command (on_1 0x41) request delay)).frame.body 16) (0 ∷ 62 ∷ 63 ∷ 64 ∷ 255 ∷ []) ≡ 0 ∷ 62 ∷ 63 ∷ 63 ∷ 63 ∷ []
unfolding out_of rsl_element_text
timing_advances = refl

message_handed : out_of 1 (handing (on_1 0x41) Zero (hex "83 02")) ≡ to_station 1 (hex "03 01 01 41 02 00 0b 00 02 83 02")
unfolding out_of rsl_element_text
message_handed = refl

message_handed_on_a_tch : out_of 1 (handing (on_1 0x0a) Zero (hex "83 02")) ≡ to_station 1 (hex "03 01 01 0a 02 00 0b 00 02 83 02")
unfolding out_of rsl_element_text
message_handed_on_a_tch = refl

short_message_handed : out_of 1 (handing (on_2 0x41) Three (hex "09 01")) ≡ to_station 2 (hex "03 01 01 41 02 03 0b 00 02 09 01")
unfolding out_of rsl_element_text
short_message_handed = refl

short_message_handed_on_a_tch : out_of 1 (handing (on_2 0x0a) Three (hex "09 01")) ≡ to_station 2 (hex "03 01 01 0a 02 43 0b 00 02 09 01")
unfolding out_of rsl_element_text
short_message_handed_on_a_tch = refl

-- the last TCH/H, the first SDCCH
links : map (λ number. link_on number Three) (hex "1f 20") ≡ hex "43 03"
links = refl

released_normally : out_of 1 (channel_release (on_1 0x41) NORMAL_EVENT) ≡ to_station 1 (hex "03 01 01 41 02 00 0b 00 03 06 0d 00")
unfolding out_of rsl_element_text
released_normally = refl

released_abnormally : out_of 1 (channel_release (on_2 0x41) ABNORMAL_RELEASE) ≡ to_station 2 (hex "03 01 01 41 02 00 0b 00 03 06 0d 01")
unfolding out_of rsl_element_text
released_abnormally = refl

assignment_commanded : out_of 1 (change_command (on_1 0x41) Assignment (on_1 0x0a))
    ≡ to_station 1 (hex "03 01 01 41 02 00 0b 00 06 06 2e 0a 20 14 00")
unfolding out_of rsl_element_text
assignment_commanded = refl

handover_commanded : out_of 1 (change_command (on_1 0x41) Handover (on_2 0x41))
    ≡ to_station 1 (hex "03 01 01 41 02 00 0b 00 09 06 2b 12 1e 41 40 1e 00 00")
unfolding out_of rsl_element_text
handover_commanded = refl

-- it is sent to the station of the serving channel, and names the target
handover_commanded_with_a_reference : out_of 1 (change_command (on_2 0x0a) Handover (record (on_1 0x49) { reference = record { 0 = 0x5a } }))
    ≡ to_station 2 (hex "03 01 01 0a 02 00 0b 00 09 06 2b 09 14 49 20 14 5a 00")
unfolding out_of rsl_element_text
handover_commanded_with_a_reference = refl

handover_commanded_to_a_high_arfcn : out_of 1 (change_command (on_1 0x41) Handover (record (on_2 0x0a) { description = record { arfcn = 1023; ncc = 5; bcc = 6 } }))
    ≡ to_station 1 (hex "03 01 01 41 02 00 0b 00 09 06 2b ee ff 0a c3 ff 00 00")
unfolding out_of rsl_element_text
handover_commanded_to_a_high_arfcn = refl

link_asked_for : out_of 1 (establish_request (on_1 0x41)) ≡ to_station 1 (hex "02 04 01 41 02 03")
unfolding out_of rsl_element_text
link_asked_for = refl

link_asked_for_on_a_tch : out_of 1 (establish_request (on_2 0x0a)) ≡ to_station 2 (hex "02 04 01 0a 02 43")
unfolding out_of rsl_element_text
link_asked_for_on_a_tch = refl

channel_released : out_of 1 (rf_channel_release (on_1 0x41)) ≡ to_station 1 (hex "08 2e 01 41")
unfolding out_of rsl_element_text
channel_released = refl

channel_of_another_station_released : out_of 1 (rf_channel_release (on_2 0x0a)) ≡ to_station 2 (hex "08 2e 01 0a")
unfolding out_of rsl_element_text
channel_of_another_station_released = refl

-- ---- to the switch

message_relayed : out_of 1 (relaying 0x800001 (on_1 0x41) Zero (hex "03 45")) ≡ to_switch (hex "06 80 00 01 00 01 05 01 00 02 03 45")
unfolding out_of rsl_element_text
message_relayed = refl

message_relayed_of_a_tch : out_of 1 (relaying 0x800001 (on_1 0x0a) Zero (hex "03 45"))
    ≡ to_switch (hex "06 80 00 01 00 01 05 01 00 02 03 45")
unfolding out_of rsl_element_text
message_relayed_of_a_tch = refl

short_message_relayed : out_of 1 (relaying 0x800001 (on_1 0x41) Three (hex "09 01")) ≡ to_switch (hex "06 80 00 01 00 01 05 01 83 02 09 01")
unfolding out_of rsl_element_text
short_message_relayed = refl

short_message_relayed_of_a_tch : out_of 1 (relaying 0x0a0b0c (on_2 0x0a) Three (hex "09 01"))
    ≡ to_switch (hex "06 0a 0b 0c 00 01 05 01 c3 02 09 01")
unfolding out_of rsl_element_text
short_message_relayed_of_a_tch = refl

-- the last TCH/H, the first SDCCH
dlcis : map (λ number. dlci_on number Three) (hex "1f 20") ≡ hex "c3 83"
dlcis = refl

connection_requested : out_of 1 (complete_layer3 (on_1 0x41) (hex "05 24 71"))
    ≡ to_switch (hex "01 00 00 01 02 02 04 02 42 fe 0f 12 00 10 57 05 08 00 00 f1 10 00 01 00 01 17 03 05 24 71 00")
unfolding out_of rsl_element_text
connection_requested = refl

connection_requested_with_another_number : out_of 0x010203 (complete_layer3 (on_2 0x0a) (hex "05 24"))
    ≡ record { to = 0; conn = 0x010203; frame = record { stream = 0xfd; body = hex "01 01 02 03 02 02 04 02 42 fe 0f 11 00 0f 57 05 08 00 00 f1 10 00 01 00 02 17 02 05 24 00" } }
unfolding out_of rsl_element_text
connection_requested_with_another_number = refl

-- the length of the user data, which Q.713 allows 128 octets of
longest_initial_message : slice_index (out_of 1 (complete_layer3 (on_1 0x41) (replicate 113 0x05))).frame.body 11 ≡ 128
unfolding out_of rsl_element_text
longest_initial_message = refl

clearing_requested : out_of 1 (clear_request 0x800001 EQUIPMENT_FAILURE) ≡ to_switch (hex "06 80 00 01 00 01 06 00 04 22 04 01 20")
unfolding out_of rsl_element_text
clearing_requested = refl

cleared : out_of 1 (clear_complete 0x800001) ≡ to_switch (hex "06 80 00 01 00 01 03 00 01 21")
unfolding out_of rsl_element_text
cleared = refl

connection_released : out_of 1 (release_complete 0x800001) ≡ to_switch (hex "05 80 00 01 00 00 01")
unfolding out_of rsl_element_text
connection_released = refl

connection_with_another_number_released : out_of 0x010203 (release_complete 0x0a0b0c)
    ≡ record { to = 0; conn = 0x010203; frame = record { stream = 0xfd; body = hex "05 0a 0b 0c 01 02 03" } }
unfolding out_of rsl_element_text
connection_with_another_number_released = refl

assignment_refused : out_of 1 (assignment_failure 0x800001 PROTOCOL_ERROR None) ≡ to_switch (hex "06 80 00 01 00 01 06 00 04 03 04 01 60")
unfolding out_of rsl_element_text
assignment_refused = refl

assignment_without_a_channel : out_of 1 (assignment_failure 0x800001 NO_RADIO_RESOURCE None)
    ≡ to_switch (hex "06 80 00 01 00 01 06 00 04 03 04 01 21")
unfolding out_of rsl_element_text
assignment_without_a_channel = refl

assignment_failed : out_of 1 (assignment_failure 0x800001 REVERSION_TO_OLD_CHANNEL (Some (record { 0 = 0x03 })))
    ≡ to_switch (hex "06 80 00 01 00 01 08 00 06 03 04 01 0a 15 03")
unfolding out_of rsl_element_text
assignment_failed = refl

assignment_completed : out_of 1 (change_complete 0x800001 Assignment (on_1 0x0a) 0x00)
    ≡ to_switch (hex "06 80 00 01 00 01 05 00 03 02 15 00")
unfolding out_of rsl_element_text
assignment_completed = refl

assignment_completed_with_a_cause : out_of 1 (change_complete 0x800001 Assignment (on_1 0x0a) 0x6f)
    ≡ to_switch (hex "06 80 00 01 00 01 05 00 03 02 15 6f")
unfolding out_of rsl_element_text
assignment_completed_with_a_cause = refl

-- the mobile's cause isn't passed on
handover_completed : out_of 1 (change_complete 0x800001 Handover (on_2 0x41) 0x6f)
    ≡ to_switch (hex "06 80 00 01 00 01 10 00 0e 17 04 01 0c 05 08 00 00 f1 10 00 01 00 02")
unfolding out_of rsl_element_text
handover_completed = refl

sapi_3_rejected : out_of 1 (sapi_3_reject 0x800001 (on_1 0x41)) ≡ to_switch (hex "06 80 00 01 00 01 08 00 06 25 18 83 04 01 25")
unfolding out_of rsl_element_text
sapi_3_rejected = refl

sapi_3_rejected_on_a_tch : out_of 1 (sapi_3_reject 0x800001 (on_1 0x0a)) ≡ to_switch (hex "06 80 00 01 00 01 08 00 06 25 18 c3 04 01 25")
unfolding out_of rsl_element_text
sapi_3_rejected_on_a_tch = refl

ciphering_rejected : out_of 1 (cipher_mode_reject 0x800001) ≡ to_switch (hex "06 80 00 01 00 01 06 00 04 59 04 01 40")
unfolding out_of rsl_element_text
ciphering_rejected = refl

-- ---- lists

-- a connection that is cleared during a handover
frames_in_order : outs_of 1 (channel_release (on_1 0x41) NORMAL_EVENT ∷ rf_channel_release (on_1 0x41) ∷ rf_channel_release (on_2 0x41) ∷ clear_complete 0x800001 ∷ []) ≡
    to_station 1 (hex "03 01 01 41 02 00 0b 00 03 06 0d 00") ∷ to_station 1 (hex "08 2e 01 41") ∷ to_station 2 (hex "08 2e 01 41")
    ∷ to_switch (hex "06 80 00 01 00 01 03 00 01 21") ∷ []
unfolding out_of rsl_element_text
frames_in_order = refl

-- ---- the causes

switch_causes : RADIO_INTERFACE_MESSAGE_FAILURE ∷ RADIO_INTERFACE_FAILURE ∷ REVERSION_TO_OLD_CHANNEL ∷ BETTER_CELL
    ∷ EQUIPMENT_FAILURE ∷ NO_RADIO_RESOURCE ∷ BSS_NOT_EQUIPPED ∷ CIPHERING_NOT_SUPPORTED ∷ PROTOCOL_ERROR ∷ []
    ≡ hex "00 01 0a 0c 20 21 25 40 60"
switch_causes = refl

mobile_causes : NORMAL_EVENT ∷ ABNORMAL_RELEASE ∷ [] ≡ hex "00 01"
mobile_causes = refl

-- ---- what the other end reads

release_read : IsReadOf 1 (rf_channel_release (on_1 0x41)) (hex "08 2e 01 41")
unfolding rsl_reading rsl_message_at rsl_elements_of rsl_breaks_off rsl_type walk channel_only_at
release_read = refl

request_read : IsReadOf 0x010203 (complete_layer3 (on_2 0x0a) (hex "05 24")) (hex "01 01 02 03 02 02 04 02 42 fe 0f 11 00 0f 57 05 08 00 00 f1 10 00 01 00 02 17 02 05 24 00")
unfolding sccp_reading octet_at sccp_type reference_at request_at part_at counted_at user_data_at data_in option_at bssap_reading management_at bssmap_type message_at elements_of breaks_off walk needed_value complete_layer3_at layer3_at
request_read = (hex "00 0f 57 05 08 00 00 f1 10 00 01 00 02 17 02 05 24", refl, refl)

data_read : IsReadOf 0x010203 (clear_request 0x800001 EQUIPMENT_FAILURE) (hex "06 80 00 01 00 01 06 00 04 22 04 01 20")
unfolding sccp_reading octet_at sccp_type reference_at data_form_at data_behind_at counted_at bssap_reading management_at bssmap_type message_at elements_of breaks_off walk needed_value cause_at part_at
data_read = (hex "00 04 22 04 01 20", refl, refl)

release_complete_read : IsReadOf 0x010203 (release_complete 0x0a0b0c) (hex "05 0a 0b 0c 01 02 03")
unfolding sccp_reading octet_at sccp_type reference_at references_at fixed_references_at
release_complete_read = refl

-- ---- what is made of a channel

uses : map use_by (access_activation (on_1 0x41) ∷ change_activation Handover (on_2 0x41) ∷ change_activation Assignment (on_1 0x0a) ∷ rf_channel_release (on_2 0x49) ∷ release_complete 0x0a0b0c ∷ [])
    ≡ Activated (record { station = 1; number = 0x41 }) (record { 0 = 0x00 })
    ∷ Activated (record { station = 2; number = 0x41 }) (record { 0 = 0x02 })
    ∷ Activated (record { station = 1; number = 0x0a }) (record { 0 = 0x01 })
    ∷ Released (record { station = 2; number = 0x49 })
    ∷ Unchanged ∷ []
uses = refl
