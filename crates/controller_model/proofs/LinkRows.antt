-- SPDX-License-Identifier: MIT OR Apache-2.0
-- Links, what is answered on them, and what is ignored.
use Rattle.controller_model.proofs.Prelude.{◌≡◌, [], ◌∷◌, Some, refl, Asked, Closed, hex, Tick, new_controller, links_of}
use Rattle.controller_model.proofs.Lives.{put, from_switch, from_station, on_stream, down, played, after, usual_settings, state_of}
use Rattle.controller_model.proofs.OnLiterals.{on_literals}
use Rattle.controller_model.proofs.AccessRows.{active}

-- PING on each link; PONG, no octet, OML, frames of other streams, and a link that isn't there
answers : played (new_controller usual_settings) (on_stream 0 0xfe (hex "00")
    ∷ on_stream 1 0xfe (hex "00")
    ∷ on_stream 2 0xfe (hex "00 ff")
    ∷ on_stream 0 0xfe (hex "01")
    ∷ on_stream 1 0xfe []
    ∷ on_stream 1 0xff (hex "00")
    ∷ on_stream 0 0x00 (hex "0c 13 01 88 13 7f 01 02 11 05")
    ∷ on_stream 1 0xfd (hex "0c 13 01 88 13 7f 01 02 11 05")
    ∷ on_stream 1 0x42 (hex "0c 13 01 88 13 7f 01 02 11 05")
    ∷ on_stream 3 0xfe (hex "00") ∷ [])
    ≡ (put 0 (hex "01") ∷ [])
    ∷ (put 1 (hex "01") ∷ [])
    ∷ (put 2 (hex "01") ∷ [])
    ∷ []
    ∷ []
    ∷ []
    ∷ []
    ∷ []
    ∷ []
    ∷ [] ∷ []
unfolding on_literals
answers = refl

counts_what_it_ignores : (after (new_controller usual_settings) (on_stream 0 0xfe (hex "00")
    ∷ on_stream 1 0xfe (hex "00") ∷ on_stream 2 0xfe (hex "00 ff") ∷ on_stream 0 0xfe (hex "01") ∷ on_stream 1 0xfe []
    ∷ on_stream 1 0xff (hex "00") ∷ on_stream 0 0x00 (hex "0c 13 01 88 13 7f 01 02 11 05")
    ∷ on_stream 1 0xfd (hex "0c 13 01 88 13 7f 01 02 11 05") ∷ on_stream 1 0x42 (hex "0c 13 01 88 13 7f 01 02 11 05")
    ∷ on_stream 3 0xfe (hex "00") ∷ [])).ignored
    ≡ 7
unfolding on_literals
counts_what_it_ignores = refl

-- a break, a second one, and frames behind it
takes_a_break_once : played active (down 1
    ∷ down 1
    ∷ on_stream 1 0xfe (hex "00")
    ∷ from_station 1 (hex "0c 13 01 88 13 7f 01 02 11 05")
    ∷ from_station 2 (hex "0c 13 01 88 13 7f 01 02 11 05") ∷ [])
    ≡ (put 0 (hex "06 80 00 01 00 01 06 00 04 22 04 01 20") ∷ [])
    ∷ []
    ∷ []
    ∷ []
    ∷ (put 2 (hex "08 21 01 41 03 00 06 04 00 03 01 00") ∷ []) ∷ []
unfolding on_literals
takes_a_break_once = refl

counts_behind_a_break : (after active (down 1 ∷ down 1 ∷ on_stream 1 0xfe (hex "00")
    ∷ from_station 1 (hex "0c 13 01 88 13 7f 01 02 11 05") ∷ [])).ignored
    ≡ 3
unfolding on_literals
counts_behind_a_break = refl

counts_no_break : (after active (down 1 ∷ [])).ignored ≡ 0
unfolding on_literals
counts_no_break = refl

counts_the_break_of_no_link : (after active (down 3 ∷ [])).ignored ≡ 1
unfolding on_literals
counts_the_break_of_no_link = refl

is_asked_about : state_of (after active (down 1 ∷ [])) 1 ≡ Some (Closed (Asked 0x800001))
unfolding on_literals
is_asked_about = refl

-- the break of the switch's link, by rising number
breaks_at_the_switch : played active (from_station 1 (hex "0c 13 01 88 13 7f 01 02 11 05")
    ∷ from_station 2 (hex "0c 13 01 88 13 7f 01 02 11 05")
    ∷ down 0
    ∷ from_switch (hex "06 00 00 01 00 01 06 00 04 20 04 01 09")
    ∷ down 0 ∷ [])
    ≡ (put 1 (hex "08 21 01 49 03 00 06 04 00 03 01 00") ∷ [])
    ∷ (put 2 (hex "08 21 01 41 03 00 06 04 00 03 01 00") ∷ [])
    ∷ (put 1 (hex "03 01 01 41 02 00 0b 00 03 06 0d 01") ∷ put 1 (hex "08 2e 01 41") ∷ put 1 (hex "08 2e 01 49")
    ∷ put 2 (hex "08 2e 01 41") ∷ [])
    ∷ []
    ∷ [] ∷ []
unfolding on_literals
breaks_at_the_switch = refl

leaves_none : (after active (from_station 1 (hex "0c 13 01 88 13 7f 01 02 11 05")
    ∷ from_station 2 (hex "0c 13 01 88 13 7f 01 02 11 05") ∷ down 0 ∷ [])).entries
    ≡ []
unfolding on_literals
leaves_none = refl

counts_behind_the_switch : (after active (from_station 1 (hex "0c 13 01 88 13 7f 01 02 11 05")
    ∷ from_station 2 (hex "0c 13 01 88 13 7f 01 02 11 05") ∷ down 0
    ∷ from_switch (hex "06 00 00 01 00 01 06 00 04 20 04 01 09") ∷ down 0 ∷ [])).ignored
    ≡ 2
unfolding on_literals
counts_behind_the_switch = refl

three_links : links_of (new_controller usual_settings) ≡ 3
unfolding on_literals
three_links = refl

-- ---- what is ignored in Active

ignores_a_connection_request : after active
    (from_switch (hex "01 00 00 01 02 02 04 02 42 fe 0f 12 00 10 57 05 08 00 00 f1 10 00 01 00 01 17 03 05 24 71 00") ∷ [])
    ≡ record active { ignored = 1 }
unfolding on_literals
ignores_a_connection_request = refl

ignores_a_second_confirm : after active (from_switch (hex "02 00 00 01 80 00 01 02 00") ∷ []) ≡ record active { ignored = 1 }
unfolding on_literals
ignores_a_second_confirm = refl

ignores_a_refusal : after active (from_switch (hex "03 00 00 01 00 00") ∷ []) ≡ record active { ignored = 1 }
unfolding on_literals
ignores_a_refusal = refl

ignores_release_complete : after active (from_switch (hex "05 00 00 01 80 00 01") ∷ []) ≡ record active { ignored = 1 }
unfolding on_literals
ignores_release_complete = refl

ignores_an_unknown_connection : after active (from_switch (hex "06 00 00 02 00 01 05 01 00 02 83 02") ∷ []) ≡ record active { ignored = 1 }
unfolding on_literals
ignores_an_unknown_connection = refl

ignores_what_sccp_refuses : after active (from_switch (hex "06 00 00 01 01 01 01 00") ∷ []) ≡ record active { ignored = 1 }
unfolding on_literals
ignores_what_sccp_refuses = refl

ignores_what_bssap_refuses : after active (from_switch (hex "06 00 00 01 00 01 04 01 02 01 05") ∷ []) ≡ record active { ignored = 1 }
unfolding on_literals
ignores_what_bssap_refuses = refl

ignores_clear_request : after active (from_switch (hex "06 00 00 01 00 01 06 00 04 22 04 01 20") ∷ []) ≡ record active { ignored = 1 }
unfolding on_literals
ignores_clear_request = refl

ignores_a_second_activation : after active (from_station 1 (hex "08 22 01 41 08 00 00") ∷ []) ≡ record active { ignored = 1 }
unfolding on_literals
ignores_a_second_activation = refl

ignores_nack_in_use : after active (from_station 1 (hex "08 23 01 41") ∷ []) ≡ record active { ignored = 1 }
unfolding on_literals
ignores_nack_in_use = refl

ignores_release_ack_in_use : after active (from_station 1 (hex "08 33 01 41") ∷ []) ≡ record active { ignored = 1 }
unfolding on_literals
ignores_release_ack_in_use = refl

ignores_an_unused_channel : after active (from_station 1 (hex "03 02 01 49 02 00 0b 00 02 03 45") ∷ []) ≡ record active { ignored = 1 }
unfolding on_literals
ignores_an_unused_channel = refl

ignores_another_station : after active (from_station 2 (hex "03 02 01 41 02 00 0b 00 02 03 45") ∷ []) ≡ record active { ignored = 1 }
unfolding on_literals
ignores_another_station = refl

ignores_another_sapi : after active (from_station 1 (hex "03 02 01 41 02 01 0b 00 02 03 45") ∷ []) ≡ record active { ignored = 1 }
unfolding on_literals
ignores_another_sapi = refl

ignores_sapi_0_on_the_sacch : after active (from_station 1 (hex "03 02 01 41 02 40 0b 00 02 03 45") ∷ []) ≡ record active { ignored = 1 }
unfolding on_literals
ignores_sapi_0_on_the_sacch = refl

ignores_rr_with_a_skip_indicator : after active (from_station 1 (hex "03 02 01 41 02 00 0b 00 03 16 29 00") ∷ [])
    ≡ record active { ignored = 1 }
unfolding on_literals
ignores_rr_with_a_skip_indicator = refl

ignores_complete_without_change : after active (from_station 1 (hex "03 02 01 41 02 00 0b 00 03 06 29 00") ∷ [])
    ≡ record active { ignored = 1 }
unfolding on_literals
ignores_complete_without_change = refl

ignores_what_rsl_refuses : after active (from_station 1 (hex "08 22") ∷ []) ≡ record active { ignored = 1 }
unfolding on_literals
ignores_what_rsl_refuses = refl

ignores_a_message_to_stations : after active (from_station 1 (hex "08 2e 01 41") ∷ []) ≡ record active { ignored = 1 }
unfolding on_literals
ignores_a_message_to_stations = refl

ignores_a_result_without_report : after active (from_station 1 (hex "08 28 01 41 1b 05 19 03 14 14 00 04 00") ∷ [])
    ≡ record active { ignored = 1 }
unfolding on_literals
ignores_a_result_without_report = refl

ignores_an_invalid_report : after active
    (from_station 1 (hex "08 28 01 41 1b 05 0b 00 12 06 15 14 54 00 57 02 40 00 00 00 00 00 00 00 00 00 00") ∷ [])
    ≡ record active { ignored = 1 }
unfolding on_literals
ignores_an_invalid_report = refl

ignores_establishment_of_sapi_0 : after active (from_station 1 (hex "02 06 01 41 02 00 0b 00 03 05 24 71") ∷ [])
    ≡ record active { ignored = 1 }
unfolding on_literals
ignores_establishment_of_sapi_0 = refl

-- the count rises no further than its greatest value

counts_no_further : (after (record active { ignored = 18446744073709551615 }) (from_station 1 (hex "08 22 01 41 08 00 00") ∷ [])).ignored
    ≡ 18446744073709551615
unfolding on_literals
counts_no_further = refl

-- ---- streams of other links, and bits of link identifiers

ignores_sccp_of_a_station : after active (on_stream 1 0xfd (hex "06 00 00 01 00 01 06 00 04 20 04 01 09") ∷ [])
    ≡ record active { ignored = 1 }
unfolding on_literals
ignores_sccp_of_a_station = refl

ignores_rsl_of_the_switch : after active (on_stream 0 0x00 (hex "03 02 01 41 02 00 0b 00 02 03 45") ∷ []) ≡ record active { ignored = 1 }
unfolding on_literals
ignores_rsl_of_the_switch = refl

ignores_sapi_3_of_other_channels : after active (from_station 1 (hex "03 02 01 41 02 83 0b 00 02 09 01") ∷ [])
    ≡ record active { ignored = 1 }
unfolding on_literals
ignores_sapi_3_of_other_channels = refl

takes_sapi_3_on_either_link : played active (from_station 1 (hex "03 02 01 41 02 3b 0b 00 02 09 01")
    ∷ from_station 1 (hex "03 02 01 41 02 43 0b 00 02 09 02") ∷ [])
    ≡ (put 0 (hex "06 80 00 01 00 01 05 01 83 02 09 01") ∷ []) ∷ (put 0 (hex "06 80 00 01 00 01 05 01 83 02 09 02") ∷ []) ∷ []
unfolding on_literals
takes_sapi_3_on_either_link = refl

-- ---- neither time nor a break is ignored, whether or not it does something to a connection

counts_no_time : (after active (Tick 1 ∷ Tick 4294967295 ∷ [])).ignored ≡ 0
unfolding on_literals
counts_no_time = refl

counts_no_expiry : (after (new_controller usual_settings) (from_station 1 (hex "0c 13 01 88 13 7f 01 02 11 05")
    ∷ Tick 2999 ∷ Tick 1 ∷ [])).ignored
    ≡ 0
unfolding on_literals
counts_no_expiry = refl

counts_no_break_beside : (after active (down 2 ∷ [])).ignored ≡ 0
unfolding on_literals
counts_no_break_beside = refl

-- ---- what a station says of a link or a channel that failed

fails_with_its_channel : played active (from_station 1 (hex "08 24 01 41 1a 01 01") ∷ [])
    ≡ (put 0 (hex "06 80 00 01 00 01 06 00 04 22 04 01 01") ∷ put 1 (hex "03 01 01 41 02 00 0b 00 03 06 0d 01")
    ∷ put 1 (hex "08 2e 01 41") ∷ []) ∷ []
unfolding on_literals
fails_with_its_channel = refl

drops_with_its_channel : played (new_controller usual_settings) (from_station 1 (hex "0c 13 01 88 13 7f 01 02 11 05")
    ∷ from_station 1 (hex "08 22 01 41 08 00 00")
    ∷ from_station 1 (hex "08 24 01 41") ∷ [])
    ≡ (put 1 (hex "08 21 01 41 03 00 06 04 00 03 01 00") ∷ [])
    ∷ (put 1 (hex "0c 16 01 90 2b 17 2d 06 3f 00 41 20 14 7f 01 02 05 00 2b 2b 2b 2b 2b 2b 2b 2b 2b 2b 2b") ∷ [])
    ∷ (put 1 (hex "08 2e 01 41") ∷ []) ∷ []
unfolding on_literals
drops_with_its_channel = refl

ignores_the_failure_of_another_channel : after active (from_station 2 (hex "08 24 01 41") ∷ []) ≡ record active { ignored = 1 }
unfolding on_literals
ignores_the_failure_of_another_channel = refl

fails_with_its_link : played active (from_station 1 (hex "02 09 01 41 02 00") ∷ [])
    ≡ (put 0 (hex "06 80 00 01 00 01 06 00 04 22 04 01 01") ∷ put 1 (hex "03 01 01 41 02 00 0b 00 03 06 0d 01")
    ∷ put 1 (hex "08 2e 01 41") ∷ []) ∷ []
unfolding on_literals
fails_with_its_link = refl

ignores_an_error_of_sapi_0 : after active (from_station 1 (hex "02 03 01 41 02 00 16 01 01") ∷ []) ≡ record active { ignored = 1 }
unfolding on_literals
ignores_an_error_of_sapi_0 = refl

rejects_at_an_error : played active (from_switch (hex "06 00 00 01 00 01 05 01 03 02 09 01")
    ∷ from_station 1 (hex "02 03 01 41 02 03 16 01 01") ∷ [])
    ≡ (put 1 (hex "02 04 01 41 02 03") ∷ [])
    ∷ (put 0 (hex "06 80 00 01 00 01 08 00 06 25 18 83 04 01 25") ∷ []) ∷ []
unfolding on_literals
rejects_at_an_error = refl

-- ---- a DLCI has its SAPI in bits 3 to 1

hands_by_the_bits_of_the_sapi : played active (from_switch (hex "06 00 00 01 00 01 05 01 80 02 83 02") ∷ [])
    ≡ (put 1 (hex "03 01 01 41 02 00 0b 00 02 83 02") ∷ []) ∷ []
unfolding on_literals
hands_by_the_bits_of_the_sapi = refl
