-- SPDX-License-Identifier: MIT OR Apache-2.0
-- Changes of the channel, octet by octet.
use Rattle.controller_model.proofs.Prelude.{◌≡◌, false, [], ◌∷◌, map, replicate, Some, option_map, length, refl, target_in, Active, hex}
use Rattle.controller_model.proofs.Prelude.{Draining, Live, Parameters, Tick, Controller, entry_of, new_controller}
use Rattle.controller_model.proofs.Lives.{put, from_switch, from_station, down, played, after, eager_settings, state_of}
use Rattle.controller_model.proofs.OnLiterals.{on_literals}
use Rattle.controller_model.proofs.AccessRows.{active}

assigns : played active (from_switch (hex "06 00 00 01 00 01 08 00 06 01 0b 03 01 08 01")
    ∷ from_station 1 (hex "08 22 01 0a 08 00 00") ∷ [])
    ≡ (put 1 (hex "08 21 01 0a 03 01 06 04 00 01 08 01") ∷ [])
    ∷ (put 1 (hex "03 01 01 41 02 00 0b 00 06 06 2e 0a 20 14 00") ∷ []) ∷ []
unfolding on_literals
assigns = refl

abbrev pub assigning : Controller
assigning = after active (from_switch (hex "06 00 00 01 00 01 08 00 06 01 0b 03 01 08 01")
    ∷ from_station 1 (hex "08 22 01 0a 08 00 00") ∷ [])

-- 32 messages are held, and handed at ASSIGNMENT COMPLETE; one more fails
abbrev held_32 : Controller
held_32 = after assigning (replicate 32 (from_switch (hex "06 00 00 01 00 01 05 01 00 02 83 02")))

holds_32 : played assigning (replicate 32 (from_switch (hex "06 00 00 01 00 01 05 01 00 02 83 02"))) ≡ replicate 32 []
unfolding on_literals
holds_32 = refl

hands_32 : played held_32 (from_station 1 (hex "03 02 01 0a 02 00 0b 00 03 06 29 00") ∷ [])
    ≡ (put 0 (hex "06 80 00 01 00 01 05 00 03 02 15 00") ∷ put 1 (hex "08 2e 01 41")
    ∷ replicate 32 (put 1 (hex "03 01 01 0a 02 00 0b 00 02 83 02"))) ∷ []
unfolding on_literals
hands_32 = refl

fails_at_33 : played held_32 (from_switch (hex "06 00 00 01 00 01 05 01 00 02 83 02") ∷ [])
    ≡ (put 0 (hex "06 80 00 01 00 01 06 00 04 22 04 01 20") ∷ put 1 (hex "03 01 01 41 02 00 0b 00 03 06 0d 01")
    ∷ put 1 (hex "08 2e 01 41") ∷ put 1 (hex "08 2e 01 0a") ∷ []) ∷ []
unfolding on_literals
fails_at_33 = refl

-- a request waits, a second one doesn't; it begins when the change is complete, and finds no TCH
requests_wait : played active (from_switch (hex "06 00 00 01 00 01 08 00 06 01 0b 03 01 08 01")
    ∷ from_switch (hex "06 00 00 01 00 01 08 00 06 01 0b 03 01 08 01")
    ∷ from_switch (hex "06 00 00 01 00 01 08 00 06 01 0b 03 01 08 01")
    ∷ from_station 1 (hex "08 22 01 0a 08 00 00")
    ∷ from_station 1 (hex "03 02 01 0a 02 00 0b 00 03 06 29 00")
    ∷ from_station 1 (hex "08 33 01 41") ∷ [])
    ≡ (put 1 (hex "08 21 01 0a 03 01 06 04 00 01 08 01") ∷ [])
    ∷ []
    ∷ (put 0 (hex "06 80 00 01 00 01 06 00 04 03 04 01 60") ∷ [])
    ∷ (put 1 (hex "03 01 01 41 02 00 0b 00 06 06 2e 0a 20 14 00") ∷ [])
    ∷ (put 0 (hex "06 80 00 01 00 01 05 00 03 02 15 00") ∷ put 1 (hex "08 2e 01 41")
    ∷ put 0 (hex "06 80 00 01 00 01 06 00 04 03 04 01 21") ∷ [])
    ∷ [] ∷ []
unfolding on_literals
requests_wait = refl

drains : state_of (after active (from_switch (hex "06 00 00 01 00 01 08 00 06 01 0b 03 01 08 01")
    ∷ from_switch (hex "06 00 00 01 00 01 08 00 06 01 0b 03 01 08 01")
    ∷ from_switch (hex "06 00 00 01 00 01 08 00 06 01 0b 03 01 08 01") ∷ from_station 1 (hex "08 22 01 0a 08 00 00")
    ∷ from_station 1 (hex "03 02 01 0a 02 00 0b 00 03 06 29 00") ∷ [])) 1
    ≡ Some (Live 0x800001 Draining)
unfolding on_literals
drains = refl

is_active_again : state_of (after active (from_switch (hex "06 00 00 01 00 01 08 00 06 01 0b 03 01 08 01")
    ∷ from_switch (hex "06 00 00 01 00 01 08 00 06 01 0b 03 01 08 01")
    ∷ from_switch (hex "06 00 00 01 00 01 08 00 06 01 0b 03 01 08 01") ∷ from_station 1 (hex "08 22 01 0a 08 00 00")
    ∷ from_station 1 (hex "03 02 01 0a 02 00 0b 00 03 06 29 00") ∷ from_station 1 (hex "08 33 01 41") ∷ [])) 1
    ≡ Some (Live 0x800001 Active)
unfolding on_literals
is_active_again = refl

comes_back : played assigning (from_station 1 (hex "03 02 01 41 02 00 0b 00 03 06 2f 03") ∷ [])
    ≡ (put 0 (hex "06 80 00 01 00 01 08 00 06 03 04 01 0a 15 03") ∷ put 1 (hex "08 2e 01 0a") ∷ []) ∷ []
unfolding on_literals
comes_back = refl

is_active_when_back : state_of (after assigning (from_station 1 (hex "03 02 01 41 02 00 0b 00 03 06 2f 03") ∷ [])) 1
    ≡ Some (Live 0x800001 Active)
unfolding on_literals
is_active_when_back = refl

-- the mobile's cause is relayed to the switch
completes_with_a_cause : played assigning (from_station 1 (hex "03 02 01 0a 02 00 0b 00 03 06 29 01") ∷ [])
    ≡ (put 0 (hex "06 80 00 01 00 01 05 00 03 02 15 01") ∷ put 1 (hex "08 2e 01 41") ∷ []) ∷ []
unfolding on_literals
completes_with_a_cause = refl

changes_too_long : played assigning (Tick 4999
    ∷ Tick 1 ∷ [])
    ≡ []
    ∷ (put 0 (hex "06 80 00 01 00 01 06 00 04 22 04 01 00") ∷ put 1 (hex "03 01 01 41 02 00 0b 00 03 06 0d 01")
    ∷ put 1 (hex "08 2e 01 41") ∷ put 1 (hex "08 2e 01 0a") ∷ []) ∷ []
unfolding on_literals
changes_too_long = refl

-- a report restarts no timer
reports_while_it_changes : played assigning (Tick 4999
    ∷ from_station 1 (hex "08 28 01 41 1b 00 0b 00 12 06 15 14 14 00 57 02 40 00 00 00 00 00 00 00 00 00 00")
    ∷ Tick 1 ∷ [])
    ≡ []
    ∷ []
    ∷ (put 0 (hex "06 80 00 01 00 01 06 00 04 22 04 01 00") ∷ put 1 (hex "03 01 01 41 02 00 0b 00 03 06 0d 01")
    ∷ put 1 (hex "08 2e 01 41") ∷ put 1 (hex "08 2e 01 0a") ∷ []) ∷ []
unfolding on_literals
reports_while_it_changes = refl

-- a target that was released can be offered once its release is acknowledged
finds_its_channel_again : played assigning (from_station 1 (hex "03 02 01 41 02 00 0b 00 03 06 2f 03")
    ∷ from_switch (hex "06 00 00 01 00 01 08 00 06 01 0b 03 01 08 01")
    ∷ from_station 1 (hex "08 33 01 0a")
    ∷ from_switch (hex "06 00 00 01 00 01 08 00 06 01 0b 03 01 08 01") ∷ [])
    ≡ (put 0 (hex "06 80 00 01 00 01 08 00 06 03 04 01 0a 15 03") ∷ put 1 (hex "08 2e 01 0a") ∷ [])
    ∷ (put 0 (hex "06 80 00 01 00 01 06 00 04 03 04 01 21") ∷ [])
    ∷ []
    ∷ (put 1 (hex "08 21 01 0a 03 01 06 04 00 01 08 01") ∷ []) ∷ []
unfolding on_literals
finds_its_channel_again = refl

-- a NACK frees its channel, which a waiting request is offered
begins_again_with_what_is_freed : played active (from_switch (hex "06 00 00 01 00 01 08 00 06 01 0b 03 01 08 01")
    ∷ from_switch (hex "06 00 00 01 00 01 08 00 06 01 0b 03 01 08 01")
    ∷ from_station 1 (hex "08 23 01 0a") ∷ [])
    ≡ (put 1 (hex "08 21 01 0a 03 01 06 04 00 01 08 01") ∷ [])
    ∷ []
    ∷ (put 0 (hex "06 80 00 01 00 01 06 00 04 03 04 01 20") ∷ put 1 (hex "08 21 01 0a 03 01 06 04 00 01 08 01") ∷ []) ∷ []
unfolding on_literals
begins_again_with_what_is_freed = refl

assigns_no_data : played active (from_switch (hex "06 00 00 01 00 01 08 00 06 01 0b 03 02 08 01") ∷ [])
    ≡ (put 0 (hex "06 80 00 01 00 01 06 00 04 03 04 01 25") ∷ []) ∷ []
unfolding on_literals
assigns_no_data = refl

rejects_ciphering : played active (from_switch (hex "06 00 00 01 00 01 03 00 01 53") ∷ [])
    ≡ (put 0 (hex "06 80 00 01 00 01 06 00 04 59 04 01 40") ∷ []) ∷ []
unfolding on_literals
rejects_ciphering = refl

asks_again_for_short_messages : played assigning (from_switch (hex "06 00 00 01 00 01 05 01 03 02 09 01")
    ∷ from_station 1 (hex "03 02 01 0a 02 00 0b 00 03 06 29 00")
    ∷ from_station 1 (hex "02 05 01 0a 02 43") ∷ [])
    ≡ []
    ∷ (put 0 (hex "06 80 00 01 00 01 05 00 03 02 15 00") ∷ put 1 (hex "08 2e 01 41") ∷ put 1 (hex "02 04 01 0a 02 43") ∷ [])
    ∷ (put 1 (hex "03 01 01 0a 02 43 0b 00 02 09 01") ∷ []) ∷ []
unfolding on_literals
asks_again_for_short_messages = refl

rejects_on_the_new_channel : played assigning (from_switch (hex "06 00 00 01 00 01 05 01 03 02 09 01")
    ∷ from_station 1 (hex "03 02 01 0a 02 00 0b 00 03 06 29 00")
    ∷ from_station 1 (hex "02 09 01 0a 02 43") ∷ [])
    ≡ []
    ∷ (put 0 (hex "06 80 00 01 00 01 05 00 03 02 15 00") ∷ put 1 (hex "08 2e 01 41") ∷ put 1 (hex "02 04 01 0a 02 43") ∷ [])
    ∷ (put 0 (hex "06 80 00 01 00 01 08 00 06 25 18 c3 04 01 25") ∷ []) ∷ []
unfolding on_literals
rejects_on_the_new_channel = refl

-- ---- handovers, where each report decides

abbrev pub active_1 : Controller
active_1 = after (new_controller eager_settings) (from_station 1 (hex "0c 13 01 88 13 7f 01 02 11 05")
    ∷ from_station 1 (hex "08 22 01 41 08 00 00") ∷ from_station 1 (hex "02 06 01 41 02 00 0b 00 03 05 24 71")
    ∷ from_switch (hex "02 00 00 01 80 00 01 02 00") ∷ [])

hands_over : played active_1 (from_station 1 (hex "08 28 01 41 1b 00 0b 00 12 06 15 14 14 00 57 02 40 00 00 00 00 00 00 00 00 00 00")
    ∷ from_station 2 (hex "08 22 01 41 08 00 00") ∷ [])
    ≡ (put 2 (hex "08 21 01 41 03 02 06 04 00 03 01 00 09 00") ∷ [])
    ∷ (put 1 (hex "03 01 01 41 02 00 0b 00 09 06 2b 12 1e 41 40 1e 00 00") ∷ []) ∷ []
unfolding on_literals
hands_over = refl

abbrev pub handing_over : Controller
handing_over = after active_1 (from_station 1 (hex "08 28 01 41 1b 00 0b 00 12 06 15 14 14 00 57 02 40 00 00 00 00 00 00 00 00 00 00")
    ∷ from_station 2 (hex "08 22 01 41 08 00 00") ∷ [])

clears_in_a_handover : played handing_over (from_switch (hex "06 00 00 01 00 01 06 00 04 20 04 01 09")
    ∷ from_station 1 (hex "03 02 01 41 02 00 0b 00 02 03 45")
    ∷ from_station 2 (hex "03 02 01 41 02 00 0b 00 02 03 45")
    ∷ from_switch (hex "04 00 00 01 80 00 01 00 00") ∷ [])
    ≡ (put 1 (hex "03 01 01 41 02 00 0b 00 03 06 0d 00") ∷ put 1 (hex "08 2e 01 41") ∷ put 2 (hex "08 2e 01 41")
    ∷ put 0 (hex "06 80 00 01 00 01 03 00 01 21") ∷ [])
    ∷ []
    ∷ []
    ∷ (put 0 (hex "05 80 00 01 00 00 01") ∷ []) ∷ []
unfolding on_literals
clears_in_a_handover = refl

-- the break of the old station drops what is held of the new channel
breaks_while_it_drains : played handing_over (from_station 2 (hex "08 27 01 41")
    ∷ from_station 2 (hex "02 06 01 41 02 00")
    ∷ from_station 2 (hex "03 02 01 41 02 00 0b 00 03 06 2c 00")
    ∷ from_station 2 (hex "03 02 01 41 02 00 0b 00 02 03 45")
    ∷ down 1
    ∷ from_switch (hex "06 00 00 01 00 01 06 00 04 20 04 01 20")
    ∷ from_switch (hex "04 00 00 01 80 00 01 00 00") ∷ [])
    ≡ []
    ∷ []
    ∷ (put 0 (hex "06 80 00 01 00 01 10 00 0e 17 04 01 0c 05 08 00 00 f1 10 00 01 00 02") ∷ put 1 (hex "08 2e 01 41") ∷ [])
    ∷ []
    ∷ (put 0 (hex "06 80 00 01 00 01 06 00 04 22 04 01 20") ∷ put 2 (hex "03 01 01 41 02 00 0b 00 03 06 0d 01")
    ∷ put 2 (hex "08 2e 01 41") ∷ [])
    ∷ (put 0 (hex "06 80 00 01 00 01 03 00 01 21") ∷ [])
    ∷ (put 0 (hex "05 80 00 01 00 00 01") ∷ []) ∷ []
unfolding on_literals
breaks_while_it_drains = refl

keeps_nothing : (after handing_over (from_station 2 (hex "08 27 01 41") ∷ from_station 2 (hex "02 06 01 41 02 00")
    ∷ from_station 2 (hex "03 02 01 41 02 00 0b 00 03 06 2c 00")
    ∷ from_station 2 (hex "03 02 01 41 02 00 0b 00 02 03 45") ∷ down 1
    ∷ from_switch (hex "06 00 00 01 00 01 06 00 04 20 04 01 20")
    ∷ from_switch (hex "04 00 00 01 80 00 01 00 00") ∷ [])).entries
    ≡ []
unfolding on_literals
keeps_nothing = refl

ignores_detection_and_link : (after handing_over (from_station 2 (hex "08 27 01 41")
    ∷ from_station 2 (hex "02 06 01 41 02 00") ∷ from_station 2 (hex "03 02 01 41 02 00 0b 00 03 06 2c 00")
    ∷ from_station 2 (hex "03 02 01 41 02 00 0b 00 02 03 45") ∷ down 1
    ∷ from_switch (hex "06 00 00 01 00 01 06 00 04 20 04 01 20")
    ∷ from_switch (hex "04 00 00 01 80 00 01 00 00") ∷ [])).ignored
    ≡ 2
unfolding on_literals
ignores_detection_and_link = refl

-- a request waits in a handover, and begins in the new cell
begins_while_it_drains : played handing_over (from_switch (hex "06 00 00 01 00 01 08 00 06 01 0b 03 01 08 01")
    ∷ from_switch (hex "06 00 00 01 00 01 08 00 06 01 0b 03 01 08 01")
    ∷ from_station 2 (hex "03 02 01 41 02 00 0b 00 03 06 2c 00")
    ∷ from_station 1 (hex "08 33 01 41") ∷ [])
    ≡ []
    ∷ (put 0 (hex "06 80 00 01 00 01 06 00 04 03 04 01 60") ∷ [])
    ∷ (put 0 (hex "06 80 00 01 00 01 10 00 0e 17 04 01 0c 05 08 00 00 f1 10 00 01 00 02") ∷ put 1 (hex "08 2e 01 41")
    ∷ put 2 (hex "08 21 01 0a 03 01 06 04 00 01 08 01") ∷ [])
    ∷ [] ∷ []
unfolding on_literals
begins_while_it_drains = refl

prepares_beside_one : option_map (λ e. e.connection.draining) (entry_of (after handing_over
    (from_switch (hex "06 00 00 01 00 01 08 00 06 01 0b 03 01 08 01")
    ∷ from_switch (hex "06 00 00 01 00 01 08 00 06 01 0b 03 01 08 01")
    ∷ from_station 2 (hex "03 02 01 41 02 00 0b 00 03 06 2c 00") ∷ from_station 1 (hex "08 33 01 41") ∷ [])) 1)
    ≡ Some []
unfolding on_literals
prepares_beside_one = refl

still_drains_one : option_map (λ e. length e.connection.draining) (entry_of (after handing_over
    (from_switch (hex "06 00 00 01 00 01 08 00 06 01 0b 03 01 08 01")
    ∷ from_switch (hex "06 00 00 01 00 01 08 00 06 01 0b 03 01 08 01")
    ∷ from_station 2 (hex "03 02 01 41 02 00 0b 00 03 06 2c 00") ∷ [])) 1)
    ≡ Some 1
unfolding on_literals
still_drains_one = refl

prepares : option_map (λ e. map (λ c. c.number) (target_in e.connection.state)) (entry_of (after handing_over
    (from_switch (hex "06 00 00 01 00 01 08 00 06 01 0b 03 01 08 01")
    ∷ from_switch (hex "06 00 00 01 00 01 08 00 06 01 0b 03 01 08 01")
    ∷ from_station 2 (hex "03 02 01 41 02 00 0b 00 03 06 2c 00") ∷ from_station 1 (hex "08 33 01 41") ∷ [])) 1)
    ≡ Some (hex "0a")
unfolding on_literals
prepares = refl

-- another connection has the TCH of cell 2
another_connection : played active_1 (from_station 2 (hex "0c 13 01 88 13 7f 01 02 11 05")
    ∷ from_station 2 (hex "08 22 01 41 08 00 00")
    ∷ from_station 2 (hex "02 06 01 41 02 00 0b 00 03 05 24 71")
    ∷ from_switch (hex "02 00 00 02 80 00 02 02 00")
    ∷ from_switch (hex "06 00 00 02 00 01 08 00 06 01 0b 03 01 08 01")
    ∷ from_station 2 (hex "08 22 01 0a 08 00 00")
    ∷ from_station 2 (hex "03 02 01 0a 02 00 0b 00 03 06 29 00")
    ∷ from_station 2 (hex "08 33 01 41") ∷ [])
    ≡ (put 2 (hex "08 21 01 41 03 00 06 04 00 03 01 00") ∷ [])
    ∷ (put 2 (hex "0c 16 01 90 2b 17 2d 06 3f 00 41 40 1e 7f 01 02 05 00 2b 2b 2b 2b 2b 2b 2b 2b 2b 2b 2b") ∷ [])
    ∷ (put 0 (hex "01 00 00 02 02 02 04 02 42 fe 0f 12 00 10 57 05 08 00 00 f1 10 00 01 00 02 17 03 05 24 71 00") ∷ [])
    ∷ []
    ∷ (put 2 (hex "08 21 01 0a 03 01 06 04 00 01 08 01") ∷ [])
    ∷ (put 2 (hex "03 01 01 41 02 00 0b 00 06 06 2e 0a 40 1e 00") ∷ [])
    ∷ (put 0 (hex "06 80 00 02 00 01 05 00 03 02 15 00") ∷ put 2 (hex "08 2e 01 41") ∷ [])
    ∷ [] ∷ []
unfolding on_literals
another_connection = refl

abbrev pub beside_another : Controller
beside_another = after active_1 (from_station 2 (hex "0c 13 01 88 13 7f 01 02 11 05")
    ∷ from_station 2 (hex "08 22 01 41 08 00 00") ∷ from_station 2 (hex "02 06 01 41 02 00 0b 00 03 05 24 71")
    ∷ from_switch (hex "02 00 00 02 80 00 02 02 00") ∷ from_switch (hex "06 00 00 02 00 01 08 00 06 01 0b 03 01 08 01")
    ∷ from_station 2 (hex "08 22 01 0a 08 00 00") ∷ from_station 2 (hex "03 02 01 0a 02 00 0b 00 03 06 29 00")
    ∷ from_station 2 (hex "08 33 01 41") ∷ [])

waits_for_nothing : played beside_another
    (from_station 1 (hex "08 28 01 41 1b 00 0b 00 12 06 15 14 14 00 57 02 40 00 00 00 00 00 00 00 00 00 00")
    ∷ from_station 2 (hex "08 22 01 41 08 00 00")
    ∷ from_switch (hex "06 00 00 01 00 01 08 00 06 01 0b 03 01 08 01")
    ∷ from_switch (hex "06 00 00 01 00 01 08 00 06 01 0b 03 01 08 01")
    ∷ from_station 2 (hex "03 02 01 41 02 00 0b 00 03 06 2c 00")
    ∷ from_station 1 (hex "08 33 01 41") ∷ [])
    ≡ (put 2 (hex "08 21 01 41 03 02 06 04 00 03 01 00 09 00") ∷ [])
    ∷ (put 1 (hex "03 01 01 41 02 00 0b 00 09 06 2b 12 1e 41 40 1e 00 00") ∷ [])
    ∷ []
    ∷ (put 0 (hex "06 80 00 01 00 01 06 00 04 03 04 01 60") ∷ [])
    ∷ (put 0 (hex "06 80 00 01 00 01 10 00 0e 17 04 01 0c 05 08 00 00 f1 10 00 01 00 02") ∷ put 1 (hex "08 2e 01 41")
    ∷ put 0 (hex "06 80 00 01 00 01 06 00 04 03 04 01 21") ∷ [])
    ∷ [] ∷ []
unfolding on_literals
waits_for_nothing = refl

drains_without_a_request : state_of (after beside_another
    (from_station 1 (hex "08 28 01 41 1b 00 0b 00 12 06 15 14 14 00 57 02 40 00 00 00 00 00 00 00 00 00 00")
    ∷ from_station 2 (hex "08 22 01 41 08 00 00") ∷ from_switch (hex "06 00 00 01 00 01 08 00 06 01 0b 03 01 08 01")
    ∷ from_switch (hex "06 00 00 01 00 01 08 00 06 01 0b 03 01 08 01")
    ∷ from_station 2 (hex "03 02 01 41 02 00 0b 00 03 06 2c 00") ∷ [])) 1
    ≡ Some (Live 0x800001 Draining)
unfolding on_literals
drains_without_a_request = refl

nothing_waits : option_map (λ e. e.connection.waits) (entry_of (after beside_another
    (from_station 1 (hex "08 28 01 41 1b 00 0b 00 12 06 15 14 14 00 57 02 40 00 00 00 00 00 00 00 00 00 00")
    ∷ from_station 2 (hex "08 22 01 41 08 00 00") ∷ from_switch (hex "06 00 00 01 00 01 08 00 06 01 0b 03 01 08 01")
    ∷ from_switch (hex "06 00 00 01 00 01 08 00 06 01 0b 03 01 08 01")
    ∷ from_station 2 (hex "03 02 01 41 02 00 0b 00 03 06 2c 00") ∷ [])) 1)
    ≡ Some false
unfolding on_literals
nothing_waits = refl

is_active_beside_another : state_of (after beside_another
    (from_station 1 (hex "08 28 01 41 1b 00 0b 00 12 06 15 14 14 00 57 02 40 00 00 00 00 00 00 00 00 00 00")
    ∷ from_station 2 (hex "08 22 01 41 08 00 00") ∷ from_switch (hex "06 00 00 01 00 01 08 00 06 01 0b 03 01 08 01")
    ∷ from_switch (hex "06 00 00 01 00 01 08 00 06 01 0b 03 01 08 01")
    ∷ from_station 2 (hex "03 02 01 41 02 00 0b 00 03 06 2c 00") ∷ from_station 1 (hex "08 33 01 41") ∷ [])) 1
    ≡ Some (Live 0x800001 Active)
unfolding on_literals
is_active_beside_another = refl

leaves_the_other : state_of (after beside_another
    (from_station 1 (hex "08 28 01 41 1b 00 0b 00 12 06 15 14 14 00 57 02 40 00 00 00 00 00 00 00 00 00 00")
    ∷ from_station 2 (hex "08 22 01 41 08 00 00") ∷ from_switch (hex "06 00 00 01 00 01 08 00 06 01 0b 03 01 08 01")
    ∷ from_switch (hex "06 00 00 01 00 01 08 00 06 01 0b 03 01 08 01")
    ∷ from_station 2 (hex "03 02 01 41 02 00 0b 00 03 06 2c 00") ∷ from_station 1 (hex "08 33 01 41") ∷ [])) 2
    ≡ Some (Live 0x800002 Active)
unfolding on_literals
leaves_the_other = refl

offers_nothing_behind_a_break : played active_1 (down 2
    ∷ from_station 1 (hex "08 28 01 41 1b 00 0b 00 12 06 15 14 14 00 57 02 40 00 00 00 00 00 00 00 00 00 00") ∷ [])
    ≡ []
    ∷ [] ∷ []
unfolding on_literals
offers_nothing_behind_a_break = refl

remains_active : state_of (after active_1 (down 2
    ∷ from_station 1 (hex "08 28 01 41 1b 00 0b 00 12 06 15 14 14 00 57 02 40 00 00 00 00 00 00 00 00 00 00") ∷ [])) 1
    ≡ Some (Live 0x800001 Active)
unfolding on_literals
remains_active = refl

counts_no_report : (after active_1 (down 2
    ∷ from_station 1 (hex "08 28 01 41 1b 00 0b 00 12 06 15 14 14 00 57 02 40 00 00 00 00 00 00 00 00 00 00") ∷ [])).ignored
    ≡ 0
unfolding on_literals
counts_no_report = refl

offers_nothing_of_another_kind : played active_1 (from_station 2 (hex "0c 13 01 88 13 7f 01 02 11 05")
    ∷ from_station 1 (hex "08 28 01 41 1b 00 0b 00 12 06 15 14 14 00 57 02 40 00 00 00 00 00 00 00 00 00 00") ∷ [])
    ≡ (put 2 (hex "08 21 01 41 03 00 06 04 00 03 01 00") ∷ [])
    ∷ [] ∷ []
unfolding on_literals
offers_nothing_of_another_kind = refl

-- a TCH for a TCH
hands_over_a_call : played (after active_1 (from_switch (hex "06 00 00 01 00 01 08 00 06 01 0b 03 01 08 01")
    ∷ from_station 1 (hex "08 22 01 0a 08 00 00") ∷ from_station 1 (hex "03 02 01 0a 02 00 0b 00 03 06 29 00")
    ∷ from_station 1 (hex "08 33 01 41") ∷ [])) (from_station 1 (hex "08 28 01 0a 1b 00 0b 00 12 06 15 14 14 00 57 02 40 00 00 00 00 00 00 00 00 00 00") ∷ [])
    ≡ (put 2 (hex "08 21 01 0a 03 02 06 04 00 01 08 01 09 00") ∷ []) ∷ []
unfolding on_literals
hands_over_a_call = refl

comes_back_from_a_handover : played handing_over (from_station 1 (hex "03 02 01 41 02 00 0b 00 03 06 28 03") ∷ [])
    ≡ (put 2 (hex "08 2e 01 41") ∷ []) ∷ []
unfolding on_literals
comes_back_from_a_handover = refl

-- COMPLETE of the other kind, FAILURE of the other kind, COMPLETE on SAPI 3, DTAP in front of
-- COMPLETE
takes_no_other_complete : played handing_over (from_station 2 (hex "03 02 01 41 02 00 0b 00 03 06 29 00")
    ∷ from_station 1 (hex "03 02 01 41 02 00 0b 00 03 06 2f 00")
    ∷ from_station 2 (hex "03 02 01 41 02 03 0b 00 03 06 2c 00")
    ∷ from_station 2 (hex "03 02 01 41 02 00 0b 00 02 03 45") ∷ [])
    ≡ []
    ∷ []
    ∷ []
    ∷ (put 0 (hex "06 80 00 01 00 01 06 00 04 22 04 01 20") ∷ put 1 (hex "03 01 01 41 02 00 0b 00 03 06 0d 01")
    ∷ put 1 (hex "08 2e 01 41") ∷ put 2 (hex "08 2e 01 41") ∷ []) ∷ []
unfolding on_literals
takes_no_other_complete = refl

-- the timers differ
abbrev pub timed_settings : Parameters
timed_settings = record eager_settings { timers = record { t3101_ms = 3000; t3103_ms = 4000; t3107_ms = 5000; drain_ms = 2000 } }

abbrev pub active_t : Controller
active_t = after (new_controller timed_settings) (from_station 1 (hex "0c 13 01 88 13 7f 01 02 11 05")
    ∷ from_station 1 (hex "08 22 01 41 08 00 00") ∷ from_station 1 (hex "02 06 01 41 02 00 0b 00 03 05 24 71")
    ∷ from_switch (hex "02 00 00 01 80 00 01 02 00") ∷ [])

-- T3103 for a handover, anew for each of its states
hands_over_too_long : played active_t
    (from_station 1 (hex "08 28 01 41 1b 00 0b 00 12 06 15 14 14 00 57 02 40 00 00 00 00 00 00 00 00 00 00")
    ∷ Tick 3999
    ∷ from_station 2 (hex "08 22 01 41 08 00 00")
    ∷ Tick 3999
    ∷ Tick 1 ∷ [])
    ≡ (put 2 (hex "08 21 01 41 03 02 06 04 00 03 01 00 09 00") ∷ [])
    ∷ []
    ∷ (put 1 (hex "03 01 01 41 02 00 0b 00 09 06 2b 12 1e 41 40 1e 00 00") ∷ [])
    ∷ []
    ∷ (put 0 (hex "06 80 00 01 00 01 06 00 04 22 04 01 00") ∷ put 1 (hex "03 01 01 41 02 00 0b 00 03 06 0d 01")
    ∷ put 1 (hex "08 2e 01 41") ∷ put 2 (hex "08 2e 01 41") ∷ []) ∷ []
unfolding on_literals
hands_over_too_long = refl

prepares_a_handover_too_long : played active_t
    (from_station 1 (hex "08 28 01 41 1b 00 0b 00 12 06 15 14 14 00 57 02 40 00 00 00 00 00 00 00 00 00 00")
    ∷ Tick 3999
    ∷ Tick 1 ∷ [])
    ≡ (put 2 (hex "08 21 01 41 03 02 06 04 00 03 01 00 09 00") ∷ [])
    ∷ []
    ∷ (put 0 (hex "06 80 00 01 00 01 06 00 04 22 04 01 00") ∷ put 1 (hex "03 01 01 41 02 00 0b 00 03 06 0d 01")
    ∷ put 1 (hex "08 2e 01 41") ∷ put 2 (hex "08 2e 01 41") ∷ []) ∷ []
unfolding on_literals
prepares_a_handover_too_long = refl

-- T3107 for an assignment
assigns_too_long : played active_t (from_switch (hex "06 00 00 01 00 01 08 00 06 01 0b 03 01 08 01")
    ∷ Tick 4999
    ∷ Tick 1 ∷ [])
    ≡ (put 1 (hex "08 21 01 0a 03 01 06 04 00 01 08 01") ∷ [])
    ∷ []
    ∷ (put 0 (hex "06 80 00 01 00 01 06 00 04 22 04 01 00") ∷ put 1 (hex "03 01 01 41 02 00 0b 00 03 06 0d 01")
    ∷ put 1 (hex "08 2e 01 41") ∷ put 1 (hex "08 2e 01 0a") ∷ []) ∷ []
unfolding on_literals
assigns_too_long = refl

-- anew once the mobile is commanded
commands_too_long : played active_t (from_switch (hex "06 00 00 01 00 01 08 00 06 01 0b 03 01 08 01")
    ∷ Tick 4999
    ∷ from_station 1 (hex "08 22 01 0a 08 00 00")
    ∷ Tick 4999
    ∷ Tick 1 ∷ [])
    ≡ (put 1 (hex "08 21 01 0a 03 01 06 04 00 01 08 01") ∷ [])
    ∷ []
    ∷ (put 1 (hex "03 01 01 41 02 00 0b 00 06 06 2e 0a 20 14 00") ∷ [])
    ∷ []
    ∷ (put 0 (hex "06 80 00 01 00 01 06 00 04 22 04 01 00") ∷ put 1 (hex "03 01 01 41 02 00 0b 00 03 06 0d 01")
    ∷ put 1 (hex "08 2e 01 41") ∷ put 1 (hex "08 2e 01 0a") ∷ []) ∷ []
unfolding on_literals
commands_too_long = refl
