-- SPDX-License-Identifier: MIT OR Apache-2.0
-- Access and establishment, octet by octet.
use Rattle.controller_model.proofs.Prelude.{◌≡◌, [], ◌∷◌, map, replicate, Some, None, refl, Active, Live, hex, Tick, Releasing, Controller}
use Rattle.controller_model.proofs.Prelude.{new_controller, channel_state, place_at, life}
use Rattle.controller_model.proofs.Lives.{put, from_switch, from_station, down, played, after, usual_settings, state_of}
use Rattle.controller_model.proofs.OnLiterals.{on_literals}

-- from CHANNEL REQUIRED to CC
opens : played (new_controller usual_settings) (from_station 1 (hex "0c 13 01 88 13 7f 01 02 11 05")
    ∷ from_station 1 (hex "08 22 01 41 08 00 00")
    ∷ from_station 1 (hex "02 06 01 41 02 00 0b 00 03 05 24 71")
    ∷ from_switch (hex "02 00 00 01 80 00 01 02 00") ∷ [])
    ≡ (put 1 (hex "08 21 01 41 03 00 06 04 00 03 01 00") ∷ [])
    ∷ (put 1 (hex "0c 16 01 90 2b 17 2d 06 3f 00 41 20 14 7f 01 02 05 00 2b 2b 2b 2b 2b 2b 2b 2b 2b 2b 2b") ∷ [])
    ∷ (put 0 (hex "01 00 00 01 02 02 04 02 42 fe 0f 12 00 10 57 05 08 00 00 f1 10 00 01 00 01 17 03 05 24 71 00") ∷ [])
    ∷ [] ∷ []
unfolding on_literals
opens = refl

abbrev pub active : Controller
active = after (new_controller usual_settings) (from_station 1 (hex "0c 13 01 88 13 7f 01 02 11 05")
    ∷ from_station 1 (hex "08 22 01 41 08 00 00") ∷ from_station 1 (hex "02 06 01 41 02 00 0b 00 03 05 24 71")
    ∷ from_switch (hex "02 00 00 01 80 00 01 02 00") ∷ [])

is_active : state_of (active) 1 ≡ Some (Live 0x800001 Active)
unfolding on_literals
is_active = refl

ignores_nothing : (active).ignored ≡ 0
unfolding on_literals
ignores_nothing = refl

opens_for_the_connection : map (λ out. out.conn) (life usual_settings (from_station 1 (hex "0c 13 01 88 13 7f 01 02 11 05")
    ∷ from_station 1 (hex "08 22 01 41 08 00 00") ∷ from_station 1 (hex "02 06 01 41 02 00 0b 00 03 05 24 71")
    ∷ from_switch (hex "02 00 00 01 80 00 01 02 00") ∷ [])).outs
    ≡ 1 ∷ 1 ∷ 1 ∷ []
unfolding on_literals
opens_for_the_connection = refl

-- a layer 3 message of the mobile, and the same cut
relays : played active (from_station 1 (hex "03 02 01 41 02 00 0b 00 02 03 45") ∷ [])
    ≡ (put 0 (hex "06 80 00 01 00 01 05 01 00 02 03 45") ∷ []) ∷ []
unfolding on_literals
relays = refl

refuses_what_is_cut : (after active (from_station 1 (hex "03 02 01 41 02 00 0b 00 02 03") ∷ [])).ignored ≡ 1
unfolding on_literals
refuses_what_is_cut = refl

-- 41 of station 1 is releasing, and its connection removed
abbrev pub releasing : Controller
releasing = after (new_controller usual_settings) (from_station 1 (hex "0c 13 01 88 13 7f 01 02 11 05")
    ∷ from_station 1 (hex "08 22 01 41 08 00 00") ∷ from_station 1 (hex "02 08 01 41 02 00")
    ∷ from_station 1 (hex "02 09 01 41 02 00") ∷ [])

is_removed : state_of (releasing) 1 ≡ None
unfolding on_literals
is_removed = refl

is_releasing : channel_state releasing (place_at 1 0x41) ≡ Releasing 1
unfolding on_literals
is_releasing = refl

-- a channel that is releasing is free after RF CHANNEL RELEASE ACK alone; before ACTIVATION ACK
-- nothing on it counts
waits_for_the_release : played releasing (from_station 1 (hex "0c 13 01 88 13 7f 01 02 11 05")
    ∷ from_station 1 (hex "08 23 01 41")
    ∷ from_station 1 (hex "08 33 01 41")
    ∷ from_station 1 (hex "0c 13 01 88 13 7f 01 02 11 05")
    ∷ from_station 1 (hex "03 02 01 41 02 00 0b 00 02 03 45")
    ∷ from_station 1 (hex "08 22 01 41 08 00 00") ∷ [])
    ≡ (put 1 (hex "08 21 01 49 03 00 06 04 00 03 01 00") ∷ [])
    ∷ []
    ∷ []
    ∷ (put 1 (hex "08 21 01 41 03 00 06 04 00 03 01 00") ∷ [])
    ∷ []
    ∷ (put 1 (hex "0c 16 01 90 2b 17 2d 06 3f 00 41 20 14 7f 01 02 05 00 2b 2b 2b 2b 2b 2b 2b 2b 2b 2b 2b") ∷ []) ∷ []
unfolding on_literals
waits_for_the_release = refl

ignores_before_the_channel : (after releasing (from_station 1 (hex "0c 13 01 88 13 7f 01 02 11 05")
    ∷ from_station 1 (hex "08 23 01 41") ∷ from_station 1 (hex "08 33 01 41")
    ∷ from_station 1 (hex "0c 13 01 88 13 7f 01 02 11 05") ∷ from_station 1 (hex "03 02 01 41 02 00 0b 00 02 03 45")
    ∷ from_station 1 (hex "08 22 01 41 08 00 00") ∷ [])).ignored
    ≡ 3
unfolding on_literals
ignores_before_the_channel = refl

-- an SDCCH for each, in the order of the settings, while there is one
gives_each_channel : played (new_controller usual_settings) (from_station 1 (hex "0c 13 01 88 13 7f 01 02 11 05")
    ∷ from_station 1 (hex "0c 13 01 88 13 7f 01 02 11 05")
    ∷ from_station 1 (hex "0c 13 01 88 13 7f 01 02 11 05")
    ∷ from_station 2 (hex "0c 13 01 88 13 7f 01 02 11 05")
    ∷ from_station 2 (hex "0c 13 01 88 13 7f 01 02 11 05") ∷ [])
    ≡ (put 1 (hex "08 21 01 41 03 00 06 04 00 03 01 00") ∷ [])
    ∷ (put 1 (hex "08 21 01 49 03 00 06 04 00 03 01 00") ∷ [])
    ∷ []
    ∷ (put 2 (hex "08 21 01 41 03 00 06 04 00 03 01 00") ∷ [])
    ∷ [] ∷ []
unfolding on_literals
gives_each_channel = refl

counts_who_gets_none : (after (new_controller usual_settings) (from_station 1 (hex "0c 13 01 88 13 7f 01 02 11 05")
    ∷ from_station 1 (hex "0c 13 01 88 13 7f 01 02 11 05")
    ∷ from_station 1 (hex "0c 13 01 88 13 7f 01 02 11 05") ∷ [])).ignored
    ≡ 1
unfolding on_literals
counts_who_gets_none = refl

numbers_rise : map (λ e. e.connection.number) (after (new_controller usual_settings) (from_station 1 (hex "0c 13 01 88 13 7f 01 02 11 05")
    ∷ from_station 2 (hex "0c 13 01 88 13 7f 01 02 11 05")
    ∷ from_station 1 (hex "0c 13 01 88 13 7f 01 02 11 05") ∷ [])).entries
    ≡ 1 ∷ 2 ∷ 3 ∷ []
unfolding on_literals
numbers_rise = refl

-- 16,777,215 is the last number
gives_the_last_number : played (record (new_controller usual_settings) { next_number = 16777215 })
    (from_station 1 (hex "0c 13 01 88 13 7f 01 02 11 05")
    ∷ from_station 1 (hex "0c 13 01 88 13 7f 01 02 11 05") ∷ [])
    ≡ (put 1 (hex "08 21 01 41 03 00 06 04 00 03 01 00") ∷ [])
    ∷ [] ∷ []
unfolding on_literals
gives_the_last_number = refl

gives_none_without_the_switch : played (new_controller usual_settings) (down 0
    ∷ from_station 1 (hex "0c 13 01 88 13 7f 01 02 11 05") ∷ [])
    ≡ []
    ∷ [] ∷ []
unfolding on_literals
gives_none_without_the_switch = refl

counts_none_without_the_switch : (after (new_controller usual_settings) (down 0
    ∷ from_station 1 (hex "0c 13 01 88 13 7f 01 02 11 05") ∷ [])).ignored
    ≡ 1
unfolding on_literals
counts_none_without_the_switch = refl

-- a tick steps connections by rising number
gives_numbers_once : played (new_controller usual_settings) (from_station 1 (hex "0c 13 01 88 13 7f 01 02 11 05")
    ∷ from_station 1 (hex "0c 13 01 88 13 7f 01 02 11 05")
    ∷ from_station 2 (hex "0c 13 01 88 13 7f 01 02 11 05")
    ∷ from_station 1 (hex "08 23 01 49")
    ∷ from_station 1 (hex "0c 13 01 88 13 7f 01 02 11 05")
    ∷ Tick 3000 ∷ [])
    ≡ (put 1 (hex "08 21 01 41 03 00 06 04 00 03 01 00") ∷ [])
    ∷ (put 1 (hex "08 21 01 49 03 00 06 04 00 03 01 00") ∷ [])
    ∷ (put 2 (hex "08 21 01 41 03 00 06 04 00 03 01 00") ∷ [])
    ∷ []
    ∷ (put 1 (hex "08 21 01 49 03 00 06 04 00 03 01 00") ∷ [])
    ∷ (put 1 (hex "08 2e 01 41") ∷ put 2 (hex "08 2e 01 41") ∷ put 1 (hex "08 2e 01 49") ∷ []) ∷ []
unfolding on_literals
gives_numbers_once = refl

-- T3101, at both sides of its time, and anew in each state
waits_for_activation : played (new_controller usual_settings) (from_station 1 (hex "0c 13 01 88 13 7f 01 02 11 05")
    ∷ Tick 2999
    ∷ Tick 1 ∷ [])
    ≡ (put 1 (hex "08 21 01 41 03 00 06 04 00 03 01 00") ∷ [])
    ∷ []
    ∷ (put 1 (hex "08 2e 01 41") ∷ []) ∷ []
unfolding on_literals
waits_for_activation = refl

waits_for_the_mobile : played (new_controller usual_settings) (from_station 1 (hex "0c 13 01 88 13 7f 01 02 11 05")
    ∷ Tick 2999
    ∷ from_station 1 (hex "08 22 01 41 08 00 00")
    ∷ Tick 2999
    ∷ Tick 1 ∷ [])
    ≡ (put 1 (hex "08 21 01 41 03 00 06 04 00 03 01 00") ∷ [])
    ∷ []
    ∷ (put 1 (hex "0c 16 01 90 2b 17 2d 06 3f 00 41 20 14 7f 01 02 05 00 2b 2b 2b 2b 2b 2b 2b 2b 2b 2b 2b") ∷ [])
    ∷ []
    ∷ (put 1 (hex "08 2e 01 41") ∷ []) ∷ []
unfolding on_literals
waits_for_the_mobile = refl

waits_for_the_switch : played (new_controller usual_settings) (from_station 1 (hex "0c 13 01 88 13 7f 01 02 11 05")
    ∷ from_station 1 (hex "08 22 01 41 08 00 00")
    ∷ from_station 1 (hex "02 06 01 41 02 00 0b 00 03 05 24 71")
    ∷ Tick 4294967295 ∷ [])
    ≡ (put 1 (hex "08 21 01 41 03 00 06 04 00 03 01 00") ∷ [])
    ∷ (put 1 (hex "0c 16 01 90 2b 17 2d 06 3f 00 41 20 14 7f 01 02 05 00 2b 2b 2b 2b 2b 2b 2b 2b 2b 2b 2b") ∷ [])
    ∷ (put 0 (hex "01 00 00 01 02 02 04 02 42 fe 0f 12 00 10 57 05 08 00 00 f1 10 00 01 00 01 17 03 05 24 71 00") ∷ [])
    ∷ [] ∷ []
unfolding on_literals
waits_for_the_switch = refl

abbrev pub unconfirmed : Controller
unconfirmed = after (new_controller usual_settings) (from_station 1 (hex "0c 13 01 88 13 7f 01 02 11 05")
    ∷ from_station 1 (hex "08 22 01 41 08 00 00") ∷ from_station 1 (hex "02 06 01 41 02 00 0b 00 03 05 24 71") ∷ [])

holds_before_confirm : played unconfirmed (from_station 1 (hex "03 02 01 41 02 00 0b 00 02 03 45")
    ∷ from_switch (hex "06 00 00 01 00 01 05 01 00 02 83 02")
    ∷ from_switch (hex "02 00 00 01 80 00 01 02 00") ∷ [])
    ≡ []
    ∷ []
    ∷ (put 0 (hex "06 80 00 01 00 01 05 01 00 02 03 45") ∷ []) ∷ []
unfolding on_literals
holds_before_confirm = refl

knows_no_reference : (after unconfirmed (from_station 1 (hex "03 02 01 41 02 00 0b 00 02 03 45")
    ∷ from_switch (hex "06 00 00 01 00 01 05 01 00 02 83 02") ∷ [])).ignored
    ≡ 1
unfolding on_literals
knows_no_reference = refl

is_refused : played unconfirmed (from_switch (hex "03 00 00 01 00 00") ∷ [])
    ≡ (put 1 (hex "03 01 01 41 02 00 0b 00 03 06 0d 01") ∷ put 1 (hex "08 2e 01 41") ∷ []) ∷ []
unfolding on_literals
is_refused = refl

is_gone_when_refused : state_of (after unconfirmed (from_switch (hex "03 00 00 01 00 00") ∷ [])) 1 ≡ None
unfolding on_literals
is_gone_when_refused = refl

fails_at_the_seventeenth : played (after unconfirmed (replicate 16 (from_station 1 (hex "03 02 01 41 02 00 0b 00 02 03 45"))))
    (from_station 1 (hex "03 02 01 41 02 00 0b 00 02 03 45")
    ∷ from_switch (hex "02 00 00 01 80 00 01 02 00") ∷ [])
    ≡ (put 1 (hex "03 01 01 41 02 00 0b 00 03 06 0d 01") ∷ put 1 (hex "08 2e 01 41") ∷ [])
    ∷ (put 0 (hex "06 80 00 01 00 01 06 00 04 22 04 01 20") ∷ []) ∷ []
unfolding on_literals
fails_at_the_seventeenth = refl

clears : played active (from_switch (hex "06 00 00 01 00 01 06 00 04 20 04 01 09")
    ∷ from_switch (hex "06 00 00 01 00 01 06 00 04 20 04 01 09")
    ∷ from_station 1 (hex "03 02 01 41 02 00 0b 00 02 03 45")
    ∷ from_switch (hex "04 00 00 01 80 00 01 00 00")
    ∷ from_switch (hex "04 00 00 01 80 00 01 00 00") ∷ [])
    ≡ (put 1 (hex "03 01 01 41 02 00 0b 00 03 06 0d 00") ∷ put 1 (hex "08 2e 01 41") ∷ put 0 (hex "06 80 00 01 00 01 03 00 01 21") ∷ [])
    ∷ []
    ∷ []
    ∷ (put 0 (hex "05 80 00 01 00 00 01") ∷ [])
    ∷ [] ∷ []
unfolding on_literals
clears = refl

counts_after_the_clear : (after active (from_switch (hex "06 00 00 01 00 01 06 00 04 20 04 01 09")
    ∷ from_switch (hex "06 00 00 01 00 01 06 00 04 20 04 01 09")
    ∷ from_station 1 (hex "03 02 01 41 02 00 0b 00 02 03 45") ∷ from_switch (hex "04 00 00 01 80 00 01 00 00")
    ∷ from_switch (hex "04 00 00 01 80 00 01 00 00") ∷ [])).ignored
    ≡ 3
unfolding on_literals
counts_after_the_clear = refl

-- SAPI 3
rejects_short_messages : played active (from_switch (hex "06 00 00 01 00 01 05 01 03 02 09 01")
    ∷ from_station 1 (hex "02 09 01 41 02 03")
    ∷ from_station 1 (hex "02 06 01 41 02 03")
    ∷ from_switch (hex "06 00 00 01 00 01 05 01 00 02 83 02")
    ∷ from_switch (hex "06 00 00 01 00 01 05 01 83 02 09 01")
    ∷ from_station 1 (hex "03 02 01 41 02 00 0b 00 02 03 45")
    ∷ from_station 1 (hex "03 02 01 41 02 03 0b 00 02 09 01") ∷ [])
    ≡ (put 1 (hex "02 04 01 41 02 03") ∷ [])
    ∷ (put 0 (hex "06 80 00 01 00 01 08 00 06 25 18 83 04 01 25") ∷ [])
    ∷ []
    ∷ (put 1 (hex "03 01 01 41 02 00 0b 00 02 83 02") ∷ [])
    ∷ (put 1 (hex "03 01 01 41 02 03 0b 00 02 09 01") ∷ [])
    ∷ (put 0 (hex "06 80 00 01 00 01 05 01 00 02 03 45") ∷ [])
    ∷ (put 0 (hex "06 80 00 01 00 01 05 01 83 02 09 01") ∷ []) ∷ []
unfolding on_literals
rejects_short_messages = refl

fits_each_of_them : (after active (from_switch (hex "06 00 00 01 00 01 05 01 03 02 09 01")
    ∷ from_station 1 (hex "02 09 01 41 02 03") ∷ from_station 1 (hex "02 06 01 41 02 03") ∷ [])).ignored
    ≡ 0
unfolding on_literals
fits_each_of_them = refl

hands_when_up : played active (from_switch (hex "06 00 00 01 00 01 05 01 03 02 09 01")
    ∷ from_switch (hex "06 00 00 01 00 01 05 01 03 02 09 02")
    ∷ from_station 1 (hex "02 05 01 41 02 03")
    ∷ from_station 1 (hex "02 03 01 41 02 03") ∷ [])
    ≡ (put 1 (hex "02 04 01 41 02 03") ∷ [])
    ∷ []
    ∷ (put 1 (hex "03 01 01 41 02 03 0b 00 02 09 01") ∷ put 1 (hex "03 01 01 41 02 03 0b 00 02 09 02") ∷ [])
    ∷ [] ∷ []
unfolding on_literals
hands_when_up = refl
