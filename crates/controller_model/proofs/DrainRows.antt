-- SPDX-License-Identifier: MIT OR Apache-2.0
-- Changes while old channels drain, octet by octet.
use Rattle.controller_model.proofs.Prelude.{◌≡◌, [], ◌∷◌, ◌++◌, replicate, Some, refl, Active, Live, hex, Tick, Controller}
use Rattle.controller_model.proofs.Lives.{put, from_switch, from_station, down, played, after, state_of}
use Rattle.controller_model.proofs.OnLiterals.{on_literals}
use Rattle.controller_model.proofs.ChangeRows.{handing_over}

abbrev pub handed_over : Controller
handed_over = after handing_over (from_station 2 (hex "03 02 01 41 02 00 0b 00 03 06 2c 00") ∷ [])

-- what is held of each channel is relayed in the order in which they served
hands_over_twice : played handed_over
    (from_station 2 (hex "08 28 01 41 1b 00 0b 00 12 06 15 14 14 00 57 01 20 00 00 00 00 00 00 00 00 00 00")
    ∷ from_station 1 (hex "08 22 01 49 08 00 00")
    ∷ from_station 1 (hex "03 02 01 49 02 00 0b 00 03 06 2c 00")
    ∷ from_station 1 (hex "03 02 01 49 02 00 0b 00 02 03 8f")
    ∷ from_station 2 (hex "03 02 01 41 02 00 0b 00 02 03 45")
    ∷ from_station 2 (hex "08 33 01 41")
    ∷ from_station 1 (hex "08 33 01 41") ∷ [])
    ≡ (put 1 (hex "08 21 01 49 03 02 06 04 00 03 01 00 09 01") ∷ [])
    ∷ (put 2 (hex "03 01 01 41 02 00 0b 00 09 06 2b 09 14 49 20 14 01 00") ∷ [])
    ∷ (put 0 (hex "06 80 00 01 00 01 10 00 0e 17 04 01 0c 05 08 00 00 f1 10 00 01 00 01") ∷ put 2 (hex "08 2e 01 41") ∷ [])
    ∷ []
    ∷ []
    ∷ []
    ∷ (put 0 (hex "06 80 00 01 00 01 05 01 00 02 03 45") ∷ put 0 (hex "06 80 00 01 00 01 05 01 00 02 03 8f") ∷ []) ∷ []
unfolding on_literals
hands_over_twice = refl

abbrev pub two_drain : Controller
two_drain = after handed_over (from_station 2 (hex "08 28 01 41 1b 00 0b 00 12 06 15 14 14 00 57 01 20 00 00 00 00 00 00 00 00 00 00")
    ∷ from_station 1 (hex "08 22 01 49 08 00 00") ∷ from_station 1 (hex "03 02 01 49 02 00 0b 00 03 06 2c 00") ∷ [])

is_active_again : state_of (after two_drain (from_station 2 (hex "08 33 01 41")
    ∷ from_station 1 (hex "08 33 01 41") ∷ [])) 1
    ≡ Some (Live 0x800001 Active)
unfolding on_literals
is_active_again = refl

-- with three old channels no change begins
three_drain : played two_drain (from_switch (hex "06 00 00 01 00 01 08 00 06 01 0b 03 01 08 01")
    ∷ from_station 1 (hex "08 22 01 0a 08 00 00")
    ∷ from_station 1 (hex "03 02 01 0a 02 00 0b 00 03 06 29 00")
    ∷ from_station 1 (hex "08 28 01 0a 1b 00 0b 00 12 06 15 14 14 00 57 02 40 00 00 00 00 00 00 00 00 00 00")
    ∷ from_switch (hex "06 00 00 01 00 01 08 00 06 01 0b 03 01 08 01")
    ∷ from_switch (hex "06 00 00 01 00 01 08 00 06 01 0b 03 01 08 01")
    ∷ from_station 1 (hex "08 33 01 49")
    ∷ from_station 1 (hex "08 33 01 41")
    ∷ from_station 2 (hex "08 33 01 41") ∷ [])
    ≡ (put 1 (hex "08 21 01 0a 03 01 06 04 00 01 08 01") ∷ [])
    ∷ (put 1 (hex "03 01 01 49 02 00 0b 00 06 06 2e 0a 20 14 00") ∷ [])
    ∷ (put 0 (hex "06 80 00 01 00 01 05 00 03 02 15 00") ∷ put 1 (hex "08 2e 01 49") ∷ [])
    ∷ []
    ∷ []
    ∷ (put 0 (hex "06 80 00 01 00 01 06 00 04 03 04 01 60") ∷ [])
    ∷ []
    ∷ (put 0 (hex "06 80 00 01 00 01 06 00 04 03 04 01 21") ∷ [])
    ∷ [] ∷ []
unfolding on_literals
three_drain = refl

counts_no_report : (after two_drain (from_switch (hex "06 00 00 01 00 01 08 00 06 01 0b 03 01 08 01")
    ∷ from_station 1 (hex "08 22 01 0a 08 00 00") ∷ from_station 1 (hex "03 02 01 0a 02 00 0b 00 03 06 29 00")
    ∷ from_station 1 (hex "08 28 01 0a 1b 00 0b 00 12 06 15 14 14 00 57 02 40 00 00 00 00 00 00 00 00 00 00") ∷ [])).ignored
    ≡ 0
unfolding on_literals
counts_no_report = refl

is_active_behind_three : state_of (after two_drain (from_switch (hex "06 00 00 01 00 01 08 00 06 01 0b 03 01 08 01")
    ∷ from_station 1 (hex "08 22 01 0a 08 00 00") ∷ from_station 1 (hex "03 02 01 0a 02 00 0b 00 03 06 29 00")
    ∷ from_station 1 (hex "08 33 01 49") ∷ from_station 1 (hex "08 33 01 41")
    ∷ from_station 2 (hex "08 33 01 41") ∷ [])) 1
    ≡ Some (Live 0x800001 Active)
unfolding on_literals
is_active_behind_three = refl

-- sixteen messages over all tenures
abbrev eight_in_each : Controller
eight_in_each = after two_drain (replicate 8 (from_station 2 (hex "03 02 01 41 02 00 0b 00 02 03 45"))
    ++ replicate 8 (from_station 1 (hex "03 02 01 49 02 00 0b 00 02 03 45")))

holds_sixteen : played two_drain (replicate 8 (from_station 2 (hex "03 02 01 41 02 00 0b 00 02 03 45"))
    ++ replicate 8 (from_station 1 (hex "03 02 01 49 02 00 0b 00 02 03 45")))
    ≡ replicate 16 []
unfolding on_literals
holds_sixteen = refl

fails_at_the_seventeenth : played eight_in_each (from_station 1 (hex "03 02 01 49 02 00 0b 00 02 03 45") ∷ [])
    ≡ (put 0 (hex "06 80 00 01 00 01 06 00 04 22 04 01 20") ∷ put 1 (hex "03 01 01 49 02 00 0b 00 03 06 0d 01")
    ∷ put 1 (hex "08 2e 01 49") ∷ []) ∷ []
unfolding on_literals
fails_at_the_seventeenth = refl

fails_at_the_seventeenth_of_another : played eight_in_each (from_station 2 (hex "03 02 01 41 02 00 0b 00 02 03 45") ∷ [])
    ≡ (put 0 (hex "06 80 00 01 00 01 06 00 04 22 04 01 20") ∷ put 1 (hex "03 01 01 49 02 00 0b 00 03 06 0d 01")
    ∷ put 1 (hex "08 2e 01 49") ∷ []) ∷ []
unfolding on_literals
fails_at_the_seventeenth_of_another = refl

-- the drain time begins anew with the next channel
drains_too_long : played two_drain (Tick 1999
    ∷ from_station 1 (hex "08 33 01 41")
    ∷ Tick 1999
    ∷ Tick 1 ∷ [])
    ≡ []
    ∷ []
    ∷ []
    ∷ (put 0 (hex "06 80 00 01 00 01 06 00 04 22 04 01 20") ∷ put 1 (hex "03 01 01 49 02 00 0b 00 03 06 0d 01")
    ∷ put 1 (hex "08 2e 01 49") ∷ []) ∷ []
unfolding on_literals
drains_too_long = refl

-- a report doesn't restart it
reports_while_it_drains : played two_drain (Tick 1999
    ∷ from_station 1 (hex "08 28 01 49 1b 00 0b 00 12 06 15 14 14 00 00 00 00 00 00 00 00 00 00 00 00 00 00")
    ∷ Tick 1 ∷ [])
    ≡ []
    ∷ []
    ∷ (put 0 (hex "06 80 00 01 00 01 06 00 04 22 04 01 20") ∷ put 1 (hex "03 01 01 49 02 00 0b 00 03 06 0d 01")
    ∷ put 1 (hex "08 2e 01 49") ∷ []) ∷ []
unfolding on_literals
reports_while_it_drains = refl

-- where both times are over, the state's is first
prepares_and_drains_too_long : played two_drain (from_switch (hex "06 00 00 01 00 01 08 00 06 01 0b 03 01 08 01")
    ∷ Tick 5000 ∷ [])
    ≡ (put 1 (hex "08 21 01 0a 03 01 06 04 00 01 08 01") ∷ [])
    ∷ (put 0 (hex "06 80 00 01 00 01 06 00 04 22 04 01 00") ∷ put 1 (hex "03 01 01 49 02 00 0b 00 03 06 0d 01")
    ∷ put 1 (hex "08 2e 01 49") ∷ put 1 (hex "08 2e 01 0a") ∷ []) ∷ []
unfolding on_literals
prepares_and_drains_too_long = refl

drains_too_long_in_preparing : played two_drain (from_switch (hex "06 00 00 01 00 01 08 00 06 01 0b 03 01 08 01")
    ∷ Tick 2000 ∷ [])
    ≡ (put 1 (hex "08 21 01 0a 03 01 06 04 00 01 08 01") ∷ [])
    ∷ (put 0 (hex "06 80 00 01 00 01 06 00 04 22 04 01 20") ∷ put 1 (hex "03 01 01 49 02 00 0b 00 03 06 0d 01")
    ∷ put 1 (hex "08 2e 01 49") ∷ put 1 (hex "08 2e 01 0a") ∷ []) ∷ []
unfolding on_literals
drains_too_long_in_preparing = refl

looks_at_no_break_of_a_done_channel : played two_drain (from_station 2 (hex "08 33 01 41")
    ∷ down 2 ∷ [])
    ≡ []
    ∷ [] ∷ []
unfolding on_literals
looks_at_no_break_of_a_done_channel = refl

breaks_at_an_old_station : played two_drain (down 2 ∷ [])
    ≡ (put 0 (hex "06 80 00 01 00 01 06 00 04 22 04 01 20") ∷ put 1 (hex "03 01 01 49 02 00 0b 00 03 06 0d 01")
    ∷ put 1 (hex "08 2e 01 49") ∷ []) ∷ []
unfolding on_literals
breaks_at_an_old_station = refl

-- a channel that is done can serve another connection
gives_a_done_channel_again : played two_drain (from_station 2 (hex "08 33 01 41")
    ∷ from_station 2 (hex "0c 13 01 88 13 7f 01 02 11 05")
    ∷ from_station 2 (hex "03 02 01 41 02 00 0b 00 02 03 45") ∷ [])
    ≡ []
    ∷ (put 2 (hex "08 21 01 41 03 00 06 04 00 03 01 00") ∷ [])
    ∷ [] ∷ []
unfolding on_literals
gives_a_done_channel_again = refl
