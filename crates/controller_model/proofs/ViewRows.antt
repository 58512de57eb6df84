-- SPDX-License-Identifier: MIT OR Apache-2.0
-- Views of outputs and of the state, at literal values.
use Rattle.controller_model.proofs.Prelude.{◌≡◌, ℕ, List, [], ◌∷◌, refl, Out, Zero, Three, hex, life, forwarded, held, held_up}
use Rattle.controller_model.specs.Views.{handed}
use Rattle.controller_model.proofs.Lives.{from_switch, from_station, after, usual_settings}
use Rattle.controller_model.proofs.OnLiterals.{on_literals}
use Rattle.controller_model.proofs.AccessRows.{unconfirmed}
use Rattle.controller_model.proofs.ChangeRows.{assigning}

abbrev outs : List Out
outs = (life usual_settings (from_station 1 (hex "0c 13 01 88 13 7f 01 02 11 05")
    ∷ from_station 1 (hex "08 22 01 41 08 00 00") ∷ from_station 1 (hex "02 06 01 41 02 00 0b 00 03 05 24 71")
    ∷ from_switch (hex "02 00 00 01 80 00 01 02 00") ∷ from_station 1 (hex "03 02 01 41 02 00 0b 00 02 03 45")
    ∷ from_station 1 (hex "03 02 01 41 02 03 0b 00 02 09 01") ∷ from_switch (hex "06 00 00 01 00 01 05 01 00 02 83 02")
    ∷ from_switch (hex "06 00 00 01 00 01 06 01 00 03 06 2e 00") ∷ from_station 1 (hex "02 06 01 41 02 03")
    ∷ from_switch (hex "06 00 00 01 00 01 05 01 03 02 09 02") ∷ [])).outs

forwards : forwarded outs 1
    ≡ record { sapi = Zero; message = hex "05 24 71" } ∷ record { sapi = Zero; message = hex "03 45" }
    ∷ record { sapi = Three; message = hex "09 01" } ∷ []
unfolding on_literals
forwards = refl

forwards_for_no_other : forwarded outs 2 ≡ []
unfolding on_literals
forwards_for_no_other = refl

hands_signalling : handed outs 1 Zero ≡ hex "83 02" ∷ []
unfolding on_literals
hands_signalling = refl

hands_short_messages : handed outs 1 Three ≡ hex "09 02" ∷ []
unfolding on_literals
hands_short_messages = refl

hands_for_no_other : handed outs 2 Zero ≡ []
unfolding on_literals
hands_for_no_other = refl

holds_signalling : held (after assigning (from_switch (hex "06 00 00 01 00 01 05 01 00 02 83 02")
    ∷ from_switch (hex "06 00 00 01 00 01 06 01 00 03 06 2e 00")
    ∷ from_switch (hex "06 00 00 01 00 01 05 01 03 02 09 02")
    ∷ from_switch (hex "06 00 00 01 00 01 05 01 00 02 83 03") ∷ [])) 1 Zero
    ≡ hex "83 02" ∷ hex "83 03" ∷ []
unfolding on_literals
holds_signalling = refl

holds_short_messages : held (after assigning (from_switch (hex "06 00 00 01 00 01 05 01 00 02 83 02")
    ∷ from_switch (hex "06 00 00 01 00 01 06 01 00 03 06 2e 00")
    ∷ from_switch (hex "06 00 00 01 00 01 05 01 03 02 09 02")
    ∷ from_switch (hex "06 00 00 01 00 01 05 01 00 02 83 03") ∷ [])) 1 Three
    ≡ hex "09 02" ∷ []
unfolding on_literals
holds_short_messages = refl

holds_for_no_other : held (after assigning (from_switch (hex "06 00 00 01 00 01 05 01 00 02 83 02")
    ∷ from_switch (hex "06 00 00 01 00 01 06 01 00 03 06 2e 00")
    ∷ from_switch (hex "06 00 00 01 00 01 05 01 03 02 09 02")
    ∷ from_switch (hex "06 00 00 01 00 01 05 01 00 02 83 03") ∷ [])) 2 Zero
    ≡ []
unfolding on_literals
holds_for_no_other = refl

holds_up : held_up (after unconfirmed (from_station 1 (hex "03 02 01 41 02 00 0b 00 02 03 45")
    ∷ from_station 1 (hex "03 02 01 41 02 03 0b 00 02 09 01")
    ∷ from_station 1 (hex "03 02 01 41 02 00 0b 00 02 03 8f") ∷ [])) 1 Zero
    ≡ hex "03 45" ∷ hex "03 8f" ∷ []
unfolding on_literals
holds_up = refl

holds_up_short_messages : held_up (after unconfirmed (from_station 1 (hex "03 02 01 41 02 00 0b 00 02 03 45")
    ∷ from_station 1 (hex "03 02 01 41 02 03 0b 00 02 09 01")
    ∷ from_station 1 (hex "03 02 01 41 02 00 0b 00 02 03 8f") ∷ [])) 1 Three
    ≡ hex "09 01" ∷ []
unfolding on_literals
holds_up_short_messages = refl

-- ---- outputs of two connections, and bodies that no codec reads

abbrev put_out : ℕ → ℕ → ℕ → List ℕ → Out
put_out conn link stream body = record { to = link; conn = conn; frame = record { stream = stream; body = body } }

-- DTAP of SAPI 3 and of SAPI 0 to the switch by connections 1 and 2, two that are cut, and one that
-- is sent to a station
abbrev up : List Out
up = put_out 1 0 0xfd (hex "06 80 00 01 00 01 05 01 83 02 09 01")
    ∷ put_out 2 0 0xfd (hex "06 80 00 02 00 01 05 01 00 02 03 45")
    ∷ put_out 1 0 0xfd (hex "06 80 00")
    ∷ put_out 1 0 0xfd (hex "06 80 00 01 00 01 05 01 00 03 03 45")
    ∷ put_out 1 1 0x00 (hex "06 80 00 01 00 01 05 01 00 02 03 45") ∷ []

forwards_of_one : forwarded up 1 ≡ record { sapi = Three; message = hex "09 01" } ∷ []
unfolding on_literals
forwards_of_one = refl

forwards_of_the_other : forwarded up 2 ≡ record { sapi = Zero; message = hex "03 45" } ∷ []
unfolding on_literals
forwards_of_the_other = refl

-- DATA REQUEST on SAPI 0 by connections 1 and 2, on SAPI 3, of radio resource management, cut, and
-- to the switch
abbrev down : List Out
down = put_out 1 1 0x00 (hex "02 01 01 41 02 00 0b 00 02 83 02")
    ∷ put_out 2 1 0x00 (hex "02 01 01 49 02 00 0b 00 02 05 18")
    ∷ put_out 1 1 0x00 (hex "02 01 01 41 02 03 0b 00 02 09 02")
    ∷ put_out 1 1 0x00 (hex "02 01 01 41 02 00 0b 00 03 06 0d 00")
    ∷ put_out 1 1 0x00 (hex "02 01 01 41 02 00 0b 00 03 83 02")
    ∷ put_out 1 0 0xfd (hex "02 01 01 41 02 00 0b 00 02 83 02") ∷ []

hands_of_one : handed down 1 Zero ≡ hex "83 02" ∷ []
unfolding on_literals
hands_of_one = refl

hands_of_the_other : handed down 2 Zero ≡ hex "05 18" ∷ []
unfolding on_literals
hands_of_the_other = refl

hands_short_messages_of_one : handed down 1 Three ≡ hex "09 02" ∷ []
unfolding on_literals
hands_short_messages_of_one = refl
