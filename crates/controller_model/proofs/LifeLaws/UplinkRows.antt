-- SPDX-License-Identifier: MIT OR Apache-2.0
-- The tenures of literal lives, and what the controller makes of the same steps.
use Rattle.controller_model.proofs.Prelude.{◌≡◌, ℕ, true, false, List, [], ◌∷◌, ◌++◌, None, refl, Management, CompleteLayer3Information, hex}
use Rattle.controller_model.proofs.Prelude.{Message, Request, Data, Zero, Three, AssignmentComplete, ClearRequest, HandoverPerformed}
use Rattle.controller_model.proofs.Prelude.{Moment, all_messages, ServedTenure, joined, service, messages_on, Step, Tick, life, forwarded}
use Rattle.controller_model.proofs.Prelude.{held_up, is_on, is_same, map, Place}
use Rattle.controller_model.proofs.Lives.{down, eager_settings, from_station, from_switch}
use Rattle.controller_model.proofs.OnLiterals.{on_literals}

-- ---- what arrives

-- the first message of the mobile; DTAP on each SAPI; COMPLETE; RF CHANNEL RELEASE ACK
abbrev initial : ℕ → Step
initial number = from_station 1 (0x02 ∷ 0x06 ∷ 0x01 ∷ number ∷ 0x02 ∷ 0x00 ∷ 0x0b ∷ 0x00 ∷ 0x03 ∷ 0x05 ∷ 0x24 ∷ 0x71 ∷ [])

abbrev zero : ℕ → ℕ → ℕ → Step
zero station number octet = from_station station (0x03 ∷ 0x02 ∷ 0x01 ∷ number ∷ 0x02 ∷ 0x00 ∷ 0x0b ∷ 0x00 ∷ 0x02 ∷ 0x03 ∷ octet ∷ [])

abbrev three : ℕ → ℕ → ℕ → Step
three station number octet = from_station station (0x03 ∷ 0x02 ∷ 0x01 ∷ number ∷ 0x02 ∷ 0x03 ∷ 0x0b ∷ 0x00 ∷ 0x02 ∷ 0x09 ∷ octet ∷ [])

abbrev hands_over : ℕ → ℕ → Step
hands_over station number = from_station station (0x03 ∷ 0x02 ∷ 0x01 ∷ number ∷ 0x02 ∷ 0x00 ∷ 0x0b ∷ 0x00 ∷ 0x03 ∷ 0x06 ∷ 0x2c ∷ 0x00 ∷ [])

abbrev assigns : ℕ → ℕ → Step
assigns station number = from_station station (0x03 ∷ 0x02 ∷ 0x01 ∷ number ∷ 0x02 ∷ 0x00 ∷ 0x0b ∷ 0x00 ∷ 0x03 ∷ 0x06 ∷ 0x29 ∷ 0x00 ∷ [])

abbrev is_released : ℕ → ℕ → Step
is_released station number = from_station station (0x08 ∷ 0x33 ∷ 0x01 ∷ number ∷ [])

-- ---- what is put

abbrev moment : Step → List Message → Moment
moment s put = record { taken = s; messages = put }

abbrev request : Message
request = Request (Management (CompleteLayer3Information (record { 0 = [] }) (hex "05 24 71")))

abbrev handed_over : Message
handed_over = Data 0x800001 (Management (HandoverPerformed (record { 0 = hex "0c" }) (record { 0 = [] })))

abbrev assigned : Message
assigned = Data 0x800001 (Management (AssignmentComplete None))

abbrev clears : Message
clears = Data 0x800001 (Management (ClearRequest (record { 0 = hex "20" })))

abbrev tenure : ℕ → ℕ → List (List ℕ) → List (List ℕ) → ServedTenure
tenure station number zeros threes = record { place = record { station = station; number = number }; is_over = false; zero = zeros; three = threes }

abbrev over : ServedTenure → ServedTenure
over t = record t { is_over = true }

-- ---- tenures

-- of the first channel the initial message counts, with which CR is put, and what follows; of the
-- other one what follows its COMPLETE
abbrev one_handover : List Moment
one_handover =
    moment (zero 1 0x41 0x01) []
    ∷ moment (initial 0x41) (request ∷ [])
    ∷ moment (zero 1 0x41 0x45) []
    ∷ moment (three 1 0x41 0x01) []
    ∷ moment (zero 2 0x41 0x02) []
    ∷ moment (hands_over 2 0x41) (handed_over ∷ [])
    ∷ moment (zero 2 0x41 0x8f) []
    ∷ moment (three 2 0x41 0x02) []
    ∷ moment (zero 1 0x41 0xc6) []
    ∷ moment (three 1 0x41 0x03) [] ∷ []

begins_and_drains : service one_handover
    ≡ tenure 2 0x41 (hex "03 8f" ∷ []) (hex "09 02" ∷ [])
    ∷ tenure 1 0x41 (hex "05 24 71" ∷ hex "03 45" ∷ hex "03 c6" ∷ []) (hex "09 01" ∷ hex "09 03" ∷ []) ∷ []
unfolding on_literals
begins_and_drains = refl

-- all of the old channel is before what arrived on the new one
old_comes_first : joined Zero (service one_handover) ≡ hex "05 24 71" ∷ hex "03 45" ∷ hex "03 c6" ∷ hex "03 8f" ∷ []
unfolding on_literals
old_comes_first = refl

old_comes_first_on_sapi_3 : joined Three (service one_handover) ≡ hex "09 01" ∷ hex "09 03" ∷ hex "09 02" ∷ []
unfolding on_literals
old_comes_first_on_sapi_3 = refl

-- after the release nothing counts on the old channel; on the serving one a release counts for
-- nothing
ends_with_the_release : service (one_handover
    ++ moment (is_released 2 0x41) []
    ∷ moment (zero 2 0x41 0x10) []
    ∷ moment (is_released 1 0x41) []
    ∷ moment (zero 1 0x41 0x11) [] ∷ [])
    ≡ tenure 2 0x41 (hex "03 8f" ∷ hex "03 10" ∷ []) (hex "09 02" ∷ [])
    ∷ over (tenure 1 0x41 (hex "05 24 71" ∷ hex "03 45" ∷ hex "03 c6" ∷ []) (hex "09 01" ∷ hex "09 03" ∷ [])) ∷ []
unfolding on_literals
ends_with_the_release = refl

-- a change within a change: the channel between is released first, and the mobile returns to it
comes_back : service (one_handover
    ++ moment (assigns 2 0x0a) (assigned ∷ [])
    ∷ moment (zero 2 0x0a 0x20) []
    ∷ moment (zero 2 0x41 0x21) []
    ∷ moment (is_released 2 0x41) []
    ∷ moment (zero 1 0x41 0x22) []
    ∷ moment (assigns 2 0x41) (assigned ∷ [])
    ∷ moment (zero 2 0x41 0x23) []
    ∷ moment (zero 2 0x0a 0x24) [] ∷ [])
    ≡ tenure 2 0x41 (hex "03 23" ∷ []) []
    ∷ tenure 2 0x0a (hex "03 20" ∷ hex "03 24" ∷ []) []
    ∷ over (tenure 2 0x41 (hex "03 8f" ∷ hex "03 21" ∷ []) (hex "09 02" ∷ []))
    ∷ tenure 1 0x41 (hex "05 24 71" ∷ hex "03 45" ∷ hex "03 c6" ∷ hex "03 22" ∷ []) (hex "09 01" ∷ hex "09 03" ∷ []) ∷ []
unfolding on_literals
comes_back = refl

-- an initial message without CR begins nothing, nor does one after CR; nor a COMPLETE that is
-- refused, nor time, a break or a clear
begins_no_more : service (
    moment (initial 0x49) []
    ∷ moment (zero 1 0x49 0x01) []
    ∷ moment (initial 0x41) (request ∷ [])
    ∷ moment (initial 0x41) (request ∷ [])
    ∷ moment (hands_over 2 0x41) []
    ∷ moment (zero 2 0x41 0x02) []
    ∷ moment (Tick 1) (handed_over ∷ [])
    ∷ moment (down 2) (clears ∷ []) ∷ [])
    ≡ tenure 1 0x41 (hex "05 24 71" ∷ []) [] ∷ []
unfolding on_literals
begins_no_more = refl

-- ---- the same by the controller: a handover, with what arrives late on the old channel

abbrev changing : List Step
changing =
    from_station 1 (hex "0c 13 01 88 13 7f 01 02 11 05")
    ∷ from_station 1 (hex "08 22 01 41 08 00 00")
    ∷ initial 0x41
    ∷ zero 1 0x41 0x45
    ∷ from_switch (hex "02 00 00 01 80 00 01 02 00")
    ∷ from_station 1 (hex "08 28 01 41 1b 00 0b 00 12 06 15 14 14 00 57 02 40 00 00 00 00 00 00 00 00 00 00")
    ∷ from_station 2 (hex "08 22 01 41 08 00 00")
    ∷ hands_over 2 0x41
    ∷ zero 2 0x41 0x8f
    ∷ three 2 0x41 0x02
    ∷ zero 1 0x41 0xc6 ∷ []

relays_the_old : forwarded (life eager_settings changing).outs 1
    ≡ record { sapi = Zero; message = hex "05 24 71" }
    ∷ record { sapi = Zero; message = hex "03 45" }
    ∷ record { sapi = Zero; message = hex "03 c6" } ∷ []
unfolding on_literals
relays_the_old = refl

holds_the_new : held_up (life eager_settings changing).next 1 Zero ≡ hex "03 8f" ∷ []
unfolding on_literals
holds_the_new = refl

holds_the_new_on_sapi_3 : held_up (life eager_settings changing).next 1 Three ≡ hex "09 02" ∷ []
unfolding on_literals
holds_the_new_on_sapi_3 = refl

relays_all_at_the_release : forwarded (life eager_settings (changing ++ is_released 1 0x41 ∷ zero 1 0x41 0x11 ∷ [])).outs 1
    ≡ record { sapi = Zero; message = hex "05 24 71" }
    ∷ record { sapi = Zero; message = hex "03 45" }
    ∷ record { sapi = Zero; message = hex "03 c6" }
    ∷ record { sapi = Zero; message = hex "03 8f" }
    ∷ record { sapi = Three; message = hex "09 02" } ∷ []
unfolding on_literals
relays_all_at_the_release = refl

holds_nothing_after_it : held_up (life eager_settings (changing ++ is_released 1 0x41 ∷ zero 1 0x41 0x11 ∷ [])).next 1 Zero ≡ []
unfolding on_literals
holds_nothing_after_it = refl

-- what is held is dropped with a clear, whose connection isn't open any more
holds_nothing_after_a_clear : held_up (life eager_settings (changing ++ from_switch (hex "06 00 00 01 00 01 06 00 04 20 04 01 09") ∷ [])).next 1 Zero
    ≡ []
unfolding on_literals
holds_nothing_after_a_clear = refl

-- ---- lists

on_sapi_0 : messages_on Zero (record { sapi = Zero; message = 1 ∷ [] } ∷ record { sapi = Three; message = 2 ∷ [] } ∷ record { sapi = Zero; message = 3 ∷ [] } ∷ []) ≡ (1 ∷ []) ∷ (3 ∷ []) ∷ []
on_sapi_0 = refl

on_sapi_3 : messages_on Three (record { sapi = Zero; message = 1 ∷ [] } ∷ record { sapi = Three; message = 2 ∷ [] } ∷ record { sapi = Zero; message = 3 ∷ [] } ∷ []) ≡ (2 ∷ []) ∷ []
on_sapi_3 = refl

all_in_order : all_messages (moment (Tick 1) (request ∷ assigned ∷ []) ∷ moment (Tick 2) [] ∷ moment (Tick 3) (clears ∷ []) ∷ []) ≡ request ∷ assigned ∷ clears ∷ []
all_in_order = refl

-- ---- which tenure is on a channel: that of the same station and number, while it isn't over

abbrev place : ℕ → ℕ → Place
place station number = record { station = station; number = number }

abbrev places : List Place
places = place 1 0x41 ∷ place 2 0x41 ∷ place 1 0x49 ∷ []

one_is_the_same : map (is_same (place 1 0x41)) places ≡ true ∷ false ∷ false ∷ []
one_is_the_same = refl

on_its_channel : map (λ at. is_on at (tenure 1 0x41 [] [])) places ≡ true ∷ false ∷ false ∷ []
on_its_channel = refl

on_no_channel_once_over : map (λ at. is_on at (over (tenure 1 0x41 [] []))) places ≡ false ∷ false ∷ false ∷ []
on_no_channel_once_over = refl
