-- SPDX-License-Identifier: MIT OR Apache-2.0
-- The effect of literal octets on a switch and on a station's channels: those of the call of
-- `examples/play-call` and docs/HANDOVER.md, on the switch's link and on the two stations' links,
-- and those of wrong relays.
use Rattle.std.proofs.Common.{◌≡◌, ℕ, true, false, List, [], ◌∷◌, ◌++◌, map, take, Some, None, refl}
use Rattle.octets.proofs.Hex.{hex}
use Rattle.dtap_codec.specs.declared.sapi.Sapi.TheVariants.{Zero, Three}
use Rattle.msc_end.specs.Switch.{accepted_on, has_gap_on, taken_on}
use Rattle.relay_order.specs.Stations.{handed_in, sent_in}
use Rattle.relay_order.specs.Switch.{FindConnections, new_switch, sccp_messages, switch_given}
use Rattle.world_model.proofs.Worlds.{on_literals}

-- ---- to the switch

-- CR with COMPLETE LAYER 3 INFORMATION, reference 000001
abbrev request : List ℕ
request = hex "00 1f fd 01 00 00 01 02 02 04 02 42 fe 0f 12 00 10 57 05 08 00 00 f1 10 00 01 00 01 17 03 05 24 71 00"

-- DT1 to the switch's reference 800001, with DTAP
abbrev number_1 : List ℕ
number_1 = hex "00 0c fd 06 80 00 01 00 01 05 01 00 02 03 45"

abbrev number_2 : List ℕ
number_2 = hex "00 0c fd 06 80 00 01 00 01 05 01 00 02 03 85"

abbrev number_3 : List ℕ
number_3 = hex "00 0c fd 06 80 00 01 00 01 05 01 00 02 03 cf"

abbrev assigned : List ℕ
assigned = hex "00 0c fd 06 80 00 01 00 01 05 00 03 02 15 00"

abbrev performed : List ℕ
performed = hex "00 17 fd 06 80 00 01 00 01 10 00 0e 17 04 01 0c 05 08 00 00 f1 10 00 01 00 02"

abbrev clear_complete : List ℕ
clear_complete = hex "00 0a fd 06 80 00 01 00 01 03 00 01 21"

-- RLC
abbrev release_complete : List ℕ
release_complete = hex "00 07 fd 05 80 00 01 00 00 01"

abbrev pong : List ℕ
pong = hex "00 01 fe 01"

abbrev to_switch : List ℕ
to_switch = request ++ number_1 ++ assigned ++ performed ++ number_2 ++ number_3 ++ clear_complete ++ release_complete

the_call_is_accepted : accepted_on (switch_given 4 to_switch) 1 ≡ Some (hex "05 24 71" ∷ hex "03 05" ∷ hex "03 05" ∷ hex "03 0f" ∷ [])
unfolding on_literals
the_call_is_accepted = refl

the_call_is_taken : taken_on (switch_given 4 to_switch) 1 ≡ Some (hex "05 24 71" ∷ hex "03 45" ∷ hex "03 85" ∷ hex "03 cf" ∷ [])
unfolding on_literals
the_call_is_taken = refl

the_call_has_no_gap : has_gap_on (switch_given 4 to_switch) 1 ≡ Some false
unfolding on_literals
the_call_has_no_gap = refl

-- it has one connection
no_other_connection : (taken_on (switch_given 4 to_switch) 0 ∷ taken_on (switch_given 4 to_switch) 2 ∷ []) ≡ None ∷ None ∷ []
unfolding on_literals
no_other_connection = refl

-- as the reader of a capture has it, who has no frame but the first two, and a part of the third
of_a_beginning : accepted_on (switch_given 4 (take 60 to_switch)) 1 ≡ Some (hex "05 24 71" ∷ hex "03 05" ∷ [])
unfolding on_literals
of_a_beginning = refl

-- PONG is of another stream
beside_pong : accepted_on (switch_given 4 (pong ++ request ++ pong ++ number_1)) 1 ≡ Some (hex "05 24 71" ∷ hex "03 05" ∷ [])
unfolding on_literals
beside_pong = refl

-- a relay that passes on whatever comes gives 3 before 2
overtaken : accepted_on (switch_given 4 (request ++ number_1 ++ number_3 ++ number_2)) 1 ≡ Some (hex "05 24 71" ∷ hex "03 05" ∷ [])
unfolding on_literals
overtaken = refl

overtaken_is_a_gap : has_gap_on (switch_given 4 (request ++ number_1 ++ number_3 ++ number_2)) 1 ≡ Some true
unfolding on_literals
overtaken_is_a_gap = refl

-- a message that comes twice is accepted once
doubled : accepted_on (switch_given 4 (request ++ number_1 ++ number_1 ++ number_2)) 1 ≡ Some (hex "05 24 71" ∷ hex "03 05" ∷ hex "03 05" ∷ [])
unfolding on_literals
doubled = refl

-- numbers modulo 2: 1, then 0, then 1
modulo_2 : accepted_on (switch_given 2 (request ++ number_1 ++ hex "00 0c fd 06 80 00 01 00 01 05 01 00 02 03 01" ++ number_1)) 1
    ≡ Some (hex "05 24 71" ∷ hex "03 05" ∷ hex "03 01" ∷ hex "03 05" ∷ [])
unfolding on_literals
modulo_2 = refl

-- a second connection has its own messages
two_connections : map (accepted_on (switch_given 4
    (request ++ hex "00 1f fd 01 00 00 02 02 02 04 02 42 fe 0f 12 00 10 57 05 08 00 00 f1 10 00 01 00 01 17 03 05 24 72 00"
    ++ hex "00 0c fd 06 80 00 02 00 01 05 01 00 02 03 45" ++ number_1 ++ number_2))) (1 ∷ 2 ∷ [])
    ≡ Some (hex "05 24 71" ∷ hex "03 05" ∷ hex "03 05" ∷ []) ∷ Some (hex "05 24 72" ∷ hex "03 05" ∷ []) ∷ []
unfolding on_literals
two_connections = refl

-- ---- DT1 finds its connection

the_call_is_live : FindConnections (new_switch 4) (sccp_messages to_switch)
unfolding on_literals
the_call_is_live = (tt, (tt, (tt, (tt, (tt, (tt, (tt, (tt, tt))))))))

behind_clear_complete : FindConnections (new_switch 4) (sccp_messages (request ++ clear_complete ++ number_1)) → ⊥
unfolding on_literals
behind_clear_complete finds = finds.1.1.0

before_the_request : FindConnections (new_switch 4) (sccp_messages (number_1 ++ request)) → ⊥
unfolding on_literals
before_the_request finds = finds.0

of_another_connection : FindConnections (new_switch 4) (sccp_messages (request ++ hex "00 0c fd 06 80 00 02 00 01 05 01 00 02 03 45")) → ⊥
unfolding on_literals
of_another_connection finds = finds.1.0

-- ---- to the stations

-- CHANNEL ACTIVATION of 41; IMMEDIATE ASSIGN COMMAND; DATA REQUEST with DTAP; CHANNEL ACTIVATION of 0a;
-- DATA REQUEST with ASSIGNMENT COMMAND; RF CHANNEL RELEASE of 41; DATA REQUEST with HANDOVER COMMAND on 0a; its RF CHANNEL RELEASE
abbrev to_station_1 : List ℕ
to_station_1 =
    hex "00 0c 00 08 21 01 41 03 00 06 04 00 03 01 00" ++ hex "00 1d 00 0c 16 01 90 2b 17 2d 06 3f 00 41 20 14 7f 01 02 05 00 2b 2b 2b 2b 2b 2b 2b 2b 2b 2b 2b"
    ++ hex "00 0b 00 03 01 01 41 02 00 0b 00 02 83 02" ++ hex "00 0c 00 08 21 01 0a 03 01 06 04 00 01 08 01"
    ++ hex "00 0f 00 03 01 01 41 02 00 0b 00 06 06 2e 0a 20 14 00" ++ hex "00 04 00 08 2e 01 41"
    ++ hex "00 12 00 03 01 01 0a 02 00 0b 00 09 06 2b 12 1e 0a 40 1e 00 00" ++ hex "00 04 00 08 2e 01 0a"

-- CHANNEL ACTIVATION of 0a; DATA REQUEST with the DTAP that waited; DATA REQUEST with CHANNEL RELEASE; RF CHANNEL RELEASE
abbrev to_station_2 : List ℕ
to_station_2 =
    hex "00 0e 00 08 21 01 0a 03 02 06 04 00 01 08 01 09 00" ++ hex "00 0b 00 03 01 01 0a 02 00 0b 00 02 83 07"
    ++ hex "00 0c 00 03 01 01 0a 02 00 0b 00 03 06 0d 00" ++ hex "00 04 00 08 2e 01 0a"

handed_on_the_first_channel : map (handed_in to_station_1 0x41 Zero) (0 ∷ 1 ∷ 2 ∷ []) ≡ [] ∷ (hex "83 02" ∷ []) ∷ [] ∷ []
unfolding on_literals
handed_on_the_first_channel = refl

-- the COMMANDs are of radio resource management
nothing_on_the_second_channel : handed_in to_station_1 0x0a Zero 1 ≡ []
unfolding on_literals
nothing_on_the_second_channel = refl

handed_on_the_new_channel : handed_in to_station_2 0x0a Zero 1 ≡ hex "83 07" ∷ []
unfolding on_literals
handed_on_the_new_channel = refl

on_the_other_sapi : handed_in to_station_2 0x0a Three 1 ≡ []
unfolding on_literals
on_the_other_sapi = refl

-- SAPI 3 has its own messages
short_messages : handed_in (hex "00 0c 00 08 21 01 41 03 00 06 04 00 03 01 00" ++ hex "00 0b 00 03 01 01 41 02 03 0b 00 02 89 04" ++ hex "00 0b 00 03 01 01 41 02 00 0b 00 02 83 02") 0x41 Three 1
    ≡ hex "89 04" ∷ []
unfolding on_literals
short_messages = refl

-- each activation begins a tenure
the_second_tenure : map (handed_in (to_station_1 ++ to_station_2 ++ to_station_2) 0x0a Zero) (1 ∷ 2 ∷ 3 ∷ 4 ∷ []) ≡ [] ∷ (hex "83 07" ∷ []) ∷ (hex "83 07" ∷ []) ∷ [] ∷ []
unfolding on_literals
the_second_tenure = refl

before_any_activation : map (handed_in (hex "00 0b 00 03 01 01 0a 02 00 0b 00 02 83 07") 0x0a Zero) (0 ∷ 1 ∷ []) ≡ (hex "83 07" ∷ []) ∷ [] ∷ []
unfolding on_literals
before_any_activation = refl

-- ---- from the switch

-- CC; DT1 with DTAP; with ASSIGNMENT REQUEST; with DTAP; with CLEAR COMMAND; RLSD
abbrev from_switch : List ℕ
from_switch =
    hex "00 09 fd 02 00 00 01 80 00 01 02 00" ++ hex "00 0c fd 06 00 00 01 00 01 05 01 00 02 83 02" ++ hex "00 0f fd 06 00 00 01 00 01 08 00 06 01 0b 03 01 08 01"
    ++ hex "00 0c fd 06 00 00 01 00 01 05 01 00 02 83 07" ++ hex "00 0d fd 06 00 00 01 00 01 06 00 04 20 04 01 09" ++ hex "00 09 fd 04 00 00 01 80 00 01 00 00"

sent_to_the_mobile : sent_in from_switch 1 Zero ≡ hex "83 02" ∷ hex "83 07" ∷ []
unfolding on_literals
sent_to_the_mobile = refl

sent_on_the_other_sapi : sent_in from_switch 1 Three ≡ []
unfolding on_literals
sent_on_the_other_sapi = refl

sent_to_another : sent_in from_switch 2 Zero ≡ []
unfolding on_literals
sent_to_another = refl

-- DLCI 03, to 000002
a_short_message : sent_in (from_switch ++ hex "00 0c fd 06 00 00 02 00 01 05 01 03 02 89 01") 2 Three ≡ hex "89 01" ∷ []
unfolding on_literals
a_short_message = refl
