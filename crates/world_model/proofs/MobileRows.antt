-- SPDX-License-Identifier: MIT OR Apache-2.0
-- Events of mobiles: when they are taken, and what they make.
use Rattle.world_model.proofs.Prelude.{◌≡◌, true, false, [], ◌∷◌, map, replicate, Some, None, option_map, refl, place_at, usual_settings}
use Rattle.world_model.proofs.Prelude.{Zero, Three, Upper, Connect, AirUp, AirAck, AirDown, AirDownLost, Move, Touch, Arrive, Return}
use Rattle.world_model.proofs.Prelude.{BaseTakes, BasePush, Handle, SwitchDoes, BaseDown, Report, Dtap, Asking, On, Gone, World, new_world}
use Rattle.world_model.proofs.Prelude.{spot_at, with_spot, event_after}
use Rattle.octets.proofs.Hex.{hex}
use Rattle.world_model.specs.Views.{received}
use Rattle.world_model.proofs.Worlds.{on_literals, after_all, made_bodies, seat_of, takes}
use Rattle.world_model.proofs.Rows.{opened}

-- there is no mobile
nothing_happens_before : map (takes (new_world usual_settings)) (Upper 1 Zero (hex "03 05") ∷ AirUp 1 Zero ∷ AirAck 1 Zero ∷ AirDown 1 ∷ AirDownLost 1 ∷ Move 1 ∷ Touch 1 ∷ Arrive 1 ∷ Return 1 ∷ Report 1 (hex "14 14 00 57 02 40 00 00 00 00 00 00 00 00 00 00") ∷ []) ≡ false ∷ false ∷ false ∷ false ∷ false ∷ false ∷ false ∷ false ∷ false ∷ false ∷ []
unfolding on_literals
nothing_happens_before = refl

-- connect
connects : map (takes (new_world usual_settings)) (Connect 1 1 (hex "05 24 71") true ∷ Connect 255 2 (hex "05 24") false ∷ Connect 0 1 (hex "05 24 71") true ∷ Connect 1 0 (hex "05 24 71") true ∷ Connect 1 3 (hex "05 24 71") true ∷ Connect 1 1 (hex "03 05") true ∷ Connect 1 1 (0x05 ∷ []) true ∷ Connect 1 1 (hex "05 64") true ∷ Connect 1 1 (0x06 ∷ []) false ∷ []) ≡ true ∷ true ∷ false ∷ false ∷ false ∷ false ∷ false ∷ false ∷ true ∷ []
unfolding on_literals
connects = refl

connects_with_113 : takes (new_world usual_settings) (Connect 1 1 (0x06 ∷ replicate 112 0) true) ≡ true
unfolding on_literals
connects_with_113 = refl

connects_not_with_114 : takes (new_world usual_settings) (Connect 1 1 (0x06 ∷ replicate 113 0) true) ≡ false
unfolding on_literals
connects_not_with_114 = refl

connects_not_on_a_broken_link : map (takes (after_all (new_world usual_settings) (BaseDown 1 ∷ []))) (Connect 1 1 (hex "05 24 71") true ∷ Connect 1 2 (hex "05 24 71") true ∷ []) ≡ false ∷ true ∷ []
unfolding on_literals
connects_not_on_a_broken_link = refl

connects_later : map (takes (after_all (new_world usual_settings) (Connect 1 1 (hex "03 05") true ∷ []))) (Connect 1 1 (hex "05 24 71") true ∷ []) ≡ true ∷ []
unfolding on_literals
connects_later = refl

-- once
abbrev pub asking : World
asking = after_all (new_world usual_settings) (Connect 7 1 (hex "05 24 71") true ∷ [])

connects_once : map (takes asking) (Connect 7 1 (hex "05 24 71") true ∷ Connect 7 2 (hex "05 24 71") true ∷ Connect 6 1 (hex "05 24 71") true ∷ []) ≡ false ∷ false ∷ true ∷ []
unfolding on_literals
connects_once = refl

request_names_the_mobile : made_bodies asking 1 ≡ (hex "0c 13 01 88 13 07 00 00 11 00") ∷ []
unfolding on_literals
request_names_the_mobile = refl

is_asking : seat_of asking 7 ≡ Some Asking
unfolding on_literals
is_asking = refl

does_nothing_while_asking : map (takes asking) (Upper 7 Zero (hex "03 05") ∷ AirUp 7 Zero ∷ AirAck 7 Zero ∷ AirDown 7 ∷ AirDownLost 7 ∷ Move 7 ∷ Touch 7 ∷ Arrive 7 ∷ Return 7 ∷ Report 7 (hex "14 14 00 57 02 40 00 00 00 00 00 00 00 00 00 00") ∷ []) ≡ false ∷ false ∷ false ∷ false ∷ false ∷ false ∷ false ∷ false ∷ false ∷ false ∷ []
unfolding on_literals
does_nothing_while_asking = refl

-- upper: what its end accepts
sends : map (takes opened) (Upper 1 Zero (hex "03 05") ∷ Upper 1 Three (hex "09 01") ∷ Upper 1 Zero (hex "03 45") ∷ Upper 1 Zero (hex "09 01") ∷ Upper 1 Three (hex "03 05") ∷ Upper 1 Zero (hex "06 27 00") ∷ Upper 2 Zero (hex "03 05") ∷ []) ≡ true ∷ true ∷ false ∷ false ∷ false ∷ false ∷ false ∷ []
unfolding on_literals
sends = refl

sends_251 : takes opened (Upper 1 Zero (0x03 ∷ replicate 250 0)) ≡ true
unfolding on_literals
sends_251 = refl

sends_not_252 : takes opened (Upper 1 Zero (0x03 ∷ replicate 251 0)) ≡ false
unfolding on_literals
sends_not_252 = refl

-- airup: the initial message, the next one, short messages
abbrev pub seated : World
seated = after_all (new_world usual_settings) (Connect 1 1 (hex "05 24 71") true ∷ BasePush 1 ∷ Handle ∷ BaseTakes 1 ∷ BasePush 1 ∷ Handle ∷ BaseTakes 1 ∷ [])

is_seated : seat_of seated 1 ≡ Some (On (record { at = place_at 1 0x41; number = 1 }) None)
unfolding on_literals
is_seated = refl

first_frame_is_there : map (takes seated) (AirUp 1 Zero ∷ AirUp 1 Three ∷ AirAck 1 Zero ∷ AirAck 1 Three ∷ []) ≡ true ∷ false ∷ false ∷ false ∷ []
unfolding on_literals
first_frame_is_there = refl

abbrev pub first_taken : World
first_taken = after_all seated (AirUp 1 Zero ∷ [])

initial_message : made_bodies first_taken 1 ≡ (hex "02 06 01 41 02 00 0b 00 03 05 24 71") ∷ []
unfolding on_literals
initial_message = refl

frame_is_taken_once : map (takes first_taken) (AirUp 1 Zero ∷ AirAck 1 Zero ∷ AirAck 1 Three ∷ []) ≡ false ∷ true ∷ false ∷ []
unfolding on_literals
frame_is_taken_once = refl

abbrev pub three_taken : World
three_taken = after_all first_taken (Upper 1 Zero (hex "03 05") ∷ Upper 1 Three (hex "09 01") ∷ Upper 1 Three (hex "09 02") ∷ AirAck 1 Zero ∷ AirUp 1 Zero ∷ AirUp 1 Three ∷ AirAck 1 Three ∷ AirUp 1 Three ∷ [])

later_messages : made_bodies three_taken 1 ≡ (hex "02 06 01 41 02 00 0b 00 03 05 24 71") ∷ (hex "03 02 01 41 02 00 0b 00 02 03 45") ∷ (hex "02 06 01 41 02 03") ∷ (hex "03 02 01 41 02 03 0b 00 02 09 01") ∷ (hex "03 02 01 41 02 03 0b 00 02 09 02") ∷ []
unfolding on_literals
later_messages = refl

acknowledges_each : map (takes three_taken) (AirAck 1 Zero ∷ AirAck 1 Three ∷ []) ≡ true ∷ true ∷ []
unfolding on_literals
acknowledges_each = refl

-- airdown
nothing_for_the_air : map (takes opened) (AirDown 1 ∷ AirDownLost 1 ∷ []) ≡ false ∷ false ∷ []
unfolding on_literals
nothing_for_the_air = refl

abbrev pub one_in_the_air : World
one_in_the_air = after_all opened (SwitchDoes (Dtap 1 Zero (hex "83 02")) ∷ BasePush 0 ∷ Handle ∷ BaseTakes 1 ∷ [])

receives : received ((after_all one_in_the_air (AirDown 1 ∷ []))).actors 1 ≡ Some ((hex "83 02") ∷ [])
unfolding on_literals
receives = refl

loses : received ((after_all one_in_the_air (AirDownLost 1 ∷ []))).actors 1 ≡ Some ([])
unfolding on_literals
loses = refl

takes_each_once : map (takes (after_all one_in_the_air (AirDown 1 ∷ []))) (AirDown 1 ∷ []) ≡ false ∷ []
unfolding on_literals
takes_each_once = refl

loses_each_once : map (takes (after_all one_in_the_air (AirDownLost 1 ∷ []))) (AirDown 1 ∷ []) ≡ false ∷ []
unfolding on_literals
loses_each_once = refl

receives_in_order : received ((after_all opened (SwitchDoes (Dtap 1 Zero (hex "83 02")) ∷ BasePush 0 ∷ Handle ∷ BaseTakes 1 ∷ SwitchDoes (Dtap 1 Zero (hex "83 03")) ∷ BasePush 0 ∷ Handle ∷ BaseTakes 1 ∷ AirDown 1 ∷ AirDown 1 ∷ []))).actors 1 ≡ Some ((hex "83 02") ∷ (hex "83 03") ∷ [])
unfolding on_literals
receives_in_order = refl

-- a command of the switch is dropped, and any other text of radio resource management
abbrev pub text_of_switch : World
text_of_switch = after_all opened (SwitchDoes (Dtap 1 Zero (hex "06 2e 0a 20 14 00")) ∷ BasePush 0 ∷ Handle ∷ BaseTakes 1 ∷ AirDown 1 ∷ Move 1 ∷ [])

text_not_received : received (text_of_switch).actors 1 ≡ Some ([])
unfolding on_literals
text_not_received = refl

text_not_followed : (text_of_switch).not_taken ≡ 1
unfolding on_literals
text_not_followed = refl

text_is_dropped : map (takes text_of_switch) (AirDown 1 ∷ Move 1 ∷ Upper 1 Zero (hex "03 05") ∷ []) ≡ false ∷ false ∷ true ∷ []
unfolding on_literals
text_is_dropped = refl

other_text_not_received : received ((after_all opened (SwitchDoes (Dtap 1 Zero (hex "06 27 00")) ∷ BasePush 0 ∷ Handle ∷ BaseTakes 1 ∷ AirDown 1 ∷ []))).actors 1 ≡ Some ([])
unfolding on_literals
other_text_not_received = refl

-- CHANNEL RELEASE, of the switch too
abbrev pub let_go : World
let_go = after_all opened (SwitchDoes (Dtap 1 Zero (hex "06 0d 00")) ∷ BasePush 0 ∷ Handle ∷ BaseTakes 1 ∷ AirDown 1 ∷ [])

is_gone : seat_of let_go 1 ≡ Some Gone
unfolding on_literals
is_gone = refl

release_not_received : received (let_go).actors 1 ≡ Some ([])
unfolding on_literals
release_not_received = refl

does_nothing_when_gone : map (takes let_go) (Upper 1 Zero (hex "03 05") ∷ AirUp 1 Zero ∷ AirAck 1 Zero ∷ AirDown 1 ∷ AirDownLost 1 ∷ Move 1 ∷ Touch 1 ∷ Arrive 1 ∷ Return 1 ∷ Report 1 (hex "14 14 00 57 02 40 00 00 00 00 00 00 00 00 00 00") ∷ Connect 1 1 (hex "05 24 71") true ∷ []) ≡ false ∷ false ∷ false ∷ false ∷ false ∷ false ∷ false ∷ false ∷ false ∷ false ∷ false ∷ []
unfolding on_literals
does_nothing_when_gone = refl

release_can_be_lost : seat_of (after_all opened (SwitchDoes (Dtap 1 Zero (hex "06 0d 00")) ∷ BasePush 0 ∷ Handle ∷ BaseTakes 1 ∷ AirDownLost 1 ∷ [])) 1 ≡ Some (On (record { at = place_at 1 0x41; number = 1 }) None)
unfolding on_literals
release_can_be_lost = refl

-- report
reports_16 : map (takes opened) (Report 1 (hex "14 14 00 57 02 40 00 00 00 00 00 00 00 00 00 00") ∷ Report 1 (hex "14 14 00 57 02 40 00 00 00 00 00 00 00 00 00") ∷ Report 1 (hex "14 14 00 57 02 40 00 00 00 00 00 00 00 00 00 00 00") ∷ Report 2 (hex "14 14 00 57 02 40 00 00 00 00 00 00 00 00 00 00") ∷ []) ≡ true ∷ false ∷ false ∷ false ∷ []
unfolding on_literals
reports_16 = refl

counts_reports : made_bodies (after_all opened (Report 1 (hex "14 14 00 57 02 40 00 00 00 00 00 00 00 00 00 00") ∷ Report 1 (hex "14 14 00 57 01 20 00 00 00 00 00 00 00 00 00 00") ∷ [])) 1 ≡ (hex "08 28 01 41 1b 00 0b 00 12 06 15 14 14 00 57 02 40 00 00 00 00 00 00 00 00 00 00") ∷ (hex "08 28 01 41 1b 01 0b 00 12 06 15 14 14 00 57 01 20 00 00 00 00 00 00 00 00 00 00") ∷ []
unfolding on_literals
counts_reports = refl

counts_to_255 : option_map (λ w. (spot_at w (place_at 1 0x41)).reports) (event_after (with_spot (place_at 1 0x41) (record (spot_at (opened).actors (place_at 1 0x41)) { reports = 255 }) (opened).actors) (Report 1 (hex "14 14 00 57 02 40 00 00 00 00 00 00 00 00 00 00"))) ≡ Some 0
unfolding on_literals
counts_to_255 = refl

-- a station whose link broke
air_is_silent_on_a_broken_link : map (takes (after_all seated (BaseDown 1 ∷ []))) (Upper 1 Zero (hex "03 05") ∷ AirUp 1 Zero ∷ AirAck 1 Zero ∷ AirDown 1 ∷ AirDownLost 1 ∷ Report 1 (hex "14 14 00 57 02 40 00 00 00 00 00 00 00 00 00 00") ∷ []) ≡ true ∷ false ∷ false ∷ false ∷ false ∷ false ∷ []
unfolding on_literals
air_is_silent_on_a_broken_link = refl
