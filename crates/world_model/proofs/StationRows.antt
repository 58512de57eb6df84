-- SPDX-License-Identifier: MIT OR Apache-2.0
-- How stations take the entries of their outboxes.
use Rattle.world_model.proofs.Prelude.{◌≡◌, ℕ, true, false, List, [], ◌∷◌, map, Some, None, option_map, refl, place_at, usual_settings, Zero, Three}
use Rattle.world_model.proofs.Prelude.{Upper, Connect, AirUp, AirAck, AirDown, AirDownLost, Move, Arrive, Return, BaseTakes, BasePush}
use Rattle.world_model.proofs.Prelude.{Handle, SwitchTakes, SwitchDoes, Report, Assign, Clear, Dtap, Asking, On, World, new_world}
use Rattle.world_model.proofs.Prelude.{Assignment, Command, Gone, Moving, Tenure, is_active_at, spot_at, with_spot, with_outbox, event_after}
use Rattle.octets.proofs.Hex.{hex}
use Rattle.world_model.specs.Stations.{is_on, is_same, mobile_on}
use Rattle.world_model.specs.Views.{received, sent}
use Rattle.world_model.proofs.Worlds.{on_literals, after_all, bodies, made_bodies, seat_of, takes}
use Rattle.world_model.proofs.Rows.{opened}

takes_nothing : map (takes (new_world usual_settings)) (BaseTakes 0 ∷ BaseTakes 1 ∷ BaseTakes 2 ∷ BaseTakes 3 ∷ []) ≡ false ∷ false ∷ false ∷ false ∷ []
unfolding on_literals
takes_nothing = refl

-- an activation begins a tenure
abbrev pub activated : World
activated = after_all (new_world usual_settings) (Connect 1 1 (hex "05 24 71") true ∷ BasePush 1 ∷ Handle ∷ BaseTakes 1 ∷ [])

is_active_then : is_active_at (activated).actors (place_at 1 0x41) ≡ true
unfolding on_literals
is_active_then = refl

no_other_is_active : map (is_active_at (activated).actors) (place_at 1 0x49 ∷ place_at 2 0x41 ∷ []) ≡ false ∷ false ∷ []
unfolding on_literals
no_other_is_active = refl

acknowledges_activation : made_bodies activated 1 ≡ (hex "08 22 01 41 08 00 00") ∷ []
unfolding on_literals
acknowledges_activation = refl

has_a_first_tenure : (spot_at (activated).actors (place_at 1 0x41)).tenure ≡ 1
unfolding on_literals
has_a_first_tenure = refl

not_active_before : is_active_at ((after_all (new_world usual_settings) (Connect 1 1 (hex "05 24 71") true ∷ BasePush 1 ∷ Handle ∷ []))).actors (place_at 1 0x41) ≡ false
unfolding on_literals
not_active_before = refl

begins_anew : option_map (λ w. spot_at w (place_at 1 0x41)) (event_after (with_spot (place_at 1 0x41) (record { tenure = 7; sapi_three_up = true; air = record { message = hex "03 05"; target = None } ∷ []; reports = 9 }) ((after_all (new_world usual_settings) (Connect 1 1 (hex "05 24 71") true ∷ BasePush 1 ∷ Handle ∷ []))).actors) (BaseTakes 1)) ≡ Some (record { tenure = 8; sapi_three_up = false; air = []; reports = 0 })
unfolding on_literals
begins_anew = refl

last_tenure : option_map (λ w. (spot_at w (place_at 1 0x41)).tenure) (event_after (with_spot (place_at 1 0x41) (record (spot_at ((new_world usual_settings)).actors (place_at 1 0x41)) { tenure = 18446744073709551614 }) ((after_all (new_world usual_settings) (Connect 1 1 (hex "05 24 71") true ∷ BasePush 1 ∷ Handle ∷ []))).actors) (BaseTakes 1)) ≡ Some 18446744073709551615
unfolding on_literals
last_tenure = refl

no_tenure_after_the_last : option_map (λ w. (spot_at w (place_at 1 0x41)).tenure) (event_after (with_spot (place_at 1 0x41) (record (spot_at ((new_world usual_settings)).actors (place_at 1 0x41)) { tenure = 18446744073709551615 }) ((after_all (new_world usual_settings) (Connect 1 1 (hex "05 24 71") true ∷ BasePush 1 ∷ Handle ∷ []))).actors) (BaseTakes 1)) ≡ None
unfolding on_literals
no_tenure_after_the_last = refl

-- an active channel is unchanged
abbrev pub activated_twice : World
activated_twice = after_all (record activated { actors = with_outbox 1 (record { out = record { to = 1; conn = 1; frame = record { stream = 0; body = (hex "08 21 01 41 03 00 06 04 00 03 01 00") } }; target = None } ∷ []) (activated).actors }) (BaseTakes 1 ∷ [])

tenure_continues : (spot_at (activated_twice).actors (place_at 1 0x41)).tenure ≡ 1
unfolding on_literals
tenure_continues = refl

is_acknowledged_once : made_bodies activated_twice 1 ≡ (hex "08 22 01 41 08 00 00") ∷ []
unfolding on_literals
is_acknowledged_once = refl

has_taken_the_entry : bodies activated_twice 1 ≡ []
unfolding on_literals
has_taken_the_entry = refl

-- IMMEDIATE ASSIGNMENT seats the mobile that it names, if that is asking
assigns_who_asks : seat_of (after_all (record (after_all (new_world usual_settings) (Connect 7 1 (hex "05 24 71") true ∷ [])) { actors = with_outbox 1 (record { out = record { to = 1; conn = 1; frame = record { stream = 0; body = (hex "0c 16 01 90 2b 17 2d 06 3f 00 49 20 14 07 00 00 00 00 2b 2b 2b 2b 2b 2b 2b 2b 2b 2b 2b") } }; target = None } ∷ []) ((after_all (new_world usual_settings) (Connect 7 1 (hex "05 24 71") true ∷ []))).actors }) (BaseTakes 1 ∷ [])) 7 ≡ Some (On (record { at = place_at 1 0x49; number = 0 }) None)
unfolding on_literals
assigns_who_asks = refl

assigns_no_octet_without_channel : seat_of (after_all (record (after_all (new_world usual_settings) (Connect 7 1 (hex "05 24 71") true ∷ [])) { actors = with_outbox 1 (record { out = record { to = 1; conn = 1; frame = record { stream = 0; body = (hex "0c 16 01 90 2b 17 2d 06 3f 00 01 20 14 07 00 00 00 00 2b 2b 2b 2b 2b 2b 2b 2b 2b 2b 2b") } }; target = None } ∷ []) ((after_all (new_world usual_settings) (Connect 7 1 (hex "05 24 71") true ∷ []))).actors }) (BaseTakes 1 ∷ [])) 7 ≡ Some Asking
unfolding on_literals
assigns_no_octet_without_channel = refl

assigns_no_other : seat_of (after_all (record (after_all (new_world usual_settings) (Connect 7 1 (hex "05 24 71") true ∷ Connect 6 1 (hex "05 24 71") true ∷ [])) { actors = with_outbox 1 (record { out = record { to = 1; conn = 1; frame = record { stream = 0; body = (hex "0c 16 01 90 2b 17 2d 06 3f 00 49 20 14 07 00 00 00 00 2b 2b 2b 2b 2b 2b 2b 2b 2b 2b 2b") } }; target = None } ∷ []) ((after_all (new_world usual_settings) (Connect 7 1 (hex "05 24 71") true ∷ Connect 6 1 (hex "05 24 71") true ∷ []))).actors }) (BaseTakes 1 ∷ [])) 6 ≡ Some Asking
unfolding on_literals
assigns_no_other = refl

assigns_nobody_twice : seat_of (after_all (record opened { actors = with_outbox 1 (record { out = record { to = 1; conn = 1; frame = record { stream = 0; body = (hex "0c 16 01 90 2b 17 2d 06 3f 00 49 20 14 01 00 00 00 00 2b 2b 2b 2b 2b 2b 2b 2b 2b 2b 2b") } }; target = None } ∷ []) (opened).actors }) (BaseTakes 1 ∷ [])) 1 ≡ Some (On (record { at = place_at 1 0x41; number = 1 }) None)
unfolding on_literals
assigns_nobody_twice = refl

-- DATA REQUEST
airs_on_active : map (λ a. a.message) (spot_at ((after_all (record opened { actors = with_outbox 1 (record { out = record { to = 1; conn = 1; frame = record { stream = 0; body = (hex "03 01 01 41 02 00 0b 00 02 83 02") } }; target = None } ∷ []) (opened).actors }) (BaseTakes 1 ∷ []))).actors (place_at 1 0x41)).air ≡ (hex "83 02") ∷ []
unfolding on_literals
airs_on_active = refl

airs_not_on_others : (spot_at ((after_all (record opened { actors = with_outbox 1 (record { out = record { to = 1; conn = 1; frame = record { stream = 0; body = (hex "03 01 01 49 02 00 0b 00 02 83 02") } }; target = None } ∷ []) (opened).actors }) (BaseTakes 1 ∷ []))).actors (place_at 1 0x49)).air ≡ []
unfolding on_literals
airs_not_on_others = refl

but_takes_it : map (takes (record opened { actors = with_outbox 1 (record { out = record { to = 1; conn = 1; frame = record { stream = 0; body = (hex "03 01 01 49 02 00 0b 00 02 83 02") } }; target = None } ∷ []) (opened).actors })) (BaseTakes 1 ∷ BaseTakes 2 ∷ []) ≡ true ∷ false ∷ []
unfolding on_literals
but_takes_it = refl

-- what is not read, and what asks for nothing, is taken
takes_what_is_cut : made_bodies (after_all (record opened { actors = with_outbox 1 (record { out = record { to = 1; conn = 1; frame = record { stream = 0; body = (hex "03 01 01 41") } }; target = None } ∷ []) (opened).actors }) (BaseTakes 1 ∷ [])) 1 ≡ []
unfolding on_literals
takes_what_is_cut = refl

takes_what_is_cut_and_has_it : bodies (after_all (record opened { actors = with_outbox 1 (record { out = record { to = 1; conn = 1; frame = record { stream = 0; body = (hex "03 01 01 41") } }; target = None } ∷ []) (opened).actors }) (BaseTakes 1 ∷ [])) 1 ≡ []
unfolding on_literals
takes_what_is_cut_and_has_it = refl

takes_other_streams : made_bodies (after_all (record opened { actors = with_outbox 1 (record { out = record { to = 1; conn = 1; frame = record { stream = 254; body = (0x01 ∷ []) } }; target = None } ∷ []) (opened).actors }) (BaseTakes 1 ∷ [])) 1 ≡ []
unfolding on_literals
takes_other_streams = refl

takes_other_streams_and_has_it : bodies (after_all (record opened { actors = with_outbox 1 (record { out = record { to = 1; conn = 1; frame = record { stream = 254; body = (0x01 ∷ []) } }; target = None } ∷ []) (opened).actors }) (BaseTakes 1 ∷ [])) 1 ≡ []
unfolding on_literals
takes_other_streams_and_has_it = refl

takes_other_messages : made_bodies (after_all (record opened { actors = with_outbox 1 (record { out = record { to = 1; conn = 1; frame = record { stream = 0; body = (hex "02 07 01 41 02 00 14 00") } }; target = None } ∷ []) (opened).actors }) (BaseTakes 1 ∷ [])) 1 ≡ []
unfolding on_literals
takes_other_messages = refl

takes_other_messages_and_has_it : bodies (after_all (record opened { actors = with_outbox 1 (record { out = record { to = 1; conn = 1; frame = record { stream = 0; body = (hex "02 07 01 41 02 00 14 00") } }; target = None } ∷ []) (opened).actors }) (BaseTakes 1 ∷ [])) 1 ≡ []
unfolding on_literals
takes_other_messages_and_has_it = refl

-- ESTABLISH REQUEST: confirmed, or not accepted
abbrev pub link_wanted : World
link_wanted = after_all opened (SwitchDoes (Dtap 1 Three (hex "09 02")) ∷ BasePush 0 ∷ Handle ∷ [])

asks_for_link : bodies link_wanted 1 ≡ (hex "02 04 01 41 02 03") ∷ []
unfolding on_literals
asks_for_link = refl

abbrev pub link_confirmed : World
link_confirmed = after_all link_wanted (BaseTakes 1 ∷ [])

confirms_link : made_bodies link_confirmed 1 ≡ (hex "02 05 01 41 02 03") ∷ []
unfolding on_literals
confirms_link = refl

link_is_up : (spot_at (link_confirmed).actors (place_at 1 0x41)).sapi_three_up ≡ true
unfolding on_literals
link_is_up = refl

abbrev pub short_message_handed : World
short_message_handed = after_all link_confirmed (BasePush 1 ∷ Handle ∷ BaseTakes 1 ∷ AirDown 1 ∷ Upper 1 Three (hex "09 01") ∷ AirUp 1 Three ∷ [])

short_message_received : received (short_message_handed).actors 1 ≡ Some ((hex "09 02") ∷ [])
unfolding on_literals
short_message_received = refl

link_remains_up : made_bodies short_message_handed 1 ≡ (hex "03 02 01 41 02 03 0b 00 02 09 01") ∷ []
unfolding on_literals
link_remains_up = refl

rejects_link : made_bodies (after_all (new_world usual_settings) (Connect 1 1 (hex "05 24 71") false ∷ BasePush 1 ∷ Handle ∷ BaseTakes 1 ∷ BasePush 1 ∷ Handle ∷ BaseTakes 1 ∷ AirUp 1 Zero ∷ BasePush 1 ∷ Handle ∷ SwitchTakes ∷ AirAck 1 Zero ∷ BasePush 0 ∷ Handle ∷ SwitchDoes (Dtap 1 Three (hex "09 02")) ∷ BasePush 0 ∷ Handle ∷ BaseTakes 1 ∷ [])) 1 ≡ (hex "02 09 01 41 02 03") ∷ []
unfolding on_literals
rejects_link = refl

rejects_link_of_who_is_gone : made_bodies (after_all opened (SwitchDoes (Dtap 1 Zero (hex "06 0d 00")) ∷ BasePush 0 ∷ Handle ∷ BaseTakes 1 ∷ AirDown 1 ∷ SwitchDoes (Dtap 1 Three (hex "09 02")) ∷ BasePush 0 ∷ Handle ∷ BaseTakes 1 ∷ [])) 1 ≡ (hex "02 09 01 41 02 03") ∷ []
unfolding on_literals
rejects_link_of_who_is_gone = refl

rejected_link_is_down : (spot_at ((after_all (record (after_all (new_world usual_settings) (Connect 1 1 (hex "05 24 71") false ∷ BasePush 1 ∷ Handle ∷ BaseTakes 1 ∷ BasePush 1 ∷ Handle ∷ BaseTakes 1 ∷ AirUp 1 Zero ∷ BasePush 1 ∷ Handle ∷ SwitchTakes ∷ AirAck 1 Zero ∷ BasePush 0 ∷ Handle ∷ Upper 1 Three (hex "09 01") ∷ AirUp 1 Three ∷ [])) { actors = with_outbox 1 (record { out = record { to = 1; conn = 1; frame = record { stream = 0; body = (hex "02 04 01 41 02 03") } }; target = None } ∷ []) ((after_all (new_world usual_settings) (Connect 1 1 (hex "05 24 71") false ∷ BasePush 1 ∷ Handle ∷ BaseTakes 1 ∷ BasePush 1 ∷ Handle ∷ BaseTakes 1 ∷ AirUp 1 Zero ∷ BasePush 1 ∷ Handle ∷ SwitchTakes ∷ AirAck 1 Zero ∷ BasePush 0 ∷ Handle ∷ Upper 1 Three (hex "09 01") ∷ AirUp 1 Three ∷ []))).actors }) (BaseTakes 1 ∷ []))).actors (place_at 1 0x41)).sapi_three_up ≡ false
unfolding on_literals
rejected_link_is_down = refl

-- RF CHANNEL RELEASE ends a tenure
abbrev pub released_channel : World
released_channel = after_all opened (SwitchDoes (Dtap 1 Zero (hex "83 02")) ∷ SwitchDoes (Clear 1) ∷ BasePush 0 ∷ Handle ∷ BasePush 0 ∷ Handle ∷ BaseTakes 1 ∷ BaseTakes 1 ∷ BaseTakes 1 ∷ [])

is_not_active : is_active_at (released_channel).actors (place_at 1 0x41) ≡ false
unfolding on_literals
is_not_active = refl

acknowledges_release : made_bodies released_channel 1 ≡ (hex "08 33 01 41") ∷ []
unfolding on_literals
acknowledges_release = refl

list_is_dropped : spot_at (released_channel).actors (place_at 1 0x41) ≡ record { tenure = 1; sapi_three_up = false; air = []; reports = 0 }
unfolding on_literals
list_is_dropped = refl

list_was_there : map (λ a. a.message) (spot_at ((after_all opened (SwitchDoes (Dtap 1 Zero (hex "83 02")) ∷ SwitchDoes (Clear 1) ∷ BasePush 0 ∷ Handle ∷ BasePush 0 ∷ Handle ∷ BaseTakes 1 ∷ BaseTakes 1 ∷ []))).actors (place_at 1 0x41)).air ≡ (hex "83 02") ∷ (hex "06 0d 00") ∷ []
unfolding on_literals
list_was_there = refl

link_is_down_when_released : (spot_at ((after_all short_message_handed (SwitchDoes (Clear 1) ∷ BasePush 0 ∷ Handle ∷ BaseTakes 1 ∷ BaseTakes 1 ∷ []))).actors (place_at 1 0x41)).sapi_three_up ≡ false
unfolding on_literals
link_is_down_when_released = refl

rejects_link_when_released : made_bodies (after_all (record released_channel { actors = with_outbox 1 (record { out = record { to = 1; conn = 1; frame = record { stream = 0; body = (hex "02 04 01 41 02 03") } }; target = None } ∷ []) (released_channel).actors }) (BaseTakes 1 ∷ [])) 1 ≡ (hex "08 33 01 41") ∷ (hex "02 09 01 41 02 03") ∷ []
unfolding on_literals
rejects_link_when_released = refl

air_is_silent_when_released : map (takes released_channel) (Upper 1 Zero (hex "03 05") ∷ AirUp 1 Zero ∷ AirAck 1 Zero ∷ AirDown 1 ∷ AirDownLost 1 ∷ Report 1 (hex "14 14 00 57 02 40 00 00 00 00 00 00 00 00 00 00") ∷ []) ≡ true ∷ false ∷ false ∷ false ∷ false ∷ false ∷ []
unfolding on_literals
air_is_silent_when_released = refl

-- a move drops the list of its channel, and the data link of SAPI 3
abbrev pub with_link : World
with_link = after_all opened (Upper 1 Three (hex "09 01") ∷ AirUp 1 Three ∷ AirAck 1 Three ∷ BasePush 1 ∷ Handle ∷ BasePush 1 ∷ Handle ∷ SwitchDoes (Assign 1) ∷ BasePush 0 ∷ Handle ∷ BaseTakes 1 ∷ BasePush 1 ∷ Handle ∷ BaseTakes 1 ∷ AirDown 1 ∷ [])

link_comes_again : made_bodies (after_all with_link (Move 1 ∷ Return 1 ∷ Upper 1 Three (hex "09 02") ∷ AirUp 1 Three ∷ [])) 1 ≡ (hex "02 06 01 41 02 00") ∷ (hex "02 06 01 41 02 03") ∷ (hex "03 02 01 41 02 03 0b 00 02 09 02") ∷ []
unfolding on_literals
link_comes_again = refl

link_continues_without_move : made_bodies (after_all with_link (Upper 1 Three (hex "09 02") ∷ AirUp 1 Three ∷ [])) 1 ≡ (hex "03 02 01 41 02 03 0b 00 02 09 02") ∷ []
unfolding on_literals
link_continues_without_move = refl

link_of_a_tch : made_bodies (after_all with_link (Move 1 ∷ Arrive 1 ∷ Upper 1 Three (hex "09 02") ∷ AirUp 1 Three ∷ [])) 1 ≡ (hex "02 06 01 0a 02 00") ∷ (hex "02 06 01 0a 02 43") ∷ (hex "03 02 01 0a 02 43 0b 00 02 09 02") ∷ []
unfolding on_literals
link_of_a_tch = refl

list_is_dropped_at_a_move : map (takes (after_all with_link (SwitchDoes (Clear 1) ∷ BasePush 0 ∷ Handle ∷ BaseTakes 1 ∷ Move 1 ∷ Return 1 ∷ []))) (AirDown 1 ∷ []) ≡ false ∷ []
unfolding on_literals
list_is_dropped_at_a_move = refl

list_remains_without_move : map (takes (after_all with_link (SwitchDoes (Clear 1) ∷ BasePush 0 ∷ Handle ∷ BaseTakes 1 ∷ []))) (AirDown 1 ∷ []) ≡ true ∷ []
unfolding on_literals
list_remains_without_move = refl

-- ---- who is on a tenure: the same station, channel and number

abbrev tenure_on : ℕ → ℕ → ℕ → Tenure
tenure_on station channel number = record { at = place_at station channel; number = number }

abbrev tenures : List Tenure
tenures = tenure_on 1 0x41 2 ∷ tenure_on 2 0x41 2 ∷ tenure_on 1 0x49 2 ∷ tenure_on 1 0x41 3 ∷ []

one_is_the_same : map (is_same (tenure_on 1 0x41 2)) tenures ≡ true ∷ false ∷ false ∷ false ∷ []
one_is_the_same = refl

the_same_the_other_way : map (λ other. is_same other (tenure_on 1 0x41 2)) tenures ≡ true ∷ false ∷ false ∷ false ∷ []
the_same_the_other_way = refl

sits_on_the_same : map (λ other. is_on (tenure_on 1 0x41 2) (On other None)) tenures ≡ true ∷ false ∷ false ∷ false ∷ []
sits_on_the_same = refl

-- it isn't yet on the channel that it was commanded to
abbrev command_to_move : Command
command_to_move = record { change = Assignment; target = tenure_on 1 0x41 2 }

commanded_to_move : map (λ other. is_on (tenure_on 1 0x41 2) (On other (Some command_to_move))) tenures
    ≡ true ∷ false ∷ false ∷ false ∷ []
commanded_to_move = refl

sits_nowhere : map (is_on (tenure_on 1 0x41 2))
    (Asking ∷ Gone ∷ Moving (tenure_on 1 0x41 2) command_to_move ∷ []) ≡ false ∷ false ∷ false ∷ []
sits_nowhere = refl

-- ---- the mobile of the last number

abbrev last_asking : World
last_asking = after_all (new_world usual_settings) (Connect 7 1 (hex "05 24 71") true ∷ Connect 255 1 (hex "05 24 72") true ∷ [])

request_names_the_last_mobile : made_bodies last_asking 1 ≡ hex "0c 13 01 88 13 07 00 00 11 00" ∷ hex "0c 13 01 88 13 ff 00 00 11 00" ∷ []
unfolding on_literals
request_names_the_last_mobile = refl

abbrev last_seated : World
last_seated = after_all last_asking (BasePush 1 ∷ Handle ∷ BasePush 1 ∷ Handle ∷ BaseTakes 1 ∷ BaseTakes 1
    ∷ BasePush 1 ∷ Handle ∷ BasePush 1 ∷ Handle ∷ BaseTakes 1 ∷ BaseTakes 1 ∷ [])

seats_the_last_mobile : map (seat_of last_seated) (7 ∷ 255 ∷ []) ≡ Some (On (tenure_on 1 0x41 1) None)
    ∷ Some (On (tenure_on 1 0x49 1) None) ∷ []
unfolding on_literals
seats_the_last_mobile = refl

finds_the_last_mobile : map (λ channel. option_map (λ p. p.number) (mobile_on (last_seated).actors (tenure_on 1 channel 1)))
    (hex "41 49 0a") ≡ Some 7 ∷ Some 255 ∷ None ∷ []
unfolding on_literals
finds_the_last_mobile = refl

last_mobile_sends : map (λ mobile. sent (last_seated).actors mobile) (7 ∷ 254 ∷ 255 ∷ []) ≡ Some ((hex "05 24 71") ∷ []) ∷ None
    ∷ Some ((hex "05 24 72") ∷ []) ∷ []
unfolding on_literals
last_mobile_sends = refl
