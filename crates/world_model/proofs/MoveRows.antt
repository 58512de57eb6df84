-- SPDX-License-Identifier: MIT OR Apache-2.0
-- Events of a mobile that changes its channel.
use Rattle.world_model.proofs.Prelude.{◌≡◌, true, false, [], ◌∷◌, map, Some, None, refl, Assignment, place_at, usual_settings, Zero, Upper}
use Rattle.world_model.proofs.Prelude.{Connect, AirUp, AirAck, AirDown, AirDownLost, Move, Touch, Arrive, Return, BaseTakes, BasePush}
use Rattle.world_model.proofs.Prelude.{Handle, SwitchTakes, SwitchDoes, BaseDown, Report, Assign, Clear, On, Moving, World, new_world}
use Rattle.world_model.proofs.Prelude.{Mobile}
use Rattle.octets.proofs.Hex.{hex}
use Rattle.world_model.proofs.Worlds.{on_literals, after_all, made_bodies, seat_of, takes}
use Rattle.world_model.proofs.Rows.{opened, opened_eager}

-- an ASSIGNMENT COMMAND is remembered
abbrev pub commanded : World
commanded = after_all opened (SwitchDoes (Assign 1) ∷ BasePush 0 ∷ Handle ∷ BaseTakes 1 ∷ BasePush 1 ∷ Handle ∷ BaseTakes 1 ∷ AirDown 1 ∷ [])

remembers_the_target : seat_of commanded 1 ≡ Some (On (record { at = place_at 1 0x41; number = 1 }) (Some (record { change = Assignment; target = record { at = place_at 1 0x0a; number = 1 } })))
unfolding on_literals
remembers_the_target = refl

moves_when_commanded : map (takes commanded) (Move 1 ∷ Touch 1 ∷ Arrive 1 ∷ Return 1 ∷ Upper 1 Zero (hex "03 05") ∷ []) ≡ true ∷ false ∷ false ∷ false ∷ true ∷ []
unfolding on_literals
moves_when_commanded = refl

moves_not_uncommanded : map (takes opened) (Move 1 ∷ Touch 1 ∷ Arrive 1 ∷ Return 1 ∷ []) ≡ false ∷ false ∷ false ∷ false ∷ []
unfolding on_literals
moves_not_uncommanded = refl

moves_not_when_it_was_lost : map (takes (after_all opened (SwitchDoes (Assign 1) ∷ BasePush 0 ∷ Handle ∷ BaseTakes 1 ∷ BasePush 1 ∷ Handle ∷ BaseTakes 1 ∷ AirDownLost 1 ∷ []))) (Move 1 ∷ []) ≡ false ∷ []
unfolding on_literals
moves_not_when_it_was_lost = refl

abbrev pub moving : World
moving = after_all commanded (Move 1 ∷ [])

is_moving : seat_of moving 1 ≡ Some (Moving (record { at = place_at 1 0x41; number = 1 }) (record { change = Assignment; target = record { at = place_at 1 0x0a; number = 1 } }))
unfolding on_literals
is_moving = refl

between_two_channels : map (takes moving) (Move 1 ∷ Touch 1 ∷ Arrive 1 ∷ Return 1 ∷ Upper 1 Zero (hex "03 05") ∷ AirUp 1 Zero ∷ AirAck 1 Zero ∷ AirDown 1 ∷ AirDownLost 1 ∷ Report 1 (hex "14 14 00 57 02 40 00 00 00 00 00 00 00 00 00 00") ∷ []) ≡ false ∷ false ∷ true ∷ true ∷ true ∷ false ∷ false ∷ false ∷ false ∷ false ∷ []
unfolding on_literals
between_two_channels = refl

abbrev pub arrived : World
arrived = after_all moving (Upper 1 Zero (hex "03 05") ∷ Arrive 1 ∷ AirUp 1 Zero ∷ AirAck 1 Zero ∷ AirUp 1 Zero ∷ [])

is_on_target : seat_of arrived 1 ≡ Some (On (record { at = place_at 1 0x0a; number = 1 }) None)
unfolding on_literals
is_on_target = refl

complete_is_first : made_bodies arrived 1 ≡ (hex "02 06 01 0a 02 00") ∷ (hex "03 02 01 0a 02 00 0b 00 03 06 29 00") ∷ (hex "03 02 01 0a 02 00 0b 00 02 03 45") ∷ []
unfolding on_literals
complete_is_first = refl

command_is_used_up : map (takes arrived) (Move 1 ∷ Arrive 1 ∷ Return 1 ∷ []) ≡ false ∷ false ∷ false ∷ []
unfolding on_literals
command_is_used_up = refl

abbrev pub back : World
back = after_all moving (Return 1 ∷ AirUp 1 Zero ∷ [])

is_back : seat_of back 1 ≡ Some (On (record { at = place_at 1 0x41; number = 1 }) None)
unfolding on_literals
is_back = refl

failure_comes_first : made_bodies back 1 ≡ (hex "02 06 01 41 02 00") ∷ (hex "03 02 01 41 02 00 0b 00 03 06 2f 03") ∷ []
unfolding on_literals
failure_comes_first = refl

command_was_used_up : map (takes back) (Move 1 ∷ Arrive 1 ∷ Return 1 ∷ []) ≡ false ∷ false ∷ false ∷ []
unfolding on_literals
command_was_used_up = refl

-- a handover: the mobile is heard, and then arrives
abbrev pub handed : World
handed = after_all opened_eager (Report 1 (hex "14 14 00 57 02 40 00 00 00 00 00 00 00 00 00 00") ∷ BasePush 1 ∷ Handle ∷ BaseTakes 2 ∷ BasePush 2 ∷ Handle ∷ BaseTakes 1 ∷ AirDown 1 ∷ Move 1 ∷ [])

is_heard_and_arrives : map (takes handed) (Touch 1 ∷ Arrive 1 ∷ Return 1 ∷ []) ≡ true ∷ true ∷ true ∷ []
unfolding on_literals
is_heard_and_arrives = refl

is_heard : made_bodies (after_all handed (Touch 1 ∷ [])) 2 ≡ (hex "08 27 01 41") ∷ []
unfolding on_literals
is_heard = refl

completes_handover : made_bodies (after_all handed (Arrive 1 ∷ AirUp 1 Zero ∷ [])) 2 ≡ (hex "02 06 01 41 02 00") ∷ (hex "03 02 01 41 02 00 0b 00 03 06 2c 00") ∷ []
unfolding on_literals
completes_handover = refl

fails_handover : made_bodies (after_all handed (Return 1 ∷ AirUp 1 Zero ∷ [])) 1 ≡ (hex "02 06 01 41 02 00") ∷ (hex "03 02 01 41 02 00 0b 00 03 06 28 03") ∷ []
unfolding on_literals
fails_handover = refl

target_broke : map (takes (after_all handed (BaseDown 2 ∷ []))) (Touch 1 ∷ Arrive 1 ∷ Return 1 ∷ []) ≡ false ∷ false ∷ true ∷ []
unfolding on_literals
target_broke = refl

old_station_broke : map (takes (after_all handed (BaseDown 1 ∷ []))) (Touch 1 ∷ Arrive 1 ∷ Return 1 ∷ []) ≡ true ∷ true ∷ false ∷ []
unfolding on_literals
old_station_broke = refl

-- its channels are released, and the target is given to another
abbrev pub both_released : World
both_released = after_all handed (SwitchDoes (Clear 1) ∷ BasePush 0 ∷ Handle ∷ BaseTakes 2 ∷ BasePush 2 ∷ Handle ∷ Connect 2 2 (hex "05 24 71") true ∷ BasePush 2 ∷ Handle ∷ [])

target_released : map (takes both_released) (Touch 1 ∷ Arrive 1 ∷ Return 1 ∷ []) ≡ false ∷ false ∷ true ∷ []
unfolding on_literals
target_released = refl

target_is_anothers : map (takes (after_all both_released (BaseTakes 2 ∷ []))) (Touch 1 ∷ Arrive 1 ∷ Return 1 ∷ []) ≡ false ∷ false ∷ true ∷ []
unfolding on_literals
target_is_anothers = refl

target_has_a_new_tenure : seat_of (after_all both_released (BaseTakes 2 ∷ BasePush 2 ∷ Handle ∷ BaseTakes 2 ∷ [])) 2 ≡ Some (On (record { at = place_at 2 0x41; number = 2 }) None)
unfolding on_literals
target_has_a_new_tenure = refl

old_channel_released : map (takes (after_all both_released (BaseTakes 1 ∷ BaseTakes 1 ∷ []))) (Return 1 ∷ []) ≡ false ∷ []
unfolding on_literals
old_channel_released = refl

-- an initial message that was not acknowledged is sent again as data; a PAGING RESPONSE is not
initial_message_comes_again : made_bodies (after_all (new_world usual_settings) (Connect 1 1 (hex "05 24 71") true ∷ BasePush 1 ∷ Handle ∷ BaseTakes 1 ∷ BasePush 1 ∷ Handle ∷ BaseTakes 1 ∷ AirUp 1 Zero ∷ BasePush 1 ∷ Handle ∷ SwitchTakes ∷ BasePush 0 ∷ Handle ∷ SwitchDoes (Assign 1) ∷ BasePush 0 ∷ Handle ∷ BaseTakes 1 ∷ BasePush 1 ∷ Handle ∷ BaseTakes 1 ∷ AirDown 1 ∷ Move 1 ∷ Arrive 1 ∷ AirUp 1 Zero ∷ AirAck 1 Zero ∷ AirUp 1 Zero ∷ [])) 1 ≡ (hex "02 06 01 0a 02 00") ∷ (hex "03 02 01 0a 02 00 0b 00 03 06 29 00") ∷ (hex "03 02 01 0a 02 00 0b 00 03 05 24 71") ∷ []
unfolding on_literals
initial_message_comes_again = refl

paging_response_is_dropped : map (takes (after_all (new_world usual_settings) (Connect 1 1 (hex "06 27 71") true ∷ BasePush 1 ∷ Handle ∷ BaseTakes 1 ∷ BasePush 1 ∷ Handle ∷ BaseTakes 1 ∷ AirUp 1 Zero ∷ BasePush 1 ∷ Handle ∷ SwitchTakes ∷ BasePush 0 ∷ Handle ∷ SwitchDoes (Assign 1) ∷ BasePush 0 ∷ Handle ∷ BaseTakes 1 ∷ BasePush 1 ∷ Handle ∷ BaseTakes 1 ∷ AirDown 1 ∷ Move 1 ∷ Arrive 1 ∷ AirUp 1 Zero ∷ AirAck 1 Zero ∷ []))) (AirUp 1 Zero ∷ []) ≡ false ∷ []
unfolding on_literals
paging_response_is_dropped = refl

-- once it moved, no message is the initial one
after_a_move_nothing_is_initial : made_bodies (after_all (record commanded { actors = record (commanded).actors { mobiles = map (λ (p : Mobile). record p { opens = true }) (commanded).actors.mobiles } }) (Move 1 ∷ Arrive 1 ∷ AirUp 1 Zero ∷ [])) 1 ≡ (hex "02 06 01 0a 02 00") ∷ (hex "03 02 01 0a 02 00 0b 00 03 06 29 00") ∷ []
unfolding on_literals
after_a_move_nothing_is_initial = refl
