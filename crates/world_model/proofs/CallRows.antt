-- SPDX-License-Identifier: MIT OR Apache-2.0
-- The calls of a mobile's end in a run, and the messages that stations take of it on each channel.
use Rattle.world_model.proofs.Prelude.{◌≡◌, true, List, [], ◌∷◌, Some, None, refl, usual_settings, Zero, Three, connects, sends, frames}
use Rattle.world_model.proofs.Prelude.{acknowledges, leaves, arrives, gives_up, Event, Upper, Connect, AirUp, AirAck, AirDown, Move, Arrive}
use Rattle.world_model.proofs.Prelude.{Return, BaseTakes, BasePush, Handle, SwitchTakes, SwitchDoes, Assign, Actors, new_actors}
use Rattle.octets.proofs.Hex.{hex}
use Rattle.world_model.specs.Calls.{EachBegins, all_calls, comings, taken_by_channel}
use Rattle.world_model.proofs.Worlds.{on_literals}

abbrev begin : Actors
begin = new_actors usual_settings

-- A mobile's second message is taken, and not acknowledged when it moves as it was commanded; what
-- it can't do, it doesn't. On the target it sends that message again, and a third one.
abbrev arrives_on_target : List Event
arrives_on_target = Connect 1 1 (hex "05 24 71") true ∷ AirUp 1 Zero ∷ BasePush 1 ∷ Handle ∷ BaseTakes 1 ∷ BasePush 1 ∷ Handle ∷ BaseTakes 1 ∷ AirUp 1 Zero ∷ BasePush 1 ∷ Handle ∷ SwitchTakes ∷ AirAck 1 Zero ∷ BasePush 0 ∷ Handle ∷ Upper 1 Zero (hex "03 05") ∷ AirUp 1 Zero ∷ Move 1 ∷ SwitchDoes (Assign 1) ∷ BasePush 0 ∷ Handle ∷ BaseTakes 1 ∷ BasePush 1 ∷ Handle ∷ BasePush 1 ∷ Handle ∷ BaseTakes 1 ∷ AirDown 1 ∷ Move 1 ∷ AirUp 1 Zero ∷ Upper 1 Zero (hex "05 08") ∷ Upper 1 Three (hex "09 01") ∷ Arrive 2 ∷ Arrive 1 ∷ Arrive 1 ∷ AirUp 1 Zero ∷ AirUp 1 Three ∷ AirAck 1 Zero ∷ AirUp 1 Zero ∷ AirAck 1 Zero ∷ AirUp 1 Zero ∷ AirUp 1 Zero ∷ []

calls_of_it : all_calls begin arrives_on_target 1 ≡ connects (Some (hex "05 24 71")) ∷ frames Zero ∷ acknowledges Zero ∷ sends Zero (hex "03 05") ∷ frames Zero ∷ leaves ∷ sends Zero (hex "05 08") ∷ sends Three (hex "09 01") ∷ arrives (hex "06 29 00") ∷ frames Zero ∷ frames Three ∷ acknowledges Zero ∷ frames Zero ∷ acknowledges Zero ∷ frames Zero ∷ []
unfolding on_literals
calls_of_it = refl

calls_of_another : all_calls begin arrives_on_target 2 ≡ []
unfolding on_literals
calls_of_another = refl

-- the second message arrives on both channels, once on each
taken_of_it : taken_by_channel begin 1 [] arrives_on_target ≡ ((hex "05 24 71") ∷ (hex "03 45") ∷ []) ∷ ((hex "06 29 00") ∷ (hex "03 45") ∷ (hex "05 88") ∷ []) ∷ []
unfolding on_literals
taken_of_it = refl

-- COMPLETE is the first on the second of them
comings_of_it : comings begin 1 None arrives_on_target ≡ None ∷ Some (hex "06 29 00") ∷ []
unfolding on_literals
comings_of_it = refl

comings_of_another : comings begin 2 None arrives_on_target ≡ None ∷ []
unfolding on_literals
comings_of_another = refl

taken_of_another : taken_by_channel begin 2 [] arrives_on_target ≡ [] ∷ []
unfolding on_literals
taken_of_another = refl

-- it returns to its old channel in place of that, and its second message was acknowledged
abbrev reverts : List Event
reverts = Connect 1 1 (hex "05 24 71") true ∷ BasePush 1 ∷ Handle ∷ BaseTakes 1 ∷ BasePush 1 ∷ Handle ∷ BaseTakes 1 ∷ AirUp 1 Zero ∷ BasePush 1 ∷ Handle ∷ SwitchTakes ∷ AirAck 1 Zero ∷ BasePush 0 ∷ Handle ∷ SwitchDoes (Assign 1) ∷ BasePush 0 ∷ Handle ∷ BaseTakes 1 ∷ BasePush 1 ∷ Handle ∷ BaseTakes 1 ∷ AirDown 1 ∷ Upper 1 Zero (hex "03 05") ∷ AirUp 1 Zero ∷ AirAck 1 Zero ∷ Move 1 ∷ Return 1 ∷ AirUp 1 Zero ∷ AirAck 1 Zero ∷ Upper 1 Zero (hex "05 08") ∷ AirUp 1 Zero ∷ []

calls_back : all_calls begin reverts 1 ≡ connects (Some (hex "05 24 71")) ∷ frames Zero ∷ acknowledges Zero ∷ sends Zero (hex "03 05") ∷ frames Zero ∷ acknowledges Zero ∷ leaves ∷ gives_up (hex "06 2f 03") ∷ frames Zero ∷ acknowledges Zero ∷ sends Zero (hex "05 08") ∷ frames Zero ∷ []
unfolding on_literals
calls_back = refl

taken_back : taken_by_channel begin 1 [] reverts ≡ ((hex "05 24 71") ∷ (hex "03 45") ∷ []) ∷ ((hex "06 2f 03") ∷ (hex "05 88") ∷ []) ∷ []
unfolding on_literals
taken_back = refl

comings_back : comings begin 1 None reverts ≡ None ∷ Some (hex "06 2f 03") ∷ []
unfolding on_literals
comings_back = refl

-- ---- what begins with its message

-- the first channel may begin with any message, and nothing may be taken of a channel
begins_so : EachBegins (None ∷ Some (hex "06 29 00") ∷ Some (hex "06 2f 03") ∷ []) (((hex "05 24 71") ∷ []) ∷ ((hex "06 29 00") ∷ (hex "03 45") ∷ []) ∷ [] ∷ [])
begins_so = (tt, (refl, (tt, tt)))

begins_with_another : EachBegins (None ∷ Some (hex "06 29 00") ∷ []) ([] ∷ ((hex "03 45") ∷ (hex "06 29 00") ∷ []) ∷ []) → ⊥
begins_with_another (any, (first, end)) = cc

misses_a_channel : EachBegins (None ∷ Some (hex "06 29 00") ∷ []) ([] ∷ []) → ⊥
misses_a_channel (any, none) = none
