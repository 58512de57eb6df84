-- SPDX-License-Identifier: MIT OR Apache-2.0
-- Why events aren't taken: each cause of each event, in worlds of two cells.
use Rattle.std.proofs.Common.{◌≡◌, ◌-◌, ◌^◌, ℕ, true, List, [], ◌∷◌, map, replicate, Option, Some, None, refl}
use Rattle.octets.proofs.Hex.{hex}
use Rattle.conn_messages.specs.declared.channel.Place.{Place}
use Rattle.controller_model.proofs.Lives.{usual_settings}
use Rattle.dtap_codec.specs.declared.sapi.Sapi.TheVariants.{Zero}
use Rattle.world_model.specs.declared.event.Event.{Event}
use Rattle.world_model.specs.declared.event.Event.TheVariants.{Upper, Connect, AirUp, AirAck, AirDown, AirDownLost, Move, Touch, Arrive}
use Rattle.world_model.specs.declared.event.Event.TheVariants.{Return, BaseTakes, BasePush, Handle, SwitchTakes, SwitchDoes, BaseDown}
use Rattle.world_model.specs.declared.event.Event.TheVariants.{Report}
use Rattle.world_model.specs.declared.event.SwitchAction.TheVariants.{Assign, Clear, Dtap}
use Rattle.world_model.specs.World.{Actors, World, new_world, spot_at, with_spot}
use Rattle.world_model.proofs.Rows.{opened, opened_eager}
use Rattle.world_model.proofs.Worlds.{after_all, on_literals}
use Rattle.world_trace.specs.declared.cause.Cause.{Cause}
use Rattle.world_trace.specs.declared.cause.Cause.TheVariants as causes
use Rattle.world_trace.specs.Causes.{refusal}

abbrev causes_in : World → List Event → List (Option Cause)
causes_in w events = map (refusal w.actors) events

-- what a mobile does with the station of its channel
abbrev on_its_channel : List Event
on_its_channel = AirUp 1 Zero ∷ AirAck 1 Zero ∷ AirDown 1 ∷ AirDownLost 1 ∷ Move 1 ∷ Report 1 (hex "00") ∷ []

-- ---- a mobile that is on its channel, and one that there isn't

on_a_channel : causes_in opened (AirDownLost 1 ∷ Touch 1 ∷ Return 1 ∷ Upper 1 Zero [] ∷ Connect 0 1 (hex "05 24 71") true ∷ []) ≡
    Some causes.NothingInAir ∷ Some causes.NotBetween ∷ Some causes.NotBetween ∷ Some causes.BadMessage ∷ Some causes.MobileKnown ∷ []
unfolding on_literals
on_a_channel = refl

no_such_mobile : causes_in opened (AirUp 2 Zero ∷ AirAck 2 Zero ∷ AirDown 2 ∷ AirDownLost 2 ∷ Move 2 ∷ Report 2 (hex "00")
    ∷ Upper 2 Zero (hex "03 05") ∷ []) ≡
    replicate 7 (Some causes.NoMobile)
unfolding on_literals
no_such_mobile = refl

-- ---- a mobile that connects: whether it did before, then the link of its station, of which there are two, then its message

with_a_wrong_station : causes_in opened (Connect 2 1 (hex "05 24 71") true ∷ Connect 2 2 (hex "05 24 71") true
    ∷ Connect 2 3 (hex "05 24 71") true ∷ Connect 2 0 (hex "05 24 71") true ∷ Connect 2 3 (hex "03 05") true
    ∷ Connect 2 2 (hex "03 05") true ∷ Connect 1 3 (hex "05 24 71") true ∷ []) ≡
    None ∷ None ∷ Some causes.LinkDown ∷ Some causes.LinkDown ∷ Some causes.LinkDown ∷ Some causes.BadMessage
    ∷ Some causes.MobileKnown ∷ []
unfolding on_literals
with_a_wrong_station = refl

with_a_station_behind_a_broken_link : causes_in (after_all opened (BaseDown 1 ∷ [])) (Connect 2 1 (hex "05 24 71") true
    ∷ Connect 2 2 (hex "05 24 71") true ∷ []) ≡
    Some causes.LinkDown ∷ None ∷ []
unfolding on_literals
with_a_station_behind_a_broken_link = refl

-- ---- on a channel that isn't there any more

-- the station released the channel
abbrev released : World
released = after_all opened (SwitchDoes (Clear 1) ∷ BasePush 0 ∷ Handle ∷ BaseTakes 1 ∷ BaseTakes 1 ∷ [])

on_a_released_channel : causes_in released on_its_channel ≡ replicate 6 (Some causes.ChannelGone)
unfolding on_literals
on_a_released_channel = refl

-- its link broke
behind_a_broken_link : causes_in (after_all opened (BaseDown 1 ∷ [])) on_its_channel ≡ replicate 6 (Some causes.LinkDown)
unfolding on_literals
behind_a_broken_link = refl

-- ---- between two channels: of an assignment, and of a handover

abbrev assigning : World
assigning = after_all opened (SwitchDoes (Assign 1) ∷ BasePush 0 ∷ Handle ∷ BaseTakes 1 ∷ BasePush 1 ∷ Handle ∷ BaseTakes 1 ∷ AirDown 1
    ∷ Move 1 ∷ [])

of_an_assignment : causes_in assigning (Touch 1 ∷ AirUp 1 Zero ∷ AirAck 1 Zero ∷ AirDown 1 ∷ AirDownLost 1 ∷ Move 1 ∷ Report 1 (hex "00")
    ∷ Upper 1 Zero [] ∷ []) ≡
    Some causes.NoHandover ∷ Some causes.NotOnChannel ∷ Some causes.NotOnChannel ∷ Some causes.NotOnChannel ∷ Some causes.NotOnChannel
    ∷ Some causes.NotOnChannel ∷ Some causes.NotOnChannel ∷ Some causes.BadMessage ∷ []
unfolding on_literals
of_an_assignment = refl

abbrev handing_over : World
handing_over = after_all opened_eager (Report 1 (hex "14 14 00 57 02 40 00 00 00 00 00 00 00 00 00 00") ∷ BasePush 1 ∷ Handle
    ∷ BaseTakes 2 ∷ BasePush 2 ∷ Handle ∷ BaseTakes 1 ∷ AirDown 1 ∷ Move 1 ∷ [])

target_behind_a_broken_link : causes_in (after_all handing_over (BaseDown 2 ∷ [])) (Touch 1 ∷ Arrive 1 ∷ Return 1 ∷ []) ≡
    Some causes.LinkDown ∷ Some causes.LinkDown ∷ None ∷ []
unfolding on_literals
target_behind_a_broken_link = refl

old_channel_behind_a_broken_link : causes_in (after_all handing_over (BaseDown 1 ∷ [])) (Touch 1 ∷ Arrive 1 ∷ Return 1 ∷ []) ≡ None ∷ None
    ∷ Some causes.LinkDown ∷ []
unfolding on_literals
old_channel_behind_a_broken_link = refl

abbrev cleared : World
cleared = after_all handing_over (SwitchDoes (Clear 1) ∷ BasePush 0 ∷ Handle ∷ [])

released_target : causes_in (after_all cleared (BaseTakes 2 ∷ [])) (Touch 1 ∷ Arrive 1 ∷ Return 1 ∷ []) ≡ Some causes.ChannelGone
    ∷ Some causes.ChannelGone ∷ None ∷ []
unfolding on_literals
released_target = refl

released_old_channel : causes_in (after_all cleared (BaseTakes 1 ∷ BaseTakes 1 ∷ [])) (Touch 1 ∷ Arrive 1 ∷ Return 1 ∷ []) ≡ None ∷ None
    ∷ Some causes.ChannelGone ∷ []
unfolding on_literals
released_old_channel = refl

-- ---- the switch: its link, then the message, then the connection

no_message_and_no_connection : causes_in opened (SwitchDoes (Dtap 2 Zero []) ∷ SwitchDoes (Dtap 2 Zero (replicate 252 5))
    ∷ SwitchDoes (Dtap 2 Zero (replicate 251 5)) ∷ SwitchDoes (Assign 2) ∷ []) ≡
    Some causes.BadMessage ∷ Some causes.BadMessage ∷ Some causes.NoConnection ∷ Some causes.NoConnection ∷ []
unfolding on_literals
no_message_and_no_connection = refl

abbrev clearing : World
clearing = after_all opened (SwitchDoes (Clear 1) ∷ [])

on_a_closed_connection : causes_in clearing (SwitchDoes (Dtap 1 Zero []) ∷ SwitchDoes (Dtap 1 Zero (hex "83 02")) ∷ SwitchDoes (Assign 1)
    ∷ []) ≡
    Some causes.BadMessage ∷ Some causes.ConnectionClosed ∷ Some causes.ConnectionClosed ∷ []
unfolding on_literals
on_a_closed_connection = refl

link_of_the_switch_broke : causes_in (after_all opened (BaseDown 0 ∷ [])) (SwitchTakes ∷ SwitchDoes (Assign 1)
    ∷ SwitchDoes (Dtap 2 Zero []) ∷ BaseDown 0 ∷ []) ≡ replicate 4 (Some causes.LinkDown)
unfolding on_literals
link_of_the_switch_broke = refl

-- ---- an activation of 41 waits for station 1, whose channel had its last tenure, or its last but one

abbrev asked_for : Actors
asked_for = (after_all (new_world usual_settings) (Connect 1 1 (hex "05 24 71") true ∷ BasePush 1 ∷ Handle ∷ [])).actors

abbrev its_place : Place
its_place = record { station = 1; number = 0x41 }

abbrev with_tenure : ℕ → Actors
with_tenure tenure = with_spot its_place (record (spot_at asked_for its_place) { tenure = tenure }) asked_for

last_tenure_spent : refusal (with_tenure (2 ^ 64 - 1)) (BaseTakes 1) ≡ Some causes.TenuresSpent
unfolding on_literals
last_tenure_spent = refl

last_tenure_left : refusal (with_tenure (2 ^ 64 - 2)) (BaseTakes 1) ≡ None
unfolding on_literals
last_tenure_left = refl
