-- SPDX-License-Identifier: MIT OR Apache-2.0
-- The controller's queues with literal frames. The links of the switch and of station 1 are up,
-- that of station 2 is down.
use Rattle.world_actors.proofs.Prelude.{◌≡◌, ℕ, true, false, List, [], ◌∷◌, Some, None, refl, place_at, Tenure, channel_required}
use Rattle.std.proofs.Common.{map}
use Rattle.octets.proofs.Hex.{hex}
use Rattle.conn_messages.specs.declared.out.Out.{Out}
use Rattle.controller_model.specs.Controller.{new_controller}
use Rattle.controller_model.proofs.Lives.{usual_settings, eager_settings}
use Rattle.ruled_relay.specs.declared.item.Item.{Item}
use Rattle.ruled_relay.specs.declared.item.What.TheVariants as whats
use Rattle.rsl_codec.specs.declared.rsl.Rsl.TheVariants.{ChannelActivationAck}
use Rattle.world_model.specs.declared.event.Event.TheVariants.{BasePush, Handle, Report}
use Rattle.world_model.specs.declared.line.OutboxEntry.{OutboxEntry}
use Rattle.world_model.specs.Relay.{station_item}
use Rattle.world_model.specs.World.{Link, World}
use Rattle.world_model.proofs.Rows.{opened_eager}
use Rattle.world_model.proofs.Worlds.{on_literals, after_all}
use Rattle.world_actors.specs.Links.{all_joined_in, broken_in, is_up_in, joined_in, outbox_in, taken_of}
use Rattle.world_actors.specs.Relay.{breaking, handling, ticking, with_item_in, with_turn_in}
use Rattle.world_actors.specs.RelayState.{RelayState}

-- a frame of RSL with this body, for this link
abbrev frame_to : ℕ → List ℕ → Out
frame_to link body = record { to = link; conn = 5; frame = record { stream = 0x00; body = body } }

abbrev entry : ℕ → List ℕ → OutboxEntry
entry link body = record { out = frame_to link body; target = None }

-- by what waits for the switch and for station 1
abbrev links_with : List OutboxEntry → List OutboxEntry → List Link
links_with switch station = record { up = true; outbox = switch } ∷ record { up = true; outbox = station } ∷ record { up = false; outbox = [] } ∷ []

abbrev two_wait : List Link
two_wait = links_with [] (entry 1 (0x0a ∷ []) ∷ entry 1 (0x0b ∷ []) ∷ [])

-- ---- links

up_are : map (is_up_in two_wait) (0 ∷ 1 ∷ 2 ∷ 3 ∷ []) ≡ true ∷ true ∷ false ∷ false ∷ []
up_are = refl

outboxes_are : map (outbox_in two_wait) (0 ∷ 1 ∷ 2 ∷ 3 ∷ []) ≡ [] ∷ (entry 1 (0x0a ∷ []) ∷ entry 1 (0x0b ∷ []) ∷ []) ∷ [] ∷ [] ∷ []
outboxes_are = refl

first_is_taken : taken_of 1 two_wait ≡ links_with [] (entry 1 (0x0b ∷ []) ∷ [])
first_is_taken = refl

nothing_is_taken : map (λ link. taken_of link two_wait) (0 ∷ 2 ∷ 3 ∷ []) ≡ two_wait ∷ two_wait ∷ two_wait ∷ []
nothing_is_taken = refl

joins_last : joined_in None two_wait (frame_to 1 (0x0c ∷ [])) ≡ links_with [] (entry 1 (0x0a ∷ []) ∷ entry 1 (0x0b ∷ []) ∷ entry 1 (0x0c ∷ []) ∷ [])
joins_last = refl

joins_its_own : joined_in None two_wait (frame_to 0 (0x0c ∷ [])) ≡ links_with (entry 0 (0x0c ∷ []) ∷ []) (entry 1 (0x0a ∷ []) ∷ entry 1 (0x0b ∷ []) ∷ [])
joins_its_own = refl

joins_none_that_is_down : map (λ link. joined_in None two_wait (frame_to link (0x0c ∷ []))) (2 ∷ 3 ∷ []) ≡ two_wait ∷ two_wait ∷ []
joins_none_that_is_down = refl

-- where a command may lead
abbrev target : Tenure
target = record { at = place_at 4 0x0b; number = 7 }

-- DATA REQUEST with an ASSIGNMENT COMMAND, and with a message of the switch
abbrev command : Out
command = frame_to 1 (hex "03 01 01 41 02 00 0b 00 06 06 2e 0a 20 14 00")

abbrev text : Out
text = frame_to 1 (hex "03 01 01 41 02 00 0b 00 02 83 02")

command_leads : joined_in (Some target) (links_with [] []) command ≡ links_with [] (record { out = command; target = Some target } ∷ [])
unfolding on_literals
command_leads = refl

command_leads_nowhere : joined_in None (links_with [] []) command ≡ links_with [] (record { out = command; target = None } ∷ [])
command_leads_nowhere = refl

text_leads_nowhere : joined_in (Some target) (links_with [] []) text ≡ links_with [] (record { out = text; target = None } ∷ [])
unfolding on_literals
text_leads_nowhere = refl

all_join_in_order : all_joined_in (Some target) (links_with [] []) (text ∷ frame_to 0 (0x0d ∷ []) ∷ frame_to 2 (0x0e ∷ []) ∷ command ∷ []) ≡
    links_with (entry 0 (0x0d ∷ []) ∷ []) (record { out = text; target = None } ∷ record { out = command; target = Some target } ∷ [])
unfolding on_literals
all_join_in_order = refl

breaks : broken_in 1 two_wait ≡ record { up = true; outbox = [] } ∷ record { up = false; outbox = [] } ∷ record { up = false; outbox = [] } ∷ []
breaks = refl

breaks_no_other : map (λ link. broken_in link two_wait) (2 ∷ 3 ∷ []) ≡ two_wait ∷ two_wait ∷ []
breaks_no_other = refl

-- ---- the controller with its queues

abbrev end_of : ℕ → Item
end_of source = record { source = source; what = whats.Down }

abbrev relay_with : List Item → List Link → RelayState
relay_with items links = record { inbox = items; controller = new_controller usual_settings; links = links }

comes_last : with_item_in (end_of 2) (relay_with (end_of 1 ∷ []) two_wait) ≡ relay_with (end_of 1 ∷ end_of 2 ∷ []) two_wait
comes_last = refl

turn_is_done : with_turn_in (Some target) (record { outs = command ∷ []; next = new_controller eager_settings }) (relay_with (end_of 1 ∷ []) (links_with [] [])) ≡
    record { inbox = end_of 1 ∷ []; controller = new_controller eager_settings; links = links_with [] (record { out = command; target = Some target } ∷ []) }
unfolding on_literals
turn_is_done = refl

-- the bodies that wait on a link
abbrev bodies_on : ℕ → RelayState → List (List ℕ)
bodies_on link r = map (λ entry. entry.out.frame.body) (outbox_in r.links link)

-- a CHANNEL REQUIRED is handled: CHANNEL ACTIVATION
abbrev asked : ℕ → RelayState
asked station = handling None (station_item station (channel_required 7)) (relay_with (end_of 2 ∷ []) (links_with [] []))

activation_waits : bodies_on 1 (asked 1) ≡ (hex "08 21 01 41 03 00 06 04 00 03 01 00") ∷ []
unfolding on_literals
activation_waits = refl

nothing_waits_where_it_broke : bodies_on 2 (asked 2) ≡ []
unfolding on_literals
nothing_waits_where_it_broke = refl

connection_is_there : (asked 1).controller.next_number ≡ 2
unfolding on_literals
connection_is_there = refl

inbox_remains : (asked 1).inbox ≡ end_of 2 ∷ []
unfolding on_literals
inbox_remains = refl

-- the HANDOVER COMMAND that an ACTIVATION ACK brings leads to the target that is given
abbrev offered : World
offered = after_all opened_eager (Report 1 (hex "14 14 00 57 02 40 00 00 00 00 00 00 00 00 00 00") ∷ BasePush 1 ∷ Handle ∷ [])

handover_leads : map (λ entry. entry.target) (outbox_in (handling (Some target) (station_item 2 (ChannelActivationAck (record { channel = 0x41; frame = Some (record { 0 = 0 }) }))) (record { inbox = []; controller = (offered).actors.controller; links = (offered).actors.links })).links 1) ≡ Some target ∷ []
unfolding on_literals
handover_leads = refl

-- time passes: the channel isn't activated within 3 s
before_3_seconds : bodies_on 1 (ticking 2999 (asked 1)) ≡ (hex "08 21 01 41 03 00 06 04 00 03 01 00") ∷ []
unfolding on_literals
before_3_seconds = refl

after_3_seconds : bodies_on 1 (ticking 3000 (asked 1)) ≡ (hex "08 21 01 41 03 00 06 04 00 03 01 00") ∷ (hex "08 2e 01 41") ∷ []
unfolding on_literals
after_3_seconds = refl

-- a link breaks: its end is last
break_is_put : breaking 1 (relay_with (end_of 2 ∷ []) two_wait) ≡ relay_with (end_of 2 ∷ end_of 1 ∷ []) (broken_in 1 two_wait)
break_is_put = refl
