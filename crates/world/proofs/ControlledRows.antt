-- SPDX-License-Identifier: MIT OR Apache-2.0
-- The world with a controller against literal events: its views, its queues, and events with a
-- break.
use Rattle.std.proofs.Common.{◌≡◌, ℕ, ◌∷◌, Bool, true, false, List, [], ◌++◌, length, map, Option, Some, None, refl}
use Rattle.std.proofs.lemmas.Option.{none-some}
use Rattle.octets.proofs.Hex.{hex}
use Rattle.controller_model.proofs.Lives.{eager_settings, usual_settings}
use Rattle.dtap_codec.specs.declared.sapi.Sapi.TheVariants.{Zero}
use Rattle.msc_end.specs.declared.connection.Stage.TheVariants.{Open}
use Rattle.ruled_relay.specs.declared.item.What.{What}
use Rattle.ruled_relay.specs.declared.item.What.TheVariants as whats
use Rattle.settings.specs.Parameters.{Parameters}
use Rattle.world_model.specs.declared.event.Event.{Event}
use Rattle.world_model.specs.declared.event.Event.TheVariants.{Upper, Connect, AirUp, AirAck, AirDown, Move, Touch, Arrive, BaseTakes, BasePush, Handle, SwitchTakes, SwitchDoes, Tick, BaseDown, Report}
use Rattle.world_model.specs.declared.event.SwitchAction.TheVariants.{Clear, Dtap}
use Rattle.world_model.specs.World.{new_actors}
use Rattle.world_model.proofs.Worlds.{on_literals}
use Rattle.world.specs.declared.world.Scene.{Scene}
use Rattle.world.specs.declared.world.Scene.TheVariants.{Controlled}
use Rattle.world.specs.Openers.{IsOpenedByMessage, opener_in}
use Rattle.world.specs.Queues.{Queue, Queued, outbox, inbox, message, entry, item, all_messages_put, all_messages_taken, messages_left, is_kept, messages_of, switch_of}
use Rattle.world.specs.Views.{accepted_list, progress_in, received_list, sent_list, taken_list, unnumbered_list}
use Rattle.world.specs.World.{after_all, broken, controlled_world, fixed_world}
use Rattle.world.specs.WorldState.{WorldState}

-- ---- a break among events

break_in_front : broken (SwitchTakes ∷ Handle ∷ []) 0 7 ≡ BaseDown 7 ∷ SwitchTakes ∷ Handle ∷ []
break_in_front = refl

break_between : broken (SwitchTakes ∷ Handle ∷ []) 1 7 ≡ SwitchTakes ∷ BaseDown 7 ∷ Handle ∷ []
break_between = refl

break_last : broken (SwitchTakes ∷ Handle ∷ []) 2 7 ≡ SwitchTakes ∷ Handle ∷ BaseDown 7 ∷ []
break_last = refl

break_beyond : broken (SwitchTakes ∷ Handle ∷ []) 3 7 ≡ SwitchTakes ∷ Handle ∷ BaseDown 7 ∷ []
break_beyond = refl

break_of_nothing : broken [] 0 7 ≡ BaseDown 7 ∷ []
break_of_nothing = refl

-- ---- a mobile opens a connection

-- the mobile of this number asks the station of this number for a channel, up to the switch's CC
abbrev opening_by : ℕ → ℕ → List Event
opening_by mobile station =
    Connect mobile station (hex "05 24 71") true ∷ BasePush station ∷ Handle ∷ BaseTakes station ∷ BasePush station ∷ Handle ∷ BaseTakes station
    ∷ AirUp mobile Zero ∷ BasePush station ∷ Handle ∷ SwitchTakes ∷ AirAck mobile Zero ∷ BasePush 0 ∷ Handle ∷ []

abbrev world_after : List Event → WorldState
world_after events = after_all (controlled_world usual_settings) events

abbrev relayed : List ℕ → List Event
relayed text = Upper 1 Zero text ∷ AirUp 1 Zero ∷ BasePush 1 ∷ Handle ∷ SwitchTakes ∷ AirAck 1 Zero ∷ []

abbrev some_sent : WorldState
some_sent = world_after (opening_by 1 1 ++ relayed (hex "03 05") ++ relayed (hex "08 01"))

what_is_sent : sent_list some_sent.scene 1 ≡ Some ((hex "05 24 71") ∷ (hex "03 05") ∷ [])
unfolding on_literals
what_is_sent = refl

what_is_taken : taken_list some_sent.scene 1 ≡ Some ((hex "05 24 71") ∷ (hex "03 45") ∷ (hex "08 01") ∷ [])
unfolding on_literals
what_is_taken = refl

what_is_accepted : accepted_list some_sent.scene 1 ≡ Some ((hex "05 24 71") ∷ (hex "03 05") ∷ [])
unfolding on_literals
what_is_accepted = refl

what_is_unnumbered : unnumbered_list some_sent.scene 1 ≡ Some ((hex "08 01") ∷ [])
unfolding on_literals
what_is_unnumbered = refl

what_is_received : received_list some_sent.scene 1 ≡ Some []
unfolding on_literals
what_is_received = refl

how_far_it_came : progress_in some_sent.scene 1 ≡ Some (Some 2)
unfolding on_literals
how_far_it_came = refl

each_is_taken : some_sent.not_taken ≡ 0
unfolding on_literals
each_is_taken = refl

nobody_else :
    (sent_list some_sent.scene 2 ∷ received_list some_sent.scene 2 ∷ taken_list some_sent.scene 2 ∷ accepted_list some_sent.scene 2 ∷ unnumbered_list some_sent.scene 2 ∷ taken_list some_sent.scene 0 ∷ [])
    ≡ None ∷ None ∷ None ∷ None ∷ None ∷ None ∷ []
unfolding on_literals
nobody_else = refl

nobody_comes : progress_in some_sent.scene 2 ≡ None
unfolding on_literals
nobody_comes = refl

-- modulo 2 by the settings
abbrev settings_of_release_98 : Parameters
settings_of_release_98 = record usual_settings { network = record usual_settings.network { release98 = true } }

of_release_98 :
    taken_list (after_all (controlled_world settings_of_release_98) (opening_by 1 1 ++ relayed (hex "03 05") ++ relayed (hex "03 0f"))).scene 1
    ≡ Some ((hex "05 24 71") ∷ (hex "03 45") ∷ (hex "03 0f") ∷ [])
unfolding on_literals
of_release_98 = refl

-- what no actor can take is counted; time always passes
not_taken :
    (world_after (AirUp 1 Zero ∷ AirAck 1 Zero ∷ AirDown 1 ∷ Move 1 ∷ Upper 1 Zero (hex "03 05") ∷ BaseTakes 1 ∷ BasePush 0 ∷ BasePush 1 ∷ Handle ∷ SwitchTakes ∷ SwitchDoes (Clear 1) ∷ BaseDown 3 ∷ Tick 5 ∷ [])).not_taken
    ≡ 12
unfolding on_literals
not_taken = refl

-- ---- whose connection it is

-- mobile 9 asks first, and the switch's first connection is its own
abbrev two_open : List Event
two_open = opening_by 9 2 ++ opening_by 1 1

openers : map (opener_in (controlled_world usual_settings).scene two_open) (0 ∷ 1 ∷ 2 ∷ 3 ∷ []) ≡ None ∷ Some 9 ∷ Some 1 ∷ None ∷ []
unfolding on_literals
openers = refl

-- also once the connection was cleared, and its mobile was released
abbrev cleared : List Event
cleared = opening_by 9 2 ++ SwitchDoes (Clear 1) ∷ BasePush 0 ∷ Handle ∷ BaseTakes 2 ∷ BaseTakes 2 ∷ AirDown 9 ∷ BasePush 2 ∷ Handle ∷ SwitchTakes ∷ BasePush 0 ∷ Handle ∷ SwitchTakes ∷ []

opener_of_cleared : opener_in (controlled_world usual_settings).scene cleared 1 ≡ Some 9
unfolding on_literals
opener_of_cleared = refl

opener_in_fixed : map (opener_in (fixed_world 4).scene []) (0 ∷ 1 ∷ 2 ∷ []) ≡ None ∷ Some 1 ∷ None ∷ []
opener_in_fixed = refl

-- ---- with which message it begins

-- in the fixed world nothing is said of it
opened_in_fixed : IsOpenedByMessage (fixed_world 4).scene (Connect 1 1 (hex "05 24 71") true ∷ [])
opened_in_fixed = tt

-- a connection of the switch that no mobile opened
abbrev unopened : Scene
unopened =
    Controlled (record (new_actors usual_settings) {
      switch =
          record {
            modulus = 4;
            connections =
                record { peer = 1; stage = Open; reception = record { modulus = 4; taken = (hex "05 24 71") ∷ [] }; number = 8388609 } ∷ [];
          };
    })

opened_by_none : IsOpenedByMessage unopened [] → ⊥
opened_by_none all = let begins = all 1 ((hex "05 24 71") ∷ []) refl in none-some begins.mobile begins.opened

-- ---- a handover

-- What examples/handover.script plays, up to the clearing, with settings by which the first report
-- decides: the third message remains with station 1 until the fourth arrived over station 2, and
-- the switch's message is held while the channel changes.
abbrev moved : List Event
moved =
    opening_by 1 1
    ++ Upper 1 Zero (hex "03 05") ∷ AirUp 1 Zero ∷ AirAck 1 Zero ∷ BasePush 1 ∷ Handle ∷ SwitchTakes
    ∷ Report 1 (hex "14 14 50 57 02 40 00 00 00 00 00 00 00 00 00 00")
    ∷ BasePush 1 ∷ Handle ∷ BaseTakes 2 ∷ BasePush 2 ∷ Handle ∷ Upper 1 Zero (hex "03 01") ∷ AirUp 1 Zero
    ∷ AirAck 1 Zero ∷ BaseTakes 1 ∷ AirDown 1 ∷ SwitchDoes (Dtap 1 Zero (hex "83 07")) ∷ BasePush 0 ∷ Handle ∷ Move 1
    ∷ Touch 1 ∷ Arrive 1 ∷ AirUp 1 Zero ∷ AirAck 1 Zero ∷ BasePush 2 ∷ Handle ∷ BasePush 2 ∷ Handle ∷ BasePush 2 ∷ Handle
    ∷ Upper 1 Zero (hex "03 0f") ∷ AirUp 1 Zero ∷ AirAck 1 Zero ∷ BasePush 2 ∷ Handle ∷ BasePush 1 ∷ Handle
    ∷ BaseTakes 1 ∷ BasePush 1 ∷ Handle ∷ SwitchTakes ∷ SwitchTakes ∷ SwitchTakes ∷ BaseTakes 2 ∷ AirDown 1
    ∷ Upper 1 Zero (hex "03 25") ∷ AirUp 1 Zero ∷ AirAck 1 Zero ∷ BasePush 2 ∷ Handle ∷ SwitchTakes ∷ []

abbrev moved_world : WorldState
moved_world = after_all (controlled_world eager_settings) moved

opener_of_moved : opener_in (controlled_world eager_settings).scene moved 1 ≡ Some 1
unfolding on_literals
opener_of_moved = refl

accepted_of_moved : accepted_list moved_world.scene 1 ≡ Some ((hex "05 24 71") ∷ (hex "03 05") ∷ (hex "03 01") ∷ (hex "03 0f") ∷ (hex "03 25") ∷ [])
unfolding on_literals
accepted_of_moved = refl

received_of_moved : received_list moved_world.scene 1 ≡ Some ((hex "83 07") ∷ [])
unfolding on_literals
received_of_moved = refl

all_of_moved_is_taken : moved_world.not_taken ≡ 0
unfolding on_literals
all_of_moved_is_taken = refl

-- ---- queues

-- what is in a queue, as the body of its frame; None the end of a link
abbrev text_of : What → Option (List ℕ)
text_of (whats.Frame frame) = Some frame.body
text_of whats.Down = None

abbrev body_of : Queued → Option (List ℕ)
body_of (message octets) = Some octets
body_of (entry line) = Some line.out.frame.body
body_of (item i) = text_of i.what

abbrev put_by : List Event → Queue → List (Option (List ℕ))
put_by events queue = map body_of (all_messages_put (controlled_world usual_settings).scene events queue)

abbrev taken_by : List Event → Queue → List (Option (List ℕ))
taken_by events queue = map body_of (all_messages_taken (controlled_world usual_settings).scene events queue)

abbrev left_by : List Event → Queue → List (Option (List ℕ))
left_by events queue = map body_of (messages_left (world_after events).scene queue)

abbrev kept_by : List Event → Queue → Bool
kept_by events queue = is_kept (world_after events).scene queue

-- the station's request, its activation acknowledgement still made; then its link breaks
abbrev broken_off : List Event
broken_off = Connect 1 1 (hex "05 24 71") true ∷ BasePush 1 ∷ Handle ∷ BaseTakes 1 ∷ Connect 2 1 (hex "05 24 71") true ∷ BasePush 1 ∷ BasePush 1 ∷ Handle ∷ BaseDown 1 ∷ []

abbrev required : List ℕ
required = hex "0c 13 01 88 13 01 00 00 11 00"

abbrev required_too : List ℕ
required_too = hex "0c 13 01 88 13 02 00 00 11 00"

abbrev activated : List ℕ
activated = hex "08 22 01 41 08 00 00"

put_into_inbox : put_by broken_off (inbox 1) ≡ Some required ∷ Some activated ∷ Some required_too ∷ None ∷ []
unfolding on_literals
put_into_inbox = refl

taken_from_inbox : taken_by broken_off (inbox 1) ≡ Some required ∷ Some activated ∷ []
unfolding on_literals
taken_from_inbox = refl

left_in_inbox : left_by broken_off (inbox 1) ≡ Some required_too ∷ None ∷ []
unfolding on_literals
left_in_inbox = refl

abbrev activation : List ℕ
activation = hex "08 21 01 41 03 00 06 04 00 03 01 00"

abbrev assignment : List ℕ
assignment =
    hex "0c 16 01 90 2b 17 2d 06 3f 00 41 20 14 01 00 00 00 00 2b 2b 2b 2b 2b 2b 2b 2b 2b 2b 2b"

put_into_outbox : put_by broken_off (outbox 1) ≡ Some activation ∷ Some assignment ∷ []
unfolding on_literals
put_into_outbox = refl

-- the second was lost with the link
taken_from_outbox : taken_by broken_off (outbox 1) ≡ Some activation ∷ []
unfolding on_literals
taken_from_outbox = refl

left_in_outbox : left_by broken_off (outbox 1) ≡ []
unfolding on_literals
left_in_outbox = refl

other_queues : map (put_by broken_off) (inbox 0 ∷ inbox 2 ∷ outbox 0 ∷ outbox 2 ∷ []) ≡ [] ∷ [] ∷ [] ∷ [] ∷ []
unfolding on_literals
other_queues = refl

which_are_kept : map (kept_by broken_off) (outbox 0 ∷ outbox 1 ∷ outbox 2 ∷ inbox 0 ∷ inbox 1 ∷ []) ≡ true ∷ false ∷ true ∷ true ∷ true ∷ []
unfolding on_literals
which_are_kept = refl

fixed_is_kept : map (is_kept (fixed_world 4).scene) (outbox 0 ∷ outbox 1 ∷ inbox 0 ∷ []) ≡ true ∷ true ∷ true ∷ []
fixed_is_kept = refl

-- the switch's outbox, and what the switch has of it
abbrev to_the_switch : List Event
to_the_switch = opening_by 1 1 ++ Upper 1 Zero (hex "03 05") ∷ AirUp 1 Zero ∷ BasePush 1 ∷ Handle ∷ []

abbrev request : List ℕ
request =
    hex "01 00 00 01 02 02 04 02 42 fe 0f 12 00 10 57 05 08 00 00 f1 10 00 01 00 01 17 03 05 24 71 00"

abbrev data_form : List ℕ
data_form = hex "06 80 00 01 00 01 05 01 00 02 03 45"

put_for_the_switch : put_by to_the_switch (outbox 0) ≡ Some request ∷ Some data_form ∷ []
unfolding on_literals
put_for_the_switch = refl

taken_by_the_switch : taken_by to_the_switch (outbox 0) ≡ Some request ∷ []
unfolding on_literals
taken_by_the_switch = refl

left_for_the_switch : left_by to_the_switch (outbox 0) ≡ Some data_form ∷ []
unfolding on_literals
left_for_the_switch = refl

switch_has_it :
    messages_of (switch_of 4 (all_messages_taken (controlled_world usual_settings).scene (to_the_switch ++ SwitchTakes ∷ []) (outbox 0)))
    ≡ ((hex "05 24 71") ∷ (hex "03 45") ∷ []) ∷ []
unfolding on_literals
switch_has_it = refl

-- ---- a break at each place of an opening: how much the switch accepted, and how much was sent

abbrev size : Option (List (List ℕ)) → ℕ
size None = 0
size (Some messages) = length messages

abbrev accepted_at : ℕ → ℕ → ℕ
accepted_at source place = size (accepted_list (world_after (broken (opening_by 1 1) place source)).scene 1)

abbrev sent_at : ℕ → ℕ → ℕ
sent_at source place = size (sent_list (world_after (broken (opening_by 1 1) place source)).scene 1)

abbrev places : List ℕ
places = 0 ∷ 1 ∷ 2 ∷ 3 ∷ 4 ∷ 5 ∷ 6 ∷ 7 ∷ 8 ∷ 9 ∷ 10 ∷ 11 ∷ 12 ∷ 13 ∷ 14 ∷ []

-- the link of the station: nothing is sent where it breaks first
accepted_of_station : map (accepted_at 1) places ≡ 0 ∷ 0 ∷ 0 ∷ 0 ∷ 0 ∷ 0 ∷ 0 ∷ 0 ∷ 0 ∷ 1 ∷ 1 ∷ 1 ∷ 1 ∷ 1 ∷ 1 ∷ []
unfolding on_literals
accepted_of_station = refl

sent_of_station : map (sent_at 1) places ≡ 0 ∷ 1 ∷ 1 ∷ 1 ∷ 1 ∷ 1 ∷ 1 ∷ 1 ∷ 1 ∷ 1 ∷ 1 ∷ 1 ∷ 1 ∷ 1 ∷ 1 ∷ []
unfolding on_literals
sent_of_station = refl

-- the link of the switch
accepted_of_switch : map (accepted_at 0) places ≡ 0 ∷ 0 ∷ 0 ∷ 0 ∷ 0 ∷ 0 ∷ 0 ∷ 0 ∷ 0 ∷ 0 ∷ 0 ∷ 1 ∷ 1 ∷ 1 ∷ 1 ∷ []
unfolding on_literals
accepted_of_switch = refl

sent_of_switch : map (sent_at 0) places ≡ 1 ∷ 1 ∷ 1 ∷ 1 ∷ 1 ∷ 1 ∷ 1 ∷ 1 ∷ 1 ∷ 1 ∷ 1 ∷ 1 ∷ 1 ∷ 1 ∷ 1 ∷ []
unfolding on_literals
sent_of_switch = refl
