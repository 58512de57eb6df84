-- SPDX-License-Identifier: MIT OR Apache-2.0
-- The relay queues of a world, and the history of each over a list of events.
use Rattle.std.specs.Prelude.{◌≡◌, ℕ, ◌==◌, Bool, true, List, [], ◌∷◌, ◌++◌}
use Rattle.std.specs.Prelude.{fold}
use Rattle.std.specs.Prelude.{map, option_to_list, Option, Some, None, if◌then◌else◌}
use Rattle.bssmap_codec.specs.declared.sccp.Sccp.{Sccp}
use Rattle.dtap_codec.specs.declared.sapi.Sapi.TheVariants.{Zero}
use Rattle.msc_end.specs.Switch.{after as switch_after}
use Rattle.msc_end.specs.SwitchState.{SwitchState}
use Rattle.ruled_relay.specs.declared.item.Item.{Item}
use Rattle.world_model.specs.declared.event.Event.{Event}
use Rattle.world_model.specs.declared.event.Event.TheVariants.{AirUp, SwitchTakes}
use Rattle.world_model.specs.declared.line.OutboxEntry.{OutboxEntry}
use Rattle.world_model.specs.Queues.{put, taken, pushed, popped, of_source}
use Rattle.world_model.specs.SwitchSide.{sccp_in}
use Rattle.world_model.specs.World.{Actors, is_up, outbox_of}
use Rattle.world.specs.declared.fixed.TheConstants.{FIXED_MOBILE}
use Rattle.world.specs.declared.world.Scene.{Scene}
use Rattle.world.specs.declared.world.Scene.TheVariants.{Fixed, Controlled}
use Rattle.world.specs.FixedState.{FixedState}
use Rattle.world.specs.Fixed.{frame_up}
use Rattle.world.specs.World.{actors_after}

-- a queue: the outbox of a link, where link 0 is that of the switch; or the items of one source in
-- the inbox
pub data Queue : Type 0 where
  outbox : ℕ → Queue
  inbox : ℕ → Queue

-- An element of a queue. In the fixed world it is a message. In a world with a controller it is an
-- entry that the controller put for a link, or an item that arrives at the controller.
pub data Queued : Type 0 where
  message : List ℕ → Queued
  entry : OutboxEntry → Queued
  item : Item → Queued

-- these messages as elements of the switch's outbox; no elements if the queue is another one
abbrev pub in_switch_outbox : Queue → List (List ℕ) → List Queued
in_switch_outbox (outbox link) messages = if link == 0 then map message messages else []
in_switch_outbox (inbox source) messages = []

-- the message that an event of the fixed world puts into the switch's outbox: the frame that the
-- station takes from the mobile
abbrev pub fixed_messages_put : FixedState → Event → List (List ℕ)
fixed_messages_put world (AirUp mobile Zero) =
    if mobile == FIXED_MOBILE then option_to_list (frame_up world) else []
fixed_messages_put world _ = []

-- the first of these messages; the empty list if there is none
abbrev pub first_of : List (List ℕ) → List (List ℕ)
first_of [] = []
first_of (first ∷ others) = first ∷ []

-- the message that the switch of the fixed world takes out of its outbox at an event
abbrev pub fixed_messages_taken : FixedState → Event → List (List ℕ)
fixed_messages_taken world SwitchTakes = first_of world.outbox
fixed_messages_taken world _ = []

-- the elements that an event puts into a queue in a world with a controller
abbrev pub controlled_put : Actors → Event → Queue → List Queued
controlled_put w event (outbox link) = map entry (put link w event)
controlled_put w event (inbox source) = map item (of_source source (pushed w event))

abbrev pub controlled_taken : Actors → Event → Queue → List Queued
controlled_taken w event (outbox link) = map entry (taken link w event)
controlled_taken w event (inbox source) = map item (of_source source (popped w event))

abbrev pub controlled_left : Actors → Queue → List Queued
controlled_left w (outbox link) = map entry (outbox_of w link)
controlled_left w (inbox source) = map item (of_source source w.inbox)

-- the elements that an event puts into a queue
abbrev pub messages_put : Scene → Event → Queue → List Queued
messages_put (Fixed world) event queue = in_switch_outbox queue (fixed_messages_put world event)
messages_put (Controlled w) event queue = controlled_put w event queue

-- the elements that an event takes out of a queue
abbrev pub messages_taken : Scene → Event → Queue → List Queued
messages_taken (Fixed world) event queue = in_switch_outbox queue (fixed_messages_taken world event)
messages_taken (Controlled w) event queue = controlled_taken w event queue

-- the elements in a queue
abbrev pub messages_left : Scene → Queue → List Queued
messages_left (Fixed world) queue = in_switch_outbox queue world.outbox
messages_left (Controlled w) queue = controlled_left w queue

-- whether a queue still has its elements: the outbox of a link that is down has lost them
abbrev pub is_kept : Scene → Queue → Bool
is_kept (Controlled w) (outbox link) = is_up w link
is_kept scene queue = true

-- all elements that these events put into a queue, in order
abbrev pub all_messages_put : Scene → List Event → Queue → List Queued
all_messages_put scene [] queue = []
all_messages_put scene (event ∷ events) queue =
    messages_put scene event queue ++ all_messages_put (actors_after scene event) events queue

abbrev pub all_messages_taken : Scene → List Event → Queue → List Queued
all_messages_taken scene [] queue = []
all_messages_taken scene (event ∷ events) queue =
    messages_taken scene event queue ++ all_messages_taken (actors_after scene event) events queue

-- the switch after a message; unchanged if there is no message
abbrev pub switch_by : SwitchState → Option Sccp → SwitchState
switch_by switch None = switch
switch_by switch (Some sccp) = switch_after switch sccp

-- the switch after it takes an element of its outbox
abbrev pub switch_at : SwitchState → Queued → SwitchState
switch_at switch (entry line) = switch_by switch (sccp_in line.out.frame)
switch_at switch _ = switch

abbrev pub switch_of : ℕ → List Queued → SwitchState
switch_of m taken = fold switch_at (record { modulus = m; connections = [] }) taken

abbrev pub messages_of : SwitchState → List (List (List ℕ))
messages_of switch = map (λ c. c.reception.taken) switch.connections

-- The messages that the switch took on its connections are those that the elements taken out of its
-- outbox give.
abbrev pub IsTakenBySwitch : Scene → List Queued → Type 0
IsTakenBySwitch (Fixed world) taken = taken ≡ map message world.switch.taken
IsTakenBySwitch (Controlled w) taken =
    messages_of w.switch ≡ messages_of (switch_of w.switch.modulus taken)
