-- SPDX-License-Identifier: MIT OR Apache-2.0
-- The queues of the relay: the items that events put into a queue, and the items taken from it.
use Rattle.std.specs.Prelude.{◌≡◌, ℕ, ◌==◌, Bool, true, if◌then◌else◌, is_some}
use Rattle.std.specs.Prelude.{List, [], ◌∷◌, ◌++◌}
use Rattle.std.specs.Prelude.{filter, map, option_to_list, None}
use Rattle.conn_messages.specs.declared.parameters.TheConstants.{SWITCH_LINK}
use Rattle.controller_model.specs.Life.{take, tick}
use Rattle.link_model.specs.Base.{first_message}
use Rattle.octets.specs.Lists.{IsPrefix}
use Rattle.ruled_relay.specs.declared.item.Item.{Item}
use Rattle.ruled_relay.specs.declared.item.What.TheVariants as whats
use Rattle.world_model.specs.declared.event.Event.{Event}
use Rattle.world_model.specs.declared.event.Event.TheVariants.{BaseTakes, BasePush, Handle}
use Rattle.world_model.specs.declared.event.Event.TheVariants.{SwitchTakes, Tick, BaseDown}
use Rattle.world_model.specs.declared.line.OutboxEntry.{OutboxEntry}
use Rattle.world_model.specs.Life.{event_after, actors_after, actors_after_all}
use Rattle.world_model.specs.Relay.{station_item, switch_item, entry_of, target_in}
use Rattle.world_model.specs.World.{Actors, is_up, outbox_of, base_of}

abbrev pub first_of : {X : Type 0} → List X → List X
first_of [] = []
first_of (first ∷ others) = first ∷ []

-- ---- the inbox

-- the item of the first message that a source made and that isn't in the inbox yet
abbrev pub made_item : Actors → ℕ → List Item
made_item w source =
    if source == SWITCH_LINK then map switch_item (first_of w.switch_made)
    else map (station_item source) (option_to_list (first_message (base_of w source)))

-- the items of all messages that a source made and that aren't in the inbox yet, in order
abbrev pub made_items : Actors → ℕ → List Item
made_items w source =
    if source == SWITCH_LINK then map switch_item w.switch_made
    else map (station_item source) (base_of w source).messages

-- the item that an event puts into the inbox: the item of a message that a source made, or the
-- `Down` item of a link that breaks
abbrev pub pushed : Actors → Event → List Item
pushed w (BasePush source) = made_item w source
pushed w (BaseDown source) =
    if is_up w source then record { source = source; what = whats.Down } ∷ [] else []
pushed w _ = []

-- the item that the controller handles at an event
abbrev pub popped : Actors → Event → List Item
popped w Handle = first_of w.inbox
popped w _ = []

abbrev pub all_pushed : Actors → List Event → List Item
all_pushed w [] = []
all_pushed w (event ∷ events) = pushed w event ++ all_pushed (actors_after w event) events

abbrev pub all_popped : Actors → List Event → List Item
all_popped w [] = []
all_popped w (event ∷ events) = popped w event ++ all_popped (actors_after w event) events

abbrev pub of_source : ℕ → List Item → List Item
of_source source items = filter (λ item. item.source == source) items

-- ---- the outbox of a link

-- the entries of the controller's outputs when it handles the first of these items
abbrev pub outputs_at : Actors → List Item → List OutboxEntry
outputs_at w [] = []
outputs_at w (item ∷ items) =
    map (entry_of (target_in w item.source item.what)) (take item w.controller).outs

abbrev pub outputs : Actors → Event → List OutboxEntry
outputs w Handle = outputs_at w w.inbox
outputs w (Tick ms) = map (entry_of None) (tick ms w.controller).outs
outputs w _ = []

abbrev pub to_link : ℕ → List OutboxEntry → List OutboxEntry
to_link link entries = filter (λ entry. entry.out.to == link) entries

-- the entries that an event puts into the outbox of a link; no entry if the link is down
abbrev pub put : ℕ → Actors → Event → List OutboxEntry
put link w event = if is_up w link then to_link link (outputs w event) else []

abbrev pub first_if : Bool → Actors → Event → ℕ → List OutboxEntry
first_if taker w event link =
    if taker then (if is_some (event_after w event) then first_of (outbox_of w link) else [])
    else []

-- the entry that the station or the switch at the other end of the link takes at an event
abbrev pub taken : ℕ → Actors → Event → List OutboxEntry
taken link w (BaseTakes station) = first_if (station == link) w (BaseTakes station) link
taken link w SwitchTakes = first_if (SWITCH_LINK == link) w SwitchTakes link
taken link w _ = []

abbrev pub all_put : ℕ → Actors → List Event → List OutboxEntry
all_put link w [] = []
all_put link w (event ∷ events) = put link w event ++ all_put link (actors_after w event) events

abbrev pub all_taken : ℕ → Actors → List Event → List OutboxEntry
all_taken link w [] = []
all_taken link w (event ∷ events) =
    taken link w event ++ all_taken link (actors_after w event) events

-- ---- each queue is first in, first out

pub record KeepsQueues (begin : Actors) (events : List Event) : Type 0 where
  -- The items put into the inbox are the items handled, followed by the items that are left. This
  -- also holds for the items of each source alone.
  pub inbox : all_pushed begin events
      ≡ all_popped begin events ++ (actors_after_all begin events).inbox
  pub sources : (source : ℕ) → of_source source (all_pushed begin events)
      ≡ of_source source (all_popped begin events)
      ++ of_source source (actors_after_all begin events).inbox
  -- The entries taken from an outbox are a prefix of the entries put into it. If the link is up,
  -- the entries put are those taken, followed by those that are left.
  pub outboxes : (link : ℕ) → IsPrefix (all_taken link begin events) (all_put link begin events)
  pub left : (link : ℕ) → is_up (actors_after_all begin events) link ≡ true
      → all_put link begin events ≡ all_taken link begin events
      ++ outbox_of (actors_after_all begin events) link
