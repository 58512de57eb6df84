-- SPDX-License-Identifier: MIT OR Apache-2.0
-- The order of messages, end to end, after any list of events. The messages of the flow that the
-- switch accepts on a connection are a prefix of those that the connection's mobile sent, each once
-- and in order. With a controller, the messages that the switch took on a connection begin with the
-- message with which its mobile connected. The messages that the switch sends are handed to the
-- mobile on the serving channel at most once, in order, and never while the mobile changes its
-- channel. Each relay queue is first in, first out.
use Rattle.std.specs.Prelude.{◌≡◌, ℕ, ◌≤◌, true, Option, Some, IsSome, List, ◌++◌}
use Rattle.octets.specs.Lists.{IsPrefix}
use Rattle.settings.specs.Parameters.{AreAllowed, Parameters}
use Rattle.world_laws.specs.Order.OctetEvents.{AreOctetEvents}
use Rattle.world_model.specs.declared.event.Event.{Event}
use Rattle.world.specs.declared.world.Scene.{Scene}
use Rattle.world.specs.declared.world.Scene.TheVariants.{Fixed, Controlled}
use Rattle.world.specs.Handing.{HandsInOrder}
use Rattle.world.specs.LineUp.{LinesUp}
use Rattle.world.specs.Openers.{IsOpenedByMessage, opener_in}
use Rattle.world.specs.Queues.{Queue, outbox, all_messages_put, all_messages_taken}
use Rattle.world.specs.Queues.{messages_left, is_kept, IsTakenBySwitch}
use Rattle.world.specs.Views.{sent_list, accepted_list, progress_in}
use Rattle.world.specs.World.{fixed_world, controlled_world, after_all}
use Rattle.world.specs.WorldState.{WorldState}

-- the worlds before any event: the fixed world, and the world of allowed settings, as `bsc` accepts
-- them
pub data Begins : WorldState → Type 0 where
  fixed : (m : ℕ) → 2 ≤ m → Begins (fixed_world m)
  controlled : (settings : Parameters) → AreAllowed settings → Begins (controlled_world settings)

-- In a world with a controller, the events carry octets, as all events of the code do. In the fixed
-- world, any events are allowed.
abbrev pub AreEventsFor : Scene → List Event → Type 0
AreEventsFor (Fixed world) events = Unit {0}
AreEventsFor (Controlled w) events = AreOctetEvents events

-- These events lead from the beginning `begin` to the world.
pub record IsMadeBy (begin : WorldState) (events : List Event) (world : WorldState) : Type 0 where
  pub begins : Begins begin
  pub octets : AreEventsFor begin.scene events
  pub made : world ≡ after_all begin events

-- the list is a prefix of the messages of the flow that the connection's mobile sent
pub record IsBeginningOfSent (begin : Scene) (events : List Event) (scene : Scene) (connection : ℕ)
    (list : List (List ℕ)) : Type 0 where
  pub mobile : ℕ
  pub opened : opener_in begin events connection ≡ Some mobile
  pub sent : List (List ℕ)
  pub is_sent : sent_list scene mobile ≡ Some sent
  pub is_prefix : IsPrefix list sent

-- The properties of the relay queues. In a world with a controller, the entries of an outbox are
-- lost when its link breaks.
pub record QueuesKeepOrder (begin : Scene) (events : List Event) (scene : Scene) : Type 0 where
  -- the elements taken out of a queue are a prefix of those put into it
  pub first_out : (queue : Queue)
      → IsPrefix (all_messages_taken begin events queue) (all_messages_put begin events queue)
  -- the elements put and not taken are left in the queue, unless the queue's link broke
  pub left : (queue : Queue) → is_kept scene queue ≡ true
      → all_messages_put begin events queue ≡
      all_messages_taken begin events queue ++ messages_left scene queue
  -- the messages that the switch took are those taken out of its outbox
  pub switch : IsTakenBySwitch scene (all_messages_taken begin events (outbox 0))

-- the properties of the scene to which these events lead from `begin`
pub record IsInOrder (begin : Scene) (events : List Event) (scene : Scene) : Type 0 where
  -- the messages that the switch accepts on a connection are a prefix of those that its mobile sent
  pub accepted : (connection : ℕ) (list : List (List ℕ))
      → accepted_list scene connection ≡ Some list
      → IsBeginningOfSent begin events scene connection list
  -- the messages that the switch took on a connection begin with the message with which the
  -- connection's opener connected
  pub opened : IsOpenedByMessage begin events
  -- the switch's filter judges no gap
  pub no_gap : (connection : ℕ) (progress : Option ℕ)
      → progress_in scene connection ≡ Some progress → IsSome progress
  -- the invariant from which the order follows: the places of the mobile's messages rise, lined up
  -- from the switch down to the mobile
  pub line_up : LinesUp begin events scene
  -- the messages that the switch sends are handed to the mobile in order, and after CLEAR COMPLETE
  -- only RLC is put for the switch
  pub handed : HandsInOrder begin events
  -- each relay queue is first in, first out
  pub queues : QueuesKeepOrder begin events scene
