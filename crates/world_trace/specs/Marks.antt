-- SPDX-License-Identifier: MIT OR Apache-2.0
-- The lengths of the controller's queues, and the frames beyond these lengths.
use Rattle.std.specs.Prelude.{◌≡◌, ℕ, zero, suc, ◌<◌, List, [], ◌++◌, length, map}
use Rattle.std.specs.Prelude.{if◌then◌else◌}
use Rattle.std.specs.Prelude.{drop}
use Rattle.std.specs.Prelude.{slice_index}
use Rattle.std.specs.List.{flat_map}
use Rattle.conn_messages.specs.declared.parameters.TheConstants.{SWITCH_LINK}
use Rattle.world_model.specs.declared.event.Event.{Event}
use Rattle.world_model.specs.declared.event.Event.TheVariants.{BaseTakes, Handle, SwitchTakes}
use Rattle.world_model.specs.Queues.{first_of}
use Rattle.world_model.specs.World.{Actors, outbox_of}
use Rattle.world_trace.specs.declared.crossing.Crossing.{Crossing}
use Rattle.world_trace.specs.declared.crossing.Passage.TheVariants.{Sent, Got}
use Rattle.world_trace.specs.declared.sent.Marks.{Marks}
use Rattle.world_trace.specs.Crossings.{up, down}
use Rattle.world_trace.specs.Turns.{is_turn}

-- the frame that an event takes if the event can be taken
abbrev pub waiting : Actors → Event → List Crossing
waiting w Handle = flat_map (up Got) (first_of w.inbox)
waiting w (BaseTakes station) = map (down Got) (first_of (outbox_of w station))
waiting w SwitchTakes = map (down Got) (first_of (outbox_of w SWITCH_LINK))
waiting w _ = []

-- the number of links whose outboxes an event may add to
abbrev pub links_at : Actors → Event → ℕ
links_at w event = if is_turn event then length w.links else 0

-- the marks are the lengths of the queues; the outboxes are left out if the event adds nothing to
-- them
pub record AreMarks (w : Actors) (event : Event) (marks : Marks) : Type 0 where
  pub inbox : marks.inbox ≡ length w.inbox
  pub links : length marks.outboxes.items ≡ links_at w event
  pub outboxes : (link : ℕ) → link < length marks.outboxes.items
      → slice_index marks.outboxes.items link ≡ length (outbox_of w link)

-- the frames beyond these marks in the outboxes of the links whose numbers are below a bound
abbrev pub behind_below : ℕ → List ℕ → Actors → List Crossing
behind_below zero marks w = []
behind_below (suc link) marks w =
    behind_below link marks w
    ++ map (down Sent) (drop (slice_index marks link) (outbox_of w link))

-- the frames beyond the marks in all queues
abbrev pub behind : Marks → Actors → List Crossing
behind marks w =
    flat_map (up Sent) (drop marks.inbox w.inbox)
    ++ behind_below (length marks.outboxes.items) marks.outboxes.items w
