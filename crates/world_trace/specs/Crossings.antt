-- SPDX-License-Identifier: MIT OR Apache-2.0
-- The frames that cross the links of the controller at an event: the frames that are taken from the
-- controller's queues, and the frames that join these queues.
use Rattle.std.specs.Prelude.{ℕ, zero, suc, ◌==◌, if◌then◌else◌, List, [], ◌∷◌}
use Rattle.std.specs.Prelude.{◌++◌, length, map}
use Rattle.std.specs.List.{flat_map}
use Rattle.conn_messages.specs.declared.parameters.TheConstants.{SWITCH_LINK}
use Rattle.ruled_relay.specs.declared.item.Item.{Item}
use Rattle.ruled_relay.specs.declared.item.What.{What}
use Rattle.ruled_relay.specs.declared.item.What.TheVariants as whats
use Rattle.world_model.specs.declared.event.Event.{Event}
use Rattle.world_model.specs.declared.event.Event.TheVariants.{BaseTakes, SwitchTakes}
use Rattle.world_model.specs.declared.line.OutboxEntry.{OutboxEntry}
use Rattle.world_model.specs.Queues.{popped, pushed, put, taken}
use Rattle.world_model.specs.World.{Actors}
use Rattle.world_trace.specs.declared.crossing.Crossing.{Crossing}
use Rattle.world_trace.specs.declared.crossing.End.{End}
use Rattle.world_trace.specs.declared.crossing.End.TheVariants.{Switch, Station, Controller}
use Rattle.world_trace.specs.declared.crossing.Passage.{Passage}
use Rattle.world_trace.specs.declared.crossing.Passage.TheVariants.{Sent, Got}

-- the end of a link that isn't the controller
abbrev pub far_end : ℕ → End
far_end link = if link == SWITCH_LINK then Switch else Station link

-- the crossing of an item's frame to the controller; the item of a broken link has no frame
abbrev pub up_by : Passage → ℕ → What → List Crossing
up_by passage source (whats.Frame frame) = record {
  passage = passage;
  from = far_end source;
  to = Controller;
  frame = frame;
} ∷ []
up_by passage source whats.Down = []

abbrev pub up : Passage → Item → List Crossing
up passage item = up_by passage item.source item.what

-- the crossing of an outbox entry's frame from the controller
abbrev pub down : Passage → OutboxEntry → Crossing
down passage entry = record {
  passage = passage;
  from = Controller;
  to = far_end entry.out.to;
  frame = entry.out.frame;
}

-- the frames that an event takes: the controller takes from its inbox, and the other end of a link
-- takes from the link's outbox
abbrev pub got : Actors → Event → List Crossing
got w (BaseTakes station) = map (down Got) (taken station w (BaseTakes station))
got w SwitchTakes = map (down Got) (taken SWITCH_LINK w SwitchTakes)
got w event = flat_map (up Got) (popped w event)

-- the frames that the controller puts at an event on the links whose numbers are below a bound,
-- link by link
abbrev pub put_below : ℕ → Actors → Event → List Crossing
put_below zero w event = []
put_below (suc link) w event = put_below link w event ++ map (down Sent) (put link w event)

-- the frames that an event puts on links: first the frames to the controller, then the frames from
-- the controller
abbrev pub sent : Actors → Event → List Crossing
sent w event = flat_map (up Sent) (pushed w event) ++ put_below (length w.links) w event

-- all frames that cross a link at an event: first the frames that are taken, then the frames that
-- are put on links
abbrev pub crossings : Actors → Event → List Crossing
crossings w event = got w event ++ sent w event
