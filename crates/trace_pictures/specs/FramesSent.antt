-- SPDX-License-Identifier: MIT OR Apache-2.0
-- The frames that events put on the links of the controller, and their times.
use Rattle.std.specs.Prelude.{ℕ, ◌+◌, ◌%◌, List, [], ◌∷◌, ◌++◌}
use Rattle.std.specs.List.{flat_map}
use Rattle.frame_pictures.specs.declared.link_frame.End.{End}
use Rattle.frame_pictures.specs.declared.link_frame.End.TheVariants as ends
use Rattle.frame_pictures.specs.declared.link_frame.LinkFrame.{LinkFrame}
use Rattle.world_model.specs.declared.event.Event.{Event}
use Rattle.world_model.specs.declared.event.Event.TheVariants.{Tick}
use Rattle.world_model.specs.Life.{actors_after}
use Rattle.world_model.specs.World.{Actors}
use Rattle.world_trace.specs.declared.crossing.Crossing.{Crossing}
use Rattle.world_trace.specs.declared.crossing.End.{End as TraceEnd}
use Rattle.world_trace.specs.declared.crossing.End.TheVariants.{Switch, Station, Controller}
use Rattle.world_trace.specs.declared.crossing.Passage.{Passage}
use Rattle.world_trace.specs.declared.crossing.Passage.TheVariants.{Made, Sent, Got}
use Rattle.world_trace.specs.Crossings.{crossings}

abbrev pub end_of : TraceEnd → End
end_of Switch = ends.Switch
end_of (Station number) = ends.Station number
end_of Controller = ends.Controller

abbrev pub link_frame : ℕ → Crossing → LinkFrame
link_frame ms crossing = record {
  ms = ms;
  from = end_of crossing.from;
  to = end_of crossing.to;
  frame = crossing.frame;
}

-- the frame of a crossing, if the frame is put on a link; a frame that is taken from a link was put
-- on it before
abbrev pub put_by : ℕ → Passage → Crossing → List LinkFrame
put_by ms Sent crossing = link_frame ms crossing ∷ []
put_by ms Made crossing = []
put_by ms Got crossing = []

abbrev pub put_at : ℕ → Crossing → List LinkFrame
put_at ms crossing = put_by ms crossing.passage crossing

-- the time after an event: the sum of the ticks so far, in milliseconds, modulo 2 to the 64
abbrev pub time_after : ℕ → Event → ℕ
time_after ms (Tick more) = (ms + more) % 18446744073709551616
time_after ms event = ms

-- the frames that these events put on links, if they begin in the world `w` at the time `ms`
abbrev pub frames_sent : Actors → ℕ → List Event → List LinkFrame
frames_sent w ms [] = []
frames_sent w ms (event ∷ events) =
    flat_map (put_at (time_after ms event)) (crossings w event)
    ++ frames_sent (actors_after w event) (time_after ms event) events
