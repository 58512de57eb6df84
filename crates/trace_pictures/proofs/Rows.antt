-- SPDX-License-Identifier: MIT OR Apache-2.0
-- The frames that the first events of a mobile put on links, each with its time, the times after
-- events, and the numbers of lines.
use Rattle.std.proofs.Common.{◌≡◌, [], ◌∷◌, true, refl}
use Rattle.octets.proofs.Hex.{hex}
use Rattle.controller_model.proofs.Lives.{usual_settings}
use Rattle.frame_pictures.specs.declared.link_frame.End.TheVariants as ends
use Rattle.world_model.specs.declared.event.Event.TheVariants.{Connect, BasePush, Handle, BaseTakes, Tick}
use Rattle.world_model.specs.World.{new_world}
use Rattle.world_model.proofs.Worlds.{on_literals}
use Rattle.world_trace.specs.declared.crossing.End.TheVariants.{Switch, Station, Controller}
use Rattle.trace_pictures.specs.FramesSent.{end_of, frames_sent, time_after}
use Rattle.trace_pictures.specs.Numbered.{line_numbers}

-- CHANNEL REQUIRED at 7 ms, CHANNEL ACTIVATION at 12; what is taken is no frame more
access : frames_sent (new_world usual_settings).actors 0
    (Tick 7 ∷ Connect 1 1 (hex "05 24 71") true ∷ BasePush 1 ∷ Tick 5 ∷ Handle ∷ BaseTakes 1 ∷ [])
    ≡ record { ms = 7; from = ends.Station 1; to = ends.Controller; frame = record { stream = 0; body = hex "0c 13 01 88 13 01 00 00 11 00" } }
    ∷ record { ms = 12; from = ends.Controller; to = ends.Station 1; frame = record { stream = 0; body = hex "08 21 01 41 03 00 06 04 00 03 01 00" } } ∷ []
unfolding on_literals
access = refl

-- an event that isn't taken puts nothing
nothing_put : frames_sent (new_world usual_settings).actors 3 (BasePush 1 ∷ Handle ∷ BaseTakes 2 ∷ []) ≡ []
unfolding on_literals
nothing_put = refl

behind_a_tick : time_after 40 (Tick 2) ≡ 42
behind_a_tick = refl

behind_another : time_after 40 Handle ≡ 40
behind_another = refl

switch_end : end_of Switch ≡ ends.Switch
switch_end = refl

station_end : end_of (Station 7) ≡ ends.Station 7
station_end = refl

controller_end : end_of Controller ≡ ends.Controller
controller_end = refl

no_lines : line_numbers 0 ≡ []
unfolding line_numbers
no_lines = refl

three_lines : line_numbers 3 ≡ 1 ∷ 2 ∷ 3 ∷ []
unfolding line_numbers
three_lines = refl
