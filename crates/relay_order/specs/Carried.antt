-- SPDX-License-Identifier: MIT OR Apache-2.0
-- The premise `Explains` can be fulfilled: the events of any world, carried on until the world's
-- links have ended, explain a run of the relay.
use Rattle.std.specs.Prelude.{◌≡◌, ℕ, ◌+◌, List, length}
use Rattle.controller_model.specs.Controller.{new_controller}
use Rattle.link_workers.specs.Reading.{frames_text}
use Rattle.octets.specs.Lists.{IsPrefix}
use Rattle.relay_order.specs.Explains.{Explains, frames_given}
use Rattle.relay_order.specs.Run.{IsRun, IsShownBy, Run}
use Rattle.settings.specs.Parameters.{AreAllowed, Parameters}
use Rattle.station_io.specs.Links.{Ended, LinkView}
use Rattle.station_io.specs.Octets.{PassesOctets}
use Rattle.world_laws.specs.Order.OctetEvents.{AreOctetEvents}
use Rattle.world_model.specs.declared.event.Event.{Event}

-- The list `all` begins with `events` and carries them on until the world's links have ended. The
-- events of `all` explain a run of the relay, as the fields say.
pub record IsCarriedOn (settings : Parameters) (events all : List Event) : Type 0 where
  pub begins : IsPrefix events all
  -- There is a run of `serve_links` between the switch's link and a link for each cell.
  pub links : List LinkView
  pub ended : List Ended
  pub each : length links ≡ length settings.cells + 1
  pub passes : PassesOctets (new_controller settings) links ended
  -- The octets and the order of this run are those of `run`.
  pub run : Run
  pub shown : IsShownBy run links ended
  pub order : passes.0 ≡ run.order
  pub came : passes.1 ≡ run.came
  pub is_run : IsRun settings (length links) run
  -- All octets that the network gave arrived in the run, and the events explain the run.
  pub whole : (link : ℕ) → run.read link ≡ frames_text (frames_given settings all link)
  pub explains : Explains settings run all

-- The events of any world can be carried on so that they explain a run. Assumes: `bsc` accepts the
-- settings, and the texts of the events are octets.
abbrev pub EventsExplainRuns : Type 0
EventsExplainRuns =
    (settings : Parameters) (events : List Event) → AreAllowed settings → AreOctetEvents events
    → (all : List Event) × IsCarriedOn settings events all
