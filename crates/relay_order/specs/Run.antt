-- SPDX-License-Identifier: MIT OR Apache-2.0
-- A run of the relay, stated on the octets of its links: which octets arrived from each link, which
-- were written to each link, and in which order the controller took the items.
use Rattle.std.specs.Prelude.{◌≡◌, ℕ, ◌≤◌, ◌<◌, List, [], length}
use Rattle.std.specs.Io.KnownBytes.{Appends, Consumes}
use mathlib.Core.Option.{some}
use lib.ListN.{get_elem?}
use Rattle.controller_model.specs.Controller.{new_controller}
use Rattle.controller_model.specs.declared.step.Step.{Step}
use Rattle.octets.specs.Lists.{IsPrefix}
use Rattle.settings.specs.Parameters.{Parameters}
use Rattle.station_io.specs.Links.{Ended, LinkView}
use Rattle.station_io.specs.Octets.{AreFirstOf, Came, Next, PassesOctets, merged, octets_put}

-- A run. Link 0 is the switch's, and link N is that of station N.
pub record Run : Type 0 where
  -- the octets that arrived from each link
  pub read : ℕ → List ℕ
  -- the octets that were written to each link
  pub written : ℕ → List ℕ
  -- the items that the controller took from each link
  pub came : Came
  -- the order of the controller's steps: taking the next item of a link, or letting time pass
  pub order : List Next

-- the steps of the run's controller
abbrev pub steps_of_run : Run → List Step
steps_of_run run = merged run.order run.came

-- The run is one between this many links, with a new controller of these settings. From each link,
-- the controller took the first frames of the octets that arrived, then the end of the link. The
-- octets written to each link are a beginning of those that the controller put for the link.
pub record IsRun (settings : Parameters) (links : ℕ) (run : Run) : Type 0 where
  pub first : (link : ℕ) → link < links → AreFirstOf (run.read link) (run.came link)
  pub others : (link : ℕ) → links ≤ link → run.came link ≡ []
  pub part : (link : ℕ) → link < links
      → IsPrefix (run.written link)
      (octets_put (new_controller settings) run.order run.came link)
  pub no_others : (link : ℕ) → links ≤ link → run.written link ≡ []

-- The links show the run: `links` are the links at the start of `serve_links`, `ended` those that
-- it gave back. For each link, the octets unread at the start are those read in the run, followed
-- by those unread at the end. The octets written to the link at the end are those written before
-- the run, followed by those written in the run.
abbrev pub IsShownBy : Run → List LinkView → List Ended → Type 0
IsShownBy run links ended =
    (number : ℕ) (old : LinkView) (now : Ended)
    → get_elem? links number ≡ some old → get_elem? ended number ≡ some now
    → Consumes old.unread now.link.unread (run.read number)
    × Appends old.written now.link.written (run.written number)

-- For any links that `serve_links` was given and gave back, there is a run that these links show.
abbrev pub RunsAreShown : Type 0
RunsAreShown =
    (settings : Parameters) (links : List LinkView) (ended : List Ended)
    → length ended ≡ length links → PassesOctets (new_controller settings) links ended
    → (run : Run) × IsShownBy run links ended × IsRun settings (length links) run
