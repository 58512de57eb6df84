-- SPDX-License-Identifier: MIT OR Apache-2.0
-- A run of the call worker: a list of moves, and which items each link gave and which frames it got
-- in these moves.
use Rattle.std.specs.Prelude.{◌≡◌, ℕ, ◌+◌, ◌<◌, ◌≤◌, Bool, List, []}
use Rattle.std.specs.Prelude.{◌∷◌, ◌++◌, length}
use Rattle.std.specs.Prelude.{replicate, Option, Some, None}
use mathlib.Core.Option.{some}
use lib.ListN.{get_elem?}
use Rattle.controller_worker.specs.declared.call.HasRelayed.{HasRelayed}
use Rattle.controller_worker.specs.declared.limits.TheConstants.{TICK_MS}
use Rattle.controller_worker.specs.declared.mark.Marks.{Marks}
use Rattle.controller_worker.specs.Advancing.{unmarked}
use Rattle.controller_worker.specs.Links.{HasDown, is_given_up, lines}
use Rattle.controller_worker.specs.Moves.{IsSent, Move, parts_of, steps_of, taken_of}
use Rattle.controller_worker.specs.Steps.{AreOfLinks, over, ticked, whats_of}
use Rattle.controller_worker.specs.Stopping.{StopsAt}
use Rattle.controller_worker.specs.Taking.{HasTaken}
use Rattle.controller_model.specs.Controller.{Controller}
use Rattle.ipa_framing.specs.declared.frame.Frame.{Frame}
use Rattle.link_workers.specs.declared.fault.IoFault.{IoFault}
use Rattle.link_workers.specs.declared.fault.IoFault.TheVariants as faults
use Rattle.ruled_relay.specs.declared.item.Item.{Item}
use Rattle.ruled_relay.specs.declared.outbox.Line.TheVariants as marks
use Rattle.ruled_relay.specs.Outbox.{PutterView}
use Rattle.ruled_relay.specs.Row.{EachAt, Row}

-- no line was put into the outbox yet, and the outbox refused none
abbrev pub IsNew : PutterView → Type 0
IsNew p = (p.put ≡ []) × (p.refused ≡ 0) × (p.refusals ≡ 0)

abbrev pub AreNew : List PutterView → Type 0
AreNew putters = EachAt putters (λ link p. IsNew p)

-- the marks of this many links, in which nothing is remembered yet
abbrev pub AreUnmarked : ℕ → Marks → Type 0
AreUnmarked links marks = marks.of_links.items ≡ replicate links unmarked

-- What holds of one link after a run with these moves. The frames that were sent to the link were
-- put into its outbox, then `End`. The `Down` of the link was added only if its outbox was given
-- up; if the run ended without a fault, it was added exactly then. If the run ended without a
-- fault, a `Down` of the link was taken.
pub record Serves (fault : Option IoFault) (start : Controller) (moves : List Move) (link : ℕ)
    (old new : PutterView) : Type 0 where
  pub queue : new.queue ≡ old.queue
  pub sent : List Frame
  pub put : new.put ≡ lines sent ++ marks.End ∷ []
  pub added : Bool
  pub which : IsSent (is_given_up new) added link (parts_of link start moves) sent
  pub whole : fault ≡ None → added ≡ is_given_up new
  pub down : fault ≡ None → HasDown (whats_of link (taken_of moves))

-- the parts that the call worker is given and that it gives back
pub record Parts : Type 0 where
  pub controller : Controller
  pub desk : Row
  pub putters : List PutterView
  -- the milliseconds that the clock has told
  pub told : ℕ

-- the parts that the call worker gives back; `told` gives the milliseconds that a clock has told
abbrev pub relayed_parts : {K : Type 0} → (K → ℕ) → HasRelayed K → Parts
relayed_parts told r = record {
  controller = r.controller;
  desk = r.desk;
  putters = r.putters.items;
  told = told r.clock;
}

-- A run of the call worker that ended with this fault, or without a fault. The moves contain all
-- items that were taken, except at most one: the last item, if its step ran out of memory. If there
-- is a fault, the run ended at a step that may need memory. That step is the one of the last item,
-- if the moves lack it; otherwise it is a tick of the remaining time, or the `Down` of a link whose
-- outbox was given up. The item of each step belongs to a link. The time of the ticks and the
-- remaining time add up to the time that the clock told during the run. If there is no fault, less
-- time than a tick remains.
pub record Runs (fault : Option IoFault) (old new : Parts) : Type 0 where
  pub moves : List Move
  pub controller : new.controller ≡ (over old.controller (steps_of moves)).next
  pub last : List Item
  pub desk : HasTaken old.desk (taken_of moves ++ last) new.desk
  pub one : length last ≤ 1
  pub none : fault ≡ None → last ≡ []
  pub gathered : ℕ
  pub told : new.told ≡ old.told + ticked (steps_of moves) + gathered
  pub stops : (fault ≡ None → ⊥) → StopsAt last gathered new.putters new.controller
  pub tick : fault ≡ None → gathered < TICK_MS
  pub count : length new.putters ≡ length old.putters
  pub of_links : AreOfLinks (length old.putters) (steps_of moves)
  pub links : EachAt new.putters (λ link p.
      (before : PutterView) × (get_elem? old.putters link ≡ some before)
      × Serves fault old.controller moves link before p)

abbrev pub IsMemory : Option IoFault → Type 0
IsMemory None = Unit {0}
IsMemory (Some fault) = fault ≡ faults.Memory
