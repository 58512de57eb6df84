-- SPDX-License-Identifier: MIT OR Apache-2.0
-- The result of the call worker: the ends of the links' queues, and a fault.
use Rattle.std.specs.Prelude.{◌≡◌, List, [], ◌∷◌, ◌++◌, length, Option, Some, None}
use mathlib.Core.Option.{some}
use lib.ListN.{get_elem?}
use Rattle.controller_worker.specs.Call.{Serves}
use Rattle.controller_worker.specs.Moves.{Move, steps_of, taken_of}
use Rattle.controller_worker.specs.Steps.{AreOfLinks}
use Rattle.controller_worker.specs.Taking.{HasTaken}
use Rattle.controller_model.specs.Controller.{Controller}
use Rattle.link_workers.specs.declared.fault.IoFault.{IoFault}
use Rattle.link_workers.specs.declared.fault.IoFault.TheVariants.{Memory}
use Rattle.ruled_relay.specs.declared.outbox.Line.{Line}
use Rattle.ruled_relay.specs.declared.outbox.Line.TheVariants.{End}
use Rattle.ruled_relay.specs.Outbox.{PutterView}
use Rattle.ruled_relay.specs.Row.{EachAt, Row}

-- A run of the call worker without a fault. All items that the call worker took from the desk are
-- in its moves. The clock and the controller are dropped.
pub record Runs (start : Controller) (desk : Row) (putters : List PutterView) (left : Row)
    (ended : List PutterView) : Type 0 where
  pub moves : List Move
  pub taken : HasTaken desk (taken_of moves) left
  pub count : length ended ≡ length putters
  pub of_links : AreOfLinks (length putters) (steps_of moves)
  pub links : EachAt ended (λ number p.
      (before : PutterView) × (get_elem? putters number ≡ some before)
      × Serves None start moves number before p)

-- End was the last line put
abbrev pub HasEnd : PutterView → Type 0
HasEnd p = (before : List Line) × (p.put ≡ before ++ End ∷ [])

-- Without a fault the call worker has run. With a fault, memory ran out, and End is the last line
-- put into each outbox, so that each writer ends.
abbrev pub Calls : Controller → Row → List PutterView → Option IoFault → Row → List PutterView
    → Type 0
Calls start desk putters None left ended = Runs start desk putters left ended
Calls start desk putters (Some fault) left ended =
    (fault ≡ Memory) × (length ended ≡ length putters) × EachAt ended (λ number p. HasEnd p)
