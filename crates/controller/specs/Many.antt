-- SPDX-License-Identifier: MIT OR Apache-2.0
-- Events that may concern all connections: which connections do a step, and the effect of these
-- steps on the controller.
use Rattle.std.specs.Prelude.{◌≡◌, ◌≢◌, ℕ, List, [], ◌∷◌, find, length, Option}
use Rattle.std.specs.Prelude.{Some, None}
use Rattle.std.specs.List.{AllByRecursion, flat_map}
use Rattle.conn_fsm.specs.Doing.{IsAsPlanned, IsPlanned, outs_in}
use Rattle.conn_fsm.specs.PlanState.{PlanState}
use Rattle.conn_rules.specs.declared.input.Input.{Input}
use Rattle.conn_rules.specs.Connection.{Connection}
use Rattle.conn_rules.specs.Table.{row_of}
use Rattle.conn_rules.specs.Timers.{after_pass}
use Rattle.controller.specs.declared.many.Cause.{Cause}
use Rattle.controller.specs.declared.many.Cause.TheVariants.{Time, Break}
use Rattle.controller_model.specs.Controller.{Controller, Entry, Turn, entry_of, has_number}
use Rattle.controller_model.specs.Life.{break_of, concerning_too, expiry}
use Rattle.settings.specs.declared.timers.Timers.{Timers}

-- a step that a connection is to do: the connection's number, the connection when the step was
-- planned, and the input
pub record Due : Type 0 where
  pub number : ℕ
  pub was : Connection
  pub input : Input

-- the input that a cause gives to a connection: an expiry if a timer has expired after the time
-- that passes, or the break of a link, which every connection gets
abbrev pub due : Cause → Timers → Connection → Option Input
due (Time ms) timers s = expiry timers (after_pass ms s)
due (Break source) timers s = Some (break_of source)

abbrev pub due_with : Option Input → Connection → List Due
due_with None s = []
due_with (Some input) s = record { number = s.number; was = s; input = input } ∷ []

abbrev pub due_of : Cause → Timers → Connection → List Due
due_of cause timers s = due_with (due cause timers s) s

abbrev pub all_due : Cause → Timers → List Entry → List Due
all_due cause timers es = flat_map (λ e. due_of cause timers e.connection) es

-- a planned step of the connection with this number
pub record PlannedState : Type 0 where
  pub number : ℕ
  pub plan : PlanState

-- the plan's input may be planned, and the plan's frames are those of the row that fits
pub record IsRow (plan : PlanState) : Type 0 where
  pub input : IsPlanned plan.input
  pub frames : plan.outs ≡ outs_in (row_of plan.was plan.input None) plan.was.number

abbrev pub planned_for : PlannedState → Due
planned_for one = record { number = one.number; was = one.plan.was; input = one.plan.input }

abbrev pub frames_of : PlannedState → ℕ
frames_of one = length one.plan.outs

-- the turn in which the connection takes the input in its current state
abbrev pub carried_out : Controller → Due → Turn
carried_out c d = concerning_too d.input c (entry_of c d.number)

-- the connection exists and nothing but its timers has changed since the plan
abbrev pub IsReadyFor : Connection → Option Entry → Type 0
IsReadyFor was None = ⊥
IsReadyFor was (Some e) = IsAsPlanned was e.connection

-- each connection that is to do a step is ready for it, and none is in the list twice
abbrev pub AreReady : List Due → List Entry → Type 0
AreReady [] es = Unit {0}
AreReady (d ∷ ds) es =
    IsReadyFor d.was (find (has_number d.number) es)
    × AllByRecursion (λ (other : Due). other.number ≢ d.number) ds × AreReady ds es
