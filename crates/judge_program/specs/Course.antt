-- SPDX-License-Identifier: MIT OR Apache-2.0
-- The connections of a controller after each line, up to the first bad line.
use Rattle.std.specs.Prelude.{List, [], ◌∷◌, ◌++◌, Option, Some, None}
use Rattle.std.specs.Prelude.{Result, Ok, Err}
use Rattle.judge_lines.specs.declared.fault.LineFault.{LineFault}
use Rattle.judge_lines.specs.declared.line.Line.{Line}
use Rattle.judge_lines.specs.declared.line.Line.TheVariants.{Frame, Hole, Other}
use Rattle.judge_orders.specs.declared.judged.Judged.{Judged}
use Rattle.judge_orders.specs.Orders.{judged_at_hole, judged_by, orders_after, orders_after_hole}
use Rattle.judge_orders.specs.OrdersState.{OrdersState}
use Rattle.run_judge.specs.Reading.{said_by}

-- The state after a line.
abbrev pub after_line : Line → OrdersState → OrdersState
after_line (Frame f) o = orders_after f.number (said_by f.link f.way f.body) o
after_line (Hole number) o = orders_after_hole number o
after_line Other o = o

-- The connections whose verdicts are final after a line.
abbrev pub ended_at : Line → OrdersState → List Judged
ended_at (Frame f) o = judged_by f.number (said_by f.link f.way f.body) o
ended_at (Hole number) o = judged_at_hole o
ended_at Other o = []

-- The result of lines: the connections that ended, in order; the state that is left; and the fault
-- of the first bad line. Lines after the bad line don't count.
pub record Course : Type 0 where
  pub ended : List Judged
  pub left : OrdersState
  pub fault : Option LineFault

abbrev pub behind : List Judged → Course → Course
behind ended c = record c { ended = ended ++ c.ended }

abbrev pub course : OrdersState → List (Result Line LineFault) → Course
course o [] = record { ended = []; left = o; fault = None }
course o (Err fault ∷ lines) = record { ended = []; left = o; fault = Some fault }
course o (Ok line ∷ lines) = behind (ended_at line o) (course (after_line line o) lines)
