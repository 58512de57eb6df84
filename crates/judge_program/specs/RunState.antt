-- SPDX-License-Identifier: MIT OR Apache-2.0
-- The state of a run: what the run has read and what it has printed.
use Rattle.std.specs.Prelude.{◌≡◌, ℕ, List, [], ◌++◌, fold, Option, Some}
use Rattle.std.specs.Io.KnownBytes.{Appends}
use Rattle.dtap_codec.specs.Number.{count_of}
use Rattle.dtap_codec.specs.declared.rr.CellDescription.{CellDescription}
use Rattle.judge_lines.specs.Lines.{LinesState, RefusesLine, to_come}
use Rattle.judge_lines.specs.declared.fault.LineFault.{LineFault}
use Rattle.judge_lines.specs.declared.line.Line.{Line}
use Rattle.judge_report.specs.declared.style.Style.{Style}
use Rattle.judge_report.specs.declared.sums.Sums.{Sums}
use Rattle.judge_report.specs.Sums.{no_sums, texts_behind, with_one}
use Rattle.judge_orders.specs.declared.judged.Judged.{Judged}
use Rattle.judge_orders.specs.Orders.{new_orders}
use Rattle.judge_orders.specs.OrdersState.{OrdersState}
use Rattle.judge_orders.specs.Shown.{shown_orders}
use Rattle.judge_program.specs.Course.{Course, after_line, behind, course, ended_at}
use Rattle.judge_program.specs.declared.stop.Stop.{Stop}
use Rattle.judge_program.specs.declared.stop.Stop.TheVariants.{BadLine, Failed}
use Rattle.judge_program.specs.declared.verdicts.Verdicts.{Verdicts}

-- The verdicts of connections that follow the connections counted in `sums`.
abbrev pub verdicts : Style → Sums → List Judged → List ℕ
verdicts style sums connections =
    texts_behind (count_of style.modulus) style.form style.strictness sums connections

-- The style, the open connections, and the sums of the printed connections.
pub record VerdictsState : Type 0 where
  pub style : Style
  pub orders : OrdersState
  pub sums : Sums

-- The state that the fields of `Verdicts` represent.
abbrev pub seen : Verdicts → VerdictsState
seen v = record { style = v.style; orders = shown_orders v.orders; sums = v.sums }

-- The state before the first line.
abbrev pub begun_verdicts : Style → List CellDescription → VerdictsState
begun_verdicts style cells = record {
  style = style;
  orders = new_orders (count_of style.modulus) cells;
  sums = no_sums;
}

-- The state after these connections ended and were printed.
abbrev pub with_ended : List Judged → VerdictsState → VerdictsState
with_ended ended v = record v { sums = fold with_one v.sums ended }

-- One line was taken. The contents of the output, if they are known, grew by the verdicts that are
-- final after the line.
abbrev pub TakesLine : Line → VerdictsState → VerdictsState → Option (List ℕ)
    → Option (List ℕ) → Type 0
TakesLine line old new before later = (new ≡ record {
  style = old.style;
  orders = after_line line old.orders;
  sums = fold with_one old.sums (ended_at line old.orders);
}) × Appends before later (verdicts old.style old.sums (ended_at line old.orders))

-- A run: its lines, its verdicts, and the contents of its output, if they are known.
pub record RunState : Type 0 where
  pub lines : LinesState
  pub verdicts : VerdictsState
  pub contents : Option (List ℕ)

abbrev pub run_state : LinesState → VerdictsState → Option (List ℕ) → RunState
run_state lines verdicts contents =
    record { lines = lines; verdicts = verdicts; contents = contents }

-- The result of a run, if these octets follow.
abbrev pub course_with : RunState → List ℕ → Course
course_with s octets = course s.verdicts.orders (to_come s.lines octets)

-- The octets were fed, and the verdicts of the connections that whole lines ended were printed.
pub record Prints (octets : List ℕ) (old new : RunState) : Type 0 where
  pub ended : List Judged
  pub style : new.verdicts.style ≡ old.verdicts.style
  pub sums : new.verdicts.sums ≡ fold with_one old.verdicts.sums ended
  pub printed : Appends old.contents new.contents
      (verdicts old.verdicts.style old.verdicts.sums ended)
  pub carried_on : (more : List ℕ)
      → course_with old (octets ++ more) ≡ behind ended (course_with new more)

-- No more octets follow, and the verdicts of the connections that ended were printed.
pub record PrintsAtEnd (old new : RunState) : Type 0 where
  pub ended : List Judged
  pub style : new.verdicts.style ≡ old.verdicts.style
  pub sums : new.verdicts.sums ≡ fold with_one old.verdicts.sums ended
  pub printed : Appends old.contents new.contents
      (verdicts old.verdicts.style old.verdicts.sums ended)
  pub carried_on : course_with old [] ≡ behind ended (course_with new [])

-- If these octets follow, a line is bad. The verdicts of the connections that ended before this
-- line were printed.
pub record FindsBad (fault : LineFault) (octets : List ℕ) (old : RunState)
    (contents : Option (List ℕ)) : Type 0 where
  pub printed : Appends old.contents contents
      (verdicts old.verdicts.style old.verdicts.sums (course_with old octets).ended)
  pub bad : (course_with old octets).fault ≡ Some fault

-- The next line is bad, whatever octets follow, or an allocation or a device failed.
abbrev pub StopsLine : Stop → LinesState → Type 0
StopsLine (BadLine number fault) old = (more : List ℕ) → RefusesLine old fault more
StopsLine (Failed failure) old = Unit {0}

abbrev pub StopsLastLine : Stop → LinesState → Type 0
StopsLastLine (BadLine number fault) old = RefusesLine old fault []
StopsLastLine (Failed failure) old = Unit {0}

-- The run stopped at these octets: a line is bad, whatever octets follow, or an allocation or a
-- device failed.
abbrev pub StopsWith : Stop → List ℕ → RunState → Option (List ℕ) → Type 0
StopsWith (BadLine number fault) octets old contents =
    (more : List ℕ) → FindsBad fault (octets ++ more) old contents
StopsWith (Failed failure) octets old contents = Unit {0}

abbrev pub StopsAtEnd : Stop → RunState → Option (List ℕ) → Type 0
StopsAtEnd (BadLine number fault) old contents = FindsBad fault [] old contents
StopsAtEnd (Failed failure) old contents = Unit {0}
