-- SPDX-License-Identifier: MIT OR Apache-2.0
-- Rows: the results of literal lines, and the exit status.
use Rattle.std.proofs.Common.{◌≡◌, ℕ, List, [], ◌∷◌, ◌++◌, Option, Some, None, option_map, Ok, Err, refl}
use Rattle.std.specs.Fmt.{digits}
use Rattle.std.specs.Prelude.{codes}
use Rattle.octets.proofs.Hex.{hex}
use Rattle.hex.proofs.OnLiterals.{hex_on_literals}
use Rattle.dtap_codec.specs.declared.number.Modulus.TheVariants.{Four}
use Rattle.judge_lines.specs.Line.{frame_said}
use Rattle.judge_lines.specs.declared.fault.LineFault.TheVariants as faults
use Rattle.judge_lines.specs.declared.line.Line.{Line}
use Rattle.judge_lines.specs.declared.line.Line.TheVariants.{Hole, Other}
use Rattle.judge_report.specs.declared.style.Form.{Form}
use Rattle.judge_report.specs.declared.style.Form.TheVariants.{Text, Tap}
use Rattle.judge_report.specs.declared.style.Strictness.TheVariants.{Lenient, Strict}
use Rattle.judge_report.specs.declared.style.Style.{Style}
use Rattle.judge_report.specs.Sums.{status_of_sums, sums_of}
use Rattle.program_io.specs.declared.failure.Failure.TheVariants as failures
use Rattle.run_judge.specs.declared.connection.Reason.TheVariants as reasons
use Rattle.run_judge.specs.declared.connection.Unjudged.{Unjudged}
use Rattle.run_judge.specs.declared.said.Way.TheVariants.{FromController}
use Rattle.run_judge.specs.Connection.{begun_with}
use Rattle.run_judge.specs.ConnectionState.{ConnectionState}
use Rattle.run_judge.specs.Flow.{new_flow}
use Rattle.run_judge.specs.JudgeState.{entries_at}
use Rattle.run_judge.specs.Judging.{new_judging}
use Rattle.judge_orders.specs.declared.judged.Judged.{Judged}
use Rattle.judge_orders.specs.Judged.{alone}
use Rattle.judge_orders.specs.OrdersState.{OrdersState}
use Rattle.judge_program.proofs.OnLiterals.{on_literals}
use Rattle.judge_program.specs.Course.{after_line, course, ended_at}
use Rattle.judge_program.specs.Judged.{course_of, report_of}
use Rattle.judge_program.specs.RunState.{verdicts}
use Rattle.judge_program.specs.Stopping.{status_of_stop, stop_of}
use Rattle.judge_program.specs.declared.stop.Stop.TheVariants.{BadLine, Failed}

-- of no message, on channel 41 of station 1
abbrev connection : ℕ → ℕ → ConnectionState
connection number reference = begun_with number reference (record { station = 1; number = 0x41 }) (record { zero = new_flow; three = new_flow })

abbrev two_open : OrdersState
two_open = record {
  judging = record (new_judging 4 []) { connections = entries_at ((7, connection 2 7) ∷ (9, connection 1 9) ∷ []) };
  trial = None;
}

abbrev unjudged_in : OrdersState → ℕ → Option (Option Unjudged)
unjudged_in o reference = option_map (λ c. c.unjudged) (o.judging.connections reference)

-- RLC of the connection with the controller's reference 7
abbrev ends_seven : Line
ends_seven = frame_said 14 0 FromController (hex "05 00 00 05 00 00 07")

-- ---- a line

other : after_line Other two_open ≡ two_open
other = refl

other_ends : ended_at Other two_open ≡ []
other_ends = refl

-- frames are missing: no connection is judged from there on
hole : unjudged_in (after_line (Hole 9) two_open) 7 ≡ Some (Some (record { reason = reasons.Hole; frame = 9 }))
unfolding on_literals entries_at
hole = refl

hole_of_none : unjudged_in (after_line (Hole 9) two_open) 8 ≡ None
unfolding on_literals entries_at
hole_of_none = refl

hole_ends : ended_at (Hole 9) two_open ≡ []
hole_ends = refl

ends : ended_at ends_seven two_open ≡ alone (connection 2 7) ∷ []
unfolding on_literals entries_at
ends = refl

gone : (after_line ends_seven two_open).judging.connections 7 ≡ None
unfolding on_literals entries_at
gone = refl

remains : (after_line ends_seven two_open).judging.connections 9 ≡ Some (connection 1 9)
unfolding on_literals entries_at
remains = refl

-- ---- lines, one behind the other

all_good : (course two_open (Ok Other ∷ Ok ends_seven ∷ Ok Other ∷ [])).ended ≡ alone (connection 2 7) ∷ []
unfolding on_literals entries_at
all_good = refl

none_bad : (course two_open (Ok Other ∷ Ok ends_seven ∷ [])).fault ≡ None
unfolding on_literals entries_at
none_bad = refl

-- behind a bad line nothing counts
bad_before : course two_open (Ok Other ∷ Err faults.NotHexadecimal ∷ Ok ends_seven ∷ []) ≡ record { ended = []; left = two_open; fault = Some faults.NotHexadecimal }
bad_before = refl

bad_behind : (course two_open (Ok ends_seven ∷ Err faults.NoEnd ∷ Err faults.TooLong ∷ [])).ended ≡ alone (connection 2 7) ∷ []
unfolding on_literals entries_at
bad_behind = refl

first_fault : (course two_open (Ok ends_seven ∷ Err faults.NoEnd ∷ Err faults.TooLong ∷ [])).fault ≡ Some faults.NoEnd
unfolding on_literals entries_at
first_fault = refl

-- ---- octets

abbrev lenient : Form → Style
lenient form = record { modulus = Four; form = form; strictness = Lenient }

-- CR of a connection whose ESTABLISH INDICATION isn't there, and RLC
abbrev one_life : List ℕ
one_life = codes "13\tbsc\tswitch\tSCCP\tsent\t0100000702020402 42fe0f1200105705080062f22000010005170305247100\n"

abbrev text_of_life : List ℕ
text_of_life =
    codes "13\tbsc\tswitch\tSCCP\tsent\t010000070202040242fe0f1200105705080062f22000010005170305247100\n"
    ++ codes "14\tbsc\tswitch\tSCCP\tsent\t05000005000007\n"

abbrev ended_of : List ℕ → List Judged
ended_of octets = (course_of (lenient Text) [] octets).ended

not_judged : sums_of (ended_of text_of_life) ≡ record { printed = 1; blamed = 0; unjudged = 1 }
unfolding on_literals hex_on_literals
not_judged = refl

-- that is a fault only where each connection is to be judged
no_fault : status_of_sums Lenient (sums_of (ended_of text_of_life)) ≡ 0
unfolding on_literals hex_on_literals
no_fault = refl

a_fault : status_of_sums Strict (sums_of (ended_of text_of_life)) ≡ 1
unfolding on_literals hex_on_literals
a_fault = refl

-- a blank amid the digits
bad_line : (course_of (lenient Text) [] (one_life ++ text_of_life)).fault ≡ Some faults.NotHexadecimal
unfolding on_literals hex_on_literals
bad_line = refl

none_before : ended_of (one_life ++ text_of_life) ≡ []
unfolding on_literals hex_on_literals
none_before = refl

-- ---- what is printed

-- behind one that was printed before
second_point : verdicts (lenient Tap) (record { printed = 1; blamed = 0; unjudged = 0 }) (alone (connection 3 9) ∷ []) ≡
    codes "ok 2 - connection 3 (reference 000009): 1 channel, 0 messages up, 0 at the switch: in order\n"
    ++ codes "# a switch by TS 24.007 accepts 0 of 0 numbered messages, takes 0 for a duplicate, drops 0 behind a gap\n"
    ++ codes "# down: 0 of 0 handed, in order\n"
unfolding digits hex_on_literals
second_point = refl

none_printed : report_of (lenient Text) [] ≡ codes "0 connections: 0 in order, 0 not, 0 not judged to the end\n"
unfolding digits
none_printed = refl

no_points : report_of (lenient Tap) [] ≡ codes "TAP version 14\n# 0 connections: 0 in order, 0 not, 0 not judged to the end\n1..0\n"
unfolding digits
no_points = refl

-- ---- why it stops

bad_third : stop_of 3 faults.NotHexadecimal ≡ BadLine 3 faults.NotHexadecimal
bad_third = refl

-- the line may be a good one
no_memory : stop_of 3 faults.Memory ≡ Failed failures.Memory
no_memory = refl

of_a_line : status_of_stop (stop_of 3 faults.TooLong) ≡ 2
of_a_line = refl

of_memory : status_of_stop (stop_of 3 faults.Memory) ≡ 3
of_memory = refl
