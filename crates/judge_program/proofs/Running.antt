-- SPDX-License-Identifier: MIT OR Apache-2.0
-- Lemmas: how a line, a piece and the end of the input continue a run.
use Rattle.std.proofs.Common.{◌≡◌, ℕ, List, [], ◌∷◌, ◌++◌, Option, Result, Ok, Err, refl, sym, ap, subst, ◌∙◌, append_assoc}
use Rattle.std.specs.Prelude.{fold}
use Rattle.std.specs.Io.KnownBytes.{Appends}
use Rattle.std.proofs.KnownBytes.{Appends-nil}
use Rattle.judge_lines.specs.Lines as reader
use Rattle.judge_lines.specs.Lines.{LinesState, RefusesLine, lines_from, lines_of, to_come}
use Rattle.judge_lines.specs.declared.fault.LineFault.{LineFault}
use Rattle.judge_lines.specs.declared.fault.LineFault.TheVariants as line_faults
use Rattle.judge_lines.specs.declared.line.Line.{Line}
use Rattle.judge_report.specs.declared.sums.Sums.{Sums}
use Rattle.judge_report.specs.Sums.{with_one}
use Rattle.program_io.specs.declared.failure.Failure.{Failure}
use Rattle.judge_orders.specs.OrdersState.{OrdersState}
use Rattle.judge_program.specs.Course.{Course, behind, course, ended_at}
use Rattle.judge_program.specs.Stopping.{stop_of}
use Rattle.judge_program.specs.declared.stop.Stop.{Stop}
use Rattle.judge_program.specs.declared.stop.Stop.TheVariants.{BadLine, Failed}
use Rattle.judge_program.specs.RunState.{FindsBad, Prints, PrintsAtEnd, RunState, StopsAtEnd, StopsLastLine, StopsLine, StopsWith, TakesLine, VerdictsState, course_with, run_state, verdicts}
use Rattle.judge_program.specs.RunLaws.{behind_both, found_behind, printed_both, prints_both, stops_later, sums_both}

-- ---- a line

-- what comes of lines of which the first is good
course_first : (line : Line) (v after : VerdictsState) (before later : Option (List ℕ)) (said others : List (Result Line LineFault))
    → TakesLine line v after before later → said ≡ Ok line ∷ others
    → course v.orders said ≡ behind (ended_at line v.orders) (course after.orders others)
course_first line v after before later said others took is =
    ap (λ (lines : List (Result Line LineFault)). course v.orders lines) is
    ∙ ap (λ (j : OrdersState). behind (ended_at line v.orders) (course j others)) (sym (ap (λ (w : VerdictsState). w.orders) took.0))

-- a line that was taken
prints_line : (lines rest : LinesState) (v after : VerdictsState) (before later : Option (List ℕ)) (line : Line)
    → reader.TakesLine lines line rest → TakesLine line v after before later → Prints [] (run_state lines v before) (run_state rest after later)
prints_line lines rest v after before later line takes took = record {
  ended = ended_at line v.orders;
  style = ap (λ (w : VerdictsState). w.style) took.0;
  sums = ap (λ (w : VerdictsState). w.sums) took.0;
  printed = took.1;
  carried_on = λ more. course_first line v after before later (to_come lines more) (to_come rest more) took (takes.2 more);
}

pub prints_more : (start : RunState) (lines rest : LinesState) (v after : VerdictsState) (before later : Option (List ℕ)) (line : Line)
    → Prints [] start (run_state lines v before) → reader.TakesLine lines line rest → TakesLine line v after before later
    → Prints [] start (run_state rest after later)
prints_more start lines rest v after before later line some takes took =
    prints_both [] [] start (run_state lines v before) (run_state rest after later) some (prints_line lines rest v after before later line takes took)

-- ---- a line that is bad

finds_bad : (fault : LineFault) (octets : List ℕ) (lines : LinesState) (v : VerdictsState) (contents : Option (List ℕ))
    → RefusesLine lines fault octets → FindsBad fault octets (run_state lines v contents) contents
finds_bad fault octets lines v contents refuses =
    let is : course v.orders (to_come lines octets) ≡ course v.orders (Err fault ∷ refuses.0) =
    ap (λ (said : List (Result Line LineFault)). course v.orders said) refuses.1 in
    record {
      printed = subst (λ (c : Course). Appends contents contents (verdicts v.style v.sums c.ended)) (sym is) (Appends-nil contents);
      bad = ap (λ (c : Course). c.fault) is;
    }

stops_here : (stop : Stop) (lines : LinesState) (v : VerdictsState) (contents : Option (List ℕ)) → StopsLine stop lines
    → StopsWith stop [] (run_state lines v contents) contents
stops_here (BadLine number fault) lines v contents stops = λ more. finds_bad fault more lines v contents (stops more)
stops_here (Failed failure) lines v contents stops = tt

pub stops_behind : (stop : Stop) (start : RunState) (lines : LinesState) (v : VerdictsState) (contents : Option (List ℕ))
    → Prints [] start (run_state lines v contents) → StopsLine stop lines → StopsWith stop [] start contents
stops_behind stop start lines v contents some stops =
    stops_later [] [] stop start (run_state lines v contents) contents some (stops_here stop lines v contents stops)

-- memory or a device
pub stops_failed : (stop : Stop) (failure : Failure) (octets : List ℕ) (start : RunState) (contents : Option (List ℕ)) → stop ≡ Failed failure
    → StopsWith stop octets start contents
stops_failed stop failure octets start contents is = subst (λ (s : Stop). StopsWith s octets start contents) (sym is) tt

pub stops_failed_at_end : (stop : Stop) (failure : Failure) (start : RunState) (contents : Option (List ℕ)) → stop ≡ Failed failure
    → StopsAtEnd stop start contents
stops_failed_at_end stop failure start contents is = subst (λ (s : Stop). StopsAtEnd s start contents) (sym is) tt

-- the next line was refused
pub refused_line : (lines after : LinesState) (number : ℕ) (fault : LineFault) (stop : Stop) → stop ≡ stop_of number fault
    → reader.Takes lines (Err fault) after → StopsLine stop lines
refused_line lines after number line_faults.Memory stop is takes = subst (λ (s : Stop). StopsLine s lines) (sym is) tt
refused_line lines after number line_faults.NotSixColumns stop is takes = subst (λ (s : Stop). StopsLine s lines) (sym is) takes.1
refused_line lines after number line_faults.NoEnd stop is takes = subst (λ (s : Stop). StopsLine s lines) (sym is) takes.1
refused_line lines after number line_faults.NotHexadecimal stop is takes = subst (λ (s : Stop). StopsLine s lines) (sym is) takes.1
refused_line lines after number line_faults.TooLong stop is takes = subst (λ (s : Stop). StopsLine s lines) (sym is) takes.1

-- ---- a piece

-- what comes of a reader that was fed
fed_course : (piece more : List ℕ) (lines fed : LinesState) (v : VerdictsState) (contents : Option (List ℕ))
    → fed ≡ record { octets = lines.octets ++ piece; count = lines.count }
    → course_with (run_state lines v contents) (piece ++ more) ≡ course_with (run_state fed v contents) more
fed_course piece more lines fed v contents is =
    ap (λ (xs : List ℕ). course v.orders (lines_from lines.count (lines_of xs))) (sym (append_assoc lines.octets piece more))
    ∙ ap (λ (l : LinesState). course v.orders (to_come l more)) (sym is)

pub prints_fed : (piece : List ℕ) (lines fed : LinesState) (v : VerdictsState) (contents : Option (List ℕ)) (new : RunState)
    → fed ≡ record { octets = lines.octets ++ piece; count = lines.count } → Prints [] (run_state fed v contents) new
    → Prints piece (run_state lines v contents) new
prints_fed piece lines fed v contents new is some = record {
  ended = some.ended;
  style = some.style;
  sums = some.sums;
  printed = some.printed;
  carried_on = λ more. fed_course piece more lines fed v contents is ∙ some.carried_on more;
}

pub stops_fed : (stop : Stop) (piece : List ℕ) (lines fed : LinesState) (v : VerdictsState) (contents now : Option (List ℕ))
    → fed ≡ record { octets = lines.octets ++ piece; count = lines.count } → StopsWith stop [] (run_state fed v contents) now
    → StopsWith stop piece (run_state lines v contents) now
stops_fed (BadLine number fault) piece lines fed v contents now is stops = λ more.
    let found = stops more in
    let same : course_with (run_state lines v contents) (piece ++ more) ≡ course_with (run_state fed v contents) more =
    fed_course piece more lines fed v contents is in
    record {
      printed = subst (λ (c : Course). Appends contents now (verdicts v.style v.sums c.ended)) (sym same) found.printed;
      bad = ap (λ (c : Course). c.fault) same ∙ found.bad;
    }
stops_fed (Failed failure) piece lines fed v contents now is stops = tt

-- ---- the end

pub at_end_none : (s : RunState) → PrintsAtEnd s s
at_end_none s = record { ended = []; style = refl; sums = refl; printed = Appends-nil s.contents; carried_on = refl }

pub at_end_more : (start : RunState) (lines rest : LinesState) (v after : VerdictsState) (before later : Option (List ℕ)) (line : Line)
    → PrintsAtEnd start (run_state lines v before) → to_come lines [] ≡ Ok line ∷ to_come rest [] → TakesLine line v after before later
    → PrintsAtEnd start (run_state rest after later)
at_end_more start lines rest v after before later line some is took =
    let ended = ended_at line v.orders in
    record {
      ended = some.ended ++ ended;
      style = ap (λ (w : VerdictsState). w.style) took.0 ∙ some.style;
      sums = ap (λ (w : VerdictsState). w.sums) took.0 ∙ ap (λ (s : Sums). fold with_one s ended) some.sums
          ∙ sym (sums_both start.verdicts.sums some.ended ended);
      printed = printed_both start.verdicts.style v.style start.verdicts.sums v.sums some.ended ended start.contents before later some.style some.sums some.printed took.1;
      carried_on = some.carried_on
          ∙ ap (λ (c : Course). behind some.ended c) (course_first line v after before later (to_come lines []) (to_come rest []) took is)
          ∙ behind_both some.ended ended (course after.orders (to_come rest []));
    }

pub stops_at_end : (stop : Stop) (start : RunState) (lines : LinesState) (v : VerdictsState) (contents : Option (List ℕ))
    → PrintsAtEnd start (run_state lines v contents) → StopsLastLine stop lines → StopsAtEnd stop start contents
stops_at_end (BadLine number fault) start lines v contents some stops =
    found_behind fault [] [] start (run_state lines v contents) some.ended contents some.style some.sums some.printed some.carried_on
    (finds_bad fault [] lines v contents stops)
stops_at_end (Failed failure) start lines v contents some stops = tt
