-- SPDX-License-Identifier: MIT OR Apache-2.0
use Rattle.std.proofs.Common.{rules, subst, sym}
use Rattle.program_io.proofs.Ends.{said_of}
use Rattle.judge_program.specs.Judged.{ReadsLines, StopsReading}
use Rattle.judge_program.specs.RunState.{StopsAtEnd, run_state, seen}
use Rattle.judge_program.specs.declared.stop.Stop.{Stop}
use Rattle.judge_program.proofs.Reporting.{reads_all, stops_last}
use Rattle.judge_program.proofs.command.read_lines.Goals as goal

pub returns-in_err-print_last-in-Ok-clause-err : goal.returns-in_err-print_last-in-Ok-clause-err
returns-in_err-print_last-in-Ok-clause-err g c =
    let old = g.W.Write.contents c.new-run.result.output.now in
    let new = g.W.Write.contents c.print_last.new.output in
    let sink = c.read_all-read.new.sink in
    let mid = run_state sink.lines (seen sink.verdicts) (g.W.Write.contents sink.output.now) in
    let some = c.in-Ok.ensures in
    let name = some.2.0 in
    said_of c.from_residual-in_err-print_last-in-Ok.result _ _ c.from_residual-in_err-print_last-in-Ok.ensures.1
    (λ stop is.
    let stops : StopsReading c.args.style c.args.cells.items stop (g.R.Read.remaining c.args.input.now) old new =
    stops_last c.args.style c.args.cells.items stop (g.R.Read.remaining c.args.input.now) (g.R.Read.remaining c.read_all-read.new.input) some.0
    c.new-run.result.lines (seen c.new-run.result.verdicts) old new mid c.new-run.ensures.lines c.new-run.ensures.verdicts some.1 some.3
    some.2.1 (subst (λ (s : Stop). StopsAtEnd s mid new) (sym is) c.in_err-print_last-in-Ok.ensures.err) in
    let same = c.new-run.ensures.output in search rules)

pub returns-in-Ok-clause-ok : goal.returns-in-Ok-clause-ok
returns-in-Ok-clause-ok g c =
    let old = g.W.Write.contents c.new-run.result.output.now in
    let new = g.W.Write.contents c.print_last.new.output in
    let sink = c.read_all-read.new.sink in
    let mid = run_state sink.lines (seen sink.verdicts) (g.W.Write.contents sink.output.now) in
    let some = c.in-Ok.ensures in
    let name = some.2.0 in
    let reads : ReadsLines c.args.style c.args.cells.items (seen c.print_last.new.verdicts) (g.R.Read.remaining c.args.input.now) old new =
    reads_all c.args.style c.args.cells.items (g.R.Read.remaining c.args.input.now) (g.R.Read.remaining c.read_all-read.new.input) some.0
    c.new-run.result.lines (seen c.new-run.result.verdicts) old mid (run_state c.print_last.new.lines (seen c.print_last.new.verdicts) new)
    c.new-run.ensures.lines c.new-run.ensures.verdicts some.1 some.3 some.2.1 c.in_ok-print_last-in-Ok.ensures.ok.0
    c.in_ok-print_last-in-Ok.ensures.ok.1 in
    let same = c.new-run.ensures.output in search rules
