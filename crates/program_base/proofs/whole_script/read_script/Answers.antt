-- SPDX-License-Identifier: MIT OR Apache-2.0
use Rattle.std.proofs.Common.{sym}
use Rattle.std.proofs.lemmas.Result.{IfOk-weaker}
use Rattle.program_io.specs.declared.failure.Failure.TheVariants.{BadEvent}
use Rattle.program_io.specs.declared.input.TheConstants.{MOST_READS}
use Rattle.program_io.proofs.Ends.{error_as}
use Rattle.program_base.proofs.Scripts.{refuses_unread, script_all, script_bad_at, script_bad_last, script_more, script_none}
use Rattle.program_base.proofs.whole_script.read_script.Goals as goal

pub returns-in_err-read_all-clause-bad : goal.returns-in_err-read_all-clause-bad
returns-in_err-read_all-clause-bad g c = λ n is.
    let start = g.R.Read.remaining c.args.input.now in
    let later = g.R.Read.remaining c.read_all.new.input in
    let none = script_none c.args.cells start c.new-script.result c.new-script.ensures.cells c.new-script.ensures.events c.new-script.ensures.started c.new-script.ensures.lines in
    let was = error_as c.from_residual-in_err-read_all.result _ (BadEvent n) c.from_residual-in_err-read_all.ensures.1 is in
    let some = refuses_unread MOST_READS start later c.new-script.result c.read_all.new.sink c.in_err-read_all.field-0.0 n c.in_err-read_all.ensures (sym was) in
    script_bad_at c.args.cells start start later c.new-script.result some.0 n none some.1 some.2

pub returns-clause-events : goal.returns-clause-events
returns-clause-events g c =
    let start = g.R.Read.remaining c.args.input.now in
    let end = g.R.Read.remaining c.read_all.new.input in
    let none = script_none c.args.cells start c.new-script.result c.new-script.ensures.cells c.new-script.ensures.events c.new-script.ensures.started c.new-script.ensures.lines in
    let some = c.in_ok-read_all.ensures in
    let read = script_more c.args.cells start start end c.new-script.result c.read_all.new.sink some.0 none some.1 some.2 in
    IfOk-weaker c.finish.result _ _ (λ events finishes. script_all c.args.cells start end c.read_all.new.sink events.items read some.3 finishes) c.finish.ensures.ok

pub returns-clause-bad : goal.returns-clause-bad
returns-clause-bad g c = λ n is.
    let start = g.R.Read.remaining c.args.input.now in
    let end = g.R.Read.remaining c.read_all.new.input in
    let none = script_none c.args.cells start c.new-script.result c.new-script.ensures.cells c.new-script.ensures.events c.new-script.ensures.started c.new-script.ensures.lines in
    let some = c.in_ok-read_all.ensures in
    let read = script_more c.args.cells start start end c.new-script.result c.read_all.new.sink some.0 none some.1 some.2 in
    script_bad_last c.args.cells start end c.read_all.new.sink n read some.3 (c.finish.ensures.bad n is)
