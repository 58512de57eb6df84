-- SPDX-License-Identifier: MIT OR Apache-2.0
use Rattle.std.proofs.Common.{◌≡◌, ◌++◌, ℕ, List, ap, sym, ◌∙◌}
use Rattle.std.proofs.KnownBytes.{Consumes-whole}
use Rattle.program_io.specs.declared.failure.Failure.{Failure}
use Rattle.program_io.specs.declared.failure.Failure.TheVariants.{BadEvent}
use Rattle.program_io.specs.declared.input.TheConstants.{MOST_READS}
use Rattle.program_io.proofs.Ends.{error_as}
use Rattle.program_base.specs.WholeScript.{Reads, RefusesAt}
use Rattle.program_base.specs.declared.kept_script.Keeper.{Keeper}
use Rattle.program_base.proofs.Scripts.{refused_unread, script_all, script_bad_at, script_bad_last, script_more, script_none}
use Rattle.program_base.proofs.kept_script.read_kept_script.Goals as goal

-- what the keeper takes and refuses
abbrev Keeps : Keeper → List ℕ → Keeper → Type 0
Keeps old octets new = Reads old.script new.script octets × (new.octets.items ≡ old.octets.items ++ octets)

abbrev Refuses : Keeper → List ℕ → Keeper → Failure → Type 0
Refuses old octets new failure = (n : ℕ) → failure ≡ BadEvent n → RefusesAt old.script octets n

pub returns-in_err-read_all-clause-bad : goal.returns-in_err-read_all-clause-bad
returns-in_err-read_all-clause-bad g c = λ n is.
    let start = g.R.Read.remaining c.args.input.now in
    let later = g.R.Read.remaining c.read_all.new.input in
    let keeper = c.new-keeper.result in
    let none = script_none c.args.cells start keeper.script c.new-keeper.ensures.cells c.new-keeper.ensures.events
    c.new-keeper.ensures.started c.new-keeper.ensures.lines in
    let was = error_as c.from_residual-in_err-read_all.result _ (BadEvent n) c.from_residual-in_err-read_all.ensures.1 is in
    let some = refused_unread Keeps Refuses MOST_READS start later keeper c.read_all.new.sink c.in_err-read_all.field-0.0 n
    c.in_err-read_all.ensures (sym was) in
    script_bad_at c.args.cells start start later keeper.script some.0 n none some.2 (some.3 n some.4)

pub returns-in_err-events-clause-bad : goal.returns-in_err-events-clause-bad
returns-in_err-events-clause-bad g c = λ n is.
    let start = g.R.Read.remaining c.args.input.now in
    let end = g.R.Read.remaining c.read_all.new.input in
    let keeper = c.new-keeper.result in
    let none = script_none c.args.cells start keeper.script c.new-keeper.ensures.cells c.new-keeper.ensures.events
    c.new-keeper.ensures.started c.new-keeper.ensures.lines in
    let some = c.in_ok-read_all.ensures in
    let read = script_more c.args.cells start start end keeper.script c.read_all.new.sink.script some.0 none some.1 some.2.0 in
    let was = error_as c.from_residual-in_err-events.result _ (BadEvent n) c.from_residual-in_err-events.ensures.1 is in
    script_bad_last c.args.cells start end c.read_all.new.sink.script n read some.3 (c.in_err-events.ensures.bad n (cc was))

pub returns-clause-events : goal.returns-clause-events
returns-clause-events g c =
    let start = g.R.Read.remaining c.args.input.now in
    let end = g.R.Read.remaining c.read_all.new.input in
    let keeper = c.new-keeper.result in
    let none = script_none c.args.cells start keeper.script c.new-keeper.ensures.cells c.new-keeper.ensures.events
    c.new-keeper.ensures.started c.new-keeper.ensures.lines in
    let some = c.in_ok-read_all.ensures in
    let read = script_more c.args.cells start start end keeper.script c.read_all.new.sink.script some.0 none some.1 some.2.0 in
    script_all c.args.cells start end c.read_all.new.sink.script c.in_ok-events.events.items read some.3 c.in_ok-events.ensures.ok

pub returns-clause-octets : goal.returns-clause-octets
returns-clause-octets g c =
    let some = c.in_ok-read_all.ensures in
    let kept : List ℕ = c.read_all.new.sink.octets.items in
    Consumes-whole (g.R.Read.remaining c.args.input.now) (g.R.Read.remaining c.read_all.new.input) some.0 (λ octets. kept ≡ octets) some.1
    some.3
    (some.2.1 ∙ ap (λ (xs : List ℕ). xs ++ some.0) c.new-keeper.ensures.octets)
