-- SPDX-License-Identifier: MIT OR Apache-2.0
use Rattle.std.proofs.Common.{◌<◌, length, rules, subst, sym}
use Rattle.run_judge.specs.StreamState.{StreamState}
use Rattle.run_judge.proofs.Dues.{not-beyond, passed-some}
use Rattle.run_judge.proofs.stream.Stream.pass.Goals as goal

pub returns : goal.returns
returns c =
    rw (← c.self.view_is)
    (passed-some (record { due = c.self.inside.due.items; passed = c.self.inside.passed.items; reached = c.self.inside.reached }) c.args.place c.in-Some.due c.take_at.new.due.items c.push.new.self.items c.max-self-inside.result
    c.args.passing.message c.args.passing.frame c.in-Some.ensures.taken c.in_ok-push.ensures.items (search rules))

pub returns-in_default : goal.returns-in_default
returns-in_default c =
    let P : StreamState → Type 0 = λ s. c.args.place < length s.due in
    absurd (not-beyond c.args.place c.self.inside.due.items (subst P (sym c.self.view_is) c.requires) c.in_default.ensures.first)
