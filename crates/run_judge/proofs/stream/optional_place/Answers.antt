-- SPDX-License-Identifier: MIT OR Apache-2.0
use Rattle.std.proofs.Common.{◌≡◌, ◌<◌, length, rules, tests, true}
use Rattle.std.specs.Str.{bytes_eq}
use Rattle.run_judge.specs.declared.flow.Due.{Due}
use Rattle.run_judge.proofs.Dues.{among-found}
use Rattle.run_judge.proofs.stream.optional_place.Goals as goal

pub returns-then-eq-clause-place : goal.returns-then-eq-clause-place
returns-then-eq-clause-place c =
    let d : Due = c.index-found.result.now in
    let within : c.loop-place.place < length c.args.due.now.items = search rules in
    let may : d.is_optional ≡ true = search (rules, tests) in
    let same : bytes_eq d.message c.args.message.now ≡ true = search (rules, tests) in
    among-found c.args.message.now c.args.due.now.items c.loop-place.place d c.loop-place.invariant within c.index-found.ensures may same
