-- SPDX-License-Identifier: MIT OR Apache-2.0
use Rattle.std.proofs.Common.{◌≡◌, ◌/◌, slice_index_or, refl, subst, arith}
use Rattle.ruled_relay.proofs.Among.{gone, others_at_going}
use Rattle.ruled_relay.proofs.sources.Sources.remove.Goals as goal

pub returns-in-Some-clause-out : goal.returns-in-Some-clause-out
returns-in-Some-clause-out c =
    let room = c.in-Some.ensures.variant.0 refl in
    let at = c.from.ensures in
    rw (c.from.ensures, c.bit_of.ensures) (gone c.args.self.now.words.items c.args.source c.in-Some.word.now (omega (arith, room, at, c.args.self.now.words.ok.0)))

pub returns-in-Some-clause-others : goal.returns-in-Some-clause-others
returns-in-Some-clause-others c =
    let room = c.in-Some.ensures.variant.0 refl in
    let at = c.from.ensures in
    rw (c.from.ensures, c.bit_of.ensures) (others_at_going c.args.self.now.words.items c.args.source c.in-Some.word.now (omega (arith, room, at, c.args.self.now.words.ok.0))
    (subst (λ n. c.in-Some.word.now ≡ slice_index_or c.args.self.now.words.items (n / 64) c.in-Some.word.now) at c.in-Some.ensures.value))
