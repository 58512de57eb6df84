-- SPDX-License-Identifier: MIT OR Apache-2.0
use Rattle.std.proofs.Common.{◌+◌, ◌*◌, ◌%◌, ◌/◌, max, min, subst, ap, ◌∙◌, arith}
use Rattle.std.specs.Int.Bits.{bit_or}
use Rattle.std.proofs.lemmas.Grind.{div_ceil_times}
use Rattle.ruled_relay.specs.Signs.{HasNoneBetween}
use Rattle.ruled_relay.proofs.Among.{none_before, none_below, none_more}
use Rattle.ruled_relay.proofs.bell.Bell.first_raised.Goals as goal

pub loop-place-init : goal.loop-place-init
loop-place-init c = rw c.from-from.ensures (none_before c.args.from c.args.others.now.words.items)

pub returns-then-source-to-clause-first : goal.returns-then-source-to-clause-first
returns-then-source-to-clause-first c =
    none_more c.args.from c.loop-place.place c.max-begin.result c.word.result c.in-Some.sign c.args.others.now.words.items
    (c.max-begin.ensures ∙ ap (λ n. max n (c.loop-place.place * 64)) c.from-from.ensures) (omega (arith, c.in-Some.ensures.1)) c.loop-place.invariant
    (subst (λ w. HasNoneBetween (c.max-begin.result % 64) c.in-Some.sign (bit_or c.word.result w)) c.word-in-loop-place.ensures c.in-Some.ensures.3)

pub returns-else-source-to-clause-first : goal.returns-else-source-to-clause-first
returns-else-source-to-clause-first c =
    none_below c.args.from (c.loop-place.place * 64 + c.in-Some.sign) c.args.to c.args.others.now.words.items (let to = c.from-to.ensures in let far = c.if-source-to.false in omega (arith, to, far))
    (none_more c.args.from c.loop-place.place c.max-begin.result c.word.result c.in-Some.sign c.args.others.now.words.items
    (c.max-begin.ensures ∙ ap (λ n. max n (c.loop-place.place * 64)) c.from-from.ensures) (omega (arith, c.in-Some.ensures.1)) c.loop-place.invariant
    (subst (λ w. HasNoneBetween (c.max-begin.result % 64) c.in-Some.sign (bit_or c.word.result w)) c.word-in-loop-place.ensures c.in-Some.ensures.3))

pub loop-place-preserved : goal.loop-place-preserved
loop-place-preserved c =
    none_below c.args.from (c.loop-place.place * 64 + 64) ((c.loop-place.place + 1) * 64) c.args.others.now.words.items (omega arith)
    (none_more c.args.from c.loop-place.place c.max-begin.result c.word.result 64 c.args.others.now.words.items
    (c.max-begin.ensures ∙ ap (λ n. max n (c.loop-place.place * 64)) c.from-from.ensures) (omega arith) c.loop-place.invariant
    (subst (λ w. HasNoneBetween (c.max-begin.result % 64) 64 (bit_or c.word.result w)) c.word-in-loop-place.ensures c.in_default.ensures))

pub returns-clause-first : goal.returns-clause-first
returns-clause-first c =
    let to = c.from-to.ensures in
    let end = c.div_ceil-place-end.ensures in
    let ceil = div_ceil_times c.from-to.result 64 (omega arith) in
    let past = c.loop-place-test.false in
    none_below c.args.from (c.loop-place.place * 64) c.args.to c.args.others.now.words.items (omega (arith, to, end, ceil.0, past)) c.loop-place.invariant
