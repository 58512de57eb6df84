-- SPDX-License-Identifier: MIT OR Apache-2.0
use Rattle.std.proofs.Common.{rules, ◌≡◌, ◌<◌, length, arith, ◌∙◌}
use Rattle.conn_fsm.proofs.Leaving.{stops, ends, continues_done, continues_here}
use Rattle.conn_fsm.proofs.drains.Drains.leaving.Goals as goal
use Rattle.conn_fsm.proofs.drains.Drains.leaving.Goals.{else-k-place-via-then-k-place+else-not-index, else-k-place-via-else-k-place}

pub returns-then-not-index : goal.returns-then-not-index
returns-then-not-index c =
    let all : c.len-k-end.result ≡ length c.args.self.now = search rules in
    let within : c.loop-k.k < length c.args.self.now = omega arith in
    record {
      number = stops c.args.place c.loop-k.k c.args.self.now c.index.result.now within (cc c.index.ensures) c.if-k-place.true c.if-not-index.true c.loop-k.invariant;
      few = omega arith;
    }

pub loop-k-preserved : goal.loop-k-preserved
loop-k-preserved c =
    let all : c.len-k-end.result ≡ length c.args.self.now = search rules in
    let within : c.loop-k.k < length c.args.self.now = omega arith in
    elim c.else-k-place.branch [
      | else-k-place-via-then-k-place+else-not-index w ↦
          continues_done c.args.place c.loop-k.k c.args.self.now w.index.result.now within (cc w.index.ensures) w.if-not-index.false c.loop-k.invariant
      | else-k-place-via-else-k-place w ↦ continues_here c.args.place c.loop-k.k c.args.self.now within w.if-k-place.false c.loop-k.invariant
    ]

pub returns-clause-number : goal.returns-clause-number
returns-clause-number c =
    let all : c.len-k-end.result ≡ length c.args.self.now = search rules in
    let last : c.len.result ≡ c.loop-k.k = omega arith in
    last ∙ ends c.args.place c.loop-k.k c.args.self.now (omega arith) c.loop-k.invariant
