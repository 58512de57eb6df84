-- SPDX-License-Identifier: MIT OR Apache-2.0
use Rattle.std.proofs.Common.{arith, ap, sym, ◌∙◌, subst, length}
use Rattle.std.specs.Vec.Iter.{into_iter_items}
use Rattle.ruled_relay.specs.Row.{EachAt, Row}
use Rattle.ruled_relay.specs.Inbox.{PassView}
use Rattle.ruled_relay.proofs.Turns.{IsTaking}
use Rattle.ruled_relay.proofs.Joining.{ends_of_one, pairs, reached, may_join, joins_on, join_length, all_joined, are_left}
use Rattle.ruled_relay.proofs.inbox.Inbox.finish.Goals as goal

pub join_at-requires-clause-queue : goal.join_at-requires-clause-queue
join_at-requires-clause-queue c =
    let so_far = c.loop-pass.invariant in
    let next = reached c.args.passes.items c.loop-pass.at c.in-Some.pass (into_iter_items c.next.new.self) (sym so_far.2 ∙ c.in-Some.ensures.steps.0) in
    let each = subst (λ (row : Row). EachAt row (λ i e. IsTaking e)) c.desk.view_is c.desk.invariant.2 in
    let count = so_far.3 in let steps = c.in-Some.ensures.steps.1 in let size = so_far.4 in let all = pairs c.args.desk c.args.passes.items c.requires in
    may_join c.args.desk c.args.passes.items c.loop-pass.at c.loop-pass.ends.items c.in-Some.pass c.pass.inside.end.queue so_far.5 (omega arith) (ends_of_one c.args.desk c.args.passes.items c.requires) each next.0
    (ap (λ (y : PassView). y.queue) c.pass.view_is)

pub loop-pass-preserved : goal.loop-pass-preserved
loop-pass-preserved c =
    let so_far = c.loop-pass.invariant in
    let next = reached c.args.passes.items c.loop-pass.at c.in-Some.pass (into_iter_items c.next.new.self) (sym so_far.2 ∙ c.in-Some.ensures.steps.0) in
    let count = so_far.3 in let steps = c.in-Some.ensures.steps.1 in (
      tt,
      tt,
      sym next.1,
      omega arith,
      join_length c.loop-pass.at c.pass.inside.end c.loop-pass.ends.items c.join_at.new.ends.items c.join_at.ensures ∙ so_far.4,
      joins_on c.args.desk c.args.passes.items c.loop-pass.at c.loop-pass.ends.items c.join_at.new.ends.items c.in-Some.pass c.pass.inside.end so_far.5 next.0
          (ap (λ (y : PassView). y.put) c.pass.view_is) (ap (λ (y : PassView). y.capacity) c.pass.view_is) c.join_at.ensures,
    )

pub invariant_of-result : goal.invariant_of-result
invariant_of-result c =
    let so_far = c.loop-pass.invariant in
    let count = so_far.3 in let none = c.in-None.ensures.steps.0 in let size = so_far.4 in let all = pairs c.args.desk c.args.passes.items c.requires in (
      so_far.4 ∙ sym (ap length c.desk.view_is) ∙ c.desk.invariant.0,
      are_left c.args.desk c.args.passes.items c.loop-pass.ends.items (all_joined c.args.desk c.args.passes.items c.loop-pass.at c.loop-pass.ends.items so_far.5 so_far.4 (omega arith)),
    )

pub returns : goal.returns
returns c =
    let so_far = c.loop-pass.invariant in
    let count = so_far.3 in let none = c.in-None.ensures.steps.0 in let size = so_far.4 in let all = pairs c.args.desk c.args.passes.items c.requires in
    all_joined c.args.desk c.args.passes.items c.loop-pass.at c.loop-pass.ends.items so_far.5 so_far.4 (omega arith)
