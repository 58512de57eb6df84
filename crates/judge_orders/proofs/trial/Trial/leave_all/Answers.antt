-- SPDX-License-Identifier: MIT OR Apache-2.0
use Rattle.judge_orders.specs.Shown.{shown_trial}
use Rattle.judge_orders.proofs.Leaving.{next_more, number_more, others_more, trial_more}
use Rattle.judge_orders.proofs.trial.Trial.leave_all.Goals as goal

pub loop-connection-preserved : goal.loop-connection-preserved
loop-connection-preserved c =
    let first = shown_trial c.args.self.now in
    let now = shown_trial c.loop-connection.self in
    let next = shown_trial c.leave.new.self in
    let left = c.loop-connection.yielded in
    let one = c.in-Some.connection in
    let so_far = c.loop-connection.invariant in
    let ends = c.in_ok-leave.ensures.trial in
    record {
      trial = trial_more first now next left one so_far.trial ends;
      number = number_more first now next left one so_far.number ends;
      next = next_more first now next left one so_far.next ends;
      others =
          others_more first now next left one c.args.other.now.items c.loop-connection.other.items c.leave.new.other.items so_far.number so_far.next
          so_far.others c.in_ok-leave.ensures.others;
    }
