-- SPDX-License-Identifier: MIT OR Apache-2.0
-- The state of a trial and its judges, as the definitions have it.
use Rattle.std.specs.Prelude.{option_map}
use Rattle.run_judge.specs.JudgeState.{shown}
use Rattle.judge_orders.specs.declared.orders.Orders.{Orders}
use Rattle.judge_orders.specs.declared.trial.Trial.{Trial}
use Rattle.judge_orders.specs.OrdersState.{OrdersState}
use Rattle.judge_orders.specs.TrialState.{TrialState}

abbrev pub shown_trial : Trial → TrialState
shown_trial t = record {
  message = t.message;
  pair = t.pair;
  first = shown t.first;
  second = shown t.second;
  number = t.number;
  next = t.next;
  ended = t.ended.items;
}

abbrev pub shown_orders : Orders → OrdersState
shown_orders o = record { judging = shown o.judge; trial = option_map shown_trial o.trial }
