-- SPDX-License-Identifier: MIT OR Apache-2.0
-- The connections of one controller after each frame, the trial of two orders for two connections
-- with the same initial message, and the verdicts that each frame makes final.
use Rattle.std.specs.Prelude.{ℕ, List, [], ◌++◌, map, Option, Some, None, option_to_list}
use Rattle.std.specs.Prelude.{if◌then◌else◌}
use Rattle.dtap_codec.specs.declared.rr.CellDescription.{CellDescription}
use Rattle.run_judge.specs.Apart.{pair_of}
use Rattle.run_judge.specs.Judging.{Judging, new_judging}
use Rattle.run_judge.specs.declared.apart.Pair.{Pair}
use Rattle.run_judge.specs.declared.said.Said.{Said}
use Rattle.run_judge.specs.declared.said.Said.TheVariants as says
use Rattle.judge_orders.specs.declared.judged.Judged.{Judged}
use Rattle.judge_orders.specs.declared.orders.Request.{Request}
use Rattle.judge_orders.specs.Judged.{alone}
use Rattle.judge_orders.specs.OrdersState.{OrdersState}
use Rattle.judge_orders.specs.Steps.{after, after_hole, beginnings, begun_apart, ended_by}
use Rattle.judge_orders.specs.Steps.{gives_again}
use Rattle.judge_orders.specs.Trial.{decided, given_up, in_trial, is_over, others}
use Rattle.judge_orders.specs.TrialState.{TrialState}

abbrev pub new_orders : ℕ → List CellDescription → OrdersState
new_orders modulus cells = record { judging = new_judging modulus cells; trial = None }

-- ---- a trial begins

abbrev pub trial_on : Option Pair → ℕ → List ℕ → ℕ → Judging → Option TrialState
trial_on None source message frame j = None
trial_on (Some pair) source message frame j = Some (record {
  message = message;
  pair = pair;
  first = begun_apart pair source frame j;
  second = begun_apart (pair_of pair.other pair.one) source frame j;
  number = j.begun;
  next = None;
  ended = [];
})

abbrev pub request_in : Said → Option Request
request_in (says.Requests source message) = Some (record { source = source; message = message })
request_in _ = None

-- A CR begins a trial if its initial message came on exactly two channels.
abbrev pub trial_of : Option Request → ℕ → Judging → Option TrialState
trial_of None frame j = None
trial_of (Some r) frame j = trial_on (beginnings r.source r.message j) r.source r.message frame j

-- ---- a frame while a trial is pending

abbrev pub trial_after : ℕ → Said → Judging → TrialState → TrialState
trial_after frame said j t = in_trial frame said (after frame said j).begun (ended_by said j) t

abbrev pub going_on : TrialState → Option TrialState
going_on t = if is_over t then None else Some t

abbrev pub decided_in : TrialState → List Judged
decided_in t = if is_over t then decided t.ended else []

abbrev pub judged_in_trial : ℕ → Said → Judging → TrialState → List Judged
judged_in_trial frame said j t =
    map alone (option_to_list (others (ended_by said j) t))
    ++ decided_in (trial_after frame said j t)

-- ---- a frame

-- If the switch gives a reference that is in use, messages with the reference have two possible
-- owners, and the trial ends.
abbrev pub trial_by : Option TrialState → ℕ → Said → Judging → Option TrialState
trial_by None frame said j = trial_of (request_in said) frame (after frame said j)
trial_by (Some t) frame said j =
    if gives_again said j then None else going_on (trial_after frame said j t)

abbrev pub orders_after : ℕ → Said → OrdersState → OrdersState
orders_after frame said o = record {
  judging = after frame said o.judging;
  trial = trial_by o.trial frame said o.judging;
}

abbrev pub judged_with : Option TrialState → ℕ → Said → Judging → List Judged
judged_with None frame said j = map alone (option_to_list (ended_by said j))
judged_with (Some t) frame said j =
    if gives_again said j then given_up t else judged_in_trial frame said j t

-- The connections whose verdict is final after this frame.
abbrev pub judged_by : ℕ → Said → OrdersState → List Judged
judged_by frame said o = judged_with o.trial frame said o.judging

-- ---- frames are missing: a trial ends

abbrev pub orders_after_hole : ℕ → OrdersState → OrdersState
orders_after_hole frame o = record { judging = after_hole frame o.judging; trial = None }

abbrev pub given_up_by : Option TrialState → List Judged
given_up_by None = []
given_up_by (Some t) = given_up t

abbrev pub judged_at_hole : OrdersState → List Judged
judged_at_hole o = given_up_by o.trial
