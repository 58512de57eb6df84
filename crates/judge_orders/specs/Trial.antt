-- SPDX-License-Identifier: MIT OR Apache-2.0
-- The trial of the two orders of two connections that began with the same initial message.
use Rattle.std.specs.Prelude.{ℕ, ◌==◌, ◌&&◌, ◌||◌, not, Bool, false, if◌then◌else◌}
use Rattle.std.specs.Prelude.{List, [], ◌∷◌, ◌++◌, filter, fold, length, map}
use Rattle.std.specs.Prelude.{Option, Some, None, unwrap_or}
use Rattle.std.specs.Option.{is_none, is_some}
use Rattle.std.specs.Str.{bytes_eq}
use Rattle.run_judge.specs.ConnectionState.{ConnectionState}
use Rattle.run_judge.specs.declared.said.Said.{Said}
use Rattle.run_judge.specs.declared.said.Said.TheVariants as says
use Rattle.judge_orders.specs.declared.finding.Finding.{Finding}
use Rattle.judge_orders.specs.declared.finding.Finding.TheVariants.{InOrder, NotJudged}
use Rattle.judge_orders.specs.declared.judged.Judged.{Judged}
use Rattle.judge_orders.specs.declared.trial.Both.{Both}
use Rattle.judge_orders.specs.declared.trial.Tried.{Tried}
use Rattle.judge_orders.specs.Finding.{finding_of, fit_of, takes_second, worse}
use Rattle.judge_orders.specs.Judged.{alone}
use Rattle.judge_orders.specs.Steps.{after, ended_by, waits_on}
use Rattle.judge_orders.specs.TrialState.{TrialState}

-- ---- the verdicts of the trial's connections

-- The finding of a connection by an order. A connection that the order doesn't have isn't judged.
abbrev pub tried_with : Option ConnectionState → Finding
tried_with None = NotJudged
tried_with (Some c) = finding_of c

abbrev pub first_finding : List Tried → Finding
first_finding tried = fold (λ found t. worse found (tried_with t.first)) InOrder tried

abbrev pub second_finding : List Tried → Finding
second_finding tried = fold (λ found t. worse found (tried_with t.second)) InOrder tried

abbrev pub chosen : Bool → Tried → Option ConnectionState
chosen by_second t = if by_second then t.second else t.first

-- The final verdict of a connection, from the findings of the two orders.
abbrev pub judged_as : Finding → Finding → Tried → Judged
judged_as first second t = record {
  connection = unwrap_or (chosen (takes_second first second) t) t.known;
  fit = Some (fit_of first second);
}

abbrev pub decided : List Tried → List Judged
decided tried = map (judged_as (first_finding tried) (second_finding tried)) tried

-- what is known of a connection without an order
abbrev pub known_of : Tried → Judged
known_of t = alone t.known

abbrev pub given_up : TrialState → List Judged
given_up t = map known_of t.ended

-- ---- the trial's connections

abbrev pub is_number : ℕ → Option ℕ → Bool
is_number number None = false
is_number number (Some other) = number == other

-- Whether this is the number of one of the trial's two connections.
abbrev pub is_of : ℕ → TrialState → Bool
is_of number t = (number == t.number) || is_number number t.next

-- The connection, if there is one and it isn't one of the trial's two.
abbrev pub others : Option ConnectionState → TrialState → Option ConnectionState
others None t = None
others (Some c) t = if is_of c.number t then None else Some c

-- Whether a frame is the CR of the second connection: the next CR with the same initial message.
abbrev pub joins : Said → TrialState → Bool
joins (says.Requests source message) t = is_none t.next && bytes_eq message t.message
joins _ t = false

abbrev pub next_by : Said → ℕ → TrialState → Option ℕ
next_by said begun t = if joins said t then Some begun else t.next

-- Whether the CR of the second connection is outstanding: by one of the orders, the channel of the
-- second connection still waits for its CR.
abbrev pub may_be_joined : TrialState → Bool
may_be_joined t =
    is_none t.next && (waits_on t.pair.other t.message t.first
    || waits_on t.pair.one t.message t.second)

abbrev pub connections_of : Option ℕ → ℕ
connections_of None = 1
connections_of (Some number) = 2

abbrev pub is_over : TrialState → Bool
is_over t = (length t.ended == connections_of t.next) && not (may_be_joined t)

-- ---- a frame

abbrev pub tried : ConnectionState → Option ConnectionState → Option ConnectionState → Tried
tried c first second = record { known = c; first = first; second = second }

abbrev pub ended_with : Option ConnectionState → Option ConnectionState → Option ConnectionState
    → TrialState → List Tried
ended_with None first second t = t.ended
ended_with (Some c) first second t =
    if is_of c.number t then t.ended ++ tried c first second ∷ [] else t.ended

-- The trial after a connection ended, with these verdicts by the first and by the second order.
abbrev pub with_ended : Option ConnectionState → Option ConnectionState → Option ConnectionState
    → TrialState → TrialState
with_ended c first second t = record t { ended = ended_with c first second t }

abbrev pub both_ended : Said → TrialState → Both
both_ended said t = record { first = ended_by said t.first; second = ended_by said t.second }

abbrev pub both_after : ℕ → Said → TrialState → TrialState
both_after frame said t =
    record t { first = after frame said t.first; second = after frame said t.second }

-- The trial after a frame that ended the connection `c`, if any. `begun` is the number of CRs up to
-- and including the frame.
abbrev pub in_trial : ℕ → Said → ℕ → Option ConnectionState → TrialState → TrialState
in_trial frame said begun c t = record t {
  first = after frame said t.first;
  second = after frame said t.second;
  next = next_by said begun t;
  ended = ended_with c (ended_by said t.first) (ended_by said t.second) t;
}

-- ---- the end of the capture: each connection that is open ends

abbrev pub left_in : TrialState → ConnectionState → TrialState
left_in t c = in_trial 0 (says.Ends c.reference) 0 (Some c) t

abbrev pub others_left : TrialState → List ConnectionState → List ConnectionState
others_left t left = filter (λ c. not (is_of c.number t)) left

abbrev pub left_judged : TrialState → List ConnectionState → List Judged
left_judged t left =
    decided (fold left_in t left).ended ++ map alone (others_left t left)
