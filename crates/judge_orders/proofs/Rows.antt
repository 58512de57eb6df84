-- SPDX-License-Identifier: MIT OR Apache-2.0
-- Rows: two mobiles send the same initial message, and what is said of the two connections.
use Rattle.std.proofs.Common.{◌≡◌, ℕ, ◌+◌, Bool, false, true, List, [], ◌∷◌, ◌++◌, Option, Some, None, map, option_map, refl}
use Rattle.std.specs.Prelude.{option_to_list}
use Rattle.std.specs.Option.{is_some}
use Rattle.octets.proofs.Hex.{hex}
use Rattle.dtap_codec.specs.declared.sapi.Sapi.TheVariants.{Zero}
use Rattle.run_judge.specs.declared.connection.Reason.{Reason}
use Rattle.run_judge.specs.declared.connection.Reason.TheVariants as reasons
use Rattle.run_judge.specs.declared.said.Said.{Said}
use Rattle.run_judge.specs.declared.said.Said.TheVariants as says
use Rattle.run_judge.specs.declared.said.StationChannel.{StationChannel}
use Rattle.run_judge.specs.ConnectionState.{ConnectionState}
use Rattle.judge_orders.specs.declared.finding.Finding.TheVariants.{Faulty, InOrder, NotJudged}
use Rattle.judge_orders.specs.declared.judged.Fit.{Fit}
use Rattle.judge_orders.specs.declared.judged.Fit.TheVariants.{Both, Neither, One}
use Rattle.judge_orders.specs.declared.judged.Judged.{Judged}
use Rattle.judge_orders.specs.Finding.{fit_of, keeps_order, takes_second}
use Rattle.judge_orders.specs.Left.{judged_in_the_end}
use Rattle.judge_orders.specs.Orders.{judged_at_hole, judged_by, new_orders, orders_after}
use Rattle.judge_orders.specs.OrdersState.{OrdersState}
use Rattle.judge_orders.proofs.OnLiterals.{on_literals}

-- ---- lives

-- three channels of a station
abbrev one : StationChannel
one = record { station = 1; number = 0x41 }

abbrev other : StationChannel
other = record { station = 1; number = 0x42 }

abbrev third : StationChannel
third = record { station = 1; number = 0x43 }

-- what both mobiles send first, and what each sends then
abbrev initial : List ℕ
initial = hex "05 24 01"

abbrev first_text : List ℕ
first_text = hex "03 45 01"

abbrev second_text : List ℕ
second_text = hex "03 45 02"

-- by the frames, from this number on
abbrev told : ℕ → OrdersState → List Said → OrdersState
told frame o [] = o
told frame o (said ∷ rest) = told (frame + 1) (orders_after frame said o) rest

abbrev all_judged : ℕ → OrdersState → List Said → List Judged
all_judged frame o [] = []
all_judged frame o (said ∷ rest) = judged_by frame said o ++ all_judged (frame + 1) (orders_after frame said o) rest

abbrev life : List Said → OrdersState
life frames = told 1 (new_orders 4 []) frames

-- a connection's number, the number of its channel, whether its order was kept, and which orders fit
abbrev summary : Judged → ℕ × ℕ × Bool × Option Fit
summary j = (j.connection.number, j.connection.serving.at.number, keeps_order j.connection, j.fit)

abbrev judged_of : List Said → List (ℕ × ℕ × Bool × Option Fit)
judged_of frames = map summary (all_judged 1 (new_orders 4 []) frames)

-- both mobiles send their initial message, and the switch is asked for two connections
abbrev begun : List Said
begun = says.Establishes one initial ∷ says.Establishes other initial ∷ says.Requests 7 initial ∷ says.Confirms 7 90
    ∷ says.Requests 8 initial ∷ says.Confirms 8 91 ∷ []

-- each sends one message more
abbrev brought : List Said
brought = begun ++ says.Brings one Zero first_text ∷ says.Brings other Zero second_text ∷ []

abbrev ended : List Said
ended = says.Ends 7 ∷ says.Ends 8 ∷ []

-- ---- which orders fit

one_way_round : judged_of (brought ++ says.Passes 90 Zero first_text ∷ says.Passes 91 Zero second_text ∷ ended)
    ≡ (1, 0x41, true, Some One) ∷ (2, 0x42, true, Some One) ∷ []
unfolding on_literals
one_way_round = refl

the_other_way_round : judged_of (brought ++ says.Passes 90 Zero second_text ∷ says.Passes 91 Zero first_text ∷ ended)
    ≡ (1, 0x42, true, Some One) ∷ (2, 0x41, true, Some One) ∷ []
unfolding on_literals
the_other_way_round = refl

-- in the order in which they end
ended_the_other_way_round : judged_of (brought ++ says.Passes 90 Zero first_text ∷ says.Ends 8 ∷ says.Ends 7 ∷ [])
    ≡ (2, 0x42, true, Some One) ∷ (1, 0x41, true, Some One) ∷ []
unfolding on_literals
ended_the_other_way_round = refl

either_way_round : judged_of (brought ++ ended) ≡ (1, 0x41, true, Some Both) ∷ (2, 0x42, true, Some Both) ∷ []
unfolding on_literals
either_way_round = refl

neither_way_round : judged_of (brought ++ says.Passes 90 Zero first_text ∷ says.Passes 91 Zero first_text ∷ ended)
    ≡ (1, 0x41, true, Some Neither) ∷ (2, 0x42, false, Some Neither) ∷ []
unfolding on_literals
neither_way_round = refl

-- ---- when all is said of them

-- not while the other one is open
one_is_open : judged_of (brought ++ says.Ends 7 ∷ []) ≡ []
unfolding on_literals
one_is_open = refl

-- the second CR never comes
abbrev alone_begun : List Said
alone_begun = says.Establishes one initial ∷ says.Establishes other initial ∷ says.Requests 7 initial ∷ says.Confirms 7 90
    ∷ says.Brings one Zero first_text ∷ says.Passes 90 Zero first_text ∷ []

it_may_come : judged_of (alone_begun ++ says.Releases other ∷ says.Ends 7 ∷ []) ≡ []
unfolding on_literals
it_may_come = refl

it_comes_no_more : judged_of (alone_begun ++ says.Releases other ∷ says.Ends 7 ∷ says.Releases one ∷ [])
    ≡ (1, 0x41, true, Some One) ∷ []
unfolding on_literals
it_comes_no_more = refl

goes_on : map (λ frames. is_some (life frames).trial)
    (begun ∷ (begun ++ says.Ends 7 ∷ []) ∷ (begun ++ ended) ∷ [])
    ≡ true ∷ true ∷ false ∷ []
unfolding on_literals
goes_on = refl

-- at the end of the input
abbrev left_of : OrdersState → List ConnectionState → List (ℕ × ℕ × Bool × Option Fit)
left_of o left = map summary (judged_in_the_end o.trial left)

abbrev known_in : OrdersState → ℕ → List ConnectionState
known_in o reference = option_to_list (o.judging.connections reference)

abbrev both_left : OrdersState
both_left = life (says.Requests 6 (hex "05 08") ∷ brought ++ says.Passes 91 Zero first_text ∷ [])

in_the_end : left_of both_left (known_in both_left 6 ++ known_in both_left 7 ++ known_in both_left 8)
    ≡ (2, 0x42, true, Some One) ∷ (3, 0x41, true, Some One) ∷ (1, 0, true, None) ∷ []
unfolding on_literals
in_the_end = refl

abbrev one_left : OrdersState
one_left = life (brought ++ says.Passes 91 Zero first_text ∷ says.Ends 8 ∷ [])

the_other_in_the_end : left_of one_left (known_in one_left 7) ≡ (2, 0x41, true, Some One) ∷ (1, 0x42, true, Some One) ∷ []
unfolding on_literals
the_other_in_the_end = refl

-- ---- where it isn't judged

abbrev reasons_of : List Said → List (ℕ × Option Reason × Option Fit)
reasons_of frames =
    map (λ j. (j.connection.number, option_map (λ u. u.reason) j.connection.unjudged, j.fit)) (all_judged 1 (new_orders 4 []) frames)

-- three channels have the message
of_three : reasons_of (says.Establishes third initial ∷ begun ++ ended)
    ≡ (1, Some reasons.TwoBeginnings, None) ∷ (2, Some reasons.TwoBeginnings, None) ∷ []
unfolding on_literals
of_three = refl

-- the third one gets it while the trial goes on
of_a_third : reasons_of (says.Establishes one initial ∷ says.Establishes other initial ∷ says.Requests 7 initial
    ∷ says.Establishes third initial ∷ says.Requests 8 initial ∷ ended)
    ≡ (1, None, Some Both) ∷ (2, Some reasons.TwoBeginnings, Some Both) ∷ []
unfolding on_literals
of_a_third = refl

-- a CR for two other channels while one goes on
of_two_others : reasons_of (begun ++ says.Establishes third second_text ∷ says.Establishes (record { station = 2; number = 0x41 }) second_text
    ∷ says.Requests 9 second_text ∷ says.Ends 9 ∷ [])
    ≡ (3, Some reasons.TwoBeginnings, None) ∷ []
unfolding on_literals
of_two_others = refl

-- the switch gives a reference again: the trial ends
given_again : reasons_of (begun ++ says.Requests 9 initial ∷ says.Ends 7 ∷ says.Confirms 9 91 ∷ says.Ends 8 ∷ [])
    ≡ (1, Some reasons.TwoBeginnings, None) ∷ (2, Some reasons.TwoBeginnings, None) ∷ []
unfolding on_literals
given_again = refl

-- and so it does where frames are missing
at_a_hole : map summary (judged_at_hole (life (begun ++ says.Ends 7 ∷ []))) ≡ (1, 0, true, None) ∷ []
unfolding on_literals
at_a_hole = refl

at_a_hole_alone : judged_at_hole (life (says.Establishes one initial ∷ says.Requests 7 initial ∷ [])) ≡ []
unfolding on_literals
at_a_hole_alone = refl

-- ---- findings

fits : fit_of Faulty Faulty ∷ fit_of Faulty NotJudged ∷ fit_of InOrder Faulty ∷ fit_of NotJudged InOrder ∷ []
    ≡ Neither ∷ One ∷ One ∷ Both ∷ []
fits = refl

seconds : takes_second Faulty Faulty ∷ takes_second Faulty NotJudged ∷ takes_second Faulty InOrder ∷ takes_second InOrder Faulty
    ∷ takes_second InOrder NotJudged ∷ takes_second NotJudged InOrder ∷ takes_second InOrder InOrder ∷ []
    ≡ false ∷ true ∷ true ∷ false ∷ true ∷ false ∷ false ∷ []
seconds = refl
