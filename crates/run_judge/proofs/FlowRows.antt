-- SPDX-License-Identifier: MIT OR Apache-2.0
-- Rows: the flow after literal messages.
use Rattle.std.proofs.Common.{◌≡◌, ℕ, true, false, List, [], ◌∷◌, Some, None, refl}
use Rattle.octets.proofs.Hex.{hex}
use Rattle.run_judge.specs.declared.fault.Fault.TheVariants as faults
use Rattle.run_judge.specs.declared.flow.Due.{Due}
use Rattle.run_judge.specs.declared.flow.Order.{Order}
use Rattle.run_judge.specs.declared.flow.Order.TheVariants.{InOrder, Faulty}
use Rattle.run_judge.specs.declared.flow.Passed.{Passed}
use Rattle.run_judge.specs.Flow.{HasNoFault, arrived, begun_flow, counted, has_header_of, insert_due, is_in_order, is_repetition, last_frame, new_flow, next_due, passed_in, passed_on, passed_wrongly, rejected, taken_from, with_fault}
use Rattle.run_judge.specs.FlowState.{FlowState}

-- three messages of call control, and one with the header of the first
abbrev first : List ℕ
first = hex "03 05 aa"

abbrev second : List ℕ
second = hex "03 45 bb"

abbrev third : List ℕ
third = hex "03 85 cc"

abbrev first_altered : List ℕ
first_altered = hex "03 05 ab"

abbrev due : ℕ → List ℕ → ℕ → Due
due rank message frame = record { rank = rank; message = message; frame = frame; is_optional = false }

abbrev optional_due : ℕ → List ℕ → ℕ → Due
optional_due rank message frame = record { rank = rank; message = message; frame = frame; is_optional = true }

abbrev stream : List Due → List Passed → ℕ → Order
stream due passed reached = InOrder (record { due = due; passed = passed; reached = reached })

abbrev flow : ℕ → ℕ → Order → FlowState
flow came gone order = record { came = came; gone = gone; order = order }

-- ---- how many are counted

counts : counted 0 ≡ 1
counts = refl

counts_to_the_end : counted 18446744073709551614 ≡ 18446744073709551615
counts_to_the_end = refl

counts_no_further : counted 18446744073709551615 ≡ 18446744073709551615
counts_no_further = refl

-- ---- a message arrives

begins : begun_flow first 7 ≡ flow 1 1 (stream [] (passed_in 0 7 first ∷ []) 0)
begins = refl

arrives : arrived (due 0 first 7) new_flow ≡ flow 1 0 (stream (due 0 first 7 ∷ []) [] 0)
arrives = refl

-- behind all of its rank and below
goes_behind_its_rank : insert_due (due 1 third 9) (due 0 first 5 ∷ due 1 second 7 ∷ due 2 first 8 ∷ []) ≡ due 0 first 5 ∷ due 1 second 7 ∷ due 1 third 9 ∷ due 2 first 8 ∷ []
goes_behind_its_rank = refl

goes_before_a_later_channel : insert_due (due 0 third 9) (due 1 first 5 ∷ optional_due 2 second 7 ∷ []) ≡ due 0 third 9 ∷ due 1 first 5 ∷ optional_due 2 second 7 ∷ []
goes_before_a_later_channel = refl

goes_behind_optional_ones : insert_due (due 1 third 9) (optional_due 0 first 5 ∷ optional_due 1 second 7 ∷ []) ≡ optional_due 0 first 5 ∷ optional_due 1 second 7 ∷ due 1 third 9 ∷ []
goes_behind_optional_ones = refl

-- the last of those that were passed on, not the first
last_of_none : last_frame [] ≡ 0
last_of_none = refl

last_of_two : last_frame (passed_in 0 7 first ∷ passed_in 0 9 second ∷ []) ≡ 9
last_of_two = refl

-- one of the channel that was reached isn't late
of_the_channel_reached : arrived (due 2 second 9) (flow 1 1 (stream [] (passed_in 0 7 first ∷ []) 2)) ≡ flow 2 1 (stream (due 2 second 9 ∷ []) (passed_in 0 7 first ∷ []) 2)
of_the_channel_reached = refl

of_the_channel_before : arrived (due 1 second 9) (flow 1 1 (stream [] (passed_in 0 7 first ∷ []) 2)) ≡ flow 2 1 (Faulty (faults.Lost (due 1 second 9) 7))
of_the_channel_before = refl

-- a copy of one of a later channel that was passed on is due, but may be left out
late_copy : arrived (due 1 first 9) (flow 1 1 (stream (due 2 second 8 ∷ []) (passed_in 2 7 first ∷ []) 2)) ≡ flow 2 1 (stream (optional_due 1 first 9 ∷ due 2 second 8 ∷ []) (passed_in 2 7 first ∷ []) 2)
late_copy = refl

-- one with the octets of an earlier message of its own channel, or of a channel before, is no copy
late_equal_one : arrived (due 1 first 9) (flow 2 2 (stream [] (passed_in 1 7 first ∷ passed_in 2 8 second ∷ []) 2)) ≡ flow 3 2 (Faulty (faults.Lost (due 1 first 9) 8))
late_equal_one = refl

late_equal_one_before : arrived (due 1 first 9) (flow 2 2 (stream [] (passed_in 0 7 first ∷ passed_in 2 8 second ∷ []) 2)) ≡ flow 3 2 (Faulty (faults.Lost (due 1 first 9) 8))
late_equal_one_before = refl

late_copy_is_passed_on : passed_on first 10 (flow 2 1 (stream (optional_due 1 first 9 ∷ due 2 second 8 ∷ []) (passed_in 2 7 first ∷ []) 2)) ≡ flow 2 2 (stream (due 2 second 8 ∷ []) (passed_in 2 7 first ∷ passed_in 1 10 first ∷ []) 2)
late_copy_is_passed_on = refl

late_copy_is_left_out : passed_on second 10 (flow 2 1 (stream (optional_due 1 first 9 ∷ due 2 second 8 ∷ []) (passed_in 2 7 first ∷ []) 2)) ≡ flow 2 2 (stream [] (passed_in 2 7 first ∷ passed_in 2 10 second ∷ []) 2)
late_copy_is_left_out = refl

-- nothing is due any more behind a fault
arrives_behind_a_fault : arrived (due 0 second 9) (flow 1 1 (Faulty (faults.MadeUp first 7))) ≡ flow 2 1 (Faulty (faults.MadeUp first 7))
arrives_behind_a_fault = refl

-- ---- a message is passed on

passes_the_next : passed_on first 10 (flow 2 0 (stream (due 0 first 7 ∷ due 1 second 8 ∷ []) [] 0)) ≡ flow 2 1 (stream (due 1 second 8 ∷ []) (passed_in 0 10 first ∷ []) 0)
passes_the_next = refl

-- its channel is reached
reaches_its_channel : passed_on second 11 (flow 2 1 (stream (due 1 second 8 ∷ []) (passed_in 0 10 first ∷ []) 0)) ≡ flow 2 2 (stream [] (passed_in 0 10 first ∷ passed_in 1 11 second ∷ []) 1)
reaches_its_channel = refl

equal_messages : passed_on first 11 (passed_on first 10 (flow 2 0 (stream (due 0 first 7 ∷ due 1 first 8 ∷ []) [] 0))) ≡ flow 2 2 (stream [] (passed_in 0 10 first ∷ passed_in 1 11 first ∷ []) 1)
equal_messages = refl

-- ---- each fault

is_lost : passed_on second 10 (flow 3 0 (stream (due 0 first 7 ∷ due 0 second 8 ∷ due 0 third 9 ∷ []) [] 0)) ≡ flow 3 1 (Faulty (faults.Lost (due 0 first 7) 10))
is_lost = refl

is_overtaken : passed_on first 12 (flow 3 1 (Faulty (faults.Lost (due 0 first 7) 10))) ≡ flow 3 2 (Faulty (faults.Overtaken (due 0 first 7) 10 12))
is_overtaken = refl

remains_lost : passed_on third 12 (flow 3 1 (Faulty (faults.Lost (due 0 first 7) 10))) ≡ flow 3 2 (Faulty (faults.Lost (due 0 first 7) 10))
remains_lost = refl

-- the first fault remains
is_overtaken_once : passed_on first 14 (flow 3 2 (Faulty (faults.Overtaken (due 0 first 7) 10 12))) ≡ flow 3 3 (Faulty (faults.Overtaken (due 0 first 7) 10 12))
is_overtaken_once = refl

is_doubled : passed_on first 11 (flow 2 1 (stream (due 0 second 8 ∷ []) (passed_in 0 9 third ∷ passed_in 0 10 first ∷ []) 0)) ≡ flow 2 2 (Faulty (faults.Doubled first 10 11))
is_doubled = refl

-- two equal ones are passed on twice, and not three times
is_doubled_behind_equal_ones : passed_on first 12 (flow 2 2 (stream [] (passed_in 0 10 first ∷ passed_in 0 11 first ∷ []) 1)) ≡ flow 2 3 (Faulty (faults.Doubled first 10 12))
is_doubled_behind_equal_ones = refl

-- one that is due and was passed on before leaves out the one before it
is_lost_by_an_equal_one : passed_on first 12 (flow 3 1 (stream (due 0 second 8 ∷ due 0 first 9 ∷ []) (passed_in 0 10 first ∷ []) 0)) ≡ flow 3 2 (Faulty (faults.Lost (due 0 second 8) 12))
is_lost_by_an_equal_one = refl

is_changed : passed_on first_altered 10 (flow 2 0 (stream (due 0 first 7 ∷ due 0 second 8 ∷ []) [] 0)) ≡ flow 2 1 (Faulty (faults.Changed (due 0 first 7) first_altered 10))
is_changed = refl

-- with the header of a later one
is_made_up : passed_on first_altered 10 (flow 2 0 (stream (due 0 second 8 ∷ due 0 first 7 ∷ []) [] 0)) ≡ flow 2 1 (Faulty (faults.MadeUp first_altered 10))
is_made_up = refl

is_made_up_of_nothing : passed_on first 10 new_flow ≡ flow 0 1 (Faulty (faults.MadeUp first 10))
is_made_up_of_nothing = refl

header_of_two_octets : has_header_of (hex "03 05") (hex "03 05 aa") ≡ true
header_of_two_octets = refl

header_of_another_transaction : has_header_of (hex "03 05 aa") (hex "83 05 aa") ≡ false
header_of_another_transaction = refl

header_of_another_number : has_header_of (hex "03 05 aa") (hex "03 45 aa") ≡ false
header_of_another_number = refl

header_of_one_octet : has_header_of (hex "03") (hex "03") ≡ false
header_of_one_octet = refl

-- ---- a SAPI "n" REJECT

is_rejected : rejected (flow 2 0 (stream (due 0 first 7 ∷ due 0 second 8 ∷ []) [] 0)) ≡ flow 2 0 (stream (optional_due 0 first 7 ∷ optional_due 0 second 8 ∷ []) [] 0)
is_rejected = refl

rejects_behind_a_fault : rejected (flow 2 1 (Faulty (faults.MadeUp first 7))) ≡ flow 2 1 (Faulty (faults.MadeUp first 7))
rejects_behind_a_fault = refl

-- each may be passed on, or left out
rejected_first : next_due first (optional_due 0 first 7 ∷ optional_due 1 second 8 ∷ due 2 third 9 ∷ []) ≡ Some (taken_from (optional_due 0 first 7) (optional_due 1 second 8 ∷ due 2 third 9 ∷ []))
rejected_first = refl

rejected_second : next_due second (optional_due 0 first 7 ∷ optional_due 1 second 8 ∷ due 2 third 9 ∷ []) ≡ Some (taken_from (optional_due 1 second 8) (due 2 third 9 ∷ []))
rejected_second = refl

behind_rejected_ones : next_due third (optional_due 0 first 7 ∷ optional_due 1 second 8 ∷ due 2 third 9 ∷ []) ≡ Some (taken_from (due 2 third 9) [])
behind_rejected_ones = refl

-- but not before one that isn't optional
rejected_behind_a_due_one : next_due second (due 0 first 7 ∷ optional_due 0 second 8 ∷ []) ≡ None
rejected_behind_a_due_one = refl

-- of a rejected one and its repetition the repetition counts
rejected_and_repeated : next_due first (optional_due 0 first 7 ∷ due 0 first 8 ∷ due 0 second 9 ∷ []) ≡ Some (taken_from (due 0 first 8) (due 0 second 9 ∷ []))
rejected_and_repeated = refl

-- what a rejected one left out isn't lost: the first that isn't optional is
rejected_is_not_lost : passed_on third 10 (flow 3 0 (stream (optional_due 0 first 7 ∷ due 0 second 8 ∷ due 0 third 9 ∷ []) [] 0)) ≡ flow 3 1 (Faulty (faults.Lost (due 0 second 8) 10))
rejected_is_not_lost = refl

-- ---- what is wrong otherwise

is_wrong : with_fault (faults.MadeUp second 9) (flow 2 1 (stream (due 0 first 7 ∷ []) [] 0)) ≡ flow 2 1 (Faulty (faults.MadeUp second 9))
is_wrong = refl

was_wrong_before : with_fault (faults.MadeUp second 9) (flow 2 1 (Faulty (faults.MadeUp first 8))) ≡ flow 2 1 (Faulty (faults.MadeUp first 8))
was_wrong_before = refl

is_passed_wrongly : passed_wrongly (faults.HandedElsewhere second 9) (flow 2 1 (stream (due 0 first 7 ∷ []) [] 0)) ≡ flow 2 2 (Faulty (faults.HandedElsewhere second 9))
is_passed_wrongly = refl

-- ---- how far it is in order

new_is_in_order : is_in_order new_flow.order ≡ true
new_is_in_order = refl

faulty_is_in_order_no_more : is_in_order (Faulty (faults.MadeUp first 8)) ≡ false
faulty_is_in_order_no_more = refl

repeats_the_last : is_repetition second (stream [] (passed_in 0 7 first ∷ passed_in 0 9 second ∷ []) 0) ≡ true
repeats_the_last = refl

repeats_the_last_but_one : is_repetition first (stream [] (passed_in 0 7 first ∷ passed_in 0 9 second ∷ []) 0) ≡ false
repeats_the_last_but_one = refl

-- one that is due wasn't passed on
repeats_one_that_is_due : is_repetition first (stream (due 0 first 7 ∷ []) [] 0) ≡ false
repeats_one_that_is_due = refl

repeats_its_header : is_repetition first_altered (stream [] (passed_in 0 7 first ∷ []) 0) ≡ false
repeats_its_header = refl

repeats_behind_a_fault : is_repetition first (Faulty (faults.MadeUp first 8)) ≡ false
repeats_behind_a_fault = refl

-- ---- what the law says

in_order_is_without_fault : HasNoFault new_flow
in_order_is_without_fault = tt

faulty_is_not : HasNoFault (flow 1 1 (Faulty (faults.MadeUp first 8))) → ⊥
faulty_is_not h = h
