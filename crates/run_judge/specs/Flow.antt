-- SPDX-License-Identifier: MIT OR Apache-2.0
-- The messages of one SAPI, uplink or downlink. Messages arrive at the controller, which has to
-- pass each on once and in order: by the rank of the channel, then by arrival.
use Rattle.std.specs.Prelude.{ℕ, zero, suc, ◌+◌, ◌-◌, ◌==◌, ◌&&◌, nat_lt, Bool, true}
use Rattle.std.specs.Prelude.{false}
use Rattle.std.specs.Prelude.{if◌then◌else◌, List, [], ◌∷◌, ◌++◌, length, map, max, slice_get}
use Rattle.std.specs.Prelude.{Option, Some, None, option_map}
use Rattle.std.specs.List.{find, list_any}
use Rattle.std.specs.Str.{bytes_eq}
use Rattle.run_judge.specs.declared.fault.Fault.{Fault}
use Rattle.run_judge.specs.declared.fault.Fault.TheVariants as faults
use Rattle.run_judge.specs.declared.flow.Due.{Due}
use Rattle.run_judge.specs.declared.flow.Order.{Order}
use Rattle.run_judge.specs.declared.flow.Order.TheVariants.{InOrder, Faulty}
use Rattle.run_judge.specs.declared.flow.Passed.{Passed}
use Rattle.run_judge.specs.FlowState.{FlowState}
use Rattle.run_judge.specs.StreamState.{StreamState}

-- A count plus one; it saturates at 2^64 - 1.
abbrev pub counted : ℕ → ℕ
counted n = if nat_lt n 18446744073709551615 then n + 1 else n

abbrev pub new_flow : FlowState
new_flow =
    record { came = 0; gone = 0; order = InOrder (record { due = []; passed = []; reached = 0 }) }

abbrev pub passed_in : ℕ → ℕ → List ℕ → Passed
passed_in rank frame message = record { rank = rank; message = message; frame = frame }

-- A flow that begins with the initial message, which was passed on in the CR.
abbrev pub begun_flow : List ℕ → ℕ → FlowState
begun_flow message frame = record {
  came = 1;
  gone = 1;
  order = InOrder (record { due = []; passed = passed_in 0 frame message ∷ []; reached = 0 });
}

-- ---- a message arrives

-- Inserts a due message after all due messages of the same or a lower rank.
abbrev pub insert_due : Due → List Due → List Due
insert_due d [] = d ∷ []
insert_due d (x ∷ xs) = if nat_lt d.rank x.rank then d ∷ x ∷ xs else x ∷ insert_due d xs

abbrev pub frame_of : Option Passed → ℕ
frame_of None = 0
frame_of (Some p) = p.frame

-- The message that was passed on last.
abbrev pub last_passed : List Passed → Option Passed
last_passed passed = slice_get passed (length passed - 1)

-- The frame of the message that was passed on last; 0 if no message was passed on.
abbrev pub last_frame : List Passed → ℕ
last_frame passed = frame_of (last_passed passed)

-- The frame in which a message with these octets was passed on first.
abbrev pub passed_before : List ℕ → List Passed → Option ℕ
passed_before message passed =
    option_map (λ p. p.frame) (find (λ p. bytes_eq p.message message) passed)

-- Whether a message with these octets was passed on from a later channel. A mobile may repeat its
-- last message on the next channel.
abbrev pub has_copy : ℕ → List ℕ → List Passed → Bool
has_copy rank message passed =
    list_any (λ p. nat_lt rank p.rank && bytes_eq p.message message) passed

-- The message as an optional one: the controller may pass it on or leave it out.
abbrev pub optional : Due → Due
optional d = record d { is_optional = true }

-- A message arrives after a message of a later channel was passed on. The arriving message is
-- optional if a copy of it from a later channel was passed on (`true`); otherwise it is lost.
abbrev pub late : Bool → Due → StreamState → Order
late true d s = InOrder (record s { due = insert_due (optional d) s.due })
late false d s = Faulty (faults.Lost d (last_frame s.passed))

abbrev pub order_arrived : Due → Order → Order
order_arrived d (InOrder s) =
    if nat_lt d.rank s.reached then late (has_copy d.rank d.message s.passed) d s
    else InOrder (record s { due = insert_due d s.due })
order_arrived d (Faulty fault) = Faulty fault

abbrev pub arrived : Due → FlowState → FlowState
arrived d f = record f { came = counted f.came; order = order_arrived d f.order }

-- ---- a message is passed on

-- The due messages from the first that isn't optional on.
abbrev pub standing : List Due → List Due
standing [] = []
standing (d ∷ ds) = if d.is_optional then standing ds else d ∷ ds

-- A message taken from the due ones: its rank, and the messages that are due after it.
pub record Taken : Type 0 where
  pub rank : ℕ
  pub behind : List Due

abbrev pub taken_from : Due → List Due → Taken
taken_from d ds = record { rank = d.rank; behind = ds }

abbrev pub at_head : List ℕ → List Due → Option Taken
at_head message [] = None
at_head message (d ∷ ds) = if bytes_eq d.message message then Some (taken_from d ds) else None

-- The message at a place, if there is one.
abbrev pub taken_at : ℕ → List Due → Option Taken
taken_at place [] = None
taken_at zero (d ∷ ds) = Some (taken_from d ds)
taken_at (suc place) (d ∷ ds) = taken_at place ds

abbrev pub taken_by : Option ℕ → List Due → Option Taken
taken_by None due = None
taken_by (Some place) due = taken_at place due

-- The message with these octets among the optional ones at the front.
abbrev pub among_optional : List ℕ → List Due → Option Taken
among_optional message [] = None
among_optional message (d ∷ ds) =
    if d.is_optional
    then (if bytes_eq d.message message then Some (taken_from d ds) else among_optional message ds)
    else None

abbrev pub or_optional : Option Taken → List ℕ → List Due → Option Taken
or_optional (Some t) message due = Some t
or_optional None message due = among_optional message due

-- The message with these octets, if it may be passed on next: it is the first due message that
-- isn't optional, or an optional message before that one.
abbrev pub next_due : List ℕ → List Due → Option Taken
next_due message due = or_optional (at_head message (standing due)) message due

-- ---- a message that isn't due next is passed on

abbrev pub is_due : List ℕ → List Due → Bool
is_due message due = list_any (λ d. bytes_eq d.message message) due

-- Whether two messages have the same first two octets: discriminator, transaction, type and number.
abbrev pub has_header_of : List ℕ → List ℕ → Bool
has_header_of (first ∷ second ∷ rest) (one ∷ two ∷ others) = (first == one) && (second == two)
has_header_of _ _ = false

-- The fault of a message that was neither due nor passed on before.
abbrev pub unknown_fault : List ℕ → ℕ → Option Due → Fault
unknown_fault message frame None = faults.MadeUp message frame
unknown_fault message frame (Some d) =
    if has_header_of d.message message then faults.Changed d message frame
    else faults.MadeUp message frame

abbrev pub known_fault : Option ℕ → List ℕ → ℕ → Option Due → Fault
known_fault (Some first) message frame next = faults.Doubled message first frame
known_fault None message frame next = unknown_fault message frame next

-- The fault of a message that is due later: the next due message is lost.
abbrev pub left_out : List ℕ → ℕ → Option Due → Fault
left_out message frame None = faults.MadeUp message frame
left_out message frame (Some d) = faults.Lost d frame

abbrev pub fault_with : Bool → Option ℕ → List ℕ → ℕ → Option Due → Fault
fault_with true first message frame next = left_out message frame next
fault_with false first message frame next = known_fault first message frame next

abbrev pub fault_by : List ℕ → ℕ → StreamState → Fault
fault_by message frame s =
    fault_with (is_due message s.due) (passed_before message s.passed) message frame
    (slice_get (standing s.due) 0)

abbrev pub stream_passed : List ℕ → ℕ → StreamState → Option Taken → Order
stream_passed message frame s (Some t) = InOrder (record {
  due = t.behind;
  passed = s.passed ++ passed_in t.rank frame message ∷ [];
  reached = max t.rank s.reached;
})
stream_passed message frame s None = Faulty (fault_by message frame s)

-- The fault once the lost message is passed on after all: the message was overtaken.
abbrev pub overtaken : ℕ → Fault → Fault
overtaken frame (faults.Lost d behind) = faults.Overtaken d behind frame
overtaken frame fault = fault

abbrev pub is_lost : List ℕ → Fault → Bool
is_lost message (faults.Lost d behind) = bytes_eq d.message message
is_lost message fault = false

abbrev pub fault_after : List ℕ → ℕ → Fault → Fault
fault_after message frame fault =
    if is_lost message fault then overtaken frame fault else fault

abbrev pub order_passed : List ℕ → ℕ → Order → Order
order_passed message frame (InOrder s) =
    stream_passed message frame s (next_due message s.due)
order_passed message frame (Faulty fault) = Faulty (fault_after message frame fault)

abbrev pub passed_on : List ℕ → ℕ → FlowState → FlowState
passed_on message frame f =
    record f { gone = counted f.gone; order = order_passed message frame f.order }

-- ---- a SAPI "n" REJECT: due messages become optional

abbrev pub order_rejected : Order → Order
order_rejected (InOrder s) = InOrder (record s { due = map optional s.due })
order_rejected (Faulty fault) = Faulty fault

abbrev pub rejected : FlowState → FlowState
rejected f = record f { order = order_rejected f.order }

-- ---- a fault

abbrev pub order_with : Fault → Order → Order
order_with fault (InOrder s) = Faulty fault
order_with fault (Faulty first) = Faulty first

abbrev pub with_fault : Fault → FlowState → FlowState
with_fault fault f = record f { order = order_with fault f.order }

-- The flow after a message is passed on where no message may be passed on.
abbrev pub passed_wrongly : Fault → FlowState → FlowState
passed_wrongly fault f = with_fault fault (record f { gone = counted f.gone })

-- ---- whether a flow is in order

abbrev pub is_in_order : Order → Bool
is_in_order (InOrder s) = true
is_in_order (Faulty fault) = false

abbrev pub has_octets : List ℕ → Option Passed → Bool
has_octets message None = false
has_octets message (Some p) = bytes_eq p.message message

-- Whether a message has the octets of the one that was passed on last; false after a fault.
abbrev pub is_repetition : List ℕ → Order → Bool
is_repetition message (InOrder s) = has_octets message (last_passed s.passed)
is_repetition message (Faulty fault) = false

-- ---- what the law says

abbrev pub HasNoFaultOf : Order → Type 0
HasNoFaultOf (InOrder s) = Unit {0}
HasNoFaultOf (Faulty fault) = ⊥

-- The flow has no fault: its messages were passed on once and in order.
abbrev pub HasNoFault : FlowState → Type 0
HasNoFault f = HasNoFaultOf f.order
