-- SPDX-License-Identifier: MIT OR Apache-2.0
-- The definitions at literal steps and lines.
use Rattle.std.proofs.Common.{◌≡◌, ℕ, ◌+◌, ◌<◌, true, false, List, [], ◌∷◌, ◌++◌, replicate, refl, sym, ap, subst, arith, inl, inr, zero, suc}
use Rattle.std.proofs.lemmas.Bool.{false≢true}
use mathlib.Core.Option.{some, some-injective}
use lib.ListN.{get_elem?}
use Rattle.atomic_table.specs.Seated.{TableId}
use Rattle.controller_worker.specs.declared.limits.TheConstants.{MAX_REFUSALS, MAX_WAITING, TICK_MS}
use Rattle.controller_worker.specs.Links.{HasDown, IsGivenUpAt, is_given_up, lines}
use Rattle.controller_worker.specs.Moves.{AreOther, IsElsewhere, IsRefused, IsSent, Move, Part, takes, ticks, adds, refuses, frames_in, refusals_in, refusing_of, steps_of, taken_of, times}
use Rattle.controller_worker.specs.Steps.{frames_to, items_of, ticked, whats_of}
use Rattle.controller_worker.specs.Stopping.{IsStepOf, IsTickOf, StopsAt}
use Rattle.controller.specs.Wanting.{MayWantFrame, MayWantMemory, MayWantWhat}
use Rattle.controller_model.specs.Controller.{Controller, new_controller}
use Rattle.controller_model.specs.declared.word.Word.TheVariants.{Nothing, Ping}
use Rattle.controller_model.proofs.Lives.{usual_settings}
use Rattle.controller_model.proofs.OnLiterals.{on_literals}
use Rattle.conn_messages.specs.declared.out.Out.{Out}
use Rattle.controller_model.specs.declared.step.Step.{Step}
use Rattle.controller_model.specs.declared.step.Step.TheVariants.{Take, Tick}
use Rattle.ipa_framing.specs.declared.frame.Frame.{Frame}
use Rattle.ruled_relay.specs.declared.item.Item.{Item}
use Rattle.ruled_relay.specs.declared.item.What.TheVariants as whats
use Rattle.ruled_relay.specs.declared.outbox.Line.TheVariants as marks
use Rattle.ruled_relay.specs.Outbox.{PutterView}

abbrev frame : ℕ → Frame
frame octet = record { stream = 0; body = octet ∷ [] }

abbrev of_frame : ℕ → ℕ → Item
of_frame source octet = record { source = source; what = whats.Frame (frame octet) }

abbrev of_down : ℕ → Item
of_down source = record { source = source; what = whats.Down }

abbrev out : ℕ → ℕ → Out
out to octet = record { to = to; conn = 9; frame = frame octet }

abbrev some_steps : List Step
some_steps = Take (of_frame 1 10) ∷ Tick 3000 ∷ Take (of_frame 0 20) ∷ Take (of_down 1) ∷ Tick 99 ∷ Take (of_down 0) ∷ []

-- a tick is due once this many milliseconds have gathered
hundred_milliseconds : TICK_MS ≡ 100
hundred_milliseconds = refl

-- an outbox is given up after so many refusals in a row, and so many frames wait for it at most
thousand_refusals : MAX_REFUSALS ≡ 1000
thousand_refusals = refl

waiting_frames : MAX_WAITING ≡ 1024
waiting_frames = refl

time_of_steps : ticked some_steps ≡ 3099
time_of_steps = refl

items_of_station : whats_of 1 (items_of some_steps) ≡ whats.Frame (frame 10) ∷ whats.Down ∷ []
items_of_station = refl

items_of_switch : whats_of 0 (items_of some_steps) ≡ whats.Frame (frame 20) ∷ whats.Down ∷ []
items_of_switch = refl

items_of_nobody : whats_of 2 (items_of some_steps) ≡ []
items_of_nobody = refl

frames_of_a_link : frames_to 1 (out 1 10 ∷ out 0 20 ∷ out 1 11 ∷ out 2 30 ∷ []) ≡ frame 10 ∷ frame 11 ∷ []
frames_of_a_link = refl

lines_of_frames : lines (frame 10 ∷ frame 11 ∷ []) ≡ marks.Frame (frame 10) ∷ marks.Frame (frame 11) ∷ []
lines_of_frames = refl

abbrev refused : TableId → ℕ → PutterView
refused queue refusals = record { queue = queue; capacity = 8; put = []; refused = 7; refusals = refusals }

refused_too_seldom : (queue : TableId) → is_given_up (refused queue 999) ≡ false
refused_too_seldom queue = refl

refused_often : (queue : TableId) → is_given_up (refused queue 1000) ≡ true
refused_often queue = refl

-- ---- moves

abbrev part : Move → List Frame → Part
part move frames = record { move = move; frames = frames }

abbrev some_moves : List Move
some_moves = takes (of_frame 1 10) ∷ refuses 2 ∷ ticks 250 ∷ refuses 1 ∷ refuses 2 ∷ adds 1 ∷ takes (of_down 1) ∷ []

steps_of_moves : steps_of some_moves ≡ Take (of_frame 1 10) ∷ Tick 250 ∷ Take (of_down 1) ∷ Take (of_down 1) ∷ []
steps_of_moves = refl

taken_of_moves : taken_of some_moves ≡ of_frame 1 10 ∷ of_down 1 ∷ []
taken_of_moves = refl

refusing_of_moves : refusing_of some_moves ≡ 2 ∷ 1 ∷ 2 ∷ []
refusing_of_moves = refl

refused_twice : times 2 (refusing_of some_moves) ≡ 2
refused_twice = refl

refused_never : times 3 (refusing_of some_moves) ≡ 0
refused_never = refl

all_sent : IsSent false false 1 (part (takes (of_frame 1 10)) (frame 10 ∷ frame 11 ∷ []) ∷ part (refuses 1) [] ∷ part (ticks 250) (frame 12 ∷ []) ∷ []) (frame 10 ∷ frame 11 ∷ frame 12 ∷ [])
all_sent = (refl, ((λ e. cc), ((λ e. cc), ((λ e. cc), tt))))

added_without_a_cause : IsSent false true 1 [] [] → ⊥
added_without_a_cause bad = bad

-- so many refusals of link 2
abbrev refusing : ℕ → List Part
refusing n = replicate n (part (refuses 2) [])

refusals_counted : (n : ℕ) (parts : List Part) → refusals_in 2 (refusing n ++ parts) ≡ n + refusals_in 2 parts
refusals_counted zero parts = omega arith
refusals_counted (suc n) parts =
    let one : refusals_in 2 (refusing (suc n) ++ parts) ≡ suc (refusals_in 2 (refusing n ++ parts)) = refl in
    let h = refusals_counted n parts in omega arith

refusals_add_nothing : (n : ℕ) (parts : List Part) → AreOther 2 parts → AreOther 2 (refusing n ++ parts)
refusals_add_nothing zero parts other = other
refusals_add_nothing (suc n) parts other = ((λ e. cc), refusals_add_nothing n parts other)

-- One step puts two frames: the second is refused, while an item is taken that puts a third. Behind
-- the last refusal link 1's outbox refuses, and its `Down` is added.
abbrev given_up_behind : ℕ → List Part
given_up_behind n =
    part (takes (of_frame 1 10)) (frame 10 ∷ frame 11 ∷ []) ∷ part (refuses 2) [] ∷ part (takes (of_frame 1 12)) (frame 12 ∷ [])
    ∷ (refusing n ++ part (refuses 2) [] ∷ part (refuses 1) [] ∷ part (adds 1) [] ∷ [])

refused_a_thousand_times : IsRefused 2 (given_up_behind 998) (frame 10 ∷ [])
refused_a_thousand_times = record {
  earlier = part (takes (of_frame 1 10)) (frame 10 ∷ frame 11 ∷ []) ∷ part (refuses 2) [] ∷ part (takes (of_frame 1 12)) (frame 12 ∷ []) ∷ refusing 998;
  last = part (refuses 2) [];
  others = part (refuses 1) [] ∷ part (adds 1) [] ∷ [];
  whole = refl;
  refusal = refl;
  elsewhere = ((1, (λ e. cc), inr refl), ((1, (λ e. cc), inl refl), tt));
  often = let c = refusals_counted 998 (part (refuses 2) [] ∷ part (refuses 1) [] ∷ part (adds 1) [] ∷ []) in omega arith;
  refused = frame 11;
  rest = frame 12 ∷ frames_in (refusing 998);
  frames = refl;
}

refused_too_seldom_to_be_given_up : (sent : List Frame) → IsRefused 2 (given_up_behind 997) sent → ⊥
refused_too_seldom_to_be_given_up sent r =
    let c = refusals_counted 997 (part (refuses 2) [] ∷ part (refuses 1) [] ∷ part (adds 1) [] ∷ []) in let often = r.often in omega arith

-- link 2's own `Down` is taken later
down_is_next : IsSent true true 2 (given_up_behind 998 ++ part (adds 2) (frame 13 ∷ []) ∷ part (takes (of_down 2)) [] ∷ []) (frame 10 ∷ [])
down_is_next = (
  given_up_behind 998,
  part (adds 2) (frame 13 ∷ []),
  part (takes (of_down 2)) [] ∷ [],
  refl,
  refused_a_thousand_times,
  refl,
  ((λ e. cc), ((λ e. cc), ((λ e. cc), refusals_add_nothing 998 (part (refuses 2) [] ∷ part (refuses 1) [] ∷ part (adds 1) [] ∷ []) ((λ e. cc), ((λ e. cc), ((λ e. cc), tt)))))),
  ((λ e. cc), tt),
)

-- an item that is taken isn't elsewhere, nor is the link's own refusal
taken_is_not_elsewhere : IsElsewhere 2 (part (takes (of_frame 1 12)) []) → ⊥
taken_is_not_elsewhere (other, differs, inl e) = cc
taken_is_not_elsewhere (other, differs, inr e) = cc

own_refusal_is_not_elsewhere : IsElsewhere 2 (part (refuses 2) []) → ⊥
own_refusal_is_not_elsewhere (other, differs, inl e) = cc
own_refusal_is_not_elsewhere (other, differs, inr e) = differs (let same : other ≡ 2 = cc in same)

down_taken : HasDown (whats.Frame (frame 10) ∷ whats.Down ∷ whats.Frame (frame 11) ∷ [])
down_taken = (whats.Frame (frame 10) ∷ [], whats.Frame (frame 11) ∷ [], refl)

-- ---- the step at which it ran out of memory

abbrev resting : Controller
resting = new_controller usual_settings

-- PING and PONG of a station
abbrev of_control : ℕ → Item
of_control octet = record { source = 1; what = whats.Frame (record { stream = 0xfe; body = octet ∷ [] }) }

at_ping : StopsAt (of_control 0x00 ∷ []) 0 [] resting
unfolding on_literals
at_ping = record { step = Take (of_control 0x00); wants = (refl, inl refl); which = refl }

pong_wants : MayWantFrame 1 (record { stream = 0xfe; body = 0x01 ∷ [] }) → ⊥
unfolding on_literals
pong_wants (inl said) = let same : Nothing ≡ Ping = said in absurd cc
pong_wants (inr readable) = readable

not_at_pong : StopsAt (of_control 0x01 ∷ []) 100 [] resting → ⊥
not_at_pong stops = pong_wants (subst (λ s. MayWantMemory s resting) stops.which stops.wants).1

alone_wants : (gathered : ℕ) (putters : List PutterView) (s : Step) → IsStepOf [] gathered putters s → MayWantMemory s resting → ⊥
alone_wants gathered putters (Tick ms) which wants = wants refl
alone_wants gathered putters (Take item) which wants = subst (λ w. MayWantWhat item.source w resting) which.0 wants.1 refl

-- without a connection it stops at no tick and at no added Down
not_alone : (gathered : ℕ) (putters : List PutterView) → StopsAt [] gathered putters resting → ⊥
not_alone gathered putters stops = alone_wants gathered putters stops.step stops.which stops.wants

-- ---- which step that may be

-- a tick of what has gathered, 100 ms at least, as far as it fits a u32
tick_is_due : IsTickOf 100 100 × IsTickOf 250 250 × IsTickOf 4294967295 4294967295 × IsTickOf 4294967296 4294967295
tick_is_due = ((omega arith, refl), (omega arith, refl), (omega arith, refl), (omega arith, refl))

tick_is_not_due : IsTickOf 99 99 → ⊥
tick_is_not_due due = let enough = due.0 in omega arith

shorter_tick : IsTickOf 250 249 → ⊥
shorter_tick due = let same : 249 ≡ 250 = due.1 in omega arith

longer_tick : IsTickOf 250 251 → ⊥
longer_tick due = let same : 251 ≡ 250 = due.1 in omega arith

-- two outboxes: the first refused 999 times in a row, the second 1,000 times
abbrev outboxes : TableId → List PutterView
outboxes queue = refused queue 999 ∷ refused queue 1000 ∷ []

first_is_not_given_up : (queue : TableId) → IsGivenUpAt (outboxes queue) 0 → ⊥
first_is_not_given_up queue (there, up) = absurd (false≢true (up 0 (refused queue 999) refl refl))

there_is_no_third : (queue : TableId) → IsGivenUpAt (outboxes queue) 2 → ⊥
there_is_no_third queue (there, up) = omega arith

of_the_second : (queue : TableId) (at : ℕ) (p : PutterView) → get_elem? (outboxes queue) at ≡ some p → at ≡ 1 → is_given_up p ≡ true
of_the_second queue at p here same =
    let second : get_elem? (outboxes queue) 1 ≡ some p = subst (λ (n : ℕ). get_elem? (outboxes queue) n ≡ some p) same here in
    ap (λ y. is_given_up y) (sym (some-injective (refused queue 1000) p second))

second_is_given_up : (queue : TableId) → IsGivenUpAt (outboxes queue) 1
second_is_given_up queue = (omega arith, λ at p here same. of_the_second queue at p here same)

-- its Down, and nothing else of its link
down_of_the_second : (queue : TableId) → IsStepOf [] 0 (outboxes queue) (Take (of_down 1))
down_of_the_second queue = (refl, second_is_given_up queue)

no_frame_of_the_second : (queue : TableId) → IsStepOf [] 0 (outboxes queue) (Take (of_frame 1 10)) → ⊥
no_frame_of_the_second queue (down, up) = cc

no_down_of_the_first : (queue : TableId) → IsStepOf [] 0 (outboxes queue) (Take (of_down 0)) → ⊥
no_down_of_the_first queue (down, up) = first_is_not_given_up queue up

-- where an item was taken last, a step of this one alone
item_alone : IsStepOf (of_frame 1 10 ∷ []) 250 [] (Tick 250) → ⊥
item_alone same = let differs : Tick 250 ≡ Take (of_frame 1 10) = same in cc

-- Nothing is due: no tick, no outbox that was given up, and no item. Whatever connections are there,
-- it stops at no step.
nothing_due : (queue : TableId) (s : Step) → IsStepOf [] 99 (refused queue 999 ∷ []) s → ⊥
nothing_due queue (Tick ms) due = let enough = due.0 in omega arith
nothing_due queue (Take item) (down, (there, up)) = absurd (false≢true (up 0 (refused queue 999) refl (let only : item.source < 1 = there in omega arith)))

stops_nowhere : (queue : TableId) (c : Controller) → StopsAt [] 99 (refused queue 999 ∷ []) c → ⊥
stops_nowhere queue c stops = nothing_due queue stops.step stops.which
