-- SPDX-License-Identifier: MIT OR Apache-2.0
-- What a call does to the controller and the outputs, and which inputs connections get, at literal
-- values.
use Rattle.controller.proofs.Prelude.{◌≡◌, ℕ, Bool, true, false, List, [], ◌∷◌, map, Some, None, refl, sym, ap, arith, Channel, Out}
use Rattle.controller.proofs.Prelude.{WaitActivation, WaitEstablish, WaitConfirm, Live, Connection, ConnectionsState, Controller, Entry, Report}
use Rattle.controller.proofs.Prelude.{turn}
use Rattle.std.proofs.Common.{Ok, Err, replicate, true≢false, inl, inr}
use Rattle.octets.proofs.Hex.{hex}
use Rattle.conn_messages.specs.declared.channel.Change.TheVariants.{Assignment, Handover}
use Rattle.conn_rules.specs.declared.input.Input.TheVariants as inputs
use Rattle.conn_rules.specs.declared.state.Stage.TheVariants.{Active, Preparing, Changing, Draining}
use Rattle.controller_model.specs.declared.channel_state.ChannelState.TheVariants.{InUse}
use Rattle.controller_model.specs.Controller.{new_controller, place_at, with_state}
use Rattle.controller_model.specs.Life.{may_open, new_entry, pong, step}
use Rattle.controller_model.proofs.Lives.{down, on_stream, usual_settings}
use Rattle.controller_model.proofs.OnLiterals.{on_literals}
use Rattle.controller.specs.declared.many.Cause.TheVariants.{Time, Break}
use Rattle.controller.specs.Doing.{IsUnchanged, Turns, UnchangedOnErr, by_offer, fits_in, fits_with}
use Rattle.controller.specs.Many.{AreReady, Due, IsReadyFor, all_due, due, due_of}
use Rattle.controller.specs.Offers.{HasCell, awaits, may_begin}
use Rattle.controller.specs.Rest.{is_at_rest, left_without_number, new_from}
use Rattle.controller.specs.Consistent.{IsConsistent}
use Rattle.controller.specs.Wanting.{MayWantFrame, MayWantMemory, MayWantWord, MovesBy}
use Rattle.dtap_codec.specs.declared.sapi.Sapi.TheVariants.{Zero}
use Rattle.controller_model.specs.declared.step.Step.TheVariants.{Tick}
use Rattle.controller_model.specs.declared.word.Word.TheVariants.{Nothing, Ping, Asks, OnChannel, Reports, OnConnection}
use Rattle.octets.specs.declared.memory.Memory.{Memory}
use Rattle.rsl_codec.specs.declared.fault.RslFault.TheVariants as radio
use Rattle.ho_decision.specs.declared.decision.Decision.TheVariants.{Stay, Move}

abbrev fresh : Controller
fresh = new_controller usual_settings

abbrev counted : Controller
counted = record fresh { ignored = 1 }

abbrev first : List Out → ℕ
first [] = 0
first (out ∷ outs) = out.to

one_is_not_two : ◌≡◌ {A = ℕ} 1 2 → ⊥
one_is_not_two same = omega (arith, same)

none_is_not_one : ◌≡◌ {A = ℕ} 0 1 → ⊥
none_is_not_one same = omega (arith, same)

one_is_not_none : ◌≡◌ {A = ℕ} 1 0 → ⊥
one_is_not_none same = omega (arith, same)

-- ---- a turn: its frames are behind what was put, and the controller is the turn's

puts_behind : Turns (turn (pong 1 ∷ []) counted) fresh counted (pong 2 ∷ []) (pong 2 ∷ pong 1 ∷ [])
puts_behind = (refl, refl)

puts_nothing_in_front : Turns (turn (pong 1 ∷ []) counted) fresh counted (pong 2 ∷ []) (pong 1 ∷ pong 2 ∷ []) → ⊥
puts_nothing_in_front turns = one_is_not_two (ap first turns.1)

keeps_what_was_put : Turns (turn (pong 1 ∷ []) counted) fresh counted (pong 2 ∷ []) (pong 1 ∷ []) → ⊥
keeps_what_was_put turns = one_is_not_two (ap first turns.1)

drops_no_frame : Turns (turn (pong 1 ∷ []) counted) fresh counted [] [] → ⊥
drops_no_frame turns = none_is_not_one (ap first turns.1)

is_the_turns : Turns (turn [] counted) fresh fresh [] [] → ⊥
is_the_turns turns = none_is_not_one (ap (λ (c : Controller). c.ignored) turns.0)

-- a PING of station 2, behind a frame for station 1
answers_behind : Turns (step fresh (on_stream 2 0xfe (0x00 ∷ []))) fresh fresh (pong 1 ∷ []) (pong 1 ∷ pong 2 ∷ [])
unfolding on_literals
answers_behind = (refl, refl)

-- ---- a refusal: all is as before

is_as_before : IsUnchanged counted counted (pong 2 ∷ []) (pong 2 ∷ [])
is_as_before = (refl, refl)

counts_no_refusal : IsUnchanged fresh counted [] [] → ⊥
counts_no_refusal stays = one_is_not_none (ap (λ (c : Controller). c.ignored) stays.0)

puts_nothing_when_refused : IsUnchanged fresh fresh [] (pong 1 ∷ []) → ⊥
puts_nothing_when_refused stays = one_is_not_none (ap first stays.1)

drops_nothing_when_refused : IsUnchanged fresh fresh (pong 1 ∷ []) [] → ⊥
drops_nothing_when_refused stays = none_is_not_one (ap first stays.1)

refused_as_it_was : (ran_out : Memory) → UnchangedOnErr {T = ℕ} (Err ran_out) counted counted (pong 2 ∷ []) (pong 2 ∷ [])
refused_as_it_was ran_out = (refl, refl)

not_refused_and_counted : (ran_out : Memory) → UnchangedOnErr {T = ℕ} (Err ran_out) fresh counted [] [] → ⊥
not_refused_and_counted ran_out stays = one_is_not_none (ap (λ (c : Controller). c.ignored) stays.0)

not_refused_behind_a_frame : (ran_out : Memory) → UnchangedOnErr {T = ℕ} (Err ran_out) fresh fresh [] (pong 1 ∷ []) → ⊥
not_refused_behind_a_frame ran_out stays = one_is_not_none (ap first stays.1)

not_refused : UnchangedOnErr {T = ℕ} {E = Memory} (Ok 7) fresh counted [] (pong 1 ∷ [])
not_refused = tt

-- ---- connections with these numbers, on 41 of cell 1

abbrev channel : ℕ → ℕ → Channel
channel station number = record {
  station = station;
  number = number;
  cell = hex "00 00 f1 10 00 01 00 01";
  description = record { arfcn = 20; ncc = 1; bcc = 1 };
  reference = record { 0 = 0 };
}

abbrev entry : ℕ → Entry
entry number = new_entry usual_settings number (channel 1 0x41) (record { access = 0x7f; frame = 0x0102 }) 5

abbrev connection : ℕ → Connection
connection number = (entry number).connection

-- to 0A of cell 2
abbrev handed_over : Connection
handed_over = record (connection 7) { state = Live 0x800001 (Preparing (record { change = Handover; channel = channel 2 0x0a })) }

abbrev commanded : Connection
commanded = record (connection 7) { state = Live 0x800001 (Changing (record { change = Assignment; channel = channel 2 0x0a })) }

-- ---- whether a row fits

waits_for_its_channel : fits_in fresh (inputs.ActivationAck (place_at 1 0x41)) (Some (entry 7)) ≡ true
unfolding on_literals
waits_for_its_channel = refl

waits_for_no_clear : fits_in fresh inputs.ClearCommand (Some (entry 7)) ≡ false
unfolding on_literals
waits_for_no_clear = refl

fits_nobody : fits_in fresh inputs.SwitchDown None ≡ false
fits_nobody = refl

fits_nobody_with_an_offer : fits_with inputs.Move (Some (channel 2 0x41)) None ≡ false
fits_nobody_with_an_offer = refl

moves_nobody : by_offer inputs.Move (Some (channel 2 0x41)) counted None ≡ turn [] counted
moves_nobody = refl

-- a connection that isn't confirmed yet doesn't move
moves_no_new_one : by_offer inputs.Move (Some (channel 2 0x41)) counted (Some (entry 7)) ≡ turn [] counted
unfolding on_literals
moves_no_new_one = refl

-- ---- which inputs a change may begin with, or after

begins_or_ends_a_change : map may_begin (inputs.AssignmentRequest true ∷ inputs.AssignmentRequest false ∷ inputs.Complete (place_at 1 0x41) Assignment (record { 0 = 0 })
    ∷ inputs.Failure (place_at 1 0x41) Handover (record { 0 = 3 }) ∷ inputs.ActivationNack (place_at 1 0x41) ∷ inputs.ReleaseAck (place_at 1 0x41) ∷ inputs.Move ∷ [])
    ≡ replicate 7 true
begins_or_ends_a_change = refl

begins_with_nothing_else : map may_begin (inputs.ActivationAck (place_at 1 0x41) ∷ inputs.EstablishIndication (place_at 1 0x41) Zero None
    ∷ inputs.EstablishConfirm (place_at 1 0x41) Zero ∷ inputs.ReleaseIndication (place_at 1 0x41) Zero ∷ inputs.ErrorIndication (place_at 1 0x41) Zero
    ∷ inputs.ConnectionFailure (place_at 1 0x41) ∷ inputs.Dtap (place_at 1 0x41) Zero (5 ∷ []) ∷ inputs.ConnectionConfirm 0x800001 ∷ inputs.ConnectionRefused
    ∷ inputs.Released 0x800001 ∷ inputs.Downlink Zero (5 ∷ []) ∷ inputs.CipherModeCommand ∷ inputs.ClearCommand ∷ inputs.Expiry ∷ inputs.DrainExpiry
    ∷ inputs.StationDown 1 ∷ inputs.SwitchDown ∷ [])
    ≡ replicate 17 false
begins_with_nothing_else = refl

-- ---- whose activation is waited for: the access channel's, then the target's

awaits_access : map (awaits WaitActivation (connection 7)) (place_at 1 0x41 ∷ place_at 1 0x49 ∷ place_at 2 0x41 ∷ []) ≡ true ∷ false ∷ false ∷ []
awaits_access = refl

awaits_target : map (awaits handed_over.state handed_over) (place_at 2 0x0a ∷ place_at 1 0x0a ∷ place_at 1 0x41 ∷ []) ≡ true ∷ false ∷ false ∷ []
awaits_target = refl

awaits_none_once_commanded : awaits commanded.state commanded (place_at 2 0x0a) ≡ false
awaits_none_once_commanded = refl

awaits_none_once_assigned : awaits WaitEstablish (connection 7) (place_at 1 0x41) ≡ false
awaits_none_once_assigned = refl

-- ---- cells are numbered from 1

no_cell_before_the_first : HasCell (Move 0) → ⊥
no_cell_before_the_first has = omega (arith, has)

moves_to_the_first : HasCell (Move 1)
moves_to_the_first = omega arith

remains_where_it_is : HasCell Stay
remains_where_it_is = tt

-- ---- what is due: T3101 is 3 seconds, T3103 and T3107 are 5, the drain time is 2

before_its_time : due (Time 2999) usual_settings.timers (connection 7) ≡ None
before_its_time = refl

at_its_time : due (Time 3000) usual_settings.timers (connection 7) ≡ Some inputs.Expiry
at_its_time = refl

-- the time that passed already counts
after_some_time : due (Time 1) usual_settings.timers (record handed_over { waited = 4999 }) ≡ Some inputs.Expiry
after_some_time = refl

has_no_timer : due (Time 4294967295) usual_settings.timers (record (connection 7) { state = WaitConfirm }) ≡ None
has_no_timer = refl

abbrev draining : Connection
draining = record (connection 7) { state = Live 0x800001 Draining; draining = record { channel = channel 1 0x49; is_done = false } ∷ []; drained = 1000 }

drains_on : due (Time 999) usual_settings.timers draining ≡ None
drains_on = refl

drains_too_long : due (Time 1000) usual_settings.timers draining ≡ Some inputs.DrainExpiry
drains_too_long = refl

-- where both expire the state's timer is first
expires_first : due (Time 5000) usual_settings.timers (record draining { state = handed_over.state }) ≡ Some inputs.Expiry
expires_first = refl

station_breaks : due (Break 2) usual_settings.timers (connection 7) ≡ Some (inputs.StationDown 2)
station_breaks = refl

switch_breaks : due (Break 0) usual_settings.timers (connection 7) ≡ Some inputs.SwitchDown
switch_breaks = refl

-- planned for the connection as it was before the time passed
is_planned_before : due_of (Time 3000) usual_settings.timers (connection 7) ≡ record { number = 7; was = connection 7; input = inputs.Expiry } ∷ []
is_planned_before = refl

is_not_planned : due_of (Time 2999) usual_settings.timers (connection 7) ≡ []
is_not_planned = refl

abbrev break_due : ℕ → Due
break_due number = record { number = number; was = connection number; input = inputs.SwitchDown }

all_are_planned : all_due (Break 0) usual_settings.timers (entry 7 ∷ entry 9 ∷ []) ≡ break_due 7 ∷ break_due 9 ∷ []
all_are_planned = refl

-- ---- a plan is carried out for the connection that it is for

ready_when_aged : IsReadyFor (connection 7) (Some (record (entry 7) { connection = record (connection 7) { waited = 3000 } }))
ready_when_aged = refl

ready_for_nobody : IsReadyFor (connection 7) None → ⊥
ready_for_nobody ready = ready

ready_for_another : IsReadyFor (record (connection 7) { number = 1 }) (Some (record (entry 7) { connection = record (connection 7) { number = 2 } })) →
    ⊥
ready_for_another ready = one_is_not_two (ap (λ (s : Connection). s.number) (sym ready))

ready_twice : AreReady (break_due 7 ∷ break_due 7 ∷ []) (entry 7 ∷ []) → ⊥
ready_twice ready = ready.1.0 refl

-- ---- the next number is above all others, up to 24 bits; a link for each cell and one

abbrev one_connection : ConnectionsState
one_connection = record { settings = usual_settings; entries = entry 7 ∷ [] }

at_the_start : IsConsistent usual_settings one_connection (true ∷ false ∷ true ∷ []) 8
at_the_start = record { settings = refl; links = refl; below = (omega arith, tt); numbers = omega arith }

at_the_end_of_numbers : IsConsistent usual_settings one_connection (true ∷ false ∷ true ∷ []) 16777216
at_the_end_of_numbers = record { settings = refl; links = refl; below = (omega arith, tt); numbers = omega arith }

number_given_already : IsConsistent usual_settings one_connection (true ∷ false ∷ true ∷ []) 7 → ⊥
number_given_already standing = omega (arith, standing.below.0)

number_of_25_bits : IsConsistent usual_settings one_connection (true ∷ false ∷ true ∷ []) 16777217 → ⊥
number_of_25_bits standing = omega (arith, standing.numbers)

link_is_missing : IsConsistent usual_settings one_connection (true ∷ true ∷ []) 8 → ⊥
link_is_missing standing = omega (arith, standing.links)

-- ---- at rest: every link is down, and no connection is left

abbrev broken : Controller
broken = record fresh { links = false ∷ false ∷ false ∷ [] }

rests : is_at_rest broken ≡ true
rests = refl

not_while_one_is_up : map (λ (links : List Bool). is_at_rest (record fresh { links = links })) ((true ∷ false ∷ false ∷ []) ∷ (false ∷ true ∷ false ∷ []) ∷ (false ∷ false ∷ true ∷ []) ∷ []) ≡ replicate 3 false
not_while_one_is_up = refl

not_with_a_connection : is_at_rest (record broken { entries = entry 7 ∷ [] }) ≡ false
not_with_a_connection = refl

-- ---- what may want memory

abbrev holding : Controller
holding = record fresh { entries = entry 7 ∷ [] }

-- a link breaks while there is a connection
break_with_one : MayWantMemory (down 0) holding
break_with_one = (refl, λ none. let same : ◌≡◌ {A = List Due} (break_due 7 ∷ []) [] = none in absurd cc)

break_with_none : MayWantMemory (down 0) fresh → ⊥
break_with_none wants = wants.1 refl

break_after_break : MayWantMemory (down 0) (record holding { links = false ∷ true ∷ true ∷ [] }) → ⊥
break_after_break wants = true≢false (sym wants.0)

-- T3101 expires, or not yet
tick_at_its_time : MayWantMemory (Tick 3000) holding
tick_at_its_time = λ none. let same : ◌≡◌ {A = List Due} (record { number = 7; was = connection 7; input = inputs.Expiry } ∷ []) [] = none in absurd cc

tick_before_its_time : MayWantMemory (Tick 2999) holding → ⊥
tick_before_its_time wants = wants refl

-- PING, and RF CHANNEL RELEASE ACK of 41
ping_wants : MayWantMemory (on_stream 1 0xfe (0x00 ∷ [])) fresh
unfolding on_literals
ping_wants = (refl, inl refl)

message_wants : MayWantMemory (on_stream 1 0x00 (hex "08 33 01 41")) fresh
unfolding on_literals
message_wants = (refl, inr tt)

of_no_link : MayWantMemory (on_stream 3 0x00 (hex "08 33 01 41")) fresh → ⊥
of_no_link wants = true≢false (sym wants.0)

-- the same without a channel number; PONG
refused_wants : MayWantFrame 1 (record { stream = 0x00; body = hex "08 33" }) → ⊥
unfolding on_literals
refused_wants (inl said) = let same : Nothing ≡ Ping = said in absurd cc
refused_wants (inr fault) = let same : radio.MissingElement 0x01 ≡ radio.Memory = fault in absurd cc

pong_wants : MayWantFrame 1 (record { stream = 0xfe; body = 0x01 ∷ [] }) → ⊥
unfolding on_literals
pong_wants (inl said) = let same : Nothing ≡ Ping = said in absurd cc
pong_wants (inr readable) = readable

-- ---- what each word may want memory for: connection 7 waits for the activation of 41 of cell 1

abbrev used : Controller
used = record holding { channels = with_state (place_at 1 0x41) (InUse 7) holding.channels }

ping_may_want : MayWantWord 1 Ping fresh
ping_may_want = tt

nothing_may_want : MayWantWord 1 Nothing fresh → ⊥
nothing_may_want wants = wants

-- CLEAR COMMAND, CC, CREF and RLSD of a number that no connection has
clear_of_nobody : MayWantWord 0 (OnConnection 9 inputs.ClearCommand) used → ⊥
clear_of_nobody wants = true≢false (sym wants)

confirm_of_nobody : MayWantWord 0 (OnConnection 9 (inputs.ConnectionConfirm 0x800001)) used → ⊥
confirm_of_nobody wants = true≢false (sym wants)

refusal_of_nobody : MayWantWord 0 (OnConnection 9 inputs.ConnectionRefused) used → ⊥
refusal_of_nobody wants = true≢false (sym wants)

released_of_nobody : MayWantWord 0 (OnConnection 9 (inputs.Released 0x800001)) used → ⊥
released_of_nobody wants = true≢false (sym wants)

-- the same of one that has no row for them yet
clear_too_early : MayWantWord 0 (OnConnection 7 inputs.ClearCommand) used → ⊥
unfolding on_literals
clear_too_early wants = true≢false (sym wants)

released_too_early : MayWantWord 0 (OnConnection 7 (inputs.Released 0x800001)) used → ⊥
unfolding on_literals
released_too_early wants = true≢false (sym wants)

-- and of one that waits for the switch
abbrev asking : Controller
asking = record used { entries = record (entry 7) { connection = record (connection 7) { state = WaitConfirm } } ∷ [] }

confirm_may_want : MayWantWord 0 (OnConnection 7 (inputs.ConnectionConfirm 0x800001)) asking
unfolding on_literals
confirm_may_want = refl

released_may_want : MayWantWord 0 (OnConnection 7 (inputs.Released 0x800001)) asking
unfolding on_literals
released_may_want = refl

acknowledgement_may_want : MayWantWord 1 (OnChannel (place_at 1 0x41) (inputs.ActivationAck (place_at 1 0x41))) used
unfolding on_literals
acknowledgement_may_want = refl

-- of the free channel 49
of_a_free_channel : MayWantWord 1 (OnChannel (place_at 1 0x49) (inputs.ActivationAck (place_at 1 0x49))) used → ⊥
unfolding on_literals
of_a_free_channel wants = true≢false (sym wants)

access_may_want : MayWantWord 1 (Asks (record { access = 0x7f; frame = 0x0102 }) 5) fresh
unfolding on_literals
access_may_want = (refl, refl)

access_without_the_switch : MayWantWord 1 (Asks (record { access = 0x7f; frame = 0x0102 }) 5) (record fresh { links = false ∷ true ∷ true ∷ [] }) →
    ⊥
unfolding on_literals
access_without_the_switch wants = true≢false (sym wants.0)

access_without_the_station : MayWantWord 1 (Asks (record { access = 0x7f; frame = 0x0102 }) 5) (record fresh { links = true ∷ false ∷ true ∷ [] }) →
    ⊥
unfolding on_literals
access_without_the_station wants = true≢false (sym wants.1)

access_without_a_number : MayWantWord 1 (Asks (record { access = 0x7f; frame = 0x0102 }) 5) (new_from usual_settings 16777216) → ⊥
unfolding on_literals
access_without_a_number wants = true≢false (sym wants.0)

-- the SDCCH of cell 2 is in use; its TCH is no channel for access
access_without_a_channel : MayWantWord 2 (Asks (record { access = 0x7f; frame = 0x0102 }) 5) (record fresh { channels = with_state (place_at 2 0x41) (InUse 7) fresh.channels }) →
    ⊥
unfolding on_literals
access_without_a_channel wants = true≢false (sym wants.1)

downlink_of_nobody : MayWantWord 0 (OnConnection 9 (inputs.Downlink Zero (5 ∷ []))) asking → ⊥
downlink_of_nobody wants = true≢false (sym wants)

-- reports of 41: levels are compared at every sixth number, from 5
abbrev report : Report
report = record { ba_used = 0; dtx_used = false; rxlev_full = 20; valid = true; rxlev_sub = 21; rxqual_full = 0; rxqual_sub = 1; no_ncell = 0; entries = [] }

report_is_compared : MayWantWord 1 (Reports (place_at 1 0x41) 5 report) asking
unfolding on_literals
report_is_compared = (refl, inl (refl, refl))

report_between : MayWantWord 1 (Reports (place_at 1 0x41) 4 report) asking → ⊥
unfolding on_literals
report_between (measured, inl compared) = true≢false (sym compared.1)
report_between (measured, inr moves) = moves

-- not on 49, and not before the switch is asked
report_of_a_free_channel : MayWantWord 1 (Reports (place_at 1 0x49) 5 report) asking → ⊥
unfolding on_literals
report_of_a_free_channel wants = true≢false (sym wants.0)

report_too_early : MayWantWord 1 (Reports (place_at 1 0x41) 5 report) used → ⊥
unfolding on_literals
report_too_early wants = true≢false (sym wants.0)

-- a decision to move wants memory where the handover may begin
moves_where_it_lives : MovesBy (Move 2) (Some (record (entry 7) { connection = record (connection 7) { state = Live 0x800001 Active } }))
unfolding on_literals
moves_where_it_lives = refl

moves_not_while_it_changes : MovesBy (Move 2) (Some (record (entry 7) { connection = handed_over })) → ⊥
unfolding on_literals
moves_not_while_it_changes moves = true≢false (sym moves)

moves_not_where_it_stays : MovesBy Stay (Some (record (entry 7) { connection = record (connection 7) { state = Live 0x800001 Active } })) →
    ⊥
moves_not_where_it_stays moves = moves

-- ---- the last number is 16,777,215

begins_with_one : new_from usual_settings 1 ≡ fresh
begins_with_one = refl

opens_up_to_the_last : map (λ (number : ℕ). may_open (new_from usual_settings number)) (1 ∷ 16777215 ∷ 16777216 ∷ []) ≡ true ∷ true ∷ false ∷ []
opens_up_to_the_last = refl

numbers_left_before : map (λ (number : ℕ). left_without_number (new_from usual_settings number)) (1 ∷ 16777215 ∷ []) ≡ None ∷ None ∷ []
numbers_left_before = refl

nobody_is_left : left_without_number (new_from usual_settings 16777216) ≡ Some 0
nobody_is_left = refl

one_is_left : left_without_number (record (new_from usual_settings 16777216) { entries = entry 7 ∷ [] }) ≡ Some 1
one_is_left = refl
