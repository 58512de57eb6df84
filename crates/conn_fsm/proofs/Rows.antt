-- SPDX-License-Identifier: MIT OR Apache-2.0
-- Definitions against literal values: a connection with number 7, and frames of it.
use Rattle.std.proofs.Common.{◌≡◌, ℕ, Bool, true, false, List, [], ◌∷◌, length, map, Some, None, Ok, Err, refl, sym, ap, ◌∙◌, arith, true≢false}
use Rattle.octets.proofs.Hex.{hex}
use Rattle.conn_messages.specs.declared.channel.Channel.{Channel}
use Rattle.conn_messages.specs.declared.channel.Place.{Place}
use Rattle.conn_messages.specs.declared.out.Out.{Out}
use Rattle.conn_messages.specs.Out.{out_of}
use Rattle.conn_messages.specs.SwitchMessage.{release_complete}
use Rattle.conn_rules.specs.declared.input.Input.TheVariants as inputs
use Rattle.conn_rules.specs.declared.state.Clearing.TheVariants.{Complete}
use Rattle.conn_rules.specs.declared.state.Drain.{Drain}
use Rattle.conn_rules.specs.declared.state.State.TheVariants.{Closed, Removed, WaitActivation}
use Rattle.conn_rules.specs.Connection.{Connection, emptied, new_connection}
use Rattle.conn_rules.specs.Steps.{Row, row}
use Rattle.conn_rules.specs.Table.{row_of}
use Rattle.dtap_codec.specs.declared.sapi.Sapi.TheVariants.{Zero, Three}
use Rattle.hold_queue.specs.ChainState.{TenureHold}
use Rattle.octets.specs.declared.memory.Memory.{Memory}
use Rattle.conn_fsm.specs.Doing.{Closes, Commits, EndsIn, Finishes, IsAsPlanned, IsInitial, IsPlanned, IsUnchanged, Steps, StepsOnOk, UnchangedOnErr, WantsForHeld, WantsForRow, outs_in}
use Rattle.conn_fsm.specs.Leaving.{leaving, left, left_outs, oldest_left}
use Rattle.conn_fsm.specs.Views.{joined}

abbrev channel : ℕ → Channel
channel number = record {
  station = 1;
  number = number;
  cell = hex "00 00 f1 10 00 01 00 01";
  description = record { arfcn = 20; ncc = 1; bcc = 1 };
  reference = record { 0 = 0 };
}

abbrev connection : Connection
connection = new_connection 7 (channel 0x41) (record { access = 0x7f; frame = 0x0102 }) 5

-- RLC of the connection, and one of another
abbrev complete : Out
complete = record { to = 0; conn = 7; frame = record { stream = 0xfd; body = hex "05 80 00 01 00 00 07" } }

abbrev other : Out
other = record { to = 2; conn = 3; frame = record { stream = 0x00; body = hex "08 2e 01 41" } }

-- a row that puts RLC and removes the connection
abbrev released : Row
released = row (release_complete 0x800001 ∷ []) (emptied Removed connection)

-- ---- steps

-- the frame is put behind those that were there, and the answer is true
does_a_row : Steps (Some released) true connection (emptied Removed connection) (other ∷ []) (other ∷ complete ∷ [])
unfolding out_of
does_a_row = (refl, (refl, refl, ((tt, omega arith), tt)))

-- the answer is false, and nothing changes
does_none : Steps None false connection connection (other ∷ []) (other ∷ [])
does_none = (refl, (refl, refl))

no_row_answers_true : Steps None true connection connection [] [] → true ≡ false
no_row_answers_true done = done.0

a_row_answers_true : Steps (Some released) false connection (emptied Removed connection) [] (complete ∷ []) → false ≡ true
a_row_answers_true done = done.0

changes_nothing : IsUnchanged connection connection (other ∷ complete ∷ []) (other ∷ complete ∷ [])
changes_nothing = (refl, refl)

-- ---- answers: what a call says of the step where it succeeds, and where it is refused

abbrev removed : Connection
removed = emptied Removed connection

one_is_not_two : ◌≡◌ {A = ℕ} 1 2 → ⊥
one_is_not_two same = omega (arith, same)

is_not_removed : (now : Connection) → now ≡ removed → now.state ≡ WaitActivation → ⊥
is_not_removed now same waits = let other : Removed ≡ WaitActivation = sym (ap (λ (s : Connection). s.state) same) ∙ waits in absurd cc

true_for_a_row : StepsOnOk (Ok true) (Some released) connection removed (other ∷ []) (other ∷ complete ∷ [])
unfolding out_of
true_for_a_row = (refl, (refl, refl, ((tt, omega arith), tt)))

false_for_none : StepsOnOk (Ok false) None connection connection (other ∷ []) (other ∷ [])
false_for_none = (refl, (refl, refl))

not_false_for_a_row : StepsOnOk (Ok false) (Some released) connection removed [] (complete ∷ []) → ⊥
not_false_for_a_row done = true≢false (sym done.0)

not_true_for_none : StepsOnOk (Ok true) None connection connection [] [] → ⊥
not_true_for_none done = true≢false done.0

no_row_that_remains : StepsOnOk (Ok true) (Some released) connection connection [] (complete ∷ []) → ⊥
no_row_that_remains done = is_not_removed connection done.1.0 refl

none_that_changes : StepsOnOk (Ok false) None connection removed [] [] → ⊥
none_that_changes done = is_not_removed connection (sym done.1.0) refl

no_row_without_its_frame : StepsOnOk (Ok true) (Some released) connection removed (other ∷ []) (other ∷ []) → ⊥
unfolding out_of
no_row_without_its_frame done = one_is_not_two (ap (λ (outs : List Out). length outs) done.1.1)

none_with_a_frame : StepsOnOk (Ok false) None connection connection (other ∷ []) (other ∷ complete ∷ []) → ⊥
none_with_a_frame done = one_is_not_two (sym (ap (λ (outs : List Out). length outs) done.1.1))

refused_as_it_was : (ran_out : Memory) → UnchangedOnErr {T = Bool} (Err ran_out) connection connection (other ∷ []) (other ∷ [])
refused_as_it_was ran_out = (refl, refl)

not_refused_behind_a_change : (ran_out : Memory) → UnchangedOnErr {T = Bool} (Err ran_out) connection removed [] [] → ⊥
not_refused_behind_a_change ran_out stays = is_not_removed connection (sym stays.0) refl

not_refused_behind_a_frame : (ran_out : Memory) →
    UnchangedOnErr {T = Bool} (Err ran_out) connection connection (other ∷ []) (other ∷ complete ∷ []) →
    ⊥
not_refused_behind_a_frame ran_out stays = one_is_not_two (sym (ap (λ (outs : List Out). length outs) stays.1))

-- the row may change all
not_refused : UnchangedOnErr (Ok true) connection removed [] (complete ∷ [])
not_refused = tt

-- ---- where memory may run out: at a row, and at what is held

runs_out_at_a_row : (ran_out : Memory) → WantsForRow {T = Bool} (Err ran_out) (Some released)
runs_out_at_a_row ran_out = refl

runs_out_at_none : (ran_out : Memory) → WantsForRow {T = Bool} (Err ran_out) None → ⊥
runs_out_at_none ran_out wants = true≢false (sym wants)

does_not_run_out : WantsForRow (Ok false) None
does_not_run_out = tt

abbrev at : ℕ → Place
at number = record { station = 1; number = number }

-- it waits for the activation of 41, and for no clear
runs_out_at_its_channel : (ran_out : Memory) →
    WantsForRow {T = Bool} (Err ran_out) (row_of connection (inputs.ActivationAck (at 0x41)) None)
unfolding row_of
runs_out_at_its_channel ran_out = refl

runs_out_at_another_channel : (ran_out : Memory) →
    WantsForRow {T = Bool} (Err ran_out) (row_of connection (inputs.ActivationAck (at 0x49)) None) →
    ⊥
unfolding row_of
runs_out_at_another_channel ran_out wants = true≢false (sym wants)

runs_out_at_a_clear : (ran_out : Memory) → WantsForRow {T = Bool} (Err ran_out) (row_of connection inputs.ClearCommand None) → ⊥
unfolding row_of
runs_out_at_a_clear ran_out wants = true≢false (sym wants)

runs_out_at_one_held : (ran_out : Memory) → WantsForHeld {T = ℕ} (Err ran_out) ((hex "05 24") ∷ [])
runs_out_at_one_held ran_out none = let same : ◌≡◌ {A = List (List ℕ)} ((hex "05 24") ∷ []) [] = none in absurd cc

runs_out_at_none_held : (ran_out : Memory) → WantsForHeld {T = ℕ} {X = List ℕ} (Err ran_out) [] → ⊥
runs_out_at_none_held ran_out wants = wants refl

-- ---- plans

plans_an_expiry : IsPlanned inputs.Expiry
plans_an_expiry = tt

plans_a_drain_expiry : IsPlanned inputs.DrainExpiry
plans_a_drain_expiry = tt

plans_a_station : IsPlanned (inputs.StationDown 2)
plans_a_station = tt

plans_the_switch : IsPlanned inputs.SwitchDown
plans_the_switch = tt

plans_no_clear : IsPlanned inputs.ClearCommand → ⊥
plans_no_clear planned = planned

plans_no_report : IsPlanned inputs.Move → ⊥
plans_no_report planned = planned

-- time may pass for a planned connection, and nothing else
as_planned : IsAsPlanned connection (record connection { waited = 3000; drained = 7 })
as_planned = refl

another_delay : ◌≡◌ {A = ℕ} 6 5 → ⊥
another_delay same = omega arith

not_as_planned : IsAsPlanned connection (record connection { waited = 3000; delay = 6 }) → ⊥
not_as_planned same = another_delay (ap (λ (s : Connection). s.delay) same)

ends_removed : EndsIn (Some Removed) (Some released) connection
ends_removed = refl

ends_where_no_row_fits : EndsIn (Some Removed) None connection → ⊥
ends_where_no_row_fits ends = ends

remains_where_a_row_fits : EndsIn None (Some released) connection → ⊥
remains_where_a_row_fits ends = ends

frames_of_a_row : outs_in (Some released) 7 ≡ complete ∷ []
unfolding out_of
frames_of_a_row = refl

no_frames : outs_in None 7 ≡ []
no_frames = refl

closes : Closes (Some (Closed Complete)) connection (emptied (Closed Complete) connection)
closes = refl

closes_not : Closes None connection connection
closes_not = refl

finishes : Finishes (Some Removed) (complete ∷ []) true connection (emptied Removed connection) (other ∷ []) (other ∷ complete ∷ [])
finishes = (refl, refl, refl)

finishes_nothing : Finishes None [] false connection connection (other ∷ []) (other ∷ [])
finishes_nothing = (refl, (refl, refl))

puts_nothing_without_an_end : Finishes None (complete ∷ []) false connection connection (other ∷ []) (other ∷ complete ∷ []) → ⊥
puts_nothing_without_an_end done = one_is_not_two (sym (ap (λ (outs : List Out). length outs) done.1.1))

commits_nothing : Commits None connection connection []
commits_nothing = (refl, refl)

-- ---- conditions: 1 to 251 octets, or no message

no_initial_message : IsInitial None
no_initial_message = tt

empty_initial_message : IsInitial (Some []) → ⊥
empty_initial_message initial = omega (arith, initial.0)

one_octet : IsInitial (Some (0x05 ∷ []))
one_octet = (omega arith, omega arith)

-- ---- what is held of several tenures, the oldest first

abbrev tenures : List TenureHold
tenures = record { zero = (hex "03 45") ∷ []; three = [] }
    ∷ record { zero = (hex "05 24") ∷ (hex "03 8f") ∷ []; three = (hex "09 01") ∷ [] }
    ∷ []

joined_of_sapi_zero : joined Zero tenures ≡ (hex "03 45") ∷ (hex "05 24") ∷ (hex "03 8f") ∷ []
joined_of_sapi_zero = refl

joined_of_sapi_three : joined Three tenures ≡ (hex "09 01") ∷ []
joined_of_sapi_three = refl

-- ---- old channels leave

abbrev drains : List Bool → List Drain
drains [] = []
drains (done ∷ rest) = record { channel = channel 0x49; is_done = done } ∷ drains rest

-- only the oldest ones, and only as long as they are done
counts : map (λ done. leaving (drains done)) (
    [] ∷ (false ∷ []) ∷ (true ∷ []) ∷ (false ∷ true ∷ []) ∷ (true ∷ false ∷ true ∷ []) ∷ (true ∷ true ∷ true ∷ []) ∷ [])
    ≡ 0 ∷ 0 ∷ 1 ∷ 0 ∷ 1 ∷ 3 ∷ []
counts = refl

-- two old channels drain, and something is held of the second and of the serving one
abbrev draining : Connection
draining = record connection {
  draining = record { channel = channel 0x49; is_done = true } ∷ record { channel = channel 0x0a; is_done = false } ∷ [];
  up = record { limit = 16; tenures = record { zero = []; three = [] } ∷ tenures };
  drained = 1500;
}

the_oldest_left : oldest_left draining ≡ record connection {
  draining = record { channel = channel 0x0a; is_done = false } ∷ [];
  up = record { limit = 16; tenures = record { zero = []; three = [] } ∷ record { zero = (hex "05 24") ∷ (hex "03 8f") ∷ []; three = (hex "09 01") ∷ [] } ∷ [] };
  drained = 0;
}
the_oldest_left = refl

none_left : left 0 draining ≡ draining
none_left = refl

one_left : left 1 draining ≡ oldest_left draining
one_left = refl

-- what is held of channel 0A is relayed, then, with two, what is held of channel 41, SAPI 0 first
relayed_by_one : map (λ message. (out_of 7 message).frame.body) (left_outs 0x800001 1 draining)
    ≡ (hex "06 80 00 01 00 01 05 01 00 02 03 45") ∷ []
unfolding out_of
relayed_by_one = refl

relayed_by_two : map (λ message. (out_of 7 message).frame.body) (left_outs 0x800001 2 draining)
    ≡ (hex "06 80 00 01 00 01 05 01 00 02 03 45")
    ∷ (hex "06 80 00 01 00 01 05 01 00 02 05 24")
    ∷ (hex "06 80 00 01 00 01 05 01 00 02 03 8f")
    ∷ (hex "06 80 00 01 00 01 05 01 83 02 09 01")
    ∷ []
unfolding out_of
relayed_by_two = refl
