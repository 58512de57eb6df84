-- SPDX-License-Identifier: MIT OR Apache-2.0
-- The definitions at literal values: two cells, and connections with the numbers 7 and 9.
use Rattle.std.proofs.Common.{◌≡◌, ℕ, zero, suc, true, false, List, [], ◌∷◌, length, map, Option, Some, None, Err, codes, refl, sym, ap, arith, true≢false}
use Rattle.octets.proofs.Hex.{hex}
use Rattle.conn_fsm.specs.Doing.{WantsForRow}
use Rattle.conn_fsm.specs.PlanState.{PlanState}
use Rattle.conn_messages.specs.declared.channel.Change.TheVariants.{Handover}
use Rattle.conn_messages.specs.declared.channel.Channel.{Channel}
use Rattle.conn_messages.specs.declared.out.Out.{Out}
use Rattle.conn_rules.specs.declared.input.Input.TheVariants as inputs
use Rattle.conn_rules.specs.declared.state.Stage.TheVariants.{Preparing}
use Rattle.conn_rules.specs.declared.state.State.TheVariants.{Live, Removed, WaitEstablish}
use Rattle.conn_rules.specs.Connection.{Connection, emptied}
use Rattle.conn_rules.specs.Steps.{row}
use Rattle.controller_model.specs.Controller.{Entry, place_at}
use Rattle.controller_model.specs.Life.{new_entry, pong}
use Rattle.controller_model.proofs.OnLiterals.{on_literals}
use Rattle.dtap_codec.specs.declared.report.Report.{Report}
use Rattle.octets.specs.declared.memory.Memory.{Memory}
use Rattle.ho_decision.specs.declared.decision.Decision.TheVariants.{Move, Stay}
use Rattle.ho_decision.specs.Settings.{Settings as HandoverSettings}
use Rattle.settings.specs.Parameters.{CellParameters, Parameters, handover_settings_of}
use Rattle.connections.specs.Entries.{AreHandovers, AreKept, AreOfFirst, AreRising, IsBelow, IsKept, IsOfCell, IsOffer, ComparesWith, decision_over_all, decision_with, entry_in}
use Rattle.connections.specs.Index.{IsTable, IsVacated, OthersAreVacant, SameBut, Settles, number_in}
use Rattle.connections.specs.Steps.{CommitsFor, IsLeft, IsPlanFor, StepsFor, all_after, all_with_report, row_at}

abbrev cell : ℕ → CellParameters
cell identity = record { listen = codes "a"; location_area_code = 1; cell_identity = identity; arfcn = 20; bsic = record { ncc = 1; bcc = 1 }; channels = 0x41 ∷ [] }

abbrev usual_settings : Parameters
usual_settings = record {
  network = record { mcc = codes "001"; mnc = codes "01"; release98 = false };
  switch_address = codes "b";
  timers = record { t3101_ms = 3000; t3103_ms = 5000; t3107_ms = 5000; drain_ms = 2000 };
  handover = record { rxlev_window = 10; rxqual_window = 1; neighbour_window = 10; interval = 6; hysteresis = 3 };
  cells = cell 1 ∷ cell 2 ∷ [];
}

abbrev channel : ℕ → ℕ → Channel
channel station number = record {
  station = station;
  number = number;
  cell = hex "00 00 f1 10 00 01 00 01";
  description = record { arfcn = 20; ncc = 1; bcc = 1 };
  reference = record { 0 = 0 };
}

abbrev entry : ℕ → Entry
entry number = new_entry usual_settings number (channel 1 0x41) (record { access = 0x7f; frame = 0x0102 }) 5

-- ---- stations are those of the cells, from 1

below_the_first : IsOfCell usual_settings (channel 0 0x41) → ⊥
below_the_first of_cell = omega (arith, of_cell.0)

of_the_first : IsOfCell usual_settings (channel 1 0x41)
of_the_first = (omega arith, omega arith)

of_the_last : IsOfCell usual_settings (channel 2 0x41)
of_the_last = (omega arith, omega arith)

past_the_last : IsOfCell usual_settings (channel 3 0x41) → ⊥
past_the_last of_cell = omega (arith, of_cell.1)

no_offer : IsOffer usual_settings None
no_offer = tt

offer_of_no_cell : IsOffer usual_settings (Some (channel 3 0x41)) → ⊥
offer_of_no_cell offered = omega (arith, offered.0.1)

-- ---- numbers

number_below : IsBelow 8 (entry 7)
number_below = omega arith

same_number : IsBelow 7 (entry 7) → ⊥
same_number below = omega (arith, below)

rising_numbers : AreRising (entry 7 ∷ entry 9 ∷ [])
rising_numbers = ((omega arith, tt), (tt, tt))

one_number_twice : AreRising (entry 7 ∷ entry 7 ∷ []) → ⊥
one_number_twice rising = omega (arith, rising.0.0)

falling_numbers : AreRising (entry 9 ∷ entry 7 ∷ []) → ⊥
falling_numbers rising = omega (arith, rising.0.0)

-- ---- steps

leaves_the_others : map (λ e. e.connection.number) (all_after usual_settings (entry 7 ∷ entry 9 ∷ []) (entry 7) (Some (row [] (emptied Removed (entry 7).connection)))) ≡ 9 ∷ []
leaves_the_others = refl

remains_in_its_place : map (λ e. e.connection.waited) (all_after usual_settings (entry 7 ∷ entry 9 ∷ []) (entry 7) (Some (row [] (record (entry 7).connection { waited = 3 })))) ≡ 3 ∷ 0 ∷ []
remains_in_its_place = refl

no_row : all_after usual_settings (entry 7 ∷ entry 9 ∷ []) (entry 7) None ≡ entry 7 ∷ entry 9 ∷ []
no_row = refl

-- averages begin anew with another serving channel, and are kept with the same
abbrev reported : Entry
reported = record (entry 7) { averages = record (entry 7).averages { number = 4 } }

averages_begin_anew : map (λ e. e.averages.number) (all_after usual_settings (reported ∷ []) reported (Some (row [] (record reported.connection { serving = channel 2 0x41 })))) ≡ 0 ∷ []
averages_begin_anew = refl

averages_remain : map (λ e. e.averages.number) (all_after usual_settings (reported ∷ []) reported (Some (row [] (record reported.connection { waited = 3 })))) ≡ 4 ∷ []
averages_remain = refl

does_none : StepsFor usual_settings None inputs.Move None false (entry 7 ∷ []) (entry 7 ∷ []) [] []
does_none = (refl, record { entries = refl; outputs = refl })

report_of_none : all_with_report 4 (record { ba_used = 0; dtx_used = false; rxlev_full = 1; valid = true; rxlev_sub = 2; rxqual_full = 3; rxqual_sub = 4; no_ncell = 0; entries = [] }) None (entry 7 ∷ []) ≡ entry 7 ∷ []
report_of_none = refl

report_of_one : map (λ e. e.averages.number) (all_with_report 4 (record { ba_used = 0; dtx_used = false; rxlev_full = 1; valid = true; rxlev_sub = 2; rxqual_full = 3; rxqual_sub = 4; no_ncell = 0; entries = [] }) (Some (entry 9)) (entry 7 ∷ entry 9 ∷ [])) ≡ 0 ∷ 4 ∷ []
report_of_one = refl

remains_where_there_is_none : decision_with 4 (record { ba_used = 0; dtx_used = false; rxlev_full = 1; valid = true; rxlev_sub = 2; rxqual_full = 3; rxqual_sub = 4; no_ncell = 0; entries = [] }) None ≡ Stay
remains_where_there_is_none = refl

remains_without_a_report : decision_over_all (entry 7) ≡ Stay
remains_without_a_report = refl

-- ---- a step of one connection, which waits for the activation of 41

-- a refusal removes it, and nothing is put
does_one : StepsFor usual_settings (Some (entry 7)) (inputs.ActivationNack (place_at 1 0x41)) None true (entry 7 ∷ entry 9 ∷ []) (entry 9 ∷ []) (pong 1 ∷ []) (pong 1 ∷ [])
unfolding on_literals
does_one = (refl, record { entries = refl; outputs = refl; sound = tt })

not_without_the_answer : StepsFor usual_settings (Some (entry 7)) (inputs.ActivationNack (place_at 1 0x41)) None false (entry 7 ∷ []) [] [] [] →
    ⊥
unfolding on_literals
not_without_the_answer steps = true≢false (sym steps.0)

not_for_nothing : StepsFor usual_settings (Some (entry 7)) (inputs.ActivationNack (place_at 1 0x41)) None true (entry 7 ∷ entry 9 ∷ []) (entry 7 ∷ entry 9 ∷ []) [] [] →
    ⊥
unfolding on_literals
not_for_nothing steps = let same : 2 ≡ 1 = ap (λ (es : List Entry). length es) steps.1.entries in absurd (omega (arith, same))

-- the acknowledgement puts an IMMEDIATE ASSIGN COMMAND
not_without_its_frame : StepsFor usual_settings (Some (entry 7)) (inputs.ActivationAck (place_at 1 0x41)) None true (entry 7 ∷ []) (record (entry 7) { connection = record (entry 7).connection { state = WaitEstablish } } ∷ []) (pong 1 ∷ []) (pong 1 ∷ []) →
    ⊥
unfolding on_literals
not_without_its_frame steps = let same : 1 ≡ 2 = ap (λ (outs : List Out). length outs) steps.1.outputs in absurd (omega (arith, same))

-- no row fits the acknowledgement of another channel
does_no_row : StepsFor usual_settings (Some (entry 7)) (inputs.ActivationAck (place_at 1 0x49)) None false (entry 7 ∷ entry 9 ∷ []) (entry 7 ∷ entry 9 ∷ []) [] []
unfolding on_literals
does_no_row = (refl, record { entries = refl; outputs = refl; sound = tt })

-- where there is none, nothing changes
not_of_none : StepsFor usual_settings None (inputs.ActivationNack (place_at 1 0x41)) None false (entry 7 ∷ []) [] [] [] → ⊥
not_of_none steps = let same : 0 ≡ 1 = ap (λ (es : List Entry). length es) steps.1.entries in absurd (omega (arith, same))

puts_nothing_of_none : IsLeft [] [] [] (pong 1 ∷ []) → ⊥
puts_nothing_of_none left = let same : 1 ≡ 0 = ap (λ (outs : List Out). length outs) left.outputs in absurd (omega (arith, same))

-- ---- where memory may run out: at a row of a connection that is there

runs_out_at_its_channel : (ran_out : Memory) →
    WantsForRow {T = ℕ} (Err ran_out) (row_at (inputs.ActivationAck (place_at 1 0x41)) None (Some (entry 7)))
unfolding on_literals
runs_out_at_its_channel ran_out = refl

runs_out_at_no_row : (ran_out : Memory) → WantsForRow {T = ℕ} (Err ran_out) (row_at inputs.ClearCommand None (Some (entry 7))) → ⊥
unfolding on_literals
runs_out_at_no_row ran_out wants = true≢false (sym wants)

-- number 8 is nobody's
runs_out_for_nobody : (ran_out : Memory) →
    WantsForRow {T = ℕ} (Err ran_out) (row_at (inputs.ActivationAck (place_at 1 0x41)) None (entry_in 8 (entry 7 ∷ entry 9 ∷ []))) →
    ⊥
unfolding on_literals
runs_out_for_nobody ran_out wants = true≢false (sym wants)

-- ---- slots and their numbers: 7 in slot 2, and 9 in slot 0

abbrev slots : List (Option Entry)
slots = Some (entry 9) ∷ None ∷ Some (entry 7) ∷ []

abbrev numbers : List (ℕ × ℕ)
numbers = (7, 2) ∷ (9, 0) ∷ []

is_table : IsTable slots numbers
is_table = record { index = ((refl, refl), refl, ((refl, refl), refl, tt)); others = others } where
  others : OthersAreVacant slots numbers
  others zero free = absurd (true≢false free)
  others (suc zero) free = refl
  others (suc (suc zero)) free = absurd (true≢false free)
  others (suc (suc (suc key))) free = refl

not_a_table_with_keys_swapped : IsTable slots ((7, 0) ∷ (9, 2) ∷ []) → ⊥
not_a_table_with_keys_swapped table = let same : 9 ≡ 7 = table.index.0.0 in absurd (omega (arith, same))

not_a_table_with_an_empty_slot : IsTable slots ((7, 2) ∷ (9, 1) ∷ []) → ⊥
not_a_table_with_an_empty_slot table = table.index.2.0

not_a_table_with_one_key_twice : IsTable slots ((7, 2) ∷ (7, 2) ∷ []) → ⊥
not_a_table_with_one_key_twice table = true≢false table.index.1

not_a_table_with_an_entry_left : IsTable slots ((7, 2) ∷ []) → ⊥
not_a_table_with_an_entry_left table = let same : ◌≡◌ {A = Option Entry} (Some (entry 9)) None = table.others 0 refl in absurd cc

not_a_table_with_a_removed_entry : IsTable (Some (record (entry 9) { connection = emptied Removed (entry 9).connection }) ∷ []) ((9, 0) ∷ []) →
    ⊥
not_a_table_with_a_removed_entry table = true≢false table.index.0.1

-- 7 leaves its slot and the index
abbrev left_slots : List (Option Entry)
left_slots = Some (entry 9) ∷ None ∷ None ∷ []

vacated : IsVacated 7 2 slots left_slots numbers ((9, 0) ∷ [])
vacated = record { others = others; vacant = refl; numbers = refl } where
  others : SameBut 2 slots left_slots
  others zero other = refl
  others (suc zero) other = refl
  others (suc (suc zero)) other = absurd (other refl)
  others (suc (suc (suc key))) other = refl

not_vacated_with_its_entry : IsVacated 7 2 slots slots numbers ((9, 0) ∷ []) → ⊥
not_vacated_with_its_entry left = let same : ◌≡◌ {A = Option Entry} (Some (entry 7)) None = left.vacant in absurd cc

not_vacated_with_its_number : IsVacated 7 2 slots left_slots numbers numbers → ⊥
not_vacated_with_its_number left = let same : 2 ≡ 1 = ap (λ (ps : List (ℕ × ℕ)). length ps) left.numbers in absurd (omega (arith, same))

not_vacated_with_another_number : IsVacated 7 2 slots left_slots numbers ((7, 2) ∷ []) → ⊥
not_vacated_with_another_number left = let same : 7 ≡ 9 = ap (λ (ps : List (ℕ × ℕ)). number_in ps 0) left.numbers in absurd (omega (arith, same))

not_vacated_with_another_slot : IsVacated 7 2 slots (None ∷ None ∷ None ∷ []) numbers ((9, 0) ∷ []) → ⊥
not_vacated_with_another_slot left =
    let same : ◌≡◌ {A = Option Entry} None (Some (entry 9)) = left.others 0 (λ is. let zero_is_two : ◌≡◌ {A = ℕ} 0 2 = is in absurd (omega (arith, zero_is_two))) in absurd cc

settles_removed : Settles true 7 2 slots left_slots numbers ((9, 0) ∷ [])
settles_removed = vacated

settles_remaining : Settles false 7 2 slots slots numbers numbers
settles_remaining = (refl, refl)

not_settled_where_it_remains : Settles false 7 2 slots slots numbers ((9, 0) ∷ []) → ⊥
not_settled_where_it_remains settles = let same : 1 ≡ 2 = ap (λ (ps : List (ℕ × ℕ)). length ps) settles.1 in absurd (omega (arith, same))

not_settled_where_it_was_removed : Settles true 7 2 slots slots numbers numbers → ⊥
not_settled_where_it_was_removed settles = let same : ◌≡◌ {A = Option Entry} (Some (entry 7)) None = settles.vacant in absurd cc

-- ---- a plan

abbrev plan : PlanState
plan = record { outs = []; last = Some Removed; was = (entry 7).connection; input = inputs.StationDown 1 }

planned_for_it : IsPlanFor plan (Some (record (entry 7) { connection = record (entry 7).connection { waited = 100 } }))
planned_for_it = refl

planned_for_nobody : IsPlanFor plan None → ⊥
planned_for_nobody is = is

planned_for_no_other : IsPlanFor plan (Some (entry 9)) → ⊥
planned_for_no_other is = let same : 9 ≡ 7 = ap (λ (s : Connection). s.number) is in absurd (omega (arith, same))

-- the break of its station removes it; that of another changes nothing
commits_a_break : CommitsFor usual_settings (Some (entry 7)) (inputs.StationDown 1) (entry 7 ∷ entry 9 ∷ []) (entry 9 ∷ []) []
unfolding on_literals
commits_a_break = record { entries = refl; outputs = refl; sound = tt }

commits_another_break : CommitsFor usual_settings (Some (entry 7)) (inputs.StationDown 2) (entry 7 ∷ entry 9 ∷ []) (entry 7 ∷ entry 9 ∷ []) []
unfolding on_literals
commits_another_break = record { entries = refl; outputs = refl; sound = tt }

-- the break of the switch's link puts RF CHANNEL RELEASE
not_without_its_release : CommitsFor usual_settings (Some (entry 7)) inputs.SwitchDown (entry 7 ∷ []) [] [] → ⊥
unfolding on_literals
not_without_its_release commits = let same : 0 ≡ 1 = ap (λ (outs : List Out). length outs) commits.outputs in absurd (omega (arith, same))

commits_for_nobody : CommitsFor usual_settings None inputs.SwitchDown [] [] [] → ⊥
commits_for_nobody commits = commits

-- ---- what holds of the connections

is_kept : IsKept usual_settings (entry 7)
is_kept = record { serving = (omega arith, omega arith); target = tt; averages = refl }

not_at_no_cell : IsKept usual_settings (record (entry 7) { connection = record (entry 7).connection { serving = channel 3 0x41 } }) → ⊥
not_at_no_cell kept = omega (arith, kept.serving.1)

-- to 0A of a cell that isn't there
abbrev to_no_cell : Entry
to_no_cell = record (entry 7) { connection = record (entry 7).connection { state = Live 5 (Preparing (record { change = Handover; channel = channel 3 0x0a })) } }

not_to_no_cell : IsKept usual_settings to_no_cell → ⊥
not_to_no_cell kept = omega (arith, kept.target.0.1)

-- the averages are for the serving cell
not_by_another : IsKept usual_settings (record (entry 7) { connection = record (entry 7).connection { serving = channel 2 0x41 } }) → ⊥
not_by_another kept = let same : 1 ≡ 2 = ap (λ (s : HandoverSettings). s.serving) kept.averages in absurd (omega (arith, same))

are_kept : AreKept usual_settings (entry 7 ∷ entry 9 ∷ [])
are_kept = record { each = (is_kept, (record { serving = (omega arith, omega arith); target = tt; averages = refl }, tt)); rising = ((omega arith, tt), (tt, tt)) }

not_in_another_order : AreKept usual_settings (entry 9 ∷ entry 7 ∷ []) → ⊥
not_in_another_order kept = omega (arith, kept.rising.0.0)

-- ---- the settings of the decision, by the cell that serves

for_each_cell : AreHandovers usual_settings (handover_settings_of usual_settings 1 ∷ handover_settings_of usual_settings 2 ∷ [])
for_each_cell = record { count = refl; each = each } where
  each : AreOfFirst usual_settings (handover_settings_of usual_settings 1 ∷ handover_settings_of usual_settings 2 ∷ [])
  each zero below = refl
  each (suc zero) below = refl
  each (suc (suc place)) below = absurd (omega (arith, below))

not_for_one : AreHandovers usual_settings (handover_settings_of usual_settings 1 ∷ []) → ⊥
not_for_one handovers = omega (arith, handovers.count)

abbrev serving_of : Option HandoverSettings → ℕ
serving_of None = 0
serving_of (Some s) = s.serving

not_the_other_way_round : AreOfFirst usual_settings (handover_settings_of usual_settings 2 ∷ handover_settings_of usual_settings 1 ∷ []) → ⊥
not_the_other_way_round of_first = let same : 2 ≡ 1 = ap serving_of (of_first 0 (omega arith)) in absurd (omega (arith, same))

-- ---- the decision with one report more: by every sixth number, 23 against 20 and a hysteresis of 3

abbrev neighbour : ℕ → Report
neighbour rxlev = record { ba_used = 0; dtx_used = false; rxlev_full = 20; valid = true; rxlev_sub = 20; rxqual_full = 0; rxqual_sub = 0; no_ncell = 1; entries = record { rxlev = rxlev; bcch_freq = 0; bsic = 18 } ∷ [] }

abbrev two_airs : Parameters
two_airs = record usual_settings { cells = cell 1 ∷ record (cell 2) { arfcn = 30; bsic = record { ncc = 2; bcc = 2 } } ∷ [] }

abbrev at_the_first : Entry
at_the_first = new_entry two_airs 7 (channel 1 0x41) (record { access = 0x7f; frame = 0x0102 }) 5

moves_with_it : decision_with 5 (neighbour 23) (Some at_the_first) ≡ Move 2
moves_with_it = refl

remains_below_the_bound : decision_with 5 (neighbour 22) (Some at_the_first) ≡ Stay
remains_below_the_bound = refl

remains_between : decision_with 4 (neighbour 23) (Some at_the_first) ≡ Stay
remains_between = refl

-- with what was reported before: 20 and 23 are 21 on the average
remains_on_the_average : decision_with 5 (neighbour 23) (Some (record at_the_first { averages = record at_the_first.averages { reports = neighbour 20 ∷ [] } })) ≡ Stay
remains_on_the_average = refl

-- the levels are compared with it, or not
compares_with_it : ComparesWith 5 (neighbour 22) (Some at_the_first)
compares_with_it = (refl, refl)

compares_not_between : ComparesWith 4 (neighbour 23) (Some at_the_first) → ⊥
compares_not_between compares = true≢false (sym compares.1)

compares_not_where_invalid : ComparesWith 5 (record (neighbour 23) { valid = false }) (Some at_the_first) → ⊥
compares_not_where_invalid compares = true≢false (sym compares.0)

compares_for_nobody : ComparesWith 5 (neighbour 23) None → ⊥
compares_for_nobody compares = compares

-- between, where nothing of the serving cell is received
compares_where_nothing_is_received : ComparesWith 4 (record (neighbour 23) { rxlev_full = 0 }) (Some at_the_first)
compares_where_nothing_is_received = (refl, refl)

-- the number is that of the last report
decides_by_the_last : decision_over_all (record at_the_first { averages = record at_the_first.averages { reports = neighbour 23 ∷ []; number = 11 } }) ≡ Move 2
decides_by_the_last = refl
