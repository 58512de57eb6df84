-- SPDX-License-Identifier: MIT OR Apache-2.0
-- Definitions against literal reports and settings.
use Rattle.std.proofs.Common.{◌≡◌, ◌≢◌, ℕ, ◌<◌, ◌≤◌, true, false, true≢false, List, [], ◌∷◌, replicate, Some, None, refl, sym, subst, arith, inl, inr}
use Rattle.std.proofs.lemmas.Bool.{cases_lt}
use Rattle.dtap_codec.specs.declared.report.Neighbour.{Neighbour}
use Rattle.dtap_codec.specs.declared.report.Report.{Report}
use Rattle.ho_decision.specs.declared.settings.Cell.{Cell}
use Rattle.ho_decision.specs.declared.settings.HoParameters.{HoParameters}
use Rattle.ho_decision.specs.declared.decision.Decision.TheVariants.{Stay, Move}
use Rattle.ho_decision.specs.Average.{last, serving_average, neighbour_average, quality, level_in}
use Rattle.ho_decision.specs.Decision.{is_bad, is_due, bound, average_at, Decides, IsOther}
use Rattle.ho_decision.specs.Settings.{Settings, settings_of, IsAllowed, others, other_arfcns}
use Rattle.ho_decision.specs.State.{new_state, after_report, IsCompared}

abbrev cell : ℕ → ℕ → Cell
cell arfcn bsic = record { arfcn = arfcn; bsic = bsic }

-- windows of levels, quality and neighbours, interval, hysteresis
abbrev parameters_of : ℕ → ℕ → ℕ → ℕ → ℕ → HoParameters
parameters_of levels qualities neighbours interval hysteresis =
    record { rxlev_window = levels; rxqual_window = qualities; neighbour_window = neighbours; interval = interval; hysteresis = hysteresis }

abbrev usual : HoParameters
usual = parameters_of 10 1 10 6 3

abbrev two : Settings
two = settings_of usual (cell 20 9 ∷ cell 30 18 ∷ []) 1

abbrev three : Settings
three = settings_of usual (cell 20 9 ∷ cell 30 18 ∷ cell 40 27 ∷ []) 1

-- level, place of the ARFCN, BSIC
abbrev entry : ℕ → ℕ → ℕ → Neighbour
entry level place bsic = record { rxlev = level; bcch_freq = place; bsic = bsic }

abbrev no_entry : Neighbour
no_entry = entry 0 0 0

-- level and quality of the serving cell, how many entries count, and two of them
abbrev report : ℕ → ℕ → ℕ → Neighbour → Neighbour → Report
report level quality count one other = record {
  ba_used = 0;
  dtx_used = false;
  rxlev_full = level;
  valid = true;
  rxlev_sub = 1;
  rxqual_full = quality;
  rxqual_sub = 2;
  no_ncell = count;
  entries = one ∷ other ∷ no_entry ∷ no_entry ∷ no_entry ∷ no_entry ∷ [];
}

-- the neighbour of ARFCN 30 with this level
abbrev near : ℕ → ℕ → ℕ → Report
near level quality neighbour = report level quality 1 (entry neighbour 0 18) no_entry

abbrev alone : ℕ → ℕ → Report
alone level quality = report level quality 0 no_entry no_entry

-- ---- what settings are allowed

at_the_limits : IsAllowed (settings_of (parameters_of 10 10 10 99 63) (replicate 32 (cell 20 9)) 32)
at_the_limits = record {
  rxlev_window = (omega arith, omega arith);
  rxqual_window = (omega arith, omega arith);
  neighbour_window = (omega arith, omega arith);
  interval = (omega arith, omega arith);
  hysteresis = omega arith;
  cells = omega arith;
  serving = (omega arith, omega arith);
}

level_window_of_eleven : IsAllowed (settings_of (parameters_of 11 1 10 6 3) (cell 20 9 ∷ []) 1) → ⊥
level_window_of_eleven allowed = omega (arith, allowed.rxlev_window.1)

no_quality_window : IsAllowed (settings_of (parameters_of 10 0 10 6 3) (cell 20 9 ∷ []) 1) → ⊥
no_quality_window allowed = omega (arith, allowed.rxqual_window.0)

neighbour_window_of_eleven : IsAllowed (settings_of (parameters_of 10 1 11 6 3) (cell 20 9 ∷ []) 1) → ⊥
neighbour_window_of_eleven allowed = omega (arith, allowed.neighbour_window.1)

no_interval : IsAllowed (settings_of (parameters_of 10 1 10 0 3) (cell 20 9 ∷ []) 1) → ⊥
no_interval allowed = omega (arith, allowed.interval.0)

interval_of_hundred : IsAllowed (settings_of (parameters_of 10 1 10 100 3) (cell 20 9 ∷ []) 1) → ⊥
interval_of_hundred allowed = omega (arith, allowed.interval.1)

hysteresis_of_64 : IsAllowed (settings_of (parameters_of 10 1 10 6 64) (cell 20 9 ∷ []) 1) → ⊥
hysteresis_of_64 allowed = omega (arith, allowed.hysteresis)

cells_are_33 : IsAllowed (settings_of usual (replicate 33 (cell 20 9)) 1) → ⊥
cells_are_33 allowed = omega (arith, allowed.cells)

no_cell_serves : IsAllowed (settings_of usual (cell 20 9 ∷ []) 0) → ⊥
no_cell_serves allowed = omega (arith, allowed.serving.0)

second_of_one_serves : IsAllowed (settings_of usual (cell 20 9 ∷ []) 2) → ⊥
second_of_one_serves allowed = omega (arith, allowed.serving.1)

-- ---- the ARFCNs that BCCH-FREQ counts

others_of_second : others (settings_of usual (cell 20 9 ∷ cell 30 18 ∷ cell 40 27 ∷ []) 2) ≡ cell 20 9 ∷ cell 40 27 ∷ []
others_of_second = refl

rising_and_once : other_arfcns (settings_of usual (cell 20 9 ∷ cell 40 27 ∷ cell 30 18 ∷ cell 40 1 ∷ cell 25 2 ∷ []) 1) ≡ 25 ∷ 30 ∷ 40 ∷ []
rising_and_once = refl

serving_is_left_out : other_arfcns (settings_of usual (cell 20 9 ∷ cell 30 18 ∷ cell 40 27 ∷ []) 3) ≡ 20 ∷ 30 ∷ []
serving_is_left_out = refl

-- ---- the level of a neighbour in a report

by_second_place : level_in (other_arfcns three) (cell 40 27) (report 20 0 2 (entry 23 0 18) (entry 31 1 27)) ≡ 31
by_second_place = refl

first_entry_counts : level_in (other_arfcns two) (cell 30 18) (report 20 0 2 (entry 23 0 18) (entry 31 0 18)) ≡ 23
first_entry_counts = refl

entry_behind_the_count : level_in (other_arfcns two) (cell 30 18) (report 20 0 1 (entry 23 0 17) (entry 31 0 18)) ≡ 0
entry_behind_the_count = refl

other_bsic : level_in (other_arfcns two) (cell 30 18) (report 20 0 1 (entry 23 0 17) no_entry) ≡ 0
other_bsic = refl

place_of_no_cell : level_in (other_arfcns two) (cell 30 18) (report 20 0 1 (entry 23 1 18) no_entry) ≡ 0
place_of_no_cell = refl

no_list_of_neighbours : level_in (other_arfcns two) (cell 30 18) (report 20 0 7 (entry 23 0 18) (entry 31 0 18)) ≡ 0
no_list_of_neighbours = refl

-- ---- averages

last_of_five : last {X = ℕ} 4 (1 ∷ 2 ∷ 3 ∷ 4 ∷ 5 ∷ []) ≡ 2 ∷ 3 ∷ 4 ∷ 5 ∷ []
last_of_five = refl

last_of_three : last {X = ℕ} 4 (1 ∷ 2 ∷ 3 ∷ []) ≡ 1 ∷ 2 ∷ 3 ∷ []
last_of_three = refl

serving_is_cut : serving_average two (near 20 0 30 ∷ alone 23 0 ∷ []) ≡ 21
serving_is_cut = refl

missing_counts_nothing : neighbour_average two (near 20 0 30 ∷ alone 23 0 ∷ []) (cell 30 18) ≡ 15
missing_counts_nothing = refl

window_of_two : serving_average (settings_of (parameters_of 2 1 10 6 3) (cell 20 9 ∷ []) 1) (alone 60 0 ∷ alone 20 0 ∷ alone 30 0 ∷ []) ≡ 25
window_of_two = refl

neighbour_window_of_one : neighbour_average (settings_of (parameters_of 10 1 1 6 3) (cell 20 9 ∷ cell 30 18 ∷ []) 1) (near 20 0 30 ∷ near 20 0 24 ∷ []) (cell 30 18) ≡ 24
neighbour_window_of_one = refl

quality_of_last : quality two (alone 20 7 ∷ alone 20 4 ∷ []) ≡ Some 4
quality_of_last = refl

quality_over_two : quality (settings_of (parameters_of 10 2 10 6 3) (cell 20 9 ∷ []) 1) (alone 20 1 ∷ alone 20 7 ∷ alone 20 4 ∷ []) ≡ Some 5
quality_over_two = refl

no_quality : quality two [] ≡ None
no_quality = refl

bound_of_average : bound two (alone 20 0 ∷ alone 23 0 ∷ []) ≡ 24
bound_of_average = refl

-- ---- when the levels are compared

end_of_interval : is_due two (alone 20 0 ∷ []) 5 ≡ true
end_of_interval = refl

end_of_second_interval : is_due two (alone 20 0 ∷ []) 11 ≡ true
end_of_second_interval = refl

before_end : is_due two (alone 20 0 ∷ []) 4 ≡ false
before_end = refl

begin_of_interval : is_due two (alone 20 0 ∷ []) 6 ≡ false
begin_of_interval = refl

each_report : is_due (settings_of (parameters_of 10 1 10 1 3) (cell 20 9 ∷ []) 1) (alone 20 0 ∷ []) 0 ≡ true
each_report = refl

quality_five_is_bad : is_bad (alone 20 5) ≡ true
quality_five_is_bad = refl

quality_four_is_not_bad : is_bad (alone 20 4) ≡ false
quality_four_is_not_bad = refl

three_bad_of_four : is_due two (alone 20 5 ∷ alone 20 0 ∷ alone 20 5 ∷ alone 20 7 ∷ []) 0 ≡ true
three_bad_of_four = refl

three_bad_of_five : is_due two (alone 20 5 ∷ alone 20 5 ∷ alone 20 0 ∷ alone 20 0 ∷ alone 20 7 ∷ []) 0 ≡ false
three_bad_of_five = refl

two_bad : is_due two (alone 20 5 ∷ alone 20 5 ∷ []) 0 ≡ false
two_bad = refl

nothing_received : is_due two (alone 0 0 ∷ []) 0 ≡ true
nothing_received = refl

little_received : is_due two (alone 0 0 ∷ alone 2 0 ∷ []) 0 ≡ false
little_received = refl

-- with one report more
compared : IsCompared (new_state two) (alone 20 0) 5
compared = (refl, refl)

not_compared_yet : IsCompared (new_state two) (alone 20 0) 4 → ⊥
not_compared_yet is = true≢false (sym is.1)

not_compared_where_invalid : IsCompared (new_state two) (record (alone 20 0) { valid = false }) 5 → ⊥
not_compared_where_invalid is = true≢false (sym is.0)

two_bad_and_one_more : IsCompared (record (new_state two) { reports = alone 20 5 ∷ alone 20 5 ∷ [] }) (alone 20 5) 0
two_bad_and_one_more = (refl, refl)

-- ---- decisions

stays_unless_due : (s : Settings) (reports : List Report) (number : ℕ) → is_due s reports number ≡ false → Decides s reports number Stay
stays_unless_due s reports number due = record { none = λ _. refl; not_due = λ _. refl; due = λ _ so. absurd (cc (due, so)) }

is_second : (place : ℕ) → IsOther two 2 place → place ≡ 1
is_second place other =
    elim (cases_lt place 1) [ inl first ↦ absurd (other.other (omega (arith, first))) | inr above ↦ omega (arith, other.there, above) ]

stays_below : (reports : List Report) (number level wanted : ℕ) →
    average_at two reports 1 ≡ level →
    bound two reports ≡ wanted →
    level < wanted →
    Decides two reports number Stay
stays_below reports number level wanted level_is wanted_is low = record {
  none = λ _. refl;
  not_due = λ _. refl;
  due = λ _ _ place other.
      let P : ℕ → Type 0 = λ n. average_at two reports n < bound two reports in
      let here : average_at two reports 1 < bound two reports = omega (arith, level_is, wanted_is, low) in
      subst P (sym (is_second place other)) here;
}

moves_to_second : (reports : List Report) (number level wanted : ℕ) →
    reports ≢ [] →
    is_due two reports number ≡ true →
    average_at two reports 1 ≡ level →
    bound two reports ≡ wanted →
    wanted ≤ level →
    Decides two reports number (Move 2)
moves_to_second reports number level wanted some due level_is wanted_is high = record {
  none = λ e. absurd (some e);
  not_due = λ not. absurd (cc (due, not));
  due = λ _ _. (
    1,
    refl,
    record {
      cell = record { there = omega arith; other = λ e. omega (arith, e) };
      reaches = omega (arith, level_is, wanted_is, high);
      greatest = λ j other.
          let P : ℕ → Type 0 = λ n. average_at two reports n ≤ average_at two reports 1 in
          let here : average_at two reports 1 ≤ average_at two reports 1 = omega arith in
          subst P (sym (is_second j other)) here;
      first = λ j other before. omega (arith, is_second j other, before);
    },
  );
}

at_the_bound : Decides two (near 20 0 23 ∷ []) 5 (Move 2)
at_the_bound = moves_to_second (near 20 0 23 ∷ []) 5 23 23 (λ e. absurd cc) refl refl refl (omega arith)

below_the_bound : Decides two (near 20 0 22 ∷ []) 5 Stay
below_the_bound = stays_below (near 20 0 22 ∷ []) 5 22 23 refl refl (omega arith)

before_the_end : Decides two (near 20 0 23 ∷ []) 4 Stay
before_the_end = stays_unless_due two (near 20 0 23 ∷ []) 4 refl

without_neighbours : Decides two (report 20 0 7 (entry 23 0 18) no_entry ∷ []) 5 Stay
without_neighbours = stays_below (report 20 0 7 (entry 23 0 18) no_entry ∷ []) 5 0 23 refl refl (omega arith)

neighbour_not_reported_again : Decides two (near 20 0 30 ∷ alone 23 0 ∷ []) 5 Stay
neighbour_not_reported_again = stays_below (near 20 0 30 ∷ alone 23 0 ∷ []) 5 15 24 refl refl (omega arith)

bad_quality : Decides two (near 20 5 23 ∷ near 20 5 23 ∷ near 20 5 23 ∷ []) 0 (Move 2)
bad_quality = moves_to_second (near 20 5 23 ∷ near 20 5 23 ∷ near 20 5 23 ∷ []) 0 23 23 (λ e. absurd cc) refl refl refl (omega arith)

without_reports : Decides two [] 5 Stay
without_reports = record { none = λ _. refl; not_due = λ _. refl; due = λ some. absurd (some refl) }

-- the first of two neighbours of one level
tie : Decides three (report 20 0 2 (entry 30 0 18) (entry 30 1 27) ∷ []) 5 (Move 2)
tie = record {
  none = λ e. absurd cc;
  not_due = λ not. absurd cc;
  due = λ _ _. (
    1,
    refl,
    record {
      cell = record { there = omega arith; other = λ e. omega (arith, e) };
      reaches = omega arith;
      greatest = λ j other. levels j other;
      first = λ j other before. absurd (other.other (omega (arith, before)));
    },
  );
}
  where
    reports : List Report
    reports = report 20 0 2 (entry 30 0 18) (entry 30 1 27) ∷ []

    levels : (j : ℕ) → IsOther three 3 j → average_at three reports j ≤ average_at three reports 1
    levels j other =
        let P : ℕ → Type 0 = λ n. average_at three reports n ≤ average_at three reports 1 in
        let second : P 1 = omega arith in
        let third : P 2 = omega arith in
        elim (cases_lt j 2) [
          | inl below ↦ elim (cases_lt j 1) [ inl first ↦ absurd (other.other (omega (arith, first))) | inr above ↦ (let is : 1 ≡ j = omega (arith, below, above) in subst P is second) ]
          | inr above ↦ (let is : 2 ≡ j = omega (arith, other.there, above) in subst P is third)
        ]

-- ---- what averages keep

begins_without_reports : new_state two ≡ record { settings = two; reports = []; number = 0 }
begins_without_reports = refl

report_is_added : after_report (record { settings = two; reports = alone 1 0 ∷ []; number = 3 }) (alone 2 0) 4 ≡ record { settings = two; reports = alone 1 0 ∷ alone 2 0 ∷ []; number = 4 }
report_is_added = refl

invalid_report_changes_nothing : after_report (record { settings = two; reports = alone 1 0 ∷ []; number = 3 }) (record (alone 2 0) { valid = false }) 4 ≡ record { settings = two; reports = alone 1 0 ∷ []; number = 3 }
invalid_report_changes_nothing = refl

eleventh_drops_the_first : (after_report (record { settings = two; reports = alone 63 0 ∷ replicate 9 (alone 1 0); number = 3 }) (alone 2 0) 4).reports ≡
    alone 1 0 ∷ alone 1 0 ∷ alone 1 0 ∷ alone 1 0 ∷ alone 1 0 ∷ alone 1 0 ∷ alone 1 0 ∷ alone 1 0 ∷ alone 1 0 ∷ alone 2 0 ∷ []
eleventh_drops_the_first = refl

tenth_drops_none : (after_report (record { settings = two; reports = replicate 9 (alone 1 0); number = 3 }) (alone 2 0) 4).reports ≡
    alone 1 0 ∷ alone 1 0 ∷ alone 1 0 ∷ alone 1 0 ∷ alone 1 0 ∷ alone 1 0 ∷ alone 1 0 ∷ alone 1 0 ∷ alone 1 0 ∷ alone 2 0 ∷ []
tenth_drops_none = refl
