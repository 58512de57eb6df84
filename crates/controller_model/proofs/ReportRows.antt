-- SPDX-License-Identifier: MIT OR Apache-2.0
-- Reports and the decisions over them, at literal values.
use Rattle.controller_model.proofs.Prelude.{◌≡◌, ℕ, true, List, [], ◌∷◌, ◌++◌, Some, None, refl, Report, Stay, Move, Settings, hex}
use Rattle.controller_model.proofs.Prelude.{new_controller, rxqual, decision_over, report_reading, settings_of, handover_settings_of}
use Rattle.controller_model.proofs.Lives.{put, from_switch, from_station, played, after, usual_settings}
use Rattle.controller_model.proofs.OnLiterals.{on_literals}
use Rattle.controller_model.proofs.AccessRows.{active, unconfirmed}
use Rattle.controller_model.proofs.ChangeRows.{assigning, beside_another}

abbrev two_cells : Settings
two_cells = handover_settings_of usual_settings 1

abbrev three_cells : Settings
three_cells = settings_of usual_settings.handover (two_cells.cells ++ record { arfcn = 40; bsic = 27 } ∷ []) 1

abbrev read : List ℕ → Report
read octets = report_reading octets

reads_every_bit : read (hex "d5 2a 7b 95 5a 0f f0 33 cc 81 7e 42 bd 99 66 3c")
    ≡ record {
      ba_used = 1;
      dtx_used = true;
      rxlev_full = 21;
      valid = true;
      rxlev_sub = 42;
      rxqual_full = 7;
      rxqual_sub = 5;
      no_ncell = 6;
      entries = record { rxlev = 21; bcch_freq = 11; bsic = 16 }
          ∷ record { rxlev = 31; bcch_freq = 28; bsic = 3 } ∷ record { rxlev = 15; bcch_freq = 6; bsic = 16 }
          ∷ record { rxlev = 11; bcch_freq = 30; bsic = 16 } ∷ record { rxlev = 43; bcch_freq = 27; bsic = 12 }
          ∷ record { rxlev = 44; bcch_freq = 24; bsic = 60 } ∷ [];
    }
unfolding on_literals
reads_every_bit = refl

moves : decision_over two_cells (read (hex "14 14 00 57 02 40 00 00 00 00 00 00 00 00 00 00") ∷ []) 5 ≡ Move 2
unfolding on_literals
moves = refl

needs_the_bound : decision_over two_cells (read (hex "14 14 00 56 02 40 00 00 00 00 00 00 00 00 00 00") ∷ []) 5 ≡ Stay
unfolding on_literals
needs_the_bound = refl

is_not_due : decision_over two_cells (read (hex "14 14 00 57 02 40 00 00 00 00 00 00 00 00 00 00") ∷ []) 4 ≡ Stay
unfolding on_literals
is_not_due = refl

knows_no_neighbour : decision_over two_cells (read (hex "14 14 01 d7 02 40 00 00 00 00 00 00 00 00 00 00") ∷ []) 5 ≡ Stay
unfolding on_literals
knows_no_neighbour = refl

averages : decision_over two_cells (read (hex "14 14 00 5e 02 40 00 00 00 00 00 00 00 00 00 00")
    ∷ read (hex "17 17 00 00 00 00 00 00 00 00 00 00 00 00 00 00") ∷ []) 5
    ≡ Stay
unfolding on_literals
averages = refl

takes_the_first_of_equals : decision_over three_cells (read (hex "14 14 00 9e 02 4f 05 b0 00 00 00 00 00 00 00 00") ∷ []) 5 ≡ Move 2
unfolding on_literals
takes_the_first_of_equals = refl

takes_the_greatest : decision_over three_cells (read (hex "14 14 00 9e 02 4f 85 b0 00 00 00 00 00 00 00 00") ∷ []) 5 ≡ Move 3
unfolding on_literals
takes_the_greatest = refl

takes_the_greatest_in_front : decision_over three_cells (read (hex "14 14 00 9f 02 4f 05 b0 00 00 00 00 00 00 00 00") ∷ []) 5 ≡ Move 2
unfolding on_literals
takes_the_greatest_in_front = refl

takes_what_reaches : decision_over three_cells (read (hex "14 14 00 96 02 4b 85 b0 00 00 00 00 00 00 00 00") ∷ []) 5 ≡ Move 3
unfolding on_literals
takes_what_reaches = refl

-- without a report
remains_without : decision_over two_cells [] 5 ≡ Stay
unfolding on_literals
remains_without = refl

one_bad : decision_over two_cells (read (hex "14 14 50 57 02 40 00 00 00 00 00 00 00 00 00 00") ∷ []) 0 ≡ Stay
unfolding on_literals
one_bad = refl

two_bad : decision_over two_cells (read (hex "14 14 50 57 02 40 00 00 00 00 00 00 00 00 00 00")
    ∷ read (hex "14 14 50 57 02 40 00 00 00 00 00 00 00 00 00 00") ∷ []) 1
    ≡ Stay
unfolding on_literals
two_bad = refl

three_bad : decision_over two_cells (read (hex "14 14 50 57 02 40 00 00 00 00 00 00 00 00 00 00")
    ∷ read (hex "14 14 50 57 02 40 00 00 00 00 00 00 00 00 00 00")
    ∷ read (hex "14 14 50 57 02 40 00 00 00 00 00 00 00 00 00 00") ∷ []) 2
    ≡ Move 2
unfolding on_literals
three_bad = refl

-- ---- in a connection

begins_with_a_report : played active
    (from_station 1 (hex "08 28 01 41 1b 05 19 03 14 14 00 04 00 0b 00 12 06 15 14 14 00 57 02 40 00 00 00 00 00 00 00 00 00 00") ∷ [])
    ≡ (put 2 (hex "08 21 01 41 03 02 06 04 00 03 01 00 09 00") ∷ []) ∷ []
unfolding on_literals
begins_with_a_report = refl

counts_no_report : (after active
    (from_station 1 (hex "08 28 01 41 1b 05 19 03 14 14 00 04 00 0b 00 12 06 15 14 14 00 57 02 40 00 00 00 00 00 00 00 00 00 00") ∷ [])).ignored
    ≡ 0
unfolding on_literals
counts_no_report = refl

averages_quality : rxqual (after active
    (from_station 1 (hex "08 28 01 41 1b 05 19 03 14 14 00 04 00 0b 00 12 06 15 14 14 00 57 02 40 00 00 00 00 00 00 00 00 00 00") ∷ [])) 1
    ≡ Some 0
unfolding on_literals
averages_quality = refl

knows_no_quality : rxqual active 1 ≡ None
unfolding on_literals
knows_no_quality = refl

knows_no_connection : rxqual active 2 ≡ None
unfolding on_literals
knows_no_connection = refl

begins_with_the_third : played active
    (from_station 1 (hex "08 28 01 41 1b 00 0b 00 12 06 15 14 14 50 57 02 40 00 00 00 00 00 00 00 00 00 00")
    ∷ from_station 1 (hex "08 28 01 41 1b 01 0b 00 12 06 15 14 14 50 57 02 40 00 00 00 00 00 00 00 00 00 00")
    ∷ from_station 1 (hex "08 28 01 41 1b 02 0b 00 12 06 15 14 14 50 57 02 40 00 00 00 00 00 00 00 00 00 00") ∷ [])
    ≡ []
    ∷ []
    ∷ (put 2 (hex "08 21 01 41 03 02 06 04 00 03 01 00 09 00") ∷ []) ∷ []
unfolding on_literals
begins_with_the_third = refl

averages_bad_quality : rxqual (after active
    (from_station 1 (hex "08 28 01 41 1b 00 0b 00 12 06 15 14 14 50 57 02 40 00 00 00 00 00 00 00 00 00 00")
    ∷ from_station 1 (hex "08 28 01 41 1b 01 0b 00 12 06 15 14 14 50 57 02 40 00 00 00 00 00 00 00 00 00 00")
    ∷ from_station 1 (hex "08 28 01 41 1b 02 0b 00 12 06 15 14 14 50 57 02 40 00 00 00 00 00 00 00 00 00 00") ∷ [])) 1
    ≡ Some 5
unfolding on_literals
averages_bad_quality = refl

-- from the connection request on; before it a report is ignored

reports_before_confirm : rxqual (after unconfirmed
    (from_station 1 (hex "08 28 01 41 1b 05 19 03 14 14 00 04 00 0b 00 12 06 15 14 14 00 57 02 40 00 00 00 00 00 00 00 00 00 00") ∷ [])) 1
    ≡ Some 0
unfolding on_literals
reports_before_confirm = refl

counts_no_early_report : (after unconfirmed
    (from_station 1 (hex "08 28 01 41 1b 05 19 03 14 14 00 04 00 0b 00 12 06 15 14 14 00 57 02 40 00 00 00 00 00 00 00 00 00 00") ∷ [])).ignored
    ≡ 0
unfolding on_literals
counts_no_early_report = refl

decides_nothing_before_confirm : played unconfirmed
    (from_station 1 (hex "08 28 01 41 1b 05 19 03 14 14 00 04 00 0b 00 12 06 15 14 14 00 57 02 40 00 00 00 00 00 00 00 00 00 00") ∷ [])
    ≡ [] ∷ []
unfolding on_literals
decides_nothing_before_confirm = refl

counts_a_report_before : (after (new_controller usual_settings) (from_station 1 (hex "0c 13 01 88 13 7f 01 02 11 05")
    ∷ from_station 1 (hex "08 22 01 41 08 00 00")
    ∷ from_station 1 (hex "08 28 01 41 1b 05 19 03 14 14 00 04 00 0b 00 12 06 15 14 14 00 57 02 40 00 00 00 00 00 00 00 00 00 00") ∷ [])).ignored
    ≡ 1
unfolding on_literals
counts_a_report_before = refl

-- averages go on after a failure, and begin anew with a channel

reports_in_changing : rxqual (after assigning
    (from_station 1 (hex "08 28 01 41 1b 00 0b 00 12 06 15 14 14 00 57 02 40 00 00 00 00 00 00 00 00 00 00") ∷ [])) 1
    ≡ Some 0
unfolding on_literals
reports_in_changing = refl

keeps_after_failure : rxqual (after assigning
    (from_station 1 (hex "08 28 01 41 1b 00 0b 00 12 06 15 14 14 00 57 02 40 00 00 00 00 00 00 00 00 00 00")
    ∷ from_station 1 (hex "03 02 01 41 02 00 0b 00 03 06 2f 03") ∷ [])) 1
    ≡ Some 0
unfolding on_literals
keeps_after_failure = refl

begins_anew : rxqual (after assigning
    (from_station 1 (hex "08 28 01 41 1b 00 0b 00 12 06 15 14 14 00 57 02 40 00 00 00 00 00 00 00 00 00 00")
    ∷ from_station 1 (hex "03 02 01 0a 02 00 0b 00 03 06 29 00") ∷ [])) 1
    ≡ None
unfolding on_literals
begins_anew = refl

ignores_reports_of_the_old_channel : (after assigning (from_station 1 (hex "03 02 01 0a 02 00 0b 00 03 06 29 00")
    ∷ from_station 1 (hex "08 28 01 41 1b 00 0b 00 12 06 15 14 14 00 57 02 40 00 00 00 00 00 00 00 00 00 00") ∷ [])).ignored
    ≡ 1
unfolding on_literals
ignores_reports_of_the_old_channel = refl

ignores_reports_after_the_clear : (after active (from_switch (hex "06 00 00 01 00 01 06 00 04 20 04 01 09")
    ∷ from_station 1 (hex "08 28 01 41 1b 00 0b 00 12 06 15 14 14 00 57 02 40 00 00 00 00 00 00 00 00 00 00") ∷ [])).ignored
    ≡ 1
unfolding on_literals
ignores_reports_after_the_clear = refl

-- of the connection on this channel of the station that spoke
reports_of_its_station : rxqual (after beside_another
    (from_station 2 (hex "08 28 01 0a 1b 00 0b 00 12 06 15 14 14 00 00 00 00 00 00 00 00 00 00 00 00 00 00") ∷ [])) 2
    ≡ Some 0
unfolding on_literals
reports_of_its_station = refl

reports_of_no_other_station : rxqual (after beside_another
    (from_station 2 (hex "08 28 01 0a 1b 00 0b 00 12 06 15 14 14 00 00 00 00 00 00 00 00 00 00 00 00 00 00") ∷ [])) 1
    ≡ None
unfolding on_literals
reports_of_no_other_station = refl
