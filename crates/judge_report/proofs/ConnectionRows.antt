-- SPDX-License-Identifier: MIT OR Apache-2.0
-- Rows: the output for whole literal connections.
use Rattle.std.proofs.Common.{◌≡◌, ℕ, List, [], ◌∷◌, ◌++◌, map, None, Some, false, refl}
use Rattle.std.specs.Fmt.{digits}
use Rattle.std.specs.Prelude.{codes}
use Rattle.octets.proofs.Hex.{hex}
use Rattle.hex.proofs.OnLiterals.{hex_on_literals}
use Rattle.run_judge.specs.declared.connection.Reason.TheVariants as reasons
use Rattle.run_judge.specs.declared.fault.Fault.{Fault}
use Rattle.run_judge.specs.declared.fault.Fault.TheVariants as faults
use Rattle.run_judge.specs.declared.flow.Due.{Due}
use Rattle.run_judge.specs.declared.flow.Order.TheVariants.{InOrder, Faulty}
use Rattle.run_judge.specs.Connection.{begun_with}
use Rattle.run_judge.specs.ConnectionState.{ConnectionState}
use Rattle.run_judge.specs.FlowState.{FlowState}
use Rattle.judge_report.specs.declared.style.Form.TheVariants.{Text, Tap}
use Rattle.judge_report.specs.declared.style.Strictness.TheVariants.{Lenient, Strict}
use Rattle.judge_orders.specs.declared.judged.Fit.{Fit}
use Rattle.judge_orders.specs.declared.judged.Fit.TheVariants.{Both, Neither, One}
use Rattle.judge_orders.specs.Judged.{alone}
use Rattle.judge_report.specs.ConnectionText.{connection_text, first_line, reason_text}
use Rattle.judge_report.specs.JudgedText.{fit_line, judged_text}
use Rattle.judge_report.specs.Sums.{report_text, sums_of}

abbrev due : List ℕ → ℕ → Due
due message frame = record { rank = 0; message = message; frame = frame; is_optional = false }

abbrev fine : ℕ → ℕ → FlowState
fine came gone = record { came = came; gone = gone; order = InOrder (record { due = []; passed = []; reached = 0 }) }

abbrev faulty : ℕ → ℕ → Fault → FlowState
faulty came gone fault = record { came = came; gone = gone; order = Faulty fault }

-- on channel 41 of station 1, with these flows up and down, of SAPI 0 and 3
abbrev with_flows : ℕ → FlowState → FlowState → FlowState → FlowState → ConnectionState
with_flows number up up_short down down_short =
    record (begun_with number number (record { station = 1; number = 0x41 }) (record { zero = up; three = up_short })) {
      down = record { zero = down; three = down_short };
    }

-- ---- in order

in_order : connection_text 4 Text Lenient 1 (with_flows 1 (fine 2 1) (fine 0 0) (fine 1 1) (fine 0 0)) ≡
    codes "connection 1 (reference 000001): 1 channel, 2 messages up, 1 at the switch: in order\n"
    ++ codes "  a switch by TS 24.007 accepts 0 of 0 numbered messages, takes 0 for a duplicate, drops 0 behind a gap\n"
    ++ codes "  down: 1 of 1 handed, in order\n"
unfolding digits hex_on_literals
in_order = refl

-- ---- with each line: a fault of each flow, a station's, and what isn't judged

abbrev wrong : ConnectionState
wrong = record (with_flows 2
    (faulty 4 3 (faults.Lost (due (hex "03 85 aa 02") 114) 117)) (faulty 2 2 (faults.MadeUp (hex "09 01") 116))
    (faulty 2 3 (faults.Doubled (hex "83 02") 7 8)) (faulty 1 1 (faults.HandedElsewhere (hex "89 01") 9))) {
      serving = record { at = record { station = 2; number = 0x09 }; rank = 1 };
      counts = record { accepted = 2; duplicates = 1; behind_gap = 3 };
      outside = Some 118;
      unjudged = Some (record { reason = reasons.OutsideTenure; frame = 118 });
    }

each_line : connection_text 4 Text Lenient 1 wrong ≡
    codes "connection 2 (reference 000002): 2 channels, 6 messages up, 5 at the switch: not in order\n"
    ++ codes "  lost       CC N(SD) 2 0385aa02, from the station in frame 114, missed in frame 117\n"
    ++ codes "  made up    SMS 0901, at the switch in frame 116\n"
    ++ codes "  a station's: a message outside the tenure of its channel, in frame 118\n"
    ++ codes "  a switch by TS 24.007 accepts 2 of 6 numbered messages, takes 1 for a duplicate, drops 3 behind a gap\n"
    ++ codes "  down: 4 of 3 handed, not in order\n"
    ++ codes "  doubled    CC 8302, handed in frame 7, and again in frame 8\n"
    ++ codes "  handed on a channel that isn't serving SMS 8901, in frame 9\n"
    ++ codes "  not judged from frame 118 on: a station brought a message outside the tenure of its channel\n"
unfolding digits hex_on_literals
each_line = refl

each_line_in_tap : connection_text 4 Tap Lenient 3 wrong ≡
    codes "not ok 3 - connection 2 (reference 000002): 2 channels, 6 messages up, 5 at the switch: not in order\n"
    ++ codes "# lost       CC N(SD) 2 0385aa02, from the station in frame 114, missed in frame 117\n"
    ++ codes "# made up    SMS 0901, at the switch in frame 116\n"
    ++ codes "# a station's: a message outside the tenure of its channel, in frame 118\n"
    ++ codes "# a switch by TS 24.007 accepts 2 of 6 numbered messages, takes 1 for a duplicate, drops 3 behind a gap\n"
    ++ codes "# down: 4 of 3 handed, not in order\n"
    ++ codes "# doubled    CC 8302, handed in frame 7, and again in frame 8\n"
    ++ codes "# handed on a channel that isn't serving SMS 8901, in frame 9\n"
    ++ codes "# not judged from frame 118 on: a station brought a message outside the tenure of its channel\n"
unfolding digits hex_on_literals
each_line_in_tap = refl

-- ---- the beginning isn't known

abbrev unknown : ConnectionState
unknown = record (begun_with 3 0xabcdef (record { station = 0; number = 0 }) (record { zero = fine 1 1; three = fine 0 0 })) {
  counts = record { accepted = 1; duplicates = 0; behind_gap = 0 };
  unjudged = Some (record { reason = reasons.NoBeginning; frame = 5 });
}

not_judged : connection_text 4 Text Lenient 1 unknown ≡
    codes "connection 3 (reference abcdef): 1 channel, 1 message up, 1 at the switch: not judged\n"
    ++ codes "  a switch by TS 24.007 accepts 1 of 1 numbered message, takes 0 for a duplicate, drops 0 behind a gap\n"
    ++ codes "  down: 0 of 0 handed, not judged\n"
    ++ codes "  not judged from frame 5 on: a connection whose ESTABLISH INDICATION isn't there\n"
unfolding digits hex_on_literals
not_judged = refl

-- ---- a mobile's number

abbrev misnumbered : FlowState → ConnectionState
misnumbered up = record (with_flows 1 up (fine 0 0) (fine 0 0) (fine 0 0)) {
  counts = record { accepted = 1; duplicates = 0; behind_gap = 1 };
  mobile = Some 9;
}

the_mobiles : connection_text 4 Text Lenient 1 (misnumbered (fine 2 2)) ≡
    codes "connection 1 (reference 000001): 1 channel, 2 messages up, 2 at the switch: in order\n"
    ++ codes "  the mobile's: a number that isn't its next, at the switch in frame 9\n"
    ++ codes "  a switch by TS 24.007 accepts 1 of 2 numbered messages, takes 0 for a duplicate, drops 1 behind a gap\n"
    ++ codes "  down: 0 of 0 handed, in order\n"
unfolding digits hex_on_literals
the_mobiles = refl

-- the controller may have caused it
not_the_mobiles : connection_text 4 Text Lenient 1 (misnumbered (faulty 3 2 (faults.Lost (due (hex "03 45") 11) 9))) ≡
    codes "connection 1 (reference 000001): 1 channel, 3 messages up, 2 at the switch: not in order\n"
    ++ codes "  lost       CC N(SD) 1 0345, from the station in frame 11, missed in frame 9\n"
    ++ codes "  a switch by TS 24.007 accepts 1 of 2 numbered messages, takes 0 for a duplicate, drops 1 behind a gap\n"
    ++ codes "  down: 0 of 0 handed, in order\n"
unfolding digits hex_on_literals
not_the_mobiles = refl

-- ---- test points

point : first_line Tap Strict 4 (with_flows 4 (fine 2 1) (fine 0 0) (fine 1 1) (fine 0 0)) ≡
    codes "ok 4 - connection 4 (reference 000004): 1 channel, 2 messages up, 1 at the switch: in order\n"
unfolding digits hex_on_literals
point = refl

-- a fault down alone
point_down : first_line Tap Lenient 4 (with_flows 4 (fine 2 1) (fine 0 0) (fine 0 0) (faulty 1 1 (faults.MadeUp [] 9))) ≡
    codes "not ok 4 - connection 4 (reference 000004): 1 channel, 2 messages up, 1 at the switch: in order\n"
unfolding digits hex_on_literals
point_down = refl

skipped : first_line Tap Lenient 4 unknown ≡
    codes "ok 4 - connection 3 (reference abcdef): 1 channel, 1 message up, 1 at the switch: not judged"
    ++ codes " # SKIP not judged from frame 5 on: a connection whose ESTABLISH INDICATION isn't there\n"
unfolding digits hex_on_literals
skipped = refl

not_skipped : first_line Tap Strict 4 unknown ≡
    codes "not ok 4 - connection 3 (reference abcdef): 1 channel, 1 message up, 1 at the switch: not judged\n"
unfolding digits hex_on_literals
not_skipped = refl

-- ---- why one isn't judged

reasons_in_words : map reason_text
    (reasons.Hole ∷ reasons.NoBeginning ∷ reasons.TwoBeginnings ∷ reasons.UnknownChannel ∷ reasons.TwoChannels
    ∷ reasons.SharedReference ∷ reasons.CommandOfSwitch ∷ reasons.BeforeComplete ∷ reasons.OutsideTenure ∷ []) ≡
    codes "a hole in the capture" ∷ codes "a connection whose ESTABLISH INDICATION isn't there"
    ∷ codes "two channels on which a mobile sent this first message" ∷ codes "a command that names an unknown cell"
    ∷ codes "a command that may name two channels" ∷ codes "the switch gave its reference to two connections"
    ∷ codes "the switch sent a COMMAND of radio resource management as DTAP"
    ∷ codes "a message on the next channel before its COMPLETE"
    ∷ codes "a station brought a message outside the tenure of its channel" ∷ []
reasons_in_words = refl

-- ---- the whole

counts_each : sums_of (map alone (unknown ∷ wrong ∷ with_flows 4 (fine 2 1) (fine 0 0) (fine 1 1) (fine 0 0) ∷ [])) ≡
    record { printed = 3; blamed = 1; unjudged = 2 }
counts_each = refl

whole_in_tap : report_text 4 Tap Lenient (map alone (with_flows 1 (fine 1 1) (fine 0 0) (fine 0 0) (fine 0 0) ∷ with_flows 2 (fine 1 1) (fine 0 0) (fine 0 0) (fine 0 0) ∷ [])) ≡
    codes "TAP version 14\n"
    ++ codes "ok 1 - connection 1 (reference 000001): 1 channel, 1 message up, 1 at the switch: in order\n"
    ++ codes "# a switch by TS 24.007 accepts 0 of 0 numbered messages, takes 0 for a duplicate, drops 0 behind a gap\n"
    ++ codes "# down: 0 of 0 handed, in order\n"
    ++ codes "ok 2 - connection 2 (reference 000002): 1 channel, 1 message up, 1 at the switch: in order\n"
    ++ codes "# a switch by TS 24.007 accepts 0 of 0 numbered messages, takes 0 for a duplicate, drops 0 behind a gap\n"
    ++ codes "# down: 0 of 0 handed, in order\n"
    ++ codes "# 2 connections: 2 in order, 0 not, 0 not judged to the end\n"
    ++ codes "1..2\n"
unfolding digits hex_on_literals
whole_in_tap = refl

-- ---- both orders were tried

fits_in_words : map (fit_line Text) (None ∷ Some One ∷ Some Both ∷ Some Neither ∷ []) ≡
    [] ∷ codes "  two channels with this first message: the other way round not in order\n"
    ∷ codes "  two channels with this first message: in order either way round\n"
    ∷ codes "  two channels with this first message: in order neither way round\n" ∷ []
fits_in_words = refl

fit_in_tap : judged_text 4 Tap Lenient 2 (record { connection = with_flows 1 (fine 1 1) (fine 0 0) (fine 0 0) (fine 0 0); fit = Some Both }) ≡
    codes "ok 2 - connection 1 (reference 000001): 1 channel, 1 message up, 1 at the switch: in order\n"
    ++ codes "# a switch by TS 24.007 accepts 0 of 0 numbered messages, takes 0 for a duplicate, drops 0 behind a gap\n"
    ++ codes "# down: 0 of 0 handed, in order\n"
    ++ codes "# two channels with this first message: in order either way round\n"
unfolding digits hex_on_literals
fit_in_tap = refl
