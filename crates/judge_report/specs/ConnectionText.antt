-- SPDX-License-Identifier: MIT OR Apache-2.0
-- The verdict of a connection: a line with its summary, then lines with details and faults. In TAP
-- (version 14) the first line is a test point, and the others are comments.
use Rattle.std.specs.Prelude.{ℕ, ◌+◌, ◌/◌, ◌%◌, ◌==◌, ◌||◌, Bool, true, false, if◌then◌else◌}
use Rattle.std.specs.Prelude.{List, [], ◌∷◌, ◌++◌, codes, decimal, min, Option, Some, None}
use Rattle.hex.specs.Hex.{encode_lower}
use Rattle.run_judge.specs.declared.connection.Counts.{Counts}
use Rattle.run_judge.specs.declared.connection.Flows.{Flows}
use Rattle.run_judge.specs.declared.connection.Reason.{Reason}
use Rattle.run_judge.specs.declared.connection.Reason.TheVariants as reasons
use Rattle.run_judge.specs.declared.connection.Unjudged.{Unjudged}
use Rattle.run_judge.specs.declared.flow.Order.{Order}
use Rattle.run_judge.specs.declared.flow.Order.TheVariants.{InOrder, Faulty}
use Rattle.run_judge.specs.ConnectionState.{ConnectionState}
use Rattle.judge_report.specs.declared.direction.Direction.{Direction}
use Rattle.judge_report.specs.declared.direction.Direction.TheVariants.{Up, Down}
use Rattle.judge_report.specs.declared.style.Form.{Form}
use Rattle.judge_report.specs.declared.style.Form.TheVariants.{Text, Tap}
use Rattle.judge_report.specs.declared.style.Strictness.{Strictness}
use Rattle.judge_report.specs.declared.style.Strictness.TheVariants.{Lenient, Strict}
use Rattle.judge_report.specs.declared.verdict.Outcome.{Outcome}
use Rattle.judge_report.specs.declared.verdict.Outcome.TheVariants as outcomes
use Rattle.judge_report.specs.declared.verdict.Standing.{Standing}
use Rattle.judge_report.specs.declared.verdict.Standing.TheVariants as standings
use Rattle.judge_report.specs.FaultText.{fault_text}

-- ---- words by number

abbrev pub plural_end : ℕ → List ℕ
plural_end n = if n == 1 then [] else codes "s"

-- The sum of two counts. Saturates at 2^64 - 1.
abbrev pub sum_of : ℕ → ℕ → ℕ
sum_of one other = min (one + other) 18446744073709551615

-- The hexadecimal digits of a reference's lower three octets.
abbrev pub reference_digits : ℕ → List ℕ
reference_digits reference =
    encode_lower ((reference / 65536) % 256 ∷ (reference / 256) % 256 ∷ reference % 256 ∷ [])

-- ---- what was found

abbrev pub is_faulty : Order → Bool
is_faulty (InOrder s) = false
is_faulty (Faulty fault) = true

abbrev pub has_fault : Flows → Bool
has_fault flows = is_faulty flows.zero.order || is_faulty flows.three.order

-- Whether any flow of a connection has a fault. Such a fault is the controller's.
abbrev pub is_blamed : ConnectionState → Bool
is_blamed c = has_fault c.up || has_fault c.down

-- The verdict on the flows of one direction. Station 0 means that the beginning of the connection
-- isn't known. Without a fault, such a connection isn't judged.
abbrev pub standing : ℕ → Flows → Standing
standing station flows =
    if has_fault flows then standings.NotInOrder
    else if station == 0 then standings.NotJudged else standings.InOrder

abbrev pub standing_text : Standing → List ℕ
standing_text standings.InOrder = codes "in order"
standing_text standings.NotInOrder = codes "not in order"
standing_text standings.NotJudged = codes "not judged"

abbrev pub reason_text : Reason → List ℕ
reason_text reasons.Hole = codes "a hole in the capture"
reason_text reasons.NoBeginning = codes "a connection whose ESTABLISH INDICATION isn't there"
reason_text reasons.TwoBeginnings =
    codes "two channels on which a mobile sent this first message"
reason_text reasons.UnknownChannel = codes "a command that names an unknown cell"
reason_text reasons.TwoChannels = codes "a command that may name two channels"
reason_text reasons.SharedReference = codes "the switch gave its reference to two connections"
reason_text reasons.CommandOfSwitch =
    codes "the switch sent a COMMAND of radio resource management as DTAP"
reason_text reasons.BeforeComplete = codes "a message on the next channel before its COMPLETE"
reason_text reasons.OutsideTenure =
    codes "a station brought a message outside the tenure of its channel"

abbrev pub unjudged_text : Unjudged → List ℕ
unjudged_text u =
    codes "not judged from frame " ++ decimal u.frame ++ codes " on: " ++ reason_text u.reason

-- ---- the first line

abbrev pub name_text : ConnectionState → List ℕ
name_text c =
    codes "connection " ++ decimal c.number
    ++ codes " (reference " ++ reference_digits c.reference ++ codes "): "

-- The number of channels that served, the numbers of uplink messages that came and that are at the
-- switch, and the verdict on the uplink.
abbrev pub up_text : ℕ → ℕ → ℕ → Standing → List ℕ
up_text channels came gone stands =
    decimal channels ++ codes " channel" ++ plural_end channels ++ codes ", "
    ++ decimal came ++ codes " message" ++ plural_end came ++ codes " up, "
    ++ decimal gone ++ codes " at the switch: " ++ standing_text stands

abbrev pub came_of : Flows → ℕ
came_of flows = sum_of flows.zero.came flows.three.came

abbrev pub gone_of : Flows → ℕ
gone_of flows = sum_of flows.zero.gone flows.three.gone

abbrev pub summary_text : ConnectionState → List ℕ
summary_text c =
    name_text c
    ++ up_text (c.serving.rank + 1) (came_of c.up) (gone_of c.up)
    (standing c.serving.at.station c.up)

-- ---- the other lines

-- The beginning of each line after the first line.
abbrev pub lead_text : Form → List ℕ
lead_text Text = codes "  "
lead_text Tap = codes "# "

abbrev pub fault_line : ℕ → Form → Direction → Order → List ℕ
fault_line m form direction (InOrder s) = []
fault_line m form direction (Faulty fault) =
    lead_text form ++ fault_text m direction fault ++ codes "\n"

abbrev pub fault_lines : ℕ → Form → Direction → Flows → List ℕ
fault_lines m form direction flows =
    fault_line m form direction flows.zero.order ++ fault_line m form direction flows.three.order

abbrev pub outside_line : Form → Option ℕ → List ℕ
outside_line form None = []
outside_line form (Some frame) =
    lead_text form
    ++ codes "a station's: a message outside the tenure of its channel, in frame "
    ++ decimal frame ++ codes "\n"

-- The mobile is blamed only if no uplink flow has a fault of the controller.
abbrev pub mobile_line : Form → Bool → Option ℕ → List ℕ
mobile_line form false (Some frame) =
    lead_text form ++ codes "the mobile's: a number that isn't its next, at the switch in frame "
    ++ decimal frame ++ codes "\n"
mobile_line form _ _ = []

-- The number of messages with N(SD) that a switch judges (TS 24.007 clause 11.2.3.2.3).
abbrev pub numbered_of : Counts → ℕ
numbered_of n = sum_of (sum_of n.accepted n.duplicates) n.behind_gap

abbrev pub switch_text : ℕ → Counts → List ℕ
switch_text numbered n =
    codes "a switch by TS 24.007 accepts " ++ decimal n.accepted ++ codes " of "
    ++ decimal numbered ++ codes " numbered message" ++ plural_end numbered
    ++ codes ", takes " ++ decimal n.duplicates ++ codes " for a duplicate, drops "
    ++ decimal n.behind_gap ++ codes " behind a gap\n"

abbrev pub switch_line : Form → Counts → List ℕ
switch_line form n = lead_text form ++ switch_text (numbered_of n) n

abbrev pub down_text : ℕ → ℕ → Standing → List ℕ
down_text gone came stands =
    codes "down: " ++ decimal gone ++ codes " of " ++ decimal came ++ codes " handed, "
    ++ standing_text stands ++ codes "\n"

abbrev pub down_line : Form → ℕ → Flows → List ℕ
down_line form station flows =
    lead_text form ++ down_text (gone_of flows) (came_of flows) (standing station flows)

abbrev pub unjudged_line : Form → Option Unjudged → List ℕ
unjudged_line form None = []
unjudged_line form (Some u) = lead_text form ++ unjudged_text u ++ codes "\n"

-- The lines of the uplink: the faults of the controller, of a station and of the mobile, and a
-- switch's counts.
abbrev pub lines_up : ℕ → Form → ConnectionState → List ℕ
lines_up m form c =
    fault_lines m form Up c.up ++ outside_line form c.outside
    ++ mobile_line form (has_fault c.up) c.mobile ++ switch_line form c.counts

abbrev pub lines_down : ℕ → Form → ConnectionState → List ℕ
lines_down m form c =
    down_line form c.serving.at.station c.down ++ fault_lines m form Down c.down
    ++ unjudged_line form c.unjudged

-- ---- the test point

-- The outcome for a connection without a fault of the controller. A connection that isn't judged to
-- the end is skipped, or fails under `Strict`.
abbrev pub outcome_unblamed : Strictness → Option Unjudged → Outcome
outcome_unblamed strictness None = outcomes.Passes
outcome_unblamed Lenient (Some u) = outcomes.Skips u
outcome_unblamed Strict (Some u) = outcomes.Fails

abbrev pub outcome : Strictness → ConnectionState → Outcome
outcome strictness c =
    if is_blamed c then outcomes.Fails else outcome_unblamed strictness c.unjudged

abbrev pub mark_text : Outcome → List ℕ
mark_text outcomes.Passes = codes "ok "
mark_text (outcomes.Skips u) = codes "ok "
mark_text outcomes.Fails = codes "not ok "

abbrev pub directive_text : Outcome → List ℕ
directive_text outcomes.Passes = codes "\n"
directive_text (outcomes.Skips u) = codes " # SKIP " ++ unjudged_text u ++ codes "\n"
directive_text outcomes.Fails = codes "\n"

abbrev pub point_line : Outcome → ℕ → ConnectionState → List ℕ
point_line found place c =
    mark_text found ++ decimal place ++ codes " - " ++ summary_text c ++ directive_text found

abbrev pub first_line : Form → Strictness → ℕ → ConnectionState → List ℕ
first_line Text strictness place c = summary_text c ++ codes "\n"
first_line Tap strictness place c = point_line (outcome strictness c) place c

-- ---- all lines of a connection, printed at this place, from 1

abbrev pub connection_text : ℕ → Form → Strictness → ℕ → ConnectionState → List ℕ
connection_text m form strictness place c =
    first_line form strictness place c ++ lines_up m form c ++ lines_down m form c
