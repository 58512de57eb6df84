-- SPDX-License-Identifier: MIT OR Apache-2.0
-- Rows: the output for literal faults, and the sums.
use Rattle.std.proofs.Common.{◌≡◌, ℕ, List, [], ◌∷◌, map, false, refl}
use Rattle.std.specs.Fmt.{digits}
use Rattle.std.specs.Prelude.{codes}
use Rattle.octets.proofs.Hex.{hex}
use Rattle.hex.proofs.OnLiterals.{hex_on_literals}
use Rattle.run_judge.specs.declared.fault.Fault.TheVariants as faults
use Rattle.run_judge.specs.declared.flow.Due.{Due}
use Rattle.judge_report.specs.declared.direction.Direction.TheVariants.{Up, Down}
use Rattle.judge_report.specs.declared.style.Form.TheVariants.{Text, Tap}
use Rattle.judge_report.specs.declared.style.Strictness.TheVariants.{Lenient, Strict}
use Rattle.judge_report.specs.declared.sums.Sums.{Sums}
use Rattle.judge_report.specs.ConnectionText.{plural_end, reference_digits, sum_of}
use Rattle.judge_report.specs.FaultText.{fault_text}
use Rattle.judge_report.specs.MessageText.{message_text}
use Rattle.judge_report.specs.Sums.{end_text, start_text, status_of_sums}

-- ---- messages

of_call_control : message_text 4 Up (hex "03 85 aa 02") ≡ codes "CC N(SD) 2 0385aa02"
unfolding digits hex_on_literals
of_call_control = refl

-- a number of two has bit 7 alone
of_release_98 : message_text 2 Up (hex "03 c5") ≡ codes "CC N(SD) 1 03c5"
unfolding digits hex_on_literals
of_release_98 = refl

-- the switch's have no number
of_the_switch : message_text 4 Down (hex "83 05") ≡ codes "CC 8305"
unfolding digits hex_on_literals
of_the_switch = refl

of_mobility_management : message_text 4 Up (hex "05 08") ≡ codes "MM N(SD) 0 0508"
unfolding digits hex_on_literals
of_mobility_management = refl

of_supplementary_services : message_text 4 Up (hex "0b fb") ≡ codes "SS N(SD) 3 0bfb"
unfolding digits hex_on_literals
of_supplementary_services = refl

of_radio_resource : message_text 4 Up (hex "06 27") ≡ codes "RR 0627"
unfolding digits hex_on_literals
of_radio_resource = refl

of_short_messages : message_text 4 Up (hex "19 01") ≡ codes "SMS 1901"
unfolding digits hex_on_literals
of_short_messages = refl

of_an_unknown_protocol : message_text 4 Up (hex "0c 01") ≡ codes "unknown 0c01"
unfolding digits hex_on_literals
of_an_unknown_protocol = refl

-- one octet has no number
of_one_octet : message_text 4 Up (hex "03") ≡ codes "CC 03"
unfolding digits hex_on_literals
of_one_octet = refl

-- ---- faults: each kind up and down

abbrev due : List ℕ → ℕ → Due
due message frame = record { rank = 1; message = message; frame = frame; is_optional = false }

lost : fault_text 4 Up (faults.Lost (due (hex "03 85 aa 02") 114) 117) ≡ codes "lost       CC N(SD) 2 0385aa02, from the station in frame 114, missed in frame 117"
unfolding digits hex_on_literals
lost = refl

lost_down : fault_text 4 Down (faults.Lost (due (hex "83 02") 6) 8) ≡ codes "lost       CC 8302, from the switch in frame 6, missed in frame 8"
unfolding digits hex_on_literals
lost_down = refl

overtaken : fault_text 4 Up (faults.Overtaken (due (hex "03 45") 14) 13 15) ≡ codes "overtaken  CC N(SD) 1 0345, from the station in frame 14, at the switch in frame 15, behind that of frame 13"
unfolding digits hex_on_literals
overtaken = refl

overtaken_down : fault_text 4 Down (faults.Overtaken (due (hex "83 02") 6) 8 9) ≡ codes "overtaken  CC 8302, from the switch in frame 6, handed in frame 9, behind that of frame 8"
unfolding digits hex_on_literals
overtaken_down = refl

doubled : fault_text 4 Up (faults.Doubled (hex "03 45") 7 8) ≡ codes "doubled    CC N(SD) 1 0345, at the switch in frame 7, and again in frame 8"
unfolding digits hex_on_literals
doubled = refl

doubled_down : fault_text 4 Down (faults.Doubled (hex "83 02") 7 8) ≡ codes "doubled    CC 8302, handed in frame 7, and again in frame 8"
unfolding digits hex_on_literals
doubled_down = refl

changed : fault_text 4 Up (faults.Changed (due (hex "03 45") 6) (hex "03 46") 7) ≡ codes "changed    CC N(SD) 1 0345, from the station in frame 6, into CC N(SD) 1 0346, at the switch in frame 7"
unfolding digits hex_on_literals
changed = refl

changed_down : fault_text 4 Down (faults.Changed (due (hex "83 02") 6) (hex "83 03") 7) ≡ codes "changed    CC 8302, from the switch in frame 6, into CC 8303, handed in frame 7"
unfolding digits hex_on_literals
changed_down = refl

made_up : fault_text 4 Up (faults.MadeUp (hex "03 45") 6) ≡ codes "made up    CC N(SD) 1 0345, at the switch in frame 6"
unfolding digits hex_on_literals
made_up = refl

made_up_down : fault_text 4 Down (faults.MadeUp (hex "83 02") 6) ≡ codes "made up    CC 8302, handed in frame 6"
unfolding digits hex_on_literals
made_up_down = refl

while_changing : fault_text 4 Down (faults.HandedWhileChanging (hex "83 02") 12) ≡ codes "handed while the channel changed CC 8302, in frame 12"
unfolding digits hex_on_literals
while_changing = refl

elsewhere : fault_text 4 Down (faults.HandedElsewhere (hex "83 02") 12) ≡ codes "handed on a channel that isn't serving CC 8302, in frame 12"
unfolding digits hex_on_literals
elsewhere = refl

behind_clear : fault_text 4 Up (faults.BehindClear (hex "03 45") 9) ≡ codes "sent behind CLEAR COMPLETE CC N(SD) 1 0345, in frame 9"
unfolding digits hex_on_literals
behind_clear = refl

bssmap_behind_clear : fault_text 4 Up (faults.BehindClear [] 9) ≡ codes "sent behind CLEAR COMPLETE in frame 9"
unfolding digits hex_on_literals
bssmap_behind_clear = refl

-- ---- words and digits

plurals : map plural_end (0 ∷ 1 ∷ 2 ∷ []) ≡ codes "s" ∷ [] ∷ codes "s" ∷ []
plurals = refl

references : map reference_digits (1 ∷ 0xabcdef ∷ 0 ∷ []) ≡ codes "000001" ∷ codes "abcdef" ∷ codes "000000" ∷ []
unfolding hex_on_literals
references = refl

sums_count_so_far : sum_of 18446744073709551615 1 ≡ 18446744073709551615
sums_count_so_far = refl

sums_count : sum_of 18446744073709551614 1 ≡ 18446744073709551615
sums_count = refl

-- ---- the sums

abbrev sums : ℕ → ℕ → ℕ → Sums
sums printed blamed unjudged = record { printed = printed; blamed = blamed; unjudged = unjudged }

nothing_before : start_text Text ≡ []
nothing_before = refl

version : start_text Tap ≡ codes "TAP version 14\n"
version = refl

none_printed : end_text Text (sums 0 0 0) ≡ codes "0 connections: 0 in order, 0 not, 0 not judged to the end\n"
unfolding digits
none_printed = refl

one_printed : end_text Text (sums 1 0 1) ≡ codes "1 connection: 1 in order, 0 not, 1 not judged to the end\n"
unfolding digits
one_printed = refl

some_printed : end_text Tap (sums 12 5 3) ≡ codes "# 12 connections: 7 in order, 5 not, 3 not judged to the end\n1..12\n"
unfolding digits
some_printed = refl

-- ---- the status

statuses : map (status_of_sums Lenient) (sums 3 0 0 ∷ sums 3 0 1 ∷ sums 3 1 0 ∷ sums 3 1 1 ∷ []) ≡ 0 ∷ 0 ∷ 1 ∷ 1 ∷ []
statuses = refl

strict_statuses : map (status_of_sums Strict) (sums 3 0 0 ∷ sums 3 0 1 ∷ sums 3 1 0 ∷ sums 3 1 1 ∷ []) ≡ 0 ∷ 1 ∷ 1 ∷ 1 ∷ []
strict_statuses = refl
