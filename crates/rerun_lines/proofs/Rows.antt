-- SPDX-License-Identifier: MIT OR Apache-2.0
-- Lines of steps by literal frames, and which are shown.
use Rattle.std.proofs.Common.{◌≡◌, ℕ, List, [], ◌∷◌, map, Option, Some, None, true, false, refl}
use Rattle.std.specs.Fmt.{digits}
use Rattle.std.specs.Prelude.{codes}
use Rattle.octets.proofs.Hex.{hex}
use Rattle.hex.proofs.OnLiterals.{hex_on_literals}
use Rattle.conn_messages.specs.declared.out.Out.{Out}
use Rattle.connection_notes.specs.declared.note.Holding.TheVariants.{Held}
use Rattle.connection_notes.specs.declared.note.Note.{Note}
use Rattle.connection_notes.specs.declared.note.Note.TheVariants.{Hold}
use Rattle.connection_notes.specs.declared.note.Way.TheVariants.{Down}
use Rattle.controller_model.proofs.OnLiterals.{on_literals}
use Rattle.controller_model.specs.declared.step.Step.TheVariants.{Take, Tick}
use Rattle.dtap_codec.specs.declared.sapi.Sapi.TheVariants.{Zero}
use Rattle.ruled_relay.specs.declared.item.What.TheVariants as whats
use Rattle.rerun_lines.specs.Chosen.{is_between, shows_taken, touches}
use Rattle.rerun_lines.specs.Clock.{clock_column}
use Rattle.rerun_lines.specs.DifferenceText.{difference_line}
use Rattle.rerun_lines.specs.StepText.{break_line, frame_line, note_line, step_text}
use Rattle.rerun_lines.specs.declared.choice.Choice.{Choice}
use Rattle.rerun_lines.specs.declared.ends.Way.TheVariants.{Put, Taken}
use Rattle.rerun_lines.specs.declared.mark.Mark.{Mark}

-- ---- the time of day

-- 1 December 2026, the first and the last millisecond of a day
times : map clock_column (record { seconds = 1796092441; microseconds = 75999 } ∷ record { seconds = 86400; microseconds = 999 }
    ∷ record { seconds = 86399; microseconds = 999999 } ∷ [])
    ≡ codes " 02:34:01.075\t" ∷ codes " 00:00:00.000\t" ∷ codes " 23:59:59.999\t" ∷ []
times = refl

-- ---- lines

-- the seventh step
abbrev seventh : Mark
seventh = record { number = 7; stamp = record { seconds = 1796092441; microseconds = 75999 } }

taken : frame_line 4 seventh Taken 1 (record { stream = 0; body = hex "03 02 01 41 02 00 0b 00 02 03 85" })
    ≡ codes "7\tstation 1\tbsc\tDATA INDICATION CC\tsent channel 41 N(SD) 2 02:34:01.075\t0302014102000b00020385\n"
unfolding digits hex_on_literals on_literals
taken = refl

put_up : frame_line 4 seventh Put 0 (record { stream = 253; body = hex "06 80 00 01 00 01 05 01 00 02 03 45" })
    ≡ codes "7\tbsc\tswitch\tDT1 DTAP SAPI 0\tsent to 800001 N(SD) 1 02:34:01.075\t068000010001050100020345\n"
unfolding digits hex_on_literals on_literals
put_up = refl

broken : break_line seventh 0 ≡ codes "7\tswitch\tbsc\tLINK DOWN\tbroken 02:34:01.075\t\n"
unfolding digits
broken = refl

held : note_line seventh (Hold 12 Held 1 Down Zero) ≡ codes "7\tbsc\tbsc\tconn 12\theld 1 down SAPI 0 02:34:01.075\t\n"
unfolding digits
held = refl

-- ---- which are shown

-- 10:00 to 11:00, and 23:00 to 01:00
spans : map (is_between 36000000 39600000) (35999999 ∷ 36000000 ∷ 39600000 ∷ 39600001 ∷ []) ≡ false ∷ true ∷ true ∷ false ∷ []
spans = refl

nights : map (is_between 82800000 3600000) (82799999 ∷ 82800000 ∷ 0 ∷ 3600000 ∷ 3600001 ∷ []) ≡ false ∷ true ∷ true ∷ true ∷ false ∷ []
nights = refl

abbrev choice : Option ℕ → Option ℕ → Choice
choice conn cell = record { conn = conn; cell = cell; from = 0; to = 86399999 }

-- RF CHANNEL RELEASE of connection 5 to station 1, and DT1 of connection 6
abbrev outs : List Out
outs = record { to = 1; conn = 5; frame = record { stream = 0; body = hex "08 2e 01 41" } }
    ∷ record { to = 0; conn = 6; frame = record { stream = 253; body = hex "06 80 00 01 00 01 05 01 00 02 03 45" } } ∷ []

abbrev notes : List Note
notes = Hold 5 Held 1 Down Zero ∷ Hold 6 Held 1 Down Zero ∷ []

abbrev shown : Option ℕ → Option ℕ → List ℕ
shown conn cell = step_text 4 (choice conn cell) seventh false (Take (record { source = 2; what = whats.Down })) outs notes

of_connection : shown (Some 6) None
    ≡ codes "7\tbsc\tswitch\tDT1 DTAP SAPI 0\tsent to 800001 N(SD) 1 02:34:01.075\t068000010001050100020345\n7\tbsc\tbsc\tconn 6\theld 1 down SAPI 0 02:34:01.075\t\n"
unfolding digits hex_on_literals on_literals
of_connection = refl

-- that of its station, and what became of connections at a step that touched it
of_cell : shown None (Some 2)
    ≡ codes "7\tstation 2\tbsc\tLINK DOWN\tbroken 02:34:01.075\t\n7\tbsc\tbsc\tconn 5\theld 1 down SAPI 0 02:34:01.075\t\n7\tbsc\tbsc\tconn 6\theld 1 down SAPI 0 02:34:01.075\t\n"
unfolding digits hex_on_literals on_literals
of_cell = refl

of_no_cell : shown None (Some 3) ≡ []
of_no_cell = refl

not_at_the_time : step_text 4 (record { conn = None; cell = None; from = 36000000; to = 39600000 }) seventh false (Tick 100) outs notes ≡ []
not_at_the_time = refl

concerned : shows_taken (choice (Some 5) None) true 1 ≡ true
concerned = refl

-- ---- differences

missing : difference_line seventh 1 outs []
    ≡ codes "conn 6\tstep 7 after 1 frames 02:34:01.075\trecord: nothing\trerun: switch DT1 DTAP SAPI 0 068000010001050100020345\n"
unfolding digits hex_on_literals on_literals
missing = refl

lacking : difference_line seventh 0 [] (record { link = 1; frame = record { stream = 0; body = hex "08 2e 01 41" } } ∷ [])
    ≡ codes "no conn\tstep 7 after 0 frames 02:34:01.075\trecord: station 1 RF CHANNEL RELEASE 082e0141\trerun: nothing\n"
unfolding digits hex_on_literals on_literals
lacking = refl
