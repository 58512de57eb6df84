-- SPDX-License-Identifier: MIT OR Apache-2.0
-- Lines of a trace against literal frames and events.
use Rattle.std.proofs.Common.{◌≡◌, ℕ, List, [], ◌∷◌, ◌++◌, map, Option, Some, None, true, false, refl}
use Rattle.std.specs.Fmt.{digits}
use Rattle.std.specs.Prelude.{codes}
use Rattle.octets.proofs.Hex.{hex}
use Rattle.hex.proofs.OnLiterals.{hex_on_literals}
use Rattle.world_model.proofs.Worlds.{on_literals}
use Rattle.world_trace.specs.declared.cause.Cause.TheVariants as causes
use Rattle.world_trace.specs.declared.crossing.End.TheVariants.{Switch, Station, Controller}
use Rattle.world_trace.specs.declared.crossing.Passage.TheVariants.{Made, Sent, Got}
use Rattle.frame_words.specs.Carried.{carried_by}
use Rattle.dtap_codec.specs.declared.sapi.Sapi.TheVariants.{Zero}
use Rattle.world_trace.specs.declared.fate.Fate.TheVariants.{Accepted, Duplicate, Gap, Unnumbered}
use Rattle.connection_notes.specs.declared.note.Holding.TheVariants.{Held}
use Rattle.connection_notes.specs.declared.note.Note.TheVariants.{Changed, Hold}
use Rattle.connection_notes.specs.declared.note.Way.TheVariants.{Down}
use Rattle.connection_notes.specs.declared.sight.Phase.TheVariants as phases
use Rattle.trace_program.specs.TraceLines.{cause_text, crossing_line, event_line, fate_text, note_line}
use Rattle.trace_program.specs.Traced.{counted, no_tally, status_of_tally}
use Rattle.trace_program.specs.declared.run.Tally.{Tally}

taken : event_line 3 (codes "handle") None ≡ codes "3\tscript\tworld\thandle\ttaken\t\n"
unfolding digits
taken = refl

not_taken : event_line 12 (codes "handle") (Some causes.InboxEmpty) ≡ codes "12\tscript\tworld\thandle\tnot taken: the inbox is empty\t\n"
unfolding digits
not_taken = refl

-- why an event isn't taken: each cause in its words
causes_in_words : map cause_text
    (causes.NoMobile ∷ causes.MobileKnown ∷ causes.NotOnChannel ∷ causes.NotBetween ∷ causes.ChannelGone ∷ causes.LinkDown
    ∷ causes.NothingInAir ∷ causes.FrameNotTaken ∷ causes.NoCommand ∷ causes.NoHandover ∷ causes.BadMessage
    ∷ causes.OutboxEmpty ∷ causes.TenuresSpent ∷ causes.NothingMade ∷ causes.InboxEmpty ∷ causes.NoConnection
    ∷ causes.ConnectionClosed ∷ []) ≡
    codes "no such mobile" ∷ codes "the mobile connected before" ∷ codes "the mobile isn't on a channel"
    ∷ codes "the mobile isn't between two channels" ∷ codes "the channel was released" ∷ codes "the link is down"
    ∷ codes "nothing new in the air" ∷ codes "the station hasn't taken the frame" ∷ codes "no command to change the channel"
    ∷ codes "the command is no handover" ∷ codes "no lawful message" ∷ codes "the outbox is empty"
    ∷ codes "the channel had its last tenure" ∷ codes "nothing was made" ∷ codes "the inbox is empty"
    ∷ codes "no such connection" ∷ codes "the connection is clearing or ended" ∷ []
causes_in_words = refl

required : crossing_line 4 2 None (record {
  passage = Sent;
  from = Station 1;
  to = Controller;
  frame = record
      { stream = 0; body = hex "0c 13 01 88 13 01 00 00 11 00" };
})
    ≡ codes "2\tstation 1\tbsc\tCHANNEL REQUIRED\tsent channel 88\t0c130188130100001100\n"
unfolding digits hex_on_literals on_literals
required = refl

dt1 : crossing_line 4 20 (Some Accepted) (record {
  passage = Got;
  from = Controller;
  to = Switch;
  frame = record
      { stream = 253; body = hex "06 80 00 01 00 01 05 01 00 02 03 45" };
})
    ≡ codes "20\tbsc\tswitch\tDT1 DTAP SAPI 0\tgot to 800001 N(SD) 1 accepted\t068000010001050100020345\n"
unfolding digits hex_on_literals on_literals
dt1 = refl

made : crossing_line 4 1 None (record {
  passage = Made;
  from = Station 1;
  to = Controller;
  frame = record
      { stream = 0; body = hex "0c 13 01 88 13 01 00 00 11 00" };
})
    ≡ codes "1\tstation 1\tbsc\tCHANNEL REQUIRED\tmade channel 88\t0c130188130100001100\n"
unfolding digits hex_on_literals on_literals
made = refl

fates : fate_text (Some Duplicate) ++ fate_text (Some Gap) ++ fate_text (Some Unnumbered) ++ fate_text None
    ≡ codes " duplicate gap unnumbered"
fates = refl

-- ---- what became of a connection

changed : note_line 29 (Changed 1 phases.Active phases.Preparing) ≡ codes "29\tbsc\tbsc\tconn 1\tActive to Preparing\t\n"
unfolding digits
changed = refl

held : note_line 40 (Hold 12 Held 1 Down Zero) ≡ codes "40\tbsc\tbsc\tconn 12\theld 1 down SAPI 0\t\n"
unfolding digits
held = refl

-- ---- the message inside a frame (TS 48.058, TS 44.018, Q.713, TS 48.008)

abbrev on_station : List ℕ → Option (List ℕ)
on_station body = carried_by (record { stream = 0; body = body })

abbrev on_switch : List ℕ → Option (List ℕ)
on_switch body = carried_by (record { stream = 253; body = body })

handover_complete : on_station (hex "03 02 01 41 02 00 0b 00 03 06 2c 00") ≡ Some (codes "RR HANDOVER COMPLETE")
unfolding hex_on_literals on_literals
handover_complete = refl

call_control : on_station (hex "03 02 01 41 02 00 0b 00 02 03 45") ≡ Some (codes "CC")
unfolding hex_on_literals on_literals
call_control = refl

other_rr : on_station (hex "03 01 01 41 02 00 0b 00 02 06 35") ≡ Some (codes "RR")
unfolding hex_on_literals on_literals
other_rr = refl

clear_command : on_switch (hex "06 00 00 01 00 01 06 00 04 20 04 01 09") ≡ Some (codes "CLEAR COMMAND")
unfolding hex_on_literals on_literals
clear_command = refl

short_message : on_switch (hex "06 00 00 01 00 01 05 01 c3 02 09 01") ≡ Some (codes "DTAP SAPI 3")
unfolding hex_on_literals on_literals
short_message = refl

no_bssap : on_switch (hex "06 00 00 01 00 01 01 02") ≡ Some (codes "fault A2")
unfolding hex_on_literals on_literals
no_bssap = refl

released : on_switch (hex "04 00 00 01 80 00 01 00 00") ≡ None
unfolding hex_on_literals on_literals
released = refl

-- ---- how many events weren't taken, and the first of them

-- those of the lines 3 and 5
abbrev two_missed : Tally
two_missed = record { not_taken = 2; first = Some (record { line = 3; cause = causes.InboxEmpty }) }

first_missed : counted (Some causes.NoCommand) 5 (counted None 4 (counted (Some causes.InboxEmpty) 3 no_tally)) ≡ two_missed
first_missed = refl

strict_statuses : map (status_of_tally true) (no_tally ∷ two_missed ∷ []) ≡ 0 ∷ 4 ∷ []
strict_statuses = refl

other_statuses : map (status_of_tally false) (no_tally ∷ two_missed ∷ []) ≡ 0 ∷ 0 ∷ []
other_statuses = refl
