-- SPDX-License-Identifier: MIT OR Apache-2.0
-- The lines of a trace. Each line has six columns, separated by tabs: the number of the event, the
-- sender, the receiver, the name, the details, and octets in hexadecimal digits.
use Rattle.std.specs.Prelude.{ℕ, Bool, true, false, if◌then◌else◌, List, [], ◌++◌}
use Rattle.std.specs.Prelude.{Option, Some, None, codes, decimal}
use Rattle.std.specs.List.{flat_map}
use Rattle.hex.specs.Hex.{encode_lower}
use Rattle.world_trace.specs.declared.cause.Cause.{Cause}
use Rattle.world_trace.specs.declared.cause.Cause.TheVariants as causes
use Rattle.world_trace.specs.declared.crossing.Crossing.{Crossing}
use Rattle.world_trace.specs.declared.crossing.End.{End}
use Rattle.world_trace.specs.declared.crossing.End.TheVariants.{Switch, Station, Controller}
use Rattle.world_trace.specs.declared.crossing.Passage.{Passage}
use Rattle.world_trace.specs.declared.crossing.Passage.TheVariants.{Made, Sent, Got}
use Rattle.frame_words.specs.Fields.{fields_text}
use Rattle.frame_words.specs.MessageName.{message_name}
use Rattle.frame_words.specs.Numbered.{number_field, number_in_frame}
use Rattle.world_trace.specs.declared.fate.Fate.{Fate}
use Rattle.world_trace.specs.declared.fate.Fate.TheVariants.{Accepted, Duplicate, Gap, Unnumbered}
use Rattle.connection_notes.specs.declared.note.Note.{Note}
use Rattle.connection_notes.specs.Notes.{number_of}
use Rattle.connection_notes.specs.NoteText.{note_text}

abbrev pub end_text : End → List ℕ
end_text Switch = codes "switch"
end_text (Station number) = codes "station " ++ decimal number
end_text Controller = codes "bsc"

abbrev pub passage_text : Passage → List ℕ
passage_text Made = codes "made"
passage_text Sent = codes "sent"
passage_text Got = codes "got"

abbrev pub cause_text : Cause → List ℕ
cause_text causes.NoMobile = codes "no such mobile"
cause_text causes.MobileKnown = codes "the mobile connected before"
cause_text causes.NotOnChannel = codes "the mobile isn't on a channel"
cause_text causes.NotBetween = codes "the mobile isn't between two channels"
cause_text causes.ChannelGone = codes "the channel was released"
cause_text causes.LinkDown = codes "the link is down"
cause_text causes.NothingInAir = codes "nothing new in the air"
cause_text causes.FrameNotTaken = codes "the station hasn't taken the frame"
cause_text causes.NoCommand = codes "no command to change the channel"
cause_text causes.NoHandover = codes "the command is no handover"
cause_text causes.BadMessage = codes "no lawful message"
cause_text causes.OutboxEmpty = codes "the outbox is empty"
cause_text causes.TenuresSpent = codes "the channel had its last tenure"
cause_text causes.NothingMade = codes "nothing was made"
cause_text causes.InboxEmpty = codes "the inbox is empty"
cause_text causes.NoConnection = codes "no such connection"
cause_text causes.ConnectionClosed = codes "the connection is clearing or ended"

-- whether an event was taken, and why not; `event_line` is the event's line in the trace
abbrev pub outcome_text : Option Cause → List ℕ
outcome_text None = codes "taken"
outcome_text (Some cause) = codes "not taken: " ++ cause_text cause

abbrev pub event_line : ℕ → List ℕ → Option Cause → List ℕ
event_line number line refusal =
    decimal number ++ codes "\tscript\tworld\t" ++ line ++ codes "\t" ++ outcome_text refusal
    ++ codes "\t\n"

-- the columns of the end that a frame comes from, and of the end that the frame goes to
abbrev pub ends_text : End → End → List ℕ
ends_text from to = end_text from ++ codes "\t" ++ end_text to ++ codes "\t"

-- whether a frame goes uplink: from the mobiles' side to the switch's side
abbrev pub is_uplink : End → End → Bool
is_uplink (Station number) to = true
is_uplink from Switch = true
is_uplink from to = false

-- the number N(SD) of an uplink frame, if messages have `m` sequence numbers; empty for any other
-- frame
abbrev pub number_said : ℕ → Crossing → List ℕ
number_said m crossing =
    if is_uplink crossing.from crossing.to
    then number_field (number_in_frame m crossing.frame) else []

-- the fate of the message that the switch took; empty if the switch took no message
abbrev pub fate_text : Option Fate → List ℕ
fate_text None = []
fate_text (Some Accepted) = codes " accepted"
fate_text (Some Duplicate) = codes " duplicate"
fate_text (Some Gap) = codes " gap"
fate_text (Some Unnumbered) = codes " unnumbered"

-- the column of a frame's details: the passage, the fields, the number and the fate
abbrev pub said_column : ℕ → Option Fate → Crossing → List ℕ
said_column m fate crossing =
    codes "\t" ++ passage_text crossing.passage ++ fields_text crossing.frame
    ++ number_said m crossing ++ fate_text fate ++ codes "\t"

-- the last columns of a frame's line: the name, the details, and the octets of the body
abbrev pub frame_text : ℕ → Option Fate → Crossing → List ℕ
frame_text m fate crossing =
    message_name crossing.frame ++ said_column m fate crossing
    ++ encode_lower crossing.frame.body ++ codes "\n"

-- the line of a frame, if messages have `m` sequence numbers
abbrev pub crossing_line : ℕ → ℕ → Option Fate → Crossing → List ℕ
crossing_line m number fate crossing =
    decimal number ++ codes "\t" ++ ends_text crossing.from crossing.to
    ++ frame_text m fate crossing

-- ---- the line of a note on a connection of the controller

abbrev pub note_line : ℕ → Note → List ℕ
note_line number note =
    decimal number ++ codes "\tbsc\tbsc\tconn " ++ decimal (number_of note)
    ++ codes "\t" ++ note_text note ++ codes "\t\n"

-- ---- the lines of an event: the event's own, those of the frames that crossed a link, those of
-- the frames that were made, and those of the notes on connections

abbrev pub event_lines : ℕ → ℕ → List ℕ → Option Cause → Option Fate → List Crossing
    → List Crossing → List Note → List ℕ
event_lines m number line refusal fate crossings made notes =
    event_line number line refusal ++ flat_map (crossing_line m number fate) crossings
    ++ flat_map (crossing_line m number None) made ++ flat_map (note_line number) notes
