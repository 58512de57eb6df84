-- SPDX-License-Identifier: MIT OR Apache-2.0
-- The lines of a step. Each has six columns, which a tab parts: the number of the step, from whom,
-- to whom, the name, what else is said with the time of day, and octets in hexadecimal digits.
use Rattle.std.specs.Prelude.{ℕ, ◌==◌, Bool, not, if◌then◌else◌, List, [], ◌++◌}
use Rattle.std.specs.Prelude.{codes, decimal}
use Rattle.std.specs.List.{flat_map}
use Rattle.hex.specs.Hex.{encode_lower}
use Rattle.conn_messages.specs.declared.out.Out.{Out}
use Rattle.conn_messages.specs.declared.parameters.TheConstants.{SWITCH_LINK}
use Rattle.connection_notes.specs.declared.note.Note.{Note}
use Rattle.connection_notes.specs.Notes.{number_of}
use Rattle.connection_notes.specs.NoteText.{note_text}
use Rattle.controller_model.specs.declared.step.Step.{Step}
use Rattle.controller_model.specs.declared.step.Step.TheVariants.{Take, Tick}
use Rattle.frame_words.specs.Fields.{fields_text}
use Rattle.frame_words.specs.MessageName.{message_name}
use Rattle.frame_words.specs.Numbered.{number_field, number_in_frame}
use Rattle.ipa_framing.specs.declared.frame.Frame.{Frame}
use Rattle.rerun_lines.specs.Chosen.{shows_note, shows_out, shows_taken, shows_time, touches}
use Rattle.rerun_lines.specs.Clock.{clock_column}
use Rattle.rerun_lines.specs.declared.choice.Choice.{Choice}
use Rattle.rerun_lines.specs.declared.ends.Way.{Way}
use Rattle.rerun_lines.specs.declared.ends.Way.TheVariants.{Put, Taken}
use Rattle.rerun_lines.specs.declared.mark.Mark.{Mark}
use Rattle.run_record.specs.declared.entry.Stamp.{Stamp}
use Rattle.ruled_relay.specs.declared.item.What.{What}
use Rattle.ruled_relay.specs.declared.item.What.TheVariants as whats

-- who is at the other end of a link
abbrev pub link_text : ℕ → List ℕ
link_text link = if link == SWITCH_LINK then codes "switch" else codes "station " ++ decimal link

-- the columns of who sent a frame, and to whom
abbrev pub ends_text : Way → ℕ → List ℕ
ends_text Taken link = link_text link ++ codes "\tbsc\t"
ends_text Put link = codes "bsc\t" ++ link_text link ++ codes "\t"

-- up, from the side of the mobiles to that of the switch
abbrev pub is_uplink : Way → ℕ → Bool
is_uplink Taken link = not (link == SWITCH_LINK)
is_uplink Put link = link == SWITCH_LINK

-- the columns before the name
abbrev pub front_text : ℕ → Way → ℕ → List ℕ
front_text number way link = decimal number ++ codes "\t" ++ ends_text way link

-- the name of a frame, and what else is said of it: of what goes up the number N(SD), of m
abbrev pub said_text : ℕ → Bool → Frame → List ℕ
said_text m up frame =
    message_name frame ++ (codes "\tsent" ++ fields_text frame
    ++ (if up then number_field (number_in_frame m frame) else []))

-- the time of day, and the octets of its body
abbrev pub end_text : Stamp → List ℕ → List ℕ
end_text stamp body = clock_column stamp ++ encode_lower body ++ codes "\n"

abbrev pub frame_line : ℕ → Mark → Way → ℕ → Frame → List ℕ
frame_line m mark way link frame =
    front_text mark.number way link ++ said_text m (is_uplink way link) frame
    ++ end_text mark.stamp frame.body

-- a link broke, or was given up
abbrev pub break_line : Mark → ℕ → List ℕ
break_line mark link =
    front_text mark.number Taken link ++ codes "LINK DOWN\tbroken"
    ++ (clock_column mark.stamp ++ codes "\n")

-- what a link gave
abbrev pub what_line : ℕ → Mark → ℕ → What → List ℕ
what_line m mark link (whats.Frame frame) = frame_line m mark Taken link frame
what_line m mark link whats.Down = break_line mark link

-- what became of a connection
abbrev pub note_line : Mark → Note → List ℕ
note_line mark note =
    decimal mark.number ++ codes "\tbsc\tbsc\tconn " ++ decimal (number_of note) ++ codes "\t"
    ++ note_text note ++ clock_column mark.stamp ++ codes "\n"

-- ---- the lines that are shown

abbrev pub taken_shown : ℕ → Choice → Mark → Bool → Step → List ℕ
taken_shown m choice mark concerns (Take item) =
    if shows_taken choice concerns item.source then what_line m mark item.source item.what else []
taken_shown m choice mark concerns (Tick ms) = []

abbrev pub out_shown : ℕ → Choice → Mark → Out → List ℕ
out_shown m choice mark out =
    if shows_out choice out then frame_line m mark Put out.to out.frame else []

abbrev pub note_shown : Choice → Mark → Bool → Note → List ℕ
note_shown choice mark touched note =
    if shows_note choice touched note then note_line mark note else []

abbrev pub all_shown : ℕ → Choice → Mark → Bool → Step → List Out → List Note → List ℕ
all_shown m choice mark concerns step outs notes =
    taken_shown m choice mark concerns step ++ flat_map (out_shown m choice mark) outs
    ++ flat_map (note_shown choice mark (touches choice.cell step outs)) notes

-- what a step took, what it put, and what became of connections; whether it takes a frame for the
-- connection that is wanted is told
abbrev pub step_text : ℕ → Choice → Mark → Bool → Step → List Out → List Note → List ℕ
step_text m choice mark concerns step outs notes =
    if shows_time choice mark.stamp then all_shown m choice mark concerns step outs notes else []
