-- SPDX-License-Identifier: MIT OR Apache-2.0
-- The line of a step that put another frame than its record has. It has four columns, which a tab
-- parts: the connection, the step, the record's frame, and that which was put.
use Rattle.std.specs.Prelude.{ℕ, ◌==◌, if◌then◌else◌, List, ◌++◌, codes, decimal}
use Rattle.std.specs.Prelude.{Option, Some, None, slice_get}
use Rattle.hex.specs.Hex.{encode_lower}
use Rattle.conn_messages.specs.declared.out.Out.{Out}
use Rattle.frame_words.specs.MessageName.{message_name}
use Rattle.ipa_framing.specs.declared.frame.Frame.{Frame}
use Rattle.record_steps.specs.declared.recorded_step.PutFrame.{PutFrame}
use Rattle.rerun_lines.specs.Clock.{clock_column}
use Rattle.rerun_lines.specs.StepText.{link_text}
use Rattle.rerun_lines.specs.declared.mark.Mark.{Mark}

-- the connection that a frame belongs to; 0 says that it belongs to none
abbrev pub conn_text : ℕ → List ℕ
conn_text conn = if conn == 0 then codes "no conn" else codes "conn " ++ decimal conn

abbrev pub owner_text : Option Out → List ℕ
owner_text None = codes "no conn"
owner_text (Some out) = conn_text out.conn

-- a frame on a link: who is at the other end, the name, and the octets of its body
abbrev pub on_link_text : ℕ → Frame → List ℕ
on_link_text link frame =
    link_text link ++ codes " " ++ message_name frame ++ codes " " ++ encode_lower frame.body

abbrev pub recorded_text : Option PutFrame → List ℕ
recorded_text None = codes "nothing"
recorded_text (Some put) = on_link_text put.link put.frame

abbrev pub put_text : Option Out → List ℕ
put_text None = codes "nothing"
put_text (Some out) = on_link_text out.to out.frame

-- the step, and how many of its frames are the same before the first that isn't
abbrev pub place_text : Mark → ℕ → List ℕ
place_text mark place =
    codes "\tstep " ++ decimal mark.number ++ codes " after " ++ decimal place
    ++ codes " frames" ++ clock_column mark.stamp

abbrev pub difference_text : Mark → ℕ → Option PutFrame → Option Out → List ℕ
difference_text mark place recorded put =
    owner_text put ++ place_text mark place ++ (codes "record: " ++ recorded_text recorded
    ++ codes "\trerun: " ++ put_text put ++ codes "\n")

-- the frames at this place
abbrev pub difference_line : Mark → ℕ → List Out → List PutFrame → List ℕ
difference_line mark place outs puts =
    difference_text mark place (slice_get puts place) (slice_get outs place)
