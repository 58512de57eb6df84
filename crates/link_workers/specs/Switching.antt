-- SPDX-License-Identifier: MIT OR Apache-2.0
-- How the switch for tests answers the octets of its link.
use Rattle.std.specs.Prelude.{◌≡◌, ◌⊎◌, ℕ, ◌==◌, if◌then◌else◌, List, []}
use Rattle.std.specs.Prelude.{◌∷◌, ◌++◌, Option, Some}
use Rattle.std.specs.Prelude.{None, Result, Ok, Err, map, option_to_list}
use Rattle.std.specs.List.{flat_map}
use Rattle.std.specs.Result.{result_ok}
use Rattle.std.specs.Io.KnownBytes.{Appends, Consumes, IsAtEnd}
use Rattle.ipa_framing.specs.declared.frame.Frame.{Frame}
use Rattle.ipa_framing.specs.declared.streams.TheConstants.{SCCP_STREAM}
use Rattle.ipa_framing.specs.Frame.{IsPartial}
use Rattle.ipa_framing.specs.Framer.{FramerState}
use Rattle.bssmap_codec.specs.declared.sccp.Sccp.{Sccp}
use Rattle.bssmap_codec.specs.SccpReading.{sccp_reading}
use Rattle.bssmap_codec.specs.SccpText.{sccp_text}
use Rattle.msc_end.specs.SwitchState.{SwitchState}
use Rattle.msc_end.specs.Switch.{after, replies}
use Rattle.link_workers.specs.declared.fault.IoFault.{IoFault}
use Rattle.link_workers.specs.declared.fault.IoFault.TheVariants.{ReadFailed, WriteFailed}
use Rattle.link_workers.specs.declared.fault.IoFault.TheVariants.{FrameFault, Memory}
use Rattle.link_workers.specs.Reading.{frames_text, Parts}
use Rattle.link_workers.specs.Writing.{AppendsBeginning}

-- The SCCP message in a frame; None if the frame is of another stream or its body can't be read.
abbrev pub message_in : Frame → Option Sccp
message_in f = if f.stream == SCCP_STREAM then result_ok (sccp_reading f.body) else None

abbrev pub messages : List Frame → List Sccp
messages frames = flat_map (λ f. option_to_list (message_in f)) frames

-- The switch once these messages were handled, in order.
abbrev pub after_all : SwitchState → List Sccp → SwitchState
after_all switch [] = switch
after_all switch (m ∷ ms) = after_all (after switch m) ms

-- The replies of the switch to these messages, in order.
abbrev pub all_replies : SwitchState → List Sccp → List Sccp
all_replies switch [] = []
all_replies switch (m ∷ ms) = replies switch.connections m ++ all_replies (after switch m) ms

-- the frame that carries a reply
abbrev pub reply_frame : Sccp → Frame
reply_frame reply = record { stream = SCCP_STREAM; body = sccp_text reply }

abbrev pub replies_text : List Sccp → List ℕ
replies_text replies = frames_text (map reply_frame replies)

-- What holds of the octets after the frames that were handled. Without a fault, they are at most an
-- incomplete frame, and no octet is left to be read. ReadFailed: they are at most an incomplete
-- frame. WriteFailed, FrameFault and Memory: any octets. The switch has no other fault.
abbrev pub Stops : Option IoFault → List ℕ → Option (List ℕ) → Type 0
Stops None rest now = IsPartial rest × IsAtEnd now
Stops (Some ReadFailed) rest now = IsPartial rest
Stops (Some WriteFailed) rest now = Unit {0}
Stops (Some FrameFault) rest now = Unit {0}
Stops (Some Memory) rest now = Unit {0}
Stops (Some _) rest now = ⊥

-- the octets of the switch's replies to the messages in these frames
abbrev pub answers_text : SwitchState → List Frame → List ℕ
answers_text switch frames = replies_text (all_replies switch (messages frames))

-- the switch once the messages in these frames were handled
abbrev pub having_answered : SwitchState → List Frame → SwitchState
having_answered switch frames = after_all switch (messages frames)

-- All octets of the replies were written. After a fault other than ReadFailed, a prefix of these
-- octets was written.
abbrev pub WritesReplies : Option IoFault → List Sccp → Option (List ℕ) → Option (List ℕ)
    → Type 0
WritesReplies None replies old new = Appends old new (replies_text replies)
WritesReplies (Some ReadFailed) replies old new = Appends old new (replies_text replies)
WritesReplies (Some _) replies old new = AppendsBeginning old new (replies_text replies)

-- Octets were read that are frames followed by a rest. The switch handled the messages in these
-- frames, and the replies were written as `writes` says.
pub record PlaysSwitch (start end : Option (List ℕ)) (old new : Option (List ℕ))
    (switch now : SwitchState) (fault : Option IoFault) : Type 0 where
  pub octets : List ℕ
  pub frames : List Frame
  pub rest : List ℕ
  pub read : Consumes start end octets
  pub parts : Parts octets frames rest
  pub stops : Stops fault rest end
  pub state : now ≡ having_answered switch frames
  pub writes : WritesReplies fault (all_replies switch (messages frames)) old new

-- ---- the parts of the switch

-- A fault that answering a frame can have.
abbrev pub IsAnswerFault : IoFault → Type 0
IsAnswerFault WriteFailed = Unit {0}
IsAnswerFault FrameFault = Unit {0}
IsAnswerFault Memory = Unit {0}
IsAnswerFault _ = ⊥

-- Ok: the frame was answered. Err: either the switch didn't handle the frame and nothing was
-- written, or the switch handled the frame and a prefix of the replies was written.
abbrev pub AnswersFrame : {X : Type 0} → Option (List ℕ) → Option (List ℕ) → SwitchState
    → SwitchState → Frame → Result X IoFault → Type 0
AnswersFrame old new switch now f (Ok _) =
    (now ≡ having_answered switch (f ∷ [])) × Appends old new (answers_text switch (f ∷ []))
AnswersFrame old new switch now f (Err fault) =
    IsAnswerFault fault
    × (((now ≡ switch) × (new ≡ old))
    ⊎ ((now ≡ having_answered switch (f ∷ []))
    × AppendsBeginning old new (answers_text switch (f ∷ []))))

-- The octets are those of these frames, followed by a rest, and the frames were answered.
pub record Answers (octets : List ℕ) (old new : Option (List ℕ)) (switch now : SwitchState)
    (frames : List Frame) (rest : List ℕ) : Type 0 where
  pub parts : Parts octets frames rest
  pub state : now ≡ having_answered switch frames
  pub writes : Appends old new (answers_text switch frames)

-- The octets are frames followed by a rest. The frames were handled, and a prefix of the replies
-- was written; then this fault stopped the switch.
pub record StopsAnswering (octets : List ℕ) (old new : Option (List ℕ)) (switch now : SwitchState)
    (fault : IoFault) : Type 0 where
  pub frames : List Frame
  pub rest : List ℕ
  pub parts : Parts octets frames rest
  pub state : now ≡ having_answered switch frames
  pub writes : AppendsBeginning old new (answers_text switch frames)
  pub is : IsAnswerFault fault

-- Ok: all complete frames that the framer held were answered. Err: the first of these frames were
-- handled, then the fault stopped the switch.
abbrev pub AnswersWhole : {X : Type 0} → FramerState → FramerState → Option (List ℕ)
    → Option (List ℕ) → SwitchState → SwitchState → Result X IoFault → Type 0
AnswersWhole held left old new switch now (Ok _) =
    ((frames : List Frame) × Answers held.octets old new switch now frames left.octets)
    × IsPartial left.octets × (left.failed ≡ held.failed)
AnswersWhole held left old new switch now (Err fault) =
    StopsAnswering held.octets old new switch now fault
