-- SPDX-License-Identifier: MIT OR Apache-2.0
-- How a writer writes the lines of its outbox.
use Rattle.std.specs.Prelude.{◌≡◌, ℕ, ◌<◌, ◌≤◌, Bool, true, false, List, []}
use Rattle.std.specs.Prelude.{◌∷◌, ◌++◌, length}
use Rattle.std.specs.Prelude.{take, Option, Some, None, Result, Ok, Err, map}
use Rattle.std.specs.List.{AllByRecursion}
use Rattle.std.specs.Io.KnownBytes.{Appends, Keeps}
use Rattle.std.specs.IoError.{error_kind}
use Rattle.std.specs.declared.io.ErrorKind.TheVariants.{Interrupted as WasInterrupted}
use Rattle.ipa_framing.specs.declared.frame.Frame.{Frame}
use Rattle.ipa_framing.specs.Frame.{IsFrame}
use Rattle.ruled_relay.specs.declared.outbox.Line.{Line}
use Rattle.ruled_relay.specs.declared.outbox.Line.TheVariants.{Frame as FrameLine, End}
use Rattle.ruled_relay.specs.Outbox.{TakerView}
use Rattle.link_workers.specs.declared.fault.IoFault.{IoFault}
use Rattle.link_workers.specs.declared.fault.IoFault.TheVariants.{WriteFailed, FrameFault, Memory}
use Rattle.link_workers.specs.declared.writer.Broken.{Broken}
use Rattle.link_workers.specs.declared.writing.Wrote.{Wrote}
use Rattle.link_workers.specs.declared.writing.Wrote.TheVariants.{Octets, Interrupted}
use Rattle.link_workers.specs.Reading.{frames_text}

-- The lines that carry these frames.
abbrev pub lines : List Frame → List Line
lines frames = map FrameLine frames

-- The taker once these lines were taken. Its field `taken` has all lines since the beginning.
abbrev pub having_taken : TakerView → List Line → TakerView
having_taken t lines = record { queue = t.queue; capacity = t.capacity; taken = t.taken ++ lines }

-- The output, if its contents are known, grew by a prefix of the text.
abbrev pub AppendsBeginning : Option (List ℕ) → Option (List ℕ) → List ℕ → Type 0
AppendsBeginning old new text = (written : List ℕ) × (unwritten : List ℕ)
    × (text ≡ written ++ unwritten) × Appends old new written

-- A fault that a writer of these frames can have: a failed write, an allocation failure, or, if one
-- of the frames is too long, FrameFault.
abbrev pub IsWriterFault : IoFault → List Frame → Type 0
IsWriterFault WriteFailed frames = Unit {0}
IsWriterFault Memory frames = Unit {0}
IsWriterFault FrameFault frames = AllByRecursion IsFrame frames → ⊥
IsWriterFault _ frames = ⊥

-- Without a fault, all octets of the frames were written, in order. With a fault, a prefix of these
-- octets was written.
abbrev pub WritesFrames : Option IoFault → List Frame → Option (List ℕ) → Option (List ℕ)
    → Type 0
WritesFrames None frames old new =
    AllByRecursion IsFrame frames × Appends old new (frames_text frames)
WritesFrames (Some fault) frames old new =
    IsWriterFault fault frames × AppendsBeginning old new (frames_text frames)

-- A writer took lines with frames, and then, as the last line, the mark `End`. The frames were
-- written as `writes` says.
pub record Delivers (old new : Option (List ℕ)) (taker taken : TakerView)
    (fault : Option IoFault) : Type 0 where
  pub frames : List Frame
  pub takes : taken ≡ having_taken taker (lines frames ++ End ∷ [])
  pub writes : WritesFrames fault frames old new

-- ---- the parts of a writer

-- The result of one write. A write that succeeded took the first `count` octets, at least one. A
-- write that was interrupted or failed took no octet.
abbrev pub WritesOnce : Option (List ℕ) → Option (List ℕ) → List ℕ
    → Result Wrote IoFault → Type 0
WritesOnce old new octets (Ok (Octets count)) =
    (0 < count) × (count ≤ length octets) × Appends old new (take count octets)
WritesOnce old new octets (Ok (Interrupted error)) =
    (error_kind error ≡ WasInterrupted) × Keeps old new
WritesOnce old new octets (Err fault) = (fault ≡ WriteFailed) × Keeps old new

-- Ok: the whole text was written. Err: a prefix of the text was written.
abbrev pub WritesText : {X : Type 0} → Option (List ℕ) → Option (List ℕ) → List ℕ
    → Result X IoFault → Type 0
WritesText old new text (Ok _) = Appends old new text
WritesText old new text (Err fault) = AppendsBeginning old new text × (fault ≡ WriteFailed)

-- The mark, if it was taken.
abbrev pub end_if : Bool → List Line
end_if true = End ∷ []
end_if false = []

-- Ok: lines with frames were taken, and the octets of the frames were appended to the text. Then,
-- if `ended`, the mark was taken. Err: lines with frames were taken, among them the frame that has
-- the fault.
abbrev pub Gathers : TakerView → TakerView → List ℕ → List ℕ → Result Bool IoFault
    → Type 0
Gathers old new text now (Ok ended) =
    (frames : List Frame) × (new ≡ having_taken old (lines frames ++ end_if ended))
    × (now ≡ text ++ frames_text frames) × AllByRecursion IsFrame frames
Gathers old new text now (Err fault) =
    (frames : List Frame) × (new ≡ having_taken old (lines frames)) × IsWriterFault fault frames

-- Ok: lines with frames and then the mark were taken, and all frames were written. Err: lines with
-- frames were taken, a prefix of the frames' octets was written, and `at_end` says whether the mark
-- was taken.
abbrev pub WritesLines : {X : Type 0} → Option (List ℕ) → Option (List ℕ) → TakerView
    → TakerView → Result X Broken → Type 0
WritesLines old new taker taken (Ok _) =
    (frames : List Frame) × (taken ≡ having_taken taker (lines frames ++ End ∷ []))
    × Appends old new (frames_text frames) × AllByRecursion IsFrame frames
WritesLines old new taker taken (Err broken) =
    (frames : List Frame) × (taken ≡ having_taken taker (lines frames ++ end_if broken.at_end))
    × AppendsBeginning old new (frames_text frames) × IsWriterFault broken.fault frames

-- Lines with frames were taken, and then the mark.
abbrev pub TakesToEnd : TakerView → TakerView → Type 0
TakesToEnd old new =
    (frames : List Frame) × (new ≡ having_taken old (lines frames ++ End ∷ []))
