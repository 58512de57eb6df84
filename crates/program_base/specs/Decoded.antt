-- SPDX-License-Identifier: MIT OR Apache-2.0
-- The text that is printed for a stream: a line for each frame. The form of these lines is open;
-- `frame_line` is the line that `decode` prints. A claim on contents holds if the contents before
-- are known (`Some`).
use Rattle.std.specs.Prelude.{◌≡◌, ◌⊎◌, ℕ, false, List, [], ◌∷◌, ◌++◌}
use Rattle.std.specs.Prelude.{length, codes, decimal}
use Rattle.std.specs.Prelude.{Option, IfSome}
use Rattle.std.specs.List.{flat_map, AllByRecursion}
use Rattle.std.specs.Io.KnownBytes.{Appends}
use Rattle.hex.specs.Hex.{encode_lower}
use Rattle.ipa_framing.specs.declared.frame.Frame.{Frame}
use Rattle.ipa_framing.specs.Frame.{IsFrame, IsPartial, IsTooLong, Splits, frame_text}
use Rattle.ipa_framing.specs.Framer.{FramerState}
use Rattle.program_base.specs.declared.decode_command.Stop.{Stop}
use Rattle.program_base.specs.declared.decode_command.Stop.TheVariants.{TooLong}
use Rattle.program_base.specs.Names.{name_of}
use Rattle.program_io.specs.Output.{AppendsBeginning}

-- a frame's line: its stream in two hexadecimal digits, a space and the name of its contents
abbrev pub line_of : ℕ → List ℕ → List ℕ
line_of stream name = encode_lower (stream ∷ []) ++ codes " " ++ name ++ codes "\n"

-- the line that `decode` prints for a frame
abbrev pub frame_line : Frame → List ℕ
frame_line frame = line_of frame.stream (name_of frame)

-- the lines of all frames; the function `line` gives the line of a frame
abbrev pub frame_lines : (Frame → List ℕ) → List Frame → List ℕ
frame_lines line frames = flat_map line frames

-- the line for the octets of an incomplete frame; no line if there are no such octets
abbrev pub rest_line : List ℕ → List ℕ
rest_line [] = []
rest_line (octet ∷ octets) = codes "rest " ++ decimal (length (octet ∷ octets)) ++ codes "\n"

-- The stream is whole frames and perhaps the beginning of another frame. The text is the lines of
-- the whole frames, and a line for the octets of that beginning.
pub record IsDecoded (line : Frame → List ℕ) (stream text : List ℕ) : Type 0 where
  pub frames : List Frame
  pub rest : List ℕ
  pub splits : Splits stream frames rest
  pub started : IsPartial rest
  pub is : text ≡ frame_lines line frames ++ rest_line rest

-- The stream is frames, followed by a frame that is too long. The text is the lines of the frames
-- before the long frame.
pub record IsRefused (line : Frame → List ℕ) (stream text : List ℕ) : Type 0 where
  pub frames : List Frame
  pub rest : List ℕ
  pub splits : Splits stream frames rest
  pub long : IsTooLong rest
  pub is : text ≡ frame_lines line frames

-- If the stream's octets, `start`, are known (`Some`), the stream's text was appended to the
-- contents `old`, which gave `new`.
abbrev pub Decodes : (Frame → List ℕ) → Option (List ℕ) → Option (List ℕ) → Option (List ℕ)
    → Type 0
Decodes line start old new =
    IfSome start (λ stream. (text : List ℕ) × IsDecoded line stream text × Appends old new text)

-- If the stream's octets, `start`, are known (`Some`), the stream has a frame that is too long. The
-- lines of the frames before it, followed by `last`, were appended to the contents `old`, which
-- gave `new`.
abbrev pub RefusesWith : (Frame → List ℕ) → List ℕ → Option (List ℕ) → Option (List ℕ)
    → Option (List ℕ) → Type 0
RefusesWith line last start old new = IfSome start (λ stream.
    (text : List ℕ) × IsRefused line stream text × Appends old new (text ++ last))

-- The text is the lines of the stream's frames, followed by the line for an incomplete frame, or by
-- `last` if a frame is too long.
abbrev pub IsOutput : (Frame → List ℕ) → List ℕ → List ℕ → List ℕ → Type 0
IsOutput line last stream text =
    IsDecoded line stream text
    ⊎ ((lines : List ℕ) × IsRefused line stream lines × (text ≡ lines ++ last))

-- If the stream's octets, `start`, are known (`Some`), a beginning of each text that `IsOutput`
-- allows was appended to the contents `old`, which gave `new`.
abbrev pub Begins : (Frame → List ℕ) → List ℕ → Option (List ℕ) → Option (List ℕ)
    → Option (List ℕ) → Type 0
Begins line last start old new = IfSome start (λ stream.
    (text : List ℕ) → IsOutput line last stream text → AppendsBeginning old new text)

-- ---- what the parts of the program do

-- The octets that a framer held were whole frames, followed by the octets that are left in it. The
-- lines of these frames were appended to the contents `old`, which gave `new`.
pub record PrintsFrames (line : Frame → List ℕ) (held left : FramerState)
    (old new : Option (List ℕ)) : Type 0 where
  pub frames : List Frame
  pub each : AllByRecursion IsFrame frames
  pub whole : held.octets ≡ flat_map frame_text frames ++ left.octets
  pub printed : Appends old new (frame_lines line frames)

-- The octets begin with frames, and a beginning of the lines of these frames was appended to the
-- contents `old`, which gave `new`. If the reason to stop was `TooLong`, all lines were appended,
-- and a frame that is too long follows the frames.
pub record StopsAmong (line : Frame → List ℕ) (octets : List ℕ) (stop : Stop)
    (old new : Option (List ℕ)) : Type 0 where
  pub frames : List Frame
  pub rest : List ℕ
  pub each : AllByRecursion IsFrame frames
  pub whole : octets ≡ flat_map frame_text frames ++ rest
  pub begun : AppendsBeginning old new (frame_lines line frames)
  pub long : stop ≡ TooLong → IsTooLong rest × Appends old new (frame_lines line frames)

-- the framer with these octets appended
abbrev pub with_more : FramerState → List ℕ → FramerState
with_more held octets = record { octets = held.octets ++ octets; failed = held.failed }

-- `octets` were fed to a framer. The lines of the frames that were then whole were printed.
pub record NamesOctets (line : Frame → List ℕ) (held : FramerState) (octets : List ℕ)
    (left : FramerState) (old new : Option (List ℕ)) : Type 0 where
  pub prints : PrintsFrames line (with_more held octets) left old new
  pub partial : IsPartial held.octets → IsPartial left.octets
  pub working : held.failed ≡ false → left.failed ≡ false

-- `octets` were fed to a framer that hadn't failed. The printing of frames stopped for the reason
-- `stop`.
abbrev pub StopsNaming : (Frame → List ℕ) → FramerState → List ℕ → Stop → Option (List ℕ)
    → Option (List ℕ) → Type 0
StopsNaming line held octets stop old new =
    held.failed ≡ false → StopsAmong line (held.octets ++ octets) stop old new
