-- SPDX-License-Identifier: MIT OR Apache-2.0
-- The frames of a link (the IPA multiplex of ip.access), and how octets consist of them.
use Rattle.std.specs.Prelude.{◌≡◌, ◌≤◌, ◌<◌, ◌+◌, ◌*◌, ◌/◌, ◌%◌}
use Rattle.std.specs.Prelude.{◌⊎◌, ℕ, List, ◌∷◌, ◌++◌, length}
use Rattle.std.specs.Prelude.{Option, Some, None, nat_lt, if◌then◌else◌}
use Rattle.std.specs.List.{flat_map, AllByRecursion}
use Rattle.ipa_framing.specs.declared.frame.Frame.{Frame}
use Rattle.ipa_framing.specs.declared.frame.TheConstants.{MAX_BODY}
use Rattle.ipa_framing.specs.declared.fault.FrameFault.{FrameFault}
use Rattle.ipa_framing.specs.declared.fault.FrameFault.TheVariants.{TooLong}

-- the octets of a frame: the length of its body, high octet first, the stream, the body
abbrev pub frame_text : Frame → List ℕ
frame_text f = (length f.body / 256) ∷ (length f.body % 256) ∷ f.stream ∷ f.body

-- a link can carry the frame: its body has at most MAX_BODY octets
abbrev pub IsFrame : Frame → Type 0
IsFrame f = length f.body ≤ MAX_BODY

-- the fault for which a frame can't be written; None if it can be written
abbrev pub write_fault : Frame → Option FrameFault
write_fault f = if nat_lt MAX_BODY (length f.body) then Some TooLong else None

-- The octets are an incomplete frame: fewer than two octets, or a length of at most MAX_BODY and
-- fewer octets after it than the stream and the body need.
abbrev pub IsPartial : List ℕ → Type 0
IsPartial (high ∷ low ∷ octets) =
    (256 * high + low ≤ MAX_BODY) × (length octets < 1 + (256 * high + low))
IsPartial octets = Unit {0}

-- The octets begin with the length of a frame whose body exceeds MAX_BODY.
abbrev pub IsTooLong : List ℕ → Type 0
IsTooLong (high ∷ low ∷ octets) = MAX_BODY < 256 * high + low
IsTooLong octets = ⊥

-- The stream is `frames` and then `rest`. Each frame's body has at most MAX_BODY octets. The rest
-- is an incomplete frame, perhaps empty, or begins a frame that is too long.
pub record Splits (stream : List ℕ) (frames : List Frame) (rest : List ℕ) : Type 0 where
  pub whole : stream ≡ flat_map frame_text frames ++ rest
  pub each : AllByRecursion IsFrame frames
  pub stops : IsPartial rest ⊎ IsTooLong rest
