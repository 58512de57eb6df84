-- SPDX-License-Identifier: MIT OR Apache-2.0
-- The frame at the front of octets, as a function.
use Rattle.std.specs.Prelude.{ℕ, ◌+◌, ◌*◌, List, [], ◌∷◌, length, take, drop}
use Rattle.std.specs.Prelude.{Option, Some, None}
use Rattle.std.specs.Prelude.{Result, Ok, Err, nat_lt, if◌then◌else◌}
use Rattle.ipa_framing.specs.declared.frame.TheConstants.{MAX_BODY}
use Rattle.ipa_framing.specs.declared.fault.FrameFault.{FrameFault}
use Rattle.ipa_framing.specs.declared.fault.FrameFault.TheVariants.{TooLong, Memory}
use Rattle.ipa_framing.specs.declared.frame.Frame.{Frame}
use Rattle.ipa_framing.specs.Frame.{IsPartial, IsTooLong}
use Rattle.ipa_framing.specs.Framer.{BeginsWith}

-- the stream and the body of a frame, and the octets after it
abbrev pub FrontFrame : Type 0
FrontFrame = ℕ × List ℕ × List ℕ

abbrev pub body_at : ℕ → List ℕ → Option FrontFrame
body_at size [] = None
body_at size (stream ∷ octets) =
    if nat_lt (length octets) size then None else Some (stream, take size octets, drop size octets)

abbrev pub front_by_size : ℕ → List ℕ → Result (Option FrontFrame) FrameFault
front_by_size size octets = if nat_lt MAX_BODY size then Err TooLong else Ok (body_at size octets)

abbrev pub front_of : List ℕ → Result (Option FrontFrame) FrameFault
front_of (high ∷ low ∷ octets) = front_by_size (256 * high + low) octets
front_of octets = Ok None

-- ---- the meaning of each result

abbrev pub frame : ℕ → List ℕ → Frame
frame stream body = record { stream = stream; body = body }

abbrev pub FrontIs : List ℕ → Result (Option FrontFrame) FrameFault → Type 0
FrontIs octets (Ok None) = IsPartial octets
FrontIs octets (Ok (Some front)) = BeginsWith octets (frame front.0 front.1) front.2
FrontIs octets (Err TooLong) = IsTooLong octets
FrontIs octets (Err Memory) = ⊥
