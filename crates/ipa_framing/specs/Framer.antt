-- SPDX-License-Identifier: MIT OR Apache-2.0
-- The state of a framer, and what its calls return.
use Rattle.std.specs.Prelude.{◌≡◌, ℕ, Bool, true, false, List, [], ◌∷◌, ◌++◌}
use Rattle.std.specs.Prelude.{Option, Some, None}
use Rattle.std.specs.Prelude.{Result, Ok, Err}
use Rattle.ipa_framing.specs.declared.frame.Frame.{Frame}
use Rattle.ipa_framing.specs.declared.fault.FrameFault.{FrameFault}
use Rattle.ipa_framing.specs.declared.fault.FrameFault.TheVariants.{TooLong, Memory}
use Rattle.ipa_framing.specs.Frame.{frame_text, IsFrame, IsPartial, IsTooLong}

-- the octets that were fed and belong to no frame taken so far, and whether `next` has refused a
-- frame as too long
pub record FramerState : Type 0 where
  pub octets : List ℕ
  pub failed : Bool

-- the state of a framer that was fed nothing
abbrev pub new_framer : FramerState
new_framer = record { octets = []; failed = false }

-- `feed` appends the piece; on a fault the state is unchanged. `feed` returns `TooLong` exactly if
-- `next` has returned `TooLong` before.
abbrev pub Feeds : {X : Type 0} → FramerState → List ℕ → Result X FrameFault → FramerState → Type 0
Feeds old piece (Ok _) new =
    (old.failed ≡ false) × (new ≡ record { octets = old.octets ++ piece; failed = false })
Feeds old piece (Err TooLong) new = (old.failed ≡ true) × (new ≡ old)
Feeds old piece (Err Memory) new = (old.failed ≡ false) × (new ≡ old)

-- The octets are the whole frame and then `rest`. The frame's body has at most MAX_BODY octets.
abbrev pub BeginsWith : List ℕ → Frame → List ℕ → Type 0
BeginsWith octets f rest = IsFrame f × (octets ≡ frame_text f ++ rest)

-- `next` takes the frame at the front if that frame is whole, and takes nothing if the frame is
-- incomplete. `next` refuses a frame that is too long, and the state records the refusal. Memory
-- runs out only for a whole frame, and the state is then unchanged.
abbrev pub Takes : FramerState → Result (Option Frame) FrameFault → FramerState → Type 0
Takes old (Ok (Some f)) new = BeginsWith old.octets f new.octets × (new.failed ≡ old.failed)
Takes old (Ok None) new = IsPartial old.octets × (new ≡ old)
Takes old (Err TooLong) new =
    IsTooLong old.octets × (new ≡ record { octets = old.octets; failed = true })
Takes old (Err Memory) new =
    ((f : Frame) × (rest : List ℕ) × BeginsWith old.octets f rest) × (new ≡ old)

-- ---- any list of calls

pub data Call : Type 0 where
  feed : List ℕ → Result (Unit {0}) FrameFault → Call
  next : Result (Option Frame) FrameFault → Call

abbrev pub Does : FramerState → Call → FramerState → Type 0
Does old (feed piece result) new = Feeds old piece result new
Does old (next result) new = Takes old result new

-- the calls, each with its result, lead from the old state to the new one
abbrev pub Run : FramerState → List Call → FramerState → Type 0
Run old [] new = old ≡ new
Run old (c ∷ cs) new = (between : FramerState) × Does old c between × Run between cs new

-- the octets of the pieces that `feed` accepted
abbrev pub octets_of : List Call → List ℕ
octets_of [] = []
octets_of (feed piece (Ok _) ∷ cs) = piece ++ octets_of cs
octets_of (_ ∷ cs) = octets_of cs

-- the frames that `next` returned
abbrev pub frames_of : List Call → List Frame
frames_of [] = []
frames_of (next (Ok (Some f)) ∷ cs) = f ∷ frames_of cs
frames_of (_ ∷ cs) = frames_of cs
