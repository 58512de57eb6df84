-- SPDX-License-Identifier: MIT OR Apache-2.0
-- How a reader turns the octets of its link into items of its pass.
use Rattle.std.specs.Prelude.{◌≡◌, ◌⊎◌, ℕ, ◌+◌, Bool, true, false, List, []}
use Rattle.std.specs.Prelude.{◌∷◌, ◌++◌, Option}
use Rattle.std.specs.Prelude.{Some, None, Result, Ok, Err, map}
use Rattle.std.specs.List.{flat_map, AllByRecursion}
use Rattle.std.specs.Io.KnownBytes.{Consumes, IsAtEnd}
use Rattle.ipa_framing.specs.declared.frame.Frame.{Frame}
use Rattle.ipa_framing.specs.Frame.{frame_text, IsFrame, IsPartial, IsTooLong}
use Rattle.ipa_framing.specs.Framer.{FramerState}
use Rattle.ruled_relay.specs.declared.item.What.{What}
use Rattle.ruled_relay.specs.declared.item.What.TheVariants.{Frame as GivenFrame, Down}
use Rattle.ruled_relay.specs.Inbox.{PassView}
use Rattle.link_workers.specs.declared.fault.IoFault.{IoFault}
use Rattle.link_workers.specs.declared.fault.IoFault.TheVariants.{ReadFailed, FrameFault, Memory}
use Rattle.link_workers.specs.declared.fault.IoFault.TheVariants.{GateShut}
use Rattle.link_workers.specs.declared.unread.UnreadLink.{UnreadLink}
use Rattle.link_workers.specs.declared.unread.UnreadLink.TheVariants.{Endless, Device, Refused}
use Rattle.link_workers.specs.Unread.{fault_for}

-- The octets of the frames, one frame after the other.
abbrev pub frames_text : List Frame → List ℕ
frames_text frames = flat_map frame_text frames

-- The octets are those of these frames, followed by a rest. A link can carry each of the frames.
pub record Parts (octets : List ℕ) (frames : List Frame) (rest : List ℕ) : Type 0 where
  pub whole : octets ≡ frames_text frames ++ rest
  pub each : AllByRecursion IsFrame frames

-- The items that a link gives for these frames.
abbrev pub given : List Frame → List What
given frames = map GivenFrame frames

-- The pass once these items were put. Its field `put` has all items since the beginning.
abbrev pub having_put : PassView → List What → PassView
having_put p whats =
    record { queue = p.queue; capacity = p.capacity; source = p.source; put = p.put ++ whats }

-- The number of the gate's refusals in a row after these frames: 0 if there is a frame, which the
-- gate let through, else as before.
abbrev pub after_letting : ℕ → List Frame → ℕ
after_letting refused [] = refused
after_letting refused (f ∷ fs) = 0

-- The number of refusals in a row that a fault adds: `limit` for GateShut, else 0.
abbrev pub shutting : ℕ → IoFault → ℕ
shutting limit GateShut = limit
shutting limit _ = 0

-- What the fault that stopped the reader says of the octets after the frames that were put.
-- ReadFailed: they are at most an incomplete frame. FrameFault: a frame that is too long comes
-- first. Memory and GateShut: nothing. A reader has no other fault.
abbrev pub StopsBefore : IoFault → List ℕ → Type 0
StopsBefore ReadFailed rest = IsPartial rest
StopsBefore FrameFault rest = IsTooLong rest
StopsBefore Memory rest = Unit {0}
StopsBefore GateShut rest = Unit {0}
StopsBefore _ rest = ⊥

-- What holds of the octets after the frames that were put. Without a fault, they are at most an
-- incomplete frame, and no octet is left to be read. With a fault, StopsBefore holds.
abbrev pub Ends : Option IoFault → List ℕ → Option (List ℕ) → Type 0
Ends None rest now = IsPartial rest × IsAtEnd now
Ends (Some fault) rest now = StopsBefore fault rest

-- The number of the gate's refusals in a row at the end. If the gate remained shut, the number is
-- that after these frames plus `limit`. Otherwise the gate let `Down` through, and the number is 0.
abbrev pub AsksGate : Option IoFault → ℕ → List Frame → ℕ → ℕ → Type 0
AsksGate (Some GateShut) limit frames refused now = now ≡ after_letting refused frames + limit
AsksGate _ limit frames refused now = now ≡ 0

-- A reader read octets that are frames followed by a rest, and put these frames and then `Down`.
-- `refused` and `now` are the numbers of the gate's refusals in a row, before and after.
pub record Serves (start end : Option (List ℕ)) (limit refused now : ℕ) (old new : PassView)
    (fault : Option IoFault) : Type 0 where
  pub octets : List ℕ
  pub frames : List Frame
  pub rest : List ℕ
  pub read : Consumes start end octets
  pub parts : Parts octets frames rest
  pub ends : Ends fault rest end
  pub put : new ≡ having_put old (given frames ++ Down ∷ [])
  pub asks : AsksGate fault limit frames refused now

-- The device was told the fault. GateShut is exempt, since the gate may have refused only `Down`.
abbrev pub IsReported : Option IoFault → Option IoFault → Type 0
IsReported None told = Unit {0}
IsReported (Some GateShut) told = Unit {0}
IsReported (Some fault) told = told ≡ Some fault

-- ---- the parts of a reader

-- Ok: the gate let the item through, and the item was put. Err: the gate refused the item `limit`
-- times, and nothing was put.
abbrev pub PutsGated : {X : Type 0} → ℕ → ℕ → ℕ → PassView → What → PassView
    → Result X IoFault → Type 0
PutsGated limit refused now old what new (Ok _) =
    (new ≡ having_put old (what ∷ [])) × (now ≡ 0)
PutsGated limit refused now old what new (Err fault) =
    (new ≡ old) × (now ≡ refused + limit) × (fault ≡ GateShut)

-- The gate was asked to let `Down` through, unless the gate had remained shut before. The fault is
-- GateShut if the gate remained shut, before or this time, else the earlier fault.
abbrev pub AsksForDown : ℕ → ℕ → ℕ → Option IoFault → Option IoFault → Type 0
AsksForDown limit refused now (Some GateShut) fault = (now ≡ refused) × (fault ≡ Some GateShut)
AsksForDown limit refused now before fault =
    ((now ≡ 0) × (fault ≡ before)) ⊎ ((now ≡ refused + limit) × (fault ≡ Some GateShut))

-- `Down` was put. The gate was asked to let `Down` through, unless the gate had remained shut
-- before. The fault is GateShut if the gate remained shut, before or this time, else the earlier
-- fault.
abbrev pub PutsDown : ℕ → ℕ → ℕ → PassView → PassView → Option IoFault
    → Option IoFault → Type 0
PutsDown limit refused now old new (Some GateShut) fault =
    (new ≡ having_put old (Down ∷ [])) × (now ≡ refused) × (fault ≡ Some GateShut)
PutsDown limit refused now old new before fault =
    (new ≡ having_put old (Down ∷ []))
    × (((now ≡ 0) × (fault ≡ before))
    ⊎ ((now ≡ refused + limit) × (fault ≡ Some GateShut)))

-- The octets are those of these frames, followed by a rest, and the frames were put.
pub record Puts (octets : List ℕ) (refused now : ℕ) (old new : PassView) (frames : List Frame)
    (rest : List ℕ) : Type 0 where
  pub parts : Parts octets frames rest
  pub put : new ≡ having_put old (given frames)
  pub asks : now ≡ after_letting refused frames

-- The octets are frames followed by a rest. The frames were put, then this fault stopped the
-- reader.
pub record BreaksOff (octets : List ℕ) (limit refused now : ℕ) (old new : PassView)
    (fault : IoFault) : Type 0 where
  pub frames : List Frame
  pub rest : List ℕ
  pub before : ℕ
  pub puts : Puts octets refused before old new frames rest
  pub asks : now ≡ before + shutting limit fault
  pub stops : StopsBefore fault rest

-- Ok: all complete frames that the framer held were put. Err: the first of these frames were put,
-- then the fault stopped the reader.
abbrev pub PutsWhole : {X : Type 0} → FramerState → FramerState → ℕ → ℕ → ℕ
    → PassView → PassView → Result X IoFault → Type 0
PutsWhole held left limit refused now old new (Ok _) =
    ((frames : List Frame) × Puts held.octets refused now old new frames left.octets)
    × IsPartial left.octets × (left.failed ≡ held.failed)
PutsWhole held left limit refused now old new (Err fault) =
    BreaksOff held.octets limit refused now old new fault

-- Ok: octets were read to the end, and all complete frames in the octets were put. Err: octets were
-- read, and the first frames in the octets were put; then the fault stopped the reader.
abbrev pub PutsAll : {X : Type 0} → Option (List ℕ) → Option (List ℕ)
    → ℕ → ℕ → ℕ → PassView → PassView → Result X UnreadLink → Type 0
PutsAll start end limit refused now old new (Ok _) =
    (octets rest : List ℕ) × (frames : List Frame) × Consumes start end octets
    × Puts octets refused now old new frames rest × IsPartial rest × IsAtEnd end
PutsAll start end limit refused now old new (Err unread) =
    (octets : List ℕ) × Consumes start end octets
    × BreaksOff octets limit refused now old new (fault_for unread)

-- `true`: octets, perhaps none, were read and appended to the octets that the framer holds.
-- `false`: the end was reached, and the framer is unchanged. Err: the framer is unchanged, and no
-- octet was read unless the framer refused the octets.
abbrev pub ReadsOn : Option (List ℕ) → Option (List ℕ) → FramerState → FramerState
    → Result Bool UnreadLink → Type 0
ReadsOn start now held new (Ok true) = (octets : List ℕ) × Consumes start now octets
    × (new ≡ record { octets = held.octets ++ octets; failed = held.failed })
ReadsOn start now held new (Ok false) = Consumes start now [] × (new ≡ held) × IsAtEnd now
ReadsOn start now held new (Err (Endless reads)) = Consumes start now [] × (new ≡ held)
ReadsOn start now held new (Err (Device error)) = Consumes start now [] × (new ≡ held)
ReadsOn start now held new (Err (Refused fault)) =
    (octets : List ℕ) × Consumes start now octets × (new ≡ held) × (fault ≡ Memory)
