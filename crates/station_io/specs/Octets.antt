-- SPDX-License-Identifier: MIT OR Apache-2.0
-- Octets in, octets out: the octets that the controller puts for each link are a function of the
-- octets that arrived from all links and of the order in which the links' items and the ticks were
-- merged.
use Rattle.std.specs.Prelude.{◌≡◌, ◌⊎◌, ℕ, zero, suc, ◌≤◌, ◌==◌, if◌then◌else◌}
use Rattle.std.specs.Prelude.{Bool, true, false, List, [], ◌∷◌}
use Rattle.std.specs.Prelude.{◌++◌, drop, length, Option, Some, None, Result, Ok}
use Rattle.std.specs.Io.KnownBytes.{Appends, Consumes, IsAtEnd}
use mathlib.Core.Option.{some}
use lib.ListN.{get_elem?}
use Rattle.controller_worker.specs.Steps.{frames_to, items_of, over, whats_of}
use Rattle.controller_model.specs.declared.step.Step.{Step}
use Rattle.controller_model.specs.declared.step.Step.TheVariants.{Take, Tick}
use Rattle.controller_model.specs.Controller.{Controller}
use Rattle.ipa_framing.specs.declared.fault.FrameFault.{FrameFault}
use Rattle.ipa_framing.specs.declared.frame.Frame.{Frame}
use Rattle.ipa_framing.specs.Frame.{IsPartial, IsTooLong}
use Rattle.ipa_framing.specs.Framer.{Call, FramerState, Run, new_framer}
use Rattle.ipa_framing.specs.Front.{FrontFrame, frame, front_of}
use Rattle.link_workers.specs.Reading.{frames_text, given}
use Rattle.link_workers.specs.Writing.{AppendsBeginning}
use Rattle.ruled_relay.specs.declared.item.What.{What}
use Rattle.ruled_relay.specs.declared.item.What.TheVariants.{Down}
use Rattle.controller.specs.Laws.{IsNew, KeepsLaws}
use Rattle.station_io.specs.Links.{Ended, LinkView}

-- ---- the frames of octets

-- the frame at the front, if that frame is whole, followed by the frames after it; else no frame
abbrev pub from_front : (List ℕ → List Frame) → Result (Option FrontFrame) FrameFault → List Frame
from_front behind (Ok (Some front)) = frame front.0 front.1 ∷ behind front.2
from_front behind _ = []

-- the whole frames from the front on, but at most this many
abbrev pub first_frames : ℕ → List ℕ → List Frame
first_frames zero octets = []
first_frames (suc most) octets = from_front (first_frames most) (front_of octets)

-- All whole frames from the front on. Each frame has at least three octets, so there are no more
-- frames than octets.
abbrev pub frames_in : List ℕ → List Frame
frames_in octets = first_frames (length octets) octets

-- These calls fed a new framer with octets, in any pieces, and the framer returned every whole
-- frame.
abbrev pub TakesWhole : List Call → Type 0
TakesWhole calls = (left : FramerState) × Run new_framer calls left
    × (IsPartial left.octets ⊎ IsTooLong left.octets)

-- ---- what arrived from links, merged

-- the items that arrived, by link
abbrev pub Came : Type 0
Came = ℕ → List What

-- the items of a link that ended after these frames: the frames, then `Down`
abbrev pub ended_behind : List Frame → List What
ended_behind frames = given frames ++ Down ∷ []

-- the items of a link that ended after these octets: the whole frames in them, then `Down`
abbrev pub items_in : List ℕ → List What
items_in octets = ended_behind (frames_in octets)

-- what comes next: an item of this link, or a tick of this many milliseconds
pub data Next : Type 0 where
  item_of : ℕ → Next
  time : ℕ → Next

-- the step that takes the first item of a link; no step if no item is left
abbrev pub first_step : ℕ → List What → List Step
first_step link [] = []
first_step link (what ∷ whats) = Take (record { source = link; what = what }) ∷ []

-- the items of all links, without the first item of this link
abbrev pub behind : ℕ → Came → Came
behind link came other = if other == link then drop 1 (came other) else came other

-- the steps of a controller that takes the items that arrived, and ticks, in this order
abbrev pub merged : List Next → Came → List Step
merged [] came = []
merged (time ms ∷ order) came = Tick ms ∷ merged order came
merged (item_of link ∷ order) came =
    first_step link (came link) ++ merged order (behind link came)

-- the inverse of `merged`: the order of a list of steps, and the items of each link in that list
abbrev pub next_of : Step → Next
next_of (Take item) = item_of item.source
next_of (Tick ms) = time ms

abbrev pub order_of : List Step → List Next
order_of [] = []
order_of (s ∷ steps) = next_of s ∷ order_of steps

abbrev pub came_in : List Step → Came
came_in steps link = whats_of link (items_of steps)

-- ---- octets out

-- the octets of the frames that a controller puts for a link
abbrev pub octets_put : Controller → List Next → Came → ℕ → List ℕ
octets_put start order came link =
    frames_text (frames_to link (over start (merged order came)).outs)

-- `came`, the items of a link in the steps, are the items taken from the link. If a `Down` was
-- added, there is one more `Down` among the items.
abbrev pub AreWithDown : Bool → List What → List What → Type 0
AreWithDown false taken came = came ≡ taken
AreWithDown true taken came = (before : List What) × (rest : List What)
    × (taken ≡ before ++ rest) × (came ≡ before ++ Down ∷ rest)

-- The items are the first frames of these octets, then `Down`. If a `Down` was added, there is one
-- more `Down` among the items.
abbrev pub AreFirstOf : List ℕ → List What → Type 0
AreFirstOf octets came = (frames more : List Frame) × (added : Bool)
    × (frames_in octets ≡ frames ++ more) × AreWithDown added (ended_behind frames) came

-- One link that has ended. Octets were read from the link, the first frames of these octets arrived
-- as items, and the link got a beginning of the octets put for the link. If the link has no fault,
-- nothing is left to be read, all frames of the octets arrived, and the link got all octets put for
-- the link.
pub record Passes (start : Controller) (order : List Next) (came : Came) (number : ℕ)
    (old : LinkView) (now : Ended) : Type 0 where
  pub octets : List ℕ
  pub read : Consumes old.unread now.link.unread octets
  pub first : AreFirstOf octets (came number)
  pub part : AppendsBeginning old.written now.link.written (octets_put start order came number)
  pub end : now.fault ≡ None → IsAtEnd now.link.unread
  pub items : now.fault ≡ None → came number ≡ items_in octets
  pub got : now.fault ≡ None
      → Appends old.written now.link.written (octets_put start order came number)

-- There is one order in which the items of all links are merged with ticks. No items arrived from
-- other link numbers. If the controller was new, the laws of a life hold of the merged steps and of
-- the frames put.
abbrev pub PassesOctets : Controller → List LinkView → List Ended → Type 0
PassesOctets start links ended = (order : List Next) × (came : Came)
    × (IsNew start → KeepsLaws start.settings (merged order came) (over start (merged order came)))
    × ((number : ℕ) → length links ≤ number → came number ≡ [])
    × ((number : ℕ) (old : LinkView) (now : Ended)
    → get_elem? links number ≡ some old → get_elem? ended number ≡ some now
    → Passes start order came number old now)
