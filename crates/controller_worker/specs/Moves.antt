-- SPDX-License-Identifier: MIT OR Apache-2.0
-- The moves of the call worker, and the part of each move for one link.
use Rattle.std.specs.Prelude.{◌≡◌, ◌≢◌, ◌⊎◌, ℕ, ◌==◌, ◌≤◌, Bool, true, false, List, [], ◌∷◌}
use Rattle.std.specs.Prelude.{◌++◌, length, map}
use Rattle.std.specs.List.{AllByRecursion, filter}
use Rattle.controller_worker.specs.declared.limits.TheConstants.{MAX_REFUSALS}
use Rattle.controller_worker.specs.Steps.{frames_to, whats_of}
use Rattle.controller_model.specs.declared.step.Step.{Step}
use Rattle.controller_model.specs.declared.step.Step.TheVariants.{Take, Tick}
use Rattle.controller_model.specs.Controller.{Controller, Turn}
use Rattle.controller_model.specs.Life as words
use Rattle.ipa_framing.specs.declared.frame.Frame.{Frame}
use Rattle.ruled_relay.specs.declared.item.Item.{Item}
use Rattle.ruled_relay.specs.declared.item.What.{What}
use Rattle.ruled_relay.specs.declared.item.What.TheVariants as whats

-- A move of the call worker: it takes an item from the desk; passes milliseconds on to the
-- controller; adds the `Down` of a link; or is refused a frame, once, by the outbox of a link.
pub data Move : Type 0 where
  takes : Item → Move
  ticks : ℕ → Move
  adds : ℕ → Move
  refuses : ℕ → Move

abbrev pub down_of : ℕ → Item
down_of link = record { source = link; what = whats.Down }

-- the controller's steps: one for each move that isn't a refusal
abbrev pub steps_of : List Move → List Step
steps_of [] = []
steps_of (takes item ∷ moves) = Take item ∷ steps_of moves
steps_of (ticks ms ∷ moves) = Tick ms ∷ steps_of moves
steps_of (adds link ∷ moves) = Take (down_of link) ∷ steps_of moves
steps_of (refuses link ∷ moves) = steps_of moves

abbrev pub taken_of : List Move → List Item
taken_of [] = []
taken_of (takes item ∷ moves) = item ∷ taken_of moves
taken_of (ticks ms ∷ moves) = taken_of moves
taken_of (adds link ∷ moves) = taken_of moves
taken_of (refuses link ∷ moves) = taken_of moves

-- the link of each refusal, in order
abbrev pub refusing_of : List Move → List ℕ
refusing_of [] = []
refusing_of (takes item ∷ moves) = refusing_of moves
refusing_of (ticks ms ∷ moves) = refusing_of moves
refusing_of (adds link ∷ moves) = refusing_of moves
refusing_of (refuses link ∷ moves) = link ∷ refusing_of moves

-- how often a link occurs in a list
abbrev pub times : ℕ → List ℕ → ℕ
times link links = length (filter (λ other. other == link) links)

-- ---- for one link

-- a move, and the frames that the move's step puts for the link
pub record Part : Type 0 where
  pub move : Move
  pub frames : List Frame

-- the turn of a controller at a move: a step, or nothing at a refusal
abbrev pub turn_at : Controller → Move → Turn
turn_at start (takes item) = words.step start (Take item)
turn_at start (ticks ms) = words.step start (Tick ms)
turn_at start (adds link) = words.step start (Take (down_of link))
turn_at start (refuses link) = record { outs = []; next = start }

-- the parts of these moves for a link if the controller is `start` before the first move
abbrev pub parts_of : ℕ → Controller → List Move → List Part
parts_of link start [] = []
parts_of link start (move ∷ moves) =
    record { move = move; frames = frames_to link (turn_at start move).outs }
    ∷ parts_of link (turn_at start move).next moves

abbrev pub frames_in : List Part → List Frame
frames_in [] = []
frames_in (part ∷ parts) = part.frames ++ frames_in parts

abbrev pub moves_in : List Part → List Move
moves_in parts = map (λ part. part.move) parts

-- the items of the link that were taken, without the number of the link
abbrev pub taken_in : ℕ → List Part → List What
taken_in link parts = whats_of link (taken_of (moves_in parts))

-- how often the link's outbox refused a frame
abbrev pub refusals_in : ℕ → List Part → ℕ
refusals_in link parts = times link (refusing_of (moves_in parts))

-- the move doesn't add the `Down` of this link
abbrev pub IsOther : ℕ → Part → Type 0
IsOther link part = part.move ≢ adds link

abbrev pub AreOther : ℕ → List Part → Type 0
AreOther link parts = AllByRecursion (IsOther link) parts

-- the move adds the `Down` of another link, or is a refusal by another link's outbox
abbrev pub IsElsewhere : ℕ → Part → Type 0
IsElsewhere link part = (other : ℕ) × (other ≢ link)
    × ((part.move ≡ adds other) ⊎ (part.move ≡ refuses other))

abbrev pub AreElsewhere : ℕ → List Part → Type 0
AreElsewhere link parts = AllByRecursion (IsElsewhere link) parts

-- The link's outbox refused a frame until the outbox was given up, and all frames before this frame
-- were sent. The outbox refused frames at least 1,000 times. After the last refusal, each move adds
-- the `Down` of another link or is a refusal by another link's outbox; no item is taken, and no
-- time is passed on.
pub record IsRefused (link : ℕ) (parts : List Part) (sent : List Frame) : Type 0 where
  pub earlier : List Part
  pub last : Part
  pub others : List Part
  pub whole : parts ≡ earlier ++ last ∷ others
  pub refusal : last.move ≡ refuses link
  pub elsewhere : AreElsewhere link others
  pub often : MAX_REFUSALS ≤ refusals_in link parts
  pub refused : Frame
  pub rest : List Frame
  pub frames : frames_in earlier ≡ sent ++ refused ∷ rest

-- The frames that were sent to a link in these moves. The first two values say whether the link's
-- outbox was given up, and whether the `Down` of the link was added. If the outbox wasn't given up,
-- all frames were sent. If the outbox was given up, the frames before the refused frame were sent,
-- and the `Down`, if it was added, follows the last refusal with only moves of other links between.
-- The `Down` is added at most once.
abbrev pub IsSent : Bool → Bool → ℕ → List Part → List Frame → Type 0
IsSent false false link parts sent = (sent ≡ frames_in parts) × AreOther link parts
IsSent false true link parts sent = ⊥
IsSent true false link parts sent = IsRefused link parts sent × AreOther link parts
IsSent true true link parts sent =
    (before : List Part) × (down : Part) × (behind : List Part)
    × (parts ≡ before ++ down ∷ behind) × IsRefused link before sent × (down.move ≡ adds link)
    × AreOther link before × AreOther link behind
