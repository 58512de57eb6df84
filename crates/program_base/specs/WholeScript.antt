-- SPDX-License-Identifier: MIT OR Apache-2.0
-- A script: lines that are the texts of events.
use Rattle.std.specs.Prelude.{◌≡◌, ◌≢◌, ◌⊎◌, ℕ, ◌+◌, ◌-◌, ◌^◌, min}
use Rattle.std.specs.Prelude.{List, [], ◌∷◌, ◌++◌, length}
use Rattle.std.specs.Prelude.{codes, Option, IfSome}
use Rattle.std.specs.List.{flat_map, AllByRecursion}
use Rattle.std.specs.Str.{IsUtf8}
use Rattle.world_model.specs.declared.event.Event.{Event}
use Rattle.program_base.specs.Script.{IsLine}
use Rattle.program_base.specs.declared.whole_script.Script.{Script}

abbrev pub HasNoFeed : List ℕ → Type 0
HasNoFeed line = AllByRecursion (λ octet. octet ≢ 10) line

-- lines, each with its line feed
abbrev pub lines_text : List (List ℕ) → List ℕ
lines_text lines = flat_map (λ line. line ++ codes "\n") lines

-- the lines are the texts of the events, one by one
abbrev pub AreTexts : ℕ → List Event → List (List ℕ) → Type 0
AreTexts cells [] [] = Unit {0}
AreTexts cells (event ∷ events) (line ∷ lines) =
    IsLine cells event line × AreTexts cells events lines
AreTexts cells _ _ = ⊥

-- The octets are the lines of `events` in a world of `cells` cells. The last line may lack its line
-- feed.
pub record IsScript (cells : ℕ) (octets : List ℕ) (events : List Event) : Type 0 where
  pub lines : List (List ℕ)
  pub texts : AreTexts cells events lines
  pub no_feeds : AllByRecursion HasNoFeed lines
  pub ended : (octets ≡ lines_text lines) ⊎ (octets ++ codes "\n" ≡ lines_text lines)

-- the line isn't UTF-8, or isn't the text of an event
abbrev pub IsBadLine : ℕ → List ℕ → Type 0
IsBadLine cells line = (¬ (IsUtf8 line)) ⊎ ((event : Event) → ¬ (IsLine cells event line))

-- the count that the program keeps of `lines` lines; it saturates
abbrev pub line_count : ℕ → ℕ
line_count lines = min lines (2 ^ 64 - 1)

-- The octets are lines of events, followed by a bad line, whose number is `number`. If the bad line
-- lacks its line feed, it isn't empty.
pub record IsBadScript (cells : ℕ) (octets : List ℕ) (number : ℕ) : Type 0 where
  pub lines : List (List ℕ)
  pub events : List Event
  pub texts : AreTexts cells events lines
  pub line : List ℕ
  pub behind : List ℕ
  pub no_feeds : AllByRecursion HasNoFeed lines × HasNoFeed line
  pub ended : ((octets ≡ lines_text lines ++ line) × (line ≢ []))
      ⊎ (octets ≡ lines_text lines ++ (line ++ codes "\n" ++ behind))
  pub bad : IsBadLine cells line
  pub is : number ≡ line_count (length lines + 1)

-- if the octets are known (`Some`), they are a script whose first bad line has this number
abbrev pub HasBadLineAt : ℕ → Option (List ℕ) → ℕ → Type 0
HasBadLineAt cells start number = IfSome start (λ octets. IsBadScript cells octets number)

-- ---- what the reader's calls do

-- A line was read as an event.
pub record AddsLine (old new : Script) (line : List ℕ) : Type 0 where
  pub event : Event
  pub text : IsLine old.cells event line
  pub events : new.events.items ≡ old.events.items ++ event ∷ []
  pub cells : new.cells ≡ old.cells
  pub lines : new.lines ≡ line_count (old.lines + 1)

-- A bad line was refused, and `number` is the number of this line.
abbrev pub RefusesLine : Script → List ℕ → ℕ → Type 0
RefusesLine old line number = IsBadLine old.cells line × (number ≡ line_count (old.lines + 1))

-- `octets` were read. The octets of the started line, followed by `octets`, are lines of events and
-- the beginning of another line.
pub record Reads (old new : Script) (octets : List ℕ) : Type 0 where
  pub lines : List (List ℕ)
  pub added : List Event
  pub texts : AreTexts old.cells added lines
  pub no_feeds : HasNoFeed old.started.items
      → AllByRecursion HasNoFeed lines × HasNoFeed new.started.items
  pub events : new.events.items ≡ old.events.items ++ added
  pub parts : old.started.items ++ octets ≡ lines_text lines ++ new.started.items
  pub cells : new.cells ≡ old.cells
  pub count : (n : ℕ) → old.lines ≡ line_count n → new.lines ≡ line_count (n + length lines)

-- `octets` were read up to a bad line, whose number is `number`.
pub record RefusesAt (old : Script) (octets : List ℕ) (number : ℕ) : Type 0 where
  pub lines : List (List ℕ)
  pub added : List Event
  pub texts : AreTexts old.cells added lines
  pub line : List ℕ
  pub behind : List ℕ
  pub no_feeds : HasNoFeed old.started.items → AllByRecursion HasNoFeed lines × HasNoFeed line
  pub parts : old.started.items ++ octets ≡ lines_text lines ++ (line ++ codes "\n" ++ behind)
  pub bad : IsBadLine old.cells line
  pub is : (n : ℕ) → old.lines ≡ line_count n → number ≡ line_count (n + length lines + 1)

-- The events are those that were read. If a line was started, the event of that line is the last.
abbrev pub Finishes : Script → List Event → Type 0
Finishes script events = ((script.started.items ≡ []) × (events ≡ script.events.items))
    ⊎ ((event : Event) × IsLine script.cells event script.started.items
    × (events ≡ script.events.items ++ event ∷ []))
