-- SPDX-License-Identifier: MIT OR Apache-2.0
-- The lines of octets, and a reader that takes the octets in pieces of any size.
use Rattle.std.specs.Prelude.{◌≡◌, ◌<◌, ℕ, ◌+◌, ◌-◌, ◌^◌, ◌==◌, Bool, false, min, if◌then◌else◌}
use Rattle.std.specs.Prelude.{List, [], ◌∷◌, ◌++◌, length, Option, Some, None, Result, Ok, Err}
use Rattle.std.specs.List.{All, onto_first}
use Rattle.octets.specs.declared.memory.Memory.{Memory as NoMemory}
use Rattle.judge_lines.specs.Line.{line_said}
use Rattle.judge_lines.specs.declared.fault.LineFault.{LineFault}
use Rattle.judge_lines.specs.declared.fault.LineFault.TheVariants.{Memory}
use Rattle.judge_lines.specs.declared.line.Line.{Line}

abbrev pub is_feed : ℕ → Bool
is_feed octet = octet == 10

abbrev pub HasNoFeed : List ℕ → Type 0
HasNoFeed octets = All (λ octet. is_feed octet ≡ false) octets

-- The lines of octets, without their line feeds. The last line may lack its line feed.
abbrev pub lines_of : List ℕ → List (List ℕ)
lines_of [] = []
lines_of (octet ∷ octets) =
    if is_feed octet then [] ∷ lines_of octets else onto_first octet (lines_of octets)

-- The number of the line after `count` lines. The number saturates.
abbrev pub place_behind : ℕ → ℕ
place_behind count = min (count + 1) (2 ^ 64 - 1)

-- The contents of lines that follow `count` other lines.
abbrev pub lines_from : ℕ → List (List ℕ) → List (Result Line LineFault)
lines_from count [] = []
lines_from count (line ∷ lines) =
    line_said (place_behind count) line ∷ lines_from (place_behind count) lines

-- The contents of the lines of octets.
abbrev pub said_in : List ℕ → List (Result Line LineFault)
said_in octets = lines_from 0 (lines_of octets)

-- ---- the reader

-- The octets that were fed and aren't taken yet, and the number of lines that were taken.
pub record LinesState : Type 0 where
  pub octets : List ℕ
  pub count : ℕ

-- The state of a reader that was fed nothing.
abbrev pub new_lines : LinesState
new_lines = record { octets = []; count = 0 }

-- The contents of the lines that are still to be taken, if these octets follow.
abbrev pub to_come : LinesState → List ℕ → List (Result Line LineFault)
to_come state more = lines_from state.count (lines_of (state.octets ++ more))

-- Feeding a piece appends it; a failed allocation changes nothing.
abbrev pub Feeds : {X : Type 0} → LinesState → List ℕ → Result X NoMemory → LinesState → Type 0
Feeds old piece (Ok _) new = new ≡ record { octets = old.octets ++ piece; count = old.count }
Feeds old piece (Err _) new = new ≡ old

-- The count of lines grew by one. The count saturates.
abbrev pub Counts : LinesState → LinesState → Type 0
Counts old new = new.count ≡ place_behind old.count

-- The next line was `line`, and the lines after it are left, whatever octets follow.
abbrev pub TakesLine : LinesState → Line → LinesState → Type 0
TakesLine old line new = Counts old new × (length new.octets < length old.octets)
    × ((more : List ℕ) → to_come old more ≡ Ok line ∷ to_come new more)

-- The next line is refused with `fault` if the octets `more` follow.
abbrev pub RefusesLine : LinesState → LineFault → List ℕ → Type 0
RefusesLine old fault more =
    (others : List (Result Line LineFault)) × (to_come old more ≡ Err fault ∷ others)

-- The next line is taken if it is whole. A refused line is refused whatever octets follow.
abbrev pub Takes : LinesState → Result (Option Line) LineFault → LinesState → Type 0
Takes old (Ok (Some line)) new = TakesLine old line new
Takes old (Ok None) new = HasNoFeed old.octets × (new ≡ old)
Takes old (Err Memory) new = Counts old new
Takes old (Err fault) new = Counts old new × ((more : List ℕ) → RefusesLine old fault more)

-- The next line is taken when no octets follow: the last line may lack its line feed.
abbrev pub TakesAtEnd : LinesState → Result (Option Line) LineFault → LinesState → Type 0
TakesAtEnd old (Ok (Some line)) new = Counts old new × (length new.octets < length old.octets)
    × (to_come old [] ≡ Ok line ∷ to_come new [])
TakesAtEnd old (Ok None) new = (old.octets ≡ []) × (new ≡ old)
TakesAtEnd old (Err Memory) new = Counts old new
TakesAtEnd old (Err fault) new = Counts old new × RefusesLine old fault []
