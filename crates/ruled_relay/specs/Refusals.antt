-- SPDX-License-Identifier: MIT OR Apache-2.0
-- The refusals of an outbox over all calls of `put`.
use Rattle.std.specs.Prelude.{◌≡◌, ℕ, ◌+◌, List, [], ◌∷◌, Ok, Err, max}
use Rattle.ruled_relay.specs.declared.outbox.Line.{Line}
use Rattle.ruled_relay.specs.declared.outbox.Line.TheVariants.{Frame, End}
use Rattle.ruled_relay.specs.Outbox.{PutterView, PutsLine}

-- the fate of a line: it was put, or it was handed back
pub data Fate : Type 0 where
  accepted : Line → Fate
  refused : Line → Fate

-- calls of `put` with these fates, in order, lead from the state `old` of the putter to the state
-- `new`
abbrev pub Meets : PutterView → List Fate → PutterView → Type 0
Meets old [] new = new ≡ old
Meets old (accepted line ∷ fates) new =
    (next : PutterView) × PutsLine old line (Ok tt) next × Meets next fates new
Meets old (refused line ∷ fates) new =
    (next : PutterView) × PutsLine old line (Err (record { 0 = line })) next × Meets next fates new

-- the number of frames refused before the next line is put
abbrev pub refused_first : List Fate → ℕ
refused_first [] = 0
refused_first (accepted line ∷ fates) = 0
refused_first (refused (Frame frame) ∷ fates) = refused_first fates + 1
refused_first (refused End ∷ fates) = refused_first fates

-- the greatest number of frames that are refused with no line put between them
abbrev pub most_refused : List Fate → ℕ
most_refused [] = 0
most_refused (fate ∷ fates) = max (refused_first (fate ∷ fates)) (most_refused fates)

-- the lines that are put, in order
abbrev pub lines_put : List Fate → List Line
lines_put [] = []
lines_put (accepted line ∷ fates) = line ∷ lines_put fates
lines_put (refused line ∷ fates) = lines_put fates
