-- SPDX-License-Identifier: MIT OR Apache-2.0
-- What contracts see of the two ends of an outbox, and what the calls of these ends do.
use Rattle.std.specs.Prelude.{◌≡◌, ℕ, ◌+◌, List, [], ◌∷◌, ◌++◌, Result, Ok}
use Rattle.std.specs.Prelude.{Err, min, max}
use Rattle.atomic_table.specs.Seated.{TableId}
use Rattle.ruled_relay.specs.declared.outbox.Line.{Line}
use Rattle.ruled_relay.specs.declared.outbox.Line.TheVariants.{Frame, End}
use Rattle.ruled_relay.specs.declared.outbox.Full.{Full}
use Rattle.ruled_relay.specs.Rule.{putting}
use Rattle.ruled_relay.specs.Ends.{WasFull}

-- The putting end: the identity of the queue, its capacity, all lines put, the number of frames
-- refused since a line was put last, and the greatest such number so far.
pub record PutterView : Type 0 where
  pub queue : TableId
  pub capacity : ℕ
  pub put : List Line
  pub refused : ℕ
  pub refusals : ℕ

-- The taking end: the identity of the queue, its capacity, and all lines taken.
pub record TakerView : Type 0 where
  pub queue : TableId
  pub capacity : ℕ
  pub taken : List Line

-- Both ends, joined: all lines put, and all lines taken.
pub record UnsentView : Type 0 where
  pub put : List Line
  pub taken : List Line

-- the two ends of a new outbox
abbrev pub AreNewOutbox : ℕ → PutterView → TakerView → Type 0
AreNewOutbox capacity putter taker =
    (putter ≡ record {
      queue = taker.queue;
      capacity = capacity;
      put = [];
      refused = 0;
      refusals = 0;
    })
    × (taker ≡ record { queue = taker.queue; capacity = capacity; taken = [] })

-- the putting end after it refused a line: the number of refused frames rises by one and saturates
-- at 2^32 - 1; the refusal of an End isn't counted
abbrev pub refusing : Line → PutterView → PutterView
refusing (Frame _) p =
    let n = min (p.refused + 1) 4294967295 in
    record p { refused = n; refusals = max p.refusals n }
refusing End p = p

-- Ok: the line becomes the last of the lines put, and the number of refused frames restarts at 0.
-- Err: the outbox was full and held the last lines put; the line is handed back, and the refusal of
-- a frame is counted.
abbrev pub PutsLine : PutterView → Line → Result (Unit {0}) Full → PutterView → Type 0
PutsLine old line (Ok _) new =
    new ≡ record old { put = old.put ++ line ∷ []; refused = 0 }
PutsLine old line (Err full) new =
    (full.0 ≡ line) × WasFull old.capacity (putting old.put) × (new ≡ refusing line old)

-- the line is taken: it becomes the last of the lines taken
abbrev pub TakesLine : TakerView → Line → TakerView → Type 0
TakesLine old line new =
    new ≡ record old { taken = old.taken ++ line ∷ [] }

-- the line is taken, and it is the next of the lines put
abbrev pub GivesLine : UnsentView → Line → UnsentView → Type 0
GivesLine old line new =
    (new ≡ record old { taken = old.taken ++ line ∷ [] })
    × ((rest : List Line) × (old.put ≡ old.taken ++ line ∷ rest))
