-- SPDX-License-Identifier: MIT OR Apache-2.0
-- A row with an end of a queue for each source, and what a call does to the end at a place.
use Rattle.std.specs.Prelude.{◌≡◌, ◌⊎◌, ℕ, ◌<◌, ◌≤◌, true, List, Option, Some, None}
use Rattle.std.specs.Prelude.{slice_set}
use mathlib.Core.Option.{some}
use lib.ListN.{get_elem?}
use Rattle.ruled_relay.specs.declared.item.Item.{Item}
use Rattle.ruled_relay.specs.declared.item.What.{What}
use Rattle.ruled_relay.specs.Ends.{EndView, IsDrained, Joins, Takes}

module _ {A : Type 0} where
  -- the row has an element at the place, and F holds of it
  abbrev pub HasAt : ℕ → List A → (A → Type 0) → Type 0
  HasAt at row F = (e : A) × (get_elem? row at ≡ some e) × F e

  -- only the element at the place changes, and F holds of its old value and its new value
  abbrev pub ChangesAt : ℕ → List A → List A → (A → A → Type 0) → Type 0
  ChangesAt at old new F =
      (e : A) × (d : A) × (get_elem? old at ≡ some e) × (new ≡ slice_set old at d) × F e d

  -- F holds of each element at a place from `from` up to, but without, `to`
  abbrev pub EachAmong : ℕ → ℕ → List A → (A → Type 0) → Type 0
  EachAmong from to row F = (at : ℕ) (e : A) → from ≤ at → at < to → get_elem? row at ≡ some e → F e

  -- F holds of each place and its element
  abbrev pub EachAt : List A → (ℕ → A → Type 0) → Type 0
  EachAt row F = (at : ℕ) (e : A) → get_elem? row at ≡ some e → F at e

abbrev pub Row : Type 0
Row = List (EndView What)

abbrev pub EachMayTake : Row → Type 0
EachMayTake row = EachAt row (λ at e. e.seen.takes ≡ true)

-- Some: the item is taken at the place `at`, which is the item's source. None: nothing is taken,
-- and the queue at the place is drained as far as its end knows.
abbrev pub TakesAt : ℕ → Row → Option Item → Row → Type 0
TakesAt at old (Some item) new =
    (item.source ≡ at) × ChangesAt at old new (λ e d. Takes e item.what d)
TakesAt at old None new = (new ≡ old) × HasAt at old (λ e. IsDrained e.seen)

-- Some: the item is taken at the place of its source, and all queues of the range before that place
-- are drained as far as their ends know. None: nothing is taken, and all queues of the range are
-- drained as far as their ends know.
abbrev pub TakesAmong : ℕ → ℕ → Row → Option Item → Row → Type 0
TakesAmong from to old (Some item) new =
    (from ≤ item.source) × (item.source < to)
    × ChangesAt item.source old new (λ e d. Takes e item.what d)
    × EachAmong from item.source old (λ e. IsDrained e.seen)
TakesAmong from to old None new = (new ≡ old) × EachAmong from to old (λ e. IsDrained e.seen)

-- the queues of the first `sources` places are drained as far as their ends know
abbrev pub AreDrained : ℕ → Row → Type 0
AreDrained sources row = EachAmong 0 sources row (λ e. IsDrained e.seen)

-- The sources are tried round robin from `turn`. Some: the item is taken, and all queues tried
-- before are drained as far as their ends know. None: nothing is taken, and all queues are drained
-- as far as their ends know. The ends of a desk don't know the items put, so for a desk TakesInTurn
-- says no more than TakesOne.
abbrev pub TakesInTurn : ℕ → ℕ → Row → Option Item → Row → Type 0
TakesInTurn turn sources old (Some item) new =
    TakesAmong turn sources old (Some item) new
    ⊎ (EachAmong turn sources old (λ e. IsDrained e.seen) × TakesAmong 0 turn old (Some item) new)
TakesInTurn turn sources old None new = (new ≡ old) × AreDrained sources old

-- Some: the item is taken at the place of its source, one of the first `sources` places; None:
-- nothing changes
abbrev pub TakesOne : ℕ → Row → Option Item → Row → Type 0
TakesOne sources old (Some item) new =
    (item.source < sources) × ChangesAt item.source old new (λ e d. Takes e item.what d)
TakesOne sources old None new = new ≡ old

-- the end at the place is joined with the other end of its queue
abbrev pub JoinsAt : ℕ → EndView What → Row → Row → Type 0
JoinsAt at other old new = ChangesAt at old new (λ e d. Joins e other d)
