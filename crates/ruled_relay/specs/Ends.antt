-- SPDX-License-Identifier: MIT OR Apache-2.0
-- What contracts see of an end of a queue, and what the calls of an end do.
use Rattle.std.specs.Prelude.{◌≡◌, ℕ, ◌≤◌, true, List, [], ◌++◌, length}
use Rattle.atomic_table.specs.Seated.{TableId}
use Rattle.ruled_relay.specs.declared.rule.Seen.{Seen}
use Rattle.ruled_relay.specs.Rule.{putting, taking, left_over, AddsLast, EndsWith, TakesFirst}

-- An end of a queue: the identity of the queue, its capacity, and what the end knows.
pub record EndView (T : Type 0) : Type 0 where
  pub queue : TableId
  pub capacity : ℕ
  pub seen : Seen T

module _ {T : Type 0} where
  -- the same end with this knowledge
  abbrev pub knowing : EndView T → Seen T → EndView T
  knowing e v = record { queue = e.queue; capacity = e.capacity; seen = v }

  -- the taking end and the putting end of a new queue
  abbrev pub AreNew : ℕ → EndView T → EndView T → Type 0
  AreNew capacity taker putter =
      (taker ≡ record { queue = taker.queue; capacity = capacity; seen = taking [] })
      × (putter ≡ record { queue = taker.queue; capacity = capacity; seen = putting [] })

  -- the item is put: it becomes the last of the items put
  abbrev pub Puts : EndView T → T → EndView T → Type 0
  Puts old x new =
      (new.queue ≡ old.queue) × (new.capacity ≡ old.capacity) × AddsLast old.seen x new.seen

  -- the queue was full, and held the last items that this end put
  abbrev pub WasFull : ℕ → Seen T → Type 0
  WasFull capacity v = (items : List T) × (length items ≡ capacity) × EndsWith v items

  -- the item is taken: it becomes the last of the items taken
  abbrev pub Takes : EndView T → T → EndView T → Type 0
  Takes old x new =
      (new.queue ≡ old.queue) × (new.capacity ≡ old.capacity) × TakesFirst old.seen x new.seen

  -- if the end may put (and so knows the items put), all items put were taken
  abbrev pub IsDrained : Seen T → Type 0
  IsDrained v = v.puts ≡ true → v.put ≡ v.taken

  -- the two ends are joined: the items put are the items taken, followed by further items, which
  -- don't exceed the capacity of the queue
  abbrev pub Joins : EndView T → EndView T → EndView T → Type 0
  Joins taker putter both =
      (both ≡ knowing taker (left_over putter.seen.put taker.seen.taken))
      × ((rest : List T) × (putter.seen.put ≡ taker.seen.taken ++ rest)
      × (length rest ≤ putter.capacity))
