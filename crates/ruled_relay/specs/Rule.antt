-- SPDX-License-Identifier: MIT OR Apache-2.0
-- The rule of a queue with a putting end and a taking end: the items put are the items taken,
-- followed by the items that the queue holds. The items that the queue holds don't exceed its
-- capacity.
use Rattle.std.specs.Prelude.{◌≡◌, ℕ, ◌≤◌, Bool, true, false, List, [], ◌∷◌, ◌++◌, length}
use mathlib.Core.Option.{some}
use lib.ListN.{get_elem?}
use Rattle.ruled_relay.specs.declared.rule.Known.{Known}
use Rattle.ruled_relay.specs.declared.rule.Seen.{Seen}

module _ {T : Type 0} where
  abbrev pub seen : Bool → Bool → List T → List T → Seen T
  seen puts takes put taken = record { puts = puts; takes = takes; put = put; taken = taken }

  -- the knowledge of the end that puts, of the end that takes, and of both joined
  abbrev pub putting : List T → Seen T
  putting put = seen true false put []

  abbrev pub taking : List T → Seen T
  taking taken = seen false true [] taken

  abbrev pub left_over : List T → List T → Seen T
  left_over put taken = seen true true put taken

  -- the knowledge of an end that was joined into another one
  abbrev pub spent_end : Seen T
  spent_end = seen false false [] []

  -- the knowledge of an end, with the capacity of the queue
  abbrev pub known : ℕ → Seen T → Known T
  known room v = record { seen = v; room = room }

  -- An end that may put is the only such end of the queue, and knows all items put. An end that may
  -- take is the only such end of the queue, and knows all items taken.
  abbrev pub Fits : ℕ → ℕ → List T → List T → ℕ → Seen T → Type 0
  Fits writer reader put taken at v =
      (v.puts ≡ true → (at ≡ writer) × (v.put ≡ put))
      × (v.takes ≡ true → (at ≡ reader) × (v.taken ≡ taken))

  -- if the end may put (and so knows the capacity), the items don't exceed the capacity
  abbrev pub IsWithin : Known T → List T → Type 0
  IsWithin v items = v.seen.puts ≡ true → length items ≤ v.room

  -- the rule, for the items that the queue holds and the knowledge of all ends
  abbrev pub Relayed : List T → List (Known T) → Type 0
  Relayed items ends =
      (writer : ℕ) × (reader : ℕ) × (put : List T) × (taken : List T) × (put ≡ taken ++ items)
      × ((at : ℕ) (v : Known T) → get_elem? ends at ≡ some v
      → Fits writer reader put taken at v.seen × IsWithin v items)

  -- the item becomes the last of the items put
  abbrev pub AddsLast : Seen T → T → Seen T → Type 0
  AddsLast v x w = w ≡ seen v.puts v.takes (v.put ++ x ∷ []) v.taken

  -- the items are the last of the items put
  abbrev pub EndsWith : Seen T → List T → Type 0
  EndsWith v items = (before : List T) × (v.put ≡ before ++ items)

  -- if the end may put, the items put are the items taken, followed by `items`
  abbrev pub IsFollowedBy : Seen T → List T → Type 0
  IsFollowedBy v items = v.puts ≡ true → v.put ≡ v.taken ++ items

  -- The item becomes the last of the items taken. If the end may put, the item is the next of the
  -- items put.
  abbrev pub TakesFirst : Seen T → T → Seen T → Type 0
  TakesFirst v x w =
      (w ≡ seen v.puts v.takes v.put (v.taken ++ x ∷ []))
      × ((rest : List T) × IsFollowedBy v (x ∷ rest))
