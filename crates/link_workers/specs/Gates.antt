-- SPDX-License-Identifier: MIT OR Apache-2.0
-- The items that a gate let through.
use Rattle.std.specs.Prelude.{◌≡◌, ℕ, ◌+◌, List, [], ◌∷◌, ◌++◌, length, Option, Some, None}
use Rattle.ruled_relay.specs.declared.item.What.{What}
use Rattle.ruled_relay.specs.declared.item.What.TheVariants.{Down}
use Rattle.ruled_relay.specs.Inbox.{PassView}
use Rattle.link_workers.specs.declared.fault.IoFault.{IoFault}
use Rattle.link_workers.specs.declared.fault.IoFault.TheVariants.{GateShut}

-- If the gate still counts the items that it lets through, it let `items` more through. A gate may
-- stop counting, but can't start.
abbrev pub HasLet : Option ℕ → Option ℕ → ℕ → Type 0
HasLet before None items = Unit {0}
HasLet None (Some now) items = ⊥
HasLet (Some before) (Some now) items = now ≡ before + items

-- The pass put further items, and the gate let each of these items through.
abbrev pub LetsEach : Option ℕ → Option ℕ → PassView → PassView → Type 0
LetsEach before now old new = (items : List What) × (new.put ≡ old.put ++ items)
    × HasLet before now (length items)

-- The gate let one item, `Down`, through. If the gate remained shut, it let no item through.
abbrev pub LetsDown : Option IoFault → Option ℕ → Option ℕ → Type 0
LetsDown (Some GateShut) before now = HasLet before now 0
LetsDown fault before now = HasLet before now 1

-- Over the whole run of a reader, the gate let each item through that was put. If the gate remained
-- shut, it let each item through except the last one, `Down`.
abbrev pub LetsAll : Option IoFault → Option ℕ → Option ℕ → PassView → PassView → Type 0
LetsAll (Some GateShut) before now old new = (items : List What)
    × (new.put ≡ old.put ++ (items ++ Down ∷ [])) × HasLet before now (length items)
LetsAll fault before now old new = LetsEach before now old new
