-- SPDX-License-Identifier: MIT OR Apache-2.0
-- The messages that the switch accepts of a connection that is lined up.
use Rattle.std.specs.Prelude.{ℕ, ◌≤◌}
use Rattle.world_laws.specs.Prelude.{Connection, Actors}
use Rattle.world_laws.specs.LineUp.Order.{IsInOrder, arriving}
use Rattle.world_laws.specs.LineUps.{taken_of, line_up}
use Rattle.world_laws.specs.KeptLineUps.{AreLinedUp}

-- The switch accepted the first messages that the mobile's upper layers sent, once and in order,
-- and judged no gap. Assumes: a modulus of 2 or more.
abbrev pub LineUpsAreInOrder : ℕ → Actors → ℕ → Connection → Type 0
LineUpsAreInOrder m w mobile s =
    2 ≤ m → (lined : AreLinedUp m w mobile s)
    → IsInOrder m lined.one.end.sent (taken_of w s.number) (arriving (line_up w lined.one s))
