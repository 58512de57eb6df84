-- SPDX-License-Identifier: MIT OR Apache-2.0
-- A mobile sends its initial message once.
use Rattle.std.specs.Prelude.{◌≡◌, ℕ, List}
use Rattle.world_laws.specs.Prelude.{Connection, Parameters, Event, actors_after, modulus_in}
use Rattle.world_laws.specs.Runs.{world}
use Rattle.world_laws.specs.AccountedFor.{HasOpened, IsOpenAndLinedUp, TargetIsFresh}
use Rattle.world_laws.specs.OthersFrame.{IsHad}
use Rattle.world_laws.specs.Seated.{IsAlone}
use Rattle.world_laws.specs.KeptLineUps.{AreLinedUp}

-- Whatever happened before, no initial message of a connection that lives is on its way after an
-- event. Assumes: no other mobile is on the connection's channels; after the event the connection
-- is still open and lined up, and its target is fresh.
abbrev pub OpenedRemainOpened : Parameters → List Event → Event → Type 0
OpenedRemainOpened settings events event =
    (mobile : ℕ) (s next : Connection)
    → IsOpenAndLinedUp (modulus_in settings) (world settings events) mobile s
    → IsAlone (world settings events) mobile s
    → next.number ≡ s.number → IsHad (actors_after (world settings events) event) next
    → TargetIsFresh (actors_after (world settings events) event) next
    → (lined : AreLinedUp (modulus_in settings)
    (actors_after (world settings events) event) mobile next)
    → HasOpened (actors_after (world settings events) event) lined.one next
