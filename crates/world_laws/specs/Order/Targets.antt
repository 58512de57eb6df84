-- SPDX-License-Identifier: MIT OR Apache-2.0
-- In each run, the target of a connection's change of channel brings no layer 3 message of SAPI 0
-- before the mobile is commanded there, and COMPLETE as the first such message from then on. Honest
-- stations thus also keep this order.
use Rattle.std.specs.Prelude.{◌≡◌, ℕ, true, Option, Some, List}
use Rattle.world_laws.specs.Prelude.{SWITCH_LINK, Live, Connection, AreAllowed, Parameters, Event}
use Rattle.world_laws.specs.Prelude.{Actors, is_up}
use Rattle.world_laws.specs.Prelude.{modulus_in, new_actors}
use Rattle.world_laws.specs.Runs.{world}
use Rattle.conn_rules.specs.declared.state.Stage.{Stage}
use Rattle.world_laws.specs.AccountedFor.{IsOpenAndLinedUp}
use Rattle.world_laws.specs.OthersFrame.{IsHad}
use Rattle.world_laws.specs.Targets.Fresh.{IsFreshIn}
use Rattle.world_laws.specs.Order.OctetEvents.{AreOctetEvents}
use Rattle.world_laws.specs.Order.Openers.{first_served}

-- The connection lives with the mobile that it first served, and the target of its change of
-- channel is fresh.
pub record IsServed (m : ℕ) (w : Actors) (opener : Option ℕ) (s : Connection) : Type 0 where
  pub mobile : ℕ
  pub opened : opener ≡ Some mobile
  pub lined_up : IsOpenAndLinedUp m w mobile s
  pub fresh : IsFreshIn w lined_up.lined.one s.state

-- Whatever happened, while the link of the switch is up, each connection that the switch confirmed
-- lives with a fresh target (`IsServed`). Assumes: allowed settings; events carry octets.
abbrev pub TargetsAreFresh : Parameters → List Event → Type 0
TargetsAreFresh settings events =
    (s : Connection) (reference : ℕ) (stage : Stage) → AreAllowed settings → AreOctetEvents events
    → is_up (world settings events) SWITCH_LINK ≡ true
    → IsHad (world settings events) s → s.state ≡ Live reference stage
    → IsServed (modulus_in settings) (world settings events)
    (first_served (new_actors settings) events s.number) s
