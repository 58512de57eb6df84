-- SPDX-License-Identifier: MIT OR Apache-2.0
use Rattle.std.proofs.Common.{refl, rules}
use Rattle.settings.specs.Parameters.{AreAllowed}
use Rattle.world.specs.Headline.Begins.{controlled}
use Rattle.world.proofs.world.World.new.Goals as goal

-- settings are allowed, whichever they are
pub returns-clause-begins : goal.returns-clause-begins
returns-clause-begins c =
    let allowed : AreAllowed c.args.settings = search rules in
    rw c.in_ok-new.ensures (controlled c.args.settings allowed)

pub returns-clause-made : goal.returns-clause-made
returns-clause-made c =
    let allowed : AreAllowed c.args.settings = search rules in
    rw c.in_ok-new.ensures (record { begins = controlled c.args.settings allowed; octets = tt; made = refl })
