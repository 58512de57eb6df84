-- SPDX-License-Identifier: MIT OR Apache-2.0
-- The link once the message that `reach` lends is no longer borrowed.
use Rattle.std.specs.Prelude.{◌≡◌}
use Rattle.std.specs.Borrow.{MutBor, Fml}
use Rattle.std.specs.Io.BufRead.{Rests}
use Rattle.link_model.specs.declared.air_link.Air.{Air}
use Rattle.link_model.specs.contracts.air_link.AirLink.{the_row}
use Rattle.link_model.specs.AirLink.{after_reach}

-- when the borrow ends, the link is as after `reach`: the station has taken the message, if any
abbrev pub RestsAfterReach : MutBor Air → Fml
RestsAfterReach link = Rests the_row link (λ new. new ≡ after_reach link.now)
