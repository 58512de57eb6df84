-- SPDX-License-Identifier: MIT OR Apache-2.0
-- The data link once the message that `lend` lends is no longer borrowed.
use Rattle.std.specs.Prelude.{◌≡◌}
use Rattle.std.specs.Borrow.{MutBor, Fml}
use Rattle.std.specs.Io.BufRead.{Rests}
use Rattle.mobile_end.specs.DataLinkState.{DataLinkState}
use Rattle.mobile_end.specs.DataLink.{after_lending}
use Rattle.mobile_end.specs.contracts.data_link.DataLink.{the_row}

-- when the borrow ends, the station has taken the message, if any
abbrev pub RestsLent : MutBor DataLinkState → Fml
RestsLent link = Rests the_row link (λ new. new ≡ after_lending link.now)
