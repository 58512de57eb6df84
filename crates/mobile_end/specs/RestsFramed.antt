-- SPDX-License-Identifier: MIT OR Apache-2.0
-- The mobile once the frame that `frame` lends is no longer borrowed.
use Rattle.std.specs.Prelude.{◌≡◌}
use Rattle.std.specs.Borrow.{MutBor, Fml}
use Rattle.std.specs.Io.BufRead.{Rests}
use Rattle.dtap_codec.specs.declared.sapi.Sapi.{Sapi}
use Rattle.mobile_end.specs.MobileState.{MobileState}
use Rattle.mobile_end.specs.Mobile.{after_frame}
use Rattle.mobile_end.specs.contracts.mobile_end.MobileEnd.{the_row}

-- when the borrow ends, the mobile is as after `frame`: the station has taken the frame, if any
abbrev pub RestsFramed : MutBor MobileState → Sapi → Fml
RestsFramed mobile sapi = Rests the_row mobile (λ new. new ≡ after_frame mobile.now sapi)
