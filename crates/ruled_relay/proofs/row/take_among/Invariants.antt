-- SPDX-License-Identifier: MIT OR Apache-2.0
use Rattle.std.proofs.Common.{◌≡◌}
use Rattle.ruled_relay.specs.Row.{EachAmong}
use Rattle.ruled_relay.specs.Ends.{IsDrained}
use Rattle.ruled_relay.proofs.row.take_among.Given as goal

abbrev pub invariant-loop-source : goal.invariant-loop-source
invariant-loop-source g l = (l.ends.items ≡ l.fn.ends.items) × EachAmong l.fn.from l.source l.fn.ends.items (λ e. IsDrained e.seen)
