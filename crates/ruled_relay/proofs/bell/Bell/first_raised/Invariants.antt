-- SPDX-License-Identifier: MIT OR Apache-2.0
use Rattle.std.proofs.Common.{◌*◌}
use Rattle.ruled_relay.specs.Among.{HasNoneFrom}
use Rattle.ruled_relay.proofs.bell.Bell.first_raised.Given as goal

-- none of the words before has one
abbrev pub invariant-loop-place : goal.invariant-loop-place
invariant-loop-place l = HasNoneFrom l.fn.from (l.place * 64) l.fn.others.words.items
