-- SPDX-License-Identifier: MIT OR Apache-2.0
use Rattle.std.proofs.Common.{arith}
use Rattle.ruled_relay.proofs.Signs.{has_none_set, is_first_set}
use Rattle.ruled_relay.proofs.bell.first_set.Goals as goal

pub returns-then-rest-eq0 : goal.returns-then-rest-eq0
returns-then-rest-eq0 c = has_none_set c.args.word c.args.from c.if-rest-eq0.true

pub returns : goal.returns
returns c = is_first_set c.args.word c.args.from c.ranges.word.fits (omega (arith, c.if-rest-eq0.false))
