-- SPDX-License-Identifier: MIT OR Apache-2.0
use Rattle.std.proofs.Common.{rules}
use Rattle.ruled_relay.proofs.Moves.{begins, forks}
use Rattle.ruled_relay.proofs.end.ends.Goals as goal

pub ruled-requires-clause-rule : goal.ruled-requires-clause-rule
ruled-requires-clause-rule g c = begins

pub another-putter-requires-clause-rule : goal.another-putter-requires-clause-rule
another-putter-requires-clause-rule g c = forks _ _ (search rules) (search rules)
