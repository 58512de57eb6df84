-- SPDX-License-Identifier: MIT OR Apache-2.0
use Rattle.std.proofs.Common.{rules}
use Rattle.ruled_relay.proofs.Moves.{puts, learns_end}
use Rattle.ruled_relay.proofs.end.End.put.Goals as goal

pub push_as-requires-clause-rule : goal.push_as-requires-clause-rule
push_as-requires-clause-rule g c = (puts _ _ _ _ (search rules) (search rules), learns_end _ _ (search rules))
