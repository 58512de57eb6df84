-- SPDX-License-Identifier: MIT OR Apache-2.0
use Rattle.std.proofs.Common.{rules}
use Rattle.ruled_relay.proofs.Moves.{takes, learns_rest}
use Rattle.ruled_relay.proofs.end.End.take.Goals as goal

pub pop_as-requires-clause-rule : goal.pop_as-requires-clause-rule
pop_as-requires-clause-rule g c = (takes _ _ (search rules), learns_rest _ _ (search rules))
