-- SPDX-License-Identifier: MIT OR Apache-2.0
use Rattle.std.proofs.Common.{rules}
use Rattle.ruled_relay.proofs.Moves.{learns_end}
use Rattle.ruled_relay.proofs.end.End.waiting.Goals as goal

pub len_as-requires-clause-rule : goal.len_as-requires-clause-rule
len_as-requires-clause-rule g c = learns_end _ _ (search rules)
