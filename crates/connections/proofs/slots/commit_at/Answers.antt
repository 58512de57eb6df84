-- SPDX-License-Identifier: MIT OR Apache-2.0
use Rattle.std.proofs.Common.{sym}
use Rattle.connections.proofs.slots.commit_at.Goals as goal

pub commit-requires-clause-kept : goal.commit-requires-clause-kept
commit-requires-clause-kept c = c.requires.kept _ (sym c.in-Some.ensures.value)
