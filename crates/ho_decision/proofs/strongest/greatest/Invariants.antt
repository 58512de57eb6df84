-- SPDX-License-Identifier: MIT OR Apache-2.0
use Rattle.std.proofs.Common.{◌≤◌}
use Rattle.std.specs.List.{AllWithin}
use Rattle.ho_decision.proofs.strongest.greatest.Given as goal

-- none of the entries so far is stronger
abbrev pub invariant-loop-entry : goal.invariant-loop-entry
invariant-loop-entry l = AllWithin (λ n. n.rxlev ≤ l.level) l.entries 0 l.entry-index
