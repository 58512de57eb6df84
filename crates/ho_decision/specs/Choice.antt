-- SPDX-License-Identifier: MIT OR Apache-2.0
-- The choice that the code makes cell by cell.
use Rattle.std.specs.Prelude.{ℕ, ◌+◌, nat_le, if◌then◌else◌}
use Rattle.ho_decision.specs.declared.decision.Decision.TheVariants.{Move}
use Rattle.ho_decision.specs.declared.decision.Choice.{Choice}

-- The choice after a further cell is offered. The cell is chosen if its level is at least `wanted`;
-- after that, a further cell is chosen only if its level is greater.
abbrev pub after_offer : Choice → ℕ → ℕ → Choice
after_offer choice number level =
    if nat_le choice.wanted level
    then (record { decision = Move number; wanted = level + 1 })
    else choice
