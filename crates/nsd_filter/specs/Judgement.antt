-- SPDX-License-Identifier: MIT OR Apache-2.0
-- How the network judges a send sequence number, for any modulus m (TS 24.007 clause 11.2.3.2.3).
use Rattle.std.specs.Prelude.{ℕ, ◌+◌, ◌-◌, ◌%◌, ◌==◌, Option, Some, None}
use Rattle.std.specs.Prelude.{if◌then◌else◌}
use Rattle.nsd_filter.specs.declared.verdict.Verdict.{Verdict}
use Rattle.nsd_filter.specs.declared.verdict.Verdict.TheVariants.{Accept, Duplicate, Gap}

-- The progress of a flow is the count of accepted messages, or None after a gap. Modulo m, the
-- progress itself is accepted, the number before it is a duplicate, and any other number is a gap.
-- After a gap every number is a gap.
abbrev pub judgement : ℕ → Option ℕ → ℕ → Verdict
judgement m None number = Gap
judgement m (Some accepted) number =
    if number == accepted % m then Accept
    else (if number == (accepted + (m - 1)) % m then Duplicate else Gap)

-- the progress of the flow after a message with this verdict
abbrev pub progress_by : Verdict → Option ℕ → Option ℕ
progress_by Gap progress = None
progress_by Duplicate progress = progress
progress_by Accept None = None
progress_by Accept (Some accepted) = Some (accepted + 1)

-- the progress of the flow after a message with this number
abbrev pub progress_after : ℕ → Option ℕ → ℕ → Option ℕ
progress_after m progress number = progress_by (judgement m progress number) progress
