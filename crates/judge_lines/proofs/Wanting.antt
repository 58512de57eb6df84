-- SPDX-License-Identifier: MIT OR Apache-2.0
-- Lemmas: for which results an allocation may fail.
use Rattle.std.proofs.Common.{List, ℕ, None, Option, Some, inl, inr, refl}
use Rattle.std.specs.Option.{ok_or}
use Rattle.judge_lines.specs.Line.{MayWantMemory, body_in, octets_in}
use Rattle.judge_lines.specs.declared.fault.LineFault.TheVariants.{NotHexadecimal}

body_by : (octets : Option (List ℕ)) → MayWantMemory (ok_or octets NotHexadecimal)
body_by None = inr refl
body_by (Some octets) = inl refl

pub body_wants : (digits : List ℕ) → MayWantMemory (body_in digits)
body_wants digits = body_by (octets_in digits)
