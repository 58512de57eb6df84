-- SPDX-License-Identifier: MIT OR Apache-2.0
use Rattle.std.proofs.Common.{arith}
use Rattle.rsl_codec.proofs.AnswersInOrder.{begins_so}
use Rattle.rsl_codec.proofs.measured.read_measurement.Goals.{in_default-via-then-octets-lt2, in_default-via-in-len2-up+else-is_result}
use Rattle.rsl_codec.proofs.measured.read_measurement.Goals as goal

pub returns-in_default-clause-answers : goal.returns-in_default-clause-answers
returns-in_default-clause-answers c = (
  λ t. absurd cc,
  λ is.
      let b = begins_so _ _ (λ i. omega (arith, c.type_inv.octets i)) is in
      elim c.in_default.branch [
        | in_default-via-then-octets-lt2 w ↦ absurd (grind (arith, b.long))
        | in_default-via-in-len2-up+else-is_result w ↦ w.if-is_result.ensures.1 b.names
      ],
)
