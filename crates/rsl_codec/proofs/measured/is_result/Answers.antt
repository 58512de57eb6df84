-- SPDX-License-Identifier: MIT OR Apache-2.0
use Rattle.std.proofs.Common.{sym, ◌∙◌, arith}
use Rattle.std.proofs.lemmas.Bool.{eqb-true, eq-eqb}
use Rattle.rsl_codec.proofs.WrittenOrder.{type_is}
use Rattle.rsl_codec.proofs.AnswersInOrder.{octets_are}
use Rattle.rsl_codec.proofs.measured.is_result.Goals as goal

pub returns-then-discriminator : goal.returns-then-discriminator
returns-then-discriminator c =
    (λ t. type_is _ _ (omega arith) (eqb-true _ _ t ∙ c.octet.ensures), λ is. eq-eqb _ _ ((octets_are _ _ is).1 ∙ sym c.octet.ensures))

pub returns-else-discriminator : goal.returns-else-discriminator
returns-else-discriminator c =
    (λ t. absurd (c.if-discriminator.false (eqb-true _ _ t)), λ is. absurd (c.if-discriminator.false (octets_are _ _ is).0))
