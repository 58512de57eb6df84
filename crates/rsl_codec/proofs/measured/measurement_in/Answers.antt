-- SPDX-License-Identifier: MIT OR Apache-2.0
use Rattle.std.proofs.Common.{refl, sym, ◌∙◌}
use Rattle.rsl_codec.proofs.WrittenOrder.{reads_in_order}
use Rattle.rsl_codec.proofs.AnswersInOrder.{is_in_order, lawful_in_order}
use Rattle.rsl_codec.proofs.measured.measurement_in.Goals.{in_default-via-in-Ok+else-has_room, in_default-via-in_default}
use Rattle.rsl_codec.proofs.measured.measurement_in.Goals as goal

pub returns-in-Ok-clause-reads : goal.returns-in-Ok-clause-reads
returns-in-Ok-clause-reads c = reads_in_order _ _ _ _ _ _ _ _ c.in_ok-values.ensures.walked (sym c.in-Ok.ensures) (c.if-has_room.ensures.0 refl)

pub returns-in-Ok-clause-answers : goal.returns-in-Ok-clause-answers
returns-in-Ok-clause-answers c =
    (λ t. is_in_order _ _ _ _ _ _ _ _ c.in_ok-values.ensures.walked (sym c.in-Ok.ensures) (c.if-has_room.ensures.0 refl), λ is. refl)

pub returns-in_default-clause-answers : goal.returns-in_default-clause-answers
returns-in_default-clause-answers c = (
  λ t. absurd cc,
  λ is.
      let lawful = lawful_in_order _ _ _ _ _ _ _ c.in_ok-values.ensures.walked is in
      elim c.in_default.branch [
        | in_default-via-in-Ok+else-has_room w ↦ w.if-has_room.ensures.1 lawful.l3_is
        | in_default-via-in_default w ↦ absurd (w.in_default.not-Ok lawful.channel (c.read.ensures ∙ lawful.channel_is))
      ],
)
