-- SPDX-License-Identifier: MIT OR Apache-2.0
use Rattle.std.proofs.Common.{sym, ◌∙◌, ap, Option}
use Rattle.std.specs.Result.{result_ok}
use Rattle.rsl_codec.specs.declared.rsl_type.RslType.{RslType}
use Rattle.rsl_codec.specs.RslReading.{rsl_reading_by}
use Rattle.rsl_codec.specs.RslType.{rsl_type}
use Rattle.world_ends.specs.Activations.{activated_by}
use Rattle.world_ends.proofs.Activating.{of_type, other_type}
use Rattle.world_ends.proofs.activations.activated_by_type.Goals as goal

pub returns-then-not-is_activation : goal.returns-then-not-is_activation
returns-then-not-is_activation c =
    sym (other_type (rsl_type c.args.discriminator c.args.octet) c.args.body.now (sym c.is_activation.ensures ∙ c.if-not-is_activation.true))

pub returns : goal.returns
returns c =
    c.activated_channel.ensures
    ∙ sym (ap (λ (o : Option RslType). activated_by (result_ok (rsl_reading_by o c.args.body.now))) (of_type (rsl_type c.args.discriminator c.args.octet) (sym c.is_activation.ensures ∙ c.if-not-is_activation.false)))
