-- SPDX-License-Identifier: MIT OR Apache-2.0
use Rattle.controller.proofs.Prelude.{rules}
use Rattle.std.proofs.lemmas.Fn.{filter_same}
use Rattle.controller.proofs.views.dtap_of.Goals as goal

pub returns : goal.returns
returns c = filter_same _ _ _ (λ x b f' k. search rules) _ _ c.retain.ensures.filtered
