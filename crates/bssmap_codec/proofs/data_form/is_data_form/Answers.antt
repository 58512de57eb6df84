-- SPDX-License-Identifier: MIT OR Apache-2.0
use Rattle.std.proofs.Common.{sym, ◌∙◌}
use Rattle.std.proofs.lemmas.Bool.{eqb-true, eq-eqb}
use Rattle.bssmap_codec.proofs.Sccps.{is_form_type, octet_is}
use Rattle.bssmap_codec.proofs.data_form.is_data_form.Goals as goal

pub returns : goal.returns
returns c = (λ t. is_form_type _ (eqb-true _ _ t ∙ c.octet.ensures), λ is. eq-eqb _ _ (octet_is _ _ is ∙ sym c.octet.ensures))
