-- SPDX-License-Identifier: MIT OR Apache-2.0
use Rattle.std.proofs.Common.{refl, ap, sym, ◌∙◌}
use Rattle.std.proofs.lemmas.Result.{err_from_is_err_and}
use Rattle.ipa_framing.specs.Framer.{FramerState}
use Rattle.ipa_framing.specs.Front.{frame}
use Rattle.ipa_framing.proofs.framer.Framer.next.Goals as goal

pub returns-in_err-copy-in-Ok-Some : goal.returns-in_err-copy-in-Ok-Some
returns-in_err-copy-in-Ok-Some c =
    let p = err_from_is_err_and c.from_residual.result c.from_residual.ensures.1 in
    let is = rw c.in-Ok-Some.field-0-is at c.in-Ok-Some.ensures.is in
    let octets = sym (ap (λ (h : FramerState). h.octets) c.self.view_is) ∙ sym c.as_slice.ensures ∙ is.1 in
    rw (p.1, p.2) ((frame c.in-Ok-Some.frame.stream c.in-Ok-Some.frame.body.now, c.in-Ok-Some.frame.rest.now, (is.0, octets)), refl)
