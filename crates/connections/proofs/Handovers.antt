-- SPDX-License-Identifier: MIT OR Apache-2.0
-- One more cell gets its settings of the handover decision.
use Rattle.std.proofs.Common.{◌≡◌, ℕ, ◌+◌, List, [], ◌∷◌, ◌++◌, length, slice_get, Some, sym, subst, ap, ◌∙◌, inl, inr, arith, length-append}
use Rattle.std.proofs.lemmas.Bool.{cases_lt}
use Rattle.ho_decision.specs.Settings.{Settings as HandoverSettings}
use Rattle.octets.proofs.ListLemmas.{slice_get-append, slice_get-append_seam}
use Rattle.settings.specs.Parameters.{Parameters, handover_settings_of}
use Rattle.connections.specs.Entries.{AreOfFirst}

pub one_more : (p : Parameters) (handovers : List HandoverSettings) (next : HandoverSettings) (place : ℕ) → length handovers ≡ place → next ≡ handover_settings_of p (place + 1) →
    AreOfFirst p handovers → AreOfFirst p (handovers ++ next ∷ [])
one_more p handovers next count counts is first = λ place within. elim (cases_lt place (length handovers)) [
  | inl below ↦ slice_get-append handovers (next ∷ []) place (handover_settings_of p (place + 1)) (first place below)
  | inr above ↦
      let last : place ≡ length handovers = omega (arith, within, length-append handovers (next ∷ [])) in
      subst (λ (k : ℕ). slice_get (handovers ++ next ∷ []) k ≡ Some (handover_settings_of p (k + 1))) (sym last)
      (slice_get-append_seam handovers next [] ∙ ap (λ s. Some s) (is ∙ ap (λ (k : ℕ). handover_settings_of p (k + 1)) (sym counts)))
]
