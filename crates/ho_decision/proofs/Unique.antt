-- SPDX-License-Identifier: MIT OR Apache-2.0
-- The definitions fix one decision.
use Rattle.std.proofs.Common.{◌≡◌, ◌≢◌, ℕ, ◌+◌, ◌<◌, Bool, true, false, List, [], ◌∷◌, length, refl, sym, ap, ◌∙◌, inl, inr, arith}
use Rattle.std.proofs.lemmas.Bool.{cases_lt}
use Rattle.dtap_codec.specs.declared.report.Report.{Report}
use Rattle.ho_decision.specs.declared.decision.Decision.{Decision}
use Rattle.ho_decision.specs.declared.decision.Decision.TheVariants.{Stay, Move}
use Rattle.ho_decision.specs.Settings.{Settings}
use Rattle.ho_decision.specs.Decision.{IsChosen, is_due, Chooses, Decides}

-- of two cells that are chosen neither is before the other
not_before : (s : Settings) (reports : List Report) (many i j : ℕ) → IsChosen s reports many i → IsChosen s reports many j → i < j → ⊥
not_before s reports many i j h k before =
    omega (arith, k.first i h.cell before, h.greatest j k.cell)

one_choice : (s : Settings) (reports : List Report) (many : ℕ) (d e : Decision) →
    Chooses s reports many d →
    Chooses s reports many e →
    d ≡ e
one_choice s reports many Stay Stay h k = refl
one_choice s reports many Stay (Move to) h k = absurd (omega (arith, h k.0 k.2.cell, k.2.reaches))
one_choice s reports many (Move to) Stay h k = absurd (omega (arith, k h.0 h.2.cell, h.2.reaches))
one_choice s reports many (Move to) (Move there) h k =
    let same : h.0 ≡ k.0 =
    elim (cases_lt h.0 k.0) [
      | inl before ↦ absurd (not_before s reports many h.0 k.0 h.2 k.2 before)
      | inr after ↦
          elim (cases_lt k.0 h.0) [
            | inl before ↦ absurd (not_before s reports many k.0 h.0 k.2 h.2 before)
            | inr equal ↦ omega arith
          ]
    ] in
    ap (λ n. Move n) (h.1 ∙ ap (λ n. n + 1) same ∙ sym k.1)

by_due : (b : Bool) (s : Settings) (reports : List Report) (number : ℕ) (d e : Decision) →
    reports ≢ [] →
    is_due s reports number ≡ b →
    Decides s reports number d →
    Decides s reports number e →
    d ≡ e
by_due false s reports number d e some due h k = h.not_due due ∙ sym (k.not_due due)
by_due true s reports number d e some due h k = one_choice s reports (length s.cells) d e (h.due some due) (k.due some due)

pub one_decision : (s : Settings) (reports : List Report) (number : ℕ) (d e : Decision) →
    Decides s reports number d →
    Decides s reports number e →
    d ≡ e
one_decision s [] number d e h k = h.none refl ∙ sym (k.none refl)
one_decision s (r ∷ rs) number d e h k =
    by_due (is_due s (r ∷ rs) number) s (r ∷ rs) number d e (λ nil. absurd cc) refl h k
