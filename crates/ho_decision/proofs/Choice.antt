-- SPDX-License-Identifier: MIT OR Apache-2.0
-- The choice among the first cells, and how one more cell changes it.
use Rattle.std.proofs.Common.{◌≡◌, ◌≢◌, ℕ, ◌+◌, ◌<◌, ◌≤◌, ◌⊎◌, Bool, true, false, cond, nat_le, List, refl, sym, subst, inl, inr, arith}
use Rattle.std.proofs.lemmas.Bool.{cases_lt, leb-true, leb-false}
use Rattle.dtap_codec.specs.declared.report.Report.{Report}
use Rattle.ho_decision.specs.declared.decision.Decision.{Decision}
use Rattle.ho_decision.specs.declared.decision.Decision.TheVariants.{Stay, Move}
use Rattle.ho_decision.specs.declared.decision.Choice.{Choice}
use Rattle.ho_decision.specs.Choice.{after_offer}
use Rattle.ho_decision.specs.Settings.{Settings}
use Rattle.ho_decision.specs.Decision.{IsOther, IsChosen, NoneReaches, Chooses, average_at, bound}

-- the choice among the first so many cells, and what the average of a further one has to reach
abbrev pub Wants : Settings → List Report → ℕ → Decision → ℕ → Type 0
Wants s reports many Stay wanted = NoneReaches s reports many × (wanted ≡ bound s reports)
Wants s reports many (Move number) wanted =
    (place : ℕ) × (number ≡ place + 1) × IsChosen s reports many place × (wanted ≡ average_at s reports place + 1)

pub chosen : (s : Settings) (reports : List Report) (many : ℕ) (d : Decision) (wanted : ℕ) →
    Wants s reports many d wanted →
    Chooses s reports many d
chosen s reports many Stay wanted h = h.0
chosen s reports many (Move number) wanted h = (h.0, h.1, h.2)

-- a place among one more is among the others or the last
before_or_last : (s : Settings) (many place : ℕ) → IsOther s (many + 1) place → IsOther s many place ⊎ (place ≡ many)
before_or_last s many place h =
    elim (cases_lt place many) [
      | inl below ↦ inl (record { there = below; other = h.other })
      | inr above ↦ inr (omega (arith, h.there))
    ]

more : (s : Settings) (many place : ℕ) → IsOther s many place → IsOther s (many + 1) place
more s many place h = record { there = omega (arith, h.there); other = h.other }

-- a further cell that isn't chosen: it is the serving one, or its average is too low
pub wants_keeps : (s : Settings) (reports : List Report) (many : ℕ) (d : Decision) (wanted : ℕ) →
    (many + 1 ≢ s.serving → average_at s reports many < wanted) →
    Wants s reports many d wanted →
    Wants s reports (many + 1) d wanted
wants_keeps s reports many Stay wanted low h = (
  λ place other.
      elim (before_or_last s many place other) [
        | inl before ↦ h.0 place before
        | inr last ↦
            let P : ℕ → Type 0 = λ n. average_at s reports n < bound s reports in
            let Q : ℕ → Type 0 = λ n. n + 1 ≢ s.serving in
            let here : average_at s reports many < bound s reports = omega (arith, low (subst Q last other.other), h.1) in
            subst P (sym last) here
      ],
  h.1,
)
wants_keeps s reports many (Move number) wanted low h = (
  h.0,
  h.1,
  record {
    cell = more s many h.0 h.2.cell;
    reaches = h.2.reaches;
    greatest = λ j other.
        elim (before_or_last s many j other) [
          | inl before ↦ h.2.greatest j before
          | inr last ↦
              let P : ℕ → Type 0 = λ n. average_at s reports n ≤ average_at s reports h.0 in
              let Q : ℕ → Type 0 = λ n. n + 1 ≢ s.serving in
              let here : average_at s reports many ≤ average_at s reports h.0 = omega (arith, low (subst Q last other.other), h.3) in
              subst P (sym last) here
        ];
    first = λ j other before.
        h.2.first j (record { there = omega (arith, before, h.2.cell.there); other = other.other }) before;
  },
  h.3,
)

-- every other cell before is below what is wanted
below_wanted : (s : Settings) (reports : List Report) (many : ℕ) (d : Decision) (wanted : ℕ) →
    Wants s reports many d wanted →
    (j : ℕ) →
    IsOther s many j →
    average_at s reports j < wanted
below_wanted s reports many Stay wanted h j other = omega (arith, h.0 j other, h.1)
below_wanted s reports many (Move number) wanted h j other = omega (arith, h.2.greatest j other, h.3)

bound_wanted : (s : Settings) (reports : List Report) (many : ℕ) (d : Decision) (wanted : ℕ) →
    Wants s reports many d wanted →
    bound s reports ≤ wanted
bound_wanted s reports many Stay wanted h = omega (arith, h.1)
bound_wanted s reports many (Move number) wanted h = omega (arith, h.2.reaches, h.3)

-- a further cell that is chosen
pub wants_takes : (s : Settings) (reports : List Report) (many : ℕ) (d : Decision) (wanted number next : ℕ) →
    many + 1 ≢ s.serving →
    wanted ≤ average_at s reports many →
    number ≡ many + 1 →
    next ≡ average_at s reports many + 1 →
    Wants s reports many d wanted →
    Wants s reports (many + 1) (Move number) next
wants_takes s reports many d wanted number next other high is next_is h = (
  many,
  is,
  record {
    cell = record { there = omega arith; other = other };
    reaches = omega (arith, bound_wanted s reports many d wanted h);
    greatest = λ j o.
        elim (before_or_last s many j o) [
          | inl before ↦ omega (arith, below_wanted s reports many d wanted h j before)
          | inr last ↦
              let P : ℕ → Type 0 = λ n. average_at s reports n ≤ average_at s reports many in
              let here : average_at s reports many ≤ average_at s reports many = omega arith in
              subst P (sym last) here
        ];
    first = λ j o before.
        omega (arith, below_wanted s reports many d wanted h j (record { there = before; other = o.other }));
  },
  next_is,
)

offered_by : (s : Settings) (reports : List Report) (many number level : ℕ) (choice : Choice) (b : Bool) →
    many + 1 ≢ s.serving →
    number ≡ many + 1 →
    level ≡ average_at s reports many →
    Wants s reports many choice.decision choice.wanted →
    nat_le choice.wanted level ≡ b →
    Wants s reports (many + 1) (cond b (record { decision = Move number; wanted = level + 1 }) choice).decision (cond b (record { decision = Move number; wanted = level + 1 }) choice).wanted
offered_by s reports many number level choice true other is level_is h e =
    wants_takes s reports many choice.decision choice.wanted number (level + 1) other (omega (arith, leb-true choice.wanted level e, level_is)) is (omega (arith, level_is)) h
offered_by s reports many number level choice false other is level_is h e =
    wants_keeps s reports many choice.decision choice.wanted (λ _. omega (arith, leb-false choice.wanted level e, level_is)) h

-- a further cell, offered to the choice
pub wants_offered : (s : Settings) (reports : List Report) (many number level : ℕ) (choice : Choice) →
    many + 1 ≢ s.serving →
    number ≡ many + 1 →
    level ≡ average_at s reports many →
    Wants s reports many choice.decision choice.wanted →
    Wants s reports (many + 1) (after_offer choice number level).decision (after_offer choice number level).wanted
wants_offered s reports many number level choice other is level_is h =
    offered_by s reports many number level choice (nat_le choice.wanted level) other is level_is h refl
