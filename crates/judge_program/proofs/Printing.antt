-- SPDX-License-Identifier: MIT OR Apache-2.0
-- Lemmas: how the verdict of a connection continues the output.
use Rattle.std.proofs.Common.{◌≡◌, ℕ, ◌+◌, ◌<◌, ◌≤◌, List, [], ◌∷◌, ◌++◌, get_or, length, take, Option, refl, sym, ap, subst, ◌∙◌}
use Rattle.std.specs.Prelude.{fold}
use Rattle.std.specs.Io.KnownBytes.{Appends}
use Rattle.std.proofs.KnownBytes.{Appends-trans}
use Rattle.std.proofs.lemmas.List.{append-nil, take_all, take_more}
use Rattle.dtap_codec.specs.Number.{count_of}
use Rattle.judge_lines.specs.declared.line.Line.{Line}
use Rattle.judge_report.specs.declared.style.Style.{Style}
use Rattle.judge_report.specs.declared.sums.Sums.{Sums}
use Rattle.judge_report.specs.JudgedText.{judged_text}
use Rattle.judge_report.specs.Sums.{end_text, with_one}
use Rattle.judge_orders.specs.declared.judged.Judged.{Judged}
use Rattle.judge_program.specs.Course.{after_line, ended_at}
use Rattle.judge_orders.specs.Left.{IsLeft}
use Rattle.judge_program.specs.Judged.{FinishesWith}
use Rattle.judge_program.specs.RunLaws.{printed_both, sums_both}
use Rattle.judge_program.specs.RunState.{TakesLine, VerdictsState, verdicts, with_ended}

pub printed_one : (style : Style) (sums now : Sums) (c : Judged) (old new : Option (List ℕ)) → now ≡ with_one sums c
    → Appends old new (judged_text (count_of style.modulus) style.form style.strictness now.printed c)
    → Appends old new (verdicts style sums (c ∷ []))
printed_one style sums now c old new is text =
    subst (Appends old new)
    (ap (λ (s : Sums). judged_text (count_of style.modulus) style.form style.strictness s.printed c) is
    ∙ sym (append-nil (judged_text (count_of style.modulus) style.form style.strictness (with_one sums c).printed c))) text

longer : (xs : List Judged) (n : ℕ) (c : Judged) → n < length xs → c ≡ get_or xs n c
    → take n xs ++ c ∷ [] ≡ take (n + 1) xs
longer xs n c less is = ap (λ (y : Judged). take n xs ++ y ∷ []) is ∙ sym (take_more xs n c less)

pub sums_more : (sums now next : Sums) (xs : List Judged) (n : ℕ) (c : Judged) → now ≡ fold with_one sums (take n xs)
    → n < length xs → c ≡ get_or xs n c → next ≡ with_one now c → next ≡ fold with_one sums (take (n + 1) xs)
sums_more sums now next xs n c so_far less is one =
    one ∙ ap (λ (s : Sums). with_one s c) so_far ∙ sym (sums_both sums (take n xs) (c ∷ []))
    ∙ ap (λ (ys : List Judged). fold with_one sums ys) (longer xs n c less is)

pub texts_more : (style : Style) (sums now next : Sums) (xs : List Judged) (n : ℕ) (c : Judged)
    (old mid new : Option (List ℕ)) → now ≡ fold with_one sums (take n xs) → Appends old mid (verdicts style sums (take n xs))
    → n < length xs → c ≡ get_or xs n c → next ≡ with_one now c
    → Appends mid new (judged_text (count_of style.modulus) style.form style.strictness next.printed c)
    → Appends old new (verdicts style sums (take (n + 1) xs))
texts_more style sums now next xs n c old mid new so_far some less is one text =
    subst (λ (ys : List Judged). Appends old new (verdicts style sums ys)) (longer xs n c less is)
    (printed_both style style sums now (take n xs) (c ∷ []) old mid new refl so_far some (printed_one style now next c mid new one text))

pub sums_all : (sums now : Sums) (xs : List Judged) (n : ℕ) → now ≡ fold with_one sums (take n xs) → length xs ≤ n
    → now ≡ fold with_one sums xs
sums_all sums now xs n so_far all = so_far ∙ ap (λ (ys : List Judged). fold with_one sums ys) (take_all n xs all)

pub texts_all : (style : Style) (sums : Sums) (xs : List Judged) (n : ℕ) (old new : Option (List ℕ))
    → Appends old new (verdicts style sums (take n xs)) → length xs ≤ n → Appends old new (verdicts style sums xs)
texts_all style sums xs n old new some all =
    subst (λ (ys : List Judged). Appends old new (verdicts style sums ys)) (take_all n xs all) some

-- a line was taken, by what became of its parts
pub takes_line : (line : Line) (old mid new : VerdictsState) (judged : List Judged) (before later : Option (List ℕ))
    → mid ≡ record old { orders = after_line line old.orders } → judged ≡ ended_at line old.orders
    → new ≡ with_ended judged mid → Appends before later (verdicts mid.style mid.sums judged)
    → TakesLine line old new before later
takes_line line old mid new judged before later taken ends is printed =
    let done : List Judged = ended_at line old.orders in (
      is ∙ ap (λ (v : VerdictsState). with_ended judged v) taken
          ∙ ap (λ (js : List Judged). with_ended js (record old { orders = after_line line old.orders })) ends,
      subst (Appends before later)
          (ap (λ (v : VerdictsState). verdicts v.style v.sums judged) taken
          ∙ ap (λ (js : List Judged). verdicts old.style old.sums js) ends) printed,
    )

-- ---- what is left

pub finishes_with : (v : VerdictsState) (sums : Sums) (left slice : List Judged) (old mid new : Option (List ℕ))
    → IsLeft v.orders left → slice ≡ left → sums ≡ fold with_one v.sums slice → Appends old mid (verdicts v.style v.sums slice)
    → Appends mid new (end_text v.style.form sums) → FinishesWith v sums old new
finishes_with v sums left slice old mid new are is all text end = record {
  left = left;
  are = are;
  all = all ∙ ap (λ (cs : List Judged). fold with_one v.sums cs) is;
  printed = Appends-trans old mid new (verdicts v.style v.sums left) (end_text v.style.form sums)
      (subst (λ (cs : List Judged). Appends old mid (verdicts v.style v.sums cs)) is text) end;
}
