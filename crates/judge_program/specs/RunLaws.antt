-- SPDX-License-Identifier: MIT OR Apache-2.0
-- Lemmas: octets are judged piece by piece.
use Rattle.std.proofs.Common.{◌≡◌, ℕ, List, [], ◌∷◌, ◌++◌, Option, refl, sym, ap, subst}
use Rattle.std.proofs.Common.{◌∙◌, append_assoc}
use Rattle.std.specs.Prelude.{fold}
use Rattle.std.specs.Io.KnownBytes.{Appends}
use Rattle.std.proofs.KnownBytes.{Appends-nil, Appends-trans}
use Rattle.dtap_codec.specs.Number.{count_of}
use Rattle.judge_lines.specs.declared.fault.LineFault.{LineFault}
use Rattle.judge_report.specs.declared.style.Form.{Form}
use Rattle.judge_report.specs.declared.style.Strictness.{Strictness}
use Rattle.judge_report.specs.declared.style.Style.{Style}
use Rattle.judge_report.specs.declared.sums.Sums.{Sums}
use Rattle.judge_orders.specs.declared.judged.Judged.{Judged}
use Rattle.judge_report.specs.JudgedText.{judged_text}
use Rattle.judge_report.specs.Sums.{texts_behind, with_one}
use Rattle.run_judge.specs.Flow.{counted}
use Rattle.judge_program.specs.Course.{Course, behind}
use Rattle.judge_program.specs.declared.stop.Stop.{Stop}
use Rattle.judge_program.specs.declared.stop.Stop.TheVariants.{BadLine, Failed}
use Rattle.judge_program.specs.RunState.{FindsBad, Prints, RunState, StopsWith, course_with}
use Rattle.judge_program.specs.RunState.{verdicts}

-- ---- connections one after the other

pub sums_both : (sums : Sums) (first second : List Judged)
    → fold with_one sums (first ++ second) ≡ fold with_one (fold with_one sums first) second
sums_both sums [] second = refl
sums_both sums (c ∷ cs) second = sums_both (with_one sums c) cs second

texts_both : (m : ℕ) (form : Form) (strictness : Strictness) (sums : Sums)
    (first second : List Judged)
    → texts_behind m form strictness sums (first ++ second)
    ≡ texts_behind m form strictness sums first
    ++ texts_behind m form strictness (fold with_one sums first) second
texts_both m form strictness sums [] second = refl
texts_both m form strictness sums (c ∷ cs) second =
    let text : List ℕ = judged_text m form strictness (counted sums.printed) c in
    ap (λ (xs : List ℕ). text ++ xs) (texts_both m form strictness (with_one sums c) cs second)
    ∙ sym (append_assoc text (texts_behind m form strictness (with_one sums c) cs)
    (texts_behind m form strictness (fold with_one (with_one sums c) cs) second))

pub verdicts_both : (style : Style) (sums : Sums) (first second : List Judged)
    → verdicts style sums (first ++ second)
    ≡ verdicts style sums first ++ verdicts style (fold with_one sums first) second
verdicts_both style sums first second =
    texts_both (count_of style.modulus) style.form style.strictness sums first second

pub behind_both : (first second : List Judged) (c : Course)
    → behind first (behind second c) ≡ behind (first ++ second) c
behind_both first second c =
    ap (λ (cs : List Judged). record c { ended = cs })
    (sym (append_assoc first second c.ended))

-- Printing the verdicts of the first connections and then those of the second prints the verdicts
-- of both lists.
pub printed_both : (style : Style) (mid_style : Style) (sums mid_sums : Sums)
    (first second : List Judged) (old mid new : Option (List ℕ)) → mid_style ≡ style
    → mid_sums ≡ fold with_one sums first → Appends old mid (verdicts style sums first)
    → Appends mid new (verdicts mid_style mid_sums second)
    → Appends old new (verdicts style sums (first ++ second))
printed_both style mid_style sums mid_sums first second old mid new same counts some more =
    let begun : List ℕ = verdicts style sums first in
    let next : List ℕ = verdicts mid_style mid_sums second in
    let joined : begun ++ next ≡ verdicts style sums (first ++ second) =
    ap (λ (s : Style). begun ++ verdicts s mid_sums second) same
    ∙ ap (λ (s : Sums). begun ++ verdicts style s second) counts
    ∙ sym (verdicts_both style sums first second) in
    subst (Appends old new) joined (Appends-trans old mid new begun next some more)

-- ---- pieces one after the other

pub prints_none : (s : RunState) → Prints [] s s
prints_none s = record {
  ended = [];
  style = refl;
  sums = refl;
  printed = Appends-nil s.contents;
  carried_on = λ more. refl;
}

-- The course with two pieces and more octets, from the state after the first piece.
carried_both : (first second : List ℕ) (old mid : RunState) (ended : List Judged)
    (more : List ℕ)
    → ((rest : List ℕ) → course_with old (first ++ rest) ≡ behind ended (course_with mid rest))
    → course_with old ((first ++ second) ++ more)
    ≡ behind ended (course_with mid (second ++ more))
carried_both first second old mid ended more carried =
    ap (λ (xs : List ℕ). course_with old xs) (append_assoc first second more)
    ∙ carried (second ++ more)

pub prints_both : (first second : List ℕ) (old mid new : RunState) → Prints first old mid
    → Prints second mid new → Prints (first ++ second) old new
prints_both first second old mid new some others = record {
  ended = some.ended ++ others.ended;
  style = others.style ∙ some.style;
  sums =
      others.sums ∙ ap (λ (s : Sums). fold with_one s others.ended) some.sums
      ∙ sym (sums_both old.verdicts.sums some.ended others.ended);
  printed =
      printed_both old.verdicts.style mid.verdicts.style old.verdicts.sums mid.verdicts.sums
      some.ended others.ended old.contents mid.contents new.contents some.style some.sums
      some.printed others.printed;
  carried_on = λ more.
      carried_both first second old mid some.ended more some.carried_on
      ∙ ap (λ (c : Course). behind some.ended c) (others.carried_on more)
      ∙ behind_both some.ended others.ended (course_with new more);
}

-- ---- a bad line after what was printed

pub found_behind : (fault : LineFault) (octets rest : List ℕ) (old mid : RunState)
    (ended : List Judged) (contents : Option (List ℕ))
    → mid.verdicts.style ≡ old.verdicts.style
    → mid.verdicts.sums ≡ fold with_one old.verdicts.sums ended
    → Appends old.contents mid.contents (verdicts old.verdicts.style old.verdicts.sums ended)
    → course_with old octets ≡ behind ended (course_with mid rest)
    → FindsBad fault rest mid contents → FindsBad fault octets old contents
found_behind fault octets rest old mid ended contents style sums printed carried found =
    record {
      printed =
          subst (λ (c : Course). Appends old.contents contents
          (verdicts old.verdicts.style old.verdicts.sums c.ended)) (sym carried)
          (printed_both old.verdicts.style mid.verdicts.style old.verdicts.sums
          mid.verdicts.sums ended (course_with mid rest).ended old.contents mid.contents contents
          style sums printed found.printed);
      bad = ap (λ (c : Course). c.fault) carried ∙ found.bad;
    }

pub stops_later : (first second : List ℕ) (stop : Stop) (old mid : RunState)
    (contents : Option (List ℕ)) → Prints first old mid → StopsWith stop second mid contents
    → StopsWith stop (first ++ second) old contents
stops_later first second (BadLine number fault) old mid contents some stops = λ more.
    found_behind fault ((first ++ second) ++ more) (second ++ more) old mid some.ended contents
    some.style some.sums some.printed
    (carried_both first second old mid some.ended more some.carried_on) (stops more)
stops_later first second (Failed failure) old mid contents some stops = tt
