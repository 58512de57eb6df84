-- SPDX-License-Identifier: MIT OR Apache-2.0
-- What one more connection that is left makes of a trial.
use Rattle.std.proofs.Common.{◌≡◌, ℕ, ◌==◌, ◌||◌, Bool, true, false, cond, not, List, [], ◌∷◌, ◌++◌, Option, Some, None, if◌then◌else◌, refl, sym, ap, ◌∙◌, append_assoc}
use Rattle.std.specs.Prelude.{filter, fold, option_to_list}
use Rattle.std.proofs.lemmas.List.Elements.{filter-append}
use Rattle.std.proofs.lemmas.List.Sums.{fold-append}
use Rattle.run_judge.specs.ConnectionState.{ConnectionState}
use Rattle.judge_orders.specs.Trial.{is_number, is_of, left_in, others, others_left}
use Rattle.judge_orders.specs.TrialState.{TrialState}

-- the trial at first, the connections so far with what they make of it, and one more
module _ (first now next : TrialState) (left : List ConnectionState) (c : ConnectionState) where
  pub trial_more : now ≡ fold left_in first left → next ≡ left_in now c → next ≡ fold left_in first (left ++ c ∷ [])
  trial_more so_far ends =
      ends ∙ ap (λ (t : TrialState). left_in t c) so_far ∙ sym (fold-append left_in first left (c ∷ []))

  pub number_more : now.number ≡ first.number → next ≡ left_in now c → next.number ≡ first.number
  number_more same ends = ap (λ (t : TrialState). t.number) ends ∙ same

  pub next_more : now.next ≡ first.next → next ≡ left_in now c → next.next ≡ first.next
  next_more same ends = ap (λ (t : TrialState). t.next) ends ∙ same

  one_other : (b : Bool) → option_to_list (if b then None else Some c) ≡ cond (not b) (c ∷ []) []
  one_other true = refl
  one_other false = refl

  same_of : now.number ≡ first.number → now.next ≡ first.next → is_of c.number now ≡ is_of c.number first
  same_of number next_is = λ i. (c.number == number i) || is_number c.number (next_is i)

  pub others_more : (before mid after : List ConnectionState) → now.number ≡ first.number → now.next ≡ first.next
      → mid ≡ before ++ others_left first left → after ≡ mid ++ option_to_list (others (Some c) now)
      → after ≡ before ++ others_left first (left ++ c ∷ [])
  others_more before mid after number next_is so_far more =
      let test = λ (x : ConnectionState). not (is_of x.number first) in
      more
      ∙ ap (λ (b : Bool). mid ++ option_to_list (if b then None else Some c)) (same_of number next_is)
      ∙ ap (λ (cs : List ConnectionState). mid ++ cs) (one_other (is_of c.number first))
      ∙ ap (λ (cs : List ConnectionState). cs ++ cond (test c) (c ∷ []) []) so_far
      ∙ append_assoc before (others_left first left) (cond (test c) (c ∷ []) [])
      ∙ ap (λ (cs : List ConnectionState). before ++ cs) (sym (filter-append test left (c ∷ [])))
