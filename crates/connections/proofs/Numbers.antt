-- SPDX-License-Identifier: MIT OR Apache-2.0
-- Rising numbers: what a search finds among them, and that they still rise after a removal.
use Rattle.std.proofs.Common.{◌≡◌, ◌≢◌, ℕ, zero, suc, ◌+◌, ◌-◌, ◌<◌, ◌≤◌, ◌==◌, cond, List, [], ◌∷◌, ◌++◌, length, drop, take, Option, Some, None, Result, Ok, Err, IfOk, IfErr, refl, sym, subst, ap, ◌∙◌, inl, inr, arith}
use Rattle.std.specs.List.{AllByRecursion, remove}
use Rattle.std.specs.List.Sorted.{IsSearchInRange, IsBinarySearchResult, IsNonDecreasingBy}
use Rattle.std.specs.Map.{lookup, remove_entry}
use Rattle.std.specs.Option.{option_to_list}
use Rattle.std.specs.Ordering.{nat_cmp, ordering_index}
use Rattle.std.proofs.lemmas.Bool.{cases_lt}
use Rattle.std.proofs.lemmas.Bool.Decides.{nat_tests}
use Rattle.std.proofs.lemmas.Cmp.{ranked}
use Rattle.std.proofs.lemmas.List.{get_or-drop, length-drop, take_all}
use Rattle.std.proofs.lemmas.List.Edits.{length-remove, get_or-remove_below, get_or-remove_above}
use Rattle.std.proofs.lemmas.List.Sorted.{IsNonDecreasingBy-from_default}
use Rattle.controller_model.specs.Controller.{Entry}
use Rattle.connections.specs.Entries.{IsBelow}
use Rattle.connections.specs.Index.{AreNumbersBelow, AreSame, HasNoPlace, HasNumber, IsIndex, IsPlaceOf, NumbersRise, at, listed, number_in}

-- ---- a search

module _ (ps : List (ℕ × ℕ)) (rise : NumbersRise ps) (n : ℕ) where
  -- the comparisons with a number rise too
  comparisons_rise : IsNonDecreasingBy (λ p. ordering_index (nat_cmp p.0 n)) ps
  comparisons_rise = IsNonDecreasingBy-from_default (λ p. ordering_index (nat_cmp p.0 n)) ps (0, 0) (λ i j le within.
      let no_fall : number_in ps i ≤ number_in ps j = grind (arith, rise i j, λ (same : i ≡ j). ap (number_in ps) same) in
      grind (arith, nat_tests))

  -- it ends at the place of the number, or there is none
  pub searched_found : (r : Result ℕ ℕ) →
      IsSearchInRange r (length ps) →
      IsBinarySearchResult (λ p. nat_cmp p.0 n) ps r →
      IfOk r (IsPlaceOf ps n)
  searched_found (Ok place) within equal = record { within = within; is = ranked _ n _ (sym (equal (0, 0))) }
  searched_found (Err place) within parted = tt

  pub searched_none : (r : Result ℕ ℕ) →
      IsSearchInRange r (length ps) →
      IsBinarySearchResult (λ p. nat_cmp p.0 n) ps r →
      IfErr r (λ _. HasNoPlace ps n)
  searched_none (Ok place) within equal = tt
  searched_none (Err place) within parted = λ i lt same.
      elim (cases_lt i place) [
        | inl before ↦ let less : number_in ps i < n = ranked _ n _ (sym ((parted comparisons_rise).0 i (0, 0) (omega arith) before)) in omega arith
        | inr behind ↦ let more : n < number_in ps i = ranked _ n _ (sym ((parted comparisons_rise).1 i (0, 0) behind lt)) in omega arith
      ]

-- ---- a search from a place on

-- what is lent of a list from a place on
abbrev pub tail_from : List (ℕ × ℕ) → ℕ → List (ℕ × ℕ)
tail_from ps k = take (length ps - k) (drop k ps)

tail_is : (ps : List (ℕ × ℕ)) (k : ℕ) → tail_from ps k ≡ drop k ps
tail_is ps k = take_all (length ps - k) (drop k ps) (omega (arith, length-drop k ps))

found_behind : (ps : List (ℕ × ℕ)) (k n place : ℕ) → IsPlaceOf (drop k ps) n place → IsPlaceOf ps n (k + place)
found_behind ps k n place is = record {
  within = omega (arith, is.within, length-drop k ps);
  is = ap (λ (p : ℕ × ℕ). p.0) (sym (get_or-drop k ps place (0, 0))) ∙ is.is;
}

-- a place among them is one of all, that many behind
pub found_from : (ps : List (ℕ × ℕ)) (k n place : ℕ) → IsPlaceOf (tail_from ps k) n place → IsPlaceOf ps n (k + place)
found_from ps k n place is = found_behind ps k n place (subst (λ (qs : List (ℕ × ℕ)). IsPlaceOf qs n place) (tail_is ps k) is)

none_behind : (ps : List (ℕ × ℕ)) (k n : ℕ) → ((i : ℕ) → i < k → number_in ps i < n) → HasNoPlace (drop k ps) n → HasNoPlace ps n
none_behind ps k n before none i lt same =
    elim (cases_lt i k) [
      | inl below ↦ let less = before i below in omega arith
      | inr over ↦
          let size = length-drop k ps in
          let at : k + (i - k) ≡ i = omega arith in
          let there : number_in (drop k ps) (i - k) ≡ number_in ps i = ap (λ (p : ℕ × ℕ). p.0) (get_or-drop k ps (i - k) (0, 0)) ∙ ap (λ m. number_in ps m) at in
          absurd (none (i - k) (omega arith) (there ∙ same))
    ]

-- where none of them is it, and those before are smaller, there is none
pub none_from : (ps : List (ℕ × ℕ)) (k n : ℕ) → ((i : ℕ) → i < k → number_in ps i < n) → HasNoPlace (tail_from ps k) n → HasNoPlace ps n
none_from ps k n before none = none_behind ps k n before (subst (λ (qs : List (ℕ × ℕ)). HasNoPlace qs n) (tail_is ps k) none)

-- ---- a look-up

-- no place before this one has the number
abbrev pub HasNoPlaceBefore : List (ℕ × ℕ) → ℕ → ℕ → Type 0
HasNoPlaceBefore ps n place = (i : ℕ) → i < place → number_in ps i ≢ n

none_before : (ps : List (ℕ × ℕ)) (n place : ℕ) → NumbersRise ps → IsPlaceOf ps n place → HasNoPlaceBefore ps n place
none_before ps n place rise is i lt same = omega (arith, rise i place lt is.within, is.is)

behind_first : (p : ℕ × ℕ) (ps : List (ℕ × ℕ)) (n place : ℕ) → IsPlaceOf (p ∷ ps) n (suc place) → IsPlaceOf ps n place
behind_first p ps n place is = record { within = omega (arith, is.within); is = is.is }

pub lookup_none : (ps : List (ℕ × ℕ)) (n : ℕ) → HasNoPlace ps n → lookup (λ k. n == k) ps ≡ None
lookup_none [] n none = refl
lookup_none (p ∷ ps) n none = grind (arith, nat_tests, none 0 (omega arith), lookup_none ps n (λ i lt. none (suc i) (omega arith)))

-- ---- one fewer

pub removed_none : (ps : List (ℕ × ℕ)) (n : ℕ) → HasNoPlace ps n → ps ≡ remove_entry (λ k. n == k) ps
removed_none [] n none = refl
removed_none (p ∷ ps) n none = grind (arith, nat_tests, none 0 (omega arith), removed_none ps n (λ i lt. none (suc i) (omega arith)))

removed_found : (ps : List (ℕ × ℕ)) (n place : ℕ) →
    IsPlaceOf ps n place →
    HasNoPlaceBefore ps n place →
    remove ps place ≡ remove_entry (λ k. n == k) ps
removed_found [] n place is before = absurd (omega (arith, is.within))
removed_found (p ∷ ps) n zero is before = grind (arith, nat_tests, is.is)
removed_found (p ∷ ps) n (suc place) is before =
    grind (arith, nat_tests, before 0 (omega arith), removed_found ps n place (behind_first p ps n place is) (λ i lt. before (suc i) (omega arith)))

pub removed_at : (ps : List (ℕ × ℕ)) (n place : ℕ) → NumbersRise ps → IsPlaceOf ps n place → remove ps place ≡ remove_entry (λ k. n == k) ps
removed_at ps n place rise is = removed_found ps n place is (none_before ps n place rise is)

-- the numbers that are left rise
pub left_rise : (ps : List (ℕ × ℕ)) (place : ℕ) → NumbersRise ps → place < length ps → NumbersRise (remove ps place)
left_rise ps place rise within i j lt le =
    let size = length-remove ps place within in
    elim (cases_lt j place) [
      | inl below ↦
          let a = get_or-remove_below ps place (0, 0) i (omega arith) within in
          let b = get_or-remove_below ps place (0, 0) j below within in
          let c = rise i j lt (omega arith) in
          let x : number_in (remove ps place) i ≡ number_in ps i = ap (λ (p : ℕ × ℕ). p.0) a in
          let y : number_in (remove ps place) j ≡ number_in ps j = ap (λ (p : ℕ × ℕ). p.0) b in
          omega arith
      | inr above ↦
          let b = get_or-remove_above ps place (0, 0) j above within in
          let y : number_in (remove ps place) j ≡ number_in ps (j + 1) = ap (λ (p : ℕ × ℕ). p.0) b in
          elim (cases_lt i place) [
            | inl under ↦
                let a = get_or-remove_below ps place (0, 0) i under within in
                let x : number_in (remove ps place) i ≡ number_in ps i = ap (λ (p : ℕ × ℕ). p.0) a in
                let c = rise i (j + 1) (omega arith) (omega arith) in
                omega arith
            | inr over ↦
                let a = get_or-remove_above ps place (0, 0) i over within in
                let x : number_in (remove ps place) i ≡ number_in ps (i + 1) = ap (λ (p : ℕ × ℕ). p.0) a in
                let c = rise (i + 1) (j + 1) (omega arith) (omega arith) in
                omega arith
          ]
    ]

-- the numbers behind the first are above it, and rise
above_first : (p : ℕ × ℕ) (ps : List (ℕ × ℕ)) → NumbersRise (p ∷ ps) → (i : ℕ) → i < length ps → p.0 < number_in ps i
above_first p ps rise i lt = rise 0 (suc i) (omega arith) (omega arith)

behind_rise : (p : ℕ × ℕ) (ps : List (ℕ × ℕ)) → NumbersRise (p ∷ ps) → NumbersRise ps
behind_rise p ps rise i j lt within = rise (suc i) (suc j) (omega arith) (omega arith)

-- what is looked up then
pub lookup_left : (ps : List (ℕ × ℕ)) (n q : ℕ) →
    NumbersRise ps →
    lookup (λ k. q == k) (remove_entry (λ k. n == k) ps) ≡ cond (n == q) None (lookup (λ k. q == k) ps)
lookup_left [] n q rise = grind (arith, nat_tests)
lookup_left (p ∷ ps) n q rise =
    let none : p.0 ≡ q → lookup (λ k. q == k) ps ≡ None = λ same. lookup_none ps q (λ i lt is. let above = above_first p ps rise i lt in omega arith) in
    grind (arith, nat_tests, none, lookup_left ps n q (behind_rise p ps rise))

pub same_left : (keys left ps : List (ℕ × ℕ)) (n : ℕ) → NumbersRise ps → AreSame keys ps
    → ((q : ℕ) → lookup (λ k. q == k) left ≡ cond (n == q) None (lookup (λ k. q == k) keys)) → AreSame left (remove_entry (λ k. n == k) ps)
same_left keys left ps n rise same updates q = updates q ∙ ap (λ o. cond (n == q) None o) (same q) ∙ sym (lookup_left ps n q rise)

-- ---- one more

first_below : (p : ℕ × ℕ) (ps : List (ℕ × ℕ)) (n key : ℕ) →
    p.0 < n →
    ((i : ℕ) → i < length ps → p.0 < number_in ps i) →
    (q : ℕ) →
    q < length (ps ++ (n, key) ∷ []) →
    p.0 < number_in (ps ++ (n, key) ∷ []) q
first_below p [] n key less above zero within = less
first_below p [] n key less above (suc q) within = absurd (omega arith)
first_below p (x ∷ xs) n key less above zero within = above 0 (omega arith)
first_below p (x ∷ xs) n key less above (suc q) within = first_below p xs n key less (λ i lt. above (suc i) (omega arith)) q (omega arith)

-- the number behind all others is above them
pub more_rise : (ps : List (ℕ × ℕ)) (n key : ℕ) → NumbersRise ps → AreNumbersBelow n ps → NumbersRise (ps ++ (n, key) ∷ [])
more_rise [] n key rise below i j lt within = absurd (omega arith)
more_rise (p ∷ ps) n key rise below zero (suc j) lt within =
    let first : (q : ℕ) → q < length (ps ++ (n, key) ∷ []) → p.0 < number_in (ps ++ (n, key) ∷ []) q = first_below p ps n key (below 0 (omega arith)) (above_first p ps rise) in
    first j (omega arith)
more_rise (p ∷ ps) n key rise below (suc i) (suc j) lt within =
    more_rise ps n key (behind_rise p ps rise) (λ k less. below (suc k) (omega arith)) i j (omega arith) (omega arith)
more_rise (p ∷ ps) n key rise below i zero lt within = absurd (omega arith)

lookup_more : (ps : List (ℕ × ℕ)) (n key q : ℕ) →
    AreNumbersBelow n ps →
    lookup (λ k. q == k) (ps ++ (n, key) ∷ []) ≡ cond (n == q) (Some key) (lookup (λ k. q == k) ps)
lookup_more [] n key q below = grind (arith, nat_tests)
lookup_more (p ∷ ps) n key q below = grind (arith, nat_tests, below 0 (omega arith), lookup_more ps n key q (λ i lt. below (suc i) (omega arith)))

pub same_more : (keys more ps : List (ℕ × ℕ)) (n key : ℕ) → AreNumbersBelow n ps → AreSame keys ps
    → ((q : ℕ) → lookup (λ k. q == k) more ≡ cond (n == q) (Some key) (lookup (λ k. q == k) keys)) → AreSame more (ps ++ (n, key) ∷ [])
same_more keys more ps n key below same updates q = updates q ∙ ap (λ o. cond (n == q) (Some key) o) (same q) ∙ sym (lookup_more ps n key q below)

below_first : (n number : ℕ) (o : Option Entry) (rest : List Entry) →
    HasNumber number o →
    AllByRecursion (IsBelow n) (option_to_list o ++ rest) →
    (number < n) × AllByRecursion (IsBelow n) rest
below_first n number (Some e) rest has all = (omega (arith, has.0, all.0), all.1)
below_first n number None rest has all = absurd has

-- where the numbers of all entries are below one, those of the index are
pub numbers_below : (slots : List (Option Entry)) (ps : List (ℕ × ℕ)) (n : ℕ) →
    IsIndex slots ps →
    AllByRecursion (IsBelow n) (listed slots ps) →
    AreNumbersBelow n ps
numbers_below slots [] n index all i lt = absurd (omega arith)
numbers_below slots (p ∷ ps) n index all zero lt = (below_first n p.0 (at slots p.1) (listed slots ps) index.0 all).0
numbers_below slots (p ∷ ps) n index all (suc i) lt = numbers_below slots ps n index.2 (below_first n p.0 (at slots p.1) (listed slots ps) index.0 all).1 i (omega arith)
