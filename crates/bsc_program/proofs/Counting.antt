-- SPDX-License-Identifier: MIT OR Apache-2.0
-- The count of a world's messages so far, and how a connection and a mobile extend it.
use Rattle.std.proofs.Common.{◌≡◌, ℕ, zero, suc, ◌+◌, ◌-◌, ◌*◌, ◌<◌, ◌≤◌, List, [], length, Option, Some, None, refl, sym, ap, ◌∙◌, arith, add_assoc, unwrap_or}
use Rattle.std.specs.Prelude.{◌^◌, Bool, true, false, if◌then◌else◌}
use Rattle.bsc_program.specs.Breaks.{count_from, count_to, count_with}

-- ---- up to the first number that has no list

-- so many messages are in the lists of the numbers from 1 on that are below the next one
pub record CountsBelow (list : ℕ → Option (List (List ℕ))) (next count : ℕ) : Type 0 where
  pub total : count_from list 1 (2 ^ 32 - 1) ≡ count + count_from list next (2 ^ 32 - next)
  pub bound : count ≤ next * 2 ^ 64

pub counted_more : (list : ℕ → Option (List (List ℕ))) (n most : ℕ) (messages : List (List ℕ)) →
    list n ≡ Some messages →
    count_from list n (suc most) ≡ length messages + count_from list (n + 1) most
unfolding count_from
counted_more list n most messages is = ap (λ (there : Option (List (List ℕ))). count_with there (count_from list (n + 1) most)) is

pub counted_end : (list : ℕ → Option (List (List ℕ))) (n most : ℕ) → list n ≡ None → count_from list n (suc most) ≡ 0
unfolding count_from
counted_end list n most is = ap (λ (there : Option (List (List ℕ))). count_with there (count_from list (n + 1) most)) is

counted_nothing : (list : ℕ → Option (List (List ℕ))) (n : ℕ) → count_from list n 0 ≡ 0
unfolding count_from
counted_nothing list n = refl

behind_nothing : (n : ℕ) → n ≡ 0 + n
behind_nothing n = omega arith

pub below_none : (list : ℕ → Option (List (List ℕ))) → CountsBelow list 1 0
below_none list = record { total = behind_nothing (count_from list 1 (2 ^ 32 - 1)); bound = omega arith }

pub below_more : (list : ℕ → Option (List (List ℕ))) (next count : ℕ) (messages : List (List ℕ)) → CountsBelow list next count → next ≤ 2 ^ 32 - 1 → list next ≡ Some messages → length messages < 2 ^ 64
    → CountsBelow list (next + 1) (count + length messages)
below_more list next count messages some high is long =
    let left : 2 ^ 32 - next ≡ suc (2 ^ 32 - (next + 1)) = omega (arith, high) in
    record {
      total =
          some.total ∙ ap (λ (most : ℕ). count + count_from list next most) left ∙ ap (λ (n : ℕ). count + n) (counted_more list next (2 ^ 32 - (next + 1)) messages is)
          ∙ sym (add_assoc count (length messages) (count_from list (next + 1) (2 ^ 32 - (next + 1))));
      bound = omega (arith, some.bound, long);
    }

-- the first number that has no list ends the count
pub below_end : (list : ℕ → Option (List (List ℕ))) (next count : ℕ) →
    CountsBelow list next count →
    next ≤ 2 ^ 32 - 1 →
    list next ≡ None →
    count ≡ count_from list 1 (2 ^ 32 - 1)
below_end list next count some high is =
    let left : 2 ^ 32 - next ≡ suc (2 ^ 32 - (next + 1)) = omega (arith, high) in
    let none : count_from list next (2 ^ 32 - next) ≡ 0 = ap (count_from list next) left ∙ counted_end list next (2 ^ 32 - (next + 1)) is in
    omega (arith, some.total, none)

-- and so does the greatest number
pub below_all : (list : ℕ → Option (List (List ℕ))) (next count : ℕ) →
    CountsBelow list next count →
    next ≡ 2 ^ 32 →
    count ≡ count_from list 1 (2 ^ 32 - 1)
below_all list next count some last =
    let left : 2 ^ 32 - next ≡ 0 = omega (arith, last) in
    let none : count_from list next (2 ^ 32 - next) ≡ 0 = ap (count_from list next) left ∙ counted_nothing list next in
    omega (arith, some.total, none)

-- ---- up to a number

-- so many messages are in the lists of the numbers from 1 on that are below the next one, whether
-- each has one or not
pub record CountsUpTo (list : ℕ → Option (List (List ℕ))) (next count : ℕ) : Type 0 where
  pub below : ℕ
  pub up_to : next ≡ suc below
  pub total : count ≡ count_to list below
  pub bound : count ≤ below * 2 ^ 64

counted_to_more : (list : ℕ → Option (List (List ℕ))) (n : ℕ) →
    count_to list (suc n) ≡ count_to list n + length (unwrap_or (list (suc n)) [])
unfolding count_to
counted_to_more list n = refl

counted_to_none : (list : ℕ → Option (List (List ℕ))) → count_to list 0 ≡ 0
unfolding count_to
counted_to_none list = refl

pub up_to_none : (list : ℕ → Option (List (List ℕ))) → CountsUpTo list 1 0
up_to_none list = record { below = 0; up_to = refl; total = sym (counted_to_none list); bound = omega arith }

pub up_to_more : (list : ℕ → Option (List (List ℕ))) (next count here : ℕ) →
    CountsUpTo list next count →
    here ≡ length (unwrap_or (list next) []) →
    here < 2 ^ 64 →
    CountsUpTo list (next + 1) (count + here)
up_to_more list next count here some is long =
    let same : here ≡ length (unwrap_or (list (suc some.below)) []) = is ∙ ap (λ (n : ℕ). length (unwrap_or (list n) [])) some.up_to in
    record {
      below = suc some.below;
      up_to = omega (arith, some.up_to);
      total = omega (arith, some.total, same, counted_to_more list some.below);
      bound = omega (arith, some.bound, long);
    }

pub up_to_all : (list : ℕ → Option (List (List ℕ))) (next count : ℕ) → CountsUpTo list next count → next ≡ 256 → count ≡ count_to list 255
up_to_all list next count some is =
    let same : some.below ≡ 255 = omega (arith, some.up_to, is) in
    some.total ∙ ap (count_to list) same

-- numbers without a list add nothing
pub counted_past : (list : ℕ → Option (List (List ℕ))) (n k : ℕ) →
    ((m : ℕ) → n < m → list m ≡ None) →
    count_to list (n + k) ≡ count_to list n
unfolding count_to
counted_past list n zero none = ap (count_to list) (let same : n + 0 ≡ n = omega arith in same)
counted_past list n (suc k) none =
    ap (count_to list) (let next : n + suc k ≡ suc (n + k) = omega arith in next)
    ∙ ap (λ (there : Option (List (List ℕ))). count_to list (n + k) + length (unwrap_or there [])) (none (suc (n + k)) (omega arith))
    ∙ (let same : count_to list (n + k) + 0 ≡ count_to list (n + k) = omega arith in same) ∙ counted_past list n k none

pub nothing_if : {X : Type 0} (b : Bool) (x : X) → b ≡ false → (if b then Some x else None) ≡ None
nothing_if true x is = absurd (cc is)
nothing_if false x is = refl
