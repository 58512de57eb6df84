-- SPDX-License-Identifier: MIT OR Apache-2.0
-- Lists with a number for each place below a bound.
use Rattle.std.proofs.Common.{◌≡◌, ℕ, zero, suc, ◌+◌, ◌<◌, List, [], ◌∷◌, ◌++◌, get_or, length, refl, sym, ap, ◌∙◌, subst, arith}
use Rattle.std.proofs.lemmas.List.{length-append}

each_more : (f : ℕ → ℕ) (xs : List ℕ) (x : ℕ) →
    ((k : ℕ) → k < length xs → get_or xs k 0 ≡ f k) →
    x ≡ f (length xs) →
    (k : ℕ) →
    k < suc (length xs) →
    get_or (xs ++ x ∷ []) k 0 ≡ f k
each_more f [] x each is zero lt = is
each_more f [] x each is (suc k) lt = absurd (omega (arith, lt))
each_more f (y ∷ xs) x each is zero lt = each 0 (omega arith)
each_more f (y ∷ xs) x each is (suc k) lt = each_more (λ n. f (suc n)) xs x (λ j less. each (suc j) (omega (arith, less))) is k (omega (arith, lt))

pub record Below (f : ℕ → ℕ) (n : ℕ) (counts : List ℕ) : Type 0 where
  pub count : length counts ≡ n
  pub each : (k : ℕ) → k < length counts → get_or counts k 0 ≡ f k

pub below_none : (f : ℕ → ℕ) → Below f 0 []
below_none f = record { count = refl; each = λ k lt. absurd (omega (arith, lt)) }

pub below_next : (f : ℕ → ℕ) (n x : ℕ) (counts more : List ℕ) → Below f n counts → x ≡ f n → more ≡ counts ++ x ∷ [] → Below f (n + 1) more
below_next f n x counts more some is longer =
    subst (Below f (n + 1)) (sym longer) (record {
      count = length-append counts (x ∷ []) ∙ ap (λ (k : ℕ). k + 1) some.count;
      each = λ k lt. each_more f counts x some.each (is ∙ ap f (sym some.count)) k (let less : k < suc (length counts) = omega (arith, lt, length-append counts (x ∷ [])) in less);
    })
