-- SPDX-License-Identifier: MIT OR Apache-2.0
-- Workers are started, and their results are gathered, one after the other.
use Rattle.std.proofs.Common.{◌≡◌, ℕ, zero, suc, ◌+◌, ◌<◌, ◌⊎◌, inl, inr, List, [], ◌∷◌, ◌++◌, length, map, refl, sym, ap, ◌∙◌, subst, ⊎_elim, arith, length-append, append_assoc, append-nil, Bool, true, false, true≢false}
use mathlib.Core.Option.{some, some-injective, some-ne-none}
use lib.ListN.{get_elem?}
use Rattle.thread_crew.specs.CrewDone.{AllDone}

module _ {A : Type 0} where
  -- of one more at the end, a place is an old one or the last
  pub at_more : (row : List A) (a b : A) (at : ℕ) →
      get_elem? (row ++ a ∷ []) at ≡ some b →
      (get_elem? row at ≡ some b) ⊎ ((at ≡ length row) × (a ≡ b))
  at_more [] a b zero e = inr (refl, some-injective a b e)
  at_more [] a b (suc at) e = absurd (some-ne-none b (sym e))
  at_more (x ∷ xs) a b zero e = inl e
  at_more (x ∷ xs) a b (suc at) e = ⊎_elim (λ h. inl h) (λ h. inr (ap suc h.0, h.1)) (at_more xs a b at e)

  -- a place that has an element is within the row
  within : (row : List A) (at : ℕ) (a : A) → get_elem? row at ≡ some a → at < length row
  within [] at a e = absurd (some-ne-none a (sym e))
  within (x ∷ xs) zero a e = omega arith
  within (x ∷ xs) (suc at) a e = let h = within xs at a e in omega arith

  -- the next of those that are left is added to the old ones
  pub comes : (old to_arrive rest all : List A) (a : A) → old ++ to_arrive ≡ all → to_arrive ≡ a ∷ rest → (old ++ a ∷ []) ++ rest ≡ all
  comes old to_arrive rest all a whole is = append_assoc old (a ∷ []) rest ∙ ap (λ r. old ++ r) (sym is) ∙ whole

  pub none_left : (xs : List A) → length xs ≡ 0 → xs ≡ []
  none_left [] e = refl
  none_left (x ∷ xs) e = absurd (omega arith)

  -- a counted list less its first
  pub counts : (n m : ℕ) (x : A) (xs rest : List A) → n ≡ length xs → xs ≡ x ∷ rest → m + 1 ≡ n → m ≡ length rest
  counts n m x xs rest count is one = let l = ap length is in omega arith

-- one more gave something back
pub one_more : {W D : Type 0} (Does : W → D → Type 0) (workers : List W) (done : List D) (w : W) (d : D) → AllDone Does workers done → Does w d
    → AllDone Does (workers ++ w ∷ []) (done ++ d ∷ [])
one_more {W} {D} Does workers done w d before new = (
  (let s = before.0 in omega (arith, length-append workers (w ∷ []), length-append done (d ∷ []))),
  λ at u e here there.
      ⊎_elim
      (λ old_u. ⊎_elim (λ old_e. before.1 at u e old_u old_e)
      (λ (h : (at ≡ length done) × (d ≡ e)). absurd (let b = within workers at u old_u in let k = h.0 in let s = before.0 in omega arith)) (at_more done d e at there))
      (λ (h : (at ≡ length workers) × (w ≡ u)). ⊎_elim (λ old_e. absurd (let b = within done at e old_e in let k = h.0 in let s = before.0 in omega arith))
      (λ (k : (at ≡ length done) × (d ≡ e)). subst (λ (y : W × D). Does y.0 y.1) (λ i. (h.1 i, k.1 i)) new) (at_more done d e at there))
      (at_more workers w u at here),
)

-- of those that were joined each gave something back, unless one never began; these threads are
-- still to be joined
abbrev pub Joined : {W D H : Type 0} → (W → D → Type 0) → (H → W) → List W → List H → Bool → List D → Type 0
Joined {W} Does worker_of workers threads all_began done =
    (joined : List W) × (joined ++ map worker_of threads ≡ workers) × (all_began ≡ true → AllDone Does joined done)

module _ {W D H : Type 0} where
  pub joins_one : (before threads : List H) (thread : H) (worker_of : H → W) (Does : W → D → Type 0) (workers : List W) (all_began : Bool) (done now : List D) (d : D)
      → Joined Does worker_of workers before all_began done → before ≡ thread ∷ threads → Does (worker_of thread) d → now ≡ done ++ d ∷ []
      → Joined Does worker_of workers threads all_began now
  joins_one before threads thread worker_of Does workers all_began done now d so_far is does put = (
    so_far.0 ++ worker_of thread ∷ [],
    comes so_far.0 (map worker_of before) (map worker_of threads) workers (worker_of thread) so_far.1 (ap (map worker_of) is),
    λ began. subst (AllDone Does (so_far.0 ++ worker_of thread ∷ [])) (sym put) (one_more Does so_far.0 done (worker_of thread) d (so_far.2 began) does),
  )

  pub joins_none : (before threads : List H) (thread : H) (worker_of : H → W) (Does : W → D → Type 0) (workers : List W) (all_began : Bool) (done : List D)
      → Joined Does worker_of workers before all_began done → before ≡ thread ∷ threads → Joined Does worker_of workers threads false done
  joins_none before threads thread worker_of Does workers all_began done so_far is = (
    so_far.0 ++ worker_of thread ∷ [],
    comes so_far.0 (map worker_of before) (map worker_of threads) workers (worker_of thread) so_far.1 (ap (map worker_of) is),
    λ began. absurd (true≢false (sym began)),
  )

  pub all_joined : (threads : List H) (worker_of : H → W) (Does : W → D → Type 0) (workers : List W) (done : List D)
      → Joined Does worker_of workers threads true done → threads ≡ [] → AllDone Does workers done
  all_joined threads worker_of Does workers done so_far none =
      subst (λ ws. AllDone Does ws done) (sym (append-nil so_far.0) ∙ ap (λ ts. so_far.0 ++ map worker_of ts) (sym none) ∙ so_far.1) (so_far.2 refl)
