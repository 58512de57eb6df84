-- SPDX-License-Identifier: MIT OR Apache-2.0
-- The definitions at literal workers and results. A worker is a number here, and may give back the
-- next number.
use Rattle.std.proofs.Common.{◌≡◌, ℕ, zero, suc, ◌+◌, List, [], ◌∷◌, ◌++◌, refl, sym, ap, ◌∙◌, arith}
use mathlib.Core.Option.{some, some-injective, some-ne-none}
use lib.ListN.{get_elem?}
use Rattle.thread_crew.specs.CrewDone.{AllDone, BeginsWith}
use Rattle.thread_crew.specs.Pairs.{EachPair}

abbrev Next : ℕ → ℕ → Type 0
Next w d = d ≡ w + 1

-- ---- lists side by side

next_each : (at : ℕ) (w d : ℕ) → get_elem? (10 ∷ 20 ∷ []) at ≡ some w → get_elem? (11 ∷ 21 ∷ []) at ≡ some d → Next w d
next_each zero w d here there = let a = some-injective 10 w here in let b = some-injective 11 d there in omega arith
next_each (suc zero) w d here there = let a = some-injective 20 w here in let b = some-injective 21 d there in omega arith
next_each (suc (suc at)) w d here there = absurd (some-ne-none w (sym here))

each_pair : EachPair Next (10 ∷ 20 ∷ []) (11 ∷ 21 ∷ [])
each_pair = next_each

-- what is behind the shorter list has no partner
one_pair : (at : ℕ) (w d : ℕ) → get_elem? (10 ∷ 20 ∷ []) at ≡ some w → get_elem? (11 ∷ []) at ≡ some d → Next w d
one_pair zero w d here there = let a = some-injective 10 w here in let b = some-injective 11 d there in omega arith
one_pair (suc at) w d here there = absurd (some-ne-none d (sym there))

as_far_as_the_shorter : EachPair Next (10 ∷ 20 ∷ []) (11 ∷ [])
as_far_as_the_shorter = one_pair

second_pair_is_wrong : EachPair Next (10 ∷ 20 ∷ []) (11 ∷ 22 ∷ []) → ⊥
second_pair_is_wrong bad = omega (arith, bad 1 20 22 refl refl)

other_way_round : EachPair Next (11 ∷ []) (10 ∷ []) → ⊥
other_way_round bad = omega (arith, bad 0 11 10 refl refl)

-- ---- the workers that returned

all_came_back : AllDone Next (10 ∷ 20 ∷ []) (11 ∷ 21 ∷ [])
all_came_back = (refl, next_each)

nobody_came_back : AllDone Next [] []
nobody_came_back = (refl, λ at w d here there. absurd (some-ne-none w (sym here)))

one_is_missing : AllDone Next (10 ∷ 20 ∷ []) (11 ∷ []) → ⊥
one_is_missing bad = omega (arith, bad.0)

one_too_many : AllDone Next (10 ∷ []) (11 ∷ 21 ∷ []) → ⊥
one_too_many bad = omega (arith, bad.0)

another_result : AllDone Next (10 ∷ 20 ∷ []) (11 ∷ 22 ∷ []) → ⊥
another_result bad = omega (arith, bad.1 1 20 22 refl refl)

exchanged : AllDone Next (10 ∷ 20 ∷ []) (21 ∷ 11 ∷ []) → ⊥
exchanged bad = omega (arith, bad.1 0 10 21 refl refl)

-- ---- how far they were started

first_was_started : BeginsWith {W = ℕ} (5 ∷ []) (5 ∷ 10 ∷ []) (10 ∷ 20 ∷ [])
first_was_started = (10 ∷ [], 20 ∷ [], refl, refl)

none_was_started : BeginsWith {W = ℕ} (5 ∷ []) (5 ∷ []) (10 ∷ 20 ∷ [])
none_was_started = ([], 10 ∷ 20 ∷ [], refl, refl)

all_were_started : BeginsWith {W = ℕ} [] (10 ∷ 20 ∷ []) (10 ∷ 20 ∷ [])
all_were_started = (10 ∷ 20 ∷ [], [], refl, refl)

-- what is put behind 5 is the row without 5
behind : (row first : List ℕ) → 5 ∷ row ≡ (5 ∷ []) ++ first → row ≡ first
behind row first e = let l : 5 ∷ row ≡ 5 ∷ first = e in cc l

second_alone : BeginsWith {W = ℕ} (5 ∷ []) (5 ∷ 20 ∷ []) (10 ∷ 20 ∷ []) → ⊥
second_alone bad =
    let is = behind (20 ∷ []) bad.0 bad.3 in
    let l : 10 ∷ 20 ∷ [] ≡ 20 ∷ bad.1 = bad.2 ∙ ap (λ first. first ++ bad.1) (sym is) in
    absurd (cc l)

one_twice : BeginsWith {W = ℕ} (5 ∷ []) (5 ∷ 10 ∷ 10 ∷ []) (10 ∷ 20 ∷ []) → ⊥
one_twice bad =
    let is = behind (10 ∷ 10 ∷ []) bad.0 bad.3 in
    let l : 10 ∷ 20 ∷ [] ≡ 10 ∷ 10 ∷ bad.1 = bad.2 ∙ ap (λ first. first ++ bad.1) (sym is) in
    absurd (cc l)

an_earlier_one_is_gone : BeginsWith {W = ℕ} (5 ∷ []) (10 ∷ []) (10 ∷ []) → ⊥
an_earlier_one_is_gone bad = let l : 10 ∷ [] ≡ 5 ∷ bad.0 = bad.3 in absurd (cc l)
