-- SPDX-License-Identifier: MIT OR Apache-2.0
-- The index of mobiles stays right.
use Rattle.std.proofs.Common.{◌≡◌, ◌≢◌, ℕ, zero, suc, ◌<◌, ◌≤◌, ◌+◌, nat_lt, nat_eq, Bool, true, false, not, cond, List, [], ◌∷◌, ◌++◌, length, get_or, set, slice_get, Option, Some, None, unwrap_or, refl, sym, ap, ◌∙◌, subst, arith, length-append}
use Rattle.std.specs.Prelude.{replicate, eqb}
use Rattle.std.specs.List.{position, position_or_len}
use Rattle.std.proofs.lemmas.List.{length-replicate, get_or-replicate}
use Rattle.std.proofs.lemmas.List.Folds.{position_or_len_push}
use Rattle.std.proofs.lemmas.List.Sums.{prefix_len-le-length}
use Rattle.std.proofs.lemmas.Option.{slice_get-get_or, slice_get_within, get_or_from_slice_get}
use Rattle.world_model.specs.World.{Mobile, has_number}
use Rattle.world_ends.specs.Index.{IsIndex}
use Rattle.world_ends.specs.Mobiles.{place_in}

pub none_yet : IsIndex (replicate 256 None) []
none_yet number within = slice_get-get_or (replicate 256 None) number None (subst (λ (n : ℕ). number < n) (sym (length-replicate {A = Option ℕ} 256 None)) within) ∙ ap (λ (o : Option ℕ). Some o) (get_or-replicate {A = Option ℕ} 256 number None None within)

few : (f : Mobile → Bool) (mobiles : List Mobile) → position_or_len f mobiles ≤ length mobiles
few f mobiles = prefix_len-le-length (λ (p : Mobile). not (f p)) mobiles

-- where it is, or behind the last
or_behind : (f : Mobile → Bool) (mobiles : List Mobile) → unwrap_or (position f mobiles) (length mobiles) ≡ position_or_len f mobiles
or_behind f mobiles = by_test (nat_lt (position_or_len f mobiles) (length mobiles)) refl where
  by_test : (b : Bool) →
      nat_lt (position_or_len f mobiles) (length mobiles) ≡ b →
      unwrap_or (cond b (Some (position_or_len f mobiles)) None) (length mobiles) ≡ position_or_len f mobiles
  by_test true test = refl
  by_test false test = grind (arith, few f mobiles, test)

pub is_place : (places : List (Option ℕ)) (mobiles : List Mobile) (number : ℕ) →
    number < 256 →
    IsIndex places mobiles →
    unwrap_or (get_or places number None) (length mobiles) ≡ place_in number mobiles
is_place places mobiles number within index =
    ap (λ (o : Option ℕ). unwrap_or o (length mobiles)) (get_or_from_slice_get places number (position (has_number number) mobiles) None (index number within)) ∙ or_behind (has_number number) mobiles

-- behind them all, another mobile: n is the place before, and at is the place now
at_here : (n all at : ℕ) → n ≤ all → at ≡ cond (eqb n all) (all + 0) n → cond (nat_lt at (all + 1)) (Some at) None ≡ Some n
at_here n all at few is = grind arith

at_past : (n all at : ℕ) →
    n ≤ all →
    at ≡ cond (eqb n all) (all + 1) n →
    cond (nat_lt at (all + 1)) (Some at) None ≡ cond (nat_lt n all) (Some n) None
at_past n all at few is = grind arith

one_more : (mobiles : List Mobile) (p : Mobile) → length (mobiles ++ p ∷ []) ≡ length mobiles + 1
one_more mobiles p = length-append mobiles (p ∷ [])

in_more : (f : Mobile → Bool) (mobiles : List Mobile) (p : Mobile) →
    position f (mobiles ++ p ∷ []) ≡ cond (nat_lt (position_or_len f (mobiles ++ p ∷ [])) (length mobiles + 1)) (Some (position_or_len f (mobiles ++ p ∷ []))) None
in_more f mobiles p = ap (λ (n : ℕ). cond (nat_lt (position_or_len f (mobiles ++ p ∷ [])) n) (Some (position_or_len f (mobiles ++ p ∷ []))) None) (one_more mobiles p)

now_at : (f : Mobile → Bool) (mobiles : List Mobile) (p : Mobile) (b : Bool) →
    f p ≡ b →
    position_or_len f (mobiles ++ p ∷ []) ≡ cond (eqb (position_or_len f mobiles) (length mobiles)) (length mobiles + cond b 0 1) (position_or_len f mobiles)
now_at f mobiles p b is = position_or_len_push f mobiles p ∙ ap (λ (b : Bool). cond (eqb (position_or_len f mobiles) (length mobiles)) (length mobiles + cond b 0 1) (position_or_len f mobiles)) is

found_here : (f : Mobile → Bool) (mobiles : List Mobile) (p : Mobile) →
    f p ≡ true →
    position f (mobiles ++ p ∷ []) ≡ Some (position_or_len f mobiles)
found_here f mobiles p is = in_more f mobiles p ∙ at_here (position_or_len f mobiles) (length mobiles) (position_or_len f (mobiles ++ p ∷ [])) (few f mobiles) (now_at f mobiles p true is)

found_past : (f : Mobile → Bool) (mobiles : List Mobile) (p : Mobile) → f p ≡ false → position f (mobiles ++ p ∷ []) ≡ position f mobiles
found_past f mobiles p is = in_more f mobiles p ∙ at_past (position_or_len f mobiles) (length mobiles) (position_or_len f (mobiles ++ p ∷ [])) (few f mobiles) (now_at f mobiles p false is)

put_here : {X : Type 0} (xs : List X) (k : ℕ) (x : X) → k < length xs → slice_get (set xs k x) k ≡ Some x
put_here [] k x within = absurd (omega arith)
put_here (y ∷ ys) zero x within = refl
put_here (y ∷ ys) (suc k) x within = put_here ys k x (omega arith)

put_past : {X : Type 0} (xs : List X) (k n : ℕ) (x : X) → k ≢ n → slice_get (set xs k x) n ≡ slice_get xs n
put_past [] k n x other = refl
put_past (y ∷ ys) zero zero x other = absurd (other refl)
put_past (y ∷ ys) zero (suc n) x other = refl
put_past (y ∷ ys) (suc k) zero x other = refl
put_past (y ∷ ys) (suc k) (suc n) x other = put_past ys k n x (λ same. other (ap suc same))

-- one that connects
pub joins : (places : List (Option ℕ)) (mobiles : List Mobile) (p : Mobile) →
    p.number < 256 →
    IsIndex places mobiles →
    IsIndex (set places p.number (Some (place_in p.number mobiles))) (mobiles ++ p ∷ [])
joins places mobiles p known index number within = by_number (nat_eq p.number number) refl where
  there : p.number < length places
  there = slice_get_within places p.number (position (has_number p.number) mobiles) (index p.number known)

  by_number : (b : Bool) →
      nat_eq p.number number ≡ b →
      slice_get (set places p.number (Some (place_in p.number mobiles))) number ≡ Some (position (has_number number) (mobiles ++ p ∷ []))
  by_number true test =
      let same : p.number ≡ number = grind (arith, test) in
      ap (λ (n : ℕ). slice_get (set places p.number (Some (place_in p.number mobiles))) n) (sym same) ∙ put_here places p.number (Some (place_in p.number mobiles)) there
      ∙ ap (λ (n : ℕ). Some (Some (place_in n mobiles))) same ∙ ap (λ (o : Option ℕ). Some o) (sym (found_here (has_number number) mobiles p test))
  by_number false test =
      let other : p.number ≢ number = λ same. grind (arith, test, same) in
      put_past places p.number number (Some (place_in p.number mobiles)) other ∙ index number within ∙ ap (λ (o : Option ℕ). Some o) (sym (found_past (has_number number) mobiles p test))
