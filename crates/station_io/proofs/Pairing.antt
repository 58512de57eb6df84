-- SPDX-License-Identifier: MIT OR Apache-2.0
-- Two lists combined place by place.
use Rattle.std.proofs.Common.{◌≡◌, ℕ, zero, suc, List, [], ◌∷◌, ◌++◌, length, map, refl, sym, ap, ◌∙◌, subst, ⊎_elim, arith, append_assoc, append-nil}
use mathlib.Core.Option.{some, some-injective, some-ne-none}
use lib.ListN.{get_elem?}
use Rattle.ruled_relay.specs.Row.{EachAt}
use Rattle.station_io.specs.Pairs.{paired}
use Rattle.thread_crew.specs.Pairs.{EachPair}
use Rattle.thread_crew.proofs.Lists.{at_more}

module _ {A : Type 0} where
  -- what holds at each place and of one more
  pub each_more : (F : A → Type 0) (row now : List A) (a : A) →
      EachAt row (λ at x. F x) →
      F a →
      now ≡ row ++ a ∷ [] →
      EachAt now (λ at x. F x)
  each_more F row now a each new is at b here =
      ⊎_elim (λ old. each at b old) (λ (h : (at ≡ length row) × (a ≡ b)). subst F h.1 new) (at_more row a b at (ap (λ (r : List A). get_elem? r at) (sym is) ∙ here))

  -- the next of those that are left is done
  comes_next : (done now : List A) (z : A) (rest all : List A) → done ++ z ∷ rest ≡ all → now ≡ done ++ z ∷ [] → now ++ rest ≡ all
  comes_next done now z rest all whole put = ap (λ l. l ++ rest) put ∙ append_assoc done (z ∷ []) rest ∙ whole

module _ {A B : Type 0} where
  -- the image of the next is done
  pub map_next : (f : A → B) (done now : List B) (xs rest : List A) (x : A) (all : List B) →
      done ++ map f xs ≡ all →
      xs ≡ x ∷ rest →
      now ≡ done ++ f x ∷ [] →
      now ++ map f rest ≡ all
  map_next f done now xs rest x all whole is put = comes_next done now (f x) (map f rest) all (ap (λ l. done ++ map f l) (sym is) ∙ whole) put

  pub map_whole : (f : A → B) (done : List B) (xs : List A) (all : List B) → done ++ map f xs ≡ all → xs ≡ [] → done ≡ all
  map_whole f done xs all whole none = sym (append-nil done) ∙ ap (λ l. done ++ map f l) (sym none) ∙ whole

module _ {X Y Z : Type 0} (f : X → Y → Z) where
  -- what the next pair makes is done
  pub pair_next : (done now : List Z) (xs rest_x : List X) (ys rest_y : List Y) (x : X) (y : Y) (all : List Z)
      → done ++ paired f xs ys ≡ all → xs ≡ x ∷ rest_x → ys ≡ y ∷ rest_y → now ≡ done ++ f x y ∷ [] → now ++ paired f rest_x rest_y ≡ all
  pair_next done now xs rest_x ys rest_y x y all whole is_x is_y put =
      comes_next done now (f x y) (paired f rest_x rest_y) all ((λ i. done ++ paired f (sym is_x i) (sym is_y i)) ∙ whole) put

  pub pair_whole : (done : List Z) (xs : List X) (ys : List Y) (all : List Z) → done ++ paired f xs ys ≡ all → xs ≡ [] → done ≡ all
  pair_whole done xs ys all whole none = sym (append-nil done) ∙ ap (λ l. done ++ paired f l ys) (sym none) ∙ whole

  pub length_paired : (xs : List X) (ys : List Y) → length ys ≡ length xs → length (paired f xs ys) ≡ length xs
  length_paired [] [] e = refl
  length_paired [] (y ∷ ys) e = absurd (omega arith)
  length_paired (x ∷ xs) [] e = absurd (omega arith)
  length_paired (x ∷ xs) (y ∷ ys) e = ap suc (length_paired xs ys (omega arith))

  -- what is at a place of what the pairs make
  pub at_pair : (xs : List X) (ys : List Y) (at : ℕ) (x : X) (y : Y) →
      get_elem? xs at ≡ some x →
      get_elem? ys at ≡ some y →
      get_elem? (paired f xs ys) at ≡ some (f x y)
  at_pair [] ys at x y e h = absurd (some-ne-none x (sym e))
  at_pair (a ∷ xs) [] at x y e h = absurd (some-ne-none y (sym h))
  at_pair (a ∷ xs) (b ∷ ys) zero x y e h = λ i. some (f (some-injective a x e i) (some-injective b y h i))
  at_pair (a ∷ xs) (b ∷ ys) (suc at) x y e h = at_pair xs ys at x y e h

module _ {X Y : Type 0} where
  -- it holds of each pair where it holds of the first and of the others
  pub each_pair_next : (F : X → Y → Type 0) (xs rest_x : List X) (ys rest_y : List Y) (x : X) (y : Y) →
      xs ≡ x ∷ rest_x →
      ys ≡ y ∷ rest_y →
      F x y →
      EachPair F rest_x rest_y →
      EachPair F xs ys
  each_pair_next F xs rest_x ys rest_y x y is_x is_y first others zero a b e h =
      subst (λ (p : X × Y). F p.0 p.1)
      (λ i. (some-injective x a (ap (λ (l : List X). get_elem? l 0) (sym is_x) ∙ e) i, some-injective y b (ap (λ (l : List Y). get_elem? l 0) (sym is_y) ∙ h) i)) first
  each_pair_next F xs rest_x ys rest_y x y is_x is_y first others (suc at) a b e h =
      others at a b (ap (λ (l : List X). get_elem? l (suc at)) (sym is_x) ∙ e) (ap (λ (l : List Y). get_elem? l (suc at)) (sym is_y) ∙ h)

  pub each_pair_none : (F : X → Y → Type 0) (xs : List X) (ys : List Y) → xs ≡ [] → EachPair F xs ys
  each_pair_none F xs ys none at a b e h = absurd (some-ne-none a (sym (ap (λ (l : List X). get_elem? l at) (sym none) ∙ e)))

-- two lists have the same images where the images at each place are the same
pub same_images : {X Y B : Type 0} (f : X → B) (g : Y → B) (xs : List X) (ys : List Y) →
    length xs ≡ length ys →
    EachPair (λ x y. f x ≡ g y) xs ys →
    map f xs ≡ map g ys
same_images f g [] [] size same = refl
same_images f g [] (y ∷ ys) size same = absurd (omega arith)
same_images f g (x ∷ xs) [] size same = absurd (omega arith)
same_images f g (x ∷ xs) (y ∷ ys) size same = λ i. same 0 x y refl refl i ∷ same_images f g xs ys (omega arith) (λ at a b e h. same (suc at) a b e h) i

-- the images at each place of two lists are the same where the lists of images are
pub images_same : {X Y B : Type 0} (f : X → B) (g : Y → B) (xs : List X) (ys : List Y) →
    map f xs ≡ map g ys →
    EachPair (λ x y. f x ≡ g y) xs ys
images_same f g [] ys same at x y e h = absurd (some-ne-none x (sym e))
images_same f g (a ∷ xs) [] same at x y e h = absurd (some-ne-none y (sym h))
images_same {X} {Y} {B} f g (a ∷ xs) (b ∷ ys) same zero x y e h =
    let first : f a ≡ g b = some-injective (f a) (g b) (ap (λ (l : List B). get_elem? l 0) same) in ap f (sym (some-injective a x e)) ∙ first ∙ ap g (some-injective b y h)
images_same {X} {Y} {B} f g (a ∷ xs) (b ∷ ys) same (suc at) x y e h = images_same f g xs ys (let first : f a ∷ map f xs ≡ g b ∷ map g ys = same in cc) at x y e h
