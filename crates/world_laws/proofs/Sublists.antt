-- SPDX-License-Identifier: MIT OR Apache-2.0
-- Lists from which some members were removed.
use Rattle.world_laws.proofs.Prelude.{◌≡◌, ℕ, ◌≤◌, zero, suc, List, [], ◌∷◌, ◌++◌, length, get_or, set, refl, arith, AllByRecursion}
use Rattle.world_laws.proofs.Prelude.{flat_map}

pub data Sub {X : Type 0} : List X → List X → Type 0 where
  ends : Sub [] []
  keeps : {x : X} {xs ys : List X} → Sub xs ys → Sub (x ∷ xs) (x ∷ ys)
  drops : {y : X} {xs ys : List X} → Sub xs ys → Sub xs (y ∷ ys)

pub sub_itself : {X : Type 0} (xs : List X) → Sub xs xs
sub_itself [] = ends
sub_itself (x ∷ xs) = keeps (sub_itself xs)

pub sub_none : {X : Type 0} (xs : List X) → Sub [] xs
sub_none [] = ends
sub_none (x ∷ xs) = drops (sub_none xs)

pub sub_behind : {X : Type 0} (front xs : List X) → Sub xs (front ++ xs)
sub_behind [] xs = sub_itself xs
sub_behind (x ∷ front) xs = drops (sub_behind front xs)

pub sub_front : {X : Type 0} (xs more : List X) → Sub xs (xs ++ more)
sub_front [] more = sub_none more
sub_front (x ∷ xs) more = keeps (sub_front xs more)

pub sub_append : {X : Type 0} {xs ys us vs : List X} → Sub xs ys → Sub us vs → Sub (xs ++ us) (ys ++ vs)
sub_append ends more = more
sub_append (keeps sub) more = keeps (sub_append sub more)
sub_append (drops sub) more = drops (sub_append sub more)

pub sub_flat_map : {X Y : Type 0} (f : X → List Y) {xs ys : List X} → Sub xs ys → Sub (flat_map f xs) (flat_map f ys)
sub_flat_map f ends = ends
sub_flat_map f (keeps {x} sub) = sub_append (sub_itself (f x)) (sub_flat_map f sub)
sub_flat_map f (drops {y} {xs} sub) = sub_append (sub_none (f y)) (sub_flat_map f sub)

pub sub_trans : {X : Type 0} {xs ys zs : List X} → Sub xs ys → Sub ys zs → Sub xs zs
sub_trans sub ends = sub
sub_trans (keeps sub) (keeps more) = keeps (sub_trans sub more)
sub_trans (drops sub) (keeps more) = drops (sub_trans sub more)
sub_trans sub (drops more) = drops (sub_trans sub more)

pub sub_length : {X : Type 0} {xs ys : List X} → Sub xs ys → length xs ≤ length ys
sub_length ends = omega arith
sub_length (keeps sub) = let fewer = sub_length sub in omega arith
sub_length (drops sub) = let fewer = sub_length sub in omega arith

pub sub_all : {X : Type 0} (P : X → Type 0) {xs ys : List X} → Sub xs ys → AllByRecursion P ys → AllByRecursion P xs
sub_all P ends all = tt
sub_all P (keeps sub) all = (all.0, sub_all P sub all.1)
sub_all P (drops sub) all = sub_all P sub all.1

pub sub_nothing : {X : Type 0} {xs : List X} → Sub xs [] → xs ≡ []
sub_nothing ends = refl

-- what holds of a member that changed, and of each that didn't, holds of all
pub set_related : {A : Type 0} (R : A → A → Type 0) →
    ((x : A) → R x x) →
    (xs : List A) (d : A) (k j : ℕ) (a : A) →
    R a (get_or xs k d) →
    R (get_or (set xs k a) j d) (get_or xs j d)
set_related R same [] d k j a is = same d
set_related R same (x ∷ xs) d zero zero a is = is
set_related R same (x ∷ xs) d zero (suc j) a is = same (get_or xs j d)
set_related R same (x ∷ xs) d (suc k) zero a is = same x
set_related R same (x ∷ xs) d (suc k) (suc j) a is = set_related R same xs d k j a is
