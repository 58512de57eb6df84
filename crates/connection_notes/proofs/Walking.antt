-- SPDX-License-Identifier: MIT OR Apache-2.0
-- What is noted of a list so far, and how a place of it carries it on.
use Rattle.std.proofs.Common.{◌≡◌, ℕ, zero, suc, ◌+◌, ◌<◌, ◌≤◌, List, [], ◌∷◌, ◌++◌, get_or, length, map, drop, option_to_list, slice_get}
use Rattle.std.proofs.Common.{refl, sym, ap, ◌∙◌, subst, append_assoc, append-nil, arith}
use Rattle.std.proofs.Math.ListN.{drop_of_length-le}
use Rattle.std.proofs.lemmas.Grind.{flat_map-append}
use Rattle.std.proofs.lemmas.List.{length-append, map-append}
use Rattle.std.specs.List.{flat_map}

-- ---- a place of a list

front_at : {X : Type 0} (xs : List X) (n : ℕ) → option_to_list (slice_get xs n) ++ drop (suc n) xs ≡ drop n xs
front_at [] zero = refl
front_at [] (suc n) = refl
front_at (x ∷ xs) zero = refl
front_at (x ∷ xs) (suc n) = front_at xs n

next_place : (n : ℕ) → n + 1 ≡ suc n
next_place n = omega arith

pub walk_more : {X Y : Type 0} (f : X → List Y) (before after whole : List Y) (xs : List X) (place : ℕ)
    → before ++ flat_map f (drop place xs) ≡ whole → after ≡ before ++ flat_map f (option_to_list (slice_get xs place))
    → after ++ flat_map f (drop (place + 1) xs) ≡ whole
walk_more {X} {Y} f before after whole xs place some is =
    let first : List X = option_to_list (slice_get xs place) in
    let rest : List X = drop (suc place) xs in
    ap (λ (n : ℕ). after ++ flat_map f (drop n xs)) (next_place place)
    ∙ ap (λ (ys : List Y). ys ++ flat_map f rest) is
    ∙ append_assoc before (flat_map f first) (flat_map f rest)
    ∙ ap (λ (ys : List Y). before ++ ys) (sym (flat_map-append f first rest) ∙ ap (flat_map f) (front_at xs place))
    ∙ some

pub walk_all : {X Y : Type 0} (f : X → List Y) (now whole : List Y) (xs : List X) (place : ℕ) → now ++ flat_map f (drop place xs) ≡ whole
    → length xs ≤ place → now ≡ whole
walk_all {X} {Y} f now whole xs place some all =
    sym (append-nil now) ∙ ap (λ (ys : List X). now ++ flat_map f ys) (sym (drop_of_length-le xs all)) ∙ some

pub map_more : {X Y : Type 0} (f : X → Y) (before after whole : List Y) (xs : List X) (place : ℕ)
    → before ++ map f (drop place xs) ≡ whole → after ≡ before ++ map f (option_to_list (slice_get xs place))
    → after ++ map f (drop (place + 1) xs) ≡ whole
map_more {X} {Y} f before after whole xs place some is =
    let first : List X = option_to_list (slice_get xs place) in
    let rest : List X = drop (suc place) xs in
    ap (λ (n : ℕ). after ++ map f (drop n xs)) (next_place place)
    ∙ ap (λ (ys : List Y). ys ++ map f rest) is
    ∙ append_assoc before (map f first) (map f rest)
    ∙ ap (λ (ys : List Y). before ++ ys) (sym (map-append f first rest) ∙ ap (map f) (front_at xs place))
    ∙ some

pub map_all : {X Y : Type 0} (f : X → Y) (now whole : List Y) (xs : List X) (place : ℕ) → now ++ map f (drop place xs) ≡ whole
    → length xs ≤ place → now ≡ whole
map_all {X} {Y} f now whole xs place some all =
    sym (append-nil now) ∙ ap (λ (ys : List X). now ++ map f ys) (sym (drop_of_length-le xs all)) ∙ some
