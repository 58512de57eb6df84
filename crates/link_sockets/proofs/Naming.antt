-- SPDX-License-Identifier: MIT OR Apache-2.0
-- Lemmas: the names of links remain those of their places when a link is appended.
use Rattle.std.proofs.Common.{◌≡◌, ◌+◌, ℕ, List, [], ◌∷◌, ◌++◌, length, map, sym, ap, subst, ◌∙◌, arith}
use Rattle.std.proofs.lemmas.List.{length-map, length_push, map-id, map_push}
use Rattle.std.proofs.lemmas.List.FromFn.{map-range_with_len_more}
use Rattle.std.specs.List.{range_with_len}
use Rattle.link_sockets.specs.Naming.{AreNamed, place_of}
use Rattle.link_sockets.specs.declared.name.LinkName.{LinkName}

range_push : (n : ℕ) → range_with_len 0 (n + 1) ≡ range_with_len 0 n ++ n ∷ []
range_push n =
    let count : 0 + n ≡ n = omega (arith) in
    sym (map-id (range_with_len 0 (n + 1))) ∙ map-range_with_len_more (λ (k : ℕ). k) 0 n n count ∙ ap (λ (list : List ℕ). list ++ n ∷ []) (map-id (range_with_len 0 n))

-- the next name has the next place
pub AreNamed-push : (names : List LinkName) (name : LinkName) →
    AreNamed names →
    place_of name ≡ length names →
    AreNamed (names ++ name ∷ [])
AreNamed-push names name named next =
    let places : map place_of (names ++ name ∷ []) ≡ range_with_len 0 (length names) ++ length names ∷ [] =
    map_push place_of names name ∙ ap (λ (list : List ℕ). list ++ place_of name ∷ []) named ∙ ap (λ (k : ℕ). range_with_len 0 (length names) ++ k ∷ []) next in
    places ∙ sym (range_push (length names)) ∙ ap (range_with_len 0) (sym (length_push names name))

-- the same of what has names
pub AreNamed-push_of : {X : Type 0} (name_in : X → LinkName) → (xs : List X) (x : X) (place : ℕ) →
    AreNamed (map name_in xs) → length xs ≡ place → place_of (name_in x) ≡ place → AreNamed (map name_in (xs ++ x ∷ []))
AreNamed-push_of name_in xs x place named count is =
    let next : place_of (name_in x) ≡ length (map name_in xs) = is ∙ sym count ∙ sym (length-map xs name_in) in
    subst AreNamed (sym (map_push name_in xs x)) (AreNamed-push (map name_in xs) (name_in x) named next)
