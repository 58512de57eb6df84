-- SPDX-License-Identifier: MIT OR Apache-2.0
-- Lists that are some of others, each member at most once and in order; and beginnings of lists.
use Rattle.std.proofs.Common.{ℕ, List, [], ◌∷◌, ◌++◌, refl, sym, ap, subst, ◌∙◌, inl, inr, append_assoc}
use Rattle.std.proofs.lemmas.Grind.{flat_map-append}
use Rattle.std.specs.List.{flat_map}
use Rattle.controller_model.specs.LifeLaws.Downlink.{IsPart}
use Rattle.octets.specs.Lists.{IsPrefix}

-- ---- parts, as in crates/controller_model/proofs/LifeLaws/Ordered.antt

part_skip : (xs : List (List ℕ)) (y : List ℕ) (ys : List (List ℕ)) → IsPart xs ys → IsPart xs (y ∷ ys)
part_skip [] y ys part = tt
part_skip (x ∷ xs) y ys part = inr part

pub part_same : (xs : List (List ℕ)) → IsPart xs xs
part_same [] = tt
part_same (x ∷ xs) = inl (refl, part_same xs)

pub part_front : (xs ys : List (List ℕ)) → IsPart xs (xs ++ ys)
part_front [] ys = tt
part_front (x ∷ xs) ys = inl (refl, part_front xs ys)

part_behind : (ys zs : List (List ℕ)) → IsPart zs (ys ++ zs)
part_behind [] zs = part_same zs
part_behind (y ∷ ys) zs = part_skip zs y (ys ++ zs) (part_behind ys zs)

part_beside : (xs ys zs : List (List ℕ)) → IsPart ys zs → IsPart ys (xs ++ zs)
part_beside [] ys zs part = part
part_beside (x ∷ xs) ys zs part = part_skip ys x (xs ++ zs) (part_beside xs ys zs part)

pub part_append : (xs ys us vs : List (List ℕ)) → IsPart xs ys → IsPart us vs → IsPart (xs ++ us) (ys ++ vs)
part_append [] ys us vs front behind = part_beside ys us vs behind
part_append (x ∷ xs) [] us vs front behind = absurd front
part_append (x ∷ xs) (y ∷ ys) us vs (inl first) behind = inl (first.0, part_append xs ys us vs first.1 behind)
part_append (x ∷ xs) (y ∷ ys) us vs (inr others) behind = inr (part_append (x ∷ xs) ys us vs others behind)

pub part_trans : (zs xs ys : List (List ℕ)) → IsPart xs ys → IsPart ys zs → IsPart xs zs
part_trans zs [] ys first then = tt
part_trans zs (x ∷ xs) [] first then = absurd first
part_trans [] (x ∷ xs) (y ∷ ys) first then = absurd then
part_trans (z ∷ zs) (x ∷ xs) (y ∷ ys) first (inr then) = inr (part_trans zs (x ∷ xs) (y ∷ ys) first then)
part_trans (z ∷ zs) (x ∷ xs) (y ∷ ys) (inl first) (inl then) = inl (first.0 ∙ then.0, part_trans zs xs ys first.1 then.1)
part_trans (z ∷ zs) (x ∷ xs) (y ∷ ys) (inr first) (inl then) = inr (part_trans zs (x ∷ xs) ys first then.1)

-- ---- beginnings

pub prefix_trans : {X : Type 0} (xs ys zs : List X) → IsPrefix xs ys → IsPrefix ys zs → IsPrefix xs zs
prefix_trans xs ys zs (more, is) (rest, so) = (more ++ rest, sym (append_assoc xs more rest) ∙ ap (λ us. us ++ rest) is ∙ so)

pub prefix_flat_map : {X Y : Type 0} (f : X → List Y) (xs ys : List X) → IsPrefix xs ys → IsPrefix (flat_map f xs) (flat_map f ys)
prefix_flat_map f xs ys (rest, is) = (flat_map f rest, sym (flat_map-append f xs rest) ∙ ap (flat_map f) is)

pub part_of_prefix : (xs ys : List (List ℕ)) → IsPrefix xs ys → IsPart xs ys
part_of_prefix xs ys (rest, is) = subst (IsPart xs) is (part_front xs rest)
