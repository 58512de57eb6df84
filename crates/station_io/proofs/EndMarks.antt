-- SPDX-License-Identifier: MIT OR Apache-2.0
-- An end mark that is last and occurs only once: if it was taken, nothing is left.
use Rattle.std.proofs.Common.{◌≡◌, List, [], ◌∷◌, ◌++◌, length, map, refl, sym, ap, ◌∙◌, arith, length-append, append-nil, append_assoc}

module _ {A : Type 0} where
  tails : (a b : A) (xs ys : List A) → a ∷ xs ≡ b ∷ ys → xs ≡ ys
  tails a b xs ys e = cc

  heads : (a b : A) (xs ys : List A) → a ∷ xs ≡ b ∷ ys → a ≡ b
  heads a b xs ys e = cc

  no_more : (xs ys : List A) (a : A) → [] ≡ xs ++ a ∷ ys → ⊥
  no_more xs ys a e = let l = ap length e in absurd (omega (arith, length-append xs (a ∷ ys), l))

  nil_of : (xs : List A) → length xs ≡ 0 → xs ≡ []
  nil_of [] e = refl
  nil_of (x ∷ xs) e = absurd (omega arith)

  -- what is before the mark
  pub same_before : (xs ys : List A) (m : A) → xs ++ m ∷ [] ≡ ys ++ m ∷ [] → xs ≡ ys
  same_before [] [] m e = refl
  same_before [] (y ∷ ys) m e = absurd (no_more ys [] m (tails m y [] (ys ++ m ∷ []) e))
  same_before (x ∷ xs) [] m e = absurd (no_more xs [] m (sym (tails x m (xs ++ m ∷ []) [] e)))
  same_before (x ∷ xs) (y ∷ ys) m e =
      let r = same_before xs ys m (tails x y (xs ++ m ∷ []) (ys ++ m ∷ []) e) in let h = heads x y (xs ++ m ∷ []) (ys ++ m ∷ []) e in cc

module _ {X A : Type 0} where
  -- nothing is behind the mark
  pub mark_last : (f : X → A) (m : A) → ((x : X) → f x ≡ m → ⊥) → (xs : List X) (before behind : List A) → map f xs ++ m ∷ [] ≡ before ++ m ∷ behind
      → behind ≡ []
  mark_last f m apart [] [] behind e = sym (tails m m [] behind e)
  mark_last f m apart [] (b ∷ before) behind e = absurd (no_more before behind m (tails m b [] (before ++ m ∷ behind) e))
  mark_last f m apart (x ∷ xs) [] behind e = absurd (apart x (heads (f x) m (map f xs ++ m ∷ []) behind e))
  mark_last f m apart (x ∷ xs) (b ∷ before) behind e = mark_last f m apart xs before behind (tails (f x) b (map f xs ++ m ∷ []) (before ++ m ∷ behind) e)

  -- all was taken, where the mark was
  pub all_taken : (f : X → A) (m : A) → ((x : X) → f x ≡ m → ⊥) → (xs : List X) (put taken before behind rest : List A)
      → put ≡ map f xs ++ m ∷ [] → taken ≡ before ++ m ∷ behind → put ≡ taken ++ rest → taken ≡ put
  all_taken f m apart xs put taken before behind rest is_put is_taken is =
      let e : map f xs ++ m ∷ [] ≡ before ++ m ∷ (behind ++ rest) = sym is_put ∙ is ∙ ap (λ t. t ++ rest) is_taken ∙ append_assoc before (m ∷ behind) rest in
      let none = mark_last f m apart xs before (behind ++ rest) e in
      let nothing : rest ≡ [] = nil_of rest (let l = ap length none in omega (arith, length-append behind rest)) in
      sym (is ∙ ap (λ r. taken ++ r) nothing ∙ append-nil taken)

  -- what has the same images is the same, where no two have one image
  pub map_apart : (f : X → A) → ((x y : X) → f x ≡ f y → x ≡ y) → (xs ys : List X) → map f xs ≡ map f ys → xs ≡ ys
  map_apart f one [] [] e = refl
  map_apart f one [] (y ∷ ys) e = absurd (let l = ap length e in omega arith)
  map_apart f one (x ∷ xs) [] e = absurd (let l = ap length e in omega arith)
  map_apart f one (x ∷ xs) (y ∷ ys) e =
      let h = one x y (heads (f x) (f y) (map f xs) (map f ys) e) in let r = map_apart f one xs ys (tails (f x) (f y) (map f xs) (map f ys) e) in cc
