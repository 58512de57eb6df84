-- SPDX-License-Identifier: MIT OR Apache-2.0
-- Rows of ends, place by place.
use Rattle.std.proofs.Common.{◌≡◌, ℕ, zero, suc, ◌<◌, List, [], ◌∷◌, length, map, set, slice_set, Option, Some, None, refl, sym, ap, ◌∙◌, subst, arith}
use mathlib.Core.Option.{some, some-injective, some-ne-none}
use lib.ListN.{get_elem?}
use Rattle.atomic_table.proofs.Lists.{set_again}
use Rattle.ruled_relay.specs.declared.item.Item.{Item}
use Rattle.ruled_relay.specs.declared.item.What.{What}
use Rattle.ruled_relay.specs.Ends.{EndView, IsDrained, Takes}
use Rattle.ruled_relay.specs.Row.{HasAt, Row, TakesAt}

module _ {A : Type 0} where
  pub within : (row : List A) (at : ℕ) (a : A) → get_elem? row at ≡ some a → at < length row
  within [] at a e = absurd (some-ne-none a (sym e))
  within (x ∷ xs) zero a e = omega arith
  within (x ∷ xs) (suc at) a e = let h = within xs at a e in omega arith

  pub there : (row : List A) (at : ℕ) → at < length row → (a : A) × (get_elem? row at ≡ some a)
  there [] at h = absurd (omega arith)
  there (x ∷ xs) zero h = (x, refl)
  there (x ∷ xs) (suc at) h = there xs at (omega arith)

  pub same_there : (row : List A) (at : ℕ) (a b : A) → get_elem? row at ≡ some a → get_elem? row at ≡ some b → a ≡ b
  same_there row at a b e f = some-injective a b (sym e ∙ f)

  pub has_here : (row : List A) (at : ℕ) (a : A) (F : A → Type 0) → get_elem? row at ≡ some a → HasAt at row F → F a
  has_here row at a F e h = subst F (same_there row at h.0 a h.1 e) h.2

  pub length_set : (row : List A) (at : ℕ) (a : A) → length (set row at a) ≡ length row
  length_set [] at a = refl
  length_set (x ∷ xs) zero a = refl
  length_set (x ∷ xs) (suc at) a = ap suc (length_set xs at a)

module _ {A B : Type 0} (f : A → B) where
  -- a new element at a place, of which f is the same, leaves f of each
  pub map_set : (row : List A) (at : ℕ) (a b : A) → get_elem? row at ≡ some a → f b ≡ f a → map f (set row at b) ≡ map f row
  map_set [] at a b here same = refl
  map_set (x ∷ xs) zero a b here same = λ k. (same ∙ sym (ap f (some-injective x a here))) k ∷ map f xs
  map_set (x ∷ xs) (suc at) a b here same = λ k. f x ∷ map_set xs at a b here same k

-- ---- one place

pub took_at : (row : Row) (at source : ℕ) (e d : EndView What) (what : What) → at ≡ source → get_elem? row at ≡ some e → Takes e what d
    → TakesAt source row (Some (record { source = source; what = what })) (slice_set row at d)
took_at row at source e d what is here takes = (refl, (e, d, subst (λ k. get_elem? row k ≡ some e) is here, ap (λ k. slice_set row k d) is, takes))

pub spent_at : (row : Row) (at source : ℕ) (e d : EndView What) (found : Option Item) → found ≡ None → at ≡ source → get_elem? row at ≡ some e → (d ≡ e) × IsDrained e.seen
    → TakesAt source row found (slice_set row at d)
spent_at row at source e d found gone is here spent =
    let same : slice_set row at d ≡ row = ap (λ y. slice_set row at y) spent.0 ∙ set_again row at e here in
    subst (λ r. TakesAt source row r (slice_set row at d)) (sym gone) (same, (e, subst (λ k. get_elem? row k ≡ some e) is here, spent.1))
