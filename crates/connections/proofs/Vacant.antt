-- SPDX-License-Identifier: MIT OR Apache-2.0
-- The slots whose keys aren't in the index stay empty: an entry that is removed leaves its slot.
use Rattle.std.proofs.Common.{◌≡◌, ◌≢◌, ℕ, ◌==◌, ◌||◌, Bool, true, false, if◌then◌else◌, List, [], ◌∷◌, ◌++◌, Option, Some, None, option_map, refl, sym, subst, ap, ◌∙◌, inl, inr}
use Rattle.std.specs.Map.{lookup, remove_entry}
use Rattle.std.proofs.lemmas.Bool.{cases_Bool, cases_eq, eqb-false, ne_eqb, false≢true, or_parts, or_from}
use Rattle.controller_model.specs.Controller.{Entry}
use Rattle.connections.specs.Index.{at, is_key, IsVacated, OthersAreVacant, SameBut, Settles}
use Rattle.connections.proofs.Indexed.{IsMapped, found_behind, found_here, is_listed}

-- a key that isn't in the index is another than one that is
other_key : (ps : List (ℕ × ℕ)) (n key k : ℕ) → lookup (λ m. n == m) ps ≡ Some key → is_key k ps ≡ false → k ≢ key
other_key ps n key k found none same = false≢true (sym none ∙ ap (λ (j : ℕ). is_key j ps) same ∙ is_listed ps n key found)

-- no slot has an entry yet
pub none_yet : (slots : List (Option Entry)) → slots ≡ [] → OthersAreVacant slots []
none_yet slots empty = λ k none. ap (λ s. at s k) empty

-- the slot of a number changes
pub vacant_changed : (old new : List (Option Entry)) (ps : List (ℕ × ℕ)) (number key : ℕ) →
    lookup (λ k. number == k) ps ≡ Some key →
    SameBut key old new →
    OthersAreVacant old ps →
    OthersAreVacant new ps
vacant_changed old new ps number key found same vacant = λ k none. same k (other_key ps number key k found none) ∙ vacant k none

-- each slot changes
pub vacant_mapped : (f : Entry → Entry) (old new : List (Option Entry)) (ps : List (ℕ × ℕ)) →
    IsMapped f old new →
    OthersAreVacant old ps →
    OthersAreVacant new ps
vacant_mapped f old new ps mapped vacant = λ k none. mapped k ∙ ap (λ o. option_map f o) (vacant k none)

pub vacant_same : (old new : List (Option Entry)) (ps : List (ℕ × ℕ)) →
    ((k : ℕ) → at new k ≡ at old k) →
    OthersAreVacant old ps →
    OthersAreVacant new ps
vacant_same old new ps same vacant = λ k none. same k ∙ vacant k none

-- ---- a number leaves

-- a key that isn't left wasn't there, unless it is the one that left
was_no_key : (k key n : ℕ) (ps : List (ℕ × ℕ)) →
    lookup (λ m. n == m) ps ≡ Some key →
    k ≢ key →
    is_key k (remove_entry (λ m. n == m) ps) ≡ false →
    is_key k ps ≡ false
was_no_key k key n [] found other none = refl
was_no_key k key n (p ∷ ps) found other none =
    elim (cases_Bool (n == p.0)) [
      | inl hit ↦
          let left : is_key k ps ≡ false = sym (ap (λ b. is_key k (if b then ps else p ∷ remove_entry (λ m. n == m) ps)) hit) ∙ none in
          or_from (p.1 == k) (is_key k ps) (ne_eqb p.1 k (λ same. other (sym same ∙ found_here p ps n key hit found))) left
      | inr miss ↦
          let left : ((p.1 == k) || is_key k (remove_entry (λ m. n == m) ps)) ≡ false = sym (ap (λ b. is_key k (if b then ps else p ∷ remove_entry (λ m. n == m) ps)) miss) ∙ none in
          or_from (p.1 == k) (is_key k ps) (or_parts (p.1 == k) (is_key k (remove_entry (λ m. n == m) ps)) left).0
          (was_no_key k key n ps (found_behind p ps n key miss found) other (or_parts (p.1 == k) (is_key k (remove_entry (λ m. n == m) ps)) left).1)
    ]

vacated : (old mid new : List (Option Entry)) (ps ps_after : List (ℕ × ℕ)) (number key : ℕ) → lookup (λ k. number == k) ps ≡ Some key → SameBut key old mid → OthersAreVacant old ps →
    IsVacated number key mid new ps ps_after → OthersAreVacant new ps_after
vacated old mid new ps ps_after number key found same vacant is = λ k none.
    elim (cases_eq k key) [
      | inl here ↦ ap (λ (j : ℕ). at new j) here ∙ is.vacant
      | inr other ↦
          is.others k other ∙ same k other ∙ vacant k (was_no_key k key number ps found other (sym (ap (λ qs. is_key k qs) is.numbers) ∙ none))
    ]

-- an entry was put into its slot, and then it remains or is removed
pub vacant_settled : (gone : Bool) (old mid new : List (Option Entry)) (ps ps_after : List (ℕ × ℕ)) (number key : ℕ) → lookup (λ k. number == k) ps ≡ Some key → SameBut key old mid → OthersAreVacant old ps →
    Settles gone number key mid new ps ps_after → OthersAreVacant new ps_after
vacant_settled true old mid new ps ps_after number key found same vacant settles = vacated old mid new ps ps_after number key found same vacant settles
vacant_settled false old mid new ps ps_after number key found same vacant settles = λ k none.
    ap (λ slots. at slots k) settles.0 ∙ vacant_changed old mid ps number key found same vacant k (sym (ap (λ qs. is_key k qs) settles.1) ∙ none)

-- ---- one number more

key_in_front : (k : ℕ) (ps : List (ℕ × ℕ)) (q : ℕ × ℕ) → is_key k (ps ++ q ∷ []) ≡ false → (is_key k ps ≡ false) × ((q.1 == k) ≡ false)
key_in_front k [] q none = (refl, (or_parts (q.1 == k) false none).0)
key_in_front k (p ∷ ps) q none =
    let parts = or_parts (p.1 == k) (is_key k (ps ++ q ∷ [])) none in
    let behind = key_in_front k ps q parts.1 in
    (or_from (p.1 == k) (is_key k ps) parts.0 behind.0, behind.1)

-- the slots and the index have room first, and keep what they have
pub vacant_pushed : (old roomy new : List (Option Entry)) (ps roomy_ps ps_after : List (ℕ × ℕ)) (number key : ℕ) → roomy ≡ old → roomy_ps ≡ ps → ps_after ≡ roomy_ps ++ (number, key) ∷ [] →
    SameBut key roomy new → OthersAreVacant old ps → OthersAreVacant new ps_after
vacant_pushed old roomy new ps roomy_ps ps_after number key same_slots same_ps inserted same vacant = λ k none.
    let parts = key_in_front k ps (number, key) (sym (ap (λ qs. is_key k qs) (inserted ∙ ap (λ qs. qs ++ (number, key) ∷ []) same_ps)) ∙ none) in
    same k (λ here. eqb-false key k parts.1 (sym here)) ∙ ap (λ slots. at slots k) same_slots ∙ vacant k parts.0
