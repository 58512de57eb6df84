-- SPDX-License-Identifier: MIT OR Apache-2.0
-- Entries in slots, and an index of the entries: rising numbers, each with the key of its slot. No
-- public contract uses these definitions.
use Rattle.std.specs.Prelude.{◌≡◌, ◌≢◌, ℕ, ◌==◌, ◌<◌, ◌||◌, Bool, true, false}
use Rattle.std.specs.Prelude.{List, [], ◌∷◌, ◌++◌, length, slice_index_or, Option, Some, None}
use Rattle.std.specs.Option.{option_to_list}
use Rattle.std.specs.Map.{lookup, remove_entry}
use Rattle.controller_model.specs.Controller.{Entry}
use Rattle.connections.specs.Entries.{is_removed}

-- the numbers with their keys, the capacity of the list, and how many further numbers the hash map
-- has room for
pub record IndexState : Type 0 where
  pub entries : List (ℕ × ℕ)
  pub room : ℕ
  pub spare : ℕ

-- the number at a place
abbrev pub number_in : List (ℕ × ℕ) → ℕ → ℕ
number_in ps place = (slice_index_or ps place (0, 0)).0

-- the numbers rise
abbrev pub NumbersRise : List (ℕ × ℕ) → Type 0
NumbersRise ps = (i j : ℕ) → i < j → j < length ps → number_in ps i < number_in ps j

-- both lists give a number the same key
abbrev pub AreSame : List (ℕ × ℕ) → List (ℕ × ℕ) → Type 0
AreSame keys ps = (n : ℕ) → lookup (λ k. n == k) keys ≡ lookup (λ k. n == k) ps

-- all numbers are below this one
abbrev pub AreNumbersBelow : ℕ → List (ℕ × ℕ) → Type 0
AreNumbersBelow number ps = (i : ℕ) → i < length ps → number_in ps i < number

-- the number is at this place
pub record IsPlaceOf (ps : List (ℕ × ℕ)) (number place : ℕ) : Type 0 where
  pub within : place < length ps
  pub is : number_in ps place ≡ number

-- the number is at no place
abbrev pub HasNoPlace : List (ℕ × ℕ) → ℕ → Type 0
HasNoPlace ps number = (i : ℕ) → i < length ps → number_in ps i ≢ number

-- the entry in the slot of a key; None if the slot is empty
abbrev pub at : List (Option Entry) → ℕ → Option Entry
at slots key = slice_index_or slots key None

-- the entries, in the order of the index
abbrev pub listed : List (Option Entry) → List (ℕ × ℕ) → List Entry
listed slots [] = []
listed slots (p ∷ ps) = option_to_list (at slots p.1) ++ listed slots ps

-- the entry has this number and isn't removed
abbrev pub HasNumber : ℕ → Option Entry → Type 0
HasNumber number None = ⊥
HasNumber number (Some e) =
    (e.connection.number ≡ number) × (is_removed e.connection.state ≡ false)

abbrev pub is_key : ℕ → List (ℕ × ℕ) → Bool
is_key key [] = false
is_key key (p ∷ ps) = (p.1 == key) || is_key key ps

-- the slots of all keys but this one are as before
abbrev pub SameBut : ℕ → List (Option Entry) → List (Option Entry) → Type 0
SameBut key old new = (k : ℕ) → k ≢ key → at new k ≡ at old k

abbrev pub is_gone : Option Entry → Bool
is_gone None = false
is_gone (Some e) = is_removed e.connection.state

-- the slot is empty, the number is removed from the index, and all else is as before
pub record IsVacated (number key : ℕ) (old new : List (Option Entry)) (ps ps_after : List (ℕ × ℕ))
    : Type 0 where
  pub others : SameBut key old new
  pub vacant : at new key ≡ None
  pub numbers : ps_after ≡ remove_entry (λ k. number == k) ps

-- if the entry is gone (`true`), its slot is empty and its number is out of the index; otherwise
-- nothing changes
abbrev pub Settles : Bool → ℕ → ℕ → List (Option Entry) → List (Option Entry) →
    List (ℕ × ℕ) → List (ℕ × ℕ) → Type 0
Settles true number key old new ps ps_after = IsVacated number key old new ps ps_after
Settles false number key old new ps ps_after = (new ≡ old) × (ps_after ≡ ps)

-- each number has the key of its entry, and no key occurs twice
abbrev pub IsIndex : List (Option Entry) → List (ℕ × ℕ) → Type 0
IsIndex slots [] = Unit {0}
IsIndex slots (p ∷ ps) =
    HasNumber p.0 (at slots p.1) × (is_key p.1 ps ≡ false) × IsIndex slots ps

-- a slot whose key isn't in the index is empty
abbrev pub OthersAreVacant : List (Option Entry) → List (ℕ × ℕ) → Type 0
OthersAreVacant slots ps = (key : ℕ) → is_key key ps ≡ false → at slots key ≡ None

-- each number has its entry in a slot of its own, and all other slots are empty
pub record IsTable (slots : List (Option Entry)) (ps : List (ℕ × ℕ)) : Type 0 where
  pub index : IsIndex slots ps
  pub others : OthersAreVacant slots ps
