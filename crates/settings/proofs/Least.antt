-- SPDX-License-Identifier: MIT OR Apache-2.0
-- Among sorted keys, the first unknown one is the least unknown one.
use Rattle.std.proofs.Common.{◌≡◌, false, not, List, [], ◌∷◌, Option, option_map, String, Global, Less, string_bytes, nat_cmp, refl, find, inl, inr}
use Rattle.std.proofs.lemmas.Bool.{cases_Bool}
use Rattle.std.proofs.lemmas.Cmp.{nat_list_cmp_total}
use Rattle.std.specs.Cmp.Lexicographic.{slice_cmp}
use Rattle.std.specs.List.{AllByRecursion}
use Rattle.std.specs.List.Sorted.{IsStrictlySortedBy}
use Rattle.std.specs.Map.{keys_of}
use Rattle.std.specs.Ordering.{is_lt}
use Rattle.std.specs.String.{string_cmp}
use Rattle.toml.specs.View.{members_view}
use Rattle.toml.specs.declared.value.Value.{Value}
use Rattle.settings.specs.declared.key.Key.{Key}
use Rattle.settings.specs.Faults.{is_known, lesser, least_unknown}

abbrev Name : Type 0
Name = String Global

-- the first name that isn't known
abbrev pub first_unknown : List Key → List Name → Option Name
first_unknown known names = find (λ name. not (is_known known (string_bytes name))) names

not_less : (name other : Name) → string_cmp name other ≡ Less → is_lt (slice_cmp nat_cmp (string_bytes other) (string_bytes name)) ≡ false
not_less name other less = rw (nat_list_cmp_total.antisymm (string_bytes other) (string_bytes name), less) refl

-- a name below others remains the lesser beside any of them
lesser_first : (known : List Key) (name : Name) (names : List Name) → AllByRecursion (λ y. string_cmp name y ≡ Less) names
    → lesser (string_bytes name) (option_map string_bytes (first_unknown known names)) ≡ string_bytes name
lesser_first known name [] below = refl
lesser_first known name (other ∷ names) below =
    elim (cases_Bool (is_known known (string_bytes other))) [
      | inl hit ↦ rw hit (lesser_first known name names below.1)
      | inr miss ↦ rw (miss, not_less name other below.0) refl
    ]

pub least_first : (known : List Key) (es : List (Name × Value)) → IsStrictlySortedBy string_cmp (keys_of es)
    → option_map string_bytes (first_unknown known (keys_of es)) ≡ least_unknown known (members_view es)
unfolding IsStrictlySortedBy
least_first known [] rising = refl
least_first known (e ∷ es) rising =
    elim (cases_Bool (is_known known (string_bytes e.0))) [
      | inl hit ↦ rw hit (least_first known es rising.1)
      | inr miss ↦ rw (miss, ← least_first known es rising.1, lesser_first known e.0 (keys_of es) rising.0) refl
    ]
