-- SPDX-License-Identifier: MIT OR Apache-2.0
-- Lemmas on items and the values that they represent, and on lists whose elements pass tests.
use Rattle.std.proofs.Common.{◌≡◌, ℕ, ◌==◌, ◌&&◌, ◌/◌, ◌%◌, List, [], ◌∷◌, Option, Some, None, length, refl, arith}
use Rattle.std.specs.Option.{option_or}
use Rattle.std.proofs.lemmas.Bool.Decides.{nat_tests}
use Rattle.toml.specs.View.{items_view}
use Rattle.toml.specs.declared.value.Value.{Value}
use Rattle.settings.specs.Faults.{count_items}

pub count_items_view : (values : List Value) → count_items (items_view values) ≡ length values
count_items_view [] = refl
count_items_view (v ∷ vs) = let rest : count_items (items_view vs) ≡ length vs = count_items_view vs in omega arith

-- a key without a default has what is there
pub or_none : {X : Type 0} (o : Option X) → option_or o None ≡ o
or_none None = refl
or_none (Some x) = refl

-- base station identity codes are the same where their two colour codes are
pub same_bsic : (n m : ℕ) → ((n / 8 == m / 8) && (n % 8 == m % 8)) ≡ (n == m)
same_bsic n m = grind (arith, nat_tests)
