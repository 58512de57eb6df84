-- SPDX-License-Identifier: MIT OR Apache-2.0
-- Lemmas: comparing a packet with the one that is written for its entry.
use Rattle.std.proofs.Common.{◌≡◌, ℕ, ◌+◌, ◌≤◌, Bool, true, false, not, List, [], ◌∷◌, ◌++◌, length, drop, refl, sym, ap, ◌∙◌, arith}
use Rattle.std.specs.Str.{bytes_eq}
use Rattle.std.proofs.lemmas.List.{drop_all}
use Rattle.run_record.specs.declared.entry.Stamped.{Stamped}
use Rattle.run_record.specs.declared.next.Fault.TheVariants as faults
use Rattle.run_record.specs.declared.next.Next.TheVariants.{Read, Wrong}
use Rattle.run_record.specs.declared.place.Place.{Place}
use Rattle.run_record.specs.Reading.{compared, first_difference, judged, seen_in}
use Rattle.run_record.specs.Record.{record_of}
use Rattle.run_record.proofs.Written.{if_false, if_true}

-- ---- the first difference

nothing_right : (xs : List ℕ) → first_difference xs [] ≡ 0
nothing_right [] = refl
nothing_right (x ∷ xs) = refl

-- the octets at the right end where the walk is
pub right_ends : (at n : ℕ) (xs ys : List ℕ) → at + first_difference (drop at xs) (drop at ys) ≡ n → length ys ≤ at → at ≡ n
right_ends at n xs ys same past =
    let none : first_difference (drop at xs) (drop at ys) ≡ 0 = ap (first_difference (drop at xs)) (drop_all at ys past) ∙ nothing_right (drop at xs) in
    omega (arith, same, none)

-- ---- what is judged

-- what `!=` says of octets
not_back : (b a : Bool) → not b ≡ not a → b ≡ a
not_back true true is = refl
not_back true false is = sym is
not_back false true is = sym is
not_back false false is = refl

pub ne_differ : (x y : List ℕ) (b : Bool) → b ≡ not (bytes_eq x y) → b ≡ true → bytes_eq x y ≡ false
ne_differ x y b is so = not_back (bytes_eq x y) false (sym is ∙ so)

pub ne_same : (x y : List ℕ) (b : Bool) → b ≡ not (bytes_eq x y) → b ≡ false → bytes_eq x y ≡ true
ne_same x y b is so = not_back (bytes_eq x y) true (sym is ∙ so)

-- what was written for the entry that was seen
compared_as : (place : Place) (octets old new shown : List ℕ) (seen : Stamped) → seen ≡ seen_in octets → old ≡ []
    → new ≡ old ++ record_of place seen → shown ≡ new → compared octets seen shown ≡ judged place octets
compared_as place octets old new shown seen seen_is none written shown_is =
    ap (compared octets seen) (shown_is ∙ written ∙ ap (λ (front : List ℕ). front ++ record_of place seen) none)
    ∙ ap (λ (this : Stamped). compared octets this (record_of place this)) seen_is

pub judged_other : (place : Place) (octets old new shown : List ℕ) (seen : Stamped) (at : ℕ) → seen ≡ seen_in octets → old ≡ []
    → new ≡ old ++ record_of place seen → shown ≡ new → bytes_eq octets shown ≡ false → at ≡ first_difference octets shown
    → Wrong (faults.Octet at) ≡ judged place octets
judged_other place octets old new shown seen at seen_is none written shown_is differ at_is =
    ap (λ (n : ℕ). Wrong (faults.Octet n)) at_is
    ∙ sym (if_false (bytes_eq octets shown) (Read seen (length octets)) (Wrong (faults.Octet (first_difference octets shown))) differ)
    ∙ compared_as place octets old new shown seen seen_is none written shown_is

pub judged_same : (place : Place) (octets old new shown : List ℕ) (seen : Stamped) → seen ≡ seen_in octets → old ≡ []
    → new ≡ old ++ record_of place seen → shown ≡ new → bytes_eq octets shown ≡ true → Read seen (length octets) ≡ judged place octets
judged_same place octets old new shown seen seen_is none written shown_is same =
    sym (if_true (bytes_eq octets shown) (Read seen (length octets)) (Wrong (faults.Octet (first_difference octets shown))) same)
    ∙ compared_as place octets old new shown seen seen_is none written shown_is
