-- SPDX-License-Identifier: MIT OR Apache-2.0
-- How many octets a packet that is read has.
use Rattle.std.proofs.Common.{◌≡◌, ℕ, ◌+◌, ◌<◌, ◌≤◌, ◌==◌, Bool, true, false, if◌then◌else◌, ◌&&◌, List, length, take, refl, subst, arith}
use Rattle.std.specs.Prelude.{nat_le, nat_lt}
use Rattle.std.specs.Str.{bytes_eq}
use Rattle.std.proofs.lemmas.Bool.{ltb-false}
use Rattle.std.proofs.lemmas.List.{length-take-le}
use Rattle.frame_pictures.specs.Capture.{file_header}
use Rattle.run_record.specs.declared.entry.Stamped.{Stamped}
use Rattle.run_record.specs.declared.next.Fault.TheVariants as faults
use Rattle.run_record.specs.declared.next.Next.{Next}
use Rattle.run_record.specs.declared.next.Next.TheVariants.{Cut, End, Read, Wrong}
use Rattle.run_record.specs.declared.next.Opening.{Opening}
use Rattle.run_record.specs.declared.next.Opening.TheVariants as openings
use Rattle.run_record.specs.declared.next.TheConstants.{MAX_PACKET}
use Rattle.run_record.specs.declared.place.Place.{Place}
use Rattle.run_record.specs.Reading.{compared, first_difference, four_at, judged, measured, next_of, opening_of, seen_in, sized}
use Rattle.run_record.specs.Record.{record_of}

-- a packet has some of so many octets
abbrev pub Fits : ℕ → Next → Type 0
Fits n (Read this size) = (0 < size) × (size ≤ n)
Fits n End = Unit {0}
Fits n Cut = Unit {0}
Fits n (Wrong fault) = Unit {0}

either_fits : (n : ℕ) (b : Bool) (x y : Next) → (b ≡ true → Fits n x) → (b ≡ false → Fits n y) → Fits n (if b then x else y)
either_fits n true x y one two = one refl
either_fits n false x y one two = two refl

compared_fits : (n : ℕ) (octets : List ℕ) (seen : Stamped) (written : List ℕ) → 0 < length octets → length octets ≤ n
    → Fits n (compared octets seen written)
compared_fits n octets seen written some within = either_fits n (bytes_eq octets written) (Read seen (length octets))
    (Wrong (faults.Octet (first_difference octets written))) (λ same. (some, within)) (λ other. tt)

judged_fits : (n : ℕ) (place : Place) (octets : List ℕ) → 0 < length octets → length octets ≤ n → Fits n (judged place octets)
judged_fits n place octets some within = compared_fits n octets (seen_in octets) (record_of place (seen_in octets)) some within

whole_fits : (place : Place) (size : ℕ) (octets : List ℕ) → 16 + size ≤ length octets → Fits (length octets) (judged place (take (16 + size) octets))
whole_fits place size octets long =
    let whole : length (take (16 + size) octets) ≡ 16 + size = length-take-le (16 + size) octets long in
    judged_fits (length octets) place (take (16 + size) octets) (omega arith) (omega arith)

sized_fits : (place : Place) (size : ℕ) (octets : List ℕ) → Fits (length octets) (sized place size octets)
sized_fits place size octets = either_fits (length octets) (nat_lt (length octets) (16 + size)) Cut (judged place (take (16 + size) octets))
    (λ short. tt) (λ long. whole_fits place size octets (ltb-false (length octets) (16 + size) long))

measured_fits : (place : Place) (octets : List ℕ) → Fits (length octets) (measured place octets)
measured_fits place octets = either_fits (length octets) (four_at 8 octets == four_at 12 octets && nat_le (four_at 8 octets) MAX_PACKET)
    (sized place (four_at 8 octets) octets) (Wrong faults.Length) (λ right. sized_fits place (four_at 8 octets) octets) (λ wrong. tt)

next_fits : (place : Place) (octets : List ℕ) → Fits (length octets) (next_of place octets)
next_fits place octets = either_fits (length octets) (length octets == 0) End (if nat_lt (length octets) 16 then Cut else measured place octets)
    (λ none. tt) (λ some. either_fits (length octets) (nat_lt (length octets) 16) Cut (measured place octets) (λ short. tt)
    (λ long. measured_fits place octets))

pub read_fits : (place : Place) (octets : List ℕ) (this : Stamped) (size : ℕ) → next_of place octets ≡ Read this size
    → (0 < size) × (size ≤ length octets)
read_fits place octets this size is = subst (Fits (length octets)) is (next_fits place octets)

-- ---- the file's header

abbrev HasHeader : ℕ → Opening → Type 0
HasHeader n openings.Record = 24 ≤ n
HasHeader n openings.Cut = Unit {0}
HasHeader n openings.Other = Unit {0}

either_has : (n : ℕ) (b : Bool) (x y : Opening) → (b ≡ true → HasHeader n x) → (b ≡ false → HasHeader n y) → HasHeader n (if b then x else y)
either_has n true x y one two = one refl
either_has n false x y one two = two refl

opening_has : (octets : List ℕ) → HasHeader (length octets) (opening_of octets)
opening_has octets = either_has (length octets) (nat_lt (length octets) 24)
    (if bytes_eq octets (take (length octets) file_header) then openings.Cut else openings.Other)
    (if bytes_eq (take 24 octets) file_header then openings.Record else openings.Other)
    (λ short. either_has (length octets) (bytes_eq octets (take (length octets) file_header)) openings.Cut openings.Other (λ same. tt) (λ other. tt))
    (λ long. either_has (length octets) (bytes_eq (take 24 octets) file_header) openings.Record openings.Other
    (λ same. ltb-false (length octets) 24 long) (λ other. tt))

pub header_fits : (octets : List ℕ) → opening_of octets ≡ openings.Record → 24 ≤ length octets
header_fits octets is = subst (HasHeader (length octets)) is (opening_has octets)
