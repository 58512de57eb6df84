-- SPDX-License-Identifier: MIT OR Apache-2.0
-- Lemmas: a beginning of a file is read up to its last whole packet.
use Rattle.std.proofs.Common.{◌≡◌, ℕ, zero, suc, ◌+◌, ◌<◌, ◌≤◌, ◌==◌, true, if◌then◌else◌, ◌&&◌, List, [], ◌∷◌, ◌++◌, length, take, drop, refl, sym, ap, subst, ◌∙◌, inl, inr, arith}
use Rattle.std.specs.Prelude.{nat_le, nat_lt}
use Rattle.std.specs.Str.{bytes_eq}
use Rattle.std.proofs.lemmas.Bool.{cases_lt, eq-eqb, le-leb, lt-ltb}
use Rattle.std.proofs.lemmas.List.{append_assoc, drop-append-le, take-append-drop, take-append-le}
use Rattle.std.proofs.lemmas.Slice.Eq.{bytes_eq-Decides}
use Rattle.std.proofs.Math.Seq.{drop-append_seam, take-append_seam}
use Rattle.frame_pictures.specs.Capture.{file_header}
use Rattle.run_record.specs.declared.entry.Stamped.{Stamped}
use Rattle.run_record.specs.declared.next.Fault.TheVariants as faults
use Rattle.run_record.specs.declared.next.Next.TheVariants.{Cut, End, Wrong}
use Rattle.run_record.specs.declared.next.Opening.TheVariants as openings
use Rattle.run_record.specs.declared.next.TheConstants.{MAX_PACKET}
use Rattle.run_record.specs.declared.place.Place.{Place}
use Rattle.run_record.specs.Packet.{packet_of}
use Rattle.run_record.specs.Reading.{four_at, judged, measured, next_of, octet_at, opening_of, sized}
use Rattle.run_record.specs.Reads.{Begins, IsReadSoFar, beginning, ended, file_of}
use Rattle.run_record.specs.Record.{AreWritable, IsWritable, moved, record_of, records_of}
use Rattle.run_record.proofs.Written.{both_true, four_of_size, if_false, if_true, is_not_zero, length-record_of, next_of-measured, next_of-record_of, opening_of-whole, packet_fits}

-- ---- octets of a beginning

octet_at-append : (at : ℕ) (xs ys : List ℕ) → at < length xs → octet_at at (xs ++ ys) ≡ octet_at at xs
octet_at-append at [] ys lt = absurd (omega (arith, lt))
octet_at-append zero (x ∷ xs) ys lt = refl
octet_at-append (suc at) (x ∷ xs) ys lt = octet_at-append at xs ys (omega (arith, lt))

four_at-append : (at : ℕ) (xs ys : List ℕ) → at + 3 < length xs → four_at at (xs ++ ys) ≡ four_at at xs
four_at-append at xs ys lt =
    let a : octet_at at (xs ++ ys) ≡ octet_at at xs = octet_at-append at xs ys (omega arith) in
    let b : octet_at (at + 1) (xs ++ ys) ≡ octet_at (at + 1) xs = octet_at-append (at + 1) xs ys (omega arith) in
    let c : octet_at (at + 2) (xs ++ ys) ≡ octet_at (at + 2) xs = octet_at-append (at + 2) xs ys (omega arith) in
    let d : octet_at (at + 3) (xs ++ ys) ≡ octet_at (at + 3) xs = octet_at-append (at + 3) xs ys (omega arith) in
    omega (arith, a, b, c, d)

-- ---- a packet that isn't whole

measured-cut : (place : Place) (octets : List ℕ) (size : ℕ) → size ≤ MAX_PACKET → four_at 8 octets ≡ size → four_at 12 octets ≡ size
    → length octets < 16 + size → measured place octets ≡ Cut
measured-cut place octets size fits one two short =
    let within : nat_le (four_at 8 octets) MAX_PACKET ≡ true = le-leb (four_at 8 octets) MAX_PACKET (subst (λ (n : ℕ). n ≤ MAX_PACKET) (sym one) fits) in
    let same : (four_at 8 octets == four_at 12 octets) ≡ true = eq-eqb (four_at 8 octets) (four_at 12 octets) (one ∙ sym two) in
    if_true (four_at 8 octets == four_at 12 octets && nat_le (four_at 8 octets) MAX_PACKET) (sized place (four_at 8 octets) octets) (Wrong faults.Length)
    (both_true (four_at 8 octets == four_at 12 octets) (nat_le (four_at 8 octets) MAX_PACKET) same within)
    ∙ ap (λ (n : ℕ). sized place n octets) one
    ∙ if_true (nat_lt (length octets) (16 + size)) Cut (judged place (take (16 + size) octets)) (lt-ltb (length octets) (16 + size) short)

next_of-started : (place : Place) (octets : List ℕ) → 0 < length octets → length octets < 16 → next_of place octets ≡ Cut
next_of-started place octets some short =
    if_false (length octets == 0) End (if nat_lt (length octets) 16 then Cut else measured place octets) (is_not_zero (length octets) some)
    ∙ if_true (nat_lt (length octets) 16) Cut (measured place octets) (lt-ltb (length octets) 16 short)

-- lengths that are there are those of the packet
next_of-cut : (place : Place) (this : Stamped) (part more rest : List ℕ) → IsWritable this → part ++ more ≡ record_of place this ++ rest
    → 16 ≤ length part → length part < length (record_of place this) → next_of place part ≡ Cut
next_of-cut place this part more rest can same long short =
    let size : ℕ = length (packet_of place this.entry) in
    let fits : size ≤ 32797 = packet_fits place this.entry can.what in
    let whole : length (record_of place this) ≡ 16 + size = length-record_of place this in
    let one : four_at 8 part ≡ size = sym (four_at-append 8 part more (omega arith)) ∙ ap (four_at 8) same ∙ four_of_size size fits in
    let two : four_at 12 part ≡ size = sym (four_at-append 12 part more (omega arith)) ∙ ap (four_at 12) same ∙ four_of_size size fits in
    next_of-measured place part long ∙ measured-cut place part size fits one two (omega arith)

next_of-part : (place : Place) (this : Stamped) (part more rest : List ℕ) → IsWritable this → part ++ more ≡ record_of place this ++ rest
    → length part < length (record_of place this) → next_of place part ≡ ended part
next_of-part place this [] more rest can same short = refl
next_of-part place this (x ∷ xs) more rest can same short =
    elim (cases_lt (length (x ∷ xs)) 16) [
      | inl lt ↦ next_of-started place (x ∷ xs) (omega arith) lt
      | inr le ↦ next_of-cut place this (x ∷ xs) more rest can same le short
    ]

-- ---- all octets of a beginning

-- where the octets have a whole first part
front_is : (octets rest first more : List ℕ) →
    octets ++ rest ≡ first ++ more →
    length first ≤ length octets →
    octets ≡ first ++ drop (length first) octets
front_is octets rest first more same long =
    let taken : take (length first) octets ≡ first = sym (take-append-le (length first) octets rest long) ∙ ap (take (length first)) same ∙ take-append_seam first more in
    sym (take-append-drop (length first) octets) ∙ ap (λ (front : List ℕ). front ++ drop (length first) octets) taken

rest_is : (octets rest first more : List ℕ) →
    octets ++ rest ≡ first ++ more →
    length first ≤ length octets →
    drop (length first) octets ++ rest ≡ more
rest_is octets rest first more same long =
    sym (drop-append-le (length first) octets rest long) ∙ ap (drop (length first)) same ∙ drop-append_seam first more

nothing_written : (place : Place) (octets rest : List ℕ) → octets ++ rest ≡ [] → IsReadSoFar place octets []
nothing_written place [] rest same = record { whole = []; missing = []; part = []; entries_are = refl; octets_are = refl; short = refl; reads = refl }
nothing_written place (x ∷ xs) rest same = absurd (cc)

pub read_so_far : (place : Place) (entries : List Stamped) (octets rest : List ℕ) → AreWritable entries → octets ++ rest ≡ records_of place entries
    → IsReadSoFar place octets entries
read_so_far place [] octets rest can same = nothing_written place octets rest same
read_so_far place (this ∷ entries) octets rest can same =
    let first : List ℕ = record_of place this in
    let next : Place = moved place this.entry in
    let more : List ℕ = records_of next entries in
    elim (cases_lt (length octets) (length first)) [
      | inl lt ↦ record {
        whole = [];
        missing = this ∷ entries;
        part = octets;
        entries_are = refl;
        octets_are = refl;
        short = lt;
        reads = next_of-part place this octets rest more can.0 same lt;
      }
      | inr le ↦
          let left : List ℕ = drop (length first) octets in
          let split : octets ≡ first ++ left = front_is octets rest first more same le in
          let behind_it : IsReadSoFar next left entries = read_so_far next entries left rest can.1 (rest_is octets rest first more same le) in
          record {
            whole = this ∷ behind_it.whole;
            missing = behind_it.missing;
            part = behind_it.part;
            entries_are = ap (λ (es : List Stamped). this ∷ es) behind_it.entries_are;
            octets_are = split ∙ ap (λ (l : List ℕ). first ++ l) behind_it.octets_are ∙ sym (append_assoc first (records_of next behind_it.whole) behind_it.part);
            short = behind_it.short;
            reads = (length first, ap (next_of place) split ∙ next_of-record_of place this left can.0, behind_it.reads);
          }
    ]

-- ---- the beginning of a file

opening_of-cut : (octets rest more : List ℕ) → octets ++ rest ≡ file_header ++ more → length octets < 24 → opening_of octets ≡ openings.Cut
opening_of-cut octets rest more same short =
    let within : length octets ≤ length file_header = omega arith in
    let is : octets ≡ take (length octets) file_header =
    sym (take-append_seam octets rest) ∙ ap (take (length octets)) same ∙ take-append-le (length octets) file_header more within in
    if_true (nat_lt (length octets) 24) (if bytes_eq octets (take (length octets) file_header) then openings.Cut else openings.Other)
    (if bytes_eq (take 24 octets) file_header then openings.Record else openings.Other) (lt-ltb (length octets) 24 short)
    ∙ if_true (bytes_eq octets (take (length octets) file_header)) openings.Cut openings.Other ((bytes_eq-Decides octets (take (length octets) file_header)).1 is)

pub begins : (entries : List Stamped) (octets rest : List ℕ) →
    AreWritable entries →
    octets ++ rest ≡ file_of entries →
    Begins octets entries
begins entries octets rest can same =
    let more : List ℕ = records_of beginning entries in
    elim (cases_lt (length octets) 24) [
      | inl lt ↦ inl (lt, opening_of-cut octets rest more same lt)
      | inr le ↦ inr (
        opening_of-whole octets le (sym (take-append-le 24 octets rest le) ∙ ap (take 24) same ∙ take-append_seam file_header more),
        read_so_far beginning entries (drop 24 octets) rest can (rest_is octets rest file_header more same le),
      )
    ]
