-- SPDX-License-Identifier: MIT OR Apache-2.0
-- Lemmas: entries that were written are read again.
use Rattle.std.proofs.Common.{◌≡◌, ℕ, zero, suc, ◌+◌, ◌*◌, ◌/◌, ◌%◌, ◌<◌, ◌≤◌, ◌==◌, Bool, true, false, if◌then◌else◌, ◌&&◌, List, [], ◌∷◌, ◌++◌, length, take, drop, refl, sym, ap, subst, ◌∙◌, arith}
use Rattle.std.specs.Prelude.{nat_le, nat_lt}
use Rattle.std.specs.Str.{bytes_eq}
use Rattle.std.proofs.lemmas.Bool.{eq-eqb, le-leb, le-ltb, ne_eqb}
use Rattle.std.proofs.lemmas.List.{append-nil, append_assoc, length-append}
use Rattle.std.proofs.lemmas.Slice.Eq.{bytes_eq-Decides}
use Rattle.std.proofs.Math.Seq.{drop-append_seam, take-append_seam}
use Rattle.frame_pictures.specs.Capture.{file_header}
use Rattle.frame_pictures.specs.Packet.{framed}
use Rattle.frame_pictures.specs.declared.link_frame.End.{End}
use Rattle.frame_pictures.specs.declared.link_frame.End.TheVariants.{Controller, Station, Switch}
use Rattle.ruled_relay.specs.declared.item.What.TheVariants as what
use Rattle.run_record.specs.declared.entry.Entry.{Entry}
use Rattle.run_record.specs.declared.entry.Entry.TheVariants.{Head, Took, Passed, Put, Lost}
use Rattle.run_record.specs.declared.entry.Stamped.{Stamped}
use Rattle.run_record.specs.declared.next.Fault.TheVariants as faults
use Rattle.run_record.specs.declared.next.Next.TheVariants as nexts
use Rattle.run_record.specs.declared.next.Next.TheVariants.{Cut, Read, Wrong}
use Rattle.run_record.specs.declared.next.Opening.TheVariants as openings
use Rattle.run_record.specs.declared.next.TheConstants.{MAX_PACKET}
use Rattle.run_record.specs.declared.place.Place.{Place}
use Rattle.run_record.specs.Packet.{FIN, PSH, down, end_of, packet_of, segment, up}
use Rattle.run_record.specs.Reading.{compared, entry_in, first_difference, four_at, judged, measured, next_of, opening_of, seen_in, sized}
use Rattle.run_record.specs.Reads.{Reads, ReadsOn, beginning, file_of}
use Rattle.run_record.specs.Record.{AreWritable, CanBeRecorded, IsWritable, behind, moved, record_header, record_of, records_of}

-- ---- tests

pub if_true : {X : Type 0} (b : Bool) (x y : X) → b ≡ true → (if b then x else y) ≡ x
if_true true x y is = refl
if_true false x y is = cc

pub if_false : {X : Type 0} (b : Bool) (x y : X) → b ≡ false → (if b then x else y) ≡ y
if_false true x y is = cc
if_false false x y is = refl

pub both_true : (a b : Bool) → a ≡ true → b ≡ true → (a && b) ≡ true
both_true true b first second = second
both_true false b first second = first

pub is_not_zero : (n : ℕ) → 0 < n → (n == 0) ≡ false
is_not_zero n some = ne_eqb n 0 (λ (is : n ≡ 0). omega (arith, is, some))

-- ---- numbers in octets

four_is : (n : ℕ) → n < 4294967296 → 16777216 * (n / 16777216) + 65536 * (n / 65536 % 256) + 256 * (n / 256 % 256) + n % 256 ≡ n
four_is n h = omega arith

same_below : (n : ℕ) → n < 4294967296 → n % 4294967296 ≡ n
same_below n h = omega arith

octet_is : (n : ℕ) → n < 256 → n % 256 ≡ n
octet_is n h = omega arith

-- ---- the entry of a packet

end_of-station : (n : ℕ) → end_of (suc n) ≡ Station (suc n)
end_of-station n = if_false (suc n == 0) Switch (Station (suc n)) (is_not_zero (suc n) (omega arith))

-- the packet of what a station's link gave, and of what is put on it, by the end
abbrev from_end : Place → ℕ → ℕ → List ℕ → End → List ℕ
from_end place n flags octets end = segment place (up (suc n)) (down (suc n)) flags end Controller octets

abbrev to_end : Place → ℕ → List ℕ → End → List ℕ
to_end place n octets end = segment place (down (suc n)) (up (suc n)) PSH Controller end octets

pub entry_in-packet_of : (place : Place) (entry : Entry) → CanBeRecorded entry → entry_in (packet_of place entry) ≡ entry
entry_in-packet_of place (Head octets) can = refl
entry_in-packet_of place (Took zero (what.Frame f)) can = refl
entry_in-packet_of place (Took (suc n) (what.Frame f)) can =
    ap (λ (end : End). entry_in (from_end place n PSH (framed f) end)) (end_of-station n)
    ∙ ap (λ (link : ℕ). Took link (what.Frame f)) (octet_is (suc n) can.0)
entry_in-packet_of place (Took zero what.Down) can = refl
entry_in-packet_of place (Took (suc n) what.Down) can =
    ap (λ (end : End). entry_in (from_end place n FIN [] end)) (end_of-station n)
    ∙ ap (λ (link : ℕ). Took link what.Down) (octet_is (suc n) can)
entry_in-packet_of place (Passed ms) can = ap (λ (n : ℕ). Passed n) (four_is ms can)
entry_in-packet_of place (Put zero f) can = refl
entry_in-packet_of place (Put (suc n) f) can =
    ap (λ (end : End). entry_in (to_end place n (framed f) end)) (end_of-station n)
    ∙ ap (λ (link : ℕ). Put link f) (octet_is (suc n) can.0)
entry_in-packet_of place Lost can = refl

pub packet_fits : (place : Place) (entry : Entry) → CanBeRecorded entry → length (packet_of place entry) ≤ 32797
packet_fits place (Head octets) can = omega (arith, can)
packet_fits place (Took zero (what.Frame f)) can = omega (arith, can.1)
packet_fits place (Took (suc n) (what.Frame f)) can =
    let fits : length (from_end place n PSH (framed f) (Station (suc n))) ≤ 32797 = omega (arith, can.1) in
    subst (λ (end : End). length (from_end place n PSH (framed f) end) ≤ 32797) (sym (end_of-station n)) fits
packet_fits place (Took zero what.Down) can = omega arith
packet_fits place (Took (suc n) what.Down) can =
    let fits : length (from_end place n FIN [] (Station (suc n))) ≤ 32797 = omega arith in
    subst (λ (end : End). length (from_end place n FIN [] end) ≤ 32797) (sym (end_of-station n)) fits
packet_fits place (Passed ms) can = omega arith
packet_fits place (Put zero f) can = omega (arith, can.1)
packet_fits place (Put (suc n) f) can =
    let fits : length (to_end place n (framed f) (Station (suc n))) ≤ 32797 = omega (arith, can.1) in
    subst (λ (end : End). length (to_end place n (framed f) end) ≤ 32797) (sym (end_of-station n)) fits
packet_fits place Lost can = omega arith

-- ---- the next packet

-- what has a length and is whole is judged
measured-judged : (place : Place) (octets : List ℕ) (size : ℕ) → size ≤ MAX_PACKET → four_at 8 octets ≡ size → four_at 12 octets ≡ size
    → 16 + size ≤ length octets → measured place octets ≡ judged place (take (16 + size) octets)
measured-judged place octets size fits one two long =
    let within : nat_le (four_at 8 octets) MAX_PACKET ≡ true = le-leb (four_at 8 octets) MAX_PACKET (subst (λ (n : ℕ). n ≤ MAX_PACKET) (sym one) fits) in
    let same : (four_at 8 octets == four_at 12 octets) ≡ true = eq-eqb (four_at 8 octets) (four_at 12 octets) (one ∙ sym two) in
    if_true (four_at 8 octets == four_at 12 octets && nat_le (four_at 8 octets) MAX_PACKET) (sized place (four_at 8 octets) octets) (Wrong faults.Length)
    (both_true (four_at 8 octets == four_at 12 octets) (nat_le (four_at 8 octets) MAX_PACKET) same within)
    ∙ ap (λ (n : ℕ). sized place n octets) one
    ∙ if_false (nat_lt (length octets) (16 + size)) Cut (judged place (take (16 + size) octets)) (le-ltb (length octets) (16 + size) long)

pub next_of-measured : (place : Place) (octets : List ℕ) → 16 ≤ length octets → next_of place octets ≡ measured place octets
next_of-measured place octets long =
    if_false (length octets == 0) nexts.End (if nat_lt (length octets) 16 then Cut else measured place octets) (is_not_zero (length octets) (omega arith))
    ∙ if_false (nat_lt (length octets) 16) Cut (measured place octets) (le-ltb (length octets) 16 long)

-- ---- the octets of an entry

size_of : Place → Stamped → ℕ
size_of place this = length (packet_of place this.entry)

pub length-record_of : (place : Place) (this : Stamped) → length (record_of place this) ≡ 16 + length (packet_of place this.entry)
length-record_of place this = length-append (record_header this.stamp (length (packet_of place this.entry) % 4294967296)) (packet_of place this.entry)

pub four_of_size : (n : ℕ) → n ≤ 32797
    → 16777216 * (n % 4294967296 / 16777216) + 65536 * (n % 4294967296 / 65536 % 256) + 256 * (n % 4294967296 / 256 % 256) + n % 4294967296 % 256 ≡ n
four_of_size n fits =
    let below : n % 4294967296 < 4294967296 = omega arith in
    four_is (n % 4294967296) below ∙ same_below n (omega arith)

abbrev stamped : ℕ → ℕ → Entry → Stamped
stamped seconds microseconds entry = record { stamp = record { seconds = seconds; microseconds = microseconds }; entry = entry }

seen_in-record_of : (place : Place) (this : Stamped) → IsWritable this → seen_in (record_of place this) ≡ this
seen_in-record_of place this can =
    let packet : List ℕ = packet_of place this.entry in
    ap (λ (s : ℕ). stamped s (four_at 4 (record_of place this)) (entry_in packet)) (four_is this.stamp.seconds can.time.0)
    ∙ ap (λ (m : ℕ). stamped this.stamp.seconds m (entry_in packet)) (four_is this.stamp.microseconds can.time.1)
    ∙ ap (λ (e : Entry). stamped this.stamp.seconds this.stamp.microseconds e) (entry_in-packet_of place this.entry can.what)

judged-record_of : (place : Place) (this : Stamped) →
    IsWritable this →
    judged place (record_of place this) ≡ Read this (length (record_of place this))
judged-record_of place this can =
    let octets : List ℕ = record_of place this in
    ap (λ (seen : Stamped). compared octets seen (record_of place seen)) (seen_in-record_of place this can)
    ∙ if_true (bytes_eq octets octets) (Read this (length octets)) (Wrong (faults.Octet (first_difference octets octets))) ((bytes_eq-Decides octets octets).1 refl)

pub next_of-record_of : (place : Place) (this : Stamped) (rest : List ℕ) → IsWritable this
    → next_of place (record_of place this ++ rest) ≡ Read this (length (record_of place this))
next_of-record_of place this rest can =
    let octets : List ℕ = record_of place this in
    let size : ℕ = length (packet_of place this.entry) in
    let fits : size ≤ 32797 = packet_fits place this.entry can.what in
    let whole : length octets ≡ 16 + size = length-record_of place this in
    let long : 16 + size ≤ length (octets ++ rest) = omega (arith, length-append octets rest) in
    next_of-measured place (octets ++ rest) (omega arith)
    ∙ measured-judged place (octets ++ rest) size fits (four_of_size size fits) (four_of_size size fits) long
    ∙ ap (λ (n : ℕ). judged place (take n (octets ++ rest))) (sym whole)
    ∙ ap (judged place) (take-append_seam octets rest)
    ∙ judged-record_of place this can

-- ---- all that is written

pub reads_written : (place : Place) (entries : List Stamped) (part : List ℕ) → AreWritable entries
    → ReadsOn place (records_of place entries ++ part) entries (next_of (behind place entries) part)
reads_written place [] part can = refl
reads_written place (this ∷ entries) part can =
    let octets : List ℕ = record_of place this in
    let next : Place = moved place this.entry in
    let rest : List ℕ = records_of next entries ++ part in
    let joined : records_of place (this ∷ entries) ++ part ≡ octets ++ rest = append_assoc octets (records_of next entries) part in
    let dropped : drop (length octets) (records_of place (this ∷ entries) ++ part) ≡ rest = ap (drop (length octets)) joined ∙ drop-append_seam octets rest in (
      length octets,
      ap (next_of place) joined ∙ next_of-record_of place this rest can.0,
      subst (λ (left : List ℕ). ReadsOn next left entries (next_of (behind next entries) part)) (sym dropped) (reads_written next entries part can.1),
    )

pub opening_of-whole : (octets : List ℕ) → 24 ≤ length octets → take 24 octets ≡ file_header → opening_of octets ≡ openings.Record
opening_of-whole octets long same =
    if_false (nat_lt (length octets) 24) (if bytes_eq octets (take (length octets) file_header) then openings.Cut else openings.Other)
    (if bytes_eq (take 24 octets) file_header then openings.Record else openings.Other) (le-ltb (length octets) 24 long)
    ∙ if_true (bytes_eq (take 24 octets) file_header) openings.Record openings.Other ((bytes_eq-Decides (take 24 octets) file_header).1 same)

pub file_is_read : (entries : List Stamped) → AreWritable entries → Reads (file_of entries) entries nexts.End
file_is_read entries can = record {
  opens = opening_of-whole (file_of entries) (omega (arith, length-append file_header (records_of beginning entries))) (take-append_seam file_header (records_of beginning entries));
  reads = subst (λ (octets : List ℕ). ReadsOn beginning octets entries nexts.End) (append-nil (records_of beginning entries))
      (reads_written beginning entries [] can);
}
