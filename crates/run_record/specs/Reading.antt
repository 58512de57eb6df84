-- SPDX-License-Identifier: MIT OR Apache-2.0
-- Reading the packet that octets begin with. A packet is read if and only if its octets are those
-- that are written for its entry at this place.
use Rattle.std.specs.Prelude.{ℕ, suc, ◌+◌, ◌*◌, ◌==◌, nat_le, nat_lt, ◌&&◌, if◌then◌else◌}
use Rattle.std.specs.Prelude.{List, ◌∷◌, length, take, drop, slice_get, unwrap_or}
use Rattle.std.specs.Str.{bytes_eq}
use Rattle.frame_pictures.specs.Capture.{file_header}
use Rattle.ruled_relay.specs.declared.item.What.TheVariants as what
use Rattle.ipa_framing.specs.declared.frame.Frame.{Frame}
use Rattle.run_record.specs.declared.entry.Entry.{Entry}
use Rattle.run_record.specs.declared.entry.Entry.TheVariants.{Head, Took, Passed, Put, Lost}
use Rattle.run_record.specs.declared.entry.Stamped.{Stamped}
use Rattle.run_record.specs.declared.next.Fault.TheVariants as faults
use Rattle.run_record.specs.declared.next.Next.{Next}
use Rattle.run_record.specs.declared.next.Next.TheVariants.{End, Cut, Wrong, Read}
use Rattle.run_record.specs.declared.next.Opening.{Opening}
use Rattle.run_record.specs.declared.next.Opening.TheVariants as openings
use Rattle.run_record.specs.declared.next.TheConstants.{MAX_PACKET}
use Rattle.run_record.specs.declared.place.Place.{Place}
use Rattle.run_record.specs.Packet.{FIN}
use Rattle.run_record.specs.Record.{record_of}

abbrev pub octet_at : ℕ → List ℕ → ℕ
octet_at at octets = unwrap_or (slice_get octets at) 0

abbrev pub four_at : ℕ → List ℕ → ℕ
four_at at octets =
    16777216 * octet_at at octets + 65536 * octet_at (at + 1) octets
    + 256 * octet_at (at + 2) octets + octet_at (at + 3) octets

-- ---- the entry that a packet seems to have

-- The link of an end, by the last two octets of the end's address.
abbrev pub link_by : ℕ → ℕ → ℕ
link_by third fourth = if third == 0 then 0 else fourth

abbrev pub frame_in : List ℕ → Frame
frame_in packet = record { stream = octet_at 42 packet; body = drop 43 packet }

abbrev pub taken_in : ℕ → List ℕ → Entry
taken_in link packet =
    if octet_at 33 packet == FIN then Took link what.Down
    else Took link (what.Frame (frame_in packet))

-- The entry of a segment. The controller's address ends with 0.1; a segment from the controller is
-- a `Put`.
abbrev pub segment_in : List ℕ → Entry
segment_in packet =
    if octet_at 14 packet == 0 && octet_at 15 packet == 1
    then Put (link_by (octet_at 18 packet) (octet_at 19 packet)) (frame_in packet)
    else taken_in (link_by (octet_at 14 packet) (octet_at 15 packet)) packet

abbrev pub datagram_in : List ℕ → Entry
datagram_in packet =
    if octet_at 28 packet == 1 then Head (drop 29 packet)
    else (if octet_at 28 packet == 2 then Passed (four_at 29 packet) else Lost)

abbrev pub entry_in : List ℕ → Entry
entry_in packet = if octet_at 9 packet == 6 then segment_in packet else datagram_in packet

-- ---- the next packet

-- The length of the longest common beginning of two lists.
abbrev pub first_difference : List ℕ → List ℕ → ℕ
first_difference (x ∷ xs) (y ∷ ys) = if x == y then suc (first_difference xs ys) else 0
first_difference xs ys = 0

-- The time and the entry that a packet seems to have. The octets begin with the packet's time and
-- lengths.
abbrev pub seen_in : List ℕ → Stamped
seen_in octets = record {
  stamp = record { seconds = four_at 0 octets; microseconds = four_at 4 octets };
  entry = entry_in (drop 16 octets);
}

-- The packet is read if its octets are those that are written for the entry.
abbrev pub compared : List ℕ → Stamped → List ℕ → Next
compared octets seen written =
    if bytes_eq octets written then Read seen (length octets)
    else Wrong (faults.Octet (first_difference octets written))

abbrev pub judged : Place → List ℕ → Next
judged place octets = compared octets (seen_in octets) (record_of place (seen_in octets))

-- The answer for a packet with the length `size`, without its time and lengths.
abbrev pub sized : Place → ℕ → List ℕ → Next
sized place size octets =
    if nat_lt (length octets) (16 + size) then Cut else judged place (take (16 + size) octets)

abbrev pub measured : Place → List ℕ → Next
measured place octets =
    if four_at 8 octets == four_at 12 octets && nat_le (four_at 8 octets) MAX_PACKET
    then sized place (four_at 8 octets) octets
    else Wrong faults.Length

abbrev pub next_of : Place → List ℕ → Next
next_of place octets =
    if length octets == 0 then End
    else (if nat_lt (length octets) 16 then Cut else measured place octets)

-- ---- the beginning of a file

abbrev pub opening_of : List ℕ → Opening
opening_of octets =
    if nat_lt (length octets) 24
    then (if bytes_eq octets (take (length octets) file_header)
    then openings.Cut else openings.Other)
    else (if bytes_eq (take 24 octets) file_header then openings.Record else openings.Other)
