-- SPDX-License-Identifier: MIT OR Apache-2.0
-- Reading a whole file: the entries that are read, and the answer after the last entry.
use Rattle.std.specs.Prelude.{◌≡◌, ◌<◌, ◌⊎◌, ℕ, List, [], ◌∷◌, ◌++◌, length, drop, replicate}
use Rattle.frame_pictures.specs.Capture.{file_header}
use Rattle.run_record.specs.declared.entry.Stamped.{Stamped}
use Rattle.run_record.specs.declared.next.Next.{Next}
use Rattle.run_record.specs.declared.next.Next.TheVariants as nexts
use Rattle.run_record.specs.declared.next.Opening.TheVariants as openings
use Rattle.run_record.specs.declared.place.Place.{Place}
use Rattle.run_record.specs.Reading.{next_of, opening_of}
use Rattle.run_record.specs.Record.{behind, moved, record_of, records_of}

-- The place before the first packet.
abbrev pub beginning : Place
beginning = record { packets = 0; numbers = replicate 512 1 }

-- The file of these entries.
abbrev pub file_of : List Stamped → List ℕ
file_of entries = file_header ++ records_of beginning entries

-- From `place` on, the octets are read as these entries, one by one. The answer after the last
-- entry is `how`.
abbrev pub ReadsOn : Place → List ℕ → List Stamped → Next → Type 0
ReadsOn place octets [] how = next_of place octets ≡ how
ReadsOn place octets (this ∷ entries) how =
    (size : ℕ) × (next_of place octets ≡ nexts.Read this size)
    × ReadsOn (moved place this.entry) (drop size octets) entries how

-- A file is read as these entries, and the answer after the last entry is `how`.
pub record Reads (octets : List ℕ) (entries : List Stamped) (how : Next) : Type 0 where
  pub opens : opening_of octets ≡ openings.Record
  pub reads : ReadsOn beginning (drop 24 octets) entries how

-- ---- a file that was cut

-- How a file ends after its last whole packet: with no octet left, or cut within a packet.
abbrev pub ended : List ℕ → Next
ended [] = nexts.End
ended (octet ∷ octets) = nexts.Cut

-- The octets are fewer than those of the first entry. If there is no entry, there are no octets.
abbrev pub IsShort : Place → List Stamped → List ℕ → Type 0
IsShort place [] octets = octets ≡ []
IsShort place (this ∷ entries) octets = length octets < length (record_of place this)

-- The octets are a beginning of those of these entries, and are read as the entries whose packets
-- are whole. After these entries the octets end, or are cut within a packet.
pub record IsReadSoFar (place : Place) (octets : List ℕ) (entries : List Stamped) : Type 0 where
  pub whole : List Stamped
  pub missing : List Stamped
  pub part : List ℕ
  pub entries_are : entries ≡ whole ++ missing
  pub octets_are : octets ≡ records_of place whole ++ part
  pub short : IsShort (behind place whole) missing part
  pub reads : ReadsOn place octets whole (ended part)

-- The octets, a beginning of the file of these entries, are cut within the file's header, or are
-- read as the entries whose packets are whole.
abbrev pub Begins : List ℕ → List Stamped → Type 0
Begins octets entries =
    ((length octets < 24) × (opening_of octets ≡ openings.Cut))
    ⊎ ((opening_of octets ≡ openings.Record) × IsReadSoFar beginning (drop 24 octets) entries)
