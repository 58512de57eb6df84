-- SPDX-License-Identifier: MIT OR Apache-2.0
-- The file of a record: its places and its entries.
use Rattle.std.specs.Prelude.{ℕ, ◌+◌, ◌%◌, ◌<◌, ◌≤◌, List, [], ◌∷◌, ◌++◌, length}
use Rattle.std.specs.Prelude.{slice_index, slice_set}
use Rattle.std.specs.List.{AllByRecursion}
use Rattle.ipa_framing.specs.Frame.{IsFrame}
use Rattle.frame_pictures.specs.Packet.{four_octets, framed}
use Rattle.ruled_relay.specs.declared.item.What.TheVariants as what
use Rattle.run_record.specs.declared.entry.Entry.{Entry}
use Rattle.run_record.specs.declared.entry.Entry.TheVariants.{Head, Took, Passed, Put, Lost}
use Rattle.run_record.specs.declared.entry.Stamp.{Stamp}
use Rattle.run_record.specs.declared.entry.Stamped.{Stamped}
use Rattle.run_record.specs.declared.entry.TheConstants.{MAX_HEAD}
use Rattle.run_record.specs.declared.place.Place.{Place}
use Rattle.run_record.specs.Packet.{down, packet_of, up}

-- ---- places

-- The sequence numbers after the number at the index `way` grew by `octets`, modulo 2^32.
abbrev pub advanced : ℕ → ℕ → List ℕ → List ℕ
advanced way octets numbers =
    slice_set numbers way ((slice_index numbers way + octets) % 4294967296)

-- The sequence numbers after an entry: each octet of a frame counts one, and a FIN counts one.
abbrev pub numbers_behind : Entry → List ℕ → List ℕ
numbers_behind (Took link (what.Frame frame)) numbers =
    advanced (up link) (length (framed frame)) numbers
numbers_behind (Took link what.Down) numbers = advanced (up link) 1 numbers
numbers_behind (Put link frame) numbers = advanced (down link) (length (framed frame)) numbers
numbers_behind (Head octets) numbers = numbers
numbers_behind (Passed ms) numbers = numbers
numbers_behind Lost numbers = numbers

-- The place after an entry.
abbrev pub moved : Place → Entry → Place
moved place entry = record {
  packets = (place.packets + 1) % 65536;
  numbers = numbers_behind entry place.numbers;
}

-- The place after these entries.
abbrev pub behind : Place → List Stamped → Place
behind place [] = place
behind place (this ∷ entries) = behind (moved place this.entry) entries

-- ---- the file

-- The header of a packet's record: seconds, microseconds, then the packet's length, two times.
abbrev pub record_header : Stamp → ℕ → List ℕ
record_header stamp size =
    four_octets stamp.seconds ++ four_octets stamp.microseconds
    ++ four_octets size ++ four_octets size

-- The octets of an entry's packet at a place, including its time and lengths.
abbrev pub record_of : Place → Stamped → List ℕ
record_of place this =
    record_header this.stamp (length (packet_of place this.entry) % 4294967296)
    ++ packet_of place this.entry

abbrev pub records_of : Place → List Stamped → List ℕ
records_of place [] = []
records_of place (this ∷ entries) =
    record_of place this ++ records_of (moved place this.entry) entries

-- ---- entries that can be recorded

abbrev pub CanBeRecorded : Entry → Type 0
CanBeRecorded (Head octets) = length octets ≤ MAX_HEAD
CanBeRecorded (Took link (what.Frame frame)) = (link < 256) × IsFrame frame
CanBeRecorded (Took link what.Down) = link < 256
CanBeRecorded (Passed ms) = ms < 4294967296
CanBeRecorded (Put link frame) = (link < 256) × IsFrame frame
CanBeRecorded Lost = Unit {0}

abbrev pub IsStamp : Stamp → Type 0
IsStamp stamp = (stamp.seconds < 4294967296) × (stamp.microseconds < 4294967296)

pub record IsWritable (this : Stamped) : Type 0 where
  pub time : IsStamp this.stamp
  pub what : CanBeRecorded this.entry

abbrev pub AreWritable : List Stamped → Type 0
AreWritable entries = AllByRecursion IsWritable entries
