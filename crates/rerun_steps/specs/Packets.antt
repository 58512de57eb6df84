-- SPDX-License-Identifier: MIT OR Apache-2.0
-- A reader of the packets of a file, and what a call does to it.
use Rattle.std.specs.Prelude.{◌≡◌, ◌<◌, ◌⊎◌, ℕ, ◌+◌, ◌-◌, ◌^◌, ◌==◌, ◌||◌, Bool, false, true, not}
use Rattle.std.specs.Prelude.{List, [], ◌++◌, length, drop, min, Option, Some, None}
use Rattle.std.specs.Prelude.{Result, Ok, Err}
use Rattle.octets.specs.declared.memory.Memory.{Memory as NoMemory}
use Rattle.rerun_steps.specs.declared.packet_fault.PacketFault.{PacketFault}
use Rattle.rerun_steps.specs.declared.packet_fault.PacketFault.TheVariants.{Length, Memory, NoRecord}
use Rattle.rerun_steps.specs.declared.packet_fault.PacketFault.TheVariants.{Octet}
use Rattle.run_record.specs.declared.entry.Stamped.{Stamped}
use Rattle.run_record.specs.declared.next.Fault.{Fault}
use Rattle.run_record.specs.declared.next.Fault.TheVariants as faults
use Rattle.run_record.specs.declared.next.Next.TheVariants.{Cut, End, Read, Wrong}
use Rattle.run_record.specs.declared.next.Opening.TheVariants as openings
use Rattle.run_record.specs.declared.place.Place.{Place}
use Rattle.run_record.specs.Reading.{next_of, opening_of}
use Rattle.run_record.specs.Reads.{beginning}
use Rattle.run_record.specs.Record.{moved}

-- what was fed and isn't read yet, whether the file's header was read, the place behind what was
-- read, and how many packets that were
pub record EntriesState : Type 0 where
  pub octets : List ℕ
  pub is_open : Bool
  pub place : Place
  pub count : ℕ

abbrev pub new_entries : EntriesState
new_entries = record { octets = []; is_open = false; place = beginning; count = 0 }

-- Feeding a piece appends it.
abbrev pub Feeds : {X : Type 0} → EntriesState → List ℕ → Result X NoMemory → EntriesState
    → Type 0
Feeds old piece (Ok _) new = new ≡ record old { octets = old.octets ++ piece }
Feeds old piece (Err _) new = new ≡ old

-- behind the file's header
abbrev pub opened : EntriesState → EntriesState
opened r = record r { octets = drop 24 r.octets; is_open = true }

-- behind a packet of so many octets
abbrev pub behind_packet : EntriesState → Stamped → ℕ → EntriesState
behind_packet r this size = record {
  octets = drop size r.octets;
  is_open = r.is_open;
  place = moved r.place this.entry;
  count = min (r.count + 1) (2 ^ 64 - 1);
}

abbrev pub fault_of : Fault → PacketFault
fault_of faults.Length = Length
fault_of (faults.Octet at) = Octet at

-- The octets have a whole packet, which is read.
pub record ReadsPacket (old : EntriesState) (this : Stamped) (new : EntriesState) : Type 0 where
  pub size : ℕ
  pub some : 0 < size
  pub is : next_of old.place old.octets ≡ Read this size
  pub moves : new ≡ behind_packet old this size

-- no packet is whole yet
abbrev pub IsNotWhole : EntriesState → Type 0
IsNotWhole r = (next_of r.place r.octets ≡ End) ⊎ (next_of r.place r.octets ≡ Cut)

-- a packet that no record has here
abbrev pub IsWrong : EntriesState → PacketFault → Type 0
IsWrong r Length = next_of r.place r.octets ≡ Wrong faults.Length
IsWrong r (Octet at) = next_of r.place r.octets ≡ Wrong (faults.Octet at)
IsWrong r Memory = Unit {0}
IsWrong r NoRecord = ⊥

-- what the next packet behind the file's header is
abbrev pub TakesPacket : EntriesState → Result (Option Stamped) PacketFault → EntriesState → Type 0
TakesPacket old (Ok (Some this)) new = ReadsPacket old this new
TakesPacket old (Ok None) new = IsNotWhole old × (new ≡ old)
TakesPacket old (Err fault) new = IsWrong old fault

-- the same where the header isn't read yet, for how the octets begin
abbrev pub Opens : EntriesState → Result (Option Stamped) PacketFault → EntriesState → Type 0
Opens old (Ok None) new =
    ((opening_of old.octets ≡ openings.Cut) × (new ≡ old))
    ⊎ ((opening_of old.octets ≡ openings.Record) × TakesPacket (opened old) (Ok None) new)
Opens old (Err NoRecord) new = opening_of old.octets ≡ openings.Other
Opens old result new =
    (opening_of old.octets ≡ openings.Record) × TakesPacket (opened old) result new

abbrev pub TakesFrom : Bool → EntriesState → Result (Option Stamped) PacketFault → EntriesState
    → Type 0
TakesFrom true old result new = TakesPacket old result new
TakesFrom false old result new = Opens old result new

abbrev pub Takes : EntriesState → Result (Option Stamped) PacketFault → EntriesState → Type 0
Takes old result new = TakesFrom old.is_open old result new

-- octets are left that belong to no packet that was read, or the file's header isn't whole
abbrev pub has_rest : EntriesState → Bool
has_rest r = not r.is_open || not (length r.octets == 0)
