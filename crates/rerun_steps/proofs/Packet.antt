-- SPDX-License-Identifier: MIT OR Apache-2.0
-- What a reader does, by what is seen of it.
use Rattle.std.proofs.Common.{◌≡◌, ℕ, ◌+◌, ◌-◌, ◌^◌, ◌⊎◌, Bool, true, false, List, drop, sym, ap, subst, ◌∙◌, inl, inr, Ok, Err, Some, None, Option, Result}
use Rattle.std.specs.Prelude.{min}
use Rattle.rerun_steps.specs.declared.packet_fault.PacketFault.{PacketFault}
use Rattle.rerun_steps.specs.declared.packet_fault.PacketFault.TheVariants.{Length, Memory, NoRecord, Octet}
use Rattle.rerun_steps.specs.Packets.{EntriesState, IsNotWhole, IsWrong, Opens, ReadsPacket, Takes, TakesFrom, TakesPacket, fault_of, opened}
use Rattle.rerun_steps.proofs.Sizes.{read_fits}
use Rattle.run_record.specs.declared.entry.Stamped.{Stamped}
use Rattle.run_record.specs.declared.next.Fault.{Fault}
use Rattle.run_record.specs.declared.next.Fault.TheVariants as faults
use Rattle.run_record.specs.declared.next.Next.{Next}
use Rattle.run_record.specs.declared.next.Next.TheVariants.{Cut, End, Read, Wrong}
use Rattle.run_record.specs.declared.next.Opening.TheVariants as openings
use Rattle.run_record.specs.declared.place.Place.{Place}
use Rattle.run_record.specs.Places.{IsBehind}
use Rattle.run_record.specs.Reading.{next_of, opening_of}
use Rattle.run_record.specs.Record.{moved}

abbrev pub state : List ℕ → Bool → Place → ℕ → EntriesState
state octets is_open place count = record { octets = octets; is_open = is_open; place = place; count = count }

-- ---- behind the file's header

not_whole : (octets : List ℕ) (is_open : Bool) (place new_place : Place) (count : ℕ) (found : Next) → found ≡ next_of place octets
    → IsBehind place found new_place → (found ≡ End) ⊎ (found ≡ Cut)
    → IsNotWhole (state octets is_open place count) × (state octets is_open new_place count ≡ state octets is_open place count)
not_whole octets is_open place new_place count found is behind (inl end) =
    (inl (sym is ∙ end), ap (λ (p : Place). state octets is_open p count) (subst (λ (f : Next). IsBehind place f new_place) end behind))
not_whole octets is_open place new_place count found is behind (inr cut) =
    (inr (sym is ∙ cut), ap (λ (p : Place). state octets is_open p count) (subst (λ (f : Next). IsBehind place f new_place) cut behind))

pub ends : (old : EntriesState) (octets : List ℕ) (is_open : Bool) (place new_place : Place) (count : ℕ) (found : Next)
    → old ≡ state octets is_open place count → found ≡ next_of place octets → IsBehind place found new_place → (found ≡ End) ⊎ (found ≡ Cut)
    → IsNotWhole old × (state octets is_open new_place count ≡ old)
ends old octets is_open place new_place count found view is behind how =
    subst (λ (o : EntriesState). IsNotWhole o × (state octets is_open new_place count ≡ o)) (sym view)
    (not_whole octets is_open place new_place count found is behind how)

is_wrong : (s : EntriesState) (fault : Fault) → next_of s.place s.octets ≡ Wrong fault → IsWrong s (fault_of fault)
is_wrong s faults.Length is = is
is_wrong s (faults.Octet at) is = is

pub wrongs : (old : EntriesState) (octets : List ℕ) (is_open : Bool) (place : Place) (count : ℕ) (found : Next) (fault : Fault) (named : PacketFault)
    → old ≡ state octets is_open place count → found ≡ next_of place octets → found ≡ Wrong fault → named ≡ fault_of fault → IsWrong old named
wrongs old octets is_open place count found fault named view is wrong says =
    subst (λ (o : EntriesState). IsWrong o named) (sym view)
    (subst (IsWrong (state octets is_open place count)) (sym says) (is_wrong (state octets is_open place count) fault (sym is ∙ wrong)))

reads_at : (octets left : List ℕ) (is_open : Bool) (place new_place : Place) (count new_count size : ℕ) (this : Stamped) (found : Next)
    → found ≡ next_of place octets → found ≡ Read this size → IsBehind place found new_place → left ≡ drop size octets
    → new_count ≡ min (count + 1) (2 ^ 64 - 1)
    → ReadsPacket (state octets is_open place count) this (state left is_open new_place new_count)
reads_at octets left is_open place new_place count new_count size this found is read behind rest counted =
    let next : next_of place octets ≡ Read this size = sym is ∙ read in
    let moves : new_place ≡ moved place this.entry = subst (λ (f : Next). IsBehind place f new_place) read behind in
    record {
      size = size;
      some = (read_fits place octets this size next).0;
      is = next;
      moves =
          ap (λ (xs : List ℕ). state xs is_open new_place new_count) rest
          ∙ ap (λ (p : Place). state (drop size octets) is_open p new_count) moves
          ∙ ap (λ (n : ℕ). state (drop size octets) is_open (moved place this.entry) n) counted;
    }

pub reads : (old : EntriesState) (octets left : List ℕ) (is_open : Bool) (place new_place : Place) (count new_count size : ℕ) (this : Stamped)
    (found : Next) → old ≡ state octets is_open place count → found ≡ next_of place octets → found ≡ Read this size
    → IsBehind place found new_place → left ≡ drop size octets → new_count ≡ min (count + 1) (2 ^ 64 - 1)
    → ReadsPacket old this (state left is_open new_place new_count)
reads old octets left is_open place new_place count new_count size this found view is read behind rest counted =
    subst (λ (o : EntriesState). ReadsPacket o this (state left is_open new_place new_count)) (sym view)
    (reads_at octets left is_open place new_place count new_count size this found is read behind rest counted)

-- ---- at the file's header

pub takes_open : (old : EntriesState) (result : Result (Option Stamped) PacketFault) (new : EntriesState) → old.is_open ≡ true
    → TakesPacket old result new → Takes old result new
takes_open old result new is takes = subst (λ (b : Bool). TakesFrom b old result new) (sym is) takes

pub takes_unopened : (old : EntriesState) (result : Result (Option Stamped) PacketFault) (new : EntriesState) → old.is_open ≡ false
    → Opens old result new → Takes old result new
takes_unopened old result new is opens = subst (λ (b : Bool). TakesFrom b old result new) (sym is) opens

pub opens_by : (old : EntriesState) (result : Result (Option Stamped) PacketFault) (new : EntriesState) → opening_of old.octets ≡ openings.Record
    → TakesPacket (opened old) result new → Opens old result new
opens_by old (Ok (Some this)) new is takes = (is, takes)
opens_by old (Ok None) new is takes = inr (is, takes)
opens_by old (Err NoRecord) new is takes = absurd takes
opens_by old (Err Length) new is takes = (is, takes)
opens_by old (Err (Octet at)) new is takes = (is, takes)
opens_by old (Err Memory) new is takes = (is, takes)
