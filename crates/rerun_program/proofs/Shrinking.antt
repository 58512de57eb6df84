-- SPDX-License-Identifier: MIT OR Apache-2.0
-- A packet that is read leaves fewer octets.
use Rattle.std.proofs.Common.{◌≡◌, ◌-◌, ◌<◌, ◌≤◌, Bool, true, false, length, drop, ap, ◌∙◌, Some, None, Ok, Option, arith}
use Rattle.std.specs.Prelude.{IfSome}
use Rattle.std.proofs.lemmas.List.{length-drop}
use Rattle.rerun_steps.specs.Packets.{EntriesState, ReadsPacket, Takes, TakesFrom, opened}
use Rattle.rerun_steps.proofs.Sizes.{read_fits}
use Rattle.run_record.specs.declared.entry.Stamped.{Stamped}

packet_shorter : (old : EntriesState) (this : Stamped) (new : EntriesState) → ReadsPacket old this new → length new.octets < length old.octets
packet_shorter old this new reads =
    let fits : (0 < reads.size) × (reads.size ≤ length old.octets) = read_fits old.place old.octets this reads.size reads.is in
    let some : 0 < reads.size = fits.0 in
    let within : reads.size ≤ length old.octets = fits.1 in
    let left : length new.octets ≡ length old.octets - reads.size =
    ap (λ (s : EntriesState). length s.octets) reads.moves ∙ length-drop reads.size old.octets in
    omega (arith, some, within, left)

shorter_from : (b : Bool) (old : EntriesState) (this : Stamped) (new : EntriesState) → TakesFrom b old (Ok (Some this)) new
    → length new.octets < length old.octets
shorter_from true old this new takes = packet_shorter old this new takes
shorter_from false old this new takes =
    let less : length new.octets < length (drop 24 old.octets) = packet_shorter (opened old) this new takes.1 in
    let front : length (drop 24 old.octets) ≡ length old.octets - 24 = length-drop 24 old.octets in
    omega (arith, less, front)

pub takes_shorter : (old : EntriesState) (next : Option Stamped) (new : EntriesState) → Takes old (Ok next) new
    → IfSome next (λ this. length new.octets < length old.octets)
takes_shorter old (Some this) new takes = shorter_from old.is_open old this new takes
takes_shorter old None new takes = tt
