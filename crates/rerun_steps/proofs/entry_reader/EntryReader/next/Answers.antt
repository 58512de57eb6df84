-- SPDX-License-Identifier: MIT OR Apache-2.0
use Rattle.std.proofs.Common.{◌≡◌, false, ap, subst, sym, ◌∙◌}
use Rattle.run_record.specs.declared.next.Opening.TheVariants as openings
use Rattle.run_record.specs.Reading.{opening_of}
use Rattle.rerun_steps.specs.Packets.{EntriesState, TakesPacket}
use Rattle.rerun_steps.proofs.Packet.{opens_by, takes_unopened}
use Rattle.rerun_steps.proofs.entry_reader.EntryReader.next.Goals as goal

pub returns-in-Record : goal.returns-in-Record
returns-in-Record c =
    let old : EntriesState = c.args.self.now in
    let shut : old.is_open ≡ false = ap (λ (s : EntriesState). s.is_open) (sym c.self.view_is) ∙ c.if-self.false in
    let begins : opening_of old.octets ≡ openings.Record =
    ap (λ (s : EntriesState). opening_of s.octets) (sym c.self.view_is) ∙ ap opening_of (sym c.as_slice.ensures) ∙ sym c.opening.ensures
    ∙ c.in-Record.is in
    let result = c.next_packet-in-Record.result in
    let new = c.next_packet-in-Record.new.self in
    takes_unopened old result new shut
    (opens_by old result new begins
    (subst (λ (s : EntriesState). TakesPacket s result new) c.open.ensures c.next_packet-in-Record.ensures))
