-- SPDX-License-Identifier: MIT OR Apache-2.0
use Rattle.std.proofs.Common.{ap, sym, ◌∙◌, inl, inr}
use Rattle.run_record.specs.Reading.{next_of}
use Rattle.rerun_steps.proofs.Packet.{ends, reads, wrongs}
use Rattle.rerun_steps.proofs.Sizes.{read_fits}
use Rattle.rerun_steps.proofs.entry_reader.EntryReader.next_packet.Goals as goal

pub advance-requires : goal.advance-requires
advance-requires c =
    let place = c.self.inside.reader.writer.place in
    let octets = c.self.inside.buffer.items in
    let is = c.in_ok-next.ensures.next ∙ ap (next_of place) c.as_slice.ensures in
    (read_fits place octets c.in-Read.stamped c.in-Read.size (sym is ∙ c.in-Read.is)).1

pub returns-in-End : goal.returns-in-End
returns-in-End c =
    let place = c.self.inside.reader.writer.place in
    let octets = c.self.inside.buffer.items in
    ends c.args.self.now octets c.self.inside.is_open place c.next.new.self.writer.place c.self.inside.count c.in_ok-next.field-0
    (sym c.self.view_is) (c.in_ok-next.ensures.next ∙ ap (next_of place) c.as_slice.ensures) c.in_ok-next.ensures.place (inl c.in-End.is)

pub returns-in-Cut : goal.returns-in-Cut
returns-in-Cut c =
    let place = c.self.inside.reader.writer.place in
    let octets = c.self.inside.buffer.items in
    ends c.args.self.now octets c.self.inside.is_open place c.next.new.self.writer.place c.self.inside.count c.in_ok-next.field-0
    (sym c.self.view_is) (c.in_ok-next.ensures.next ∙ ap (next_of place) c.as_slice.ensures) c.in_ok-next.ensures.place (inr c.in-Cut.is)

pub returns-in-Wrong : goal.returns-in-Wrong
returns-in-Wrong c =
    let place = c.self.inside.reader.writer.place in
    let octets = c.self.inside.buffer.items in
    wrongs c.args.self.now octets c.self.inside.is_open place c.self.inside.count c.in_ok-next.field-0 c.in-Wrong.fault c.of.result
    (sym c.self.view_is) (c.in_ok-next.ensures.next ∙ ap (next_of place) c.as_slice.ensures) c.in-Wrong.is c.of.ensures

pub returns-in-Read : goal.returns-in-Read
returns-in-Read c =
    let place = c.self.inside.reader.writer.place in
    let octets = c.self.inside.buffer.items in
    reads c.args.self.now octets c.advance.new.self.items c.self.inside.is_open place c.next.new.self.writer.place c.self.inside.count
    c.saturating_add-self-inside.result c.in-Read.size c.in-Read.stamped c.in_ok-next.field-0 (sym c.self.view_is)
    (c.in_ok-next.ensures.next ∙ ap (next_of place) c.as_slice.ensures) c.in-Read.is c.in_ok-next.ensures.place c.advance.ensures.items
    c.saturating_add-self-inside.ensures
