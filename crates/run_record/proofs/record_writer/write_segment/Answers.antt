-- SPDX-License-Identifier: MIT OR Apache-2.0
use Rattle.std.proofs.Common.{ℕ, ◌+◌, ◌%◌, List, ◌++◌, length, ap, ◌∙◌}
use Rattle.std.specs.Prelude.{slice_index}
use Rattle.run_record.specs.Packet.{internet_header, segment_header}
use Rattle.run_record.proofs.Writing.{four_parts, two_lengths}
use Rattle.run_record.proofs.record_writer.write_segment.Goals as goal

pub returns : goal.returns
returns c =
    let old = c.args.out.now.items in
    let one = c.extend_from_slice.new.self.items in
    let two = c.extend_from_slice-2.new.self.items in
    let three = c.extend_from_slice-3.new.self.items in
    let first = c.args.first.now in
    let rest = c.args.rest.now in
    let place = c.args.place.now in
    let way = c.args.way in
    four_parts old one two three c.extend_from_slice-4.new.self.items
    (internet_header ((40 + length (first ++ rest)) % 65536) place.packets 6 way.from way.to)
    (segment_header (slice_index place.numbers way.number) (slice_index place.numbers way.back) c.args.flags way.from way.to) first rest
    (c.in_ok-extend_from_slice.ensures.items ∙ ap (λ (header : List ℕ). old ++ header)
    (c.internet_header.ensures ∙ ap (λ (size : ℕ). internet_header (size % 65536) place.packets 6 way.from way.to) (two_lengths first rest)))
    (c.in_ok-extend_from_slice-2.ensures.items ∙ ap (λ (header : List ℕ). one ++ header) c.segment_header.ensures)
    c.in_ok-extend_from_slice-3.ensures.items
    c.in_ok-extend_from_slice-4.ensures.items
