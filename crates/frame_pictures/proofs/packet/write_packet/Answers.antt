-- SPDX-License-Identifier: MIT OR Apache-2.0
use Rattle.std.proofs.Common.{◌++◌, ◌%◌, ◌∙◌, ap}
use Rattle.frame_pictures.specs.Packet.{framed, internet_header, packet_size, segment_header}
use Rattle.frame_pictures.proofs.Writing.{three_parts}
use Rattle.frame_pictures.proofs.packet.write_packet.Goals as goal

pub returns : goal.returns
returns c =
    let old = c.args.out.now.items in
    let one = c.extend_from_slice.new.self.items in
    three_parts c.write_framed.result old one c.extend_from_slice-2.new.self.items c.write_framed.new.out.items
    (internet_header (packet_size c.args.frame.now % 65536) c.args.from c.args.to)
    (segment_header c.args.sequence c.args.acknowledged c.args.from c.args.to)
    (framed c.args.frame.now)
    (c.in_ok-extend_from_slice.ensures.items ∙ ap (λ header. old ++ header) (c.internet_header.ensures ∙ ap (λ size. internet_header (size % 65536) c.args.from c.args.to) c.packet_size.ensures))
    (c.in_ok-extend_from_slice-2.ensures.items ∙ ap (λ header. one ++ header) c.segment_header.ensures)
    c.write_framed.ensures
