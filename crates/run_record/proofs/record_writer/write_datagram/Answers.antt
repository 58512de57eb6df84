-- SPDX-License-Identifier: MIT OR Apache-2.0
use Rattle.std.proofs.Common.{ℕ, ◌+◌, ◌%◌, List, [], ◌∷◌, ◌++◌, length, ap, ◌∙◌}
use Rattle.frame_pictures.specs.declared.link_frame.End.TheVariants.{Controller}
use Rattle.run_record.specs.Packet.{datagram_header, internet_header}
use Rattle.run_record.proofs.Writing.{four_parts}
use Rattle.run_record.proofs.record_writer.write_datagram.Goals as goal

pub returns : goal.returns
returns c =
    let old = c.args.out.now.items in
    let one = c.extend_from_slice.new.self.items in
    let two = c.extend_from_slice-2.new.self.items in
    let size = length c.args.octets.now in
    four_parts old one two c.push.new.self.items c.extend_from_slice-3.new.self.items
    (internet_header ((29 + size) % 65536) c.args.place.now.packets 17 Controller Controller)
    (datagram_header ((9 + size) % 65536)) (c.args.kind ∷ []) c.args.octets.now
    (c.in_ok-extend_from_slice.ensures.items ∙ ap (λ (header : List ℕ). old ++ header) c.internet_header.ensures)
    (c.in_ok-extend_from_slice-2.ensures.items ∙ ap (λ (header : List ℕ). one ++ header) c.datagram_header.ensures)
    c.in_ok-push.ensures.items
    c.in_ok-extend_from_slice-3.ensures.items
