-- SPDX-License-Identifier: MIT OR Apache-2.0
use Rattle.std.proofs.Common.{◌++◌, ◌%◌, ◌∙◌, ap}
use Rattle.frame_pictures.specs.Capture.{record_header, way}
use Rattle.frame_pictures.specs.NextNumbers.{number_at}
use Rattle.frame_pictures.specs.Packet.{packet, packet_size}
use Rattle.frame_pictures.proofs.Writing.{two_parts}
use Rattle.frame_pictures.proofs.capture_file.write_record.Goals as goal

pub returns : goal.returns
returns c =
    let this = c.args.this.now in
    let numbers = c.args.numbers.now in
    let one = c.write_record_header.new.file.items in
    let new = c.write_packet.new.out.items in
    let sequence = c.number_at-sequence.ensures ∙ ap (number_at numbers) c.way.ensures in
    let acknowledged = c.number_at-acknowledged.ensures ∙ ap (number_at numbers) c.way-2.ensures in
    two_parts c.write_packet.result c.args.file.now.items one new
    (record_header this.ms (packet_size this.frame % 4294967296))
    (packet (number_at numbers (way this.from this.to)) (number_at numbers (way this.to this.from)) this.from this.to this.frame)
    (c.in_ok-write_record_header.ensures ∙ ap (λ size. c.args.file.now.items ++ record_header this.ms (size % 4294967296)) c.packet_size.ensures)
    (rw (← sequence, ← acknowledged) c.write_packet.ensures)
