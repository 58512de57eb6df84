-- SPDX-License-Identifier: MIT OR Apache-2.0
-- The packets of a record: IPv4 packets (RFC 791) with a TCP segment (RFC 9293) for an entry that a
-- link carries, and with a UDP datagram (RFC 768) for any other entry.
use Rattle.std.specs.Prelude.{ℕ, ◌+◌, ◌*◌, ◌%◌, ◌==◌, if◌then◌else◌}
use Rattle.std.specs.Prelude.{List, [], ◌∷◌, ◌++◌, length, slice_index}
use Rattle.frame_pictures.specs.Packet.{address, checksum, four_octets, framed, port, two_octets}
use Rattle.frame_pictures.specs.declared.link_frame.End.{End}
use Rattle.frame_pictures.specs.declared.link_frame.End.TheVariants.{Switch, Station, Controller}
use Rattle.ruled_relay.specs.declared.item.What.TheVariants as what
use Rattle.run_record.specs.declared.entry.Entry.{Entry}
use Rattle.run_record.specs.declared.entry.Entry.TheVariants.{Head, Took, Passed, Put, Lost}
use Rattle.run_record.specs.declared.place.Place.{Place}

-- The end of a link other than the controller: the switch for link 0, else the station with the
-- number `link`.
abbrev pub end_of : ℕ → End
end_of link = if link == 0 then Switch else Station link

-- The indices of a link's sequence numbers in a place: `up` for octets from the link, `down` for
-- octets to the link.
abbrev pub up : ℕ → ℕ
up link = 2 * link

abbrev pub down : ℕ → ℕ
down link = 2 * link + 1

-- ---- headers

-- The fields of an IPv4 header with this checksum: version 4, five words of header, the packet's
-- length, its number in the file, don't fragment, 64 hops, the protocol, both addresses.
abbrev pub internet_fields : ℕ → ℕ → ℕ → ℕ → End → End → List ℕ
internet_fields size packets protocol sum from to =
    0x45 ∷ 0x00 ∷ two_octets size ++ two_octets packets
    ++ 0x40 ∷ 0x00 ∷ 0x40 ∷ protocol ∷ two_octets sum ++ address from ++ address to

abbrev pub internet_header : ℕ → ℕ → ℕ → End → End → List ℕ
internet_header size packets protocol from to =
    internet_fields size packets protocol
    (checksum (internet_fields size packets protocol 0 from to)) from to

-- The TCP header: ports, sequence number, acknowledgement number, five words of header, flags, the
-- window. The segment's checksum isn't computed; its field is 0.
abbrev pub segment_header : ℕ → ℕ → ℕ → End → End → List ℕ
segment_header sequence acknowledged flags from to =
    two_octets (port from to) ++ two_octets (port to from) ++ four_octets sequence
    ++ four_octets acknowledged ++ 0x50 ∷ flags ∷ 0xff ∷ 0xff ∷ 0x00 ∷ 0x00 ∷ 0x00 ∷ 0x00 ∷ []

-- The UDP header: ports and length. The checksum isn't computed; its field is 0.
abbrev pub datagram_header : ℕ → List ℕ
datagram_header size =
    two_octets (port Controller Controller) ++ two_octets (port Controller Controller)
    ++ two_octets size ++ 0x00 ∷ 0x00 ∷ []

-- ---- packets

-- The IPv4 packet of a segment. `way` is the index of the segment's sequence number, `back` the
-- index of the opposite direction's sequence number.
abbrev pub segment : Place → ℕ → ℕ → ℕ → End → End → List ℕ → List ℕ
segment place way back flags from to octets =
    internet_header ((40 + length octets) % 65536) place.packets 6 from to
    ++ segment_header (slice_index place.numbers way) (slice_index place.numbers back)
    flags from to ++ octets

-- The flags of a segment: ACK and PSH if the segment carries octets, ACK and FIN if it marks the
-- end of a link.
abbrev pub PSH : ℕ
PSH = 0x18

abbrev pub FIN : ℕ
FIN = 0x11

abbrev pub segment_up : Place → ℕ → ℕ → List ℕ → List ℕ
segment_up place link flags octets =
    segment place (up link) (down link) flags (end_of link) Controller octets

abbrev pub segment_down : Place → ℕ → List ℕ → List ℕ
segment_down place link octets =
    segment place (down link) (up link) PSH Controller (end_of link) octets

-- The IPv4 packet of a datagram that carries `kind`, then `octets`.
abbrev pub datagram : Place → ℕ → List ℕ → List ℕ
datagram place kind octets =
    internet_header ((29 + length octets) % 65536) place.packets 17 Controller Controller
    ++ datagram_header ((9 + length octets) % 65536) ++ kind ∷ octets

-- The packet of an entry at a place.
abbrev pub packet_of : Place → Entry → List ℕ
packet_of place (Head octets) = datagram place 1 octets
packet_of place (Took link (what.Frame frame)) = segment_up place link PSH (framed frame)
packet_of place (Took link what.Down) = segment_up place link FIN []
packet_of place (Passed ms) = datagram place 2 (four_octets ms)
packet_of place (Put link frame) = segment_down place link (framed frame)
packet_of place Lost = datagram place 3 []
