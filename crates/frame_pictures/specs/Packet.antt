-- SPDX-License-Identifier: MIT OR Apache-2.0
-- A frame of a link as a TCP segment in an IPv4 packet (RFC 791, RFC 9293).
use Rattle.std.specs.Prelude.{ℕ, ◌+◌, ◌*◌, ◌-◌, ◌/◌, ◌%◌, List, [], ◌∷◌, ◌++◌, length}
use Rattle.ipa_framing.specs.declared.frame.Frame.{Frame}
use Rattle.frame_pictures.specs.declared.link_frame.End.{End}
use Rattle.frame_pictures.specs.declared.link_frame.End.TheVariants.{Switch, Station, Controller}

-- A number below 2^16 as two octets and a number below 2^32 as four octets, the most significant
-- octet first.
abbrev pub two_octets : ℕ → List ℕ
two_octets n = (n / 256) ∷ (n % 256) ∷ []

abbrev pub four_octets : ℕ → List ℕ
four_octets n = (n / 16777216) ∷ (n / 65536 % 256) ∷ (n / 256 % 256) ∷ (n % 256) ∷ []

-- ---- the ends

-- The address of an end: 10.0.0.2 for the switch, 10.0.0.1 for the controller. The address of a
-- station is 10.0.1.n, where n is the number of its cell modulo 256.
abbrev pub address : End → List ℕ
address Switch = 10 ∷ 0 ∷ 0 ∷ 2 ∷ []
address Controller = 10 ∷ 0 ∷ 0 ∷ 1 ∷ []
address (Station number) = 10 ∷ 0 ∷ 1 ∷ (number % 256) ∷ []

-- The switch listens on port 5000. The controller listens for stations on 3003, whatever the
-- settings say, so that Wireshark decodes the octets as IPA. An end that connects has port 49152.
abbrev pub port : End → End → ℕ
port Switch other = 5000
port Controller (Station number) = 3003
port end other = 49152

-- ---- the checksum of a header of IPv4 (RFC 1071)

-- The sum of the 16-bit words; a last single octet isn't counted.
abbrev pub sum_of_words : List ℕ → ℕ
sum_of_words (high ∷ low ∷ octets) = (256 * high + low) + sum_of_words octets
sum_of_words octets = 0

-- Adds the carry to the low 16 bits. The checksum folds twice, which is enough for ten words.
abbrev pub folded : ℕ → ℕ
folded sum = sum / 65536 + sum % 65536

abbrev pub checksum : List ℕ → ℕ
checksum octets = 65535 - folded (folded (sum_of_words octets))

-- ---- the headers

-- The fields of an IPv4 header with this checksum: version 4, five words of header, the packet's
-- length, don't fragment, 64 hops, TCP, the checksum, both addresses.
abbrev pub internet_fields : ℕ → ℕ → End → End → List ℕ
internet_fields size sum from to =
    0x45 ∷ 0x00 ∷ two_octets size ++ 0x00 ∷ 0x00 ∷ 0x40 ∷ 0x00 ∷ 0x40 ∷ 0x06 ∷ two_octets sum
    ++ address from ++ address to

abbrev pub internet_header : ℕ → End → End → List ℕ
internet_header size from to =
    internet_fields size (checksum (internet_fields size 0 from to)) from to

-- The TCP header: ports, sequence number, acknowledgement number, five words of header, PSH and
-- ACK, the window. The segment's checksum isn't computed; its field is 0.
abbrev pub segment_header : ℕ → ℕ → End → End → List ℕ
segment_header sequence acknowledged from to =
    two_octets (port from to) ++ two_octets (port to from) ++ four_octets sequence
    ++ four_octets acknowledged ++ 0x50 ∷ 0x18 ∷ 0xff ∷ 0xff ∷ 0x00 ∷ 0x00 ∷ 0x00 ∷ 0x00 ∷ []

-- ---- the packet

-- The octets of a frame on its link: the body's length modulo 65,536 (two octets), the stream (one
-- octet) and the body.
abbrev pub framed : Frame → List ℕ
framed frame = two_octets (length frame.body % 65536) ++ frame.stream ∷ frame.body

-- The length of a packet with a frame, in octets.
abbrev pub packet_size : Frame → ℕ
packet_size frame = 40 + length (framed frame)

-- The packet that carries `frame` from `from` to `to`. `sequence` is the number of the frame's
-- first octet; `acknowledged` is the number of the next octet that `from` expects.
abbrev pub packet : ℕ → ℕ → End → End → Frame → List ℕ
packet sequence acknowledged from to frame =
    internet_header (packet_size frame % 65536) from to
    ++ segment_header sequence acknowledged from to
    ++ framed frame
