-- SPDX-License-Identifier: MIT OR Apache-2.0
-- Rows: the definitions on literal octets, by RFC 791, RFC 1071, RFC 9293 and the pcap format.
use Rattle.std.proofs.Common.{◌≡◌, [], ◌∷◌, ◌++◌, map, refl}
use Rattle.octets.proofs.Hex.{hex}
use Rattle.ipa_framing.specs.Front.{frame}
use Rattle.frame_pictures.specs.declared.link_frame.End.TheVariants.{Switch, Station, Controller}
use Rattle.frame_pictures.specs.declared.link_frame.LinkFrame.{LinkFrame}
use Rattle.frame_pictures.specs.Capture.{capture_of, file_header, next_number, record_header, way}
use Rattle.frame_pictures.specs.NextNumbers.{number_at}
use Rattle.frame_pictures.specs.Packet.{address, checksum, framed, internet_header, port, segment_header}

-- ---- checksums

-- RFC 1071, clause 3: the words 0001 f203 f4f5 f6f7 have the sum ddf2, whose complement is 220d
example_of_the_rfc : checksum (hex "00 01 f2 03 f4 f5 f6 f7") ≡ 0x220d
example_of_the_rfc = refl

-- a header that is known with its checksum: 115 octets of UDP from 192.168.0.1 to 192.168.0.199
header_that_is_known : checksum (hex "45 00 00 73 00 00 40 00 40 11 00 00 c0 a8 00 01 c0 a8 00 c7") ≡ 0xb861
header_that_is_known = refl

-- what is carried may be carried again: ffff and ffff make 1fffe, then ffff, whose complement is 0;
-- with 0001 they make 1ffff, then 10000, then 1
carried_twice : checksum (hex "ff ff ff ff") ∷ checksum (hex "ff ff ff ff 00 01") ∷ checksum [] ∷ [] ≡ 0x0000 ∷ 0xfffe ∷ 0xffff ∷ []
carried_twice = refl

-- ---- ends

ends : address Switch ++ address Controller ++ address (Station 2) ++ address (Station 32) ≡ hex "0a 00 00 02 0a 00 00 01 0a 00 01 02 0a 00 01 20"
ends = refl

ports : port Switch Controller ∷ port Controller Switch ∷ port Controller (Station 1) ∷ port (Station 1) Controller ∷ [] ≡ 5000 ∷ 49152 ∷ 3003 ∷ 49152 ∷ []
ports = refl

ways : way Switch Controller ∷ way Controller Switch ∷ way (Station 1) Controller ∷ way Controller (Station 1) ∷ way (Station 2) Controller ∷ way Controller (Station 2) ∷ [] ≡ 0 ∷ 1 ∷ 4 ∷ 5 ∷ 6 ∷ 7 ∷ []
ways = refl

-- ---- headers

file_begins : file_header ≡ hex "a1 b2 c3 d4 00 02 00 04 00 00 00 00 00 00 00 00 00 00 ff ff 00 00 00 65"
file_begins = refl

-- a minute, a second and a half; and 2^32 seconds with 999 milliseconds
times : record_header 61500 53 ++ record_header 4294967296999 65536
    ≡ hex "00 00 00 3d 00 07 a1 20 00 00 00 35 00 00 00 35 00 00 00 00 00 0f 3e 58 00 01 00 00 00 01 00 00"
times = refl

-- 300 octets from the switch
from_the_switch : internet_header 300 Switch Controller ≡ hex "45 00 01 2c 00 00 40 00 40 06 25 ca 0a 00 00 02 0a 00 00 01"
from_the_switch = refl

to_a_station : segment_header 1 258 Controller (Station 1) ≡ hex "0b bb c0 00 00 00 00 01 00 00 01 02 50 18 ff ff 00 00 00 00"
to_a_station = refl

of_large_numbers : segment_header 0x12345678 0xfedcba98 Switch Controller ≡ hex "13 88 c0 00 12 34 56 78 fe dc ba 98 50 18 ff ff 00 00 00 00"
of_large_numbers = refl

-- ---- a file

abbrev request : LinkFrame
request = record { ms = 0; from = Station 1; to = Controller; frame = frame 0x00 (hex "0c 13 01 88 13 7f 01 02 11 05") }

abbrev answer : LinkFrame
answer = record { ms = 61500; from = Controller; to = Station 1; frame = frame 0x00 (hex "08 21 01 41 04 0a 0b 0c") }

abbrev acknowledgement : LinkFrame
acknowledgement = record { ms = 61501; from = Station 1; to = Controller; frame = frame 0x00 (hex "08 22 01 41 08 01 02") }

abbrev to_the_switch : LinkFrame
to_the_switch = record { ms = 61501; from = Controller; to = Switch; frame = frame 0xfd (hex "01 00 00 01 02 02 42 0f 00") }

a_frame : framed request.frame ≡ hex "00 0a 00 0c 13 01 88 13 7f 01 02 11 05"
a_frame = refl

-- 13 octets, then 10, from the station; 11 to it
numbers : next_number 4 (request ∷ answer ∷ acknowledgement ∷ []) ∷ next_number 5 (request ∷ answer ∷ []) ∷ next_number 1 (request ∷ []) ∷ [] ≡ 24 ∷ 12 ∷ 1 ∷ []
numbers = refl

numbers_by_way : map (number_at (7 ∷ 8 ∷ [])) (0 ∷ 1 ∷ 2 ∷ []) ≡ 7 ∷ 8 ∷ 1 ∷ []
numbers_by_way = refl

nothing_crossed : capture_of [] ≡ file_header
nothing_crossed = refl

four_frames : capture_of (request ∷ answer ∷ acknowledgement ∷ to_the_switch ∷ []) ≡ file_header
    ++ hex "00 00 00 00 00 00 00 00 00 00 00 35 00 00 00 35"
    ++ hex "45 00 00 35 00 00 40 00 40 06 25 c2 0a 00 01 01 0a 00 00 01"
    ++ hex "c0 00 0b bb 00 00 00 01 00 00 00 01 50 18 ff ff 00 00 00 00"
    ++ hex "00 0a 00 0c 13 01 88 13 7f 01 02 11 05"
    ++ hex "00 00 00 3d 00 07 a1 20 00 00 00 33 00 00 00 33"
    ++ hex "45 00 00 33 00 00 40 00 40 06 25 c4 0a 00 00 01 0a 00 01 01"
    ++ hex "0b bb c0 00 00 00 00 01 00 00 00 0e 50 18 ff ff 00 00 00 00"
    ++ hex "00 08 00 08 21 01 41 04 0a 0b 0c"
    ++ hex "00 00 00 3d 00 07 a5 08 00 00 00 32 00 00 00 32"
    ++ hex "45 00 00 32 00 00 40 00 40 06 25 c5 0a 00 01 01 0a 00 00 01"
    ++ hex "c0 00 0b bb 00 00 00 0e 00 00 00 0c 50 18 ff ff 00 00 00 00"
    ++ hex "00 07 00 08 22 01 41 08 01 02"
    ++ hex "00 00 00 3d 00 07 a5 08 00 00 00 34 00 00 00 34"
    ++ hex "45 00 00 34 00 00 40 00 40 06 26 c2 0a 00 00 01 0a 00 00 02"
    ++ hex "c0 00 13 88 00 00 00 01 00 00 00 01 50 18 ff ff 00 00 00 00"
    ++ hex "00 09 fd 01 00 00 01 02 02 42 0f 00"
four_frames = refl
