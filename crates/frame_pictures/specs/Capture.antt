-- SPDX-License-Identifier: MIT OR Apache-2.0
-- The frames of the links as a pcap file, version 2.4, of IPv4 packets.
use Rattle.std.specs.Prelude.{ℕ, ◌+◌, ◌*◌, ◌/◌, ◌%◌, ◌==◌, if◌then◌else◌}
use Rattle.std.specs.Prelude.{List, [], ◌∷◌, ◌++◌, length}
use Rattle.frame_pictures.specs.Packet.{four_octets, framed, packet, packet_size}
use Rattle.frame_pictures.specs.declared.link_frame.End.{End}
use Rattle.frame_pictures.specs.declared.link_frame.End.TheVariants.{Switch, Station, Controller}
use Rattle.frame_pictures.specs.declared.link_frame.LinkFrame.{LinkFrame}

-- The header of the file: magic, version 2.4, time zone and accuracy 0, at most 65,535 octets a
-- packet, link type 101 (raw IPv4).
abbrev pub file_header : List ℕ
file_header =
    0xa1 ∷ 0xb2 ∷ 0xc3 ∷ 0xd4 ∷ 0x00 ∷ 0x02 ∷ 0x00 ∷ 0x04
    ∷ 0x00 ∷ 0x00 ∷ 0x00 ∷ 0x00 ∷ 0x00 ∷ 0x00 ∷ 0x00 ∷ 0x00
    ∷ 0x00 ∷ 0x00 ∷ 0xff ∷ 0xff ∷ 0x00 ∷ 0x00 ∷ 0x00 ∷ 0x65 ∷ []

-- ---- sequence numbers

-- The number of a way of a link: even towards the controller, odd from the controller.
abbrev pub way : End → End → ℕ
way Switch to = 0
way (Station number) to = 2 * number + 2
way Controller Switch = 1
way Controller (Station number) = 2 * number + 3
way Controller Controller = 1

-- The number of octets that these frames have on the way `number`.
abbrev pub sent_on : ℕ → List LinkFrame → ℕ
sent_on number [] = 0
sent_on number (first ∷ frames) =
    (if way first.from first.to == number then length (framed first.frame) else 0)
    + sent_on number frames

-- The sequence number of the next octet on the way `number` after the frames `before`. The first
-- octet on each way has the number 1.
abbrev pub next_number : ℕ → List LinkFrame → ℕ
next_number number before = (1 + sent_on number before) % 4294967296

-- ---- the file

-- The header of a packet's record: seconds, microseconds, then the packet's length, two times.
abbrev pub record_header : ℕ → ℕ → List ℕ
record_header ms size =
    four_octets (ms / 1000 % 4294967296) ++ four_octets (ms % 1000 * 1000)
    ++ four_octets size ++ four_octets size

-- The record of a frame. `sequence` is the number of the frame's first octet; `acknowledged` is the
-- number of the next octet in the opposite direction.
abbrev pub record_of : ℕ → ℕ → LinkFrame → List ℕ
record_of sequence acknowledged this =
    record_header this.ms (packet_size this.frame % 4294967296)
    ++ packet sequence acknowledged this.from this.to this.frame

-- The record of the frame `this`, which follows the frames `before`.
abbrev pub record_behind : List LinkFrame → LinkFrame → List ℕ
record_behind before this =
    record_of (next_number (way this.from this.to) before)
    (next_number (way this.to this.from) before) this

abbrev pub records_behind : List LinkFrame → List LinkFrame → List ℕ
records_behind before [] = []
records_behind before (this ∷ frames) =
    record_behind before this ++ records_behind (before ++ this ∷ []) frames

-- The pcap file of these frames, in their order.
abbrev pub capture_of : List LinkFrame → List ℕ
capture_of frames = file_header ++ records_behind [] frames
