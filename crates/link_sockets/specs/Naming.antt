-- SPDX-License-Identifier: MIT OR Apache-2.0
-- The names of links in the log.
use Rattle.std.specs.Prelude.{◌≡◌, ℕ, ◌==◌, if◌then◌else◌, List, length, map}
use Rattle.std.specs.List.{range_with_len}
use Rattle.std.specs.declared.net.SocketAddr.{SocketAddr}
use Rattle.link_sockets.specs.declared.name.LinkName.{LinkName}
use Rattle.link_sockets.specs.declared.socket.ReadingEnd.{ReadingEnd}
use Rattle.link_sockets.specs.declared.socket.WritingEnd.{WritingEnd}
use Rattle.station_io.specs.declared.link.Link.{Link}
use Rattle.link_sockets.specs.declared.name.LinkName.TheVariants.{Switch, Cell}

-- The name of the link at `place` to a peer with this address. Place 0 is that of the switch, place
-- i that of the i-th cell.
abbrev pub name_of : ℕ → SocketAddr → LinkName
name_of place peer = if place == 0 then Switch else Cell place peer

-- The place of the link with this name.
abbrev pub place_of : LinkName → ℕ
place_of Switch = 0
place_of (Cell number _) = number

-- The place of each name is the position of the name in the list.
abbrev pub AreNamed : List LinkName → Type 0
AreNamed names = map place_of names ≡ range_with_len 0 (length names)

-- At both ends of each link, the place of the name is the position of the link in the list.
abbrev pub AreAllNamed : {R S G : Type 0} → List (Link (ReadingEnd R) (WritingEnd S) G) → Type 0
AreAllNamed links =
    AreNamed (map (λ link. link.reader.name) links)
    × AreNamed (map (λ link. link.writer.name) links)
