-- SPDX-License-Identifier: MIT OR Apache-2.0
use Rattle.std.proofs.Common.{◌≡◌, ◌+◌, vec_len}
use Rattle.std.specs.Vec.Iter.{into_iter_len}
use Rattle.link_sockets.proofs.open.OpenedLinks.add_stations.Given as goal
use Rattle.link_sockets.specs.Naming.{AreAllNamed}

abbrev pub invariant-loop-port : goal.invariant-loop-port
invariant-loop-port g l =
    (vec_len l.self.links + into_iter_len l.port-iterator ≡ vec_len l.fn.self.links + vec_len l.fn.ports)
    × AreAllNamed l.self.links.items
