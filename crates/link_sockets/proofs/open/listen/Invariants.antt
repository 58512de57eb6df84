-- SPDX-License-Identifier: MIT OR Apache-2.0
use Rattle.std.proofs.Common.{◌≡◌, vec_len}
use Rattle.link_sockets.proofs.open.listen.Given as goal

abbrev pub invariant-loop-cell : goal.invariant-loop-cell
invariant-loop-cell g l = vec_len l.ports ≡ l.cell-index
