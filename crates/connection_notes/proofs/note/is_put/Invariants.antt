-- SPDX-License-Identifier: MIT OR Apache-2.0
use Rattle.std.proofs.Common.{◌≡◌, drop}
use Rattle.connection_notes.specs.Notes.{is_put}
use Rattle.connection_notes.proofs.note.is_put.Given as goal

abbrev pub invariant-loop-out : goal.invariant-loop-out
invariant-loop-out l = is_put l.way (drop l.out-index l.outs) ≡ is_put l.way l.outs
