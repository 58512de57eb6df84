-- SPDX-License-Identifier: MIT OR Apache-2.0
use Rattle.program_io.proofs.Putting.{PutsSome}
use Rattle.program_io.proofs.output.put_apart.Given as goal

abbrev pub invariant-loop-size : goal.invariant-loop-size
invariant-loop-size g l = PutsSome l.octets l.rest (g.W.Write.contents l.initial.output) (g.W.Write.contents l.output)
