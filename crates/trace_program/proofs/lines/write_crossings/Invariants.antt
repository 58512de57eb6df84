-- SPDX-License-Identifier: MIT OR Apache-2.0
use Rattle.std.proofs.Common.{take}
use Rattle.std.specs.List.{flat_map}
use Rattle.std.specs.Io.KnownBytes.{Appends}
use Rattle.dtap_codec.specs.Number.{count_of}
use Rattle.trace_program.specs.TraceLines.{crossing_line}
use Rattle.trace_program.proofs.lines.write_crossings.Given as goal

abbrev pub invariant-loop-crossing : goal.invariant-loop-crossing
invariant-loop-crossing g l = Appends (g.W.Write.contents l.fn.output) (g.W.Write.contents l.output)
    (flat_map (crossing_line (count_of l.modulus) l.number l.fate) (take l.crossing-index l.crossings))
