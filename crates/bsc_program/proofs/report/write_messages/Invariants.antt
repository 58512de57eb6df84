-- SPDX-License-Identifier: MIT OR Apache-2.0
use Rattle.std.proofs.Common.{length, ◌++◌, take}
use Rattle.std.specs.Prelude.{codes, decimal}
use Rattle.std.specs.Io.KnownBytes.{Appends}
use Rattle.bsc_program.specs.Report.{message_lines}
use Rattle.bsc_program.proofs.report.write_messages.Given as goal

abbrev pub invariant-loop-message : goal.invariant-loop-message
invariant-loop-message g l =
    Appends (g.W.Write.contents l.fn.output) (g.W.Write.contents l.output) (decimal (length l.messages) ++ codes "\n" ++ message_lines (take l.message-index l.messages))
