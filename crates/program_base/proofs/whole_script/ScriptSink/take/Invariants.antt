-- SPDX-License-Identifier: MIT OR Apache-2.0
use Rattle.std.proofs.Common.{length}
use Rattle.program_base.proofs.Scripts.{ReadsSome}
use Rattle.program_base.proofs.whole_script.ScriptSink.take.Given as goal

abbrev pub invariant-loop-end : goal.invariant-loop-end
invariant-loop-end l = ReadsSome l.initial.self l.self l.piece l.rest

abbrev pub decreases-loop-end : goal.decreases-loop-end
decreases-loop-end l = length l.rest
