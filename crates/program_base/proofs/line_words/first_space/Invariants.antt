-- SPDX-License-Identifier: MIT OR Apache-2.0
use Rattle.memchr.specs.Find.{Nowhere, Passes, is_byte}
use Rattle.program_base.proofs.line_words.first_space.Given as goal

-- no space so far
abbrev pub invariant-loop-at : goal.invariant-loop-at
invariant-loop-at l = Nowhere (Passes (is_byte 32) l.line) 0 l.at
