-- SPDX-License-Identifier: MIT OR Apache-2.0
use Rattle.std.proofs.Common.{◌≡◌, ◌<◌, ◌^◌, length}
use Rattle.std.specs.Char.{is_ascii_digit}
use Rattle.std.specs.List.{list_all}
use Rattle.program_base.specs.Words.{decimal_after}
use Rattle.program_base.proofs.value.decimal.Given as goal

-- the digits that are left carry the number on to that of the word, and are digits where the word is
abbrev pub invariant-loop-rest : goal.invariant-loop-rest
invariant-loop-rest l = record {
  value : decimal_after l.number l.rest ≡ decimal_after 0 l.fn.word;
  digits : list_all is_ascii_digit l.fn.word ≡ list_all is_ascii_digit l.rest;
  below : l.number < 2 ^ 32;
}

abbrev pub decreases-loop-rest : goal.decreases-loop-rest
decreases-loop-rest l = length l.rest
