-- SPDX-License-Identifier: MIT OR Apache-2.0
use Rattle.std.proofs.Common.{◌≡◌, ◌<◌, ◌^◌, ◌==◌, false, length}
use Rattle.std.specs.Char.{is_ascii_digit}
use Rattle.std.specs.List.{list_all}
use Rattle.judge_lines.specs.Columns.{decimal_after}
use Rattle.judge_lines.proofs.number.read_number.Given as goal

-- the digits that are left carry the number on to that of the word, and are digits where the word is
abbrev pub invariant-loop-rest : goal.invariant-loop-rest
invariant-loop-rest l = record {
  value : decimal_after l.number l.rest ≡ decimal_after 0 l.fn.word;
  digits : list_all is_ascii_digit l.fn.word ≡ list_all is_ascii_digit l.rest;
  some : (length l.fn.word == 0) ≡ false;
  below : l.number < 2 ^ 64;
}

abbrev pub decreases-loop-rest : goal.decreases-loop-rest
decreases-loop-rest l = length l.rest
