-- SPDX-License-Identifier: MIT OR Apache-2.0
use Rattle.std.proofs.Common.{◌≡◌, ◌≤◌, ◌+◌, ◌*◌, ◌++◌, true, length, vec_len, vec_capacity}
use Rattle.std.specs.List.{list_all}
use Rattle.hex.specs.Hex.{is_hex_digit}
use Rattle.program_base.proofs.HexadecimalLemmas.{octets_of}
use Rattle.program_base.proofs.hexadecimal.decode_digits.Given as goal

-- what was written so far and what the digits that are left write is the whole, and has room
abbrev pub invariant-loop-rest : goal.invariant-loop-rest
invariant-loop-rest l = record {
  whole : l.octets.items ++ octets_of l.rest ≡ octets_of l.fn.digits;
  digits : list_all is_hex_digit l.rest ≡ true;
  room : 2 * vec_len l.octets + length l.rest ≤ 2 * vec_capacity l.octets;
}

abbrev pub decreases-loop-rest : goal.decreases-loop-rest
decreases-loop-rest l = length l.rest
