-- SPDX-License-Identifier: MIT OR Apache-2.0
use Rattle.std.proofs.Common.{◌≡◌, take, nat_lt}
use Rattle.std.specs.List.{list_all}
use Rattle.hex.specs.Hex.{is_hex_digit}
use Rattle.program_base.proofs.hexadecimal.all_digits.Given as goal

-- the values so far are below 16 where all were digits
abbrev pub invariant-loop-octet : goal.invariant-loop-octet
invariant-loop-octet l = nat_lt l.values 16 ≡ list_all is_hex_digit (take l.octet-index l.octets)
