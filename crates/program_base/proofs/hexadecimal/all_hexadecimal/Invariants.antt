-- SPDX-License-Identifier: MIT OR Apache-2.0
use Rattle.std.proofs.Common.{◌≡◌, length}
use Rattle.std.specs.List.{list_all}
use Rattle.hex.specs.Hex.{is_hex_digit}
use Rattle.program_base.proofs.hexadecimal.all_hexadecimal.Given as goal

-- all are digits where those that are left are
abbrev pub invariant-loop-rest : goal.invariant-loop-rest
invariant-loop-rest l = list_all is_hex_digit l.fn.octets ≡ list_all is_hex_digit l.rest

abbrev pub decreases-loop-rest : goal.decreases-loop-rest
decreases-loop-rest l = length l.rest
