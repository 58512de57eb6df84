-- SPDX-License-Identifier: MIT OR Apache-2.0
use Rattle.std.proofs.Common.{◌≡◌, ℕ, ◌==◌, ◌<◌, true, refl, unwrap_or, slice_index, arith}
use Rattle.std.proofs.lemmas.Bool.{agree_below_at, eqb-true}
use Rattle.hex.specs.Hex.{hex_digit_value}
use Rattle.program_base.specs.declared.hexadecimal.TheConstants.{DIGIT_VALUES}
use Rattle.program_base.proofs.hexadecimal.digit_value.Goals as goal

-- the table has the value of each octet
table_is : (octet : ℕ) → octet < 256 → slice_index DIGIT_VALUES octet ≡ unwrap_or (hex_digit_value octet) 16
table_is octet below =
    eqb-true (slice_index DIGIT_VALUES octet) (unwrap_or (hex_digit_value octet) 16)
    (agree_below_at (λ o. slice_index DIGIT_VALUES o == unwrap_or (hex_digit_value o) 16) (λ _. true) 256 octet refl below)

pub returns : goal.returns
returns c = rw c.from.ensures (table_is c.args.octet (omega arith))
