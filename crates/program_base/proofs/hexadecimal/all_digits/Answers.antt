-- SPDX-License-Identifier: MIT OR Apache-2.0
use Rattle.program_base.proofs.HexadecimalLemmas.{digits_more}
use Rattle.program_base.proofs.hexadecimal.all_digits.Goals as goal

pub loop-octet-preserved : goal.loop-octet-preserved
loop-octet-preserved c =
    digits_more c.args.octets.now c.loop-octet.octet-index c.loop-octet.values c.digit_value-values.result c.loop-octet-test.true c.loop-octet.invariant
    c.digit_value-values.ensures
