-- SPDX-License-Identifier: MIT OR Apache-2.0
use Rattle.std.proofs.Common.{◌≡◌, ◌+◌, ◌*◌, length, get_or, take, drop, ◌-◌, arith}
use Rattle.rsl_codec.proofs.InOrder.{in_body}
use Rattle.rsl_codec.proofs.fields.data_values.Goals as goal

pub returns : goal.returns
returns c =
    let body = c.args.body.now in
    let first : get_or body 0 0 ≡ 0x01 = omega arith in
    let second : get_or body 2 0 ≡ 0x02 = omega arith in
    let third : get_or body 4 0 ≡ 0x0b = omega arith in
    let long : length (take (length body - 7) (drop 7 body)) ≡ 256 * get_or body 5 0 + get_or body 6 0 = omega arith in
    in_body body c.in-len7-up.len_at_least (λ i. omega (arith, c.type_inv.body i)) first second third long
