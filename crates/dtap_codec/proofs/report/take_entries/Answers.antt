-- SPDX-License-Identifier: MIT OR Apache-2.0
-- The six entries are read in turn, and no bit is left.
use Rattle.std.proofs.Common.{◌≡◌, arith}
use Rattle.dtap_codec.proofs.Fields.{Begin-append, Begin-end}
use Rattle.dtap_codec.proofs.report.take_entries.Goals as goal

pub returns : goal.returns
returns c =
    let last = c.take_neighbour-6.new.bits in
    let all = Begin-append c.take_neighbour.ensures (Begin-append c.take_neighbour-2.ensures (Begin-append c.take_neighbour-3.ensures (Begin-append c.take_neighbour-4.ensures (Begin-append c.take_neighbour-5.ensures c.take_neighbour-6.ensures)))) in
    let none : last.left ≡ 0 = omega (arith, all.bits) in
    Begin-end _ _ _ _ _ all none last.fits
