-- SPDX-License-Identifier: MIT OR Apache-2.0
use Rattle.std.proofs.Common.{◌≡◌, ℕ, List, ◌++◌, codes, decimal, ap, ◌∙◌}
use Rattle.std.proofs.lemmas.Result.{on_ok_weaker}
use Rattle.rerun_lines.specs.Clock.{clock_column}
use Rattle.rerun_lines.proofs.Writing.{six_appended}
use Rattle.rerun_lines.proofs.difference_line.put_place.Goals as goal

pub returns : goal.returns
returns c =
    let fifth : List ℕ = c.put_octets-3.new.text.items in
    let new : List ℕ = c.put_octets-4.new.text.items in
    on_ok_weaker c.put_octets-4.result
    (λ (last : new ≡ fifth ++ c.clock_column.result).
    six_appended c.args.text.now.items (codes "\tstep ") (decimal c.args.mark.number) (codes " after ") (decimal c.args.place)
    (codes " frames") (clock_column c.args.mark.stamp)
    c.put_octets.new.text.items c.put_decimal.new.text.items c.put_octets-2.new.text.items c.put_decimal-2.new.text.items fifth new
    c.in_ok-put_octets.ensures c.in_ok-put_decimal.ensures c.in_ok-put_octets-2.ensures c.in_ok-put_decimal-2.ensures
    c.in_ok-put_octets-3.ensures (last ∙ ap (λ (xs : List ℕ). fifth ++ xs) c.clock_column.ensures))
    c.put_octets-4.ensures
