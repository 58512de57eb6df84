-- SPDX-License-Identifier: MIT OR Apache-2.0
use Rattle.std.proofs.Common.{ℕ, List, ◌++◌, codes, ap, ◌∙◌}
use Rattle.hex.specs.Hex.{encode_lower}
use Rattle.rerun_lines.specs.Clock.{clock_column}
use Rattle.rerun_lines.proofs.Writing.{three_appended}
use Rattle.rerun_lines.proofs.frame_line.put_end.Goals as goal

pub returns-clause-text : goal.returns-clause-text
returns-clause-text c =
    let old : List ℕ = c.args.text.now.items in
    three_appended old (clock_column c.args.stamp) (encode_lower c.args.octets.now) (codes "\n")
    c.put_octets.new.text.items c.write_digits.new.output.items c.put_octets-2.new.text.items
    (c.in_ok-put_octets.ensures ∙ ap (λ (xs : List ℕ). old ++ xs) c.clock_column.ensures) c.in_ok-write_digits.ensures.text
    c.in_ok-put_octets-2.ensures
