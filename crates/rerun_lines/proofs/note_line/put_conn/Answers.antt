-- SPDX-License-Identifier: MIT OR Apache-2.0
use Rattle.std.proofs.Common.{ℕ, List, ◌++◌, codes, decimal, ap, ◌∙◌}
use Rattle.std.proofs.lemmas.Result.{on_ok_weaker}
use Rattle.rerun_lines.proofs.Writing.{four_appended}
use Rattle.rerun_lines.proofs.note_line.put_conn.Goals as goal

pub returns : goal.returns
returns c =
    let third = c.in_ok-put_decimal-2.ensures ∙ ap (λ (n : ℕ). c.put_octets.new.text.items ++ decimal n) c.from.ensures in
    on_ok_weaker c.put_octets-2.result
    (four_appended c.args.text.now.items (decimal c.args.number) (codes "\tbsc\tbsc\tconn ") (decimal c.args.conn) (codes "\t")
    c.put_decimal.new.text.items c.put_octets.new.text.items c.put_decimal-2.new.text.items c.put_octets-2.new.text.items
    c.in_ok-put_decimal.ensures c.in_ok-put_octets.ensures third)
    c.put_octets-2.ensures
