-- SPDX-License-Identifier: MIT OR Apache-2.0
use Rattle.std.proofs.Common.{◌≡◌, ℕ, ◌<◌, List, ◌++◌, length, ap, ◌∙◌, append_assoc, rules}
use Rattle.frame_words.specs.Numbered.{number_field}
use Rattle.frame_words.specs.Said.{found_fields}
use Rattle.frame_words.proofs.Columns.{tab_first}
use Rattle.frame_words.proofs.line.put_said.Goals as goal

pub returns-then-start-len : goal.returns-then-start-len
returns-then-start-len c =
    let old : List ℕ = c.args.line.now.items in
    let fields : List ℕ = found_fields c.args.said.now.fields in
    let number : List ℕ = number_field c.args.said.now.number in
    let items : List ℕ = c.write_found.new.output.items in
    let mid : c.put_fields.new.line.items ≡ old ++ fields = c.in_ok-put_fields.ensures in
    let end : items ≡ c.put_fields.new.line.items ++ number = c.in_ok-write_found.ensures.text in
    let at : c.len-start.result ≡ length old = search rules in
    let below : c.len-start.result < length items = search rules in
    tab_first old (fields ++ number) items c.len-start.result (end ∙ ap (λ (xs : List ℕ). xs ++ number) mid ∙ append_assoc old fields number) at below
