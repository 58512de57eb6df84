-- SPDX-License-Identifier: MIT OR Apache-2.0
use Rattle.std.proofs.Common.{◌≡◌, ℕ, ◌%◌, true, false, List, length, nat_eq, sym, ◌∙◌, rules}
use Rattle.hex.specs.Hex.{is_hex_digit}
use Rattle.std.specs.List.{list_all}
use Rattle.program_base.proofs.HexadecimalLemmas.{is_some-octets_in}
use Rattle.program_base.proofs.hexadecimal.is_hexadecimal.Goals as goal
use Rattle.program_base.proofs.hexadecimal.is_hexadecimal.Goals.{then-not-is_empty, else-not-is_empty}

pub returns-then-word-eq0 : goal.returns-then-word-eq0
returns-then-word-eq0 c =
    let word : List ℕ = c.args.word.now in
    let digits : c.all_hexadecimal.result ≡ list_all is_hex_digit word = search rules in
    elim c.if-not-is_empty.branch [
      | then-not-is_empty w ↦
          let some : nat_eq (length word) 0 ≡ false = cc in
          let even : nat_eq (length word % 2) 0 ≡ true = cc in
          digits ∙ sym (is_some-octets_in word some even)
      | else-not-is_empty w ↦ absurd cc
    ]
