-- SPDX-License-Identifier: MIT OR Apache-2.0
use Rattle.std.proofs.Common.{◌≡◌, ℕ, ◌+◌, ◌-◌, List, ◌∷◌, length, take, drop, Some, sym, ap, ◌∙◌, arith, rules}
use Rattle.std.specs.List.{slice_split}
use Rattle.std.proofs.lemmas.List.{length-drop, take_all}
use Rattle.memchr.specs.Find.{IsFirstByte, is_byte}
use Rattle.program_base.specs.WordsLeft.{is_space}
use Rattle.program_base.proofs.Splitting.{no_space, space_at}
use Rattle.program_base.proofs.line_words.split_first.Goals as goal

pub returns-in-Some : goal.returns-in-Some
returns-in-Some c =
    let line : List ℕ = c.args.line.now in
    let end : ℕ = c.in-Some.end in
    let first : IsFirstByte (is_byte 32) line (Some end) = search rules in
    let rest : take (length line - (end + 1)) (drop (end + 1) line) ≡ drop (end + 1) line = take_all (length line - (end + 1)) (drop (end + 1) line) (omega (arith, length-drop (end + 1) line)) in
    space_at line end first ∙ ap (λ (r : List ℕ). take end line ∷ slice_split is_space r) (sym rest)

pub returns-in-None : goal.returns-in-None
returns-in-None c = no_space c.args.line.now (search rules)
