-- SPDX-License-Identifier: MIT OR Apache-2.0
use Rattle.std.proofs.Common.{◌≡◌, Some, None, sym, ◌∙◌, true, true≢false, rules}
use Rattle.std.specs.Str.{bytes_eq}
use Rattle.std.proofs.lemmas.Slice.Eq.{bytes_eq-Decides}
use Rattle.program_base.specs.Script.{name_of}
use Rattle.program_base.proofs.Reading.{kind_in-short, kind_in-same, kind_in-other, kind_in-shapeless, shape_of}
use Rattle.program_base.proofs.script.kind_in.Goals as goal

pub returns-then-word-lt3 : goal.returns-then-word-lt3
returns-then-word-lt3 c = kind_in-short c.args.word.now (search rules)

pub returns-in-Some : goal.returns-in-Some
returns-in-Some c =
    kind_in-same c.args.word.now c.in-Some.kind
    ((bytes_eq-Decides c.args.word.now c.as_bytes.result.now).0 (sym c.eq.ensures ∙ c.if-eq.true) ∙ c.as_bytes.ensures.value ∙ c.name.ensures)

pub returns-in_default : goal.returns-in_default
returns-in_default c =
    let gave : shape_of c.args.word.now ≡ Some c.in-Some.kind = cc in
    kind_in-other c.args.word.now c.in-Some.kind gave
    (λ (is : c.args.word.now ≡ name_of c.in-Some.kind).
    let same : bytes_eq c.args.word.now c.as_bytes.result.now ≡ true = (bytes_eq-Decides c.args.word.now c.as_bytes.result.now).1 (is ∙ sym c.name.ensures ∙ sym c.as_bytes.ensures.value) in
    true≢false (sym same ∙ sym c.eq.ensures ∙ c.if-eq.false))

pub returns-in_default-2 : goal.returns-in_default-2
returns-in_default-2 c =
    let gave : shape_of c.args.word.now ≡ None = cc in
    kind_in-shapeless c.args.word.now gave
