-- SPDX-License-Identifier: MIT OR Apache-2.0
use Rattle.std.proofs.Common.{◌≡◌, ◌≢◌, ◌∙◌, List, [], Ok, ap, arith, length, subst, take, ℕ}
use Rattle.std.proofs.lemmas.List.{drop_all, take_all}
use Rattle.std.proofs.lemmas.Result.{err_from_is_err_and}
use Rattle.judge_lines.specs.Line.{line_said}
use Rattle.judge_lines.specs.Lines.{LinesState, place_behind}
use Rattle.judge_lines.proofs.Taking.{SaysFault, refused_last, taken_last}
use Rattle.judge_lines.proofs.lines.FrameLines.take_rest.Goals as goal

pub returns-in_err-line : goal.returns-in_err-line
returns-in_err-line c =
    let octets : List ℕ = c.args.self.now.octets in
    let size : c.len-size.result ≡ length octets = c.len-size.ensures.value ∙ ap (λ (s : LinesState). length s.octets) c.self.view_is in
    let some : octets ≢ [] = λ none. let zero : length octets ≡ 0 = ap length none in absurd (omega (arith, size, zero, c.if-size-eq0.false)) in
    let whole : take c.len-size.result octets ≡ octets = take_all c.len-size.result octets (omega (arith, size)) in
    let fault = c.in_err-line.field-0.0 in
    let said = subst (λ (line : List ℕ). SaysFault c.args.self.now line fault) whole c.in_err-line.ensures.said in
    let failed = err_from_is_err_and c.from_residual.result c.from_residual.ensures.1 in
    rw (failed.1, failed.2) (refused_last c.args.self.now c.take_line.new.self fault c.requires some said c.in_err-line.ensures.counted)

pub returns : goal.returns
returns c =
    let octets : List ℕ = c.args.self.now.octets in
    let size : c.len-size.result ≡ length octets = c.len-size.ensures.value ∙ ap (λ (s : LinesState). length s.octets) c.self.view_is in
    let some : octets ≢ [] = λ none. let zero : length octets ≡ 0 = ap length none in absurd (omega (arith, size, zero, c.if-size-eq0.false)) in
    let whole : take c.len-size.result octets ≡ octets = take_all c.len-size.result octets (omega (arith, size)) in
    let line = c.in_ok-line.line in
    let said = subst (λ (xs : List ℕ). line_said (place_behind c.args.self.now.count) xs ≡ Ok line) whole c.in_ok-line.ensures.said in
    let left : c.take_line.new.self.octets ≡ [] = c.in_ok-line.ensures.left ∙ drop_all c.len-size.result octets (omega (arith, size)) in
    taken_last c.args.self.now c.take_line.new.self line c.requires some said left c.in_ok-line.ensures.counted
