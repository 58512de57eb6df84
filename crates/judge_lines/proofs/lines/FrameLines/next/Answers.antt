-- SPDX-License-Identifier: MIT OR Apache-2.0
use Rattle.std.proofs.Common.{◌≡◌, ◌+◌, ◌<◌, ◌∙◌, Ok, ap, arith, drop, length, subst, take, ℕ}
use Rattle.std.proofs.lemmas.Result.{err_from_is_err_and}
use Rattle.judge_lines.specs.Line.{line_said}
use Rattle.judge_lines.specs.Lines.{Counts, HasNoFeed, LinesState, place_behind}
use Rattle.judge_lines.specs.declared.line.TheConstants.{MAX_LINE}
use Rattle.judge_lines.proofs.Parting.{lacks_all}
use Rattle.judge_lines.proofs.Taking.{SaysFault, refused, taken, too_long}
use Rattle.judge_lines.proofs.lines.FrameLines.next.Goals as goal

pub returns-in_err-line-in-Some : goal.returns-in_err-line-in-Some
returns-in_err-line-in-Some c =
    let same = c.find_feed.ensures.same in
    let end : ℕ = c.in-Some.end in
    let fault = c.in_err-line-in-Some.field-0.0 in
    let said = subst (λ (s : LinesState). SaysFault s (take end s.octets) fault) same c.in_err-line-in-Some.ensures.said in
    let counted = subst (λ (s : LinesState). Counts s c.take_line.new.self) same c.in_err-line-in-Some.ensures.counted in
    let failed = err_from_is_err_and c.from_residual.result c.from_residual.ensures.1 in
    rw (failed.1, failed.2) (refused c.args.self.now c.take_line.new.self end fault c.in-Some.ensures.first said counted)

pub returns-then-len-gt-MAX_LINE : goal.returns-then-len-gt-MAX_LINE
returns-then-len-gt-MAX_LINE c =
    let state = c.self.view_is ∙ c.find_feed.ensures.same in
    let octets = ap (λ (s : LinesState). length s.octets) state in
    let count = ap (λ (s : LinesState). place_behind s.count) state in
    let none : HasNoFeed c.args.self.now.octets = lacks_all 10 c.args.self.now.octets c.in-None.ensures.first in
    let long : MAX_LINE < length c.args.self.now.octets = omega (arith, octets, c.len.ensures.value, c.if-len-gt-MAX_LINE.true) in
    (c.saturating_add-self-inside.ensures ∙ count, λ more. too_long c.args.self.now more none long)

pub returns-in_ok-line-in-Some : goal.returns-in_ok-line-in-Some
returns-in_ok-line-in-Some c =
    let same = c.find_feed.ensures.same in
    let end : ℕ = c.in-Some.end in
    let line = c.in_ok-line-in-Some.line in
    let said = subst (λ (s : LinesState). line_said (place_behind s.count) (take end s.octets) ≡ Ok line) same c.in_ok-line-in-Some.ensures.said in
    let left = subst (λ (s : LinesState). c.take_line.new.self.octets ≡ drop (end + 1) s.octets) same c.in_ok-line-in-Some.ensures.left in
    let counted = subst (λ (s : LinesState). Counts s c.take_line.new.self) same c.in_ok-line-in-Some.ensures.counted in
    taken c.args.self.now c.take_line.new.self end line c.in-Some.ensures.first said left counted

pub returns-else-len-gt-MAX_LINE : goal.returns-else-len-gt-MAX_LINE
returns-else-len-gt-MAX_LINE c = (lacks_all 10 c.args.self.now.octets c.in-None.ensures.first, c.find_feed.ensures.same)
