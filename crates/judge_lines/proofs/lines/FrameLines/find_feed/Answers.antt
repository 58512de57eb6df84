-- SPDX-License-Identifier: MIT OR Apache-2.0
use Rattle.std.proofs.Common.{◌≡◌, ◌+◌, ℕ, List, None, Some, ap, arith, length, rules, subst, sym, take}
use Rattle.std.proofs.lemmas.List.{take_all}
use Rattle.memchr.specs.Find.{IsFirstByte, is_byte}
use Rattle.judge_lines.specs.Lines.{HasNoFeed, LinesState}
use Rattle.judge_lines.proofs.Searching.{behind, found_behind, found_none, no_feed_at_all}
use Rattle.judge_lines.proofs.lines.FrameLines.find_feed.Goals as goal

pub invariant_of-self : goal.invariant_of-self
invariant_of-self c =
    let items : List ℕ = c.self.inside.buffer.items in
    let none : IsFirstByte (is_byte 10) (behind c.self.inside.searched items) None = search rules in
    let all = no_feed_at_all c.self.inside.searched items c.self.invariant.1 none in
    let size : c.len-self-inside.result ≡ length items = c.len-self-inside.ensures.value in
    let whole : HasNoFeed (take (length items) items) = subst HasNoFeed (sym (take_all (length items) items (omega arith))) all in
    (omega (arith, size), subst (λ (n : ℕ). HasNoFeed (take n items)) (sym size) whole)

pub returns-in-Some-clause-first : goal.returns-in-Some-clause-first
returns-in-Some-clause-first c =
    let items : List ℕ = c.self.inside.buffer.items in
    let searched : ℕ = c.self.inside.searched in
    let found : IsFirstByte (is_byte 10) (behind searched items) (Some c.in-Some.end) = search rules in
    let first = found_behind searched items c.in-Some.end c.self.invariant.0 c.self.invariant.1 found in
    subst (λ (xs : List ℕ). IsFirstByte (is_byte 10) xs (Some (searched + c.in-Some.end))) (ap (λ (s : LinesState). s.octets) c.self.view_is) first

pub returns-in-None-clause-first : goal.returns-in-None-clause-first
returns-in-None-clause-first c =
    let items : List ℕ = c.self.inside.buffer.items in
    let none : IsFirstByte (is_byte 10) (behind c.self.inside.searched items) None = search rules in
    let all = no_feed_at_all c.self.inside.searched items c.self.invariant.1 none in
    subst (λ (xs : List ℕ). IsFirstByte (is_byte 10) xs None) (ap (λ (s : LinesState). s.octets) c.self.view_is) (found_none items all)
