-- SPDX-License-Identifier: MIT OR Apache-2.0
use Rattle.std.proofs.Common.{◌≡◌, ◌+◌, ◌∷◌, ◌∙◌, List, ℕ, None, Some, ap, drop, rules, sym, take}
use Rattle.std.specs.List.{slice_split}
use Rattle.memchr.specs.Find.{IsFirstByte, is_byte}
use Rattle.judge_lines.specs.Columns.{is_tab, six_columns}
use Rattle.judge_lines.proofs.Parting.{column_alone, column_at, columns_on, seven}
use Rattle.judge_lines.proofs.columns.split_columns.Goals as goal

pub returns-in-Some : goal.returns-in-Some
returns-in-Some c =
    let number : slice_split is_tab c.args.line.now ≡ c.in_ok-number.number.now ∷ slice_split is_tab c.in_ok-number.rest.now = c.in_ok-number.ensures in
    let from : slice_split is_tab c.in_ok-number.rest.now ≡ c.in_ok-from.from.now ∷ slice_split is_tab c.in_ok-from.rest.now = c.in_ok-from.ensures in
    let to : slice_split is_tab c.in_ok-from.rest.now ≡ c.in_ok-to.to.now ∷ slice_split is_tab c.in_ok-to.rest.now = c.in_ok-to.ensures in
    let protocol : slice_split is_tab c.in_ok-to.rest.now ≡ c.in_ok-_protocol._protocol.now ∷ slice_split is_tab c.in_ok-_protocol.rest.now = c.in_ok-_protocol.ensures in
    let said : slice_split is_tab c.in_ok-_protocol.rest.now ≡ c.in_ok-said.said.now ∷ slice_split is_tab c.in_ok-said.octets.now = c.in_ok-said.ensures in
    let octets : List ℕ = c.in_ok-said.octets.now in
    let first : IsFirstByte (is_byte 9) octets (Some c.in-Some.field-0) = c.in-Some.ensures in
    let others = column_at 9 octets c.in-Some.field-0 first in
    let all = columns_on _ _ _ _ number (columns_on _ _ _ _ from (columns_on _ _ _ _ to (columns_on _ _ _ _ protocol (columns_on _ _ _ _ said others)))) in
    sym (ap six_columns all ∙ seven c.in_ok-number.number.now c.in_ok-from.from.now c.in_ok-to.to.now c.in_ok-_protocol._protocol.now c.in_ok-said.said.now (take c.in-Some.field-0 octets) (drop (c.in-Some.field-0 + 1) octets))

pub returns-in-None : goal.returns-in-None
returns-in-None c =
    let number : slice_split is_tab c.args.line.now ≡ c.in_ok-number.number.now ∷ slice_split is_tab c.in_ok-number.rest.now = c.in_ok-number.ensures in
    let from : slice_split is_tab c.in_ok-number.rest.now ≡ c.in_ok-from.from.now ∷ slice_split is_tab c.in_ok-from.rest.now = c.in_ok-from.ensures in
    let to : slice_split is_tab c.in_ok-from.rest.now ≡ c.in_ok-to.to.now ∷ slice_split is_tab c.in_ok-to.rest.now = c.in_ok-to.ensures in
    let protocol : slice_split is_tab c.in_ok-to.rest.now ≡ c.in_ok-_protocol._protocol.now ∷ slice_split is_tab c.in_ok-_protocol.rest.now = c.in_ok-_protocol.ensures in
    let said : slice_split is_tab c.in_ok-_protocol.rest.now ≡ c.in_ok-said.said.now ∷ slice_split is_tab c.in_ok-said.octets.now = c.in_ok-said.ensures in
    let octets : List ℕ = c.in_ok-said.octets.now in
    let none : IsFirstByte (is_byte 9) octets None = c.in-None.ensures in
    let last = column_alone 9 octets none in
    let all = columns_on _ _ _ _ number (columns_on _ _ _ _ from (columns_on _ _ _ _ to (columns_on _ _ _ _ protocol (columns_on _ _ _ _ said last)))) in
    sym (ap six_columns all)
