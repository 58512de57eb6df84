-- SPDX-License-Identifier: MIT OR Apache-2.0
use Rattle.std.proofs.Common.{◌∙◌, sym}
use Rattle.run_judge.proofs.Dues.{first-within, next-optional, next-standing}
use Rattle.run_judge.proofs.stream.place_of.Goals as goal

pub returns-then-is_at-clause-place : goal.returns-then-is_at-clause-place
returns-then-is_at-clause-place c =
    next-standing c.args.message.now c.args.due.now.items c.standing_place-place.result c.standing_place-place.ensures (sym c.is_at.ensures ∙ c.if-is_at.true)

pub returns-then-is_at-clause-within : goal.returns-then-is_at-clause-within
returns-then-is_at-clause-within c = first-within c.args.message.now c.standing_place-place.result c.args.due.now.items (sym c.is_at.ensures ∙ c.if-is_at.true)

pub returns-else-is_at-clause-place : goal.returns-else-is_at-clause-place
returns-else-is_at-clause-place c =
    next-optional c.args.message.now c.args.due.now.items c.standing_place-place.result c.standing_place-place.ensures (sym c.is_at.ensures ∙ c.if-is_at.false)
    ∙ c.optional_place.ensures.place
