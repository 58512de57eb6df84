-- SPDX-License-Identifier: MIT OR Apache-2.0
use Rattle.std.proofs.Common.{◌≡◌, ◌∙◌, ◌++◌, ◌∷◌, [], List, ap, arith, length, ltb, rules, subst, sym}
use Rattle.std.specs.List.{insert, position_or_len}
use Rattle.std.specs.VecDeque.{deque_len}
use Rattle.run_judge.specs.declared.flow.Due.{Due}
use Rattle.run_judge.specs.Dues.{NoneAbove}
use Rattle.run_judge.proofs.Dues.{above-insert, insert-last, insert-place, place-within}
use Rattle.run_judge.proofs.stream.insert.Goals as goal

pub insert-requires : goal.insert-requires
insert-requires c =
    let within = place-within (λ d. ltb c.args.message.rank d.rank) c.reserve.new.self.items in
    let all : deque_len c.reserve.new.self ≡ length c.reserve.new.self.items = search rules in
    omega (arith, within, all, c.place_above-place.ensures)

pub returns-then-highest-message-clause-items : goal.returns-then-highest-message-clause-items
returns-then-highest-message-clause-items c =
    c.push_back_reserved.ensures.items
    ∙ ap (λ l. l ++ c.args.message ∷ []) c.in_ok-reserve.ensures.items
    ∙ sym (insert-last c.args.highest.now c.args.message c.args.due.now.items c.requires c.if-highest-message.true)

pub returns-in_ok-insert-clause-items : goal.returns-in_ok-insert-clause-items
returns-in_ok-insert-clause-items c =
    let same = c.in_ok-reserve.ensures.items in
    c.in_ok-insert.ensures.items
    ∙ ap (λ l. insert l c.place_above-place.result c.args.message) same
    ∙ ap (λ k. insert c.args.due.now.items k c.args.message) (c.place_above-place.ensures ∙ ap (λ l. position_or_len (λ (d : Due). ltb c.args.message.rank d.rank) l) same)
    ∙ sym (insert-place c.args.message c.args.due.now.items)

pub returns-in_ok-insert-clause-above : goal.returns-in_ok-insert-clause-above
returns-in_ok-insert-clause-above c =
    let P : List Due → Type 0 = λ l. NoneAbove c.args.highest.now l in
    subst P (sym c.in_ok-insert.ensures.items)
    (above-insert c.args.highest.now c.place_above-place.result c.args.message c.reserve.new.self.items
    (subst P (sym c.in_ok-reserve.ensures.items) c.requires) (omega (arith, c.if-highest-message.false)))
