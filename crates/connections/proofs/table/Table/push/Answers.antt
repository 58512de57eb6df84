-- SPDX-License-Identifier: MIT OR Apache-2.0
use Rattle.std.proofs.Common.{ℕ, ◌++◌, [], ◌∷◌, List, sym, subst, ap, ◌∙◌}
use Rattle.std.specs.List.{AllByRecursion}
use Rattle.conn_rules.specs.Connection.{Connection}
use Rattle.controller_model.specs.Controller.{Entry}
use Rattle.slab.specs.Slab.{Slab}
use Rattle.connections.specs.Entries.{IsBelow}
use Rattle.connections.specs.Index.{AreNumbersBelow}
use Rattle.connections.proofs.Numbers.{numbers_below}
use Rattle.connections.proofs.Settled.{pushed}
use Rattle.connections.proofs.Vacant.{vacant_pushed}
use Rattle.connections.proofs.table.Table.push.Goals as goal

pub push_reserved-requires-clause-last : goal.push_reserved-requires-clause-last
push_reserved-requires-clause-last c =
    subst (λ (n : ℕ). AreNumbersBelow n c.reserve-2.new.self.entries) (sym (c.number-number.ensures.number ∙ ap (λ (s : Connection). s.number) c.connection.ensures))
    (subst (AreNumbersBelow c.args.entry.connection.number) (sym c.in_ok-reserve-2.ensures.same)
    (numbers_below c.self.inside.slots.slots c.self.inside.index.entries c.args.entry.connection.number c.self.invariant.index
    (subst (λ (es : List Entry). AllByRecursion (IsBelow c.args.entry.connection.number) es) (sym c.self.view_is) c.requires.last)))

pub invariant_of-self-2 : goal.invariant_of-self-2
invariant_of-self-2 c = record {
  index = (pushed c.self.inside.slots.slots c.reserve.new.self.slots c.insert_reserved-key.new.self.slots c.self.inside.index.entries c.reserve-2.new.self.entries c.push_reserved.new.self.entries c.number-number.result c.insert_reserved-key.result c.args.entry
      c.self.invariant.index (ap (λ (s : Slab Entry). s.slots) c.reserve.ensures.rest_kept) c.in_ok-reserve-2.ensures.same
      (c.number-number.ensures.number ∙ ap (λ (s : Connection). s.number) c.connection.ensures) c.push_reserved.ensures
      c.insert_reserved-key.ensures.was_vacant c.insert_reserved-key.ensures.updates.others c.insert_reserved-key.ensures.updates.changed c.requires.stays).1;
  others =
      vacant_pushed c.self.inside.slots.slots c.reserve.new.self.slots c.insert_reserved-key.new.self.slots c.self.inside.index.entries c.reserve-2.new.self.entries c.push_reserved.new.self.entries c.number-number.result c.insert_reserved-key.result
      (ap (λ (s : Slab Entry). s.slots) c.reserve.ensures.rest_kept) c.in_ok-reserve-2.ensures.same c.push_reserved.ensures c.insert_reserved-key.ensures.updates.others c.self.invariant.others;
}

pub returns-clause-ok : goal.returns-clause-ok
returns-clause-ok c =
    (pushed c.self.inside.slots.slots c.reserve.new.self.slots c.insert_reserved-key.new.self.slots c.self.inside.index.entries c.reserve-2.new.self.entries c.push_reserved.new.self.entries c.number-number.result c.insert_reserved-key.result c.args.entry
    c.self.invariant.index (ap (λ (s : Slab Entry). s.slots) c.reserve.ensures.rest_kept) c.in_ok-reserve-2.ensures.same
    (c.number-number.ensures.number ∙ ap (λ (s : Connection). s.number) c.connection.ensures) c.push_reserved.ensures
    c.insert_reserved-key.ensures.was_vacant c.insert_reserved-key.ensures.updates.others c.insert_reserved-key.ensures.updates.changed c.requires.stays).0 ∙ ap (λ (es : List Entry). es ++ c.args.entry ∷ []) c.self.view_is
