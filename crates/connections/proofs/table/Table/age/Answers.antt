-- SPDX-License-Identifier: MIT OR Apache-2.0
use Rattle.std.proofs.Common.{◌≤◌, ℕ, List, length, map, sym, subst, ap, ◌∙◌, refl, arith}
use Rattle.controller_model.specs.Controller.{Entry}
use Rattle.controller_model.specs.Life.{aged}
use Rattle.connections.specs.Index.{IsTable, listed}
use Rattle.connections.proofs.Indexed.{index_mapped, listed_mapped}
use Rattle.connections.proofs.Settled.{aged_has, all_aged_slots, none_aged, one_more_aged}
use Rattle.connections.proofs.Vacant.{vacant_mapped}
use Rattle.connections.proofs.table.Table.age.Goals as goal

pub loop-key-init : goal.loop-key-init
loop-key-init c = record { aged = none_aged c.args.ms c.self.inside.slots.slots; index = refl }

pub loop-key-preserved : goal.loop-key-preserved
loop-key-preserved c = record {
  aged = one_more_aged c.args.ms c.loop-key.key c.self.inside.slots.slots c.loop-key.self-inside.slots.slots c.pass_at.new.slots.slots c.loop-key.invariant.aged c.pass_at.ensures.slot.others c.pass_at.ensures.slot.changed;
  index = c.loop-key.invariant.index;
}

pub invariant_of-self : goal.invariant_of-self
invariant_of-self c =
    let within : length c.self.inside.slots.slots ≤ c.loop-key.key = omega (arith, c.capacity-key-end.ensures.slots, c.loop-key-test.false) in
    let mapped = all_aged_slots c.args.ms c.loop-key.key c.self.inside.slots.slots c.loop-key.self-inside.slots.slots c.loop-key.invariant.aged within in
    subst (λ (ps : List (ℕ × ℕ)). IsTable c.loop-key.self-inside.slots.slots ps) (sym (ap (λ i. i.entries) c.loop-key.invariant.index)) (record {
      index = index_mapped (aged c.args.ms) c.self.inside.slots.slots c.loop-key.self-inside.slots.slots c.self.inside.index.entries (aged_has c.args.ms) mapped c.self.invariant.index;
      others = vacant_mapped (aged c.args.ms) c.self.inside.slots.slots c.loop-key.self-inside.slots.slots c.self.inside.index.entries mapped c.self.invariant.others;
    })

pub returns : goal.returns
returns c =
    let within : length c.self.inside.slots.slots ≤ c.loop-key.key = omega (arith, c.capacity-key-end.ensures.slots, c.loop-key-test.false) in
    ap (λ i. listed c.loop-key.self-inside.slots.slots i.entries) c.loop-key.invariant.index
    ∙ listed_mapped (aged c.args.ms) c.self.inside.slots.slots c.loop-key.self-inside.slots.slots c.self.inside.index.entries
    (all_aged_slots c.args.ms c.loop-key.key c.self.inside.slots.slots c.loop-key.self-inside.slots.slots c.loop-key.invariant.aged within)
    ∙ ap (λ (es : List Entry). map (aged c.args.ms) es) c.self.view_is
