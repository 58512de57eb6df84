-- SPDX-License-Identifier: MIT OR Apache-2.0
use Rattle.std.proofs.Common.{ℕ, List, sym, subst, ap}
use Rattle.connections.specs.Index.{AreNumbersBelow, AreSame, IndexState, NumbersRise}
use Rattle.connections.proofs.Numbers.{more_rise, same_more}
use Rattle.connections.proofs.index.Index.push_reserved.Goals as goal

pub invariant_of-self : goal.invariant_of-self
invariant_of-self c =
    let ps : List (ℕ × ℕ) = c.self.inside.pairs.items in
    let below : AreNumbersBelow c.args.number ps = subst (AreNumbersBelow c.args.number) (sym (ap (λ (i : IndexState). i.entries) c.self.view_is)) c.requires.last in (
      subst NumbersRise (sym c.push_reserved.ensures.items) (more_rise ps c.args.number c.args.key c.self.invariant.0 below),
      subst (AreSame c.insert.new.self.entries) (sym c.push_reserved.ensures.items)
          (same_more c.self.inside.keys.entries c.insert.new.self.entries ps c.args.number c.args.key below c.self.invariant.1 c.in-Ok.ensures.updates.0),
    )
