-- SPDX-License-Identifier: MIT OR Apache-2.0
use Rattle.std.proofs.Common.{ℕ, List, sym, subst, ap, ◌∙◌}
use Rattle.std.specs.List.{remove}
use Rattle.connections.specs.Index.{AreSame, IndexState, IsPlaceOf, NumbersRise}
use Rattle.connections.proofs.Numbers.{left_rise, removed_at, removed_none, same_left}
use Rattle.connections.proofs.index.Index.remove.Goals as goal

pub invariant_of-self : goal.invariant_of-self
invariant_of-self c =
    let ps : List (ℕ × ℕ) = c.self.inside.pairs.items in
    let is : IsPlaceOf ps c.args.number c.in-Ok.place =
    subst (λ (qs : List (ℕ × ℕ)). IsPlaceOf qs c.args.number c.in-Ok.place) (sym (ap (λ (i : IndexState). i.entries) c.self.view_is)) c.in-Ok.ensures.found in (
      subst NumbersRise (sym c.remove.ensures.items) (left_rise ps c.in-Ok.place c.self.invariant.0 is.within),
      subst (AreSame c.swap_remove.new.self.entries) (sym (c.remove.ensures.items ∙ removed_at ps c.args.number c.in-Ok.place c.self.invariant.0 is))
          (same_left c.self.inside.keys.entries c.swap_remove.new.self.entries ps c.args.number c.self.invariant.0 c.self.invariant.1 c.swap_remove.ensures.updates.0),
    )

pub returns-in-Ok : goal.returns-in-Ok
returns-in-Ok c =
    let same = ap (λ (i : IndexState). i.entries) c.self.view_is in
    c.remove.ensures.items ∙ ap (λ (ps : List (ℕ × ℕ)). remove ps c.in-Ok.place) same
    ∙ removed_at _ _ _ (subst NumbersRise same c.self.invariant.0) c.in-Ok.ensures.found

pub returns-in_default : goal.returns-in_default
returns-in_default c = removed_none _ _ c.in_default.ensures.absent
