-- SPDX-License-Identifier: MIT OR Apache-2.0
-- What the switch accepts of a connection that is lined up is in order.
use Rattle.world_laws.proofs.Prelude.{◌≡◌, ℕ, List, [], ◌∷◌, ◌++◌, ap, ◌∙◌, subst, append_assoc, Connection, Rise, Actors, LineUp, flow}
use Rattle.world_laws.proofs.Prelude.{parts_of, line, arriving, taken_of, line_up}
use Rattle.world_laws.proofs.LineUp.Following.{follows_rise}
use Rattle.world_laws.proofs.LineUp.Ordering.{is_in_order_rise}
use Rattle.world_laws.specs.InOrder.{LineUpsAreInOrder}
use Rattle.world_laws.proofs.OwnRow.{flow-twice}

pub line_ups_are_in_order_new : (m : ℕ) (w : Actors) (mobile : ℕ) (s : Connection) → LineUpsAreInOrder m w mobile s
line_ups_are_in_order_new m w mobile s two lined =
    let l : LineUp = line_up w lined.one s in
    let rise = follows_rise lined.lined.alive.follows in
    let same : line l ≡ flow (taken_of w s.number) ++ arriving l =
    ap (λ (xs : List (List ℕ)). xs ++ flow l.out ++ parts_of (l.old ++ l.serving ∷ l.target ∷ [])) (flow-twice (taken_of w s.number))
    ∙ append_assoc (flow (taken_of w s.number)) (flow l.out) (parts_of (l.old ++ l.serving ∷ l.target ∷ [])) in
    is_in_order_rise (taken_of w s.number) (arriving l) two (subst (λ (xs : List (List ℕ)). Rise m lined.one.end.sent 0 xs rise.0) same rise.1)
