-- SPDX-License-Identifier: MIT OR Apache-2.0
-- A connection that lives continues to live when its channels change.
use Rattle.world_laws.proofs.Prelude.{◌≡◌, ℕ, Bool, true, false, List, [], ◌∷◌, ◌++◌, refl, sym, ap, ◌∙◌, subst, append_assoc, cond}
use Rattle.world_laws.proofs.Prelude.{append-nil, is_control, is_control_apart, LineUp, flow, messages_in, part_of, parts_of, with_items}
use Rattle.world_laws.proofs.Prelude.{fresh, released, Alive, Condition, ChangeStep, after_complete, done}
use Rattle.world_laws.specs.LineUp.Places.{Item, LineTenure}
use Rattle.world_laws.specs.LineUp.Places.Item.{brought}
use Rattle.world_laws.specs.LineUp.ChangeStep.ChangeStep.{commands, completes, reverts, is_released, releases, leaves_to_old}
use Rattle.world_laws.specs.LineUp.ChangeStep.ChangeStep.{leaves_to_serving}
use Rattle.world_laws.proofs.LineUp.Lines.{flow-apart, messages_in-append, hold_relayed, parts_within, parts_tail, some_lost-at}
use Rattle.world_laws.proofs.LineUp.Lines.{some_lost-push, first_relays_at, first_relays_push, controls_first, bare_target}
use Rattle.world_laws.proofs.LineUp.Phases.{phase_commands, phase_completes, phase_reverts}
use Rattle.world_laws.proofs.LineUp.Conditions.{condition_completes, condition_reverts}
use Rattle.world_laws.proofs.LineUp.Following.{follows_line}

-- a control message has no place on the line
part_control : (t : LineTenure) (x : List ℕ) (items : List Item) →
    is_control x ≡ true →
    part_of (with_items t (brought x ∷ items)) ≡ part_of (with_items t items)
part_control t x items is = ap (λ (list : List (List ℕ)). flow t.hold ++ list) (flow-apart x (messages_in items) (is_control_apart x is))

-- the roles change, the order is unchanged
roles_change : (old : List LineTenure) (serving t : LineTenure) (x : List ℕ) (items : List Item) →
    is_control x ≡ true →
    parts_of (old ++ serving ∷ with_items t (brought x ∷ items) ∷ []) ≡ parts_of ((old ++ serving ∷ []) ++ with_items t items ∷ fresh ∷ [])
roles_change old serving t x items is =
    parts_tail old (serving ∷ with_items t (brought x ∷ items) ∷ []) (serving ∷ with_items t items ∷ fresh ∷ [])
    (ap (λ (part : List (List ℕ)). part_of serving ++ cond serving.is_lost [] (part ++ cond t.is_lost [] [])) (part_control t x items is))
    ∙ sym (ap parts_of (append_assoc old (serving ∷ []) (with_items t items ∷ fresh ∷ [])))

-- the target is released, of which nothing arrived
target_is_dropped : (old : List LineTenure) (t : LineTenure) (x : List ℕ) (items : List Item) (target : LineTenure) →
    is_control x ≡ true →
    parts_of (target ∷ []) ≡ [] →
    parts_of (old ++ with_items t (brought x ∷ items) ∷ target ∷ []) ≡ parts_of (old ++ with_items t items ∷ fresh ∷ [])
target_is_dropped old t x items target is bare =
    parts_tail old (with_items t (brought x ∷ items) ∷ target ∷ []) (with_items t items ∷ fresh ∷ [])
    (ap (λ (part : List (List ℕ)). part ++ cond t.is_lost [] (parts_of (target ∷ []))) (part_control t x items is)
    ∙ ap (λ (rest : List (List ℕ)). part_of (with_items t items) ++ cond t.is_lost [] rest) bare)

pub alive_change : {m : ℕ} {before after : LineUp} → ChangeStep before after → Alive m before → Alive m after
alive_change (commands l) alive = record { follows = alive.follows; first = alive.first; phase = phase_commands alive.phase; condition = alive.condition; bare = alive.bare }
alive_change (completes l t x items is) alive = record {
  follows = follows_line (ap (λ (parts : List (List ℕ)). (flow l.taken ++ flow l.out) ++ parts) (roles_change l.old l.serving t x items is)) alive.follows;
  first = first_relays_push l.old l.serving t.hold alive.first;
  phase = phase_completes (controls_first x (messages_in items) is) alive.phase;
  condition = subst (λ (b : Bool). Condition (after_complete l.seat) b t.is_lost false l.is_intact) (sym (some_lost-push l.old l.serving)) (condition_completes alive.condition);
  bare = refl;
}
alive_change (reverts l t x items is) alive =
    let back = phase_reverts (controls_first x (messages_in items) is) alive.phase in
    record {
      follows = follows_line (ap (λ (parts : List (List ℕ)). (flow l.taken ++ flow l.out) ++ parts) (target_is_dropped l.old t x items l.target is (bare_target l.target alive.bare back.2))) alive.follows;
      first = alive.first;
      phase = back.1;
      condition = condition_reverts back.0 alive.condition;
      bare = refl;
    }
alive_change (is_released l before t after whole) alive =
    let e : LineTenure = with_items t (t.items ++ released ∷ []) in
    let part : part_of t ≡ part_of e = ap (λ (messages : List (List ℕ)). flow t.hold ++ flow messages) (sym (messages_in-append t.items (released ∷ []) ∙ append-nil (messages_in t.items))) in
    record {
      follows = follows_line (ap (λ (parts : List (List ℕ)). (flow l.taken ++ flow l.out) ++ parts) (parts_within before t e after (l.serving ∷ l.target ∷ []) part refl)) alive.follows;
      first = first_relays_at l.is_confirmed before t e after l.serving.hold refl alive.first;
      phase = alive.phase;
      condition = subst (λ (b : Bool). Condition l.seat b l.serving.is_lost l.target.is_lost l.is_intact) (some_lost-at before t e after refl) alive.condition;
      bare = alive.bare;
    }
alive_change (releases l before t after) alive = record {
  follows = follows_line (ap (λ (parts : List (List ℕ)). (flow l.taken ++ flow l.out) ++ parts) (parts_within before (with_items t (released ∷ [])) (done t) after (l.serving ∷ l.target ∷ []) refl refl)) alive.follows;
  first = first_relays_at l.is_confirmed before (with_items t (released ∷ [])) (done t) after l.serving.hold refl alive.first;
  phase = alive.phase;
  condition = subst (λ (b : Bool). Condition l.seat b l.serving.is_lost l.target.is_lost l.is_intact) (some_lost-at before (with_items t (released ∷ [])) (done t) after refl) alive.condition;
  bare = alive.bare;
}
alive_change (leaves_to_old l hold next others) alive = record {
  follows = follows_line
      (ap (λ (held : List (List ℕ)). (flow l.taken ++ flow l.out) ++ ((flow held ++ []) ++ parts_of ((next ∷ others) ++ l.serving ∷ l.target ∷ []))) alive.first
      ∙ hold_relayed (flow l.taken) l.out next.hold (flow (messages_in next.items)) _)
      alive.follows;
  first = refl;
  phase = alive.phase;
  condition = alive.condition;
  bare = alive.bare;
}
alive_change (leaves_to_serving l hold) alive = record {
  follows = follows_line
      (ap (λ (held : List (List ℕ)). (flow l.taken ++ flow l.out) ++ ((flow held ++ []) ++ parts_of (l.serving ∷ l.target ∷ []))) alive.first
      ∙ hold_relayed (flow l.taken) l.out l.serving.hold (flow (messages_in l.serving.items)) _)
      alive.follows;
  first = λ confirmed. refl;
  phase = alive.phase;
  condition = alive.condition;
  bare = alive.bare;
}
