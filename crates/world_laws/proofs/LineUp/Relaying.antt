-- SPDX-License-Identifier: MIT OR Apache-2.0
-- A connection that lives continues to live when its messages move along.
use Rattle.world_laws.proofs.Prelude.{ℕ, List, [], ◌∷◌, ◌++◌, refl, ap, subst, LineUp, flow, messages_in, with_items, holding, Alive}
use Rattle.world_laws.proofs.Prelude.{Condition}
use Rattle.world_laws.specs.LineUp.Places.Item.{brought}
use Rattle.world_laws.specs.LineUp.RelayStep.{RelayStep}
use Rattle.world_laws.specs.LineUp.RelayStep.RelayStep.{relays_serving, holds_before_confirm, holds_serving, relays_oldest, holds_old}
use Rattle.world_laws.specs.LineUp.RelayStep.RelayStep.{ignores_serving, ignores_old, ignores_target, confirms, switch_takes}
use Rattle.world_laws.proofs.LineUp.Lines.{flow-apart, relayed, held, hold_relayed, switch_taken, parts_at, parts_within, parts_tail}
use Rattle.world_laws.proofs.LineUp.Lines.{some_lost-at, first_relays_at, controls_behind, texts_behind}
use Rattle.world_laws.proofs.LineUp.Phases.{phase_serving, phase_target}
use Rattle.world_laws.proofs.LineUp.Following.{follows_line}

pub alive_relay : {m : ℕ} {before after : LineUp} → RelayStep before after → Alive m before → Alive m after
alive_relay (relays_serving l t x items) alive = record {
  follows = follows_line (relayed (flow l.taken) l.out t.hold x (messages_in items) _ (alive.first refl)) alive.follows;
  first = alive.first;
  phase = phase_serving (controls_behind x (messages_in items)) alive.phase;
  condition = alive.condition;
  bare = alive.bare;
}
alive_relay (holds_before_confirm l t x items) alive = record {
  follows = follows_line (ap (λ (parts : List (List ℕ)). (flow l.taken ++ flow l.out) ++ parts) (parts_at [] (with_items t (brought x ∷ items)) (holding t x items) (l.target ∷ []) (held t.hold x (messages_in items)) refl)) alive.follows;
  first = λ confirmed. absurd cc;
  phase = phase_serving (controls_behind x (messages_in items)) alive.phase;
  condition = alive.condition;
  bare = alive.bare;
}
alive_relay (holds_serving l oldest others t x items) alive = record {
  follows = follows_line (ap (λ (parts : List (List ℕ)). (flow l.taken ++ flow l.out) ++ parts) (parts_at (oldest ∷ others) (with_items t (brought x ∷ items)) (holding t x items) (l.target ∷ []) (held t.hold x (messages_in items)) refl)) alive.follows;
  first = alive.first;
  phase = phase_serving (controls_behind x (messages_in items)) alive.phase;
  condition = alive.condition;
  bare = alive.bare;
}
alive_relay (relays_oldest l t others x items) alive = record {
  follows = follows_line (relayed (flow l.taken) l.out t.hold x (messages_in items) _ alive.first) alive.follows;
  first = alive.first;
  phase = alive.phase;
  condition = alive.condition;
  bare = alive.bare;
}
alive_relay {m} (holds_old l oldest before t after x items) alive = record {
  follows = follows_line (ap (λ (parts : List (List ℕ)). (flow l.taken ++ flow l.out) ++ parts)
      (parts_within (oldest ∷ before) (with_items t (brought x ∷ items)) (holding t x items) after (l.serving ∷ l.target ∷ []) (held t.hold x (messages_in items)) refl)) alive.follows;
  first = alive.first;
  phase = alive.phase;
  condition = subst (λ b. Condition l.seat b l.serving.is_lost l.target.is_lost l.is_intact) (some_lost-at (oldest ∷ before) (with_items t (brought x ∷ items)) (holding t x items) after refl) alive.condition;
  bare = alive.bare;
}
alive_relay (ignores_serving l t x items apart) alive = record {
  follows = follows_line (ap (λ (parts : List (List ℕ)). (flow l.taken ++ flow l.out) ++ parts)
      (parts_at l.old (with_items t (brought x ∷ items)) (with_items t items) (l.target ∷ []) (ap (λ (list : List (List ℕ)). flow t.hold ++ list) (flow-apart x (messages_in items) apart)) refl)) alive.follows;
  first = alive.first;
  phase = phase_serving (controls_behind x (messages_in items)) alive.phase;
  condition = alive.condition;
  bare = alive.bare;
}
alive_relay (ignores_old l before t after x items apart) alive = record {
  follows = follows_line (ap (λ (parts : List (List ℕ)). (flow l.taken ++ flow l.out) ++ parts)
      (parts_within before (with_items t (brought x ∷ items)) (with_items t items) after (l.serving ∷ l.target ∷ []) (ap (λ (list : List (List ℕ)). flow t.hold ++ list) (flow-apart x (messages_in items) apart)) refl)) alive.follows;
  first = first_relays_at l.is_confirmed before (with_items t (brought x ∷ items)) (with_items t items) after l.serving.hold refl alive.first;
  phase = alive.phase;
  condition = subst (λ b. Condition l.seat b l.serving.is_lost l.target.is_lost l.is_intact) (some_lost-at before (with_items t (brought x ∷ items)) (with_items t items) after refl) alive.condition;
  bare = alive.bare;
}
alive_relay (ignores_target l t x items apart) alive = record {
  follows = follows_line (ap (λ (parts : List (List ℕ)). (flow l.taken ++ flow l.out) ++ parts)
      (parts_tail l.old (l.serving ∷ with_items t (brought x ∷ items) ∷ []) (l.serving ∷ with_items t items ∷ [])
      (parts_at (l.serving ∷ []) (with_items t (brought x ∷ items)) (with_items t items) [] (ap (λ (list : List (List ℕ)). flow t.hold ++ list) (flow-apart x (messages_in items) apart)) refl))) alive.follows;
  first = alive.first;
  phase = phase_target (texts_behind x (messages_in items)) (controls_behind x (messages_in items)) alive.phase;
  condition = alive.condition;
  bare = alive.bare;
}
alive_relay (confirms l t) alive = record {
  follows = follows_line (hold_relayed (flow l.taken) l.out t.hold (flow (messages_in t.items)) _) alive.follows;
  first = λ confirmed. refl;
  phase = alive.phase;
  condition = alive.condition;
  bare = alive.bare;
}
alive_relay (switch_takes l x out) alive = record {
  follows = follows_line (switch_taken l.taken x out _) alive.follows;
  first = alive.first;
  phase = alive.phase;
  condition = alive.condition;
  bare = alive.bare;
}
