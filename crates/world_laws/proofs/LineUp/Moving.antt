-- SPDX-License-Identifier: MIT OR Apache-2.0
-- A connection that lives continues to live whatever its mobile does.
use Rattle.world_laws.proofs.Prelude.{◌≡◌, ℕ, ◌+◌, ◌%◌, ◌≤◌, ◌⊎◌, Bool, true, false, ◌||◌, Option, Some, List, [], ◌∷◌, ◌++◌, length, refl}
use Rattle.world_laws.proofs.Prelude.{sym, ap, ◌∙◌, append_assoc, cond, arith, inl, inr, filter, not, option_to_list, cases_Bool, cond-true}
use Rattle.world_laws.proofs.Prelude.{cond-false, is_flow_message, with_number, is_control, without_control, waits, lent_message}
use Rattle.world_laws.proofs.Prelude.{after_lending, after_resume, to_be_taken, outstanding_messages, DataLinkState, is_control_apart}
use Rattle.world_laws.proofs.Prelude.{is_flow_with_number, RunsToEnd-acknowledged, RunsToEnd-resumed, RunsToEnd-numbered, RunsToEnd-unnumbered}
use Rattle.world_laws.proofs.Prelude.{to_be_taken-waits, to_be_taken-lent_message, to_be_taken-acknowledged, LineUp, flow, messages_in}
use Rattle.world_laws.proofs.Prelude.{part_of, parts_of, with_items, line, controls_of, controls_in, Alive, some_lost, rises, left_the_cell}
use Rattle.world_laws.specs.LineUp.Places.{Item, LineTenure}
use Rattle.world_laws.specs.LineUp.Places.Item.{brought}
use Rattle.world_laws.specs.LineUp.MobileStep.{MobileStep}
use Rattle.world_laws.specs.LineUp.MobileStep.MobileStep.{sends_numbered, sends_other, taken_on_serving, taken_on_target, acknowledged}
use Rattle.world_laws.specs.LineUp.MobileStep.MobileStep.{follows_command, loses_command, arrives, returns, dismissed_from_serving}
use Rattle.world_laws.specs.LineUp.MobileStep.MobileStep.{dismissed_from_target}
use Rattle.world_laws.proofs.LineUp.Lines.{messages_in-append, controls_append, parts_whole, parts_lost, parts_tail, part_push, bare_target}
use Rattle.world_laws.proofs.LineUp.Lines.{last_part}
use Rattle.world_laws.proofs.LineUp.Phases.{phase_fewer, phase_link, phase_taken_on_serving, phase_taken_on_target, phase_follows}
use Rattle.world_laws.proofs.LineUp.Phases.{phase_arrives, phase_returns, phase_dismissed_from_serving, phase_dismissed_from_target}
use Rattle.world_laws.proofs.LineUp.Phases.{phase_no_texts}
use Rattle.world_laws.proofs.LineUp.Conditions.{condition_intact, condition_on_serving, condition_on_target, condition_follows}
use Rattle.world_laws.proofs.LineUp.Conditions.{condition_arrives, condition_returns}
use Rattle.world_laws.proofs.LineUp.Following.{follows_rise, follows_link, follows_sent, follows_taken}

-- ---- control messages of the link

-- a message of the flow isn't one
pub flow_no_control : (x : List ℕ) → is_flow_message x ≡ true → is_control x ≡ false
flow_no_control x flow =
    elim (cases_Bool (is_control x)) [
      | inl control ↦ let apart = is_control_apart x control in absurd cc
      | inr other ↦ other
    ]

-- a message that isn't one waits
pub controls_waits : (link : DataLinkState) (x : List ℕ) →
    is_control x ≡ false →
    controls_of (to_be_taken (waits link x)) ≤ controls_of (to_be_taken link)
controls_waits link x other =
    let sum = ap controls_of (to_be_taken-waits link x) ∙ controls_append (to_be_taken link) (x ∷ []) in
    let none = ap length (cond-false (is_control x) (x ∷ []) [] other) in
    omega arith

-- one that is lent is handed from the link to the channel
controls_lent : (link : DataLinkState) (x : List ℕ) (items : List Item) →
    lent_message link ≡ Some x →
    controls_in (items ++ brought x ∷ []) + controls_of (to_be_taken (after_lending link)) ≡ controls_in items + controls_of (to_be_taken link)
controls_lent link x items lent =
    let there = ap controls_of (messages_in-append items (brought x ∷ [])) ∙ controls_append (messages_in items) (x ∷ []) in
    let first : (x ∷ []) ++ to_be_taken (after_lending link) ≡ to_be_taken link =
    ap (λ (message : Option (List ℕ)). option_to_list message ++ to_be_taken (after_lending link)) (sym lent) ∙ to_be_taken-lent_message link.waiting link.air in
    let here = sym (controls_append (x ∷ []) (to_be_taken (after_lending link))) ∙ ap controls_of first in
    omega arith

-- behind a change of channel the new one is the only one
without_control-none : (xs : List (List ℕ)) → controls_of (without_control xs) ≡ 0
without_control-none [] = refl
without_control-none (x ∷ xs) =
    elim (cases_Bool (is_control x)) [
      | inl control ↦ ap controls_of (cond-false (not (is_control x)) (x ∷ without_control xs) (without_control xs) (ap not control)) ∙ without_control-none xs
      | inr other ↦
          ap controls_of (cond-true (not (is_control x)) (x ∷ without_control xs) (without_control xs) (ap not other))
          ∙ ap length (cond-false (is_control x) (x ∷ filter is_control (without_control xs)) (filter is_control (without_control xs)) other) ∙ without_control-none xs
    ]

controls_resumed : (link : DataLinkState) (control : List ℕ) →
    is_control control ≡ true →
    controls_of (to_be_taken (after_resume link control)) ≡ 1
controls_resumed link control is =
    let kept : List (List ℕ) = without_control (outstanding_messages link) in
    let none = without_control-none (outstanding_messages link) in
    let count = ap length (cond-true (is_control control) (control ∷ filter is_control kept) (filter is_control kept) is) in
    omega arith

-- ---- a message joins the line

-- on the serving channel, where nothing arrived of the target
joins_serving : (old : List LineTenure) (t target : LineTenure) (x : List ℕ) →
    some_lost old ≡ false →
    parts_of (target ∷ []) ≡ [] →
    parts_of (old ++ with_items t (t.items ++ brought x ∷ []) ∷ target ∷ []) ≡ parts_of (old ++ t ∷ target ∷ []) ++ flow (x ∷ [])
joins_serving old t target x none bare =
    let alone : (s : LineTenure) → parts_of (s ∷ target ∷ []) ≡ part_of s = λ s. ap (λ (rest : List (List ℕ)). part_of s ++ cond s.is_lost [] rest) bare ∙ last_part s in
    parts_whole old _ _ (flow (x ∷ [])) none
    (alone (with_items t (t.items ++ brought x ∷ [])) ∙ part_push t x ∙ ap (λ (part : List (List ℕ)). part ++ flow (x ∷ [])) (sym (alone t)))

-- on the target
joins_target : (old : List LineTenure) (serving t : LineTenure) (x : List ℕ) →
    some_lost old ≡ false →
    serving.is_lost ≡ false →
    parts_of (old ++ serving ∷ with_items t (t.items ++ brought x ∷ []) ∷ []) ≡ parts_of (old ++ serving ∷ t ∷ []) ++ flow (x ∷ [])
joins_target old serving t x none whole =
    parts_whole old _ _ (flow (x ∷ [])) none
    (parts_whole (serving ∷ []) (with_items t (t.items ++ brought x ∷ []) ∷ []) (t ∷ []) (flow (x ∷ [])) (ap (λ (b : Bool). b || false) whole)
    (last_part (with_items t (t.items ++ brought x ∷ [])) ∙ part_push t x ∙ ap (λ (part : List (List ℕ)). part ++ flow (x ∷ [])) (sym (last_part t))))

-- behind something that is missing it isn't on the line
passes_target : (old : List LineTenure) (serving t : LineTenure) (x : List ℕ) →
    (some_lost old ≡ true) ⊎ (serving.is_lost ≡ true) →
    parts_of (old ++ serving ∷ with_items t (t.items ++ brought x ∷ []) ∷ []) ≡ parts_of (old ++ serving ∷ t ∷ [])
passes_target old serving t x (inl some) = parts_lost old _ _ some
passes_target old serving t x (inr lost) = parts_tail old _ _ (parts_lost (serving ∷ []) (with_items t (t.items ++ brought x ∷ []) ∷ []) (t ∷ []) (ap (λ (b : Bool). b || false) lost))

pub alive_mobile : {m : ℕ} {before after : LineUp} → MobileStep m before after → Alive m before → Alive m after
alive_mobile {m} (sends_numbered l x clear) alive = record {
  follows = follows_sent (x ∷ []) (RunsToEnd-numbered l.link x clear) alive.follows;
  first = alive.first;
  phase = phase_link (controls_waits l.link (with_number (length l.sent % m) x) (flow_no_control (with_number (length l.sent % m) x) (is_flow_with_number (length l.sent % m) x ∙ clear.is_flow))) alive.phase;
  condition = alive.condition;
  bare = alive.bare;
}
alive_mobile (sends_other l x apart other) alive = record {
  follows = follows_link (RunsToEnd-unnumbered l.link x apart) alive.follows;
  first = alive.first;
  phase = phase_link (controls_waits l.link x other) alive.phase;
  condition = alive.condition;
  bare = alive.bare;
}
alive_mobile (taken_on_serving l x lent whole) alive =
    let bare : parts_of (l.target ∷ []) ≡ [] = bare_target l.target alive.bare (phase_no_texts alive.phase) in
    let front : List (List ℕ) = flow l.taken ++ flow l.out in
    record {
      follows =
          follows_taken (line l) _ l.link x lent
          (λ intact. ap (λ (parts : List (List ℕ)). front ++ parts) (joins_serving l.old l.serving l.target x (condition_intact intact alive.condition).0 bare)
          ∙ sym (append_assoc front (parts_of (l.old ++ l.serving ∷ l.target ∷ [])) (flow (x ∷ []))))
          (λ isnt. ap (λ (parts : List (List ℕ)). front ++ parts) (parts_lost l.old _ _ (condition_on_serving isnt whole alive.condition)))
          alive.follows;
      first = alive.first;
      phase = phase_taken_on_serving (controls_lent l.link x l.serving.items lent) alive.phase;
      condition = alive.condition;
      bare = alive.bare;
    }
alive_mobile (taken_on_target l x lent whole) alive =
    let front : List (List ℕ) = flow l.taken ++ flow l.out in
    record {
      follows =
          follows_taken (line l) _ l.link x lent
          (λ intact.
          let none = condition_intact intact alive.condition in
          ap (λ (parts : List (List ℕ)). front ++ parts) (joins_target l.old l.serving l.target x none.0 none.1)
          ∙ sym (append_assoc front (parts_of (l.old ++ l.serving ∷ l.target ∷ [])) (flow (x ∷ []))))
          (λ isnt. ap (λ (parts : List (List ℕ)). front ++ parts) (passes_target l.old l.serving l.target x (condition_on_target isnt whole alive.condition)))
          alive.follows;
      first = alive.first;
      phase = phase_taken_on_target (controls_lent l.link x l.target.items lent) alive.phase;
      condition = alive.condition;
      bare = alive.bare;
    }
alive_mobile (acknowledged l) alive =
    let same = ap controls_of (to_be_taken-acknowledged l.link.waiting l.link.air) in
    record {
      follows = follows_link (RunsToEnd-acknowledged l.link) alive.follows;
      first = alive.first;
      phase = phase_link (omega arith) alive.phase;
      condition = alive.condition;
      bare = alive.bare;
    }
alive_mobile (follows_command l) alive = record { follows = alive.follows; first = alive.first; phase = phase_follows alive.phase; condition = condition_follows alive.condition; bare = alive.bare }
alive_mobile (loses_command l) alive = record {
  follows = alive.follows;
  first = alive.first;
  phase = phase_fewer (omega arith) (omega arith) (omega arith) (omega arith) (omega arith) alive.phase;
  condition = alive.condition;
  bare = alive.bare;
}
alive_mobile (arrives l complete is) alive = record {
  follows = follows_link (RunsToEnd-resumed l.link complete is) alive.follows;
  first = alive.first;
  phase = phase_arrives (controls_resumed l.link complete is) alive.phase;
  condition = condition_arrives alive.condition;
  bare = alive.bare;
}
alive_mobile (returns l failure is) alive = record {
  follows = follows_link (RunsToEnd-resumed l.link failure is) alive.follows;
  first = alive.first;
  phase = phase_returns (controls_resumed l.link failure is) alive.phase;
  condition = condition_returns alive.condition;
  bare = alive.bare;
}
alive_mobile (dismissed_from_serving l) alive =
    let rise = follows_rise alive.follows in
    record { follows = rises rise.0 rise.1; first = alive.first; phase = phase_dismissed_from_serving alive.phase; condition = left_the_cell; bare = alive.bare }
alive_mobile (dismissed_from_target l) alive =
    let rise = follows_rise alive.follows in
    record { follows = rises rise.0 rise.1; first = alive.first; phase = phase_dismissed_from_target alive.phase; condition = left_the_cell; bare = alive.bare }
