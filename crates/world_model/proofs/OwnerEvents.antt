-- SPDX-License-Identifier: MIT OR Apache-2.0
-- Channels still agree with an ownership after each event in which the controller does nothing.
use Rattle.world_model.proofs.Prelude.{◌≡◌, ◌≢◌, ℕ, ◌-◌, ◌<◌, Bool, true, false, if◌then◌else◌, is_some, List, [], ◌++◌, length, refl, sym}
use Rattle.world_model.proofs.Prelude.{ap, ◌∙◌, append_assoc, ne_eqb, append-nil, flat_map, Place, SWITCH_LINK, Item, Rsl, Event, BaseTakes}
use Rattle.world_model.proofs.Prelude.{Handle, SwitchTakes, Tick, OutboxEntry, Tenure, given, event_after, actors_after, acknowledgements}
use Rattle.world_model.proofs.Prelude.{due, first_of, outputs, popped, pushed, put, taken, to_link, Actors, Link, base_of, is_active_at}
use Rattle.world_model.proofs.Prelude.{is_up, outbox_of, spot_at}
use Rattle.std.proofs.lemmas.Grind.{flat_map-append}
use Rattle.world_model.specs.OwnerLines.{Agrees, acknowledged_in, said, tenure_all, to_arrive}
use Rattle.world_model.proofs.Heard.{Good}
use Rattle.world_model.proofs.Inboxes.{inbox_keeps_order}
use Rattle.world_model.proofs.Outboxes.{step as outbox-step, Step as OutboxStep}
use Rattle.world_model.proofs.Outboxes.Step.{kept_order, breaks}
use Rattle.world_model.proofs.OwnerKeeping.{agrees_lost, agrees_takes, said-pushed}
use Rattle.world_model.proofs.OwnerTenures.{beside_step, is_beside}
use Rattle.world_model.proofs.Piping.{acks_append, due-append, step as pipe-step, Step as PipeStep}
use Rattle.world_model.proofs.Piping.Step.{flows, stops}

-- ---- an event at which the controller does nothing

pub record Rests (at : Place) (w : Actors) (event : Event) : Type 0 where
  pub outputs : outputs w event ≡ []
  pub pops : popped w event ≡ []
  pub controller : (actors_after w event).controller ≡ w.controller
  pub tenure : (spot_at (actors_after w event) at).tenure ≡ tenure_all at.number (is_active_at w at) (spot_at w at).tenure (taken at.station w event)

-- a station that is there: its number, and that nothing waits where its link broke
pub record IsThere (at : Place) (w : Actors) : Type 0 where
  pub station : at.station ≢ SWITCH_LINK
  pub among : at.station - 1 < length w.stations
  pub none : is_up w at.station ≡ false → outbox_of w at.station ≡ []

pub nothing_put : (link : ℕ) (w : Actors) (event : Event) → outputs w event ≡ [] → put link w event ≡ []
nothing_put link w event none = by (is_up w link) where
  by : (b : Bool) → (if b then to_link link (outputs w event) else []) ≡ []
  by true = ap (to_link link) none
  by false = refl

-- what is in the inbox then
pub to_arrive_then : (at : Place) (w : Actors) (event : Event) →
    at.station ≢ SWITCH_LINK →
    popped w event ≡ [] →
    Good w →
    acknowledged_in at (actors_after w event).inbox ≡ acknowledged_in at w.inbox ++ acknowledgements at.number (given at.station w event)
to_arrive_then at w event at_is pops good =
    ap (acknowledged_in at) (sym (inbox_keeps_order w event ∙ ap (λ (items : List Item). items ++ (actors_after w event).inbox) pops))
    ∙ ap (acknowledgements at.number) (flat_map-append (said at.station) w.inbox (pushed w event))
    ∙ acks_append at.number (flat_map (said at.station) w.inbox) (flat_map (said at.station) (pushed w event))
    ∙ ap (λ (ms : List Rsl). acknowledged_in at w.inbox ++ acknowledgements at.number ms) (said-pushed at.station w event at_is good)

pub rests_keep : (owner : Tenure → ℕ) (at : Place) (w : Actors) (event : Event) →
    IsThere at w →
    Good w →
    Rests at w event →
    Agrees owner w at →
    Agrees owner (actors_after w event) at
rests_keep owner at w event there good rests agrees = by (outbox-step n w event) (pipe-step n k w event there.station there.among there.none) where
  v : Actors
  v = actors_after w event

  n : ℕ
  n = at.station

  k : ℕ
  k = at.number

  before : List Rsl
  before = acknowledged_in at w.inbox

  gave : List Rsl
  gave = acknowledgements k (given n w event)

  made : List Rsl
  made = acknowledgements k (base_of w n).messages

  waits : List Rsl
  waits = due k (is_active_at w at) (outbox_of w n)

  inbox : acknowledged_in at v.inbox ≡ before ++ gave
  inbox = to_arrive_then at w event there.station rests.pops good

  -- what was given and made, before what is due
  grouped : (rest : List Rsl) →
      (before ++ gave) ++ (acknowledgements k (base_of v n).messages ++ rest) ≡ before ++ (acknowledgements k (given n w event ++ (base_of v n).messages) ++ rest)
  grouped rest =
      append_assoc before gave (acknowledgements k (base_of v n).messages ++ rest)
      ∙ ap (λ (xs : List Rsl). before ++ xs) (sym (append_assoc gave (acknowledgements k (base_of v n).messages) rest)
      ∙ ap (λ (xs : List Rsl). xs ++ rest) (sym (acks_append k (given n w event) (base_of v n).messages)))

  by : OutboxStep n w event v → PipeStep n k w event v → Agrees owner v at
  by (kept_order up all) (flows acks active) = agrees_takes owner at w v (taken n w event) (record {
    outbox = outbox;
    active = active;
    tenure = rests.tenure;
    owed =
        ap (λ (xs : List Rsl). xs ++ (acknowledgements k (base_of v n).messages ++ due k (is_active_at v at) (outbox_of v n))) inbox
        ∙ grouped (due k (is_active_at v at) (outbox_of v n))
        ∙ ap (λ (xs : List Rsl). before ++ (xs ++ due k (is_active_at v at) (outbox_of v n))) acks
        ∙ ap (λ (xs : List Rsl). before ++ xs) (append_assoc made (due k (is_active_at w at) (taken n w event)) (due k (is_active_at v at) (outbox_of v n))
        ∙ ap (λ (b : Bool). made ++ (due k (is_active_at w at) (taken n w event) ++ due k b (outbox_of v n))) active
        ∙ ap (λ (xs : List Rsl). made ++ xs) (sym (due-append k (is_active_at w at) (taken n w event) (outbox_of v n))
        ∙ ap (due k (is_active_at w at)) (sym outbox)));
    controller = rests.controller;
    up = up;
  }) agrees where
    outbox : outbox_of w n ≡ taken n w event ++ outbox_of v n
    outbox = sym (append-nil (outbox_of w n)) ∙ ap (λ (entries : List OutboxEntry). outbox_of w n ++ entries) (sym (nothing_put n w event rests.outputs)) ∙ all
  by (breaks broken nothing nobody) (flows acks active) = agrees_lost owner at w v (record {
    outbox = ap (λ (l : Link). l.outbox) broken;
    down = ap (λ (l : Link). l.up) broken;
    made = [];
    owed = sym (ap (λ (xs : List Rsl). xs ++ waits) owed ∙ append_assoc before made waits);
    tenure = rests.tenure ∙ ap (tenure_all k (is_active_at w at) (spot_at w at).tenure) nobody;
    controller = rests.controller;
  }) agrees where
    owed : to_arrive v at ≡ before ++ made
    owed =
        ap (λ (xs : List Rsl). xs ++ (acknowledgements k (base_of v n).messages ++ due k (is_active_at v at) (outbox_of v n))) inbox
        ∙ ap (λ (l : Link). (before ++ gave) ++ (acknowledgements k (base_of v n).messages ++ due k (is_active_at v at) l.outbox)) broken
        ∙ grouped []
        ∙ ap (λ (xs : List Rsl). before ++ xs) (append-nil (acknowledgements k (given n w event ++ (base_of v n).messages)) ∙ acks
        ∙ ap (λ (entries : List OutboxEntry). made ++ due k (is_active_at w at) entries) nobody ∙ append-nil made)
  by outboxes (stops down left dropped nothing nobody) = agrees_lost owner at w v (record {
    outbox = dropped;
    down = down;
    made = made;
    owed = sym (ap (λ (xs : List Rsl). xs ++ (made ++ waits)) owed);
    tenure = rests.tenure ∙ ap (tenure_all k (is_active_at w at) (spot_at w at).tenure) nobody;
    controller = rests.controller;
  }) agrees where
    owed : to_arrive v at ≡ before
    owed =
        ap (λ (xs : List Rsl). xs ++ (acknowledgements k (base_of v n).messages ++ due k (is_active_at v at) (outbox_of v n))) inbox
        ∙ ap (λ (ms : List Rsl). (before ++ acknowledgements k ms) ++ (acknowledgements k (base_of v n).messages ++ due k (is_active_at v at) (outbox_of v n))) nothing
        ∙ ap (λ (ms : List Rsl). (before ++ []) ++ (acknowledgements k ms ++ due k (is_active_at v at) (outbox_of v n))) left
        ∙ ap (λ (entries : List OutboxEntry). (before ++ []) ++ due k (is_active_at v at) entries) dropped
        ∙ append-nil (before ++ []) ∙ append-nil before

-- ---- the events of mobiles and of the switch, pushes and breaks

no_outputs : (w : Actors) (event : Event) → is_beside event ≡ true → outputs w event ≡ []
no_outputs w Handle is = absurd cc
no_outputs w (Tick ms) is = absurd cc
no_outputs w _ is = refl

no_pops : (w : Actors) (event : Event) → is_beside event ≡ true → popped w event ≡ []
no_pops w Handle is = absurd cc
no_pops w _ is = refl

none_taken : (n : ℕ) (w : Actors) (event : Event) → n ≢ SWITCH_LINK → is_beside event ≡ true → taken n w event ≡ []
none_taken n w (BaseTakes station) n_is is = absurd cc
none_taken n w SwitchTakes n_is is = ap (λ (b : Bool). if b then (if is_some (event_after w SwitchTakes) then first_of (outbox_of w n) else []) else []) (ne_eqb SWITCH_LINK n (λ same. n_is (sym same)))
none_taken n w _ n_is is = refl

pub beside_rests : (at : Place) (w : Actors) (event : Event) → is_beside event ≡ true → IsThere at w → Rests at w event
beside_rests at w event is there =
    let b = beside_step w event is in
    record {
      outputs = no_outputs w event is;
      pops = no_pops w event is;
      controller = b.controller;
      tenure = b.tenures at there.station ∙ sym (ap (tenure_all at.number (is_active_at w at) (spot_at w at).tenure) (none_taken at.station w event there.station is));
    }

-- Each of them keeps the agreement of each channel.
pub beside_keeps : (owner : Tenure → ℕ) (at : Place) (w : Actors) (event : Event) →
    is_beside event ≡ true →
    IsThere at w →
    Good w →
    Agrees owner w at →
    Agrees owner (actors_after w event) at
beside_keeps owner at w event is there good agrees = rests_keep owner at w event there good (beside_rests at w event is there) agrees
