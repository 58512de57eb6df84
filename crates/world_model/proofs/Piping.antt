-- SPDX-License-Identifier: MIT OR Apache-2.0
-- The pipe of one channel, over all events.
use Rattle.world_model.proofs.Prelude.{◌≡◌, ◌≢◌, ℕ, zero, suc, ◌+◌, ◌-◌, ◌<◌, ◌≤◌, ◌==◌, nat_eq, Bool, true, false, if◌then◌else◌, List, []}
use Rattle.world_model.proofs.Prelude.{◌∷◌, ◌++◌, length, unwrap_or, is_some, get_or, Option, Some, None, refl, sym, ap, ◌∙◌, subst}
use Rattle.world_model.proofs.Prelude.{append_assoc, inl, inr, arith, cases_Bool, eqb-true, eqb-false, ne_eqb, append-nil, filter-append}
use Rattle.world_model.proofs.Prelude.{SWITCH_LINK, place_at, take, tick, BaseState, is_active, after_tell, first_of_messages, is_bound_of}
use Rattle.world_model.proofs.Prelude.{Rsl, Parameters, CellParameters, messages_behind_first, IsPrefix, Event, BaseTakes, BasePush, Handle}
use Rattle.world_model.proofs.Prelude.{SwitchTakes, SwitchDoes, Tick, BaseDown, OutboxEntry, given, all_given, actors_after}
use Rattle.world_model.proofs.Prelude.{actors_after_all, acknowledgements, acknowledgement, is_active_then, due, active_all, ArePipes}
use Rattle.world_model.proofs.Prelude.{first_of, taken, all_taken, all_put, target_in, after_handle, after_tick, took, rsl_in}
use Rattle.world_model.proofs.Prelude.{after_base_takes, sccp_in, after_switch_takes, after_switch_does, Actors, new_actors, stations_from}
use Rattle.world_model.proofs.Prelude.{is_up, is_station_up, no_station, base_of, with_base, outbox_of, with_outbox}
use Rattle.world_model.specs.Life.{event_after}
use Rattle.world_model.proofs.Acknowledging.{Answers, AnswersAt, acks_tell, took_answers}
use Rattle.world_model.proofs.Counting.{same_stations}
use Rattle.world_model.proofs.Honesty.{Plain, base_with_spot, base-elsewhere, base-there, up_right, pushing, breaking}
use Rattle.world_model.proofs.Honesty.Plain.{as_before, next, ends_now}
use Rattle.world_model.proofs.Leads.{OfTaken, FromAir, base_takes_leads, handle_leads, turn_leads, switch_takes_leads, switch_took-leads, does_leads, after_taken}
use Rattle.world_model.proofs.Outboxes.{down_after, down_empty, down_outbox, outboxes_all, rest_all, both_empty, new_outbox}
use Rattle.world_model.proofs.Footprints.{OnAir, Tells, air_leads}
use Rattle.world_model.proofs.Footprints.Tells.{answers, links}

-- ---- events that ask a station for nothing

-- the acknowledgements that an end made, and whether the channel is active, are as they were
record Quiet (n k : ℕ) (w v : Actors) : Type 0 where
  acks : acknowledgements k (base_of v n).messages ≡ acknowledgements k (base_of w n).messages
  active : is_active (base_of v n).active k ≡ is_active (base_of w n).active k

quiet_base : {n k : ℕ} {w v : Actors} → base_of v n ≡ base_of w n → Quiet n k w v
quiet_base {k} same = record { acks = ap (λ (b : BaseState). acknowledgements k b.messages) same; active = ap (λ (b : BaseState). is_active b.active k) same }

quiet_at : {n k : ℕ} {w u v : Actors} → base_of v n ≡ base_of u n → Quiet n k w u → Quiet n k w v
quiet_at {k} same quiet = record {
  acks = ap (λ (b : BaseState). acknowledgements k b.messages) same ∙ quiet.acks;
  active = ap (λ (b : BaseState). is_active b.active k) same ∙ quiet.active;
}

-- an end that made no acknowledgement
quiet_end : {n k : ℕ} {w u : Actors} (m : ℕ) (base : BaseState) →
    n ≢ 0 →
    is_station_up w m ≡ true →
    base.active ≡ (base_of u m).active →
    acknowledgements k base.messages ≡ acknowledgements k (base_of u m).messages →
    Quiet n k w u →
    Quiet n k w (with_base m base u)
quiet_end {n} {k} {w} {u} m base n_is up active acks quiet =
    elim (cases_Bool (nat_eq n m)) [
      | inl here ↦ subst (λ (j : ℕ). Quiet j k w (with_base m base u)) (sym (eqb-true n m here)) (at_m (subst (λ (j : ℕ). Quiet j k w u) (eqb-true n m here) quiet))
      | inr other ↦ quiet_at (base-elsewhere u n m base n_is (up_right m w up).0 (eqb-false n m other)) quiet
    ] where
      at_m : Quiet m k w u → Quiet m k w (with_base m base u)
      at_m before = elim (base-there u m base) [
        | inl there ↦ record {
          acks = ap (λ (b : BaseState). acknowledgements k b.messages) there ∙ acks ∙ before.acks;
          active = ap (λ (b : BaseState). is_active b.active k) there ∙ ap (λ (xs : List ℕ). is_active xs k) active ∙ before.active;
        }
        | inr nowhere ↦ quiet_at (nowhere.0 ∙ sym nowhere.1) before
      ]

tells_free : {w : Actors} {event : Event} {m : ℕ} {message : Rsl} (k : ℕ) → Tells w event m message → is_bound_of k message ≡ false
tells_free k (answers station l true taken) = refl
tells_free k _ = refl

-- an event at which the station takes no entry
keeps_quiet : (n k : ℕ) (w : Actors) (event : Event) → n ≢ 0 → (event ≡ BaseTakes n → ⊥) → OnAir (Quiet n k w) w event
keeps_quiet n k w event n_is apart = record {
  puts = λ u number p q _ _ _ quiet. quiet_at refl quiet;
  joins = λ number initial accepts _ quiet. quiet_at refl quiet;
  tells = λ u m message up how quiet. quiet_end m (after_tell (base_of u m) message) n_is up refl (acks_tell k (base_of u m) message (tells_free k how)) quiet;
  spots = λ u at spot _ _ quiet. quiet_at (base_with_spot at spot u n) quiet;
  pops = λ station others _ quiet. quiet_at refl quiet;
  activates = λ u s a taken _ quiet. quiet_at (base_with_spot (place_at s a.channel) _ (with_base s _ u) n) (elsewhere u s _ taken.up taken.event_is quiet);
  releases = λ u s channel taken quiet. quiet_at (base_with_spot (place_at s channel) _ (with_base s _ u) n) (elsewhere u s _ taken.up taken.event_is quiet);
} where
  elsewhere : (u : Actors) (s : ℕ) (base : BaseState) →
      is_station_up w s ≡ true →
      event ≡ BaseTakes s →
      Quiet n k w u →
      Quiet n k w (with_base s base u)
  elsewhere u s base up is quiet = quiet_at (base-elsewhere u n s base n_is (up_right s w up).0 (λ same. apart (is ∙ ap (λ (j : ℕ). BaseTakes j) (sym same)))) quiet

-- ---- what an event does to the pipe

pub data Step (n k : ℕ) (w : Actors) (event : Event) (v : Actors) : Type 0 where
  flows : acknowledgements k (given n w event ++ (base_of v n).messages) ≡ acknowledgements k (base_of w n).messages ++ due k (is_active (base_of w n).active k) (taken n w event) →
      is_active (base_of v n).active k ≡ active_all k (is_active (base_of w n).active k) (taken n w event) →
      Step n k w event v
  stops : is_up v n ≡ false →
      (base_of v n).messages ≡ [] →
      outbox_of v n ≡ [] →
      given n w event ≡ [] →
      taken n w event ≡ [] →
      Step n k w event v

quiet_flows : (n k : ℕ) (w : Actors) (event : Event) (v : Actors) →
    given n w event ≡ [] →
    taken n w event ≡ [] →
    Quiet n k w v →
    Step n k w event v
quiet_flows n k w event v nothing nobody quiet =
    flows
    (ap (λ (ms : List Rsl). acknowledgements k (ms ++ (base_of v n).messages)) nothing ∙ quiet.acks ∙ sym (append-nil (acknowledgements k (base_of w n).messages))
    ∙ ap (λ (entries : List OutboxEntry). acknowledgements k (base_of w n).messages ++ due k (is_active (base_of w n).active k) entries) (sym nobody))
    (quiet.active ∙ ap (active_all k (is_active (base_of w n).active k)) (sym nobody))

quietly : (n k : ℕ) (w : Actors) (event : Event) (o : Option Actors) →
    given n w event ≡ [] →
    taken n w event ≡ [] →
    OfTaken (Quiet n k w) o →
    Step n k w event (unwrap_or o w)
quietly n k w event o nothing nobody leads = quiet_flows n k w event (unwrap_or o w) nothing nobody (after_taken (Quiet n k w) o w leads (quiet_base refl))

-- ---- pushes and breaks

first_and_behind : (messages : List Rsl) (message : Rsl) →
    first_of_messages messages ≡ Some message →
    message ∷ messages_behind_first messages ≡ messages
first_and_behind [] message is = absurd cc
first_and_behind (first ∷ others) message is = ap (λ (m : Rsl). m ∷ others) (sym (some_same is)) where
  some_same : {a b : Rsl} → Some a ≡ Some b → a ≡ b
  some_same {a} is = ap (λ (o : Option Rsl). unwrap_or o a) is

plain_flows : (n k : ℕ) (w : Actors) (event : Event) (v : Actors) →
    taken n w event ≡ [] →
    (is_up v n ≡ false → outbox_of v n ≡ []) →
    Plain n w event v →
    Step n k w event v
plain_flows n k w event v nobody dropped (as_before same nothing) = quiet_flows n k w event v nothing nobody (quiet_base same)
plain_flows n k w event v nobody dropped (next message first is gave) =
    flows
    (ap (acknowledgements k) (ap (λ (ms : List Rsl). ms ++ (base_of v n).messages) gave ∙ ap (λ (b : BaseState). message ∷ b.messages) is ∙ first_and_behind (base_of w n).messages message first)
    ∙ sym (append-nil (acknowledgements k (base_of w n).messages))
    ∙ ap (λ (entries : List OutboxEntry). acknowledgements k (base_of w n).messages ++ due k (is_active (base_of w n).active k) entries) (sym nobody))
    (ap (λ (b : BaseState). is_active b.active k) is ∙ ap (active_all k (is_active (base_of w n).active k)) (sym nobody))
plain_flows n k w event v nobody dropped (ends_now down left nothing) = stops down left (dropped down) nothing nobody

-- ---- what the station takes

map_taken : {P Q : Actors → Type 0} → ((v : Actors) → P v → Q v) → (o : Option Actors) → OfTaken P o → OfTaken Q o
unfolding OfTaken
map_taken h None leads = tt
map_taken h (Some v) leads = h v leads

-- the first entry was taken, and is acknowledged
record Took (n k : ℕ) (w v : Actors) : Type 0 where
  first : OutboxEntry
  others : List OutboxEntry
  pending : outbox_of w n ≡ first ∷ others
  answers : Answers k (base_of w n) (base_of v n) (rsl_in first.out.frame)

own_takes : (n k : ℕ) (w : Actors) → n - 1 < length w.stations → OfTaken (Took n k w) (after_base_takes w n)
unfolding AnswersAt
own_takes n k w there = base_takes_leads (Took n k w) w n (λ first others up pending.
    map_taken {P = AnswersAt n k (with_outbox n others w) (rsl_in first.out.frame)} (λ v answers. record { first = first; others = others; pending = pending; answers = answers }) (took n first.target (rsl_in first.out.frame) (with_outbox n others w))
    (took_answers n k first.target (rsl_in first.out.frame) (with_outbox n others w) there))

other_takes : (n s k : ℕ) (w : Actors) → n ≢ 0 → n ≢ s → OfTaken (Quiet n k w) (after_base_takes w s)
unfolding event_after
other_takes n s k w n_is differs = air_leads (Quiet n k w) w (BaseTakes s) refl (keeps_quiet n k w (BaseTakes s) n_is (λ is. differs (own is))) (quiet_base refl) where
  station_in : Event → ℕ
  station_in (BaseTakes j) = j
  station_in _ = n

  own : BaseTakes s ≡ BaseTakes n → n ≡ s
  own is = sym (ap station_in is)

own_flows : (n k : ℕ) (w : Actors) (o : Option Actors) →
    taken n w (BaseTakes n) ≡ (if is_some o then first_of (outbox_of w n) else []) →
    OfTaken (Took n k w) o →
    Step n k w (BaseTakes n) (unwrap_or o w)
unfolding OfTaken
own_flows n k w None takes h = quiet_flows n k w (BaseTakes n) w refl takes (quiet_base refl)
own_flows n k w (Some v) takes h =
    let one : taken n w (BaseTakes n) ≡ h.first ∷ [] = takes ∙ ap first_of h.pending in
    flows
    (h.answers.acks ∙ ap (λ (ms : List Rsl). acknowledgements k (base_of w n).messages ++ ms) (sym (append-nil (acknowledgement k (is_active (base_of w n).active k) (rsl_in h.first.out.frame))))
    ∙ ap (λ (entries : List OutboxEntry). acknowledgements k (base_of w n).messages ++ due k (is_active (base_of w n).active k) entries) (sym one))
    (h.answers.active ∙ ap (active_all k (is_active (base_of w n).active k)) (sym one))

takes_flows : (n s k : ℕ) (w : Actors) (o : Option Actors) →
    n ≢ 0 →
    n - 1 < length w.stations →
    o ≡ after_base_takes w s →
    taken n w (BaseTakes s) ≡ (if s == n then (if is_some o then first_of (outbox_of w n) else []) else []) →
    Step n k w (BaseTakes s) (unwrap_or o w)
takes_flows n s k w o n_is there is takes =
    elim (cases_Bool (nat_eq s n)) [
      | inl same ↦ own (eqb-true s n same) (takes ∙ ap (λ (b : Bool). if b then (if is_some o then first_of (outbox_of w n) else []) else []) same)
      | inr other ↦ quietly n k w (BaseTakes s) o refl (takes ∙ ap (λ (b : Bool). if b then (if is_some o then first_of (outbox_of w n) else []) else []) other)
          (subst (OfTaken (Quiet n k w)) (sym is) (other_takes n s k w n_is (λ same. eqb-false s n other (sym same))))
    ] where
      own : s ≡ n →
          taken n w (BaseTakes s) ≡ (if is_some o then first_of (outbox_of w n) else []) →
          Step n k w (BaseTakes s) (unwrap_or o w)
      own same now =
          subst (λ (j : ℕ). Step n k w (BaseTakes j) (unwrap_or o w)) (sym same)
          (own_flows n k w o (subst (λ (j : ℕ). taken n w (BaseTakes j) ≡ (if is_some o then first_of (outbox_of w n) else [])) same now)
          (subst (OfTaken (Took n k w)) (sym (is ∙ ap (after_base_takes w) same)) (own_takes n k w there)))

-- ---- each event

pub step : (n k : ℕ) (w : Actors) (event : Event) →
    n ≢ 0 →
    n - 1 < length w.stations →
    (is_up w n ≡ false → outbox_of w n ≡ []) →
    Step n k w event (actors_after w event)
unfolding event_after FromAir OfTaken
step n k w (BaseTakes s) n_is there none = takes_flows n s k w (after_base_takes w s) n_is there refl refl
step n k w (BasePush source) n_is there none = plain_flows n k w (BasePush source) (actors_after w (BasePush source)) refl (down_outbox n w (BasePush source) none) (pushing n source w n_is)
step n k w Handle n_is there none =
    quietly n k w Handle (after_handle w) refl refl (handle_leads (Quiet n k w) w (λ item items _. turn_leads (Quiet n k w) (target_in w item.source item.what) (take item w.controller) (record w { inbox = items }) (λ links. quiet_base refl)))
step n k w SwitchTakes n_is there none =
    quietly n k w SwitchTakes (after_switch_takes w) refl (ap (λ (b : Bool). if b then (if is_some (after_switch_takes w) then first_of (outbox_of w n) else []) else []) (ne_eqb SWITCH_LINK n (λ same. n_is (sym same))))
    (switch_takes_leads (Quiet n k w) w (λ first others _ _. switch_took-leads (Quiet n k w) (with_outbox SWITCH_LINK others w) (sccp_in first.out.frame) (quiet_base refl) (λ nows made. quiet_base refl)))
step n k w (SwitchDoes action) n_is there none = quietly n k w (SwitchDoes action) (after_switch_does w action) refl refl (does_leads (Quiet n k w) w action (λ nows made. quiet_base refl))
step n k w (Tick ms) n_is there none = quietly n k w (Tick ms) (after_tick w ms) refl refl (turn_leads (Quiet n k w) None (tick ms w.controller) w (λ links. quiet_base refl))
step n k w (BaseDown source) n_is there none = plain_flows n k w (BaseDown source) (actors_after w (BaseDown source)) refl (down_outbox n w (BaseDown source) none) (breaking n source w n_is)
step n k w event n_is there none =
    quietly n k w event (event_after w event) refl refl (air_leads (Quiet n k w) w event refl (keeps_quiet n k w event n_is (λ is. absurd cc)) (quiet_base refl))

-- ---- all events

pub due-append : (k : ℕ) (active : Bool) (xs ys : List OutboxEntry) →
    due k active (xs ++ ys) ≡ due k active xs ++ due k (active_all k active xs) ys
due-append k active [] ys = refl
due-append k active (x ∷ xs) ys =
    let m : Option Rsl = rsl_in x.out.frame in
    ap (λ (ms : List Rsl). acknowledgement k active m ++ ms) (due-append k (is_active_then k active m) xs ys)
    ∙ sym (append_assoc (acknowledgement k active m) (due k (is_active_then k active m) xs) (due k (active_all k (is_active_then k active m) xs) ys))

pub active-append : (k : ℕ) (active : Bool) (xs ys : List OutboxEntry) →
    active_all k active (xs ++ ys) ≡ active_all k (active_all k active xs) ys
active-append k active [] ys = refl
active-append k active (x ∷ xs) ys = active-append k (is_active_then k active (rsl_in x.out.frame)) xs ys

-- what was given and taken so far: while the link is up all that is due was made; then what was
-- given is its beginning
data Kept (n k : ℕ) (gave : List Rsl) (took_so_far : List OutboxEntry) (w : Actors) : Type 0 where
  works : acknowledgements k (gave ++ (base_of w n).messages) ≡ due k false took_so_far →
      is_active (base_of w n).active k ≡ active_all k false took_so_far →
      Kept n k gave took_so_far w
  rested : is_up w n ≡ false →
      outbox_of w n ≡ [] →
      acknowledgements k (base_of w n).messages ≡ [] →
      IsPrefix (acknowledgements k gave) (due k false took_so_far) →
      Kept n k gave took_so_far w

pub acks_append : (k : ℕ) (xs ys : List Rsl) → acknowledgements k (xs ++ ys) ≡ acknowledgements k xs ++ acknowledgements k ys
acks_append k xs ys = filter-append (is_bound_of k) xs ys

works_begins : (k : ℕ) (gave made : List Rsl) (ds : List Rsl) →
    acknowledgements k (gave ++ made) ≡ ds →
    IsPrefix (acknowledgements k gave) ds
works_begins k gave made ds is = (acknowledgements k made, sym (acks_append k gave made) ∙ is)

kept_by : (n k : ℕ) (gave : List Rsl) (took_so_far : List OutboxEntry) (w : Actors) (event : Event) (v : Actors) →
    Step n k w event v →
    (is_up w n ≡ false → is_up v n ≡ false) →
    (is_up w n ≡ false → outbox_of w n ≡ [] → (taken n w event ≡ []) × (outbox_of v n ≡ [])) →
    Kept n k gave took_so_far w →
    Kept n k (gave ++ given n w event) (took_so_far ++ taken n w event) v
kept_by n k gave took_so_far w event v (flows all active) unchanged empties (works made on) =
    works
    (ap (acknowledgements k) (append_assoc gave (given n w event) (base_of v n).messages)
    ∙ acks_append k gave (given n w event ++ (base_of v n).messages)
    ∙ ap (λ (ms : List Rsl). acknowledgements k gave ++ ms) all
    ∙ sym (append_assoc (acknowledgements k gave) (acknowledgements k (base_of w n).messages) (due k (is_active (base_of w n).active k) (taken n w event)))
    ∙ ap (λ (ms : List Rsl). ms ++ due k (is_active (base_of w n).active k) (taken n w event)) (sym (acks_append k gave (base_of w n).messages) ∙ made)
    ∙ ap (λ (b : Bool). due k false took_so_far ++ due k b (taken n w event)) on
    ∙ sym (due-append k false took_so_far (taken n w event)))
    (active ∙ ap (λ (b : Bool). active_all k b (taken n w event)) on ∙ sym (active-append k false took_so_far (taken n w event)))
kept_by n k gave took_so_far w event v (stops down left dropped nothing nobody) unchanged empties (works made on) =
    rested down dropped (ap (acknowledgements k) left)
    (subst (λ (ms : List Rsl). IsPrefix (acknowledgements k ms) (due k false (took_so_far ++ taken n w event))) (sym (ap (λ (ms : List Rsl). gave ++ ms) nothing ∙ append-nil gave))
    (subst (λ (es : List OutboxEntry). IsPrefix (acknowledgements k gave) (due k false es)) (sym (ap (λ (es : List OutboxEntry). took_so_far ++ es) nobody ∙ append-nil took_so_far))
    (works_begins k gave (base_of w n).messages (due k false took_so_far) made)))
kept_by n k gave took_so_far w event v (flows all active) unchanged empties (rested down dropped left begins) =
    let gone : (taken n w event ≡ []) × (outbox_of v n ≡ []) = empties down dropped in
    let none : acknowledgements k (given n w event ++ (base_of v n).messages) ≡ [] =
    all ∙ ap (λ (es : List OutboxEntry). acknowledgements k (base_of w n).messages ++ due k (is_active (base_of w n).active k) es) gone.0 ∙ append-nil (acknowledgements k (base_of w n).messages) ∙ left in
    let parts : (acknowledgements k (given n w event) ≡ []) × (acknowledgements k (base_of v n).messages ≡ []) =
    both_empty (acknowledgements k (given n w event)) (acknowledgements k (base_of v n).messages) (sym none ∙ acks_append k (given n w event) (base_of v n).messages) in
    rested (unchanged down) gone.1 parts.1
    (subst (λ (ms : List Rsl). IsPrefix ms (due k false (took_so_far ++ taken n w event))) (sym (acks_append k gave (given n w event) ∙ ap (λ (ms : List Rsl). acknowledgements k gave ++ ms) parts.0 ∙ append-nil (acknowledgements k gave)))
    (subst (λ (es : List OutboxEntry). IsPrefix (acknowledgements k gave) (due k false es)) (sym (ap (λ (es : List OutboxEntry). took_so_far ++ es) gone.0 ∙ append-nil took_so_far)) begins))
kept_by n k gave took_so_far w event v (stops down left dropped nothing nobody) unchanged empties (rested down_before dropped_before left_before begins) =
    rested down dropped (ap (acknowledgements k) left)
    (subst (λ (ms : List Rsl). IsPrefix (acknowledgements k ms) (due k false (took_so_far ++ taken n w event))) (sym (ap (λ (ms : List Rsl). gave ++ ms) nothing ∙ append-nil gave))
    (subst (λ (es : List OutboxEntry). IsPrefix (acknowledgements k gave) (due k false es)) (sym (ap (λ (es : List OutboxEntry). took_so_far ++ es) nobody ∙ append-nil took_so_far)) begins))

kept_all : (n k : ℕ) (gave : List Rsl) (took_so_far : List OutboxEntry) (w : Actors) (events : List Event) →
    n ≢ 0 →
    n - 1 < length w.stations →
    (is_up w n ≡ false → outbox_of w n ≡ []) →
    Kept n k gave took_so_far w →
    Kept n k (gave ++ all_given n w events) (took_so_far ++ all_taken n w events) (actors_after_all w events)
kept_all n k gave took_so_far w [] n_is there none kept =
    subst (λ (ms : List Rsl). Kept n k ms (took_so_far ++ []) w) (sym (append-nil gave)) (subst (λ (es : List OutboxEntry). Kept n k gave es w) (sym (append-nil took_so_far)) kept)
kept_all n k gave took_so_far w (event ∷ events) n_is there none kept =
    subst (λ (ms : List Rsl). Kept n k ms (took_so_far ++ all_taken n w (event ∷ events)) (actors_after_all w (event ∷ events))) (append_assoc gave (given n w event) (all_given n (actors_after w event) events))
    (subst (λ (es : List OutboxEntry). Kept n k ((gave ++ given n w event) ++ all_given n (actors_after w event) events) es (actors_after_all w (event ∷ events))) (append_assoc took_so_far (taken n w event) (all_taken n (actors_after w event) events))
    (kept_all n k (gave ++ given n w event) (took_so_far ++ taken n w event) (actors_after w event) events n_is
    (subst (λ (l : ℕ). n - 1 < l) (sym (same_stations w event)) there) (down_outbox n w event none)
    (kept_by n k gave took_so_far w event (actors_after w event) (step n k w event n_is there none) (down_after n w event) (down_empty n w event) kept)))

-- ---- from the beginning

pub length-stations_from : (from : ℕ) (cells : List CellParameters) → length (stations_from from cells) ≡ length cells
length-stations_from from [] = refl
length-stations_from from (cell ∷ cells) = ap suc (length-stations_from (from + 1) cells)

pub new_end : (k from j : ℕ) (cells : List CellParameters) →
    (acknowledgements k (get_or (stations_from from cells) j no_station).base.messages ≡ []) × (is_active (get_or (stations_from from cells) j no_station).base.active k ≡ false)
new_end k from j [] = (refl, refl)
new_end k from zero (cell ∷ cells) = (refl, refl)
new_end k from (suc j) (cell ∷ cells) = new_end k (from + 1) j cells

pipe_begins : (n k : ℕ) (gave : List Rsl) (took_so_far : List OutboxEntry) (w : Actors) →
    Kept n k gave took_so_far w →
    IsPrefix (acknowledgements k gave) (due k false took_so_far)
pipe_begins n k gave took_so_far w (works made on) = works_begins k gave (base_of w n).messages (due k false took_so_far) made
pipe_begins n k gave took_so_far w (rested down dropped left begins) = begins

pipe_flows : (n k : ℕ) (gave : List Rsl) (took_so_far puts : List OutboxEntry) (w : Actors) →
    Kept n k gave took_so_far w →
    is_up w n ≡ true →
    puts ≡ took_so_far ++ outbox_of w n →
    due k false puts ≡ acknowledgements k gave ++ (acknowledgements k (base_of w n).messages ++ due k (is_active (base_of w n).active k) (outbox_of w n))
pipe_flows n k gave took_so_far puts w (works made on) up is =
    ap (due k false) is ∙ due-append k false took_so_far (outbox_of w n)
    ∙ ap (λ (b : Bool). due k false took_so_far ++ due k b (outbox_of w n)) (sym on)
    ∙ ap (λ (ms : List Rsl). ms ++ due k (is_active (base_of w n).active k) (outbox_of w n)) (sym made ∙ acks_append k gave (base_of w n).messages)
    ∙ append_assoc (acknowledgements k gave) (acknowledgements k (base_of w n).messages) (due k (is_active (base_of w n).active k) (outbox_of w n))
pipe_flows n k gave took_so_far puts w (rested down dropped left begins) up is = absurd (impossible (sym down ∙ up)) where
  impossible : false ≡ true → ⊥
  impossible h = absurd cc

due_begins : (k : ℕ) (xs ys : List OutboxEntry) → IsPrefix xs ys → IsPrefix (due k false xs) (due k false ys)
due_begins k xs ys (rest, is) = (due k (active_all k false xs) rest, sym (due-append k false xs rest) ∙ ap (due k false) is)

prefix_trans : {X : Type 0} (xs ys zs : List X) → IsPrefix xs ys → IsPrefix ys zs → IsPrefix xs zs
prefix_trans {X} xs ys zs (more, is) (rest, is_too) = (more ++ rest, sym (append_assoc xs more rest) ∙ ap (λ (l : List X). l ++ rest) is ∙ is_too)

-- what was given and what was made, while the link is up and after it broke
pipe_starts : (n k : ℕ) (gave : List Rsl) (took_so_far : List OutboxEntry) (w : Actors) →
    Kept n k gave took_so_far w →
    IsPrefix (acknowledgements k (gave ++ (base_of w n).messages)) (due k false took_so_far)
pipe_starts n k gave took_so_far w (works made on) = ([], append-nil (acknowledgements k (gave ++ (base_of w n).messages)) ∙ made)
pipe_starts n k gave took_so_far w (rested down dropped left begins) =
    subst (λ (ms : List Rsl). IsPrefix ms (due k false took_so_far)) (sym (acks_append k gave (base_of w n).messages ∙ ap (λ (ms : List Rsl). acknowledgements k gave ++ ms) left ∙ append-nil (acknowledgements k gave))) begins

kept_new : (settings : Parameters) (events : List Event) (n k : ℕ) →
    1 ≤ n →
    n ≤ length settings.cells →
    Kept n k (all_given n (new_actors settings) events) (all_taken n (new_actors settings) events) (actors_after_all (new_actors settings) events)
kept_new settings events n k least most =
    let w : Actors = new_actors settings in
    let start = new_end k 1 (n - 1) settings.cells in
    let there : n - 1 < length w.stations = subst (λ (l : ℕ). n - 1 < l) (sym (length-stations_from 1 settings.cells)) (omega arith) in
    kept_all n k [] [] w events (λ is. not_zero is least) there (λ _. new_outbox (length settings.cells + 1) n) (works start.0 start.1) where
      not_zero : n ≡ 0 → 1 ≤ n → ⊥
      not_zero is least = absurd (omega arith)

pub acks_start : (settings : Parameters) (events : List Event) (n k : ℕ) → 1 ≤ n → n ≤ length settings.cells
    → IsPrefix (acknowledgements k (all_given n (new_actors settings) events ++ (base_of (actors_after_all (new_actors settings) events) n).messages)) (due k false (all_put n (new_actors settings) events))
acks_start settings events n k least most =
    let w : Actors = new_actors settings in
    prefix_trans (acknowledgements k (all_given n w events ++ (base_of (actors_after_all w events) n).messages)) (due k false (all_taken n w events)) (due k false (all_put n w events))
    (pipe_starts n k (all_given n w events) (all_taken n w events) (actors_after_all w events) (kept_new settings events n k least most))
    (due_begins k (all_taken n w events) (all_put n w events) (outboxes_all n w events (new_outbox (length settings.cells + 1) n)))

pub ArePipes-new : (settings : Parameters) (events : List Event) → ArePipes settings events
ArePipes-new settings events n k least most =
    let w : Actors = new_actors settings in
    let empty : outbox_of w n ≡ [] = new_outbox (length settings.cells + 1) n in
    let kept : Kept n k (all_given n w events) (all_taken n w events) (actors_after_all w events) = kept_new settings events n k least most in
    record {
      flows = λ up. pipe_flows n k (all_given n w events) (all_taken n w events) (all_put n w events) (actors_after_all w events) kept up (rest_all n w events empty up);
      begins = prefix_trans (acknowledgements k (all_given n w events)) (due k false (all_taken n w events)) (due k false (all_put n w events))
          (pipe_begins n k (all_given n w events) (all_taken n w events) (actors_after_all w events) kept) (due_begins k (all_taken n w events) (all_put n w events) (outboxes_all n w events empty));
    }
