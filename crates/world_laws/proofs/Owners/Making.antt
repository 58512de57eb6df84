-- SPDX-License-Identifier: MIT OR Apache-2.0
-- What events make at stations: requests of mobiles that connect alone, and nothing where the link
-- is down.
use Rattle.world_laws.proofs.Prelude.{◌≡◌, ◌≢◌, ℕ, zero, suc, ◌+◌, ◌-◌, ◌≤◌, ◌==◌, ◌&&◌, nat_eq, Bool, true, false, cond, if◌then◌else◌}
use Rattle.world_laws.proofs.Prelude.{List, [], ◌∷◌, ◌++◌, find, get_or, set, unwrap_or, Option, Some, None, refl, sym, ap, ◌∙◌, subst}
use Rattle.world_laws.proofs.Prelude.{inl, inr, arith, true≢false, cases_Bool, cond-true, cond-false, eqb-true, is_none, Transfer, Bssap}
use Rattle.world_laws.proofs.Prelude.{Place, SWITCH_LINK, place_at, BaseState, after_tell, refusal_of_connect, send_fault, data_forms_on}
use Rattle.world_laws.proofs.Prelude.{dlci_for, SwitchState, Rsl, Event, Connect, BasePush, Handle, SwitchTakes, SwitchDoes, Tick}
use Rattle.world_laws.proofs.Prelude.{BaseDown, SwitchAction, Assign, Clear, Dtap, OutboxEntry, actors_after, channel_required, connected}
use Rattle.world_laws.proofs.Prelude.{is_new, link_answer, after_switch_does, after_switch_takes, is_layer_3, sccp_in, sent_on, Actors}
use Rattle.world_laws.proofs.Prelude.{Link, Mobile, Spot, base_of, broken_link, has_number, is_station_up, is_up, mobile_of, no_station}
use Rattle.world_laws.proofs.Prelude.{put_back, station_of, with_base, with_mobile, with_outbox, with_spot, base-elsewhere}
use Rattle.world_laws.proofs.Prelude.{base_with_spot, up_right, and_left, and_right, switch_takes_leads, switch_took-leads, does_leads}
use Rattle.world_laws.proofs.Prelude.{after_taken, Joins, Tells, air_after, is_on_air, nat_lt, OfTaken, is_request_of, made_by, requests_in}
use Rattle.world_laws.proofs.Prelude.{joins_by_connecting}
use Rattle.msc_end.specs.Switch.{connection_of}
use Rattle.world_model.specs.Life.{event_after}
use Rattle.world_model.specs.Mobiles.{with_message_made}
use Rattle.world_model.specs.World.{Station}
use Rattle.world_model.proofs.Footprints.Tells.{answers, links, requires}

-- ---- counts

pub requests_append : (k : ℕ) (xs ys : List Rsl) → requests_in k (xs ++ ys) ≡ requests_in k xs + requests_in k ys
requests_append k [] ys = omega arith
requests_append k (x ∷ xs) ys = let rest = requests_append k xs ys in omega (arith, rest)

-- another station in the place of one
pub made_set : (k : ℕ) (less more : ℕ) (stations : List Station) (i : ℕ) (station : Station) →
    requests_in k station.base.messages + less ≤ requests_in k (get_or stations i no_station).base.messages + more →
    requests_in k (made_by (set stations i station)) + less ≤ requests_in k (made_by stations) + more
made_set k less more [] i station fewer = omega (arith, fewer)
made_set k less more (first ∷ stations) zero station fewer =
    let now = requests_append k station.base.messages (made_by stations) in
    let old = requests_append k first.base.messages (made_by stations) in
    omega (arith, fewer, now, old)
made_set k less more (first ∷ stations) (suc i) station fewer =
    let now = requests_append k first.base.messages (made_by (set stations i station)) in
    let old = requests_append k first.base.messages (made_by stations) in
    let rest = made_set k less more stations i station fewer in
    omega (arith, rest, now, old)

-- ---- who is there

-- a mobile in the place of the one of its number
pub back_there : (k : ℕ) (p : Mobile) (xs : List Mobile) → is_none (find (has_number k) (put_back p xs)) ≡ is_none (find (has_number k) xs)
back_there k p [] = refl
back_there k p (x ∷ xs) = elim (cases_Bool (has_number p.number x)) [
  | inl hit ↦
      ap (λ (ys : List Mobile). is_none (find (has_number k) ys)) (cond-true _ (p ∷ xs) (x ∷ put_back p xs) hit)
      ∙ by (nat_eq x.number k) (ap (λ (m : ℕ). nat_eq m k) (sym (eqb-true x.number p.number hit)))
  | inr miss ↦
      ap (λ (ys : List Mobile). is_none (find (has_number k) ys)) (cond-false _ (p ∷ xs) (x ∷ put_back p xs) miss)
      ∙ behind (nat_eq x.number k) (back_there k p xs)
] where
  by : (b : Bool) →
      nat_eq p.number k ≡ b →
      is_none (cond (nat_eq p.number k) (Some p) (find (has_number k) xs)) ≡ is_none (cond b (Some x) (find (has_number k) xs))
  by true is = ap (λ (b : Bool). is_none (cond b (Some p) (find (has_number k) xs))) is
  by false is = ap (λ (b : Bool). is_none (cond b (Some p) (find (has_number k) xs))) is

  behind : (b : Bool) →
      is_none (find (has_number k) (put_back p xs)) ≡ is_none (find (has_number k) xs) →
      is_none (cond b (Some x) (find (has_number k) (put_back p xs))) ≡ is_none (cond b (Some x) (find (has_number k) xs))
  behind true rest = refl
  behind false rest = rest

-- one more
pub push_there : (k : ℕ) (p : Mobile) (xs : List Mobile) →
    is_none (find (has_number k) (xs ++ p ∷ [])) ≡ (if p.number == k then false else is_none (find (has_number k) xs))
push_there k p [] = by (p.number == k) where
  by : (b : Bool) → is_none (cond b (Some p) None) ≡ (if b then false else true)
  by true = refl
  by false = refl
push_there k p (x ∷ xs) = by (nat_eq x.number k) (p.number == k) (push_there k p xs) where
  by : (b d : Bool) →
      is_none (find (has_number k) (xs ++ p ∷ [])) ≡ (if d then false else is_none (find (has_number k) xs)) →
      is_none (cond b (Some x) (find (has_number k) (xs ++ p ∷ []))) ≡ (if d then false else is_none (cond b (Some x) (find (has_number k) xs)))
  by true true rest = refl
  by true false rest = refl
  by false d rest = rest

-- ---- an event beside the controller

-- It makes these more requests at most, and nothing where the link is down; who is there is there
-- still.
pub record Makes (more : ℕ → ℕ) (w v : Actors) : Type 0 where
  pub total : (k : ℕ) → requests_in k (made_by v.stations) ≤ requests_in k (made_by w.stations) + more k
  pub silent : (n : ℕ) → n ≢ SWITCH_LINK → is_up w n ≡ false → (base_of w n).messages ≡ [] → (base_of v n).messages ≡ []
  pub switch : is_up w SWITCH_LINK ≡ false → v.switch_made ≡ w.switch_made
  pub mobiles : (k : ℕ) → is_none (mobile_of v k) ≡ is_none (mobile_of w k)
  pub links : (n : ℕ) → is_up v n ≡ is_up w n
  pub controller : v.controller ≡ w.controller

abbrev pub none : ℕ → ℕ
none k = 0

abbrev pub Quiet : Actors → Actors → Type 0
Quiet w v = Makes none w v

same : (n : ℕ) → n ≤ n + 0
same n = omega arith

itself : (w : Actors) → Quiet w w
itself w = record { total = λ k. same (requests_in k (made_by w.stations)); silent = λ n n_is down empty. empty; switch = λ down. refl; mobiles = λ k. refl; links = λ n. refl; controller = refl }

-- what it makes is no request, at a station that is up
based : {w u : Actors} (n : ℕ) (base : BaseState) →
    is_station_up w n ≡ true →
    ((k : ℕ) → requests_in k base.messages ≤ requests_in k (base_of u n).messages) →
    Quiet w u →
    Quiet w (with_base n base u)
based {w} {u} n base up fewer quiet = record {
  total = λ k.
      let here = fewer k in
      let set = made_set k 0 0 u.stations (n - 1) (record (station_of u n) { base = base }) (omega (arith, here)) in
      let before = quiet.total k in
      omega (arith, set, before);
  silent = λ m m_is down empty. base-messages m m_is down (quiet.silent m m_is down empty);
  switch = quiet.switch;
  mobiles = quiet.mobiles;
  links = quiet.links;
  controller = quiet.controller;
} where
  base-messages : (m : ℕ) →
      m ≢ SWITCH_LINK →
      is_up w m ≡ false →
      (base_of u m).messages ≡ [] →
      (base_of (with_base n base u) m).messages ≡ []
  base-messages m m_is down empty =
      ap (λ (b : BaseState). b.messages) (base-elsewhere u m n base m_is (up_right n w up).0 (λ is. true≢false (sym (up_right n w up).1 ∙ ap (is_up w) (sym is) ∙ down))) ∙ empty

spotted : {w u : Actors} (p : Place) (spot : Spot) → Quiet w u → Quiet w (with_spot p spot u)
spotted {w} {u} p spot quiet = record {
  total = λ k.
      let set = made_set k 0 0 u.stations (p.station - 1) (record (station_of u p.station) { spots = set (station_of u p.station).spots p.number spot }) (omega arith) in
      let before = quiet.total k in
      omega (arith, set, before);
  silent = λ m m_is down empty. ap (λ (b : BaseState). b.messages) (base_with_spot p spot u m) ∙ quiet.silent m m_is down empty;
  switch = quiet.switch;
  mobiles = quiet.mobiles;
  links = quiet.links;
  controller = quiet.controller;
}

put : {w u : Actors} (p : Mobile) → Quiet w u → Quiet w (with_mobile p u)
put {w} {u} p quiet = record { total = quiet.total; silent = quiet.silent; switch = quiet.switch; mobiles = λ k. back_there k p u.mobiles ∙ quiet.mobiles k; links = quiet.links; controller = quiet.controller }

-- a message that is no request
tell : (k : ℕ) (messages : List Rsl) (message : Rsl) →
    is_request_of k message ≡ false →
    requests_in k (messages ++ message ∷ []) ≤ requests_in k messages
tell k messages message isnt =
    let both = requests_append k messages (message ∷ []) in
    let last : requests_in k (message ∷ []) ≡ 0 = ap (λ (b : Bool). (if b then 1 else 0) + 0) isnt in
    omega (arith, both, last)

answer-no : (k channel : ℕ) (answer : Bool) → is_request_of k (link_answer answer channel) ≡ false
answer-no k channel true = refl
answer-no k channel false = refl

-- the switch does nothing of its own where its link is down
sent_down : (w : Actors) (connection : ℕ) (message : Bssap) (next : SwitchState) →
    is_up w SWITCH_LINK ≡ false →
    sent_on w connection message next ≡ None
sent_down w connection message next down =
    ap (λ (b : Bool). if (b && is_none (send_fault (connection_of w.switch.connections connection))) then Some (record w { switch = next; switch_made = w.switch_made ++ data_forms_on (connection_of w.switch.connections connection) message }) else None) down

quietly : (w : Actors) (o : Option Actors) → OfTaken (Quiet w) o → Quiet w (unwrap_or o w)
quietly w o leads = after_taken (Quiet w) o w leads (itself w)

-- an outbox changes
outbox-up : (links : List Link) (n m : ℕ) (entries : List OutboxEntry) →
    (get_or (set links n (record (get_or links n broken_link) { outbox = entries })) m broken_link).up ≡ (get_or links m broken_link).up
outbox-up [] n m entries = refl
outbox-up (l ∷ ls) zero zero entries = refl
outbox-up (l ∷ ls) zero (suc m) entries = refl
outbox-up (l ∷ ls) (suc n) zero entries = refl
outbox-up (l ∷ ls) (suc n) (suc m) entries = outbox-up ls n m entries

-- of the switch: stations, mobiles and the controller are unchanged
Kept : Actors → Actors → Type 0
Kept w v = (v.stations ≡ w.stations) × (v.mobiles ≡ w.mobiles) × (v.controller ≡ w.controller) × ((n : ℕ) → is_up v n ≡ is_up w n)

kept_quiet : (w v : Actors) → (is_up w SWITCH_LINK ≡ false → v.switch_made ≡ w.switch_made) → Kept w v → Quiet w v
unfolding Kept
kept_quiet w v switch kept = record {
  total = λ k. subst (λ (stations : List Station). requests_in k (made_by stations) ≤ requests_in k (made_by w.stations) + 0) (sym kept.0) (same (requests_in k (made_by w.stations)));
  silent = λ n n_is down empty. ap (λ (stations : List Station). (get_or stations (n - 1) no_station).base.messages) kept.0 ∙ empty;
  switch = switch;
  mobiles = λ k. ap (λ (mobiles : List Mobile). is_none (find (has_number k) mobiles)) kept.1;
  links = kept.3;
  controller = kept.2;
}

does_none : (w : Actors) (action : SwitchAction) →
    is_up w SWITCH_LINK ≡ false →
    (unwrap_or (after_switch_does w action) w).switch_made ≡ w.switch_made
does_none w (Assign connection) down = ap (λ (o : Option Actors). (unwrap_or o w).switch_made) (sent_down w connection _ _ down)
does_none w (Clear connection) down = ap (λ (o : Option Actors). (unwrap_or o w).switch_made) (sent_down w connection _ _ down)
does_none w (Dtap connection sapi message) down = by (is_layer_3 message) where
  by : (b : Bool) →
      (unwrap_or (if b then sent_on w connection (Transfer (dlci_for sapi) message) w.switch else None) w).switch_made ≡ w.switch_made
  by true = ap (λ (o : Option Actors). (unwrap_or o w).switch_made) (sent_down w connection _ _ down)
  by false = refl

does_quiet : (w : Actors) (action : SwitchAction) → Quiet w (unwrap_or (after_switch_does w action) w)
unfolding Kept
does_quiet w action = kept_quiet w _ (does_none w action) (after_taken (Kept w) (after_switch_does w action) w (does_leads (Kept w) w action (λ next made. (refl, refl, refl, λ n. refl))) (refl, refl, refl, λ n. refl))

-- neither the controller nor the queues take part
abbrev pub is_plain : Event → Bool
is_plain (Connect number station initial accepts) = false
is_plain (BasePush source) = false
is_plain Handle = false
is_plain (Tick ms) = false
is_plain (BaseDown source) = false
is_plain event = true

no_request : {w : Actors} {event : Event} {n : ℕ} {message : Rsl} (k : ℕ) →
    is_plain event ≡ true →
    Tells w event n message →
    is_request_of k message ≡ false
no_request k is (requires number station initial accepts) = absurd cc
no_request k is (answers station l answer taken) = answer-no k l.channel answer
no_request k is _ = refl

none_joins : {w : Actors} {event : Event} {number : ℕ} {initial : List ℕ} {accepts : Bool} →
    is_plain event ≡ true →
    Joins w event number initial accepts →
    ⊥
none_joins is (joins_by_connecting number station initial accepts may) = absurd cc

air_quiet : (w : Actors) (event : Event) → is_on_air event ≡ true → is_plain event ≡ true → Quiet w (actors_after w event)
unfolding Kept
air_quiet w event on is = air_after (Quiet w) w event on (record {
  puts = λ u number p q _ _ _ quiet. put q quiet;
  joins = λ number initial accepts how _. absurd (none_joins is how);
  tells = λ u n message up how quiet. based n _ up (λ k. tell k (base_of u n).messages message (no_request k is how)) quiet;
  spots = λ u at spot _ _ quiet. spotted at spot quiet;
  pops = λ station others up quiet. kept_quiet w (with_outbox station others w) (λ down. refl) (refl, refl, refl, λ n. outbox-up w.links station n others);
  activates = λ u s a taken _ quiet. spotted (place_at s a.channel) _ (based s _ taken.up (λ k. tell k (base_of u s).messages _ refl) quiet);
  releases = λ u s channel taken quiet. spotted (place_at s channel) _ (based s _ taken.up (λ k. tell k (base_of u s).messages _ refl) quiet);
}) (itself w)

pub plain_quiet : (w : Actors) (event : Event) → is_plain event ≡ true → Quiet w (actors_after w event)
unfolding event_after Kept
plain_quiet w (BasePush source) is = absurd cc
plain_quiet w Handle is = absurd cc
plain_quiet w (Tick ms) is = absurd cc
plain_quiet w (BaseDown source) is = absurd cc
plain_quiet w SwitchTakes is =
    quietly w (after_switch_takes w) (switch_takes_leads (Quiet w) w (λ first others up _. switch_took-leads (Quiet w) (with_outbox SWITCH_LINK others w) (sccp_in first.out.frame)
    (kept_quiet w _ (λ down. refl) (refl, refl, refl, λ n. outbox-up w.links SWITCH_LINK n others)) (λ next made. kept_quiet w _ (λ down. absurd (true≢false (sym up ∙ down))) (refl, refl, refl, λ n. outbox-up w.links SWITCH_LINK n others))))
plain_quiet w (SwitchDoes action) is = does_quiet w action
plain_quiet w event is = air_quiet w event refl is

-- ---- a mobile connects

-- It is a new one, which is there then; it asks at a station that is up.
pub record Connects (number : ℕ) (w v : Actors) : Type 0 where
  pub from_one : 1 ≤ number
  pub new : is_none (mobile_of w number) ≡ true
  pub there : (k : ℕ) → is_none (mobile_of v k) ≡ (if number == k then false else is_none (mobile_of w k))
  pub total : (k : ℕ) → requests_in k (made_by v.stations) ≤ requests_in k (made_by w.stations) + (if number == k then 1 else 0)
  pub silent : (n : ℕ) → n ≢ SWITCH_LINK → is_up w n ≡ false → (base_of w n).messages ≡ [] → (base_of v n).messages ≡ []
  pub switch : v.switch_made ≡ w.switch_made
  pub links : (n : ℕ) → is_up v n ≡ is_up w n
  pub controller : v.controller ≡ w.controller

pub connects : (w : Actors) (number station : ℕ) (initial : List ℕ) (accepts : Bool) →
    is_new w number && is_station_up w station && is_none (refusal_of_connect (Some initial)) ≡ true →
    Connects number w (with_message_made station (channel_required number) (record w { mobiles = w.mobiles ++ connected w.modulus number initial accepts ∷ [] }))
connects w number station initial accepts may =
    let front = and_left (is_new w number && is_station_up w station) (is_none (refusal_of_connect (Some initial))) may in
    let new = and_left (is_new w number) (is_station_up w station) front in
    let up = and_right (is_new w number) (is_station_up w station) front in
    record {
      from_one = positive number (and_left (nat_lt 0 number) (is_none (mobile_of w number)) new);
      new = and_right (nat_lt 0 number) (is_none (mobile_of w number)) new;
      there = λ k. push_there k (connected w.modulus number initial accepts) w.mobiles;
      total = λ k.
          let both = requests_append k (base_of w station).messages (channel_required number ∷ []) in
          let set = made_set k 0 (if number == k then 1 else 0) w.stations (station - 1) (record (station_of w station) { base = after_tell (base_of w station) (channel_required number) }) (one k (requests_in k (base_of w station).messages) (requests_in k (after_tell (base_of w station) (channel_required number)).messages) both) in
          omega (arith, set);
      silent = λ m m_is down empty.
          ap (λ (b : BaseState). b.messages) (base-elsewhere w m station _ m_is (up_right station w up).0 (λ is. true≢false (sym (up_right station w up).1 ∙ ap (is_up w) (sym is) ∙ down))) ∙ empty;
      switch = refl;
      links = λ n. refl;
      controller = refl;
    } where
      positive : (n : ℕ) → nat_lt 0 n ≡ true → 1 ≤ n
      positive zero is = absurd cc
      positive (suc n) is = omega arith

      one : (k old now : ℕ) → now ≡ old + ((if number == k then 1 else 0) + 0) → now + 0 ≤ old + (if number == k then 1 else 0)
      one k old now is = omega (arith, is)
