-- SPDX-License-Identifier: MIT OR Apache-2.0
-- The end of each mobile in a world is the one after its calls.
use Rattle.world_model.proofs.Prelude.{◌≡◌, ℕ, ◌==◌, ◌&&◌, nat_eq, nat_lt, not, is_some, Bool, true, false, cond, if◌then◌else◌, List, []}
use Rattle.world_model.proofs.Prelude.{◌∷◌, ◌++◌, find, unwrap_or, Option, Some, None, Result, Ok, refl, sym, ap, ◌∙◌, subst, inl, inr}
use Rattle.world_model.proofs.Prelude.{AllByRecursion, is_none, cases_Bool, eqb-true, eqb-false, Change, Assignment, Handover, SWITCH_LINK}
use Rattle.world_model.proofs.Prelude.{is_dtap, take, tick, RrMessage, AssignmentCommand, HandoverCommand, ChannelRelease, RrFault, Sapi}
use Rattle.world_model.proofs.Prelude.{Zero, Three, is_flow_message, rr_reading, Stage, Connected, MobileState, is_control, Call}
use Rattle.world_model.proofs.Prelude.{after_call, after_calls, connects, sends, frames, acknowledges, leaves, arrives, gives_up, waits}
use Rattle.world_model.proofs.Prelude.{DataLinkState, new_mobile, link_of, with_link, after_number, after_queue, after_connect}
use Rattle.world_model.proofs.Prelude.{refusal_of_connect, refusal_of_send, after_frame_at, after_acked, after_acked_at, after_arrival}
use Rattle.world_model.proofs.Prelude.{Parameters, place_at, Rsl, MobileFault, after_frame, after_leave, is_on_channel, Event, Upper}
use Rattle.world_model.proofs.Prelude.{Connect, AirUp, AirAck, AirDown, AirDownLost, Move, Touch, Arrive, Return, BaseTakes, BasePush}
use Rattle.world_model.proofs.Prelude.{Handle, SwitchTakes, SwitchDoes, Tick, BaseDown, Report, AirMessage, Command, Seat, On, Moving}
use Rattle.world_model.proofs.Prelude.{Tenure, actors_after, actors_after_all, place_in, MobilesLive, target_in, took, rsl_in, sccp_in}
use Rattle.world_model.proofs.Prelude.{Actors, Mobile, new_actors, modulus_in, has_number, mobile_of, put_back, with_mobile, with_outbox}
use Rattle.world_model.proofs.Prelude.{is_station_up, tenure_at}
use Rattle.mobile_end.specs.declared.mobile_end.Place.{Place}
use Rattle.mobile_end.specs.declared.mobile_end.Place.TheVariants as places
use Rattle.mobile_end.specs.Calls.{unless_refused, may_arrive}
use Rattle.world_model.specs.Calls.{all_calls, calls_at, calls_to_arrive, calls_to_return, seat_of}
use Rattle.world_model.specs.Life.{event_after}
use Rattle.world_model.specs.Mobiles.{may_send, sent_by, is_new, connected, framed, brought, remembering, controlled, hearing, complete, failure, seated}
use Rattle.world_model.proofs.Found.{back_found, back_other, number_found, new_found, new_other}
use Rattle.world_model.proofs.Leads.{OfTaken, FromAir, and_left, and_right, only_if-leads, by_mobile-leads, connect_leads, air_up_leads, air_ack_leads, air_down_leads, air_down_lost_leads, move_leads, touch_leads, arrive_leads, return_leads, report-leads, base_takes_leads, took-leads, handle_leads, turn_leads, switch_takes_leads, switch_took-leads, push_leads, does_leads, broken_leads}

-- ---- lists

pub back_all : (P : Mobile → Type 0) (p : Mobile) (xs : List Mobile) → P p → AllByRecursion P xs → AllByRecursion P (put_back p xs)
back_all P p [] h all = all
back_all P p (x ∷ xs) h all = by_number (has_number p.number x) (back_all P p xs h all.1) where
  by_number : (b : Bool) → AllByRecursion P (put_back p xs) → AllByRecursion P (if b then p ∷ xs else x ∷ put_back p xs)
  by_number true others = (h, all.1)
  by_number false others = (all.0, others)

pub behind_all : (P : Mobile → Type 0) (p : Mobile) (xs : List Mobile) → P p → AllByRecursion P xs → AllByRecursion P (xs ++ p ∷ [])
behind_all P p [] h all = (h, tt)
behind_all P p (x ∷ xs) h all = (all.0, behind_all P p xs h all.1)

some_same : {p q : Mobile} → Some p ≡ Some q → p ≡ q
some_same {p} is = ap (λ (o : Option Mobile). unwrap_or o p) is

pub found_all : (P : Mobile → Type 0) (number : ℕ) (xs : List Mobile) (p : Mobile) →
    AllByRecursion P xs →
    find (has_number number) xs ≡ Some p →
    P p
found_all P number [] p all found = absurd cc
found_all P number (x ∷ xs) p all found =
    elim (cases_Bool (has_number number x)) [
      | inl hit ↦ subst P (some_same (sym (ap (λ (b : Bool). cond b (Some x) (find (has_number number) xs)) hit) ∙ found)) all.0
      | inr miss ↦ found_all P number xs p all.1 (sym (ap (λ (b : Bool). cond b (Some x) (find (has_number number) xs)) miss) ∙ found)
    ]

-- ---- ends

none_by : (o : Option MobileFault) → is_none o ≡ true → o ≡ None
none_by None is = refl
none_by (Some fault) is = absurd cc

pub after_calls-append : (mobile : MobileState) (calls more : List Call) →
    after_calls mobile (calls ++ more) ≡ after_calls (after_calls mobile calls) more
after_calls-append mobile [] more = refl
after_calls-append mobile (call ∷ calls) more = after_calls-append (after_call mobile call) calls more

-- one that didn't connect yet is new
abbrev pub end_of : ℕ → Option Mobile → MobileState
end_of m None = new_mobile m
end_of m (Some p) = p.end

-- its end is between two channels while it moves
abbrev pub Fits : Option Mobile → Type 0
Fits None = Unit {0}
Fits (Some p) = p.end.place ≡ place_in p.seat

-- the mobile of this number, and how many numbers there are
pub record FitsWorld (m number : ℕ) (w : Actors) : Type 0 where
  pub fits : Fits (mobile_of w number)
  pub modulus : w.modulus ≡ m

-- its end takes these calls
pub record Takes (m number : ℕ) (w : Actors) (calls : List Call) (v : Actors) : Type 0 where
  pub ends : end_of m (mobile_of v number) ≡ after_calls (end_of m (mobile_of w number)) calls
  pub fitting : FitsWorld m number v

-- what becomes of a mobile by calls of its end
record Becomes (p : Mobile) (calls : List Call) (q : Mobile) : Type 0 where
  ends : q.end ≡ after_calls p.end calls
  place : q.end.place ≡ place_in q.seat

-- it is the same end, elsewhere
record Keeps (p q : Mobile) : Type 0 where
  number : q.number ≡ p.number
  end : q.end ≡ p.end
  place : place_in q.seat ≡ place_in p.seat

becomes_kept : (p q : Mobile) → Keeps p q → p.end.place ≡ place_in p.seat → Becomes p [] q
becomes_kept p q keeps place = record { ends = keeps.end; place = ap (λ (e : MobileState). e.place) keeps.end ∙ place ∙ sym keeps.place }

takes_none : {m number : ℕ} {w v : Actors} → FitsWorld m number w → v.mobiles ≡ w.mobiles → v.modulus ≡ w.modulus → Takes m number w [] v
takes_none {m} {number} fitting same numbers = record {
  ends = ap (λ (ms : List Mobile). end_of m (find (has_number number) ms)) same;
  fitting = record { fits = subst (λ (ms : List Mobile). Fits (find (has_number number) ms)) (sym same) fitting.fits; modulus = numbers ∙ fitting.modulus };
}

-- one of them acts, and is put back
takes_one : {m number : ℕ} {w u : Actors} (n : ℕ) (p q : Mobile) (calls : List Call) → FitsWorld m number w → mobile_of w n ≡ Some p → u.mobiles ≡ w.mobiles → u.modulus ≡ w.modulus → q.number ≡ p.number
    → (p.end.place ≡ place_in p.seat → Becomes p calls q) → Takes m number w (if n == number then calls else []) (with_mobile q u)
takes_one {m} {number} {w} {u} n p q calls fitting found same numbers same_number becomes = by (nat_eq n number) refl where
  own_number : q.number ≡ n
  own_number = same_number ∙ number_found n w.mobiles p found

  by : (b : Bool) → nat_eq n number ≡ b → Takes m number w (if b then calls else []) (with_mobile q u)
  by true hit =
      let k_is : n ≡ number = eqb-true n number hit in
      let here : mobile_of (with_mobile q u) number ≡ Some q =
      ap (λ (k : ℕ). find (has_number k) (put_back q u.mobiles)) (sym (own_number ∙ k_is))
      ∙ back_found q u.mobiles p (ap (λ (ms : List Mobile). find (has_number q.number) ms) same ∙ ap (λ (k : ℕ). find (has_number k) w.mobiles) own_number ∙ found) in
      let there : mobile_of w number ≡ Some p = ap (mobile_of w) (sym k_is) ∙ found in
      let new : Becomes p calls q = becomes (subst Fits there fitting.fits) in
      record {
        ends = ap (end_of m) here ∙ new.ends ∙ sym (ap (λ (o : Option Mobile). after_calls (end_of m o) calls) there);
        fitting = record { fits = subst Fits (sym here) new.place; modulus = numbers ∙ fitting.modulus };
      }
  by false miss =
      let here : mobile_of (with_mobile q u) number ≡ mobile_of w number =
      back_other q u.mobiles number (λ is. eqb-false n number miss (sym own_number ∙ is)) ∙ ap (λ (ms : List Mobile). find (has_number number) ms) same in
      record {
        ends = ap (end_of m) here;
        fitting = record { fits = subst Fits (sym here) fitting.fits; modulus = numbers ∙ fitting.modulus };
      }

abbrev no_calls : List Call
no_calls = []

-- one is the same end, elsewhere
takes_kept : {m number : ℕ} {w u : Actors} (n : ℕ) (p q : Mobile) →
    FitsWorld m number w →
    mobile_of w n ≡ Some p →
    u.mobiles ≡ w.mobiles →
    u.modulus ≡ w.modulus →
    Keeps p q →
    Takes m number w [] (with_mobile q u)
takes_kept {m} {number} {w} {u} n p q fitting found same numbers keeps =
    subst (λ (calls : List Call). Takes m number w calls (with_mobile q u)) (none (n == number)) (takes_one n p q [] fitting found same numbers keeps.number (becomes_kept p q keeps)) where
      none : (b : Bool) → (if b then no_calls else no_calls) ≡ no_calls
      none true = refl
      none false = refl

-- a new one is behind all others
takes_new : {m number : ℕ} {w u : Actors} (q : Mobile) (calls : List Call) → FitsWorld m number w → mobile_of w q.number ≡ None → u.mobiles ≡ w.mobiles ++ q ∷ [] → u.modulus ≡ w.modulus
    → q.end ≡ after_calls (new_mobile m) calls → q.end.place ≡ place_in q.seat → Takes m number w (if q.number == number then calls else []) u
takes_new {m} {number} {w} {u} q calls fitting none same numbers ends place = by (nat_eq q.number number) refl where
  by : (b : Bool) → nat_eq q.number number ≡ b → Takes m number w (if b then calls else []) u
  by true hit =
      let k_is : q.number ≡ number = eqb-true q.number number hit in
      let here : mobile_of u number ≡ Some q = ap (λ (ms : List Mobile). find (has_number number) ms) same ∙ ap (λ (k : ℕ). find (has_number k) (w.mobiles ++ q ∷ [])) (sym k_is) ∙ new_found q w.mobiles none in
      let there : mobile_of w number ≡ None = ap (mobile_of w) (sym k_is) ∙ none in
      record {
        ends = ap (end_of m) here ∙ ends ∙ sym (ap (λ (o : Option Mobile). after_calls (end_of m o) calls) there);
        fitting = record { fits = subst Fits (sym here) place; modulus = numbers ∙ fitting.modulus };
      }
  by false miss =
      let here : mobile_of u number ≡ mobile_of w number = ap (λ (ms : List Mobile). find (has_number number) ms) same ∙ new_other q w.mobiles number (eqb-false q.number number miss) in
      record {
        ends = ap (end_of m) here;
        fitting = record { fits = subst Fits (sym here) fitting.fits; modulus = numbers ∙ fitting.modulus };
      }

-- ---- places

place-with_link : (mobile : MobileState) (sapi : Sapi) (link : DataLinkState) → (with_link mobile sapi link).place ≡ mobile.place
place-with_link mobile Zero link = refl
place-with_link mobile Three link = refl

place-queue : (mobile : MobileState) (sapi : Sapi) (message : List ℕ) → (after_queue mobile sapi message).place ≡ mobile.place
place-queue mobile sapi message = by_flow (is_flow_message message) where
  by_flow : (b : Bool) →
      (if b then after_number mobile message else with_link mobile sapi (waits (link_of mobile sapi) message)).place ≡ mobile.place
  by_flow true = refl
  by_flow false = place-with_link mobile sapi (waits (link_of mobile sapi) message)

place-frame : (mobile : MobileState) (sapi : Sapi) → (after_frame mobile sapi).place ≡ mobile.place
place-frame mobile sapi = by_state mobile.stage mobile.place where
  by_state : (stage : Stage) (place : Place) → (after_frame_at stage place mobile sapi).place ≡ mobile.place
  by_state Connected places.OnChannel = place-with_link mobile sapi _
  by_state _ _ = refl

place-acked : (mobile : MobileState) (sapi : Sapi) → (after_acked mobile sapi).place ≡ mobile.place
place-acked mobile sapi = by_place mobile.place where
  by_place : (place : Place) → (after_acked_at place mobile sapi).place ≡ mobile.place
  by_place places.OnChannel = place-with_link mobile sapi _
  by_place places.Moving = refl

-- ---- what happens to a mobile

sends_becomes : (p : Mobile) (sapi : Sapi) (message : List ℕ) →
    is_none (refusal_of_send p.end sapi message) ≡ true →
    p.end.place ≡ place_in p.seat →
    Becomes p (sends sapi message ∷ []) (record p { end = after_queue p.end sapi message })
sends_becomes p sapi message may place = record {
  ends = sym (ap (λ (o : Option MobileFault). unless_refused o p.end (after_queue p.end sapi message)) (none_by (refusal_of_send p.end sapi message) may));
  place = place-queue p.end sapi message ∙ place;
}

remembers : (p : Mobile) (change : Change) (target : Tenure) (seat : Seat) → p.seat ≡ seat → Keeps p (remembering p change target seat)
remembers p change target (On tenure command) is = record { number = refl; end = refl; place = sym (ap place_in is) }
remembers p change target _ is = record { number = refl; end = refl; place = refl }

controls : (p : Mobile) (tenure : Tenure) (command : Option Command) (target : Option Tenure) (r : Result RrMessage RrFault) →
    p.seat ≡ On tenure command →
    Keeps p (controlled p target r)
controls p tenure command target (Ok (ChannelRelease cause)) seat = record { number = refl; end = refl; place = sym (ap place_in seat) }
controls p tenure command (Some target) (Ok (AssignmentCommand channel)) seat = remembers p Assignment target p.seat refl
controls p tenure command (Some target) (Ok (HandoverCommand cell channel reference)) seat = remembers p Handover target p.seat refl
controls p tenure command _ _ seat = record { number = refl; end = refl; place = refl }

hears : (p : Mobile) (tenure : Tenure) (command : Option Command) (a : AirMessage) → p.seat ≡ On tenure command → Keeps p (hearing p a)
hears p tenure command a seat = by_kind (is_dtap a.message) where
  by_kind : (b : Bool) →
      Keeps p (if b then record p { received = p.received ++ a.message ∷ [] } else controlled p a.target (rr_reading a.message))
  by_kind true = record { number = refl; end = refl; place = refl }
  by_kind false = controls p tenure command a.target (rr_reading a.message) seat

pub control_complete : (change : Change) → is_control (complete change) ≡ true
control_complete Assignment = refl
control_complete Handover = refl

pub control_failure : (change : Change) → is_control (failure change) ≡ true
control_failure Assignment = refl
control_failure Handover = refl

-- a mobile between two channels may arrive on one
pub may_come : (e : MobileState) (from : Tenure) (command : Command) (control : List ℕ) →
    e.place ≡ place_in (Moving from command) →
    is_control control ≡ true →
    may_arrive e control ≡ true
may_come e from command control place is = ap (λ (at : Place). not (is_on_channel at) && is_control control) place ∙ is

comes_becomes : (p : Mobile) (from tenure : Tenure) (command : Command) (control : List ℕ) → p.seat ≡ Moving from command → is_control control ≡ true → p.end.place ≡ place_in p.seat
    → after_arrival p.end control ≡ (if may_arrive p.end control then after_arrival p.end control else p.end)
comes_becomes p from tenure command control seat is place =
    sym (ap (λ (b : Bool). if b then after_arrival p.end control else p.end) (may_come p.end from command control (place ∙ ap place_in seat) is))

-- ---- each event

-- what the event calls of the mobile of this number, where it is taken
abbrev pub called : Actors → Event → ℕ → List Call
called w (Connect mobile station initial accepts) number = if mobile == number then connects (Some initial) ∷ [] else []
called w (Upper mobile sapi message) number = if mobile == number then sends sapi message ∷ [] else []
called w (AirUp mobile sapi) number = if mobile == number then frames sapi ∷ [] else []
called w (AirAck mobile sapi) number = if mobile == number then acknowledges sapi ∷ [] else []
called w (Move mobile) number = if mobile == number then leaves ∷ [] else []
called w (Arrive mobile) number = if mobile == number then calls_to_arrive (seat_of (mobile_of w mobile)) else []
called w (Return mobile) number = if mobile == number then calls_to_return (seat_of (mobile_of w mobile)) else []
called w _ number = []

brought_takes : {m number : ℕ} (w : Actors) (n : ℕ) (p : Mobile) (tenure : Tenure) (sapi : Sapi) (frame : List ℕ) → FitsWorld m number w → mobile_of w n ≡ Some p
    → Takes m number w (if n == number then frames sapi ∷ [] else []) (brought w p tenure.at sapi frame)
brought_takes w n p tenure Zero frame fitting found =
    takes_one n p (record (framed p Zero) { opens = false }) (frames Zero ∷ []) fitting found refl refl refl (λ place. record { ends = refl; place = place-frame p.end Zero ∙ place })
brought_takes w n p tenure Three frame fitting found = takes_one n p (framed p Three) (frames Three ∷ []) fitting found refl refl refl (λ place. record { ends = refl; place = place-frame p.end Three ∙ place })

took_takes : {m number : ℕ} (w u : Actors) (station : ℕ) (target : Option Tenure) (o : Option Rsl) →
    FitsWorld m number w →
    u.mobiles ≡ w.mobiles →
    u.modulus ≡ w.modulus →
    OfTaken (Takes m number w []) (took station target o u)
took_takes {m} {number} w u station target o fitting same numbers = took-leads (Takes m number w []) station target o u (record {
  nothing = takes_none fitting same numbers;
  activates = λ channel _. takes_none fitting same numbers;
  seats = λ p n channel found asking. takes_kept n p (record p { seat = On (tenure_at u (place_at station channel)) None }) fitting (ap (find (has_number n)) (sym same) ∙ found) same numbers
      (record { number = refl; end = refl; place = sym (ap place_in asking) });
  airs = λ channel message _. takes_none fitting same numbers;
  answers = λ answer channel. takes_none fitting same numbers;
  releases = λ channel. takes_none fitting same numbers;
})

-- no mobile of this number is there yet
none_there : (w : Actors) (n : ℕ) → is_new w n ≡ true → mobile_of w n ≡ None
none_there w n new = by (mobile_of w n) (and_right (nat_lt 0 n) (is_none (mobile_of w n)) new) where
  by : (o : Option Mobile) → is_none o ≡ true → o ≡ None
  by None is = refl
  by (Some p) is = absurd cc

connects_end : (m : ℕ) (initial : List ℕ) →
    is_none (refusal_of_connect (Some initial)) ≡ true →
    after_connect (new_mobile m) (Some initial) ≡ after_calls (new_mobile m) (connects (Some initial) ∷ [])
connects_end m initial may = sym (ap (λ (o : Option MobileFault). unless_refused o (new_mobile m) (after_connect (new_mobile m) (Some initial))) (none_by (refusal_of_connect (Some initial)) may))

takes_step : (m number : ℕ) (w : Actors) (event : Event) →
    FitsWorld m number w →
    OfTaken (Takes m number w (called w event number)) (event_after w event)
unfolding event_after FromAir OfTaken
takes_step m number w (Upper n sapi message) fitting = by_mobile-leads (Takes m number w (called w (Upper n sapi message) number)) w n (sent_by w sapi message) (λ p found.
    only_if-leads (Takes m number w (called w (Upper n sapi message) number)) (may_send p.seat && is_none (refusal_of_send p.end sapi message)) (with_mobile (record p { end = after_queue p.end sapi message }) w)
    (λ may. takes_one n p (record p { end = after_queue p.end sapi message }) (sends sapi message ∷ []) fitting found refl refl refl
    (sends_becomes p sapi message (and_right (may_send p.seat) (is_none (refusal_of_send p.end sapi message)) may))))
takes_step m number w (Connect n station initial accepts) fitting = connect_leads (Takes m number w (called w (Connect n station initial accepts) number)) w n station initial accepts (λ may.
    let of : is_none (refusal_of_connect (Some initial)) ≡ true = and_right (is_new w n && is_station_up w station) (is_none (refusal_of_connect (Some initial))) may in
    let new : is_new w n ≡ true = and_left (is_new w n) (is_station_up w station) (and_left (is_new w n && is_station_up w station) (is_none (refusal_of_connect (Some initial))) may) in
    takes_new (connected w.modulus n initial accepts) (connects (Some initial) ∷ []) fitting (none_there w n new) refl refl
    (ap (λ (k : ℕ). after_connect (new_mobile k) (Some initial)) fitting.modulus ∙ connects_end m initial of) (place-queue (new_mobile w.modulus) Zero initial))
takes_step m number w (AirUp n sapi) fitting = air_up_leads (Takes m number w (called w (AirUp n sapi) number)) w n sapi (λ p tenure command frame found _ _ _. brought_takes w n p tenure sapi frame fitting found)
takes_step m number w (AirAck n sapi) fitting = air_ack_leads (Takes m number w (called w (AirAck n sapi) number)) w n sapi (λ p found.
    takes_one n p (record p { end = after_acked p.end sapi }) (acknowledges sapi ∷ []) fitting found refl refl refl (λ place. record { ends = refl; place = place-acked p.end sapi ∙ place }))
takes_step m number w (AirDown n) fitting = air_down_leads (Takes m number w []) w n (λ p tenure command found seat _ first others _. takes_kept n p (hearing p first) fitting found refl refl (hears p tenure command first seat))
takes_step m number w (AirDownLost n) fitting = air_down_lost_leads (Takes m number w []) w n (λ p tenure command found _ _ first others _. takes_kept n p p fitting found refl refl (record { number = refl; end = refl; place = refl }))
takes_step m number w (Move n) fitting = move_leads (Takes m number w (called w (Move n) number)) w n (λ p tenure command found _ _.
    takes_one n p (record p { end = after_leave p.end; seat = Moving tenure command; opens = false }) (leaves ∷ []) fitting found refl refl refl (λ place. record { ends = refl; place = refl }))
takes_step m number w (Touch n) fitting = touch_leads (Takes m number w []) w n (λ command _. takes_none fitting refl refl)
takes_step m number w (Arrive n) fitting = arrive_leads (Takes m number w (called w (Arrive n) number)) w n (λ p from command found seat _.
    let calls : calls_to_arrive (seat_of (mobile_of w n)) ≡ arrives (complete command.change) ∷ [] = ap (λ (o : Option Mobile). calls_to_arrive (seat_of o)) found ∙ ap calls_to_arrive seat in
    subst (λ (cs : List Call). Takes m number w (if n == number then cs else []) (seated w p command.target (complete command.change))) (sym calls)
    (takes_one n p (record p { end = after_arrival p.end (complete command.change); seat = On command.target None }) (arrives (complete command.change) ∷ []) fitting found refl refl refl
    (λ place. record { ends = comes_becomes p from command.target command (complete command.change) seat (control_complete command.change) place; place = refl })))
takes_step m number w (Return n) fitting = return_leads (Takes m number w (called w (Return n) number)) w n (λ p from command found seat _.
    let calls : calls_to_return (seat_of (mobile_of w n)) ≡ gives_up (failure command.change) ∷ [] = ap (λ (o : Option Mobile). calls_to_return (seat_of o)) found ∙ ap calls_to_return seat in
    subst (λ (cs : List Call). Takes m number w (if n == number then cs else []) (seated w p from (failure command.change))) (sym calls)
    (takes_one n p (record p { end = after_arrival p.end (failure command.change); seat = On from None }) (gives_up (failure command.change) ∷ []) fitting found refl refl refl
    (λ place. record { ends = comes_becomes p from from command (failure command.change) seat (control_failure command.change) place; place = refl })))
takes_step m number w (BaseTakes station) fitting = base_takes_leads (Takes m number w []) w station (λ first others _ _. took_takes w (with_outbox station others w) station first.target (rsl_in first.out.frame) fitting refl refl)
takes_step m number w (BasePush source) fitting = push_leads (Takes m number w []) w source (λ first others. takes_none fitting refl refl) (λ message _. takes_none fitting refl refl)
takes_step m number w Handle fitting =
    handle_leads (Takes m number w []) w (λ item items _. turn_leads (Takes m number w []) (target_in w item.source item.what) (take item w.controller) (record w { inbox = items }) (λ links. takes_none fitting refl refl))
takes_step m number w SwitchTakes fitting =
    switch_takes_leads (Takes m number w []) w (λ first others _ _. switch_took-leads (Takes m number w []) (with_outbox SWITCH_LINK others w) (sccp_in first.out.frame) (takes_none fitting refl refl) (λ next made. takes_none fitting refl refl))
takes_step m number w (SwitchDoes action) fitting = does_leads (Takes m number w []) w action (λ next made. takes_none fitting refl refl)
takes_step m number w (Tick ms) fitting = turn_leads (Takes m number w []) None (tick ms w.controller) w (λ links. takes_none fitting refl refl)
takes_step m number w (BaseDown source) fitting = broken_leads (Takes m number w []) w source (λ _ _. takes_none fitting refl refl) (λ _ _. takes_none fitting refl refl)
takes_step m number w (Report n report) fitting = report-leads (Takes m number w []) w n report (λ tenure _. takes_none fitting refl refl)

-- ---- whether it is taken or not

by_guard : (m number : ℕ) (w : Actors) (o : Option Actors) (own : Bool) (calls : List Call) →
    FitsWorld m number w →
    OfTaken (Takes m number w (if own then calls else [])) o →
    Takes m number w (if own && is_some o then calls else []) (unwrap_or o w)
unfolding OfTaken
by_guard m number w None true calls fitting leads = takes_none fitting refl refl
by_guard m number w None false calls fitting leads = takes_none fitting refl refl
by_guard m number w (Some v) true calls fitting leads = leads
by_guard m number w (Some v) false calls fitting leads = leads

pub takes_at : (m number : ℕ) (w : Actors) (event : Event) →
    FitsWorld m number w →
    Takes m number w (calls_at w event number) (actors_after w event)
takes_at m number w (Upper n sapi message) fitting = by_guard m number w (event_after w (Upper n sapi message)) (n == number) (sends sapi message ∷ []) fitting (takes_step m number w (Upper n sapi message) fitting)
takes_at m number w (Connect n station initial accepts) fitting =
    by_guard m number w (event_after w (Connect n station initial accepts)) (n == number) (connects (Some initial) ∷ []) fitting (takes_step m number w (Connect n station initial accepts) fitting)
takes_at m number w (AirUp n sapi) fitting = by_guard m number w (event_after w (AirUp n sapi)) (n == number) (frames sapi ∷ []) fitting (takes_step m number w (AirUp n sapi) fitting)
takes_at m number w (AirAck n sapi) fitting = by_guard m number w (event_after w (AirAck n sapi)) (n == number) (acknowledges sapi ∷ []) fitting (takes_step m number w (AirAck n sapi) fitting)
takes_at m number w (Move n) fitting = by_guard m number w (event_after w (Move n)) (n == number) (leaves ∷ []) fitting (takes_step m number w (Move n) fitting)
takes_at m number w (Arrive n) fitting = by_guard m number w (event_after w (Arrive n)) (n == number) (calls_to_arrive (seat_of (mobile_of w n))) fitting (takes_step m number w (Arrive n) fitting)
takes_at m number w (Return n) fitting = by_guard m number w (event_after w (Return n)) (n == number) (calls_to_return (seat_of (mobile_of w n))) fitting (takes_step m number w (Return n) fitting)
takes_at m number w event fitting = by_guard m number w (event_after w event) false [] fitting (takes_step m number w event fitting)

-- ---- all these events

takes_all : (m number : ℕ) (w : Actors) (events : List Event) →
    FitsWorld m number w →
    Takes m number w (all_calls w events number) (actors_after_all w events)
takes_all m number w [] fitting = takes_none fitting refl refl
takes_all m number w (event ∷ events) fitting =
    let first : Takes m number w (calls_at w event number) (actors_after w event) = takes_at m number w event fitting in
    let others : Takes m number (actors_after w event) (all_calls (actors_after w event) events number) (actors_after_all (actors_after w event) events) = takes_all m number (actors_after w event) events first.fitting in
    record {
      ends = others.ends ∙ ap (λ (e : MobileState). after_calls e (all_calls (actors_after w event) events number)) first.ends
          ∙ sym (after_calls-append (end_of m (mobile_of w number)) (calls_at w event number) (all_calls (actors_after w event) events number));
      fitting = others.fitting;
    }

pub fitting_new : (settings : Parameters) (number : ℕ) → FitsWorld (modulus_in settings) number (new_actors settings)
fitting_new settings number = record { fits = tt; modulus = refl }

pub MobilesLive-new : (settings : Parameters) (events : List Event) → MobilesLive settings events
MobilesLive-new settings events number p found =
    let takes : Takes (modulus_in settings) number (new_actors settings) (all_calls (new_actors settings) events number) (actors_after_all (new_actors settings) events) =
    takes_all (modulus_in settings) number (new_actors settings) events (fitting_new settings number) in
    record { is = sym (ap (end_of (modulus_in settings)) found) ∙ takes.ends; place = subst Fits found takes.fitting.fits }
