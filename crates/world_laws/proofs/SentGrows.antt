-- SPDX-License-Identifier: MIT OR Apache-2.0
-- What a mobile's upper layers sent remains sent, and more joins it.
use Rattle.world_laws.proofs.Prelude.{◌≡◌, ℕ, nat_eq, Bool, true, false, if◌then◌else◌, List, [], ◌∷◌, ◌++◌, find, Some, refl, sym, ap, ◌∙◌}
use Rattle.world_laws.proofs.Prelude.{append_assoc, eqb-true, eqb-false, append-nil, is_flow_message, Sapi, Zero, Three, MobilePlace, Stage}
use Rattle.world_laws.proofs.Prelude.{Connected, waits, DataLinkState, after_acked, after_acked_at, after_frame, after_frame_at}
use Rattle.world_laws.proofs.Prelude.{after_number, after_queue, MobileState, Event, actors_after, connected, Actors, Mobile, has_number}
use Rattle.world_laws.proofs.Prelude.{mobile_of, put_back, back_found, back_other, number_found, Becomes, event-keeps, hearing-end}
use Rattle.world_laws.proofs.Prelude.{hearing-number, same_Some, found_front}
use Rattle.mobile_end.specs.declared.mobile_end.Place.TheVariants as places
use Rattle.mobile_end.specs.Mobile.{link_of, with_link}
use Rattle.world_model.proofs.Footprints.Becomes.{hears, is_acked, lends, opens, queues as is_queued}

-- these messages were sent, and perhaps more
pub record HasSent (mobile : ℕ) (sent : List (List ℕ)) (w : Actors) : Type 0 where
  pub one : Mobile
  pub found : mobile_of w mobile ≡ Some one
  pub more : List (List ℕ)
  pub is : one.end.sent ≡ sent ++ more

-- a mobile sent more, or nothing
record Grows (p q : Mobile) : Type 0 where
  number : q.number ≡ p.number
  more : List (List ℕ)
  is : q.end.sent ≡ p.end.sent ++ more

same : {p q : Mobile} → q.number ≡ p.number → q.end.sent ≡ p.end.sent → Grows p q
same {p} number is = record { number = number; more = []; is = is ∙ sym (append-nil p.end.sent) }

unchanged : {mobile : ℕ} {sent : List (List ℕ)} {w v : Actors} → v.mobiles ≡ w.mobiles → HasSent mobile sent w → HasSent mobile sent v
unchanged {mobile} mobiles has = record { one = has.one; found = ap (λ (ms : List Mobile). find (has_number mobile) ms) mobiles ∙ has.found; more = has.more; is = has.is }

acts : {mobile : ℕ} {sent : List (List ℕ)} {w v : Actors} (number : ℕ) (p q : Mobile) →
    mobile_of w number ≡ Some p →
    v.mobiles ≡ put_back q w.mobiles →
    Grows p q →
    HasSent mobile sent w →
    HasSent mobile sent v
acts {mobile} {sent} {w} {v} number p q acting mobiles grows has = by_number (nat_eq number mobile) refl where
  is_number : q.number ≡ number
  is_number = grows.number ∙ number_found number w.mobiles p acting

  own : number ≡ mobile → HasSent mobile sent v
  own here = record {
    one = q;
    found = ap (λ (ms : List Mobile). find (has_number mobile) ms) mobiles ∙ ap (λ (n : ℕ). find (has_number n) (put_back q w.mobiles)) (sym (is_number ∙ here))
        ∙ back_found q w.mobiles p (ap (λ (n : ℕ). find (has_number n) w.mobiles) is_number ∙ acting);
    more = has.more ++ grows.more;
    is = grows.is ∙ ap (λ (x : Mobile). x.end.sent ++ grows.more) (same_Some _ _ (sym acting ∙ ap (mobile_of w) here ∙ has.found)) ∙ ap (λ (xs : List (List ℕ)). xs ++ grows.more) has.is ∙ append_assoc sent has.more grows.more;
  }

  by_number : (b : Bool) → nat_eq number mobile ≡ b → HasSent mobile sent v
  by_number true is = own (eqb-true number mobile is)
  by_number false is = record {
    one = has.one;
    found = ap (λ (ms : List Mobile). find (has_number mobile) ms) mobiles ∙ back_other q w.mobiles mobile (λ here. eqb-false number mobile is (sym is_number ∙ here)) ∙ has.found;
    more = has.more;
    is = has.is;
  }

-- one that joins is behind the others

joins : {mobile : ℕ} {sent : List (List ℕ)} {w v : Actors} (p : Mobile) →
    v.mobiles ≡ w.mobiles ++ p ∷ [] →
    HasSent mobile sent w →
    HasSent mobile sent v
joins {mobile} {w = w} p mobiles has = record { one = has.one; found = ap (λ (ms : List Mobile). find (has_number mobile) ms) mobiles ∙ found_front mobile has.one w.mobiles (p ∷ []) has.found; more = has.more; is = has.is }

-- ---- what a mobile sent, call by call

sent-with_link : (end : MobileState) (sapi : Sapi) (link : DataLinkState) → (with_link end sapi link).sent ≡ end.sent
sent-with_link end Zero link = refl
sent-with_link end Three link = refl

queues : (p : Mobile) (sapi : Sapi) (message : List ℕ) → Grows p (record p { end = after_queue p.end sapi message })
queues p sapi message = by_flow (is_flow_message message) where
  by_flow : (b : Bool) →
      Grows p (record p { end = if b then after_number p.end message else with_link p.end sapi (waits (link_of p.end sapi) message) })
  by_flow true = record { number = refl; more = message ∷ []; is = refl }
  by_flow false = same refl (sent-with_link p.end sapi (waits (link_of p.end sapi) message))

sent-frame : (end : MobileState) (sapi : Sapi) → (after_frame end sapi).sent ≡ end.sent
sent-frame end sapi = by_state end.stage end.place where
  by_state : (stage : Stage) (place : MobilePlace) → (after_frame_at stage place end sapi).sent ≡ end.sent
  by_state Connected places.OnChannel = sent-with_link end sapi _
  by_state _ _ = refl

sent-acked : (end : MobileState) (sapi : Sapi) → (after_acked end sapi).sent ≡ end.sent
sent-acked end sapi = by_place end.place where
  by_place : (place : MobilePlace) → (after_acked_at place end sapi).sent ≡ end.sent
  by_place places.OnChannel = sent-with_link end sapi _
  by_place places.Moving = refl

-- ---- each event

grows : {w : Actors} {number : ℕ} {event : Event} {p q : Mobile} → Becomes w number event p q → Grows p q
grows (is_queued sapi message p may) = queues p sapi message
grows (opens p tenure frame lent) = same refl (sent-frame p.end Zero)
grows (lends p tenure frame lent) = same refl (sent-frame p.end Three)
grows (is_acked sapi p) = same refl (sent-acked p.end sapi)
grows (hears p tenure command first others seat reached pending) = same (hearing-number p first) (ap (λ (e : MobileState). e.sent) (hearing-end p first))
grows _ = same refl refl

pub sent_grows : (mobile : ℕ) (w : Actors) (event : Event) (p : Mobile) →
    mobile_of w mobile ≡ Some p →
    HasSent mobile p.end.sent (actors_after w event)
sent_grows mobile w event p found =
    let has : HasSent mobile p.end.sent w = record { one = p; found = found; more = []; is = sym (append-nil p.end.sent) } in
    event-keeps (HasSent mobile p.end.sent) w event (record {
      puts = λ u number x q acting mobiles how so. acts number x q (ap (λ (ms : List Mobile). find (has_number number) ms) mobiles ∙ acting) refl (grows how) so;
      joins = λ number initial accepts _ so. joins (connected w.modulus number initial accepts) refl so;
      tells = λ u n message _ _ so. unchanged refl so;
      spots = λ u at spot _ _ so. unchanged refl so;
      pops = λ station others _ so. unchanged refl so;
      activates = λ u s a _ _ so. unchanged refl so;
      releases = λ u s channel _ so. unchanged refl so;
    }) (record {
      rest = λ u inbox controller switch made links so. unchanged refl so;
      next = λ source message _ so. unchanged refl so;
      down = λ source _ _ so. unchanged refl so;
    }) has
