-- SPDX-License-Identifier: MIT OR Apache-2.0
-- What is on its way up from a channel, and its acknowledgements.
use Rattle.world_laws.proofs.Prelude.{◌≡◌, ◌≢◌, ℕ, ◌-◌, ◌==◌, ◌||◌, Bool, true, false, if◌then◌else◌, List, [], ◌∷◌, ◌++◌, refl, sym, ap}
use Rattle.world_laws.proofs.Prelude.{◌∙◌, subst, append_assoc, eq-eqb, flat_map-append, append-nil, flat_map, list_any, Place, Tenures}
use Rattle.world_laws.proofs.Prelude.{tenure_brings, apart, sapi_of, Item, What, Rsl, Parameters, Event, actors_after}
use Rattle.world_laws.proofs.Prelude.{said, said_by, acknowledgements, all_popped, pushed, Actors, base_of, is_active_at, is_up}
use Rattle.world_laws.proofs.Prelude.{new_actors, Good, inbox_keeps_order, both_empty, is_active, BaseState, false≢true, messages_in, popped, Kept}
use Rattle.world_laws.proofs.Prelude.{kept_all, new_ends, tenures_kept, new_base, is_release_ack, messages_up, read_by, read_of, brings}
use Rattle.world_laws.proofs.Prelude.{of_establishment, initial_by}
use Rattle.link_model.specs.Tenures.Tenures.{over, begins, ends}
use Rattle.world_laws.specs.LineUp.Places.{Item as Brought}
use Rattle.ruled_relay.specs.declared.item.What.TheVariants as whats
use Rattle.rsl_codec.specs.declared.rsl.Rsl.TheVariants as rsl
use Rattle.world_model.specs.Honest.{all_given, given}
use Rattle.world_model.proofs.Honesty.Kept.{works, rested}
use Rattle.link_model.specs.BaseCalls.{messages_given}
use Rattle.link_model.proofs.Tenures.{Tenures-given}
use Rattle.world_laws.proofs.Acknowledged.{apart_brings, behind, bound, given_read, pushed-read, unbound, brought_unbound}
use Rattle.world_laws.proofs.Targets.Calm.{down_made}
use Rattle.world_laws.proofs.Events.{world}

-- ---- read, in the one way and the other

pub said-read : (station : ℕ) (item : Item) → said station item ≡ read_of station item
said-read station item = by item.what where
  by : (what : What) → (if item.source == station then said_by what else []) ≡ read_by station item.source what
  by (whats.Frame frame) = refl
  by whats.Down = nothing (item.source == station) where
    nothing : (b : Bool) → (let xs : List Rsl = if b then [] else [] in xs) ≡ []
    nothing true = refl
    nothing false = refl

pub heard_read : (at : Place) (item : Item) →
    acknowledgements at.number (said at.station item) ≡ acknowledgements at.number (flat_map (read_of at.station) (item ∷ []))
heard_read at item = ap (acknowledgements at.number) (said-read at.station item ∙ sym (append-nil (read_of at.station item)))

-- ---- an event

pub reads_are_kept : (n : ℕ) (w : Actors) (event : Event) →
    n ≢ 0 →
    Good w →
    flat_map (read_of n) w.inbox ++ given n w event ≡ flat_map (read_of n) (popped w event) ++ flat_map (read_of n) (actors_after w event).inbox
reads_are_kept n w event n_is good =
    ap (λ (ms : List Rsl). flat_map (read_of n) w.inbox ++ ms) (sym (pushed-read n w event n_is good))
    ∙ sym (flat_map-append (read_of n) w.inbox (pushed w event))
    ∙ ap (flat_map (read_of n)) (inbox_keeps_order w event)
    ∙ flat_map-append (read_of n) (popped w event) (actors_after w event).inbox

-- of a station whose link is down then, what the controller takes was on its way, and then what is
-- on its way still
pub ways_down : (n : ℕ) (w : Actors) (event : Event) →
    n ≢ 0 →
    Good w →
    is_up (actors_after w event) n ≡ false →
    (rest : List Rsl) × (messages_up w n ≡ flat_map (read_of n) (popped w event) ++ (messages_up (actors_after w event) n ++ rest))
ways_down n w event n_is good down =
    let v : Actors = actors_after w event in
    let made = down_made n w event n_is down in
    let a : List Rsl = flat_map (read_of n) w.inbox in
    let b : List Rsl = flat_map (read_of n) v.inbox in
    let p : List Rsl = flat_map (read_of n) (popped w event) in
    let ms : List Rsl = (base_of v n).messages in (
      made.0,
      ap (λ (xs : List Rsl). a ++ xs) made.1
          ∙ sym (append_assoc a (given n w event) (ms ++ made.0))
          ∙ ap (λ (xs : List Rsl). xs ++ (ms ++ made.0)) (reads_are_kept n w event n_is good)
          ∙ append_assoc p b (ms ++ made.0)
          ∙ ap (λ (xs : List Rsl). p ++ xs) (sym (append_assoc b ms made.0)),
    )

-- ---- tenures

-- outside a tenure nothing arrives before the next ACTIVATION ACK
pub nothing_before : {end : Bool} (k : ℕ) (ms rest : List Rsl) →
    Tenures k false (ms ++ rest) end →
    acknowledgements k ms ≡ [] →
    flat_map (brings k) ms ≡ []
nothing_before k [] rest t none = refl
nothing_before k (m ∷ ms) rest (begins t) none = absurd (let some : m ∷ acknowledgements k ms ≡ [] = sym (bound k m ms (eq-eqb k k refl)) ∙ none in cc)
nothing_before k (m ∷ ms) rest (ends t) none = absurd (let some : m ∷ acknowledgements k ms ≡ [] = sym (bound k m ms (eq-eqb k k refl)) ∙ none in cc)
nothing_before k (m ∷ ms) rest (apart not_brought not_bound t) none =
    ap (λ (xs : List Brought). xs ++ flat_map (brings k) ms) (apart_brings k m not_brought not_bound) ∙ nothing_before k ms rest t (sym (unbound k m ms not_bound) ∙ none)

-- without acknowledgements it remains within or outside
pub still_within : {within end : Bool} (k : ℕ) (ms : List Rsl) → Tenures k within ms end → acknowledgements k ms ≡ [] → within ≡ end
still_within k [] (over within) none = refl
still_within k (m ∷ ms) (begins t) none = absurd (let some : m ∷ acknowledgements k ms ≡ [] = sym (bound k m ms (eq-eqb k k refl)) ∙ none in cc)
still_within k (m ∷ ms) (ends t) none = absurd (let some : m ∷ acknowledgements k ms ≡ [] = sym (bound k m ms (eq-eqb k k refl)) ∙ none in cc)
still_within k (m ∷ ms) (tenure_brings is t) none = still_within k ms t (sym (unbound k m ms (brought_unbound k m is)) ∙ none)
still_within k (m ∷ ms) (apart not_brought not_bound t) none = still_within k ms t (sym (unbound k m ms not_bound) ∙ none)

-- outside without acknowledgements it remains outside
remains_outside : {end : Bool} (k : ℕ) (ms rest : List Rsl) →
    Tenures k false (ms ++ rest) end →
    acknowledgements k ms ≡ [] →
    Tenures k false rest end
remains_outside k [] rest t none = t
remains_outside k (m ∷ ms) rest (begins t) none = absurd (let some : m ∷ acknowledgements k ms ≡ [] = sym (bound k m ms (eq-eqb k k refl)) ∙ none in cc)
remains_outside k (m ∷ ms) rest (ends t) none = absurd (let some : m ∷ acknowledgements k ms ≡ [] = sym (bound k m ms (eq-eqb k k refl)) ∙ none in cc)
remains_outside k (m ∷ ms) rest (apart not_brought not_bound t) none = remains_outside k ms rest t (sym (unbound k m ms not_bound) ∙ none)

-- behind the RF CHANNEL RELEASE ACK it is outside
pub behind_end : {within end : Bool} (k channel : ℕ) (ms rest : List Rsl) →
    Tenures k within (ms ++ rest) end →
    acknowledgements k ms ≡ rsl.RfChannelReleaseAck channel ∷ [] →
    Tenures k false rest end
behind_end k channel [] rest t is = absurd cc
behind_end k channel (m ∷ ms) rest (begins t) is = absurd (let other : m ∷ acknowledgements k ms ≡ rsl.RfChannelReleaseAck channel ∷ [] = sym (bound k m ms (eq-eqb k k refl)) ∙ is in cc)
behind_end k channel (m ∷ ms) rest (ends t) is = remains_outside k ms rest t (let both : m ∷ acknowledgements k ms ≡ rsl.RfChannelReleaseAck channel ∷ [] = sym (bound k m ms (eq-eqb k k refl)) ∙ is in cc)
behind_end k channel (m ∷ ms) rest (tenure_brings here t) is = behind_end k channel ms rest t (sym (unbound k m ms (brought_unbound k m here)) ∙ is)
behind_end k channel (m ∷ ms) rest (apart not_brought not_bound t) is = behind_end k channel ms rest t (sym (unbound k m ms not_bound) ∙ is)

-- ---- in every run

-- what is on its way up is in tenures; it ends as the station has the channel, while its link is
-- up
pub record WaysStand (w : Actors) (at : Place) : Type 0 where
  pub within : Bool
  pub end : Bool
  pub stand : Tenures at.number within (messages_up w at.station) end
  pub now : is_up w at.station ≡ true → end ≡ is_active_at w at

pub ways_stand_new : (settings : Parameters) (events : List Event) (at : Place) → at.station ≢ 0 → WaysStand (world settings events) at
ways_stand_new settings events at at_is = by (kept_all at.station [] (new_actors settings) events at_is (works ends_at.0 [] ends_at.1 refl)) where
  ends_at : (station : ℕ) × (base_of (new_actors settings) at.station ≡ new_base station)
  ends_at = new_ends settings.cells 1 (at.station - 1)

  w : Actors
  w = world settings events

  gave : List Rsl
  gave = all_given at.station (new_actors settings) events

  popped_all : List Rsl
  popped_all = flat_map (read_of at.station) (all_popped (new_actors settings) events)

  whole : gave ++ (base_of w at.station).messages ≡ popped_all ++ messages_up w at.station
  whole = ap (λ (ms : List Rsl). ms ++ (base_of w at.station).messages) (given_read settings events at.station at_is) ∙ append_assoc popped_all (flat_map (read_of at.station) w.inbox) (base_of w at.station).messages

  of : (end : Bool) →
      Tenures at.number false (gave ++ (base_of w at.station).messages) end →
      (is_up w at.station ≡ true → end ≡ is_active_at w at) →
      WaysStand w at
  of end t now =
      let up = behind at.number popped_all (messages_up w at.station) (subst (λ (ms : List Rsl). Tenures at.number false ms end) whole t) in
      record { within = up.0; end = end; stand = up.1; now = now }

  by : Kept at.station gave w → WaysStand w at
  by (works station calls is given_so) =
      of (is_active_at w at)
      (subst (λ (ms : List Rsl). Tenures at.number false (ms ++ (base_of w at.station).messages) (is_active_at w at)) (sym given_so)
      (subst (λ (b : BaseState). Tenures at.number false (messages_given (new_base station) calls ++ b.messages) (is_active b.active at.number)) (sym is) (Tenures-given at.number station calls)))
      (λ _. refl)
  by (rested down left tenures) =
      let t = tenures_kept at.station at.number gave w (rested down left tenures) in
      of t.0 t.1 (λ up. absurd (false≢true (sym down ∙ up)))

-- ---- lists of acknowledgements

pub any_append : (xs ys : List Rsl) → list_any is_release_ack (xs ++ ys) ≡ list_any is_release_ack xs || list_any is_release_ack ys
any_append [] ys = refl
any_append (x ∷ xs) ys = by (is_release_ack x) (any_append xs ys) where
  by : (b : Bool) →
      list_any is_release_ack (xs ++ ys) ≡ list_any is_release_ack xs || list_any is_release_ack ys →
      b || list_any is_release_ack (xs ++ ys) ≡ (b || list_any is_release_ack xs) || list_any is_release_ack ys
  by true rest = refl
  by false rest = rest

pub any_middle : (xs ys zs : List Rsl) → list_any is_release_ack ys ≡ true → list_any is_release_ack (xs ++ (ys ++ zs)) ≡ true
any_middle xs ys zs is = any_append xs (ys ++ zs) ∙ by (list_any is_release_ack xs) where
  inner : list_any is_release_ack (ys ++ zs) ≡ true
  inner = any_append ys zs ∙ ap (λ (b : Bool). b || list_any is_release_ack zs) is

  by : (b : Bool) → b || list_any is_release_ack (ys ++ zs) ≡ true
  by true = refl
  by false = inner

-- where nothing is brought, no initial message is brought
initial_none : (k : ℕ) (m : Rsl) → brings k m ≡ [] → initial_by k m ≡ []
initial_none k (rsl.EstablishIndication e) none = by (e.channel == k) none where
  by : (b : Bool) →
      (if b then of_establishment (sapi_of e.link) e.l3 else []) ≡ [] →
      (if b then messages_in (of_establishment (sapi_of e.link) e.l3) else []) ≡ []
  by true is = ap messages_in is
  by false is = refl
initial_none k _ none = refl

pub initials_none : (k : ℕ) (ms : List Rsl) → flat_map (brings k) ms ≡ [] → flat_map (initial_by k) ms ≡ []
initials_none k [] none = refl
initials_none k (m ∷ ms) none =
    let parts = both_empty (brings k m) (flat_map (brings k) ms) (sym none) in
    ap (λ (xs : List (List ℕ)). xs ++ flat_map (initial_by k) ms) (initial_none k m parts.0) ∙ initials_none k ms parts.1
