-- SPDX-License-Identifier: MIT OR Apache-2.0
-- Each mobile connected with one message, event by event.
use Rattle.std.proofs.Common.{◌≡◌, ℕ, ◌==◌, ◌&&◌, nat_eq, Bool, true, false, if◌then◌else◌, List, [], ◌∷◌, ◌++◌, find, is_some, unwrap_or}
use Rattle.std.proofs.Common.{Option, Some, None, refl, sym, ap, ◌∙◌, subst}
use Rattle.std.proofs.lemmas.Bool.{eqb-false, eqb-true}
use Rattle.std.proofs.lemmas.Option.{none-some, same_Some}
use Rattle.std.specs.Option.{is_none, option_or}
use Rattle.mobile_end.specs.declared.fault.MobileFault.{MobileFault}
use Rattle.mobile_end.specs.declared.fault.MobileFault.TheVariants.{BadMessage}
use Rattle.mobile_end.specs.Lawful.{is_initial}
use Rattle.mobile_end.specs.Mobile.{refusal_of_connect}
use Rattle.settings.specs.Parameters.{Parameters}
use Rattle.world_laws.specs.Runs.{world}
use Rattle.world_laws.proofs.Events.{snoc_actors}
use Rattle.world_model.specs.declared.event.Event.{Event}
use Rattle.world_model.specs.declared.event.Event.TheVariants.{Connect}
use Rattle.world_model.specs.Life.{actors_after, event_after}
use Rattle.world_model.specs.Mobiles.{after_connecting, channel_required, connected, is_new, only_if, with_message_made}
use Rattle.world_model.specs.World.{Actors, Mobile, has_number, is_station_up, mobile_of, new_actors, put_back, with_mobile}
use Rattle.world_model.proofs.Footprints.{Becomes, Joins, became_number, event-keeps}
use Rattle.world_model.proofs.Footprints.Joins.{connects}
use Rattle.world_model.proofs.Found.{back_found, back_other, new_found, new_other, number_found}
use Rattle.world_model.proofs.Leads.{and_left, and_right}
use Rattle.world_openers.specs.Initials.{initial_at, initial_of}
use Rattle.world_openers.specs.Openers.{MobilesConnectOnce}
use Rattle.world_openers.proofs.Beginning.{BeginsWith, become_begins, connected_begins}
use Rattle.world_openers.proofs.Initials.{snoc_initial}
use Rattle.world_openers.proofs.Runs.{each_event}

-- the mobile of this number never connected; or it connected with this message, and begins with it
pub data Knows (w : Actors) (known : Option (List ℕ)) (k : ℕ) : Type 0 where
  never : mobile_of w k ≡ None → known ≡ None → Knows w known k
  once : (p : Mobile) (initial : List ℕ) → mobile_of w k ≡ Some p → known ≡ Some initial → BeginsWith initial p → Knows w known k

-- ---- where none connects

abbrev is_connect : Event → Bool
is_connect (Connect number station initial accepts) = true
is_connect _ = false

none_joins : {X : Type 0} {w : Actors} {event : Event} {number : ℕ} {initial : List ℕ} {accepts : Bool} → is_connect event ≡ false
    → Joins w event number initial accepts → X
none_joins isnt (connects number station initial accepts may) = absurd cc

-- a mobile changes
puts_knows : {w u : Actors} {event : Event} {known : Option (List ℕ)} (k number : ℕ) (p q : Mobile) → mobile_of w number ≡ Some p
    → u.mobiles ≡ w.mobiles → Becomes w number event p q → Knows u known k → Knows (with_mobile q u) known k
puts_knows {w} {u} {event} {known} k number p q acts same how knows = by (nat_eq number k) refl where
  acts_there : mobile_of u number ≡ Some p
  acts_there = ap (λ (ms : List Mobile). find (has_number number) ms) same ∙ acts

  q_number : q.number ≡ number
  q_number = became_number how ∙ number_found number w.mobiles p acts

  own : number ≡ k → Knows u known k → Knows (with_mobile q u) known k
  own is (never none unknown) = absurd (none-some p (sym none ∙ ap (mobile_of u) (sym is) ∙ acts_there))
  own is (once x initial found connected_with begins) = once q initial
      (ap (λ (n : ℕ). find (has_number n) (put_back q u.mobiles)) (sym is ∙ sym q_number)
      ∙ back_found q u.mobiles p (ap (λ (n : ℕ). find (has_number n) u.mobiles) q_number ∙ acts_there))
      connected_with
      (become_begins initial how (subst (BeginsWith initial) (same_Some _ _ (sym found ∙ ap (mobile_of u) (sym is) ∙ acts_there)) begins))

  unchanged : mobile_of (with_mobile q u) k ≡ mobile_of u k → Knows u known k → Knows (with_mobile q u) known k
  unchanged there (never none unknown) = never (there ∙ none) unknown
  unchanged there (once x initial found connected_with begins) = once x initial (there ∙ found) connected_with begins

  by : (b : Bool) → nat_eq number k ≡ b → Knows (with_mobile q u) known k
  by true hit = own (eqb-true number k hit) knows
  by false miss = unchanged (back_other q u.mobiles k (λ is. eqb-false number k miss (sym q_number ∙ is))) knows

moved : {w v : Actors} {known : Option (List ℕ)} {k : ℕ} → v.mobiles ≡ w.mobiles → Knows w known k → Knows v known k
moved {k = k} same (never none unknown) = never (ap (λ (ms : List Mobile). find (has_number k) ms) same ∙ none) unknown
moved {k = k} same (once p initial found connected_with begins) =
    once p initial (ap (λ (ms : List Mobile). find (has_number k) ms) same ∙ found) connected_with begins

other_knows : (w : Actors) (event : Event) (known : Option (List ℕ)) (k : ℕ) → is_connect event ≡ false → Knows w known k
    → Knows (actors_after w event) known k
other_knows w event known k isnt = event-keeps (λ v. Knows v known k) w event (record {
  puts = λ u number p q acting mobiles how so. puts_knows k number p q acting mobiles how so;
  joins = λ number initial accepts how so. none_joins isnt how;
  tells = λ u n message _ _ so. moved refl so;
  spots = λ u at spot _ _ so. moved refl so;
  pops = λ station others _ so. moved refl so;
  activates = λ u s a _ _ so. moved refl so;
  releases = λ u s channel _ so. moved refl so;
}) (record {
  rest = λ u inbox controller switch made links so. moved refl so;
  next = λ source message _ so. moved refl so;
  down = λ source _ _ so. moved refl so;
})

-- ---- one connects

lawful_of : (initial : List ℕ) → is_none (refusal_of_connect (Some initial)) ≡ true → is_initial initial ≡ true
lawful_of initial may = by (is_initial initial) may where
  by : (b : Bool) → is_none (let o : Option MobileFault = if b then None else Some BadMessage in o) ≡ true → b ≡ true
  by true may = refl
  by false may = absurd cc

new_absent : (w : Actors) (number : ℕ) → is_new w number ≡ true → mobile_of w number ≡ None
new_absent w number new = by (mobile_of w number) (and_right _ (is_none (mobile_of w number)) new) where
  by : (o : Option Mobile) → is_none o ≡ true → o ≡ None
  by None is = refl
  by (Some p) is = absurd cc

module _ (w : Actors) (number station : ℕ) (initial : List ℕ) (accepts : Bool) (known : Option (List ℕ)) (k : ℕ) where
  abbrev may_connect : Bool
  may_connect = is_new w number && is_station_up w station && is_none (refusal_of_connect (Some initial))

  abbrev new : Mobile
  new = connected w.modulus number initial accepts

  abbrev v : Actors
  v = with_message_made station (channel_required number) (record w { mobiles = w.mobiles ++ new ∷ [] })

  abbrev At : Bool → Option (List ℕ)
  At b = if (number == k) && is_some (only_if b v) then Some initial else None

  not_taken : Knows w known k → Knows w (option_or known (At false)) k
  not_taken knows = by (number == k) where
    by : (b : Bool) → Knows w (option_or known (if b && false then Some initial else None)) k
    by true = same knows where
      same : Knows w known k → Knows w (option_or known None) k
      same (never none unknown) = never none (ap (λ (o : Option (List ℕ)). option_or o None) unknown)
      same (once p x found connected_with begins) = once p x found (ap (λ (o : Option (List ℕ)). option_or o None) connected_with) begins
    by false = same knows where
      same : Knows w known k → Knows w (option_or known None) k
      same (never none unknown) = never none (ap (λ (o : Option (List ℕ)). option_or o None) unknown)
      same (once p x found connected_with begins) = once p x found (ap (λ (o : Option (List ℕ)). option_or o None) connected_with) begins

  is_taken : may_connect ≡ true → Knows w known k → Knows v (option_or known (At true)) k
  is_taken may knows = by (nat_eq number k) refl knows where
    absent : mobile_of w number ≡ None
    absent =
        new_absent w number
        (and_left (is_new w number) (is_station_up w station)
        (and_left (is_new w number && is_station_up w station) (is_none (refusal_of_connect (Some initial))) may))

    lawful : is_initial initial ≡ true
    lawful = lawful_of initial (and_right (is_new w number && is_station_up w station) (is_none (refusal_of_connect (Some initial))) may)

    by : (b : Bool) → nat_eq number k ≡ b → Knows w known k → Knows v (option_or known (if b && true then Some initial else None)) k
    by true hit (never none unknown) = once new initial
        (ap (λ (n : ℕ). find (has_number n) (w.mobiles ++ new ∷ [])) (sym (eqb-true number k hit)) ∙ new_found new w.mobiles absent)
        (ap (λ (o : Option (List ℕ)). option_or o (Some initial)) unknown) (connected_begins w.modulus number initial accepts lawful)
    by true hit (once p x found connected_with begins) =
        absurd (none-some p (sym absent ∙ ap (mobile_of w) (eqb-true number k hit) ∙ found))
    by false miss (never none unknown) =
        never (new_other new w.mobiles k (eqb-false number k miss) ∙ none) (ap (λ (o : Option (List ℕ)). option_or o None) unknown)
    by false miss (once p x found connected_with begins) =
        once p x (new_other new w.mobiles k (eqb-false number k miss) ∙ found)
        (ap (λ (o : Option (List ℕ)). option_or o None) connected_with) begins

  connect_knows : Knows w known k
      → Knows (actors_after w (Connect number station initial accepts))
      (option_or known (initial_at w (Connect number station initial accepts) k)) k
  unfolding event_after
  connect_knows knows = by may_connect refl where
    by : (b : Bool) → may_connect ≡ b → Knows (unwrap_or (only_if b v) w) (option_or known (At b)) k
    by true may = is_taken may knows
    by false may = not_taken knows

-- ---- each event

no_other : (w : Actors) (event : Event) (known : Option (List ℕ)) (k : ℕ) → is_connect event ≡ false → initial_at w event k ≡ None
    → Knows w known k → Knows (actors_after w event) (option_or known (initial_at w event k)) k
no_other w event known k isnt none knows = by (other_knows w event known k isnt knows) where
  by : Knows (actors_after w event) known k → Knows (actors_after w event) (option_or known (initial_at w event k)) k
  by (never absent unknown) = never absent (ap (λ (o : Option (List ℕ)). option_or o (initial_at w event k)) unknown ∙ none)
  by (once p x found connected_with begins) =
      once p x found (ap (λ (o : Option (List ℕ)). option_or o (initial_at w event k)) connected_with) begins

event_knows : (w : Actors) (event : Event) (known : Option (List ℕ)) (k : ℕ) → Knows w known k
    → Knows (actors_after w event) (option_or known (initial_at w event k)) k
event_knows w (Connect number station initial accepts) known k knows = connect_knows w number station initial accepts known k knows
event_knows w event known k knows = no_other w event known k refl refl knows

abbrev RunKnows : Parameters → ℕ → List Event → Type 0
RunKnows settings k events = Knows (world settings events) (initial_of (new_actors settings) events k) k

pub run_knows : (settings : Parameters) (k : ℕ) (events : List Event)
    → Knows (world settings events) (initial_of (new_actors settings) events k) k
run_knows settings k = each_event (RunKnows settings k) (never refl refl) (λ events event knows.
    subst (λ (v : Actors). Knows v (initial_of (new_actors settings) (events ++ event ∷ []) k) k)
    (sym (snoc_actors (new_actors settings) events event))
    (subst (λ (o : Option (List ℕ)). Knows (actors_after (world settings events) event) o k)
    (sym (snoc_initial (new_actors settings) events event k))
    (event_knows (world settings events) event (initial_of (new_actors settings) events k) k knows)))

-- ---- it connects once

-- one that is there connects at no event
there_connects : (w : Actors) (event : Event) (k : ℕ) (p : Mobile) → mobile_of w k ≡ Some p → initial_at w event k ≡ None
there_connects w (Connect number station initial accepts) k p found = by (nat_eq number k) refl where
  refused : number ≡ k → is_new w number && is_station_up w station && is_none (refusal_of_connect (Some initial)) ≡ true → ⊥
  refused is may =
      none-some p
      (sym (new_absent w number
      (and_left (is_new w number) (is_station_up w station)
      (and_left (is_new w number && is_station_up w station) (is_none (refusal_of_connect (Some initial))) may)))
      ∙ ap (mobile_of w) is ∙ found)

  by_may : (c : Bool) (x : Actors) → (c ≡ true → ⊥) → (if true && is_some (only_if c x) then Some initial else None) ≡ None
  by_may true x not = absurd (not refl)
  by_may false x not = refl

  by : (b : Bool) → nat_eq number k ≡ b
      → (if b && is_some (after_connecting w number station initial accepts) then Some initial else None) ≡ None
  by true hit =
      by_may (is_new w number && is_station_up w station && is_none (refusal_of_connect (Some initial))) _ (refused (eqb-true number k hit))
  by false miss = refl
there_connects w event k p found = refl

pub mobiles_connect_once_new : (settings : Parameters) (events : List Event) (event : Event) → MobilesConnectOnce settings events event
mobiles_connect_once_new settings events event k initial is = by (run_knows settings k events) where
  by : Knows (world settings events) (initial_of (new_actors settings) events k) k → initial_at (world settings events) event k ≡ None
  by (never absent unknown) = absurd (none-some initial (sym unknown ∙ is))
  by (once p x found connected_with begins) = there_connects (world settings events) event k p found
