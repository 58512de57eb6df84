-- SPDX-License-Identifier: MIT OR Apache-2.0
-- A channel on which no DATA REQUEST was put since its activation has nothing in its air.
use Rattle.world_laws.proofs.Prelude.{◌≡◌, ◌≢◌, ◌⊎◌, inl, inr, ℕ, ◌==◌, ◌&&◌, not, Bool, true, false, if◌then◌else◌, List, [], ◌∷◌, ◌++◌}
use Rattle.world_laws.proofs.Prelude.{Option, Some, refl, sym, ap, ◌∙◌, subst, eqb-true, AllByRecursion, Place, SWITCH_LINK}
use Rattle.world_laws.proofs.Prelude.{AllByRecursion-append, is_active, Rsl, Event, BaseTakes, SwitchTakes, OutboxEntry, actors_after}
use Rattle.world_laws.proofs.Prelude.{active_all, is_active_then, first_of, put, taken, rsl_in, Actors, Link, is_active_at, is_up}
use Rattle.world_laws.proofs.Prelude.{outbox_of, spot_at, outbox-step, OutboxStep, breaks, PipeStep, flows, stops, is_some, event_after}
use Rattle.world_laws.proofs.Prelude.{NoDataEntry, NoDataOn, Quiet, Waits, here, later}
use Rattle.rsl_codec.specs.declared.rsl.Rsl.TheVariants as rsl
use Rattle.world_model.proofs.Outboxes.Step.{kept_order}
use Rattle.world_laws.proofs.Framing.{all_right}
use Rattle.world_laws.proofs.Targets.Calm.{down_active}
use Rattle.world_laws.proofs.Order.AirDown.{air_step}
use Rattle.world_laws.specs.Order.QuietDown.{activates}
use Rattle.world_laws.specs.Order.QuietDown.Quiet.{begun, waits}

abbrev pub IsIdle : Actors → Place → Type 0
IsIdle w at = is_active_at w at ≡ false → (spot_at w at).air ≡ []

pub quiet_air : (w : Actors) (at : Place) → IsIdle w at → Quiet w at → (spot_at w at).air ≡ []
quiet_air w at idle (waits inactive waiting) = idle inactive
quiet_air w at idle (begun none nothing) = none

waits_append : (k : ℕ) {xs : List OutboxEntry} (ys : List OutboxEntry) → Waits k xs → AllByRecursion (NoDataEntry k) ys → Waits k (xs ++ ys)
waits_append k ys (here {entries = xs} is none) nothing = here is (AllByRecursion-append (NoDataEntry k) xs ys none nothing)
waits_append k ys (later isnt rest) nothing = later isnt (waits_append k ys rest nothing)

First : ℕ → OutboxEntry → List OutboxEntry → Type 0
First k x xs = ((activates k (rsl_in x.out.frame) ≡ true) × AllByRecursion (NoDataEntry k) xs) ⊎ ((activates k (rsl_in x.out.frame) ≡ false) × Waits k xs)

behind_first : (k : ℕ) (x : OutboxEntry) (xs : List OutboxEntry) → Waits k (x ∷ xs) → First k x xs
unfolding First
behind_first k x xs (here is none) = inl (is, none)
behind_first k x xs (later isnt rest) = inr (isnt, rest)

pub remains_inactive : (k : ℕ) (o : Option Rsl) → activates k o ≡ false → is_active_then k false o ≡ false
remains_inactive k (Some (rsl.ChannelActivation a)) isnt = isnt
remains_inactive k (Some (rsl.RfChannelRelease number)) isnt = by (number == k) where
  by : (b : Bool) → not b && false ≡ false
  by true = refl
  by false = refl
remains_inactive k _ isnt = refl

no_data : (k : ℕ) (o : Option Rsl) → activates k o ≡ true → NoDataOn k o
no_data k o is = λ d says same. absurd (let both : true ≡ false = sym is ∙ ap (activates k) says in cc)

-- ---- what is taken

data TakenBy (n : ℕ) (w : Actors) (event : Event) : Type 0 where
  nobody : taken n w event ≡ [] → TakenBy n w event
  one : (x : OutboxEntry) (xs : List OutboxEntry) → outbox_of w n ≡ x ∷ xs → taken n w event ≡ x ∷ [] → TakenBy n w event

abbrev first_by : Bool → Bool → List OutboxEntry → List OutboxEntry
first_by a b xs = if a then (if b then first_of xs else []) else []

taken_by : (n : ℕ) (w : Actors) (event : Event) → n ≢ SWITCH_LINK → TakenBy n w event
taken_by n w (BaseTakes station) n_is = by (station == n) refl (is_some (event_after w (BaseTakes station))) refl (outbox_of w n) refl where
  by : (a : Bool) →
      (station == n) ≡ a →
      (b : Bool) →
      is_some (event_after w (BaseTakes station)) ≡ b →
      (xs : List OutboxEntry) →
      outbox_of w n ≡ xs →
      TakenBy n w (BaseTakes station)
  by false miss b taker xs pending = nobody
      (ap (λ (a : Bool). first_by a (is_some (event_after w (BaseTakes station))) (outbox_of w n)) miss)
  by true hit false taker xs pending = nobody (ap (λ (a : Bool). first_by a (is_some (event_after w (BaseTakes station))) (outbox_of w n)) hit ∙ ap (λ (b : Bool). first_by true b (outbox_of w n)) taker)
  by true hit true taker [] pending = nobody (ap (λ (a : Bool). first_by a (is_some (event_after w (BaseTakes station))) (outbox_of w n)) hit ∙ ap (λ (b : Bool). first_by true b (outbox_of w n)) taker ∙ ap first_of pending)
  by true hit true taker (x ∷ xs) pending = one x xs pending (ap (λ (a : Bool). first_by a (is_some (event_after w (BaseTakes station))) (outbox_of w n)) hit ∙ ap (λ (b : Bool). first_by true b (outbox_of w n)) taker ∙ ap first_of pending)
taken_by n w SwitchTakes n_is = by (SWITCH_LINK == n) refl where
  by : (b : Bool) → (SWITCH_LINK == n) ≡ b → TakenBy n w SwitchTakes
  by true hit = absurd (n_is (sym (eqb-true SWITCH_LINK n hit)))
  by false miss = nobody (ap (λ (b : Bool). if b then (if is_some (event_after w SwitchTakes) then first_of (outbox_of w n) else []) else []) miss)
taken_by n w _ n_is = nobody refl

-- ---- an event that puts no DATA REQUEST for it

module _ (w : Actors) (event : Event) (at : Place) (at_is : at.station ≢ SWITCH_LINK) (idle : IsIdle w at) (idle_then : IsIdle (actors_after w event) at) (nothing : AllByRecursion (NoDataEntry at.number) (put at.station w event)) where
  abbrev v : Actors
  v = actors_after w event

  abbrev n : ℕ
  n = at.station

  abbrev k : ℕ
  k = at.number

  -- the link is down
  down_quiet : is_active_at w at ≡ false → is_up v n ≡ false → outbox_of v n ≡ [] → Quiet v at
  down_quiet inactive down empty =
      begun (idle_then (ap (λ (active : List ℕ). is_active active k) (down_active n w event at_is down) ∙ inactive)) (subst (AllByRecursion (NoDataEntry k)) (sym empty) tt)

  waits_step : is_active_at w at ≡ false → Waits k (outbox_of w n) → OutboxStep n w event v → PipeStep n k w event v → Quiet v at
  unfolding First
  waits_step inactive waiting (breaks broken unput none) pipe = down_quiet inactive (ap (λ (l : Link). l.up) broken) (ap (λ (l : Link). l.outbox) broken)
  waits_step inactive waiting (kept_order up all) (stops down left dropped ungiven none) = down_quiet inactive down dropped
  waits_step inactive waiting (kept_order up all) (flows acks active) = by (taken_by n w event at_is) where
    rest : Waits k (taken n w event ++ outbox_of v n)
    rest = subst (Waits k) all (waits_append k (put n w event) waiting nothing)

    now : (ts : List OutboxEntry) → taken n w event ≡ ts → is_active_at v at ≡ active_all k false ts
    now ts is = active ∙ ap (λ (b : Bool). active_all k b (taken n w event)) inactive ∙ ap (active_all k false) is

    by : TakenBy n w event → Quiet v at
    by (nobody none) = waits (now [] none) (subst (λ (ts : List OutboxEntry). Waits k (ts ++ outbox_of v n)) none rest)
    by (one x xs pending is) = elim (behind_first k x (outbox_of v n) (subst (λ (ts : List OutboxEntry). Waits k (ts ++ outbox_of v n)) is rest)) [
      | inl own ↦ begun (air_step at at_is w event (λ first others takes outbox_is. subst (NoDataEntry k) (same_first (sym pending ∙ outbox_is)) (no_data k (rsl_in x.out.frame) own.0)) (idle inactive)) own.1
      | inr other ↦ waits (now (x ∷ []) is ∙ remains_inactive k (rsl_in x.out.frame) other.0) other.1
    ] where
      same_first : {a b : OutboxEntry} {xs ys : List OutboxEntry} → a ∷ xs ≡ b ∷ ys → a ≡ b
      same_first e = cc

  begun_step : (spot_at w at).air ≡ [] → AllByRecursion (NoDataEntry k) (outbox_of w n) → OutboxStep n w event v → Quiet v at
  begun_step none waiting out = begun (air_step at at_is w event (λ first others takes outbox_is. (subst (AllByRecursion (NoDataEntry k)) outbox_is waiting).0) none) (by out) where
    by : OutboxStep n w event v → AllByRecursion (NoDataEntry k) (outbox_of v n)
    by (breaks broken unput untaken) = subst (λ (l : Link). AllByRecursion (NoDataEntry k) l.outbox) (sym broken) tt
    by (kept_order up all) = all_right (NoDataEntry k) (taken n w event) (outbox_of v n) (subst (AllByRecursion (NoDataEntry k)) all (AllByRecursion-append (NoDataEntry k) (outbox_of w n) (put n w event) waiting nothing))

  pub quiet_step : PipeStep n k w event v → Quiet w at → Quiet v at
  quiet_step pipe (waits inactive waiting) = waits_step inactive waiting (outbox-step n w event) pipe
  quiet_step pipe (begun none waiting) = begun_step none waiting (outbox-step n w event)
