-- SPDX-License-Identifier: MIT OR Apache-2.0
-- Events by who takes part: the controller, the switch that takes, a station that takes, a link
-- that breaks, or none of these.
use Rattle.world_laws.proofs.Prelude.{◌≡◌, ◌⊎◌, inl, ℕ, Bool, true, false, if◌then◌else◌, [], refl, sym, ap, subst, SWITCH_LINK}
use Rattle.world_laws.proofs.Prelude.{AllByRecursion, Event, BaseTakes, Handle, SwitchTakes, Tick, BaseDown, OutboxEntry, actors_after}
use Rattle.world_laws.proofs.Prelude.{outputs, put, to_link, step_at, Actors, is_up, outbox_of, false≢true, DeliversAt, PutsNoMore}
use Rattle.world_laws.proofs.Prelude.{IsUnknownForGood, DeliversFirst, carried_for, is_beside_relay, is_of_controller}

pub data Kind (w : Actors) (number : ℕ) : Event → Type 0 where
  handles : Kind w number Handle
  ticks : (ms : ℕ) → Kind w number (Tick ms)
  switch_takes : Kind w number SwitchTakes
  station_takes : (station : ℕ) → Kind w number (BaseTakes station)
  breaks : (source : ℕ) → Kind w number (BaseDown source)
  beside : {event : Event} →
      is_beside_relay event ≡ true →
      (is_of_controller event ≡ true → ⊥) →
      step_at w event ≡ [] →
      outputs w event ≡ [] →
      DeliversAt w number event →
      Kind w number event

pub kind : (w : Actors) (number : ℕ) (event : Event) → Kind w number event
kind w number (BaseTakes station) = station_takes station
kind w number Handle = handles
kind w number SwitchTakes = switch_takes
kind w number (Tick ms) = ticks ms
kind w number (BaseDown source) = breaks source
kind w number event = beside refl false≢true refl refl tt

-- ---- the controller works, or it takes and puts nothing

pub data Working (w : Actors) (event : Event) : Type 0 where
  works : is_of_controller event ≡ true → Working w event
  rests : (is_of_controller event ≡ true → ⊥) → step_at w event ≡ [] → outputs w event ≡ [] → Working w event

pub working : {w : Actors} {number : ℕ} {event : Event} → Kind w number event → Working w event
working handles = works refl
working (ticks ms) = works refl
working switch_takes = rests false≢true refl refl
working (beside is not none nothing delivers) = rests not none nothing
working _ = rests false≢true refl refl

-- ---- the switch takes what was put, or what it takes is of a connection that it never hears of

pub delivers_or : {w : Actors} {number : ℕ} {event : Event} →
    Kind w number event →
    DeliversFirst w number (outbox_of w SWITCH_LINK) ⊎ IsUnknownForGood (actors_after w SwitchTakes) number →
    DeliversAt w number event ⊎ IsUnknownForGood (actors_after w event) number
delivers_or handles or = inl tt
delivers_or (ticks ms) or = inl tt
delivers_or switch_takes or = or
delivers_or (beside is not none nothing delivers) or = inl delivers
delivers_or _ or = inl tt

pub delivers_by : {w : Actors} {number : ℕ} {event : Event} →
    Kind w number event →
    DeliversFirst w number (outbox_of w SWITCH_LINK) →
    DeliversAt w number event
delivers_by handles first = tt
delivers_by (ticks ms) first = tt
delivers_by switch_takes first = first
delivers_by (beside is not none nothing delivers) first = delivers
delivers_by _ first = tt

-- ---- nothing is put

pub none_put : (w : Actors) (event : Event) (number : ℕ) → put SWITCH_LINK w event ≡ [] → PutsNoMore w number event
none_put w event number none = subst (AllByRecursion (λ (entry : OutboxEntry). carried_for number entry.out ≡ [])) (sym none) tt

pub quiet_puts : (w : Actors) (event : Event) (number : ℕ) → outputs w event ≡ [] → PutsNoMore w number event
quiet_puts w event number none = none_put w event number (by (is_up w SWITCH_LINK)) where
  by : (b : Bool) → (if b then to_link SWITCH_LINK (outputs w event) else []) ≡ []
  by true = ap (to_link SWITCH_LINK) none
  by false = refl

pub down_puts : (w : Actors) (event : Event) (number : ℕ) → is_up w SWITCH_LINK ≡ false → PutsNoMore w number event
down_puts w event number down = none_put w event number (ap (λ (b : Bool). if b then to_link SWITCH_LINK (outputs w event) else []) down)
