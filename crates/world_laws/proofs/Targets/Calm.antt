-- SPDX-License-Identifier: MIT OR Apache-2.0
-- Links and stations at each event: a link breaks at a break alone, and where it is down its
-- station's channels are unchanged.
use Rattle.world_laws.proofs.Prelude.{◌≡◌, ◌≢◌, ℕ, Bool, true, false, List, [], ◌∷◌, ◌++◌, unwrap_or, Option, Some, refl, sym, ap, ◌∙◌}
use Rattle.world_laws.proofs.Prelude.{append-nil, Place, SWITCH_LINK, place_at, BaseState, first_message, first_of_messages}
use Rattle.world_laws.proofs.Prelude.{messages_behind_first, Rsl, Event, BasePush, Handle, SwitchTakes, SwitchDoes, Tick, BaseDown}
use Rattle.world_laws.proofs.Prelude.{OutboxEntry, actors_after, after_base_push, after_handle, after_tick, after_break, sccp_in}
use Rattle.world_laws.proofs.Prelude.{after_switch_takes, after_switch_does, Actors, Link, Spot, base_of, broken_link, is_up, link_of}
use Rattle.world_laws.proofs.Prelude.{with_base, with_outbox, with_spot, Plain, base-elsewhere, base_with_spot, up_right, as_before}
use Rattle.world_laws.proofs.Prelude.{ends_now, handle_leads, push_leads, broken_leads, switch_takes_leads, switch_took-leads, does_leads}
use Rattle.world_laws.proofs.Prelude.{after_taken, handle_turned, tick-turned, air_after, is_on_air, true≢false, breaking, up_and_down}
use Rattle.world_laws.proofs.Prelude.{is_station_up}
use Rattle.world_model.specs.Honest.{given}
use Rattle.world_model.specs.Life.{event_after}
use Rattle.world_model.proofs.Honesty.{step, Step}
use Rattle.world_model.proofs.Honesty.Acts.{acts, rests}
use Rattle.world_model.proofs.Honesty.Plain.{next}
use Rattle.world_model.proofs.Honesty.Step.{acts_then, breaks, gives}
use Rattle.world_model.proofs.Leads.{OfTaken, FromAir}
use Rattle.world_laws.proofs.Spots.{set-same}
use Rattle.world_laws.proofs.Targets.Places.{base-same}

-- the link remains up or down, and where it is down the same channels are active
pub record Calm (n : ℕ) (w v : Actors) : Type 0 where
  pub up : is_up v n ≡ is_up w n
  pub active : is_up w n ≡ false → (base_of v n).active ≡ (base_of w n).active

calm_itself : (n : ℕ) (w : Actors) → Calm n w w
calm_itself n w = record { up = refl; active = λ _. refl }

based : {n : ℕ} {w u : Actors} (m : ℕ) (base : BaseState) → base.active ≡ (base_of u m).active → Calm n w u → Calm n w (with_base m base u)
based {n} {w} {u} m base same c = record { up = c.up; active = λ down. base-same (λ (b : BaseState). b.active) u m n base same ∙ c.active down }

spotted : {n : ℕ} {w u : Actors} (p : Place) (spot : Spot) → Calm n w u → Calm n w (with_spot p spot u)
spotted {n} {w} {u} p spot c = record { up = c.up; active = λ down. ap (λ (b : BaseState). b.active) (base_with_spot p spot u n) ∙ c.active down }

boxed : {n : ℕ} {w : Actors} (m : ℕ) (entries : List OutboxEntry) → Calm n w (with_outbox m entries w)
boxed {n} {w} m entries = record { up = set-same (λ (l : Link). l.up) w.links broken_link m n (record (link_of w m) { outbox = entries }) refl; active = λ _. refl }

-- a change of mobiles, of the inbox, the controller or the switch
plain : {n : ℕ} {w v : Actors} → v.links ≡ w.links → v.stations ≡ w.stations → Calm n w v
plain {n} {w} {v} links stations = record { up = ap (λ (u : Actors). is_up u n) (ap (λ (ls : List Link). record w { links = ls }) links); active = λ _. ap (λ (ss : List _). (base_of (record w { stations = ss }) n).active) stations }

air_calm : (n : ℕ) (w : Actors) (event : Event) → n ≢ 0 → is_on_air event ≡ true → Calm n w (actors_after w event)
air_calm n w event n_is on = air_after (Calm n w) w event on (record {
  puts = λ u number p q _ _ _ c. record { up = c.up; active = c.active };
  joins = λ number initial accepts _ c. record { up = c.up; active = c.active };
  tells = λ u m message _ _ c. based m _ refl c;
  spots = λ u at spot _ _ c. spotted at spot c;
  pops = λ station others _ c. boxed station others;
  activates = λ u s a taken _ c. spotted (place_at s a.channel) _ (record { up = c.up; active = away u s _ taken.up c });
  releases = λ u s channel taken c. spotted (place_at s channel) _ (record { up = c.up; active = away u s _ taken.up c });
}) (calm_itself n w) where
  -- a station whose link is down takes nothing
  away : (u : Actors) (s : ℕ) (base : BaseState) →
      is_station_up w s ≡ true →
      Calm n w u →
      is_up w n ≡ false →
      (base_of (with_base s base u) n).active ≡ (base_of w n).active
  away u s base up c down =
      let s_is = up_right s w up in
      ap (λ (b : BaseState). b.active) (base-elsewhere u n s base n_is s_is.0 (λ same. up_and_down s_is.1 (sym (ap (is_up w) same) ∙ down))) ∙ c.active down

calm : (n : ℕ) (w : Actors) (o : Option Actors) → OfTaken (Calm n w) o → Calm n w (unwrap_or o w)
calm n w o leads = after_taken (Calm n w) o w leads (calm_itself n w)

abbrev pub is_break : Event → Bool
is_break (BaseDown source) = true
is_break _ = false

pub calm_step : (n : ℕ) (w : Actors) (event : Event) → n ≢ 0 → is_break event ≡ false → Calm n w (actors_after w event)
unfolding event_after FromAir OfTaken
calm_step n w (BasePush source) n_is no_break =
    calm n w (after_base_push w source) (push_leads (Calm n w) w source (λ first others. plain refl refl) (λ message _. let c = based {n = n} {w = w} {u = w} source _ refl (calm_itself n w) in record { up = c.up; active = c.active }))
calm_step n w Handle n_is no_break =
    calm n w (after_handle w) (handle_leads (Calm n w) w (λ item items is.
    let turned = handle_turned w (place_at n 0) item items is in record { up = turned.up; active = λ _. ap (λ (b : BaseState). b.active) turned.base }))
calm_step n w SwitchTakes n_is no_break =
    calm n w (after_switch_takes w) (switch_takes_leads (Calm n w) w (λ first others _ _. let c = boxed {n = n} {w = w} SWITCH_LINK others in switch_took-leads (Calm n w) (with_outbox SWITCH_LINK others w) (sccp_in first.out.frame) c (λ next made. record { up = c.up; active = c.active })))
calm_step n w (SwitchDoes action) n_is no_break = calm n w (after_switch_does w action) (does_leads (Calm n w) w action (λ next made. plain refl refl))
calm_step n w (Tick ms) n_is no_break =
    calm n w (after_tick w ms) (let turned = tick-turned w (place_at n 0) ms in record { up = turned.up; active = λ _. ap (λ (b : BaseState). b.active) turned.base })
calm_step n w (BaseDown source) n_is no_break = absurd (true≢false no_break)
calm_step n w event n_is no_break = air_calm n w event n_is refl

-- a break leaves what is active
break_active : (n source : ℕ) (w : Actors) → (base_of (actors_after w (BaseDown source)) n).active ≡ (base_of w n).active
unfolding event_after
break_active n source w = after_taken Same (after_break w source) w (broken_leads Same w source (λ _ _. refl) (λ _ _. base-same (λ (b : BaseState). b.active) w source n _ refl)) refl where
  Same : Actors → Type 0
  Same v = (base_of v n).active ≡ (base_of w n).active

-- ---- once a link is down

pub down_active : (n : ℕ) (w : Actors) (event : Event) →
    n ≢ 0 →
    is_up (actors_after w event) n ≡ false →
    (base_of (actors_after w event) n).active ≡ (base_of w n).active
down_active n w (BaseDown source) n_is down = break_active n source w
down_active n w event n_is down = let c = calm_step n w event n_is refl in c.active (sym c.up ∙ down)

-- what its station made is given, or waits there still, or is lost
abbrev pub MadeIsKept : ℕ → Actors → Event → Type 0
MadeIsKept n w event = (rest : List Rsl) × ((base_of w n).messages ≡ given n w event ++ ((base_of (actors_after w event) n).messages ++ rest))

pub first_and_behind : (messages : List Rsl) (message : Rsl) →
    first_of_messages messages ≡ Some message →
    messages ≡ message ∷ messages_behind_first messages
first_and_behind [] message is = absurd cc
first_and_behind (first ∷ others) message is = ap (λ (m : Rsl). m ∷ others) cc

remains_made : (n : ℕ) (w : Actors) (event : Event) →
    base_of (actors_after w event) n ≡ base_of w n →
    given n w event ≡ [] →
    MadeIsKept n w event
remains_made n w event same nothing =
    let v : Actors = actors_after w event in
    ([], sym (ap (λ (ms : List Rsl). ms ++ ((base_of v n).messages ++ [])) nothing ∙ append-nil (base_of v n).messages ∙ ap (λ (b : BaseState). b.messages) same))

gives_made : (n : ℕ) (w : Actors) (event : Event) (message : Rsl) →
    first_message (base_of w n) ≡ Some message →
    (base_of (actors_after w event) n).messages ≡ messages_behind_first (base_of w n).messages →
    given n w event ≡ message ∷ [] →
    MadeIsKept n w event
gives_made n w event message first same gave =
    let v : Actors = actors_after w event in
    ([], first_and_behind (base_of w n).messages message first ∙ ap (λ (ms : List Rsl). message ∷ ms) (sym same ∙ sym (append-nil (base_of v n).messages)) ∙ ap (λ (ms : List Rsl). ms ++ ((base_of v n).messages ++ [])) (sym gave))

drops_made : (n : ℕ) (w : Actors) (event : Event) →
    (base_of (actors_after w event) n).messages ≡ [] →
    given n w event ≡ [] →
    MadeIsKept n w event
drops_made n w event left nothing = ((base_of w n).messages, sym (ap (λ (ms : List Rsl). ms ++ ((base_of (actors_after w event) n).messages ++ (base_of w n).messages)) nothing ∙ ap (λ (ms : List Rsl). ms ++ (base_of w n).messages) left))

plain_made : (n : ℕ) (w : Actors) (event : Event) → Plain n w event (actors_after w event) → MadeIsKept n w event
plain_made n w event (as_before same nothing) = remains_made n w event same nothing
plain_made n w event (next message first is gave) = gives_made n w event message first (ap (λ (b : BaseState). b.messages) is) gave
plain_made n w event (ends_now down left nothing) = drops_made n w event left nothing

step_made : (n : ℕ) (w : Actors) (event : Event) → Step n w event (actors_after w event) → is_up w n ≡ false → MadeIsKept n w event
step_made n w event (acts_then (rests same) nothing) down = remains_made n w event same nothing
step_made n w event (acts_then (acts calls up is none) nothing) down = absurd (up_and_down up down)
step_made n w event (gives message first is gave) down = gives_made n w event message first (ap (λ (b : BaseState). b.messages) is) gave
step_made n w event (breaks gone left nothing) down = drops_made n w event left nothing

break_made : (n source : ℕ) (w : Actors) → n ≢ 0 → MadeIsKept n w (BaseDown source)
unfolding event_after
break_made n source w n_is = plain_made n w (BaseDown source) (breaking n source w n_is)

pub down_made : (n : ℕ) (w : Actors) (event : Event) → n ≢ 0 → is_up (actors_after w event) n ≡ false → MadeIsKept n w event
down_made n w (BaseDown source) n_is down = break_made n source w n_is
down_made n w event n_is down = step_made n w event (step n w event n_is) (sym (calm_step n w event n_is refl).up ∙ down)
