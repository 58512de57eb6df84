-- SPDX-License-Identifier: MIT OR Apache-2.0
-- The numbers of tenures at each event: only that of a channel that its station activates changes.
use Rattle.world_model.proofs.Prelude.{◌≡◌, ◌≢◌, ℕ, zero, suc, ◌+◌, ◌-◌, ◌<◌, Bool, true, false, List, [], ◌∷◌, length, get_or, set}
use Rattle.world_model.proofs.Prelude.{unwrap_or, Option, refl, sym, ap, ◌∙◌, arith, length-set, Place, SWITCH_LINK, CHANNEL_NUMBERS}
use Rattle.world_model.proofs.Prelude.{BaseState, CellParameters, Parameters, AllByRecursion, length-replicate, Event, BaseTakes, BasePush}
use Rattle.world_model.proofs.Prelude.{Handle, SwitchTakes, SwitchDoes, Tick, BaseDown, actors_after, after_base_push, after_break, sccp_in}
use Rattle.world_model.proofs.Prelude.{after_switch_takes, after_switch_does, Actors, Mobile, Spot, Station, new_actors, new_spot}
use Rattle.world_model.proofs.Prelude.{no_station, spot_at, station_of, stations_from, with_base, with_mobile, with_outbox, with_spot}
use Rattle.world_model.proofs.Prelude.{true≢false}
use Rattle.world_model.specs.Life.{event_after}
use Rattle.world_model.proofs.Leads.{OfTaken, switch_takes_leads, switch_took-leads, push_leads, does_leads, broken_leads, after_taken}
use Rattle.world_model.proofs.Ticketing.{spot_all, spot_with_base}
use Rattle.world_model.proofs.Footprints.{Respots, air_after, is_on_air}
use Rattle.world_model.proofs.Footprints.Respots.{short_up}

-- ---- each station has all channels

abbrev pub HasSpots : Station → Type 0
HasSpots s = length s.spots ≡ CHANNEL_NUMBERS

abbrev pub HaveSpots : Actors → Type 0
HaveSpots w = AllByRecursion HasSpots w.stations

pub set_spotted : (stations : List Station) (k : ℕ) (station : Station) →
    length station.spots ≡ length (get_or stations k no_station).spots →
    AllByRecursion HasSpots stations →
    AllByRecursion HasSpots (set stations k station)
set_spotted [] k station same all = tt
set_spotted (first ∷ stations) zero station same all = (same ∙ all.0, all.1)
set_spotted (first ∷ stations) (suc k) station same all = (all.0, set_spotted stations k station same all.1)

pub spotted_at : (stations : List Station) (k : ℕ) →
    k < length stations →
    AllByRecursion HasSpots stations →
    HasSpots (get_or stations k no_station)
spotted_at [] k less all = absurd (omega arith)
spotted_at (first ∷ stations) zero less all = all.0
spotted_at (first ∷ stations) (suc k) less all = spotted_at stations k (omega arith) all.1

-- ---- an event beside the controller that activates nothing

pub record Beside (w v : Actors) : Type 0 where
  pub tenures : (at : Place) → at.station ≢ SWITCH_LINK → (spot_at v at).tenure ≡ (spot_at w at).tenure
  pub controller : v.controller ≡ w.controller
  pub spots : HaveSpots w → HaveSpots v

pub beside_itself : (w : Actors) → Beside w w
beside_itself w = record { tenures = λ at at_is. refl; controller = refl; spots = λ all. all }

-- an end of a station changes
pub based : {w u : Actors} (n : ℕ) (base : BaseState) → Beside w u → Beside w (with_base n base u)
based {w} {u} n base b = record {
  tenures = λ at at_is. ap (λ (s : Spot). s.tenure) (spot_with_base n base u at) ∙ b.tenures at at_is;
  controller = b.controller;
  spots = λ all. set_spotted u.stations (n - 1) (record (station_of u n) { base = base }) refl (b.spots all);
}

-- a channel changes, but not its tenure
pub spotted : {w u : Actors} (p : Place) (spot : Spot) →
    p.station ≢ SWITCH_LINK →
    spot.tenure ≡ (spot_at u p).tenure →
    Beside w u →
    Beside w (with_spot p spot u)
spotted {w} {u} p spot p_is same b = record {
  tenures = spot_all (λ (at : Place) (s : Spot). s.tenure ≡ (spot_at w at).tenure) u p spot p_is (same ∙ b.tenures p p_is) b.tenures;
  controller = b.controller;
  spots = λ all. set_spotted u.stations (p.station - 1) _ (length-set (station_of u p.station).spots p.number spot) (b.spots all);
}

-- a mobile changes
pub put : {w u : Actors} (p : Mobile) → Beside w u → Beside w (with_mobile p u)
put p b = record { tenures = b.tenures; controller = b.controller; spots = b.spots }

besides : (w : Actors) (o : Option Actors) → OfTaken (Beside w) o → Beside w (unwrap_or o w)
besides w o leads = after_taken (Beside w) o w leads (beside_itself w)

-- the controller does nothing, and no station takes an entry
abbrev pub is_beside : Event → Bool
is_beside Handle = false
is_beside (Tick ms) = false
is_beside (BaseTakes station) = false
is_beside event = true

-- a channel has the tenure that it had
respot_tenure : {w u : Actors} {event : Event} {at : Place} {spot : Spot} → Respots w u event at spot → spot.tenure ≡ (spot_at u at).tenure
respot_tenure (short_up number tenure reached) = refl
respot_tenure _ = refl

air_beside : (w : Actors) (event : Event) → is_on_air event ≡ true → is_beside event ≡ true → Beside w (actors_after w event)
air_beside w event on is = air_after (Beside w) w event on (record {
  puts = λ u number p q _ _ _ b. put q b;
  joins = λ number initial accepts _ b. record { tenures = b.tenures; controller = b.controller; spots = b.spots };
  tells = λ u n message _ _ b. based n _ b;
  spots = λ u at spot at_is how b. spotted at spot at_is (respot_tenure how) b;
  pops = λ station others _ b. record { tenures = b.tenures; controller = b.controller; spots = b.spots };
  activates = λ u s a taken _ b. absurd (true≢false (sym is ∙ ap is_beside taken.event_is));
  releases = λ u s channel taken b. absurd (true≢false (sym is ∙ ap is_beside taken.event_is));
}) (beside_itself w)

pub beside_step : (w : Actors) (event : Event) → is_beside event ≡ true → Beside w (actors_after w event)
unfolding event_after
beside_step w (BaseTakes station) is = absurd cc
beside_step w (BasePush source) is =
    besides w (after_base_push w source) (push_leads (Beside w) w source (λ first others. record { tenures = λ at at_is. refl; controller = refl; spots = λ all. all })
    (λ message _. let b = based source _ (beside_itself w) in record { tenures = b.tenures; controller = b.controller; spots = b.spots }))
beside_step w Handle is = absurd cc
beside_step w SwitchTakes is =
    besides w (after_switch_takes w) (switch_takes_leads (Beside w) w (λ first others _ _. switch_took-leads (Beside w) (with_outbox SWITCH_LINK others w) (sccp_in first.out.frame) (record { tenures = λ at at_is. refl; controller = refl; spots = λ all. all })
    (λ nows made. record { tenures = λ at at_is. refl; controller = refl; spots = λ all. all })))
beside_step w (SwitchDoes action) is = besides w (after_switch_does w action) (does_leads (Beside w) w action (λ nows made. record { tenures = λ at at_is. refl; controller = refl; spots = λ all. all }))
beside_step w (Tick ms) is = absurd cc
beside_step w (BaseDown source) is =
    besides w (after_break w source) (broken_leads (Beside w) w source (λ _ _. record { tenures = λ at at_is. refl; controller = refl; spots = λ all. all })
    (λ _ _. record {
      tenures = λ at at_is. ap (λ (s : Spot). s.tenure) (spot_with_base source _ w at);
      controller = refl;
      spots = λ all. set_spotted w.stations (source - 1) _ refl all;
    }))
beside_step w event is = air_beside w event refl is

-- ---- at the beginning

stations_spotted : (from : ℕ) (cells : List CellParameters) → AllByRecursion HasSpots (stations_from from cells)
stations_spotted from [] = tt
stations_spotted from (cell ∷ cells) = (length-replicate CHANNEL_NUMBERS new_spot, stations_spotted (from + 1) cells)

pub HaveSpots-new : (settings : Parameters) → HaveSpots (new_actors settings)
HaveSpots-new settings = stations_spotted 1 settings.cells
