-- SPDX-License-Identifier: MIT OR Apache-2.0
-- A mobile that asked arrives on the serving channel: from then on it is lined up with its
-- connection.
use Rattle.world_laws.proofs.Prelude.{◌≡◌, ◌≢◌, ℕ, ◌&&◌, nat_eq, Bool, true, false, List, [], ◌∷◌, ◌++◌, None, refl, sym, ap, ◌∙◌, subst}
use Rattle.world_laws.proofs.Prelude.{eq-eqb, SWITCH_LINK, WaitEstablish, Connection, is_at, IsValid, IsValidState, place_of, empty_tenure}
use Rattle.world_laws.proofs.Prelude.{DataLinkState, On, Actors, Mobile, is_station_up, tenure_at, Alive, sound, remains, flow, fresh}
use Rattle.world_laws.proofs.Prelude.{messages_in, on_serving, coming_up, going_down, assembled, line_up, taken_of, waiting_of, LinedUp}
use Rattle.world_laws.proofs.Prelude.{IsNew}
use Rattle.world_laws.specs.LineUp.Alive.Follows.{carries_on}
use Rattle.world_laws.specs.LineUp.Alive.ChangePhase.{opens}
use Rattle.world_laws.specs.LineUp.Places.{Item}
use Rattle.world_laws.proofs.LineUp.Following.{follows_line}
use Rattle.mobile_end.specs.RunsToEnd.{RunsToEnd}
use Rattle.world_laws.specs.Seated.Remembers.{nothing}
use Rattle.world_laws.specs.Seated.Sits.{unchanged}

-- nothing arrived, and the link of its station is up: the initial message, whatever it is, is still
-- to arrive
begin_alive : {m : ℕ} (sent : List (List ℕ)) (link : DataLinkState) (items : List Item) → messages_in items ≡ [] → RunsToEnd m sent [] link
    → Alive m (assembled sent link on_serving WaitEstablish 0 [] (record { hold = []; items = items; is_lost = false; is_done = false }) fresh [] [])
begin_alive {m} sent link items none runs = record {
  follows = follows_line (ap (λ (xs : List (List ℕ)). flow xs ++ []) (sym none)) (carries_on runs);
  first = λ is. refl;
  phase = opens remains refl;
  condition = sound;
  bare = refl;
}

-- before its connection request nothing is held, and nothing drains
pub record IsBareOf (s : Connection) : Type 0 where
  pub draining : s.draining ≡ []
  pub tenures : s.up.tenures ≡ empty_tenure ∷ []

pub bare_of : (s : Connection) → s.state ≡ WaitEstablish → IsValid s → IsBareOf s
bare_of s is valid = let bare = (subst (λ (x : _). IsValidState x s.draining s.down s.up.tenures s.link s.waits) is valid.state).0 in record { draining = bare.none_drains; tenures = bare.one_tenure }

pub begins_lined : {m : ℕ} (w : Actors) (p : Mobile) (s : Connection) → s.state ≡ WaitEstablish → IsBareOf s → s.serving.station ≢ SWITCH_LINK → p.seat ≡ On (tenure_at w (place_of s.serving)) None → IsNew m p → is_station_up w s.serving.station ≡ true
    → messages_in (coming_up w (place_of s.serving)) ≡ [] → going_down w (place_of s.serving) ≡ [] → waiting_of w s.number ≡ [] → taken_of w s.number ≡ [] → LinedUp m w p s
begins_lined {m} w p s state bare placed seat new up none uncommanded unsaid untaken = record {
  alive = subst (Alive m) (sym reads) (begin_alive p.end.sent p.end.zero (coming_up w (place_of s.serving)) none new.carries_on);
  sits = rw (state, seat) (unchanged refl nothing);
  led = rw (uncommanded) tt;
  none_on_target = rw (state) tt;
  apart = rw (bare.draining, state) (tt, tt);
  placed = rw (bare.draining, state) (placed, tt);
} where
  here : is_at (place_of s.serving) s.serving ≡ true
  here = ap (λ (b : Bool). b && nat_eq s.serving.number s.serving.number) (eq-eqb s.serving.station s.serving.station refl) ∙ eq-eqb s.serving.number s.serving.number refl

  reads : line_up w p s ≡ assembled p.end.sent p.end.zero on_serving WaitEstablish 0 [] (record { hold = []; items = coming_up w (place_of s.serving); is_lost = false; is_done = false }) fresh [] []
  reads = rw (state, bare.draining, bare.tenures, seat, here, uncommanded, unsaid, untaken, up) refl
