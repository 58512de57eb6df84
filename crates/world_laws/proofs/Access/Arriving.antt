-- SPDX-License-Identifier: MIT OR Apache-2.0
-- A connection that is coming remains so at each event in which the controller takes no part.
use Rattle.world_laws.proofs.Prelude.{◌≡◌, ◌≢◌, ℕ, ◌==◌, ◌&&◌, nat_eq, not, Bool, true, false, if◌then◌else◌, List, [], ◌∷◌, ◌++◌, map}
use Rattle.world_laws.proofs.Prelude.{Some, None, unwrap_or, refl, sym, ap, ◌∙◌, subst, inl, inr, flat_map, cases_Bool, eqb-true}
use Rattle.world_laws.proofs.Prelude.{eqb-false, flat_map-append, append-nil, Channel, SWITCH_LINK, State, WaitEstablish}
use Rattle.world_laws.proofs.Prelude.{Connection, roles_of, connection_of, Owns, OwnsOpen}
use Rattle.world_laws.proofs.Prelude.{AreUsed, life_owns, life_uses, Free, InUse, Controller, channel_state, place_at, place_of, AreAllowed}
use Rattle.world_laws.proofs.Prelude.{Parameters, Event, actors_after, actors_after_all, with_item, all_steps, switch_took_first, Actors}
use Rattle.world_laws.proofs.Prelude.{Link, base_of, broken_link, is_station_up, is_up, modulus_in, new_actors, outbox_of, spot_at}
use Rattle.world_laws.proofs.Prelude.{with_link, good_all, good_new, after_taken, broken_leads, FollowsTable-new, life, took_first}
use Rattle.world_laws.proofs.Prelude.{brings_in, coming_up, made_of, leading_from_air, leading_from_outbox, commanded_target, waiting_of}
use Rattle.world_laws.proofs.Prelude.{IsUnconfirmed, IsHad, AreLinedUp, is_of_others}
use Rattle.controller_model.specs.Views.{forwarded}
use Rattle.world_laws.specs.LineUp.Places.{Item}
use Rattle.ruled_relay.specs.declared.item.What.TheVariants as whats
use Rattle.world_model.specs.declared.event.Event.TheVariants as events
use Rattle.world_model.specs.Life.{event_after}
use Rattle.world_laws.proofs.BesideRelay.{mobiles_keep_line_ups_new}
use Rattle.world_laws.proofs.Breaks.{station_breaks_keep_line_ups_new}
use Rattle.world_laws.proofs.MobileEvents.{quiet_remains}
use Rattle.world_laws.proofs.Seeing.{SameTenures, SeesSame}
use Rattle.world_laws.proofs.Spots.{set-apart, set-same}
use Rattle.world_laws.proofs.ValidConnections.{connections_are_valid_new}
use Rattle.world_laws.proofs.SwitchTakes.{switch_keeps_line_ups_new}
use Rattle.world_laws.specs.Access.Arriving.{IsKnown}
use Rattle.world_laws.proofs.Access.Beginning.{bare_of}
use Rattle.world_laws.proofs.Access.Passes.{Passes, passes_itself}
use Rattle.world_laws.proofs.Access.Travels.{event_passes}

-- ---- what is so of the connection

-- its channel is of a station
pub serving_placed : (settings : Parameters) (done : List Event) (s : Connection) →
    AreAllowed settings →
    IsHad (actors_after_all (new_actors settings) done) s →
    s.serving.station ≢ SWITCH_LINK
serving_placed settings done s allowed had is =
    let c : Controller = (life settings (all_steps (new_actors settings) done)).next in
    let there : connection_of c s.number ≡ Some s = subst (λ (d : Controller). connection_of d s.number ≡ Some s) (FollowsTable-new settings done) had.there in
    let owns : Owns c.channels c.links s.number (roles_of s) = (subst (OwnsOpen c.channels c.links s.number) there (life_owns settings (all_steps (new_actors settings) done) s.number allowed)) had.is_open in
    let used : AreUsed c = life_uses settings (all_steps (new_actors settings) done) allowed in
    let here : channel_state c (place_of s.serving) ≡ InUse s.number = owns.using.0 in
    let free : channel_state c (place_of s.serving) ≡ Free = ap (λ (n : ℕ). channel_state c (place_at n s.serving.number)) is ∙ used.switch s.serving.number in
    absurd (let both : Free ≡ InUse s.number = sym free ∙ here in cc)

-- it has no command
pub none_target : (state : State) → state ≡ WaitEstablish → commanded_target state ≡ None
none_target state is = rw (is) refl

-- ---- the link of the switch breaks

switch_breaks : (w : Actors) (s : Connection) → s.state ≡ WaitEstablish → s.draining ≡ [] → s.serving.station ≢ SWITCH_LINK → waiting_of w s.number ≡ []
    → SeesSame w (with_item (record { source = SWITCH_LINK; what = whats.Down }) (record (with_link SWITCH_LINK broken_link w) { switch_made = [] })) s
unfolding SameTenures forwarded
switch_breaks w s state draining placed unsaid = record {
  arriving = rw (draining, state) (same_coming s.serving, tt);
  up = λ n. same_up n;
  serving = ap (λ (link : Link). flat_map leading_from_air (spot_at w (place_of s.serving)).air ++ flat_map (leading_from_outbox s.serving.number) link.outbox) (set-apart w.links broken_link SWITCH_LINK s.serving.station broken_link placed);
  target = λ t is. absurd (let both : None ≡ Some t = sym (none_target s.state state) ∙ is in cc);
  tenures = λ at. refl;
  waiting = set-same (λ (link : Link). map (λ f. f.message) (forwarded (map (λ entry. entry.out) link.outbox) s.number)) w.links broken_link SWITCH_LINK SWITCH_LINK broken_link (nothing_waits ∙ sym unsaid);
  taken = refl;
} where
  v : Actors
  v = with_item (record { source = SWITCH_LINK; what = whats.Down }) (record (with_link SWITCH_LINK broken_link w) { switch_made = [] })

  same_coming : (c : Channel) → coming_up v (place_of c) ≡ coming_up w (place_of c)
  same_coming c = ap (λ (xs : List Item). xs ++ made_of c.number (base_of w c.station).messages) (flat_map-append (brings_in (place_of c)) w.inbox (record { source = SWITCH_LINK; what = whats.Down } ∷ []) ∙ append-nil (flat_map (brings_in (place_of c)) w.inbox))

  same_up : (n : ℕ) → is_station_up v n ≡ is_station_up w n
  same_up n = elim (cases_Bool (nat_eq n SWITCH_LINK)) [
    | inl hit ↦ ap (λ (b : Bool). not b && is_up v n) hit ∙ sym (ap (λ (b : Bool). not b && is_up w n) hit)
    | inr miss ↦ ap (λ (link : Link). not (n == SWITCH_LINK) && link.up) (set-apart w.links broken_link SWITCH_LINK n broken_link (eqb-false n SWITCH_LINK miss))
  ]

  nothing_waits : map (λ f. f.message) (forwarded (map (λ entry. entry.out) broken_link.outbox) s.number) ≡ []
  nothing_waits = refl

-- ---- it remains lined up

module _ (settings : Parameters) (done : List Event) (mobile : ℕ) (s : Connection) where
  abbrev world : Actors
  world = actors_after_all (new_actors settings) done

  -- where the event isn't taken
  not_up : (station : ℕ) → is_station_up world station ≡ false → actors_after world (events.BaseTakes station) ≡ world
  unfolding event_after
  not_up station is = ap (λ (b : Bool). unwrap_or (if b then took_first station (outbox_of world station) world else None) world) is

  switch_not_up : is_up world SWITCH_LINK ≡ false → actors_after world events.SwitchTakes ≡ world
  unfolding event_after
  switch_not_up is = ap (λ (b : Bool). unwrap_or (if b then switch_took_first (outbox_of world SWITCH_LINK) world else None) world) is

  unconfirmed : (state : State) → state ≡ WaitEstablish → IsUnconfirmed (Some (record s { state = state })) → ⊥
  unconfirmed state is not_confirmed = absurd (subst (λ (x : State). IsUnconfirmed (Some (record s { state = x }))) is not_confirmed)

  takes_lined : (station : ℕ) →
      s.state ≡ WaitEstablish →
      IsKnown (modulus_in settings) world mobile s →
      AreLinedUp (modulus_in settings) world mobile s →
      AreLinedUp (modulus_in settings) (actors_after world (events.BaseTakes station)) mobile s
  takes_lined station state known lined = elim (cases_Bool (is_station_up world station)) [
    | inl up ↦ known.stations station mobile s (known.active station up state) lined
    | inr down ↦ subst (λ (v : Actors). AreLinedUp (modulus_in settings) v mobile s) (sym (not_up station down)) lined
  ]

  switch_lined : s.state ≡ WaitEstablish →
      IsHad world s →
      IsKnown (modulus_in settings) world mobile s →
      AreLinedUp (modulus_in settings) world mobile s →
      AreLinedUp (modulus_in settings) (actors_after world events.SwitchTakes) mobile s
  switch_lined state had known lined = elim (cases_Bool (is_up world SWITCH_LINK)) [
    | inr down ↦ subst (λ (v : Actors). AreLinedUp (modulus_in settings) v mobile s) (sym (switch_not_up down)) lined
    | inl up ↦ elim (known.delivers up) [
      | inl delivers ↦ switch_keeps_line_ups_new settings done mobile s delivers lined
      | inr not_confirmed ↦
          let passes : Passes world (actors_after world events.SwitchTakes) = after_taken (Passes world) (event_after world events.SwitchTakes) world (event_passes world events.SwitchTakes refl (good_all (new_actors settings) done (good_new settings))) (passes_itself world) in
          let there : connection_of (actors_after world events.SwitchTakes).controller s.number ≡ Some s = ap (λ (c : Controller). connection_of c s.number) passes.controller ∙ had.there in
          absurd (unconfirmed s.state state (subst IsUnconfirmed there not_confirmed.unconfirmed))
    ]
  ]

  breaks_lined : (source : ℕ) →
      s.state ≡ WaitEstablish →
      s.draining ≡ [] →
      s.serving.station ≢ SWITCH_LINK →
      IsKnown (modulus_in settings) world mobile s →
      AreLinedUp (modulus_in settings) world mobile s →
      AreLinedUp (modulus_in settings) (actors_after world (events.BaseDown source)) mobile s
  unfolding event_after
  breaks_lined source state draining placed known lined = elim (cases_Bool (nat_eq source SWITCH_LINK)) [
    | inr miss ↦ station_breaks_keep_line_ups_new settings done source mobile s (eqb-false source SWITCH_LINK miss) (rw (draining) tt) lined
    | inl hit ↦
        let P : Actors → Type 0 = λ v. AreLinedUp (modulus_in settings) v mobile s in
        after_taken P (event_after world (events.BaseDown source)) world
        (broken_leads P world source
        (λ up is. subst (λ (n : ℕ). P (with_item (record { source = n; what = whats.Down }) (record (with_link n broken_link world) { switch_made = [] }))) (sym is) (quiet_remains world _ mobile lined.one lined.found refl (switch_breaks world s state draining placed known.none_waits) lined.lined))
        (λ up isnt. absurd (isnt (eqb-true source SWITCH_LINK hit)))) lined
  ]

  pub remains_lined_up : (event : Event) →
      is_of_others event ≡ true →
      s.state ≡ WaitEstablish →
      AreAllowed settings →
      IsHad world s →
      IsKnown (modulus_in settings) world mobile s →
      AreLinedUp (modulus_in settings) world mobile s →
      AreLinedUp (modulus_in settings) (actors_after world event) mobile s
  remains_lined_up (events.BaseTakes station) is state allowed had known lined = takes_lined station state known lined
  remains_lined_up events.SwitchTakes is state allowed had known lined = switch_lined state had known lined
  remains_lined_up (events.BaseDown source) is state allowed had known lined = breaks_lined source state (bare_of s state (connections_are_valid_new settings done s.number s had.there)).draining (serving_placed settings done s allowed had) known lined
  remains_lined_up events.Handle is state allowed had known lined = absurd cc
  remains_lined_up (events.Tick ms) is state allowed had known lined = absurd cc
  remains_lined_up event is state allowed had known lined = mobiles_keep_line_ups_new settings done event mobile s refl known.alone lined
