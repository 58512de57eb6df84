-- SPDX-License-Identifier: MIT OR Apache-2.0
-- The facts that the order of a run rests on hold: they are laws elsewhere, here in the form in
-- which they are used.
use Rattle.world_laws.proofs.Prelude.{◌≡◌, ℕ, ◌≤◌, Bool, true, false, List, [], ◌∷◌, ◌++◌, Option, Some, None, inl, inr, refl, sym, subst}
use Rattle.world_laws.proofs.Prelude.{AllByRecursion, SWITCH_LINK, State, WaitActivation, WaitEstablish}
use Rattle.world_laws.proofs.Prelude.{Connection, connection_of, IsOctetStep, AreAllowed, Parameters, Event}
use Rattle.world_laws.proofs.Prelude.{actors_after, all_steps, step_at, Actors, is_up, modulus_in, new_actors, place_of, TookOctets}
use Rattle.world_laws.proofs.Prelude.{IsHad, IsAlone, is_of_others, IsComing, Quiet, HasBegun, TakesOctets, HasNotAsked, IsEarlyIn}
use Rattle.world_laws.proofs.Prelude.{IsUnknownToSwitch, IsFreshIn, has_asked, AllRunsAreInOrder, Facts, IsComingTo, HasAccess, requests}
use Rattle.world_laws.proofs.StationTakes.{stations_keep_line_ups_new}
use Rattle.world_laws.specs.Access.Arriving.{IsKnown}
use Rattle.world_laws.proofs.Access.CameLaw.{controller_brings_coming_new}
use Rattle.world_laws.proofs.Access.Coming.{others_keep_coming_new}
use Rattle.world_laws.proofs.Access.Opened.{opened_remain_opened_new}
use Rattle.world_laws.proofs.Channels.BegunRun.{established_are_active_new, served_are_active_new}
use Rattle.world_laws.proofs.Order.Begun.{channels_begin_quiet_new}
use Rattle.world_laws.proofs.Order.Down.{channels_remain_quiet_new, quiet_lets_none_go_new}
use Rattle.world_laws.proofs.References.Always.{peers_differ_new}
use Rattle.world_laws.proofs.Channels.RoleAcks.{acknowledgements_agree_new, old_channels_end_new}
use Rattle.world_laws.proofs.Handling.Continuing.{live_connections_continue_new}
use Rattle.world_laws.proofs.Owners.Alone.{connections_are_alone_new}
use Rattle.world_laws.proofs.Owners.OneEach.{connections_are_one_each_new}
use Rattle.world_laws.proofs.Order.Coming.{connections_begin_coming_new}
use Rattle.world_laws.proofs.References.Heard.{dropped_are_unheard_new, switch_delivers_or_refuses_new, unasked_are_unheard_of_new}
use Rattle.world_laws.proofs.References.Heard.{unknown_remain_unknown_new}
use Rattle.world_laws.proofs.References.Over.{over_puts_no_more_new}
use Rattle.world_laws.proofs.Targets.RemainsFresh.{fresh_means_new, targets_remain_fresh_new}
use Rattle.world_laws.specs.Order.Facts.{Holds, HoldsAt, IsAsking}
use Rattle.world_laws.proofs.Order.Controllers.{none_given, octets_front}
use Rattle.world_laws.proofs.Order.Fairly.{ArriveInOctets-new}
use Rattle.world_laws.proofs.Order.InOrder.{runs_are_in_order_new}
use Rattle.world_laws.proofs.Events.{snoc_actors, snoc_steps, world}
use Rattle.world_laws.specs.Access.Requested.HasAccess.{on_its_way, no_more}
use Rattle.world_laws.specs.Order.Beginning.HasBegun.{not_yet, begins}
use Rattle.world_laws.proofs.Framing.{all_right}

-- ---- words

-- what is taken at the last event is octets
takes_octets : (settings : Parameters) (events : List Event) (event : Event) →
    TookOctets settings (events ++ event ∷ []) →
    TakesOctets (world settings events) event
takes_octets settings events event octets =
    all_right IsOctetStep (all_steps (new_actors settings) events) (step_at (world settings events) event)
    (subst (AllByRecursion IsOctetStep) (snoc_steps (new_actors settings) events event) octets)

-- a connection that hasn't asked is early
early_of : (state : State) → has_asked state ≡ false → IsEarlyIn state
early_of WaitActivation isnt = tt
early_of WaitEstablish isnt = tt
early_of _ isnt = absurd (cc isnt)

asking_has_not_asked : (w : Actors) (number : ℕ) → IsAsking (connection_of w.controller number) → HasNotAsked w number
asking_has_not_asked w number asking = by (connection_of w.controller number) refl asking where
  by : (o : Option Connection) → connection_of w.controller number ≡ o → IsAsking o → HasNotAsked w number
  by None is isnt = elim isnt [ ]
  by (Some s) is early = record { own = s; there = is; is_early = early_of s.state early }

unasked : (state : State) → IsEarlyIn state → has_asked state ≡ false
unasked WaitActivation early = refl
unasked WaitEstablish early = refl
unasked _ early = elim early [ ]

coming_unasked : {m : ℕ} {w : Actors} {mobile : ℕ} {s : Connection} → IsComing m w mobile s → HasNotAsked w s.number
coming_unasked {s = s} coming = record { own = s; there = coming.had.there; is_early = coming.early }

-- ---- of each world

holds_of : (settings : Parameters) (events : List Event) → AreAllowed settings → TookOctets settings events
    → Holds (modulus_in settings) (world settings events)
holds_of settings events allowed octets =
    let w : Actors = world settings events in
    record {
      alone = λ s had. connections_are_alone_new settings events s allowed octets had;
      agree = λ s had. acknowledgements_agree_new settings events s allowed octets had;
      end_last = λ s had. (old_channels_end_new settings events s allowed octets had).old;
      active = λ s station had requested up. served_are_active_new settings events station s allowed octets had requested up;
      stations = λ station mobile s active lined. stations_keep_line_ups_new settings events station mobile s active lined;
      not_given = λ number from_one next. unasked_are_unheard_of_new settings events number allowed octets from_one (inl next);
      not_asked = λ number from_one asking. unasked_are_unheard_of_new settings events number allowed octets from_one (inr (asking_has_not_asked w number asking));
      delivers = λ number from_one up. switch_delivers_or_refuses_new settings events number allowed octets from_one up;
      peers = peers_differ_new settings events allowed octets;
      is_coming = λ mobile s coming. (coming.0.had, unasked s.state coming.0.early);
      fresh_first = λ p s waits. subst (IsFreshIn w p) (sym waits) tt;
      fresh_means = λ p s fresh. fresh_means_new w p s fresh;
    }

-- what a connection that is coming takes as known
known_of : (settings : Parameters) (events : List Event) (mobile : ℕ) (s : Connection) → AreAllowed settings → TookOctets settings events
    → IsComingTo (modulus_in settings) (world settings events) mobile s → IsKnown (modulus_in settings) (world settings events) mobile s
known_of settings events mobile s allowed octets coming =
    let w : Actors = world settings events in
    let unknown_for_good : IsUnknownToSwitch w s.number = unasked_are_unheard_of_new settings events s.number allowed octets coming.0.had.from_one (inr (coming_unasked coming.0)) in
    record {
      alone = subst (λ (n : ℕ). IsAlone w n s) coming.0.asked (connections_are_alone_new settings events s allowed octets coming.0.had);
      kept = quiet_lets_none_go_new settings events s allowed octets coming.0.had coming.1;
      active = λ station up waits. established_are_active_new settings events station s allowed octets coming.0.had waits up;
      stations = λ station one t active lined. stations_keep_line_ups_new settings events station one t active lined;
      none_taken = unknown_for_good.none_taken;
      none_waits = unknown_for_good.none_waits;
      delivers = λ up. switch_delivers_or_refuses_new settings events s.number allowed octets coming.0.had.from_one up;
    }

-- ---- of each event

comes_then : (settings : Parameters) (events : List Event) (event : Event) (mobile : ℕ) (s : Connection) → AreAllowed settings → TookOctets settings (events ++ event ∷ [])
    → is_up (world settings events) SWITCH_LINK ≡ true → IsComingTo (modulus_in settings) (world settings events) mobile s
    → HasAccess (IsComingTo (modulus_in settings)) (modulus_in settings) (actors_after (world settings events) event) mobile s.number
comes_then settings events event mobile s allowed octets up coming = by (is_of_others event) refl where
  before : TookOctets settings events
  before = octets_front settings events (event ∷ []) octets

  known : IsKnown (modulus_in settings) (world settings events) mobile s
  known = known_of settings events mobile s allowed before coming

  snoc : world settings (events ++ event ∷ []) ≡ actors_after (world settings events) event
  snoc = snoc_actors (new_actors settings) events event

  unchanged : (next : Connection) →
      next.number ≡ s.number →
      IsComing (modulus_in settings) (actors_after (world settings events) event) mobile next →
      IsComingTo (modulus_in settings) (actors_after (world settings events) event) mobile next
  unchanged next same comes-now = (
    comes-now,
    subst (λ (v : Actors). Quiet v (place_of next.serving)) snoc
        (channels_remain_quiet_new settings events event s next allowed octets coming.0.had coming.0.early same (subst (λ (v : Actors). IsHad v next) (sym snoc) comes-now.had) comes-now.early coming.1),
  )

  came_of : HasAccess (IsComing (modulus_in settings)) (modulus_in settings) (actors_after (world settings events) event) mobile s.number →
      HasAccess (IsComingTo (modulus_in settings)) (modulus_in settings) (actors_after (world settings events) event) mobile s.number
  came_of (on_its_way next same comes-now) = on_its_way next same (unchanged next same comes-now)
  came_of (requests next same waits lined_up served) = requests next same waits lined_up served
  came_of (no_more gone) = no_more gone

  by : (b : Bool) →
      is_of_others event ≡ b →
      HasAccess (IsComingTo (modulus_in settings)) (modulus_in settings) (actors_after (world settings events) event) mobile s.number
  by true others = on_its_way s refl
      (unchanged s refl (others_keep_coming_new settings events event mobile s others allowed known coming.0))
  by false own = came_of (controller_brings_coming_new settings events event mobile s own allowed octets up known (acknowledgements_agree_new settings events s allowed before coming.0.had) (connections_are_one_each_new settings events) coming.0)

begins_then : (settings : Parameters) (events : List Event) (event : Event) (number : ℕ) → AreAllowed settings → TookOctets settings (events ++ event ∷ []) → (world settings events).controller.next_number ≤ number
    → HasBegun (λ v s. IsComing (modulus_in settings) v s.request.access s) (actors_after (world settings events) event) number
    → HasBegun (λ v s. IsComingTo (modulus_in settings) v s.request.access s) (actors_after (world settings events) event) number
begins_then settings events event number allowed octets next (not_yet none) = not_yet none
begins_then settings events event number allowed octets next (begins s same coming) =
    let snoc : world settings (events ++ event ∷ []) ≡ actors_after (world settings events) event = snoc_actors (new_actors settings) events event in
    let past : (world settings events).controller.next_number ≤ s.number = subst (λ (n : ℕ). (world settings events).controller.next_number ≤ n) (sym same) next in
    begins s same (
      coming,
      subst (λ (v : Actors). Quiet v (place_of s.serving)) snoc
          (channels_begin_quiet_new settings events event s allowed octets (none_given settings events s.number past) (subst (λ (v : Actors). IsHad v s) (sym snoc) coming.had) coming.early),
    )

holds_at_of : (settings : Parameters) (events : List Event) (event : Event) → AreAllowed settings → TookOctets settings (events ++ event ∷ [])
    → HoldsAt (modulus_in settings) (world settings events) event
holds_at_of settings events event allowed octets =
    let w : Actors = world settings events in
    let before : TookOctets settings events = octets_front settings events (event ∷ []) octets in
    let takes : TakesOctets w event = takes_octets settings events event octets in
    record {
      unknown_remains = λ number from_one unknown_for_good. unknown_remain_unknown_new settings events event number allowed before takes from_one unknown_for_good;
      remains_over = λ number from_one past closed.
          let over = over_puts_no_more_new settings events event number allowed before takes from_one (record { past = past; closed = closed }) in
          record { puts = over.0; gone = over.1.closed; past = over.1.past };
      steps_unheard = λ number from_one asking gone. dropped_are_unheard_new settings events event number allowed before takes from_one (asking_has_not_asked w number asking) gone;
      fresh = λ mobile s next q lined_up alone agree fresh same had found. targets_remain_fresh_new settings events event mobile s next q allowed octets lined_up alone fresh same had found;
      opened = λ mobile s next lined_up alone agree same had fresh lined. opened_remain_opened_new settings events event mobile s next lined_up alone same had fresh lined;
      handled = λ mobile s of lined_up agree up. live_connections_continue_new settings events event mobile s of allowed octets up lined_up
          agree;
      begun = λ number from_one up next. begins_then settings events event number allowed octets next (connections_begin_coming_new settings events event number allowed octets from_one next);
      has_access = λ mobile s up coming. comes_then settings events event mobile s allowed octets up coming;
    }

-- ---- so each run is in order

pub facts : (settings : Parameters) → Facts settings
facts settings = record {
  holds = holds_of settings;
  holds_at = holds_at_of settings;
}

pub runs_are_in_order : (settings : Parameters) (events : List Event) → AllRunsAreInOrder settings events
runs_are_in_order settings events allowed octets = runs_are_in_order_new settings events (facts settings) allowed (ArriveInOctets-new settings events allowed octets)
