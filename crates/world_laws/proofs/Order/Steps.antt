-- SPDX-License-Identifier: MIT OR Apache-2.0
-- What an event makes of a number's stage.
use Rattle.world_laws.proofs.Prelude.{◌≡◌, ◌⊎◌, inl, inr, ℕ, ◌≤◌, ◌<◌, nat_eq, Bool, true, false, find, List, [], Option, Some, None, refl}
use Rattle.world_laws.proofs.Prelude.{sym, ap, ◌∙◌, subst, arith, true≢false, option_or, cases_Bool, eqb-false, eqb-true, SWITCH_LINK}
use Rattle.world_laws.proofs.Prelude.{Connection, IsThere, connection_of, Controller, SwitchState, Parameters, Event, BaseTakes, BaseDown}
use Rattle.world_laws.proofs.Prelude.{OutboxEntry, actors_after, Actors, is_station_up, is_up, modulus_in, outbox_of, down_after}
use Rattle.world_laws.proofs.Prelude.{down_outbox, DeliversAt, HasEnded, PutsNoMore, is_of_peer, waiting_of, AcksAgree, IsUnknownForGood, IsOpenAndLinedUp}
use Rattle.world_laws.proofs.Prelude.{TargetIsFresh, IsHad, IsRequested, IsAlone, AreLinedUp, DeliversFirst, has_asked, served_by, OnceDown}
use Rattle.world_laws.proofs.Prelude.{Whereabouts, WhileUp, IsComingTo, IsFresh, silent, cut, while_up, once_down, IsUnknownToSwitch, HasAccess, requests}
use Rattle.world_laws.proofs.Prelude.{HasBegun, IsOpenOrEnded, is_of_controller}
use Rattle.controller_model.specs.Views.{forwarded}
use Rattle.world_laws.proofs.BesideRelay.{mobiles_keep_line_ups_new}
use Rattle.world_laws.proofs.Breaks.{station_breaks_keep_line_ups_new}
use Rattle.world_laws.proofs.Ending.{ended_remain_in_order_new, line_ups_may_end_new}
use Rattle.world_laws.proofs.SwitchTakes.{switch_keeps_line_ups_new}
use Rattle.world_laws.proofs.SwitchTook.{waiting_in}
use Rattle.world_laws.specs.Order.Facts.{Holds, HoldsAt, IsAsking}
use Rattle.world_laws.specs.Order.Whereabouts.WhileUp.{unborn, coming, lined_up, ended, unknown_for_good}
use Rattle.world_laws.proofs.Order.Controllers.{controller-remains, given_below, next_rises, none_given_then}
use Rattle.world_laws.proofs.Order.EventKinds.{Kind, Working, kind, working, delivers_by, delivers_or, down_puts, quiet_puts}
use Rattle.world_laws.proofs.Order.EventKinds.Working.{works, rests}
use Rattle.world_laws.proofs.Order.EventKinds.Kind.{handles, ticks, switch_takes, station_takes, breaks, beside}
use Rattle.world_laws.proofs.Order.Openers.{served_absent, served_asking, served-confirming, served_there}
use Rattle.world_laws.proofs.Order.SwitchDown.{break_cuts, outbox_down, station-idle, switch-down}
use Rattle.world_laws.specs.Access.Requested.HasAccess.{on_its_way, no_more}
use Rattle.world_laws.specs.Order.Beginning.HasBegun.{not_yet, begins}
use Rattle.world_laws.specs.Handling.OpenOrEnded.IsOpenOrEnded.{carries_on, is_over}
use Rattle.world_laws.proofs.Events.{world}

-- ---- where the link is down

nothing_waits : (w : Actors) (number : ℕ) → outbox_of w SWITCH_LINK ≡ [] → waiting_of w number ≡ []
unfolding forwarded
nothing_waits w number none = ap (λ (entries : List OutboxEntry). waiting_in entries number) none

-- there is a connection that hasn't asked
pub asking_at : (w : Actors) (number : ℕ) (s : Connection) →
    connection_of w.controller number ≡ Some s →
    has_asked s.state ≡ false →
    IsAsking (connection_of w.controller number)
asking_at w number s there asking = subst IsAsking (sym there) asking

silent_unheard : {w : Actors} {number : ℕ} → IsUnknownForGood w number → IsUnknownToSwitch w number
silent_unheard u = record { none_taken = u.none_taken; none_waits = u.none_waits }

-- what a number with such a state while the link is up is once it is down
once_cut : {m : ℕ} {w : Actors} {opener : Option ℕ} {number : ℕ} →
    1 ≤ number →
    Holds m w →
    outbox_of w SWITCH_LINK ≡ [] →
    WhileUp m w opener number →
    OnceDown m w opener number
once_cut {number = number} from_one holds none (unborn is past) = silent (holds.not_given number from_one past)
once_cut {w = w} {number = number} from_one holds none (coming mobile s is same comes_so) =
    let is_so = holds.is_coming mobile s comes_so in
    silent (holds.not_asked number from_one (subst (λ (n : ℕ). IsAsking (connection_of w.controller n)) same (asking_at w s.number s is_so.0.there is_so.1)))
once_cut {m = m} {w = w} {number = number} from_one holds none (lined_up mobile s is same l fresh) = cut mobile is (subst (HasEnded m w mobile) same (line_ups_may_end_new m w mobile s l.lined)) (nothing_waits w number none)
once_cut {w = w} {number = number} from_one holds none (ended mobile is past gone has) = cut mobile is has (nothing_waits w number none)
once_cut from_one holds none (unknown_for_good u) = silent (silent_unheard u)

-- it has such a state, whether the link is up or not
settle : {m : ℕ} {w : Actors} {opener : Option ℕ} {number : ℕ} →
    1 ≤ number →
    Holds m w →
    (is_up w SWITCH_LINK ≡ false → outbox_of w SWITCH_LINK ≡ []) →
    WhileUp m w opener number →
    Whereabouts m w opener number
settle {m} {w} {opener} {number} from_one holds none at = by (is_up w SWITCH_LINK) refl where
  by : (b : Bool) → is_up w SWITCH_LINK ≡ b → Whereabouts m w opener number
  by true up = while_up up at
  by false down = once_down down (once_cut from_one holds (none down) at)

-- ---- events in which the controller takes no part

-- a line-up is kept, while the switch's link is up
lined_then : (settings : Parameters) (events : List Event) (event : Event) (mobile : ℕ) (s : Connection)
    → Holds (modulus_in settings) (world settings events) → IsHad (world settings events) s → IsRequested s.state
    → IsAlone (world settings events) mobile s → Kind (world settings events) s.number event → (is_of_controller event ≡ true → ⊥)
    → DeliversAt (world settings events) s.number event → is_up (world settings events) SWITCH_LINK ≡ true → is_up (actors_after (world settings events) event) SWITCH_LINK ≡ true
    → AreLinedUp (modulus_in settings) (world settings events) mobile s → AreLinedUp (modulus_in settings) (actors_after (world settings events) event) mobile s
lined_then settings events event mobile s holds had requested alone handles not delivers up up_then lined = absurd (not refl)
lined_then settings events event mobile s holds had requested alone (ticks ms) not delivers up up_then lined = absurd (not refl)
lined_then settings events event mobile s holds had requested alone switch_takes not delivers up up_then lined = switch_keeps_line_ups_new settings events mobile s delivers lined
lined_then settings events event mobile s holds had requested alone (station_takes station) not delivers up up_then lined =
    by (is_station_up (world settings events) station) refl where
      by : (b : Bool) →
          is_station_up (world settings events) station ≡ b →
          AreLinedUp (modulus_in settings) (actors_after (world settings events) (BaseTakes station)) mobile s
      by true station_up = holds.stations station mobile s (holds.active s station had requested station_up) lined
      by false station_down = subst (λ (w : Actors). AreLinedUp (modulus_in settings) w mobile s) (sym (station-idle (world settings events) station station_down)) lined
lined_then settings events event mobile s holds had requested alone (breaks source) not delivers up up_then lined = elim (cases_Bool (nat_eq source SWITCH_LINK)) [
  | inl hit ↦ absurd (cut_off (eqb-true source SWITCH_LINK hit))
  | inr miss ↦ station_breaks_keep_line_ups_new settings events source mobile s (eqb-false source SWITCH_LINK miss) (holds.end_last s had) lined
] where
  w : Actors
  w = world settings events

  cut_off : source ≡ SWITCH_LINK → ⊥
  cut_off is = true≢false (sym (subst (λ (n : ℕ). is_up (actors_after w (BaseDown n)) SWITCH_LINK ≡ true) is up_then) ∙ break_cuts w up)
lined_then settings events event mobile s holds had requested alone (beside is _ none nothing _) not delivers up up_then lined = mobiles_keep_line_ups_new settings events event mobile s is alone lined

-- ---- a number that is cut off remains so, whatever happens

pub cut_then : (settings : Parameters) (events : List Event) (event : Event) {opener : Option ℕ} (number : ℕ) → is_up (world settings events) SWITCH_LINK ≡ false
    → OnceDown (modulus_in settings) (world settings events) opener number
    → OnceDown (modulus_in settings) (actors_after (world settings events) event) (option_or opener (served_by (actors_after (world settings events) event) number)) number
cut_then settings events event {opener} number down at = by at where
  w : Actors
  w = world settings events

  v : Actors
  v = actors_after w event

  waits : waiting_of v number ≡ []
  waits = nothing_waits v number (down_outbox SWITCH_LINK w event (outbox_down settings events) (down_after SWITCH_LINK w event down))

  by : OnceDown (modulus_in settings) w opener number → OnceDown (modulus_in settings) v (option_or opener (served_by v number)) number
  by (silent at) = silent (record { none_taken = ap (λ (s : SwitchState). find (is_of_peer number) s.connections) (switch-down w event down) ∙ at.none_taken; none_waits = waits })
  by (cut mobile is has none) =
      cut mobile (ap (λ (o : Option ℕ). option_or o (served_by v number)) is)
      (ended_remain_in_order_new settings events event mobile number (delivers_by (kind w number event) (subst (DeliversFirst w number) (sym (outbox_down settings events down)) tt)) (down_puts w event number down) has)
      waits

-- ---- an event of a run

module _ (settings : Parameters) (events : List Event) (event : Event) where
  abbrev w : Actors
  w = world settings events

  abbrev v : Actors
  v = actors_after (world settings events) event

  abbrev m : ℕ
  m = modulus_in settings

  -- what holds before, at and after it
  pub record Around : Type 0 where
    pub before : Holds (modulus_in settings) (world settings events)
    pub at : HoldsAt (modulus_in settings) (world settings events) event
    pub after : Holds (modulus_in settings) (actors_after (world settings events) event)

  abbrev Then : Option ℕ → ℕ → Type 0
  Then opener number = Whereabouts m v (option_or opener (served_by v number)) number

  emptied_then : is_up v SWITCH_LINK ≡ false → outbox_of v SWITCH_LINK ≡ []
  emptied_then down = down_outbox SWITCH_LINK w event (outbox_down settings events) down

  -- who was first served is unchanged
  first_remains : {opener : Option ℕ} {mobile : ℕ} (number : ℕ) → opener ≡ Some mobile → option_or opener (served_by v number) ≡ Some mobile
  first_remains number is = ap (λ (o : Option ℕ). option_or o (served_by v number)) is

  -- and where there was none it is who is served now
  first_now : {opener o : Option ℕ} (number : ℕ) → opener ≡ None → served_by v number ≡ o → option_or opener (served_by v number) ≡ o
  first_now number none is = ap (λ (o : Option ℕ). option_or o (served_by v number)) none ∙ is

  then_up : (opener : Option ℕ) {number : ℕ} →
      Around →
      1 ≤ number →
      WhileUp m v (option_or opener (served_by v number)) number →
      Then opener number
  then_up opener around from_one at = settle from_one around.after emptied_then at

  -- ---- one that is coming

  coming_then : {opener : Option ℕ} (number : ℕ) →
      Around →
      opener ≡ None →
      (mobile : ℕ) (s : Connection) →
      s.number ≡ number →
      IsComingTo m v mobile s →
      WhileUp m v (option_or opener (served_by v number)) number
  coming_then number around none mobile s same comes_so =
      let is_so = around.after.is_coming mobile s comes_so in
      coming mobile s (first_now number none (subst (λ (n : ℕ). served_by v n ≡ None) same (served_asking v s.number s is_so.0.there is_so.1))) same comes_so

  -- ---- a number that is still to be given

  begun_then : {opener : Option ℕ} (number : ℕ) →
      Around →
      1 ≤ number →
      opener ≡ None →
      HasBegun (λ (x : Actors) (t : Connection). IsComingTo m x t.request.access t) v number →
      Then opener number
  begun_then {opener} number around from_one none (not_yet past) = then_up opener around from_one (unborn (first_now number none (served_absent v number (none_given_then settings events event number past))) past)
  begun_then {opener} number around from_one none (begins s same comes_so) = then_up opener around from_one (coming_then number around none s.request.access s same comes_so)

  came_then : {opener : Option ℕ} (number mobile : ℕ) →
      Around →
      1 ≤ number →
      opener ≡ None →
      IsAsking (connection_of w.controller number) →
      HasAccess (IsComingTo m) m v mobile number →
      Then opener number
  came_then {opener} number mobile around from_one none asking (on_its_way s same comes_so) = then_up opener around from_one (coming_then number around none mobile s same comes_so)
  came_then {opener} number mobile around from_one none asking (requests s same state l is) =
      then_up opener around from_one (lined_up mobile s (first_now number none (subst (λ (n : ℕ). served_by v n ≡ Some mobile) same (served_there v s.number s l.had.there ∙ served-confirming v s state ∙ is))) same l (around.after.fresh_first l.lined.one s state))
  came_then {opener} number mobile around from_one none asking (no_more gone) = then_up opener around from_one (unknown_for_good (around.at.steps_unheard number from_one asking gone))

  -- ---- one that ended

  ended_then : {opener : Option ℕ} (number mobile : ℕ) →
      Around →
      1 ≤ number →
      is_up w SWITCH_LINK ≡ true →
      opener ≡ Some mobile →
      number < w.controller.next_number →
      (IsThere (connection_of w.controller number) → ⊥) →
      HasEnded m w mobile number →
      Then opener number
  ended_then {opener} number mobile around from_one up is past gone has = by (delivers_or (kind w number event) (around.before.delivers number from_one up)) where
    by : DeliversAt w number event ⊎ IsUnknownForGood v number → Then opener number
    by (inl delivers) =
        let over = around.at.remains_over number from_one past gone in
        then_up opener around from_one (ended mobile (first_remains number is) over.past over.gone (ended_remain_in_order_new settings events event mobile number delivers over.puts has))
    by (inr u) = then_up opener around from_one (unknown_for_good u)

  -- ---- one that lives

  lives_then : {opener : Option ℕ} (mobile : ℕ) (s : Connection) →
      Around →
      is_up w SWITCH_LINK ≡ true →
      opener ≡ Some mobile →
      (l : IsOpenAndLinedUp m w mobile s) →
      IsFresh w l.lined.one s →
      Then opener s.number
  lives_then {opener} mobile s around up is l is_fresh = by_work (working (kind w s.number event)) where
    from_one : 1 ≤ s.number
    from_one = l.had.from_one

    alone : IsAlone w mobile s
    alone = subst (λ (n : ℕ). IsAlone w n s) l.asked (around.before.alone s l.had)

    agree : AcksAgree w s
    agree = around.before.agree s l.had

    past : s.number < v.controller.next_number
    past = omega (arith, given_below settings events s.number s l.had.there, next_rises settings events event)

    -- the controller works
    worked : IsOpenOrEnded m v mobile s → Then opener s.number
    worked (carries_on next same had requested request lined) =
        let fresh : IsFresh v lined.one next = around.at.fresh mobile s next lined.one l alone agree is_fresh same had lined.found in
        let tells : TargetIsFresh v next = around.after.fresh_means lined.one next fresh in
        then_up opener around from_one (lined_up mobile next (first_remains s.number is) same (record {
          had = had;
          requested = requested;
          asked = ap (λ r. r.access) request ∙ l.asked;
          lined = lined;
          fresh = tells;
          opened = around.at.opened mobile s next l alone agree same had tells lined;
        }) fresh)
    worked (is_over gone has) = then_up opener around from_one (ended mobile (first_remains s.number is) past gone has)

    -- it doesn't
    quiet : (is_of_controller event ≡ true → ⊥) →
        v.controller ≡ w.controller →
        PutsNoMore w s.number event →
        DeliversAt w s.number event ⊎ IsUnknownForGood v s.number →
        Then opener s.number
    quiet not same puts (inr u) = then_up opener around from_one (unknown_for_good u)
    quiet not same puts (inl delivers) = by_link (is_up v SWITCH_LINK) refl where
      had : IsHad v s
      had = record { there = ap (λ (c : Controller). connection_of c s.number) same ∙ l.had.there; is_open = l.had.is_open; from_one = l.had.from_one }

      by_link : (b : Bool) → is_up v SWITCH_LINK ≡ b → Then opener s.number
      by_link true up_then =
          let lined : AreLinedUp m v mobile s = lined_then settings events event mobile s around.before l.had l.requested alone (kind w s.number event) not delivers up up_then l.lined in
          let fresh : IsFresh v lined.one s = around.at.fresh mobile s s lined.one l alone agree is_fresh refl had lined.found in
          let tells : TargetIsFresh v s = around.after.fresh_means lined.one s fresh in
          while_up up_then (lined_up mobile s (first_remains s.number is) refl (record {
            had = had;
            requested = l.requested;
            asked = l.asked;
            lined = lined;
            fresh = tells;
            opened = around.at.opened mobile s s l alone agree refl had tells lined;
          }) fresh)
      by_link false down_then =
          once_down down_then (cut mobile (first_remains s.number is) (ended_remain_in_order_new settings events event mobile s.number delivers puts (line_ups_may_end_new m w mobile s l.lined)) (nothing_waits v s.number (emptied_then down_then)))

    by_work : Working w event → Then opener s.number
    by_work (works of) = worked (around.at.handled mobile s of l agree up)
    by_work (rests not none nothing) = quiet not (controller-remains settings events event none) (quiet_puts w event s.number nothing) (delivers_or (kind w s.number event) (around.before.delivers s.number from_one up))

  -- ---- all

  up_and_then : {opener : Option ℕ} (number : ℕ) →
      Around →
      1 ≤ number →
      is_up w SWITCH_LINK ≡ true →
      WhileUp m w opener number →
      Then opener number
  up_and_then {opener} number around from_one up (unborn none past) = begun_then number around from_one none (around.at.begun number from_one up past)
  up_and_then {opener} number around from_one up (coming mobile s none same comes_so) =
      let is_so = around.before.is_coming mobile s comes_so in
      subst (λ (n : ℕ). Then opener n) same (came_then s.number mobile around is_so.0.from_one none (asking_at w s.number s is_so.0.there is_so.1) (around.at.has_access mobile s up comes_so))
  up_and_then {opener} number around from_one up (lined_up mobile s is same l fresh) = subst (λ (n : ℕ). Then opener n) same (lives_then mobile s around up is l fresh)
  up_and_then {opener} number around from_one up (ended mobile is past gone has) = ended_then number mobile around from_one up is past gone has
  up_and_then {opener} number around from_one up (unknown_for_good u) = then_up opener around from_one (unknown_for_good (around.at.unknown_remains number from_one u))

  pub whereabouts_then : (opener : Option ℕ) (number : ℕ) → Around → 1 ≤ number → Whereabouts m w opener number → Then opener number
  whereabouts_then opener number around from_one (while_up up at) = up_and_then number around from_one up at
  whereabouts_then opener number around from_one (once_down down at) = once_down (down_after SWITCH_LINK w event down) (cut_then settings events event number down at)
