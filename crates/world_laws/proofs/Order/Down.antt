-- SPDX-License-Identifier: MIT OR Apache-2.0
-- The serving channel of a connection that is coming remains quiet at each event.
use Rattle.world_laws.proofs.Prelude.{◌≡◌, ◌≢◌, inl, inr, ℕ, zero, suc, ◌-◌, ◌≤◌, ◌<◌, nat_eq, Bool, true, false, if◌then◌else◌, map}
use Rattle.world_laws.proofs.Prelude.{length, List, [], ◌∷◌, ◌++◌, Option, Some, None, refl, sym, ap, ◌∙◌, subst, arith}
use Rattle.world_laws.proofs.Prelude.{cases_Bool, eqb-true, eqb-false, append-nil, AllByRecursion, Place, Message, SWITCH_LINK, outs_of}
use Rattle.world_laws.proofs.Prelude.{Connection, AllByRecursion-filter, Acts, brought_in, connection_of, is_for, outs_for, IsOctetStep}
use Rattle.world_laws.proofs.Prelude.{IsSent, IsNotOn, life_after, Free, InUse, Step, Controller, channel_state, hears, place_of, step}
use Rattle.world_laws.proofs.Prelude.{RelayItem, AreAllowed, Parameters, Event, OutboxEntry, Tenure, actors_after, actors_after_all}
use Rattle.world_laws.proofs.Prelude.{outputs, outputs_at, put, to_link, target_in, all_steps, first_taken, step_at, Actors, is_up}
use Rattle.world_laws.proofs.Prelude.{new_actors, FollowsTable-new, length-stations_from, pipe-step, same_Some, IsFine, life, take, tick}
use Rattle.world_laws.proofs.Prelude.{TookOctets, IsHad, LetsNoneGo, ChannelsRemainQuiet, NoDataEntry, Quiet, QuietLetsNoneGo, IsEarlyIn}
use Rattle.controller_model.specs.declared.step.Step.TheVariants as steps
use Rattle.world_model.specs.declared.event.Event.TheVariants as events
use Rattle.world_model.specs.Relay.{entry_of}
use Rattle.world_model.proofs.Counting.{same_stations}
use Rattle.world_laws.proofs.Channels.Agreeing.{IsPlaced, owns_at, placed_at}
use Rattle.world_laws.proofs.Handling.Finishing.{controller-is, handle_is, tick_is}
use Rattle.world_laws.proofs.Handling.Knowing.{Steps, octets_arrived, steps_known, known}
use Rattle.world_laws.proofs.Targets.FreeQuiet.{Known, known_new}
use Rattle.world_laws.proofs.Order.Avoiding.{OthersPut, others_put}
use Rattle.world_laws.proofs.Order.Early.{Fate, fate}
use Rattle.world_laws.proofs.Order.Early.Fate.{begins, remained}
use Rattle.world_laws.proofs.Order.NoData.{NoDataOut, by_each, entries_none, messages_none, pong_none}
use Rattle.world_laws.proofs.Order.QuietDown.{IsIdle, quiet_air, quiet_step}
use Rattle.world_laws.proofs.Events.{snoc_actors, snoc_steps, world}
use Rattle.world_laws.proofs.References.Numbered.{outs_of_one}

-- ---- the steps of a run

pub stations-all : (w : Actors) (xs : List Event) → length (actors_after_all w xs).stations ≡ length w.stations
stations-all w [] = refl
stations-all w (x ∷ xs) = stations-all (actors_after w x) xs ∙ same_stations w x

pub less_one : (n l cells : ℕ) → 1 ≤ n → n ≤ cells → l ≡ cells → n - 1 < l
less_one zero l cells least most is = absurd (omega (arith, least))
less_one (suc n) l cells least most is = omega (arith, most, is)

module _ (settings : Parameters) (done : List Event) (event : Event) (old s : Connection) (allowed : AreAllowed settings) (octets : TookOctets settings (done ++ event ∷ [])) (had : IsHad (world settings done) old) (early : IsEarlyIn old.state)
    (number : s.number ≡ old.number) (has : IsHad (world settings (done ++ event ∷ [])) s) (early_then : IsEarlyIn s.state) (quiet : Quiet (world settings done) (place_of old.serving)) where
  abbrev w : Actors
  w = world settings done

  abbrev vv : Actors
  vv = world settings (done ++ event ∷ [])

  abbrev v : Actors
  v = actors_after w event

  abbrev c : Controller
  c = w.controller

  abbrev at : Place
  at = place_of s.serving

  same : vv ≡ v
  same = snoc_actors (new_actors settings) done event

  took_octets : TookOctets settings done × AllByRecursion IsOctetStep (step_at w event)
  took_octets = octets_arrived settings done event octets

  used_then : channel_state vv.controller at ≡ InUse s.number
  used_then = (owns_at settings (done ++ event ∷ []) allowed s.number s has.there has.is_open).using.0

  placed : IsPlaced settings vv at
  placed = placed_at settings (done ++ event ∷ []) allowed at (λ free. absurd (let both : Free ≡ InUse s.number = sym free ∙ used_then in cc))

  at_is : at.station ≢ SWITCH_LINK
  at_is is = absurd (let least = placed.least in omega (arith, is, least))

  before : Known settings done at
  before = known_new settings done at allowed took_octets.0 placed.least placed.most

  after : Known settings (done ++ event ∷ []) at
  after = known_new settings (done ++ event ∷ []) at allowed octets placed.least placed.most

  -- where it puts no DATA REQUEST for the channel
  quiet_are_handed : Quiet w at → AllByRecursion (NoDataEntry at.number) (put at.station w event) → Quiet vv at
  quiet_are_handed now nothing =
      subst (λ (x : Actors). Quiet x at) (sym same)
      (quiet_step w event at at_is before.settled.air (subst (λ (x : Actors). IsIdle x at) same after.settled.air) nothing
      (pipe-step at.station at.number w event at_is (less_one at.station (length w.stations) (length settings.cells) placed.least placed.most (stations-all (new_actors settings) done ∙ length-stations_from 1 settings.cells)) before.none) now)

  put_none : (entries : List OutboxEntry) →
      outputs w event ≡ entries →
      AllByRecursion (NoDataEntry at.number) (to_link at.station entries) →
      AllByRecursion (NoDataEntry at.number) (put at.station w event)
  put_none entries is nothing = by (is_up w at.station) where
    by : (b : Bool) → AllByRecursion (NoDataEntry at.number) (if b then to_link at.station (outputs w event) else [])
    by true = subst (λ (es : List OutboxEntry). AllByRecursion (NoDataEntry at.number) (to_link at.station es)) (sym is) nothing
    by false = tt

  -- ---- the controller rests

  rests_quiet : step_at w event ≡ [] → outputs w event ≡ [] → Quiet vv at
  rests_quiet none nothing =
      let still : vv.controller ≡ c =
      FollowsTable-new settings (done ++ event ∷ [])
      ∙ ap (λ (ss : List Step). (life settings ss).next) (snoc_steps (new_actors settings) done event ∙ ap (λ (ss : List Step). all_steps (new_actors settings) done ++ ss) none ∙ append-nil (all_steps (new_actors settings) done))
      ∙ sym (FollowsTable-new settings done) in
      let one : s ≡ old = same_Some _ _ (sym has.there ∙ ap (λ (d : Controller). connection_of d s.number) still ∙ ap (connection_of c) number ∙ had.there) in
      quiet_are_handed (subst (λ (x : Connection). Quiet w (place_of x.serving)) (sym one) quiet) (put_none [] nothing tt)

  -- ---- it takes a step

  module _ (x : Step) (target : Option Tenure) (own : IsOctetStep x) (puts : outputs w event ≡ map (entry_of target) (step c x).outs) (next : vv.controller ≡ (step c x).next) where
    does : Steps c x s.number
    does = steps_known settings done x s.number allowed took_octets.0 own has.from_one

    there : connection_of (step c x).next s.number ≡ Some s
    there = ap (λ (d : Controller). connection_of d s.number) (sym next) ∙ has.there

    was : connection_of c s.number ≡ Some old
    was = ap (connection_of c) number ∙ had.there

    fine : IsFine (connection_of c s.number)
    fine = subst (λ (d : Controller). IsFine (connection_of d s.number)) (sym (FollowsTable-new settings done)) ((life_after settings (all_steps (new_actors settings) done) allowed).fits s.number has.from_one).fine

    destiny : Fate at (connection_of c s.number) s does.acts.put
    destiny = fate s.number c.next_number (hears c SWITCH_LINK) (brought_in c s.number x) (connection_of c s.number) does.acts.put s at fine early_then (subst (λ (o : Option Connection). Acts s.number c.next_number (hears c SWITCH_LINK) (brought_in c s.number x) (connection_of c s.number) does.acts.put o) there does.acts.acts)

    remains_quiet : (now : Connection) →
        connection_of c s.number ≡ Some now →
        now.serving ≡ s.serving →
        AllByRecursion (IsNotOn at) does.acts.put →
        Quiet vv at
    remains_quiet now is serving off = quiet_are_handed (subst (λ (p : Place). Quiet w p) place quiet) (put_none (map (entry_of target) (step c x).outs) puts (entries_none at target (step c x).outs nodata)) where
      place : place_of old.serving ≡ at
      place = ap (λ (y : Connection). place_of y.serving) (same_Some _ _ (sym was ∙ is)) ∙ ap place_of serving

      used : channel_state c at ≡ InUse s.number
      used = ap (channel_state c) (sym place) ∙ (owns_at settings done allowed old.number old had.there had.is_open).using.0 ∙ ap InUse (sym number)

      others : (k : ℕ) → 1 ≤ k → s.number ≢ k → OthersPut k c x at
      others k from_one differs = subst (λ (d : Controller). channel_state d at ≡ InUse s.number → channel_state (step d x).next at ≡ InUse s.number → OthersPut k d x at) (sym (FollowsTable-new settings done))
          (λ here_now here_next. others_put settings (all_steps (new_actors settings) done) x s.number k at (InUse s.number) allowed from_one differs (λ both. differs (number_is (sym both))) here_now here_next)
          used (ap (λ (d : Controller). channel_state d at) (sym next) ∙ used_then) where
            number_is : {a b : ℕ} → InUse a ≡ InUse b → a ≡ b
            number_is both = cc

      of_messages : (k : ℕ) (ms : List Message) →
          outs_for k (step c x).outs ≡ outs_of k ms →
          AllByRecursion (IsNotOn at) ms →
          AllByRecursion (NoDataOut at) (outs_for k (step c x).outs)
      of_messages k ms is none = subst (AllByRecursion (NoDataOut at)) (sym is) (messages_none at k ms placed.least (subst (AllByRecursion IsSent) is (AllByRecursion-filter IsSent (is_for k) (step c x).outs does.sent)) none)

      nodata : AllByRecursion (NoDataOut at) (step c x).outs
      nodata = by_each (NoDataOut at) (step c x).outs (outs_of_one c x (known settings done old allowed had).ready.numbered) (pong_none at) (λ k from_one. elim (cases_Bool (nat_eq s.number k)) [
        | inl hit ↦ subst (λ (n : ℕ). AllByRecursion (NoDataOut at) (outs_for n (step c x).outs)) (eqb-true s.number k hit) (of_messages s.number does.acts.put does.acts.outs off)
        | inr miss ↦ let other = others k from_one (eqb-false s.number k miss) in of_messages k other.put other.outs other.off
      ])

    works_quiet : Quiet vv at
    works_quiet = by destiny where
      by : Fate at (connection_of c s.number) s does.acts.put → Quiet vv at
      by (remained now is early_now serving off) = remains_quiet now is serving off
      by (begins none put_is) = absurd (let both : None ≡ Some old = sym none ∙ was in cc)

pub channels_remain_quiet_new : (settings : Parameters) (done : List Event) (event : Event) → ChannelsRemainQuiet settings done event
channels_remain_quiet_new settings done events.Handle old s allowed octets had early number has early_then quiet = by w.inbox refl where
  w : Actors
  w = world settings done

  by : (items : List RelayItem) → w.inbox ≡ items → Quiet (world settings (done ++ events.Handle ∷ [])) (place_of s.serving)
  by [] pending = rests_quiet settings done events.Handle old s allowed octets had early number has early_then quiet (ap first_taken pending) (ap (outputs_at w) pending)
  by (item ∷ items) pending =
      works_quiet settings done events.Handle old s allowed octets had early number has early_then quiet (steps.Take item) (target_in w item.source item.what)
      (subst (λ (xs : List RelayItem). AllByRecursion IsOctetStep (first_taken xs)) pending (octets_arrived settings done events.Handle octets).1).0
      (ap (outputs_at w) pending)
      (ap (λ (x : Actors). x.controller) (snoc_actors (new_actors settings) done events.Handle ∙ handle_is w item items pending) ∙ controller-is (target_in w item.source item.what) (take item w.controller) (record w { inbox = items }))
channels_remain_quiet_new settings done (events.Tick ms) old s allowed octets had early number has early_then quiet =
    let w : Actors = world settings done in
    works_quiet settings done (events.Tick ms) old s allowed octets had early number has early_then quiet (steps.Tick ms) None tt refl
    (ap (λ (x : Actors). x.controller) (snoc_actors (new_actors settings) done (events.Tick ms) ∙ tick_is w ms) ∙ controller-is None (tick ms w.controller) w)
channels_remain_quiet_new settings done _ old s allowed octets had early number has early_then quiet = rests_quiet settings done _ old s allowed octets had early number has early_then quiet refl refl

pub quiet_lets_none_go_new : (settings : Parameters) (done : List Event) → QuietLetsNoneGo settings done
quiet_lets_none_go_new settings done s allowed octets had quiet =
    let w : Actors = world settings done in
    let at : Place = place_of s.serving in
    let used = (owns_at settings done allowed s.number s had.there had.is_open).using.0 in
    let placed = placed_at settings done allowed at (λ free. absurd (let both : Free ≡ InUse s.number = sym free ∙ used in cc)) in
    let before = known_new settings done at allowed octets placed.least placed.most in
    subst (AllByRecursion LetsNoneGo) (sym (quiet_air w at before.settled.air quiet)) tt
