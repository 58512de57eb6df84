-- SPDX-License-Identifier: MIT OR Apache-2.0
-- In every run the target of a change remains fresh until the connection's mobile arrives there.
use Rattle.world_laws.proofs.Prelude.{◌≡◌, ◌≢◌, ◌⊎◌, inl, inr, ℕ, suc, ◌≤◌, ◌&&◌, Bool, true, false, cond, filter, unwrap_or, List, [], ◌∷◌}
use Rattle.world_laws.proofs.Prelude.{◌++◌, length, Option, Some, None, refl, sym, ap, ◌∙◌, subst, append_assoc, arith, flat_map}
use Rattle.world_laws.proofs.Prelude.{AllByRecursion, Channel, Place, SWITCH_LINK, Preparing, Changing, State, Live, Target, Connection}
use Rattle.world_laws.proofs.Prelude.{TargetRole, changes_by, is_target_at, roles_of, target_channels, target_role, IsValid, undone, ActsOn}
use Rattle.world_laws.proofs.Prelude.{brought_in, connection_of, Owns, is_link_up, IsOctetStep, AreUsed, life_acts, life_ready, life_uses}
use Rattle.world_laws.proofs.Prelude.{Ready, InUse, Step, Take, Controller, channel_state, hears, place_at, place_of, state_in, step}
use Rattle.world_laws.proofs.Prelude.{is_control, Item, What, Rsl, AreAllowed, Parameters, Event, BaseTakes, Handle, Tick, Tenure}
use Rattle.world_laws.proofs.Prelude.{actors_after, complete, owner_in, acknowledgements, handled, tenure_in, with_turn, all_steps}
use Rattle.world_laws.proofs.Prelude.{first_taken, step_at, Actors, Mobile, base_of, mobile_of, modulus_in, new_actors, spot_at, turn_leads}
use Rattle.world_laws.proofs.Prelude.{FollowsTable-new, IsKnownItem, known_inbox, handle_turned, heard_of, tick-turned, beside_step, Serves}
use Rattle.world_laws.proofs.Prelude.{same_Some, control_complete, kept_controller, life, tick, Brings, controls_of, messages_in}
use Rattle.world_laws.proofs.Prelude.{messages_up, read_of, brings_in, coming_up, going_down, awaited_in, commanded_target, IsLed, IsOpenAndLinedUp}
use Rattle.world_laws.proofs.Prelude.{TargetIsFresh, initials_up, TookOctets, IsHad, IsAlone, commanded_channels, BeginWith, FreshMeans}
use Rattle.world_laws.proofs.Prelude.{IsFreshIn, IsLedBy, TargetsRemainFresh}
use Rattle.conn_rules.specs.Streams.{target_in}
use Rattle.controller_model.specs.declared.step.Step.TheVariants as steps
use Rattle.controller_model.specs.Life.{take}
use Rattle.world_laws.proofs.LineUp.Lines.{messages_in-append}
use Rattle.ruled_relay.specs.declared.item.What.TheVariants as whats
use Rattle.world_model.specs.Life.{event_after}
use Rattle.world_model.proofs.OwnerRuns.{ServesAt}
use Rattle.world_laws.proofs.Framing.{all_right, all_left}
use Rattle.world_laws.proofs.OrderServes.{Lawful}
use Rattle.world_laws.proofs.OwnHandle.{first_coming, handled_by}
use Rattle.world_laws.proofs.OwnerRun.{lawful_life, life-settings, serves_event}
use Rattle.world_laws.proofs.ValidConnections.{connections_are_valid_new}
use Rattle.world_laws.proofs.Targets.AckServes.{ack_item}
use Rattle.world_laws.proofs.Targets.Beside.{beside_fresh}
use Rattle.world_laws.proofs.Targets.Comings.{is_relays}
use Rattle.world_laws.proofs.Targets.Completing.{hits, says_complete}
use Rattle.world_laws.proofs.Targets.FreeQuiet.{Keeps, keeps_run}
use Rattle.world_laws.proofs.Targets.FreshTurn.{Before, TurnOf, owns_of, role_channel, turn_fresh}
use Rattle.world_laws.proofs.Targets.RoleMoves.{IsComplete, role}
use Rattle.world_laws.proofs.Targets.Ways.{ways_stand_new, said-read}
use Rattle.world_laws.proofs.Events.{snoc_actors, snoc_steps, world}

-- ---- a run, and an event more

same_controller : (w : Actors) (event : Event) → is_relays event ≡ false → (actors_after w event).controller ≡ w.controller
same_controller w Handle is = absurd cc
same_controller w (Tick ms) is = absurd cc
same_controller w (BaseTakes station) is = kept_controller w station
same_controller w e is = (beside_step w e refl).controller

module _ (settings : Parameters) (events : List Event) (event : Event) (mobile : ℕ) (s s2 : Connection) (q : Mobile) (allowed : AreAllowed settings) (octets_all : TookOctets settings (events ++ event ∷ [])) (lined_up : IsOpenAndLinedUp (modulus_in settings) (world settings events) mobile s) (alone : IsAlone (world settings events) mobile s)
    (fresh : IsFreshIn (world settings events) lined_up.lined.one s.state) (number : s2.number ≡ s.number) (had_then : IsHad (actors_after (world settings events) event) s2) (found_then : mobile_of (actors_after (world settings events) event) mobile ≡ Some q) where
  abbrev w : Actors
  w = world settings events

  abbrev v : Actors
  v = actors_after w event

  abbrev owner : Tenure → ℕ
  owner = owner_in (new_actors settings) events

  abbrev p : Mobile
  p = lined_up.lined.one

  all_octets : AllByRecursion IsOctetStep (all_steps (new_actors settings) events ++ step_at w event)
  all_octets = subst (AllByRecursion IsOctetStep) (snoc_steps (new_actors settings) events event) octets_all

  octets : AllByRecursion IsOctetStep (all_steps (new_actors settings) events)
  octets = all_left IsOctetStep (all_steps (new_actors settings) events) (step_at w event) all_octets

  own_octets : AllByRecursion IsOctetStep (step_at w event)
  own_octets = all_right IsOctetStep (all_steps (new_actors settings) events) (step_at w event) all_octets

  keeps : Keeps settings owner w []
  keeps = keeps_run settings events allowed octets

  -- ---- the controller does nothing

  beside : is_relays event ≡ false → IsFreshIn v q s2.state
  beside other =
      let same : s2 ≡ s = same_Some _ _ (sym had_then.there ∙ ap (λ (c : Controller). connection_of c s2.number) (same_controller w event other) ∙ ap (connection_of w.controller) number ∙ lined_up.had.there) in
      subst (λ (x : Connection). IsFreshIn v q x.state) (sym same)
      (beside_fresh w event mobile p s lined_up.lined.found lined_up.lined.lined alone keeps.right.good other q found_then s.state refl
      fresh)

  -- ---- the controller works

  by_life : w.controller ≡ (life settings (all_steps (new_actors settings) events)).next
  by_life = FollowsTable-new settings events

  life_then : v.controller ≡ (life settings (all_steps (new_actors settings) (events ++ event ∷ []))).next
  life_then = ap (λ (x : Actors). x.controller) (sym (snoc_actors (new_actors settings) events event)) ∙ FollowsTable-new settings (events ++ event ∷ [])

  ready_then : Ready v.controller
  ready_then = subst Ready (sym life_then) (life_ready settings (all_steps (new_actors settings) (events ++ event ∷ [])) allowed)

  used_then : AreUsed v.controller
  used_then = subst AreUsed (sym life_then) (life_uses settings (all_steps (new_actors settings) (events ++ event ∷ [])) allowed)

  same_settings : v.controller.settings ≡ settings
  same_settings = ap (λ (c : Controller). c.settings) life_then ∙ life-settings settings (all_steps (new_actors settings) (events ++ event ∷ []))

  acts_on : (st : Step) → ActsOn s.number w.controller st
  acts_on st = subst (λ (c : Controller). ActsOn s.number c st) (sym by_life) (life_acts settings (all_steps (new_actors settings) events) st s.number lined_up.had.from_one)

  laws_on : (st : Step) → IsOctetStep st → Lawful w.controller st
  laws_on st own = subst (λ (c : Controller). Lawful c st) (sym by_life) (lawful_life settings (all_steps (new_actors settings) events) st allowed octets own)

  valid : IsValid s
  valid = connections_are_valid_new settings events s.number s lined_up.had.there

  before_of : (st : Step) (target : Option Tenure) (heard : Place → List Rsl) →
      ((at : Place) → 1 ≤ at.station → at.station ≤ length settings.cells → Serves owner w at target (step w.controller st) (heard at)) →
      (at : Place) →
      1 ≤ at.station →
      at.station ≤ length settings.cells →
      Before owner w st target heard at
  before_of st target heard serves at least most = record {
    agrees = keeps.right.agree at least most;
    none = keeps.right.none at.station;
    settled = keeps.settled at least most;
    ways = ways_stand_new settings events at (λ zero. absurd (omega (arith, zero, least)));
    serves = serves at least most;
  }

  -- ---- an item of the inbox

  target_facts : (t : Target) →
      target_role s.state ≡ Some (role t true) →
      (t.channel.station ≢ SWITCH_LINK) × (channel_state w.controller (place_of t.channel) ≡ InUse s.number) × (hears w.controller t.channel.station ≡ true) × (initials_up w (place_of t.channel) ≡ [])
  target_facts t is =
      let ready_w : Ready w.controller = subst Ready (sym by_life) (life_ready settings (all_steps (new_actors settings) events) allowed) in
      let owns : Owns w.controller.channels w.controller.links s.number (roles_of s) = owns_of w.controller s.number s ready_w lined_up.had.there lined_up.had.is_open in
      let channel : target_in s.state ≡ t.channel ∷ [] = role_channel s.state t true is in (
        (subst (AllByRecursion (λ c. c.station ≢ SWITCH_LINK)) channel (all_right (λ c. c.station ≢ SWITCH_LINK) (undone s.draining) (s.serving ∷ target_in s.state) lined_up.lined.lined.placed).1).0,
        (subst (λ (o : Option TargetRole). AllByRecursion (λ c. state_in w.controller.channels (place_of c) ≡ InUse s.number) (target_channels o)) is owns.using.1).0,
        (subst (λ (o : Option TargetRole). AllByRecursion (λ c. is_link_up w.controller.links c.station ≡ true) (target_channels o)) is (all_right (λ c. is_link_up w.controller.links c.station ≡ true) (undone s.draining) (s.serving ∷ target_channels (target_role s.state)) owns.linked).1).0,
        (subst (AllByRecursion (λ c. initials_up w (place_of c) ≡ [])) channel (all_right (λ c. initials_up w (place_of c) ≡ []) (undone s.draining) (s.serving ∷ target_in s.state) lined_up.opened.none_arrives).1).0,
      )

  module _ (source : ℕ) (what : What) (items : List Item) (pending : w.inbox ≡ record { source = source; what = what } ∷ items) where
    abbrev item : Item
    item = record { source = source; what = what }

    abbrev then : Actors
    then = handled_by w item items

    known : IsKnownItem item
    known = (subst (AllByRecursion IsKnownItem) pending (known_inbox settings events)).0

    turn_of : Lawful w.controller (Take item) →
        TurnOf w then (Take item) (tenure_in w source what) (λ at. heard_of at item) (λ at. brings_in at item) (λ n. read_of n item)
    unfolding take
    turn_of laws = record {
      next = (handle_turned w (place_at 0 0) item items pending).controller;
      mobiles = turn_leads (λ u. u.mobiles ≡ w.mobiles) (tenure_in w source what) (take item w.controller) (record w { inbox = items }) (λ links. refl);
      turned = λ at. handle_turned w at item items pending;
      spots = λ at. turn_leads (λ u. spot_at u at ≡ spot_at w at) (tenure_in w source what) (take item w.controller) (record w { inbox = items }) (λ links. refl);
      taken_first = λ at. first_coming w item items at pending;
      ways = λ n.
          ap (λ (xs : List Item). flat_map (read_of n) xs ++ (base_of w n).messages) pending
          ∙ append_assoc (read_of n item) (flat_map (read_of n) items) (base_of w n).messages
          ∙ turn_leads (λ u. read_of n item ++ messages_up (record w { inbox = items }) n ≡ read_of n item ++ messages_up u n) (tenure_in w source what) (take item w.controller) (record w { inbox = items }) (λ links. refl);
      heard_is = λ at. ap (acknowledgements at.number) (said-read at.station item);
      leads = λ at. elim (ack_item at w source what known) [
        | inl none ↦ inl none
        | inr all ↦ inr (all laws.sent)
      ];
    }

    no_complete : (t : Target) →
        target_role s.state ≡ Some (role t true) →
        IsLedBy w p t →
        (messages_in (brings_in (place_of t.channel) item) ≡ [] → ⊥) →
        IsComplete (brought_in w.controller s.number (Take item)) (target_role s.state)
    no_complete t is led some = by what refl where
      by : (x : What) → what ≡ x → IsComplete (brought_in w.controller s.number (Take item)) (target_role s.state)
      by whats.Down same = absurd (some (ap (λ (x : What). messages_in (brings_in (place_of t.channel) (record { source = source; what = x }))) same))
      by (whats.Frame frame) same =
          let says = says_complete w source frame items (pending ∙ ap (λ (x : What). record { source = source; what = x } ∷ items) same) (subst (λ (x : What). IsKnownItem (record { source = source; what = x })) same known) t s.number (target_facts t is).0 (target_facts t is).1 (target_facts t is).2 (target_facts t is).3 (messages_in (coming_up w (place_of t.channel))) (messages_in (coming_up then (place_of t.channel)))
          (ap messages_in (first_coming w item items (place_of t.channel) pending) ∙ messages_in-append (brings_in (place_of t.channel) item) (coming_up then (place_of t.channel)) ∙ ap (λ (x : What). messages_in (brings_in (place_of t.channel) (record { source = source; what = x })) ++ messages_in (coming_up then (place_of t.channel))) same)
          led.first (λ none. some (ap (λ (x : What). messages_in (brings_in (place_of t.channel) (record { source = source; what = x }))) same ∙ none)) in
          (place_of t.channel, t.change, says.0, ap (λ (x : What). brought_in w.controller s.number (Take (record { source = source; what = x }))) same ∙ says.1, subst (λ (o : Option TargetRole). is_target_at (place_of t.channel) o && changes_by t.change o ≡ true) (sym is) (hits t))

    handled_fresh : IsOctetStep (Take item) →
        ((at : Place) → 1 ≤ at.station → at.station ≤ length settings.cells → Serves owner w at (tenure_in w source what) (take item w.controller) (heard_of at item)) →
        v ≡ then →
        IsFreshIn then q s2.state
    handled_fresh own serves same =
        let laws = laws_on (Take item) own in
        turn_fresh settings owner w then (Take item) (tenure_in w source what) (λ at. heard_of at item) (λ at. brings_in at item) (λ n. read_of n item) (turn_of laws) (before_of (Take item) (tenure_in w source what) (λ at. heard_of at item) serves) laws
        (subst (λ (u : Actors). Ready u.controller) same ready_then) (subst (λ (u : Actors). AreUsed u.controller) same used_then) (ap (λ (u : Actors). u.controller.settings) (sym same) ∙ same_settings)
        mobile p s s2 lined_up.lined.found lined_up.lined.lined lined_up.had (subst (λ (u : Actors). IsHad u s2) same had_then) number valid (acts_on (Take item)) fresh no_complete q (ap (λ (u : Actors). mobile_of u mobile) (sym same) ∙ found_then)

  -- ---- the events

  handle_fresh : event ≡ Handle → IsFreshIn v q s2.state
  unfolding event_after ServesAt
  handle_fresh is = by w.inbox refl where
    now : v ≡ actors_after w Handle
    now = ap (actors_after w) is

    serving : ServesAt settings owner w Handle
    serving = serves_event settings owner events w Handle refl allowed octets (subst (λ (e : Event). AllByRecursion IsOctetStep (step_at w e)) is own_octets) keeps.right.agree

    by : (items : List Item) → w.inbox ≡ items → IsFreshIn v q s2.state
    by [] empty =
        let same : v ≡ w = now ∙ ap (λ (items : List Item). unwrap_or (handled items w) w) empty in
        let one : s2 ≡ s = same_Some _ _ (sym had_then.there ∙ ap (λ (u : Actors). connection_of u.controller s2.number) same ∙ ap (connection_of w.controller) number ∙ lined_up.had.there) in
        let who : q ≡ p = same_Some _ _ (sym found_then ∙ ap (λ (u : Actors). mobile_of u mobile) same ∙ lined_up.lined.found) in
        subst (λ (u : Actors). IsFreshIn u q s2.state) (sym same) (subst (λ (x : Mobile). IsFreshIn w x s2.state) (sym who) (subst (λ (x : Connection). IsFreshIn w p x.state) (sym one) fresh))
    by (item ∷ items) pending =
        let same : v ≡ handled_by w item items = now ∙ ap (λ (all : List Item). unwrap_or (handled all w) w) pending in
        let own : IsOctetStep (Take item) = (subst (λ (all : List Item). AllByRecursion IsOctetStep (first_taken all)) pending (subst (λ (e : Event). AllByRecursion IsOctetStep (step_at w e)) is own_octets)).0 in
        subst (λ (u : Actors). IsFreshIn u q s2.state) (sym same) (handled_fresh item.source item.what items pending own (λ at least most. serving item items pending at least most) same)

  tick_fresh : (ms : ℕ) → event ≡ Tick ms → IsFreshIn v q s2.state
  unfolding event_after ServesAt
  tick_fresh ms is =
      let then : Actors = with_turn None (tick ms w.controller) w in
      let same : v ≡ then = ap (actors_after w) is in
      let own : IsOctetStep (steps.Tick ms) = tt in
      let laws = laws_on (steps.Tick ms) own in
      let serving : ServesAt settings owner w (Tick ms) = serves_event settings owner events w (Tick ms) refl allowed octets (subst (λ (e : Event). AllByRecursion IsOctetStep (step_at w e)) is own_octets) keeps.right.agree in
      let turn : TurnOf w then (steps.Tick ms) None (λ at. []) (λ at. []) (λ n. []) = record {
        next = (tick-turned w (place_at 0 0) ms).controller;
        mobiles = turn_leads (λ u. u.mobiles ≡ w.mobiles) None (tick ms w.controller) w (λ links. refl);
        turned = λ at. tick-turned w at ms;
        spots = λ at. turn_leads (λ u. spot_at u at ≡ spot_at w at) None (tick ms w.controller) w (λ links. refl);
        taken_first = λ at. turn_leads (λ u. coming_up w at ≡ coming_up u at) None (tick ms w.controller) w (λ links. refl);
        ways = λ n. turn_leads (λ u. messages_up w n ≡ messages_up u n) None (tick ms w.controller) w (λ links. refl);
        heard_is = λ at. refl;
        leads = λ at. inl refl;
      } in
      subst (λ (u : Actors). IsFreshIn u q s2.state) (sym same)
      (turn_fresh settings owner w then (steps.Tick ms) None (λ at. []) (λ at. []) (λ n. []) turn (before_of (steps.Tick ms) None (λ at. []) (λ at least most. serving at least most)) laws
      (subst (λ (u : Actors). Ready u.controller) same ready_then) (subst (λ (u : Actors). AreUsed u.controller) same used_then) (ap (λ (u : Actors). u.controller.settings) (sym same) ∙ same_settings)
      mobile p s s2 lined_up.lined.found lined_up.lined.lined lined_up.had (subst (λ (u : Actors). IsHad u s2) same had_then) number valid (acts_on (steps.Tick ms)) fresh (λ t to led some. absurd (some refl)) q (ap (λ (u : Actors). mobile_of u mobile) (sym same) ∙ found_then))

  pub remains_fresh : (e : Event) → event ≡ e → IsFreshIn v q s2.state
  remains_fresh Handle is = handle_fresh is
  remains_fresh (Tick ms) is = tick_fresh ms is
  remains_fresh e is = beside (ap is_relays is)

pub targets_remain_fresh_new : (settings : Parameters) (events : List Event) (event : Event) → TargetsRemainFresh settings events event
targets_remain_fresh_new settings events event mobile s s2 q allowed octets lined_up alone fresh number had found = remains_fresh settings events event mobile s s2 q allowed octets lined_up alone fresh number had found event refl

-- ---- so the target is fresh

led_of : (text : List ℕ) (items : List Brings) → is_control text ≡ true → BeginWith text (messages_in items) → IsLed items
led_of text items control first = by (messages_in items) refl first where
  by : (xs : List (List ℕ)) → messages_in items ≡ xs → BeginWith text xs → (messages_in items ≡ []) ⊎ (1 ≤ controls_of (messages_in items))
  by [] is began = inl is
  by (x ∷ xs) is began = inr (subst (λ (k : ℕ). 1 ≤ k) (sym (ap controls_of is ∙ counted)) (omega arith)) where
    counted : controls_of (x ∷ xs) ≡ suc (controls_of xs)
    counted = ap (λ (b : Bool). length (cond b (x ∷ filter is_control xs) (filter is_control xs))) (ap is_control began ∙ control)

pub fresh_means_new : (w : Actors) (p : Mobile) (s : Connection) → FreshMeans w p s
fresh_means_new w p s fresh = by s.state refl fresh where
  tells : (cs ds : List Channel) →
      awaited_in s.state ≡ cs →
      commanded_channels (commanded_target s.state) ≡ ds →
      AllByRecursion (λ c. messages_in (coming_up w (place_of c)) ≡ []) cs →
      AllByRecursion (λ c. going_down w (place_of c) ≡ []) cs →
      AllByRecursion (λ c. IsLed (coming_up w (place_of c))) ds →
      TargetIsFresh w s
  tells cs ds awaits commands silent uncommanded led = record {
    silent = subst (AllByRecursion (λ c. messages_in (coming_up w (place_of c)) ≡ [])) (sym awaits) silent;
    uncommanded = subst (AllByRecursion (λ c. going_down w (place_of c) ≡ [])) (sym awaits) uncommanded;
    led = subst (AllByRecursion (λ c. IsLed (coming_up w (place_of c)))) (sym commands) led;
  }

  by : (state : State) → s.state ≡ state → IsFreshIn w p state → TargetIsFresh w s
  by (Live reference (Preparing target)) is a = tells (target.channel ∷ []) [] (ap awaited_in is) (ap (λ (x : State). commanded_channels (commanded_target x)) is) (a.silent, tt) (a.uncommanded, tt) tt
  by (Live reference (Changing target)) is led = tells [] (target.channel ∷ []) (ap awaited_in is) (ap (λ (x : State). commanded_channels (commanded_target x)) is) tt tt (led_of (complete target.change) (coming_up w (place_of target.channel)) (control_complete target.change) led.first, tt)
  by _ is so = tells [] [] (ap awaited_in is) (ap (λ (x : State). commanded_channels (commanded_target x)) is) tt tt tt
