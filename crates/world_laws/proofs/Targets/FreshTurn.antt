-- SPDX-License-Identifier: MIT OR Apache-2.0
-- The target remains fresh when the controller works.
use Rattle.world_laws.proofs.Prelude.{◌≡◌, ◌≢◌, ◌⊎◌, inl, inr, ℕ, ◌≤◌, ◌==◌, ◌&&◌, Bool, true, false, option_map, find, List, [], ◌∷◌}
use Rattle.world_laws.proofs.Prelude.{◌++◌, length, Option, Some, None, refl, sym, ap, ◌∙◌, subst, append_assoc, eq-eqb, flat_map-append}
use Rattle.world_laws.proofs.Prelude.{flat_map, AllByRecursion, Channel, Place, Message, Out, SWITCH_LINK, change_activation}
use Rattle.world_laws.proofs.Prelude.{Preparing, Changing, State, Live, Target, Connection, TargetRole, orders, roles_of}
use Rattle.world_laws.proofs.Prelude.{target_channels, target_role, IsValid, IsApart, IsOpen, undone, ActsOn, brought_in, connection_of}
use Rattle.world_laws.proofs.Prelude.{Owns, OwnsOpen, is_link_up, AreUsed, Ready, Free, InUse, Step, Controller, Entry, channel_state}
use Rattle.world_laws.proofs.Prelude.{hears, place_of, state_in, step, DataMessage, Rsl, DataRequest, Parameters, AirMessage, OutboxEntry}
use Rattle.world_laws.proofs.Prelude.{Seat, On, Tenure, to_be_taken, first_in, complete, Agrees, acknowledgements}
use Rattle.world_laws.proofs.Prelude.{Actors, Mobile, Spot, has_number, is_up, mobile_of, outbox_of, spot_at, both_empty, said_to, Serves}
use Rattle.world_laws.proofs.Prelude.{Turned, hear, same_Some, false≢true, apart_behind, free≢use, Items, messages_in, messages_up}
use Rattle.world_laws.proofs.Prelude.{coming_up, going_down, leading_from_air, leading_from_outbox, commanded_target, IsHad, LinedUp, Sits}
use Rattle.world_laws.proofs.Prelude.{BeginWith, IsAwaited, IsFreshIn, IsLedBy, IsOnPlace, IsSettled}
use Rattle.conn_rules.specs.Streams.{target_in}
use Rattle.world_laws.proofs.LineUp.Lines.{messages_in-append}
use Rattle.world_laws.specs.Seated.Sits.{unchanged}
use Rattle.world_laws.proofs.Framing.{all_right}
use Rattle.world_laws.proofs.OrderServes.{Lawful, use_free}
use Rattle.world_laws.proofs.Targets.AckServes.{LeadsOn, ServesOn, entries_none}
use Rattle.world_laws.proofs.Targets.Begun.{activated_free, freed_down, freed_silent}
use Rattle.world_laws.proofs.Targets.RoleMoves.{IsComplete, RoleMoves, acts_role, role}
use Rattle.world_laws.proofs.Targets.RoleMoves.RoleMoves.{keeps, commanded, idle, begins}
use Rattle.world_laws.proofs.Targets.Ways.{WaysStand}
use Rattle.world_laws.proofs.OwnerRun.{within_settings, not_zero}

-- ---- by the role of the target

abbrev FreshBy : Actors → Mobile → Target → Bool → Type 0
FreshBy w p t true = IsLedBy w p t
FreshBy w p t false = IsAwaited w t.channel

abbrev FreshRole : Actors → Mobile → Option TargetRole → Type 0
FreshRole w p None = Unit {0}
FreshRole w p (Some t) = FreshBy w p t.target t.is_commanded

to_role : (w : Actors) (p : Mobile) (state : State) → IsFreshIn w p state → FreshRole w p (target_role state)
to_role w p (Live reference (Preparing target)) fresh = fresh
to_role w p (Live reference (Changing target)) fresh = fresh
to_role w p _ fresh = tt

of_role : (w : Actors) (p : Mobile) (state : State) → FreshRole w p (target_role state) → IsFreshIn w p state
of_role w p (Live reference (Preparing target)) fresh = fresh
of_role w p (Live reference (Changing target)) fresh = fresh
of_role w p _ fresh = tt

pub role_channel : (state : State) (t : Target) (b : Bool) → target_role state ≡ Some (role t b) → target_in state ≡ t.channel ∷ []
role_channel (Live reference (Preparing target)) t b is = ap (λ (x : TargetRole). x.target.channel ∷ []) (same_Some _ _ is)
role_channel (Live reference (Changing target)) t b is = ap (λ (x : TargetRole). x.target.channel ∷ []) (same_Some _ _ is)
role_channel _ t b is = absurd cc

role_prepared : (state : State) (t : Target) → target_role state ≡ Some (role t false) → commanded_target state ≡ None
role_prepared (Live reference (Preparing target)) t is = refl
role_prepared (Live reference (Changing target)) t is = absurd (let b : true ≡ false = ap (λ (x : TargetRole). x.is_commanded) (same_Some _ _ is) in cc)
role_prepared _ t is = absurd cc

-- ---- a turn in the world

pub record TurnOf (w v : Actors) (st : Step) (target : Option Tenure) (heard : Place → List Rsl) (items : Place → List Items) (read : ℕ → List Rsl) : Type 0 where
  pub next : v.controller ≡ (step w.controller st).next
  pub mobiles : v.mobiles ≡ w.mobiles
  pub turned : (at : Place) → Turned w v at target (step w.controller st) (heard at)
  pub spots : (at : Place) → spot_at v at ≡ spot_at w at
  pub taken_first : (at : Place) → coming_up w at ≡ items at ++ coming_up v at
  pub ways : (n : ℕ) → messages_up w n ≡ read n ++ messages_up v n
  pub heard_is : (at : Place) → heard at ≡ acknowledgements at.number (read at.station)
  pub leads : (at : Place) → (target ≡ None) ⊎ AllByRecursion (LeadsOn at w.controller) (step w.controller st).outs

-- what is known of a channel before it
pub record Before (owner : Tenure → ℕ) (w : Actors) (st : Step) (target : Option Tenure) (heard : Place → List Rsl) (at : Place) : Type 0 where
  pub agrees : Agrees owner w at
  pub none : is_up w at.station ≡ false → outbox_of w at.station ≡ []
  pub settled : IsSettled w at
  pub ways : WaysStand w at
  pub serves : Serves owner w at target (step w.controller st) (heard at)

-- ---- of one connection

pub owns_of : (c : Controller) (number : ℕ) (x : Connection) →
    Ready c →
    connection_of c number ≡ Some x →
    IsOpen x.state →
    Owns c.channels c.links number (roles_of x)
owns_of c number x ready there is_open = subst (OwnsOpen c.channels c.links number) there (ready.holds.each number) is_open

module _ {m : ℕ} (settings : Parameters) (owner : Tenure → ℕ) (w v : Actors) (st : Step) (target : Option Tenure) (heard : Place → List Rsl) (items : Place → List Items) (read : ℕ → List Rsl) (turn : TurnOf w v st target heard items read) (before : (at : Place) → 1 ≤ at.station → at.station ≤ length settings.cells → Before owner w st target heard at) (laws : Lawful w.controller st) (ready_then : Ready v.controller) (used_then : AreUsed v.controller) (same_settings : v.controller.settings ≡ settings)
    (mobile : ℕ) (p : Mobile) (s s2 : Connection) (found : mobile_of w mobile ≡ Some p) (lined : LinedUp m w p s) (had : IsHad w s) (had_then : IsHad v s2) (number : s2.number ≡ s.number) (valid : IsValid s) (acts : ActsOn s.number w.controller st) (fresh : IsFreshIn w p s.state)
    (completes : (t : Target) → target_role s.state ≡ Some (role t true) → IsLedBy w p t → (messages_in (items (place_of t.channel)) ≡ [] → ⊥) → IsComplete (brought_in w.controller s.number st) (target_role s.state)) (q : Mobile) (found_then : mobile_of v mobile ≡ Some q) where
  abbrev n : ℕ
  n = s.number

  there_then : connection_of v.controller n ≡ Some s2
  there_then = ap (connection_of v.controller) (sym number) ∙ had_then.there

  same_mobile : q ≡ p
  same_mobile = same_Some _ _ (sym found_then ∙ ap (λ (ms : List Mobile). find (has_number mobile) ms) turn.mobiles ∙ found)

  owns : Owns w.controller.channels w.controller.links n (roles_of s)
  owns = owns_of w.controller n s laws.ready had.there had.is_open

  owns_then : Owns v.controller.channels v.controller.links n (roles_of s2)
  owns_then = owns_of v.controller n s2 ready_then there_then had_then.is_open

  -- what is on its way down then
  downs : (at : Place) → going_down v at ≡ going_down w at ++ flat_map (leading_from_outbox at.number) (turn.turned at).entries
  downs at =
      ap (λ (x : Spot). flat_map leading_from_air x.air ++ flat_map (leading_from_outbox at.number) (outbox_of v at.station)) (turn.spots at)
      ∙ ap (λ (es : List OutboxEntry). flat_map leading_from_air (spot_at w at).air ++ flat_map (leading_from_outbox at.number) es) (turn.turned at).outbox
      ∙ ap (λ (xs : List AirMessage). flat_map leading_from_air (spot_at w at).air ++ xs) (flat_map-append (leading_from_outbox at.number) (outbox_of w at.station) (turn.turned at).entries)
      ∙ sym (append_assoc (flat_map leading_from_air (spot_at w at).air) (flat_map (leading_from_outbox at.number) (outbox_of w at.station)) (flat_map (leading_from_outbox at.number) (turn.turned at).entries))

  none_led : (at : Place) → (ServesOn at w.controller → ⊥) → flat_map (leading_from_outbox at.number) (turn.turned at).entries ≡ []
  none_led at nobody = by (is_up w at.station) refl where
    all_silent : (outs : List Out) →
        AllByRecursion (LeadsOn at w.controller) outs →
        AllByRecursion (λ out. (d : DataMessage) → said_to at out ≡ Some (DataRequest d) → d.channel ≡ at.number → ⊥) outs
    all_silent [] all = tt
    all_silent (out ∷ outs) all = ((λ d says same. nobody (all.0 d says same)), all_silent outs all.1)

    why : (target ≡ None) ⊎ AllByRecursion (λ out. (d : DataMessage) → said_to at out ≡ Some (DataRequest d) → d.channel ≡ at.number → ⊥) (step w.controller st).outs
    why = elim (turn.leads at) [
      | inl none ↦ inl none
      | inr all ↦ inr (all_silent (step w.controller st).outs all)
    ]

    by : (b : Bool) → is_up w at.station ≡ b → flat_map (leading_from_outbox at.number) (turn.turned at).entries ≡ []
    by true up = ap (flat_map (leading_from_outbox at.number)) ((turn.turned at).joins up) ∙ entries_none at target (step w.controller st).outs why
    by false down = ap (flat_map (leading_from_outbox at.number)) ((turn.turned at).down down)

  -- nobody serves on a channel that is the connection's, but isn't its serving one
  nobody_serves : (at : Place) → channel_state w.controller at ≡ InUse n → place_of s.serving ≢ at → ServesOn at w.controller → ⊥
  nobody_serves at used apart x =
      let there : connection_of w.controller x.number ≡ Some x.entry.connection = ap (option_map (λ (e : Entry). e.connection)) x.there in
      let theirs : channel_state w.controller at ≡ InUse x.number = ap (state_in w.controller.channels) (sym x.serves) ∙ (owns_of w.controller x.number x.entry.connection laws.ready there x.is_open).using.0 in
      let same : n ≡ x.number = (let both : InUse n ≡ InUse x.number = sym used ∙ theirs in cc) in
      apart (ap (λ (y : Connection). place_of y.serving) (same_Some _ _ (sym had.there ∙ ap (connection_of w.controller) same ∙ there)) ∙ x.serves)

  serving_apart : (c : Channel) → target_in s.state ≡ c ∷ [] → place_of s.serving ≢ place_of c
  serving_apart c is same = false≢true (sym (subst (AllByRecursion (IsApart s.serving)) is (apart_behind (undone s.draining) (s.serving ∷ target_in s.state) lined.apart).0).0 ∙ hit) where
    hit : (s.serving.station == c.station) && (s.serving.number == c.number) ≡ true
    hit = ap (λ (b : Bool). b && (s.serving.number == c.number)) (eq-eqb s.serving.station c.station (ap (λ (x : Place). x.station) same)) ∙ eq-eqb s.serving.number c.number (ap (λ (x : Place). x.number) same)

  target_used : (t : Target) (b : Bool) → target_role s.state ≡ Some (role t b) → channel_state w.controller (place_of t.channel) ≡ InUse n
  target_used t b is = (subst (λ (o : Option TargetRole). AllByRecursion (λ c. state_in w.controller.channels (place_of c) ≡ InUse n) (target_channels o)) is owns.using.1).0

  -- ---- the target remains prepared

  coming_parts : (at : Place) → messages_in (coming_up w at) ≡ messages_in (items at) ++ messages_in (coming_up v at)
  coming_parts at = ap messages_in (turn.taken_first at) ∙ messages_in-append (items at) (coming_up v at)

  silent_then : (at : Place) → messages_in (coming_up w at) ≡ [] → messages_in (coming_up v at) ≡ []
  silent_then at none = (both_empty (messages_in (items at)) (messages_in (coming_up v at)) (sym (sym (coming_parts at) ∙ none))).1

  awaited_then : (t : Target) → target_role s.state ≡ Some (role t false) → IsAwaited w t.channel → IsAwaited v t.channel
  awaited_then t is a = record {
    silent = silent_then (place_of t.channel) a.silent;
    uncommanded =
        downs (place_of t.channel)
        ∙ ap (λ (xs : List AirMessage). xs ++ flat_map (leading_from_outbox t.channel.number) (turn.turned (place_of t.channel)).entries) a.uncommanded
        ∙ none_led (place_of t.channel) (nobody_serves (place_of t.channel) (target_used t false is) (serving_apart t.channel (role_channel s.state t false is)));
  }

  -- ---- the mobile is commanded to it, and isn't there

  not_there : (seat : Seat) (c : Channel) → place_of s.serving ≢ place_of c → Sits w s.serving None seat → IsOnPlace seat (place_of c) → ⊥
  not_there (On tenure command) c apart (unchanged there remembers) on = apart (ap (λ (x : Tenure). x.at) (sym there) ∙ on)
  not_there _ c apart sits on = on

  commanded_then : (t : Target) → target_role s.state ≡ Some (role t false) → IsAwaited w t.channel → IsLedBy v q t
  commanded_then t is a = record {
    first = subst (BeginWith (complete t.change)) (sym (silent_then (place_of t.channel) a.silent)) tt;
    gives = λ none up on. absurd (not_there p.seat t.channel (serving_apart t.channel (role_channel s.state t false is)) (subst (λ (o : Option Target). Sits w s.serving o p.seat) (role_prepared s.state t is) lined.sits)
        (subst (λ (x : Mobile). IsOnPlace x.seat (place_of t.channel)) same_mobile on));
  }

  -- ---- the change continues

  led_then : (t : Target) →
      target_role s.state ≡ Some (role t true) →
      (IsComplete (brought_in w.controller n st) (target_role s.state) → ⊥) →
      IsLedBy w p t →
      IsLedBy v q t
  led_then t is no_complete led = by (messages_in (items (place_of t.channel))) refl where
    at : Place
    at = place_of t.channel

    by : (xs : List (List ℕ)) → messages_in (items at) ≡ xs → IsLedBy v q t
    by (x ∷ xs) some = absurd (no_complete (completes t is led (λ none. let both : x ∷ xs ≡ [] = sym some ∙ none in absurd cc)))
    by [] none_came =
        let same : messages_in (coming_up v at) ≡ messages_in (coming_up w at) = ap (λ (xs : List (List ℕ)). xs ++ messages_in (coming_up v at)) (sym none_came) ∙ sym (coming_parts at) in
        record {
          first = subst (BeginWith (complete t.change)) (sym same) led.first;
          gives = subst (λ (x : Mobile). messages_in (coming_up v at) ≡ [] → is_up v t.channel.station ≡ true → IsOnPlace x.seat at → first_in (to_be_taken x.end.zero) ≡ Some (complete t.change)) (sym same_mobile)
              (λ none up on. led.gives (sym same ∙ none) (sym (turn.turned at).up ∙ up) on);
        }

  -- ---- a change begins: its target was free

  begun_then : (t : Target) (firsts : List Message) →
      target_role s2.state ≡ Some (role t false) →
      orders acts.put ≡ firsts ++ change_activation t.change t.channel ∷ [] →
      IsAwaited v t.channel
  begun_then t firsts is ordered = record {
    silent = ap messages_in (freed_silent owner w at b.agrees b.none b.settled b.ways heard_before v (read at.station) (turn.ways at.station) (heard at) (turn.turned at).one (turn.heard_is at) freed);
    uncommanded =
        downs at ∙ ap (λ (xs : List AirMessage). xs ++ flat_map (leading_from_outbox at.number) (turn.turned at).entries) (freed_down owner w at b.agrees b.none b.settled b.ways heard_before v (read at.station) (turn.ways at.station) (heard at) (turn.turned at).one (turn.heard_is at) freed)
        ∙ none_led at nobody;
  } where
    at : Place
    at = place_of t.channel

    used : channel_state v.controller at ≡ InUse n
    used = (subst (λ (o : Option TargetRole). AllByRecursion (λ c. state_in v.controller.channels (place_of c) ≡ InUse n) (target_channels o)) is owns_then.using.1).0

    busy : channel_state v.controller at ≢ Free
    busy free = free≢use n (sym free ∙ used)

    least : 1 ≤ at.station
    least = not_zero at.station (λ zero. busy (ap (λ (k : ℕ). channel_state v.controller (record { station = k; number = at.number })) zero ∙ used_then.switch at.number))

    most : at.station ≤ length settings.cells
    most = within_settings settings v.controller at same_settings ready_then busy

    b : Before owner w st target heard at
    b = before at least most

    heard_then : hears (step w.controller st).next at.station ≡ true
    heard_then = ap (λ (c : Controller). hears c at.station) (sym turn.next)
        ∙ (subst (λ (o : Option TargetRole). AllByRecursion (λ c. is_link_up v.controller.links c.station ≡ true) (target_channels o)) is
        (all_right (λ c. is_link_up v.controller.links c.station ≡ true) (undone s2.draining) (s2.serving ∷ target_channels (target_role s2.state)) owns_then.linked).1).0

    heard_before : hears w.controller at.station ≡ true
    heard_before = b.serves.hearing heard_then

    freed : hear (heard at) (channel_state w.controller at) ≡ Free
    freed = activated_free n t.change t.channel (step w.controller st).outs acts.put firsts (hear (heard at) (channel_state w.controller at)) (channel_state (step w.controller st).next at) laws.sent acts.outs ordered (b.serves.moves heard_then)

    nobody : ServesOn at w.controller → ⊥
    nobody x =
        let there : connection_of w.controller x.number ≡ Some x.entry.connection = ap (option_map (λ (e : Entry). e.connection)) x.there in
        use_free (heard at) (channel_state w.controller at) x.number (ap (state_in w.controller.channels) (sym x.serves) ∙ (owns_of w.controller x.number x.entry.connection laws.ready there x.is_open).using.0) freed

  -- ---- so it remains fresh

  fresh_then : (o : Option TargetRole) →
      target_role s.state ≡ o →
      FreshRole w p o →
      RoleMoves s s2 (brought_in w.controller n st) acts.put →
      FreshRole v q (target_role s2.state)
  fresh_then o is was (idle none) = subst (FreshRole v q) (sym none) tt
  fresh_then o is was (begins t firsts to ordered) = subst (FreshRole v q) (sym to) (begun_then t firsts to ordered)
  fresh_then o is was (commanded t from to) = subst (FreshRole v q) (sym to) (commanded_then t from (subst (FreshRole w p) (sym is ∙ from) was))
  fresh_then None is was (keeps same no_complete) = subst (FreshRole v q) (sym (same ∙ is)) tt
  fresh_then (Some t) is was (keeps same no_complete) = subst (FreshRole v q) (sym (same ∙ is)) (by t.is_commanded refl was) where
    by : (b : Bool) → t.is_commanded ≡ b → FreshBy w p t.target b → FreshBy v q t.target t.is_commanded
    by true hit led_so = subst (FreshBy v q t.target) (sym hit) (led_then t.target (is ∙ ap (λ (b : Bool). Some (role t.target b)) hit) no_complete led_so)
    by false miss a = subst (FreshBy v q t.target) (sym miss) (awaited_then t.target (is ∙ ap (λ (b : Bool). Some (role t.target b)) miss) a)

  pub turn_fresh : IsFreshIn v q s2.state
  turn_fresh = of_role v q s2.state (fresh_then (target_role s.state) refl (to_role w p s.state fresh)
      (acts_role n w.controller.next_number (hears w.controller SWITCH_LINK) (brought_in w.controller n st) (connection_of w.controller n) acts.put (connection_of (step w.controller st).next n) s s2 acts.acts had.there
      (ap (λ (c : Controller). connection_of c n) (sym turn.next) ∙ there_then) valid had.is_open had_then.is_open))
