-- SPDX-License-Identifier: MIT OR Apache-2.0
-- The channels of an open connection are its mobile's alone.
use Rattle.world_laws.proofs.Prelude.{◌≡◌, ◌≢◌, ℕ, ◌≤◌, ◌==◌, ◌&&◌, Bool, true, false, List, [], ◌∷◌, ◌++◌, length, option_map, unwrap_or}
use Rattle.world_laws.proofs.Prelude.{Contains, Option, Some, None, refl, sym, ap, ◌∙◌, subst, inl, inr, arith, true≢false, eqb-true}
use Rattle.world_laws.proofs.Prelude.{AllByRecursion, Channel, Place, AllByRecursion-append, Connection, is_at, roles_of, target_channels}
use Rattle.world_laws.proofs.Prelude.{target_role, IsOpen, undone, used_channels, brought_in, connection_of, Owns, is_link_up, free≢release}
use Rattle.world_laws.proofs.Prelude.{free≢use, life_ready, life_uses, ChannelState, Free, InUse, Releasing, Step, Controller, Entry, Turn}
use Rattle.world_laws.proofs.Prelude.{channel_state, entry_of, hears, place_at, place_of, state_in, step, is_active, Item, Rsl, AreAllowed}
use Rattle.world_laws.proofs.Prelude.{Parameters, Event, BaseTakes, Handle, Tick, Tenure, actors_after, actors_after_all, Agrees}
use Rattle.world_laws.proofs.Prelude.{active_behind, asker, tenure_behind, owner_in, handled, target_in, with_turn, all_steps, Actors}
use Rattle.world_laws.proofs.Prelude.{Mobile, is_active_at, is_reached, is_station_up, is_up, new_actors, outbox_of, spot_at, tenure_at}
use Rattle.world_laws.proofs.Prelude.{reached_up, up_right, and_right, FollowsTable-new, found_all, IsKnownItem, known_inbox, Right}
use Rattle.world_laws.proofs.Prelude.{handle_turned, heard_of, kinds, right_step, there_of, tick-turned, beside_step, Serves, Turned, hear}
use Rattle.world_laws.proofs.Prelude.{down_after, place-is, none-some, right_new, number_found, channels_of-roles, of_frame, found_number}
use Rattle.world_laws.proofs.Prelude.{all_contained, contains_behind, contains_first, life, take, tick, tenure_all, SitsBy, tenure-append}
use Rattle.world_laws.proofs.Prelude.{runs_put_before, beside_number, takes_number, TookOctets, IsHad, IsElsewhere, ChannelsAreMobiles}
use Rattle.world_laws.proofs.Prelude.{ConnectionsAreAlone, IsMobiles, hear-use, on_own}
use Rattle.conn_rules.specs.declared.input.Input.TheVariants as inputs
use Rattle.controller_model.specs.declared.step.Step.TheVariants as steps
use Rattle.world_model.specs.Life.{event_after}
use Rattle.world_model.proofs.OwnerRuns.{ServesAt, ServesThrough}
use Rattle.world_laws.proofs.OwnerRun.{mobiles_sit_on_theirs_new, life-settings, serves_through, within_settings, not_zero}
use Rattle.world_laws.proofs.Owners.LinkEnds.{owns_of}
use Rattle.world_laws.proofs.Owners.Making.{plain_quiet}
use Rattle.world_laws.proofs.Owners.OldChannels.{ComesFrom, comes_from, freed_brings}
use Rattle.world_laws.proofs.Owners.Present.{present_last}
use Rattle.world_laws.proofs.Owners.Asking.{entry_is_found}
use Rattle.world_laws.proofs.OrderServes.{use_free}
use Rattle.world_laws.proofs.Events.{snoc_actors, world}
use Rattle.world_laws.proofs.Framing.{all_left, all_right}

-- ---- a connection of the world's controller

lives_of : (settings : Parameters) (done : List Event) (w : Actors) →
    w ≡ world settings done →
    w.controller ≡ (life settings (all_steps (new_actors settings) done)).next
lives_of settings done w is = ap (λ (x : Actors). x.controller) is ∙ FollowsTable-new settings done

owns_in : (settings : Parameters) (done : List Event) (w : Actors) (s : Connection) →
    AreAllowed settings →
    w ≡ world settings done →
    IsHad w s →
    Owns w.controller.channels w.controller.links s.number (roles_of s)
owns_in settings done w s allowed is had =
    let by_table = lives_of settings done w is in
    subst (λ (c : Controller). Owns c.channels c.links s.number (roles_of s)) (sym by_table)
    (owns_of settings (all_steps (new_actors settings) done) s allowed (subst (λ (c : Controller). connection_of c s.number ≡ Some s) by_table had.there) had.is_open)

number-is : (c : Controller) (n : ℕ) (s : Connection) → connection_of c n ≡ Some s → s.number ≡ n
number-is c n s is =
    let entry = entry_is_found (entry_of c n) s is in
    ap (λ (x : Connection). x.number) (sym entry.2) ∙ found_number n c.entries entry.0 entry.1

asks_of : (c : Controller) (n : ℕ) (s : Connection) → connection_of c n ≡ Some s → asker c n ≡ Some s.request.access
asks_of c n s is =
    let entry = entry_is_found (entry_of c n) s is in
    ap (option_map (λ (e : Entry). e.connection.request.access)) entry.1 ∙ ap (λ (x : Connection). Some x.request.access) entry.2

-- a channel that isn't free is one of a station of the settings
range : (settings : Parameters) (done : List Event) (w : Actors) (at : Place) →
    AreAllowed settings →
    w ≡ world settings done →
    channel_state w.controller at ≢ Free →
    (1 ≤ at.station) × (at.station ≤ length settings.cells)
range settings done w at allowed is used =
    let ss : List Step = all_steps (new_actors settings) done in
    let c : Controller = (life settings ss).next in
    let busy : channel_state c at ≢ Free = subst (λ (x : Controller). channel_state x at ≢ Free) (lives_of settings done w is) used in (
      not_zero at.station (λ zero_is. busy (ap (λ (k : ℕ). channel_state c (place_at k at.number)) zero_is ∙ (life_uses settings ss allowed).switch at.number)),
      within_settings settings c at (life-settings settings ss) (life_ready settings ss allowed) busy,
    )

old_state : (channels : List (List ChannelState)) (links : List Bool) (n : ℕ) (s : Connection) (c : Channel) →
    Owns channels links n (roles_of s) →
    Contains (undone s.draining) c →
    state_in channels (place_of c) ≡ Releasing n
old_state channels links n s c owns has = all_contained (λ (x : Channel). state_in channels (place_of x) ≡ Releasing n) (undone s.draining) c owns.releasing has

old_linked : (channels : List (List ChannelState)) (links : List Bool) (n : ℕ) (s : Connection) (c : Channel) →
    Owns channels links n (roles_of s) →
    Contains (undone s.draining) c →
    is_link_up links c.station ≡ true
old_linked channels links n s c owns has =
    all_contained (λ (x : Channel). is_link_up links x.station ≡ true) (undone s.draining) c
    (all_left (λ (x : Channel). is_link_up links x.station ≡ true) (undone s.draining) (s.serving ∷ target_channels (target_role s.state)) owns.linked) has

still_up : (w : Actors) (event : Event) (station : ℕ) → is_up (actors_after w event) station ≡ true → is_up w station ≡ true
still_up w event station up = by (is_up w station) refl where
  by : (b : Bool) → is_up w station ≡ b → is_up w station ≡ true
  by true is = is
  by false down = absurd (true≢false (sym up ∙ down_after station w event down))

-- ---- old channels

-- while the link of its station is up, the last tenure of an old channel is the mobile's that asked
-- for the connection
OldIn : (Tenure → ℕ) → Actors → Type 0
OldIn owner w = (s : Connection) → IsHad w s → (c : Channel) → Contains (undone s.draining) c → is_up w c.station ≡ true → owner (tenure_behind w (place_of c)) ≡ s.request.access

-- where the controller does nothing
rests_old : (settings : Parameters) (owner : Tenure → ℕ) (done : List Event) (w : Actors) (event : Event) → AreAllowed settings → w ≡ world settings done → (actors_after w event).controller ≡ w.controller
    → ((at : Place) → 1 ≤ at.station → at.station ≤ length settings.cells → is_up (actors_after w event) at.station ≡ true → (tenure_behind (actors_after w event) at).number ≡ (tenure_behind w at).number) → OldIn owner w → OldIn owner (actors_after w event)
unfolding OldIn
rests_old settings owner done w event allowed is controller number old s had c has up =
    let before : IsHad w s = record { there = ap (λ (d : Controller). connection_of d s.number) (sym controller) ∙ had.there; is_open = had.is_open; from_one = had.from_one } in
    let state = old_state w.controller.channels w.controller.links s.number s c (owns_in settings done w s allowed is before) has in
    let within = range settings done w (place_of c) allowed is (λ free. free≢release s.number (sym free ∙ state)) in
    ap (λ (n : ℕ). owner (record { at = place_of c; number = n })) (number (place_of c) within.0 within.1 up) ∙ old s before c has (still_up w event c.station up)

-- ---- a turn of the controller

-- no tenure begins of a channel that isn't free once the acknowledgement was heard
same_turn : (owner : Tenure → ℕ) (w v : Actors) (at : Place) (target : Option Tenure) (t : Turn) (heard : List Rsl) → Turned w v at target t heard → Serves owner w at target t heard → Agrees owner w at → hears t.next at.station ≡ true → is_up w at.station ≡ true
    → (hear heard (channel_state w.controller at) ≡ Free → ⊥) → (tenure_behind v at).number ≡ (tenure_behind w at).number
same_turn owner w v at target t heard turned serves agrees hearing up busy =
    let n : ℕ = at.station in
    let k : ℕ = at.number in
    let way = agrees.way (serves.hearing hearing) in
    let puts = runs_put_before owner at target (tenure_behind w at).number (serves.moves hearing) (serves.fits hearing up) (active_behind w at) (way.active up ∙ sym (hear-use heard (channel_state w.controller at))) in
    let last : (tenure_behind v at).number ≡ puts.last =
    ap (λ (b : _). tenure_all k (is_active b.active k) (spot_at v at).tenure (outbox_of v n)) turned.base
    ∙ ap (λ (m : ℕ). tenure_all k (is_active_at w at) m (outbox_of v n)) turned.tenure
    ∙ ap (tenure_all k (is_active_at w at) (spot_at w at).tenure) turned.outbox
    ∙ tenure-append k (is_active_at w at) (spot_at w at).tenure (outbox_of w n) turned.entries
    ∙ ap (tenure_all k (active_behind w at) (tenure_behind w at).number) (turned.joins up) ∙ puts.works.tenure_then in
    elim puts.counts [
      | inl kept ↦ last ∙ kept.0
      | inr begun ↦ absurd (busy begun.1)
    ]

comes_in : (settings : Parameters) (done : List Event) (w : Actors) (s : Step) →
    AreAllowed settings →
    w ≡ world settings done →
    (n : ℕ) (t : Connection) (d : Channel) →
    1 ≤ n →
    connection_of (step w.controller s).next n ≡ Some t →
    IsOpen t.state →
    Contains (undone t.draining) d →
    ComesFrom w.controller s n t d
comes_in settings done w s allowed is =
    subst (λ (c : Controller). (n : ℕ) (t : Connection) (d : Channel) → 1 ≤ n → connection_of (step c s).next n ≡ Some t → IsOpen t.state → Contains (undone t.draining) d → ComesFrom c s n t d) (sym (lives_of settings done w is))
    (λ n t d. comes_from settings (all_steps (new_actors settings) done) s n t d allowed)

-- what is heard frees a channel only by its RF CHANNEL RELEASE ACK
abbrev FreesBy : Actors → Step → (Place → List Rsl) → Type 0
FreesBy w s heard =
    (at : Place) (n : ℕ) → channel_state w.controller at ≡ Releasing n → hears w.controller at.station ≡ true → 1 ≤ at.station → hear (heard at) (Releasing n) ≡ Free → brought_in w.controller n s ≡ of_frame (inputs.ReleaseAck at)

turn_old : (settings : Parameters) (owner : Tenure → ℕ) (done rest : List Event) (w v : Actors) (event : Event) (s : Step) (target : Option Tenure) (heard : Place → List Rsl) → AreAllowed settings → w ≡ world settings done → actors_after w event ≡ v → ((at : Place) → Turned w v at target (step w.controller s) (heard at))
    → ((at : Place) → 1 ≤ at.station → at.station ≤ length settings.cells → Serves owner w at target (step w.controller s) (heard at)) → FreesBy w s heard → Right settings owner w (event ∷ rest) → OldIn owner w → OldIn owner v
unfolding OldIn
turn_old settings owner done rest w v event s target heard allowed is after turned serves frees right old t had d has up =
    let at : Place = place_of d in
    let c : Controller = w.controller in
    let next : Controller = (step c s).next in
    let now : v ≡ world settings (done ++ event ∷ []) = sym after ∙ ap (λ (x : Actors). actors_after x event) is ∙ sym (snoc_actors (new_actors settings) done event) in
    let from : ComesFrom c s t.number t d = comes_in settings done w s allowed is t.number t d had.from_one (ap (λ (x : Controller). connection_of x t.number) (sym (turned at).controller) ∙ had.there) had.is_open has in
    let o : Connection = from.used.old in
    let number : o.number ≡ t.number = number-is c t.number o from.used.there in
    let before : IsHad w o = record { there = ap (connection_of c) number ∙ from.used.there; is_open = from.used.is_open; from_one = subst (λ (n : ℕ). 1 ≤ n) (sym number) had.from_one } in
    let owns : Owns c.channels c.links o.number (roles_of o) = owns_in settings done w o allowed is before in
    let hearing : hears next d.station ≡ true = ap (λ (x : Controller). hears x d.station) (sym (turned at).controller) ∙ old_linked v.controller.channels v.controller.links t.number t d (owns_in settings (done ++ event ∷ []) v t allowed now had) has in
    let up_before : is_up w d.station ≡ true = sym (turned at).up ∙ up in
    elim from.used.role [
      | inl has_old ↦
          let state : channel_state c at ≡ Releasing o.number = old_state c.channels c.links o.number o d owns has_old in
          let within = range settings done w at allowed is (λ free. free≢release o.number (sym free ∙ state)) in
          let serving = serves at within.0 within.1 in
          let state_now : channel_state c at ≡ Releasing t.number = state ∙ ap (λ (n : ℕ). Releasing n) number in
          let same = same_turn owner w v at target (step c s) (heard at) (turned at) serving (right.agree at within.0 within.1) hearing up_before
          (λ free. from.unfreed t.number state_now (frees at t.number state_now (serving.hearing hearing) within.0 (sym (ap (hear (heard at)) state_now) ∙ free))) in
          ap (λ (n : ℕ). owner (record { at = at; number = n })) same ∙ old o before d has_old up_before ∙ sym from.access
      | inr served ↦
          let state : channel_state c at ≡ InUse o.number = subst (λ (x : Channel). channel_state c (place_of x) ≡ InUse o.number) (sym served) owns.using.0 in
          let within = range settings done w at allowed is (λ free. free≢use o.number (sym free ∙ state)) in
          let serving = serves at within.0 within.1 in
          let agrees = right.agree at within.0 within.1 in
          let same = same_turn owner w v at target (step c s) (heard at) (turned at) serving agrees hearing up_before (use_free (heard at) (channel_state c at) o.number state) in
          ap (λ (n : ℕ). owner (record { at = at; number = n })) same
          ∙ agrees.own o.number o.request.access (serving.hearing hearing) state (asks_of c o.number o before.there) (λ down silent. absurd (true≢false (sym up_before ∙ down))) ∙ sym from.access
    ]

-- ---- each event

take_frees : (settings : Parameters) (done : List Event) (w : Actors) (item : Item) (items : List Item) →
    w ≡ world settings done →
    w.inbox ≡ item ∷ items →
    FreesBy w (steps.Take item) (λ at. heard_of at item)
take_frees settings done w item items is pending at n state hearing least free =
    let known : AllByRecursion IsKnownItem (item ∷ items) = subst (AllByRecursion IsKnownItem) pending (subst (λ (x : Actors). AllByRecursion IsKnownItem x.inbox) (sym is) (known_inbox settings done)) in
    freed_brings w.controller at n item.source item.what state hearing (λ zero_is. nonzero at.station least zero_is) known.0 free
  where
    nonzero : (k : ℕ) → 1 ≤ k → k ≡ 0 → ⊥
    nonzero k some none = absurd (omega (arith, some, none))

handle_old : (settings : Parameters) (owner : Tenure → ℕ) (done rest : List Event) (w : Actors) →
    AreAllowed settings →
    w ≡ world settings done →
    ServesAt settings owner w Handle →
    Right settings owner w (Handle ∷ rest) →
    OldIn owner w →
    OldIn owner (actors_after w Handle)
unfolding ServesAt event_after
handle_old settings owner done rest w allowed is serves right old = by w.inbox refl where
  by : (items : List Item) → w.inbox ≡ items → OldIn owner (actors_after w Handle)
  by [] pending = subst (OldIn owner) (sym (ap (λ (items : List Item). unwrap_or (handled items w) w) pending)) old
  by (item ∷ items) pending =
      let v : Actors = with_turn (target_in w item.source item.what) (take item w.controller) (record w { inbox = items }) in
      let same : actors_after w Handle ≡ v = ap (λ (all : List Item). unwrap_or (handled all w) w) pending in
      subst (OldIn owner) (sym same)
      (turn_old settings owner done rest w v Handle (steps.Take item) (target_in w item.source item.what) (λ at. heard_of at item) allowed is same
      (λ at. handle_turned w at item items pending) (serves item items pending) (take_frees settings done w item items is pending) right old)

tick_old : (settings : Parameters) (owner : Tenure → ℕ) (done rest : List Event) (w : Actors) (ms : ℕ) →
    AreAllowed settings →
    w ≡ world settings done →
    ServesAt settings owner w (Tick ms) →
    Right settings owner w (Tick ms ∷ rest) →
    OldIn owner w →
    OldIn owner (actors_after w (Tick ms))
unfolding ServesAt event_after
tick_old settings owner done rest w ms allowed is serves right old =
    turn_old settings owner done rest w (with_turn None (tick ms w.controller) w) (Tick ms) (steps.Tick ms) None (λ at. []) allowed is refl (λ at. tick-turned w at ms) serves (λ at n state hearing least free. absurd (free≢release n (sym free))) right old

old_step : (settings : Parameters) (owner : Tenure → ℕ) (done rest : List Event) (w : Actors) (event : Event) →
    AreAllowed settings →
    w ≡ world settings done →
    ServesAt settings owner w event →
    Right settings owner w (event ∷ rest) →
    OldIn owner w →
    OldIn owner (actors_after w event)
old_step settings owner done rest w event allowed is =
    kinds (λ (e : Event). ServesAt settings owner w e → Right settings owner w (e ∷ rest) → OldIn owner w → OldIn owner (actors_after w e))
    (λ e beside serves right old.
    rests_old settings owner done w e allowed is (beside_step w e beside).controller
    (λ at least most up. beside_number at w e beside (there_of settings owner w (e ∷ rest) at right least most) up) old)
    (λ serves right old. handle_old settings owner done rest w allowed is serves right old)
    (λ ms serves right old. tick_old settings owner done rest w ms allowed is serves right old)
    (λ station serves right old.
    rests_old settings owner done w (BaseTakes station) allowed is (plain_quiet w (BaseTakes station) refl).controller
    (λ at least most up. takes_number owner at w station (there_of settings owner w (BaseTakes station ∷ rest) at right least most) right.spots (right.agree at least most) up) old)
    event

-- ---- over all events

run : (settings : Parameters) (owner : Tenure → ℕ) (done rest : List Event) (w : Actors) →
    AreAllowed settings →
    w ≡ world settings done →
    ServesThrough settings owner w rest →
    Right settings owner w rest →
    OldIn owner w →
    Right settings owner (actors_after_all w rest) [] × OldIn owner (actors_after_all w rest)
unfolding ServesThrough
run settings owner done [] w allowed is serves right old = (right, old)
run settings owner done (event ∷ rest) w allowed is serves right old =
    let serving = serves.0 right.agree in
    run settings owner (done ++ event ∷ []) rest (actors_after w event) allowed (ap (λ (x : Actors). actors_after x event) is ∙ sym (snoc_actors (new_actors settings) done event)) serves.1
    (right_step settings owner w event rest serving right) (old_step settings owner done rest w event allowed is serving right old)

old_new : (settings : Parameters) (owner : Tenure → ℕ) → OldIn owner (new_actors settings)
unfolding OldIn
old_new settings owner s had c has up = absurd (none-some _ had.there)

ran : (settings : Parameters) (events : List Event) → AreAllowed settings → TookOctets settings events
    → Right settings (owner_in (new_actors settings) events) (world settings events) [] × OldIn (owner_in (new_actors settings) events) (world settings events)
ran settings events allowed octets =
    let owner : Tenure → ℕ = owner_in (new_actors settings) events in
    run settings owner [] events (new_actors settings) allowed refl (serves_through settings owner [] events (new_actors settings) refl allowed tt octets) (right_new settings events) (old_new settings owner)

-- ---- the laws

each_contained : (P : Channel → Type 0) (xs : List Channel) → ((c : Channel) → Contains xs c → P c) → AllByRecursion P xs
each_contained P [] h = tt
each_contained P (x ∷ xs) h = (h x (contains_first x xs), each_contained P xs (λ c has. h c (contains_behind x c xs has)))

pub channels_are_mobiles_new : (settings : Parameters) (events : List Event) → ChannelsAreMobiles settings events
unfolding OldIn
channels_are_mobiles_new settings events s allowed octets had =
    subst (AllByRecursion (IsMobiles owner w s.request.access)) (channels_of-roles s)
    (AllByRecursion-append (IsMobiles owner w s.request.access) (undone s.draining) (s.serving ∷ targets)
    (each_contained (IsMobiles owner w s.request.access) (undone s.draining) old)
    (each_contained (IsMobiles owner w s.request.access) (s.serving ∷ targets) using))
  where
    w : Actors
    w = world settings events

    owner : Tenure → ℕ
    owner = owner_in (new_actors settings) events

    targets : List Channel
    targets = target_channels (target_role s.state)

    owns : Owns w.controller.channels w.controller.links s.number (roles_of s)
    owns = owns_in settings events w s allowed refl had

    is_mobiles : (c : Channel) →
        channel_state w.controller (place_of c) ≢ Free →
        is_link_up w.controller.links c.station ≡ true →
        (Agrees owner w (place_of c) → is_up w c.station ≡ true → owner (tenure_behind w (place_of c)) ≡ s.request.access) →
        IsMobiles owner w s.request.access c
    is_mobiles c used hearing own =
        let within = range settings events w (place_of c) allowed refl used in
        let agrees = (ran settings events allowed octets).0.agree (place_of c) within.0 within.1 in
        record { last = own agrees; present = λ up active. present_last owner w (place_of c) agrees hearing up active }

    old : (c : Channel) → Contains (undone s.draining) c → IsMobiles owner w s.request.access c
    old c has =
        let state = old_state w.controller.channels w.controller.links s.number s c owns has in
        is_mobiles c (λ free. free≢release s.number (sym free ∙ state)) (old_linked w.controller.channels w.controller.links s.number s c owns has)
        (λ agrees up. (ran settings events allowed octets).1 s had c has up)

    using : (c : Channel) → Contains (s.serving ∷ targets) c → IsMobiles owner w s.request.access c
    using c has =
        let state : channel_state w.controller (place_of c) ≡ InUse s.number = all_contained (λ (x : Channel). state_in w.controller.channels (place_of x) ≡ InUse s.number) (s.serving ∷ targets) c owns.using has in
        let hearing : is_link_up w.controller.links c.station ≡ true = all_contained (λ (x : Channel). is_link_up w.controller.links x.station ≡ true) (s.serving ∷ targets) c
        (all_right (λ (x : Channel). is_link_up w.controller.links x.station ≡ true) (undone s.draining) (s.serving ∷ targets) owns.linked) has in
        is_mobiles c (λ free. free≢use s.number (sym free ∙ state)) hearing
        (λ agrees up. agrees.own s.number s.request.access hearing state (asks_of w.controller s.number s had.there) (λ down silent. absurd (true≢false (sym up ∙ down))))

-- one that is reached is the present one, of a station that is up
reached_is : (w : Actors) (t : Tenure) →
    is_reached w t ≡ true →
    (is_up w t.at.station ≡ true) × (is_active_at w t.at ≡ true) × (tenure_at w t.at ≡ t)
reached_is w t reached =
    let parts = reached_up w t reached in
    let number = and_right (is_station_up w t.at.station && is_active_at w t.at) ((spot_at w t.at).tenure == t.number) reached in
    ((up_right t.at.station w parts.0).1, parts.1, ap (λ (n : ℕ). record { at = t.at; number = n }) (eqb-true (spot_at w t.at).tenure t.number number))

pub connections_are_alone_new : (settings : Parameters) (events : List Event) → ConnectionsAreAlone settings events
connections_are_alone_new settings events s allowed octets had other q tenure command differs found seat reached =
    elsewhere (used_channels s) (channels_are_mobiles_new settings events s allowed octets had)
  where
    w : Actors
    w = world settings events

    owner : Tenure → ℕ
    owner = owner_in (new_actors settings) events

    theirs : owner tenure ≡ other
    theirs =
        let sits : SitsBy owner q.number q.seat = found_all (λ (p : Mobile). SitsBy owner p.number p.seat) other w.mobiles q (mobiles_sit_on_theirs_new settings events allowed octets) found in
        on_own owner q.number tenure command (subst (SitsBy owner q.number) seat sits) ∙ number_found other w.mobiles q found

    never : (c : Channel) → IsMobiles owner w s.request.access c → is_at tenure.at c ≡ true → ⊥
    never c own here =
        let is = place-is tenure.at c here in
        let now = reached_is w tenure reached in
        let station : tenure.at.station ≡ c.station = ap (λ (p : Place). p.station) is in
        let up : is_up w c.station ≡ true = ap (is_up w) (sym station) ∙ now.0 in
        let active : is_active_at w (place_of c) ≡ true = ap (is_active_at w) (sym is) ∙ now.1 in
        let same : tenure_behind w (place_of c) ≡ tenure = own.present up active ∙ ap (tenure_at w) (sym is) ∙ now.2 in
        differs (sym theirs ∙ ap owner (sym same) ∙ own.last up)

    elsewhere : (cs : List Channel) → AllByRecursion (IsMobiles owner w s.request.access) cs → IsElsewhere cs tenure.at
    elsewhere [] all = tt
    elsewhere (c ∷ cs) all = (by (is_at tenure.at c) refl, elsewhere cs all.1) where
      by : (b : Bool) → is_at tenure.at c ≡ b → is_at tenure.at c ≡ false
      by true here = absurd (never c all.0 here)
      by false away = away
