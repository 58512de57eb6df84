-- SPDX-License-Identifier: MIT OR Apache-2.0
-- In every run channels are settled, and so free ones are quiet.
use Rattle.world_laws.proofs.Prelude.{◌≡◌, ◌⊎◌, inl, inr, ℕ, ◌+◌, ◌-◌, ◌==◌, ◌≤◌, Bool, true, false, cond, if◌then◌else◌, unwrap_or, List}
use Rattle.world_laws.proofs.Prelude.{[], ◌∷◌, ◌++◌, map, length, Option, Some, None, refl, sym, ap, ◌∙◌, subst, arith, eqb-true, flat_map}
use Rattle.world_laws.proofs.Prelude.{AllByRecursion, Place, Out, IsOctetStep, ChannelState, Free, Releasing, Take, Controller, Turn}
use Rattle.world_laws.proofs.Prelude.{channel_state, hears, BaseState, is_active, Item, DataMessage, Rsl, DataRequest, RfChannelReleaseAck}
use Rattle.world_laws.proofs.Prelude.{AreAllowed, Parameters, Event, BaseTakes, Handle, AirMessage, OutboxEntry, Tenure, actors_after}
use Rattle.world_laws.proofs.Prelude.{actors_after_all, Agrees, AllAgree, active_behind, is_in_use, to_arrive, owner_in, acknowledgements}
use Rattle.world_laws.proofs.Prelude.{due, outputs, put, to_link, handled, target_in, with_turn, rsl_in, all_steps, first_taken, step_at}
use Rattle.world_laws.proofs.Prelude.{Actors, base_of, is_active_at, is_up, new_actors, outbox_of, good_new, FollowsTable-new, both_empty}
use Rattle.world_laws.proofs.Prelude.{new_outbox, Rests, beside_rests, IsKnownItem, known_inbox, RunsThrough, Runs, entries_to, runs}
use Rattle.world_laws.proofs.Prelude.{first_passes}
use Rattle.world_laws.proofs.Prelude.{activates, over, passes, releases, Right, handle_turned, heard_of, kinds, right_step, there_of}
use Rattle.world_laws.proofs.Prelude.{tick-turned, IsOne, Serves, hear, length-stations_from, true≢false, life, tick, new_base, popped}
use Rattle.world_laws.proofs.Prelude.{new_ends, AllAgree-new, new_down, takes_rests, HaveSpots-new, acknowledgements_up, messages_up}
use Rattle.world_laws.proofs.Prelude.{read_of, brings, coming_up, leading, leading_by, leading_from_air, leading_from_outbox, messages_in}
use Rattle.world_laws.proofs.Prelude.{ChannelsAreSettled, FreeChannelsAreQuiet, IsQuiet, IsSettled, AreOnActive}
use Rattle.controller_model.specs.Life.{take}
use Rattle.world_model.specs.declared.event.Event.TheVariants as events
use Rattle.world_model.specs.Life.{event_after}
use Rattle.world_model.specs.Relay.{commands, entry_of}
use Rattle.world_model.proofs.OwnerRuns.{Follows, ServesAt}
use Rattle.world_laws.proofs.Acknowledged.{coming_read}
use Rattle.world_laws.proofs.OrderServes.{Lawful, LeadsOwn}
use Rattle.world_laws.proofs.OwnerRun.{item_leads, lawful_life, life-settings, serves_event, snoc_steps}
use Rattle.world_laws.proofs.Targets.AckOne.{IsOneOut, one_item}
use Rattle.world_laws.proofs.Targets.Air.{IdleAir, idle_air_new, idle_step}
use Rattle.world_laws.proofs.Targets.Settled.{Frees, comes_free, settled_after}
use Rattle.world_laws.proofs.Targets.Ways.{WaysStand, ways_stand_new, heard_read, initials_none}
use Rattle.world_laws.proofs.Targets.Within.{none_leads, within_none}
use Rattle.world_laws.proofs.Channels.RoleAcks.{up_first}
use Rattle.world_laws.proofs.Events.{snoc_actors, world}
use Rattle.world_laws.proofs.Framing.{all_left, all_right}

-- ---- so a free channel is quiet

pub quiet_of : (owner : Tenure → ℕ) (w : Actors) (at : Place) →
    Agrees owner w at →
    (is_up w at.station ≡ false → outbox_of w at.station ≡ []) →
    IsSettled w at →
    hears w.controller at.station ≡ true →
    channel_state w.controller at ≡ Free →
    IsQuiet w at
quiet_of owner w at agrees none settled hearing free = record {
  nothing_arrives = ap messages_in silent;
  none_opens = initials_none at.number (messages_up w at.station) (sym (coming_read w at) ∙ silent);
  none_commanded = ap (λ (air : List AirMessage). flat_map leading_from_air air ++ flat_map (leading_from_outbox at.number) (outbox_of w at.station)) (settled.air idle) ∙ by (is_up w at.station) refl;
} where
  silent : coming_up w at ≡ []
  silent = settled.silent hearing free

  idle : is_active_at w at ≡ false
  idle = settled.idle hearing (inl free)

  nothing_due : due at.number (is_active_at w at) (outbox_of w at.station) ≡ []
  nothing_due =
      let way = agrees.way hearing in
      let empty = comes_free at.number (channel_state w.controller at) (to_arrive w at ++ way.lost) way.owed free in
      (both_empty (acknowledgements_up w at) (due at.number (is_active_at w at) (outbox_of w at.station)) (sym (sym (up_first w at) ∙ (both_empty (to_arrive w at) way.lost (sym empty)).0))).1

  by : (b : Bool) → is_up w at.station ≡ b → flat_map (leading_from_outbox at.number) (outbox_of w at.station) ≡ []
  by false down = ap (flat_map (leading_from_outbox at.number)) (none down)
  by true up = none_leads at.number (outbox_of w at.station) (subst (λ (b : Bool). due at.number b (outbox_of w at.station) ≡ []) idle nothing_due) (subst (λ (b : Bool). AreOnActive at.number b (outbox_of w at.station)) idle settled.line)

-- ---- what is put

pub leads_none : (k : ℕ) (o : Option Rsl) → leading_by k None o ≡ []
leads_none k (Some (DataRequest d)) = by (d.channel == k) where
  by : (b : Bool) → (if b then [] else []) ≡ (let xs : List AirMessage = [] in xs)
  by true = refl
  by false = refl
leads_none k _ = refl

none_led : (k n : ℕ) (outs : List Out) → AllByRecursion (λ x. leading_from_outbox k x ≡ []) (to_link n (map (entry_of None) outs))
none_led k n [] = tt
none_led k n (out ∷ outs) = by (out.to == n) (none_led k n outs) where
  by : (b : Bool) →
      AllByRecursion (λ x. leading_from_outbox k x ≡ []) (to_link n (map (entry_of None) outs)) →
      AllByRecursion (λ x. leading_from_outbox k x ≡ []) (cond b (entry_of None out ∷ to_link n (map (entry_of None) outs)) (to_link n (map (entry_of None) outs)))
  by true rest = (leads_none k (rsl_in out.frame), rest)
  by false rest = rest

one_within : (k n : ℕ) (tenure : Tenure) (out : Out) (active : Bool) →
    ((d : DataMessage) → (out.to == n) ≡ true → rsl_in out.frame ≡ Some (DataRequest d) → d.channel ≡ k → active ≡ true) →
    AreOnActive k active (to_link n (map (entry_of (Some tenure)) (out ∷ [])))
one_within k n tenure out active h = by (out.to == n) refl where
  target : Option Tenure
  target = if commands (rsl_in out.frame) then Some tenure else None

  leads : (o : Option Rsl) → rsl_in out.frame ≡ o → (out.to == n) ≡ true → active ≡ false → leading_by k target o ≡ []
  leads (Some (DataRequest d)) is to idle = inner (d.channel == k) refl where
    inner : (b : Bool) → (d.channel == k) ≡ b → (if b then leading d.l3 target else []) ≡ []
    inner true hit = absurd (true≢false (sym (h d to is (eqb-true d.channel k hit)) ∙ idle))
    inner false miss = refl
  leads _ is to idle = refl

  by : (b : Bool) → (out.to == n) ≡ b → AreOnActive k active (cond b (entry_of (Some tenure) out ∷ []) [])
  by true to = ((λ idle. leads (rsl_in out.frame) refl to idle), tt)
  by false to = tt

puts_one : (owner : Tenure → ℕ) (w : Actors) (at : Place) (target : Option Tenure) (outs : List Out) →
    Agrees owner w at →
    hears w.controller at.station ≡ true →
    is_up w at.station ≡ true →
    (target ≡ None) ⊎ IsOneOut outs →
    AllByRecursion (LeadsOwn owner w at target) outs →
    AreOnActive at.number (active_behind w at) (entries_to at target outs)
puts_one owner w at None outs agrees hearing up one leads = within_none at.number (active_behind w at) (entries_to at None outs) (none_led at.number at.station outs)
puts_one owner w at (Some tenure) outs agrees hearing up (inl none) leads = absurd cc
puts_one owner w at (Some tenure) outs agrees hearing up (inr (inl empty)) leads = subst (λ (os : List Out). AreOnActive at.number (active_behind w at) (entries_to at (Some tenure) os)) (sym empty) tt
puts_one owner w at (Some tenure) outs agrees hearing up (inr (inr (out, is))) leads =
    let own = (subst (AllByRecursion (LeadsOwn owner w at (Some tenure))) is leads).0 in
    subst (λ (os : List Out). AreOnActive at.number (active_behind w at) (entries_to at (Some tenure) os)) (sym is)
    (one_within at.number at.station tenure out (active_behind w at)
    (λ d to says same.
    let used = own tenure refl d (ap (λ (b : Bool). if b then rsl_in out.frame else None) to ∙ says) same in
    (agrees.way hearing).active up ∙ ap is_in_use used.1))

-- ---- a turn frees a channel that it heard to be released

pub runs_free : {at : Place} {state end : ChannelState} {outs : List Out} → Runs at state outs end → end ≡ Free → state ≡ Free
runs_free over is = is
runs_free (passes beside rest) is = runs_free rest is
runs_free (releases says rest) is = absurd (other (runs_free rest is)) where
  other : {m : ℕ} → Releasing m ≡ Free → ⊥
  other same = absurd cc

pub runs_to_free : {at : Place} {state end : ChannelState} {outs : List Out} → RunsThrough at state outs end → end ≡ Free → state ≡ Free
runs_to_free (runs all) is = runs_free all is
runs_to_free (first_passes beside rest) is = runs_to_free rest is
runs_to_free (activates a says same few rest) is = refl

pub hear_free : (heard : List Rsl) (state : ChannelState) →
    hear heard state ≡ Free →
    (state ≡ Free) ⊎ ((channel : ℕ) × (rest : List Rsl) × (heard ≡ RfChannelReleaseAck channel ∷ rest))
hear_free (RfChannelReleaseAck channel ∷ rest) state is = inr (channel, rest, refl)
hear_free _ state is = inl is

pub alone : (heard : List Rsl) (m : Rsl) (rest : List Rsl) → IsOne heard → heard ≡ m ∷ rest → heard ≡ m ∷ []
alone heard m rest (inl none) is = absurd (let both : [] ≡ m ∷ rest = sym none ∙ is in cc)
alone heard m rest (inr (x, one)) is = one ∙ ap (λ (y : Rsl). y ∷ []) (let both : x ∷ [] ≡ m ∷ rest = sym one ∙ is in cc)

frees_by : (owner : Tenure → ℕ) (w : Actors) (event : Event) (at : Place) (target : Option Tenure) (t : Turn) (heard : List Rsl) →
    (actors_after w event).controller ≡ t.next →
    Serves owner w at target t heard →
    IsOne heard →
    heard ≡ acknowledgements at.number (flat_map (read_of at.station) (popped w event)) →
    Frees w event at
frees_by owner w event at target t heard is serves one read = record {
  hearing = λ hearing. serves.hearing (ap (λ (c : Controller). hears c at.station) (sym is) ∙ hearing);
  freed = λ hearing free. elim (hear_free heard (channel_state w.controller at) (runs_to_free (serves.moves (ap (λ (c : Controller). hears c at.station) (sym is) ∙ hearing)) (ap (λ (c : Controller). channel_state c at) (sym is) ∙ free))) [
    | inl was ↦ inl was
    | inr acks ↦ inr (acks.0, sym read ∙ alone heard (RfChannelReleaseAck acks.0) acks.1 one acks.2)
  ];
}

-- where the controller rests
frees_rests : (w : Actors) (event : Event) (at : Place) → Rests at w event → Frees w event at
frees_rests w event at rests = record {
  hearing = λ hearing. ap (λ (c : Controller). hears c at.station) (sym rests.controller) ∙ hearing;
  freed = λ hearing free. inl (ap (λ (c : Controller). channel_state c at) (sym rests.controller) ∙ free);
}

puts_rests : (w : Actors) (event : Event) (at : Place) →
    outputs w event ≡ [] →
    AreOnActive at.number (active_behind w at) (put at.station w event)
puts_rests w event at none = by (is_up w at.station) where
  by : (b : Bool) → AreOnActive at.number (active_behind w at) (if b then to_link at.station (outputs w event) else [])
  by true = subst (λ (es : List OutboxEntry). AreOnActive at.number (active_behind w at) (to_link at.station es)) (sym none) tt
  by false = tt

-- ---- each event

-- what is kept: the channels agree, the air of those that aren't active is empty, and all are
-- settled
pub record Keeps (settings : Parameters) (owner : Tenure → ℕ) (w : Actors) (later : List Event) : Type 0 where
  pub right : Right settings owner w later
  pub air : IdleAir w
  pub settled : (at : Place) → 1 ≤ at.station → at.station ≤ length settings.cells → IsSettled w at

-- what an event puts, and which channels it frees
record Works (w : Actors) (event : Event) (at : Place) : Type 0 where
  puts : AreOnActive at.number (active_behind w at) (put at.station w event)
  frees : Frees w event at

works_rests : (w : Actors) (event : Event) (at : Place) → Rests at w event → Works w event at
works_rests w event at rests = record { puts = puts_rests w event at rests.outputs; frees = frees_rests w event at rests }

module _ (settings : Parameters) (owner : Tenure → ℕ) (done : List Event) (w : Actors) (is : w ≡ world settings done) (allowed : AreAllowed settings) (octets : AllByRecursion IsOctetStep (all_steps (new_actors settings) done)) where
  by_table : w.controller ≡ (life settings (all_steps (new_actors settings) done)).next
  by_table = ap (λ (x : Actors). x.controller) is ∙ FollowsTable-new settings done

  works_handle : AllAgree settings owner w →
      AllByRecursion IsOctetStep (first_taken w.inbox) →
      ServesAt settings owner w Handle →
      (at : Place) →
      1 ≤ at.station →
      at.station ≤ length settings.cells →
      Works w Handle at
  unfolding ServesAt event_after take
  works_handle agree own serves at least most = by w.inbox refl where
    n : ℕ
    n = at.station

    by : (items : List Item) → w.inbox ≡ items → Works w Handle at
    by [] empty =
        let same : actors_after w Handle ≡ w = ap (λ (items : List Item). unwrap_or (handled items w) w) empty in
        record {
          puts = puts_rests w Handle at (ap (λ (items : List Item). elim items [ [] ↦ [] | first ∷ others ↦ map (entry_of (target_in w first.source first.what)) (take first w.controller).outs ]) empty);
          frees = record {
            hearing = λ hearing. ap (λ (u : Actors). hears u.controller n) (sym same) ∙ hearing;
            freed = λ hearing free. inl (ap (λ (u : Actors). channel_state u.controller at) (sym same) ∙ free);
          };
        }
    by (item ∷ items) pending = record { puts = puts; frees = frees } where
      target : Option Tenure
      target = target_in w item.source item.what

      t : Turn
      t = take item w.controller

      same : actors_after w Handle ≡ with_turn target t (record w { inbox = items })
      same = ap (λ (all : List Item). unwrap_or (handled all w) w) pending

      serving : Serves owner w at target t (heard_of at item)
      serving = serves item items pending at least most

      frees : Frees w Handle at
      frees = frees_by owner w Handle at target t (heard_of at item) (ap (λ (u : Actors). u.controller) same ∙ (handle_turned w at item items pending).controller) serving (handle_turned w at item items pending).one
          (heard_read at item ∙ ap (λ (all : List Item). acknowledgements at.number (flat_map (read_of n) (first_here all))) (sym pending)) where
            first_here : List Item → List Item
            first_here [] = []
            first_here (x ∷ xs) = x ∷ []

      laws : Lawful w.controller (Take item)
      laws = subst (λ (c : Controller). Lawful c (Take item)) (sym by_table) (lawful_life settings (all_steps (new_actors settings) done) (Take item) allowed octets (subst (λ (xs : List Item). AllByRecursion IsOctetStep (first_taken xs)) pending own).0)

      known : IsKnownItem item
      known = (subst (AllByRecursion IsKnownItem) pending (subst (λ (x : Actors). AllByRecursion IsKnownItem x.inbox) (sym is) (known_inbox settings done))).0

      entries : AreOnActive at.number (active_behind w at) (if is_up w n then entries_to at target t.outs else [])
      entries = by_link (is_up w n) (hears t.next n) refl refl where
        by_link : (up hearing : Bool) →
            is_up w n ≡ up →
            hears t.next n ≡ hearing →
            AreOnActive at.number (active_behind w at) (if up then entries_to at target t.outs else [])
        by_link false hearing down h = tt
        by_link true false up deaf = subst (AreOnActive at.number (active_behind w at)) (sym (serving.silent deaf)) tt
        by_link true true up hearing =
            puts_one owner w at target t.outs (agree at least most) (serving.hearing hearing) up (one_item w item.source item.what known)
            (item_leads settings owner w agree (ap (λ (c : Controller). c.settings) by_table ∙ life-settings settings (all_steps (new_actors settings) done)) laws.ready at item.source item.what items least most pending known (serving.hearing hearing) up laws.sent)

      puts : AreOnActive at.number (active_behind w at) (put n w Handle)
      puts = subst (λ (all : List Item). AreOnActive at.number (active_behind w at) (if is_up w n then to_link n (outs_at all) else [])) (sym pending) entries where
        outs_at : List Item → List OutboxEntry
        outs_at [] = []
        outs_at (x ∷ xs) = map (entry_of (target_in w x.source x.what)) (take x w.controller).outs

  works_tick : (ms : ℕ) →
      ServesAt settings owner w (events.Tick ms) →
      (at : Place) →
      1 ≤ at.station →
      at.station ≤ length settings.cells →
      Works w (events.Tick ms) at
  unfolding ServesAt event_after
  works_tick ms serves at least most = record {
    puts = by (is_up w at.station);
    frees = frees_by owner w (events.Tick ms) at None (tick ms w.controller) [] (tick_controller) (serves at least most) (inl refl) refl;
  } where
    by : (b : Bool) →
        AreOnActive at.number (active_behind w at) (if b then to_link at.station (map (entry_of None) (tick ms w.controller).outs) else [])
    by true = within_none at.number (active_behind w at) _ (none_led at.number at.station (tick ms w.controller).outs)
    by false = tt

    tick_controller : (actors_after w (events.Tick ms)).controller ≡ (tick ms w.controller).next
    tick_controller = (tick-turned w at ms).controller

  works_event : (event : Event) (later : List Event) →
      AllByRecursion IsOctetStep (step_at w event) →
      Right settings owner w (event ∷ later) →
      (at : Place) →
      1 ≤ at.station →
      at.station ≤ length settings.cells →
      Works w event at
  works_event event later own right at least most = kinds (λ (e : Event). AllByRecursion IsOctetStep (step_at w e) → ServesAt settings owner w e → Works w e at)
      (λ e beside _ _. works_rests w e at (beside_rests at w e beside (there_of settings owner w (event ∷ later) at right least most)))
      (λ octets_now serves. works_handle right.agree octets_now serves at least most)
      (λ ms _ serves. works_tick ms serves at least most)
      (λ station _ _. works_rests w (BaseTakes station) at (takes_rests owner at w station (there_of settings owner w (event ∷ later) at right least most) right.spots (right.agree at least most)))
      event own (serves_event settings owner done w event is allowed octets own right.agree)

  keeps_step : (event : Event) (later : List Event) →
      AllByRecursion IsOctetStep (step_at w event) →
      Keeps settings owner w (event ∷ later) →
      Keeps settings owner (actors_after w event) later
  keeps_step event later own keeps =
      let right : Right settings owner (actors_after w event) later = right_step settings owner w event later (serves_event settings owner done w event is allowed octets own keeps.right.agree) keeps.right in
      let air : IdleAir (actors_after w event) = idle_step w event keeps.air in
      record {
        right = right;
        air = air;
        settled = λ at least most.
            let there = there_of settings owner w (event ∷ later) at keeps.right least most in
            let works = works_event event later own keeps.right at least most in
            settled_after owner w event at (record {
              least = there.station;
              there = there.among;
              none = there.none;
              good = keeps.right.good;
              agrees = right.agree at least most;
              before = subst (λ (u : Actors). WaysStand u at) (sym is) (ways_stand_new settings done at there.station);
              after = subst (λ (u : Actors). WaysStand u at) (snoc_actors (new_actors settings) done event ∙ ap (λ (u : Actors). actors_after u event) (sym is)) (ways_stand_new settings (done ++ event ∷ []) at there.station);
              puts = works.puts;
              air = air;
              frees = works.frees;
            }) (keeps.settled at least most);
      }

-- ---- all events

keeps_through : (settings : Parameters) (owner : Tenure → ℕ) (done rest : List Event) (w : Actors) →
    w ≡ world settings done →
    AreAllowed settings →
    AllByRecursion IsOctetStep (all_steps (new_actors settings) done) →
    AllByRecursion IsOctetStep (all_steps w rest) →
    Keeps settings owner w rest →
    Keeps settings owner (actors_after_all w rest) []
keeps_through settings owner done [] w is allowed octets later keeps = keeps
keeps_through settings owner done (event ∷ rest) w is allowed octets later keeps =
    let own = all_left IsOctetStep (step_at w event) (all_steps (actors_after w event) rest) later in
    keeps_through settings owner (done ++ event ∷ []) rest (actors_after w event) (ap (λ (x : Actors). actors_after x event) is ∙ sym (snoc_actors (new_actors settings) done event)) allowed
    (snoc_steps IsOctetStep (new_actors settings) done event octets (subst (λ (x : Actors). AllByRecursion IsOctetStep (step_at x event)) is own))
    (all_right IsOctetStep (step_at w event) (all_steps (actors_after w event) rest) later)
    (keeps_step settings owner done w is allowed octets event rest own keeps)

keeps_new : (settings : Parameters) (events : List Event) →
    Keeps settings (owner_in (new_actors settings) events) (new_actors settings) events
unfolding Follows
keeps_new settings events =
    let w : Actors = new_actors settings in
    record {
      right = record {
        agree = AllAgree-new settings (owner_in w events);
        good = good_new settings;
        spots = HaveSpots-new settings;
        stations = length-stations_from 1 settings.cells;
        none = λ link down. new_outbox (length settings.cells + 1) link;
        beyond = λ link less. new_down (length settings.cells + 1) link (omega (arith, less));
        follows = λ t least most up later. refl;
      };
      air = idle_air_new settings;
      settled = λ at least most.
          let base : base_of w at.station ≡ new_base (new_ends settings.cells 1 (at.station - 1)).0 = (new_ends settings.cells 1 (at.station - 1)).1 in
          record {
            line = subst (AreOnActive at.number (is_active_at w at)) (sym (new_outbox (length settings.cells + 1) at.station)) tt;
            air = λ idle. idle_air_new settings at (λ none. absurd (omega (arith, none, least))) idle;
            idle = λ _ _. ap (λ (b : BaseState). is_active b.active at.number) base;
            silent = λ _ _. ap (λ (b : BaseState). flat_map (brings at.number) b.messages) base;
          };
    }

-- in every run
pub keeps_run : (settings : Parameters) (events : List Event) →
    AreAllowed settings →
    AllByRecursion IsOctetStep (all_steps (new_actors settings) events) →
    Keeps settings (owner_in (new_actors settings) events) (world settings events) []
keeps_run settings events allowed octets = keeps_through settings (owner_in (new_actors settings) events) [] events (new_actors settings) refl allowed tt octets (keeps_new settings events)

pub free_channels_are_quiet_new : (settings : Parameters) (events : List Event) → FreeChannelsAreQuiet settings events
free_channels_are_quiet_new settings events at allowed octets least most free hearing =
    let keeps = keeps_run settings events allowed octets in
    quiet_of (owner_in (new_actors settings) events) (world settings events) at (keeps.right.agree at least most) (keeps.right.none at.station) (keeps.settled at least most) hearing free

pub channels_are_settled_new : (settings : Parameters) (events : List Event) → ChannelsAreSettled settings events
channels_are_settled_new settings events at allowed octets least most = (keeps_run settings events allowed octets).settled at least most

-- ---- what is known of a channel of a run

pub record Known (settings : Parameters) (events : List Event) (at : Place) : Type 0 where
  pub agrees : Agrees (owner_in (new_actors settings) events) (world settings events) at
  pub none : is_up (world settings events) at.station ≡ false → outbox_of (world settings events) at.station ≡ []
  pub settled : IsSettled (world settings events) at

pub known_new : (settings : Parameters) (events : List Event) (at : Place) →
    AreAllowed settings →
    AllByRecursion IsOctetStep (all_steps (new_actors settings) events) →
    1 ≤ at.station →
    at.station ≤ length settings.cells →
    Known settings events at
known_new settings events at allowed octets least most =
    let keeps = keeps_run settings events allowed octets in
    record { agrees = keeps.right.agree at least most; none = keeps.right.none at.station; settled = keeps.settled at least most }
