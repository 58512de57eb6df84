-- SPDX-License-Identifier: MIT OR Apache-2.0
-- Channels agree with the ownership that a run gives, as long as the controller serves them.
use Rattle.world_model.proofs.Prelude.{◌≡◌, ◌≢◌, inl, inr, ℕ, zero, suc, ◌+◌, ◌-◌, ◌≤◌, ◌<◌, ◌==◌, ◌&&◌, not, nat_lt, Bool, true, false}
use Rattle.world_model.proofs.Prelude.{cond, if◌then◌else◌, unwrap_or, List, [], ◌∷◌, ◌++◌, length, replicate, option_to_list}
use Rattle.world_model.proofs.Prelude.{slice_index_or, Option, Some, None, refl, sym, ap, ◌∙◌, subst, arith, append-nil, flat_map, Place}
use Rattle.world_model.proofs.Prelude.{Turn, take, tick, is_active, is_bound_of, Item, What, Rsl, ChannelActivation, Parameters, nat_le}
use Rattle.world_model.proofs.Prelude.{cond-true, cond-false, le-leb, leb-true, Event, BaseTakes, Handle, Tick, OutboxEntry, Tenure}
use Rattle.world_model.proofs.Prelude.{actors_after, is_begun, owner_in, user_by, user_of, acknowledgements, active_all, is_active_then}
use Rattle.world_model.proofs.Prelude.{outputs, put, taken, to_link, handled, target_in, with_turn, rsl_in, AllAreBy, IsBy, TakesFirstBy}
use Rattle.world_model.proofs.Prelude.{Actors, base_of, broken_link, is_active_at, is_station_up, is_up, new_actors, new_link, new_spot}
use Rattle.world_model.proofs.Prelude.{no_station, outbox_of, spot_at}
use Rattle.ruled_relay.specs.declared.item.What.TheVariants as whats
use Rattle.world_model.specs.Life.{event_after}
use Rattle.world_model.specs.OwnerLines.{Agrees, AllAgree, acknowledged_in, said, said_by, tenure_all, tenure_behind, tenure_then}
use Rattle.world_model.proofs.Counting.{same_stations}
use Rattle.world_model.proofs.Heard.{Good, good_new, good_step}
use Rattle.world_model.proofs.Honesty.{up_right}
use Rattle.world_model.proofs.Leads.{turn_leads}
use Rattle.world_model.proofs.OwnerEvents.{IsThere, Rests, beside_keeps, beside_rests}
use Rattle.world_model.proofs.OwnerLines.{AllAgree-new, takes_agreed, tenure-append}
use Rattle.world_model.proofs.OwnerPuts.{entries_to}
use Rattle.world_model.proofs.OwnerTakes.{takes_keep, takes_rests, takes_spots}
use Rattle.world_model.proofs.OwnerTenures.{HaveSpots, HaveSpots-new, beside_step, is_beside}
use Rattle.world_model.proofs.OwnerTurn.{BeginsBy, IsOne, Serves, Turned, turn_agrees}
use Rattle.world_model.proofs.Outboxes.{AllJoin, all_join, down_after, down_outbox, new_outbox, step as outbox-step, Step as OutboxStep}
use Rattle.world_model.proofs.Outboxes.Step.{kept_order, breaks}
use Rattle.world_model.proofs.Piping.{acks_append, length-stations_from, step as pipe-step, Step as PipeStep}
use Rattle.world_model.proofs.Piping.Step.{flows, stops}

-- ---- a turn, in the world

no_entries : (up : Bool) (entries : List OutboxEntry) → up ≡ false → (if up then entries else []) ≡ []
no_entries false entries is = refl
no_entries true entries is = absurd cc

turned_by : (w u : Actors) (at : Place) (target : Option Tenure) (t : Turn) (heard : List Rsl) →
    u.links ≡ w.links →
    u.stations ≡ w.stations →
    acknowledged_in at w.inbox ≡ heard ++ acknowledged_in at u.inbox →
    IsOne heard →
    Turned w (with_turn target t u) at target t heard
turned_by w u at target t heard links stations inbox one =
    let all : AllJoin at.station target (record u { controller = t.next }) t.outs (with_turn target t u) = all_join at.station target t.outs (record u { controller = t.next }) in
    record {
      entries = if is_up w at.station then entries_to at target t.outs else [];
      outbox = all.outbox ∙ ap (λ (ls : _). (slice_index_or ls at.station broken_link).outbox ++ (if (slice_index_or ls at.station broken_link).up then entries_to at target t.outs else [])) links;
      joins = λ up. ap (λ (b : Bool). if b then entries_to at target t.outs else []) up;
      down = no_entries (is_up w at.station) (entries_to at target t.outs);
      up = all.up ∙ ap (λ (ls : _). (slice_index_or ls at.station broken_link).up) links;
      base = turn_leads (λ v. base_of v at.station ≡ base_of w at.station) target t u (λ ls. ap (λ (ss : _). (slice_index_or ss (at.station - 1) no_station).base) stations);
      tenure = turn_leads (λ v. (spot_at v at).tenure ≡ (spot_at w at).tenure) target t u (λ ls. ap (λ (ss : _). (slice_index_or (slice_index_or ss (at.station - 1) no_station).spots at.number new_spot).tenure) stations);
      controller = turn_leads (λ v. v.controller ≡ t.next) target t u (λ ls. refl);
      inbox = inbox ∙ ap (λ (items : List Item). heard ++ acknowledged_in at items) (sym (turn_leads (λ v. v.inbox ≡ u.inbox) target t u (λ ls. refl)));
      one = one;
    }

-- what the controller hears of a channel by an item
abbrev pub heard_of : Place → Item → List Rsl
heard_of at item = acknowledgements at.number (said at.station item)

one_filtered : (k : ℕ) (o : Option Rsl) → IsOne (acknowledgements k (option_to_list o))
one_filtered k None = inl refl
one_filtered k (Some m) = by (is_bound_of k m) where
  by : (b : Bool) → IsOne (cond b (m ∷ []) [])
  by true = inr (m, refl)
  by false = inl refl

one_heard : (at : Place) (item : Item) → IsOne (heard_of at item)
one_heard at item = by (item.source == at.station) item.what where
  by : (b : Bool) (what : What) → IsOne (acknowledgements at.number (if b then said_by what else []))
  by true (whats.Frame frame) = one_filtered at.number (rsl_in frame)
  by true whats.Down = inl refl
  by false what = inl refl

pub handle_turned : (w : Actors) (at : Place) (item : Item) (items : List Item) →
    w.inbox ≡ item ∷ items →
    Turned w (with_turn (target_in w item.source item.what) (take item w.controller) (record w { inbox = items })) at (target_in w item.source item.what) (take item w.controller) (heard_of at item)
handle_turned w at item items is =
    turned_by w (record w { inbox = items }) at (target_in w item.source item.what) (take item w.controller) (heard_of at item) refl refl
    (ap (acknowledged_in at) is ∙ acks_append at.number (said at.station item) (flat_map (said at.station) items)) (one_heard at item)

pub tick-turned : (w : Actors) (at : Place) (ms : ℕ) → Turned w (with_turn None (tick ms w.controller) w) at None (tick ms w.controller) []
tick-turned w at ms = turned_by w w at None (tick ms w.controller) [] refl refl refl (inl refl)

-- ---- the number of the last tenure behind all that waits, while the link is up

then_more : (k : ℕ) (active : Bool) (tenure : ℕ) (o : Option Rsl) → tenure ≤ tenure_then k active tenure o
then_more k active tenure (Some (ChannelActivation a)) = by ((a.channel == k) && not active) where
  by : (b : Bool) → tenure ≤ (if b then tenure + 1 else tenure)
  by true = omega arith
  by false = omega arith
then_more k active tenure _ = omega arith

all_more : (k : ℕ) (active : Bool) (tenure : ℕ) (entries : List OutboxEntry) → tenure ≤ tenure_all k active tenure entries
all_more k active tenure [] = omega arith
all_more k active tenure (x ∷ xs) =
    let one = then_more k active tenure (rsl_in x.out.frame) in
    let others = all_more k (is_active_then k active (rsl_in x.out.frame)) (tenure_then k active tenure (rsl_in x.out.frame)) xs in
    omega (arith, one, others)

-- behind a turn there are no fewer
turned_more : (w v : Actors) (at : Place) (target : Option Tenure) (t : Turn) (heard : List Rsl) →
    Turned w v at target t heard →
    (tenure_behind w at).number ≤ (tenure_behind v at).number
turned_more w v at target t heard turned =
    let same : (tenure_behind v at).number ≡ tenure_all at.number (active_all at.number (is_active_at w at) (outbox_of w at.station)) (tenure_behind w at).number turned.entries =
    ap (λ (b : _). tenure_all at.number (is_active b at.number) (spot_at v at).tenure (outbox_of v at.station)) (ap (λ (b : _). b.active) turned.base)
    ∙ ap (λ (m : ℕ). tenure_all at.number (is_active_at w at) m (outbox_of v at.station)) turned.tenure
    ∙ ap (tenure_all at.number (is_active_at w at) (spot_at w at).tenure) turned.outbox
    ∙ tenure-append at.number (is_active_at w at) (spot_at w at).tenure (outbox_of w at.station) turned.entries in
    subst (λ (m : ℕ). (tenure_behind w at).number ≤ m) (sym same) (all_more at.number (active_all at.number (is_active_at w at) (outbox_of w at.station)) (tenure_behind w at).number turned.entries)

false_true : false ≡ true → ⊥
false_true is = absurd cc

-- where the controller rests it is the same
rests_number : (at : Place) (w : Actors) (event : Event) →
    IsThere at w →
    Rests at w event →
    is_up (actors_after w event) at.station ≡ true →
    (tenure_behind (actors_after w event) at).number ≡ (tenure_behind w at).number
rests_number at w event there rests up = by (outbox-step at.station w event) (pipe-step at.station at.number w event there.station there.among there.none) where
  v : Actors
  v = actors_after w event

  none_put : put at.station w event ≡ []
  none_put = by_link (is_up w at.station) where
    by_link : (b : Bool) → (if b then to_link at.station (outputs w event) else []) ≡ []
    by_link true = ap (to_link at.station) rests.outputs
    by_link false = refl

  by : OutboxStep at.station w event v → PipeStep at.station at.number w event v → (tenure_behind v at).number ≡ (tenure_behind w at).number
  by (breaks broken nothing nobody) pipe = absurd (false_true (sym (ap (λ (l : _). l.up) broken) ∙ up))
  by (kept_order same all) (stops down left dropped nothing nobody) = absurd (false_true (sym down ∙ up))
  by (kept_order same all) (flows acks active) =
      ap (λ (b : Bool). tenure_all at.number b (spot_at v at).tenure (outbox_of v at.station)) active
      ∙ ap (λ (m : ℕ). tenure_all at.number (active_all at.number (is_active_at w at) (taken at.station w event)) m (outbox_of v at.station)) rests.tenure
      ∙ sym (tenure-append at.number (is_active_at w at) (spot_at w at).tenure (taken at.station w event) (outbox_of v at.station))
      ∙ ap (tenure_all at.number (is_active_at w at) (spot_at w at).tenure) (sym all ∙ ap (λ (es : List OutboxEntry). outbox_of w at.station ++ es) none_put ∙ append-nil (outbox_of w at.station))

pub beside_number : (at : Place) (w : Actors) (event : Event) →
    is_beside event ≡ true →
    IsThere at w →
    is_up (actors_after w event) at.station ≡ true →
    (tenure_behind (actors_after w event) at).number ≡ (tenure_behind w at).number
beside_number at w event is there up = rests_number at w event there (beside_rests at w event is there) up

pub takes_number : (owner : Tenure → ℕ) (at : Place) (w : Actors) (station : ℕ) →
    IsThere at w →
    HaveSpots w →
    Agrees owner w at →
    is_up (actors_after w (BaseTakes station)) at.station ≡ true →
    (tenure_behind (actors_after w (BaseTakes station)) at).number ≡ (tenure_behind w at).number
takes_number owner at w station there spots agrees up = rests_number at w (BaseTakes station) there (takes_rests owner at w station there spots agrees) up

-- ---- the ownership of a run, from an event on

-- of tenures that aren't begun yet it is what the events that follow give
unfoldable pub Follows : ℕ → (Tenure → ℕ) → Actors → List Event → Type 0
Follows last owner w events = (t : Tenure) → 1 ≤ t.at.station → t.at.station ≤ last → is_up w t.at.station ≡ true → (tenure_behind w t.at).number < t.number → owner t ≡ owner_in w events t

begun_less : (a b c : ℕ) → a < b → b ≤ c → nat_lt a b && nat_le b c ≡ true
begun_less a b c less most = ap (λ (x : Bool). x && nat_le b c) (less_is a b less) ∙ le-leb b c most where
  less_is : (a b : ℕ) → a < b → nat_lt a b ≡ true
  less_is a b less = grind arith

not_begun : (a b c : ℕ) → c < b → nat_lt a b && nat_le b c ≡ false
not_begun a b c less = by (nat_lt a b) (more b c less) where
  more : (b c : ℕ) → c < b → nat_le b c ≡ false
  more b c less = grind arith

  by : (x : Bool) → nat_le b c ≡ false → x && nat_le b c ≡ false
  by true is = is
  by false is = refl

follows_begins : (last : ℕ) (owner : Tenure → ℕ) (w : Actors) (event : Event) (events : List Event) (at : Place) →
    1 ≤ at.station →
    at.station ≤ last →
    Follows last owner w (event ∷ events) →
    BeginsBy owner w (actors_after w event) at (actors_after w event).controller
unfolding Follows
follows_begins last owner w event events at least most follows number mobile up used asks next =
    let v : Actors = actors_after w event in
    let t : Tenure = tenure_behind v at in
    let begun : is_begun w event t ≡ true = begun_less (tenure_behind w at).number t.number t.number (omega (arith, next)) (omega arith) in
    follows t least most up (omega (arith, next))
    ∙ cond-true _ (user_of v.controller at) (owner_in v events t) begun
    ∙ ap (user_by v.controller) used
    ∙ ap (λ (o : Option ℕ). unwrap_or o 0) asks

follows_on : (last : ℕ) (owner : Tenure → ℕ) (w : Actors) (event : Event) (events : List Event) →
    ((at : Place) → 1 ≤ at.station → at.station ≤ last → is_up (actors_after w event) at.station ≡ true → (tenure_behind w at).number ≤ (tenure_behind (actors_after w event) at).number) →
    Follows last owner w (event ∷ events) →
    Follows last owner (actors_after w event) events
unfolding Follows
follows_on last owner w event events more follows t from to up later =
    let v : Actors = actors_after w event in
    let least = more t.at from to up in
    follows t from to (still_up (is_up w t.at.station) refl) (omega (arith, least, later))
    ∙ cond-false _ (user_of v.controller t.at) (owner_in v events t) (not_begun (tenure_behind w t.at).number t.number (tenure_behind v t.at).number later)
  where
    still_up : (b : Bool) → is_up w t.at.station ≡ b → is_up w t.at.station ≡ true
    still_up true is = is
    still_up false down = absurd (false_true (sym (down_after t.at.station w event down) ∙ up))

-- ---- the events

-- each event is one of a mobile, of the switch, a push or a break; or the controller works; or a
-- station takes an entry
pub kinds : (P : Event → Type 0) →
    ((event : Event) → is_beside event ≡ true → P event) →
    P Handle →
    ((ms : ℕ) → P (Tick ms)) →
    ((station : ℕ) → P (BaseTakes station)) →
    (event : Event) →
    P event
kinds P beside handle ticks takes (BaseTakes station) = takes station
kinds P beside handle ticks takes Handle = handle
kinds P beside handle ticks takes (Tick ms) = ticks ms
kinds P beside handle ticks takes event = beside event refl

-- the controller serves each channel of each station of the settings
unfoldable pub ServesAt : Parameters → (Tenure → ℕ) → Actors → Event → Type 0
ServesAt settings owner w Handle =
    (item : Item) (items : List Item) → w.inbox ≡ item ∷ items → (at : Place) → 1 ≤ at.station → at.station ≤ length settings.cells → Serves owner w at (target_in w item.source item.what) (take item w.controller) (heard_of at item)
ServesAt settings owner w (Tick ms) = (at : Place) → 1 ≤ at.station → at.station ≤ length settings.cells → Serves owner w at None (tick ms w.controller) []
ServesAt settings owner w _ = Unit {0}

-- at all these events, where the channels agree with the ownership
unfoldable pub ServesThrough : Parameters → (Tenure → ℕ) → Actors → List Event → Type 0
ServesThrough settings owner w [] = Unit {0}
ServesThrough settings owner w (event ∷ events) = (AllAgree settings owner w → ServesAt settings owner w event) × ServesThrough settings owner (actors_after w event) events

-- what is kept
pub record Right (settings : Parameters) (owner : Tenure → ℕ) (w : Actors) (events : List Event) : Type 0 where
  pub agree : AllAgree settings owner w
  pub good : Good w
  pub spots : HaveSpots w
  pub stations : length w.stations ≡ length settings.cells
  pub none : (link : ℕ) → is_up w link ≡ false → outbox_of w link ≡ []
  pub beyond : (link : ℕ) → length settings.cells < link → is_up w link ≡ false
  pub follows : Follows (length settings.cells) owner w events

pub there_of : (settings : Parameters) (owner : Tenure → ℕ) (w : Actors) (events : List Event) (at : Place) →
    Right settings owner w events →
    1 ≤ at.station →
    at.station ≤ length settings.cells →
    IsThere at w
there_of settings owner w events at right least most = record {
  station = λ is. absurd (zero_less is);
  among = subst (λ (l : ℕ). at.station - 1 < l) (sym right.stations) (omega (arith, least, most));
  none = right.none at.station;
} where
  zero_less : at.station ≡ 0 → ⊥
  zero_less is = absurd (omega (arith, is, least))

-- after an event at which the channels agree still, and no last tenure is lost
right_after : (settings : Parameters) (owner : Tenure → ℕ) (w : Actors) (event : Event) (events : List Event) → Right settings owner w (event ∷ events) → AllAgree settings owner (actors_after w event) → HaveSpots (actors_after w event)
    → ((at : Place) → 1 ≤ at.station → at.station ≤ length settings.cells → is_up (actors_after w event) at.station ≡ true → (tenure_behind w at).number ≤ (tenure_behind (actors_after w event) at).number) → Right settings owner (actors_after w event) events
right_after settings owner w event events right agree spots more = record {
  agree = agree;
  good = good_step w event right.good;
  spots = spots;
  stations = same_stations w event ∙ right.stations;
  none = λ link down. down_outbox link w event (right.none link) down;
  beyond = λ link past. down_after link w event (right.beyond link past);
  follows = follows_on (length settings.cells) owner w event events more right.follows;
}

same_less : (a b : ℕ) → b ≡ a → a ≤ b
same_less a b is = omega (arith, is)

beside_right : (settings : Parameters) (owner : Tenure → ℕ) (w : Actors) (event : Event) (events : List Event) →
    is_beside event ≡ true →
    Right settings owner w (event ∷ events) →
    Right settings owner (actors_after w event) events
beside_right settings owner w event events is right =
    right_after settings owner w event events right
    (λ at least most. beside_keeps owner at w event is (there_of settings owner w (event ∷ events) at right least most) right.good (right.agree at least most))
    ((beside_step w event is).spots right.spots)
    (λ at least most up. same_less (tenure_behind w at).number (tenure_behind (actors_after w event) at).number (beside_number at w event is (there_of settings owner w (event ∷ events) at right least most) up))

takes_right : (settings : Parameters) (owner : Tenure → ℕ) (w : Actors) (station : ℕ) (events : List Event) →
    Right settings owner w (BaseTakes station ∷ events) →
    Right settings owner (actors_after w (BaseTakes station)) events
takes_right settings owner w station events right =
    right_after settings owner w (BaseTakes station) events right
    (λ at least most. takes_keep owner at w station (there_of settings owner w (BaseTakes station ∷ events) at right least most) right.good right.spots (right.agree at least most))
    (takes_spots w station right.spots)
    (λ at least most up. same_less (tenure_behind w at).number (tenure_behind (actors_after w (BaseTakes station)) at).number (takes_number owner at w station (there_of settings owner w (BaseTakes station ∷ events) at right least most) right.spots (right.agree at least most) up))

-- a turn of the controller
turn_right : (settings : Parameters) (owner : Tenure → ℕ) (w v : Actors) (event : Event) (events : List Event) (target : Option Tenure) (t : Turn) (heard : Place → List Rsl) → actors_after w event ≡ v → HaveSpots v → ((at : Place) → Turned w v at target t (heard at))
    → ((at : Place) → 1 ≤ at.station → at.station ≤ length settings.cells → Serves owner w at target t (heard at)) → Right settings owner w (event ∷ events) → Right settings owner v events
turn_right settings owner w v event events target t heard is spots turned serves right =
    subst (λ (u : Actors). Right settings owner u events) is
    (right_after settings owner w event events right
    (subst (AllAgree settings owner) (sym is) (λ at least most.
    turn_agrees owner w v at target t (heard at) (turned at) (serves at least most)
    (subst (BeginsBy owner w v at) (turned at).controller (subst (λ (u : Actors). BeginsBy owner w u at u.controller) is (follows_begins (length settings.cells) owner w event events at least most right.follows)))
    (right.agree at least most)))
    (subst HaveSpots (sym is) spots)
    (λ at least most up. subst (λ (u : Actors). (tenure_behind w at).number ≤ (tenure_behind u at).number) (sym is) (turned_more w v at target t (heard at) (turned at))))

handle_right : (settings : Parameters) (owner : Tenure → ℕ) (w : Actors) (events : List Event) →
    ServesAt settings owner w Handle →
    Right settings owner w (Handle ∷ events) →
    Right settings owner (actors_after w Handle) events
unfolding ServesAt event_after
handle_right settings owner w events serves right = by w.inbox refl where
  by : (items : List Item) → w.inbox ≡ items → Right settings owner (actors_after w Handle) events
  by [] is =
      let same : actors_after w Handle ≡ w = ap (λ (items : List Item). unwrap_or (handled items w) w) is in
      right_after settings owner w Handle events right (subst (AllAgree settings owner) (sym same) right.agree) (subst HaveSpots (sym same) right.spots)
      (λ at least most up. same_less (tenure_behind w at).number (tenure_behind (actors_after w Handle) at).number (ap (λ (u : Actors). (tenure_behind u at).number) same))
  by (item ∷ items) is =
      let v : Actors = with_turn (target_in w item.source item.what) (take item w.controller) (record w { inbox = items }) in
      let same : actors_after w Handle ≡ v = ap (λ (all : List Item). unwrap_or (handled all w) w) is in
      subst (λ (u : Actors). Right settings owner u events) (sym same)
      (turn_right settings owner w v Handle events (target_in w item.source item.what) (take item w.controller) (λ at. heard_of at item) same
      (turn_leads HaveSpots (target_in w item.source item.what) (take item w.controller) (record w { inbox = items }) (λ links. right.spots))
      (λ at. handle_turned w at item items is) (serves item items is) right)

tick_right : (settings : Parameters) (owner : Tenure → ℕ) (w : Actors) (ms : ℕ) (events : List Event) →
    ServesAt settings owner w (Tick ms) →
    Right settings owner w (Tick ms ∷ events) →
    Right settings owner (actors_after w (Tick ms)) events
unfolding ServesAt event_after
tick_right settings owner w ms events serves right =
    turn_right settings owner w (with_turn None (tick ms w.controller) w) (Tick ms) events None (tick ms w.controller) (λ at. []) refl (turn_leads HaveSpots None (tick ms w.controller) w (λ links. right.spots)) (λ at. tick-turned w at ms) serves right

pub right_step : (settings : Parameters) (owner : Tenure → ℕ) (w : Actors) (event : Event) (events : List Event) →
    ServesAt settings owner w event →
    Right settings owner w (event ∷ events) →
    Right settings owner (actors_after w event) events
right_step settings owner w event events = kinds (λ (e : Event). ServesAt settings owner w e → Right settings owner w (e ∷ events) → Right settings owner (actors_after w e) events)
    (λ e is serves right. beside_right settings owner w e events is right)
    (handle_right settings owner w events)
    (λ ms. tick_right settings owner w ms events)
    (λ station serves right. takes_right settings owner w station events right)
    event

-- ---- so what stations take agrees

is_by : (settings : Parameters) (owner : Tenure → ℕ) (w : Actors) (event : Event) (events : List Event) →
    Right settings owner w events →
    IsBy owner w event
is_by settings owner w (BaseTakes station) events right = λ up. by up (nat_le station (length settings.cells)) refl where
  one : station ≢ 0 → 1 ≤ station
  one is = omega (arith, is)

  past : (a b : ℕ) → nat_le a b ≡ false → b < a
  past a b is = grind arith

  by : is_station_up w station ≡ true →
      (b : Bool) →
      nat_le station (length settings.cells) ≡ b →
      TakesFirstBy owner w station (outbox_of w station)
  by up true is = takes_agreed settings owner w station (one (up_right station w up).0) (leb-true station (length settings.cells) is) right.agree
  by up false is = absurd (false_true (sym (right.beyond station (past station (length settings.cells) is)) ∙ (up_right station w up).1))
is_by settings owner w _ events right = tt

all_by : (settings : Parameters) (owner : Tenure → ℕ) (w : Actors) (events : List Event) →
    ServesThrough settings owner w events →
    Right settings owner w events →
    AllAreBy owner w events
unfolding ServesThrough
all_by settings owner w [] serves right = tt
all_by settings owner w (event ∷ events) serves right = (
  is_by settings owner w event (event ∷ events) right,
  all_by settings owner (actors_after w event) events serves.1 (right_step settings owner w event events (serves.0 right.agree) right),
)

-- from the beginning on
pub new_down : (count link : ℕ) → count ≤ link → (slice_index_or (replicate count new_link) link broken_link).up ≡ false
new_down zero link less = refl
new_down (suc count) zero less = absurd (omega (arith, less))
new_down (suc count) (suc link) less = new_down count link (omega (arith, less))

pub right_new : (settings : Parameters) (events : List Event) →
    Right settings (owner_in (new_actors settings) events) (new_actors settings) events
unfolding Follows
right_new settings events =
    let w : Actors = new_actors settings in
    record {
      agree = AllAgree-new settings (owner_in w events);
      good = good_new settings;
      spots = HaveSpots-new settings;
      stations = length-stations_from 1 settings.cells;
      none = λ link down. new_outbox (length settings.cells + 1) link;
      beyond = λ link less. new_down (length settings.cells + 1) link (omega (arith, less));
      follows = λ t least most up later. refl;
    }

pub owned_run : (settings : Parameters) (events : List Event) →
    ServesThrough settings (owner_in (new_actors settings) events) (new_actors settings) events →
    AllAreBy (owner_in (new_actors settings) events) (new_actors settings) events
owned_run settings events serves = all_by settings (owner_in (new_actors settings) events) (new_actors settings) events serves (right_new settings events)
