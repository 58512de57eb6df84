-- SPDX-License-Identifier: MIT OR Apache-2.0
-- A mobile that never had a connection remains as it connected, event by event.
use Rattle.world_laws.proofs.Prelude.{◌≡◌, ℕ, ◌+◌, ◌&&◌, nat_eq, Bool, true, false, if◌then◌else◌, cond, List, [], ◌∷◌, ◌++◌, find, length}
use Rattle.world_laws.proofs.Prelude.{Option, Some, None, refl, sym, ap, ◌∙◌, subst, append_assoc, true≢false, AllByRecursion, is_none}
use Rattle.world_laws.proofs.Prelude.{eqb-true, eqb-false, append-nil, IsOctetStep, Turn, Zero, refusal_of_connect, Item, AreAllowed}
use Rattle.world_laws.proofs.Prelude.{Parameters, Event, OutboxEntry, Command, Asking, On, Tenure, actors_after, actors_after_all, brought}
use Rattle.world_laws.proofs.Prelude.{channel_required, connected, framed, is_new, target_in, with_turn, rsl_in, all_steps, first_taken}
use Rattle.world_laws.proofs.Prelude.{step_at, Actors, Mobile, has_number, is_station_up, mobile_of, modulus_in, new_actors, outbox_of}
use Rattle.world_laws.proofs.Prelude.{back_other, number_found, good_all, good_new, after_taken, air_up_leads, and_right, broken_leads}
use Rattle.world_laws.proofs.Prelude.{connect_leads, handle_leads, push_leads, new_outbox, event-keeps, same_Some, found_front, take, tick}
use Rattle.world_laws.proofs.Prelude.{rr_reading, is_initial, MobileFault, BadMessage, AssignsAnother, NamesAnother, IsAsItConnected}
use Rattle.world_laws.proofs.Prelude.{NoneNames, StillAsks, UnansweredMobilesAsk, WasNeverAnswered, IsUnanswered}
use Rattle.controller_model.specs.declared.step.Step.TheVariants as steps
use Rattle.world_model.specs.declared.event.Event.TheVariants as events
use Rattle.world_model.specs.Life.{event_after}
use Rattle.world_model.specs.Mobiles.{with_message_made}
use Rattle.world_laws.proofs.Others.{turn_mobiles}
use Rattle.world_laws.proofs.OwnerRun.{snoc_steps}
use Rattle.world_laws.proofs.Sublists.{sub_all}
use Rattle.world_laws.proofs.Access.Mobiles.{AllGo, MobileDoes, IsToMove, all_same, event_leads_all}
use Rattle.world_laws.proofs.Access.Mobiles.MobileDoes.{gets_channel as gets, hears, moves, same, unchanged}
use Rattle.world_laws.proofs.Access.Passes.{Passes, passes_itself}
use Rattle.world_laws.proofs.Access.Travels.{event_passes, is_passing}
use Rattle.world_laws.proofs.Order.Naming.{step_names, turn_names}
use Rattle.world_laws.proofs.Owners.Making.{plain_quiet}
use Rattle.world_laws.proofs.Events.{snoc_actors}
use Rattle.world_laws.proofs.Framing.{all_left, all_right}
use Rattle.world_laws.proofs.MobileEvents.{on_asks}

-- ---- lists of mobiles

behind_new : (n : ℕ) (x new : Mobile) (ms : List Mobile) →
    find (has_number n) ms ≡ None →
    find (has_number n) (ms ++ new ∷ []) ≡ Some x →
    (new ≡ x) × (new.number ≡ n)
behind_new n x new [] none found = by (nat_eq new.number n) refl found where
  by : (b : Bool) → nat_eq new.number n ≡ b → cond b (Some new) None ≡ Some x → (new ≡ x) × (new.number ≡ n)
  by true hit is = (same_Some _ _ is, eqb-true new.number n hit)
  by false miss is = absurd cc
behind_new n x new (y ∷ ms) none found = by (has_number n y) (behind_new n x new ms) none found where
  by : (b : Bool) →
      (find (has_number n) ms ≡ None → find (has_number n) (ms ++ new ∷ []) ≡ Some x → (new ≡ x) × (new.number ≡ n)) →
      cond b (Some y) (find (has_number n) ms) ≡ None →
      cond b (Some y) (find (has_number n) (ms ++ new ∷ [])) ≡ Some x →
      (new ≡ x) × (new.number ≡ n)
  by true others none found = absurd cc
  by false others none found = others none found

-- ---- how many numbers the messages have is unchanged

Counts : ℕ → Actors → Type 0
Counts m v = v.modulus ≡ m

counts_all : (m : ℕ) (w : Actors) (run : List Event) → w.modulus ≡ m → (actors_after_all w run).modulus ≡ m
unfolding Counts
counts_all m w [] is = is
counts_all m w (event ∷ rest) is = counts_all m (actors_after w event) rest (event-keeps (Counts m) w event (record {
  puts = λ u number p q _ _ _ same. same;
  joins = λ number initial accepts _ same. same;
  tells = λ u n message _ _ same. same;
  spots = λ u at spot _ _ same. same;
  pops = λ station others _ same. same;
  activates = λ u station a _ _ same. same;
  releases = λ u station channel _ same. same;
}) (record {
  rest = λ u inbox controller switch made links same. same;
  next = λ source message _ same. same;
  down = λ source _ _ same. same;
}) is)

-- ---- what becomes of one that asks

does_asking : {w v : Actors} {event : Event} {number : ℕ} {p q : Mobile} →
    p.seat ≡ Asking →
    NoneNames w number →
    MobileDoes w event v number p q →
    q ≡ p
does_asking seat none (same is) = is
does_asking seat none (unchanged there opens other gives) = absurd (other seat)
does_asking seat none (hears tenure command first others there air is) = absurd (on_asks (sym there ∙ seat))
does_asking seat none (moves to_move opens) = absurd (subst IsToMove seat to_move)
does_asking {w} {number = number} seat none (gets a) =
    let entry : AssignsAnother number (rsl_in a.first.out.frame) = (subst (AllByRecursion (λ (e : OutboxEntry). AssignsAnother number (rsl_in e.out.frame))) a.pending (none a.station)).0 in
    let reading : NamesAnother number (rr_reading a.command.information) = subst (AssignsAnother number) a.reads entry in
    absurd (subst (NamesAnother number) a.says reading a.names)

lawful_of : (initial : List ℕ) → is_none (refusal_of_connect (Some initial)) ≡ true → is_initial initial ≡ true
lawful_of initial may = by (is_initial initial) may where
  by : (b : Bool) → is_none (let o : Option MobileFault = if b then None else Some BadMessage in o) ≡ true → b ≡ true
  by true may = refl
  by false may = absurd cc

-- ---- each event

module _ (settings : Parameters) (done : List Event) (k : ℕ) where
  abbrev world : Actors
  world = actors_after_all (new_actors settings) done

  abbrev modulus : ℕ
  modulus = modulus_in settings

  later_one : (event : Event) (p : Mobile) → IsAsItConnected modulus done k p → IsAsItConnected modulus (done ++ event ∷ []) k p
  later_one event p is = record {
    before = is.before;
    station = is.station;
    initial = is.initial;
    accepts = is.accepts;
    after = is.after ++ event ∷ [];
    connected_at = ap (λ (xs : List Event). xs ++ event ∷ []) is.connected_at ∙ append_assoc is.before (events.Connect k is.station is.initial is.accepts ∷ is.after) (event ∷ []);
    lawful = is.lawful;
    same = is.same;
  }

  -- nothing happens
  still : (event : Event) → StillAsks modulus done world k → StillAsks modulus (done ++ event ∷ []) world k
  still event asks = record { none_names = asks.none_names; as_connected = λ p found. later_one event p (asks.as_connected p found) }

  -- neither the controller nor a frame of SAPI 0 takes part, and none connects
  passing_step : (event : Event) →
      is_passing event ≡ true →
      ((j : ℕ) → is_none (mobile_of (actors_after world event) j) ≡ is_none (mobile_of world j)) →
      StillAsks modulus done world k →
      StillAsks modulus (done ++ event ∷ []) (actors_after world event) k
  passing_step event passing there asks = record {
    none_names = λ station. sub_all (λ (e : OutboxEntry). AssignsAnother k (rsl_in e.out.frame)) (passes.entries station) (asks.none_names station);
    as_connected = λ q found. by q found (mobile_of world k) refl;
  } where
    v : Actors
    v = actors_after world event

    passes : Passes world v
    passes = after_taken (Passes world) (event_after world event) world (event_passes world event passing (good_all (new_actors settings) done (good_new settings))) (passes_itself world)

    all : AllGo world event v
    all = after_taken (AllGo world event) (event_after world event) world (event_leads_all world event passing) (all_same world event world refl)

    by : (q : Mobile) →
        mobile_of v k ≡ Some q →
        (o : Option Mobile) →
        mobile_of world k ≡ o →
        IsAsItConnected modulus (done ++ event ∷ []) k q
    by q found None none = absurd (true≢false (sym (ap is_none none) ∙ sym (there k) ∙ ap is_none found))
    by q found (Some p) was =
        let one = all.each k p was in
        let own = asks.as_connected p was in
        let is : q ≡ p = same_Some _ _ (sym found ∙ one.1) ∙ does_asking (ap (λ (x : Mobile). x.seat) own.same) asks.none_names one.2 in
        subst (IsAsItConnected modulus (done ++ event ∷ []) k) (sym is) (later_one event p own)

  -- a station takes a mobile's frame
  sent_step : (number : ℕ) →
      StillAsks modulus done world k →
      StillAsks modulus (done ++ events.AirUp number Zero ∷ []) (actors_after world (events.AirUp number Zero)) k
  unfolding event_after
  sent_step number asks = after_taken P (event_after world event) world (air_up_leads P world number Zero (λ p tenure command frame acts sits lent reached. sent p tenure command frame acts sits)) (still event asks) where
    event : Event
    event = events.AirUp number Zero

    P : Actors → Type 0
    P v = StillAsks modulus (done ++ event ∷ []) v k

    sent : (p : Mobile) (tenure : Tenure) (command : Option Command) (frame : List ℕ) →
        mobile_of world number ≡ Some p →
        p.seat ≡ On tenure command →
        P (brought world p tenure.at Zero frame)
    sent p tenure command frame acts sits = record { none_names = λ station. asks.none_names station; as_connected = λ x found. by_number x found (nat_eq number k) refl } where
      q : Mobile
      q = record (framed p Zero) { opens = false }

      q_number : q.number ≡ number
      q_number = number_found number world.mobiles p acts

      by_number : (x : Mobile) →
          mobile_of (brought world p tenure.at Zero frame) k ≡ Some x →
          (b : Bool) →
          nat_eq number k ≡ b →
          IsAsItConnected modulus (done ++ event ∷ []) k x
      by_number x found true hit =
          let own = asks.as_connected p (ap (mobile_of world) (sym (eqb-true number k hit)) ∙ acts) in
          absurd (on_asks (sym sits ∙ ap (λ (y : Mobile). y.seat) own.same))
      by_number x found false miss = later_one event x (asks.as_connected x (sym (back_other q world.mobiles k (λ is. eqb-false number k miss (sym q_number ∙ is))) ∙ found))

  -- a mobile connects
  connect_step : (number station : ℕ) (initial : List ℕ) (accepts : Bool) →
      StillAsks modulus done world k →
      StillAsks modulus (done ++ events.Connect number station initial accepts ∷ []) (actors_after world (events.Connect number station initial accepts)) k
  unfolding event_after
  connect_step number station initial accepts asks = after_taken P (event_after world event) world (connect_leads P world number station initial accepts (λ may. connects may)) (still event asks) where
    event : Event
    event = events.Connect number station initial accepts

    P : Actors → Type 0
    P v = StillAsks modulus (done ++ event ∷ []) v k

    new : Mobile
    new = connected world.modulus number initial accepts

    connects : is_new world number && is_station_up world station && is_none (refusal_of_connect (Some initial)) ≡ true →
        P (with_message_made station (channel_required number) (record world { mobiles = world.mobiles ++ new ∷ [] }))
    connects may = record { none_names = λ at. asks.none_names at; as_connected = λ x found. by x found (mobile_of world k) refl } where
      by : (x : Mobile) →
          find (has_number k) (world.mobiles ++ new ∷ []) ≡ Some x →
          (o : Option Mobile) →
          mobile_of world k ≡ o →
          IsAsItConnected modulus (done ++ event ∷ []) k x
      by x found (Some p) was =
          let is : x ≡ p = same_Some _ _ (sym found ∙ found_front k p world.mobiles (new ∷ []) was) in
          subst (IsAsItConnected modulus (done ++ event ∷ []) k) (sym is) (later_one event p (asks.as_connected p was))
      by x found None none =
          let is = behind_new k x new world.mobiles none found in
          record {
            before = done;
            station = station;
            initial = initial;
            accepts = accepts;
            after = [];
            connected_at = ap (λ (n : ℕ). done ++ events.Connect n station initial accepts ∷ []) is.1;
            lawful = lawful_of initial (and_right (is_new world number && is_station_up world station) (is_none (refusal_of_connect (Some initial))) may);
            same = sym is.0 ∙ ap (λ (m : ℕ). connected m number initial accepts) (counts_all modulus (new_actors settings) done refl) ∙ ap (λ (n : ℕ). connected modulus n initial accepts) is.1;
          }

  -- the controller works
  turned : (event : Event) (target : Option Tenure) (t : Turn) (u : Actors) →
      NoneNames u k →
      u.mobiles ≡ world.mobiles →
      AllByRecursion (λ out. AssignsAnother k (rsl_in out.frame)) t.outs →
      StillAsks modulus done world k →
      StillAsks modulus (done ++ event ∷ []) (with_turn target t u) k
  turned event target t u none mobiles all asks = record {
    none_names = turn_names k target t.outs (record u { controller = t.next }) (λ station. none station) all;
    as_connected = λ x found. later_one event x (asks.as_connected x (sym (ap (λ (ms : List Mobile). find (has_number k) ms) (turn_mobiles target t.outs (record u { controller = t.next }) ∙ mobiles)) ∙ found));
  }

  handle_step : AreAllowed settings →
      AllByRecursion IsOctetStep (all_steps (new_actors settings) done) →
      AllByRecursion IsOctetStep (first_taken world.inbox) →
      IsUnanswered world k →
      StillAsks modulus done world k →
      StillAsks modulus (done ++ events.Handle ∷ []) (actors_after world events.Handle) k
  unfolding event_after
  handle_step allowed octets own unanswered asks = after_taken P (event_after world events.Handle) world (handle_leads P world (λ item items pending. handled item items pending)) (still events.Handle asks) where
    P : Actors → Type 0
    P v = StillAsks modulus (done ++ events.Handle ∷ []) v k

    handled : (item : Item) (items : List Item) →
        world.inbox ≡ item ∷ items →
        P (with_turn (target_in world item.source item.what) (take item world.controller) (record world { inbox = items }))
    handled item items pending =
        turned events.Handle (target_in world item.source item.what) (take item world.controller) (record world { inbox = items }) (λ station. asks.none_names station) refl
        (step_names settings done (steps.Take item) k allowed octets (subst (λ (xs : List Item). AllByRecursion IsOctetStep (first_taken xs)) pending own).0 unanswered) asks

  tick_step : (ms : ℕ) →
      AreAllowed settings →
      AllByRecursion IsOctetStep (all_steps (new_actors settings) done) →
      IsUnanswered world k →
      StillAsks modulus done world k →
      StillAsks modulus (done ++ events.Tick ms ∷ []) (actors_after world (events.Tick ms)) k
  unfolding event_after
  tick_step ms allowed octets unanswered asks = turned (events.Tick ms) None (tick ms world.controller) world asks.none_names refl (step_names settings done (steps.Tick ms) k allowed octets tt unanswered) asks

  pushed_there : (source j : ℕ) → is_none (mobile_of (actors_after world (events.BasePush source)) j) ≡ is_none (mobile_of world j)
  unfolding event_after
  pushed_there source j =
      after_taken (λ v. is_none (mobile_of v j) ≡ is_none (mobile_of world j)) (event_after world (events.BasePush source)) world
      (push_leads (λ v. is_none (mobile_of v j) ≡ is_none (mobile_of world j)) world source (λ first others. refl) (λ message first. refl)) refl

  broken_there : (source j : ℕ) → is_none (mobile_of (actors_after world (events.BaseDown source)) j) ≡ is_none (mobile_of world j)
  unfolding event_after
  broken_there source j =
      after_taken (λ v. is_none (mobile_of v j) ≡ is_none (mobile_of world j)) (event_after world (events.BaseDown source)) world
      (broken_leads (λ v. is_none (mobile_of v j) ≡ is_none (mobile_of world j)) world source (λ up switch. refl) (λ up station. refl)) refl

  event_asks : (event : Event) →
      AreAllowed settings →
      AllByRecursion IsOctetStep (all_steps (new_actors settings) done) →
      AllByRecursion IsOctetStep (step_at world event) →
      IsUnanswered world k →
      StillAsks modulus done world k →
      StillAsks modulus (done ++ event ∷ []) (actors_after world event) k
  event_asks (events.Connect number station initial accepts) allowed octets own unanswered asks = connect_step number station initial accepts asks
  event_asks (events.AirUp number Zero) allowed octets own unanswered asks = sent_step number asks
  event_asks (events.BasePush source) allowed octets own unanswered asks = passing_step (events.BasePush source) refl (pushed_there source) asks
  event_asks events.Handle allowed octets own unanswered asks = handle_step allowed octets own unanswered asks
  event_asks (events.Tick ms) allowed octets own unanswered asks = tick_step ms allowed octets unanswered asks
  event_asks (events.BaseDown source) allowed octets own unanswered asks = passing_step (events.BaseDown source) refl (broken_there source) asks
  event_asks event allowed octets own unanswered asks = passing_step event refl (plain_quiet world event refl).mobiles asks

-- ---- all events

asks_through : (settings : Parameters) (k : ℕ) (all done rest : List Event) (w : Actors) → all ≡ done ++ rest → w ≡ actors_after_all (new_actors settings) done → AreAllowed settings → AllByRecursion IsOctetStep (all_steps (new_actors settings) done) → AllByRecursion IsOctetStep (all_steps w rest)
    → WasNeverAnswered settings all k → StillAsks (modulus_in settings) done w k → StillAsks (modulus_in settings) all (actors_after_all w rest) k
asks_through settings k all done [] w whole is allowed octets later never asks = subst (λ (xs : List Event). StillAsks (modulus_in settings) xs w k) (sym (whole ∙ append-nil done)) asks
asks_through settings k all done (event ∷ rest) w whole is allowed octets later never asks =
    let front = all_left IsOctetStep (step_at w event) (all_steps (actors_after w event) rest) later in
    let own : AllByRecursion IsOctetStep (step_at (actors_after_all (new_actors settings) done) event) = subst (λ (x : Actors). AllByRecursion IsOctetStep (step_at x event)) is front in
    asks_through settings k all (done ++ event ∷ []) rest (actors_after w event) (whole ∙ sym (append_assoc done (event ∷ []) rest)) (ap (λ (x : Actors). actors_after x event) is ∙ sym (snoc_actors (new_actors settings) done event)) allowed
    (snoc_steps IsOctetStep (new_actors settings) done event octets own)
    (all_right IsOctetStep (step_at w event) (all_steps (actors_after w event) rest) later) never
    (subst (λ (x : Actors). StillAsks (modulus_in settings) (done ++ event ∷ []) (actors_after x event) k) (sym is)
    (event_asks settings done k event allowed octets own (never done (event ∷ rest) whole) (subst (λ (x : Actors). StillAsks (modulus_in settings) done x k) is asks)))

new_names : (settings : Parameters) (k : ℕ) → StillAsks (modulus_in settings) [] (new_actors settings) k
new_names settings k = record { none_names = λ station. none station; as_connected = λ p found. absurd cc } where
  none : (station : ℕ) →
      AllByRecursion (λ (e : OutboxEntry). AssignsAnother k (rsl_in e.out.frame)) (outbox_of (new_actors settings) station)
  none station = subst (AllByRecursion (λ (e : OutboxEntry). AssignsAnother k (rsl_in e.out.frame))) (sym (new_outbox (length settings.cells + 1) station)) tt

pub unanswered_mobiles_ask_new : (settings : Parameters) (run : List Event) → UnansweredMobilesAsk settings run
unanswered_mobiles_ask_new settings run mobile allowed octets never =
    asks_through settings mobile run [] run (new_actors settings) refl refl allowed tt octets never (new_names settings mobile)
