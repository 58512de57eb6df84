-- SPDX-License-Identifier: MIT OR Apache-2.0
-- A connection that begins: the mobile that asked for it is as it connected, and nothing is on its
-- way on its channel.
use Rattle.world_laws.proofs.Prelude.{◌≡◌, ◌≢◌, ℕ, ◌+◌, ◌-◌, ◌≤◌, ◌<◌, leb, Bool, true, false, if◌then◌else◌, List, [], ◌∷◌}
use Rattle.world_laws.proofs.Prelude.{◌++◌, find, fold, length, option_map, Option, Some, None, refl, sym, ap, ◌∙◌, subst, append_assoc}
use Rattle.world_laws.proofs.Prelude.{arith, inl, inr, AllByRecursion, flat_map, result_ok, cases_Bool, cond-false, cond-true, leb-false}
use Rattle.world_laws.proofs.Prelude.{leb-true, Channel, Place, Station, Out, SWITCH_LINK, access_activation, new_connection}
use Rattle.world_laws.proofs.Prelude.{connection_of, IsNumbered, IsOctetStep, IsSent, find_below, life_fits}
use Rattle.world_laws.proofs.Prelude.{IsOffered, offered_free, life_sends, life_ready, Ready, Sdcch, Step, Asks, access_channel, Controller}
use Rattle.world_laws.proofs.Prelude.{Entry, Turn, hears, place_of, Zero, Three, Frame, Item, What, Activation, Rsl, RequestReference}
use Rattle.world_laws.proofs.Prelude.{AreAllowed, CellParameters, Parameters, Event, Tenure, actors_after, actors_after_all, brought}
use Rattle.world_laws.proofs.Prelude.{said_by, joined_by, target_in, with_turn, rsl_in, all_steps, first_taken, step_at, Actors, Mobile}
use Rattle.world_laws.proofs.Prelude.{base_of, has_number, is_up, modulus_in, new_actors, outbox_of, with_outbox, good_all, good_new}
use Rattle.world_laws.proofs.Prelude.{after_taken, air_up_leads, handle_leads, turn_leads, FollowsTable-new, IsKnownItem, known_inbox}
use Rattle.world_laws.proofs.Prelude.{option_and_then_some, slice_get_within, behind_found, word_asked, IsAskedOf, channel_in}
use Rattle.world_laws.proofs.Prelude.{channel_of_kind, free_channel, free_in, life, new_entry, take, tick, word_of, messages_in, brings_in}
use Rattle.world_laws.proofs.Prelude.{coming_up, made_of, going_down, leading_by, leading_from_outbox, Begins, ConnectionsBegin, HasBegun}
use Rattle.world_laws.proofs.Prelude.{StillAsks, WasNeverAnswered, requests_in, requests_up, said_in, IsQuiet, entry_out}
use Rattle.std.proofs.Common.{slice_get}
use Rattle.conn_messages.specs.Out.{out_of}
use Rattle.controller_model.specs.declared.step.Step.TheVariants as steps
use Rattle.controller_model.specs.Life.{with_connection}
use Rattle.world_laws.specs.LineUp.Places.{Item as Brought}
use Rattle.world_laws.proofs.LineUp.Lines.{messages_in-append}
use Rattle.ruled_relay.specs.declared.item.What.TheVariants as whats
use Rattle.rsl_codec.specs.declared.rsl.Rsl.TheVariants as rsl
use Rattle.world_model.specs.declared.event.Event.TheVariants as events
use Rattle.world_model.specs.Life.{event_after}
use Rattle.world_model.specs.Relay.{entry_of}
use Rattle.world_laws.proofs.Others.{down_joined, turn_mobiles}
use Rattle.world_laws.proofs.OrderTexts.{activation_back, read_of}
use Rattle.world_laws.proofs.OwnerRun.{life-settings, not_zero}
use Rattle.world_laws.proofs.Sublists.{Sub, sub_behind, sub_nothing}
use Rattle.world_laws.proofs.Access.Passes.{Passes, passes_itself}
use Rattle.world_laws.proofs.Access.Travels.{event_passes, is_passing}
use Rattle.world_laws.proofs.Access.Upcoming.{initials_none}
use Rattle.world_laws.specs.Order.Beginning.HasBegun.{begins as has_begun, not_yet}
use Rattle.world_laws.proofs.Order.Naming.{step_names, turn_names}
use Rattle.world_laws.proofs.Order.Opens.{Opens, take_opens, tick_numbers}
use Rattle.world_laws.proofs.Order.Opens.Opens.{begins as opens_one, unchanged as opens_none}
use Rattle.world_laws.proofs.Order.Unanswered.{unanswered_mobiles_ask_new}
use Rattle.world_laws.specs.Owners.OneEach.{AsksOnce}
use Rattle.world_laws.proofs.Owners.Asking.{asking_says}
use Rattle.world_laws.proofs.Owners.Making.{requests_append}
use Rattle.world_laws.proofs.Owners.OneEach.{none_was_answered_new, requests_arrive_once_new}
use Rattle.world_laws.proofs.Targets.FreeQuiet.{free_channels_are_quiet_new}
use Rattle.world_laws.proofs.Events.{split_steps}

-- ---- the steps of a run

-- ---- the channel that a connection is given is one of the station that asked

in_cell : (p : Parameters) (station : ℕ) (cell : CellParameters) (o : Option ℕ) (c : Channel) →
    option_map (channel_in p station 0 cell) o ≡ Some c →
    c.station ≡ station
in_cell p station cell None c is = absurd cc
in_cell p station cell (Some n) c is = ap (λ (d : Channel). d.station) (sym (of is)) where
  of : (let o : Option Channel = Some (channel_in p station 0 cell n) in o) ≡ Some c → channel_in p station 0 cell n ≡ c
  of is = cc

given_there : (c : Controller) (station : ℕ) (channel : Channel) →
    access_channel c station ≡ Some channel →
    (channel.station ≡ station) × (station - 1 < length c.settings.cells)
given_there c station channel is = elim (cases_Bool (hears c station)) [
  | inr miss ↦ absurd (let none : None ≡ Some channel = sym (cond-false _ (free_channel c.settings c.channels station 0 Sdcch) None miss) ∙ is in cc)
  | inl hit ↦ option_and_then_some (channel_of_kind c.settings c.channels station 0 Sdcch) (slice_get c.settings.cells (station - 1)) channel (sym (cond-true _ (free_channel c.settings c.channels station 0 Sdcch) None hit) ∙ is)
      (λ cell there of. (in_cell c.settings station cell (free_in c.channels station Sdcch cell) channel of, slice_get_within c.settings.cells (station - 1) cell there))
]

-- ---- an activation leads nowhere

activation_leads : (k n station : ℕ) (a : Activation) (target : Option Tenure) →
    IsSent (out_of n (Station station (rsl.ChannelActivation a))) →
    leading_from_outbox k (entry_of target (out_of n (Station station (rsl.ChannelActivation a)))) ≡ []
unfolding out_of
activation_leads k n station a target sent =
    let out : Out = out_of n (Station station (rsl.ChannelActivation a)) in
    let read = read_of n station (rsl.ChannelActivation a) sent in
    let back = activation_back read.0 a (sym read.1.text) in
    ap (λ (o : Out). leading_by k (entry_of target out).target (rsl_in o.frame)) (entry_out target out)
    ∙ ap (leading_by k (entry_of target out).target) (ap result_ok read.1.reading ∙ ap (λ (y : Rsl). Some y) back.1)

none_behind : (xs ys : List Brought) → messages_in (xs ++ ys) ≡ [] → messages_in ys ≡ []
none_behind xs ys none = sub_nothing (subst (Sub (messages_in ys)) (sym (messages_in-append xs ys) ∙ none) (sub_behind (messages_in xs) (messages_in ys)))

module _ (settings : Parameters) (done : List Event) where
  abbrev world : Actors
  world = actors_after_all (new_actors settings) done

  abbrev modulus : ℕ
  modulus = modulus_in settings

  abbrev steps_done : List Step
  steps_done = all_steps (new_actors settings) done

  by_table : world.controller ≡ (life settings steps_done).next
  by_table = FollowsTable-new settings done

  numbered : IsNumbered world.controller
  numbered = subst IsNumbered (sym by_table) (life_fits settings steps_done 1 (omega arith)).numbered

  -- ---- the mobile that asked

  request_up : (item : Item) (items : List Item) (frame : Frame) (request : RequestReference) (delay : ℕ) →
      world.inbox ≡ item ∷ items →
      item.what ≡ whats.Frame frame →
      word_of item.source frame ≡ Asks request delay →
      1 ≤ requests_up world request.access
  request_up item items frame request delay pending is asks =
      let known : IsKnownItem item = (subst (AllByRecursion IsKnownItem) pending (known_inbox settings done)).0 in
      let own : item ≡ record { source = item.source; what = whats.Frame frame } = ap (λ (x : What). record { source = item.source; what = x }) is in
      let said : requests_in request.access (said_by (whats.Frame frame)) ≡ 1 = asking_says item.source frame request delay (subst IsKnownItem own known) asks in
      let one : requests_in request.access (said_by item.what) ≡ 1 = ap (λ (x : What). requests_in request.access (said_by x)) is ∙ said in
      let all : requests_in request.access (said_in world.inbox) ≡ requests_in request.access (said_in (item ∷ items)) = ap (λ (xs : List Item). requests_in request.access (said_in xs)) pending in
      let parts = requests_append request.access (said_by item.what) (said_in items) in
      omega (arith, one, all, parts)

  asker_still_asks : (k : ℕ) →
      AreAllowed settings →
      AllByRecursion IsOctetStep steps_done →
      1 ≤ requests_up world k →
      StillAsks modulus done world k
  asker_still_asks k allowed octets some = unanswered_mobiles_ask_new settings done k allowed octets never where
    never : WasNeverAnswered settings done k
    never before after whole = none_was_answered_new settings before after k (subst (λ (xs : List Event). 1 ≤ requests_up (actors_after_all (new_actors settings) xs) k) whole some)

  -- ---- its channel

  channel_quiet : (source : ℕ) (frame : Frame) (channel : Channel) (request : RequestReference) (delay : ℕ) →
      AreAllowed settings →
      AllByRecursion IsOctetStep steps_done →
      word_of source frame ≡ Asks request delay →
      access_channel world.controller source ≡ Some channel →
      IsQuiet world (place_of channel)
  channel_quiet source frame channel request delay allowed octets asks free =
      let ready : Ready world.controller = subst Ready (sym by_table) (life_ready settings steps_done allowed) in
      let offered : IsOffered world.controller.channels world.controller.links channel = offered_free world.controller world.controller.links source 0 Sdcch channel refl ready.holds.shaped free in
      let there = given_there world.controller source channel free in
      let station : source ≢ SWITCH_LINK = subst (IsAskedOf source) asks (word_asked source frame) in
      let cells : length world.controller.settings.cells ≡ length settings.cells = ap (λ (p : Parameters). length p.cells) (ap (λ (c : Controller). c.settings) by_table ∙ life-settings settings steps_done) in
      let least : 1 ≤ source = not_zero source station in
      free_channels_are_quiet_new settings done (place_of channel) allowed octets (subst (λ (n : ℕ). 1 ≤ n) (sym there.0) least) (subst (λ (n : ℕ). n ≤ length settings.cells) (sym there.0) (within source (length world.controller.settings.cells) (length settings.cells) there.1 cells)) offered.is_free offered.is_up
    where
      within : (n a b : ℕ) → n - 1 < a → a ≡ b → n ≤ b
      within n a b less same = omega (arith, less, same)

  -- ---- what the controller's turn leaves

  abbrev waiting : List Item → Actors
  waiting items = record world { inbox = items }

  v_controller : (target : Option Tenure) (t : Turn) (u : Actors) → (with_turn target t u).controller ≡ t.next
  v_controller target t u = turn_leads (λ v. v.controller ≡ t.next) target t u (λ links. refl)

  v_coming : (target : Option Tenure) (t : Turn) (u : Actors) (at : Place) → coming_up (with_turn target t u) at ≡ coming_up u at
  v_coming target t u at = turn_leads (λ v. coming_up v at ≡ coming_up u at) target t u (λ links. refl)

  coming_behind : (item : Item) (items : List Item) (at : Place) →
      world.inbox ≡ item ∷ items →
      coming_up world at ≡ brings_in at item ++ coming_up (waiting items) at
  coming_behind item items at pending = ap (λ (xs : List Item). flat_map (brings_in at) xs ++ made_of at.number (base_of world at.station).messages) pending ∙ append_assoc (brings_in at item) (flat_map (brings_in at) items) (made_of at.number (base_of world at.station).messages)

  turn_quiet : (item : Item) (items : List Item) (target : Option Tenure) (t : Turn) (n : ℕ) (channel : Channel) →
      world.inbox ≡ item ∷ items →
      t.outs ≡ out_of n (access_activation channel) ∷ [] →
      AllByRecursion IsSent t.outs →
      IsQuiet world (place_of channel) →
      IsQuiet (with_turn target t (waiting items)) (place_of channel)
  turn_quiet item items target t n channel pending outs sent quiet = record { nothing_arrives = none; none_opens = initials_none v at none; none_commanded = down ∙ quiet.none_commanded } where
    at : Place
    at = place_of channel

    v : Actors
    v = with_turn target t (waiting items)

    none : messages_in (coming_up v at) ≡ []
    none = ap messages_in (v_coming target t (waiting items) at) ∙ none_behind (brings_in at item) (coming_up (waiting items) at) (ap messages_in (sym (coming_behind item items at pending)) ∙ quiet.nothing_arrives)

    u : Actors
    u = record (waiting items) { controller = t.next }

    out : Out
    out = out_of n (access_activation channel)

    one : (b : Bool) →
        going_down (if b then with_outbox out.to (outbox_of u out.to ++ entry_of target out ∷ []) u else u) at ≡ going_down u at
    one true = down_joined u target out channel (λ is. activation_leads channel.number n channel.station _ target (subst (AllByRecursion IsSent) outs sent).0)
    one false = refl

    down : going_down v at ≡ going_down world at
    down = ap (λ (os : List Out). going_down (fold (joined_by target) u os) at) outs ∙ one (is_up u out.to)

  -- ---- it begins

  begun_there : (n : ℕ) (channel : Channel) (request : RequestReference) (delay : ℕ) →
      n ≡ world.controller.next_number →
      connection_of (with_connection world.controller channel request delay).next n ≡ Some (new_connection world.controller.next_number channel request delay)
  begun_there n channel request delay is =
      let c : Controller = world.controller in
      ap (λ (k : ℕ). connection_of (with_connection c channel request delay).next k) is
      ∙ ap (option_map (λ (e : Entry). e.connection)) (behind_found (new_entry c.settings c.next_number channel request delay) c.entries (find_below c.next_number c.entries numbered.below))

  begins_now : (item : Item) (items : List Item) (frame : Frame) (channel : Channel) (request : RequestReference) (delay : ℕ) → AreAllowed settings → AllByRecursion IsOctetStep steps_done → IsOctetStep (steps.Take item) → world.inbox ≡ item ∷ items → item.what ≡ whats.Frame frame → word_of item.source frame ≡ Asks request delay → access_channel world.controller item.source ≡ Some channel
      → take item world.controller ≡ with_connection world.controller channel request delay → Begins modulus done (with_turn (target_in world item.source item.what) (take item world.controller) (waiting items)) (new_connection world.controller.next_number channel request delay)
  begins_now item items frame channel request delay allowed octets own pending is asks free opens = record {
    had = record {
      there = ap (λ (d : Controller). connection_of d world.controller.next_number) (v_controller target t (waiting items) ∙ ap (λ (x : Turn). x.next) opens) ∙ begun_there world.controller.next_number channel request delay refl;
      is_open = tt;
      from_one = numbered.next;
    };
    state = refl;
    one = once.one;
    found = ap (λ (ms : List Mobile). find (has_number request.access) ms) (turn_mobiles target t.outs (record (waiting items) { controller = t.next })) ∙ once.found;
    as_connected = still.as_connected once.one once.found;
    quiet = turn_quiet item items target t world.controller.next_number channel pending (ap (λ (x : Turn). x.outs) opens) sent (channel_quiet item.source frame channel request delay allowed octets asks free);
    none_names = turn_names request.access target t.outs (record (waiting items) { controller = t.next }) (λ station. still.none_names station) (step_names settings done (steps.Take item) request.access allowed octets own once.unanswered);
  } where
    target : Option Tenure
    target = target_in world item.source item.what

    t : Turn
    t = take item world.controller

    some : 1 ≤ requests_up world request.access
    some = request_up item items frame request delay pending is asks

    once : AsksOnce world request.access
    once = requests_arrive_once_new settings done request.access some

    still : StillAsks modulus done world request.access
    still = asker_still_asks request.access allowed octets some

    sent : AllByRecursion IsSent t.outs
    sent = subst (λ (c : Controller). AllByRecursion IsSent (take item c).outs) (sym by_table) (life_sends settings steps_done (steps.Take item) allowed octets own)

  -- ---- each event

  same_number : (v : Actors) (number : ℕ) →
      v.controller.next_number ≡ world.controller.next_number →
      world.controller.next_number ≤ number →
      HasBegun (Begins modulus done) v number
  same_number v number same past = not_yet (omega (arith, same, past))

  take_begins : (item : Item) (items : List Item) (number : ℕ) → AreAllowed settings → AllByRecursion IsOctetStep steps_done → IsOctetStep (steps.Take item) → world.controller.next_number ≤ number → world.inbox ≡ item ∷ items
      → HasBegun (Begins modulus done) (with_turn (target_in world item.source item.what) (take item world.controller) (waiting items)) number
  take_begins item items number allowed octets own past pending = by (take_opens world.controller item) where
    v : Actors
    v = with_turn (target_in world item.source item.what) (take item world.controller) (waiting items)

    now : v.controller ≡ (take item world.controller).next
    now = v_controller (target_in world item.source item.what) (take item world.controller) (waiting items)

    by : Opens world.controller item → HasBegun (Begins modulus done) v number
    by (opens_none same) = same_number v number (ap (λ (c : Controller). c.next_number) now ∙ same) past
    by (opens_one frame channel request delay is asks free opens) =
        let next : v.controller.next_number ≡ world.controller.next_number + 1 = ap (λ (c : Controller). c.next_number) now ∙ ap (λ (x : Turn). x.next.next_number) opens in
        elim (cases_Bool (leb (world.controller.next_number + 1) number)) [
          | inl beyond ↦ (let less = leb-true (world.controller.next_number + 1) number beyond in not_yet (omega (arith, next, less)))
          | inr here ↦
              let less = leb-false (world.controller.next_number + 1) number here in
              has_begun (new_connection world.controller.next_number channel request delay) (omega (arith, past, less)) (begins_now item items frame channel request delay allowed octets own pending is asks free opens)
        ]

  handle_begins : (number : ℕ) →
      AreAllowed settings →
      AllByRecursion IsOctetStep steps_done →
      AllByRecursion IsOctetStep (first_taken world.inbox) →
      world.controller.next_number ≤ number →
      HasBegun (Begins modulus done) (actors_after world events.Handle) number
  unfolding event_after
  handle_begins number allowed octets own past =
      after_taken (λ v. HasBegun (Begins modulus done) v number) (event_after world events.Handle) world
      (handle_leads (λ v. HasBegun (Begins modulus done) v number) world (λ item items pending.
      take_begins item items number allowed octets (subst (λ (xs : List Item). AllByRecursion IsOctetStep (first_taken xs)) pending own).0 past pending)) (same_number world number refl past)

  tick_begins : (ms number : ℕ) →
      world.controller.next_number ≤ number →
      HasBegun (Begins modulus done) (actors_after world (events.Tick ms)) number
  unfolding event_after
  tick_begins ms number past = same_number (with_turn None (tick ms world.controller) world) number (ap (λ (c : Controller). c.next_number) (v_controller None (tick ms world.controller) world) ∙ tick_numbers ms world.controller) past

  sent_begins : (n number : ℕ) →
      world.controller.next_number ≤ number →
      HasBegun (Begins modulus done) (actors_after world (events.AirUp n Zero)) number
  unfolding event_after
  sent_begins n number past =
      after_taken (λ v. HasBegun (Begins modulus done) v number) (event_after world (events.AirUp n Zero)) world
      (air_up_leads (λ v. HasBegun (Begins modulus done) v number) world n Zero (λ p tenure command frame acts sits lent reached. same_number (brought world p tenure.at Zero frame) number refl past)) (same_number world number refl past)

  passing_begins : (event : Event) (number : ℕ) →
      is_passing event ≡ true →
      world.controller.next_number ≤ number →
      HasBegun (Begins modulus done) (actors_after world event) number
  passing_begins event number passing past =
      let passes : Passes world (actors_after world event) = after_taken (Passes world) (event_after world event) world (event_passes world event passing (good_all (new_actors settings) done (good_new settings))) (passes_itself world) in
      same_number (actors_after world event) number (ap (λ (c : Controller). c.next_number) passes.controller) past

  event_begins : (event : Event) (number : ℕ) →
      AreAllowed settings →
      AllByRecursion IsOctetStep steps_done →
      AllByRecursion IsOctetStep (step_at world event) →
      world.controller.next_number ≤ number →
      HasBegun (Begins modulus done) (actors_after world event) number
  event_begins events.Handle number allowed octets own past = handle_begins number allowed octets own past
  event_begins (events.Tick ms) number allowed octets own past = tick_begins ms number past
  event_begins (events.AirUp n Zero) number allowed octets own past = sent_begins n number past
  event_begins (events.AirUp n Three) number allowed octets own past = passing_begins (events.AirUp n Three) number refl past
  event_begins event number allowed octets own past = passing_begins event number refl past

pub connections_begin_new : (settings : Parameters) (done : List Event) (event : Event) → ConnectionsBegin settings done event
connections_begin_new settings done event number allowed octets from_one past =
    let parts = split_steps IsOctetStep (new_actors settings) done event octets in
    event_begins settings done event number allowed parts.0 parts.1 past
