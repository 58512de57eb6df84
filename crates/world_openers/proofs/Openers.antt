-- SPDX-License-Identifier: MIT OR Apache-2.0
-- The messages that the switch took on each connection of a run begin with the one that the
-- connection's mobile connected with.
use Rattle.std.proofs.Common.{◌≡◌, ◌⊎◌, inl, inr, ℕ, ◌≤◌, Bool, true, false, find, List, [], ◌∷◌, ◌++◌, option_map, Option, Some, None}
use Rattle.std.proofs.Common.{refl, sym, ap, ◌∙◌, subst, unwrap_or}
use Rattle.std.proofs.lemmas.Bool.{true≢false}
use Rattle.std.proofs.lemmas.List.{append-nil}
use Rattle.std.proofs.lemmas.Option.{none-some, same_Some}
use Rattle.std.specs.List.{AllByRecursion}
use Rattle.std.specs.Option.{option_and_then, option_or}
use Rattle.conn_messages.specs.declared.parameters.TheConstants.{SWITCH_LINK}
use Rattle.conn_rules.specs.declared.state.State.{State}
use Rattle.conn_rules.specs.declared.state.State.TheVariants.{WaitActivation, WaitConfirm, WaitEstablish}
use Rattle.conn_rules.specs.Connection.{Connection}
use Rattle.controller_model.specs.Controller.{Controller, place_of}
use Rattle.controller_model.specs.declared.step.Step.TheVariants as steps
use Rattle.controller_model.specs.Life.{take, tick}
use Rattle.controller_model.specs.LifeLaws.End.{IsThere}
use Rattle.controller_model.specs.LifeLaws.History.{connection_of}
use Rattle.controller_model.specs.LifeLaws.Sending.{IsOctetStep}
use Rattle.msc_end.specs.declared.connection.Connection.{Connection as SwitchConnection}
use Rattle.msc_end.specs.Switch.{connection_of as switch_connection_of}
use Rattle.msc_end.specs.SwitchState.{SwitchState}
use Rattle.world_model.specs.AcceptedList.{accepted_list}
use Rattle.ruled_relay.specs.declared.item.Item.{Item}
use Rattle.settings.specs.Parameters.{AreAllowed, Parameters}
use Rattle.world_laws.specs.Access.Requested.{HasAccess}
use Rattle.world_laws.specs.Access.Requested.HasAccess.{on_its_way, no_more, requests}
use Rattle.world_laws.specs.AccountedFor.{IsBeyondAsking, IsUnconfirmed, IsUnknownForGood, initials_up}
use Rattle.world_laws.specs.Ended.{DeliversAt}
use Rattle.world_laws.specs.LineUps.{is_of_peer, taken_in, taken_of, waiting_of}
use Rattle.world_laws.specs.Order.Beginning.{Begins, HasBegun}
use Rattle.world_laws.specs.Order.Beginning.HasBegun.{begins, not_yet}
use Rattle.world_laws.specs.Order.Facts.{Holds, HoldsAt, IsAsking}
use Rattle.world_laws.specs.Order.Openers.{first_served, has_asked, served_by}
use Rattle.world_laws.specs.Order.Order.{opener_of}
use Rattle.world_laws.specs.Order.Whereabouts.{IsComingTo, Whereabouts}
use Rattle.world_laws.specs.Order.Whereabouts.OnceDown.{cut, silent}
use Rattle.world_laws.specs.Order.Whereabouts.Whereabouts.{once_down, while_up}
use Rattle.world_laws.specs.Order.Whereabouts.WhileUp.{coming, ended, lined_up, unborn, unknown_for_good}
use Rattle.world_laws.specs.OthersFrame.{IsHad, TookOctets}
use Rattle.world_laws.specs.References.Taken.{IsEarlyIn, IsUnknownToSwitch}
use Rattle.world_laws.specs.Runs.{world}
use Rattle.world_laws.specs.Seated.{IsAlone}
use Rattle.world_laws.specs.KeptLineUps.{DeliversFirst}
use Rattle.world_laws.proofs.Access.CameLaw.{handled_is, sends_at}
use Rattle.world_laws.proofs.Access.CameSteps.{opening_of, opens_with_item}
use Rattle.world_laws.proofs.Events.{snoc_actors, snoc_steps}
use Rattle.world_laws.proofs.Framing.{all_right}
use Rattle.world_laws.proofs.Handling.Finishing.{controller-is}
use Rattle.world_laws.proofs.Order.Beginning.{connections_begin_new}
use Rattle.world_laws.proofs.Order.Controllers.{controller-remains, none_given_then, octets_front}
use Rattle.world_laws.proofs.Order.EventKinds.{Kind, delivers_by, delivers_or, kind}
use Rattle.world_laws.proofs.Order.EventKinds.Kind.{beside, breaks, handles, station_takes, switch_takes, ticks}
use Rattle.world_laws.proofs.Order.Fairly.{ArriveInOctets-new}
use Rattle.world_laws.proofs.Order.Following.{numbers_are_somewhere_new}
use Rattle.world_laws.proofs.Order.InOrder.{runs_are_in_order_new}
use Rattle.world_laws.proofs.Order.Modulus.{all_numbered}
use Rattle.world_laws.proofs.Order.Openers.{served-confirming, served_absent, served_asking, served_there, snoc_served}
use Rattle.world_laws.proofs.Order.Steps.{asking_at}
use Rattle.world_laws.proofs.Order.SwitchDown.{outbox_down, switch-down}
use Rattle.world_laws.proofs.Order.Whole.{facts}
use Rattle.world_laws.proofs.SwitchTook.{switch_remains}
use Rattle.world_model.specs.declared.event.Event.{Event}
use Rattle.world_model.specs.declared.event.Event.TheVariants as events
use Rattle.world_model.specs.declared.seat.Tenure.{Tenure}
use Rattle.world_model.specs.Life.{actors_after, event_after}
use Rattle.world_model.specs.Relay.{handled, target_in as target_of, with_turn}
use Rattle.world_model.specs.Steps.{all_steps, first_taken, step_at}
use Rattle.world_model.specs.Views.{taken}
use Rattle.world_model.specs.World.{Actors, is_up, modulus_in, new_actors}
use Rattle.world_model.proofs.Outboxes.{down_after}
use Rattle.world_openers.specs.Initials.{initial_of}
use Rattle.world_openers.specs.Openers.{BeginsWithMessage, OpenersMessagesAreFirst}
use Rattle.world_openers.proofs.Asking.{Fate, asked_waits, fate}
use Rattle.world_openers.proofs.Asking.Fate.{asks_now, waits_on}
use Rattle.world_openers.proofs.Coming.{Ahead, event_comes}
use Rattle.world_openers.proofs.Connecting.{Knows, run_knows}
use Rattle.world_openers.proofs.Connecting.Knows.{never, once}
use Rattle.world_openers.proofs.Initials.{initial_remains}
use Rattle.world_openers.proofs.Runs.{each_octet_event}
use Rattle.world_openers.proofs.Taken.{HasTaken, IsSomething, switch_has}
use Rattle.world_openers.proofs.Waiting.{Moves, moves_at, none_waits}
use Rattle.world_openers.proofs.Waiting.Moves.{joins, is_cut}

-- ---- what is kept

-- For a connection that asked, the messages that the switch took and those that wait for it begin
-- with the message of its mobile. Or the switch never hears of it; or its link broke before it took
-- anything.
pub data Heard (known : Option (List ℕ)) (w : Actors) (number : ℕ) : Type 0 where
  says : (initial : List ℕ) (rest : List (List ℕ)) → known ≡ Some initial → taken_of w number ++ waiting_of w number ≡ initial ∷ rest
      → Heard known w number
  refused : IsUnknownForGood w number → Heard known w number
  lost : is_up w SWITCH_LINK ≡ false → taken_of w number ≡ [] → Heard known w number

-- And before it asked, no initial message arrives from its channel but that of its mobile.
pub record Brings (m : ℕ) (w : Actors) (known : ℕ → Option (List ℕ)) (opener : Option ℕ) (number : ℕ) : Type 0 where
  pub ahead : is_up w SWITCH_LINK ≡ true → opener ≡ None → (mobile : ℕ) (s : Connection) → s.number ≡ number → IsComingTo m w mobile s
      → AllByRecursion (λ x. known mobile ≡ Some x) (initials_up w (place_of s.serving))
  pub heard : (mobile : ℕ) → opener ≡ Some mobile → Heard (known mobile) w number

-- ---- words

early_asking : (state : State) → IsEarlyIn state → has_asked state ≡ false
early_asking WaitActivation early = refl
early_asking WaitEstablish early = refl
early_asking _ early = absurd early

early_beyond : (state : State) → IsEarlyIn state → IsBeyondAsking state → ⊥
early_beyond WaitActivation early beyond = beyond
early_beyond WaitEstablish early beyond = beyond
early_beyond _ early beyond = early

same_head : {x y : List ℕ} {xs ys : List (List ℕ)} → x ∷ xs ≡ y ∷ ys → x ≡ y
same_head is = cc

module _ (settings : Parameters) (done : List Event) (event : Event) (number : ℕ) where
  abbrev w : Actors
  w = world settings done

  abbrev v : Actors
  v = actors_after (world settings done) event

  abbrev m : ℕ
  m = modulus_in settings

  abbrev known : ℕ → Option (List ℕ)
  known mobile = initial_of (new_actors settings) done mobile

  abbrev then_known : ℕ → Option (List ℕ)
  then_known mobile = initial_of (new_actors settings) (done ++ event ∷ []) mobile

  abbrev opener : Option ℕ
  opener = first_served (new_actors settings) done number

  -- what holds before, at and after it
  pub record Around : Type 0 where
    pub allowed : AreAllowed settings
    pub octets : TookOctets settings (done ++ event ∷ [])
    pub from_one : 1 ≤ number
    pub before : Holds (modulus_in settings) (world settings done)
    pub at : HoldsAt (modulus_in settings) (world settings done) event
    pub whereabouts : Whereabouts (modulus_in settings) (world settings done) (first_served (new_actors settings) done number) number

  before_octets : Around → TookOctets settings done
  before_octets h = octets_front settings done (event ∷ []) h.octets

  remains_known : (mobile : ℕ) (x : List ℕ) → known mobile ≡ Some x → then_known mobile ≡ Some x
  remains_known mobile x is = initial_remains (new_actors settings) done event mobile x is

  all_known : (mobile : ℕ) (xs : List (List ℕ)) → AllByRecursion (λ x. known mobile ≡ Some x) xs
      → AllByRecursion (λ x. then_known mobile ≡ Some x) xs
  all_known mobile [] all = tt
  all_known mobile (x ∷ xs) all = (remains_known mobile x all.0, all_known mobile xs all.1)

  was_up : is_up v SWITCH_LINK ≡ true → is_up w SWITCH_LINK ≡ true
  was_up up = by (is_up w SWITCH_LINK) refl where
    by : (b : Bool) → is_up w SWITCH_LINK ≡ b → is_up w SWITCH_LINK ≡ true
    by true is = is
    by false is = absurd (true≢false (sym up ∙ down_after SWITCH_LINK w event is))

  -- ---- what the switch heard remains the first

  heard_moves : (mobile : ℕ) (initial : List ℕ) (rest : List (List ℕ)) → known mobile ≡ Some initial
      → taken_of w number ++ waiting_of w number ≡ initial ∷ rest → Moves w v number → Heard (then_known mobile) v number
  heard_moves mobile initial rest is line (joins more same) =
      says initial (rest ++ more) (remains_known mobile initial is) (same ∙ ap (λ (xs : List (List ℕ)). xs ++ more) line)
  heard_moves mobile initial rest is line (is_cut down same) = by (taken_of w number) refl where
    by : (xs : List (List ℕ)) → taken_of w number ≡ xs → Heard (then_known mobile) v number
    by [] none = lost down (same ∙ none)
    by (x ∷ xs) took =
        let head : x ≡ initial = same_head (sym (ap (λ (ys : List (List ℕ)). ys ++ waiting_of w number) took) ∙ line) in
        says initial (xs ++ waiting_of v number) (remains_known mobile initial is)
        (ap (λ (ys : List (List ℕ)). ys ++ waiting_of v number) (same ∙ took)
        ∙ ap (λ (y : List ℕ). y ∷ (xs ++ waiting_of v number)) head)

  delivers : Around → DeliversAt w number event ⊎ IsUnknownForGood v number
  delivers h = by (is_up w SWITCH_LINK) refl where
    by : (b : Bool) → is_up w SWITCH_LINK ≡ b → DeliversAt w number event ⊎ IsUnknownForGood v number
    by true up = delivers_or (kind w number event) (h.before.delivers number h.from_one up)
    by false down = inl (delivers_by (kind w number event) (subst (DeliversFirst w number) (sym (outbox_down settings done down)) tt))

  silent_then : is_up w SWITCH_LINK ≡ false → taken_of w number ≡ [] → taken_of v number ≡ []
  silent_then down none = ap (λ (s : SwitchState). taken_in (find (is_of_peer number) s.connections)) (switch-down w event down) ∙ none

  heard_then : (mobile : ℕ) → Around → Heard (known mobile) w number → Heard (then_known mobile) v number
  heard_then mobile h (says initial rest is line) = by (delivers h) where
    by : DeliversAt w number event ⊎ IsUnknownForGood v number → Heard (then_known mobile) v number
    by (inl takes) = heard_moves mobile initial rest is line (moves_at w event number takes)
    by (inr never_heard) = refused never_heard
  heard_then mobile h (refused u) = refused (h.at.unknown_remains number h.from_one u)
  heard_then mobile h (lost down none) = lost (down_after SWITCH_LINK w event down) (silent_then down none)

  -- ---- a connection asks the switch

  -- its message was the first on its way, and is all that waits for the switch
  record Asks (s : Connection) : Type 0 where
    initial : List ℕ
    rest : List (List ℕ)
    on_way_up : initials_up w (place_of s.serving) ≡ initial ∷ rest
    waits : waiting_of v s.number ≡ initial ∷ []
    untaken : taken_of v s.number ≡ taken_of w s.number

  idle_asks : (s next : Connection) → IsHad w s → IsEarlyIn s.state → connection_of v.controller s.number ≡ Some next
      → next.state ≡ WaitConfirm → step_at w event ≡ [] → Asks s
  idle_asks s next had early now state none =
      let same : s ≡ next =
      same_Some _ _
      (sym had.there ∙ ap (λ (c : Controller). connection_of c s.number) (sym (controller-remains settings done event none)) ∙ now) in
      absurd (subst IsEarlyIn (ap (λ (x : Connection). x.state) same ∙ state) early)

  step_octets : Around → AllByRecursion IsOctetStep (step_at w event)
  step_octets h =
      all_right IsOctetStep (all_steps (new_actors settings) done) (step_at w event)
      (subst (AllByRecursion IsOctetStep) (snoc_steps (new_actors settings) done event) h.octets)

-- what time makes of the world
ticked : (w : Actors) (ms : ℕ) → actors_after w (events.Tick ms) ≡ with_turn None (tick ms w.controller) w
unfolding event_after
ticked w ms = refl

module _ (settings : Parameters) (done : List Event) (number : ℕ) where
  abbrev here : Actors
  here = world settings done

  handle_asks : (s next : Connection) → Around settings done events.Handle number → IsHad here s → IsEarlyIn s.state
      → is_up here SWITCH_LINK ≡ true → waiting_of here s.number ≡ []
      → connection_of (actors_after here events.Handle).controller s.number ≡ Some next → next.state ≡ WaitConfirm
      → Asks settings done events.Handle number s
  handle_asks s next h had early up none now state = by here.inbox refl where
    then_is : (items : List Item) → here.inbox ≡ items → actors_after here events.Handle ≡ unwrap_or (handled items here) here
    then_is items pending = handled_is settings done number s items pending

    by : (items : List Item) → here.inbox ≡ items → Asks settings done events.Handle number s
    by [] pending =
        let same : s ≡ next =
        same_Some _ _ (sym had.there ∙ ap (λ (x : Actors). connection_of x.controller s.number) (sym (then_is [] pending)) ∙ now) in
        absurd (subst IsEarlyIn (ap (λ (x : Connection). x.state) same ∙ state) early)
    by (item ∷ items) pending = by_fate (fate settings done (steps.Take item) s next had.from_one early had.there (sym leads ∙ now)) where
      target : Option Tenure
      target = target_of here item.source item.what

      u : Actors
      u = record here { inbox = items }

      leads : connection_of (actors_after here events.Handle).controller s.number ≡ connection_of (take item here.controller).next s.number
      leads = ap (λ (x : Actors). connection_of x.controller s.number) (then_is (item ∷ items) pending)
          ∙ ap (λ (c : Controller). connection_of c s.number) (controller-is target (take item here.controller) u)

      own : IsOctetStep (steps.Take item)
      own = (subst (λ (xs : List Item). AllByRecursion IsOctetStep (first_taken xs)) pending
          (step_octets settings done events.Handle number h)).0

      by_fate : Fate here.controller (steps.Take item) s next → Asks settings done events.Handle number s
      by_fate (waits_on same still) = absurd (subst IsEarlyIn state still)
      by_fate (asks_now place initial serving state brought_it at puts) =
          let opens =
          opens_with_item settings done number s item items place initial pending
          (opening_of here.controller s.number item place initial brought_it) at in
          let sent = sends_at settings done number s (steps.Take item) h.allowed (before_octets settings done events.Handle number h) own in
          record {
            initial = initial;
            rest = initials_up u (place_of s.serving);
            on_way_up = opens.one;
            waits = ap (λ (x : Actors). waiting_of x s.number) (then_is (item ∷ items) pending)
                ∙ asked_waits target (take item here.controller) u s.number serving initial had.from_one up none puts sent;
            untaken =
                switch_remains here events.Handle s.number tt
                ∙ ap (λ (xs : List (List ℕ)). taken_of here s.number ++ xs) (none_waits s.number) ∙ append-nil (taken_of here s.number);
          }

  tick_asks : (ms : ℕ) (s next : Connection) → IsHad here s → IsEarlyIn s.state
      → connection_of (actors_after here (events.Tick ms)).controller s.number ≡ Some next → next.state ≡ WaitConfirm
      → Asks settings done (events.Tick ms) number s
  tick_asks ms s next had early now state =
      by (fate settings done (steps.Tick ms) s next had.from_one early had.there (sym leads ∙ now)) where
        leads : connection_of (actors_after here (events.Tick ms)).controller s.number
            ≡ connection_of (tick ms here.controller).next s.number
        leads = ap (λ (x : Actors). connection_of x.controller s.number) (ticked here ms)
            ∙ ap (λ (c : Controller). connection_of c s.number) (controller-is None (tick ms here.controller) here)

        by : Fate here.controller (steps.Tick ms) s next → Asks settings done (events.Tick ms) number s
        by (waits_on same still) = absurd (subst IsEarlyIn state still)
        by (asks_now place initial serving state brought_it at puts) = absurd brought_it

  asks_by : {event : Event} (s next : Connection) → Kind here number event → Around settings done event number → IsHad here s
      → IsEarlyIn s.state → is_up here SWITCH_LINK ≡ true → waiting_of here s.number ≡ []
      → connection_of (actors_after here event).controller s.number ≡ Some next → next.state ≡ WaitConfirm
      → Asks settings done event number s
  asks_by s next handles h had early up none now state = handle_asks s next h had early up none now state
  asks_by s next (ticks ms) h had early up none now state = tick_asks ms s next had early now state
  asks_by s next switch_takes h had early up none now state =
      idle_asks settings done events.SwitchTakes number s next had early now state refl
  asks_by s next (station_takes station) h had early up none now state =
      idle_asks settings done (events.BaseTakes station) number s next had early now state refl
  asks_by s next (breaks source) h had early up none now state =
      idle_asks settings done (events.BaseDown source) number s next had early now state refl
  asks_by {event} s next (beside is not nothing silent_too delivers_it) h had early up none now state =
      idle_asks settings done event number s next had early now state nothing

-- ---- each event

module _ (settings : Parameters) (done : List Event) (event : Event) (number : ℕ) where
  abbrev old : Actors
  old = world settings done

  abbrev new : Actors
  new = actors_after (world settings done) event

  abbrev n : ℕ
  n = modulus_in settings

  abbrev first : Option ℕ
  first = first_served (new_actors settings) done number

  abbrev was : ℕ → Option (List ℕ)
  was mobile = initial_of (new_actors settings) done mobile

  abbrev now : ℕ → Option (List ℕ)
  now mobile = initial_of (new_actors settings) (done ++ event ∷ []) mobile

  abbrev Kept : Type 0
  Kept = Brings n old was first number

  -- the same connection, found by its number
  same_there : (s next : Connection) → s.number ≡ number → next.number ≡ number → connection_of new.controller s.number ≡ Some s
      → connection_of new.controller next.number ≡ Some next → s ≡ next
  same_there s next is next_is there there_too =
      same_Some _ _ (sym there ∙ ap (connection_of new.controller) (is ∙ sym next_is) ∙ there_too)

  unheard_of : (s : Connection) → s.number ≡ number → Around settings done event number → IsHad old s → IsEarlyIn s.state
      → IsUnknownToSwitch old s.number
  unheard_of s is h had early = h.before.not_asked s.number had.from_one (asking_at old s.number s had.there (early_asking s.state early))

  -- what is known of a connection that hasn't asked, and of its mobile
  ahead_of : (mobile : ℕ) (s next : Connection) → Around settings done event number → IsComingTo n old mobile s
      → AllByRecursion (λ x. was mobile ≡ Some x) (initials_up old (place_of s.serving)) → Knows old (was mobile) mobile
      → Ahead settings done (λ x. was mobile ≡ Some x) mobile s next
  ahead_of mobile s next h is_coming all (never absent unknown) = absurd (none-some is_coming.0.one (sym absent ∙ is_coming.0.found))
  ahead_of mobile s next h is_coming all (once p initial found connected_with begins_with) = record {
    allowed = h.allowed;
    had = is_coming.0.had;
    early = is_coming.0.early;
    alone = subst (λ (k : ℕ). IsAlone old k s) is_coming.0.asked (h.before.alone s is_coming.0.had);
    one = p;
    found = found;
    initial = initial;
    begins = begins_with;
    is_so = connected_with;
    all = all;
  }

  -- ---- before it asks

  ahead_then : Around settings done event number → Kept → is_up new SWITCH_LINK ≡ true → option_or first (served_by new number) ≡ None
      → (mobile : ℕ) (next : Connection) → next.number ≡ number → IsComingTo n new mobile next
      → AllByRecursion (λ x. now mobile ≡ Some x) (initials_up new (place_of next.serving))
  ahead_then h kept up none mobile next next_is is_coming = by h.whereabouts where
    had : IsHad new next
    had = is_coming.0.had

    up_before : is_up old SWITCH_LINK ≡ true
    up_before = was_up settings done event number up

    no_opener : {k : ℕ} → first ≡ Some k → ⊥
    no_opener {k} is = none-some k (sym none ∙ ap (λ (o : Option ℕ). option_or o (served_by new number)) is)

    begun : HasBegun (Begins n done) new number → AllByRecursion (λ x. now mobile ≡ Some x) (initials_up new (place_of next.serving))
    begun (not_yet past) =
        absurd (none-some next
        (sym (none_given_then settings done event number past) ∙ ap (connection_of new.controller) (sym next_is) ∙ had.there))
    begun (begins s is at_first) =
        subst (λ (x : Connection). AllByRecursion (λ x. now mobile ≡ Some x) (initials_up new (place_of x.serving)))
        (same_there s next is next_is at_first.had.there had.there)
        (subst (AllByRecursion (λ x. now mobile ≡ Some x)) (sym at_first.quiet.none_opens) tt)

    still : (mobile0 : ℕ) (s : Connection) → s.number ≡ number → IsComingTo n old mobile0 s
        → AllByRecursion (λ x. was mobile0 ≡ Some x) (initials_up old (place_of s.serving))
        → HasAccess (IsComingTo n) n new mobile0 s.number
        → AllByRecursion (λ x. now mobile ≡ Some x) (initials_up new (place_of next.serving))
    still mobile0 s is coming_before all (on_its_way again same comes_now) =
        let same_one : again ≡ next = same_there again next (same ∙ is) next_is comes_now.0.had.there had.there in
        let whose : mobile0 ≡ mobile = sym comes_now.0.asked ∙ ap (λ (x : Connection). x.request.access) same_one ∙ is_coming.0.asked in
        all_known settings done event number mobile (initials_up new (place_of next.serving))
        (subst (λ (k : ℕ). AllByRecursion (λ x. was k ≡ Some x) (initials_up new (place_of next.serving))) whose
        (event_comes settings done (λ x. was mobile0 ≡ Some x) mobile0 s next event
        (ahead_of mobile0 s next h coming_before all (run_knows settings mobile0 done))
        (ap (connection_of new.controller) (is ∙ sym next_is) ∙ had.there) is_coming.0.early))
    still mobile0 s is coming_before all (requests asks same state lives_on served_now) =
        let same_one : asks ≡ next = same_there asks next (same ∙ is) next_is lives_on.had.there had.there in
        absurd (subst IsEarlyIn (ap (λ (x : Connection). x.state) (sym same_one) ∙ state) is_coming.0.early)
    still mobile0 s is coming_before all (no_more gone) =
        absurd (gone (subst IsThere (sym (ap (connection_of new.controller) (is ∙ sym next_is) ∙ had.there)) had.is_open))

    by : Whereabouts n old first number → AllByRecursion (λ x. now mobile ≡ Some x) (initials_up new (place_of next.serving))
    by (while_up up_now (unborn unopened past)) =
        begun (connections_begin_new settings done event number h.allowed h.octets h.from_one past)
    by (while_up up_now (coming mobile0 s unopened is coming_before)) =
        still mobile0 s is coming_before (kept.ahead up_before unopened mobile0 s is coming_before)
        (h.at.has_access mobile0 s up_before coming_before)
    by (while_up up_now (lined_up mobile0 s opened is l fresh)) = absurd (no_opener opened)
    by (while_up up_now (ended mobile0 opened past gone has)) = absurd (no_opener opened)
    by (while_up up_now (unknown_for_good u)) =
        let beyond : IsUnknownForGood new number = h.at.unknown_remains number h.from_one u in
        absurd (early_beyond next.state is_coming.0.early
        (subst IsUnconfirmed (ap (connection_of new.controller) (sym next_is) ∙ had.there) beyond.unconfirmed))
    by (once_down down at) = absurd (true≢false (sym up_before ∙ down))

  -- ---- where it asks

  asks_heard : (mobile : ℕ) (s next : Connection) → s.number ≡ number → Around settings done event number → IsComingTo n old mobile s
      → AllByRecursion (λ x. was mobile ≡ Some x) (initials_up old (place_of s.serving)) → is_up old SWITCH_LINK ≡ true
      → connection_of new.controller s.number ≡ Some next → next.state ≡ WaitConfirm → Heard (now mobile) new number
  asks_heard mobile s next is h coming_before all up there state =
      let unknown : IsUnknownToSwitch old s.number = unheard_of s is h coming_before.0.had coming_before.0.early in
      let asks : Asks settings done event number s =
      asks_by settings done number s next
      (kind old number event) h coming_before.0.had coming_before.0.early up unknown.none_waits there state in
      let said : was mobile ≡ Some asks.initial = (subst (AllByRecursion (λ x. was mobile ≡ Some x)) asks.on_way_up all).0 in
      let untaken : taken_of new s.number ≡ [] = asks.untaken ∙ ap taken_in unknown.none_taken in
      says asks.initial [] (remains_known settings done event number mobile asks.initial said)
      (ap (λ (k : ℕ). taken_of new k ++ waiting_of new k) (sym is) ∙ ap (λ (xs : List (List ℕ)). xs ++ waiting_of new s.number) untaken
      ∙ asks.waits)

  -- who was first served is served now
  first_heard : (mobile : ℕ) → Around settings done event number → Kept → first ≡ None → served_by new number ≡ Some mobile
      → Heard (now mobile) new number
  first_heard mobile h kept none served_now = by h.whereabouts where
    no_opener : {k : ℕ} → first ≡ Some k → ⊥
    no_opener {k} is = none-some k (sym none ∙ is)

    nobody : served_by new number ≡ None → ⊥
    nobody is = none-some mobile (sym is ∙ served_now)

    asking : (mobile0 : ℕ) (s : Connection) → s.number ≡ number → IsComingTo n new mobile0 s → ⊥
    asking mobile0 s is is_coming =
        nobody (subst (λ (k : ℕ). served_by new k ≡ None) is
        (served_asking new s.number s is_coming.0.had.there (early_asking s.state is_coming.0.early)))

    begun : HasBegun (λ x t. IsComingTo n x t.request.access t) new number → Heard (now mobile) new number
    begun (not_yet past) = absurd (nobody (served_absent new number (none_given_then settings done event number past)))
    begun (begins s is is_coming) = absurd (asking s.request.access s is is_coming)

    has_access : (mobile0 : ℕ) (s : Connection) → s.number ≡ number → is_up old SWITCH_LINK ≡ true → IsComingTo n old mobile0 s
        → AllByRecursion (λ x. was mobile0 ≡ Some x) (initials_up old (place_of s.serving))
        → HasAccess (IsComingTo n) n new mobile0 s.number → Heard (now mobile) new number
    has_access mobile0 s is up coming_before all (on_its_way again same comes_now) = absurd (asking mobile0 again (same ∙ is) comes_now)
    has_access mobile0 s is up coming_before all (requests next same state lives_on served_on) =
        let there : connection_of new.controller s.number ≡ Some next = ap (connection_of new.controller) (sym same) ∙ lives_on.had.there in
        let whose : mobile0 ≡ mobile =
        same_Some _ _
        (sym served_on ∙ sym (served-confirming new next state) ∙ sym (served_there new next.number next lives_on.had.there)
        ∙ ap (served_by new) (same ∙ is) ∙ served_now) in
        subst (λ (k : ℕ). Heard (now k) new number) whose (asks_heard mobile0 s next is h coming_before all up there state)
    has_access mobile0 s is up coming_before all (no_more gone) =
        refused (h.at.steps_unheard number h.from_one
        (subst (λ (k : ℕ). IsAsking (connection_of old.controller k)) is
        (asking_at old s.number s coming_before.0.had.there (early_asking s.state coming_before.0.early)))
        (subst (λ (k : ℕ). IsThere (connection_of new.controller k) → ⊥) is gone))

    by : Whereabouts n old first number → Heard (now mobile) new number
    by (while_up up (unborn unopened past)) = begun (h.at.begun number h.from_one up past)
    by (while_up up (coming mobile0 s unopened is coming_before)) =
        has_access mobile0 s is up coming_before (kept.ahead up unopened mobile0 s is coming_before)
        (h.at.has_access mobile0 s up coming_before)
    by (while_up up (lined_up mobile0 s opened is l fresh)) = absurd (no_opener opened)
    by (while_up up (ended mobile0 opened past gone has)) = absurd (no_opener opened)
    by (while_up up (unknown_for_good u)) = refused (h.at.unknown_remains number h.from_one u)
    by (once_down down (silent at)) =
        lost (down_after SWITCH_LINK old event down) (silent_then settings done event number down (ap taken_in at.none_taken))
    by (once_down down (cut mobile0 opened has waits)) = absurd (no_opener opened)

  -- ---- both

  pub brings_then : Around settings done event number → Kept → Brings n new now (option_or first (served_by new number)) number
  brings_then h kept = record { ahead = ahead_then h kept; heard = λ mobile is. by mobile first refl is } where
    by : (mobile : ℕ) (o : Option ℕ) → first ≡ o → option_or o (served_by new number) ≡ Some mobile → Heard (now mobile) new number
    by mobile None none is = first_heard mobile h kept none is
    by mobile (Some k) opened is =
        subst (λ (k : ℕ). Heard (now k) new number) (same_Some k mobile is)
        (heard_then settings done event number k h (kept.heard k opened))

-- ---- each run

pub run_brings : (settings : Parameters) (number : ℕ) → AreAllowed settings → 1 ≤ number → (events : List Event)
    → TookOctets settings events
    → Brings (modulus_in settings) (world settings events) (λ mobile. initial_of (new_actors settings) events mobile)
    (first_served (new_actors settings) events number) number
run_brings settings number allowed from_one = each_octet_event settings
    (λ events. Brings (modulus_in settings) (world settings events) (λ mobile. initial_of (new_actors settings) events mobile)
    (first_served (new_actors settings) events number) number)
    (record {
      ahead =
          λ up none mobile s is is_coming. absurd (none-some s is_coming.0.had.there);
      heard = λ mobile is. absurd (none-some mobile is);
    })
    (λ events event octets kept.
    let then : ℕ → Option (List ℕ) = λ mobile. initial_of (new_actors settings) (events ++ event ∷ []) mobile in
    let before : TookOctets settings events = octets_front settings events (event ∷ []) octets in
    subst (λ (v : Actors). Brings (modulus_in settings) v then (first_served (new_actors settings) (events ++ event ∷ []) number) number)
    (sym (snoc_actors (new_actors settings) events event))
    (subst (λ (o : Option ℕ). Brings (modulus_in settings) (actors_after (world settings events) event) then o number)
    (sym (snoc_served (new_actors settings) events event number))
    (brings_then settings events event number (record {
      allowed = allowed;
      octets = octets;
      from_one = from_one;
      before = (facts settings).holds events allowed before;
      at = (facts settings).holds_at events event allowed octets;
      whereabouts = numbers_are_somewhere_new settings events number (facts settings) allowed before from_one;
    }) kept)))

-- ---- what the switch took

module _ (settings : Parameters) (events : List Event) (allowed : AreAllowed settings) (octets : TookOctets settings events) where
  abbrev last : Actors
  last = world settings events

  abbrev Says : ℕ → List (List ℕ) → Type 0
  Says connection list = BeginsWithMessage (new_actors settings) events connection list

  heard_first : (connection mobile : ℕ) (c : SwitchConnection) (list : List (List ℕ))
      → opener_of (new_actors settings) events connection ≡ Some mobile → find (is_of_peer c.peer) last.switch.connections ≡ Some c
      → HasTaken c → c.reception.taken ≡ list
      → Heard (initial_of (new_actors settings) events mobile) last c.peer → Says connection list
  heard_first connection mobile c list opened there has is (says initial rest connected_with line) = by c.reception.taken has refl where
    by : (xs : List (List ℕ)) → IsSomething xs → c.reception.taken ≡ xs → Says connection list
    by [] some took = absurd some
    by (x ∷ xs) some took =
        let took_all : taken_of last c.peer ≡ x ∷ xs = ap taken_in there ∙ took in
        let head : x ≡ initial = same_head (sym (ap (λ (ys : List (List ℕ)). ys ++ waiting_of last c.peer) took_all) ∙ line) in
        record {
          mobile =
              mobile;
          opened = opened;
          initial = initial;
          connected = connected_with;
          others = xs;
          first = sym is ∙ took
              ∙ ap (λ (y : List ℕ). y ∷ xs) head;
        }
  heard_first connection mobile c list opened there has is (refused u) = absurd (none-some c (sym u.none_taken ∙ there))
  heard_first connection mobile c list opened there has is (lost down none) =
      absurd (subst IsSomething (sym (ap taken_in there) ∙ none) has)

  of_connection : (connection : ℕ) (c : SwitchConnection) (list : List (List ℕ))
      → switch_connection_of last.switch.connections connection ≡ Some c → c.reception.taken ≡ list → Says connection list
  of_connection connection c list there is =
      let holds : Holds (modulus_in settings) last = (facts settings).holds events allowed octets in
      let peer = holds.peers connection c there in
      let order =
      (runs_are_in_order_new settings events (facts settings) allowed octets).in_order connection
      (accepted_list c.reception.modulus c.reception.taken)
      (ap (option_map (λ (c : SwitchConnection). accepted_list c.reception.modulus c.reception.taken)) there) in
      let served : first_served (new_actors settings) events c.peer ≡ Some order.mobile =
      sym (ap (option_and_then (λ (c : SwitchConnection). first_served (new_actors settings) events c.peer)) there) ∙ order.opened in
      heard_first connection order.mobile c list order.opened peer.1
      (all_numbered HasTaken last.switch.connections connection c there (switch_has settings events allowed octets)) is
      ((run_brings settings c.peer allowed peer.0 events octets).heard order.mobile served)

  begins_with_its : (connection : ℕ) (list : List (List ℕ)) → taken last connection ≡ Some list → Says connection list
  begins_with_its connection list is = by (switch_connection_of last.switch.connections connection) refl is where
    by : (o : Option SwitchConnection) → switch_connection_of last.switch.connections connection ≡ o
        → option_map (λ (c : SwitchConnection). c.reception.taken) o ≡ Some list → Says connection list
    by None there is = absurd (none-some list is)
    by (Some c) there is = of_connection connection c list there (same_Some c.reception.taken list is)

pub openers_messages_are_first_new : (settings : Parameters) (events : List Event) → OpenersMessagesAreFirst settings events
openers_messages_are_first_new settings events allowed octets =
    begins_with_its settings events allowed (ArriveInOctets-new settings events allowed octets)
