-- SPDX-License-Identifier: MIT OR Apache-2.0
-- Each mobile asks once, and has one connection at most.
use Rattle.world_laws.proofs.Prelude.{◌≡◌, ◌⊎◌, ℕ, zero, suc, ◌+◌, ◌-◌, ◌≤◌, ◌==◌, Bool, true, false, if◌then◌else◌, List, [], ◌∷◌, ◌++◌}
use Rattle.world_laws.proofs.Prelude.{option_map, option_to_list, unwrap_or, Option, Some, None, refl, sym, ap, ◌∙◌, subst, inl, inr, arith}
use Rattle.world_laws.proofs.Prelude.{true≢false, eqb-true, ne_eqb, flat_map-append, append-nil, AllByRecursion, is_none, result_ok}
use Rattle.world_laws.proofs.Prelude.{Connection, connection_of, SameRequest, find_above, life_fits, life_names, Step, Controller, Entry}
use Rattle.world_laws.proofs.Prelude.{step, after_next, after_take_down, first_of_messages, messages_behind_first, Item, What, Rsl}
use Rattle.world_laws.proofs.Prelude.{RequestReference, CellParameters, Parameters, Event, Connect, BasePush, Handle, Tick, BaseDown}
use Rattle.world_laws.proofs.Prelude.{actors_after, actors_after_all, after_connecting, said_by, pushed, after_base_push, after_break}
use Rattle.world_laws.proofs.Prelude.{handled, station_item, switch_item, target_in, with_turn, all_steps, Actors, Mobile, base_of}
use Rattle.world_laws.proofs.Prelude.{broken_link, mobile_of, new_actors, station_of, stations_from, with_link, Good, end_of, good_all}
use Rattle.world_laws.proofs.Prelude.{good_new, inbox_keeps_order, after_taken, broken_leads, connect_leads, push_leads, turn_leads}
use Rattle.world_laws.proofs.Prelude.{FollowsTable-new, IsKnownItem, known_inbox, IsSound, sound_read, step_numbered, life, take, tick}
use Rattle.world_laws.proofs.Prelude.{word_of, popped, made_by, requests_in, requests_up, said_in}
use Rattle.controller_model.specs.declared.step.Step.TheVariants as steps
use Rattle.ruled_relay.specs.declared.item.What.TheVariants as whats
use Rattle.world_model.specs.Life.{event_after}
use Rattle.world_laws.specs.Owners.OneEach.{ConnectionsAnswerMobiles, ConnectionsAreOneEach, NoneIsAnsweredAgain, NoneWasAnswered}
use Rattle.world_laws.specs.Owners.OneEach.{RequestsArriveOnce}
use Rattle.world_laws.proofs.Owners.Asking.{Begins, asking_says, step_begins}
use Rattle.world_laws.proofs.Owners.Making.{Connects, connects, is_plain, made_set, none, plain_quiet, requests_append}
use Rattle.world_laws.proofs.Events.{snoc_actors, world}

-- ---- what an event does to requests and connections

-- The controller takes these requests. A connection of the controller was one before, or it begins
-- by one of them, as the next one.
abbrev pub WasOrBegins : (ℕ → ℕ) → Actors → ℕ → Connection → Type 0
WasOrBegins taken w n t =
    ((s : Connection) × (connection_of w.controller n ≡ Some s) × (t.request.access ≡ s.request.access)) ⊎ ((1 ≤ taken t.request.access) × (n ≡ w.controller.next_number))

pub data Effect (w v : Actors) : Type 0 where
  takes : (taken : ℕ → ℕ) → ((k : ℕ) → requests_up v k + taken k ≤ requests_up w k) → ((k : ℕ) → is_none (mobile_of v k) ≡ is_none (mobile_of w k))
      → ((n : ℕ) (t : Connection) → connection_of v.controller n ≡ Some t → WasOrBegins taken w n t) → Effect w v
  one_connects : (number : ℕ) → Connects number w v → v.inbox ≡ w.inbox → Effect w v

-- nothing
rests : (w v : Actors) →
    v.controller ≡ w.controller →
    ((k : ℕ) → requests_up v k ≤ requests_up w k) →
    ((k : ℕ) → is_none (mobile_of v k) ≡ is_none (mobile_of w k)) →
    Effect w v
rests w v controller fewer there =
    takes none (λ k. let less = fewer k in omega (arith, less)) there
    (λ n t is. inl (t, ap (λ (c : Controller). connection_of c n) (sym controller) ∙ is, refl))

-- ---- mobiles, stations and the switch

pub inbox-same : (w : Actors) (event : Event) → pushed w event ≡ [] → popped w event ≡ [] → (actors_after w event).inbox ≡ w.inbox
inbox-same w event none_pushed none_popped =
    sym (sym (append-nil w.inbox) ∙ ap (λ (items : List Item). w.inbox ++ items) (sym none_pushed) ∙ inbox_keeps_order w event ∙ ap (λ (items : List Item). items ++ (actors_after w event).inbox) none_popped)

pub plain_pushes : (w : Actors) (event : Event) → is_plain event ≡ true → (pushed w event ≡ []) × (popped w event ≡ [])
plain_pushes w (BasePush source) is = absurd cc
plain_pushes w (BaseDown source) is = absurd cc
plain_pushes w Handle is = absurd cc
plain_pushes w _ is = (refl, refl)

plain_effect : (w : Actors) (event : Event) → is_plain event ≡ true → Effect w (actors_after w event)
plain_effect w event is =
    let quiet = plain_quiet w event is in
    let nothing = plain_pushes w event is in
    let inbox = inbox-same w event nothing.0 nothing.1 in
    rests w (actors_after w event) quiet.controller
    (λ k.
    let made = quiet.total k in
    let same_requests : requests_in k (said_in (actors_after w event).inbox) ≡ requests_in k (said_in w.inbox) = ap (λ (items : List Item). requests_in k (said_in items)) inbox in
    omega (arith, made, same_requests)) quiet.mobiles

unchanged : (w : Actors) → Effect w w
unchanged w = rests w w refl (λ k. omega arith) (λ k. refl)

connect_effect : (w : Actors) (number station : ℕ) (initial : List ℕ) (accepts : Bool) →
    Effect w (actors_after w (Connect number station initial accepts))
unfolding event_after
connect_effect w number station initial accepts =
    after_taken (Effect w) (after_connecting w number station initial accepts) w
    (connect_leads (Effect w) w number station initial accepts (λ may. one_connects number (connects w number station initial accepts may) refl)) (unchanged w)

-- ---- pushes and breaks

said_last : (k : ℕ) (items : List Item) (item : Item) →
    requests_in k (said_in (items ++ item ∷ [])) ≡ requests_in k (said_in items) + requests_in k (said_by item.what)
said_last k items item =
    ap (requests_in k) (flat_map-append (λ (i : Item). said_by i.what) items (item ∷ []))
    ∙ requests_append k (said_in items) (said_in (item ∷ []))
    ∙ ap (λ (ms : List Rsl). requests_in k (said_in items) + requests_in k ms) (append-nil (said_by item.what))

first_and_behind : (messages : List Rsl) (message : Rsl) →
    first_of_messages messages ≡ Some message →
    AllByRecursion IsSound messages →
    (message ∷ messages_behind_first messages ≡ messages) × IsSound message
first_and_behind [] message is sound = absurd cc
first_and_behind (first ∷ others) message is sound =
    let same : first ≡ message = cc in
    (ap (λ (m : Rsl). m ∷ others) (sym same), subst IsSound same sound.0)

push_effect : (w : Actors) (source : ℕ) → Good w → Effect w (actors_after w (BasePush source))
unfolding event_after
push_effect w source good =
    after_taken (Effect w) (after_base_push w source) w
    (push_leads (Effect w) w source
    (λ first others. rests w _ refl (λ k. let said = said_last k w.inbox (switch_item first) in omega (arith, said)) (λ k. refl))
    (λ message is.
    let parts = first_and_behind (base_of w source).messages message is (end_of w source good).made in
    let reads : said_by (station_item source message).what ≡ message ∷ [] = ap (λ (r : _). option_to_list (result_ok r)) (sound_read message parts.1) in
    rests w _ refl
    (λ k.
    let said = said_last k w.inbox (station_item source message) in
    let one : requests_in k (said_by (station_item source message).what) ≡ requests_in k (message ∷ []) = ap (requests_in k) reads in
    let whole : requests_in k (message ∷ messages_behind_first (base_of w source).messages) ≡ requests_in k (base_of w source).messages = ap (requests_in k) parts.0 in
    let both = requests_append k (message ∷ []) (messages_behind_first (base_of w source).messages) in
    let set = made_set k (requests_in k (message ∷ [])) 0 w.stations (source - 1) (record (station_of w source) { base = after_next (base_of w source) }) (omega (arith, whole, both)) in
    omega (arith, said, one, set)) (λ k. refl))) (unchanged w)

break_effect : (w : Actors) (source : ℕ) → Effect w (actors_after w (BaseDown source))
unfolding event_after
break_effect w source =
    after_taken (Effect w) (after_break w source) w
    (broken_leads (Effect w) w source
    (λ up is. rests w _ refl (λ k. let said = said_last k w.inbox (record { source = source; what = whats.Down }) in omega (arith, said)) (λ k. refl))
    (λ up is. rests w _ refl (λ k.
    let said = said_last k w.inbox (record { source = source; what = whats.Down }) in
    let set = made_set k 0 0 w.stations (source - 1) (record (station_of (with_link source broken_link w) source) { base = after_take_down (base_of (with_link source broken_link w) source) }) (omega arith) in
    omega (arith, said, set)) (λ k. refl))) (unchanged w)

-- ---- the controller works

-- a connection after a step was one before, or begins by it
abbrev CameBy : Controller → Step → ℕ → Connection → Type 0
CameBy c s n t = ((o : Connection) × (connection_of c n ≡ Some o) × (t.request.access ≡ o.request.access)) ⊎ Begins c s n t

came_by : (p : Parameters) (ss : List Step) (s : Step) (n : ℕ) (t : Connection) →
    connection_of (step (life p ss).next s).next n ≡ Some t →
    CameBy (life p ss).next s n t
came_by p ss s zero t is =
    let numbered = step_numbered (life p ss).next s (life_fits p ss 1 (omega arith)).numbered in
    absurd (let both : None ≡ Some t = sym (ap (λ (o : Option Entry). option_map (λ (e : Entry). e.connection) o) (find_above 0 (step (life p ss).next s).next.entries numbered.above)) ∙ is in cc)
came_by p ss s (suc m) t is = by (connection_of c (suc m)) refl where
  c : Controller
  c = (life p ss).next

  same : (o : Connection) → SameRequest (Some o) (connection_of (step c s).next (suc m)) → t.request.access ≡ o.request.access
  same o keeps_request = ap (λ (q : RequestReference). q.access) (subst (SameRequest (Some o)) is keeps_request)

  by : (o : Option Connection) → connection_of c (suc m) ≡ o → CameBy c s (suc m) t
  by None none = inr (step_begins c s (suc m) t (omega arith) (life_fits p ss 1 (omega arith)).numbered none is)
  by (Some o) there = inl (o, there, same o (subst (λ (x : Option Connection). SameRequest x (connection_of (step c s).next (suc m))) there (life_names p ss s (suc m) (omega arith)).keeps_request))

came_in : (settings : Parameters) (done : List Event) (w : Actors) (s : Step) →
    w ≡ world settings done →
    (n : ℕ) (t : Connection) →
    connection_of (step w.controller s).next n ≡ Some t →
    CameBy w.controller s n t
came_in settings done w s is =
    let by_table : w.controller ≡ (life settings (all_steps (new_actors settings) done)).next = ap (λ (x : Actors). x.controller) is ∙ FollowsTable-new settings done in
    subst (λ (c : Controller). (n : ℕ) (t : Connection) → connection_of (step c s).next n ≡ Some t → CameBy c s n t) (sym by_table) (came_by settings (all_steps (new_actors settings) done) s)

-- the item that it takes says a request
begins_said : (c : Controller) (item : Item) (n : ℕ) (t : Connection) →
    IsKnownItem item →
    Begins c (steps.Take item) n t →
    1 ≤ requests_in t.request.access (said_by item.what)
begins_said c item n t known begins =
    let same : item ≡ begins.item = taken_is begins.is in
    let frame : item.what ≡ whats.Frame begins.frame = ap (λ (i : Item). i.what) same ∙ begins.frame_is in
    let own : item ≡ record { source = item.source; what = whats.Frame begins.frame } = ap (λ (x : What). record { source = item.source; what = x }) frame in
    let said : requests_in t.request.access (said_by (whats.Frame begins.frame)) ≡ 1 = asking_says item.source begins.frame t.request begins.delay (subst IsKnownItem own known) (ap (λ (i : Item). word_of i.source begins.frame) same ∙ begins.asks) in
    let all : requests_in t.request.access (said_by item.what) ≡ 1 = ap (λ (x : What). requests_in t.request.access (said_by x)) frame ∙ said in
    omega (arith, all)
  where
    taken_is : {a b : Item} → steps.Take a ≡ steps.Take b → a ≡ b
    taken_is is = cc

take_effect : (settings : Parameters) (done : List Event) (w : Actors) (item : Item) (items : List Item) →
    w ≡ world settings done →
    w.inbox ≡ item ∷ items →
    Effect w (with_turn (target_in w item.source item.what) (take item w.controller) (record w { inbox = items }))
take_effect settings done w item items is pending =
    let known : AllByRecursion IsKnownItem (item ∷ items) = subst (AllByRecursion IsKnownItem) pending (subst (λ (x : Actors). AllByRecursion IsKnownItem x.inbox) (sym is) (known_inbox settings done)) in
    turn_leads (Effect w) (target_in w item.source item.what) (take item w.controller) (record w { inbox = items }) (λ links.
    takes (λ k. requests_in k (said_by item.what))
    (λ k.
    let all : requests_in k (said_in w.inbox) ≡ requests_in k (said_in (item ∷ items)) = ap (λ (xs : List Item). requests_in k (said_in xs)) pending in
    let parts = requests_append k (said_by item.what) (said_in items) in
    omega (arith, all, parts))
    (λ k. refl)
    (λ n t now. was n t (came_in settings done w (steps.Take item) is n t now) known.0))
  where
    was : (n : ℕ) (t : Connection) →
        CameBy w.controller (steps.Take item) n t →
        IsKnownItem item →
        WasOrBegins (λ k. requests_in k (said_by item.what)) w n t
    was n t (inl before) known = inl before
    was n t (inr begins) known = inr (begins_said w.controller item n t known begins, begins.number)

tick_effect : (settings : Parameters) (done : List Event) (w : Actors) (ms : ℕ) →
    w ≡ world settings done →
    Effect w (actors_after w (Tick ms))
unfolding event_after
tick_effect settings done w ms is =
    turn_leads (Effect w) None (tick ms w.controller) w (λ links.
    takes none (λ k. omega arith) (λ k. refl) (λ n t now. was n t (came_in settings done w (steps.Tick ms) is n t now)))
  where
    never : (item : Item) → steps.Tick ms ≡ steps.Take item → ⊥
    never item is = absurd cc

    was : (n : ℕ) (t : Connection) → CameBy w.controller (steps.Tick ms) n t → WasOrBegins none w n t
    was n t (inl before) = inl before
    was n t (inr begins) = absurd (never begins.item begins.is)

handle_effect : (settings : Parameters) (done : List Event) (w : Actors) → w ≡ world settings done → Effect w (actors_after w Handle)
unfolding event_after
handle_effect settings done w is = by w.inbox refl where
  by : (items : List Item) → w.inbox ≡ items → Effect w (unwrap_or (handled items w) w)
  by [] pending = unchanged w
  by (item ∷ items) pending = take_effect settings done w item items is pending

effect : (settings : Parameters) (done : List Event) (w : Actors) (event : Event) →
    w ≡ world settings done →
    Effect w (actors_after w event)
effect settings done w (Connect number station initial accepts) is = connect_effect w number station initial accepts
effect settings done w (BasePush source) is = push_effect w source (subst Good (sym is) (good_all (new_actors settings) done (good_new settings)))
effect settings done w (BaseDown source) is = break_effect w source
effect settings done w Handle is = handle_effect settings done w is
effect settings done w (Tick ms) is = tick_effect settings done w ms is
effect settings done w event is = plain_effect w event refl

-- ---- what is kept

record Once (w : Actors) : Type 0 where
  few : (k : ℕ) → requests_up w k ≤ 1
  known : (k : ℕ) → 1 ≤ requests_up w k → is_none (mobile_of w k) ≡ false
  owned : (n : ℕ) (s : Connection) →
      connection_of w.controller n ≡ Some s →
      (requests_up w s.request.access ≡ 0) × (is_none (mobile_of w s.request.access) ≡ false)
  alone : (n m : ℕ) (s t : Connection) →
      connection_of w.controller n ≡ Some s →
      connection_of w.controller m ≡ Some t →
      s.request.access ≡ t.request.access →
      n ≡ m
  nobody : is_none (mobile_of w 0) ≡ true

-- a mobile that is new never asked
new_silent : (w : Actors) (number : ℕ) → Once w → is_none (mobile_of w number) ≡ true → requests_up w number ≡ 0
new_silent w number once new = by (requests_up w number) (once.known number) where
  by : (n : ℕ) → (1 ≤ n → is_none (mobile_of w number) ≡ false) → n ≡ 0
  by zero known = refl
  by (suc n) known = absurd (true≢false (sym new ∙ known (omega arith)))

not_zero : (a b : ℕ) → 1 ≤ a → b ≡ 0 → a ≤ b → ⊥
not_zero a b some none less = absurd (omega (arith, some, none, less))

once_takes : (w v : Actors) (taken : ℕ → ℕ) →
    ((k : ℕ) → requests_up v k + taken k ≤ requests_up w k) →
    ((k : ℕ) → is_none (mobile_of v k) ≡ is_none (mobile_of w k)) →
    ((n : ℕ) (t : Connection) → connection_of v.controller n ≡ Some t → WasOrBegins taken w n t) →
    Once w →
    Once v
once_takes w v taken fewer there was once = record {
  few = λ k. let less = fewer k in let few = once.few k in omega (arith, less, few);
  known = λ k some. there k ∙ once.known k (let less = fewer k in omega (arith, less, some));
  owned = λ n t is. owned_by n t (was n t is);
  alone = λ n m s t is other same. alone_by n m s t (was n s is) (was m t other) same;
  nobody = there 0 ∙ once.nobody;
} where
  least : (a b d e : ℕ) → a + b ≤ d → d ≤ 1 → 1 ≤ b → a ≡ 0
  least a b d e less few some = omega (arith, less, few, some)

  none_left : (k : ℕ) → requests_up w k ≡ 0 → requests_up v k ≡ 0
  none_left k empty = let less = fewer k in omega (arith, less, empty)

  owned_by : (n : ℕ) (t : Connection) →
      WasOrBegins taken w n t →
      (requests_up v t.request.access ≡ 0) × (is_none (mobile_of v t.request.access) ≡ false)
  owned_by n t (inl (s, is, same)) =
      let before = once.owned n s is in
      (none_left t.request.access (ap (requests_up w) same ∙ before.0), there t.request.access ∙ ap (λ (k : ℕ). is_none (mobile_of w k)) same ∙ before.1)
  owned_by n t (inr (some, next)) =
      let less = fewer t.request.access in (
        least (requests_up v t.request.access) (taken t.request.access) (requests_up w t.request.access) 0 less (once.few t.request.access) some,
        there t.request.access ∙ once.known t.request.access (omega (arith, less, some)),
      )

  begun_after : (k : ℕ) (n : ℕ) (s : Connection) → connection_of w.controller n ≡ Some s → k ≡ s.request.access → 1 ≤ taken k → ⊥
  begun_after k n s is same some =
      let less = fewer k in
      let nothing : requests_up w k ≡ 0 = ap (requests_up w) same ∙ (once.owned n s is).0 in
      absurd (omega (arith, less, nothing, some))

  alone_by : (n m : ℕ) (s t : Connection) → WasOrBegins taken w n s → WasOrBegins taken w m t → s.request.access ≡ t.request.access → n ≡ m
  alone_by n m s t (inl (o, is, same)) (inl (p, there_is, same_too)) both = once.alone n m o p is there_is (sym same ∙ both ∙ same_too)
  alone_by n m s t (inl (o, is, same)) (inr (some, next)) both = absurd (begun_after t.request.access n o is (sym both ∙ same) some)
  alone_by n m s t (inr (some, next)) (inl (p, is, same)) both = absurd (begun_after s.request.access m p is (both ∙ same) some)
  alone_by n m s t (inr (some, next)) (inr (some_too, next_too)) both = next ∙ sym next_too

once_connects : (w v : Actors) (number : ℕ) → Connects number w v → v.inbox ≡ w.inbox → Once w → Once v
once_connects w v number now inbox once = record {
  few = λ k. few_by k (number == k) refl;
  known = λ k some. known_by k some (number == k) refl;
  owned = λ n s is. let before = once.owned n s (ap (λ (c : Controller). connection_of c n) (sym now.controller) ∙ is) in owned_by s.request.access before.0 before.1 (number == s.request.access) refl;
  alone = λ n m s t is other same. once.alone n m s t (ap (λ (c : Controller). connection_of c n) (sym now.controller) ∙ is) (ap (λ (c : Controller). connection_of c m) (sym now.controller) ∙ other) same;
  nobody = now.there 0 ∙ ap (λ (b : Bool). if b then false else is_none (mobile_of w 0)) (ne_eqb number 0 (λ is. (let least = now.from_one in absurd (omega (arith, is, least))))) ∙ once.nobody;
} where
  same_requests : (k : ℕ) → requests_in k (said_in v.inbox) ≡ requests_in k (said_in w.inbox)
  same_requests k = ap (λ (items : List Item). requests_in k (said_in items)) inbox

  more : (k : ℕ) (b : Bool) → (number == k) ≡ b → requests_up v k ≤ requests_up w k + (if b then 1 else 0)
  more k b is =
      let made : requests_in k (made_by v.stations) ≤ requests_in k (made_by w.stations) + (if b then 1 else 0) = subst (λ (d : Bool). requests_in k (made_by v.stations) ≤ requests_in k (made_by w.stations) + (if d then 1 else 0)) is (now.total k) in
      let same = same_requests k in
      omega (arith, made, same)

  silent : (k : ℕ) → (number == k) ≡ true → requests_up w k ≡ 0
  silent k is = new_silent w k once (ap (λ (m : ℕ). is_none (mobile_of w m)) (sym (eqb-true number k is)) ∙ now.new)

  few_by : (k : ℕ) (b : Bool) → (number == k) ≡ b → requests_up v k ≤ 1
  few_by k true is = let less = more k true is in let none = silent k is in omega (arith, less, none)
  few_by k false is = let less = more k false is in let few = once.few k in omega (arith, less, few)

  known_by : (k : ℕ) → 1 ≤ requests_up v k → (b : Bool) → (number == k) ≡ b → is_none (mobile_of v k) ≡ false
  known_by k some true is = now.there k ∙ ap (λ (b : Bool). if b then false else is_none (mobile_of w k)) is
  known_by k some false is = now.there k ∙ ap (λ (b : Bool). if b then false else is_none (mobile_of w k)) is ∙ once.known k (let less = more k false is in omega (arith, less, some))

  owned_by : (k : ℕ) →
      requests_up w k ≡ 0 →
      is_none (mobile_of w k) ≡ false →
      (b : Bool) →
      (number == k) ≡ b →
      (requests_up v k ≡ 0) × (is_none (mobile_of v k) ≡ false)
  owned_by k nothing present true is = absurd (true≢false (sym now.new ∙ ap (λ (m : ℕ). is_none (mobile_of w m)) (eqb-true number k is) ∙ present))
  owned_by k nothing present false is = (
    (let less = more k false is in omega (arith, less, nothing)),
    now.there k ∙ ap (λ (b : Bool). if b then false else is_none (mobile_of w k)) is ∙ present,
  )

once_by : (w v : Actors) → Effect w v → Once w → Once v
once_by w v (takes taken fewer there was) once = once_takes w v taken fewer there was once
once_by w v (one_connects number now inbox) once = once_connects w v number now inbox once

-- ---- a mobile whose connection is there, or was

-- it doesn't ask any more, and has no connection of another number
record IsDone (mobile number : ℕ) (w : Actors) : Type 0 where
  silent : requests_up w mobile ≡ 0
  present : is_none (mobile_of w mobile) ≡ false
  one : (n : ℕ) (s : Connection) → connection_of w.controller n ≡ Some s → s.request.access ≡ mobile → n ≡ number

done_by : (mobile number : ℕ) (w v : Actors) → Effect w v → IsDone mobile number w → IsDone mobile number v
done_by mobile number w v (takes taken fewer there was) done = record {
  silent = let less = fewer mobile in let nothing = done.silent in omega (arith, less, nothing);
  present = there mobile ∙ done.present;
  one = λ n t is same. by n t same (was n t is);
} where
  none_taken : 1 ≤ taken mobile → ⊥
  none_taken some = let less = fewer mobile in let nothing = done.silent in absurd (omega (arith, less, nothing, some))

  by : (n : ℕ) (t : Connection) → t.request.access ≡ mobile → WasOrBegins taken w n t → n ≡ number
  by n t same (inl (s, is, access)) = done.one n s is (sym access ∙ same)
  by n t same (inr (some, next)) = absurd (none_taken (subst (λ (k : ℕ). 1 ≤ taken k) same some))
done_by mobile number w v (one_connects other now inbox) done = record {
  silent =
      let made : requests_in mobile (made_by v.stations) ≤ requests_in mobile (made_by w.stations) + (if false then 1 else 0) = subst (λ (b : Bool). requests_in mobile (made_by v.stations) ≤ requests_in mobile (made_by w.stations) + (if b then 1 else 0)) differs (now.total mobile) in
      let same_requests : requests_in mobile (said_in v.inbox) ≡ requests_in mobile (said_in w.inbox) = ap (λ (items : List Item). requests_in mobile (said_in items)) inbox in
      let nothing = done.silent in
      omega (arith, made, same_requests, nothing);
  present = now.there mobile ∙ ap (λ (b : Bool). if b then false else is_none (mobile_of w mobile)) differs ∙ done.present;
  one = λ n s is same. done.one n s (ap (λ (c : Controller). connection_of c n) (sym now.controller) ∙ is) same;
} where
  differs : (other == mobile) ≡ false
  differs = ne_eqb other mobile (λ same. true≢false (sym now.new ∙ ap (λ (k : ℕ). is_none (mobile_of w k)) same ∙ done.present))

-- ---- over all events

pub append_actors : (w : Actors) (xs ys : List Event) → actors_after_all w (xs ++ ys) ≡ actors_after_all (actors_after_all w xs) ys
append_actors w [] ys = refl
append_actors w (x ∷ xs) ys = append_actors (actors_after w x) xs ys

-- what each event keeps
kept_through : (P : Actors → Type 0) →
    ((w v : Actors) → Effect w v → P w → P v) →
    (settings : Parameters) (done rest : List Event) (w : Actors) →
    w ≡ world settings done →
    P w →
    P (actors_after_all w rest)
kept_through P keeps settings done [] w is holds = holds
kept_through P keeps settings done (event ∷ rest) w is holds =
    kept_through P keeps settings (done ++ event ∷ []) rest (actors_after w event) (ap (λ (x : Actors). actors_after x event) is ∙ sym (snoc_actors (new_actors settings) done event))
    (keeps w (actors_after w event) (effect settings done w event is) holds)

new_made : (k : ℕ) (from : ℕ) (cells : List CellParameters) → requests_in k (made_by (stations_from from cells)) ≡ 0
new_made k from [] = refl
new_made k from (cell ∷ cells) = new_made k (from + 1) cells

once_new : (settings : Parameters) → Once (new_actors settings)
once_new settings = record {
  few = λ k. let nothing = new_made k 1 settings.cells in omega (arith, nothing);
  known = λ k some. absurd (let nothing = new_made k 1 settings.cells in omega (arith, nothing, some));
  owned = λ n s is. absurd cc;
  alone = λ n m s t is other same. absurd cc;
  nobody = refl;
}

once_all : (settings : Parameters) (events : List Event) → Once (world settings events)
once_all settings events = kept_through Once once_by settings [] events (new_actors settings) refl (once_new settings)

-- ---- the laws

present_of : (o : Option Mobile) → is_none o ≡ false → (p : Mobile) × (o ≡ Some p)
present_of None is = absurd cc
present_of (Some p) is = (p, refl)

present_from_one : (w : Actors) (k : ℕ) → Once w → is_none (mobile_of w k) ≡ false → 1 ≤ k
present_from_one w zero once present = absurd (true≢false (sym once.nobody ∙ present))
present_from_one w (suc k) once present = omega arith

pub connections_answer_mobiles_new : (settings : Parameters) (events : List Event) → ConnectionsAnswerMobiles settings events
connections_answer_mobiles_new settings events number s is =
    let once = once_all settings events in
    let own = once.owned number s is in
    let one = present_of (mobile_of (world settings events) s.request.access) own.1 in
    record { from_one = present_from_one (world settings events) s.request.access once own.1; one = one.0; found = one.1; none_up = own.0 }

pub connections_are_one_each_new : (settings : Parameters) (events : List Event) → ConnectionsAreOneEach settings events
connections_are_one_each_new settings events number other s t is there same = (once_all settings events).alone number other s t is there same

pub requests_arrive_once_new : (settings : Parameters) (events : List Event) → RequestsArriveOnce settings events
requests_arrive_once_new settings events mobile some =
    let w : Actors = world settings events in
    let once = once_all settings events in
    let present = once.known mobile some in
    let one = present_of (mobile_of w mobile) present in
    let few = once.few mobile in
    record {
      from_one = present_from_one w mobile once present;
      one = one.0;
      found = one.1;
      only = omega (arith, few, some);
      unanswered = λ number s is same. not_zero 1 (requests_up w mobile) (omega arith) (ap (requests_up w) (sym same) ∙ (once.owned number s is).0) some;
    }

-- from a connection on its mobile is done
done_after : (settings : Parameters) (before after : List Event) (number : ℕ) (s : Connection) →
    connection_of (world settings before).controller number ≡ Some s →
    IsDone s.request.access number (world settings (before ++ after))
done_after settings before after number s is =
    let once = once_all settings before in
    let own = once.owned number s is in
    subst (IsDone s.request.access number) (sym (append_actors (new_actors settings) before after))
    (kept_through (IsDone s.request.access number) (done_by s.request.access number) settings before after (world settings before) refl
    (record { silent = own.0; present = own.1; one = λ n t there same. once.alone n number t s there is same }))

pub none_was_answered_new : (settings : Parameters) (before after : List Event) → NoneWasAnswered settings before after
none_was_answered_new settings before after mobile some number s is same =
    let done = done_after settings before after number s is in
    not_zero 1 (requests_up (world settings (before ++ after)) mobile) (omega arith) (ap (requests_up (world settings (before ++ after))) (sym same) ∙ done.silent) some

pub none_is_answered_again_new : (settings : Parameters) (before after : List Event) → NoneIsAnsweredAgain settings before after
none_is_answered_again_new settings before after number other s t is there same = sym ((done_after settings before after number s is).one other t there (sym same))
