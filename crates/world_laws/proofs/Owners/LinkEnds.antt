-- SPDX-License-Identifier: MIT OR Apache-2.0
-- The links of a connection's channels are up; nothing arrives on a link after its end.
use Rattle.world_laws.proofs.Prelude.{◌≡◌, ◌≢◌, ℕ, zero, suc, ◌+◌, ◌-◌, ◌==◌, nat_eq, Bool, true, false, cond, if◌then◌else◌, List, [], ◌∷◌}
use Rattle.world_laws.proofs.Prelude.{◌++◌, get_or, length, map, option_to_list, replicate, unwrap_or, Option, Some, None, refl, sym, ap}
use Rattle.world_laws.proofs.Prelude.{◌∙◌, subst, inl, inr, true≢false, cases_Bool, cond-false, eqb-true, eqb-false, ne_eqb, eq-eqb}
use Rattle.world_laws.proofs.Prelude.{append-nil, filter-append, AllByRecursion, Sccp, Channel, SWITCH_LINK, AllByRecursion-append}
use Rattle.world_laws.proofs.Prelude.{Connection, roles_of, used_channels, IsOpen, connection_of, Owns, OwnsOpen, is_link_up, links_with}
use Rattle.world_laws.proofs.Prelude.{step_keeps_rest, life_owns, Step, Controller, Turn, hears, Frame, BaseState, after_take_down, first_message}
use Rattle.world_laws.proofs.Prelude.{first_of_messages, Item, What, Rsl, AreAllowed, CellParameters, Parameters, Event, Connect, BasePush}
use Rattle.world_laws.proofs.Prelude.{Handle, Tick, BaseDown, Tenure, actors_after, actors_after_all, after_connecting, first_of}
use Rattle.world_laws.proofs.Prelude.{after_base_push, after_break, handled, pushed_by_station, pushed_by_switch, station_item, switch_item}
use Rattle.world_laws.proofs.Prelude.{target_in, with_turn, all_steps, Actors, Link, base_of, broken_link, is_up, new_actors, with_base}
use Rattle.world_laws.proofs.Prelude.{new_link, no_station, stations_from, with_link, Plain, base-elsewhere, base-there, as_before}
use Rattle.world_laws.proofs.Prelude.{ends_now, inbox_keeps_order, after_taken, broken_leads, connect_leads, turn_leads, FollowsTable-new}
use Rattle.world_laws.proofs.Prelude.{all_join, changed_link, unwrap_or-slice_get, channels_of-roles, LinkedOf, life_linked, life, take}
use Rattle.world_laws.proofs.Prelude.{tick, made_item, of_source, pushing, link-else}
use Rattle.controller_model.proofs.LifeLaws.Beside.{other_link}
use Rattle.controller_model.specs.declared.step.Step.TheVariants as steps
use Rattle.ruled_relay.specs.declared.item.What.TheVariants as whats
use Rattle.world_model.specs.Life.{event_after}
use Rattle.world_model.proofs.Honesty.Plain.{next}
use Rattle.world_laws.specs.Owners.LinkEnds.{EndsOnce, EndsWithDown, LinksEndOnce, LinksOfChannelsAreUp, down_of}
use Rattle.world_laws.proofs.Owners.Making.{connects, is_plain, plain_quiet}
use Rattle.world_laws.proofs.Owners.OneEach.{inbox-same, plain_pushes}
use Rattle.world_laws.proofs.Events.{world}

-- ---- the links of a connection

pub owns_of : (settings : Parameters) (ss : List Step) (s : Connection) →
    AreAllowed settings →
    connection_of (life settings ss).next s.number ≡ Some s →
    IsOpen s.state →
    Owns (life settings ss).next.channels (life settings ss).next.links s.number (roles_of s)
owns_of settings ss s allowed there is_open = subst (OwnsOpen (life settings ss).next.channels (life settings ss).next.links s.number) there (life_owns settings ss s.number allowed) is_open

pub links_of_channels_are_up_new : (settings : Parameters) (events : List Event) → LinksOfChannelsAreUp settings events
links_of_channels_are_up_new settings events s allowed had =
    let w : Actors = world settings events in
    let ss : List Step = all_steps (new_actors settings) events in
    let c : Controller = (life settings ss).next in
    let by_table : w.controller ≡ c = FollowsTable-new settings events in
    let there : connection_of c s.number ≡ Some s = subst (λ (d : Controller). connection_of d s.number ≡ Some s) by_table had.there in
    let owns : Owns c.channels c.links s.number (roles_of s) = owns_of settings ss s allowed there had.is_open in
    let linked : hears c SWITCH_LINK ≡ true = subst (LinkedOf (hears c SWITCH_LINK)) there (life_linked settings ss s.number had.from_one) in
    record {
      switch = subst (λ (d : Controller). hears d SWITCH_LINK ≡ true) (sym by_table) linked;
      stations = subst (λ (d : Controller). AllByRecursion (λ (x : Channel). hears d x.station ≡ true) (used_channels s)) (sym by_table)
          (subst (AllByRecursion (λ (x : Channel). hears c x.station ≡ true)) (channels_of-roles s) owns.linked);
    }

-- ---- lists of items

abbrev NoneIsDown : ℕ → List Item → Type 0
NoneIsDown source items = AllByRecursion (λ item. item ≢ down_of source) items

none_behind : (source : ℕ) (xs ys : List Item) → NoneIsDown source xs → EndsWithDown source ys → EndsWithDown source (xs ++ ys)
none_behind source [] ys none ends = ends
none_behind source (x ∷ xs) ys none ends = ((λ is. absurd (none.0 is)), none_behind source xs ys none.1 ends)

none_ends : (source : ℕ) (xs : List Item) → NoneIsDown source xs → EndsWithDown source xs
none_ends source [] none = tt
none_ends source (x ∷ xs) none = ((λ is. absurd (none.0 is)), none_ends source xs none.1)

of_both : (source : ℕ) (xs ys : List Item) → of_source source xs ≡ [] → of_source source ys ≡ [] → of_source source (xs ++ ys) ≡ []
of_both source xs ys none none_too = filter-append (λ (item : Item). item.source == source) xs ys ∙ ap (λ (items : List Item). items ++ of_source source ys) none ∙ none_too

others_behind : (source : ℕ) (xs ys : List Item) →
    of_source source ys ≡ [] →
    NoneIsDown source ys →
    EndsWithDown source xs →
    EndsWithDown source (xs ++ ys)
others_behind source [] ys others none ends = none_ends source ys none
others_behind source (x ∷ xs) ys others none ends = ((λ is. of_both source xs ys (ends.0 is) others), others_behind source xs ys others none ends.1)

of_behind : (source : ℕ) (x : Item) (xs : List Item) → of_source source (x ∷ xs) ≡ [] → of_source source xs ≡ []
of_behind source x xs none = by (x.source == source) none where
  by : (b : Bool) → cond b (x ∷ of_source source xs) (of_source source xs) ≡ [] → of_source source xs ≡ []
  by true is = absurd cc
  by false is = is

other_source : (source : ℕ) (item : Item) → (item.source == source) ≡ false → of_source source (item ∷ []) ≡ []
other_source source item differs = cond-false _ (item ∷ []) [] differs

other_down : (source : ℕ) (item : Item) → (item.source == source) ≡ false → item ≢ down_of source
other_down source item differs is = true≢false (sym (eq-eqb item.source source (ap (λ (i : Item). i.source) is)) ∙ differs)

pub frame_down : (source : ℕ) (item : Item) (frame : Frame) → item.what ≡ whats.Frame frame → item ≢ down_of source
frame_down source item frame is same = never (sym is ∙ ap (λ (i : Item). i.what) same) where
  never : whats.Frame frame ≡ whats.Down → ⊥
  never both = absurd cc

-- ---- an event that leaves the links

record Leaves (source : ℕ) (w v : Actors) : Type 0 where
  up : is_up v source ≡ is_up w source
  hearing : hears v.controller source ≡ hears w.controller source
  more : List Item
  inbox : v.inbox ≡ w.inbox ++ more
  frames : NoneIsDown source more
  others : is_up w source ≡ false → of_source source more ≡ []
  switch : source ≡ SWITCH_LINK → is_up w source ≡ false → w.switch_made ≡ [] → v.switch_made ≡ []
  station : source ≢ SWITCH_LINK → is_up w source ≡ false → (base_of w source).messages ≡ [] → (base_of v source).messages ≡ []

leaves_ends : (source : ℕ) (w v : Actors) → Leaves source w v → EndsOnce w source → EndsOnce v source
leaves_ends source w v leaves ends = record {
  last = subst (EndsWithDown source) (sym leaves.inbox) (by (is_up w source) refl);
  none_yet = λ up. subst (NoneIsDown source) (sym leaves.inbox) (AllByRecursion-append (λ (item : Item). item ≢ down_of source) w.inbox leaves.more (ends.none_yet (sym leaves.up ∙ up)) leaves.frames);
  switch_made = λ is down. leaves.switch is (sym leaves.up ∙ down) (ends.switch_made is (sym leaves.up ∙ down));
  station_made = λ is down. leaves.station is (sym leaves.up ∙ down) (ends.station_made is (sym leaves.up ∙ down));
  broke = λ deaf. leaves.up ∙ ends.broke (sym leaves.hearing ∙ deaf);
  over = λ deaf.
      let was = sym leaves.hearing ∙ deaf in
      ap (of_source source) leaves.inbox ∙ of_both source w.inbox leaves.more (ends.over was) (leaves.others (ends.broke was));
} where
  by : (b : Bool) → is_up w source ≡ b → EndsWithDown source (w.inbox ++ leaves.more)
  by true up = none_behind source w.inbox leaves.more (ends.none_yet up) (none_ends source leaves.more leaves.frames)
  by false down = others_behind source w.inbox leaves.more (leaves.others down) leaves.frames ends.last

plain_leaves : (source : ℕ) (w : Actors) (event : Event) → is_plain event ≡ true → Leaves source w (actors_after w event)
plain_leaves source w event is =
    let quiet = plain_quiet w event is in
    let nothing = plain_pushes w event is in
    record {
      up = quiet.links source;
      hearing = ap (λ (c : Controller). hears c source) quiet.controller;
      more = [];
      inbox = inbox-same w event nothing.0 nothing.1 ∙ sym (append-nil w.inbox);
      frames = tt;
      others = λ down. refl;
      switch = λ same down empty. quiet.switch (ap (is_up w) (sym same) ∙ down) ∙ empty;
      station = λ differs down empty. quiet.silent source differs down empty;
    }

remains_leaves : (source : ℕ) (w : Actors) → Leaves source w w
remains_leaves source w = record { up = refl; hearing = refl; more = []; inbox = sym (append-nil w.inbox); frames = tt; others = λ down. refl; switch = λ same down empty. empty; station = λ differs down empty. empty }

connect_leaves : (source : ℕ) (w : Actors) (number station : ℕ) (initial : List ℕ) (accepts : Bool) →
    Leaves source w (actors_after w (Connect number station initial accepts))
unfolding event_after
connect_leaves source w number station initial accepts =
    after_taken (Leaves source w) (after_connecting w number station initial accepts) w
    (connect_leads (Leaves source w) w number station initial accepts (λ may.
    let now = connects w number station initial accepts may in
    record {
      up = refl;
      hearing = refl;
      more = [];
      inbox = sym (append-nil w.inbox);
      frames = tt;
      others = λ down. refl;
      switch = λ same down empty. empty;
      station = λ differs down empty. now.silent source differs down empty;
    })) (remains_leaves source w)

-- ---- a push

first_none : (messages : List Rsl) → messages ≡ [] → first_of_messages messages ≡ None
first_none messages is = ap first_of_messages is

push_leaves : (source other : ℕ) (w : Actors) → EndsOnce w source → Leaves source w (actors_after w (BasePush other))
unfolding event_after
push_leaves source other w ends = record {
  up = up;
  hearing = hearing;
  more = made_item w other;
  inbox = sym (inbox_keeps_order w (BasePush other));
  frames = frames;
  others = λ down. others down;
  switch = λ same down empty. switch empty;
  station = λ differs down empty. station differs empty;
} where
  v : Actors
  v = unwrap_or (after_base_push w other) w

  Same : Actors → Type 0
  Same u = (u.links ≡ w.links) × (u.controller ≡ w.controller)

  made_same : (o : Option Rsl) → Same (unwrap_or (pushed_by_station other o w) w)
  made_same None = (refl, refl)
  made_same (Some message) = (refl, refl)

  switch_same : (made : List Sccp) → Same (unwrap_or (pushed_by_switch made w) w)
  switch_same [] = (refl, refl)
  switch_same (first ∷ rest) = (refl, refl)

  both : (b : Bool) →
      Same (unwrap_or (if b then pushed_by_switch w.switch_made w else pushed_by_station other (first_message (base_of w other)) w) w)
  both true = switch_same w.switch_made
  both false = made_same (first_message (base_of w other))

  up : is_up v source ≡ is_up w source
  up = ap (λ (links : List Link). (get_or links source broken_link).up) (both (other == SWITCH_LINK)).0

  hearing : hears v.controller source ≡ hears w.controller source
  hearing = ap (λ (c : Controller). hears c source) (both (other == SWITCH_LINK)).1

  switch_frames : (made : List Sccp) → NoneIsDown source (map switch_item (first_of made))
  switch_frames [] = tt
  switch_frames (first ∷ rest) = (frame_down source (switch_item first) _ refl, tt)

  station_frames : (o : Option Rsl) → NoneIsDown source (map (station_item other) (option_to_list o))
  station_frames None = tt
  station_frames (Some message) = (frame_down source (station_item other message) _ refl, tt)

  frames_by : (b : Bool) →
      NoneIsDown source (if b then map switch_item (first_of w.switch_made) else map (station_item other) (option_to_list (first_message (base_of w other))))
  frames_by true = switch_frames w.switch_made
  frames_by false = station_frames (first_message (base_of w other))

  frames : NoneIsDown source (made_item w other)
  frames = frames_by (other == SWITCH_LINK)

  switch_of : (made : List Sccp) → (source ≡ SWITCH_LINK → made ≡ []) → of_source source (map switch_item (first_of made)) ≡ []
  switch_of [] none = refl
  switch_of (first ∷ rest) none = other_source source (switch_item first) (ne_eqb SWITCH_LINK source (λ same. absurd (let empty = none (sym same) in cc)))

  station_of : (o : Option Rsl) → (source ≡ other → o ≡ None) → of_source source (map (station_item other) (option_to_list o)) ≡ []
  station_of None none = refl
  station_of (Some message) none = other_source source (station_item other message) (ne_eqb other source (λ same. absurd (let empty = none (sym same) in cc)))

  others_by : is_up w source ≡ false →
      (b : Bool) →
      (other == SWITCH_LINK) ≡ b →
      of_source source (if b then map switch_item (first_of w.switch_made) else map (station_item other) (option_to_list (first_message (base_of w other)))) ≡ []
  others_by down true is = switch_of w.switch_made (λ same. ends.switch_made same down)
  others_by down false is = station_of (first_message (base_of w other)) (λ same. ap (λ (n : ℕ). first_message (base_of w n)) (sym same) ∙ first_none (base_of w source).messages (ends.station_made (λ switch. eqb-false other SWITCH_LINK is (sym same ∙ switch)) down))

  others : is_up w source ≡ false → of_source source (made_item w other) ≡ []
  others down = others_by down (other == SWITCH_LINK) refl

  switch-left : (made : List Sccp) → w.switch_made ≡ [] → made ≡ [] → (unwrap_or (pushed_by_switch made w) w).switch_made ≡ []
  switch-left [] empty is = empty
  switch-left (first ∷ rest) empty is = absurd cc

  station_is_left : (o : Option Rsl) → w.switch_made ≡ [] → (unwrap_or (pushed_by_station other o w) w).switch_made ≡ []
  station_is_left None empty = empty
  station_is_left (Some message) empty = empty

  switch-by : (b : Bool) →
      w.switch_made ≡ [] →
      (unwrap_or (if b then pushed_by_switch w.switch_made w else pushed_by_station other (first_message (base_of w other)) w) w).switch_made ≡ []
  switch-by true empty = switch-left w.switch_made empty empty
  switch-by false empty = station_is_left (first_message (base_of w other)) empty

  switch : w.switch_made ≡ [] → v.switch_made ≡ []
  switch empty = switch-by (other == SWITCH_LINK) empty

  station_by : source ≢ SWITCH_LINK →
      Plain source w (BasePush other) v →
      (base_of w source).messages ≡ [] →
      (base_of v source).messages ≡ []
  station_by differs (as_before same nothing) empty = ap (λ (b : BaseState). b.messages) same ∙ empty
  station_by differs (next message first is gave) empty = absurd (let both : None ≡ Some message = sym (first_none (base_of w source).messages empty) ∙ first in cc)
  station_by differs (ends_now down left nothing) empty = left

  station : source ≢ SWITCH_LINK → (base_of w source).messages ≡ [] → (base_of v source).messages ≡ []
  station differs empty = station_by differs (pushing source other w differs) empty

-- ---- a break

record Broken (source other : ℕ) (w v : Actors) : Type 0 where
  links : v.links ≡ (with_link other broken_link w).links
  controller : v.controller ≡ w.controller
  inbox : v.inbox ≡ w.inbox ++ down_of other ∷ []
  switch_now : source ≡ SWITCH_LINK → other ≡ source → v.switch_made ≡ []
  switch_left : source ≡ SWITCH_LINK → w.switch_made ≡ [] → v.switch_made ≡ []
  station_now : source ≢ SWITCH_LINK → other ≡ source → (base_of v source).messages ≡ []
  station_left : source ≢ SWITCH_LINK → (base_of w source).messages ≡ [] → (base_of v source).messages ≡ []

broken_ends : (source other : ℕ) (w v : Actors) → Broken source other w v → is_up w other ≡ true → EndsOnce w source → EndsOnce v source
broken_ends source other w v broken up ends = elim (cases_Bool (nat_eq other source)) [
  | inl hit ↦ own (eqb-true other source hit)
  | inr miss ↦ leaves_ends source w v (record {
    up = ap (λ (links : List Link). (get_or links source broken_link).up) broken.links ∙ ap (λ (l : Link). l.up) (link-else w source other broken_link (λ same. eqb-false other source miss (sym same)));
    hearing = ap (λ (c : Controller). hears c source) broken.controller;
    more = down_of other ∷ [];
    inbox = broken.inbox;
    frames = (other_down source (down_of other) miss, tt);
    others = λ down. other_source source (down_of other) miss;
    switch = λ same down empty. broken.switch_left same empty;
    station = λ differs down empty. broken.station_left differs empty;
  }) ends
] where
  own : other ≡ source → EndsOnce v source
  own same =
      let was_up : is_up w source ≡ true = ap (is_up w) (sym same) ∙ up in
      let down : is_up v source ≡ false = ap (λ (links : List Link). (get_or links source broken_link).up) broken.links
      ∙ ap (λ (n : ℕ). is_up (with_link n broken_link w) source) same ∙ ap (λ (l : Link). l.up) (changed_link w.links source broken_link was_up) in
      record {
        last = subst (EndsWithDown source) (sym broken.inbox) (none_behind source w.inbox (down_of other ∷ []) (ends.none_yet was_up) ((λ is. refl), tt));
        none_yet = λ now_up. absurd (true≢false (sym now_up ∙ down));
        switch_made = λ switch _. broken.switch_now switch same;
        station_made = λ differs _. broken.station_now differs same;
        broke = λ deaf. down;
        over = λ deaf. absurd (true≢false (sym was_up ∙ ends.broke (ap (λ (c : Controller). hears c source) (sym broken.controller) ∙ deaf)));
      }

break_ends : (source other : ℕ) (w : Actors) → EndsOnce w source → EndsOnce (actors_after w (BaseDown other)) source
unfolding event_after
break_ends source other w ends =
    after_taken (λ (v : Actors). EndsOnce v source) (after_break w other) w
    (broken_leads (λ (v : Actors). EndsOnce v source) w other
    (λ up is. broken_ends source other w _ (record {
      links = refl;
      controller = refl;
      inbox = refl;
      switch_now = λ switch same. refl;
      switch_left = λ switch empty. refl;
      station_now = λ differs same. absurd (differs (sym same ∙ is));
      station_left = λ differs empty. empty;
    }) up ends)
    (λ up other_is. broken_ends source other w _ (record {
      links = refl;
      controller = refl;
      inbox = refl;
      switch_now = λ switch same. absurd (other_is (same ∙ switch));
      switch_left = λ switch empty. empty;
      station_now = λ differs same. subst (λ (n : ℕ). (base_of (with_base other (after_take_down (base_of (with_link other broken_link w) other)) (with_link other broken_link w)) n).messages ≡ []) same (taken_down (with_link other broken_link w));
      station_left = λ differs empty. elim (cases_Bool (nat_eq other source)) [
        | inl hit ↦ subst (λ (n : ℕ). (base_of (with_base other (after_take_down (base_of (with_link other broken_link w) other)) (with_link other broken_link w)) n).messages ≡ []) (eqb-true other source hit) (taken_down (with_link other broken_link w))
        | inr miss ↦ ap (λ (b : BaseState). b.messages) (base-elsewhere (with_link other broken_link w) source other _ differs other_is (λ same. eqb-false other source miss (sym same))) ∙ empty
      ];
    }) up ends)) ends
  where
    taken_down : (u : Actors) → (base_of (with_base other (after_take_down (base_of u other)) u) other).messages ≡ []
    taken_down u = elim (base-there u other (after_take_down (base_of u other))) [
      | inl there ↦ ap (λ (b : BaseState). b.messages) there
      | inr nowhere ↦ ap (λ (b : BaseState). b.messages) nowhere.0
    ]

-- ---- the controller works

-- the controller learns that a link broke by the end of the link alone
what_now : (up : Bool) (from source : ℕ) (what : What) (c : Controller) →
    is_link_up (links_with up from what c) source ≡ false →
    is_link_up c.links source ≡ true →
    (what ≡ whats.Down) × (from ≡ source)
what_now true from source whats.Down c now was = elim (cases_Bool (nat_eq from source)) [
  | inl hit ↦ (refl, eqb-true from source hit)
  | inr miss ↦ absurd (true≢false (sym was ∙ sym (other_link c.links from source (λ same. eqb-false from source miss (sym same))) ∙ now))
]
what_now _ from source _ c now was = absurd (true≢false (sym was ∙ now))

learns : (c : Controller) (item : Item) (source : ℕ) →
    hears c source ≡ true →
    hears (take item c).next source ≡ false →
    item ≡ down_of source
learns c item source was now =
    let links = (step_keeps_rest c (steps.Take item)).links_are in
    let both = what_now (hears c item.source) item.source source item.what c (ap (λ (ls : List Bool). is_link_up ls source) (sym links) ∙ now) was in
    ap (λ (what : What). record { source = item.source; what = what }) both.0 ∙ ap (λ (n : ℕ). down_of n) both.1

take_ends : (source : ℕ) (w : Actors) (item : Item) (items : List Item) →
    w.inbox ≡ item ∷ items →
    EndsOnce w source →
    EndsOnce (with_turn (target_in w item.source item.what) (take item w.controller) (record w { inbox = items })) source
take_ends source w item items pending ends = record {
  last = subst (EndsWithDown source) (sym inbox) ends_down.1;
  none_yet = λ now_up. subst (NoneIsDown source) (sym inbox) (subst (NoneIsDown source) pending (ends.none_yet (sym up ∙ now_up))).1;
  switch_made = λ same down. turn_leads (λ (x : Actors). x.switch_made ≡ w.switch_made) target t u (λ links. refl) ∙ ends.switch_made same (sym up ∙ down);
  station_made = λ differs down. turn_leads (λ (x : Actors). (base_of x source).messages ≡ (base_of w source).messages) target t u (λ links. refl) ∙ ends.station_made differs (sym up ∙ down);
  broke = λ deaf. up ∙ broke_by (hears w.controller source) refl (now deaf);
  over = λ deaf. ap (of_source source) inbox ∙ over_by (hears w.controller source) refl (now deaf);
} where
  target : Option Tenure
  target = target_in w item.source item.what

  t : Turn
  t = take item w.controller

  u : Actors
  u = record w { inbox = items }

  v : Actors
  v = with_turn target t u

  up : is_up v source ≡ is_up w source
  up = (all_join source target t.outs (record u { controller = t.next })).up

  inbox : v.inbox ≡ items
  inbox = turn_leads (λ (x : Actors). x.inbox ≡ items) target t u (λ links. refl)

  ends_down : EndsWithDown source (item ∷ items)
  ends_down = subst (EndsWithDown source) pending ends.last

  now : hears v.controller source ≡ false → hears t.next source ≡ false
  now deaf = ap (λ (c : Controller). hears c source) (sym (turn_leads (λ (x : Actors). x.controller ≡ t.next) target t u (λ links. refl))) ∙ deaf

  down_by : item ≡ down_of source → (b : Bool) → is_up w source ≡ b → is_up w source ≡ false
  down_by is true was_up = absurd ((subst (NoneIsDown source) pending (ends.none_yet was_up)).0 is)
  down_by is false down = down

  broke_by : (b : Bool) → hears w.controller source ≡ b → hears t.next source ≡ false → is_up w source ≡ false
  broke_by true was deaf = down_by (learns w.controller item source was deaf) (is_up w source) refl
  broke_by false was deaf = ends.broke was

  over_by : (b : Bool) → hears w.controller source ≡ b → hears t.next source ≡ false → of_source source items ≡ []
  over_by true was deaf = ends_down.0 (learns w.controller item source was deaf)
  over_by false was deaf = of_behind source item items (ap (of_source source) (sym pending) ∙ ends.over was)

handle_ends : (source : ℕ) (w : Actors) → EndsOnce w source → EndsOnce (actors_after w Handle) source
unfolding event_after
handle_ends source w ends = by w.inbox refl where
  by : (items : List Item) → w.inbox ≡ items → EndsOnce (unwrap_or (handled items w) w) source
  by [] pending = ends
  by (item ∷ items) pending = take_ends source w item items pending ends

tick_leaves : (source : ℕ) (w : Actors) (ms : ℕ) → Leaves source w (actors_after w (Tick ms))
unfolding event_after
tick_leaves source w ms =
    let t : Turn = tick ms w.controller in record {
      up = (all_join source None t.outs (record w { controller = t.next })).up;
      hearing = ap (λ (c : Controller). hears c source) (turn_leads (λ (x : Actors). x.controller ≡ t.next) None t w (λ links. refl)) ∙ ap (λ (ls : List Bool). is_link_up ls source) (step_keeps_rest w.controller (steps.Tick ms)).links_are;
      more = [];
      inbox = turn_leads (λ (x : Actors). x.inbox ≡ w.inbox) None t w (λ links. refl) ∙ sym (append-nil w.inbox);
      frames = tt;
      others = λ down. refl;
      switch = λ same down empty. turn_leads (λ (x : Actors). x.switch_made ≡ w.switch_made) None t w (λ links. refl) ∙ empty;
      station = λ differs down empty. turn_leads (λ (x : Actors). (base_of x source).messages ≡ (base_of w source).messages) None t w (λ links. refl) ∙ empty;
    }

-- ---- over all events

ends_step : (source : ℕ) (w : Actors) (event : Event) → EndsOnce w source → EndsOnce (actors_after w event) source
ends_step source w (Connect number station initial accepts) ends = leaves_ends source w _ (connect_leaves source w number station initial accepts) ends
ends_step source w (BasePush other) ends = leaves_ends source w _ (push_leaves source other w ends) ends
ends_step source w (BaseDown other) ends = break_ends source other w ends
ends_step source w Handle ends = handle_ends source w ends
ends_step source w (Tick ms) ends = leaves_ends source w _ (tick_leaves source w ms) ends
ends_step source w event ends = leaves_ends source w _ (plain_leaves source w event refl) ends

ends_all : (source : ℕ) (w : Actors) (events : List Event) → EndsOnce w source → EndsOnce (actors_after_all w events) source
ends_all source w [] ends = ends
ends_all source w (event ∷ events) ends = ends_all source (actors_after w event) events (ends_step source w event ends)

new_messages : (k from : ℕ) (cells : List CellParameters) → (get_or (stations_from from cells) k no_station).base.messages ≡ []
new_messages k from [] = refl
new_messages zero from (cell ∷ cells) = refl
new_messages (suc k) from (cell ∷ cells) = new_messages k (from + 1) cells

new_links : (count link : ℕ) →
    get_or (replicate count true) link false ≡ false →
    (get_or (replicate count new_link) link broken_link).up ≡ false
new_links zero link deaf = refl
new_links (suc count) zero deaf = absurd (true≢false deaf)
new_links (suc count) (suc link) deaf = new_links count link deaf

pub links_end_once_new : (settings : Parameters) (events : List Event) → LinksEndOnce settings events
links_end_once_new settings events source = ends_all source (new_actors settings) events (record {
  last = tt;
  none_yet = λ up. tt;
  switch_made = λ same down. refl;
  station_made = λ differs down. new_messages (source - 1) 1 settings.cells;
  broke = λ deaf. new_links (length settings.cells + 1) source (sym (unwrap_or-slice_get (replicate (length settings.cells + 1) true) source false) ∙ deaf);
  over = λ deaf. refl;
})
