-- SPDX-License-Identifier: MIT OR Apache-2.0
-- The items that a link of a world gives to the controller: frames while it is up, then its end,
-- and nothing after that.
use Rattle.std.proofs.Common.{◌≡◌, ◌≢◌, ℕ, zero, suc, ◌+◌, ◌≤◌, ◌<◌, ◌==◌, nat_eq, Bool, true, false, cond, if◌then◌else◌, List, [], ◌∷◌, ◌++◌, filter, map, length, get_or, replicate, option_to_list, refl, sym, ap, ◌∙◌, subst, inl, inr, arith, append-nil, append_assoc}
use Rattle.std.proofs.lemmas.Bool.{cases_Bool, eqb-true, eqb-false, true≢false}
use Rattle.std.proofs.lemmas.List.{map-append}
use Rattle.std.proofs.lemmas.List.Elements.{filter-append}
use Rattle.std.specs.List.{AllByRecursion}
use Rattle.bssmap_codec.specs.declared.sccp.Sccp.{Sccp}
use Rattle.conn_messages.specs.declared.parameters.TheConstants.{SWITCH_LINK}
use Rattle.conn_rules.proofs.DownlinkMessages.{AllByRecursion-append}
use Rattle.controller_worker.specs.Steps.{whats_of}
use Rattle.ipa_framing.specs.declared.frame.Frame.{Frame}
use Rattle.ipa_framing.specs.Frame.{IsFrame}
use Rattle.link_model.specs.Base.{first_message, first_of_messages}
use Rattle.link_workers.specs.Reading.{given}
use Rattle.rsl_codec.specs.declared.rsl.Rsl.{Rsl}
use Rattle.ruled_relay.specs.declared.item.Item.{Item}
use Rattle.ruled_relay.specs.declared.item.What.{What}
use Rattle.ruled_relay.specs.declared.item.What.TheVariants as whats
use Rattle.settings.specs.Parameters.{Parameters}
use Rattle.station_io.specs.Octets.{ended_behind}
use Rattle.world_laws.specs.Owners.LinkEnds.{EndsOnce}
use Rattle.world_laws.proofs.Events.{snoc_actors, world}
use Rattle.world_laws.proofs.Owners.LinkEnds.{links_end_once_new}
use Rattle.world_model.specs.declared.event.Event.{Event}
use Rattle.world_model.specs.declared.event.Event.TheVariants.{BaseDown, BasePush}
use Rattle.world_model.specs.Life.{actors_after, actors_after_all}
use Rattle.world_model.specs.Queues.{all_pushed, first_of, made_item, pushed}
use Rattle.world_model.specs.Relay.{station_item, switch_item}
use Rattle.world_model.specs.World.{Actors, base_of, broken_link, is_up, new_actors, new_link}
use Rattle.world_model.proofs.Heard.{Good, end_of, good_all, good_new}
use Rattle.world_model.proofs.Soundness.{IsSound}
use Rattle.relay_order.proofs.ConverseEnds.{broken_else, broken_now, up_same}
use Rattle.relay_order.proofs.ConverseMade.{MakesFrames, frames_all}
use Rattle.relay_order.proofs.ConverseSizes.{FitsFrame, frame_of_rsl, frame_of_sccp, rsl_fits}

-- ---- frames of a source

abbrev pub item_from : ℕ → Frame → Item
item_from source frame = record { source = source; what = whats.Frame frame }

abbrev pub items_from : ℕ → List Frame → List Item
items_from source [] = []
items_from source (frame ∷ frames) = item_from source frame ∷ items_from source frames

abbrev pub down_from : ℕ → Item
down_from source = record { source = source; what = whats.Down }

whats_first : (n : ℕ) (item : Item) (items : List Item) →
    (item.source == n) ≡ true →
    whats_of n (item ∷ items) ≡ item.what ∷ whats_of n items
whats_first n item items is =
    ap (λ (b : Bool). map (λ (i : Item). i.what) (cond b (item ∷ filter (λ i. i.source == n) items) (filter (λ i. i.source == n) items))) is

whats_others : (n : ℕ) (item : Item) (items : List Item) → (item.source == n) ≡ false → whats_of n (item ∷ items) ≡ whats_of n items
whats_others n item items is =
    ap (λ (b : Bool). map (λ (i : Item). i.what) (cond b (item ∷ filter (λ i. i.source == n) items) (filter (λ i. i.source == n) items))) is

from_this : (n source : ℕ) (frames : List Frame) → (source == n) ≡ true → whats_of n (items_from source frames) ≡ given frames
from_this n source [] is = refl
from_this n source (frame ∷ frames) is =
    whats_first n (item_from source frame) (items_from source frames) is ∙ ap (λ (ws : List What). whats.Frame frame ∷ ws) (from_this n source frames is)

from_others : (n source : ℕ) (frames : List Frame) → (source == n) ≡ false → whats_of n (items_from source frames) ≡ []
from_others n source [] is = refl
from_others n source (frame ∷ frames) is =
    whats_others n (item_from source frame) (items_from source frames) is ∙ from_others n source frames is

whats_append : (n : ℕ) (xs ys : List Item) → whats_of n (xs ++ ys) ≡ whats_of n xs ++ whats_of n ys
whats_append n xs ys =
    ap (map (λ (i : Item). i.what)) (filter-append (λ i. i.source == n) xs ys)
    ∙ map-append (λ (i : Item). i.what) (filter (λ i. i.source == n) xs) (filter (λ i. i.source == n) ys)

-- ---- what an event gives of a link

-- frames, which are none where the link is down, and the link is up or down as before; or the link
-- breaks, and its end is given
data Gives (n : ℕ) (w : Actors) (event : Event) (v : Actors) : Type 0 where
  frames : (fs : List Frame) →
      is_up v n ≡ is_up w n →
      whats_of n (pushed w event) ≡ given fs →
      AllByRecursion IsFrame fs →
      (is_up w n ≡ false → fs ≡ []) →
      Gives n w event v
  breaks : is_up w n ≡ true → is_up v n ≡ false → whats_of n (pushed w event) ≡ whats.Down ∷ [] → Gives n w event v

-- what a source made first: a frame that fits, or nothing, and nothing where the link is down
record Makes (n source : ℕ) (w : Actors) (items : List Item) : Type 0 where
  fs : List Frame
  are : items ≡ items_from source fs
  fit : AllByRecursion IsFrame fs
  none : source ≡ n → is_up w n ≡ false → fs ≡ []

switch_makes : (n source : ℕ) (w : Actors) →
    EndsOnce w n →
    MakesFrames w →
    source ≡ SWITCH_LINK →
    Makes n source w (map switch_item (first_of w.switch_made))
switch_makes n source w ends makes is = by w.switch_made refl makes where
  by : (made : List Sccp) → w.switch_made ≡ made → AllByRecursion FitsFrame made → Makes n source w (map switch_item (first_of made))
  by [] made_is all = record { fs = []; are = refl; fit = tt; none = λ same down. refl }
  by (first ∷ others) made_is all = record {
    fs = frame_of_sccp first ∷ [];
    are = ap (λ (k : ℕ). item_from k (frame_of_sccp first) ∷ []) (sym is);
    fit = (all.0, tt);
    none = λ same down. absurd (let empty : first ∷ others ≡ [] = sym made_is ∙ ends.switch_made (sym same ∙ is) down in cc);
  }

station_makes : (n source : ℕ) (w : Actors) →
    EndsOnce w n →
    Good w →
    source ≢ SWITCH_LINK →
    Makes n source w (map (station_item source) (option_to_list (first_message (base_of w source))))
station_makes n source w ends good is = by (base_of w source).messages refl (end_of w source good).made where
  by : (made : List Rsl) →
      (base_of w source).messages ≡ made →
      AllByRecursion IsSound made →
      Makes n source w (map (station_item source) (option_to_list (first_of_messages made)))
  by [] made_is all = record { fs = []; are = refl; fit = tt; none = λ same down. refl }
  by (first ∷ others) made_is all = record {
    fs = frame_of_rsl first ∷ [];
    are = refl;
    fit = (rsl_fits first all.0.written, tt);
    none = λ same down. absurd (
        let none_left : (base_of w source).messages ≡ [] = subst (λ (k : ℕ). (base_of w k).messages ≡ []) (sym same) (ends.station_made (λ switch. is (same ∙ switch)) down) in
        let empty : first ∷ others ≡ [] = sym made_is ∙ none_left in cc);
  }

makes_first : (n source : ℕ) (w : Actors) → EndsOnce w n → Good w → MakesFrames w → Makes n source w (made_item w source)
makes_first n source w ends good makes = by (nat_eq source SWITCH_LINK) refl where
  by : (b : Bool) →
      nat_eq source SWITCH_LINK ≡ b →
      Makes n source w (if b then map switch_item (first_of w.switch_made) else map (station_item source) (option_to_list (first_message (base_of w source))))
  by true is = switch_makes n source w ends makes (eqb-true source SWITCH_LINK is)
  by false is = station_makes n source w ends good (eqb-false source SWITCH_LINK is)

push_gives : (n source : ℕ) (w : Actors) →
    EndsOnce w n →
    Good w →
    MakesFrames w →
    Gives n w (BasePush source) (actors_after w (BasePush source))
push_gives n source w ends good makes =
    let made : Makes n source w (made_item w source) = makes_first n source w ends good makes in
    elim (cases_Bool (nat_eq source n)) [
      | inl same ↦ frames made.fs (up_same n w (BasePush source) refl) (ap (whats_of n) made.are ∙ from_this n source made.fs same) made.fit (made.none (eqb-true source n same))
      | inr other ↦ frames [] (up_same n w (BasePush source) refl) (ap (whats_of n) made.are ∙ from_others n source made.fs other) tt (λ down. refl)
    ]

break_gives : (n source : ℕ) (w : Actors) → Gives n w (BaseDown source) (actors_after w (BaseDown source))
break_gives n source w = elim (cases_Bool (nat_eq source n)) [
  | inl same ↦ own same (is_up w source) refl
  | inr other ↦ frames [] (broken_else n source w other) (others other (is_up w source)) tt (λ down. refl)
] where
  now : nat_eq source n ≡ true → is_up (actors_after w (BaseDown source)) n ≡ false
  now same = subst (λ (k : ℕ). is_up (actors_after w (BaseDown k)) n ≡ false) (sym (eqb-true source n same)) (broken_now n w)

  own : nat_eq source n ≡ true → (b : Bool) → is_up w source ≡ b → Gives n w (BaseDown source) (actors_after w (BaseDown source))
  own same true up =
      breaks (subst (λ (k : ℕ). is_up w k ≡ true) (eqb-true source n same) up) (now same)
      (ap (λ (b : Bool). whats_of n (if b then down_from source ∷ [] else [])) up ∙ whats_first n (down_from source) [] same)
  own same false down =
      frames [] (now same ∙ sym (subst (λ (k : ℕ). is_up w k ≡ false) (eqb-true source n same) down))
      (ap (λ (b : Bool). whats_of n (if b then down_from source ∷ [] else [])) down) tt (λ was. refl)

  others : nat_eq source n ≡ false → (b : Bool) → whats_of n (if b then down_from source ∷ [] else []) ≡ []
  others other true = whats_others n (down_from source) [] other
  others other false = refl

gives : (n : ℕ) (w : Actors) (event : Event) → EndsOnce w n → Good w → MakesFrames w → Gives n w event (actors_after w event)
gives n w (BasePush source) ends good makes = push_gives n source w ends good makes
gives n w (BaseDown source) ends good makes = break_gives n source w
gives n w event ends good makes = frames [] (up_same n w event refl) refl tt (λ down. refl)

-- ---- what a link gave so far

-- a link that was there gave frames, and its end behind them once it is down
pub data Gave (n : ℕ) (w : Actors) (items : List Item) : Type 0 where
  still : (fs : List Frame) → is_up w n ≡ true → whats_of n items ≡ given fs → AllByRecursion IsFrame fs → Gave n w items
  over : (fs : List Frame) → is_up w n ≡ false → whats_of n items ≡ ended_behind fs → AllByRecursion IsFrame fs → Gave n w items

gave_then : {n : ℕ} {w v : Actors} {event : Event} (items : List Item) →
    Gave n w items →
    Gives n w event v →
    Gave n v (items ++ pushed w event)
gave_then {n} {w} {v} {event} items (still fs up is fit) (frames gs same gives_is each none) =
    still (fs ++ gs) (same ∙ up)
    (whats_append n items (pushed w event) ∙ ap (λ (ws : List What). ws ++ whats_of n (pushed w event)) is ∙ ap (λ (ws : List What). given fs ++ ws) gives_is ∙ sym (map-append whats.Frame fs gs))
    (AllByRecursion-append IsFrame fs gs fit each)
gave_then {n} {w} {v} {event} items (still fs up is fit) (breaks was down gives_is) =
    over fs down (whats_append n items (pushed w event) ∙ ap (λ (ws : List What). ws ++ whats_of n (pushed w event)) is ∙ ap (λ (ws : List What). given fs ++ ws) gives_is) fit
gave_then {n} {w} {v} {event} items (over fs down is fit) (frames gs same gives_is each none) =
    over fs (same ∙ down)
    (whats_append n items (pushed w event) ∙ ap (λ (ws : List What). ws ++ whats_of n (pushed w event)) is
    ∙ ap (λ (ws : List What). ended_behind fs ++ ws) (gives_is ∙ ap given (none down)) ∙ append-nil (ended_behind fs)) fit
gave_then items (over fs down is fit) (breaks was now gives_is) = absurd (true≢false (sym was ∙ down))

-- a link that isn't there gave nothing
pub record GaveNothing (n : ℕ) (w : Actors) (items : List Item) : Type 0 where
  pub down : is_up w n ≡ false
  pub none : whats_of n items ≡ []

nothing_then : {n : ℕ} {w v : Actors} {event : Event} (items : List Item) →
    GaveNothing n w items →
    Gives n w event v →
    GaveNothing n v (items ++ pushed w event)
nothing_then {n} {w} {v} {event} items gave (frames gs same gives_is each none) = record {
  down = same ∙ gave.down;
  none = whats_append n items (pushed w event) ∙ ap (λ (ws : List What). ws ++ whats_of n (pushed w event)) gave.none ∙ gives_is ∙ ap given (none gave.down);
}
nothing_then items gave (breaks was now gives_is) = absurd (true≢false (sym was ∙ gave.down))

-- ---- over all events

-- as in crates/world_laws/proofs/Order/OctetRun.antt
append_pushed : (w : Actors) (events : List Event) (event : Event) →
    all_pushed w (events ++ event ∷ []) ≡ all_pushed w events ++ pushed (actors_after_all w events) event
append_pushed w [] event = append-nil (pushed w event)
append_pushed w (x ∷ xs) event =
    ap (λ (items : List Item). pushed w x ++ items) (append_pushed (actors_after w x) xs event)
    ∙ sym (append_assoc (pushed w x) (all_pushed (actors_after w x) xs) (pushed (actors_after_all (actors_after w x) xs) event))

module _ (settings : Parameters) (n : ℕ) (P : Actors → List Item → Type 0) (step : (w v : Actors) (event : Event) (items : List Item) → P w items → Gives n w event v → P v (items ++ pushed w event)) where
  abbrev Holds : List Event → Type 0
  Holds events = P (world settings events) (all_pushed (new_actors settings) events)

  holds_then : (done : List Event) (event : Event) → Holds done → Holds (done ++ event ∷ [])
  holds_then done event holds =
      let w : Actors = world settings done in
      let gives_then : Gives n w event (actors_after w event) = gives n w event (links_end_once_new settings done n) (good_all (new_actors settings) done (good_new settings)) (frames_all (new_actors settings) done tt) in
      subst (λ (v : Actors). P v (all_pushed (new_actors settings) (done ++ event ∷ []))) (sym (snoc_actors (new_actors settings) done event))
      (subst (λ (items : List Item). P (actors_after w event) items) (sym (append_pushed (new_actors settings) done event))
      (step w (actors_after w event) event (all_pushed (new_actors settings) done) holds gives_then))

  holds_through : (done rest : List Event) → Holds done → Holds (done ++ rest)
  holds_through done [] holds = subst Holds (sym (append-nil done)) holds
  holds_through done (event ∷ rest) holds = subst Holds (append_assoc done (event ∷ []) rest) (holds_through (done ++ event ∷ []) rest (holds_then done event holds))

new_up : (count n : ℕ) → n < count → (get_or (replicate count new_link) n broken_link).up ≡ true
new_up zero n below = absurd (omega arith)
new_up (suc count) zero below = refl
new_up (suc count) (suc n) below = new_up count n (omega arith)

new_down : (count n : ℕ) → count ≤ n → (get_or (replicate count new_link) n broken_link).up ≡ false
new_down zero n over_all = refl
new_down (suc count) zero over_all = absurd (omega arith)
new_down (suc count) (suc n) over_all = new_down count n (omega arith)

pub gave_all : (settings : Parameters) (events : List Event) (n : ℕ) →
    n < length settings.cells + 1 →
    Gave n (world settings events) (all_pushed (new_actors settings) events)
gave_all settings events n below = holds_through settings n (Gave n) (λ w v event items. gave_then items) [] events (still [] (new_up (length settings.cells + 1) n below) refl tt)

pub nothing_all : (settings : Parameters) (events : List Event) (n : ℕ) →
    length settings.cells + 1 ≤ n →
    GaveNothing n (world settings events) (all_pushed (new_actors settings) events)
nothing_all settings events n above = holds_through settings n (GaveNothing n) (λ w v event items. nothing_then items) [] events (record { down = new_down (length settings.cells + 1) n above; none = refl })
