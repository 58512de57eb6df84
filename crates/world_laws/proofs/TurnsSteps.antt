-- SPDX-License-Identifier: MIT OR Apache-2.0
-- The orders of a step take turns: of a frame, of a link that breaks, of time.
use Rattle.world_laws.proofs.Prelude.{◌≡◌, ◌≢◌, ℕ, ◌==◌, Bool, true, false, List, [], ◌∷◌, map, Option, Some}
use Rattle.world_laws.proofs.Prelude.{None, refl, sym, ap, ◌∙◌, subst, inl, inr, AllByRecursion, cases_Bool, Channel, Place, SWITCH_LINK}
use Rattle.world_laws.proofs.Prelude.{Input, Connection, roles_of, IsCarried, Row, IsOpen, word_by, word_in, AreRising, IsOctetStep}
use Rattle.world_laws.proofs.Prelude.{own_carried, pass_valid, break_shut, timer_shut, Holds, owns_entry, IsSoundAll, life_sound}
use Rattle.world_laws.proofs.Prelude.{offer_list, request_sound, RefersBy, word_from, life_ready, IsHere, Ready, ChannelState, Step}
use Rattle.world_laws.proofs.Prelude.{Take, Word, OnChannel, request_offer, Controller, Entry, Turn, channel_state, each, entry_of}
use Rattle.world_laws.proofs.Prelude.{turn, with_down, aged, all_aged, break_of, by_fitting, expiry, on_break, on_expiry}
use Rattle.world_laws.proofs.Prelude.{on_what, row_in, step, timed, Item, What, Parameters, same_place, false≢true, row_of, IsTimer}
use Rattle.world_laws.proofs.Prelude.{IsLinkBreak, break_carried, timer_carried, own_input_holds, word_carried, IsSoundCell, word_refers, IsFrom}
use Rattle.world_laws.proofs.Prelude.{IsDue, all_found, expiry_own, own_input_tame, timed_tame, aged_ready, all_here, expiry_numbers, still_here}
use Rattle.world_laws.proofs.Prelude.{own_input_numbers, life, with_own_input, word_of, RefusesNone, OrdersTakeTurns, Spares, TakesTurns, freed_by}
use Rattle.conn_rules.specs.declared.input.Input.TheVariants as inputs
use Rattle.controller_model.specs.declared.step.Step.TheVariants.{Tick}
use Rattle.controller_model.specs.Controller.{is_up}
use Rattle.controller_model.specs.Life.{take, tick}
use Rattle.ruled_relay.specs.declared.item.What.TheVariants as whats
use Rattle.world_laws.proofs.TakingTurns.{turns_append}
use Rattle.world_laws.proofs.TurnsLife.{IsSoundEntry, TurnsFrom, WordTurns, freed_none, row_turn, same_places, known_entry, using_of, word_turns}
use Rattle.world_laws.proofs.OrderSteps.{without_same}

AreCells : Controller → Type 0
AreCells c = AllByRecursion IsSoundCell c.settings.cells

-- ---- one connection after the other

record Keeps (links : List Bool) (at : Place) (c : Controller) (t : Turn) : Type 0 where
  holds : Holds links t.next
  cells : AreCells t.next
  turns : TurnsFrom at (channel_state c at) t

each_turns : (links : List Bool) (at : Place) (f : Controller → Entry → Turn) → ((c : Controller) (e : Entry) → AreRising c.entries → AreRising (f c e).next.entries) → ((m : ℕ) (c : Controller) (e : Entry) → m ≢ e.connection.number → entry_of (f c e).next m ≡ entry_of c m) →
    ((c : Controller) (e : Entry) → (f c e).next.next_number ≡ c.next_number) → ((c : Controller) (e : Entry) → IsHere links c e → IsSoundEntry e → Holds links c → AreCells c → Keeps links at c (f c e)) →
    (c : Controller) (xs : List Entry) → AreRising xs → AllByRecursion (IsHere links c) xs → AllByRecursion IsSoundEntry xs → Holds links c → AreCells c → TurnsFrom at (channel_state c at) (each f c xs)
unfolding TurnsFrom
each_turns links at f order leaves numbers keeps c [] sorted here with_own_input holds cells = refl
each_turns links at f order leaves numbers keeps c (x ∷ xs) sorted here with_own_input holds cells =
    let one = keeps c x here.0 with_own_input.0 holds cells in
    let later = still_here links f c x xs order leaves numbers sorted.0 here.1 in
    turns_append at (channel_state c at) (channel_state (f c x).next at) (channel_state (each f (f c x).next xs).next at) (f c x).outs (each f (f c x).next xs).outs one.turns
    (each_turns links at f order leaves numbers keeps (f c x).next xs sorted.1 later with_own_input.1 one.holds one.cells)

-- one whose input is a break, or whose timer expires, doesn't remain open
Shuts : Input → Type 0
Shuts input = (s : Connection) (offer : Option Channel) (r : Row) → row_of s input offer ≡ Some r → IsOpen r.next.state → ⊥

own_input_keeps : (links : List Bool) (at : Place) (input : Input) →
    IsCarried input →
    RefersBy input →
    Shuts input →
    (c : Controller) (e : Entry) →
    IsHere links c e →
    IsSoundEntry e →
    Holds links c →
    AreCells c →
    Keeps links at c (with_own_input input c e)
unfolding TurnsFrom Shuts AreCells
own_input_keeps links at input carried refers shuts c e here known holds cells = record {
  holds = own_input_holds links c e input shuts here.rising here.there here.valid holds;
  cells = same (row_in c e.connection input);
  turns = by (row_in c e.connection input) refl;
} where
  same : (o : Option Row) → AllByRecursion IsSoundCell (by_fitting (turn [] c) e o c).next.settings.cells
  same None = cells
  same (Some r) = cells

  by : (o : Option Row) →
      row_of e.connection input (request_offer c e.connection input) ≡ o →
      TakesTurns at (channel_state c at) (by_fitting (turn [] c) e o c).outs (channel_state (by_fitting (turn [] c) e o c).next at)
  by None is = refl
  by (Some r) is =
      row_turn at c e input (request_offer c e.connection input) r known is (offer_list (request_offer c e.connection input) (request_sound c e.connection input cells)) carried refers
      (λ is_open. using_of c.channels links e.connection.number (roles_of e.connection) (owns_entry links c e here.there holds is_open))
      (λ is_open. absurd (shuts e.connection (request_offer c e.connection input) r is is_open))

-- ---- a link breaks

break_refers : (input : Input) → IsLinkBreak input → RefersBy input
break_refers inputs.SwitchDown break = tt
break_refers (inputs.StationDown station) break = tt
break_refers _ break = absurd break

all_sound_entries : (c : Controller) →
    Ready c →
    IsSoundAll c →
    (xs : List Entry) →
    AllByRecursion (λ (x : Entry). entry_of c x.connection.number ≡ Some x) xs →
    AllByRecursion IsSoundEntry xs
all_sound_entries c ready sound [] there = tt
all_sound_entries c ready sound (x ∷ xs) there = (known_entry c ready sound x.connection.number x there.0, all_sound_entries c ready sound xs there.1)

down_here : (links : List Bool) (c : Controller) (source : ℕ) (xs : List Entry) →
    AllByRecursion (IsHere links c) xs →
    AllByRecursion (IsHere links (with_down source c)) xs
down_here links c source [] here = tt
down_here links c source (x ∷ xs) here = (
  record { rising = here.0.rising; there = here.0.there; valid = here.0.valid; from_one = here.0.from_one; below = here.0.below; linked = here.0.linked },
  down_here links c source xs here.1,
)

break_turns : (source : ℕ) (at : Place) (c : Controller) →
    Ready c →
    IsSoundAll c →
    at.station ≢ source →
    TurnsFrom at (channel_state c at) (on_break source c)
unfolding TurnsFrom Shuts AreCells
break_turns source at c ready sound other =
    let down : Controller = with_down source c in
    let f : Controller → Entry → Turn = with_own_input (break_of source) in
    let tame = own_input_tame 1 1 true (break_of source) in
    let there = all_found c.entries ready.numbered.rising in
    let last : Turn = each f down c.entries in
    subst (λ (after : ChannelState). TakesTurns at (channel_state c at) last.outs after) (sym (without_same (source == SWITCH_LINK) source last.next at other))
    (each_turns c.links at f tame.rising tame.leaves (own_input_numbers (break_of source))
    (own_input_keeps c.links at (break_of source) (break_carried (break_of source) (own_carried source)) (break_refers (break_of source) (own_carried source)) (break_shut (break_of source) (own_carried source)))
    down c.entries ready.numbered.rising (down_here c.links c source c.entries (all_here c c.entries ready there)) (all_sound_entries c ready sound c.entries there) (record { shaped = ready.holds.shaped; each = ready.holds.each }) sound.cells)

-- ---- time passes

timer_refers : (input : Input) → IsTimer input → RefersBy input
timer_refers inputs.Expiry timer = tt
timer_refers inputs.DrainExpiry timer = tt
timer_refers _ timer = absurd timer

expiry_keeps : (links : List Bool) (at : Place) (o : Option Input) →
    IsDue o →
    (c : Controller) (e : Entry) →
    IsHere links c e →
    IsSoundEntry e →
    Holds links c →
    AreCells c →
    Keeps links at c (on_expiry o c e)
unfolding TurnsFrom Shuts
expiry_keeps links at None due c e here known holds cells = record { holds = holds; cells = cells; turns = refl }
expiry_keeps links at (Some input) due c e here known holds cells = own_input_keeps links at input (timer_carried input due) (timer_refers input due) (timer_shut input due) c e here known holds cells

aged_sound_entries : (ms : ℕ) (xs : List Entry) → AllByRecursion IsSoundEntry xs → AllByRecursion IsSoundEntry (map (aged ms) xs)
aged_sound_entries ms [] all = tt
aged_sound_entries ms (x ∷ xs) all = (
  record { valid = pass_valid ms x.connection all.0.valid; parts = record { serving = all.0.parts.serving; targets = all.0.parts.targets; refers = all.0.parts.refers }; few = all.0.few },
  aged_sound_entries ms xs all.1,
)

tick_turns : (ms : ℕ) (at : Place) (c : Controller) → Ready c → IsSoundAll c → TurnsFrom at (channel_state c at) (tick ms c)
unfolding tick AreCells
tick_turns ms at c ready sound =
    let old : Controller = all_aged ms c in
    let tame = timed_tame 1 1 true in
    let now : Ready old = aged_ready ms c ready in
    each_turns c.links at timed tame.rising tame.leaves (λ d e. expiry_numbers (expiry d.settings.timers e.connection) d e)
    (λ d e here known holds cells. expiry_keeps c.links at (expiry d.settings.timers e.connection) (expiry_own _ _) d e here known holds cells)
    old old.entries now.numbered.rising (all_here old old.entries now (all_found old.entries now.numbered.rising)) (aged_sound_entries ms c.entries (all_sound_entries c ready sound c.entries (all_found c.entries ready.numbered.rising))) now.holds sound.cells

-- ---- a step

-- what arrives from another station frees nothing here
other_frees : (at : Place) (source : ℕ) (word : Word) (state : ChannelState) →
    IsFrom source word →
    (at.station ≡ source → ⊥) →
    freed_by at word state ≡ state
other_frees at source (OnChannel place input) state from other =
    freed_none at place input state (λ n releasing. elim (cases_Bool (same_place place at)) [
      | inl hit ↦ absurd (other (sym (ap (λ (p : Place). p.station) (same_places place at hit)) ∙ from.0))
      | inr miss ↦ miss
    ])
other_frees at source _ state from other = refl

take_turns : (up : Bool) (item : Item) (what : What) (at : Place) (c : Controller) → is_up c item.source ≡ up → is_up c at.station ≡ true → Ready c → IsSoundAll c → IsOctetStep (Take (record { source = item.source; what = what })) → RefusesNone (word_by item.source what) → (what ≡ whats.Down → at.station ≢ item.source)
    → TurnsFrom at (freed_by at (word_by item.source what) (channel_state c at)) (on_what up item.source what c)
unfolding TurnsFrom WordTurns
take_turns true item (whats.Frame frame) at c link up ready sound octets none spares =
    word_turns c ready sound at item.source (word_of item.source frame) (word_carried item.source frame) (word_refers item.source frame octets) none
take_turns true item whats.Down at c link up ready sound octets none spares = break_turns item.source at c ready sound (spares refl)
take_turns false item (whats.Frame frame) at c link up ready sound octets none spares =
    sym (other_frees at item.source (word_of item.source frame) (channel_state c at) (word_from item.source frame) (λ same. false≢true (sym link ∙ ap (is_up c) (sym same) ∙ up)))
take_turns false item whats.Down at c link up ready sound octets none spares = refl

pub step_turns : (s : Step) (at : Place) (c : Controller) →
    is_up c at.station ≡ true →
    Ready c →
    IsSoundAll c →
    IsOctetStep s →
    RefusesNone (word_in s) →
    Spares at s →
    TurnsFrom at (freed_by at (word_in s) (channel_state c at)) (step c s)
unfolding take
step_turns (Take item) at c up ready sound octets none spares = take_turns (is_up c item.source) item item.what at c refl up ready sound octets none spares
step_turns (Tick ms) at c up ready sound octets none spares = tick_turns ms at c ready sound

pub orders_take_turns_new : (p : Parameters) (steps : List Step) (s : Step) → OrdersTakeTurns p steps s
unfolding TurnsFrom
orders_take_turns_new p steps s at allowed octets own none up spares = step_turns s at (life p steps).next up (life_ready p steps allowed) (life_sound p steps allowed octets) own none spares
