-- SPDX-License-Identifier: MIT OR Apache-2.0
-- The channels in use after each step, and where its messages go; so in every life.
use Rattle.controller_model.proofs.Prelude.{◌≡◌, ◌≢◌, ◌⊎◌, ℕ, zero, suc, ◌+◌, ◌==◌, ◌≤◌, ◌<◌, ◌&&◌, Bool, true, false, not, if◌then◌else◌}
use Rattle.controller_model.proofs.Prelude.{List, [], ◌∷◌, length, replicate, set, slice_index_or, Contains, Option, Some, None, option_map}
use Rattle.controller_model.proofs.Prelude.{Result, Ok, refl, sym, subst, ap, ◌∙◌, inl, inr, arith, true≢false, cases_Bool, eqb-true}
use Rattle.controller_model.proofs.Prelude.{eq-eqb, get_or-set_other, AllByRecursion, Bssap, Management, Bssmap, InterfaceFault}
use Rattle.controller_model.proofs.Prelude.{Sccp, Channel, Place, Out, SWITCH_LINK, AllByRecursion-append, Input, State, Closed, Removed}
use Rattle.controller_model.proofs.Prelude.{Connection, Roles, channels_in, channels_in_use, roles_of, target_channels, IsValid, Row, IsOpen}
use Rattle.controller_model.proofs.Prelude.{Frame, CCM_STREAM, PING, RSL_STREAM, SCCP_STREAM, What, AreAllowed, Parameters}
use Rattle.controller_model.proofs.Prelude.{unwrap_or-slice_get, bssap_reading, sccp_reading, IsTimer, connection_of, AreRising, IsAbove}
use Rattle.controller_model.proofs.Prelude.{OwnsOpen, is_link_up, PutsOnUpLinks, AreUsed, used_places, ChannelState, Free, InUse, Releasing}
use Rattle.controller_model.proofs.Prelude.{CHANNEL_NUMBERS, Step, Take, Tick, Word, Nothing, Ping, Asks, request_offer, Controller, Entry}
use Rattle.controller_model.proofs.Prelude.{Turn, turn, each, entry_of, free_channels, freed_station, is_up, new_controller, place_of}
use Rattle.controller_model.proofs.Prelude.{state_in, with_down, aged, all_aged, break_of, by_fitting, expiry, on_break, expires, on_what}
use Rattle.controller_model.proofs.Prelude.{row_in, step, timed, with_own_input, Carried, body_word, bssap_word, carried, management_of_link}
use Rattle.controller_model.proofs.Prelude.{management_word, switch_word, radio_signalling, connection_control, link_management, other}
use Rattle.bssmap_codec.specs.declared.bssmap.Bssmap.TheVariants as bssmap
use Rattle.bssmap_codec.specs.declared.sccp.Sccp.TheVariants as sccp
use Rattle.conn_rules.specs.declared.input.Input.TheVariants as inputs
use Rattle.controller_model.proofs.LifeLaws.Beside.{links_with, other_link, step_keeps_rest}
use Rattle.controller_model.proofs.LifeLaws.Entries.{find_above}
use Rattle.controller_model.proofs.LifeLaws.Fitting.{Fits, IsLinkBreak, new_fits, own_carried, pass_valid, step_fits}
use Rattle.controller_model.proofs.LifeLaws.OwningLife.{AllFine, aged_owns, break_shut, fine_at, fine_valid, new_holds, step_holds, timer_shut, own_input_holds}
use Rattle.controller_model.proofs.LifeLaws.OwningWords.{AllValid, Holds, changes_of}
use Rattle.controller_model.proofs.LifeLaws.Sources.{word_from}
use Rattle.controller_model.proofs.LifeLaws.Turns.{IsDue, aged_numbered, all_found, all_two, expiry_own, own_input_tame, timed_tame}
use Rattle.controller_model.proofs.LifeLaws.UsingChanges.{break_keeps_uses, row_keeps_uses, still_alive}
use Rattle.controller_model.proofs.LifeLaws.UsingRows.{IsAlive, Uses, all_contained, alive_or, contains_none, mapped}
use Rattle.controller_model.proofs.LifeLaws.UsingWords.{IsAskedOf, IsHere, IsNoBreak, IsNoNack, Ready, Sends, fitting_sends, here_of, ignoring_sends, no_break_of, no_nack_of, own_alive, word_sends}
use Rattle.controller_model.proofs.LifeLaws.Places.{free≢use, use_other}
use Rattle.controller_model.proofs.Others.{all_age}
use Rattle.controller_model.specs.Life.{life, take, tick}
use Rattle.controller_model.specs.Reading.{word_of}
use Rattle.ruled_relay.specs.declared.item.What.TheVariants as whats
use Rattle.controller_model.proofs.LifeLaws.Switched.{linked_true}

abbrev States : Type 0
States = List (List ChannelState)

-- ---- CHANNEL REQUIRED is from a station

all_asked : (source : ℕ) (word : Word) → source ≢ SWITCH_LINK → IsAskedOf source word
all_asked source (Asks request delay) station = station
all_asked source _ station = tt

management_asks : (source number : ℕ) (m : Bssmap) → IsAskedOf source (management_word number m)
management_asks source number (bssmap.AssignmentRequest channel_type) = tt
management_asks source number _ = tt

bssap_asks : (source number : ℕ) (r : Result Bssap InterfaceFault) → IsAskedOf source (bssap_word number r)
bssap_asks source number (Ok (Management m)) = management_asks source number m
bssap_asks source number _ = tt

switch_asks : (source : ℕ) (r : Result Sccp InterfaceFault) → IsAskedOf source (switch_word r)
switch_asks source (Ok (sccp.DataForm1 destination user)) = bssap_asks source destination (bssap_reading user)
switch_asks source _ = tt

link_asks : (source : ℕ) (body : List ℕ) → IsAskedOf source (management_of_link body)
link_asks source [] = tt
link_asks source (first ∷ rest) = by (first == PING)
  where
    by : (b : Bool) → IsAskedOf source (if b then Ping else Nothing)
    by true = tt
    by false = tt

body_asks : (what : Carried) (source : ℕ) (body : List ℕ) →
    (what ≡ radio_signalling → source ≢ SWITCH_LINK) →
    IsAskedOf source (body_word what source body)
body_asks radio_signalling source body is = all_asked source (body_word radio_signalling source body) (is refl)
body_asks connection_control source body is = switch_asks source (sccp_reading body)
body_asks link_management source body is = link_asks source body
body_asks other source body is = tt

pub radio_of : (a b c d : Bool) →
    (if a then link_management else if b then connection_control else if not c && d then radio_signalling else other) ≡ radio_signalling →
    c ≡ false
radio_of false false false d is = refl
radio_of _ _ _ d is = absurd cc

pub word_asked : (source : ℕ) (frame : Frame) → IsAskedOf source (word_of source frame)
unfolding word_of
word_asked source frame = body_asks (carried source frame.stream) source frame.body
    (λ is same. true≢false (sym (eq-eqb source SWITCH_LINK same)
    ∙ radio_of (frame.stream == CCM_STREAM) ((source == SWITCH_LINK) && (frame.stream == SCCP_STREAM)) (source == SWITCH_LINK) (frame.stream == RSL_STREAM) is))

-- ---- one connection after the other

pub own_input_numbers : (input : Input) (c : Controller) (e : Entry) → (with_own_input input c e).next.next_number ≡ c.next_number
own_input_numbers input c e = by (row_in c e.connection input)
  where
    by : (o : Option Row) → (by_fitting (turn [] c) e o c).next.next_number ≡ c.next_number
    by None = refl
    by (Some r) = refl

pub expiry_numbers : (o : Option Input) (c : Controller) (e : Entry) → (expires o c e).next.next_number ≡ c.next_number
expiry_numbers None c e = refl
expiry_numbers (Some input) c e = own_input_numbers input c e

-- the later ones are still there after a step of the first
pub still_here : (links : List Bool) (f : Controller → Entry → Turn) (c : Controller) (x : Entry) (xs : List Entry) →
    ((c : Controller) (e : Entry) → AreRising c.entries → AreRising (f c e).next.entries) → ((m : ℕ) (c : Controller) (e : Entry) → m ≢ e.connection.number → entry_of (f c e).next m ≡ entry_of c m) →
    ((c : Controller) (e : Entry) → (f c e).next.next_number ≡ c.next_number) →
    AllByRecursion (IsAbove x.connection.number) xs → AllByRecursion (IsHere links c) xs → AllByRecursion (IsHere links (f c x).next) xs
still_here links f c x xs order leaves numbers = all_two (IsAbove x.connection.number) (IsHere links c) (IsHere links (f c x).next) xs
    (λ y above is. record {
      rising = order c x is.rising;
      there = leaves y.connection.number c x (λ same. absurd (omega arith)) ∙ is.there;
      valid = is.valid;
      from_one = is.from_one;
      below = subst (λ (k : ℕ). y.connection.number < k) (sym (numbers c x)) is.below;
      linked = is.linked;
    })

each_sends : (old new : List Bool) (f : Controller → Entry → Turn) → ((c : Controller) (e : Entry) → AreRising c.entries → AreRising (f c e).next.entries) → ((m : ℕ) (c : Controller) (e : Entry) → m ≢ e.connection.number → entry_of (f c e).next m ≡ entry_of c m) →
    ((c : Controller) (e : Entry) → (f c e).next.next_number ≡ c.next_number) → ((c : Controller) (e : Entry) → IsHere old c e → Holds old c → Uses old new c → Holds old (f c e).next × Sends old new (f c e)) →
    (c : Controller) (xs : List Entry) → AreRising xs → AllByRecursion (IsHere old c) xs → Holds old c → Uses old new c → Holds old (each f c xs).next × Sends old new (each f c xs)
each_sends old new f order leaves numbers keeps c [] sorted here holds uses = (holds, record { uses = uses; outs = tt })
each_sends old new f order leaves numbers keeps c (x ∷ xs) sorted here holds uses =
    let one = keeps c x here.0 holds uses in
    let later = still_here old f c x xs order leaves numbers sorted.0 here.1 in
    let rest = each_sends old new f order leaves numbers keeps (f c x).next xs sorted.1 later one.0 one.1.uses in
    (rest.0, record { uses = rest.1.uses; outs = AllByRecursion-append (λ (out : Out). is_link_up new out.to ≡ true) (f c x).outs (each f (f c x).next xs).outs one.1.outs rest.1.outs })

pub all_here : (c : Controller) (xs : List Entry) →
    Ready c →
    AllByRecursion (λ (x : Entry). entry_of c x.connection.number ≡ Some x) xs →
    AllByRecursion (IsHere c.links c) xs
all_here c [] ready there = tt
all_here c (x ∷ xs) ready there = (here_of c x.connection.number x ready there.0, all_here c xs ready there.1)

-- ---- a break

pub down_at : (links : List Bool) (source : ℕ) → slice_index_or (set links source false) source false ≡ false
down_at [] source = refl
down_at (up ∷ links) zero = refl
down_at (up ∷ links) (suc source) = down_at links source

pub down_link : (links : List Bool) (source : ℕ) → is_link_up (set links source false) source ≡ false
down_link links source = unwrap_or-slice_get (set links source false) source false ∙ down_at links source

was_up : (links : List Bool) (source link : ℕ) → is_link_up (set links source false) link ≡ true → is_link_up links link ≡ true
was_up links source link up = elim (cases_Bool (link == source)) [
  | inl same ↦ absurd (true≢false (sym up ∙ subst (λ (k : ℕ). is_link_up (set links source false) k ≡ false) (sym (eqb-true link source same)) (down_link links source)))
  | inr differ ↦ sym (other_link links source link (λ same. true≢false (sym (eq-eqb link source same) ∙ differ))) ∙ up
]

break_station : (source station : ℕ) → break_of source ≡ inputs.StationDown station → station ≡ source
break_station source station is = by (source == SWITCH_LINK) is
  where
    by : (b : Bool) → (if b then inputs.SwitchDown else inputs.StationDown source) ≡ inputs.StationDown station → station ≡ source
    by true is = absurd cc
    by false is = cc

break_no_nack : (input : Input) → IsLinkBreak input → IsNoNack input
unfolding IsNoNack
break_no_nack inputs.SwitchDown break = tt
break_no_nack (inputs.StationDown station) break = tt
break_no_nack _ break = absurd break

own_input_sends : (links : List Bool) (source : ℕ) (c : Controller) (e : Entry) →
    IsHere links c e →
    Holds links c →
    Uses links (set links source false) c →
    Holds links (with_own_input (break_of source) c e).next × Sends links (set links source false) (with_own_input (break_of source) c e)
own_input_sends links source c e here holds uses =
    let new : List Bool = set links source false in
    let offer : Option Channel = request_offer c e.connection (break_of source) in (
      own_input_holds links c e (break_of source) (break_shut (break_of source) (own_carried source)) here.rising here.there here.valid holds,
      fitting_sends links new (was_up links source) c (turn [] c) e (break_of source) offer (row_in c e.connection (break_of source)) refl here.rising here.there here.from_one here.below
          (λ r is.
          let changes = changes_of e.connection (break_of source) offer r here.valid is in
          record {
            changes = changes;
            upward = break_keeps_uses links source e.connection offer r is changes here.linked (own_alive links new c e here.there holds uses);
            broken = λ station same. subst (λ (k : ℕ). is_link_up new k ≡ false) (sym (break_station source station same)) (down_link links source);
            freed = no_nack_of c.channels (break_of source) (break_no_nack (break_of source) (own_carried source));
          })
          uses (record { uses = uses; outs = tt }),
    )

pub free_at : (n k : ℕ) → slice_index_or (replicate n Free) k Free ≡ Free
free_at zero k = refl
free_at (suc n) zero = refl
free_at (suc n) (suc k) = free_at n k

station_free : (channels : States) (station number : ℕ) →
    slice_index_or (slice_index_or (set channels station free_channels) station []) number Free ≡ Free
station_free [] station number = refl
station_free (row ∷ channels) zero number = free_at CHANNEL_NUMBERS number
station_free (row ∷ channels) (suc station) number = station_free channels station number

pub station_else : (channels : States) (source : ℕ) (at : Place) →
    at.station ≢ source →
    state_in (set channels source free_channels) at ≡ state_in channels at
station_else channels source at differ = ap (λ (row : List ChannelState). slice_index_or row at.number Free) (get_or-set_other channels source at.station free_channels [] differ)

station_here : (channels : States) (source : ℕ) (at : Place) → at.station ≡ source → state_in (set channels source free_channels) at ≡ Free
station_here channels source at same = subst (λ (k : ℕ). slice_index_or (slice_index_or (set channels k free_channels) at.station []) at.number Free ≡ Free) same (station_free channels at.station at.number)

same_or_not : (k source : ℕ) → (k ≡ source) ⊎ (k ≢ source)
same_or_not k source = elim (cases_Bool (k == source)) [
  | inl hit ↦ inl (eqb-true k source hit)
  | inr miss ↦ inr (λ same. true≢false (sym (eq-eqb k source same) ∙ miss))
]

-- a station that is alive still, or whose link broke, or was down
blank_after : (links : List Bool) (source : ℕ) (c : Controller) (at : Place) →
    Uses links (set links source false) c →
    (IsAlive (set links source false) at.station → ⊥) →
    at.station ≢ source →
    state_in c.channels at ≡ Free
blank_after links source c at uses dead differ = elim (alive_or links at.station) [
  | inl alive ↦ absurd (dead (still_alive links source at.station differ alive))
  | inr was_dead ↦ uses.blank at was_dead
]

broken_uses : (b : Bool) (links : List Bool) (source : ℕ) (c : Controller) →
    (source == SWITCH_LINK) ≡ b →
    Uses links (set links source false) c →
    Uses (set links source false) (set links source false) (if b then c else freed_station source c)
broken_uses true links source c is uses = record {
  used = uses.used;
  blank = λ at dead. elim (same_or_not at.station source) [
    | inl same ↦ uses.blank at (λ alive. alive.1 (same ∙ eqb-true source SWITCH_LINK is))
    | inr differ ↦ blank_after links source c at uses dead differ
  ];
  given = uses.given;
}
broken_uses false links source c is uses = record {
  used = λ at n up used_now.
      let differ : at.station ≢ source = λ same. true≢false (sym up ∙ subst (λ (k : ℕ). is_link_up (set links source false) k ≡ false) (sym same) (down_link links source)) in
      uses.used at n up (sym (station_else c.channels source at differ) ∙ used_now);
  blank = λ at dead. elim (same_or_not at.station source) [
    | inl same ↦ station_here c.channels source at same
    | inr differ ↦ station_else c.channels source at differ ∙ blank_after links source c at uses dead differ
  ];
  given = λ at n releasing. elim (same_or_not at.station source) [
    | inl same ↦ (let both : Free ≡ Releasing n = sym (station_here c.channels source at same) ∙ releasing in absurd cc)
    | inr differ ↦ uses.given at n (sym (station_else c.channels source at differ) ∙ releasing)
  ];
}

break_sends : (source : ℕ) (c : Controller) → Ready c → Sends (set c.links source false) (set c.links source false) (on_break source c)
break_sends source c ready =
    let down : Controller = with_down source c in
    let f : Controller → Entry → Turn = with_own_input (break_of source) in
    let tame = own_input_tame 1 1 true (break_of source) in
    let all = each_sends c.links (set c.links source false) f tame.rising tame.leaves (own_input_numbers (break_of source)) (own_input_sends c.links source) down c.entries ready.numbered.rising
    (down_here c.entries (all_here c c.entries ready (all_found c.entries ready.numbered.rising)))
    (record { shaped = ready.holds.shaped; each = ready.holds.each })
    (record { used = λ at n up is. ready.uses.used at n (was_up c.links source at.station up) is; blank = ready.uses.blank; given = ready.uses.given }) in
    record { uses = broken_uses (source == SWITCH_LINK) c.links source (each f down c.entries).next refl all.1.uses; outs = all.1.outs }
  where
    down_here : (xs : List Entry) → AllByRecursion (IsHere c.links c) xs → AllByRecursion (IsHere c.links (with_down source c)) xs
    down_here [] here = tt
    down_here (x ∷ xs) here = (
      record { rising = here.0.rising; there = here.0.there; valid = here.0.valid; from_one = here.0.from_one; below = here.0.below; linked = here.0.linked },
      down_here xs here.1,
    )

what_sends : (up : Bool) (source : ℕ) (what : What) (c : Controller) →
    is_link_up c.links source ≡ up →
    Ready c →
    Sends (links_with up source what c) (links_with up source what c) (on_what up source what c)
what_sends true source (whats.Frame frame) c up ready = word_sends source (word_of source frame) c up (word_from source frame) (word_asked source frame) ready
what_sends true source whats.Down c up ready = break_sends source c ready
what_sends false source (whats.Frame frame) c up ready = ignoring_sends c ready.uses
what_sends false source whats.Down c up ready = ignoring_sends c ready.uses

-- ---- time passes

timer_plain : (input : Input) → IsTimer input → IsNoNack input × IsNoBreak input
unfolding IsNoNack IsNoBreak
timer_plain inputs.Expiry timer = (tt, tt)
timer_plain inputs.DrainExpiry timer = (tt, tt)
timer_plain _ timer = absurd timer

expiry_sends : (links : List Bool) (o : Option Input) (c : Controller) (e : Entry) →
    IsDue o →
    IsHere links c e →
    Holds links c →
    Uses links links c →
    Holds links (expires o c e).next × Sends links links (expires o c e)
expiry_sends links None c e due here holds uses = (holds, record { uses = uses; outs = tt })
expiry_sends links (Some input) c e due here holds uses =
    let offer : Option Channel = request_offer c e.connection input in
    let plain = timer_plain input due in (
      own_input_holds links c e input (timer_shut input due) here.rising here.there here.valid holds,
      fitting_sends links links (λ link up. up) c (turn [] c) e input offer (row_in c e.connection input) refl here.rising here.there here.from_one here.below
          (λ r is.
          let changes = changes_of e.connection input offer r here.valid is in
          record {
            changes = changes;
            upward = row_keeps_uses links e.connection input offer r is changes here.linked (own_alive links links c e here.there holds uses) (λ was_open is_open. absurd (timer_shut input due e.connection offer r is is_open));
            broken = no_break_of links input plain.1;
            freed = no_nack_of c.channels input plain.0;
          })
          uses (record { uses = uses; outs = tt }),
    )

aged_places : (ms : ℕ) (o : Option Entry) →
    used_places (option_map (λ (e : Entry). e.connection) (option_map (aged ms) o)) ≡ used_places (option_map (λ (e : Entry). e.connection) o)
aged_places ms None = refl
aged_places ms (Some e) = refl

pub aged_ready : (ms : ℕ) (c : Controller) → Ready c → Ready (all_aged ms c)
unfolding AllValid
aged_ready ms c ready = record {
  numbered = aged_numbered ms c ready.numbered;
  are_valid = λ m e there. valid (entry_of c m) e (ready.are_valid m) (sym (all_age m ms c) ∙ there);
  holds = record { shaped = ready.holds.shaped; each = λ n. subst (OwnsOpen c.channels c.links n) (sym (ap (option_map (λ (e : Entry). e.connection)) (all_age n ms c))) (aged_owns c.channels c.links n ms (entry_of c n) (ready.holds.each n)) };
  uses = record {
    used = λ at n up is. subst (λ (ps : List Place). Contains ps at) (sym (ap (λ (o : Option Entry). used_places (option_map (λ (e : Entry). e.connection) o)) (all_age n ms c) ∙ aged_places ms (entry_of c n))) (ready.uses.used at n up is);
    blank = ready.uses.blank;
    given = ready.uses.given;
  };
  linked = λ m e there. linked (entry_of c m) e (ready.linked m) (sym (all_age m ms c) ∙ there);
}
  where
    valid : (o : Option Entry) (e : Entry) →
        ((x : Entry) → o ≡ Some x → IsValid x.connection) →
        option_map (aged ms) o ≡ Some e →
        IsValid e.connection
    valid None e was is = absurd cc
    valid (Some x) e was is = subst (λ (y : Entry). IsValid y.connection) (of is) (pass_valid ms x.connection (was x refl))
      where
        of : (let o : Option Entry = Some (aged ms x) in o) ≡ Some e → aged ms x ≡ e
        of is = cc

    linked : (o : Option Entry) (e : Entry) →
        ((x : Entry) → o ≡ Some x → is_link_up c.links SWITCH_LINK ≡ true) →
        option_map (aged ms) o ≡ Some e →
        is_link_up c.links SWITCH_LINK ≡ true
    linked None e was is = absurd cc
    linked (Some x) e was is = was x refl

tick_sends : (ms : ℕ) (c : Controller) → Ready c → Sends c.links c.links (tick ms c)
unfolding tick
tick_sends ms c ready =
    let old : Controller = all_aged ms c in
    let tame = timed_tame 1 1 true in
    let now = aged_ready ms c ready in
    (each_sends c.links c.links timed tame.rising tame.leaves (λ d e. expiry_numbers (expiry d.settings.timers e.connection) d e) (λ d e here holds uses. expiry_sends c.links (expiry d.settings.timers e.connection) d e (expiry_own _ _) here holds uses)
    old old.entries now.numbered.rising (all_here old old.entries now (all_found old.entries now.numbered.rising)) now.holds now.uses).1

-- ---- a step

step_sends : (c : Controller) (s : Step) → Ready c → Sends (step c s).next.links (step c s).next.links (step c s)
unfolding take
step_sends c (Take item) ready =
    subst (λ (links : List Bool). Sends links links (take item c)) (sym (step_keeps_rest c (Take item)).links_are) (what_sends (is_up c item.source) item.source item.what c refl ready)
step_sends c (Tick ms) ready = subst (λ (links : List Bool). Sends links links (tick ms c)) (sym (step_keeps_rest c (Tick ms)).links_are) (tick_sends ms c ready)

pub ready_by : (c : Controller) → ((n : ℕ) → 1 ≤ n → Fits n c) → Holds c.links c → Uses c.links c.links c → Ready c
unfolding AllFine
ready_by c fits holds uses =
    let numbered = (fits 1 (omega arith)).numbered in
    record {
      numbered = numbered;
      are_valid = fine_valid c (fine_at c numbered (λ n from_one. (fits n from_one).fine));
      holds = holds;
      uses = uses;
      linked = λ m e there. linked_at m e there;
    }
  where
    linked_at : (m : ℕ) (e : Entry) → entry_of c m ≡ Some e → is_link_up c.links SWITCH_LINK ≡ true
    linked_at zero e there =
        let none : entry_of c 0 ≡ None = find_above 0 c.entries (fits 1 (omega arith)).numbered.above in
        absurd (let both : None ≡ Some e = sym none ∙ there in cc)
    linked_at (suc m) e there = linked_true (is_up c SWITCH_LINK) (connection_of c (suc m)) e.connection (ap (option_map (λ (x : Entry). x.connection)) there) (fits (suc m) (omega arith)).linked

-- ---- a life

-- what is known after a step
pub record IsAfter (c : Controller) : Type 0 where
  pub fits : (n : ℕ) → 1 ≤ n → Fits n c
  pub holds : Holds c.links c
  pub uses : Uses c.links c.links c

pub run_step : (c : Controller) (s : Step) →
    ((n : ℕ) → 1 ≤ n → Fits n c) →
    Holds c.links c →
    Uses c.links c.links c →
    IsAfter (step c s).next
unfolding AllFine
run_step c s fits holds uses =
    let numbered = (fits 1 (omega arith)).numbered in
    record {
      fits = λ n from_one. step_fits n c s from_one (fits n from_one);
      holds = step_holds c s numbered (fine_at c numbered (λ n from_one. (fits n from_one).fine)) holds;
      uses = (step_sends c s (ready_by c fits holds uses)).uses;
    }

runs : (c : Controller) (steps : List Step) → IsAfter c → IsAfter (each step c steps).next
runs c [] now = now
runs c (s ∷ ss) now = runs (step c s).next ss (run_step c s now.fits now.holds now.uses)

new_free : (k : ℕ) (at : Place) → state_in (replicate k free_channels) at ≡ Free
new_free k at = by k at.station
  where
    by : (k station : ℕ) → slice_index_or (slice_index_or (replicate k free_channels) station []) at.number Free ≡ Free
    by zero station = refl
    by (suc k) zero = free_at CHANNEL_NUMBERS at.number
    by (suc k) (suc station) = by k station

pub new_uses : (p : Parameters) → Uses (new_controller p).links (new_controller p).links (new_controller p)
new_uses p = record {
  used = λ at n up is. (let both : Free ≡ InUse n = sym (new_free (length p.cells + 1) at) ∙ is in absurd cc);
  blank = λ at dead. new_free (length p.cells + 1) at;
  given = λ at n is. (let both : Free ≡ Releasing n = sym (new_free (length p.cells + 1) at) ∙ is in absurd cc);
}

pub life_after : (p : Parameters) (steps : List Step) → AreAllowed p → IsAfter (life p steps).next
unfolding life
life_after p steps allowed = runs (new_controller p) steps (record { fits = λ n from_one. new_fits n p; holds = new_holds p allowed; uses = new_uses p })

pub life_ready : (p : Parameters) (steps : List Step) → AreAllowed p → Ready (life p steps).next
life_ready p steps allowed = let now = life_after p steps allowed in ready_by (life p steps).next now.fits now.holds now.uses

-- ---- the laws

pub life_reaches : (p : Parameters) (steps : List Step) (s : Step) → AreAllowed p → PutsOnUpLinks (life p steps).next s
life_reaches p steps s allowed = (step_sends (life p steps).next s (life_ready p steps allowed)).outs

open_where : (state : State) (roles : Roles) (d : Channel) →
    Contains (channels_in state roles) d →
    IsOpen state × Contains (roles.serving ∷ target_channels roles.target) d
open_where (Closed clearing) roles d there = absurd (contains_none d there)
open_where Removed roles d there = absurd (contains_none d there)
open_where _ roles d there = (tt, there)

in_use_by : (c : Controller) (links : List Bool) (n : ℕ) (at : Place) (o : Option Connection) →
    OwnsOpen c.channels links n o →
    Contains (used_places o) at →
    state_in c.channels at ≡ InUse n
in_use_by c links n at None owns there = absurd (contains_none at there)
in_use_by c links n at (Some s) owns there =
    let found = mapped place_of (channels_in_use s) at there in
    let open_one = open_where s.state (roles_of s) found.0 found.1 in
    subst (λ (p : Place). state_in c.channels p ≡ InUse n) found.2
    (all_contained (λ (d : Channel). state_in c.channels (place_of d) ≡ InUse n) (s.serving ∷ target_channels (roles_of s).target) found.0 (owns open_one.0).using open_one.1)

pub ready_uses : (c : Controller) → Ready c → AreUsed c
ready_uses c ready =
    let by : (n : ℕ) (at : Place) → Contains (used_places (connection_of c n)) at → state_in c.channels at ≡ InUse n = λ n at there. in_use_by c c.links n at (connection_of c n) (ready.holds.each n) there in
    record {
      using = λ at n. (
        λ is. elim (alive_or c.links at.station) [
          | inl alive ↦ ready.uses.used at n alive.0 is
          | inr dead ↦ absurd (free≢use n (sym (ready.uses.blank at dead) ∙ is))
        ],
        λ there. by n at there,
      );
      one = λ at n m first second. use_other n m (sym (by n at first) ∙ by m at second);
      releasing = λ at n is. ready.uses.given at n is;
      down = λ at down. ready.uses.blank at (λ alive. true≢false (sym alive.0 ∙ down));
      switch = λ number. ready.uses.blank (record { station = SWITCH_LINK; number = number }) (λ alive. alive.1 refl);
    }

pub life_uses : (p : Parameters) (steps : List Step) → AreAllowed p → AreUsed (life p steps).next
life_uses p steps allowed = ready_uses (life p steps).next (life_ready p steps allowed)
