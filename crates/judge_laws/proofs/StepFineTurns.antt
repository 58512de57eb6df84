-- SPDX-License-Identifier: MIT OR Apache-2.0
-- One connection after the other: a link breaks, and timers expire.
use Rattle.std.proofs.Common.{◌≡◌, ◌≢◌, ℕ, Bool, true, false, List, [], ◌∷◌, ◌++◌, Option, Some, None, refl, sym, subst, ap, ◌∙◌, inl, inr, option_map, zero, suc}
use Rattle.std.proofs.lemmas.Bool.{cases_Bool, eq-eqb, eqb-true, true≢false}
use Rattle.std.specs.List.{AllByRecursion}
use Rattle.std.specs.Prelude.{if◌then◌else◌, ◌==◌, map, set, slice_index_or}
use Rattle.conn_messages.specs.declared.channel.Channel.{Channel}
use Rattle.conn_messages.specs.declared.channel.Place.{Place}
use Rattle.conn_messages.specs.declared.parameters.TheConstants.{SWITCH_LINK}
use Rattle.conn_rules.specs.Connection.{Connection}
use Rattle.conn_rules.specs.declared.input.Input.{Input}
use Rattle.conn_rules.specs.declared.input.Input.TheVariants as inputs
use Rattle.conn_rules.specs.Steps.{Row}
use Rattle.conn_rules.specs.Streams.{IsOpen}
use Rattle.conn_rules.specs.Table.{row_of, serving_after}
use Rattle.conn_rules.specs.Validity.{IsCarried}
use Rattle.controller_model.specs.declared.channel_kind.ChannelKind.TheVariants.{Tch}
use Rattle.controller_model.specs.declared.channel_state.ChannelState.{ChannelState}
use Rattle.controller_model.specs.declared.channel_state.ChannelState.TheVariants.{Free, InUse}
use Rattle.controller_model.specs.declared.limits.TheConstants.{CHANNEL_NUMBERS}
use Rattle.controller_model.specs.Channels.{request_offer}
use Rattle.controller_model.specs.Controller.{Controller, Entry, Turn, each, entry_of, free_channels, freed_station, state_in, turn, with_down}
use Rattle.controller_model.specs.Life.{aged, all_aged, break_of, by_fitting, by_row, expiry, on_break, on_expiry, row_in, tick, timed, with_own_input}
use Rattle.controller_model.specs.LifeLaws.Acts.{IsTimer}
use Rattle.controller_model.specs.LifeLaws.Numbers.{AreRising}
use Rattle.controller_model.specs.LifeLaws.Owning.{is_link_up}
use Rattle.controller_model.proofs.LifeLaws.Beside.{other_link}
use Rattle.controller_model.proofs.LifeLaws.Fitting.{IsLinkBreak, break_carried, own_carried, timer_carried}
use Rattle.controller_model.proofs.LifeLaws.OwningLife.{break_shut, own_input_holds, timer_shut}
use Rattle.controller_model.proofs.LifeLaws.OwningWords.{Holds, changes_of, owns_entry, usual_row}
use Rattle.controller_model.proofs.LifeLaws.Places.{free≢use}
use Rattle.controller_model.proofs.LifeLaws.SoundLife.{IsSoundAll, SoundOf, break_refers, request_sound, timer_refers}
use Rattle.controller_model.proofs.LifeLaws.SoundMessages.{IsSoundChannel}
use Rattle.controller_model.proofs.LifeLaws.SoundRows.{RefersBy}
use Rattle.controller_model.proofs.LifeLaws.Turns.{IsDue, all_found, expiry_own, own_input_tame, timed_tame}
use Rattle.controller_model.proofs.LifeLaws.UsingChanges.{break_keeps_uses, row_keeps_uses}
use Rattle.controller_model.proofs.LifeLaws.UsingLife.{aged_ready, all_here, down_link, expiry_numbers, free_at, own_input_numbers, station_else, still_here}
use Rattle.controller_model.proofs.LifeLaws.UsingRows.{LinkIsAlive, Uses}
use Rattle.controller_model.proofs.LifeLaws.UsingWords.{IsHere, IsNoBreak, IsNoNack, Ready, first_free_is, fitting_sends, no_break_of, no_nack_of, own_alive}
use Rattle.controller_model.proofs.Others.{all_age}
use Rattle.run_judge.specs.Connection.{IsWithoutFault}
use Rattle.run_judge.specs.Judging.{Judging, Numbered, after_all, all_ended}
use Rattle.judge_laws.proofs.CellsRemain.{all_remain}
use Rattle.judge_laws.proofs.Fine.{AreFine}
use Rattle.judge_laws.proofs.HeardFine.{IsSilentInput}
use Rattle.judge_laws.proofs.HeardFineWords.{plain_keep}
use Rattle.judge_laws.proofs.Law.{after-append, ended-append, split_by}
use Rattle.judge_laws.proofs.StepFine.{KeepsFine, entry_mine, fitting_keeps, nothing_keeps, row_all, row_keeps}
use Rattle.judge_laws.proofs.StepFineSame.{aged_fine, down_fine, same_fine}
use Rattle.judge_laws.specs.Saying.{put_says}

-- ---- turns, one behind the other

map_append : {A B : Type 0} (f : A → B) (xs ys : List A) → map f (xs ++ ys) ≡ map f xs ++ map f ys
map_append f [] ys = refl
map_append f (x ∷ xs) ys = ap (λ zs. f x ∷ zs) (map_append f xs ys)

-- what holds of a controller in the midst of a step, where of its links those are up that were (`old`)
-- and now are (`new`)
pub record Midst (old new : List Bool) (c : Controller) : Type 0 where
  pub sound : IsSoundAll c
  pub holds : Holds old c
  pub uses : Uses old new c

-- what a turn of one connection keeps
pub record Keeps (old new : List Bool) (t : Turn) (j : Judging) : Type 0 where
  pub midst : Midst old new t.next
  pub fine : KeepsFine t j

pub append_keeps : (t : Turn) (rest : Turn) (j : Judging) →
    KeepsFine t j →
    ((k : Judging) → AreFine t.next k → KeepsFine rest k) →
    KeepsFine (turn (t.outs ++ rest.outs) rest.next) j
append_keeps t rest j one others unknown ns is =
    let parts = split_by ns (map put_says t.outs) (map put_says rest.outs) (is ∙ map_append put_says t.outs rest.outs) in
    let first = one unknown parts.front parts.says_first in
    let later = others (after_all j parts.front) first.0 (all_remain parts.front j ∙ unknown) parts.back parts.says_rest in
    let joined : AreFine rest.next (after_all j (parts.front ++ parts.back)) × AllByRecursion IsWithoutFault (all_ended j (parts.front ++ parts.back)) =
    (subst (AreFine rest.next) (sym (after-append j parts.front parts.back)) later.0, ended-append j parts.front parts.back first.1 later.1) in
    subst (λ (xs : List Numbered). AreFine rest.next (after_all j xs) × AllByRecursion IsWithoutFault (all_ended j xs)) (sym parts.are) joined

each_keeps : (old new : List Bool) (f : Controller → Entry → Turn) → ((c : Controller) (e : Entry) → AreRising c.entries → AreRising (f c e).next.entries) → ((m : ℕ) (c : Controller) (e : Entry) → m ≢ e.connection.number → entry_of (f c e).next m ≡ entry_of c m) →
    ((c : Controller) (e : Entry) → (f c e).next.next_number ≡ c.next_number) → ((c : Controller) (e : Entry) → IsHere old c e → Midst old new c → Midst old new (f c e).next × ((j : Judging) → AreFine c j → KeepsFine (f c e) j)) →
    (c : Controller) (xs : List Entry) (j : Judging) → AreRising xs → AllByRecursion (IsHere old c) xs → Midst old new c → AreFine c j → KeepsFine (each f c xs) j
each_keeps old new f order leaves numbers keeps c [] j sorted here midst fine = nothing_keeps c j fine
each_keeps old new f order leaves numbers keeps c (x ∷ xs) j sorted here midst fine =
    let one = keeps c x here.0 midst in
    let later = still_here old f c x xs order leaves numbers sorted.0 here.1 in
    append_keeps (f c x) (each f (f c x).next xs) j (one.1 j fine) (λ k now. each_keeps old new f order leaves numbers keeps (f c x).next xs k sorted.1 later one.0 now)

-- ---- an input of the controller's own

-- what is known of it: it closes the connection
record OwnInput (new : List Bool) (input : Input) : Type 0 where
  own : IsSilentInput input
  carried : IsCarried input
  refers : RefersBy input
  no_nack : IsNoNack input
  shuts : (s : Connection) (offer : Option Channel) (r : Row) → row_of s input offer ≡ Some r → IsOpen r.next.state → ⊥
  broken : (station : ℕ) → input ≡ inputs.StationDown station → is_link_up new station ≡ false
  no_move : input ≡ inputs.Move → ⊥

own_keeps : (old new : List Bool) → ((link : ℕ) → is_link_up new link ≡ true → is_link_up old link ≡ true) → (input : Input) → OwnInput new input →
    ((c : Controller) (e : Entry) (offer : Option Channel) (r : Row) → IsHere old c e → Midst old new c → row_of e.connection input offer ≡ Some r → AllByRecursion (LinkIsAlive new) r.outs) →
    (c : Controller) (e : Entry) → IsHere old c e → Midst old new c → Midst old new (with_own_input input c e).next × ((j : Judging) → AreFine c j → KeepsFine (with_own_input input c e) j)
own_keeps old new more input own alive c e here midst =
    let offer : Option Channel = request_offer c e.connection input in
    let sound : (d : Channel) → offer ≡ Some d → IsSoundChannel d = request_sound c e.connection input midst.sound.cells in (
      record {
        sound = with_row (row_in c e.connection input) refl (λ r is. row_all old c e input offer r here midst.sound is sound own.carried own.refers);
        holds = own_input_holds old c e input own.shuts here.rising here.there here.valid midst.holds;
        uses = (fitting_sends old new more c (turn [] c) e input offer (row_in c e.connection input) refl here.rising here.there here.from_one here.below
            (λ r is. record { changes = changes_of e.connection input offer r here.valid is; upward = alive c e offer r here midst is; broken = own.broken; freed = no_nack_of c.channels input own.no_nack })
            midst.uses (record { uses = midst.uses; outs = tt })).uses;
      },
      λ j fine. fitting_keeps c (turn [] c) e (row_in c e.connection input) j (λ none. nothing_keeps c j fine)
          (λ r is.
          let plain = plain_keep old c e input offer r j own.own here midst.holds is fine in
          row_keeps old new c e input offer r j
          (record {
            here = here;
            fits = is;
            owns = usual_row old c e input offer r here.there here.valid midst.holds is (λ is_open channel offered. absurd (own.shuts e.connection offer r is is_open));
            others = λ n differ. midst.holds.each n;
            apart = λ is_open. (owns_entry old c e here.there midst.holds is_open).apart;
            asked = λ no_move d offered. (first_free_is c (serving_after e.connection (row_of e.connection input None)).station 0 Tch d offered).1;
          })
          (record { alive = alive c e offer r here midst is; offered = sound; carried = own.carried; refers = own.refers })
          midst.sound (entry_mine old c e input r j here.there midst.holds plain) plain),
    )
  where
    with_row : (o : Option Row) →
        row_in c e.connection input ≡ o →
        ((r : Row) → row_in c e.connection input ≡ Some r → IsSoundAll (by_row e r c).next) →
        IsSoundAll (by_fitting (turn [] c) e o c).next
    with_row None is each = midst.sound
    with_row (Some r) is each = each r is

-- ---- a link breaks

was_up : (links : List Bool) (source link : ℕ) → is_link_up (set links source false) link ≡ true → is_link_up links link ≡ true
was_up links source link up = elim (cases_Bool (link == source)) [
  | inl same ↦ absurd (true≢false (sym up ∙ subst (λ (k : ℕ). is_link_up (set links source false) k ≡ false) (sym (eqb-true link source same)) (down_link links source)))
  | inr differ ↦ sym (other_link links source link (λ same. true≢false (sym (eq-eqb link source same) ∙ differ))) ∙ up
]

break_station : (source station : ℕ) → break_of source ≡ inputs.StationDown station → station ≡ source
break_station source station is = by (source == SWITCH_LINK) is
  where
    by : (b : Bool) → (if b then inputs.SwitchDown else inputs.StationDown source) ≡ inputs.StationDown station → station ≡ source
    by true is = absurd cc
    by false is = cc

break_plain : (input : Input) → IsLinkBreak input → IsNoNack input × IsSilentInput input × (input ≡ inputs.Move → ⊥)
unfolding IsNoNack
break_plain inputs.SwitchDown break = (tt, tt, λ is. absurd cc)
break_plain (inputs.StationDown station) break = (tt, tt, λ is. absurd cc)
break_plain _ break = absurd break

break_input : (links : List Bool) (source : ℕ) → OwnInput (set links source false) (break_of source)
break_input links source =
    let is = own_carried source in
    let kind = break_plain (break_of source) is in
    record {
      own = kind.1;
      carried = break_carried (break_of source) is;
      refers = break_refers (break_of source) is;
      no_nack = kind.0;
      shuts = break_shut (break_of source) is;
      broken = λ station same. subst (λ (k : ℕ). is_link_up (set links source false) k ≡ false) (sym (break_station source station same)) (down_link links source);
      no_move = kind.2;
    }

-- the channels of a station go
station_free : (channels : List (List ChannelState)) (station number : ℕ) →
    slice_index_or (slice_index_or (set channels station free_channels) station []) number Free ≡ Free
station_free [] station number = refl
station_free (row ∷ channels) zero number = free_at CHANNEL_NUMBERS number
station_free (row ∷ channels) (suc station) number = station_free channels station number

station_here : (channels : List (List ChannelState)) (source : ℕ) (at : Place) →
    at.station ≡ source →
    state_in (set channels source free_channels) at ≡ Free
station_here channels source at same = subst (λ (k : ℕ). slice_index_or (slice_index_or (set channels k free_channels) at.station []) at.number Free ≡ Free) same (station_free channels at.station at.number)

without_keeps : (b : Bool) (source : ℕ) (t : Turn) (j : Judging) →
    KeepsFine t j →
    KeepsFine (turn t.outs (if b then t.next else freed_station source t.next)) j
without_keeps true source t j keeps unknown ns is = keeps unknown ns is
without_keeps false source t j keeps unknown ns is =
    let all = keeps unknown ns is in
    (same_fine t.next (freed_station source t.next) (after_all j ns) (λ n. refl) refl (λ at n used. was at n used) all.0, all.1)
  where
    was : (at : Place) (n : ℕ) → state_in (set t.next.channels source free_channels) at ≡ InUse n → state_in t.next.channels at ≡ InUse n
    was at n used = elim (cases_Bool (at.station == source)) [
      | inl same ↦ absurd (free≢use n (sym (station_here t.next.channels source at (eqb-true at.station source same)) ∙ used))
      | inr differ ↦ sym (station_else t.next.channels source at (λ same. true≢false (sym (eq-eqb at.station source same) ∙ differ))) ∙ used
    ]

pub break_keeps : (source : ℕ) (c : Controller) (j : Judging) → Ready c → IsSoundAll c → AreFine c j → KeepsFine (on_break source c) j
break_keeps source c j ready sound fine =
    let down : Controller = with_down source c in
    let new : List Bool = set c.links source false in
    let f : Controller → Entry → Turn = with_own_input (break_of source) in
    let tame = own_input_tame 1 1 true (break_of source) in
    without_keeps (source == SWITCH_LINK) source (each f down c.entries) j
    (each_keeps c.links new f tame.rising tame.leaves (own_input_numbers (break_of source))
    (own_keeps c.links new (was_up c.links source) (break_of source) (break_input c.links source)
    (λ d e offer r here midst is. break_keeps_uses c.links source e.connection offer r is (changes_of e.connection (break_of source) offer r here.valid is) here.linked (own_alive c.links new d e here.there midst.holds midst.uses)))
    down c.entries j ready.numbered.rising (down_here c.entries (all_here c c.entries ready (all_found c.entries ready.numbered.rising)))
    (record {
      sound = record { each = sound.each; cells = sound.cells; next = sound.next };
      holds = record { shaped = ready.holds.shaped; each = ready.holds.each };
      uses = record { used = λ at n up is. ready.uses.used at n (was_up c.links source at.station up) is; blank = ready.uses.blank; given = ready.uses.given };
    })
    (down_fine source c j fine))
  where
    down_here : (xs : List Entry) → AllByRecursion (IsHere c.links c) xs → AllByRecursion (IsHere c.links (with_down source c)) xs
    down_here [] here = tt
    down_here (x ∷ xs) here = (
      record { rising = here.0.rising; there = here.0.there; valid = here.0.valid; from_one = here.0.from_one; below = here.0.below; linked = here.0.linked },
      down_here xs here.1,
    )

-- ---- time passes

timer_plain : (input : Input) → IsTimer input → IsNoNack input × IsNoBreak input × IsSilentInput input × (input ≡ inputs.Move → ⊥)
unfolding IsNoNack IsNoBreak
timer_plain inputs.Expiry timer = (tt, tt, tt, λ is. absurd cc)
timer_plain inputs.DrainExpiry timer = (tt, tt, tt, λ is. absurd cc)
timer_plain _ timer = absurd timer

timer_input : (links : List Bool) (input : Input) → IsTimer input → OwnInput links input
timer_input links input timer =
    let kind = timer_plain input timer in
    record {
      own = kind.2;
      carried = timer_carried input timer;
      refers = timer_refers input timer;
      no_nack = kind.0;
      shuts = timer_shut input timer;
      broken = no_break_of links input kind.1;
      no_move = kind.3;
    }

expiry_keeps : (links : List Bool) (o : Option Input) (c : Controller) (e : Entry) →
    IsDue o →
    IsHere links c e →
    Midst links links c →
    Midst links links (on_expiry o c e).next × ((j : Judging) → AreFine c j → KeepsFine (on_expiry o c e) j)
expiry_keeps links None c e due here midst = (midst, λ j fine. nothing_keeps c j fine)
expiry_keeps links (Some input) c e due here midst =
    own_keeps links links (λ link up. up) input (timer_input links input due)
    (λ d x offer r there now is. row_keeps_uses links x.connection input offer r is (changes_of x.connection input offer r there.valid is) there.linked (own_alive links links d x there.there now.holds now.uses) (λ was_open is_open. absurd (timer_shut input due x.connection offer r is is_open)))
    c e here midst

aged_parts : (ms : ℕ) (o : Option Entry) →
    SoundOf (option_map (λ (e : Entry). e.connection) o) →
    SoundOf (option_map (λ (e : Entry). e.connection) (option_map (aged ms) o))
unfolding SoundOf
aged_parts ms None sound = tt
aged_parts ms (Some e) sound = record { serving = sound.serving; targets = sound.targets; refers = sound.refers }

pub tick_keeps : (ms : ℕ) (c : Controller) (j : Judging) → Ready c → IsSoundAll c → AreFine c j → KeepsFine (tick ms c) j
unfolding tick
tick_keeps ms c j ready sound fine =
    let old : Controller = all_aged ms c in
    let tame = timed_tame 1 1 true in
    let now = aged_ready ms c ready in
    each_keeps c.links c.links timed tame.rising tame.leaves (λ d e. expiry_numbers (expiry d.settings.timers e.connection) d e) (λ d e here midst. expiry_keeps c.links (expiry d.settings.timers e.connection) d e (expiry_own _ _) here midst)
    old old.entries j now.numbered.rising (all_here old old.entries now (all_found old.entries now.numbered.rising))
    (record {
      sound = record {
        each = λ n. subst SoundOf (sym (ap (option_map (λ (e : Entry). e.connection)) (all_age n ms c))) (aged_parts ms (entry_of c n) (sound.each n));
        cells = sound.cells;
        next = sound.next;
      };
      holds = now.holds;
      uses = now.uses;
    })
    (aged_fine ms c j fine)
