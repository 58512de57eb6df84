-- SPDX-License-Identifier: MIT OR Apache-2.0
-- What breaks of links and timers do to one channel: nothing is activated, and nobody assigned.
use Rattle.world_laws.proofs.Prelude.{◌≡◌, ◌≢◌, ℕ, ◌==◌, ◌≤◌, Bool, true, false, if◌then◌else◌, List, [], ◌∷◌, ◌++◌, set, slice_index_or}
use Rattle.world_laws.proofs.Prelude.{Option, Some, None, refl, sym, ap, subst, AllByRecursion, Channel, Place, Out, SWITCH_LINK}
use Rattle.world_laws.proofs.Prelude.{AllByRecursion-append, Input, Connection, roles_of, Row, IsOpen, AreRising, IsSent, own_carried}
use Rattle.world_laws.proofs.Prelude.{break_shut, timer_shut, Holds, changes_of, owns_entry, IsHere, Ready, ChannelState, Free}
use Rattle.world_laws.proofs.Prelude.{request_offer, Controller, Entry, Turn, turn, each, channel_state, entry_of, freed_station, state_in}
use Rattle.world_laws.proofs.Prelude.{with_down, all_aged, break_of, by_fitting, expiry, on_break, row_in, timed, RunsThrough, Runs, runs}
use Rattle.world_laws.proofs.Prelude.{over}
use Rattle.world_laws.proofs.Prelude.{passes, releases, get_or-set_other, row_of, expiry_holds, own_input_holds, IsDue, all_found, expiry_own}
use Rattle.world_laws.proofs.Prelude.{own_input_tame, timed_tame, aged_ready, all_here, expiry_numbers, still_here, own_input_numbers, free_channels}
use Rattle.world_laws.proofs.Prelude.{expires, with_own_input}
use Rattle.controller_model.specs.Life.{tick}
use Rattle.world_laws.proofs.OrderNames.{NamesOut, no_assignments, shut_assigns}
use Rattle.world_laws.proofs.OrderRows.{States, ends_run, row_ends}
use Rattle.world_laws.proofs.OrderTurns.{Serving, of_owns}
use Rattle.world_laws.proofs.Framing.{all_left, all_right}

runs_on : {at : Place} {state middle end : ChannelState} {xs ys : List Out} →
    Runs at state xs middle →
    Runs at middle ys end →
    Runs at state (xs ++ ys) end
runs_on over next = next
runs_on (passes beside rest) next = passes beside (runs_on rest next)
runs_on (releases says rest) next = releases says (runs_on rest next)

-- a step that ends connections alone
abbrev RunsOn : Place → Controller → Controller → Turn → Type 0
RunsOn at c d t = AllByRecursion IsSent t.outs → Runs at (channel_state d at) t.outs (channel_state t.next at) × AllByRecursion (NamesOut at c) t.outs

own_input_runs : (at : Place) (c : Controller) (links : List Bool) (d : Controller) (e : Entry) (input : Input) →
    1 ≤ at.station →
    ((s : Connection) (offer : Option Channel) (r : Row) → row_of s input offer ≡ Some r → IsOpen r.next.state → ⊥) →
    IsHere links d e →
    Holds links d →
    RunsOn at c d (with_own_input input d e)
own_input_runs at c links d e input least shut own holds = by (row_in d e.connection input) refl where
  by : (o : Option Row) → row_in d e.connection input ≡ o → RunsOn at c d (by_fitting (turn [] d) e o d)
  by None is = λ sent. (over, tt)
  by (Some r) is = λ sent.
      let offer : Option Channel = request_offer d e.connection input in
      let changes = changes_of e.connection input offer r own.valid is in (
        ends_run e.connection.number at d.channels r.outs least sent (row_ends e.connection.number at d.channels e.connection input offer r changes (shut e.connection offer r is) (λ is_open. of_owns d.channels links e.connection.number (roles_of e.connection) (owns_entry links d e own.there holds is_open))),
        no_assignments at c e.connection.number r.outs least sent (shut_assigns e.connection input offer r changes (shut e.connection offer r is)),
      )

each_runs : (at : Place) (c : Controller) (links : List Bool) (f : Controller → Entry → Turn) → ((d : Controller) (e : Entry) → AreRising d.entries → AreRising (f d e).next.entries) → ((m : ℕ) (d : Controller) (e : Entry) → m ≢ e.connection.number → entry_of (f d e).next m ≡ entry_of d m) →
    ((d : Controller) (e : Entry) → (f d e).next.next_number ≡ d.next_number) → ((d : Controller) (e : Entry) → IsHere links d e → Holds links d → Holds links (f d e).next × RunsOn at c d (f d e)) →
    (d : Controller) (xs : List Entry) → AreRising xs → AllByRecursion (IsHere links d) xs → Holds links d → RunsOn at c d (each f d xs)
each_runs at c links f order leaves numbers keeps d [] sorted own holds = λ sent. (over, tt)
each_runs at c links f order leaves numbers keeps d (x ∷ xs) sorted own holds = λ sent.
    let one = keeps d x own.0 holds in
    let first = one.1 (all_left IsSent (f d x).outs (each f (f d x).next xs).outs sent) in
    let others = each_runs at c links f order leaves numbers keeps (f d x).next xs sorted.1 (still_here links f d x xs order leaves numbers sorted.0 own.1) one.0 (all_right IsSent (f d x).outs (each f (f d x).next xs).outs sent) in
    (runs_on first.0 others.0, AllByRecursion-append (NamesOut at c) (f d x).outs (each f (f d x).next xs).outs first.1 others.1)

-- ---- a break

freed_else : (channels : States) (source : ℕ) (at : Place) →
    at.station ≢ source →
    state_in (set channels source free_channels) at ≡ state_in channels at
freed_else channels source at differ = ap (λ (row : List ChannelState). slice_index_or row at.number Free) (get_or-set_other channels source at.station free_channels [] differ)

pub without_same : (b : Bool) (source : ℕ) (c : Controller) (at : Place) →
    at.station ≢ source →
    channel_state (if b then c else freed_station source c) at ≡ channel_state c at
without_same true source c at differ = refl
without_same false source c at differ = freed_else c.channels source at differ

pub break_serves : (at : Place) (least : 1 ≤ at.station) (source : ℕ) (c : Controller) →
    at.station ≢ source →
    Ready c →
    Serving at least c (channel_state c at) (on_break source c)
break_serves at least source c differ ready = λ sent.
    let down : Controller = with_down source c in
    let tame = own_input_tame 1 1 true (break_of source) in
    let all = each_runs at c c.links (with_own_input (break_of source)) tame.rising tame.leaves (own_input_numbers (break_of source))
    (λ d e own holds. (
      own_input_holds c.links d e (break_of source) (break_shut (break_of source) (own_carried source)) own.rising own.there own.valid holds,
      own_input_runs at c c.links d e (break_of source) least (break_shut (break_of source) (own_carried source)) own holds,
    ))
    down c.entries ready.numbered.rising (down_here c.entries (all_here c c.entries ready (all_found c.entries ready.numbered.rising))) (record { shaped = ready.holds.shaped; each = ready.holds.each }) sent in
    (subst (RunsThrough at (channel_state c at) (each (with_own_input (break_of source)) down c.entries).outs) (sym (without_same (source == SWITCH_LINK) source (each (with_own_input (break_of source)) down c.entries).next at differ)) (runs all.0), all.1)
  where
    down_here : (xs : List Entry) → AllByRecursion (IsHere c.links c) xs → AllByRecursion (IsHere c.links (with_down source c)) xs
    down_here [] own = tt
    down_here (x ∷ xs) own = (
      record { rising = own.0.rising; there = own.0.there; valid = own.0.valid; from_one = own.0.from_one; below = own.0.below; linked = own.0.linked },
      down_here xs own.1,
    )

-- ---- time passes

expiry_runs : (at : Place) (c : Controller) (links : List Bool) (o : Option Input) (d : Controller) (e : Entry) →
    1 ≤ at.station →
    IsDue o →
    IsHere links d e →
    Holds links d →
    RunsOn at c d (expires o d e)
expiry_runs at c links None d e least due own holds = λ sent. (over, tt)
expiry_runs at c links (Some input) d e least due own holds = own_input_runs at c links d e input least (timer_shut input due) own holds

pub tick_serves : (at : Place) (least : 1 ≤ at.station) (ms : ℕ) (c : Controller) →
    Ready c →
    Serving at least c (channel_state c at) (tick ms c)
unfolding tick
tick_serves at least ms c ready = λ sent.
    let old : Controller = all_aged ms c in
    let tame = timed_tame 1 1 true in
    let now = aged_ready ms c ready in
    let all = each_runs at c c.links timed tame.rising tame.leaves (λ d e. expiry_numbers (expiry d.settings.timers e.connection) d e)
    (λ d e own holds. (
      expiry_holds c.links (expiry d.settings.timers e.connection) d e (expiry_own _ _) own.rising own.there own.valid holds,
      expiry_runs at c c.links (expiry d.settings.timers e.connection) d e least (expiry_own _ _) own holds,
    ))
    old old.entries now.numbered.rising (all_here old old.entries now (all_found old.entries now.numbered.rising)) now.holds sent in
    (runs all.0, all.1)
