-- SPDX-License-Identifier: MIT OR Apache-2.0
-- The owners of channels after each step, and so in every life.
use Rattle.controller_model.proofs.Prelude.{◌≡◌, ◌≢◌, ℕ, zero, suc, ◌+◌, ◌==◌, ◌≤◌, ◌<◌, ◌&&◌, ◌||◌, Bool, true, false, not, if◌then◌else◌}
use Rattle.controller_model.proofs.Prelude.{List, [], ◌∷◌, ◌++◌, length, map, replicate, set, slice_index_or, Option, Some, None}
use Rattle.controller_model.proofs.Prelude.{option_map, refl, sym, subst, ap, ◌∙◌, inl, inr, arith, true≢false, cases_Bool, cond-true}
use Rattle.controller_model.proofs.Prelude.{cond-false, eq-eqb, get_or-set_other, AllByRecursion, Channel, Message, SWITCH_LINK}
use Rattle.controller_model.proofs.Prelude.{AllByRecursion-append, by_state, Input, Drain, Stage, Preparing, Changing}
use Rattle.controller_model.proofs.Prelude.{State, WaitActivation, WaitEstablish, WaitConfirm, Live, Closed, Removed, Connection, Roles}
use Rattle.controller_model.proofs.Prelude.{roles_of, target_channels, target_role, IsValid, Row, IsOpen, undone, row_if, on_drain_expiry}
use Rattle.controller_model.proofs.Prelude.{on_expiry, on_station_down, on_switch_down, What, AreAllowed, CellParameters, Parameters}
use Rattle.controller_model.proofs.Prelude.{length-replicate, drains_at, targets, is_some_draining, Acts, IsTimer, ages, takes_row, opens}
use Rattle.controller_model.proofs.Prelude.{rests}
use Rattle.controller_model.proofs.Prelude.{breaks, connection_of, IsNumbered, AreRising, IsAbove, AreIn, Owns, OwnsOpen, is_link_up}
use Rattle.controller_model.proofs.Prelude.{used_in, LinkedOf, ChannelState, Free, InUse, Releasing, CHANNEL_NUMBERS, Step, Take, Tick}
use Rattle.controller_model.proofs.Prelude.{request_offer, Controller, Entry, Turn, turn, each, entry_of, free_channels, freed_station}
use Rattle.controller_model.proofs.Prelude.{is_up, new_controller, with_down, aged, all_aged, break_of, expiry, on_break, expires, on_what}
use Rattle.controller_model.proofs.Prelude.{row_in, step, timed, with_own_input, word_of, IsCell, IsChannel, recursion_from_All, all_behind}
use Rattle.conn_rules.specs.declared.input.Input.TheVariants as inputs
use Rattle.conn_rules.specs.Table.{row_of}
use Rattle.controller_model.proofs.LifeLaws.Beside.{links_with, other_link, step_keeps_rest}
use Rattle.controller_model.proofs.LifeLaws.Entries.{find_above}
use Rattle.controller_model.proofs.LifeLaws.Fitting.{Fits, IsFine, IsLinkBreak, IsLinked, IsPresent, new_fits, step_fits, never_none, own_carried, pass_valid, row_is}
use Rattle.controller_model.proofs.LifeLaws.OwningSteps.{HasNumbers, IsRow, IsShaped, owns_kept}
use Rattle.controller_model.proofs.LifeLaws.OwningWords.{AllValid, Holds, fitting_holds, word_holds}
use Rattle.controller_model.proofs.LifeLaws.Places.{all_set, length_set}
use Rattle.controller_model.proofs.LifeLaws.Sources.{word_from}
use Rattle.controller_model.proofs.LifeLaws.Turns.{all_found, all_two, aged_rising, break_does, own_input_tame, timed_tame, expiry_own, IsDue}
use Rattle.controller_model.proofs.Others.{all_age}
use Rattle.controller_model.specs.Life.{take, tick}
use Rattle.ruled_relay.specs.declared.item.What.TheVariants as whats
use Rattle.controller_model.proofs.LifeLaws.Lives.{life_fits}
use Rattle.controller_model.specs.Life.{life}

abbrev States : Type 0
States = List (List ChannelState)

-- ---- rows that close a connection

pub shut_if : (b : Bool) (q r : Row) → (IsOpen q.next.state → ⊥) → row_if b q ≡ Some r → IsOpen r.next.state → ⊥
shut_if true q r shut is is_open = shut (subst (λ (p : Row). IsOpen p.next.state) (sym (row_is q r is)) is_open)
shut_if false q r shut is is_open = absurd cc

shut_row : (q r : Row) → (IsOpen q.next.state → ⊥) → (let o : Option Row = Some q in o) ≡ Some r → IsOpen r.next.state → ⊥
shut_row q r shut is is_open = shut (subst (λ (p : Row). IsOpen p.next.state) (sym (row_is q r is)) is_open)

expiry_shut : (state : State) (s : Connection) (r : Row) → on_expiry state s ≡ Some r → IsOpen r.next.state → ⊥
expiry_shut WaitActivation s r is = shut_row _ r (λ there. there) is
expiry_shut WaitEstablish s r is = shut_row _ r (λ there. there) is
expiry_shut (Live reference (Preparing target)) s r is = shut_row _ r (λ there. there) is
expiry_shut (Live reference (Changing target)) s r is = shut_row _ r (λ there. there) is
expiry_shut _ s r is = absurd cc

drain_shut : (state : State) (s : Connection) (r : Row) → on_drain_expiry state s ≡ Some r → IsOpen r.next.state → ⊥
drain_shut (Live reference stage) s r is = shut_if (is_some_draining s.draining) _ r (λ there. there) is
drain_shut _ s r is = absurd cc

station_shut : (state : State) (s : Connection) (station : ℕ) (r : Row) → on_station_down state s station ≡ Some r → IsOpen r.next.state → ⊥
station_shut (Live reference stage) s station r is = shut_if (s.serving.station == station || targets station stage || drains_at station s.draining) _ r (λ there. there) is
station_shut (Closed clearing) s station r is = absurd cc
station_shut Removed s station r is = absurd cc
station_shut _ s station r is = shut_if (s.serving.station == station) _ r (λ there. there) is

switch_shut : (state : State) (s : Connection) (r : Row) → on_switch_down state s ≡ Some r → IsOpen r.next.state → ⊥
switch_shut Removed s r is = absurd cc
switch_shut _ s r is = shut_row _ r (λ there. there) is

pub timer_shut : (input : Input) →
    IsTimer input →
    (s : Connection) (offer : Option Channel) (r : Row) →
    row_of s input offer ≡ Some r →
    IsOpen r.next.state →
    ⊥
unfolding row_of
timer_shut inputs.Expiry timer s offer r is = expiry_shut s.state s r is
timer_shut inputs.DrainExpiry timer s offer r is = drain_shut s.state s r is
timer_shut _ timer s offer r is = absurd timer

pub break_shut : (input : Input) →
    IsLinkBreak input →
    (s : Connection) (offer : Option Channel) (r : Row) →
    row_of s input offer ≡ Some r →
    IsOpen r.next.state →
    ⊥
unfolding row_of
break_shut inputs.SwitchDown break s offer r is = switch_shut s.state s r is
break_shut (inputs.StationDown station) break s offer r is = station_shut s.state s station r is
break_shut _ break s offer r is = absurd break

-- ---- one connection after the other

pub own_input_holds : (links : List Bool) (c : Controller) (e : Entry) (input : Input) →
    ((s : Connection) (offer : Option Channel) (r : Row) → row_of s input offer ≡ Some r → IsOpen r.next.state → ⊥) →
    AreRising c.entries →
    entry_of c e.connection.number ≡ Some e →
    IsValid e.connection →
    Holds links c →
    Holds links (with_own_input input c e).next
own_input_holds links c e input shut rising there valid holds =
    fitting_holds links c (turn [] c) e input (request_offer c e.connection input) (row_in c e.connection input) refl rising there valid holds
    (λ r is is_open channel offered. absurd (shut e.connection (request_offer c e.connection input) r is is_open)) holds

each_holds : (links : List Bool) (f : Controller → Entry → Turn) → ((c : Controller) (e : Entry) → AreRising c.entries → AreRising (f c e).next.entries) → ((m : ℕ) (c : Controller) (e : Entry) → m ≢ e.connection.number → entry_of (f c e).next m ≡ entry_of c m) →
    ((c : Controller) (e : Entry) → AreRising c.entries → entry_of c e.connection.number ≡ Some e → IsValid e.connection → Holds links c → Holds links (f c e).next) →
    (c : Controller) (xs : List Entry) → AreRising c.entries → AreRising xs → AllByRecursion (λ (x : Entry). entry_of c x.connection.number ≡ Some x) xs → AllByRecursion (λ (x : Entry). IsValid x.connection) xs → Holds links c → Holds links (each f c xs).next
each_holds links f order leaves keeps c [] rising sorted there are_valid holds = holds
each_holds links f order leaves keeps c (x ∷ xs) rising sorted there are_valid holds =
    each_holds links f order leaves keeps (f c x).next xs (order c x rising) sorted.1
    (all_two (IsAbove x.connection.number) (λ (y : Entry). entry_of c y.connection.number ≡ Some y) (λ (y : Entry). entry_of (f c x).next y.connection.number ≡ Some y) xs
    (λ y above found. leaves y.connection.number c x (λ same. absurd (omega arith)) ∙ found) sorted.0 there.1)
    are_valid.1 (keeps c x rising there.0 are_valid.0 holds)

pub each_valid : (c : Controller) (xs : List Entry) →
    AllValid c →
    AllByRecursion (λ (x : Entry). entry_of c x.connection.number ≡ Some x) xs →
    AllByRecursion (λ (x : Entry). IsValid x.connection) xs
unfolding AllValid
each_valid c [] are_valid there = tt
each_valid c (x ∷ xs) are_valid there = (are_valid x.connection.number x there.0, each_valid c xs are_valid there.1)

-- ---- a break

abbrev pub IsAwayFrom : ℕ → Channel → Type 0
IsAwayFrom station c = c.station ≢ station

pub or_false : (a b : Bool) → (a || b) ≡ false → (a ≡ false) × (b ≡ false)
or_false true b is = absurd (true≢false is)
or_false false b is = (refl, is)

away_from : (station : ℕ) (c : Channel) → (c.station == station) ≡ false → IsAwayFrom station c
away_from station c miss = λ same. true≢false (sym (eq-eqb c.station station same) ∙ miss)

pub none_if : (b : Bool) (q : Row) → row_if b q ≡ None → b ≡ false
none_if true q is = absurd cc
none_if false q is = refl

drains_away : (station : ℕ) (ds : List Drain) → drains_at station ds ≡ false → AllByRecursion (IsAwayFrom station) (undone ds)
drains_away station [] is = tt
drains_away station (d ∷ ds) is =
    let parts = or_false (d.channel.station == station && not d.is_done) (drains_at station ds) is in
    by d.is_done refl parts.0 (drains_away station ds parts.1)
  where
    by : (b : Bool) →
        d.is_done ≡ b →
        (d.channel.station == station && not d.is_done) ≡ false →
        AllByRecursion (IsAwayFrom station) (undone ds) →
        AllByRecursion (IsAwayFrom station) (if b then undone ds else d.channel ∷ undone ds)
    by true done miss others = others
    by false drains miss others = (away_from station d.channel (of (d.channel.station == station) (ap (λ (b : Bool). d.channel.station == station && not b) (sym drains) ∙ miss)), others)
      where
        of : (b : Bool) → (b && true) ≡ false → b ≡ false
        of true is = is
        of false is = refl

target_away : (station reference : ℕ) (stage : Stage) →
    targets station stage ≡ false →
    AllByRecursion (IsAwayFrom station) (target_channels (target_role (Live reference stage)))
target_away station reference (Preparing target) is = (away_from station target.channel is, tt)
target_away station reference (Changing target) is = (away_from station target.channel is, tt)
target_away station reference _ is = tt

-- where no row fits, no channel is of that station
live_away : (s : Connection) (station reference : ℕ) (stage : Stage) →
    (s.serving.station == station || targets station stage || drains_at station s.draining) ≡ false →
    AllByRecursion (IsAwayFrom station) (undone s.draining ++ s.serving ∷ target_channels (target_role (Live reference stage)))
live_away s station reference stage miss =
    let one = or_false (s.serving.station == station || targets station stage) (drains_at station s.draining) miss in
    let other = or_false (s.serving.station == station) (targets station stage) one.0 in
    AllByRecursion-append (IsAwayFrom station) (undone s.draining) (s.serving ∷ target_channels (target_role (Live reference stage))) (drains_away station s.draining one.1)
    (away_from station s.serving other.0, target_away station reference stage other.1)

-- before the switch confirmed there is no old channel and no target
early_away : (s : Connection) (station : ℕ) (q : Row) →
    s.draining ≡ [] →
    target_channels (target_role s.state) ≡ [] →
    row_if (s.serving.station == station) q ≡ None →
    AllByRecursion (IsAwayFrom station) (used_in (roles_of s))
early_away s station q none alone is =
    subst (λ (ds : List Drain). AllByRecursion (IsAwayFrom station) (undone ds ++ s.serving ∷ target_channels (target_role s.state))) (sym none)
    (away_from station s.serving (none_if (s.serving.station == station) q is), subst (AllByRecursion (IsAwayFrom station)) (sym alone) tt)

down_away : (state : State) (s : Connection) (station : ℕ) →
    s.state ≡ state →
    IsValid s →
    IsOpen state →
    on_station_down state s station ≡ None →
    AllByRecursion (IsAwayFrom station) (used_in (roles_of s))
down_away WaitActivation s station is valid is_open none =
    early_away s station _ (by_state WaitActivation s is valid).0.none_drains (ap (λ (state : State). target_channels (target_role state)) is) none
down_away WaitEstablish s station is valid is_open none =
    early_away s station _ (by_state WaitEstablish s is valid).0.none_drains (ap (λ (state : State). target_channels (target_role state)) is) none
down_away WaitConfirm s station is valid is_open none =
    early_away s station _ (by_state WaitConfirm s is valid).none_drains (ap (λ (state : State). target_channels (target_role state)) is) none
down_away (Live reference stage) s station is valid is_open none =
    subst (λ (state : State). AllByRecursion (IsAwayFrom station) (undone s.draining ++ s.serving ∷ target_channels (target_role state))) (sym is)
    (live_away s station reference stage (none_if (s.serving.station == station || targets station stage || drains_at station s.draining) _ none))
down_away _ s station is valid is_open none = absurd is_open

-- the channels of another station are unchanged
down_in : (channels : States) (station : ℕ) (row : List ChannelState) (state : ChannelState) (cs : List Channel) →
    AllByRecursion (IsAwayFrom station) cs →
    AreIn channels state cs →
    AreIn (set channels station row) state cs
down_in channels station row state [] away all = tt
down_in channels station row state (c ∷ cs) away all = (
  ap (λ (these : List ChannelState). slice_index_or these c.number Free) (get_or-set_other channels station c.station row [] away.0) ∙ all.0,
  down_in channels station row state cs away.1 all.1,
)

down_linked : (links : List Bool) (station : ℕ) (cs : List Channel) →
    AllByRecursion (IsAwayFrom station) cs →
    AllByRecursion (λ c. is_link_up links c.station ≡ true) cs →
    AllByRecursion (λ c. is_link_up (set links station false) c.station ≡ true) cs
down_linked links station [] away all = tt
down_linked links station (c ∷ cs) away all = (other_link links station c.station away.0 ∙ all.0, down_linked links station cs away.1 all.1)

front : (P : Channel → Type 0) (xs ys : List Channel) → AllByRecursion P (xs ++ ys) → AllByRecursion P xs
front P [] ys all = tt
front P (x ∷ xs) ys all = (all.0, front P xs ys all.1)

down_owns : (channels : States) (links : List Bool) (n station : ℕ) (row : List ChannelState) (roles : Roles) →
    AllByRecursion (IsAwayFrom station) (used_in roles) →
    Owns channels links n roles →
    Owns (set channels station row) (set links station false) n roles
down_owns channels links n station row roles away owns = record {
  using = down_in channels station row (InUse n) (roles.serving ∷ target_channels roles.target) (all_behind (IsAwayFrom station) (undone roles.draining) (roles.serving ∷ target_channels roles.target) away) owns.using;
  releasing = down_in channels station row (Releasing n) (undone roles.draining) (front (IsAwayFrom station) (undone roles.draining) (roles.serving ∷ target_channels roles.target) away) owns.releasing;
  apart = owns.apart;
  linked = down_linked links station (used_in roles) away owns.linked;
}

open_present : (state : State) → IsOpen state → IsPresent state
unfolding IsPresent
open_present (Closed clearing) is_open = absurd is_open
open_present Removed is_open = absurd is_open
open_present _ is_open = tt

-- no row fits a break: it is that of a station, and none of its channels are there
break_away : (source : ℕ) (s : Connection) (offer : Option Channel) →
    IsValid s →
    IsOpen s.state →
    row_of s (break_of source) offer ≡ None →
    ((source == SWITCH_LINK) ≡ false) × AllByRecursion (IsAwayFrom source) (used_in (roles_of s))
unfolding row_of
break_away source s offer valid is_open none = elim (cases_Bool (source == SWITCH_LINK)) [
  | inl switch ↦
      let is : break_of source ≡ inputs.SwitchDown = cond-true _ inputs.SwitchDown (inputs.StationDown source) switch in
      absurd (never_none s.state s (open_present s.state is_open) (subst (λ (i : Input). row_of s i offer ≡ None) is none))
  | inr station ↦
      let is : break_of source ≡ inputs.StationDown source = cond-false _ inputs.SwitchDown (inputs.StationDown source) station in
      (station, down_away s.state s source refl valid is_open (subst (λ (i : Input). row_of s i offer ≡ None) is none))
]

-- after the break of a link
break_owns : (b : Bool) (number next source : ℕ) (up : Bool) (channels : States) (links : List Bool) (row : List ChannelState) (before after : Option Connection) (put : List Message) → (source == SWITCH_LINK) ≡ b → Acts number next up (breaks (break_of source)) before put after → IsFine before → OwnsOpen channels links number after →
    OwnsOpen (if b then channels else set channels source row) (set links source false) number after
unfolding IsFine
break_owns b number next source up channels links row before after put is (ages old s is_time was aged silent same) fine owns = absurd cc
break_owns b number next source up channels links row before after put is (opens begins linked channel request delay is_nothing none put_is same) fine owns = absurd cc
break_owns b number next source up channels links row before after put is (takes_row old s input offer r was aged by fits put_is same) fine owns =
    subst (OwnsOpen (if b then channels else set channels source row) (set links source false) number) (sym same)
    (owns_kept (if b then channels else set channels source row) (set links source false) number r.next.state r.next (λ is_open. absurd (break_shut (break_of source) (own_carried source) s offer r (subst (λ (i : Input). row_of s i offer ≡ Some r) by fits) is_open)))
break_owns b number next source up channels links row None after put is (rests silent same none) fine owns = subst (OwnsOpen (if b then channels else set channels source row) (set links source false) number) (sym same) tt
break_owns b number next source up channels links row (Some s) after put is (rests silent same none) fine owns =
    subst (OwnsOpen (if b then channels else set channels source row) (set links source false) number) (sym same)
    (λ is_open.
    let away = break_away source s none.0 fine.1 is_open none.1 in
    subst (λ (d : Bool). Owns (if d then channels else set channels source row) (set links source false) number (roles_of s)) (sym away.0 ∙ is)
    (down_owns channels links number source row (roles_of s) away.1 (subst (OwnsOpen channels links number) same owns is_open)))

-- ---- a step

unfoldable pub AllFine : Controller → Type 0
AllFine c = (n : ℕ) → IsFine (connection_of c n)

pub fine_valid : (c : Controller) → AllFine c → AllValid c
unfolding AllFine AllValid IsFine
fine_valid c fine m e there = (subst IsFine (ap (option_map (λ (x : Entry). x.connection)) there) (fine m)).1

row_free : IsRow free_channels
row_free = length-replicate CHANNEL_NUMBERS Free

shaped_down : (p : Parameters) (channels : States) (station : ℕ) → IsShaped p channels → IsShaped p (set channels station free_channels)
shaped_down p channels station shaped = record {
  links = length_set channels station free_channels ∙ shaped.links;
  rows = all_set IsRow (λ row. free_channels) channels station [] (λ row is. row_free) shaped.rows;
  numbers = shaped.numbers;
}

broken_holds : (b : Bool) (source : ℕ) (links : List Bool) (c : Controller) →
    Holds links c →
    ((n : ℕ) → OwnsOpen (if b then c.channels else set c.channels source free_channels) (set links source false) n (connection_of c n)) →
    Holds (set links source false) (if b then c else freed_station source c)
broken_holds true source links c holds owns = record { shaped = holds.shaped; each = owns }
broken_holds false source links c holds owns = record { shaped = shaped_down c.settings c.channels source holds.shaped; each = owns }

same_connection : (b : Bool) (source : ℕ) (c : Controller) (n : ℕ) →
    connection_of (if b then c else freed_station source c) n ≡ connection_of c n
same_connection true source c n = refl
same_connection false source c n = refl

break_holds : (source : ℕ) (c : Controller) →
    IsNumbered c →
    AllFine c →
    Holds c.links c →
    Holds (set c.links source false) (on_break source c).next
unfolding AllFine
break_holds source c numbered fine holds =
    let down : Controller = with_down source c in
    let f : Controller → Entry → Turn = with_own_input (break_of source) in
    let tame = own_input_tame 1 1 true (break_of source) in
    let there = all_found c.entries numbered.rising in
    let last : Controller = (each f down c.entries).next in
    let all_hold : Holds c.links last = each_holds c.links f tame.rising tame.leaves (λ d e rising found valid owns. own_input_holds c.links d e (break_of source) (break_shut (break_of source) (own_carried source)) rising found valid owns) down c.entries numbered.rising numbered.rising there
    (each_valid c c.entries (fine_valid c fine) there) (record { shaped = holds.shaped; each = holds.each }) in
    broken_holds (source == SWITCH_LINK) source c.links last all_hold
    (λ n.
    let does = break_does n c.next_number true source c numbered.rising in
    break_owns (source == SWITCH_LINK) n c.next_number source true last.channels c.links free_channels (connection_of c n) (connection_of last n) does.put refl
    (subst (λ (after : Option Connection). Acts n c.next_number true (breaks (break_of source)) (connection_of c n) does.put after) (same_connection (source == SWITCH_LINK) source last n) does.acts) (fine n) (all_hold.each n))

what_holds : (up : Bool) (source : ℕ) (what : What) (c : Controller) →
    IsNumbered c →
    AllFine c →
    Holds c.links c →
    Holds (links_with up source what c) (on_what up source what c).next
what_holds true source (whats.Frame frame) c numbered fine holds = word_holds source (word_of source frame) c (word_from source frame) numbered (fine_valid c fine) holds
what_holds true source whats.Down c numbered fine holds = break_holds source c numbered fine holds
what_holds false source (whats.Frame frame) c numbered fine holds = record { shaped = holds.shaped; each = holds.each }
what_holds false source whats.Down c numbered fine holds = record { shaped = holds.shaped; each = holds.each }

pub expiry_holds : (links : List Bool) (o : Option Input) (c : Controller) (e : Entry) →
    IsDue o →
    AreRising c.entries →
    entry_of c e.connection.number ≡ Some e →
    IsValid e.connection →
    Holds links c →
    Holds links (expires o c e).next
expiry_holds links None c e due rising there valid holds = holds
expiry_holds links (Some input) c e due rising there valid holds = own_input_holds links c e input (timer_shut input due) rising there valid holds

pub aged_valid : (ms : ℕ) (xs : List Entry) →
    AllByRecursion (λ (x : Entry). IsValid x.connection) xs →
    AllByRecursion (λ (x : Entry). IsValid x.connection) (map (aged ms) xs)
aged_valid ms [] all = tt
aged_valid ms (x ∷ xs) all = (pass_valid ms x.connection all.0, aged_valid ms xs all.1)

pub aged_owns : (channels : States) (links : List Bool) (n ms : ℕ) (o : Option Entry) →
    OwnsOpen channels links n (option_map (λ (e : Entry). e.connection) o) →
    OwnsOpen channels links n (option_map (λ (e : Entry). e.connection) (option_map (aged ms) o))
aged_owns channels links n ms None owns = tt
aged_owns channels links n ms (Some e) owns = owns

tick_holds : (ms : ℕ) (c : Controller) → IsNumbered c → AllFine c → Holds c.links c → Holds c.links (tick ms c).next
unfolding tick
tick_holds ms c numbered fine holds =
    let old : Controller = all_aged ms c in
    let order = aged_rising ms c.entries numbered.rising in
    let tame = timed_tame 1 1 true in
    each_holds c.links timed tame.rising tame.leaves (λ d e rising found valid owns. expiry_holds c.links (expiry d.settings.timers e.connection) d e (expiry_own _ _) rising found valid owns) old old.entries order order (all_found old.entries order)
    (aged_valid ms c.entries (each_valid c c.entries (fine_valid c fine) (all_found c.entries numbered.rising)))
    (record { shaped = holds.shaped; each = λ n. subst (OwnsOpen c.channels c.links n) (sym (ap (option_map (λ (e : Entry). e.connection)) (all_age n ms c))) (aged_owns c.channels c.links n ms (entry_of c n) (holds.each n)) })

pub step_holds : (c : Controller) (s : Step) → IsNumbered c → AllFine c → Holds c.links c → Holds (step c s).next.links (step c s).next
unfolding take
step_holds c (Take item) numbered fine holds =
    subst (λ (links : List Bool). Holds links (take item c).next) (sym (step_keeps_rest c (Take item)).links_are) (what_holds (is_up c item.source) item.source item.what c numbered fine holds)
step_holds c (Tick ms) numbered fine holds = subst (λ (links : List Bool). Holds links (tick ms c).next) (sym (step_keeps_rest c (Tick ms)).links_are) (tick_holds ms c numbered fine holds)

-- ---- a life

all_replicate : {A : Type 0} (P : A → Type 0) (n : ℕ) (x : A) → P x → AllByRecursion P (replicate n x)
all_replicate P zero x here = tt
all_replicate P (suc n) x here = (here, all_replicate P n x here)

numbers_of : (channels : List ℕ) → AllByRecursion IsChannel channels → AllByRecursion (λ number. number < CHANNEL_NUMBERS) channels
numbers_of [] all = tt
numbers_of (n ∷ ns) all = (omega arith, numbers_of ns all.1)

cells_of : (cells : List CellParameters) → AllByRecursion IsCell cells → AllByRecursion HasNumbers cells
cells_of [] all = tt
cells_of (cell ∷ cells) all = (numbers_of cell.channels (recursion_from_All IsChannel cell.channels all.0.channels.each), cells_of cells all.1)

pub new_holds : (p : Parameters) → AreAllowed p → Holds (new_controller p).links (new_controller p)
new_holds p allowed = record {
  shaped = record {
    links = length-replicate (length p.cells + 1) free_channels;
    rows = all_replicate IsRow (length p.cells + 1) free_channels row_free;
    numbers = cells_of p.cells (recursion_from_All IsCell p.cells allowed.cells.each);
  };
  each = λ n. tt;
}

pub fine_at : (c : Controller) → IsNumbered c → ((n : ℕ) → 1 ≤ n → IsFine (connection_of c n)) → (n : ℕ) → IsFine (connection_of c n)
unfolding IsFine
fine_at c numbered fine zero = subst IsFine (sym (ap (option_map (λ (e : Entry). e.connection)) (find_above 0 c.entries numbered.above))) tt
fine_at c numbered fine (suc n) = fine (suc n) (omega arith)

holds_run : (c : Controller) (steps : List Step) →
    ((n : ℕ) → 1 ≤ n → Fits n c) →
    Holds c.links c →
    Holds (each step c steps).next.links (each step c steps).next
unfolding AllFine
holds_run c [] fits holds = holds
holds_run c (s ∷ ss) fits holds =
    let numbered = (fits 1 (omega arith)).numbered in
    holds_run (step c s).next ss (λ n from_one. step_fits n c s from_one (fits n from_one)) (step_holds c s numbered (fine_at c numbered (λ n from_one. (fits n from_one).fine)) holds)

pub life_owns : (p : Parameters) (steps : List Step) (number : ℕ) →
    AreAllowed p →
    OwnsOpen (life p steps).next.channels (life p steps).next.links number (connection_of (life p steps).next number)
unfolding life
life_owns p steps number allowed = (holds_run (new_controller p) steps (λ n from_one. new_fits n p) (new_holds p allowed)).each number

linked_there : (up : Bool) (o : Option Connection) → IsLinked up o → LinkedOf up o
unfolding IsLinked
linked_there up None linked = tt
linked_there up (Some s) linked = linked

pub life_linked : (p : Parameters) (steps : List Step) (number : ℕ) →
    1 ≤ number →
    LinkedOf (is_up (life p steps).next SWITCH_LINK) (connection_of (life p steps).next number)
life_linked p steps number from_one = linked_there (is_up (life p steps).next SWITCH_LINK) (connection_of (life p steps).next number) (life_fits p steps number from_one).linked
