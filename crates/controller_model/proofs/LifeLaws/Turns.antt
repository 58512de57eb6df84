-- SPDX-License-Identifier: MIT OR Apache-2.0
-- What a step does to a connection: a frame, a break of a link, and time that passes.
use Rattle.controller_model.proofs.Prelude.{◌≡◌, ◌≢◌, ℕ, ◌+◌, ◌==◌, ◌≤◌, ◌<◌, Bool, true, false, if◌then◌else◌, List, [], ◌∷◌, ◌++◌, find}
use Rattle.controller_model.proofs.Prelude.{fold, map, Option, Some, None, option_map, refl, sym, subst, ap, ◌∙◌, arith, append-nil}
use Rattle.controller_model.proofs.Prelude.{AllByRecursion, Message, Out, SWITCH_LINK, Input, Connection, Row, after_pass, Channel, Place}
use Rattle.controller_model.proofs.Prelude.{Report, Decision, Stay, Move, What, RequestReference, row_of, Acts, IsAged, passed, Brought}
use Rattle.controller_model.proofs.Prelude.{IsBrought, IsTimer, FitsNone, brought_with, brought_in, nothing, breaks, passes, ages, rests}
use Rattle.controller_model.proofs.Prelude.{opens, takes_row, outs_for, connection_of, IsNumbered, AreRising, IsAbove, IsBelow, Step}
use Rattle.controller_model.proofs.Prelude.{Take, Tick}
use Rattle.controller_model.proofs.Prelude.{Word, Nothing, Ping, Asks, OnChannel, Reports, OnConnection, access_channel, request_offer}
use Rattle.controller_model.proofs.Prelude.{Controller, Entry, Turn, turn, each, ignoring, has_number, entry_of, put_back, with_entry}
use Rattle.controller_model.proofs.Prelude.{with_down, freed, freed_station, channel_state, is_up, by_row, by_fitting, row_in, concerning}
use Rattle.controller_model.proofs.Prelude.{concerning_too, given, may_open, frees, entry_at, on_freed, measures, with_report, measured}
use Rattle.controller_model.proofs.Prelude.{on_decision, on_report, on_word, with_own_input, break_of, on_break, on_what, aged, all_aged, expiry}
use Rattle.controller_model.proofs.Prelude.{timed, step, entry_after, new_entry, word_of, decision_over}
use Rattle.conn_rules.specs.declared.input.Input.TheVariants as inputs
use Rattle.controller_model.proofs.LifeLaws.Acting.{Does, does_nothing, outs_append, outs_other}
use Rattle.controller_model.proofs.LifeLaws.Entries.{back_all, back_rising, all_push, all_weaker, rising_push, find_here, find_behind}
use Rattle.controller_model.proofs.LifeLaws.Words.{fitting_does, word_does, decide_same, none_fits_none}
use Rattle.controller_model.proofs.Others.{own_input_leaves, timed_leaves, all_age}
use Rattle.controller_model.specs.Life.{take, on_expiry, tick}
use Rattle.ruled_relay.specs.declared.item.What.TheVariants as whats

-- ---- an input of the controller's own

own_input_does : (number next : ℕ) (up : Bool) (brought : Brought) (input : Input) (c : Controller) (e : Entry) →
    IsBrought brought input →
    ((s : Connection) (offer : Option Channel) → row_of s input offer ≡ None → FitsNone brought (Some s)) →
    (number ≢ e.connection.number → FitsNone brought (connection_of c number)) →
    AreRising c.entries →
    entry_of c e.connection.number ≡ Some e →
    Does number next up brought (connection_of c number) (with_own_input input c e)
own_input_does number next up brought input c e own misses others rising there =
    fitting_does number next up brought c (turn [] c) e input (request_offer c e.connection input) (row_in c e.connection input) refl rising there refl refl (λ here. own) (λ here none. misses e.connection (request_offer c e.connection input) none) others

fitting_rising : (c : Controller) (otherwise : Turn) (e : Entry) (o : Option Row) →
    AreRising c.entries →
    AreRising otherwise.next.entries →
    AreRising (by_fitting otherwise e o c).next.entries
fitting_rising c otherwise e None rising same = same
fitting_rising c otherwise e (Some r) rising same = back_rising (entry_after c.settings e r) c.entries rising

-- ---- time passes

abbrev pub IsDue : Option Input → Type 0
IsDue None = Unit {0}
IsDue (Some input) = IsTimer input

pub expiry_own : (b d : Bool) → IsDue (if b then Some inputs.Expiry else if d then Some inputs.DrainExpiry else None)
expiry_own false true = tt
expiry_own _ _ = tt

expiry_does : (number next : ℕ) (up : Bool) (o : Option Input) (c : Controller) (e : Entry) →
    IsDue o →
    AreRising c.entries →
    entry_of c e.connection.number ≡ Some e →
    Does number next up passes (connection_of c number) (on_expiry o c e)
expiry_does number next up None c e own rising there = does_nothing number next up passes (connection_of c number) (turn [] c) refl refl tt
expiry_does number next up (Some input) c e own rising there = own_input_does number next up passes input c e own (λ s offer none. tt) (λ differ. tt) rising there

expiry_rising : (o : Option Input) (c : Controller) (e : Entry) → AreRising c.entries → AreRising (on_expiry o c e).next.entries
expiry_rising None c e rising = rising
expiry_rising (Some input) c e rising = fitting_rising c (turn [] c) e (row_in c e.connection input) rising rising

-- ---- one connection after the other

pub all_two : (P Q R : Entry → Type 0) (xs : List Entry) →
    ((x : Entry) → P x → Q x → R x) →
    AllByRecursion P xs →
    AllByRecursion Q xs →
    AllByRecursion R xs
all_two P Q R [] f ps qs = tt
all_two P Q R (x ∷ xs) f ps qs = (f x ps.0 qs.0, all_two P Q R xs f ps.1 qs.1)

abbrev pub IsFound : List Entry → Entry → Type 0
IsFound es x = find (has_number x.connection.number) es ≡ Some x

pub all_found : (xs : List Entry) → AreRising xs → AllByRecursion (IsFound xs) xs
all_found [] rising = tt
all_found (x ∷ xs) rising = (
  find_here x.connection.number x xs refl,
  all_two (IsAbove x.connection.number) (IsFound xs) (IsFound (x ∷ xs)) xs (λ y above found. find_behind y.connection.number x xs (λ same. absurd (omega arith)) ∙ found) rising.0 (all_found xs rising.1),
)

-- what such a step does to the connection itself, and that it leaves all others
pub record IsTame (number next : ℕ) (up : Bool) (brought : Brought) (f : Controller → Entry → Turn) : Type 0 where
  pub does : (c : Controller) (e : Entry) →
      number ≡ e.connection.number →
      AreRising c.entries →
      entry_of c e.connection.number ≡ Some e →
      Does number next up brought (connection_of c number) (f c e)
  pub silent : (c : Controller) (e : Entry) → number ≢ e.connection.number → outs_for number (f c e).outs ≡ []
  pub rising : (c : Controller) (e : Entry) → AreRising c.entries → AreRising (f c e).next.entries
  pub leaves : (m : ℕ) (c : Controller) (e : Entry) → m ≢ e.connection.number → entry_of (f c e).next m ≡ entry_of c m

-- others are with_own_input, and this one is as it was
each_other : (number next : ℕ) (up : Bool) (brought : Brought) (f : Controller → Entry → Turn) →
    IsTame number next up brought f →
    (c : Controller) (xs : List Entry) →
    AllByRecursion (IsAbove number) xs →
    (outs_for number (each f c xs).outs ≡ []) × (connection_of (each f c xs).next number ≡ connection_of c number)
each_other number next up brought f tame c [] above = (refl, refl)
each_other number next up brought f tame c (x ∷ xs) above =
    let differ : number ≢ x.connection.number = λ same. absurd (omega arith) in
    let others = each_other number next up brought f tame (f c x).next xs above.1 in (
      outs_append number (f c x).outs (each f (f c x).next xs).outs ∙ ap (λ (outs : List Out). outs ++ outs_for number (each f (f c x).next xs).outs) (tame.silent c x differ) ∙ others.0,
      others.1 ∙ ap (option_map (λ (e : Entry). e.connection)) (tame.leaves number c x differ),
    )

pub each_does : (number next : ℕ) (up : Bool) (brought : Brought) (f : Controller → Entry → Turn) →
    IsTame number next up brought f →
    (c : Controller) (xs : List Entry) →
    AreRising c.entries →
    AreRising xs →
    AllByRecursion (λ (x : Entry). entry_of c x.connection.number ≡ Some x) xs →
    entry_of c number ≡ find (has_number number) xs →
    Does number next up brought (connection_of c number) (each f c xs)
each_does number next up brought f tame c [] rising order there is = does_nothing number next up brought (connection_of c number) (turn [] c) refl refl (subst (FitsNone brought) (sym (ap (option_map (λ (e : Entry). e.connection)) is)) (none_fits_none brought))
each_does number next up brought f tame c (x ∷ xs) rising order there is =
    decide_same number x.connection.number (Does number next up brought (connection_of c number) (each f c (x ∷ xs)))
    (λ same.
    let own = tame.does c x same rising there.0 in
    let others = each_other number next up brought f tame (f c x).next xs (subst (λ (n : ℕ). AllByRecursion (IsAbove n) xs) (sym same) order.0) in
    record {
      put = own.put;
      outs = outs_append number (f c x).outs (each f (f c x).next xs).outs ∙ ap (λ (outs : List Out). outs_for number (f c x).outs ++ outs) others.0 ∙ append-nil (outs_for number (f c x).outs) ∙ own.outs;
      acts = subst (λ (after : Option Connection). Acts number next up brought (connection_of c number) own.put after) (sym others.1) own.acts;
    })
    (λ differ.
    let rest = each_does number next up brought f tame (f c x).next xs (tame.rising c x rising) order.1
    (all_two (IsAbove x.connection.number) (λ (y : Entry). entry_of c y.connection.number ≡ Some y) (λ (y : Entry). entry_of (f c x).next y.connection.number ≡ Some y) xs
    (λ y above found. tame.leaves y.connection.number c x (λ same. absurd (omega arith)) ∙ found) order.0 there.1) (tame.leaves number c x differ ∙ is ∙ find_behind number x xs differ) in
    record {
      put = rest.put;
      outs = outs_append number (f c x).outs (each f (f c x).next xs).outs ∙ ap (λ (outs : List Out). outs ++ outs_for number (each f (f c x).next xs).outs) (tame.silent c x differ) ∙ rest.outs;
      acts = subst (λ (before : Option Connection). Acts number next up brought before rest.put (connection_of (each f (f c x).next xs).next number)) (ap (option_map (λ (e : Entry). e.connection)) (tame.leaves number c x differ)) rest.acts;
    })

fitting_silent : (number : ℕ) (c : Controller) (e : Entry) (o : Option Row) →
    number ≢ e.connection.number →
    outs_for number (by_fitting (turn [] c) e o c).outs ≡ []
fitting_silent number c e None differ = refl
fitting_silent number c e (Some r) differ = outs_other number e.connection.number r.outs differ

expiry_silent : (number : ℕ) (o : Option Input) (c : Controller) (e : Entry) →
    number ≢ e.connection.number →
    outs_for number (on_expiry o c e).outs ≡ []
expiry_silent number None c e differ = refl
expiry_silent number (Some input) c e differ = fitting_silent number c e (row_in c e.connection input) differ

pub own_input_tame : (number next : ℕ) (up : Bool) (input : Input) → IsTame number next up (breaks input) (with_own_input input)
own_input_tame number next up input = record {
  does = λ c e same rising there. own_input_does number next up (breaks input) input c e refl (λ s offer none. (offer, none)) (λ differ. absurd (differ same)) rising there;
  silent = λ c e differ. fitting_silent number c e (row_in c e.connection input) differ;
  rising = λ c e rising. fitting_rising c (turn [] c) e (row_in c e.connection input) rising rising;
  leaves = λ m c e differ. own_input_leaves m input c e differ;
}

pub timed_tame : (number next : ℕ) (up : Bool) → IsTame number next up passes timed
timed_tame number next up = record {
  does = λ c e same rising there. expiry_does number next up (expiry c.settings.timers e.connection) c e (expiry_own _ _) rising there;
  silent = λ c e differ. expiry_silent number (expiry c.settings.timers e.connection) c e differ;
  rising = λ c e rising. expiry_rising (expiry c.settings.timers e.connection) c e rising;
  leaves = λ m c e differ. timed_leaves m c e differ;
}

-- ---- a break

without_does : (number next : ℕ) (up : Bool) (brought : Brought) (b : Bool) (source : ℕ) (before : Option Connection) (t : Turn) →
    Does number next up brought before t →
    Does number next up brought before (turn t.outs (if b then t.next else freed_station source t.next))
without_does number next up brought true source before t does = record { put = does.put; outs = does.outs; acts = does.acts }
without_does number next up brought false source before t does = record { put = does.put; outs = does.outs; acts = does.acts }

pub break_does : (number next : ℕ) (up : Bool) (source : ℕ) (c : Controller) →
    AreRising c.entries →
    Does number next up (breaks (break_of source)) (connection_of c number) (on_break source c)
break_does number next up source c rising =
    let down : Controller = with_down source c in
    without_does number next up (breaks (break_of source)) (source == SWITCH_LINK) source (connection_of c number) (each (with_own_input (break_of source)) down c.entries)
    (each_does number next up (breaks (break_of source)) (with_own_input (break_of source)) (own_input_tame number next up (break_of source)) down c.entries rising rising (all_found c.entries rising) refl)

what_does : (number : ℕ) (up : Bool) (source : ℕ) (what : What) (c : Controller) →
    1 ≤ number →
    IsNumbered c →
    Does number c.next_number (is_up c SWITCH_LINK) (if up then brought_with c number source what else nothing) (connection_of c number) (on_what up source what c)
what_does number true source (whats.Frame frame) c from_one numbered = word_does number source (word_of source frame) c from_one numbered
what_does number true source whats.Down c from_one numbered = break_does number c.next_number (is_up c SWITCH_LINK) source c numbered.rising
what_does number false source what c from_one numbered = does_nothing number c.next_number (is_up c SWITCH_LINK) nothing (connection_of c number) (ignoring c) refl refl tt

-- ---- a tick

aged_above : (ms low : ℕ) (xs : List Entry) → AllByRecursion (IsAbove low) xs → AllByRecursion (IsAbove low) (map (aged ms) xs)
aged_above ms low [] all = tt
aged_above ms low (x ∷ xs) all = (all.0, aged_above ms low xs all.1)

aged_below : (ms high : ℕ) (xs : List Entry) → AllByRecursion (IsBelow high) xs → AllByRecursion (IsBelow high) (map (aged ms) xs)
aged_below ms high [] all = tt
aged_below ms high (x ∷ xs) all = (all.0, aged_below ms high xs all.1)

pub aged_rising : (ms : ℕ) (xs : List Entry) → AreRising xs → AreRising (map (aged ms) xs)
aged_rising ms [] rising = tt
aged_rising ms (x ∷ xs) rising = (aged_above ms x.connection.number xs rising.0, aged_rising ms xs rising.1)

aged_connection : (ms : ℕ) (o : Option Entry) →
    option_map (λ (e : Entry). e.connection) (option_map (aged ms) o) ≡ option_map (after_pass ms) (option_map (λ (e : Entry). e.connection) o)
aged_connection ms None = refl
aged_connection ms (Some e) = refl

-- time passed first
some_is : (s t : Connection) → Some s ≡ Some t → t ≡ s
some_is s t is = cc

aged_first : (ms : ℕ) (s old now : Connection) → old ≡ after_pass ms s → IsAged old now → IsAged s now
aged_first ms s old now is aged = (ms ∷ aged.0, aged.1 ∙ ap (λ (c : Connection). fold passed c aged.0) is)

aged_acts : (number next : ℕ) (up : Bool) (ms : ℕ) (o : Option Connection) (put : List Message) (after : Option Connection) →
    Acts number next up passes (option_map (after_pass ms) o) put after →
    Acts number next up passes o put after
aged_acts number next up ms None put after (rests silent same none) = rests silent same tt
aged_acts number next up ms None put after (ages old s brought is aged silent same) = absurd cc
aged_acts number next up ms None put after (opens begins linked_up channel request delay brought is put_is same) = absurd cc
aged_acts number next up ms None put after (takes_row old s input offer r is aged by fits put_is same) = absurd cc
aged_acts number next up ms (Some s) put after (rests silent same none) = ages s (after_pass ms s) refl refl (ms ∷ [], refl) silent same
aged_acts number next up ms (Some s) put after (ages old now brought is aged silent same) = ages s now refl refl (aged_first ms s old now (some_is (after_pass ms s) old is) aged) silent same
aged_acts number next up ms (Some s) put after (opens begins linked_up channel request delay brought is put_is same) = absurd cc
aged_acts number next up ms (Some s) put after (takes_row old now input offer r is aged by fits put_is same) = takes_row s now input offer r refl (aged_first ms s old now (some_is (after_pass ms s) old is) aged) by fits put_is same

tick_does : (number next : ℕ) (up : Bool) (ms : ℕ) (c : Controller) →
    AreRising c.entries →
    Does number next up passes (connection_of c number) (tick ms c)
unfolding tick
tick_does number next up ms c rising =
    let old : Controller = all_aged ms c in
    let order = aged_rising ms c.entries rising in
    let after : connection_of old number ≡ option_map (after_pass ms) (connection_of c number) = ap (option_map (λ (e : Entry). e.connection)) (all_age number ms c) ∙ aged_connection ms (entry_of c number) in
    let does = each_does number next up passes timed (timed_tame number next up) old old.entries order order (all_found old.entries order) refl in
    record {
      put = does.put;
      outs = does.outs;
      acts = aged_acts number next up ms (connection_of c number) does.put (connection_of (each timed old old.entries).next number) (subst (λ (before : Option Connection). Acts number next up passes before does.put (connection_of (each timed old old.entries).next number)) after does.acts);
    }

-- ---- a step

pub step_does : (number : ℕ) (c : Controller) (s : Step) →
    1 ≤ number →
    IsNumbered c →
    Does number c.next_number (is_up c SWITCH_LINK) (brought_in c number s) (connection_of c number) (step c s)
unfolding take
step_does number c (Take item) from_one numbered = what_does number (is_up c item.source) item.source item.what c from_one numbered
step_does number c (Tick ms) from_one numbered = tick_does number c.next_number (is_up c SWITCH_LINK) ms c numbered.rising

-- ---- the numbers remain in order

same_numbers : (c next : Controller) → next.entries ≡ c.entries → next.next_number ≡ c.next_number → IsNumbered c → IsNumbered next
same_numbers c next es n numbered = record {
  rising = subst AreRising (sym es) numbered.rising;
  below = subst (λ (xs : List Entry). AllByRecursion (IsBelow next.next_number) xs) (sym es) (subst (λ (m : ℕ). AllByRecursion (IsBelow m) c.entries) (sym n) numbered.below);
  above = subst (λ (xs : List Entry). AllByRecursion (IsAbove 0) xs) (sym es) numbered.above;
  next = subst (λ (m : ℕ). 1 ≤ m) (sym n) numbered.next;
}

back_numbered : (c next : Controller) (e : Entry) →
    next.entries ≡ put_back e c.entries →
    next.next_number ≡ c.next_number →
    IsNumbered c →
    IsNumbered next
back_numbered c next e es n numbered = record {
  rising = subst AreRising (sym es) (back_rising e c.entries numbered.rising);
  below = subst (λ (xs : List Entry). AllByRecursion (IsBelow next.next_number) xs) (sym es) (subst (λ (m : ℕ). AllByRecursion (IsBelow m) (put_back e c.entries)) (sym n) (back_all (λ m. m < c.next_number) e c.entries numbered.below));
  above = subst (λ (xs : List Entry). AllByRecursion (IsAbove 0) xs) (sym es) (back_all (λ m. 0 < m) e c.entries numbered.above);
  next = subst (λ (m : ℕ). 1 ≤ m) (sym n) numbered.next;
}

fitting_numbered : (c : Controller) (otherwise : Turn) (e : Entry) (o : Option Row) →
    IsNumbered c →
    IsNumbered otherwise.next →
    IsNumbered (by_fitting otherwise e o c).next
fitting_numbered c otherwise e None numbered same = same
fitting_numbered c otherwise e (Some r) numbered same = back_numbered c (by_row e r c).next (entry_after c.settings e r) refl refl numbered

concerning_numbered : (input : Input) (c : Controller) (o : Option Entry) → IsNumbered c → IsNumbered (concerning input c o).next
concerning_numbered input c None numbered = same_numbers c (ignoring c).next refl refl numbered
concerning_numbered input c (Some e) numbered = fitting_numbered c (ignoring c) e (row_in c e.connection input) numbered (same_numbers c (ignoring c).next refl refl numbered)

concerning_too_numbered : (input : Input) (c : Controller) (o : Option Entry) → IsNumbered c → IsNumbered (concerning_too input c o).next
concerning_too_numbered input c None numbered = numbered
concerning_too_numbered input c (Some e) numbered = fitting_numbered c (turn [] c) e (row_in c e.connection input) numbered numbered

freed_numbered : (b : Bool) (at : Place) (input : Input) (c : Controller) (o : Option Entry) →
    IsNumbered c →
    IsNumbered (on_freed b at input c o).next
freed_numbered true at input c o numbered = concerning_too_numbered input (freed at c) o (same_numbers c (freed at c) refl refl numbered)
freed_numbered false at input c o numbered = concerning_numbered input c o numbered

given_numbered : (c : Controller) (request : RequestReference) (delay : ℕ) (o : Option Channel) →
    IsNumbered c →
    IsNumbered (given c request delay o).next
given_numbered c request delay None numbered = same_numbers c (ignoring c).next refl refl numbered
given_numbered c request delay (Some channel) numbered =
    let e : Entry = new_entry c.settings c.next_number channel request delay in
    record {
      rising = rising_push c.entries e numbered.rising numbered.below;
      below = all_push (IsBelow (c.next_number + 1)) c.entries e (all_weaker (IsBelow c.next_number) (IsBelow (c.next_number + 1)) c.entries (λ x less. omega arith) numbered.below) (omega arith);
      above = all_push (IsAbove 0) c.entries e numbered.above (let from_one = numbered.next in omega arith);
      next = let from_one = numbered.next in omega arith;
    }

if_numbered : (b : Bool) (c : Controller) (t : Turn) → IsNumbered c → IsNumbered t.next → IsNumbered (if b then t else ignoring c).next
if_numbered true c t numbered after = after
if_numbered false c t numbered after = same_numbers c (ignoring c).next refl refl numbered

decision_numbered : (d : Decision) (c : Controller) (e : Entry) → IsNumbered c → IsNumbered (on_decision d c e).next
decision_numbered Stay c e numbered = numbered
decision_numbered (Move cell) c e numbered = fitting_numbered c (turn [] c) e _ numbered numbered

report_numbered : (at : Place) (of : ℕ) (report : Report) (c : Controller) (o : Option Entry) →
    IsNumbered c →
    IsNumbered (on_report at of report c o).next
report_numbered at of report c None numbered = same_numbers c (ignoring c).next refl refl numbered
report_numbered at of report c (Some e) numbered =
    let put : Entry = with_report of report e in
    if_numbered (measures at e) c (measured of report c e) numbered
    (decision_numbered (decision_over put.averages.settings put.averages.reports of) (with_entry put c) put (back_numbered c (with_entry put c) put refl refl numbered))

word_numbered : (source : ℕ) (word : Word) (c : Controller) → IsNumbered c → IsNumbered (on_word source word c).next
word_numbered source Nothing c numbered = same_numbers c (ignoring c).next refl refl numbered
word_numbered source Ping c numbered = numbered
word_numbered source (Asks request delay) c numbered = if_numbered (may_open c) c (given c request delay (access_channel c source)) numbered (given_numbered c request delay (access_channel c source) numbered)
word_numbered source (OnChannel at input) c numbered = freed_numbered (frees (channel_state c at) (entry_at c (channel_state c at)) input) at input c (entry_at c (channel_state c at)) numbered
word_numbered source (Reports at of report) c numbered = report_numbered at of report c (entry_at c (channel_state c at)) numbered
word_numbered source (OnConnection m input) c numbered = concerning_numbered input c (entry_of c m) numbered

each_numbered : (f : Controller → Entry → Turn) →
    ((c : Controller) (e : Entry) → IsNumbered c → IsNumbered (f c e).next) →
    (c : Controller) (xs : List Entry) →
    IsNumbered c →
    IsNumbered (each f c xs).next
each_numbered f keeps c [] numbered = numbered
each_numbered f keeps c (x ∷ xs) numbered = each_numbered f keeps (f c x).next xs (keeps c x numbered)

own_input_numbered : (input : Input) (c : Controller) (e : Entry) → IsNumbered c → IsNumbered (with_own_input input c e).next
own_input_numbered input c e numbered = concerning_too_numbered input c (Some e) numbered

expiry_numbered : (o : Option Input) (c : Controller) (e : Entry) → IsNumbered c → IsNumbered (on_expiry o c e).next
expiry_numbered None c e numbered = numbered
expiry_numbered (Some input) c e numbered = own_input_numbered input c e numbered

without_numbered : (b : Bool) (source : ℕ) (c : Controller) → IsNumbered c → IsNumbered (if b then c else freed_station source c)
without_numbered true source c numbered = numbered
without_numbered false source c numbered = same_numbers c (freed_station source c) refl refl numbered

what_numbered : (up : Bool) (source : ℕ) (what : What) (c : Controller) → IsNumbered c → IsNumbered (on_what up source what c).next
what_numbered true source (whats.Frame frame) c numbered = word_numbered source (word_of source frame) c numbered
what_numbered true source whats.Down c numbered =
    without_numbered (source == SWITCH_LINK) source (each (with_own_input (break_of source)) (with_down source c) c.entries).next
    (each_numbered (with_own_input (break_of source)) (own_input_numbered (break_of source)) (with_down source c) c.entries (same_numbers c (with_down source c) refl refl numbered))
what_numbered false source what c numbered = same_numbers c (ignoring c).next refl refl numbered

pub aged_numbered : (ms : ℕ) (c : Controller) → IsNumbered c → IsNumbered (all_aged ms c)
aged_numbered ms c numbered = record {
  rising = aged_rising ms c.entries numbered.rising;
  below = aged_below ms c.next_number c.entries numbered.below;
  above = aged_above ms 0 c.entries numbered.above;
  next = numbered.next;
}

pub step_numbered : (c : Controller) (s : Step) → IsNumbered c → IsNumbered (step c s).next
unfolding take tick
step_numbered c (Take item) numbered = what_numbered (is_up c item.source) item.source item.what c numbered
step_numbered c (Tick ms) numbered = each_numbered timed (λ d e n. expiry_numbered (expiry d.settings.timers e.connection) d e n) (all_aged ms c) (all_aged ms c).entries (aged_numbered ms c numbered)
