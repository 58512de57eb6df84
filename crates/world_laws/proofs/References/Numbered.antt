-- SPDX-License-Identifier: MIT OR Apache-2.0
-- Each frame that a step puts is of a connection, whose number is 1 or more, or it is PONG.
use Rattle.world_laws.proofs.Prelude.{◌≡◌, ◌⊎◌, ℕ, ◌≤◌, Bool, true, false, if◌then◌else◌, List, [], ◌∷◌, find, map, Option, Some, None}
use Rattle.world_laws.proofs.Prelude.{refl, sym, subst, inl, inr, AllByRecursion, Channel, Place, Message, Out, outs_of, access_activation}
use Rattle.world_laws.proofs.Prelude.{AllByRecursion-append, Input, Row, IsAbove, IsNumbered, conn_of, ChannelState, Free, InUse, Releasing}
use Rattle.world_laws.proofs.Prelude.{Step, Take, Word, Nothing, Ping, Asks, OnChannel, Reports, OnConnection, access_channel, Controller}
use Rattle.world_laws.proofs.Prelude.{Entry, Turn, turn, each, ignoring, entry_of, with_entry, channel_state, freed, with_down, aged}
use Rattle.world_laws.proofs.Prelude.{all_aged, break_of, by_fitting, concerning, concerning_too, entry_at, expiry, frees, given, may_open}
use Rattle.world_laws.proofs.Prelude.{measured, measures, on_decision, on_expiry, on_freed, on_report, on_state, on_what, on_word, pong}
use Rattle.world_laws.proofs.Prelude.{step, timed, with_report, decision_over, Decision, Stay, What, RequestReference, with_own_input, word_of}
use Rattle.controller_model.specs.declared.step.Step.TheVariants.{Tick}
use Rattle.controller_model.specs.Controller.{is_up, has_number}
use Rattle.controller_model.specs.Life.{take, tick}
use Rattle.dtap_codec.specs.declared.report.Report.{Report}
use Rattle.controller_model.specs.Decision.TheVariants.{Move}
use Rattle.ruled_relay.specs.declared.item.What.TheVariants as whats

abbrev pub IsOfOne : Out → Type 0
IsOfOne out = (1 ≤ out.conn) ⊎ (out ≡ pong out.to)

abbrev pub AreOfOne : List Out → Type 0
AreOfOne outs = AllByRecursion IsOfOne outs

of_messages : (number : ℕ) (ms : List Message) → 1 ≤ number → AreOfOne (outs_of number ms)
of_messages number [] least = tt
of_messages number (m ∷ ms) least = (inl (subst (λ (n : ℕ). 1 ≤ n) (sym (conn_of number m)) least), of_messages number ms least)

found_above : (number : ℕ) (xs : List Entry) (e : Entry) →
    AllByRecursion (IsAbove 0) xs →
    find (has_number number) xs ≡ Some e →
    1 ≤ e.connection.number
found_above number [] e above is = absurd cc
found_above number (x ∷ xs) e above is = by (has_number number x) (found_above number xs e above.1) is where
  same : (let o : Option Entry = Some x in o) ≡ Some e → x ≡ e
  same is = cc

  by : (b : Bool) →
      (find (has_number number) xs ≡ Some e → 1 ≤ e.connection.number) →
      (if b then Some x else find (has_number number) xs) ≡ Some e →
      1 ≤ e.connection.number
  by true rest is = subst (λ (y : Entry). 1 ≤ y.connection.number) (same is) above.0
  by false rest is = rest is

-- ---- the row that fits

of_fitting : (otherwise : Turn) (e : Entry) (o : Option Row) (c : Controller) →
    1 ≤ e.connection.number →
    AreOfOne otherwise.outs →
    AreOfOne (by_fitting otherwise e o c).outs
of_fitting otherwise e None c least same = same
of_fitting otherwise e (Some r) c least same = of_messages e.connection.number r.outs least

of_concerning : (input : Input) (c : Controller) (number : ℕ) (o : Option Entry) →
    entry_of c number ≡ o →
    AllByRecursion (IsAbove 0) c.entries →
    AreOfOne (concerning input c o).outs
of_concerning input c number None is above = tt
of_concerning input c number (Some e) is above = of_fitting (ignoring c) e _ c (found_above number c.entries e above is) tt

of_concerning_too : (input : Input) (c : Controller) (number : ℕ) (o : Option Entry) →
    entry_of c number ≡ o →
    AllByRecursion (IsAbove 0) c.entries →
    AreOfOne (concerning_too input c o).outs
of_concerning_too input c number None is above = tt
of_concerning_too input c number (Some e) is above = of_fitting (turn [] c) e _ c (found_above number c.entries e above is) tt

of_freed : (b : Bool) (at : Place) (input : Input) (c : Controller) (number : ℕ) (o : Option Entry) →
    entry_of c number ≡ o →
    AllByRecursion (IsAbove 0) c.entries →
    AreOfOne (on_freed b at input c o).outs
of_freed true at input c number o is above = of_concerning_too input (freed at c) number o is above
of_freed false at input c number o is above = of_concerning input c number o is above

of_none : (b : Bool) (at : Place) (input : Input) (c : Controller) → AreOfOne (on_freed b at input c None).outs
of_none true at input c = tt
of_none false at input c = tt

of_state : (at : Place) (input : Input) (c : Controller) (state : ChannelState) →
    AllByRecursion (IsAbove 0) c.entries →
    AreOfOne (on_state state at input c (entry_at c state)).outs
of_state at input c Free above = of_none (frees Free None input) at input c
of_state at input c (InUse m) above = of_freed (frees (InUse m) (entry_of c m) input) at input c m (entry_of c m) refl above
of_state at input c (Releasing m) above = of_freed (frees (Releasing m) (entry_of c m) input) at input c m (entry_of c m) refl above

-- ---- a report

of_decision : (d : Decision) (c : Controller) (e : Entry) → 1 ≤ e.connection.number → AreOfOne (on_decision d c e).outs
of_decision Stay c e least = tt
of_decision (Move cell) c e least = of_fitting (turn [] c) e _ c least tt

pub if_measures : (b : Bool) (c : Controller) (t : Turn) → AreOfOne t.outs → AreOfOne (if b then t else ignoring c).outs
if_measures true c t are = are
if_measures false c t are = tt

of_report : (at : Place) (of : ℕ) (report : Report) (c : Controller) (number : ℕ) (o : Option Entry) →
    entry_of c number ≡ o →
    AllByRecursion (IsAbove 0) c.entries →
    AreOfOne (on_report at of report c o).outs
of_report at of report c number None is above = tt
of_report at of report c number (Some e) is above =
    let put : Entry = with_report of report e in
    if_measures (measures at e) c (measured of report c e)
    (of_decision (decision_over put.averages.settings put.averages.reports of) (with_entry put c) put (found_above number c.entries e above is))

of_reports : (at : Place) (of : ℕ) (report : Report) (c : Controller) (state : ChannelState) →
    AllByRecursion (IsAbove 0) c.entries →
    AreOfOne (on_report at of report c (entry_at c state)).outs
of_reports at of report c Free above = tt
of_reports at of report c (InUse m) above = of_report at of report c m (entry_of c m) refl above
of_reports at of report c (Releasing m) above = of_report at of report c m (entry_of c m) refl above

-- ---- a frame

of_given : (c : Controller) (request : RequestReference) (delay : ℕ) (o : Option Channel) →
    1 ≤ c.next_number →
    AreOfOne (given c request delay o).outs
of_given c request delay None least = tt
of_given c request delay (Some channel) least = of_messages c.next_number (access_activation channel ∷ []) least

of_word : (source : ℕ) (word : Word) (c : Controller) → IsNumbered c → AreOfOne (on_word source word c).outs
of_word source Nothing c numbered = tt
of_word source Ping c numbered = (inr refl, tt)
of_word source (Asks request delay) c numbered = if_measures (may_open c) c (given c request delay (access_channel c source)) (of_given c request delay (access_channel c source) numbered.next)
of_word source (OnChannel at input) c numbered = of_state at input c (channel_state c at) numbered.above
of_word source (Reports at of report) c numbered = of_reports at of report c (channel_state c at) numbered.above
of_word source (OnConnection number input) c numbered = of_concerning input c number (entry_of c number) refl numbered.above

-- ---- one connection after the other

of_each : (f : Controller → Entry → Turn) →
    ((c : Controller) (e : Entry) → 1 ≤ e.connection.number → AreOfOne (f c e).outs) →
    (c : Controller) (xs : List Entry) →
    AllByRecursion (IsAbove 0) xs →
    AreOfOne (each f c xs).outs
of_each f own c [] above = tt
of_each f own c (x ∷ xs) above = AllByRecursion-append IsOfOne (f c x).outs (each f (f c x).next xs).outs (own c x above.0) (of_each f own (f c x).next xs above.1)

of_own_input : (input : Input) (c : Controller) (e : Entry) → 1 ≤ e.connection.number → AreOfOne (with_own_input input c e).outs
of_own_input input c e least = of_fitting (turn [] c) e _ c least tt

of_timed : (c : Controller) (e : Entry) → 1 ≤ e.connection.number → AreOfOne (timed c e).outs
of_timed c e least = by (expiry c.settings.timers e.connection) where
  by : (o : Option Input) → AreOfOne (on_expiry o c e).outs
  by None = tt
  by (Some input) = of_own_input input c e least

pub aged_above : (ms : ℕ) (xs : List Entry) → AllByRecursion (IsAbove 0) xs → AllByRecursion (IsAbove 0) (map (aged ms) xs)
aged_above ms [] above = tt
aged_above ms (x ∷ xs) above = (above.0, aged_above ms xs above.1)

of_what : (up : Bool) (source : ℕ) (what : What) (c : Controller) → IsNumbered c → AreOfOne (on_what up source what c).outs
of_what true source (whats.Frame frame) c numbered = of_word source (word_of source frame) c numbered
of_what true source whats.Down c numbered = of_each (with_own_input (break_of source)) (of_own_input (break_of source)) (with_down source c) c.entries numbered.above
of_what false source what c numbered = tt

pub outs_of_one : (c : Controller) (s : Step) → IsNumbered c → AreOfOne (step c s).outs
unfolding take tick
outs_of_one c (Take item) numbered = of_what (is_up c item.source) item.source item.what c numbered
outs_of_one c (Tick ms) numbered = of_each timed of_timed (all_aged ms c) (all_aged ms c).entries (aged_above ms c.entries numbered.above)
