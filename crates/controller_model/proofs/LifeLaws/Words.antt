-- SPDX-License-Identifier: MIT OR Apache-2.0
-- What a frame does to a connection.
use Rattle.controller_model.proofs.Prelude.{◌≡◌, ◌≢◌, ℕ, ◌==◌, ◌≤◌, nat_le, Bool, true, false, if◌then◌else◌, [], ◌∷◌, Option, Some, None}
use Rattle.controller_model.proofs.Prelude.{option_map, refl, sym, subst, ap, ◌∙◌, inl, inr, arith, true≢false, cases_Bool, cond-true}
use Rattle.controller_model.proofs.Prelude.{cond-false, eqb-true, eq-eqb, ne_eqb, and_parts, Channel, Place, SWITCH_LINK, access_activation}
use Rattle.controller_model.proofs.Prelude.{Input, State, WaitConfirm, Live, Connection}
use Rattle.controller_model.proofs.Prelude.{is_at, Row, Report, Decision, Stay, Move, RequestReference, MAX_CONNECTION_NUMBER, row_of}
use Rattle.controller_model.proofs.Prelude.{Brought, IsBrought, FitsNone, if_held, brought_by, opens, nothing, of_frame, reports, outs_for}
use Rattle.controller_model.proofs.Prelude.{connection_of, IsNumbered, AreRising, ChannelState, Free, InUse, Releasing, Word, Nothing, Ping}
use Rattle.controller_model.proofs.Prelude.{Asks, OnChannel, Reports, OnConnection, access_channel, handover_offer, request_offer}
use Rattle.controller_model.proofs.Prelude.{Controller, Entry, Turn, turn, ignoring, is_up, entry_of, with_entry, channel_state, holder}
use Rattle.controller_model.proofs.Prelude.{freed, by_fitting, concerning, concerning_too, given, with_connection, new_entry, may_open}
use Rattle.controller_model.proofs.Prelude.{frees, entry_at, on_freed, on_state, is_measured, measures, on_decision, with_report, measured}
use Rattle.controller_model.proofs.Prelude.{on_report, pong, on_word, decision_over}
use Rattle.conn_rules.specs.declared.input.Input.TheVariants as inputs
use Rattle.controller_model.proofs.LifeLaws.Acting.{Does, does_nothing, row_does, outs_own, outs_other}
use Rattle.controller_model.proofs.LifeLaws.Entries.{entry_kept, back_rising, back_over, back_found, found_number, find_below, behind_over, behind_found}

connection_at : (c : Controller) (number : ℕ) (o : Option Entry) →
    entry_of c number ≡ o →
    connection_of c number ≡ option_map (λ (e : Entry). e.connection) o
connection_at c number o is = ap (option_map (λ (e : Entry). e.connection)) is

-- ---- whose an input is

held_own : (number m : ℕ) (input : Input) → number ≡ m → if_held number (Some m) input ≡ of_frame input
held_own number m input same = cond-true _ _ _ (eq-eqb m number (sym same))

held_other : (number m : ℕ) (input : Input) → number ≢ m → if_held number (Some m) input ≡ nothing
held_other number m input differ = cond-false _ _ _ (ne_eqb m number (λ same. differ (sym same)))

pub none_fits_none : (brought : Brought) → FitsNone brought None
none_fits_none (of_frame input) = tt
none_fits_none _ = tt

none_for_other : (number m : ℕ) (input : Input) (o : Option Connection) → number ≢ m → FitsNone (if_held number (Some m) input) o
none_for_other number m input o differ = subst (λ (b : Brought). FitsNone b o) (sym (held_other number m input differ)) tt

pub decide_same : (number m : ℕ) → (P : Type 0) → (number ≡ m → P) → (number ≢ m → P) → P
decide_same number m P own other = elim (cases_Bool (number == m)) [
  | inl hit ↦ own (eqb-true number m hit)
  | inr miss ↦ other (λ same. absurd (true≢false (sym (eq-eqb number m same) ∙ miss)))
]

-- ---- the row that fits, or none

pub fitting_does : (number next : ℕ) (up : Bool) (brought : Brought) (c : Controller) (otherwise : Turn) (e : Entry) (input : Input) (offer : Option Channel) (o : Option Row) → row_of e.connection input offer ≡ o → AreRising c.entries → entry_of c e.connection.number ≡ Some e →
    outs_for number otherwise.outs ≡ [] → connection_of otherwise.next number ≡ connection_of c number →
    (number ≡ e.connection.number → IsBrought brought input) → (number ≡ e.connection.number → row_of e.connection input offer ≡ None → FitsNone brought (Some e.connection)) →
    (number ≢ e.connection.number → FitsNone brought (connection_of c number)) → Does number next up brought (connection_of c number) (by_fitting otherwise e o c)
fitting_does number next up brought c otherwise e input offer None fits rising there silent same own misses others =
    does_nothing number next up brought (connection_of c number) otherwise silent same
    (decide_same number e.connection.number (FitsNone brought (connection_of c number))
    (λ here. subst (FitsNone brought) (sym (connection_at c number (Some e) (subst (λ (n : ℕ). entry_of c n ≡ Some e) (sym here) there))) (misses here fits))
    others)
fitting_does number next up brought c otherwise e input offer (Some r) fits rising there silent same own misses others =
    row_does number next up brought c e e input offer r rising there fits own (connection_of c number)
    (λ here. connection_at c number (Some e) (subst (λ (n : ℕ). entry_of c n ≡ Some e) (sym here) there))
    (λ differ. (refl, others differ))

-- an input that is brought to the connection of a number
concerning_by : (number next : ℕ) (up : Bool) (m : ℕ) (c : Controller) (otherwise : Turn) (e : Entry) (input : Input) (offer : Option Channel) → AreRising c.entries → entry_of c m ≡ Some e →
    outs_for number otherwise.outs ≡ [] → connection_of otherwise.next number ≡ connection_of c number →
    Does number next up (if_held number (Some m) input) (connection_of c number) (by_fitting otherwise e (row_of e.connection input offer) c)
concerning_by number next up m c otherwise e input offer rising there silent same =
    let is : e.connection.number ≡ m = found_number m c.entries e there in
    fitting_does number next up (if_held number (Some m) input) c otherwise e input offer (row_of e.connection input offer) refl rising (subst (λ (n : ℕ). entry_of c n ≡ Some e) (sym is) there) silent same
    (λ here. subst (λ (b : Brought). IsBrought b input) (sym (held_own number m input (here ∙ is))) refl)
    (λ here misses. subst (λ (b : Brought). FitsNone b (Some e.connection)) (sym (held_own number m input (here ∙ is))) (offer, misses))
    (λ differ. none_for_other number m input (connection_of c number) (λ same. differ (same ∙ sym is)))

-- nobody has that number
nobody_does : (number next : ℕ) (up : Bool) (m : ℕ) (c : Controller) (input : Input) (t : Turn) →
    entry_of c m ≡ None →
    outs_for number t.outs ≡ [] →
    connection_of t.next number ≡ connection_of c number →
    Does number next up (if_held number (Some m) input) (connection_of c number) t
nobody_does number next up m c input t none silent same =
    does_nothing number next up (if_held number (Some m) input) (connection_of c number) t silent same
    (decide_same number m (FitsNone (if_held number (Some m) input) (connection_of c number))
    (λ here. subst (FitsNone (if_held number (Some m) input)) (sym (connection_at c number None (subst (λ (n : ℕ). entry_of c n ≡ None) (sym here) none))) (none_fits_none (if_held number (Some m) input)))
    (λ differ. none_for_other number m input (connection_of c number) differ))

concerning_does : (number next : ℕ) (up : Bool) (m : ℕ) (c : Controller) (input : Input) (o : Option Entry) →
    AreRising c.entries →
    entry_of c m ≡ o →
    Does number next up (if_held number (Some m) input) (connection_of c number) (concerning input c o)
concerning_does number next up m c input None rising is = nobody_does number next up m c input (ignoring c) is refl refl
concerning_does number next up m c input (Some e) rising is = concerning_by number next up m c (ignoring c) e input (request_offer c e.connection input) rising is refl refl

-- a channel was freed before
concerning_too_does : (number next : ℕ) (up : Bool) (m : ℕ) (c : Controller) (input : Input) (o : Option Entry) →
    AreRising c.entries →
    entry_of c m ≡ o →
    Does number next up (if_held number (Some m) input) (connection_of c number) (concerning_too input c o)
concerning_too_does number next up m c input None rising is = nobody_does number next up m c input (turn [] c) is refl refl
concerning_too_does number next up m c input (Some e) rising is = concerning_by number next up m c (turn [] c) e input (request_offer c e.connection input) rising is refl refl

freed_does : (number next : ℕ) (up : Bool) (m : ℕ) (b : Bool) (at : Place) (c : Controller) (input : Input) (o : Option Entry) →
    AreRising c.entries →
    entry_of c m ≡ o →
    Does number next up (if_held number (Some m) input) (connection_of c number) (on_freed b at input c o)
freed_does number next up m true at c input o rising is = concerning_too_does number next up m (freed at c) input o rising is
freed_does number next up m false at c input o rising is = concerning_does number next up m c input o rising is

free_does : (number next : ℕ) (up : Bool) (b : Bool) (at : Place) (c : Controller) (input : Input) →
    Does number next up nothing (connection_of c number) (on_freed b at input c None)
free_does number next up true at c input = does_nothing number next up nothing (connection_of c number) (turn [] (freed at c)) refl refl tt
free_does number next up false at c input = does_nothing number next up nothing (connection_of c number) (ignoring c) refl refl tt

channel_does : (number next : ℕ) (up : Bool) (at : Place) (c : Controller) (input : Input) (state : ChannelState) →
    AreRising c.entries →
    Does number next up (if_held number (holder state) input) (connection_of c number) (on_state state at input c (entry_at c state))
channel_does number next up at c input Free rising = free_does number next up (frees Free None input) at c input
channel_does number next up at c input (InUse m) rising = freed_does number next up m (frees (InUse m) (entry_of c m) input) at c input (entry_of c m) rising refl
channel_does number next up at c input (Releasing m) rising = freed_does number next up m (frees (Releasing m) (entry_of c m) input) at c input (entry_of c m) rising refl

-- ---- a connection begins

given_does : (number : ℕ) (c : Controller) (request : RequestReference) (delay : ℕ) (o : Option Channel) →
    IsNumbered c →
    is_up c SWITCH_LINK ≡ true →
    Does number c.next_number (is_up c SWITCH_LINK) nothing (connection_of c number) (given c request delay o)
given_does number c request delay None numbered up = does_nothing number c.next_number (is_up c SWITCH_LINK) nothing (connection_of c number) (ignoring c) refl refl tt
given_does number c request delay (Some channel) numbered up =
    let e : Entry = new_entry c.settings c.next_number channel request delay in
    let t : Turn = with_connection c channel request delay in
    let none : entry_of c c.next_number ≡ None = find_below c.next_number c.entries numbered.below in
    decide_same number c.next_number (Does number c.next_number (is_up c SWITCH_LINK) nothing (connection_of c number) t)
    (λ same. subst (λ (n : ℕ). Does n c.next_number (is_up c SWITCH_LINK) nothing (connection_of c n) t) (sym same)
    (record {
      put = access_activation channel ∷ [];
      outs = outs_own c.next_number (access_activation channel ∷ []);
      acts = opens refl up channel request delay refl (connection_at c c.next_number None none) refl
          (ap (option_map (λ (x : Entry). x.connection)) (behind_found e c.entries none));
    }))
    (λ differ. does_nothing number c.next_number (is_up c SWITCH_LINK) nothing (connection_of c number) t (outs_other number c.next_number (access_activation channel ∷ []) differ)
    (ap (option_map (λ (x : Entry). x.connection)) (behind_over number e c.entries differ)) tt)

asked_does : (number : ℕ) (b : Bool) (c : Controller) (t : Turn) →
    (b ≡ true → Does number c.next_number (is_up c SWITCH_LINK) nothing (connection_of c number) t) →
    Does number c.next_number (is_up c SWITCH_LINK) nothing (connection_of c number) (if b then t else ignoring c)
asked_does number true c t does = does refl
asked_does number false c t does = does_nothing number c.next_number (is_up c SWITCH_LINK) nothing (connection_of c number) (ignoring c) refl refl tt

-- ---- a report

pub measured_remains : (state : State) (e : Entry) → is_measured state ≡ true → entry_kept state e ≡ Some e
measured_remains WaitConfirm e is = refl
measured_remains (Live reference stage) e is = refl
measured_remains _ e is = absurd (true≢false (sym is))

decision_does : (number next : ℕ) (up : Bool) (d : Decision) (c : Controller) (e : Entry) →
    AreRising c.entries →
    entry_of c e.connection.number ≡ Some e →
    Does number next up reports (connection_of c number) (on_decision d c e)
decision_does number next up Stay c e rising there = does_nothing number next up reports (connection_of c number) (turn [] c) refl refl tt
decision_does number next up (Move cell) c e rising there =
    fitting_does number next up reports c (turn [] c) e inputs.Move (handover_offer c e.connection.serving cell) _ refl rising there refl refl (λ here. refl) (λ here misses. tt) (λ differ. tt)

measured_does : (number next : ℕ) (up : Bool) (of : ℕ) (report : Report) (c : Controller) (e : Entry) →
    AreRising c.entries →
    entry_of c e.connection.number ≡ Some e →
    is_measured e.connection.state ≡ true →
    Does number next up reports (connection_of c number) (measured of report c e)
measured_does number next up of report c e rising there is =
    let put : Entry = with_report of report e in
    let c' : Controller = with_entry put c in
    let found : entry_of c' e.connection.number ≡ Some put = back_found put e c.entries rising there ∙ measured_remains e.connection.state put is in
    let same : connection_of c' number ≡ connection_of c number =
    decide_same number e.connection.number (connection_of c' number ≡ connection_of c number)
    (λ here. subst (λ (n : ℕ). connection_of c' n ≡ connection_of c n) (sym here) (connection_at c' e.connection.number (Some put) found ∙ sym (connection_at c e.connection.number (Some e) there)))
    (λ differ. ap (option_map (λ (x : Entry). x.connection)) (back_over number put c.entries differ)) in
    subst (λ (before : Option Connection). Does number next up reports before (measured of report c e)) same
    (decision_does number next up (decision_over put.averages.settings put.averages.reports of) c' put (back_rising put c.entries rising) found)

if_measures : (number next : ℕ) (up : Bool) (b : Bool) (of : ℕ) (report : Report) (c : Controller) (e : Entry) →
    (b ≡ true → Does number next up reports (connection_of c number) (measured of report c e)) →
    Does number next up reports (connection_of c number) (if b then measured of report c e else ignoring c)
if_measures number next up true of report c e does = does refl
if_measures number next up false of report c e does = does_nothing number next up reports (connection_of c number) (ignoring c) refl refl tt

report_does : (number next : ℕ) (up : Bool) (at : Place) (of : ℕ) (report : Report) (c : Controller) (m : ℕ) (o : Option Entry) →
    AreRising c.entries →
    entry_of c m ≡ o →
    Does number next up reports (connection_of c number) (on_report at of report c o)
report_does number next up at of report c m None rising there = does_nothing number next up reports (connection_of c number) (ignoring c) refl refl tt
report_does number next up at of report c m (Some e) rising there =
    let is : e.connection.number ≡ m = found_number m c.entries e there in
    if_measures number next up (measures at e) of report c e
    (λ measured. measured_does number next up of report c e rising (subst (λ (n : ℕ). entry_of c n ≡ Some e) (sym is) there) (and_parts (is_at at e.connection.serving) (is_measured e.connection.state) measured).1)

report_on_does : (number next : ℕ) (up : Bool) (at : Place) (of : ℕ) (report : Report) (c : Controller) (state : ChannelState) →
    AreRising c.entries →
    Does number next up reports (connection_of c number) (on_report at of report c (entry_at c state))
report_on_does number next up at of report c Free rising = does_nothing number next up reports (connection_of c number) (ignoring c) refl refl tt
report_on_does number next up at of report c (InUse m) rising = report_does number next up at of report c m (entry_of c m) rising refl
report_on_does number next up at of report c (Releasing m) rising = report_does number next up at of report c m (entry_of c m) rising refl

-- ---- a frame

pub word_does : (number source : ℕ) (word : Word) (c : Controller) →
    1 ≤ number →
    IsNumbered c →
    Does number c.next_number (is_up c SWITCH_LINK) (brought_by c number word) (connection_of c number) (on_word source word c)
word_does number source Nothing c from_one numbered = does_nothing number c.next_number (is_up c SWITCH_LINK) nothing (connection_of c number) (ignoring c) refl refl tt
word_does number source Ping c from_one numbered = does_nothing number c.next_number (is_up c SWITCH_LINK) nothing (connection_of c number) (turn (pong source ∷ []) c) (cond-false _ _ _ (ne_eqb 0 number (λ same. absurd (omega arith)))) refl tt
word_does number source (Asks request delay) c from_one numbered =
    asked_does number (may_open c) c (given c request delay (access_channel c source))
    (λ may. given_does number c request delay (access_channel c source) numbered (and_parts (is_up c SWITCH_LINK) (nat_le c.next_number MAX_CONNECTION_NUMBER) may).0)
word_does number source (OnChannel at input) c from_one numbered = channel_does number c.next_number (is_up c SWITCH_LINK) at c input (channel_state c at) numbered.rising
word_does number source (Reports at of report) c from_one numbered = report_on_does number c.next_number (is_up c SWITCH_LINK) at of report c (channel_state c at) numbered.rising
word_does number source (OnConnection m input) c from_one numbered = concerning_does number c.next_number (is_up c SWITCH_LINK) m c input (entry_of c m) numbered.rising refl
