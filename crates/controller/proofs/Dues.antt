-- SPDX-License-Identifier: MIT OR Apache-2.0
-- Events of all connections, step by step: each connection does its step from its own state, since
-- the others' steps left it as it was.
use Rattle.controller.proofs.Prelude.{◌≡◌, ◌≢◌, ℕ, cond, List, [], ◌∷◌, ◌++◌, find, map, Option, Some, None, refl, sym, subst, ap, ◌∙◌}
use Rattle.controller.proofs.Prelude.{arith, eq-eqb, AllByRecursion, Input, Connection, Row, AreRising, Controller, Entry, Turn, turn, each}
use Rattle.controller.proofs.Prelude.{has_number, entry_of, aged, all_aged, by_fitting, concerning_too, Parameters}
use Rattle.std.proofs.lemmas.List.{map-id}
use Rattle.std.proofs.lemmas.Bool.{ne_eqb}
use Rattle.conn_fsm.specs.Doing.{IsAsPlanned, IsPlanned}
use Rattle.conn_rules.specs.declared.input.Input.TheVariants as inputs
use Rattle.conn_rules.specs.Table.{row_of}
use Rattle.conn_rules.specs.Timers.{after_pass}
use Rattle.connections.specs.Entries.{IsAbove}
use Rattle.controller.specs.declared.many.Cause.{Cause}
use Rattle.controller.specs.declared.many.Cause.TheVariants.{Time, Break}
use Rattle.controller.specs.Many.{Due, due, due_with, all_due, carried_out, IsReadyFor, AreReady}
use Rattle.controller_model.specs.Life.{break_of, expiry, on_expiry, row_in, timed, with_own_input}
use Rattle.controller_model.proofs.Others.{own_input_leaves}
use Rattle.settings.specs.declared.timers.Timers.{Timers}

-- ---- an expiry, or a link that broke, begins no change

pub no_offer : (c : Controller) (s : Connection) (input : Input) → IsPlanned input → row_in c s input ≡ row_of s input None
unfolding row_of
no_offer c s inputs.Expiry planned = refl
no_offer c s inputs.DrainExpiry planned = refl
no_offer c s (inputs.StationDown station) planned = refl
no_offer c s inputs.SwitchDown planned = refl
no_offer c s _ planned = absurd planned

-- ---- connections that are there, none twice

abbrev IsOther : ℕ → Entry → Type 0
IsOther number e = e.connection.number ≢ number

abbrev pub AreThere : List Entry → List Entry → Type 0
AreThere [] es = Unit {0}
AreThere (x ∷ xs) es = (find (has_number x.connection.number) es ≡ Some x) × AllByRecursion (IsOther x.connection.number) xs × AreThere xs es

abbrev Keeps : ℕ → List Entry → List Entry → Type 0
Keeps number es others = (m : ℕ) → m ≢ number → find (has_number m) others ≡ find (has_number m) es

-- what leaves the others keeps them
still_there : (number : ℕ) (xs es others : List Entry) →
    Keeps number es others →
    AllByRecursion (IsOther number) xs →
    AreThere xs es →
    AreThere xs others
still_there number [] es others keeps other there = tt
still_there number (x ∷ xs) es others keeps other there =
    (keeps x.connection.number other.0 ∙ there.0, there.1, still_there number xs es others keeps other.1 there.2)

abbrev IsOtherDue : ℕ → Due → Type 0
IsOtherDue number d = d.number ≢ number

pub still_ready : (number : ℕ) (ds : List Due) (es others : List Entry) →
    Keeps number es others →
    AllByRecursion (λ (other : Due). other.number ≢ number) ds →
    AreReady ds es →
    AreReady ds others
still_ready number [] es others keeps other ready = tt
still_ready number (d ∷ ds) es others keeps other ready =
    (subst (IsReadyFor d.was) (sym (keeps d.number other.0)) ready.0, ready.1, still_ready number ds es others keeps other.1 ready.2)

-- ---- one step

fitting_settings : (c : Controller) (e : Entry) (r : Option Row) → (by_fitting (turn [] c) e r c).next.settings ≡ c.settings
fitting_settings c e None = refl
fitting_settings c e (Some r) = refl

expiry_settings : (o : Option Input) (c : Controller) (e : Entry) → (on_expiry o c e).next.settings ≡ c.settings
expiry_settings None c e = refl
expiry_settings (Some input) c e = fitting_settings c e (row_in c e.connection input)

expiry_keeps : (o : Option Input) (c : Controller) (e : Entry) → Keeps e.connection.number c.entries (on_expiry o c e).next.entries
expiry_keeps None c e m other = refl
expiry_keeps (Some input) c e m other = own_input_leaves m input c e other

-- ---- all steps

-- where a connection gets an input, its step is that of the entry with its number
after_due : (o : Option Input) (s : Connection) (e : Entry) (c : Controller) (ds : List Due) (rest : Turn) → entry_of c s.number ≡ Some e → rest ≡ each carried_out (on_expiry o c e).next ds →
    turn ((on_expiry o c e).outs ++ rest.outs) rest.next ≡ each carried_out c (due_with o s ++ ds)
after_due None s e c ds rest found same = same
after_due (Some input) s e c ds rest found same =
    subst (λ (o : Option Entry). turn ((with_own_input input c e).outs ++ rest.outs) rest.next ≡ turn ((concerning_too input c o).outs ++ (each carried_out (concerning_too input c o).next ds).outs) (each carried_out (concerning_too input c o).next ds).next) (sym found)
    (ap (λ (t : Turn). turn ((with_own_input input c e).outs ++ t.outs) t.next) same)

each_due : (cause : Cause) (p : Parameters) (step : Controller → Entry → Turn) (now : Entry → Entry) →
    ((c : Controller) (x : Entry) → c.settings ≡ p → step c (now x) ≡ on_expiry (due cause p.timers x.connection) c (now x)) →
    ((x : Entry) → (now x).connection.number ≡ x.connection.number) →
    (xs : List Entry) (c : Controller) → c.settings ≡ p → AreThere (map now xs) c.entries → each step c (map now xs) ≡ each carried_out c (all_due cause p.timers xs)
each_due cause p step now does number [] c at there = refl
each_due cause p step now does number (x ∷ xs) c at there =
    let o : Option Input = due cause p.timers x.connection in
    ap (λ (t : Turn). turn (t.outs ++ (each step t.next (map now xs)).outs) (each step t.next (map now xs)).next) (does c x at)
    ∙ after_due (due cause p.timers x.connection) x.connection (now x) c (all_due cause p.timers xs) (each step (on_expiry (due cause p.timers x.connection) c (now x)).next (map now xs))
    (subst (λ (n : ℕ). find (has_number n) c.entries ≡ Some (now x)) (number x) there.0)
    (each_due cause p step now does number xs (on_expiry (due cause p.timers x.connection) c (now x)).next (expiry_settings (due cause p.timers x.connection) c (now x) ∙ at)
    (still_there (now x).connection.number (map now xs) c.entries (on_expiry (due cause p.timers x.connection) c (now x)).next.entries (expiry_keeps (due cause p.timers x.connection) c (now x)) there.1 there.2))

-- ---- all are ready

others_with : (number : ℕ) (o : Option Input) (s : Connection) (ds : List Due) →
    s.number ≢ number →
    AllByRecursion (IsOtherDue number) ds →
    AllByRecursion (IsOtherDue number) (due_with o s ++ ds)
others_with number None s ds other others = others
others_with number (Some input) s ds other others = (other, others)

others_due : (number : ℕ) (cause : Cause) (timers : Timers) (now : Entry → Entry) →
    ((x : Entry) → (now x).connection.number ≡ x.connection.number) →
    (xs : List Entry) →
    AllByRecursion (IsOther number) (map now xs) →
    AllByRecursion (IsOtherDue number) (all_due cause timers xs)
others_due number cause timers now same [] others = tt
others_due number cause timers now same (x ∷ xs) others =
    others_with number (due cause timers x.connection) x.connection (all_due cause timers xs) (λ is. others.0 (same x ∙ is)) (others_due number cause timers now same xs others.1)

ready_with : (o : Option Input) (s : Connection) (e : Entry) (ds : List Due) (es : List Entry) → IsAsPlanned s e.connection → find (has_number s.number) es ≡ Some e → AllByRecursion (IsOtherDue s.number) ds → AreReady ds es →
    AreReady (due_with o s ++ ds) es
ready_with None s e ds es as_planned found others ready = ready
ready_with (Some input) s e ds es as_planned found others ready = (subst (IsReadyFor s) (sym found) as_planned, others, ready)

ready_dues : (cause : Cause) (timers : Timers) (now : Entry → Entry) → ((x : Entry) → (now x).connection.number ≡ x.connection.number) → ((x : Entry) → IsAsPlanned x.connection (now x).connection) →
    (xs es : List Entry) → AreThere (map now xs) es → AreReady (all_due cause timers xs) es
ready_dues cause timers now same as_planned [] es there = tt
ready_dues cause timers now same as_planned (x ∷ xs) es there =
    ready_with (due cause timers x.connection) x.connection (now x) (all_due cause timers xs) es (as_planned x)
    (subst (λ (n : ℕ). find (has_number n) es ≡ Some (now x)) (same x) there.0)
    (others_due x.connection.number cause timers now same xs (subst (λ (n : ℕ). AllByRecursion (IsOther n) (map now xs)) (same x) there.1))
    (ready_dues cause timers now same as_planned xs es there.2)

-- ---- numbers rise

above_others : (number : ℕ) (es : List Entry) → AllByRecursion (IsAbove number) es → AllByRecursion (IsOther number) es
above_others number [] above = tt
above_others number (x ∷ xs) above = ((λ same. omega (arith, above.0, same)), above_others number xs above.1)

rising_there : (es : List Entry) → AreRising es → AreThere es es
rising_there [] rising = tt
rising_there (x ∷ xs) rising = (
  ap (λ b. cond b (Some x) (find (has_number x.connection.number) xs)) (eq-eqb x.connection.number x.connection.number refl),
  above_others x.connection.number xs rising.0,
  still_there x.connection.number xs xs (x ∷ xs) (λ m other. ap (λ b. cond b (Some x) (find (has_number m) xs)) (ne_eqb x.connection.number m (λ same. other (sym same)))) (above_others x.connection.number xs rising.0) (rising_there xs rising.1),
)

above_aged : (number ms : ℕ) (es : List Entry) → AllByRecursion (IsAbove number) es → AllByRecursion (IsAbove number) (map (aged ms) es)
above_aged number ms [] above = tt
above_aged number ms (x ∷ xs) above = (above.0, above_aged number ms xs above.1)

rising_aged : (ms : ℕ) (es : List Entry) → AreRising es → AreRising (map (aged ms) es)
rising_aged ms [] rising = tt
rising_aged ms (x ∷ xs) rising = (above_aged x.connection.number ms xs rising.0, rising_aged ms xs rising.1)

-- ---- a break

same_map : (es : List Entry) → map (λ (x : Entry). x) es ≡ es
same_map es = map-id es

pub break_dues : (source : ℕ) (c : Controller) (es : List Entry) → AreRising es → c.entries ≡ es →
    each (with_own_input (break_of source)) c es ≡ each carried_out c (all_due (Break source) c.settings.timers es)
break_dues source c es rising is =
    subst (λ (xs : List Entry). each (with_own_input (break_of source)) c xs ≡ each carried_out c (all_due (Break source) c.settings.timers es)) (same_map es)
    (each_due (Break source) c.settings (with_own_input (break_of source)) (λ x. x) (λ d x at. refl) (λ x. refl) es c refl
    (subst (λ (xs : List Entry). AreThere xs c.entries) (sym (same_map es)) (subst (AreThere es) (sym is) (rising_there es rising))))

pub break_ready : (source : ℕ) (timers : Timers) (es : List Entry) → AreRising es → AreReady (all_due (Break source) timers es) es
break_ready source timers es rising =
    ready_dues (Break source) timers (λ x. x) (λ x. refl) (λ x. refl) es es (subst (λ (xs : List Entry). AreThere xs es) (sym (same_map es)) (rising_there es rising))

-- ---- time

timed_due : (ms : ℕ) (p : Parameters) (c : Controller) (x : Entry) →
    c.settings ≡ p →
    timed c (aged ms x) ≡ on_expiry (due (Time ms) p.timers x.connection) c (aged ms x)
timed_due ms p c x at = ap (λ (q : Parameters). on_expiry (expiry q.timers (after_pass ms x.connection)) c (aged ms x)) at

pub time_dues : (ms : ℕ) (c : Controller) → AreRising c.entries →
    each timed (all_aged ms c) (all_aged ms c).entries ≡ each carried_out (all_aged ms c) (all_due (Time ms) c.settings.timers c.entries)
time_dues ms c rising =
    each_due (Time ms) c.settings timed (aged ms) (timed_due ms c.settings) (λ x. refl) c.entries (all_aged ms c) refl
    (rising_there (map (aged ms) c.entries) (rising_aged ms c.entries rising))

pub time_ready : (ms : ℕ) (timers : Timers) (es : List Entry) → AreRising es → AreReady (all_due (Time ms) timers es) (map (aged ms) es)
time_ready ms timers es rising =
    ready_dues (Time ms) timers (aged ms) (λ x. refl) (λ x. refl) es (map (aged ms) es) (rising_there (map (aged ms) es) (rising_aged ms es rising))
