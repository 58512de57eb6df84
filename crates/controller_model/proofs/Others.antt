-- SPDX-License-Identifier: MIT OR Apache-2.0
-- An input to one connection leaves all others as they are.
use Rattle.controller_model.proofs.Prelude.{◌≡◌, ◌≢◌, ℕ, Bool, true, false, cond, if◌then◌else◌, List, [], ◌∷◌, ◌++◌, find, map, Option}
use Rattle.controller_model.proofs.Prelude.{Some, None, option_map, refl, sym, subst, ap, ◌∙◌, inl, inr, cases_Bool, Channel, Place, Input}
use Rattle.controller_model.proofs.Prelude.{Row, OfRow, Report, Decision, Stay, Move, RequestReference, ChannelState, Free, InUse}
use Rattle.controller_model.proofs.Prelude.{Releasing, Word, Asks, OnChannel, Reports, OnConnection, access_channel, handover_offer}
use Rattle.controller_model.proofs.Prelude.{Controller, Entry, Turn, turn, ignoring, has_number, entry_of, with_entry, channel_state}
use Rattle.controller_model.proofs.Prelude.{holder, freed, by_row, by_fitting, row_in, concerning, concerning_too, entry_after, given}
use Rattle.controller_model.proofs.Prelude.{may_open, new_entry, frees, entry_at, on_freed, on_state, measures, on_decision, measured}
use Rattle.controller_model.proofs.Prelude.{with_report, on_report, on_word, with_own_input, aged, all_aged, expiry, timed, concerned, Leaves}
use Rattle.controller_model.proofs.Prelude.{decision_over}
use Rattle.conn_rules.specs.declared.input.Input.TheVariants as inputs
use Rattle.controller_model.specs.Life.{on_expiry}
use Rattle.controller_model.proofs.Entries.{NumberOf, number_of_found}
use Rattle.controller_model.proofs.Numbers.{Keeps, keeps_number}
use Rattle.controller_model.proofs.LifeLaws.Entries.{back_over, behind_over}

-- ---- entries

-- ---- rows

row_leaves : (m : ℕ) (e : Entry) (r : Row) (c : Controller) →
    Keeps e.connection.number r →
    m ≢ e.connection.number →
    Leaves m c (by_row e r c).next
row_leaves m e r c keeps other = back_over m (entry_after c.settings e r) c.entries (λ is. other (is ∙ keeps))

fitting_leaves : (m : ℕ) (otherwise : Turn) (e : Entry) (r : Option Row) (c : Controller) →
    Leaves m c otherwise.next →
    OfRow (Keeps e.connection.number) r →
    m ≢ e.connection.number →
    Leaves m c (by_fitting otherwise e r c).next
fitting_leaves m otherwise e None c unchanged keeps other = unchanged
fitting_leaves m otherwise e (Some r) c unchanged keeps other = row_leaves m e r c keeps other

concerning_leaves : (m : ℕ) (input : Input) (c : Controller) (number : ℕ) (o : Option Entry) →
    NumberOf number o →
    m ≢ number →
    Leaves m c (concerning input c o).next
concerning_leaves m input c number None is other = refl
concerning_leaves m input c number (Some e) is other = fitting_leaves m (ignoring c) e (row_in c e.connection input) c refl (keeps_number e.connection input _) (λ same. other (same ∙ is))

concerning_too_leaves : (m : ℕ) (input : Input) (c : Controller) (number : ℕ) (o : Option Entry) →
    NumberOf number o →
    m ≢ number →
    Leaves m c (concerning_too input c o).next
concerning_too_leaves m input c number None is other = refl
concerning_too_leaves m input c number (Some e) is other = fitting_leaves m (turn [] c) e (row_in c e.connection input) c refl (keeps_number e.connection input _) (λ same. other (same ∙ is))

-- the entry that is found has that number, and a step of it leaves the others
pub found_number : (number : ℕ) (entries : List Entry) (e : Entry) →
    find (has_number number) entries ≡ Some e →
    e.connection.number ≡ number
found_number number entries e found = subst (λ o. NumberOf number o) found (number_of_found number entries)

pub found_leaves : (m number : ℕ) (input : Input) (c : Controller) →
    m ≢ number →
    Leaves m c (concerning_too input c (entry_of c number)).next
found_leaves m number input c other = concerning_too_leaves m input c number (entry_of c number) (number_of_found number c.entries) other

-- ---- frames

freed_leaves : (m : ℕ) (b : Bool) (at : Place) (input : Input) (c : Controller) (n : ℕ) (o : Option Entry) →
    NumberOf n o →
    m ≢ n →
    Leaves m c (on_freed b at input c o).next
freed_leaves m true at input c n o is other = concerning_too_leaves m input (freed at c) n o is other
freed_leaves m false at input c n o is other = concerning_leaves m input c n o is other

-- a free channel concerns no connection
freed_none_leaves : (m : ℕ) (b : Bool) (at : Place) (input : Input) (c : Controller) → Leaves m c (on_freed b at input c None).next
freed_none_leaves m true at input c = refl
freed_none_leaves m false at input c = refl

is_other : (m n : ℕ) → Some n ≢ Some m → m ≢ n
is_other m n other same = other (ap (λ k. Some k) (sym same))

channel_leaves : (m : ℕ) (at : Place) (input : Input) (c : Controller) (state : ChannelState) →
    holder state ≢ Some m →
    Leaves m c (on_state state at input c (entry_at c state)).next
channel_leaves m at input c Free other = freed_none_leaves m (frees Free None input) at input c
channel_leaves m at input c (InUse n) other =
    freed_leaves m (frees (InUse n) (entry_of c n) input) at input c n (entry_of c n) (number_of_found n c.entries) (is_other m n other)
channel_leaves m at input c (Releasing n) other =
    freed_leaves m (frees (Releasing n) (entry_of c n) input) at input c n (entry_of c n) (number_of_found n c.entries) (is_other m n other)

given_leaves : (m : ℕ) (c : Controller) (request : RequestReference) (delay : ℕ) (o : Option Channel) →
    m ≢ c.next_number →
    Leaves m c (given c request delay o).next
given_leaves m c request delay None other = refl
given_leaves m c request delay (Some channel) other = behind_over m (new_entry c.settings c.next_number channel request delay) c.entries other

asked_leaves : (m : ℕ) (b : Bool) (c : Controller) (t : Turn) → Leaves m c t.next → Leaves m c (if b then t else ignoring c).next
asked_leaves m true c t h = h
asked_leaves m false c t h = refl

decision_leaves : (m : ℕ) (d : Decision) (c : Controller) (e : Entry) → m ≢ e.connection.number → Leaves m c (on_decision d c e).next
decision_leaves m Stay c e other = refl
decision_leaves m (Move cell) c e other = fitting_leaves m (turn [] c) e _ c refl (keeps_number e.connection inputs.Move (handover_offer c e.connection.serving cell)) other

measured_leaves : (m number : ℕ) (report : Report) (c : Controller) (e : Entry) →
    m ≢ e.connection.number →
    Leaves m c (measured number report c e).next
measured_leaves m number report c e other =
    decision_leaves m (decision_over (with_report number report e).averages.settings (with_report number report e).averages.reports number) (with_entry (with_report number report e) c) (with_report number report e) other
    ∙ back_over m (with_report number report e) c.entries other

report_leaves : (m : ℕ) (at : Place) (number : ℕ) (report : Report) (c : Controller) (n : ℕ) (o : Option Entry) →
    NumberOf n o →
    m ≢ n →
    Leaves m c (on_report at number report c o).next
report_leaves m at number report c n None is other = refl
report_leaves m at number report c n (Some e) is other = asked_leaves m (measures at e) c (measured number report c e) (measured_leaves m number report c e (λ same. other (same ∙ is)))

report_on_leaves : (m : ℕ) (at : Place) (number : ℕ) (report : Report) (c : Controller) (state : ChannelState) →
    holder state ≢ Some m →
    Leaves m c (on_report at number report c (entry_at c state)).next
report_on_leaves m at number report c Free other = refl
report_on_leaves m at number report c (InUse n) other = report_leaves m at number report c n (entry_of c n) (number_of_found n c.entries) (is_other m n other)
report_on_leaves m at number report c (Releasing n) other = report_leaves m at number report c n (entry_of c n) (number_of_found n c.entries) (is_other m n other)

pub word_leaves : (m source : ℕ) (word : Word) (c : Controller) → concerned c word ≢ Some m → Leaves m c (on_word source word c).next
word_leaves m source (Asks request delay) c other =
    asked_leaves m (may_open c) c (given c request delay (access_channel c source)) (given_leaves m c request delay (access_channel c source) (λ same. other (ap (λ n. Some n) (sym same))))
word_leaves m source (OnChannel at input) c other = channel_leaves m at input c (channel_state c at) other
word_leaves m source (Reports at number report) c other = report_on_leaves m at number report c (channel_state c at) other
word_leaves m source (OnConnection number input) c other =
    concerning_leaves m input c number (entry_of c number) (number_of_found number c.entries) (λ same. other (ap (λ n. Some n) (sym same)))
word_leaves m source _ c other = refl

-- ---- breaks and time: one connection after the other

pub own_input_leaves : (m : ℕ) (input : Input) (c : Controller) (e : Entry) →
    m ≢ e.connection.number →
    Leaves m c (with_own_input input c e).next
own_input_leaves m input c e other = fitting_leaves m (turn [] c) e (row_in c e.connection input) c refl (keeps_number e.connection input _) other

expiry_leaves : (m : ℕ) (o : Option Input) (c : Controller) (e : Entry) → m ≢ e.connection.number → Leaves m c (on_expiry o c e).next
expiry_leaves m None c e other = refl
expiry_leaves m (Some input) c e other = own_input_leaves m input c e other

pub timed_leaves : (m : ℕ) (c : Controller) (e : Entry) → m ≢ e.connection.number → Leaves m c (timed c e).next
timed_leaves m c e other = expiry_leaves m (expiry c.settings.timers e.connection) c e other

aged_found : (m ms : ℕ) (xs : List Entry) → find (has_number m) (map (aged ms) xs) ≡ option_map (aged ms) (find (has_number m) xs)
aged_found m ms [] = refl
aged_found m ms (x ∷ xs) =
    elim (cases_Bool (has_number m x)) [
      | inl hit ↦ ap (λ b. cond b (Some (aged ms x)) (find (has_number m) (map (aged ms) xs))) hit ∙ sym (ap (λ b. option_map (aged ms) (cond b (Some x) (find (has_number m) xs))) hit)
      | inr miss ↦
          ap (λ b. cond b (Some (aged ms x)) (find (has_number m) (map (aged ms) xs))) miss
          ∙ aged_found m ms xs
          ∙ sym (ap (λ b. option_map (aged ms) (cond b (Some x) (find (has_number m) xs))) miss)
    ]

pub all_age : (m ms : ℕ) (c : Controller) → entry_of (all_aged ms c) m ≡ option_map (aged ms) (entry_of c m)
all_age m ms c = aged_found m ms c.entries
