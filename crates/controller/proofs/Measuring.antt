-- SPDX-License-Identifier: MIT OR Apache-2.0
-- A report that is added after the row that it decides for.
use Rattle.controller.proofs.Prelude.{◌≡◌, ℕ, true, cond, List, [], ◌∷◌, ◌++◌, find, Option, Some, None, sym, ap, ◌∙◌, Row, OfRow}
use Rattle.controller.proofs.Prelude.{AllByRecursion, IsBelow, Controller, Entry, Turn, turn, entry_of, has_number, put_back, by_fitting}
use Rattle.controller.proofs.Prelude.{entry_after, Report}
use Rattle.std.proofs.Common.{IsSome}
use Rattle.conn_rules.specs.declared.input.Input.TheVariants as inputs
use Rattle.conn_rules.specs.Table.{row_of}
use Rattle.connections.specs.Entries.{decision_with}
use Rattle.connections.specs.Steps.{all_with_report}
use Rattle.controller_model.specs.Channels.{handover_offer}
use Rattle.controller_model.specs.Controller.{with_entry}
use Rattle.controller_model.specs.Life.{by_row, measured, on_decision, with_report}
use Rattle.controller_model.specs.Reports.{decision_over}
use Rattle.controller.specs.Reporting.{decided_in, measured_in}
use Rattle.controller.proofs.Moves.{KeepsServing, carries_on}
use Rattle.controller_model.proofs.Entries.{FoundIn, NumberOf, found_in, put_back_all}
use Rattle.controller.proofs.Reporting.{found_again, report_behind_row}
use Rattle.ho_decision.specs.declared.decision.Decision.{Decision}
use Rattle.ho_decision.specs.declared.decision.Decision.TheVariants.{Stay, Move}
use Rattle.ho_decision.specs.declared.settings.TheConstants.{MAX_WINDOW}
use Rattle.ho_decision.specs.Average.{last}

-- the report of the connection with this number is added behind a turn
abbrev pub added : ℕ → ℕ → Report → Turn → Turn
added n number report t = turn t.outs (record t.next { entries = all_with_report number report (find (has_number n) t.next.entries) t.next.entries })

-- nothing was done
added_alone : (n number : ℕ) (report : Report) (c : Controller) (e : Entry) →
    find (has_number n) c.entries ≡ Some e →
    turn [] (with_entry (with_report number report e) c) ≡ added n number report (turn [] c)
added_alone n number report c e found = ap (λ o. turn [] (record c { entries = all_with_report number report o c.entries })) (sym found)

-- a row was done
added_behind : (n number : ℕ) (report : Report) (c : Controller) (e : Entry) (r : Row) → find (has_number n) c.entries ≡ Some e → e.connection.number ≡ n → KeepsServing e.connection r
    → by_row (with_report number report e) r (with_entry (with_report number report e) c) ≡ added n number report (by_row e r c)
added_behind n number report c e r found is claim =
    ap (λ (es : List Entry). turn (by_row e r c).outs (record (by_row e r c).next { entries = es }))
    (report_behind_row c.settings e r number report c.entries claim
    ∙ ap (λ o. all_with_report number report o (put_back (entry_after c.settings e r) c.entries)) (sym there)) where
      there : find (has_number n) (put_back (entry_after c.settings e r) c.entries) ≡ Some (entry_after c.settings e r)
      there =
          ap (λ m. find (has_number m) (put_back (entry_after c.settings e r) c.entries)) (sym (claim.number ∙ is))
          ∙ found_again (entry_after c.settings e r) e c.entries claim.stays (ap (λ m. find (has_number m) c.entries) (claim.number ∙ is) ∙ found)

added_fitting : (n number : ℕ) (report : Report) (c : Controller) (e : Entry) (r : Option Row) → find (has_number n) c.entries ≡ Some e → e.connection.number ≡ n → OfRow (KeepsServing e.connection) r
    → by_fitting (turn [] (with_entry (with_report number report e) c)) (with_report number report e) r (with_entry (with_report number report e) c)
    ≡ added n number report (by_fitting (turn [] c) e r c)
added_fitting n number report c e None found is claim = added_alone n number report c e found
added_fitting n number report c e (Some r) found is claim = added_behind n number report c e r found is claim

added_decision : (n number : ℕ) (report : Report) (c : Controller) (e : Entry) (d : Decision) → find (has_number n) c.entries ≡ Some e → e.connection.number ≡ n
    → on_decision d (with_entry (with_report number report e) c) (with_report number report e) ≡ added n number report (decided_in d c (Some e))
added_decision n number report c e Stay found is = added_alone n number report c e found
added_decision n number report c e (Move cell) found is =
    added_fitting n number report c e (row_of e.connection inputs.Move (handover_offer c e.connection.serving cell)) found is (carries_on e.connection (handover_offer c e.connection.serving cell))

-- the number of a valid report is that of the last one
number_after : (number : ℕ) (report : Report) (e : Entry) → report.valid ≡ true → (with_report number report e).averages.number ≡ number
number_after number report e valid =
    ap (λ b. (cond b (record e.averages { reports = last MAX_WINDOW (e.averages.reports ++ report ∷ []); number = number }) e.averages).number) valid

pub measured_behind : (n number : ℕ) (report : Report) (c : Controller) (e : Entry) → report.valid ≡ true → find (has_number n) c.entries ≡ Some e → e.connection.number ≡ n
    → measured number report c e ≡ added n number report (decided_in (decision_with number report (Some e)) c (Some e))
measured_behind n number report c e valid found is =
    ap (λ k. on_decision (decision_over (with_report number report e).averages.settings (with_report number report e).averages.reports k) (with_entry (with_report number report e) c) (with_report number report e))
    (sym (number_after number report e valid))
    ∙ added_decision n number report c e (decision_with number report (Some e)) found is

pub measured_there : (n number : ℕ) (report : Report) (c : Controller) (o : Option Entry) → report.valid ≡ true → entry_of c n ≡ o → IsSome o → NumberOf n o
    → measured_in number report c o ≡ added n number report (decided_in (decision_with number report o) c o)
measured_there n number report c None valid found there is = absurd (cc)
measured_there n number report c (Some e) valid found there is = measured_behind n number report c e valid found is

-- numbers remain below the next one
below_with : (next n number : ℕ) (report : Report) (es : List Entry) (o : Option Entry) →
    FoundIn (IsBelow next) n o →
    AllByRecursion (IsBelow next) es →
    AllByRecursion (IsBelow next) (all_with_report number report o es)
below_with next n number report es None found all = all
below_with next n number report es (Some e) found all = put_back_all (IsBelow next) (with_report number report e) es found.holds all

pub report_remains_below : (next n number : ℕ) (report : Report) (es : List Entry) →
    AllByRecursion (IsBelow next) es →
    AllByRecursion (IsBelow next) (all_with_report number report (find (has_number n) es) es)
report_remains_below next n number report es all = below_with next n number report es (find (has_number n) es) (found_in (IsBelow next) n es all) all
