-- SPDX-License-Identifier: MIT OR Apache-2.0
-- A report may be added before the row of a move, or after it.
use Rattle.controller.proofs.Prelude.{◌≡◌, ◌≢◌, ℕ, Bool, true, false, cond, List, [], ◌∷◌, ◌++◌, find, Some, refl, sym, ap, ◌∙◌, inl, inr}
use Rattle.controller.proofs.Prelude.{eq-eqb, Channel, State, WaitActivation, WaitEstablish, WaitConfirm, Live, Closed, Removed, Row, Entry}
use Rattle.controller.proofs.Prelude.{has_number, put_back, entry_after, Report, Parameters}
use Rattle.std.proofs.Common.{◌&&◌}
use Rattle.std.proofs.lemmas.Bool.{cases_Bool}
use Rattle.conn_rules.specs.Connection.{is_at}
use Rattle.controller_model.specs.Controller.{place_of, remaining}
use Rattle.controller_model.specs.Life.{averages_after, new_averages, with_report}
use Rattle.controller.proofs.Moves.{KeepsServing}
use Rattle.ho_decision.specs.State.{State as Averages, after_report}

-- ---- an entry that is put back in its place

remaining_one : (state : State) (e : Entry) (xs : List Entry) → state ≢ Removed → remaining state e ++ xs ≡ e ∷ xs
remaining_one Removed e xs stays = absurd (stays refl)
remaining_one WaitActivation e xs stays = refl
remaining_one WaitEstablish e xs stays = refl
remaining_one WaitConfirm e xs stays = refl
remaining_one (Live reference stage) e xs stays = refl
remaining_one (Closed clearing) e xs stays = refl

back_at : (e x : Entry) (xs : List Entry) →
    has_number e.connection.number x ≡ true →
    put_back e (x ∷ xs) ≡ remaining e.connection.state e ++ xs
back_at e x xs hit = ap (λ b. cond b (remaining e.connection.state e ++ xs) (x ∷ put_back e xs)) hit

back_behind : (e x : Entry) (xs : List Entry) → has_number e.connection.number x ≡ false → put_back e (x ∷ xs) ≡ x ∷ put_back e xs
back_behind e x xs miss = ap (λ b. cond b (remaining e.connection.state e ++ xs) (x ∷ put_back e xs)) miss

find_at : (n : ℕ) (x : Entry) (xs : List Entry) → has_number n x ≡ true → find (has_number n) (x ∷ xs) ≡ Some x
find_at n x xs hit = ap (λ b. cond b (Some x) (find (has_number n) xs)) hit

find_behind : (n : ℕ) (x : Entry) (xs : List Entry) → has_number n x ≡ false → find (has_number n) (x ∷ xs) ≡ find (has_number n) xs
find_behind n x xs miss = ap (λ b. cond b (Some x) (find (has_number n) xs)) miss

-- it is found there, where it isn't removed
pub found_again : (e old : Entry) (es : List Entry) →
    e.connection.state ≢ Removed →
    find (has_number e.connection.number) es ≡ Some old →
    find (has_number e.connection.number) (put_back e es) ≡ Some e
found_again e old [] stays found = absurd (cc)
found_again e old (x ∷ xs) stays found =
    elim (cases_Bool (has_number e.connection.number x)) [
      | inl hit ↦
          ap (find (has_number e.connection.number)) (back_at e x xs hit ∙ remaining_one e.connection.state e xs stays)
          ∙ find_at e.connection.number e xs (eq-eqb e.connection.number e.connection.number refl)
      | inr miss ↦
          ap (find (has_number e.connection.number)) (back_behind e x xs miss)
          ∙ find_behind e.connection.number x (put_back e xs) miss
          ∙ found_again e old xs stays (sym (find_behind e.connection.number x xs miss) ∙ found)
    ]

-- the second one counts, where the first one isn't removed
pub back_twice : (first second : Entry) (es : List Entry) →
    second.connection.number ≡ first.connection.number →
    first.connection.state ≢ Removed →
    put_back second (put_back first es) ≡ put_back second es
back_twice first second [] same stays = refl
back_twice first second (x ∷ xs) same stays =
    elim (cases_Bool (has_number first.connection.number x)) [
      | inl hit ↦
          ap (put_back second) (back_at first x xs hit ∙ remaining_one first.connection.state first xs stays)
          ∙ back_at second first xs (eq-eqb first.connection.number second.connection.number (sym same))
          ∙ sym (back_at second x xs (ap (λ n. has_number n x) same ∙ hit))
      | inr miss ↦
          ap (put_back second) (back_behind first x xs miss)
          ∙ back_behind second x (put_back first xs) (ap (λ n. has_number n x) same ∙ miss)
          ∙ ap (λ rest. x ∷ rest) (back_twice first second xs same stays)
          ∙ sym (back_behind second x xs (ap (λ n. has_number n x) same ∙ miss))
    ]

-- ---- averages go on where the same channel serves

both_true : (a b : Bool) → a ≡ true → b ≡ true → (a && b) ≡ true
both_true true true one other = refl
both_true true false one other = absurd (cc)
both_true false b one other = absurd (cc)

at_its_place : (channel : Channel) → is_at (place_of channel) channel ≡ true
at_its_place channel = both_true _ _ (eq-eqb channel.station channel.station refl) (eq-eqb channel.number channel.number refl)

averages_continue : (p : Parameters) (before after : Channel) (averages : Averages) →
    after ≡ before →
    averages_after p before after averages ≡ averages
averages_continue p before after averages same =
    ap (λ b. cond b averages (new_averages p after)) (ap (is_at (place_of before)) same ∙ at_its_place before)

entry_with_report : (p : Parameters) (e : Entry) (r : Row) (number : ℕ) (report : Report) → KeepsServing e.connection r
    → entry_after p (with_report number report e) r ≡ with_report number report (entry_after p e r)
entry_with_report p e r number report claim =
    ap (λ (a : Averages). record { connection = r.next; averages = a }) (averages_continue p e.connection.serving r.next.serving (after_report e.averages report number) claim.serving)
    ∙ ap (λ (a : Averages). record { connection = r.next; averages = after_report a report number }) (sym (averages_continue p e.connection.serving r.next.serving e.averages claim.serving))

-- added first, and then the row is done; or the row first
pub report_behind_row : (p : Parameters) (e : Entry) (r : Row) (number : ℕ) (report : Report) (es : List Entry) → KeepsServing e.connection r
    → put_back (entry_after p (with_report number report e) r) (put_back (with_report number report e) es)
    ≡ put_back (with_report number report (entry_after p e r)) (put_back (entry_after p e r) es)
report_behind_row p e r number report es claim =
    back_twice (with_report number report e) (entry_after p (with_report number report e) r) es claim.number claim.was
    ∙ ap (λ entry. put_back entry es) (entry_with_report p e r number report claim)
    ∙ sym (back_twice (entry_after p e r) (with_report number report (entry_after p e r)) es refl claim.stays)
