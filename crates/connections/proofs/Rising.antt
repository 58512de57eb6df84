-- SPDX-License-Identifier: MIT OR Apache-2.0
-- The calls keep what holds of the connections.
use Rattle.std.proofs.Common.{◌≡◌, ℕ, ◌<◌, Bool, true, false, if◌then◌else◌, List, [], ◌∷◌, ◌++◌, map, find, Option, Some, None, Result, Ok, Err, IfOk, OnOk, OnErr, refl, sym, subst, ap, ◌∙◌, inl, inr, eqb-true}
use Rattle.std.specs.List.{AllByRecursion}
use Rattle.std.specs.Option.{ForSome}
use Rattle.std.proofs.lemmas.Bool.{cases_Bool}
use Rattle.conn_messages.specs.declared.channel.Channel.{Channel}
use Rattle.conn_messages.specs.declared.out.Out.{Out}
use Rattle.conn_rules.specs.declared.input.Input.{Input}
use Rattle.conn_rules.specs.declared.state.State.{State}
use Rattle.conn_rules.specs.declared.state.State.TheVariants.{WaitActivation, WaitEstablish, WaitConfirm, Live, Closed, Removed}
use Rattle.conn_rules.specs.Steps.{Row}
use Rattle.conn_rules.specs.Table.{row_of}
use Rattle.controller_model.proofs.Entries.{Found, found as found_at, put_back_all}
use Rattle.controller_model.specs.Controller.{Entry, has_number, put_back, remaining}
use Rattle.controller_model.specs.Life.{aged, entry_after, new_entry, with_report}
use Rattle.dtap_codec.specs.declared.report.Report.{Report}
use Rattle.ho_decision.specs.Settings.{Settings as HandoverSettings}
use Rattle.ho_decision.specs.State.{State as Averages}
use Rattle.octets.specs.declared.memory.Memory.{Memory}
use Rattle.rsl_codec.specs.declared.values.RequestReference.{RequestReference}
use Rattle.settings.specs.Parameters.{Parameters}
use Rattle.connections.specs.Entries.{AreKept, AreRising, IsAbove, IsBelow, IsKept, IsOfCell, IsOffer}
use Rattle.connections.specs.Steps.{StepsFor, CommitsFor, IsLeft, after_row, all_after, all_with_report}
use Rattle.connections.proofs.Kept.{kept_after, number_after}

-- ---- of all

all_push : (P : Entry → Type 0) (es : List Entry) (e : Entry) → AllByRecursion P es → P e → AllByRecursion P (es ++ e ∷ [])
all_push P [] e all holds = (holds, tt)
all_push P (x ∷ xs) e all holds = (all.0, all_push P xs e all.1 holds)

all_map : (P : Entry → Type 0) (f : Entry → Entry) →
    ((e : Entry) → P e → P (f e)) →
    (es : List Entry) →
    AllByRecursion P es →
    AllByRecursion P (map f es)
all_map P f keeps [] all = tt
all_map P f keeps (e ∷ es) all = (keeps e all.0, all_map P f keeps es all.1)

pub find_kept : (p : Parameters) (n : ℕ) (es : List Entry) → AreKept p es → ForSome (find (has_number n) es) (IsKept p)
find_kept p n es kept = λ e found. (found_at (IsKept p) n es e kept.each found).holds

-- ---- numbers rise

rising_push : (es : List Entry) (e : Entry) → AreRising es → AllByRecursion (IsBelow e.connection.number) es → AreRising (es ++ e ∷ [])
rising_push [] e rising below = (tt, tt)
rising_push (x ∷ xs) e rising below = (all_push (IsAbove x.connection.number) xs e rising.0 below.0, rising_push xs e rising.1 below.1)

rising_remaining : (state : State) (e : Entry) (es : List Entry) →
    AllByRecursion (IsAbove e.connection.number) es →
    AreRising es →
    AreRising (remaining state e ++ es)
rising_remaining Removed e es above rising = rising
rising_remaining WaitActivation e es above rising = (above, rising)
rising_remaining WaitEstablish e es above rising = (above, rising)
rising_remaining WaitConfirm e es above rising = (above, rising)
rising_remaining (Live reference stage) e es above rising = (above, rising)
rising_remaining (Closed clearing) e es above rising = (above, rising)

rising_back : (e old : Entry) (es : List Entry) →
    find (has_number e.connection.number) es ≡ Some old →
    AreRising es →
    AreRising (put_back e es)
rising_back e old [] found rising = absurd cc
rising_back e old (x ∷ xs) found rising =
    elim (cases_Bool (has_number e.connection.number x)) [
      | inl hit ↦
          subst (λ b. AreRising (if b then remaining e.connection.state e ++ xs else x ∷ put_back e xs)) (sym hit)
          (rising_remaining e.connection.state e xs (subst (λ (k : ℕ). AllByRecursion (IsAbove k) xs) (eqb-true x.connection.number e.connection.number hit) rising.0) rising.1)
      | inr miss ↦
          let behind : find (has_number e.connection.number) xs ≡ Some old = sym (ap (λ b. if b then Some x else find (has_number e.connection.number) xs) miss) ∙ found in
          let has : Found (IsAbove x.connection.number) e.connection.number old = found_at (IsAbove x.connection.number) e.connection.number xs old rising.0 behind in
          subst (λ b. AreRising (if b then remaining e.connection.state e ++ xs else x ∷ put_back e xs)) (sym miss) (
            put_back_all (IsAbove x.connection.number) e xs (subst (λ (k : ℕ). x.connection.number < k) has.is has.holds) rising.0,
            rising_back e old xs behind rising.1,
          )
    ]

rising_aged : (ms : ℕ) (es : List Entry) → AreRising es → AreRising (map (aged ms) es)
rising_aged ms [] rising = tt
rising_aged ms (e ∷ es) rising = (all_map (IsAbove e.connection.number) (aged ms) (λ x above. above) es rising.0, rising_aged ms es rising.1)

-- ---- calls

pub none_kept : (p : Parameters) → AreKept p []
none_kept p = record { each = tt; rising = tt }

pub new_kept : (p : Parameters) (es : List Entry) (number : ℕ) (channel : Channel) (request : RequestReference) (delay : ℕ) → AreKept p es → IsOfCell p channel → AllByRecursion (IsBelow number) es →
    AreKept p (es ++ new_entry p number channel request delay ∷ [])
new_kept p es number channel request delay kept of_cell below = record {
  each = all_push (IsKept p) es (new_entry p number channel request delay) kept.each (record { serving = of_cell; target = tt; averages = refl });
  rising = rising_push es (new_entry p number channel request delay) kept.rising below;
}

aged_kept : (p : Parameters) (ms : ℕ) (e : Entry) → IsKept p e → IsKept p (aged ms e)
aged_kept p ms e kept = record { serving = kept.serving; target = kept.target; averages = kept.averages }

pub all_aged_kept : (p : Parameters) (ms : ℕ) (es : List Entry) → AreKept p es → AreKept p (map (aged ms) es)
all_aged_kept p ms es kept = record { each = all_map (IsKept p) (aged ms) (aged_kept p ms) es kept.each; rising = rising_aged ms es kept.rising }

put_back_kept : (p : Parameters) (e old : Entry) (n : ℕ) (es : List Entry) →
    AreKept p es →
    find (has_number n) es ≡ Some old →
    e.connection.number ≡ n →
    IsKept p e →
    AreKept p (put_back e es)
put_back_kept p e old n es kept found number holds = record {
  each = put_back_all (IsKept p) e es holds kept.each;
  rising = rising_back e old es (subst (λ (k : ℕ). find (has_number k) es ≡ Some old) (sym number) found) kept.rising;
}

row_kept : (p : Parameters) (e : Entry) (r : Option Row) (n : ℕ) (es : List Entry) →
    AreKept p es →
    find (has_number n) es ≡ Some e →
    (after_row p e r).connection.number ≡ n →
    IsKept p (after_row p e r) →
    AreKept p (all_after p es e r)
row_kept p e None n es kept found number holds = kept
row_kept p e (Some r) n es kept found number holds = put_back_kept p (entry_after p e r) e n es kept found number holds

found_row_kept : (p : Parameters) (e : Entry) (input : Input) (offer : Option Channel) (n : ℕ) (es : List Entry) → AreKept p es → IsOffer p offer → find (has_number n) es ≡ Some e →
    AreKept p (all_after p es e (row_of e.connection input offer))
found_row_kept p e input offer n es kept offered found =
    let has : Found (IsKept p) n e = found_at (IsKept p) n es e kept.each found in
    row_kept p e (row_of e.connection input offer) n es kept found (number_after p e input offer has.holds offered ∙ has.is) (kept_after p e input offer has.holds offered)

steps_kept_at : (p : Parameters) (o : Option Entry) (n : ℕ) (input : Input) (offer : Option Channel) (fits : Bool) (old new : List Entry) (outs outs_after : List Out) → AreKept p old → IsOffer p offer →
    find (has_number n) old ≡ o → StepsFor p o input offer fits old new outs outs_after → AreKept p new
steps_kept_at p None n input offer fits old new outs outs_after kept offered found done = subst (AreKept p) (sym done.1.entries) kept
steps_kept_at p (Some e) n input offer fits old new outs outs_after kept offered found done =
    subst (AreKept p) (sym done.1.entries) (found_row_kept p e input offer n old kept offered found)

pub steps_kept : (p : Parameters) (n : ℕ) (input : Input) (offer : Option Channel) (fits : Bool) (old new : List Entry) (outs outs_after : List Out) → AreKept p old → IsOffer p offer →
    StepsFor p (find (has_number n) old) input offer fits old new outs outs_after → AreKept p new
steps_kept p n input offer fits old new outs outs_after kept offered done = steps_kept_at p (find (has_number n) old) n input offer fits old new outs outs_after kept offered refl done

pub left_kept : (p : Parameters) (old new : List Entry) (outs outs_after : List Out) →
    AreKept p old →
    IsLeft old new outs outs_after →
    AreKept p new
left_kept p old new outs outs_after kept left = subst (AreKept p) (sym left.entries) kept

commits_kept_at : (p : Parameters) (o : Option Entry) (n : ℕ) (input : Input) (old new : List Entry) (made : List Out) →
    AreKept p old →
    find (has_number n) old ≡ o →
    CommitsFor p o input old new made →
    AreKept p new
commits_kept_at p None n input old new made kept found done = absurd done
commits_kept_at p (Some e) n input old new made kept found done = subst (AreKept p) (sym done.entries) (found_row_kept p e input None n old kept tt found)

pub commits_kept : (p : Parameters) (n : ℕ) (input : Input) (old new : List Entry) (made : List Out) →
    AreKept p old →
    CommitsFor p (find (has_number n) old) input old new made →
    AreKept p new
commits_kept p n input old new made kept done = commits_kept_at p (find (has_number n) old) n input old new made kept refl done

settings_kept : (valid : Bool) (a b : Averages) (s : HandoverSettings) →
    a.settings ≡ s →
    b.settings ≡ s →
    (if valid then a else b).settings ≡ s
settings_kept true a b s first second = first
settings_kept false a b s first second = second

report_kept : (p : Parameters) (number : ℕ) (report : Report) (e : Entry) → IsKept p e → IsKept p (with_report number report e)
report_kept p number report e kept =
    record { serving = kept.serving; target = kept.target; averages = settings_kept report.valid _ e.averages _ kept.averages kept.averages }

reports_kept_at : (p : Parameters) (o : Option Entry) (n number : ℕ) (report : Report) (es : List Entry) →
    AreKept p es →
    find (has_number n) es ≡ o →
    AreKept p (all_with_report number report o es)
reports_kept_at p None n number report es kept found = kept
reports_kept_at p (Some e) n number report es kept found =
    let has : Found (IsKept p) n e = found_at (IsKept p) n es e kept.each found in
    put_back_kept p (with_report number report e) e n es kept found has.is (report_kept p number report e has.holds)

pub reports_kept : (p : Parameters) (n number : ℕ) (report : Report) (es : List Entry) →
    AreKept p es →
    AreKept p (all_with_report number report (find (has_number n) es) es)
reports_kept p n number report es kept = reports_kept_at p (find (has_number n) es) n number report es kept refl

-- of a step, whatever it answers
pub answer_kept : (p : Parameters) (n : ℕ) (input : Input) (offer : Option Channel) (answer : Result Bool Memory) (old new : List Entry) (outs outs_after : List Out) → AreKept p old → IsOffer p offer →
    IfOk answer (λ fits. StepsFor p (find (has_number n) old) input offer fits old new outs outs_after) → OnErr answer (IsLeft old new outs outs_after) → AreKept p new
answer_kept p n input offer (Ok fits) old new outs outs_after kept offered done left = steps_kept p n input offer fits old new outs outs_after kept offered done
answer_kept p n input offer (Err memory) old new outs outs_after kept offered done left = left_kept p old new outs outs_after kept left

pub push_kept : (p : Parameters) (e : Entry) (answer : Result (Unit {0}) Memory) (es new : List Entry) (number : ℕ) (channel : Channel) (request : RequestReference) (delay : ℕ) →
    e ≡ new_entry p number channel request delay → AreKept p es → IsOfCell p channel → AllByRecursion (IsBelow number) es → OnOk answer (new ≡ es ++ e ∷ []) → OnErr answer (new ≡ es) → AreKept p new
push_kept p e (Ok done) es new number channel request delay is kept of_cell below ok err =
    subst (AreKept p) (sym (ok ∙ ap (λ x. es ++ x ∷ []) is)) (new_kept p es number channel request delay kept of_cell below)
push_kept p e (Err memory) es new number channel request delay is kept of_cell below ok err = subst (AreKept p) (sym err) kept
