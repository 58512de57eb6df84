-- SPDX-License-Identifier: MIT OR Apache-2.0
-- How the writes of a step change the list of entries.
use Rattle.std.proofs.Common.{◌≡◌, ℕ, ◌==◌, ◌+◌, ◌<◌, ◌≤◌, Bool, true, false, List, [], ◌∷◌, ◌++◌, length, find, Option, Some, None, Result, Ok, Err, option_map, refl, sym, subst, ap, ◌∙◌, inl, inr, arith}
use Rattle.std.specs.Map.{lookup}
use Rattle.std.specs.Option.{ForSome, is_some}
use Rattle.std.proofs.lemmas.Bool.{cases_eq, cases_lt}
use Rattle.std.proofs.lemmas.List.{get_or_past}
use Rattle.conn_fsm.specs.Doing.{AreSound, WantsForRow, outs_in}
use Rattle.conn_messages.specs.declared.channel.Channel.{Channel}
use Rattle.conn_messages.specs.declared.out.Out.{Out}
use Rattle.conn_rules.specs.declared.input.Input.{Input}
use Rattle.conn_rules.specs.declared.state.State.{State}
use Rattle.conn_rules.specs.declared.state.State.TheVariants.{WaitActivation, WaitEstablish, WaitConfirm, Live, Closed, Removed}
use Rattle.conn_rules.specs.Steps.{Row}
use Rattle.conn_rules.specs.Table.{row_of}
use Rattle.controller_model.specs.Controller.{Entry, has_number, put_back, remaining}
use Rattle.controller_model.specs.Life.{aged, with_report}
use Rattle.dtap_codec.specs.declared.report.Report.{Report}
use Rattle.octets.specs.declared.memory.Memory.{Memory}
use Rattle.settings.specs.Parameters.{Parameters}
use Rattle.connections.specs.Entries.{IsKept, IsOffer, is_removed}
use Rattle.connections.specs.Index.{at, listed, HasNumber, IsIndex, SameBut, Settles, is_gone}
use Rattle.connections.specs.Steps.{CommitsFor, DoesRow, StepsFor, after_row, all_after, all_with_report, number_at, row_at, stepped}
use Rattle.connections.proofs.Indexed.{IsMapped, find_found, found_has, index_changed, index_pushed, index_removed, index_same, listed_changed, listed_pushed, listed_removed, listed_same, mapped_number}
use Rattle.connections.proofs.Kept.{number_after}

remaining_gone : (state : State) (e : Entry) → is_removed state ≡ true → remaining state e ≡ []
remaining_gone Removed e gone = refl
remaining_gone WaitActivation e gone = absurd (cc)
remaining_gone WaitEstablish e gone = absurd (cc)
remaining_gone WaitConfirm e gone = absurd (cc)
remaining_gone (Live reference stage) e gone = absurd (cc)
remaining_gone (Closed clearing) e gone = absurd (cc)

remaining_remains : (state : State) (e : Entry) → is_removed state ≡ false → remaining state e ≡ e ∷ []
remaining_remains Removed e stays = absurd (cc)
remaining_remains WaitActivation e stays = refl
remaining_remains WaitEstablish e stays = refl
remaining_remains WaitConfirm e stays = refl
remaining_remains (Live reference stage) e stays = refl
remaining_remains (Closed clearing) e stays = refl

both_same : (key : ℕ) (old mid new : List (Option Entry)) → SameBut key old mid → SameBut key mid new → SameBut key old new
both_same key old mid new first second k other = second k other ∙ first k other

pub same_all : (key : ℕ) (old new : List (Option Entry)) → SameBut key old new → at new key ≡ at old key → (k : ℕ) → at new k ≡ at old k
same_all key old new same here k =
    elim (cases_eq k key) [
      | inl is ↦ ap (λ (j : ℕ). at new j) is ∙ here ∙ ap (λ (j : ℕ). at old j) (sym is)
      | inr other ↦ same k other
    ]

-- an entry was put into its slot, and then it remains or is removed
settled_as : (gone : Bool) (old mid new : List (Option Entry)) (ps ps_after : List (ℕ × ℕ)) (number key : ℕ) (e : Entry) → IsIndex old ps → lookup (λ k. number == k) ps ≡ Some key →
    SameBut key old mid → at mid key ≡ Some e → e.connection.number ≡ number → is_removed e.connection.state ≡ gone → Settles gone number key mid new ps ps_after →
    (listed new ps_after ≡ put_back e (listed old ps)) × IsIndex new ps_after
settled_as true old mid new ps ps_after number key e index found same is has gone settles = (
  ap (λ qs. listed new qs) settles.numbers ∙ listed_removed old new key number e ps index found (both_same key old mid new same settles.others) has (remaining_gone e.connection.state e gone),
  subst (λ qs. IsIndex new qs) (sym settles.numbers) (index_removed old new key number ps index found (both_same key old mid new same settles.others)),
)
settled_as false old mid new ps ps_after number key e index found same is has gone settles = (
  ap (λ slots. listed slots ps_after) settles.0 ∙ ap (λ qs. listed mid qs) settles.1
      ∙ listed_changed old mid key number e ps index found same is has (remaining_remains e.connection.state e gone),
  subst (λ slots. IsIndex slots ps_after) (sym settles.0) (subst (λ qs. IsIndex mid qs) (sym settles.1)
      (index_changed old mid key number ps index found same (subst (HasNumber number) (sym is) (has, gone)))),
)

settled_row : (p : Parameters) (r : Option Row) (old mid new : List (Option Entry)) (ps ps_after : List (ℕ × ℕ)) (number key : ℕ) (e : Entry) → IsIndex old ps → lookup (λ k. number == k) ps ≡ Some key →
    at old key ≡ Some e → SameBut key old mid → at mid key ≡ Some (after_row p e r) → (after_row p e r).connection.number ≡ number → is_removed e.connection.state ≡ false →
    Settles (is_removed (after_row p e r).connection.state) number key mid new ps ps_after →
    (listed new ps_after ≡ all_after p (listed old ps) e r) × IsIndex new ps_after
settled_row p (Some r) old mid new ps ps_after number key e index found was same is has stays settles =
    settled_as (is_removed (after_row p e (Some r)).connection.state) old mid new ps ps_after number key (after_row p e (Some r)) index found same is has refl settles
settled_row p None old mid new ps ps_after number key e index found was same is has stays settles =
    let kept : Settles false number key mid new ps ps_after = subst (λ b. Settles b number key mid new ps ps_after) stays settles in
    let all_same : (k : ℕ) → at mid k ≡ at old k = same_all key old mid same (is ∙ sym was) in (
      ap (λ slots. listed slots ps_after) kept.0 ∙ ap (λ qs. listed mid qs) kept.1 ∙ listed_same old mid ps all_same,
      subst (λ slots. IsIndex slots ps_after) (sym kept.0) (subst (λ qs. IsIndex mid qs) (sym kept.1) (index_same old mid ps all_same index)),
    )

-- the same, where the slot's entry settles
pub settled : (p : Parameters) (r : Option Row) (old mid new : List (Option Entry)) (ps ps_after : List (ℕ × ℕ)) (number key : ℕ) (e : Entry) → IsIndex old ps → lookup (λ k. number == k) ps ≡ Some key →
    at old key ≡ Some e → SameBut key old mid → at mid key ≡ Some (after_row p e r) → (after_row p e r).connection.number ≡ number → is_removed e.connection.state ≡ false →
    Settles (is_gone (at mid key)) number key mid new ps ps_after →
    (listed new ps_after ≡ all_after p (listed old ps) e r) × IsIndex new ps_after
settled p r old mid new ps ps_after number key e index found was same is has stays settles =
    settled_row p r old mid new ps ps_after number key e index found was same is has stays (subst (λ o. Settles (is_gone o) number key mid new ps ps_after) is settles)

-- ---- a step of the entry of a number

does_row : (p : Parameters) (e : Entry) (input : Input) (offer : Option Channel) (old mid new : List (Option Entry)) (ps ps_after : List (ℕ × ℕ)) (number key : ℕ) (outs outs_after : List Out) →
    IsIndex old ps → lookup (λ k. number == k) ps ≡ Some key → at old key ≡ Some e → HasNumber number (Some e) → IsKept p e → IsOffer p offer → SameBut key old mid → at mid key ≡ Some (stepped p input offer e) →
    outs_after ≡ outs ++ outs_in (row_of e.connection input offer) e.connection.number → AreSound (row_of e.connection input offer) → Settles (is_gone (at mid key)) number key mid new ps ps_after →
    DoesRow p e (row_of e.connection input offer) (listed old ps) (listed new ps_after) outs outs_after × IsIndex new ps_after
does_row p e input offer old mid new ps ps_after number key outs outs_after index found was has kept offered same is put sound settles =
    let done : (listed new ps_after ≡ all_after p (listed old ps) e (row_of e.connection input offer)) × IsIndex new ps_after =
    settled p (row_of e.connection input offer) old mid new ps ps_after number key e index found was same is (number_after p e input offer kept offered ∙ has.0) has.1 settles in
    (record { entries = done.0; outputs = put; sound = sound }, done.1)

steps_at : (o : Option Entry) (p : Parameters) (input : Input) (offer : Option Channel) (old mid new : List (Option Entry)) (ps ps_after : List (ℕ × ℕ)) (number key : ℕ) (fits : Bool) (outs outs_after : List Out) →
    IsIndex old ps → lookup (λ k. number == k) ps ≡ Some key → at old key ≡ o → HasNumber number o → ForSome o (IsKept p) → IsOffer p offer → SameBut key old mid → at mid key ≡ option_map (stepped p input offer) o →
    fits ≡ is_some (row_at input offer o) → outs_after ≡ outs ++ outs_in (row_at input offer o) (number_at o) → AreSound (row_at input offer o) → Settles (is_gone (at mid key)) number key mid new ps ps_after →
    StepsFor p o input offer fits (listed old ps) (listed new ps_after) outs outs_after × IsIndex new ps_after
steps_at None p input offer old mid new ps ps_after number key fits outs outs_after index found was has kept offered same is fit put sound settles = absurd has
steps_at (Some e) p input offer old mid new ps ps_after number key fits outs outs_after index found was has kept offered same is fit put sound settles =
    let done : DoesRow p e (row_of e.connection input offer) (listed old ps) (listed new ps_after) outs outs_after × IsIndex new ps_after =
    does_row p e input offer old mid new ps ps_after number key outs outs_after index found was has (kept e refl) offered same is put sound settles in
    ((fit, done.0), done.1)

pub steps_done : (p : Parameters) (input : Input) (offer : Option Channel) (old mid new : List (Option Entry)) (ps ps_after : List (ℕ × ℕ)) (number key : ℕ) (fits : Bool) (outs outs_after : List Out) →
    IsIndex old ps → lookup (λ k. number == k) ps ≡ Some key → ForSome (at old key) (IsKept p) → IsOffer p offer → SameBut key old mid → at mid key ≡ option_map (stepped p input offer) (at old key) →
    fits ≡ is_some (row_at input offer (at old key)) → outs_after ≡ outs ++ outs_in (row_at input offer (at old key)) (number_at (at old key)) → AreSound (row_at input offer (at old key)) →
    Settles (is_gone (at mid key)) number key mid new ps ps_after →
    StepsFor p (find (has_number number) (listed old ps)) input offer fits (listed old ps) (listed new ps_after) outs outs_after × IsIndex new ps_after
steps_done p input offer old mid new ps ps_after number key fits outs outs_after index found kept offered same is fit put sound settles =
    subst (λ o. StepsFor p o input offer fits (listed old ps) (listed new ps_after) outs outs_after × IsIndex new ps_after) (sym (find_found old ps number key index found))
    (steps_at (at old key) p input offer old mid new ps ps_after number key fits outs outs_after index found refl (found_has old ps number key index found) kept offered same is fit put sound settles)

pub no_step : (p : Parameters) (number : ℕ) (input : Input) (offer : Option Channel) (es : List Entry) (outs : List Out) →
    find (has_number number) es ≡ None →
    StepsFor p (find (has_number number) es) input offer false es es outs outs
no_step p number input offer es outs none = subst (λ o. StepsFor p o input offer false es es outs outs) (sym none) (refl, record { entries = refl; outputs = refl })

-- memory runs out in a slot only where a row fits, and so for its number
pub refused_at : {T : Type 0} (r : Result T Memory) (input : Input) (offer : Option Channel) (here o : Option Entry) →
    o ≡ here →
    is_some (row_at input offer here) ≡ true →
    WantsForRow r (row_at input offer o)
refused_at (Ok x) input offer here o same some = tt
refused_at (Err e) input offer here o same some = ap (λ found. is_some (row_at input offer found)) same ∙ some

commits_at : (o : Option Entry) (p : Parameters) (input : Input) (old mid new : List (Option Entry)) (ps ps_after : List (ℕ × ℕ)) (number key : ℕ) (made : List Out) →
    IsIndex old ps → lookup (λ k. number == k) ps ≡ Some key → at old key ≡ o → HasNumber number o → ForSome o (IsKept p) → SameBut key old mid → at mid key ≡ option_map (stepped p input None) o →
    made ≡ outs_in (row_at input None o) (number_at o) → AreSound (row_at input None o) → Settles (is_gone (at mid key)) number key mid new ps ps_after →
    CommitsFor p o input (listed old ps) (listed new ps_after) made × IsIndex new ps_after
commits_at None p input old mid new ps ps_after number key made index found was has kept same is put sound settles = absurd has
commits_at (Some e) p input old mid new ps ps_after number key made index found was has kept same is put sound settles =
    does_row p e input None old mid new ps ps_after number key [] made index found was has (kept e refl) tt same is put sound settles

pub commits_done : (p : Parameters) (input : Input) (old mid new : List (Option Entry)) (ps ps_after : List (ℕ × ℕ)) (number key : ℕ) (made : List Out) →
    IsIndex old ps → lookup (λ k. number == k) ps ≡ Some key → ForSome (at old key) (IsKept p) → SameBut key old mid → at mid key ≡ option_map (stepped p input None) (at old key) →
    made ≡ outs_in (row_at input None (at old key)) (number_at (at old key)) → AreSound (row_at input None (at old key)) → Settles (is_gone (at mid key)) number key mid new ps ps_after →
    CommitsFor p (find (has_number number) (listed old ps)) input (listed old ps) (listed new ps_after) made × IsIndex new ps_after
commits_done p input old mid new ps ps_after number key made index found kept same is put sound settles =
    subst (λ o. CommitsFor p o input (listed old ps) (listed new ps_after) made × IsIndex new ps_after) (sym (find_found old ps number key index found))
    (commits_at (at old key) p input old mid new ps ps_after number key made index found refl (found_has old ps number key index found) kept same is put sound settles)

-- ---- a report

pub report_index : (old new : List (Option Entry)) (ps : List (ℕ × ℕ)) (number key : ℕ) (report : Report) (report_number : ℕ) → IsIndex old ps → lookup (λ k. number == k) ps ≡ Some key →
    SameBut key old new → at new key ≡ option_map (with_report report_number report) (at old key) → IsIndex new ps
report_index old new ps number key report report_number index found same is =
    index_changed old new key number ps index found same
    (subst (HasNumber number) (sym is) (mapped_number (with_report report_number report) number (at old key) (λ n e has. has) (found_has old ps number key index found)))

report_at : (o : Option Entry) (old new : List (Option Entry)) (ps : List (ℕ × ℕ)) (number key : ℕ) (report : Report) (report_number : ℕ) → IsIndex old ps → lookup (λ k. number == k) ps ≡ Some key →
    HasNumber number o → SameBut key old new → at new key ≡ option_map (with_report report_number report) o → listed new ps ≡ all_with_report report_number report o (listed old ps)
report_at None old new ps number key report report_number index found has same is = absurd has
report_at (Some e) old new ps number key report report_number index found has same is =
    listed_changed old new key number (with_report report_number report e) ps index found same is has.0 (remaining_remains e.connection.state (with_report report_number report e) has.1)

pub report_list : (old new : List (Option Entry)) (ps : List (ℕ × ℕ)) (number key : ℕ) (report : Report) (report_number : ℕ) → IsIndex old ps → lookup (λ k. number == k) ps ≡ Some key →
    SameBut key old new → at new key ≡ option_map (with_report report_number report) (at old key) →
    listed new ps ≡ all_with_report report_number report (find (has_number number) (listed old ps)) (listed old ps)
report_list old new ps number key report report_number index found same is =
    subst (λ o. listed new ps ≡ all_with_report report_number report o (listed old ps)) (sym (find_found old ps number key index found))
    (report_at (at old key) old new ps number key report report_number index found (found_has old ps number key index found) same is)

pub no_report : (number : ℕ) (report : Report) (report_number : ℕ) (es : List Entry) →
    find (has_number number) es ≡ None →
    es ≡ all_with_report report_number report (find (has_number number) es) es
no_report number report report_number es none = subst (λ o. es ≡ all_with_report report_number report o es) (sym none) refl

-- ---- time passes for the slots one after the other

pub record IsAged (ms : ℕ) (keys : ℕ) (old new : List (Option Entry)) : Type 0 where
  pub first : (k : ℕ) → k < keys → at new k ≡ option_map (aged ms) (at old k)
  pub rest : (k : ℕ) → keys ≤ k → at new k ≡ at old k

pub none_aged : (ms : ℕ) (old : List (Option Entry)) → IsAged ms 0 old old
none_aged ms old = record { first = λ k below. absurd (omega (arith, below)); rest = λ k above. refl }

pub one_more_aged : (ms keys : ℕ) (old mid new : List (Option Entry)) →
    IsAged ms keys old mid →
    SameBut keys mid new →
    at new keys ≡ option_map (aged ms) (at mid keys) →
    IsAged ms (keys + 1) old new
one_more_aged ms keys old mid new before same is = record {
  first = λ k below. elim (cases_eq k keys) [
    | inl here ↦ ap (λ (j : ℕ). at new j) here ∙ is ∙ ap (λ o. option_map (aged ms) o) (before.rest keys (omega arith)) ∙ ap (λ (j : ℕ). option_map (aged ms) (at old j)) (sym here)
    | inr other ↦ same k other ∙ before.first k (omega (arith, below, other))
  ];
  rest = λ k above. same k (λ here. omega (arith, above, here)) ∙ before.rest k (omega (arith, above));
}

past_end : (slots : List (Option Entry)) (k : ℕ) → length slots ≤ k → at slots k ≡ None
past_end slots k past = get_or_past slots k None past

pub all_aged_slots : (ms keys : ℕ) (old new : List (Option Entry)) → IsAged ms keys old new → length old ≤ keys → IsMapped (aged ms) old new
all_aged_slots ms keys old new done within = λ k. elim (cases_lt k keys) [
  | inl below ↦ done.first k below
  | inr above ↦ done.rest k above ∙ past_end old k (omega (arith, within, above)) ∙ sym (ap (λ o. option_map (aged ms) o) (past_end old k (omega (arith, within, above))))
]

pub aged_has : (ms n : ℕ) (e : Entry) → HasNumber n (Some e) → HasNumber n (Some (aged ms e))
aged_has ms n e has = has

-- ---- one more

pushed_at : (old new : List (Option Entry)) (ps ps_after : List (ℕ × ℕ)) (key : ℕ) (e : Entry) → IsIndex old ps → ps_after ≡ ps ++ (e.connection.number, key) ∷ [] →
    at old key ≡ None → SameBut key old new → at new key ≡ Some e → is_removed e.connection.state ≡ false → (listed new ps_after ≡ listed old ps ++ e ∷ []) × IsIndex new ps_after
pushed_at old new ps ps_after key e index is vacant same put stays = (
  ap (λ qs. listed new qs) is ∙ listed_pushed old new e.connection.number key e ps index vacant same put,
  subst (λ qs. IsIndex new qs) (sym is) (index_pushed old new key e ps index vacant same put stays),
)

-- the slots and the index have room first, and keep what they have
pub pushed : (old roomy new : List (Option Entry)) (ps roomy_ps ps_after : List (ℕ × ℕ)) (number key : ℕ) (e : Entry) → IsIndex old ps →
    roomy ≡ old → roomy_ps ≡ ps → number ≡ e.connection.number → ps_after ≡ roomy_ps ++ (number, key) ∷ [] →
    at roomy key ≡ None → SameBut key roomy new → at new key ≡ Some e → is_removed e.connection.state ≡ false → (listed new ps_after ≡ listed old ps ++ e ∷ []) × IsIndex new ps_after
pushed old roomy new ps roomy_ps ps_after number key e index same_slots same_ps numbered inserted vacant same put stays =
    pushed_at old new ps ps_after key e index
    (inserted ∙ ap (λ qs. qs ++ (number, key) ∷ []) same_ps ∙ ap (λ (n : ℕ). ps ++ (n, key) ∷ []) numbered)
    (sym (ap (λ slots. at slots key) same_slots) ∙ vacant) (λ k other. same k other ∙ ap (λ slots. at slots k) same_slots) put stays
