-- SPDX-License-Identifier: MIT OR Apache-2.0
-- The steps that are planned, by rising number.
use Rattle.controller.proofs.Prelude.{◌≡◌, ◌≢◌, ℕ, ◌+◌, ◌≤◌, List, [], ◌∷◌, ◌++◌, drop, length, map, slice_get, Option, Some, None, refl, sym, ap, ◌∙◌, inl, inr, Connection, Entry, Input}
use Rattle.std.proofs.Common.{Result, Ok, Err, suc, append_assoc, append-nil, add-one, drop-cons}
use Rattle.std.specs.Result.{IfErr}
use Rattle.std.proofs.lemmas.List.{drop_all}
use Rattle.std.proofs.lemmas.Option.{get_or_from_slice_get, slice_get_cases, slice_get_within}
use Rattle.controller.specs.declared.many.Cause.{Cause}
use Rattle.controller.specs.Many.{Due, PlannedState, all_due, due_of, due_with, planned_for}
use Rattle.settings.specs.declared.timers.Timers.{Timers}

first_left : (es : List Entry) (place : ℕ) (e : Entry) → slice_get es place ≡ Some e → drop place es ≡ e ∷ drop (place + 1) es
first_left es place e at =
    drop-cons es place e (slice_get_within es place e at) ∙ ap (λ (x : Entry). x ∷ drop (suc place) es) (get_or_from_slice_get es place e e at) ∙ ap (λ (n : ℕ). e ∷ drop n es) (sym (add-one place))

pub one_planned : (cause : Cause) (timers : Timers) (es : List Entry) (place : ℕ) (e : Entry) (planned planned_after all : List Due) → slice_get es place ≡ Some e → planned_after ≡ planned ++ due_of cause timers e.connection →
    planned ++ all_due cause timers (drop place es) ≡ all → planned_after ++ all_due cause timers (drop (place + 1) es) ≡ all
one_planned cause timers es place e planned planned_after all at more so_far =
    ap (λ (ds : List Due). ds ++ all_due cause timers (drop (place + 1) es)) more
    ∙ append_assoc planned (due_of cause timers e.connection) (all_due cause timers (drop (place + 1) es))
    ∙ ap (λ (xs : List Entry). planned ++ all_due cause timers xs) (sym (first_left es place e at))
    ∙ so_far

none_left : (es : List Entry) (place : ℕ) → slice_get es place ≡ None → length es ≤ place
none_left es place none =
    elim ((slice_get_cases es place).1) [
      | inl within ↦ absurd (missing within.0 (sym within.2 ∙ none))
      | inr past ↦ past.0
    ] where
      missing : (x : Entry) → Some x ≡ None → ⊥
      missing x same = cc

pub all_planned : (cause : Cause) (timers : Timers) (es : List Entry) (place : ℕ) (planned all : List Due) →
    length es ≤ place →
    planned ++ all_due cause timers (drop place es) ≡ all →
    planned ≡ all
all_planned cause timers es place planned all past so_far =
    sym (append-nil planned) ∙ ap (λ (xs : List Entry). planned ++ all_due cause timers xs) (sym (drop_all place es past)) ∙ so_far

pub none_planned : (cause : Cause) (timers : Timers) (es : List Entry) (place : ℕ) (planned all : List Due) →
    slice_get es place ≡ None →
    planned ++ all_due cause timers (drop place es) ≡ all →
    planned ≡ all
none_planned cause timers es place planned all none so_far = all_planned cause timers es place planned all (none_left es place none) so_far

-- ---- something is due

-- what holds anyway holds of a refusal
pub of_err : {X E P : Type 0} (r : Result X E) → P → IfErr r (λ _. P)
of_err (Ok x) holds = tt
of_err (Err e) holds = holds

append_none : (xs ys : List Due) → xs ++ ys ≡ [] → (xs ≡ []) × (ys ≡ [])
append_none [] ys none = (refl, none)
append_none (x ∷ xs) ys none = let same : x ∷ (xs ++ ys) ≡ [] = none in absurd cc

-- where a connection is due, something is
pub any_due : (cause : Cause) (timers : Timers) (es : List Entry) (place : ℕ) (e : Entry) (planned all : List Due) → slice_get es place ≡ Some e → due_of cause timers e.connection ≢ [] →
    planned ++ all_due cause timers (drop place es) ≡ all → all ≢ []
any_due cause timers es place e planned all at due so_far none =
    let left : all_due cause timers (drop place es) ≡ [] = (append_none planned (all_due cause timers (drop place es)) (so_far ∙ none)).1 in
    let here : due_of cause timers e.connection ++ all_due cause timers (drop (place + 1) es) ≡ [] =
    ap (λ (xs : List Entry). all_due cause timers xs) (sym (first_left es place e at)) ∙ left in
    due (append_none (due_of cause timers e.connection) (all_due cause timers (drop (place + 1) es)) here).0

pub is_due : (o : Option Input) (s : Connection) (input : Input) → o ≡ Some input → due_with o s ≢ []
is_due None s input is none = absurd cc
is_due (Some other) s input is none = let same : ◌≡◌ {A = List Due} (record { number = s.number; was = s; input = other } ∷ []) [] = none in absurd cc

-- where something is planned, something is due
pub some_due : (planned : List PlannedState) (all : List Due) → map planned_for planned ≡ all → planned ≢ [] → all ≢ []
some_due [] all are some none = some refl
some_due (one ∷ planned) all are some none = let same : planned_for one ∷ map planned_for planned ≡ [] = are ∙ none in absurd cc
