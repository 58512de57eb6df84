-- SPDX-License-Identifier: MIT OR Apache-2.0
-- The law of lives from the law of one step: if each step keeps what holds, a life does.
use Rattle.std.proofs.Common.{◌≡◌, ℕ, Bool, true, false, List, [], ◌∷◌, ◌++◌, Option, Some, None, refl, sym, subst, ap, ◌∙◌}
use Rattle.std.specs.List.{AllByRecursion}
use Rattle.std.specs.Option.{option_to_list}
use Rattle.std.specs.Prelude.{if◌then◌else◌, map}
use Rattle.controller_model.specs.declared.step.Step.{Step}
use Rattle.controller_model.specs.Controller.{Controller, each, new_controller}
use Rattle.controller_model.specs.Life.{step}
use Rattle.controller_model.specs.LifeLaws.Sending.{IsOctetStep}
use Rattle.controller_model.proofs.LifeLaws.Fitting.{new_fits}
use Rattle.controller_model.proofs.LifeLaws.OwningLife.{new_holds}
use Rattle.controller_model.proofs.LifeLaws.SoundLife.{IsSoundAll, new_sound, step_sound}
use Rattle.controller_model.proofs.LifeLaws.UsingLife.{IsAfter, new_uses, ready_by, run_step}
use Rattle.controller_model.proofs.LifeLaws.UsingWords.{Ready}
use Rattle.run_judge.specs.declared.said.Said.{Said}
use Rattle.run_judge.specs.declared.said.Said.TheVariants as says
use Rattle.run_judge.specs.Connection.{IsWithoutFault}
use Rattle.run_judge.specs.ConnectionState.{ConnectionState}
use Rattle.run_judge.specs.Judging.{Judging, Numbered, after_all, after_one, all_ended, ended_by, is_unconfirmed, new_judging}
use Rattle.judge_laws.proofs.CellsRemain.{all_remain}
use Rattle.judge_laws.specs.Lives.{LivesAreJudgedFairly, life_says, step_says}
use Rattle.judge_laws.proofs.Fine.{AreFine, KnowsNone, new_fine}
use Rattle.judge_laws.proofs.Well.{Well, without_fault}

-- of no connection a fault is said
abbrev pub AreWell : Judging → Type 0
AreWell j = (n : ℕ) (k : ConnectionState) → j.connections n ≡ Some k → Well n k

-- ---- the connections that end

one_ended : (n : ℕ) (o : Option ConnectionState) →
    ((k : ConnectionState) → o ≡ Some k → Well n k) →
    AllByRecursion IsWithoutFault (option_to_list o)
one_ended n None well = tt
one_ended n (Some k) well = (without_fault n k (well k refl), tt)

where_unconfirmed : (b : Bool) (n : ℕ) (o : Option ConnectionState) →
    ((k : ConnectionState) → o ≡ Some k → Well n k) →
    AllByRecursion IsWithoutFault (option_to_list (if b then o else None))
where_unconfirmed true n o well = one_ended n o well
where_unconfirmed false n o well = tt

pub ended_well : (said : Said) (j : Judging) → AreWell j → AllByRecursion IsWithoutFault (option_to_list (ended_by said j))
ended_well (says.Requests source message) j well = one_ended source (j.connections source) (well source)
ended_well (says.Ends source) j well = one_ended source (j.connections source) (well source)
ended_well (says.Refuses destination) j well = where_unconfirmed (is_unconfirmed (j.connections destination)) destination (j.connections destination) (well destination)
ended_well _ j well = tt

-- ---- frames, one behind the other

pub after-append : (j : Judging) (ms ns : List Numbered) → after_all j (ms ++ ns) ≡ after_all (after_all j ms) ns
after-append j [] ns = refl
after-append j (m ∷ ms) ns = after-append (after_one j m) ms ns

pub all_both : (xs ys : List ConnectionState) →
    AllByRecursion IsWithoutFault xs →
    AllByRecursion IsWithoutFault ys →
    AllByRecursion IsWithoutFault (xs ++ ys)
all_both [] ys one two = two
all_both (x ∷ xs) ys one two = (one.0, all_both xs ys one.1 two)

pub ended-append : (j : Judging) (ms ns : List Numbered) →
    AllByRecursion IsWithoutFault (all_ended j ms) →
    AllByRecursion IsWithoutFault (all_ended (after_all j ms) ns) →
    AllByRecursion IsWithoutFault (all_ended j (ms ++ ns))
ended-append j [] ns one two = two
ended-append j (m ∷ ms) ns one two =
    let parts = split (option_to_list (ended_by m.said j)) (all_ended (after_one j m) ms) one in
    all_both (option_to_list (ended_by m.said j)) (all_ended (after_one j m) (ms ++ ns)) parts.0 (ended-append (after_one j m) ms ns parts.1 two)
  where
    split : (xs ys : List ConnectionState) →
        AllByRecursion IsWithoutFault (xs ++ ys) →
        AllByRecursion IsWithoutFault xs × AllByRecursion IsWithoutFault ys
    split [] ys all = (tt, all)
    split (x ∷ xs) ys all = (let rest = split xs ys all.1 in ((all.0, rest.0), rest.1))

-- the frames of the first says, and the others
pub record IsSplit (ns : List Numbered) (first rest : List Said) : Type 0 where
  pub front : List Numbered
  pub back : List Numbered
  pub are : ns ≡ front ++ back
  pub says_first : map (λ (k : Numbered). k.said) front ≡ first
  pub says_rest : map (λ (k : Numbered). k.said) back ≡ rest

pub split_by : (ns : List Numbered) (first rest : List Said) → map (λ (k : Numbered). k.said) ns ≡ first ++ rest → IsSplit ns first rest
split_by ns [] rest is = record { front = []; back = ns; are = refl; says_first = refl; says_rest = is }
split_by [] (s ∷ ss) rest is = absurd cc
split_by (n ∷ ns) (s ∷ ss) rest is =
    let one : n.said ≡ s = cc in
    let others : map (λ (k : Numbered). k.said) ns ≡ ss ++ rest = cc in
    let parts = split_by ns ss rest others in
    record {
      front = n ∷ parts.front;
      back = parts.back;
      are = ap (λ (xs : List Numbered). n ∷ xs) parts.are;
      says_first = (let more = parts.says_first in cc);
      says_rest = parts.says_rest;
    }

-- ---- a life

-- a step keeps what holds, and no connection that ends in it has a fault
abbrev pub StepsKeep : Type 0
StepsKeep = (c : Controller) (s : Step) (j : Judging) (ns : List Numbered) → KnowsNone j → IsOctetStep s → Ready c → IsSoundAll c → map (λ (k : Numbered). k.said) ns ≡ step_says c s → AreFine c j
    → AreFine (step c s).next (after_all j ns) × AllByRecursion IsWithoutFault (all_ended j ns)

run_fairly : StepsKeep → (c : Controller) (steps : List Step) (j : Judging) (ns : List Numbered) → KnowsNone j → AllByRecursion IsOctetStep steps → IsAfter c → IsSoundAll c → map (λ (k : Numbered). k.said) ns ≡ life_says c steps → AreFine c j
    → AreFine (each step c steps).next (after_all j ns) × AllByRecursion IsWithoutFault (all_ended j ns)
run_fairly keeps c [] j [] unknown octets now sound is fine = (fine, tt)
run_fairly keeps c [] j (n ∷ ns) unknown octets now sound is fine = absurd cc
run_fairly keeps c (s ∷ ss) j ns unknown octets now sound is fine =
    let parts = split_by ns (step_says c s) (life_says (step c s).next ss) is in
    let ready : Ready c = ready_by c now.fits now.holds now.uses in
    let one = keeps c s j parts.front unknown octets.0 ready sound parts.says_first fine in
    let next : IsAfter (step c s).next = run_step c s now.fits now.holds now.uses in
    let rest = run_fairly keeps (step c s).next ss (after_all j parts.front) parts.back (all_remain parts.front j ∙ unknown) octets.1 next (step_sound c s octets.0 ready sound).sound parts.says_rest one.0 in
    let joined : AreFine (each step (step c s).next ss).next (after_all j (parts.front ++ parts.back)) × AllByRecursion IsWithoutFault (all_ended j (parts.front ++ parts.back)) =
    (subst (AreFine (each step (step c s).next ss).next) (sym (after-append j parts.front parts.back)) rest.0, ended-append j parts.front parts.back one.1 rest.1) in
    subst (λ (xs : List Numbered). AreFine (each step (step c s).next ss).next (after_all j xs) × AllByRecursion IsWithoutFault (all_ended j xs)) (sym parts.are) joined

pub law_by_steps : StepsKeep → LivesAreJudgedFairly
law_by_steps keeps p steps modulus frames allowed octets is =
    let now : IsAfter (new_controller p) = record { fits = λ n from_one. new_fits n p; holds = new_holds p allowed; uses = new_uses p } in
    let all = run_fairly keeps (new_controller p) steps (new_judging modulus []) frames refl octets now (new_sound p allowed) is (new_fine p modulus) in
    record {
      ended = all.1;
      remaining = λ reference k there. without_fault reference k ((all.0.each reference).well k there);
    }
