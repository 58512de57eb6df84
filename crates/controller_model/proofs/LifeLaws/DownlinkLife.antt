-- SPDX-License-Identifier: MIT OR Apache-2.0
-- The switch's messages of a connection over a whole life.
use Rattle.controller_model.proofs.Prelude.{◌≡◌, ℕ, ◌≤◌, ◌<◌, List, [], ◌∷◌, ◌++◌, find, fold, Option, Some, None, option_map, refl, sym}
use Rattle.controller_model.proofs.Prelude.{subst, ap, ◌∙◌, inl, inr, cases_Bool, cond-true, cond-false, eqb-true, AllByRecursion, Out}
use Rattle.controller_model.proofs.Prelude.{outs_of, SWITCH_LINK, Connection, Sapi, Parameters, brought_in, ConservesDownlink, Switched}
use Rattle.controller_model.proofs.Prelude.{nothing_switched, switched, with_moment, IsHistory, Moment, all_messages, connection_of}
use Rattle.controller_model.proofs.Prelude.{outs_for, IsBelow, IsNumbered, Step, Controller, Entry, each, has_number, is_up, new_controller}
use Rattle.controller_model.proofs.Prelude.{step}
use Rattle.controller_model.proofs.LifeLaws.Acting.{outs_append, outs_of_append}
use Rattle.controller_model.proofs.LifeLaws.Beside.{step_keeps_rest}
use Rattle.controller_model.proofs.LifeLaws.Fitting.{Fits, in_break, new_fits, step_fits}
use Rattle.controller_model.proofs.LifeLaws.Switched.{AgreesDown, IsBegun, acts_agree, step_says}
use Rattle.controller_model.proofs.LifeLaws.Turns.{step_does}
use Rattle.controller_model.specs.Life.{life}

-- the messages that the steps put for a connection
unfoldable pub moments_of : (number : ℕ) (c : Controller) → 1 ≤ number → Fits number c → List Step → List Moment
moments_of number c from_one fits [] = []
moments_of number c from_one fits (s ∷ ss) =
    record { taken = s; messages = (step_does number c s from_one fits.numbered).put } ∷ moments_of number (step c s).next from_one (step_fits number c s from_one fits) ss

pub history_of : (number : ℕ) (c : Controller) (from_one : 1 ≤ number) (fits : Fits number c) (steps : List Step) →
    IsHistory number c steps (moments_of number c from_one fits steps)
unfolding moments_of
history_of number c from_one fits [] = tt
history_of number c from_one fits (s ∷ ss) =
    (refl, (step_does number c s from_one fits.numbered).outs, history_of number (step c s).next from_one (step_fits number c s from_one fits) ss)

pub frames_of : (number : ℕ) (c : Controller) (from_one : 1 ≤ number) (fits : Fits number c) (steps : List Step) →
    outs_for number (each step c steps).outs ≡ outs_of number (all_messages (moments_of number c from_one fits steps))
unfolding moments_of
frames_of number c from_one fits [] = refl
frames_of number c from_one fits (s ∷ ss) =
    let does = step_does number c s from_one fits.numbered in
    let rest = moments_of number (step c s).next from_one (step_fits number c s from_one fits) ss in
    outs_append number (step c s).outs (each step (step c s).next ss).outs
    ∙ ap (λ (outs : List Out). outs ++ outs_for number (each step (step c s).next ss).outs) does.outs
    ∙ ap (λ (outs : List Out). outs_of number does.put ++ outs) (frames_of number (step c s).next from_one (step_fits number c s from_one fits) ss)
    ∙ sym (outs_of_append number does.put (all_messages rest))

found_begun : (number next : ℕ) (xs : List Entry) →
    AllByRecursion (IsBelow next) xs →
    IsBegun number next (option_map (λ (e : Entry). e.connection) (find (has_number number) xs))
unfolding IsBegun
found_begun number next [] below = tt
found_begun number next (x ∷ xs) below = elim (cases_Bool (has_number number x)) [
  | inl hit ↦
      subst (λ (o : Option Entry). IsBegun number next (option_map (λ (e : Entry). e.connection) o)) (sym (cond-true _ (Some x) (find (has_number number) xs) hit))
      (subst (λ (n : ℕ). n < next) (eqb-true x.connection.number number hit) below.0)
  | inr miss ↦
      subst (λ (o : Option Entry). IsBegun number next (option_map (λ (e : Entry). e.connection) o)) (sym (cond-false _ (Some x) (find (has_number number) xs) miss))
      (found_begun number next xs below.1)
]

pub begun_in : (number : ℕ) (c : Controller) → IsNumbered c → IsBegun number c.next_number (connection_of c number)
begun_in number c numbered = found_begun number c.next_number c.entries numbered.below

pub agree_step : (sapi : Sapi) (number : ℕ) (c : Controller) (from_one : 1 ≤ number) (fits : Fits number c) (a : Switched) (s : Step) → AgreesDown sapi number c.next_number a (connection_of c number) →
    AgreesDown sapi number (step c s).next.next_number (with_moment number sapi a (record { taken = s; messages = (step_does number c s from_one fits.numbered).put })) (connection_of (step c s).next number)
agree_step sapi number c from_one fits a s agrees =
    let does = step_does number c s from_one fits.numbered in
    acts_agree sapi number c.next_number (step c s).next.next_number (is_up c SWITCH_LINK) (brought_in c number s) (connection_of c number) (connection_of (step c s).next number) does.put a s does.acts (step_keeps_rest c s).numbers (begun_in number c fits.numbered) fits.fine fits.linked (in_break c number s)
    (λ up. step_says c number s up) agrees

agree_run : (sapi : Sapi) (number : ℕ) (c : Controller) (from_one : 1 ≤ number) (fits : Fits number c) (a : Switched) (steps : List Step) → AgreesDown sapi number c.next_number a (connection_of c number) →
    AgreesDown sapi number (each step c steps).next.next_number (fold (with_moment number sapi) a (moments_of number c from_one fits steps)) (connection_of (each step c steps).next number)
unfolding moments_of
agree_run sapi number c from_one fits a [] agrees = agrees
agree_run sapi number c from_one fits a (s ∷ ss) agrees =
    agree_run sapi number (step c s).next from_one (step_fits number c s from_one fits) (with_moment number sapi a (record { taken = s; messages = (step_does number c s from_one fits.numbered).put })) ss
    (agree_step sapi number c from_one fits a s agrees)

pub conserved : (sapi : Sapi) (number next : ℕ) (a : Switched) (o : Option Connection) →
    AgreesDown sapi number next a o →
    ConservesDownlink a sapi o
unfolding AgreesDown
conserved sapi number next a None agrees = tt
conserved sapi number next a (Some s) agrees = λ there. (agrees there).1

pub new_agrees : (sapi : Sapi) (number : ℕ) (p : Parameters) →
    AgreesDown sapi number 1 nothing_switched (connection_of (new_controller p) number)
unfolding AgreesDown
new_agrees sapi number p = λ less. refl

pub downlink_in_life : (p : Parameters) (steps : List Step) (number : ℕ) (from_one : 1 ≤ number) (sapi : Sapi) →
    ConservesDownlink (switched number sapi (moments_of number (new_controller p) from_one (new_fits number p) steps)) sapi (connection_of (life p steps).next number)
unfolding life
downlink_in_life p steps number from_one sapi =
    conserved sapi number (each step (new_controller p) steps).next.next_number (switched number sapi (moments_of number (new_controller p) from_one (new_fits number p) steps)) (connection_of (each step (new_controller p) steps).next number)
    (agree_run sapi number (new_controller p) from_one (new_fits number p) nothing_switched steps (new_agrees sapi number p))

pub frames_in_life : (p : Parameters) (steps : List Step) (number : ℕ) (from_one : 1 ≤ number) →
    outs_for number (life p steps).outs ≡ outs_of number (all_messages (moments_of number (new_controller p) from_one (new_fits number p) steps))
unfolding life
frames_in_life p steps number from_one = frames_of number (new_controller p) from_one (new_fits number p) steps
