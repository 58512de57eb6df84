-- SPDX-License-Identifier: MIT OR Apache-2.0
-- Each number of a run has a known stage.
use Rattle.world_laws.proofs.Prelude.{◌≡◌, ℕ, ◌≤◌, List, [], ◌∷◌, ◌++◌, get_or, length, replicate, Option, refl, sym, ap, subst}
use Rattle.world_laws.proofs.Prelude.{append_assoc, option_or, append-nil, SWITCH_LINK, AreAllowed, Parameters, Event}
use Rattle.world_laws.proofs.Prelude.{actors_after, Actors, broken_link, modulus_in, new_actors, new_link, TookOctets, first_served}
use Rattle.world_laws.proofs.Prelude.{served_by, CutNumbersRemainCut, Facts, NumbersAreSomewhere, OnceDown, Whereabouts, while_up}
use Rattle.std.proofs.Math.Numerals.{add-one}
use Rattle.world_laws.specs.Order.Facts.{Holds}
use Rattle.world_laws.specs.Order.Whereabouts.WhileUp.{unborn}
use Rattle.world_laws.proofs.Order.Controllers.{octets_front}
use Rattle.world_laws.proofs.Order.Openers.{snoc_served}
use Rattle.world_laws.proofs.Order.Steps.{cut_then, whereabouts_then}
use Rattle.world_laws.proofs.Events.{snoc_actors, world}

-- it does at the beginning
whereabouts_first : (settings : Parameters) (number : ℕ) →
    1 ≤ number →
    Whereabouts (modulus_in settings) (new_actors settings) (first_served (new_actors settings) [] number) number
whereabouts_first settings number from_one = while_up (ap (λ (count : ℕ). (get_or (replicate count new_link) SWITCH_LINK broken_link).up) (add-one (length settings.cells))) (unborn refl from_one)

module _ (settings : Parameters) (facts : Facts settings) (allowed : AreAllowed settings) (number : ℕ) (from_one : 1 ≤ number) where
  -- and after each event
  whereabouts_next : (events : List Event) (event : Event) → TookOctets settings (events ++ event ∷ []) → Whereabouts (modulus_in settings) (world settings events) (first_served (new_actors settings) events number) number
      → Whereabouts (modulus_in settings) (world settings (events ++ event ∷ [])) (first_served (new_actors settings) (events ++ event ∷ []) number) number
  whereabouts_next events event octets at =
      let next : world settings (events ++ event ∷ []) ≡ actors_after (world settings events) event = snoc_actors (new_actors settings) events event in
      let now : Whereabouts (modulus_in settings) (actors_after (world settings events) event) (option_or (first_served (new_actors settings) events number) (served_by (actors_after (world settings events) event) number)) number =
      whereabouts_then settings events event (first_served (new_actors settings) events number) number (record {
        before = facts.holds events allowed (octets_front settings events (event ∷ []) octets);
        at = facts.holds_at events event allowed octets;
        after = subst (Holds (modulus_in settings)) next (facts.holds (events ++ event ∷ []) allowed octets);
      }) from_one at in
      subst (λ (w : Actors). Whereabouts (modulus_in settings) w (first_served (new_actors settings) (events ++ event ∷ []) number) number) (sym next)
      (subst (λ (o : Option ℕ). Whereabouts (modulus_in settings) (actors_after (world settings events) event) o number) (sym (snoc_served (new_actors settings) events event number)) now)

  -- these, and then those
  whereabouts_through : (done rest : List Event) → TookOctets settings (done ++ rest) → Whereabouts (modulus_in settings) (world settings done) (first_served (new_actors settings) done number) number
      → Whereabouts (modulus_in settings) (world settings (done ++ rest)) (first_served (new_actors settings) (done ++ rest) number) number
  whereabouts_through done [] octets at = subst (λ (events : List Event). Whereabouts (modulus_in settings) (world settings events) (first_served (new_actors settings) events number) number) (sym (append-nil done)) at
  whereabouts_through done (event ∷ rest) octets at =
      let same : (done ++ event ∷ []) ++ rest ≡ done ++ event ∷ rest = append_assoc done (event ∷ []) rest in
      subst (λ (events : List Event). Whereabouts (modulus_in settings) (world settings events) (first_served (new_actors settings) events number) number) same
      (whereabouts_through (done ++ event ∷ []) rest (subst (TookOctets settings) (sym same) octets) (whereabouts_next done event (octets_front settings (done ++ event ∷ []) rest (subst (TookOctets settings) (sym same) octets)) at))

pub numbers_are_somewhere_new : (settings : Parameters) (events : List Event) → NumbersAreSomewhere settings events
numbers_are_somewhere_new settings events number facts allowed octets from_one = whereabouts_through settings facts allowed number from_one [] events octets (whereabouts_first settings number from_one)

-- ---- once the link is down, without any premise

pub cut_numbers_remain_cut_new : (settings : Parameters) (events : List Event) (event : Event) → CutNumbersRemainCut settings events event
cut_numbers_remain_cut_new settings events event number down at =
    subst (λ (w : Actors). OnceDown (modulus_in settings) w (first_served (new_actors settings) (events ++ event ∷ []) number) number) (sym (snoc_actors (new_actors settings) events event))
    (subst (λ (o : Option ℕ). OnceDown (modulus_in settings) (actors_after (world settings events) event) o number) (sym (snoc_served (new_actors settings) events event number)) (cut_then settings events event number down at))
