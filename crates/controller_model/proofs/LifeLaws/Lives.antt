-- SPDX-License-Identifier: MIT OR Apache-2.0
-- Facts that hold after every list of steps.
use Rattle.controller_model.proofs.Prelude.{ℕ, ◌≤◌, List, [], ◌∷◌, Parameters, ActsOn, Step, Controller, each, new_controller, step}
use Rattle.controller_model.proofs.LifeLaws.Fitting.{Fits, step_fits, new_fits}
use Rattle.controller_model.proofs.LifeLaws.Turns.{step_does}
use Rattle.controller_model.specs.Life.{life}

all_fit : (number : ℕ) (c : Controller) (steps : List Step) → 1 ≤ number → Fits number c → Fits number (each step c steps).next
all_fit number c [] from_one fits = fits
all_fit number c (s ∷ ss) from_one fits = all_fit number (step c s).next ss from_one (step_fits number c s from_one fits)

pub life_fits : (p : Parameters) (steps : List Step) (number : ℕ) → 1 ≤ number → Fits number (life p steps).next
unfolding life
life_fits p steps number from_one = all_fit number (new_controller p) steps from_one (new_fits number p)

pub life_acts : (p : Parameters) (steps : List Step) (s : Step) (number : ℕ) → 1 ≤ number → ActsOn number (life p steps).next s
life_acts p steps s number from_one =
    let does = step_does number (life p steps).next s from_one (life_fits p steps number from_one).numbered in
    record { put = does.put; outs = does.outs; acts = does.acts }
