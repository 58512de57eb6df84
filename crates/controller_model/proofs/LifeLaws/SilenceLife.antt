-- SPDX-License-Identifier: MIT OR Apache-2.0
-- Silence over a whole life.
use Rattle.controller_model.proofs.Prelude.{ℕ, ◌≤◌, List, [], ◌∷◌, AllByRecursion, SWITCH_LINK, Sapi, AreAllowed, Parameters, brought_in}
use Rattle.controller_model.proofs.Prelude.{connection_of, IsOctetStep, AllAreRead, AllKeepSilence, SilenceIsKept, Step, Controller}
use Rattle.controller_model.proofs.Prelude.{is_up, new_controller, step}
use Rattle.controller_model.proofs.LifeLaws.OwningLife.{new_holds}
use Rattle.controller_model.proofs.LifeLaws.OwningWords.{Holds}
use Rattle.controller_model.proofs.LifeLaws.SeenFrames.{forwarded_seen}
use Rattle.controller_model.proofs.LifeLaws.SeenStations.{RightFor, handed_seen, right_put}
use Rattle.controller_model.proofs.LifeLaws.SoundLife.{IsSoundAll, new_sound, step_sound}
use Rattle.controller_model.proofs.LifeLaws.Turns.{step_does}
use Rattle.controller_model.proofs.LifeLaws.UplinkLife.{acts_usual}
use Rattle.controller_model.proofs.LifeLaws.UsingLife.{new_uses, ready_by, run_step}
use Rattle.controller_model.proofs.LifeLaws.UsingRows.{Uses}
use Rattle.controller_model.proofs.LifeLaws.DownlinkLife.{frames_of, history_of, moments_of}
use Rattle.controller_model.proofs.LifeLaws.Fitting.{Fits, new_fits, step_fits}
use Rattle.controller_model.proofs.LifeLaws.Silence.{step_silence}
use Rattle.controller_model.specs.Life.{life}

silent_run : (number : ℕ) (c : Controller) (from_one : 1 ≤ number) (fits : Fits number c) (steps : List Step) →
    AllKeepSilence number c (moments_of number c from_one fits steps)
unfolding moments_of
silent_run number c from_one fits [] = tt
silent_run number c from_one fits (s ∷ ss) = (step_silence number c s from_one fits, silent_run number (step c s).next from_one (step_fits number c s from_one fits) ss)

-- ---- what is read

acts_right : (sapi : Sapi) (number : ℕ) (c : Controller) (s : Step) (from_one : 1 ≤ number) (fits : Fits number c) → Uses (step c s).next.links (step c s).next.links (step c s).next → Holds (step c s).next.links (step c s).next →
    AllByRecursion (RightFor sapi) (step_does number c s from_one fits.numbered).put
acts_right sapi number c s from_one fits uses holds =
    let silence = step_silence number c s from_one fits in
    right_put sapi number (step c s).next (connection_of (step c s).next number) (step_does number c s from_one fits.numbered).put uses (holds.each number) silence.serving silence.over

read_run : (number : ℕ) (c : Controller) (from_one : 1 ≤ number) (fits : (n : ℕ) → 1 ≤ n → Fits n c) →
    Holds c.links c →
    Uses c.links c.links c →
    IsSoundAll c →
    (steps : List Step) →
    AllByRecursion IsOctetStep steps →
    AllAreRead number c (moments_of number c from_one (fits number from_one) steps)
unfolding moments_of
read_run number c from_one fits holds uses sound [] octets = tt
read_run number c from_one fits holds uses sound (s ∷ ss) octets =
    let mine = fits number from_one in
    let does = step_does number c s from_one mine.numbered in
    let next : Controller = (step c s).next in
    let after = run_step c s fits holds uses in
    let turn_sound = step_sound c s octets.0 (ready_by c fits holds uses) sound in
    let more : (n : ℕ) → 1 ≤ n → Fits n next = λ n first. step_fits n c s first (fits n first) in (
      λ sapi. (
        forwarded_seen number (step c s).outs does.put from_one does.outs (acts_usual number c.next_number (is_up c SWITCH_LINK) (brought_in c number s) (connection_of c number) (connection_of next number) does.put does.acts) turn_sound.sent sapi,
        handed_seen number (step c s).outs does.put from_one does.outs turn_sound.sent sapi (acts_right sapi number c s from_one mine after.uses after.holds),
      ),
      read_run number next from_one more after.holds after.uses turn_sound.sound ss octets.1,
    )

pub life_reads : (p : Parameters) (steps : List Step) (number : ℕ) (from_one : 1 ≤ number) →
    AreAllowed p →
    AllByRecursion IsOctetStep steps →
    AllAreRead number (new_controller p) (moments_of number (new_controller p) from_one (new_fits number p) steps)
life_reads p steps number from_one allowed octets = read_run number (new_controller p) from_one (λ n first. new_fits n p) (new_holds p allowed) (new_uses p) (new_sound p allowed) steps octets

pub life_is_silent : (p : Parameters) (steps : List Step) (number : ℕ) → 1 ≤ number → SilenceIsKept number p steps (life p steps)
unfolding life
life_is_silent p steps number from_one = record {
  moments = moments_of number (new_controller p) from_one (new_fits number p) steps;
  history = history_of number (new_controller p) from_one (new_fits number p) steps;
  frames = frames_of number (new_controller p) from_one (new_fits number p) steps;
  silent = silent_run number (new_controller p) from_one (new_fits number p) steps;
  read = λ allowed octets. life_reads p steps number from_one allowed octets;
}
