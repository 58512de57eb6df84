-- SPDX-License-Identifier: MIT OR Apache-2.0
-- All laws of a life, together: they hold of a life, and of a result that equals one.
use Rattle.controller.proofs.Prelude.{◌≡◌, List, arith, sym, subst, ap, ◌∙◌, Out, AllByRecursion, Step, Controller, each, turn, Parameters}
use Rattle.std.proofs.Common.{Result, Ok, Err, IfOk}
use Rattle.controller_model.specs.Life.{life, step}
use Rattle.controller_model.specs.LifeLaws.Sending.{IsOctetStep, IsSent}
use Rattle.controller.specs.Laws.{IsNew, KeepsLaws}
use Rattle.settings.specs.Parameters.{AreAllowed}
use Rattle.controller_model.proofs.LifeLaws.Concerning.{frame_leaves}
use Rattle.controller_model.proofs.LifeLaws.DownlinkLaw.{life_conserves}
use Rattle.controller_model.proofs.LifeLaws.HandingLife.{life_hands}
use Rattle.controller_model.proofs.LifeLaws.Lives.{life_acts, life_fits}
use Rattle.controller_model.proofs.LifeLaws.NamingLife.{life_names}
use Rattle.controller_model.proofs.LifeLaws.OwningLife.{life_linked, life_owns}
use Rattle.controller_model.proofs.LifeLaws.Placed.{life_placed}
use Rattle.controller_model.proofs.LifeLaws.Silence.{remains_silent}
use Rattle.controller_model.proofs.LifeLaws.SilenceLife.{life_is_silent}
use Rattle.controller_model.proofs.LifeLaws.SoundLife.{life_sends_all}
use Rattle.controller_model.proofs.LifeLaws.UplinkLife.{life_conserves_up}
use Rattle.controller_model.proofs.LifeLaws.UsingLife.{life_reaches, life_uses}

pub life_keeps_laws : (p : Parameters) (steps : List Step) → AreAllowed p → KeepsLaws p steps (life p steps)
life_keeps_laws p steps allowed = record {
  uplink = λ number from_one. life_conserves_up p steps number allowed from_one;
  downlink = λ number from_one. life_conserves p steps number from_one;
  silence = λ number from_one. life_is_silent p steps number from_one;
  closed = λ rest number from_one less over. remains_silent number (life p steps).next rest from_one (life_fits p steps number from_one) less over;
  handing = λ number from_one. life_hands p steps number from_one;
  channels = λ number. life_owns p steps number allowed;
  used = life_uses p steps allowed;
  numbers = (life_fits p steps 1 (omega arith)).numbered;
  linked = λ number from_one. life_linked p steps number from_one;
  rows = λ s number from_one. life_acts p steps s number from_one;
  placed = λ s number from_one. life_placed p steps s number allowed from_one;
  reach = λ s. life_reaches p steps s allowed;
  named = λ s number from_one. life_names p steps s number from_one;
  others = λ number source frame from_one. frame_leaves p steps number source frame allowed from_one;
  sent = λ octets. life_sends_all p steps allowed octets;
}

-- the steps of a controller that was new are a life
pub new_keeps_laws : (start : Controller) (steps : List Step) → IsNew start → KeepsLaws start.settings steps (each step start steps)
unfolding life
new_keeps_laws start steps is = subst (λ (c : Controller). KeepsLaws start.settings steps (each step c steps)) (sym is.new) (life_keeps_laws start.settings steps is.allowed)

-- what follows from what an answer is
pub if_so : {A E : Type 0} (P Q : A → Type 0) (r : Result A E) → ((x : A) → P x → Q x) → IfOk r P → IfOk r Q
if_so P Q (Ok x) follows is = follows x is
if_so P Q (Err e) follows is = tt

lived : (p : Parameters) (steps : List Step) (c : Controller) (outs : List Out) →
    (c ≡ (life p steps).next) × (outs ≡ (life p steps).outs) →
    life p steps ≡ turn outs c
lived p steps c outs is = ap (λ (os : List Out). turn os (life p steps).next) (sym is.1) ∙ ap (turn outs) (sym is.0)

-- what a life is keeps its laws
pub lived_keeps_laws : (p : Parameters) (steps : List Step) (c : Controller) (outs : List Out) →
    AreAllowed p →
    (c ≡ (life p steps).next) × (outs ≡ (life p steps).outs) →
    KeepsLaws p steps (turn outs c)
lived_keeps_laws p steps c outs allowed is = subst (KeepsLaws p steps) (lived p steps c outs is) (life_keeps_laws p steps allowed)

-- and where what was received was octets, each frame is read as the message that was put
pub lived_sends : (p : Parameters) (steps : List Step) (c : Controller) (outs : List Out) →
    AreAllowed p →
    (c ≡ (life p steps).next) × (outs ≡ (life p steps).outs) →
    AllByRecursion IsOctetStep steps →
    AllByRecursion IsSent outs
lived_sends p steps c outs allowed is octets = (lived_keeps_laws p steps c outs allowed is).sent octets
