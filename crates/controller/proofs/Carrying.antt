-- SPDX-License-Identifier: MIT OR Apache-2.0
-- Planned steps, one after the other: the remaining ones are ready, have room, and lead to the same
-- end.
use Rattle.controller.proofs.Prelude.{◌≡◌, ◌≢◌, ℕ, ◌+◌, ◌≤◌, Bool, List, ◌∷◌, ◌++◌, find, map, refl, sym, subst, ap, ◌∙◌, arith, eq-eqb}
use Rattle.controller.proofs.Prelude.{Out, AreRising, Controller, Turn, turn, each, has_number, aged, all_aged}
use Rattle.std.proofs.Common.{if◌then◌else◌, sum_by, append_assoc}
use Rattle.std.proofs.lemmas.Bool.{ne_eqb}
use Rattle.std.proofs.lemmas.List.Sums.{sum_by-cons}
use Rattle.conn_messages.specs.declared.parameters.TheConstants.{SWITCH_LINK}
use Rattle.controller.specs.declared.many.Cause.TheVariants.{Time, Break}
use Rattle.controller.specs.Doing.{Turns}
use Rattle.controller.specs.Many.{AreReady, Due, PlannedState, all_due, carried_out, frames_of, planned_for}
use Rattle.controller.proofs.Dues.{break_dues, break_ready, still_ready, time_dues, time_ready}
use Rattle.controller_model.specs.Controller.{freed_station, with_down}
use Rattle.controller_model.specs.Life.{break_of, on_break, tick, with_own_input}
use Rattle.controller_model.proofs.Others.{found_leaves}

-- ---- a loop over planned steps, which make this controller and these frames in the end

pub record IsLeft (c : Controller) (so_far : List Out) (spare : ℕ) (rest : List PlannedState) (last : Controller) (all : List Out) : Type 0 where
  pub ready : AreReady (map planned_for rest) c.entries
  pub room : sum_by frames_of rest ≤ spare
  pub next : (each carried_out c (map planned_for rest)).next ≡ last
  pub outs : so_far ++ (each carried_out c (map planned_for rest)).outs ≡ all

step_left : (c after : Controller) (outs outs_after : List Out) (spare spare_after : ℕ) (one : PlannedState) (rest : List PlannedState) (last : Controller) (all : List Out) → IsLeft c outs spare (one ∷ rest) last all →
    Turns (carried_out c (planned_for one)) c after outs outs_after → spare ≤ spare_after + frames_of one → IsLeft after outs_after spare_after rest last all
step_left c after so_far made spare spare_after one rest last all left turns room = record {
  ready =
      still_ready one.number (map planned_for rest) c.entries after.entries
      (λ m other. ap (λ (d : Controller). find (has_number m) d.entries) turns.0 ∙ found_leaves m one.number one.plan.input c other) left.ready.1 left.ready.2;
  room = let split = sum_by-cons frames_of one rest in omega (arith, split, left.room, room);
  next = ap (λ (d : Controller). (each carried_out d (map planned_for rest)).next) turns.0 ∙ left.next;
  outs =
      ap (λ (l : List Out). l ++ (each carried_out after (map planned_for rest)).outs) turns.1
      ∙ ap (λ (d : Controller). (so_far ++ (carried_out c (planned_for one)).outs) ++ (each carried_out d (map planned_for rest)).outs) turns.0
      ∙ append_assoc so_far (carried_out c (planned_for one)).outs (each carried_out (carried_out c (planned_for one)).next (map planned_for rest)).outs
      ∙ left.outs;
}

pub left_after : (c after : Controller) (outs outs_after : List Out) (spare spare_after : ℕ) (one : PlannedState) (before rest : List PlannedState) (last : Controller) (all : List Out) → before ≡ one ∷ rest → IsLeft c outs spare before last all →
    Turns (carried_out c (planned_for one)) c after outs outs_after → spare ≤ spare_after + frames_of one → IsLeft after outs_after spare_after rest last all
left_after c after outs outs_after spare spare_after one before rest last all is left turns room =
    step_left c after outs outs_after spare spare_after one rest last all (subst (λ (xs : List PlannedState). IsLeft c outs spare xs last all) is left) turns room

-- ---- a tick and a break are the steps that were planned

turns_same : (t u : Turn) (old start new : Controller) (outs reserved outs_after : List Out) →
    t ≡ u →
    reserved ≡ outs →
    Turns t start new reserved outs_after →
    Turns u old new outs outs_after
turns_same t u old start new outs reserved outs_after same none turns =
    (turns.0 ∙ ap (λ (v : Turn). v.next) same, turns.1 ∙ ap (λ (v : Turn). reserved ++ v.outs) same ∙ ap (λ (l : List Out). l ++ u.outs) none)

pub tick_done : (ms : ℕ) (c start after : Controller) (ds : List Due) (outs reserved outs_after : List Out) → AreRising c.entries → ds ≡ all_due (Time ms) c.settings.timers c.entries → start ≡ all_aged ms c → reserved ≡ outs →
    Turns (each carried_out start ds) start after reserved outs_after → Turns (tick ms c) c after outs outs_after
unfolding tick
tick_done ms c start after ds outs reserved outs_after rising dues is none turns =
    turns_same (each carried_out start ds) (tick ms c) c start after outs reserved outs_after
    (ap (λ (d : Controller). each carried_out d ds) is ∙ ap (λ (l : List Due). each carried_out (all_aged ms c) l) dues ∙ sym (time_dues ms c rising))
    none turns

pub tick_ready : (ms : ℕ) (c start : Controller) (ds : List Due) →
    AreRising c.entries →
    ds ≡ all_due (Time ms) c.settings.timers c.entries →
    start ≡ all_aged ms c →
    AreReady ds start.entries
tick_ready ms c start ds rising dues is =
    subst (λ (d : Controller). AreReady ds d.entries) (sym is)
    (subst (λ (l : List Due). AreReady l (map (aged ms) c.entries)) (sym dues) (time_ready ms c.settings.timers c.entries rising))

-- what the connections make of it, before the channels of the station go
abbrev pub all_on_break : ℕ → Controller → Turn
all_on_break source c = each (with_own_input (break_of source)) (with_down source c) c.entries

pub break_done : (source : ℕ) (c start after : Controller) (ds : List Due) (outs reserved outs_after : List Out) → AreRising c.entries → ds ≡ all_due (Break source) c.settings.timers c.entries → start ≡ with_down source c → reserved ≡ outs →
    Turns (each carried_out start ds) start after reserved outs_after → Turns (all_on_break source c) c after outs outs_after
break_done source c start after ds outs reserved outs_after rising dues is none turns =
    turns_same (each carried_out start ds) (all_on_break source c) c start after outs reserved outs_after
    (ap (λ (d : Controller). each carried_out d ds) is ∙ ap (λ (l : List Due). each carried_out (with_down source c) l) dues ∙ sym (break_dues source (with_down source c) c.entries rising refl))
    none turns

pub down_ready : (source : ℕ) (c start : Controller) (ds : List Due) →
    AreRising c.entries →
    ds ≡ all_due (Break source) c.settings.timers c.entries →
    start ≡ with_down source c →
    AreReady ds start.entries
down_ready source c start ds rising dues is =
    subst (λ (d : Controller). AreReady ds d.entries) (sym is)
    (subst (λ (l : List Due). AreReady l c.entries) (sym dues) (break_ready source c.settings.timers c.entries rising))

pub on_station : (source : ℕ) (c after freed : Controller) (outs outs_after : List Out) →
    source ≢ SWITCH_LINK →
    Turns (all_on_break source c) c after outs outs_after →
    freed ≡ freed_station source after →
    Turns (on_break source c) c freed outs outs_after
on_station source c after freed outs outs_after other turns is =
    subst (λ (b : Bool). Turns (turn (all_on_break source c).outs (if b then (all_on_break source c).next else freed_station source (all_on_break source c).next)) c freed outs outs_after) (sym (ne_eqb source SWITCH_LINK other))
    (is ∙ ap (freed_station source) turns.0, turns.1)

pub on_switch : (source : ℕ) (c after : Controller) (outs outs_after : List Out) →
    source ≡ SWITCH_LINK →
    Turns (all_on_break source c) c after outs outs_after →
    Turns (on_break source c) c after outs outs_after
on_switch source c after outs outs_after is turns =
    subst (λ (b : Bool). Turns (turn (all_on_break source c).outs (if b then (all_on_break source c).next else freed_station source (all_on_break source c).next)) c after outs outs_after) (sym (eq-eqb source SWITCH_LINK is))
    turns
