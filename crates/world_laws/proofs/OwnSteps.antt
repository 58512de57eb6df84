-- SPDX-License-Identifier: MIT OR Apache-2.0
-- How far a change of channel is after a row, by what the row does to the roles of channels.
use Rattle.world_laws.proofs.Prelude.{◌≡◌, ℕ, Bool, true, false, ◌&&◌, ◌||◌, not, if◌then◌else◌, List, [], ◌∷◌, length, Option, Some, None}
use Rattle.world_laws.proofs.Prelude.{refl, sym, ap, ◌∙◌, subst, arith, Place, Drain, State}
use Rattle.world_laws.proofs.Prelude.{Live, Target, Connection, place_of, Held, none-some, IsHereOrGone, some_lost, remains, left, after_complete}
use Rattle.world_laws.proofs.Prelude.{ended, flow, controls_of, controls_in, texts_in, on_serving, on_target, moving, gone, lacks}
use Rattle.world_laws.proofs.Prelude.{some_lacks, target_items, OwnStep, StillAwaits, is_ended, draining_tenure, old_tenure, old_tenures}
use Rattle.world_laws.proofs.Prelude.{is_gone, commanded_target, target_tenure, is_changing, is_opening}
use Rattle.world_laws.specs.LineUp.Alive.{ChangePhase}
use Rattle.world_laws.specs.LineUp.Alive.ChangePhase.{opens, rests}
use Rattle.world_laws.specs.LineUp.Places.{Item, Seat}
use Rattle.world_laws.proofs.LineUp.Phases.{phase_fewer, phase_commands, phase_completes, phase_reverts}
use Rattle.world_laws.specs.OwnStep.OwnStep.{unchanged, tells, completes, reverts}
use Rattle.world_laws.specs.LineUps.{has_arrived}

-- ---- whether something is missing, whatever is held

one_lacks : (arriving : Place → List Item) (up : ℕ → Bool) (d : Drain) (hold : List (List ℕ)) →
    (old_tenure arriving up d hold).is_lost ≡ lacks arriving up d
one_lacks arriving up d hold = by_done d.is_done where
  by_done : (b : Bool) →
      (if b then ended hold else draining_tenure (up d.channel.station) (arriving (place_of d.channel)) hold).is_lost ≡ (if b then false else (not (up d.channel.station) && not (is_ended (arriving (place_of d.channel)))))
  by_done true = refl
  by_done false = refl

pub old_lacks : (arriving : Place → List Item) (up : ℕ → Bool) (ds : List Drain) (ts : List Held) →
    some_lost (old_tenures arriving up ds ts) ≡ some_lacks arriving up ds
old_lacks arriving up [] ts = refl
old_lacks arriving up (d ∷ ds) [] = ap (λ (b : Bool). b || some_lost (old_tenures arriving up ds [])) (one_lacks arriving up d []) ∙ ap (λ (b : Bool). lacks arriving up d || b) (old_lacks arriving up ds [])
old_lacks arriving up (d ∷ ds) (t ∷ ts) = ap (λ (b : Bool). b || some_lost (old_tenures arriving up ds ts)) (one_lacks arriving up d t.zero) ∙ ap (λ (b : Bool). lacks arriving up d || b) (old_lacks arriving up ds ts)

-- ---- counts of the target

target_texts : (arriving : Place → List Item) (up : ℕ → Bool) (seat : Seat) (o : Option Target) →
    texts_in (target_tenure arriving up seat o).items ≡ texts_in (target_items arriving o)
target_texts arriving up seat None = refl
target_texts arriving up seat (Some t) = refl

target_controls : (arriving : Place → List Item) (up : ℕ → Bool) (seat : Seat) (o : Option Target) →
    controls_in (target_tenure arriving up seat o).items ≡ controls_in (target_items arriving o)
target_controls arriving up seat None = refl
target_controls arriving up seat (Some t) = refl

-- by counts alone
abbrev pub PhaseWith : Bool → Option Target → ℕ → Seat → ℕ → (Place → List Item) → ℕ → Type 0
PhaseWith opening o commands seat serving arriving link = ChangePhase opening (is_changing o) commands seat serving (texts_in (target_items arriving o)) (controls_in (target_items arriving o)) link

-- while the initial message is still to arrive, no change is under way
pub opening_unchanging : (state : State) → is_opening state ≡ true → commanded_target state ≡ None
opening_unchanging (Live reference stage) is = absurd cc
opening_unchanging _ is = refl

some_none : {t : Target} {o : Option Target} → o ≡ None → o ≡ Some t → ⊥
some_none {t} none is = none-some _ (sym none ∙ is)

-- the COMMAND is put behind the connection request
commanded : {opening : Bool} {c s x t k : ℕ} {seat : Seat} →
    (opening ≡ true → ⊥) →
    ChangePhase opening false c seat s x t k →
    ChangePhase opening true 1 seat s x t k
commanded {opening = false} request phase = phase_commands phase
commanded {opening = true} request phase = absurd (request refl)

-- a connection begins to wait for its initial message, or waits on
phase_awaits : (opening opening2 : Bool) (o : Option Target) {c s x t k : ℕ} {seat : Seat} →
    (opening ≡ true → opening2 ≡ true) →
    (opening2 ≡ true → o ≡ None) →
    ChangePhase opening (is_changing o) c seat s x t k →
    ChangePhase opening2 (is_changing o) c seat s x t k
phase_awaits false false o awaits unchanging phase = phase
phase_awaits true true o awaits unchanging phase = phase
phase_awaits true false o awaits unchanging phase = absurd (let is = awaits refl in cc)
phase_awaits false true (Some t) awaits unchanging phase = absurd (some_none (unchanging refl) refl)
phase_awaits false true None awaits unchanging phase = begins phase where
  begins : {c s x t k : ℕ} {seat : Seat} → ChangePhase false false c seat s x t k → ChangePhase true false c seat s x t k
  begins (rests here zero) = opens here (omega arith)

counted : {opening : Bool} {before after : Place → List Item} {up : ℕ → Bool} {s next : Connection} {commands commands2 : ℕ} {seat seat2 : Seat} (link : ℕ) → OwnStep before after up s next commands commands2 seat seat2
    → (opening ≡ true → commanded_target next.state ≡ None) → PhaseWith opening (commanded_target s.state) commands seat (controls_in (before (place_of s.serving))) before link → PhaseWith opening (commanded_target next.state) commands2 seat2 (controls_in (after (place_of next.serving))) after link
counted {opening} {before} {after} {s} {next} {commands} {commands2} {seat} link (unchanged serving same fewer texts controls at_most covers) unchanging phase =
    subst (λ (o : Option Target). PhaseWith opening o commands2 seat (controls_in (after (place_of next.serving))) after link) (sym same)
    (let moved = ap (λ (c : _). controls_in (after (place_of c))) serving in phase_fewer at_most (omega arith) texts controls (omega arith) phase)
counted {opening} {before} {after} {s} {next} {commands} {commands2} {seat} link (tells serving none t to fewer nothing at_most covers) unchanging phase =
    subst (λ (o : Option Target). PhaseWith opening o commands2 seat (controls_in (after (place_of next.serving))) after link) (sym to)
    (let moved = ap (λ (c : _). controls_in (after (place_of c))) serving in
    let texts = ap (λ (ms : List (List ℕ)). length (flow ms)) nothing in
    let controls = ap controls_of nothing in
    phase_fewer at_most (omega arith) (omega arith) (omega arith) (omega arith) (commanded (λ opens. some_none (unchanging opens) to) (subst (λ (o : Option Target). PhaseWith opening o commands seat (controls_in (before (place_of s.serving))) before link) none phase)))
counted {opening} {before} {after} {s} {next} {commands} {commands2} {seat} link (completes t was now serving more at_most covers) unchanging phase =
    subst (λ (o : Option Target). PhaseWith opening o commands2 (after_complete seat) (controls_in (after (place_of next.serving))) after link) (sym now)
    (let moved = ap (λ (c : _). controls_in (after (place_of c))) serving in
    phase_fewer at_most (omega arith) (omega arith) (omega arith) (omega arith) (phase_completes more (subst (λ (o : Option Target). PhaseWith opening o commands seat (controls_in (before (place_of s.serving))) before link) was phase)))
counted {opening} {before} {after} {s} {next} {commands} {commands2} {seat} link (reverts t was now serving more at_most covers) unchanging phase =
    subst (λ (o : Option Target). PhaseWith opening o commands2 seat (controls_in (after (place_of next.serving))) after link) (sym now)
    (let moved = ap (λ (c : _). controls_in (after (place_of c))) serving in
    let back = phase_reverts more (subst (λ (o : Option Target). PhaseWith opening o commands seat (controls_in (before (place_of s.serving))) before link) was phase) in
    phase_fewer at_most (omega arith) (omega arith) (omega arith) (omega arith) back.1)

pub step_phase : {before after : Place → List Item} {up : ℕ → Bool} {s next : Connection} {commands commands2 : ℕ} {seat seat2 : Seat} (link : ℕ) → OwnStep before after up s next commands commands2 seat seat2
    → StillAwaits s.state next.state → ChangePhase (is_opening s.state) (is_changing (commanded_target s.state)) commands seat (controls_in (before (place_of s.serving))) (texts_in (target_tenure before up seat (commanded_target s.state)).items) (controls_in (target_tenure before up seat (commanded_target s.state)).items) link
    → ChangePhase (is_opening next.state) (is_changing (commanded_target next.state)) commands2 seat2 (controls_in (after (place_of next.serving))) (texts_in (target_tenure after up seat2 (commanded_target next.state)).items) (controls_in (target_tenure after up seat2 (commanded_target next.state)).items) link
step_phase {before} {after} {up} {s} {next} {seat} {seat2} link step awaits phase =
    let a = target_texts before up seat (commanded_target s.state) in
    let b = target_controls before up seat (commanded_target s.state) in
    let c = target_texts after up seat2 (commanded_target next.state) in
    let d = target_controls after up seat2 (commanded_target next.state) in
    phase_fewer (omega arith) (omega arith) (omega arith) (omega arith) (omega arith)
    (phase_awaits (is_opening s.state) (is_opening next.state) (commanded_target next.state) awaits (opening_unchanging next.state)
    (counted link step (λ opens. opening_unchanging next.state (awaits opens)) (phase_fewer (omega arith) (omega arith) (omega arith) (omega arith) (omega arith) phase)))

-- the counts of a line-up
pub phase_counted : {opening : Bool} (arriving : Place → List Item) (up : ℕ → Bool) (seat : Seat) (s : Connection) {commands serving : ℕ} (link : ℕ)
    → ChangePhase opening (is_changing (commanded_target s.state)) commands seat serving (texts_in (target_tenure arriving up seat (commanded_target s.state)).items) (controls_in (target_tenure arriving up seat (commanded_target s.state)).items) link
    → PhaseWith opening (commanded_target s.state) commands seat serving arriving link
phase_counted arriving up seat s link phase =
    let a = target_texts arriving up seat (commanded_target s.state) in
    let b = target_controls arriving up seat (commanded_target s.state) in
    phase_fewer (omega arith) (omega arith) (omega arith) (omega arith) (omega arith) phase

-- ---- what is missing

pub record NoneMissing (seat : Seat) (old serving target : Bool) : Type 0 where
  pub here : is_gone seat ≡ false
  pub old_none : old ≡ false
  pub serving_none : serving ≡ false
  pub target_none : target ≡ false

pub none_missing : (seat : Seat) (old serving target : Bool) →
    not (is_gone seat) && not old && not serving && not target ≡ true →
    NoneMissing seat old serving target
none_missing seat old serving target is = by_all (is_gone seat) old serving target refl refl refl refl is where
  by_all : (g a b c : Bool) →
      is_gone seat ≡ g →
      old ≡ a →
      serving ≡ b →
      target ≡ c →
      not g && not a && not b && not c ≡ true →
      NoneMissing seat old serving target
  by_all false false false false e f h i is = record { here = e; old_none = f; serving_none = h; target_none = i }
  by_all _ _ _ _ e f h i is = absurd cc

pub missing_none : (seat : Seat) (old serving target : Bool) →
    NoneMissing seat old serving target →
    not (is_gone seat) && not old && not serving && not target ≡ true
missing_none seat old serving target none = rw (none.here, none.old_none, none.serving_none, none.target_none) refl

-- a target that isn't given up lacks nothing
target_lost : (arriving after : Place → List Item) (up : ℕ → Bool) (seat : Seat) (o : Option Target) →
    (target_tenure after up seat o).is_lost ≡ (target_tenure arriving up seat o).is_lost
target_lost arriving after up seat None = refl
target_lost arriving after up seat (Some t) = refl

gone_complete : (seat : Seat) → is_gone (after_complete seat) ≡ is_gone seat
gone_complete on_serving = refl
gone_complete on_target = refl
gone_complete moving = refl
gone_complete gone = refl

either_false : (a b : Bool) → a ≡ false → a && b ≡ false
either_false false b is = refl
either_false true b is = absurd cc

-- FAILURE is from the serving channel: the mobile isn't on the target
not_came : {seat : Seat} → IsHereOrGone on_serving seat → is_gone seat ≡ false → has_arrived seat ≡ false
not_came remains here = refl
not_came left here = absurd cc

lost_away : (arriving : Place → List Item) (up : ℕ → Bool) (seat : Seat) (o : Option Target) →
    has_arrived seat ≡ false →
    (target_tenure arriving up seat o).is_lost ≡ false
lost_away arriving up seat None away = refl
lost_away arriving up seat (Some t) away = both (not (up t.channel.station)) away where
  both : (a : Bool) → has_arrived seat ≡ false → a && has_arrived seat ≡ false
  both true is = is
  both false is = refl

pub step_intact : {opening : Bool} {before after : Place → List Item} {up : ℕ → Bool} {s next : Connection} {commands commands2 link : ℕ} {seat seat2 : Seat} → OwnStep before after up s next commands commands2 seat seat2
    → PhaseWith opening (commanded_target s.state) commands seat (controls_in (before (place_of s.serving))) before link
    → NoneMissing seat2 (some_lacks after up next.draining) (not (up next.serving.station)) (target_tenure after up seat2 (commanded_target next.state)).is_lost → NoneMissing seat (some_lacks before up s.draining) (not (up s.serving.station)) (target_tenure before up seat (commanded_target s.state)).is_lost
step_intact {opening} {before} {after} {up} {s} {next} {seat} (unchanged serving same fewer texts controls at_most covers) phase none = record {
  here = none.here;
  old_none = covers none.old_none;
  serving_none = ap (λ (c : _). not (up c.station)) (sym serving) ∙ none.serving_none;
  target_none = target_lost after before up seat (commanded_target s.state) ∙ ap (λ (o : Option Target). (target_tenure after up seat o).is_lost) (sym same) ∙ none.target_none;
}
step_intact {opening} {before} {up} {s} {seat} (tells serving no_target t to fewer nothing at_most covers) phase none = record {
  here = none.here;
  old_none = covers none.old_none;
  serving_none = ap (λ (c : _). not (up c.station)) (sym serving) ∙ none.serving_none;
  target_none = ap (λ (o : Option Target). (target_tenure before up seat o).is_lost) no_target;
}
step_intact {opening} {before} {up} {s} {seat} (completes t was now serving more at_most covers) phase none = record {
  here = sym (gone_complete seat) ∙ none.here;
  old_none = (covers none.old_none).0;
  serving_none = (covers none.old_none).1;
  target_none = ap (λ (o : Option Target). (target_tenure before up seat o).is_lost) was ∙ either_false (not (up t.channel.station)) (has_arrived seat) (ap (λ (c : _). not (up c.station)) (sym serving) ∙ none.serving_none);
}
step_intact {opening} {before} {up} {s} {commands} {link} {seat} (reverts t was now serving more at_most covers) phase none = record {
  here = none.here;
  old_none = covers none.old_none;
  serving_none = ap (λ (c : _). not (up c.station)) (sym serving) ∙ none.serving_none;
  target_none = lost_away before up seat (commanded_target s.state) (not_came (phase_reverts more (subst (λ (o : Option Target). PhaseWith opening o commands seat (controls_in (before (place_of s.serving))) before link) was phase)).0 none.here);
}
