-- SPDX-License-Identifier: MIT OR Apache-2.0
-- The row that fits an input keeps its connection's line-up.
use Rattle.world_laws.proofs.Prelude.{◌≡◌, ℕ, ◌+◌, ◌≤◌, ◌&&◌, ◌||◌, not, nat_eq, Bool, true, false, if◌then◌else◌, List, [], ◌∷◌, ◌++◌}
use Rattle.world_laws.proofs.Prelude.{length, Option, Some, None, refl, sym, ap, ◌∙◌, subst, inl, inr, length-append, arith, AllByRecursion}
use Rattle.world_laws.proofs.Prelude.{cases_Bool, eq-eqb, Change, Channel, Place, Input, Preparing, Changing, State, Live, Zero, Target}
use Rattle.world_laws.proofs.Prelude.{Connection, is_at, drain_at, TargetRole, RoleStep, target_role, roles_of, after_step, target_channels}
use Rattle.world_laws.proofs.Prelude.{completed, awaits_at, changes_by, is_target_at, leaves_at, step_by, ChangesRoles, ChangesRolesBy}
use Rattle.world_laws.proofs.Prelude.{RemainsOpen, roles_unchanged, role_commands, role_completes, role_reverts, role_leaves, carries_on}
use Rattle.world_laws.proofs.Prelude.{ends}
use Rattle.world_laws.proofs.Prelude.{had_ended, IsValid, Row, done_at, AreApart, IsOpen, OfRow, undone, target_in_role, changes_roles_row}
use Rattle.world_laws.proofs.Prelude.{place_of, is_control, and_left, and_right, same_place, AllByRecursion-so, Ends, undone-still_draining}
use Rattle.world_laws.proofs.Prelude.{IsValid-row, messages_in, controls_of, controls_in, texts_in, flow, released, is_ended}
use Rattle.world_laws.proofs.Prelude.{commanded_target, DoesRow, some_lacks, target_items, OwnStep, AreLayer3, mark, texts_of}
use Rattle.conn_rules.specs.declared.input.Input.TheVariants as inputs
use Rattle.conn_rules.specs.Streams.{target_in}
use Rattle.world_laws.specs.LineUp.Places.{Item, Seat}
use Rattle.world_laws.specs.LineUp.Places.Item.{brought}
use Rattle.world_laws.proofs.LineUp.Lines.{controls_append, controls_first, flow-append, messages_in-append}
use Rattle.world_laws.specs.OwnItem.{said_by, IsBesideTarget, CommandsAfter, seat_after, TakesInput, InputKeepsLineUp}
use Rattle.world_laws.specs.OwnStep.OwnStep.{unchanged}
use Rattle.world_laws.proofs.Apart.{at_itself}
use Rattle.world_laws.proofs.Framing.{all_left}
use Rattle.world_laws.proofs.OwnChannels.{passed, to_arrive, IsHeard, ended_same, continues_behind}
use Rattle.world_laws.proofs.OwnDoes.{IsKnown, serving_heard, old_heard, whole_old, whole_rest, known_before, known_after}
use Rattle.world_laws.proofs.OwnReleases.{same_at, released_elsewhere, undone_none, undone_done, undone_push, are_released, lacks_same}
use Rattle.world_laws.proofs.OwnRoles.{IsLess, own_remains, own_leaves, own_tells, own_reverts, own_completes}
use Rattle.world_laws.proofs.OwnRowLaw.{row_keeps_line_up_new}
use Rattle.world_laws.proofs.Quiet.{all_of}
use Rattle.world_laws.proofs.RolesAfter.{commanded_of, commanded_role, channels_after}

-- ---- nothing joins what is on its way

sum_of : (said after : List Item) → controls_in (said ++ after) ≡ controls_in said + controls_in after
sum_of said after = ap controls_of (messages_in-append said after) ∙ controls_append (messages_in said) (messages_in after)

controls_less : (said before after : List Item) → before ≡ said ++ after → controls_in after ≤ controls_in before
controls_less said before after first = let sum = ap controls_in first ∙ sum_of said after in omega arith

texts_less : (said before after : List Item) → before ≡ said ++ after → texts_in after ≤ texts_in before
texts_less said before after first =
    let sum : texts_in before ≡ texts_in said + texts_in after =
    ap texts_in first ∙ ap (λ (list : List (List ℕ)). length (flow list)) (messages_in-append said after) ∙ ap length (flow-append (messages_in said) (messages_in after)) ∙ length-append (flow (messages_in said)) (flow (messages_in after)) in
    omega arith

controls_one : (message : List ℕ) (before after : List Item) →
    before ≡ brought message ∷ after →
    (controls_of (messages_in after) + 1 ≤ controls_of (message ∷ messages_in after)) →
    controls_in after + 1 ≤ controls_in before
controls_one message before after is less = let same = ap controls_in is in omega arith

is_less : (input : Input) (text : List ℕ) {before after : Place → List Item} (up : ℕ → Bool) (s : Connection) →
    ((at : Place) → before at ≡ said_by input text at ++ after at) →
    IsLess before after up s
is_less input text {before} {after} up s first = record {
  serving = controls_less (said_by input text (place_of s.serving)) (before (place_of s.serving)) (after (place_of s.serving)) (first (place_of s.serving));
  texts = texts (commanded_target s.state);
  controls = controls (commanded_target s.state);
} where
  texts : (o : Option Target) → texts_in (target_items after o) ≤ texts_in (target_items before o)
  texts None = omega arith
  texts (Some t) = texts_less (said_by input text (place_of t.channel)) (before (place_of t.channel)) (after (place_of t.channel)) (first (place_of t.channel))

  controls : (o : Option Target) → controls_in (target_items after o) ≤ controls_in (target_items before o)
  controls None = omega arith
  controls (Some t) = controls_less (said_by input text (place_of t.channel)) (before (place_of t.channel)) (after (place_of t.channel)) (first (place_of t.channel))

-- ---- what ends

ends_of : (input : Input) (text : List ℕ) (state : State) (after : Place → List Item) (up : ℕ → Bool) →
    Ends (to_arrive input text (target_in state) after up) state input
ends_of (inputs.ReleaseAck at) text state after up =
    ap (λ (b : Bool). if (is_ended (if b then released ∷ [] else []) || false) then [] else texts_of (after at) ++ mark (not (up at.station) && not (is_ended (after at)))) (ap (λ (b : Bool). b && nat_eq at.number at.number) (eq-eqb at.station at.station refl) ∙ eq-eqb at.number at.number refl)
ends_of (inputs.Failure at change cause) text (Live reference (Changing t)) after up =
    passed (inputs.Failure at change cause) text (t.channel ∷ []) after up (place_of t.channel) (ap (λ (b : Bool). b || false) (at_itself t.channel))
ends_of (inputs.Failure at change cause) text _ after up = refl
ends_of (inputs.ActivationAck at) text (Live reference (Preparing t)) after up =
    passed (inputs.ActivationAck at) text (t.channel ∷ []) after up (place_of t.channel) (ap (λ (b : Bool). b || false) (at_itself t.channel))
ends_of (inputs.ActivationAck at) text _ after up = refl
ends_of _ text state after up = tt

-- ---- what all steps have in common

known_of : {s : Connection} {input : Input} {offer : Option Channel} {r : Row} {text : List ℕ} {before after : Place → List Item} {commands commands2 : ℕ} →
    TakesInput s input offer r text before after commands commands2 →
    IsKnown input text before after s
known_of takes = record { finds = takes.finds; apart = takes.apart }

of_changes : {s : Connection} {input : Input} {offer : Option Channel} {r : Row} →
    ChangesRoles s input offer r →
    IsOpen r.next.state →
    RemainsOpen (step_by input (roles_of s)) (roles_of s) s.down input offer r
of_changes (carries_on was_open remains_open remains) is_open = remains
of_changes (ends was_open shut end) is_open = absurd (shut is_open)
of_changes (had_ended shut_before shut nothing) is_open = absurd (shut is_open)

pub input_row_of : {s : Connection} {input : Input} {offer : Option Channel} {r : Row} {text : List ℕ} {before after : Place → List Item} {commands commands2 : ℕ} (step : RoleStep) →
    step_by input (roles_of s) ≡ step →
    TakesInput s input offer r text before after commands commands2 →
    RemainsOpen step (roles_of s) s.down input offer r
input_row_of {s} {input} {offer} {r} step is takes = subst (λ (x : RoleStep). RemainsOpen x (roles_of s) s.down input offer r) is (of_changes (subst (ChangesRolesBy s input offer) takes.fits (changes_roles_row s input offer takes.valid)) takes.remains_open)

commanded_by_step : {s : Connection} {input : Input} {offer : Option Channel} {r : Row} {text : List ℕ} {before after : Place → List Item} {commands commands2 : ℕ} (step : RoleStep) →
    step_by input (roles_of s) ≡ step →
    TakesInput s input offer r text before after commands commands2 →
    CommandsAfter step commands commands2
commanded_by_step {commands = commands} {commands2} step is takes = subst
    (λ (x : RoleStep). CommandsAfter x commands commands2) is takes.commands_after

finish : {s : Connection} {input : Input} {offer : Option Channel} {r : Row} {text : List ℕ} {before after : Place → List Item} {commands commands2 : ℕ} (up : ℕ → Bool) (seat : Seat) (step : RoleStep) → step_by input (roles_of s) ≡ step → TakesInput s input offer r text before after commands commands2
    → AllByRecursion (IsHeard input text (target_in s.state) before) (undone (after_step step (roles_of s)).draining) → IsHeard input text (target_in s.state) before (after_step step (roles_of s)).serving → is_ended (before (place_of (after_step step (roles_of s)).serving)) ≡ false
    → OwnStep before after up s r.next commands commands2 seat (seat_after step seat) → DoesRow s input offer r before after up commands commands2 seat (seat_after (step_by input (roles_of s)) seat)
finish {s} {input} {offer} {r} {text} {before} {after} {commands} {commands2} up seat step is takes old serving serving_on own = record {
  fits = takes.fits;
  remains_open = takes.remains_open;
  awaits = takes.awaits;
  valid = takes.valid;
  carried = takes.carried;
  apart = takes.apart;
  future = to_arrive input text (target_in s.state) after up;
  ends = ends_of input text s.state after up;
  was = known_before up (known_of takes) takes.valid;
  now = known_after up step r.next (known_of takes) (subst (OfRow (λ (x : Row). IsValid x.next)) takes.fits (IsValid-row s input offer takes.valid takes.carried))
      (channels_after step (roles_of s) s.down input offer r (input_row_of step is takes)) old serving serving_on;
  whole = takes.whole;
  step = subst (λ (x : RoleStep). OwnStep before after up s r.next commands commands2 seat (seat_after x seat)) (sym is) own;
}

-- where no RF CHANNEL RELEASE ACK arrived, as much is missing as before
covers_of : (s : Connection) (input : Input) (text : List ℕ) (before after : Place → List Item) (up : ℕ → Bool) → ((at : Place) → before at ≡ said_by input text at ++ after at) → AllByRecursion (λ c. is_ended (said_by input text (place_of c)) ≡ false) (undone s.draining)
    → some_lacks after up s.draining ≡ false → some_lacks before up s.draining ≡ false
covers_of s input text before after up first none_ends none =
    lacks_same before after up s.draining (AllByRecursion-so (λ c. is_ended (said_by input text (place_of c)) ≡ false) (λ c. is_ended (before (place_of c)) ≡ is_ended (after (place_of c))) (λ c continues_now. ended_same input text before after (place_of c) (first (place_of c)) continues_now) (undone s.draining) none_ends) ∙ none

-- ---- step by step

input_remains : {s : Connection} {input : Input} {offer : Option Channel} {r : Row} {text : List ℕ} {before after : Place → List Item} {commands commands2 : ℕ} (up : ℕ → Bool) (seat : Seat) → step_by input (roles_of s) ≡ roles_unchanged → TakesInput s input offer r text before after commands commands2
    → AllByRecursion (λ c. is_ended (said_by input text (place_of c)) ≡ false) (undone s.draining) → DoesRow s input offer r before after up commands commands2 seat (seat_after (step_by input (roles_of s)) seat)
input_remains {s} {input} {offer} {r} {text} {before} {after} up seat is takes none_ends =
    finish up seat roles_unchanged is takes (old_heard (known_of takes) none_ends)
    (serving_heard (known_of takes)) takes.finds.others_continue.0
    (own_remains s input offer r seat (input_row_of roles_unchanged is takes) (is_less input text up s takes.finds.first) (commanded_by_step roles_unchanged is takes) (covers_of s input text before after up takes.finds.first none_ends))

pub apart_left : (xs ys : List Channel) → AreApart (xs ++ ys) → AreApart xs
apart_left [] ys apart = tt
apart_left (x ∷ xs) ys apart = (all_left _ xs ys apart.0, apart_left xs ys apart.1)

input_leaves : {s : Connection} {offer : Option Channel} {r : Row} {text : List ℕ} {before after : Place → List Item} {commands commands2 : ℕ} (up : ℕ → Bool) (seat : Seat) (at : Place) (place : ℕ) → drain_at at s.draining ≡ Some place → TakesInput s (inputs.ReleaseAck at) offer r text before after commands commands2
    → DoesRow s (inputs.ReleaseAck at) offer r before after up commands commands2 seat (seat_after (step_by (inputs.ReleaseAck at) (roles_of s)) seat)
input_leaves {s} {offer} {r} {text} {before} {after} up seat at place found takes =
    finish up seat (role_leaves place) is takes (subst (AllByRecursion (IsHeard (inputs.ReleaseAck at) text (target_in s.state) before)) (sym (undone-still_draining (done_at place s.draining)))
    (undone_done (IsHeard (inputs.ReleaseAck at) text (target_in s.state) before) at place s.draining found (apart_left (undone s.draining) (s.serving ∷ target_in s.state) takes.apart)
    (AllByRecursion-so (λ c. AreLayer3 (texts_of (before (place_of c)))) (λ c. is_at at c ≡ false → IsHeard (inputs.ReleaseAck at) text (target_in s.state) before c)
    (λ c whole other. record { carries_on = ap is_ended (released_elsewhere text at c other); passes_not = refl; whole = whole }) (undone s.draining) (whole_old (known_of takes)))))
    (serving_heard (known_of takes)) takes.finds.others_continue.0
    (own_leaves s (inputs.ReleaseAck at) offer r seat at place found (input_row_of (role_leaves place) is takes) (is_less (inputs.ReleaseAck at) text up s takes.finds.first) (commanded_by_step (role_leaves place) is takes) (are_released text before after up at s.draining takes.finds.first)) where
      is : step_by (inputs.ReleaseAck at) (roles_of s) ≡ role_leaves place
      is = ap leaves_at found

-- the target, by its role
pub targets_of : (s : Connection) (t : TargetRole) → target_role s.state ≡ Some t → target_in s.state ≡ t.target.channel ∷ []
targets_of s t is = sym (target_in_role s.state) ∙ ap target_channels is

input_commands : {s : Connection} {input : Input} {offer : Option Channel} {r : Row} {text : List ℕ} {before after : Place → List Item} {commands commands2 : ℕ} (up : ℕ → Bool) (seat : Seat) (t : TargetRole) → target_role s.state ≡ Some t → t.is_commanded ≡ false → IsBesideTarget input → ((at : Place) → before at ≡ after at)
    → step_by input (roles_of s) ≡ role_commands → TakesInput s input offer r text before after commands commands2 → AllByRecursion (λ c. is_ended (said_by input text (place_of c)) ≡ false) (undone s.draining)
    → DoesRow s input offer r before after up commands commands2 seat (seat_after (step_by input (roles_of s)) seat)
input_commands {s} {input} {offer} {r} {text} {before} {after} up seat t role waits beside same is takes none_ends =
    finish up seat role_commands is takes (old_heard (known_of takes) none_ends) (serving_heard (known_of takes)) takes.finds.others_continue.0
    (own_tells s input offer r seat t role waits (input_row_of role_commands is takes) (is_less input text up s takes.finds.first).serving
    (ap messages_in (sym (same (place_of t.target.channel))) ∙ (subst (AllByRecursion (λ c. messages_in (before (place_of c)) ≡ [])) (targets_of s t role) (takes.finds.silent beside)).0) (commanded_by_step role_commands is takes) (covers_of s input text before after up takes.finds.first none_ends))

input_reverts : {s : Connection} {input : Input} {offer : Option Channel} {r : Row} {text : List ℕ} {before after : Place → List Item} {commands commands2 : ℕ} (up : ℕ → Bool) (seat : Seat) (t : TargetRole) → target_role s.state ≡ Some t → t.is_commanded ≡ true → controls_in (after (place_of s.serving)) + 1 ≤ controls_in (before (place_of s.serving))
    → step_by input (roles_of s) ≡ role_reverts → TakesInput s input offer r text before after commands commands2 → AllByRecursion (λ c. is_ended (said_by input text (place_of c)) ≡ false) (undone s.draining)
    → DoesRow s input offer r before after up commands commands2 seat (seat_after (step_by input (roles_of s)) seat)
input_reverts {s} {input} {offer} {r} {text} {before} {after} up seat t role is_commanded_there more is takes none_ends =
    finish up seat role_reverts is takes (old_heard (known_of takes) none_ends) (serving_heard (known_of takes)) takes.finds.others_continue.0
    (own_reverts s input offer r seat t role is_commanded_there (input_row_of role_reverts is takes) more (commanded_by_step role_reverts is takes) (covers_of s input text before after up takes.finds.first none_ends))

-- a target that can't be had is given up before the mobile was commanded to it
input_refused : {s : Connection} {input : Input} {offer : Option Channel} {r : Row} {text : List ℕ} {before after : Place → List Item} {commands commands2 : ℕ} (up : ℕ → Bool) (seat : Seat) (t : TargetRole) → target_role s.state ≡ Some t → t.is_commanded ≡ false
    → step_by input (roles_of s) ≡ role_reverts → TakesInput s input offer r text before after commands commands2 → AllByRecursion (λ c. is_ended (said_by input text (place_of c)) ≡ false) (undone s.draining)
    → DoesRow s input offer r before after up commands commands2 seat (seat_after (step_by input (roles_of s)) seat)
unfolding commanded_of
input_refused {s} {input} {offer} {r} {text} {before} {after} up seat t role waits is takes none_ends =
    let now = channels_after role_reverts (roles_of s) s.down input offer r (input_row_of role_reverts is takes) in
    let less = is_less input text up s takes.finds.first in
    finish up seat role_reverts is takes (old_heard (known_of takes) none_ends) (serving_heard (known_of takes)) takes.finds.others_continue.0
    (unchanged now.serving (now.target ∙ sym (commanded_role s.state ∙ ap commanded_of role ∙ ap (λ (b : Bool). if b then Some t.target else None) waits)) less.serving less.texts less.controls (commanded_by_step role_reverts is takes)
    (λ none. covers_of s input text before after up takes.finds.first none_ends (sym (ap (some_lacks after up) now.draining) ∙ none)))

input_completes : {s : Connection} {offer : Option Channel} {r : Row} {text : List ℕ} {before after : Place → List Item} {commands commands2 : ℕ} (up : ℕ → Bool) (seat : Seat) (at : Place) (change : Change) (cause : _) (t : TargetRole) → target_role s.state ≡ Some t → t.is_commanded ≡ true
    → controls_in (after (place_of t.target.channel)) + 1 ≤ controls_in (before (place_of t.target.channel)) → step_by (inputs.Complete at change cause) (roles_of s) ≡ role_completes → TakesInput s (inputs.Complete at change cause) offer r text before after commands commands2
    → AllByRecursion (λ c. is_ended (said_by (inputs.Complete at change cause) text (place_of c)) ≡ false) (undone s.draining) → DoesRow s (inputs.Complete at change cause) offer r before after up commands commands2 seat (seat_after (step_by (inputs.Complete at change cause) (roles_of s)) seat)
input_completes {s} {offer} {r} {text} {before} {after} up seat at change cause t role is_commanded_there more is takes none_ends =
    finish up seat role_completes is takes
    (subst (λ (o : Option TargetRole). AllByRecursion (IsHeard (inputs.Complete at change cause) text (target_in s.state) before) (undone (completed o (roles_of s)).draining)) (sym role)
    (undone_push (IsHeard (inputs.Complete at change cause) text (target_in s.state) before) s.draining s.serving (old_heard (known_of takes) none_ends) (serving_heard (known_of takes))))
    (subst (λ (o : Option TargetRole). IsHeard (inputs.Complete at change cause) text (target_in s.state) before (completed o (roles_of s)).serving) (sym role)
    (record { carries_on = (continues_behind (inputs.Complete at change cause) text before after (place_of t.target.channel) (takes.finds.first (place_of t.target.channel)) target_on).0; passes_not = refl; whole = target_whole }))
    (subst (λ (o : Option TargetRole). is_ended (before (place_of (completed o (roles_of s)).serving)) ≡ false) (sym role) target_on)
    (own_completes s (inputs.Complete at change cause) offer r seat t role is_commanded_there (input_row_of role_completes is takes) more (commanded_by_step role_completes is takes) (covers_of s (inputs.Complete at change cause) text before after up takes.finds.first none_ends)
    (continues_behind (inputs.Complete at change cause) text before after (place_of s.serving) (takes.finds.first (place_of s.serving)) takes.finds.others_continue.0).1) where
      target_on : is_ended (before (place_of t.target.channel)) ≡ false
      target_on = (subst (AllByRecursion (λ c. is_ended (before (place_of c)) ≡ false)) (targets_of s t role) takes.finds.others_continue.1).0

      target_whole : AreLayer3 (texts_of (before (place_of t.target.channel)))
      target_whole = (subst (AllByRecursion (λ c. AreLayer3 (texts_of (before (place_of c))))) (targets_of s t role) (whole_rest (known_of takes)).1).0

-- ---- which step

-- a target that waits for its activation
pub record Awaits (o : Option TargetRole) : Type 0 where
  pub t : TargetRole
  pub is : o ≡ Some t
  pub waits : t.is_commanded ≡ false

pub awaited : (at : Place) (o : Option TargetRole) → awaits_at at o ≡ true → Awaits o
awaited at None is = absurd cc
awaited at (Some t) is = record { t = t; is = refl; waits = by t.is_commanded (is_at at t.target.channel) is } where
  by : (a b : Bool) → not a && b ≡ true → a ≡ false
  by false b is = refl
  by true b is = absurd cc

-- a target to which the mobile was commanded
pub record IsCommanded (o : Option TargetRole) : Type 0 where
  pub t : TargetRole
  pub is : o ≡ Some t
  pub is_commanded_there : t.is_commanded ≡ true

changing : (change : Change) (o : Option TargetRole) → changes_by change o ≡ true → IsCommanded o
changing change None is = absurd cc
changing change (Some t) is = record { t = t; is = refl; is_commanded_there = and_left t.is_commanded _ is }

brought-unended : (message : List ℕ) (b : Bool) → is_ended (if b then brought message ∷ [] else []) ≡ false
brought-unended message true = refl
brought-unended message false = refl

-- COMPLETE and FAILURE are taken from their channel
control_taken : (text : List ℕ) (before after : Place → List Item) (at : Place) (c : Channel) →
    is_control text ≡ true →
    before (place_of c) ≡ (if same_place (place_of c) at then brought text ∷ [] else []) ++ after (place_of c) →
    is_at at c ≡ true →
    controls_in (after (place_of c)) + 1 ≤ controls_in (before (place_of c))
control_taken text before after at c control first here =
    controls_one text (before (place_of c)) (after (place_of c)) (first ∙ ap (λ (b : Bool). (if b then brought text ∷ [] else []) ++ after (place_of c)) (same_at at c ∙ here)) (controls_first text (messages_in (after (place_of c))) control)

pub does_row : (s : Connection) (input : Input) (offer : Option Channel) (r : Row) (text : List ℕ) (before after : Place → List Item) (up : ℕ → Bool) (commands commands2 : ℕ) (seat : Seat) → TakesInput s input offer r text before after commands commands2
    → DoesRow s input offer r before after up commands commands2 seat (seat_after (step_by input (roles_of s)) seat)
does_row s (inputs.ActivationAck at) offer r text before after up commands commands2 seat takes = elim (cases_Bool (awaits_at at (target_role s.state))) [
  | inl waits ↦ let a = awaited at (target_role s.state) waits in
      input_commands up seat a.t a.is a.waits tt takes.finds.first (ap (λ (b : Bool). if b then role_commands else roles_unchanged) waits) takes (all_of _ (undone s.draining) (λ c. refl))
  | inr not_so ↦ input_remains up seat (ap (λ (b : Bool). if b then role_commands else roles_unchanged) not_so) takes (all_of _ (undone s.draining) (λ c. refl))
]
does_row s (inputs.ActivationNack at) offer r text before after up commands commands2 seat takes = elim (cases_Bool (awaits_at at (target_role s.state))) [
  | inl waits ↦ let a = awaited at (target_role s.state) waits in
      input_refused up seat a.t a.is a.waits (ap (λ (b : Bool). if b then role_reverts else roles_unchanged) waits) takes (all_of _ (undone s.draining) (λ c. refl))
  | inr not_so ↦ input_remains up seat (ap (λ (b : Bool). if b then role_reverts else roles_unchanged) not_so) takes (all_of _ (undone s.draining) (λ c. refl))
]
does_row s (inputs.Complete at change cause) offer r text before after up commands commands2 seat takes = elim (cases_Bool (is_target_at at (target_role s.state) && changes_by change (target_role s.state))) [
  | inl both ↦ let a = changing change (target_role s.state) (and_right (is_target_at at (target_role s.state)) (changes_by change (target_role s.state)) both) in
      input_completes up seat at change cause a.t a.is a.is_commanded_there
      (control_taken text before after at a.t.target.channel takes.finds.read (takes.finds.first (place_of a.t.target.channel)) (sym (ap (is_target_at at) a.is) ∙ and_left (is_target_at at (target_role s.state)) (changes_by change (target_role s.state)) both))
      (ap (λ (b : Bool). if b then role_completes else roles_unchanged) both) takes (all_of _ (undone s.draining) (λ c. brought-unended text (same_place (place_of c) at)))
  | inr not_so ↦ input_remains up seat (ap (λ (b : Bool). if b then role_completes else roles_unchanged) not_so) takes (all_of _ (undone s.draining) (λ c. brought-unended text (same_place (place_of c) at)))
]
does_row s (inputs.Failure at change cause) offer r text before after up commands commands2 seat takes = elim (cases_Bool (is_at at s.serving && changes_by change (target_role s.state))) [
  | inl both ↦ let a = changing change (target_role s.state) (and_right (is_at at s.serving) (changes_by change (target_role s.state)) both) in
      input_reverts up seat a.t a.is a.is_commanded_there (control_taken text before after at s.serving takes.finds.read (takes.finds.first (place_of s.serving)) (and_left (is_at at s.serving) (changes_by change (target_role s.state)) both))
      (ap (λ (b : Bool). if b then role_reverts else roles_unchanged) both) takes (all_of _ (undone s.draining) (λ c. brought-unended text (same_place (place_of c) at)))
  | inr not_so ↦ input_remains up seat (ap (λ (b : Bool). if b then role_reverts else roles_unchanged) not_so) takes (all_of _ (undone s.draining) (λ c. brought-unended text (same_place (place_of c) at)))
]
does_row s (inputs.ReleaseAck at) offer r text before after up commands commands2 seat takes = by (drain_at at s.draining) refl where
  by : (o : Option ℕ) →
      drain_at at s.draining ≡ o →
      DoesRow s (inputs.ReleaseAck at) offer r before after up commands commands2 seat (seat_after (step_by (inputs.ReleaseAck at) (roles_of s)) seat)
  by (Some place) found = input_leaves up seat at place found takes
  by None none = input_remains up seat (ap leaves_at none) takes (AllByRecursion-so (λ c. is_at at c ≡ false) (λ c. is_ended (said_by (inputs.ReleaseAck at) text (place_of c)) ≡ false) (λ c other. ap is_ended (released_elsewhere text at c other)) (undone s.draining) (undone_none at s.draining none))
does_row s (inputs.Dtap at Zero message) offer r text before after up commands commands2 seat takes = input_remains up seat refl takes (all_of _ (undone s.draining) (λ c. brought-unended message (same_place (place_of c) at)))
does_row s (inputs.EstablishIndication at Zero (Some initial)) offer r text before after up commands commands2 seat takes = input_remains up seat refl takes (all_of _ (undone s.draining) (λ c. brought-unended initial (same_place (place_of c) at)))
does_row s _ offer r text before after up commands commands2 seat takes = input_remains up seat refl takes (all_of _ (undone s.draining) (λ c. refl))

pub input_keeps_line_up_new : (m : ℕ) (s : Connection) (input : Input) (offer : Option Channel) (r : Row) →
    InputKeepsLineUp m s input offer r
input_keeps_line_up_new m s input offer r text before after up commands commands2 seat sent link out taken takes alive =
    row_keeps_line_up_new m s input offer r before after up commands commands2 seat (seat_after (step_by input (roles_of s)) seat) sent link out taken (does_row s input offer r text before after up commands commands2 seat takes) alive
