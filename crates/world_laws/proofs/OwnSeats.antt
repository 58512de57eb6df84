-- SPDX-License-Identifier: MIT OR Apache-2.0
-- Where the mobile of a connection is seen after a row, and which commands are on their way to it.
use Rattle.world_laws.proofs.Prelude.{◌≡◌, ℕ, ◌+◌, ◌≤◌, Bool, true, false, if◌then◌else◌, List, [], ◌++◌, length, Option, Some, None, refl}
use Rattle.world_laws.proofs.Prelude.{sym, ap, ◌∙◌, subst, arith, AllByRecursion, append-nil, Channel, Place, Target, Connection, is_at}
use Rattle.world_laws.proofs.Prelude.{place_of, AirMessage, MobileSeat, Tenure, Actors, tenure_at, none-some, no-length, IsHereOrGone, remains}
use Rattle.world_laws.proofs.Prelude.{left, after_complete, controls_in, on_serving, on_target, moving, going_down, seat_from, remembered}
use Rattle.world_laws.proofs.Prelude.{is_opening, commanded_target, OwnStep, Sits, Leads, NoneOn, at_its_target, between}
use Rattle.world_laws.specs.LineUp.Alive.{ChangePhase}
use Rattle.world_laws.specs.LineUp.Alive.ChangePhase.{opens, rests, waits, leaves, arrives, returns}
use Rattle.world_laws.specs.LineUp.Places.{Item, Seat}
use Rattle.world_laws.specs.OwnStep.OwnStep.{unchanged as step_unchanged, tells, completes, reverts}
use Rattle.world_laws.specs.Seated.Remembers.{nothing, by_command}
use Rattle.world_laws.specs.Seated.Sits.{unchanged, gone}
use Rattle.world_laws.proofs.Apart.{at_itself}
use Rattle.world_laws.proofs.OwnSteps.{PhaseWith}

-- ---- how far a change is

none_commanded : {opening : Bool} {c s x t k : ℕ} {seat : Seat} → ChangePhase opening false c seat s x t k → c ≡ 0
none_commanded (opens here none) = omega arith
none_commanded (rests here none) = omega arith

all_arrived : {opening : Bool} {c s x t k : ℕ} {seat : Seat} →
    1 ≤ t →
    ChangePhase opening true c seat s x t k →
    IsHereOrGone on_target seat × (c ≡ 0)
all_arrived more (waits here few none) = absurd (omega arith)
all_arrived more (leaves none) = absurd (omega arith)
all_arrived more (arrives here none few) = (here, omega arith)
all_arrived more (returns here none few) = absurd (omega arith)

all_returned : {opening : Bool} {c s x t k : ℕ} {seat : Seat} →
    1 ≤ s →
    ChangePhase opening true c seat s x t k →
    IsHereOrGone on_serving seat × (c ≡ 0)
all_returned more (waits here few none) = absurd (omega arith)
all_returned more (leaves none) = absurd (omega arith)
all_returned more (arrives here none few) = absurd (omega arith)
all_returned more (returns here none few) = (here, omega arith)

-- ---- where the mobile is

not_serving : {seat : Seat} → IsHereOrGone on_target seat → seat ≡ on_serving → ⊥
not_serving remains is = absurd cc
not_serving left is = absurd cc

not_target : {seat : Seat} → IsHereOrGone on_serving seat → seat ≡ on_target → ⊥
not_target remains is = absurd cc
not_target left is = absurd cc

not_moving : {here seat : Seat} → IsHereOrGone here seat → here ≡ on_serving → seat ≡ moving → ⊥
not_moving remains is now = absurd (serving_moves (sym is ∙ now)) where
  serving_moves : on_serving ≡ moving → ⊥
  serving_moves is = absurd cc
not_moving left is now = absurd cc

not_moving_there : {seat : Seat} → IsHereOrGone on_target seat → seat ≡ moving → ⊥
not_moving_there remains is = absurd cc
not_moving_there left is = absurd cc

on_itself : (w : Actors) {tenure : Tenure} (c : Channel) → tenure ≡ tenure_at w (place_of c) → is_at tenure.at c ≡ true
on_itself w c is = ap (λ (t : Tenure). is_at t.at c) is ∙ at_itself c

came_over : (b : Bool) → after_complete (if b then on_serving else on_target) ≡ on_serving
came_over true = refl
came_over false = refl

sits_completes : {w : Actors} {serving : Channel} {t : Target} {seat : MobileSeat} →
    Sits w serving (Some t) seat →
    IsHereOrGone on_target (seat_from serving seat) →
    Sits w t.channel None seat × (after_complete (seat_from serving seat) ≡ seat_from t.channel seat)
sits_completes {w} {serving} (unchanged is remembers) here = absurd (not_serving here (ap (λ (b : Bool). if b then on_serving else on_target) (on_itself w serving is)))
sits_completes {w} {serving} {t} (at_its_target {tenure = tenure} is) here = (unchanged is nothing, came_over (is_at tenure.at serving) ∙ ap (λ (b : Bool). if b then on_serving else on_target) (sym (on_itself w t.channel is)))
sits_completes (between from is) here = absurd (not_moving_there here refl)
sits_completes gone here = (gone, refl)

sits_reverts : {w : Actors} {serving : Channel} {t : Target} {seat : MobileSeat} →
    Sits w serving (Some t) seat →
    is_at (place_of t.channel) serving ≡ false →
    IsHereOrGone on_serving (seat_from serving seat) →
    remembered seat ≡ 0 →
    Sits w serving None seat
sits_reverts (unchanged is nothing) apart here none = unchanged is nothing
sits_reverts (unchanged is (by_command by)) apart here none = absurd (omega arith)
sits_reverts {serving = serving} (at_its_target is) apart here none = absurd (not_target here (ap (λ (b : Bool). if b then on_serving else on_target) (ap (λ (x : Tenure). is_at x.at serving) is ∙ apart)))
sits_reverts (between from is) apart here none = absurd (not_moving here refl refl)
sits_reverts gone apart here none = gone

sits_tells : {w : Actors} {serving : Channel} {o : Option Target} (t : Target) {seat : MobileSeat} →
    Sits w serving o seat →
    o ≡ None →
    Sits w serving (Some t) seat
sits_tells t (unchanged is nothing) none = unchanged is nothing
sits_tells t (unchanged is (by_command by)) none = absurd cc
sits_tells t (at_its_target is) none = absurd cc
sits_tells t (between from is) none = absurd cc
sits_tells t gone none = gone

-- ---- which commands are on their way

-- those that were, and perhaps the one that was put
pub data Downs (w v : Actors) (s next : Connection) : Type 0 where
  same : ((c : Channel) → going_down v (place_of c) ≡ going_down w (place_of c)) → Downs w v s next
  commanded : commanded_target s.state ≡ None → (t : Target) → commanded_target next.state ≡ Some t → next.serving ≡ s.serving → (more : List AirMessage) → going_down v (place_of s.serving) ≡ going_down w (place_of s.serving) ++ more → length more ≤ 1 → AllByRecursion (λ a. Leads w a (Some t)) more
      → going_down v (place_of t.channel) ≡ going_down w (place_of t.channel) → Downs w v s next

-- what a connection's own row leaves
pub record OwnRest (w v : Actors) (seat : MobileSeat) (s next : Connection) (before after : Place → List Item) (up : ℕ → Bool) (seat1 seat2 : Seat) : Type 0 where
  pub own : OwnStep before after up s next (length (going_down w (place_of s.serving)) + remembered seat) (length (going_down v (place_of next.serving)) + remembered seat) seat1 seat2
  pub seen : seat2 ≡ seat_from next.serving seat
  pub sits : Sits w next.serving (commanded_target next.state) seat
  pub led : AllByRecursion (λ a. Leads w a (commanded_target next.state)) (going_down v (place_of next.serving))
  pub none : NoneOn v (commanded_target next.state)

-- the connection before the row
pub record OwnBefore (w : Actors) (seat : MobileSeat) (s : Connection) (before : Place → List Item) (link : ℕ) (seat1 : Seat) : Type 0 where
  pub seen : seat1 ≡ seat_from s.serving seat
  pub phase : PhaseWith (is_opening s.state) (commanded_target s.state) (length (going_down w (place_of s.serving)) + remembered seat) seat1 (controls_in (before (place_of s.serving))) before link
  pub sits : Sits w s.serving (commanded_target s.state) seat
  pub led : AllByRecursion (λ a. Leads w a (commanded_target s.state)) (going_down w (place_of s.serving))
  pub none : NoneOn w (commanded_target s.state)
  pub apart : (t : Target) → commanded_target s.state ≡ Some t → is_at (place_of t.channel) s.serving ≡ false

some_none : {X : Type 0} {o : Option X} {x : X} → o ≡ None → o ≡ Some x → ⊥
some_none {X} {o} {x} none some = none-some _ (sym none ∙ some)

-- the channels have the roles that they had
rest_remains : {w v : Actors} {seat : MobileSeat} {s next : Connection} {before after : Place → List Item} {up : ℕ → Bool} {seat1 : Seat} {link : ℕ} → OwnBefore w seat s before link seat1 → ((c : Channel) → going_down v (place_of c) ≡ going_down w (place_of c)) → next.serving ≡ s.serving → commanded_target next.state ≡ commanded_target s.state
    → (length (going_down v (place_of next.serving)) + remembered seat ≤ length (going_down w (place_of s.serving)) + remembered seat → OwnStep before after up s next (length (going_down w (place_of s.serving)) + remembered seat) (length (going_down v (place_of next.serving)) + remembered seat) seat1 seat1)
    → OwnRest w v seat s next before after up seat1 seat1
rest_remains {w} {v} {seat} {s} {next} was downs serving kept step = record {
  own = step (let counts = ap length same_down in omega arith);
  seen = was.seen ∙ ap (λ (c : Channel). seat_from c seat) (sym serving);
  sits = subst (λ (o : Option Target). Sits w next.serving o seat) (sym kept) (subst (λ (c : Channel). Sits w c (commanded_target s.state) seat) (sym serving) was.sits);
  led = subst (λ (o : Option Target). AllByRecursion (λ a. Leads w a o) (going_down v (place_of next.serving))) (sym kept) (subst (AllByRecursion (λ a. Leads w a (commanded_target s.state))) (sym same_down) was.led);
  none = subst (NoneOn v) (sym kept) (by (commanded_target s.state) was.none);
} where
  same_down : going_down v (place_of next.serving) ≡ going_down w (place_of s.serving)
  same_down = downs next.serving ∙ ap (λ (c : Channel). going_down w (place_of c)) serving

  by : (o : Option Target) → NoneOn w o → NoneOn v o
  by None none = tt
  by (Some t) none = downs t.channel ∙ none

-- the mobile is commanded
rest_tells : {w v : Actors} {seat : MobileSeat} {s next : Connection} {before after : Place → List Item} {up : ℕ → Bool} {seat1 : Seat} {link : ℕ} → OwnBefore w seat s before link seat1 → commanded_target s.state ≡ None → next.serving ≡ s.serving → (t : Target) → commanded_target next.state ≡ Some t
    → (more : List AirMessage) → going_down v (place_of s.serving) ≡ going_down w (place_of s.serving) ++ more → length more ≤ 1 → AllByRecursion (λ a. Leads w a (Some t)) more → going_down v (place_of t.channel) ≡ []
    → (length (going_down v (place_of next.serving)) + remembered seat ≤ 1 → OwnStep before after up s next (length (going_down w (place_of s.serving)) + remembered seat) (length (going_down v (place_of next.serving)) + remembered seat) seat1 seat1)
    → OwnRest w v seat s next before after up seat1 seat1
rest_tells {w} {v} {seat} {s} {next} {before} {seat1 = seat1} {link} was idle_before serving t to more downs few leads_there quiet step = record {
  own = step (let counts = ap length now_down in let sum = idle in omega arith);
  seen = was.seen ∙ ap (λ (c : Channel). seat_from c seat) (sym serving);
  sits = subst (λ (o : Option Target). Sits w next.serving o seat) (sym to) (subst (λ (c : Channel). Sits w c (Some t) seat) (sym serving) (sits_tells t was.sits idle_before));
  led = subst (λ (o : Option Target). AllByRecursion (λ a. Leads w a o) (going_down v (place_of next.serving))) (sym to) (subst (AllByRecursion (λ a. Leads w a (Some t))) (sym now_down) leads_there);
  none = subst (NoneOn v) (sym to) quiet;
} where
  idle : length (going_down w (place_of s.serving)) + remembered seat ≡ 0
  idle = none_commanded (subst (λ (o : Option Target). PhaseWith (is_opening s.state) o (length (going_down w (place_of s.serving)) + remembered seat) seat1 (controls_in (before (place_of s.serving))) before link) idle_before was.phase)

  none_before : going_down w (place_of s.serving) ≡ []
  none_before = no-length (going_down w (place_of s.serving)) (let both = idle in omega arith)

  now_down : going_down v (place_of next.serving) ≡ more
  now_down = ap (λ (c : Channel). going_down v (place_of c)) serving ∙ downs ∙ ap (λ (as_led : List AirMessage). as_led ++ more) none_before

-- COMPLETE was received
rest_completes : {w v : Actors} {seat : MobileSeat} {s next : Connection} {before after : Place → List Item} {up : ℕ → Bool} {seat1 : Seat} {link : ℕ} → OwnBefore w seat s before link seat1 → (t : Target) → commanded_target s.state ≡ Some t → commanded_target next.state ≡ None → next.serving ≡ t.channel
    → 1 ≤ controls_in (before (place_of t.channel)) → going_down v (place_of t.channel) ≡ going_down w (place_of t.channel)
    → (length (going_down v (place_of next.serving)) + remembered seat ≤ length (going_down w (place_of s.serving)) + remembered seat → OwnStep before after up s next (length (going_down w (place_of s.serving)) + remembered seat) (length (going_down v (place_of next.serving)) + remembered seat) seat1 (after_complete seat1))
    → OwnRest w v seat s next before after up seat1 (after_complete seat1)
rest_completes {w} {v} {seat} {s} {next} {before} {seat1 = seat1} {link} was t changed ended serving more downs step = record {
  own = step (let counts = ap length now_down in omega arith);
  seen = ap after_complete was.seen ∙ now_sits.1 ∙ ap (λ (c : Channel). seat_from c seat) (sym serving);
  sits = subst (λ (o : Option Target). Sits w next.serving o seat) (sym ended) (subst (λ (c : Channel). Sits w c None seat) (sym serving) now_sits.0);
  led = subst (AllByRecursion (λ a. Leads w a (commanded_target next.state))) (sym now_down) tt;
  none = subst (NoneOn v) (sym ended) tt;
} where
  here : IsHereOrGone on_target seat1
  here = (all_arrived more (subst (λ (o : Option Target). PhaseWith (is_opening s.state) o (length (going_down w (place_of s.serving)) + remembered seat) seat1 (controls_in (before (place_of s.serving))) before link) changed was.phase)).0

  now_sits : Sits w t.channel None seat × (after_complete (seat_from s.serving seat) ≡ seat_from t.channel seat)
  now_sits = sits_completes (subst (λ (o : Option Target). Sits w s.serving o seat) changed was.sits) (subst (IsHereOrGone on_target) was.seen here)

  now_down : going_down v (place_of next.serving) ≡ []
  now_down = ap (λ (c : Channel). going_down v (place_of c)) serving ∙ downs ∙ subst (NoneOn w) changed was.none

-- FAILURE was received
rest_reverts : {w v : Actors} {seat : MobileSeat} {s next : Connection} {before after : Place → List Item} {up : ℕ → Bool} {seat1 : Seat} {link : ℕ} → OwnBefore w seat s before link seat1 → (t : Target) → commanded_target s.state ≡ Some t → commanded_target next.state ≡ None → next.serving ≡ s.serving
    → 1 ≤ controls_in (before (place_of s.serving)) → going_down v (place_of s.serving) ≡ going_down w (place_of s.serving)
    → (length (going_down v (place_of next.serving)) + remembered seat ≤ length (going_down w (place_of s.serving)) + remembered seat → OwnStep before after up s next (length (going_down w (place_of s.serving)) + remembered seat) (length (going_down v (place_of next.serving)) + remembered seat) seat1 seat1)
    → OwnRest w v seat s next before after up seat1 seat1
rest_reverts {w} {v} {seat} {s} {next} {before} {seat1 = seat1} {link} was t changed ended serving more downs step = record {
  own = step (let counts = ap length same_down in omega arith);
  seen = was.seen ∙ ap (λ (c : Channel). seat_from c seat) (sym serving);
  sits = subst (λ (o : Option Target). Sits w next.serving o seat) (sym ended) (subst (λ (c : Channel). Sits w c None seat) (sym serving)
      (sits_reverts (subst (λ (o : Option Target). Sits w s.serving o seat) changed was.sits) (was.apart t changed) (subst (IsHereOrGone on_serving) was.seen back.0) (let idle = back.1 in omega arith)));
  led = subst (AllByRecursion (λ a. Leads w a (commanded_target next.state))) (sym (same_down ∙ none_before)) tt;
  none = subst (NoneOn v) (sym ended) tt;
} where
  back : IsHereOrGone on_serving seat1 × (length (going_down w (place_of s.serving)) + remembered seat ≡ 0)
  back = all_returned more (subst (λ (o : Option Target). PhaseWith (is_opening s.state) o (length (going_down w (place_of s.serving)) + remembered seat) seat1 (controls_in (before (place_of s.serving))) before link) changed was.phase)

  none_before : going_down w (place_of s.serving) ≡ []
  none_before = no-length (going_down w (place_of s.serving)) (let idle = back.1 in omega arith)

  same_down : going_down v (place_of next.serving) ≡ going_down w (place_of s.serving)
  same_down = ap (λ (c : Channel). going_down v (place_of c)) serving ∙ downs

-- ---- the row

pub own_rest : {w v : Actors} {seat : MobileSeat} {s next : Connection} {before after : Place → List Item} {up : ℕ → Bool} {seat1 seat2 : Seat} {link : ℕ} → OwnBefore w seat s before link seat1 → Downs w v s next → ((t : Target) → commanded_target s.state ≡ None → commanded_target next.state ≡ Some t → going_down w (place_of t.channel) ≡ [])
    → OwnStep before after up s next 0 0 seat1 seat2 → OwnRest w v seat s next before after up seat1 seat2
own_rest was (same downs) quiet (step_unchanged serving kept fewer texts controls commanded_now covers) = rest_remains was downs serving kept (λ now. step_unchanged serving kept fewer texts controls now covers)
own_rest {w} {v} {s = s} was (same downs) quiet (tells serving idle t to fewer silent commanded_now covers) =
    rest_tells was idle serving t to [] (downs s.serving ∙ sym (append-nil (going_down w (place_of s.serving)))) (omega arith) tt (downs t.channel ∙ quiet t idle to) (λ now. tells serving idle t to fewer silent now covers)
own_rest was (same downs) quiet (completes t changed ended serving more commanded_now covers) = rest_completes was t changed ended serving (omega arith) (downs t.channel) (λ now. completes t changed ended serving more now covers)
own_rest {s = s} was (same downs) quiet (reverts t changed ended serving more commanded_now covers) = rest_reverts was t changed ended serving (omega arith) (downs s.serving) (λ now. reverts t changed ended serving more now covers)
own_rest was (commanded idle t to serves more downs few leads_there same_there) quiet (step_unchanged serving kept fewer texts controls commanded_now covers) = absurd (some_none (kept ∙ idle) to)
own_rest {w} {v} {next = next} was (commanded idle t to serves more downs few leads_there same_there) quiet (tells serving idle2 t2 to2 fewer silent commanded_now covers) =
    rest_tells was idle serving t to more downs few leads_there (same_there ∙ quiet t idle to) (λ now. tells serving idle2 t2 to2 fewer silent now covers)
own_rest was (commanded idle t to serves more downs few leads_there same_there) quiet (completes t2 changed ended serving fewer commanded_now covers) = absurd (some_none idle changed)
own_rest was (commanded idle t to serves more downs few leads_there same_there) quiet (reverts t2 changed ended serving fewer commanded_now covers) = absurd (some_none idle changed)
