-- SPDX-License-Identifier: MIT OR Apache-2.0
-- The one-repeat rule of each mobile of a run.
use Rattle.world_model.proofs.Prelude.{◌≡◌, ℕ, ◌==◌, ◌&&◌, is_some, Bool, true, false, if◌then◌else◌, List, [], ◌∷◌, ◌++◌, Option, Some}
use Rattle.world_model.proofs.Prelude.{None, refl, sym, ap, ◌∙◌, subst, eqb-true, append-nil, Zero, Three, Call, after_call, after_calls}
use Rattle.world_model.proofs.Prelude.{connects, sends, frames, acknowledges, leaves, arrives, gives_up, frame_answer, new_mobile}
use Rattle.world_model.proofs.Prelude.{MobileState, Parameters, is_control, Change, Event, Upper, Connect, AirUp, AirAck, Move, Arrive}
use Rattle.world_model.proofs.Prelude.{Return, Command, Seat, Moving, Tenure, actors_after, place_in, Actors, Mobile, mobile_of, modulus_in}
use Rattle.world_model.proofs.Prelude.{new_actors}
use Rattle.mobile_end.specs.Calls.{begins, establishments, frame_lent, may_arrive, taken_by_call}
use Rattle.mobile_end.specs.OneRepeat.{OneRepeat}
use Rattle.mobile_end.proofs.Lives.{IsGoing-new, OneRepeat-calls}
use Rattle.world_model.specs.Calls.{all_calls, calls_at, calls_to_arrive, calls_to_return, arrives_at, frame_of, seat_of, taken_at, taken_by_channel, MobilesRepeatAtMostOne}
use Rattle.world_model.specs.Life.{event_after}
use Rattle.world_model.specs.Mobiles.{complete, failure}
use Rattle.world_model.proofs.Leads.{OfTaken, and_left, and_right, arrive_leads, return_leads}
use Rattle.world_model.proofs.Mobility.{Fits, MobilesLive-new, FitsWorld, Takes, control_complete, control_failure, end_of, may_come, fitting_new, takes_at}

-- ---- one event

-- what these calls of an end add to what was taken of it so far: a list more where it arrives on
-- a channel, else these messages
unfoldable IsTurn : MobileState → List Call → Bool → List (List ℕ) → Type 0
IsTurn e calls comes taken =
    (so_far : List (List ℕ)) (rest : List Call)
    → establishments e so_far (calls ++ rest) ≡ (if comes then so_far ∷ establishments (after_calls e calls) [] rest else establishments (after_calls e calls) (so_far ++ taken) rest)

turn_none : (e : MobileState) → IsTurn e [] false []
unfolding IsTurn
turn_none e so_far rest = ap (λ (xs : List (List ℕ)). establishments e xs rest) (sym (append-nil so_far))

turn_one : (e : MobileState) (call : Call) (comes : Bool) (taken : List (List ℕ)) →
    begins e call ≡ comes →
    taken_by_call e call ≡ taken →
    IsTurn e (call ∷ []) comes taken
unfolding IsTurn
turn_one e call comes taken begun gives so_far rest =
    ap (λ (b : Bool). if b then so_far ∷ establishments (after_call e call) [] rest else establishments (after_call e call) (so_far ++ taken_by_call e call) rest) begun
    ∙ ap (λ (xs : List (List ℕ)). if comes then so_far ∷ establishments (after_call e call) [] rest else establishments (after_call e call) (so_far ++ xs) rest) gives

-- a call of which stations take nothing
turn_silent : (e : MobileState) (call : Call) (b : Bool) →
    begins e call ≡ false →
    taken_by_call e call ≡ [] →
    IsTurn e (if b then call ∷ [] else []) false []
turn_silent e call true begun gives = turn_one e call false [] begun gives
turn_silent e call false begun gives = turn_none e

-- a frame that a station takes
pub frame_same : (m : ℕ) (o : Option Mobile) → frame_lent (frame_answer (end_of m o) Zero) ≡ frame_of o
frame_same m None = refl
frame_same m (Some p) = refl

turn_frame : (m number : ℕ) (w : Actors) (n : ℕ) (taken b : Bool) →
    (n == number) && taken ≡ b →
    IsTurn (end_of m (mobile_of w number)) (if b then frames Zero ∷ [] else []) false (if b then frame_of (mobile_of w n) else [])
turn_frame m number w n taken true does =
    turn_one (end_of m (mobile_of w number)) (frames Zero) false (frame_of (mobile_of w n)) refl
    (frame_same m (mobile_of w number) ∙ ap (λ (k : ℕ). frame_of (mobile_of w k)) (sym (eqb-true n number (and_left (n == number) taken does))))
turn_frame m number w n taken false doesnt = turn_none (end_of m (mobile_of w number))

-- ---- it arrives on a channel

-- between two channels, as it was commanded
pub record IsBetween (w : Actors) (n : ℕ) : Type 0 where
  pub p : Mobile
  pub found : mobile_of w n ≡ Some p
  pub from : Tenure
  pub command : Command
  pub seat : p.seat ≡ Moving from command

taken_so : {P : Type 0} (o : Option Actors) → OfTaken (λ _. P) o → is_some o ≡ true → P
unfolding OfTaken
taken_so None leads is = absurd cc
taken_so (Some v) leads is = leads

pub arriving : (w : Actors) (n : ℕ) → is_some (event_after w (Arrive n)) ≡ true → IsBetween w n
unfolding event_after
arriving w n is = taken_so (event_after w (Arrive n)) (arrive_leads (λ _. IsBetween w n) w n (λ p from command found seat _. record { p = p; found = found; from = from; command = command; seat = seat })) is

pub returning : (w : Actors) (n : ℕ) → is_some (event_after w (Return n)) ≡ true → IsBetween w n
unfolding event_after
returning w n is = taken_so (event_after w (Return n)) (return_leads (λ _. IsBetween w n) w n (λ p from command found seat _. record { p = p; found = found; from = from; command = command; seat = seat })) is

-- its end is between two channels
pub place_between : {m number : ℕ} {w : Actors} (n : ℕ) → FitsWorld m number w → n ≡ number → (between : IsBetween w n) → Fits
    (Some between.p)
place_between {w = w} n fitting same between = subst Fits (ap (mobile_of w) (sym same) ∙ between.found) fitting.fits

pub end_between : (m number : ℕ) (w : Actors) (n : ℕ) →
    n ≡ number →
    (between : IsBetween w n) →
    end_of m (mobile_of w number) ≡ between.p.end
end_between m number w n same between = ap (end_of m) (ap (mobile_of w) (sym same) ∙ between.found)

-- it arrives on a channel with this text
turn_come : (m number : ℕ) (w : Actors) (n : ℕ) (call : List ℕ → Call) (text : Change → List ℕ) (calls : Seat → List Call)
    → ((from : Tenure) (command : Command) → calls (Moving from command) ≡ call (text command.change) ∷ []) → ((change : Change) → is_control (text change) ≡ true)
    → ((e : MobileState) (xs : List ℕ) → begins e (call xs) ≡ may_arrive e xs) → ((e : MobileState) (xs : List ℕ) → taken_by_call e (call xs) ≡ []) → (taken b : Bool) → (taken ≡ true → IsBetween w n) → (n == number) && taken ≡ b
    → FitsWorld m number w → IsTurn (end_of m (mobile_of w number)) (if b then calls (seat_of (mobile_of w n)) else []) b []
turn_come m number w n call text calls called control begun gives taken true between does fitting =
    let e : MobileState = end_of m (mobile_of w number) in
    let at : IsBetween w n = between (and_right (n == number) taken does) in
    let same : n ≡ number = eqb-true n number (and_left (n == number) taken does) in
    let xs : List ℕ = text at.command.change in
    subst (λ (cs : List Call). IsTurn e cs true []) (sym (ap (λ (o : Option Mobile). calls (seat_of o)) at.found ∙ ap calls at.seat ∙ called at.from at.command))
    (turn_one e (call xs) true [] (begun e xs ∙ ap (λ (x : MobileState). may_arrive x xs) (end_between m number w n same at)
    ∙ may_come at.p.end at.from at.command xs (place_between n fitting same at ∙ ap place_in at.seat) (control at.command.change)) (gives e xs))
turn_come m number w n call text calls called control begun gives taken false between doesnt fitting = turn_none (end_of m (mobile_of w number))

-- ---- each event

turn_at : (m number : ℕ) (w : Actors) (event : Event) →
    FitsWorld m number w →
    IsTurn (end_of m (mobile_of w number)) (calls_at w event number) (arrives_at w event number) (taken_at w event number)
turn_at m number w (Connect n station initial accepts) fitting = turn_silent (end_of m (mobile_of w number)) (connects (Some initial)) ((n == number) && is_some (event_after w (Connect n station initial accepts))) refl refl
turn_at m number w (Upper n sapi message) fitting = turn_silent (end_of m (mobile_of w number)) (sends sapi message) ((n == number) && is_some (event_after w (Upper n sapi message))) refl refl
turn_at m number w (AirUp n Zero) fitting = turn_frame m number w n (is_some (event_after w (AirUp n Zero))) ((n == number) && is_some (event_after w (AirUp n Zero))) refl
turn_at m number w (AirUp n Three) fitting = turn_silent (end_of m (mobile_of w number)) (frames Three) ((n == number) && is_some (event_after w (AirUp n Three))) refl refl
turn_at m number w (AirAck n sapi) fitting = turn_silent (end_of m (mobile_of w number)) (acknowledges sapi) ((n == number) && is_some (event_after w (AirAck n sapi))) refl refl
turn_at m number w (Move n) fitting = turn_silent (end_of m (mobile_of w number)) leaves ((n == number) && is_some (event_after w (Move n))) refl refl
turn_at m number w (Arrive n) fitting = turn_come m number w n (λ xs. arrives xs) complete calls_to_arrive (λ from command. refl) control_complete (λ e xs. refl) (λ e xs. refl) _ _ (arriving w n) refl fitting
turn_at m number w (Return n) fitting = turn_come m number w n (λ xs. gives_up xs) failure calls_to_return (λ from command. refl) control_failure (λ e xs. refl) (λ e xs. refl) _ _ (returning w n) refl fitting
turn_at m number w _ fitting = turn_none (end_of m (mobile_of w number))

-- ---- all these events

channels_same : (m number : ℕ) (w : Actors) (so_far : List (List ℕ)) (events : List Event) →
    FitsWorld m number w →
    establishments (end_of m (mobile_of w number)) so_far (all_calls w events number) ≡ taken_by_channel w number so_far events
unfolding IsTurn
channels_same m number w so_far [] fitting = refl
channels_same m number w so_far (event ∷ events) fitting =
    let e : MobileState = end_of m (mobile_of w number) in
    let rest : List Call = all_calls (actors_after w event) events number in
    let takes : Takes m number w (calls_at w event number) (actors_after w event) = takes_at m number w event fitting in
    turn_at m number w event fitting so_far rest
    ∙ ap (λ (end : MobileState). if arrives_at w event number then so_far ∷ establishments end [] rest else establishments end (so_far ++ taken_at w event number) rest) (sym takes.ends)
    ∙ ap (λ (xs : List (List (List ℕ))). if arrives_at w event number then so_far ∷ xs else establishments (end_of m (mobile_of (actors_after w event) number)) (so_far ++ taken_at w event number) rest)
    (channels_same m number (actors_after w event) [] events takes.fitting)
    ∙ ap (λ (xs : List (List (List ℕ))). if arrives_at w event number then so_far ∷ taken_by_channel (actors_after w event) number [] events else xs)
    (channels_same m number (actors_after w event) (so_far ++ taken_at w event number) events takes.fitting)

pub mobiles_repeat_at_most_one_new : (settings : Parameters) (events : List Event) → MobilesRepeatAtMostOne settings events
mobiles_repeat_at_most_one_new settings events number p found =
    let m : ℕ = modulus_in settings in
    let calls : List Call = all_calls (new_actors settings) events number in
    let lives = MobilesLive-new settings events number p found in
    subst (λ (lists : List (List (List ℕ))). OneRepeat m p.end.sent 0 lists) (channels_same m number (new_actors settings) [] events (fitting_new settings number))
    (subst (λ (e : MobileState). OneRepeat m e.sent 0 (establishments (new_mobile m) [] calls)) (sym lives.is) (OneRepeat-calls m [] (new_mobile m) [] calls (IsGoing-new m)))
