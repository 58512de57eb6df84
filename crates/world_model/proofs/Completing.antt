-- SPDX-License-Identifier: MIT OR Apache-2.0
-- On a channel on which a mobile arrives, stations take its COMPLETE or FAILURE before all else of
-- it.
use Rattle.world_model.proofs.Prelude.{◌≡◌, ℕ, ◌==◌, ◌&&◌, is_some, Bool, true, false, if◌then◌else◌, List, [], ◌∷◌, ◌++◌, Option, Some}
use Rattle.world_model.proofs.Prelude.{None, refl, sym, ap, ◌∙◌, subst, eqb-true, append-nil, Change, Sapi, Zero, Three, is_flow_message}
use Rattle.world_model.proofs.Prelude.{Stage, New, Connected, Call, after_call, after_calls, connects, sends, frames, acknowledges, leaves}
use Rattle.world_model.proofs.Prelude.{arrives, gives_up, is_control, lent_message, waits, DataLinkState, after_acked_at, after_arrival}
use Rattle.world_model.proofs.Prelude.{after_connect, after_frame_at, after_number, after_queue, link_of, refusal_of_connect}
use Rattle.world_model.proofs.Prelude.{refusal_of_send, with_link, MobileState, Parameters, after_ack, offered_message, Air, Given}
use Rattle.world_model.proofs.Prelude.{MobileFault, after_load_from, frame_answer_at, Event, Upper, Connect, AirUp, AirAck, Move, Arrive}
use Rattle.world_model.proofs.Prelude.{Return, Command, Seat, Moving, Tenure, actors_after, event_after, place_in, Actors, Mobile}
use Rattle.world_model.proofs.Prelude.{mobile_of, modulus_in, new_actors}
use Rattle.std.specs.Prelude.{option_to_list}
use Rattle.mobile_end.specs.declared.mobile_end.Place.{Place}
use Rattle.mobile_end.specs.declared.mobile_end.Place.TheVariants as places
use Rattle.mobile_end.specs.Calls.{begins, frame_lent, may_arrive, taken_by_call, unless_connected, unless_refused}
use Rattle.world_model.specs.Calls.{Begins, CompleteIsFirst, EachBegins, calls_at, calls_to_arrive, calls_to_return, arrives_at, arrives_with, comings, complete_of, failure_of, frame_of, seat_of, taken_at, taken_by_channel}
use Rattle.world_model.specs.Mobiles.{complete, failure}
use Rattle.world_model.proofs.Leads.{and_left, and_right}
use Rattle.world_model.proofs.Mobility.{FitsWorld, Takes, control_complete, control_failure, end_of, may_come, fitting_new, takes_at}
use Rattle.world_model.proofs.Repeating.{IsBetween, arriving, end_between, frame_same, place_between, returning}

-- nothing was taken yet, and the message is in the air; or it was taken first
data IsLed (control : List ℕ) : List (List ℕ) → MobileState → Type 0 where
  given : {e : MobileState} → e.zero.air ≡ Given control → IsLed control [] e
  taken : {e : MobileState} (others : List (List ℕ)) → IsLed control (control ∷ others) e

-- ---- one call

-- by a call the message remains in the air, or is taken
data LendsOrTakes (control : List ℕ) (e : MobileState) (call : Call) : Type 0 where
  unchanged : taken_by_call e call ≡ [] → (after_call e call).zero.air ≡ Given control → LendsOrTakes control e call
  takes_control : taken_by_call e call ≡ control ∷ [] → LendsOrTakes control e call

air-queued : (e : MobileState) (sapi : Sapi) (message : List ℕ) → (after_queue e sapi message).zero.air ≡ e.zero.air
air-queued e sapi message = by (is_flow_message message) sapi where
  by : (b : Bool) (s : Sapi) → (if b then after_number e message else with_link e s (waits (link_of e s) message)).zero.air ≡ e.zero.air
  by false Zero = refl
  by _ _ = refl

air-unless : (fault : Option MobileFault) (e next : MobileState) →
    next.zero.air ≡ e.zero.air →
    (unless_refused fault e next).zero.air ≡ e.zero.air
air-unless None e next same = same
air-unless (Some fault) e next same = refl

air-connected : (e : MobileState) (initial : Option (List ℕ)) → (after_connect e initial).zero.air ≡ e.zero.air
air-connected e None = refl
air-connected e (Some initial) = air-queued e Zero initial

air-connects : (stage : Stage) (e next : MobileState) → next.zero.air ≡ e.zero.air → (unless_connected stage e next).zero.air ≡ e.zero.air
air-connects New e next same = same
air-connects Connected e next same = refl

-- a message in the air is the one that is lent
lent_given : (link : DataLinkState) (control : List ℕ) → link.air ≡ Given control → lent_message link ≡ Some control
lent_given link control is = ap (λ (air : Air). offered_message (after_load_from link.waiting air).air) is ∙ by link.waiting where
  by : (waiting : List (List ℕ)) → offered_message (after_load_from waiting (Given control)).air ≡ Some control
  by [] = refl
  by (first ∷ others) = refl

frame_lends : (control : List ℕ) (e : MobileState) (stage : Stage) (place : Place) →
    e.stage ≡ stage →
    e.place ≡ place →
    e.zero.air ≡ Given control →
    LendsOrTakes control e (frames Zero)
frame_lends control e New place is at air =
    unchanged (ap (λ (s : Stage). frame_lent (frame_answer_at s e.place (lent_message e.zero))) is) (ap (λ (s : Stage). (after_frame_at s e.place e Zero).zero.air) is ∙ air)
frame_lends control e Connected places.Moving is at air =
    unchanged (ap (λ (s : Stage). frame_lent (frame_answer_at s e.place (lent_message e.zero))) is ∙ ap (λ (p : Place). frame_lent (frame_answer_at Connected p (lent_message e.zero))) at)
    (ap (λ (s : Stage). (after_frame_at s e.place e Zero).zero.air) is ∙ ap (λ (p : Place). (after_frame_at Connected p e Zero).zero.air) at ∙ air)
frame_lends control e Connected places.OnChannel is at air =
    takes_control (ap (λ (s : Stage). frame_lent (frame_answer_at s e.place (lent_message e.zero))) is ∙ ap (λ (p : Place). frame_lent (frame_answer_at Connected p (lent_message e.zero))) at
    ∙ ap (λ (o : Option (List ℕ)). option_to_list o) (lent_given e.zero control air))

air-framed-three : (stage : Stage) (place : Place) (e : MobileState) → (after_frame_at stage place e Three).zero.air ≡ e.zero.air
air-framed-three Connected places.Moving e = refl
air-framed-three _ _ e = refl

air-acked : (place : Place) (sapi : Sapi) (e : MobileState) (control : List ℕ) →
    e.zero.air ≡ Given control →
    (after_acked_at place e sapi).zero.air ≡ Given control
air-acked places.OnChannel Zero e control air = ap after_ack air
air-acked places.OnChannel Three e control air = air
air-acked places.Moving sapi e control air = air

-- it doesn't arrive on a channel
air-refused : (e next : MobileState) (b : Bool) → b ≡ false → (if b then next else e).zero.air ≡ e.zero.air
air-refused e next b is = ap (λ (x : Bool). (if x then next else e).zero.air) is

by_call : (control : List ℕ) (e : MobileState) (call : Call) →
    begins e call ≡ false →
    e.zero.air ≡ Given control →
    LendsOrTakes control e call
by_call control e (connects initial) not air =
    unchanged refl (air-connects e.stage e (unless_refused (refusal_of_connect initial) e (after_connect e initial)) (air-unless (refusal_of_connect initial) e (after_connect e initial) (air-connected e initial)) ∙ air)
by_call control e (sends sapi message) not air = unchanged refl (air-unless (refusal_of_send e sapi message) e (after_queue e sapi message) (air-queued e sapi message) ∙ air)
by_call control e (frames Zero) not air = frame_lends control e e.stage e.place refl refl air
by_call control e (frames Three) not air = unchanged refl (air-framed-three e.stage e.place e ∙ air)
by_call control e (acknowledges sapi) not air = unchanged refl (air-acked e.place sapi e control air)
by_call control e leaves not air = unchanged refl air
by_call control e (arrives text) not air = unchanged refl (air-refused e (after_arrival e text) (may_arrive e text) not ∙ air)
by_call control e (gives_up text) not air = unchanged refl (air-refused e (after_arrival e text) (may_arrive e text) not ∙ air)

led_by : (control : List ℕ) (so_far : List (List ℕ)) (e : MobileState) (call : Call) →
    begins e call ≡ false →
    IsLed control so_far e →
    IsLed control (so_far ++ taken_by_call e call) (after_call e call)
led_by control [] e call not (given air) = by (by_call control e call not air) where
  by : LendsOrTakes control e call → IsLed control (taken_by_call e call) (after_call e call)
  by (unchanged none fitting) = subst (λ (xs : List (List ℕ)). IsLed control xs (after_call e call)) (sym none) (given fitting)
  by (takes_control one) = subst (λ (xs : List (List ℕ)). IsLed control xs (after_call e call)) (sym one) (taken [])
led_by control (_ ∷ _) e call not (taken others) = taken (others ++ taken_by_call e call)

-- where it arrives, its message is in the air
air-come : (e next : MobileState) (b : Bool) → b ≡ true → (if b then next else e).zero.air ≡ next.zero.air
air-come e next b is = ap (λ (x : Bool). (if x then next else e).zero.air) is

-- ---- one event

-- at an event it arrives on a channel with a message, or what was taken of it is led as before
data Turns (e : MobileState) (calls : List Call) : Bool → Option (List ℕ) → List (List ℕ) → Type 0 where
  comes : {none : List (List ℕ)} (control : List ℕ) →
      (after_calls e calls).zero.air ≡ Given control →
      Turns e calls true (Some control) none
  carries_on : {o : Option (List ℕ)} {more : List (List ℕ)} →
      ((control : List ℕ) (so_far : List (List ℕ)) → IsLed control so_far e → IsLed control (so_far ++ more) (after_calls e calls)) →
      Turns e calls false o more

turns_none : (e : MobileState) (o : Option (List ℕ)) → Turns e [] false o []
turns_none e o = carries_on (λ control so_far led. subst (λ (xs : List (List ℕ)). IsLed control xs e) (sym (append-nil so_far)) led)

turns_one : (e : MobileState) (call : Call) (o : Option (List ℕ)) (more : List (List ℕ)) →
    begins e call ≡ false →
    taken_by_call e call ≡ more →
    Turns e (call ∷ []) false o more
turns_one e call o more not gives = carries_on (λ control so_far led. subst (λ (xs : List (List ℕ)). IsLed control (so_far ++ xs) (after_call e call)) gives (led_by control so_far e call not led))

turns_silent : (e : MobileState) (call : Call) (b : Bool) →
    begins e call ≡ false →
    taken_by_call e call ≡ [] →
    Turns e (if b then call ∷ [] else []) false None []
turns_silent e call true not none = turns_one e call None [] not none
turns_silent e call false not none = turns_none e None

turns_frame : (m number : ℕ) (w : Actors) (n : ℕ) (done b : Bool) →
    (n == number) && done ≡ b →
    Turns (end_of m (mobile_of w number)) (if b then frames Zero ∷ [] else []) false None (if b then frame_of (mobile_of w n) else [])
turns_frame m number w n done true does =
    turns_one (end_of m (mobile_of w number)) (frames Zero) None (frame_of (mobile_of w n)) refl
    (frame_same m (mobile_of w number) ∙ ap (λ (k : ℕ). frame_of (mobile_of w k)) (sym (eqb-true n number (and_left (n == number) done does))))
turns_frame m number w n done false not = turns_none (end_of m (mobile_of w number)) None

-- it arrives on a channel with this text
turns_come : (m number : ℕ) (w : Actors) (n : ℕ) (call : List ℕ → Call) (text : Change → List ℕ) (calls : Seat → List Call) (told : Seat → Option (List ℕ))
    → ((from : Tenure) (command : Command) → calls (Moving from command) ≡ call (text command.change) ∷ []) → ((from : Tenure) (command : Command) → told (Moving from command) ≡ Some (text command.change))
    → ((change : Change) → is_control (text change) ≡ true) → ((e : MobileState) (xs : List ℕ) → after_call e (call xs) ≡ (if may_arrive e xs then after_arrival e xs else e))
    → FitsWorld m number w → n ≡ number → (at : IsBetween w n) → Turns (end_of m (mobile_of w number)) (calls (seat_of (mobile_of w n))) true (told (seat_of (mobile_of w n))) []
turns_come m number w n call text calls told called said control does fitting same at =
    let e : MobileState = end_of m (mobile_of w number) in
    let xs : List ℕ = text at.command.change in
    let seat : seat_of (mobile_of w n) ≡ Moving at.from at.command = ap (λ (o : Option Mobile). seat_of o) at.found ∙ at.seat in
    let may : may_arrive e xs ≡ true = ap (λ (x : MobileState). may_arrive x xs) (end_between m number w n same at) ∙ may_come at.p.end at.from at.command xs (place_between n fitting same at ∙ ap place_in at.seat) (control at.command.change) in
    let air : (after_call e (call xs)).zero.air ≡ Given xs = ap (λ (x : MobileState). x.zero.air) (does e xs) ∙ air-come e (after_arrival e xs) (may_arrive e xs) may in
    subst (λ (cs : List Call). Turns e cs true (told (seat_of (mobile_of w n))) []) (sym (ap calls seat ∙ called at.from at.command))
    (subst (λ (o : Option (List ℕ)). Turns e (call xs ∷ []) true o []) (sym (ap told seat ∙ said at.from at.command)) (comes xs air))

turns_arrive : (m number : ℕ) (w : Actors) (n : ℕ) (b : Bool) → (n == number) && is_some (event_after w (Arrive n)) ≡ b
    → FitsWorld m number w
    → Turns (end_of m (mobile_of w number)) (if b then calls_to_arrive (seat_of (mobile_of w n)) else []) b (complete_of (seat_of (mobile_of w n))) []
turns_arrive m number w n true done fitting =
    turns_come m number w n (λ xs. arrives xs) complete calls_to_arrive complete_of (λ from command. refl) (λ from command. refl) control_complete (λ e xs. refl) fitting
    (eqb-true n number (and_left (n == number) (is_some (event_after w (Arrive n))) done)) (arriving w n (and_right (n == number) (is_some (event_after w (Arrive n))) done))
turns_arrive m number w n false not fitting = turns_none (end_of m (mobile_of w number)) (complete_of (seat_of (mobile_of w n)))

turns_return : (m number : ℕ) (w : Actors) (n : ℕ) (b : Bool) → (n == number) && is_some (event_after w (Return n)) ≡ b
    → FitsWorld m number w
    → Turns (end_of m (mobile_of w number)) (if b then calls_to_return (seat_of (mobile_of w n)) else []) b (failure_of (seat_of (mobile_of w n))) []
turns_return m number w n true done fitting =
    turns_come m number w n (λ xs. gives_up xs) failure calls_to_return failure_of (λ from command. refl) (λ from command. refl) control_failure (λ e xs. refl) fitting
    (eqb-true n number (and_left (n == number) (is_some (event_after w (Return n))) done)) (returning w n (and_right (n == number) (is_some (event_after w (Return n))) done))
turns_return m number w n false not fitting = turns_none (end_of m (mobile_of w number)) (failure_of (seat_of (mobile_of w n)))

turns_at : (m number : ℕ) (w : Actors) (event : Event) →
    FitsWorld m number w →
    Turns (end_of m (mobile_of w number)) (calls_at w event number) (arrives_at w event number) (arrives_with w event) (taken_at w event number)
turns_at m number w (Connect n station initial accepts) fitting = turns_silent (end_of m (mobile_of w number)) (connects (Some initial)) ((n == number) && is_some (event_after w (Connect n station initial accepts))) refl refl
turns_at m number w (Upper n sapi message) fitting = turns_silent (end_of m (mobile_of w number)) (sends sapi message) ((n == number) && is_some (event_after w (Upper n sapi message))) refl refl
turns_at m number w (AirUp n Zero) fitting = turns_frame m number w n (is_some (event_after w (AirUp n Zero))) ((n == number) && is_some (event_after w (AirUp n Zero))) refl
turns_at m number w (AirUp n Three) fitting = turns_silent (end_of m (mobile_of w number)) (frames Three) ((n == number) && is_some (event_after w (AirUp n Three))) refl refl
turns_at m number w (AirAck n sapi) fitting = turns_silent (end_of m (mobile_of w number)) (acknowledges sapi) ((n == number) && is_some (event_after w (AirAck n sapi))) refl refl
turns_at m number w (Move n) fitting = turns_silent (end_of m (mobile_of w number)) leaves ((n == number) && is_some (event_after w (Move n))) refl refl
turns_at m number w (Arrive n) fitting = turns_arrive m number w n ((n == number) && is_some (event_after w (Arrive n))) refl fitting
turns_at m number w (Return n) fitting = turns_return m number w n ((n == number) && is_some (event_after w (Return n))) refl fitting
turns_at m number w _ fitting = turns_none (end_of m (mobile_of w number)) None

-- ---- all these events

-- on a channel where it arrived with this message, or with none
abbrev Led : Option (List ℕ) → List (List ℕ) → MobileState → Type 0
Led None so_far e = Unit {0}
Led (Some control) so_far e = IsLed control so_far e

begins_led : (o : Option (List ℕ)) (so_far : List (List ℕ)) (e : MobileState) → Led o so_far e → Begins o so_far
begins_led None so_far e led = tt
begins_led (Some control) [] e (given air) = tt
begins_led (Some control) (_ ∷ _) e (taken others) = refl

led_on : (o : Option (List ℕ)) (so_far more : List (List ℕ)) (e next end : MobileState) → end ≡ next
    → ((control : List ℕ) (xs : List (List ℕ)) → IsLed control xs e → IsLed control (xs ++ more) next) → Led o so_far e → Led o (so_far ++ more) end
led_on None so_far more e next end is on led = tt
led_on (Some control) so_far more e next end is on led = subst (IsLed control (so_far ++ more)) (sym is) (on control so_far led)

firsts : (m number : ℕ) (w : Actors) (o : Option (List ℕ)) (so_far : List (List ℕ)) (events : List Event) → FitsWorld m number w → Led o so_far (end_of m (mobile_of w number))
    → EachBegins (comings w number o events) (taken_by_channel w number so_far events)
firsts m number w o so_far [] fitting led = (begins_led o so_far (end_of m (mobile_of w number)) led, tt)
firsts m number w o so_far (event ∷ events) fitting led =
    by (arrives_at w event number) (arrives_with w event) (taken_at w event number) (turns_at m number w event fitting) (λ p xs now. firsts m number v p xs events takes.fitting now) where
      e : MobileState
      e = end_of m (mobile_of w number)

      v : Actors
      v = actors_after w event

      takes : Takes m number w (calls_at w event number) v
      takes = takes_at m number w event fitting

      by : (b : Bool) (c : Option (List ℕ)) (more : List (List ℕ)) → Turns e (calls_at w event number) b c more
          → ((p : Option (List ℕ)) (xs : List (List ℕ)) → Led p xs (end_of m (mobile_of v number)) → EachBegins (comings v number p events) (taken_by_channel v number xs events))
          → EachBegins (if b then o ∷ comings v number c events else comings v number o events) (if b then so_far ∷ taken_by_channel v number [] events else taken_by_channel v number (so_far ++ more) events)
      by true None more turn on = elim turn [ ]
      by true (Some _) more (comes control air) on = (begins_led o so_far e led, on (Some control) [] (given (ap (λ (x : MobileState). x.zero.air) takes.ends ∙ air)))
      by false c more (carries_on follows) on = on o (so_far ++ more) (led_on o so_far more e (after_calls e (calls_at w event number)) (end_of m (mobile_of v number)) takes.ends follows led)

pub complete_is_first_new : (settings : Parameters) (events : List Event) → CompleteIsFirst settings events
complete_is_first_new settings events number = firsts (modulus_in settings) number (new_actors settings) None [] events (fitting_new settings number) tt
