-- SPDX-License-Identifier: MIT OR Apache-2.0
-- The invariant of the fixed world, which every event keeps.
use Rattle.std.proofs.Common.{◌≡◌, ℕ, ◌≤◌, Bool, true, false, Option, Some, None, Result, Ok, Err, List, [], ◌∷◌, ◌++◌, refl, sym, ap, ◌∙◌, subst, append_assoc, unwrap_or, option_to_list, cond}
use Rattle.std.proofs.lemmas.Bool.{cond_both}
use Rattle.std.proofs.lemmas.List.{append-nil}
use Rattle.octets.specs.Refusal.{first_refusal}
use Rattle.dtap_codec.specs.Message.{is_flow_message}
use Rattle.dtap_codec.specs.declared.sapi.Sapi.{Sapi}
use Rattle.dtap_codec.specs.declared.sapi.Sapi.TheVariants.{Zero, Three}
use Rattle.mobile_end.specs.declared.fault.MobileFault.{MobileFault}
use Rattle.mobile_end.specs.declared.fault.MobileFault.TheVariants.{BadMessage}
use Rattle.mobile_end.specs.declared.mobile_end.Place.{Place}
use Rattle.mobile_end.specs.declared.mobile_end.Place.TheVariants.{OnChannel, Moving}
use Rattle.mobile_end.specs.declared.mobile_end.Stage.{Stage}
use Rattle.mobile_end.specs.declared.mobile_end.Stage.TheVariants.{New, Connected}
use Rattle.mobile_end.specs.Calls.{frame_lent}
use Rattle.mobile_end.specs.DataLinkState.{DataLinkState}
use Rattle.mobile_end.specs.DataLink.{waits}
use Rattle.mobile_end.specs.Lawful.{is_sendable}
use Rattle.mobile_end.specs.MobileState.{MobileState}
use Rattle.mobile_end.specs.Mobile.{after_queue, after_number, with_link, link_of, refusal_before_connect, frame_answer, after_frame, after_frame_at, after_acked, after_acked_at, is_acknowledged}
use Rattle.mobile_end.proofs.Lives.{is_sendable_clear}
use Rattle.mobile_end.proofs.Numbering.{IsNumbered, IsNumbered-new, IsNumbered-after_queue, IsNumbered-frame, IsNumbered-acked}
use Rattle.world.specs.FixedState.{FixedState}
use Rattle.world.specs.Queues.{first_of}
use Rattle.world.specs.Fixed.{fixed_beginning, with_mobile, unless_refused, frame_in, air_up_with, after_taking, after_upper, after_air_up, after_air_ack, after_switch_takes, frame_up}

-- What was taken of the mobile is at the switch and in its outbox, numbered by the modulus of
-- both.
pub record IsFixedKept (world : FixedState) : Type 0 where
  pub numbered : IsNumbered [] world.mobile (world.switch.taken ++ world.outbox)
  pub modulus : world.switch.modulus ≡ world.mobile.modulus
  pub two : 2 ≤ world.mobile.modulus

pub IsFixedKept-beginning : (m : ℕ) → 2 ≤ m → IsFixedKept (fixed_beginning m)
IsFixedKept-beginning m two = let new = IsNumbered-new m in record { numbered = record { after = new.after; parts = new.parts; numbers = new.numbers; clear = new.clear }; modulus = refl; two = two }

-- calls of the mobile keep its modulus
modulus-with_link : (mobile : MobileState) (sapi : Sapi) (link : DataLinkState) → (with_link mobile sapi link).modulus ≡ mobile.modulus
modulus-with_link mobile Zero link = refl
modulus-with_link mobile Three link = refl

modulus-after_queue : (mobile : MobileState) (sapi : Sapi) (message : List ℕ) → (after_queue mobile sapi message).modulus ≡ mobile.modulus
modulus-after_queue mobile sapi message =
    cond_both (is_flow_message message) (after_number mobile message) (with_link mobile sapi (waits (link_of mobile sapi) message))
    (λ (new : MobileState). new.modulus ≡ mobile.modulus) (λ _. refl) (λ _. modulus-with_link mobile sapi (waits (link_of mobile sapi) message))

modulus-after_frame : (stage : Stage) (place : Place) (mobile : MobileState) →
    (after_frame_at stage place mobile Zero).modulus ≡ mobile.modulus
modulus-after_frame New place mobile = refl
modulus-after_frame Connected Moving mobile = refl
modulus-after_frame Connected OnChannel mobile = refl

modulus-after_acked : (place : Place) (mobile : MobileState) → (after_acked_at place mobile Zero).modulus ≡ mobile.modulus
modulus-after_acked Moving mobile = refl
modulus-after_acked OnChannel mobile = refl

-- What an event does to the fixed world: what it puts into the switch's outbox, and what the switch
-- takes there.
pub record FixedStep (old new : FixedState) (put taken : List (List ℕ)) : Type 0 where
  pub kept : IsFixedKept old → IsFixedKept new
  pub first_out : old.outbox ++ put ≡ taken ++ new.outbox
  pub switch : new.switch.taken ≡ old.switch.taken ++ taken

-- nothing happened
pub FixedStep-none : (world : FixedState) → FixedStep world world [] []
FixedStep-none world = record { kept = λ kept. kept; first_out = append-nil world.outbox; switch = sym (append-nil world.switch.taken) }

-- the mobile alone changed
FixedStep-mobile : (world : FixedState) (mobile : MobileState) →
    (IsFixedKept world → IsFixedKept (with_mobile world mobile)) →
    FixedStep world (with_mobile world mobile) [] []
FixedStep-mobile world mobile kept = record { kept = kept; first_out = append-nil world.outbox; switch = sym (append-nil world.switch.taken) }

unless_refused-step : (lawful : Bool) (earlier : Option MobileFault) (old new : FixedState) →
    (lawful ≡ true → FixedStep old new [] []) →
    FixedStep old (unwrap_or (unless_refused (first_refusal earlier (cond lawful None (Some BadMessage))) old new) old) [] []
unless_refused-step lawful (Some fault) old new step = FixedStep-none old
unless_refused-step true None old new step = step refl
unless_refused-step false None old new step = FixedStep-none old

pub upper_step : (world : FixedState) (sapi : Sapi) (message : List ℕ) →
    FixedStep world (unwrap_or (after_upper world sapi message) world) [] []
upper_step world sapi message =
    unless_refused-step (is_sendable sapi message) (refusal_before_connect world.mobile.stage) world (with_mobile world (after_queue world.mobile sapi message))
    (λ lawful. FixedStep-mobile world (after_queue world.mobile sapi message) (λ kept. record {
      numbered = IsNumbered-after_queue [] world.mobile (world.switch.taken ++ world.outbox) sapi message (is_sendable_clear sapi message lawful) kept.numbered;
      modulus = kept.modulus ∙ sym (modulus-after_queue world.mobile sapi message);
      two = subst (λ (m : ℕ). 2 ≤ m) (sym (modulus-after_queue world.mobile sapi message)) kept.two;
    }))

air_up_with-step : (world : FixedState) (answer : Result (Option (List ℕ)) MobileFault) →
    frame_answer world.mobile Zero ≡ answer →
    FixedStep world (unwrap_or (air_up_with (frame_in answer) world) world) (option_to_list (frame_in answer)) []
air_up_with-step world (Err fault) is = FixedStep-none world
air_up_with-step world (Ok None) is = FixedStep-none world
air_up_with-step world (Ok (Some frame)) is = record {
  kept = λ kept.
      let next = IsNumbered-frame [] world.mobile.stage world.mobile.place world.mobile (world.switch.taken ++ world.outbox) kept.numbered in
      let lent_is : (world.switch.taken ++ world.outbox) ++ frame_lent (frame_answer world.mobile Zero) ≡ world.switch.taken ++ (world.outbox ++ frame ∷ []) =
      ap (λ (answer : Result (Option (List ℕ)) MobileFault). (world.switch.taken ++ world.outbox) ++ frame_lent answer) is ∙ append_assoc world.switch.taken world.outbox (frame ∷ []) in
      record {
        numbered = subst (λ (xs : List (List ℕ)). IsNumbered [] (after_frame world.mobile Zero) xs) lent_is next;
        modulus = kept.modulus ∙ sym (modulus-after_frame world.mobile.stage world.mobile.place world.mobile);
        two = subst (λ (m : ℕ). 2 ≤ m) (sym (modulus-after_frame world.mobile.stage world.mobile.place world.mobile)) kept.two;
      };
  first_out = refl;
  switch = sym (append-nil world.switch.taken);
}

pub air_up_step : (world : FixedState) → FixedStep world (unwrap_or (after_air_up world) world) (option_to_list (frame_up world)) []
air_up_step world = air_up_with-step world (frame_answer world.mobile Zero) refl

air_ack_by_step : (world : FixedState) (acknowledged : Bool) →
    FixedStep world (unwrap_or (cond acknowledged (Some (with_mobile world (after_acked world.mobile Zero))) None) world) [] []
air_ack_by_step world false = FixedStep-none world
air_ack_by_step world true = FixedStep-mobile world (after_acked world.mobile Zero) (λ kept. record {
  numbered = IsNumbered-acked [] world.mobile.place world.mobile (world.switch.taken ++ world.outbox) Zero kept.numbered;
  modulus = kept.modulus ∙ sym (modulus-after_acked world.mobile.place world.mobile);
  two = subst (λ (m : ℕ). 2 ≤ m) (sym (modulus-after_acked world.mobile.place world.mobile)) kept.two;
})

pub air_ack_step : (world : FixedState) → FixedStep world (unwrap_or (after_air_ack world) world) [] []
air_ack_step world = air_ack_by_step world (is_acknowledged world.mobile Zero)

after_taking-step : (world : FixedState) (messages : List (List ℕ)) →
    world.outbox ≡ messages →
    FixedStep world (unwrap_or (after_taking messages world) world) [] (first_of messages)
after_taking-step world [] is = FixedStep-none world
after_taking-step world (first ∷ others) is = record {
  kept = λ kept. record {
    numbered = subst (λ (xs : List (List ℕ)). IsNumbered [] world.mobile xs) (ap (λ (xs : List (List ℕ)). world.switch.taken ++ xs) is ∙ sym (append_assoc world.switch.taken (first ∷ []) others)) kept.numbered;
    modulus = kept.modulus;
    two = kept.two;
  };
  first_out = append-nil world.outbox ∙ is;
  switch = refl;
}

pub switch_takes_step : (world : FixedState) → FixedStep world (unwrap_or (after_switch_takes world) world) [] (first_of world.outbox)
switch_takes_step world = after_taking-step world world.outbox refl
