-- SPDX-License-Identifier: MIT OR Apache-2.0
-- The messages of a mobile's links have 1 to 251 octets.
use Rattle.world_model.proofs.Prelude.{◌≡◌, ℕ, ◌<◌, ◌≤◌, ◌==◌, ◌&&◌, ◌||◌, Bool, true, false, if◌then◌else◌, List, [], ◌∷◌, length, Some}
use Rattle.world_model.proofs.Prelude.{None, refl, sym, ap, ◌∙◌, arith, is_none, Sapi, Stage, New, Connected, lent_message, link_of}
use Rattle.world_model.proofs.Prelude.{after_queue, refusal_of_send, refusal_of_connect, after_acked, after_arrival, MobileState, IsL3, ◌%◌}
use Rattle.world_model.proofs.Prelude.{nat_le, leb-true, with_number, refusal_before_connect, after_frame, MESSAGE_LIMIT, INITIAL_LIMIT}
use Rattle.world_model.proofs.Prelude.{HasSized}
use Rattle.mobile_end.specs.declared.fault.MobileFault.TheVariants.{BadMessage}
use Rattle.octets.specs.Refusal.{first_refusal}
use Rattle.dtap_codec.specs.declared.message.TheConstants.{MOBILITY_MANAGEMENT, RADIO_RESOURCE}
use Rattle.mobile_end.specs.Lawful.{is_sendable, is_initial, takes_sapi, has_clear_number}
use Rattle.world_model.proofs.LinkMessages.{HoldsOf, acked_holds, arrival_holds, frame_holds, lent_holds, link_holds, queue_holds}

-- ---- a mobile's links

Any : ℕ → Type 0
Any count = Unit {0}

held : {mobile : MobileState} → HasSized mobile → HoldsOf IsL3 Any mobile
unfolding Any
held sized = record {
  zero = record { waiting = sized.zero.waiting; air = sized.zero.air };
  three = record { waiting = sized.three.waiting; air = sized.three.air };
  counted = tt;
}

sized_held : {mobile : MobileState} → HoldsOf IsL3 Any mobile → HasSized mobile
sized_held holds = record {
  zero = record { waiting = holds.zero.waiting; air = holds.zero.air };
  three = record { waiting = holds.three.waiting; air = holds.three.air };
}

pub lent_sized : (mobile : MobileState) (sapi : Sapi) → HasSized mobile → IsL3 (lent_message (link_of mobile sapi))
lent_sized mobile sapi sized = lent_holds IsL3 Any tt (link_of mobile sapi) (link_holds IsL3 Any tt mobile sapi (held sized))

numbered_sized : (number : ℕ) (message : List ℕ) → IsL3 (Some message) → IsL3 (Some (with_number number message))
numbered_sized number (first ∷ []) is = is
numbered_sized number _ is = is

pub queue_sized : (mobile : MobileState) (sapi : Sapi) (message : List ℕ) →
    IsL3 (Some message) →
    HasSized mobile →
    HasSized (after_queue mobile sapi message)
queue_sized mobile sapi message is sized = sized_held (queue_holds IsL3 Any tt mobile sapi message is (numbered_sized _ message is) (held sized))

pub frame_sized : (mobile : MobileState) (sapi : Sapi) → HasSized mobile → HasSized (after_frame mobile sapi)
frame_sized mobile sapi sized = sized_held (frame_holds IsL3 Any tt mobile sapi (held sized))

pub acked_sized : (mobile : MobileState) (sapi : Sapi) → HasSized mobile → HasSized (after_acked mobile sapi)
acked_sized mobile sapi sized = sized_held (acked_holds IsL3 Any tt mobile sapi (held sized))

pub arrival_sized : (mobile : MobileState) (control : List ℕ) →
    IsL3 (Some control) →
    HasSized mobile →
    HasSized (after_arrival mobile control)
arrival_sized mobile control is sized = sized_held (arrival_holds IsL3 Any tt mobile control is (held sized))

-- ---- what may be sent

front : (a b c : Bool) → a && b && c ≡ true → a ≡ true
front true b c is = refl
front false b c is = absurd cc

one_octet : (first : ℕ) (rest : List ℕ) → 0 < length (first ∷ rest)
one_octet first rest = omega arith

lawful_by : (b : Bool) → is_none (if b then None else Some BadMessage) ≡ true → b ≡ true
lawful_by true is = refl
lawful_by false is = absurd cc

pub sendable_sized : (mobile : MobileState) (sapi : Sapi) (message : List ℕ) →
    is_none (refusal_of_send mobile sapi message) ≡ true →
    IsL3 (Some message)
sendable_sized mobile sapi message may = by_stage mobile.stage refl where
  sized : (message : List ℕ) → is_sendable sapi message ≡ true → IsL3 (Some message)
  sized [] is = absurd cc
  sized (first ∷ rest) is = (one_octet first rest, leb-true (length (first ∷ rest)) MESSAGE_LIMIT (front (nat_le (length (first ∷ rest)) MESSAGE_LIMIT) (takes_sapi sapi (first % 16)) (has_clear_number (first ∷ rest)) is))

  by_stage : (stage : Stage) → mobile.stage ≡ stage → IsL3 (Some message)
  by_stage New is = absurd (impossible (sym (ap (λ (s : Stage). is_none (first_refusal (refusal_before_connect s) (if is_sendable sapi message then None else Some BadMessage))) is) ∙ may)) where
    impossible : false ≡ true → ⊥
    impossible h = absurd cc
  by_stage Connected is = sized message (lawful_by (is_sendable sapi message) (sym (ap (λ (s : Stage). is_none (first_refusal (refusal_before_connect s) (if is_sendable sapi message then None else Some BadMessage))) is) ∙ may))

pub initial_sized : (message : List ℕ) → is_none (refusal_of_connect (Some message)) ≡ true → IsL3 (Some message)
initial_sized message may = sized message (lawful_by (is_initial message) may) where
  longer : (n : ℕ) → n ≤ INITIAL_LIMIT → n ≤ MESSAGE_LIMIT
  longer n h = omega arith

  sized : (message : List ℕ) → is_initial message ≡ true → IsL3 (Some message)
  sized [] is = absurd cc
  sized (first ∷ rest) is =
      (one_octet first rest, longer (length (first ∷ rest)) (leb-true (length (first ∷ rest)) INITIAL_LIMIT (front (nat_le (length (first ∷ rest)) INITIAL_LIMIT) ((first % 16 == MOBILITY_MANAGEMENT) || (first % 16 == RADIO_RESOURCE)) (has_clear_number (first ∷ rest)) is)))
