-- SPDX-License-Identifier: MIT OR Apache-2.0
-- A mobile's link gives no more messages of radio resource management after an event than before.
use Rattle.world_laws.proofs.Prelude.{◌≡◌, ℕ, ◌+◌, ◌≤◌, ◌%◌, Bool, true, false, if◌then◌else◌, List, [], ◌∷◌, ◌++◌, length, option_to_list}
use Rattle.world_laws.proofs.Prelude.{Option, Some, sym, ap, ◌∙◌, subst, arith, inl, inr, is_none, cases_Bool, cond-false, Sapi, Zero}
use Rattle.world_laws.proofs.Prelude.{Three, is_flow_message, with_number, MobilePlace, Stage, Connected, is_control}
use Rattle.world_laws.proofs.Prelude.{after_acknowledgement, after_lending, lent_message, to_be_taken, waits, DataLinkState, after_acked}
use Rattle.world_laws.proofs.Prelude.{after_acked_at, after_frame, after_frame_at, after_number, after_queue, refusal_of_send, MobileState}
use Rattle.world_laws.proofs.Prelude.{is_flow_with_number, controls_of, is_sendable, to_be_taken-acknowledged, to_be_taken-lent_message}
use Rattle.world_laws.proofs.Prelude.{to_be_taken-waits, behind_first}
use Rattle.world_laws.proofs.LineUp.Lines.{controls_append, controls_behind}
use Rattle.world_laws.proofs.LineUp.Moving.{controls_waits, flow_no_control}
use Rattle.mobile_end.specs.declared.mobile_end.Place.TheVariants as places
use Rattle.mobile_end.specs.Mobile.{link_of, with_link}
use Rattle.world_laws.proofs.OwnMobile.{no_control, sendable_of}
use Rattle.world_laws.proofs.Sublists.{Sub}
use Rattle.world_laws.proofs.Sublists.Sub.{ends, keeps, drops}

-- with some messages dropped, as many as before are of radio resource management, or fewer
pub controls_sub : {xs ys : List (List ℕ)} → Sub xs ys → controls_of xs ≤ controls_of ys
controls_sub ends = omega arith
controls_sub (keeps {x} {xs} {ys} sub) =
    let fewer = controls_sub sub in
    let less : controls_of (x ∷ xs) ≡ controls_of (x ∷ []) + controls_of xs = controls_append (x ∷ []) xs in
    let more : controls_of (x ∷ ys) ≡ controls_of (x ∷ []) + controls_of ys = controls_append (x ∷ []) ys in
    omega (arith, fewer, less, more)
controls_sub (drops {y} {ys} sub) = let fewer = controls_sub sub in let more = controls_behind y ys in omega (arith, fewer, more)

-- ---- a link that gives no more of them, in all and behind its first message

pub record GivesNoMore (after before : DataLinkState) : Type 0 where
  pub whole : controls_of (to_be_taken after) ≤ controls_of (to_be_taken before)
  pub behind : controls_of (behind_first (to_be_taken after)) ≤ controls_of (behind_first (to_be_taken before))

pub gives_itself : (link : DataLinkState) → GivesNoMore link link
gives_itself link = record { whole = omega arith; behind = omega arith }

pub gives_same : {after before : DataLinkState} → after ≡ before → GivesNoMore after before
gives_same {after} {before} is = subst (λ (link : DataLinkState). GivesNoMore link before) (sym is) (gives_itself before)

behind_append : (xs : List (List ℕ)) (x : List ℕ) →
    is_control x ≡ false →
    controls_of (behind_first (xs ++ x ∷ [])) ≤ controls_of (behind_first xs)
behind_append [] x other = omega arith
behind_append (y ∷ ys) x other =
    let sum : controls_of (ys ++ x ∷ []) ≡ controls_of ys + controls_of (x ∷ []) = controls_append ys (x ∷ []) in
    let none : controls_of (x ∷ []) ≡ 0 = ap length (cond-false (is_control x) (x ∷ []) [] other) in
    omega (arith, sum, none)

-- a message that is none of them waits
waits_gives : (link : DataLinkState) (x : List ℕ) → is_control x ≡ false → GivesNoMore (waits link x) link
waits_gives link x other = record {
  whole = controls_waits link x other;
  behind = let same = ap (λ (xs : List (List ℕ)). controls_of (behind_first xs)) (to_be_taken-waits link x) in let fewer = behind_append (to_be_taken link) x other in omega (arith, same, fewer);
}

-- its upper layers send a message
pub queue_gives : (e : MobileState) (sapi : Sapi) (message : List ℕ) →
    is_none (refusal_of_send e sapi message) ≡ true →
    GivesNoMore (after_queue e sapi message).zero e.zero
queue_gives e sapi message may =
    elim (cases_Bool (is_flow_message message)) [
      | inl numbered ↦ as_is true numbered
          (waits_gives e.zero (with_number (length e.sent % e.modulus) message) (flow_no_control (with_number (length e.sent % e.modulus) message) (is_flow_with_number (length e.sent % e.modulus) message ∙ numbered)))
      | inr other ↦ as_is false other (by_sapi sapi (sendable_of e sapi message may))
    ] where
      as_is : (b : Bool) →
          is_flow_message message ≡ b →
          GivesNoMore (if b then after_number e message else with_link e sapi (waits (link_of e sapi) message)).zero e.zero →
          GivesNoMore (after_queue e sapi message).zero e.zero
      as_is b is gives = subst (λ (c : Bool). GivesNoMore (if c then after_number e message else with_link e sapi (waits (link_of e sapi) message)).zero e.zero) (sym is) gives

      by_sapi : (to : Sapi) → is_sendable to message ≡ true → GivesNoMore (with_link e to (waits (link_of e to) message)).zero e.zero
      by_sapi Zero may_send = waits_gives e.zero message (no_control message may_send)
      by_sapi Three may_send = gives_itself e.zero

-- the station acknowledges what it took
pub acked_gives : (e : MobileState) (sapi : Sapi) → GivesNoMore (after_acked e sapi).zero e.zero
acked_gives e sapi = by_place e.place sapi where
  acknowledged : GivesNoMore (after_acknowledgement e.zero) e.zero
  acknowledged =
      let same = to_be_taken-acknowledged e.zero.waiting e.zero.air in
      record {
        whole = let counts = ap controls_of same in omega (arith, counts);
        behind = let counts = ap (λ (xs : List (List ℕ)). controls_of (behind_first xs)) same in omega (arith, counts);
      }

  by_place : (place : MobilePlace) (to : Sapi) → GivesNoMore (after_acked_at place e to).zero e.zero
  by_place places.OnChannel Zero = acknowledged
  by_place places.OnChannel Three = gives_itself e.zero
  by_place places.Moving to = gives_itself e.zero

-- the station takes a message of SAPI 3
pub frame_gives : (e : MobileState) → GivesNoMore (after_frame e Three).zero e.zero
frame_gives e = by e.stage e.place where
  by : (stage : Stage) (place : MobilePlace) → GivesNoMore (after_frame_at stage place e Three).zero e.zero
  by Connected places.Moving = gives_itself e.zero
  by _ _ = gives_itself e.zero

-- ---- the station takes its first message

pub lent_first : (link : DataLinkState) (frame : List ℕ) →
    lent_message link ≡ Some frame →
    to_be_taken link ≡ frame ∷ to_be_taken (after_lending link)
lent_first link frame lent = sym (ap (λ (o : Option (List ℕ)). option_to_list o ++ to_be_taken (after_lending link)) (sym lent) ∙ to_be_taken-lent_message link.waiting link.air)
