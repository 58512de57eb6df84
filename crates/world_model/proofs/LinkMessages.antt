-- SPDX-License-Identifier: MIT OR Apache-2.0
-- A property of each message of a mobile's links continues to hold if each added message has it.
use Rattle.world_model.proofs.Prelude.{ℕ, not, Bool, true, false, if◌then◌else◌, List, [], ◌∷◌, length, Option, Some, None}
use Rattle.world_model.proofs.Prelude.{option_to_list, AllByRecursion, AllByRecursion-append, Sapi, Zero, Three, is_flow_message}
use Rattle.world_model.proofs.Prelude.{Stage, Connected, is_control, waits, lent_message, DataLinkState, link_of, with_link}
use Rattle.world_model.proofs.Prelude.{after_number, after_queue, after_frame_at, after_acked, after_acked_at, after_arrival, MobileState}
use Rattle.world_model.proofs.Prelude.{◌%◌, AllByRecursion-filter, with_number, Air, Empty, Given, message_in, offered_message, after_reach}
use Rattle.world_model.proofs.Prelude.{after_ack, after_load_from, after_frame}
use Rattle.mobile_end.specs.declared.mobile_end.Place.{Place}
use Rattle.mobile_end.specs.declared.mobile_end.Place.TheVariants as places
use Rattle.mobile_end.specs.DataLink.{after_load, after_lending, after_acknowledgement, outstanding_messages, after_resume, air_after_repeat, after_repeat}

pub record HoldsOn (P : Option (List ℕ) → Type 0) (link : DataLinkState) : Type 0 where
  pub waiting : AllByRecursion (λ message. P (Some message)) link.waiting
  pub air : P (message_in link.air)

-- of both links; and how many numbers the flow has is such a count
pub record HoldsOf (P : Option (List ℕ) → Type 0) (Counts : ℕ → Type 0) (mobile : MobileState) : Type 0 where
  pub zero : HoldsOn P mobile.zero
  pub three : HoldsOn P mobile.three
  pub counted : Counts mobile.modulus

module _ (P : Option (List ℕ) → Type 0) (Counts : ℕ → Type 0) (none : P None) where
  -- ---- links

  waits_holds : (link : DataLinkState) (message : List ℕ) → P (Some message) → HoldsOn P link → HoldsOn P (waits link message)
  waits_holds link message is holds = record { waiting = AllByRecursion-append (λ message. P (Some message)) link.waiting (message ∷ []) holds.waiting (is, tt); air = holds.air }

  load_holds : (waiting : List (List ℕ)) (air : Air) →
      AllByRecursion (λ message. P (Some message)) waiting →
      P (message_in air) →
      HoldsOn P (after_load_from waiting air)
  load_holds [] Empty all is = record { waiting = tt; air = none }
  load_holds (first ∷ others) Empty all is = record { waiting = all.1; air = all.0 }
  load_holds waiting _ all is = record { waiting = all; air = is }

  loaded : (link : DataLinkState) → HoldsOn P link → HoldsOn P (after_load link)
  loaded link holds = load_holds link.waiting link.air holds.waiting holds.air

  pub lent_holds : (link : DataLinkState) → HoldsOn P link → P (lent_message link)
  lent_holds link holds = offered (after_load link).air (loaded link holds).air where
    offered : (air : Air) → P (message_in air) → P (offered_message air)
    offered (Given message) is = is
    offered _ is = none

  lending_holds : (link : DataLinkState) → HoldsOn P link → HoldsOn P (after_lending link)
  lending_holds link holds = record { waiting = (loaded link holds).waiting; air = reach (after_load link).air (loaded link holds).air } where
    reach : (air : Air) → P (message_in air) → P (message_in (after_reach air))
    reach Empty is = is
    reach _ is = is

  acknowledged_holds : (link : DataLinkState) → HoldsOn P link → HoldsOn P (after_acknowledgement link)
  acknowledged_holds link holds = record { waiting = holds.waiting; air = by_air link.air holds.air } where
    by_air : (air : Air) → P (message_in air) → P (message_in (after_ack air))
    by_air (Given message) is = is
    by_air _ is = none

  in_air : (o : Option (List ℕ)) → P o → AllByRecursion (λ message. P (Some message)) (option_to_list o)
  in_air None is = tt
  in_air (Some message) is = (is, tt)

  resume_holds : (link : DataLinkState) (control : List ℕ) → P (Some control) → HoldsOn P link → HoldsOn P (after_resume link control)
  resume_holds link control is holds = record {
    waiting = AllByRecursion-filter (λ message. P (Some message)) (λ message. not (is_control message)) (outstanding_messages link)
        (AllByRecursion-append (λ message. P (Some message)) (option_to_list (message_in link.air)) link.waiting (in_air (message_in link.air) holds.air) holds.waiting);
    air = is;
  }

  repeat_holds : (link : DataLinkState) → HoldsOn P link → HoldsOn P (after_repeat link)
  repeat_holds link holds = record { waiting = holds.waiting; air = by_air link.air holds.air } where
    by_air : (air : Air) → P (message_in air) → P (message_in (air_after_repeat air))
    by_air Empty is = is
    by_air _ is = is

  -- ---- a mobile's links

  pub link_holds : (mobile : MobileState) (sapi : Sapi) → HoldsOf P Counts mobile → HoldsOn P (link_of mobile sapi)
  link_holds mobile Zero holds = holds.zero
  link_holds mobile Three holds = holds.three

  with_link_holds : (mobile : MobileState) (sapi : Sapi) (link : DataLinkState) →
      HoldsOn P link →
      HoldsOf P Counts mobile →
      HoldsOf P Counts (with_link mobile sapi link)
  with_link_holds mobile Zero link is holds = record { zero = is; three = holds.three; counted = holds.counted }
  with_link_holds mobile Three link is holds = record { zero = holds.zero; three = is; counted = holds.counted }

  pub queue_holds : (mobile : MobileState) (sapi : Sapi) (message : List ℕ) → P (Some message)
      → P (Some (with_number (length mobile.sent % mobile.modulus) message)) → HoldsOf P Counts mobile → HoldsOf P Counts (after_queue mobile sapi message)
  queue_holds mobile sapi message is numbered holds = by_flow (is_flow_message message) where
    by_flow : (b : Bool) →
        HoldsOf P Counts (if b then after_number mobile message else with_link mobile sapi (waits (link_of mobile sapi) message))
    by_flow true = record { zero = waits_holds mobile.zero _ numbered holds.zero; three = holds.three; counted = holds.counted }
    by_flow false = with_link_holds mobile sapi _ (waits_holds (link_of mobile sapi) message is (link_holds mobile sapi holds)) holds

  pub frame_holds : (mobile : MobileState) (sapi : Sapi) → HoldsOf P Counts mobile → HoldsOf P Counts (after_frame mobile sapi)
  frame_holds mobile sapi holds = by_state mobile.stage mobile.place where
    by_state : (stage : Stage) (place : Place) → HoldsOf P Counts (after_frame_at stage place mobile sapi)
    by_state Connected places.OnChannel = with_link_holds mobile sapi _ (lending_holds (link_of mobile sapi) (link_holds mobile sapi holds)) holds
    by_state _ _ = holds

  pub acked_holds : (mobile : MobileState) (sapi : Sapi) → HoldsOf P Counts mobile → HoldsOf P Counts (after_acked mobile sapi)
  acked_holds mobile sapi holds = by_place mobile.place where
    by_place : (place : Place) → HoldsOf P Counts (after_acked_at place mobile sapi)
    by_place places.OnChannel = with_link_holds mobile sapi _ (acknowledged_holds (link_of mobile sapi) (link_holds mobile sapi holds)) holds
    by_place places.Moving = holds

  pub arrival_holds : (mobile : MobileState) (control : List ℕ) →
      P (Some control) →
      HoldsOf P Counts mobile →
      HoldsOf P Counts (after_arrival mobile control)
  arrival_holds mobile control is holds = record { zero = resume_holds mobile.zero control is holds.zero; three = repeat_holds mobile.three holds.three; counted = holds.counted }
