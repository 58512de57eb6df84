-- SPDX-License-Identifier: MIT OR Apache-2.0
-- Over any list of calls, the message that is sent again is the unacknowledged one.
use Rattle.std.proofs.Common.{◌≡◌, ℕ, ◌+◌, ◌≤◌, Bool, true, false, ◌&&◌, Option, Some, None, List, [], ◌∷◌, ◌++◌, length, refl, sym, ap, ◌∙◌, subst, arith, append_assoc, inl, inr, cond, filter, option_to_list, length-append}
use Rattle.std.proofs.lemmas.Bool.{cases_Bool, cond-true, cond-false, cond_both}
use Rattle.std.proofs.lemmas.List.{append-nil}
use Rattle.std.proofs.lemmas.List.Elements.{filter-append}
use Rattle.dtap_codec.specs.Message.{is_flow_message}
use Rattle.dtap_codec.specs.Places.{with_numbers_from}
use Rattle.dtap_codec.proofs.Numbers.{with_numbers_from-append}
use Rattle.dtap_codec.specs.declared.sapi.Sapi.{Sapi}
use Rattle.dtap_codec.specs.declared.sapi.Sapi.TheVariants.{Zero, Three}
use Rattle.link_model.specs.AirLink.{after_ack, message_in, offered_message, is_reached}
use Rattle.link_model.specs.declared.air_link.Air.{Air}
use Rattle.link_model.specs.declared.air_link.Air.TheVariants.{Empty, Given, Reached}
use Rattle.mobile_end.specs.declared.mobile_end.Place.{Place}
use Rattle.mobile_end.specs.declared.mobile_end.Place.TheVariants.{OnChannel, Moving}
use Rattle.mobile_end.specs.declared.mobile_end.Stage.{Stage}
use Rattle.mobile_end.specs.declared.mobile_end.Stage.TheVariants.{New, Connected}
use Rattle.mobile_end.specs.Calls.{Call, after_call, after_calls, begins, establishments, frame_lent, may_arrive, taken_by_call, unless_refused}
use Rattle.mobile_end.specs.Calls.Call.{connects, sends, frames, acknowledges, leaves, arrives, gives_up}
use Rattle.mobile_end.specs.Control.{is_control, without_control}
use Rattle.mobile_end.specs.DataLink.{after_lending, lent_message, outstanding_messages, waits}
use Rattle.mobile_end.specs.DataLinkState.{DataLinkState}
use Rattle.mobile_end.specs.Lawful.{is_initial, is_sendable}
use Rattle.mobile_end.specs.Mobile.{after_acked_at, after_arrival, after_connect, after_frame_at, after_number, after_queue, frame_answer_at, is_on_channel, link_of, new_mobile, refusal_before_connect, refusal_of_connect, with_link}
use Rattle.mobile_end.specs.MobileState.{MobileState}
use Rattle.mobile_end.specs.Unacknowledged.{acknowledged_by_call, acknowledgements, RepeatsUnacknowledged}
use Rattle.mobile_end.specs.Unacknowledged.RepeatsUnacknowledged.{over, next}
use Rattle.mobile_end.proofs.Lives.{IsGoing-new, IsKept-calls, is_arrival_begins, is_going_call, is_kept_call, is_kept_then, unless_connected_by, unless_refused_by}
use Rattle.mobile_end.proofs.Resuming.{IsGoing, is_control_apart, with_numbers_from_split, without_control-flow}
use Rattle.mobile_end.proofs.Slices.{is_slice_of_parts, is_slice_grow}

-- the message that the station took and that wasn't acknowledged
abbrev pub unacknowledged : Air → List (List ℕ)
unacknowledged Empty = []
unacknowledged (Given message) = []
unacknowledged (Reached message) = message ∷ []

-- The messages taken in the establishment are the acknowledged ones, and then that message.
abbrev AreHeard : Air → List (List ℕ) → List (List ℕ) → Type 0
AreHeard air taken acked = taken ≡ acked ++ unacknowledged air

-- ---- each call in an establishment

same_air : (old new : Air) (taken acked : List (List ℕ)) → new ≡ old → AreHeard old taken acked → AreHeard new (taken ++ []) (acked ++ [])
same_air old new taken acked same heard =
    append-nil taken ∙ heard ∙ ap (λ (air : Air). acked ++ unacknowledged air) (sym same) ∙ ap (λ (xs : List (List ℕ)). xs ++ unacknowledged new) (sym (append-nil acked))

air_queued : (mobile : MobileState) (sapi : Sapi) (message : List ℕ) → (after_queue mobile sapi message).zero.air ≡ mobile.zero.air
air_queued mobile sapi message =
    cond_both (is_flow_message message) (after_number mobile message) (with_link mobile sapi (waits (link_of mobile sapi) message))
    (λ (new : MobileState). new.zero.air ≡ mobile.zero.air) (λ _. refl) (λ _. waiting sapi)
  where
    waiting : (sapi : Sapi) → (with_link mobile sapi (waits (link_of mobile sapi) message)).zero.air ≡ mobile.zero.air
    waiting Zero = refl
    waiting Three = refl

air_connected : (mobile : MobileState) (initial : Option (List ℕ)) →
    (unless_refused (refusal_of_connect initial) mobile (after_connect mobile initial)).zero.air ≡ mobile.zero.air
air_connected mobile None = refl
air_connected mobile (Some initial) =
    unless_refused_by (λ new. new.zero.air ≡ mobile.zero.air) (is_initial initial) None mobile (after_connect mobile (Some initial)) refl (λ _. air_queued mobile Zero initial)

lent : (waiting : List (List ℕ)) (air : Air) (taken acked : List (List ℕ)) → AreHeard air taken acked → let link : DataLinkState = record { waiting = waiting; air = air } in AreHeard (after_lending link).air (taken ++ option_to_list (lent_message link)) (acked ++ [])
lent [] Empty taken acked heard = same_air Empty Empty taken acked refl heard
lent (first ∷ others) Empty taken acked heard = ap (λ (xs : List (List ℕ)). xs ++ first ∷ []) (heard ∙ append-nil acked ∙ sym (append-nil acked))
lent waiting (Given x) taken acked heard = ap (λ (xs : List (List ℕ)). xs ++ x ∷ []) heard
lent waiting (Reached x) taken acked heard = same_air (Reached x) (Reached x) taken acked refl heard

heard_frame : (stage : Stage) (place : Place) (mobile : MobileState) (taken acked : List (List ℕ)) →
    AreHeard mobile.zero.air taken acked →
    AreHeard (after_frame_at stage place mobile Zero).zero.air (taken ++ frame_lent (frame_answer_at stage place (lent_message mobile.zero))) (acked ++ [])
heard_frame New place mobile taken acked heard = same_air mobile.zero.air mobile.zero.air taken acked refl heard
heard_frame Connected Moving mobile taken acked heard = same_air mobile.zero.air mobile.zero.air taken acked refl heard
heard_frame Connected OnChannel mobile taken acked heard = lent mobile.zero.waiting mobile.zero.air taken acked heard

air_three : (stage : Stage) (place : Place) (mobile : MobileState) → (after_frame_at stage place mobile Three).zero.air ≡ mobile.zero.air
air_three New place mobile = refl
air_three Connected Moving mobile = refl
air_three Connected OnChannel mobile = refl

freed : (air : Air) (taken acked : List (List ℕ)) →
    AreHeard air taken acked →
    AreHeard (after_ack air) (taken ++ []) (acked ++ cond (is_reached air) (option_to_list (message_in air)) [])
freed Empty taken acked heard = same_air Empty Empty taken acked refl heard
freed (Given x) taken acked heard = same_air (Given x) (Given x) taken acked refl heard
freed (Reached x) taken acked heard = append-nil taken ∙ heard ∙ sym (append-nil (acked ++ x ∷ []))

heard_ack : (place : Place) (mobile : MobileState) (taken acked : List (List ℕ)) →
    AreHeard mobile.zero.air taken acked →
    AreHeard (after_acked_at place mobile Zero).zero.air (taken ++ []) (acked ++ cond (is_on_channel place && is_reached mobile.zero.air) (option_to_list (message_in mobile.zero.air)) [])
heard_ack Moving mobile taken acked heard = same_air mobile.zero.air mobile.zero.air taken acked refl heard
heard_ack OnChannel mobile taken acked heard = freed mobile.zero.air taken acked heard

air_ack_three : (place : Place) (mobile : MobileState) → (after_acked_at place mobile Three).zero.air ≡ mobile.zero.air
air_ack_three Moving mobile = refl
air_ack_three OnChannel mobile = refl

air_refused : (mobile : MobileState) (control : List ℕ) →
    may_arrive mobile control ≡ false →
    (cond (may_arrive mobile control) (after_arrival mobile control) mobile).zero.air ≡ mobile.zero.air
air_refused mobile control not_so = ap (λ (new : MobileState). new.zero.air) (cond-false (may_arrive mobile control) (after_arrival mobile control) mobile not_so)

heard_call : (mobile : MobileState) (taken acked : List (List ℕ)) (call : Call) → begins mobile call ≡ false → AreHeard mobile.zero.air taken acked
    → AreHeard (after_call mobile call).zero.air (taken ++ taken_by_call mobile call) (acked ++ acknowledged_by_call mobile call)
heard_call mobile taken acked (connects initial) doesnt heard =
    same_air mobile.zero.air _ taken acked (unless_connected_by (λ new. new.zero.air ≡ mobile.zero.air) mobile.stage mobile _ refl (air_connected mobile initial)) heard
heard_call mobile taken acked (sends sapi message) doesnt heard =
    same_air mobile.zero.air _ taken acked (unless_refused_by (λ new. new.zero.air ≡ mobile.zero.air) (is_sendable sapi message) (refusal_before_connect mobile.stage) mobile (after_queue mobile sapi message) refl (λ _. air_queued mobile sapi message)) heard
heard_call mobile taken acked (frames Zero) doesnt heard = heard_frame mobile.stage mobile.place mobile taken acked heard
heard_call mobile taken acked (frames Three) doesnt heard = same_air mobile.zero.air _ taken acked (air_three mobile.stage mobile.place mobile) heard
heard_call mobile taken acked (acknowledges Zero) doesnt heard = heard_ack mobile.place mobile taken acked heard
heard_call mobile taken acked (acknowledges Three) doesnt heard = same_air mobile.zero.air _ taken acked (air_ack_three mobile.place mobile) heard
heard_call mobile taken acked leaves doesnt heard = same_air mobile.zero.air _ taken acked refl heard
heard_call mobile taken acked (arrives complete) doesnt heard = same_air mobile.zero.air _ taken acked (air_refused mobile complete doesnt) heard
heard_call mobile taken acked (gives_up failure) doesnt heard = same_air mobile.zero.air _ taken acked (air_refused mobile failure doesnt) heard

-- what is known of a mobile in an establishment
pub record IsHeard (m : ℕ) (before : List (List ℕ)) (mobile : MobileState) (taken acked : List (List ℕ)) : Type 0 where
  pub going : IsGoing m before mobile taken
  pub heard : AreHeard mobile.zero.air taken acked

pub IsHeard-new : (m : ℕ) → IsHeard m [] (new_mobile m) [] []
IsHeard-new m = record { going = IsGoing-new m; heard = refl }

-- ---- a change of channel

-- The sent list from the establishment on: what was acknowledged, the message that wasn't, and the rest.
record IsSplit (m : ℕ) (before sent taken acked unsent : List (List ℕ)) : Type 0 where
  pub confirmed : List (List ℕ)
  pub last : List (List ℕ)
  pub rest : List (List ℕ)
  pub parts : before ++ ((confirmed ++ last) ++ rest) ≡ sent
  pub taken_is : filter is_flow_message taken ≡ with_numbers_from m (length before) (confirmed ++ last)
  pub acked_is : filter is_flow_message acked ≡ with_numbers_from m (length before) confirmed
  pub short : length last ≤ 1
  pub unsent_is : filter is_flow_message unsent ≡ with_numbers_from m (length (before ++ confirmed)) (last ++ rest)

-- what may be sent again, and what can still be taken, is what wasn't acknowledged
outstanding_is : (waiting : List (List ℕ)) (air : Air) →
    option_to_list (message_in air) ++ waiting ≡ unacknowledged air ++ (option_to_list (offered_message air) ++ waiting)
outstanding_is waiting Empty = refl
outstanding_is waiting (Given x) = refl
outstanding_is waiting (Reached x) = refl

-- numbers of at most one message are those of at most one
one_at_most : (m k : ℕ) (air : Air) (zs : List (List ℕ)) →
    filter is_flow_message (unacknowledged air) ≡ with_numbers_from m k zs →
    length zs ≤ 1
one_at_most m k Empty [] is = omega arith
one_at_most m k Empty (z ∷ zs) is = absurd cc
one_at_most m k (Given x) [] is = omega arith
one_at_most m k (Given x) (z ∷ zs) is = absurd cc
one_at_most m k (Reached x) [] is = omega arith
one_at_most m k (Reached x) (z ∷ []) is = omega arith
one_at_most m k (Reached x) (z ∷ y ∷ zs) is =
    elim (cases_Bool (is_flow_message x)) [
      | inl flow ↦ let alone : filter is_flow_message (x ∷ []) ≡ x ∷ [] = cond-true (is_flow_message x) (x ∷ []) [] flow in absurd cc
      | inr apart ↦ let none : filter is_flow_message (x ∷ []) ≡ [] = cond-false (is_flow_message x) (x ∷ []) [] apart in absurd cc
    ]

split_of : (m : ℕ) (before after sent taken acked waiting : List (List ℕ)) (air : Air) → before ++ after ≡ sent → AreHeard air taken acked → filter is_flow_message (taken ++ (option_to_list (offered_message air) ++ waiting)) ≡ with_numbers_from m (length before) after
    → IsSplit m before sent taken acked (option_to_list (message_in air) ++ waiting)
split_of m before after sent taken acked waiting air parts heard numbers =
    let again : List (List ℕ) = unacknowledged air in
    let behind : List (List ℕ) = option_to_list (offered_message air) ++ waiting in
    let whole : filter is_flow_message acked ++ filter is_flow_message (again ++ behind) ≡ with_numbers_from m (length before) after =
    sym (filter-append is_flow_message acked (again ++ behind)) ∙ ap (filter is_flow_message) (sym (append_assoc acked again behind) ∙ ap (λ (xs : List (List ℕ)). xs ++ behind) (sym heard)) ∙ numbers in
    let first = with_numbers_from_split m (length before) after (filter is_flow_message acked) (filter is_flow_message (again ++ behind)) whole in
    let second = with_numbers_from_split m (length before + length first.0) first.1 (filter is_flow_message again) (filter is_flow_message behind)
    (sym (filter-append is_flow_message again behind) ∙ first.4) in
    let front : filter is_flow_message taken ++ filter is_flow_message behind ≡ with_numbers_from m (length before) after = sym (filter-append is_flow_message taken behind) ∙ numbers in
    record {
      confirmed = first.0;
      last = second.0;
      rest = second.1;
      parts =
          ap (λ (xs : List (List ℕ)). before ++ xs) (append_assoc first.0 second.0 second.1 ∙ ap (λ (xs : List (List ℕ)). first.0 ++ xs) second.2 ∙ first.2) ∙ parts;
      taken_is =
          ap (filter is_flow_message) heard ∙ filter-append is_flow_message acked again ∙ ap (λ (xs : List (List ℕ)). xs ++ filter is_flow_message again) first.3
          ∙ ap (λ (xs : List (List ℕ)). with_numbers_from m (length before) first.0 ++ xs) second.3 ∙ sym (with_numbers_from-append m (length before) first.0 second.0);
      acked_is = first.3;
      short = one_at_most m (length before + length first.0) air second.0 second.3;
      unsent_is =
          ap (filter is_flow_message) (outstanding_is waiting air) ∙ first.4 ∙ ap (with_numbers_from m (length before + length first.0)) (sym second.2)
          ∙ ap (λ (n : ℕ). with_numbers_from m n (second.0 ++ second.1)) (sym (length-append before first.0));
    }

arrival_split : (m : ℕ) (before : List (List ℕ)) (mobile : MobileState) (taken acked : List (List ℕ)) →
    IsHeard m before mobile taken acked →
    IsSplit m before mobile.sent taken acked (outstanding_messages mobile.zero)
arrival_split m before mobile taken acked is =
    let numbered = is.going.numbered in
    split_of m before numbered.after mobile.sent taken acked mobile.zero.waiting mobile.zero.air numbered.parts is.heard
    (numbered.numbers ∙ ap (λ (n : ℕ). with_numbers_from n (length before) numbered.after) is.going.modulus)

arrival_heard : (m : ℕ) (before : List (List ℕ)) (mobile : MobileState) (taken acked : List (List ℕ)) (control : List ℕ) → is_control control ≡ true → (is : IsHeard m before mobile taken acked)
    → IsHeard m (before ++ (arrival_split m before mobile taken acked is).confirmed) (after_arrival mobile control) [] []
arrival_heard m before mobile taken acked control one is =
    let split = arrival_split m before mobile taken acked is in
    let apart = is_control_apart control one in
    record {
      going = record {
        numbered = record {
          after = split.last ++ split.rest;
          parts = append_assoc before split.confirmed (split.last ++ split.rest) ∙ ap (λ (xs : List (List ℕ)). before ++ xs) (sym (append_assoc split.confirmed split.last split.rest)) ∙ split.parts;
          numbers =
              cond-false (is_flow_message control) (control ∷ filter is_flow_message (without_control (outstanding_messages mobile.zero))) (filter is_flow_message (without_control (outstanding_messages mobile.zero))) apart
              ∙ without_control-flow (outstanding_messages mobile.zero)
              ∙ split.unsent_is ∙ ap (λ (n : ℕ). with_numbers_from n (length (before ++ split.confirmed)) (split.last ++ split.rest)) (sym is.going.modulus);
          clear = is.going.numbered.clear;
        };
        last = tt;
        modulus = is.going.modulus;
      };
      heard = refl;
    }

-- an establishment, and those behind it
next_of : (m : ℕ) (before sent more taken acked unsent : List (List ℕ)) (others other_acks : List (List (List ℕ))) (split : IsSplit m before sent taken acked unsent) → RepeatsUnacknowledged m (sent ++ more) (length (before ++ split.confirmed)) others other_acks
    → RepeatsUnacknowledged m (sent ++ more) (length before) (taken ∷ others) (acked ∷ other_acks)
next_of m before sent more taken acked unsent others other_acks split rule =
    let a : ℕ = length (before ++ split.confirmed) in
    let e : ℕ = length before + length (split.confirmed ++ split.last) in
    let place : a ≡ length before + length split.confirmed = length-append before split.confirmed in
    let both : length (split.confirmed ++ split.last) ≡ length split.confirmed + length split.last = length-append split.confirmed split.last in
    let short : length split.last ≤ 1 = split.short in
    let regrouped : before ++ (split.confirmed ++ (split.last ++ split.rest)) ≡ sent = ap (λ (xs : List (List ℕ)). before ++ xs) (sym (append_assoc split.confirmed split.last split.rest)) ∙ split.parts in
    next {e = e}
    (is_slice_grow m sent more (length before) e taken (is_slice_of_parts m sent before (split.confirmed ++ split.last) split.rest taken e split.parts split.taken_is refl))
    (is_slice_grow m sent more (length before) a acked (is_slice_of_parts m sent before split.confirmed (split.last ++ split.rest) acked a regrouped split.acked_is place))
    (omega (arith, place, both)) (omega (arith, place, both, short)) rule

-- from an establishment on
pub repeats_calls : (m : ℕ) (before : List (List ℕ)) (mobile : MobileState) (taken acked : List (List ℕ)) (calls : List Call) → IsHeard m before mobile taken acked
    → RepeatsUnacknowledged m (after_calls mobile calls).sent (length before) (establishments mobile taken calls) (acknowledgements mobile acked calls)
repeats_calls m before mobile taken acked [] is =
    let split = arrival_split m before mobile taken acked is in
    subst (λ (xs : List (List ℕ)). RepeatsUnacknowledged m xs (length before) (taken ∷ []) (acked ∷ [])) (append-nil mobile.sent)
    (next_of m before mobile.sent [] taken acked _ [] [] split (over (length (before ++ split.confirmed))))
repeats_calls m before mobile taken acked (call ∷ calls) is =
    let sent : List (List ℕ) = (after_calls mobile (call ∷ calls)).sent in
    let list : Bool → List (List (List ℕ)) = λ b. cond b (taken ∷ establishments (after_call mobile call) [] calls) (establishments (after_call mobile call) (taken ++ taken_by_call mobile call) calls) in
    let acks : Bool → List (List (List ℕ)) = λ b. cond b (acked ∷ acknowledgements (after_call mobile call) [] calls) (acknowledgements (after_call mobile call) (acked ++ acknowledged_by_call mobile call) calls) in
    elim (cases_Bool (begins mobile call)) [
      | inl does ↦
          let arrival = is_arrival_begins mobile call does in
          let split = arrival_split m before mobile taken acked is in
          let fresh : IsHeard m (before ++ split.confirmed) (after_call mobile call) [] [] =
          subst (λ (new : MobileState). IsHeard m (before ++ split.confirmed) new [] []) (sym arrival.arrived) (arrival_heard m before mobile taken acked arrival.control arrival.is_one is) in
          let later = repeats_calls m (before ++ split.confirmed) (after_call mobile call) [] [] calls fresh in
          let kept = is_kept_then (is_kept_call mobile call) (IsKept-calls (after_call mobile call) calls) in
          subst (λ (b : Bool). RepeatsUnacknowledged m sent (length before) (list b) (acks b)) (sym does)
          (subst (λ (xs : List (List ℕ)). RepeatsUnacknowledged m xs (length before) (taken ∷ establishments (after_call mobile call) [] calls) (acked ∷ acknowledgements (after_call mobile call) [] calls)) (sym kept.sent)
          (next_of m before mobile.sent kept.more taken acked _ _ _ split
          (subst (λ (xs : List (List ℕ)). RepeatsUnacknowledged m xs (length (before ++ split.confirmed)) (establishments (after_call mobile call) [] calls) (acknowledgements (after_call mobile call) [] calls)) kept.sent later)))
      | inr doesnt ↦
          subst (λ (b : Bool). RepeatsUnacknowledged m sent (length before) (list b) (acks b)) (sym doesnt)
          (repeats_calls m before (after_call mobile call) (taken ++ taken_by_call mobile call) (acked ++ acknowledged_by_call mobile call) calls
          (record { going = is_going_call m before mobile taken call doesnt is.going; heard = heard_call mobile taken acked call doesnt is.heard }))
    ]
