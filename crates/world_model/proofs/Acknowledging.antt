-- SPDX-License-Identifier: MIT OR Apache-2.0
-- The acknowledgements that a station makes for the entries that it takes.
use Rattle.world_model.proofs.Prelude.{◌≡◌, ℕ, ◌-◌, ◌<◌, ◌==◌, ◌&&◌, ◌||◌, not, nat_eq, Bool, true, false, cond, if◌then◌else◌, List, []}
use Rattle.world_model.proofs.Prelude.{◌∷◌, ◌++◌, length, Option, Some, None, refl, sym, ap, ◌∙◌, subst, inl, inr, cases_Bool, eqb-true}
use Rattle.world_model.proofs.Prelude.{append-nil, length-set, filter-append, place_at, rr_reading, Busy, BaseState, activation_ack}
use Rattle.world_model.proofs.Prelude.{is_active, after_activate, after_release, after_tell, is_bound_of, Activation, Rsl, DataRequest}
use Rattle.world_model.proofs.Prelude.{EstablishRequest, ImmediateAssignCommand, ChannelActivation, RfChannelRelease, RfChannelReleaseAck}
use Rattle.world_model.proofs.Prelude.{filter, or-false, get_or-set_same, is_active-push, is_active-released, is_active-kept, MAX_TENURE}
use Rattle.world_model.proofs.Prelude.{Tenure, acknowledgements, acknowledgement, is_active_then, activated_unless, activated, mobile_on}
use Rattle.world_model.proofs.Prelude.{accepts, link_answer, answered, released, took, Actors, Station, no_station, base_of, with_base}
use Rattle.world_model.proofs.Prelude.{spot_at, with_spot, is_active_at, tenure_at, station_of}
use Rattle.world_model.proofs.Honesty.{base_with_spot}
use Rattle.world_model.proofs.Leads.{OfTaken, Seats, unless_last_leads, assigned-leads}

-- in a list with one more message
pub acks_tell : (k : ℕ) (base : BaseState) (message : Rsl) →
    is_bound_of k message ≡ false →
    acknowledgements k (after_tell base message).messages ≡ acknowledgements k base.messages
acks_tell k base message free =
    filter-append (is_bound_of k) base.messages (message ∷ [])
    ∙ ap (λ (b : Bool). acknowledgements k base.messages ++ cond b (message ∷ []) []) free
    ∙ append-nil (acknowledgements k base.messages)

-- what an end is after it took a message
pub record Answers (k : ℕ) (before after : BaseState) (o : Option Rsl) : Type 0 where
  pub acks : acknowledgements k after.messages ≡ acknowledgements k before.messages ++ acknowledgement k (is_active before.active k) o
  pub active : is_active after.active k ≡ is_active_then k (is_active before.active k) o

-- one that asks for no acknowledgement
answers_nothing : (k : ℕ) (before after : BaseState) (o : Option Rsl) →
    acknowledgement k (is_active before.active k) o ≡ [] →
    is_active_then k (is_active before.active k) o ≡ is_active before.active k →
    acknowledgements k after.messages ≡ acknowledgements k before.messages →
    after.active ≡ before.active →
    Answers k before after o
answers_nothing k before after o none still same active = record {
  acks = same ∙ sym (append-nil (acknowledgements k before.messages)) ∙ ap (λ (ms : List Rsl). acknowledgements k before.messages ++ ms) (sym none);
  active = ap (λ (xs : List ℕ). is_active xs k) active ∙ sym still;
}

-- ---- an activation

activation_busy : (k channel : ℕ) (base : BaseState) (o : Option Rsl) (a : Activation) →
    o ≡ Some (ChannelActivation a) →
    a.channel ≡ channel →
    is_active base.active channel ≡ true →
    Answers k base base (Some (ChannelActivation a))
activation_busy k channel base o a is names busy =
    elim (cases_Bool (nat_eq a.channel k)) [
      | inl same ↦
          let on : is_active base.active k ≡ true = ap (is_active base.active) (sym (eqb-true a.channel k same) ∙ names) ∙ busy in
          answers_nothing k base base (Some (ChannelActivation a))
          (ap (λ (b : Bool). if (nat_eq a.channel k) && not b then activation_ack k ∷ [] else []) on ∙ ap (λ (b : Bool). if b && false then activation_ack k ∷ [] else []) same)
          (ap (λ (b : Bool). b || nat_eq a.channel k) on ∙ sym on) refl refl
      | inr other ↦
          answers_nothing k base base (Some (ChannelActivation a))
          (ap (λ (b : Bool). if b && not (is_active base.active k) then activation_ack k ∷ [] else []) other)
          (ap (λ (b : Bool). is_active base.active k || b) other ∙ or-false (is_active base.active k)) refl refl
    ]

activation_done : (k : ℕ) (base : BaseState) (a : Activation) →
    is_active base.active a.channel ≡ false →
    Answers k base (after_activate base a.channel) (Some (ChannelActivation a))
activation_done k base a idle = record {
  acks = filter-append (is_bound_of k) base.messages (activation_ack a.channel ∷ []) ∙ ap (λ (ms : List Rsl). acknowledgements k base.messages ++ ms) (by_channel (nat_eq a.channel k) refl);
  active = is_active-push base.active a.channel k ∙ ap (λ (b : Bool). is_active base.active k || b) (or-false (nat_eq a.channel k));
} where
  by_channel : (b : Bool) →
      nat_eq a.channel k ≡ b →
      cond (nat_eq a.channel k) (activation_ack a.channel ∷ []) [] ≡ (if (nat_eq a.channel k) && not (is_active base.active k) then activation_ack k ∷ [] else [])
  by_channel true same =
      let off : is_active base.active k ≡ false = ap (is_active base.active) (sym (eqb-true a.channel k same)) ∙ idle in
      ap (λ (b : Bool). cond b (activation_ack a.channel ∷ []) []) same
      ∙ ap (λ (n : ℕ). activation_ack n ∷ []) (eqb-true a.channel k same)
      ∙ sym (ap (λ (b : Bool). if (nat_eq a.channel k) && not b then activation_ack k ∷ [] else []) off ∙ ap (λ (b : Bool). if b && true then activation_ack k ∷ [] else []) same)
  by_channel false other =
      ap (λ (b : Bool). cond b (activation_ack a.channel ∷ []) []) other
      ∙ sym (ap (λ (b : Bool). if b && not (is_active base.active k) then activation_ack k ∷ [] else []) other)

-- ---- a release

release_done : (k number : ℕ) (base : BaseState) → Answers k base (after_release base number) (Some (RfChannelRelease number))
release_done k number base = record {
  acks = filter-append (is_bound_of k) base.messages (RfChannelReleaseAck number ∷ []) ∙ ap (λ (ms : List Rsl). acknowledgements k base.messages ++ ms) (by_channel (nat_eq number k) refl);
  active = by_active (nat_eq number k) refl;
} where
  by_channel : (b : Bool) →
      nat_eq number k ≡ b →
      cond (nat_eq number k) (RfChannelReleaseAck number ∷ []) [] ≡ (if nat_eq number k then RfChannelReleaseAck k ∷ [] else [])
  by_channel true same = ap (λ (n : ℕ). cond (nat_eq number k) (RfChannelReleaseAck n ∷ []) []) (eqb-true number k same)
  by_channel false other = ap (λ (b : Bool). cond b (RfChannelReleaseAck number ∷ []) []) other ∙ sym (ap (λ (b : Bool). if b then RfChannelReleaseAck k ∷ [] else []) other)

  by_active : (b : Bool) →
      nat_eq number k ≡ b →
      is_active (filter (λ n. not (nat_eq n number)) base.active) k ≡ not (nat_eq number k) && is_active base.active k
  by_active true same =
      ap (λ (c : ℕ). is_active (filter (λ n. not (nat_eq n c)) base.active) k) (eqb-true number k same)
      ∙ is_active-released k base.active
      ∙ sym (ap (λ (b : Bool). not b && is_active base.active k) same)
  by_active false other = is_active-kept k number base.active other ∙ sym (ap (λ (b : Bool). not b && is_active base.active k) other)

-- ---- each message

base-own : (w : Actors) (n : ℕ) (base : BaseState) → n - 1 < length w.stations → base_of (with_base n base w) n ≡ base
base-own w n base there = ap (λ (s : Station). s.base) (get_or-set_same w.stations (n - 1) (record (station_of w n) { base = base }) no_station there)

unfoldable pub AnswersAt : ℕ → ℕ → Actors → Option Rsl → Actors → Type 0
AnswersAt n k u o v = Answers k (base_of u n) (base_of v n) o

nothing_at : (n k : ℕ) (u : Actors) (o : Option Rsl) (v : Actors) →
    acknowledgement k (is_active (base_of u n).active k) o ≡ [] →
    is_active_then k (is_active (base_of u n).active k) o ≡ is_active (base_of u n).active k →
    base_of v n ≡ base_of u n →
    AnswersAt n k u o v
unfolding AnswersAt
nothing_at n k u o v none still same = answers_nothing k (base_of u n) (base_of v n) o none still (ap (λ (b : BaseState). acknowledgements k b.messages) same) (ap (λ (b : BaseState). b.active) same)

activated_answers : (n k : ℕ) (u : Actors) (a : Activation) →
    n - 1 < length u.stations →
    AnswersAt n k u (Some (ChannelActivation a)) (activated (place_at n a.channel) u)
unfolding AnswersAt
activated_answers n k u a there = by_activity (is_active (base_of u n).active a.channel) refl where
  by_activity : (b : Bool) →
      is_active (base_of u n).active a.channel ≡ b →
      Answers k (base_of u n) (base_of (activated_unless (if b then Some Busy else None) (place_at n a.channel) u) n) (Some (ChannelActivation a))
  by_activity true busy = activation_busy k a.channel (base_of u n) (Some (ChannelActivation a)) a refl refl busy
  by_activity false idle =
      subst (λ (b : BaseState). Answers k (base_of u n) b (Some (ChannelActivation a)))
      (sym (base_with_spot (place_at n a.channel) _ (with_base n (after_activate (base_of u n) a.channel) u) n ∙ base-own u n (after_activate (base_of u n) a.channel) there))
      (activation_done k (base_of u n) a idle)

released_answers : (n k number : ℕ) (u : Actors) →
    n - 1 < length u.stations →
    AnswersAt n k u (Some (RfChannelRelease number)) (released (place_at n number) u)
unfolding AnswersAt
released_answers n k number u there =
    subst (λ (b : BaseState). Answers k (base_of u n) b (Some (RfChannelRelease number)))
    (sym (base_with_spot (place_at n number) _ (with_base n (after_release (base_of u n) number) u) n ∙ base-own u n (after_release (base_of u n) number) there))
    (release_done k number (base_of u n))

answer-free : (k : ℕ) (answer : Bool) (channel : ℕ) → is_bound_of k (link_answer answer channel) ≡ false
answer-free k true channel = refl
answer-free k false channel = refl

answered_answers : (n k channel : ℕ) (answer : Bool) (u : Actors) (o : Option Rsl) →
    acknowledgement k (is_active (base_of u n).active k) o ≡ [] →
    is_active_then k (is_active (base_of u n).active k) o ≡ is_active (base_of u n).active k →
    n - 1 < length u.stations →
    AnswersAt n k u o (answered answer (place_at n channel) u)
unfolding AnswersAt
answered_answers n k channel answer u o none still there =
    let middle : Actors = with_spot (place_at n channel) (record (spot_at u (place_at n channel)) { sapi_three_up = answer }) u in
    let is : base_of (answered answer (place_at n channel) u) n ≡ after_tell (base_of u n) (link_answer answer channel) =
    base-own middle n (after_tell (base_of middle n) (link_answer answer channel)) (subst (λ (l : ℕ). n - 1 < l) (sym (length-set u.stations (n - 1) _)) there)
    ∙ ap (λ (b : BaseState). after_tell b (link_answer answer channel)) (base_with_spot (place_at n channel) _ u n) in
    subst (λ (b : BaseState). Answers k (base_of u n) b o) (sym is)
    (answers_nothing k (base_of u n) (after_tell (base_of u n) (link_answer answer channel)) o none still (acks_tell k (base_of u n) (link_answer answer channel) (answer-free k answer channel)) refl)

pub took_answers : (n k : ℕ) (target : Option Tenure) (o : Option Rsl) (u : Actors) →
    n - 1 < length u.stations →
    OfTaken (AnswersAt n k u o) (took n target o u)
unfolding OfTaken Seats
took_answers n k target None u there = nothing_at n k u None u refl refl refl
took_answers n k target (Some (ChannelActivation a)) u there =
    unless_last_leads (AnswersAt n k u (Some (ChannelActivation a))) ((spot_at u (place_at n a.channel)).tenure == MAX_TENURE) (activated (place_at n a.channel) u) (activated_answers n k u a there)
took_answers n k target (Some (ImmediateAssignCommand i)) u there =
    assigned-leads (AnswersAt n k u (Some (ImmediateAssignCommand i))) n u (rr_reading i.information)
    (nothing_at n k u (Some (ImmediateAssignCommand i)) u refl refl refl)
    (λ p number channel _ _. nothing_at n k u (Some (ImmediateAssignCommand i)) _ refl refl refl)
took_answers n k target (Some (DataRequest d)) u there = by_activity (is_active_at u (place_at n d.channel)) where
  by_activity : (b : Bool) →
      AnswersAt n k u (Some (DataRequest d)) (if b then with_spot (place_at n d.channel) (record (spot_at u (place_at n d.channel)) { air = (spot_at u (place_at n d.channel)).air ++ record { message = d.l3; target = target } ∷ [] }) u else u)
  by_activity true = nothing_at n k u (Some (DataRequest d)) _ refl refl (base_with_spot (place_at n d.channel) _ u n)
  by_activity false = nothing_at n k u (Some (DataRequest d)) u refl refl refl
took_answers n k target (Some (EstablishRequest l)) u there =
    answered_answers n k l.channel (is_active_at u (place_at n l.channel) && accepts (mobile_on u (tenure_at u (place_at n l.channel)))) u (Some (EstablishRequest l)) refl refl there
took_answers n k target (Some (RfChannelRelease number)) u there = released_answers n k number u there
took_answers n k target (Some _) u there = nothing_at n k u _ u refl refl refl
