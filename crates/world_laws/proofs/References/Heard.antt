-- SPDX-License-Identifier: MIT OR Apache-2.0
-- What the switch takes and what it never hears of, given that the names agree.
use Rattle.world_laws.proofs.Prelude.{◌≡◌, ◌⊎◌, ℕ, ◌+◌, ◌≤◌, ◌<◌, ◌^◌, ◌==◌, Bool, true, if◌then◌else◌, List, [], ◌∷◌, ◌++◌, map, unwrap_or}
use Rattle.world_laws.proofs.Prelude.{Option, Some, None, refl, sym, ap, ◌∙◌, subst, arith, inl, inr, AllByRecursion, cases_Bool, eqb-true}
use Rattle.world_laws.proofs.Prelude.{eqb-false, map-append, Out, SWITCH_LINK, Due, WasAsked, Complete, State, WaitActivation}
use Rattle.world_laws.proofs.Prelude.{WaitEstablish, WaitConfirm, Live, Closed, Removed, Connection, connection_of, Forwarded}
use Rattle.world_laws.proofs.Prelude.{REFERENCE_BASE, AreAllowed, Parameters, Event, SwitchTakes, OutboxEntry, actors_after, sccp_in}
use Rattle.world_laws.proofs.Prelude.{switch_took, switch_took_first, Actors, is_up, outbox_of, with_outbox, both_empty, none-some}
use Rattle.world_laws.proofs.Prelude.{IsBeyondAsking, IsUnconfirmed, IsUnknownForGood, TookOctets, DeliversFirst, carried_for, is_unasked}
use Rattle.world_laws.proofs.Prelude.{is_asking, is_unheard, is_known, DroppedAreUnknown, HasNotAsked, IsEarlyIn, IsUnknownToSwitch}
use Rattle.world_laws.proofs.Prelude.{SwitchDeliversOrRefuses, UnaskedAreUnknown, UnknownRemainUnknown}
use Rattle.controller_model.specs.Views.{forwarded}
use Rattle.controller_model.specs.declared.step.Step.TheVariants as steps
use Rattle.world_model.specs.Life.{event_after}
use Rattle.world_laws.proofs.SwitchTakes.{forwarded-first}
use Rattle.world_laws.specs.References.Agree.{Agrees, AsksOnce, HasAsked, IsAsked, IsHeeded, IsRight, IsUnknown, Knows, NamesAgree, reads}
use Rattle.world_laws.specs.References.Agree.{reads_of}
use Rattle.world_laws.specs.References.Naming.{Reach, early, waits, due, named, cleared, gone, reach_in, reach_of}
use Rattle.world_laws.specs.References.Reads.{AreNothing, Read, asks, carried, nothing}
use Rattle.world_laws.proofs.References.Always.{Before, names_always_agree_new, before_of, keeps}
use Rattle.world_laws.proofs.References.FirstTaken.{IsFirst, delivers_or, first-other, first-own, names_after}
use Rattle.world_laws.proofs.References.Places.{first_at_find}
use Rattle.world_laws.proofs.References.Right.{other_carries}
use Rattle.world_laws.proofs.References.Stepping.{none_beyond}
use Rattle.world_laws.proofs.SwitchTook.{waiting_in}
use Rattle.world_laws.proofs.References.Taking.{nothing_heeded}
use Rattle.world_laws.proofs.Events.{world}

-- ---- what waits for the switch, as it will read it

waiting_first : (first : OutboxEntry) (others : List OutboxEntry) (n : ℕ) →
    waiting_in (first ∷ others) n ≡ carried_for n first.out ++ waiting_in others n
waiting_first first others n =
    ap (λ (fs : List Forwarded). map (λ f. f.message) fs) (forwarded-first first.out (map (λ entry. entry.out) others) n)
    ∙ map-append (λ (f : Forwarded). f.message) (forwarded (first.out ∷ []) n) (forwarded (map (λ entry. entry.out) others) n)

own_carries : (n : ℕ) (out : Out) → 1 ≤ n → out.conn ≡ n → IsRight out → IsHeeded (reads out) → carried_for n out ≡ carried (reads out)
own_carries n out from_one is right heeded = subst (λ (x : ℕ). 1 ≤ x → IsHeeded (reads out) → carried_for x out ≡ carried (reads out)) is right.carries_as_read from_one heeded

no_message_waits : (n : ℕ) (entries : List OutboxEntry) →
    1 ≤ n →
    AllByRecursion (λ entry. IsRight entry.out) entries →
    AreNothing (reads_of n entries) →
    waiting_in entries n ≡ []
unfolding forwarded
no_message_waits n [] from_one rights quiet = refl
no_message_waits n (first ∷ others) from_one rights quiet = waiting_first first others n ∙ by (no_message_waits n others from_one rights.1) where
  by : (AreNothing (reads_of n others) → waiting_in others n ≡ []) → carried_for n first.out ++ waiting_in others n ≡ []
  by rest = elim (cases_Bool (first.out.conn == n)) [
    | inl hit ↦
        let is : first.out.conn ≡ n = eqb-true first.out.conn n hit in
        let all = subst AreNothing (first-own n first others is) quiet in
        let none = nothing_heeded (reads first.out) all.0 in
        ap (λ (xs : List (List ℕ)). xs ++ waiting_in others n) (own_carries n first.out from_one is rights.0 none.0 ∙ none.1) ∙ rest all.1
    | inr miss ↦
        ap (λ (xs : List (List ℕ)). xs ++ waiting_in others n) (other_carries n first.out (eqb-false first.out.conn n miss)) ∙ rest (subst AreNothing (first-other n first others (eqb-false first.out.conn n miss)) quiet)
  ]

-- CR carries something
asks_carry : (n : ℕ) (r : Read) (rest : List Read) → AsksOnce n (r ∷ rest) → IsHeeded r × ((carried r ≡ [] → ⊥) ⊎ AsksOnce n rest)
asks_carry n nothing rest once = (tt, inr once)
asks_carry n (asks source initial) rest once = (tt, inl (λ is. absurd cc))
asks_carry n _ rest once = absurd once

asks_waits : (n : ℕ) (entries : List OutboxEntry) →
    1 ≤ n →
    AllByRecursion (λ entry. IsRight entry.out) entries →
    AsksOnce n (reads_of n entries) →
    waiting_in entries n ≡ [] →
    ⊥
asks_waits n [] from_one rights once none = once
asks_waits n (first ∷ others) from_one rights once none = by (asks_waits n others from_one rights.1) (both_empty (carried_for n first.out) (waiting_in others n) (sym (sym (waiting_first first others n) ∙ none))) where
  by : (AsksOnce n (reads_of n others) → waiting_in others n ≡ [] → ⊥) → (carried_for n first.out ≡ []) × (waiting_in others n ≡ []) → ⊥
  by rest empty = elim (cases_Bool (first.out.conn == n)) [
    | inl hit ↦
        let is : first.out.conn ≡ n = eqb-true first.out.conn n hit in
        let one = asks_carry n (reads first.out) (reads_of n others) (subst (AsksOnce n) (first-own n first others is) once) in
        elim one.1 [
          | inl some ↦ some (sym (own_carries n first.out from_one is rights.0 one.0) ∙ empty.0)
          | inr later ↦ rest later empty.1
        ]
    | inr miss ↦ rest (subst (AsksOnce n) (first-other n first others (eqb-false first.out.conn n miss)) once) empty.1
  ]

-- ---- the switch never hears of it

unconfirmed : (o : Option Connection) → IsAsked (reach_of o) → IsUnconfirmed o
unconfirmed None asked = tt
unconfirmed (Some s) asked = by s.state asked where
  by : (state : State) → IsAsked (reach_in state) → IsBeyondAsking state
  by WaitActivation asked = absurd asked
  by WaitEstablish asked = absurd asked
  by (Live reference stage) asked = absurd asked
  by _ asked = tt

early_confirmed : (o : Option Connection) → reach_of o ≡ early → IsUnconfirmed o → ⊥
early_confirmed None is un = absurd cc
early_confirmed (Some s) is un = by s.state is un where
  by : (state : State) → reach_in state ≡ early → IsBeyondAsking state → ⊥
  by WaitActivation is un = un
  by WaitEstablish is un = un
  by WaitConfirm is un = absurd cc
  by (Live reference stage) is un = un
  by (Closed (Due cause)) is un = absurd cc
  by (Closed (WasAsked reference)) is un = absurd cc
  by (Closed Complete) is un = absurd cc
  by Removed is un = absurd cc

unheard_of : (w : Actors) (n : ℕ) → 1 ≤ n → NamesAgree w → IsUnknown w n → IsUnknownToSwitch w n
unheard_of w n from_one agree unknown = record { none_taken = unknown.none; none_waits = no_message_waits n (outbox_of w SWITCH_LINK) from_one agree.right unknown.quiet }

to_unheard : (w : Actors) (n : ℕ) → 1 ≤ n → NamesAgree w → HasAsked w n × IsUnknown w n → IsUnknownForGood w n
to_unheard w n from_one agree has =
    let of = unheard_of w n from_one agree has.1 in
    record { past = has.0.past; none_taken = of.none_taken; none_waits = of.none_waits; unconfirmed = unconfirmed (connection_of w.controller n) has.0.asked }

from_unheard : (w : Actors) (n : ℕ) → 1 ≤ n → NamesAgree w → IsUnknownForGood w n → HasAsked w n × IsUnknown w n
from_unheard w n from_one agree unknown_for_good = by (agree.each n from_one) where
  beyond : w.controller.next_number ≤ n → n < w.controller.next_number → ⊥
  beyond more less = omega (arith, more, less)

  by : Agrees w n → HasAsked w n × IsUnknown w n
  by (is_unasked (inl more) unknown) = absurd (beyond more unknown_for_good.past)
  by (is_unasked (inr has) unknown) = absurd (early_confirmed (connection_of w.controller n) has.1 unknown_for_good.unconfirmed)
  by (is_asking has way) = absurd (asks_waits n (outbox_of w SWITCH_LINK) from_one agree.right way.once unknown_for_good.none_waits)
  by (is_unheard has unknown) = (has, unknown)
  by (is_known past known) = absurd (none-some known.of (sym unknown_for_good.none_taken ∙ (first_at_find n known.place known.of w.switch.connections known.first_at)))

-- ---- the laws

names_of : (settings : Parameters) (events : List Event) →
    AreAllowed settings →
    TookOctets settings events →
    NamesAgree (world settings events)
names_of settings events allowed octets = names_always_agree_new settings events allowed octets

pub unknown_remain_unknown_new : (settings : Parameters) (events : List Event) (event : Event) → UnknownRemainUnknown settings events event
unknown_remain_unknown_new settings events event n allowed octets own from_one unknown_for_good =
    let w : Actors = world settings events in
    let agree : NamesAgree w = names_of settings events allowed octets in
    let kept = keeps w event (before_of settings events w event refl allowed octets own agree) in
    let has = from_unheard w n from_one agree unknown_for_good in
    to_unheard (actors_after w event) n from_one (kept.names agree) (kept.remains_unknown n from_one has.0 has.1)

early_in : (state : State) → IsEarlyIn state → reach_in state ≡ early
early_in WaitActivation is = refl
early_in WaitEstablish is = refl
early_in _ is = absurd is

reach_early : (w : Actors) (n : ℕ) → HasNotAsked w n → reach_of (connection_of w.controller n) ≡ early
reach_early w n has = ap reach_of has.there ∙ early_in has.own.state has.is_early

early_asked : (a : Reach) → a ≡ early → IsAsked a → ⊥
early_asked early is asked = asked
early_asked waits is asked = absurd cc
early_asked due is asked = absurd cc
early_asked gone is asked = absurd cc
early_asked cleared is asked = asked
early_asked (named k) is asked = asked

-- one that didn't ask
not_asked : (w : Actors) (n : ℕ) → Agrees w n → reach_of (connection_of w.controller n) ≡ early → IsUnknown w n
not_asked w n (is_unasked un unknown) is = unknown
not_asked w n (is_asking has way) is = absurd (early_asked (reach_of (connection_of w.controller n)) is has.asked)
not_asked w n (is_unheard has unknown) is = unknown
not_asked w n (is_known past known) is = absurd (subst (Knows (REFERENCE_BASE + (known.place + 1)) known.last) is known.knows)

not_there : (w : Actors) (n : ℕ) → Agrees w n → w.controller.next_number ≤ n → IsUnknown w n
not_there w n (is_unasked un unknown) more = unknown
not_there w n (is_asking has way) more = absurd (let less = has.past in omega (arith, more, less))
not_there w n (is_unheard has unknown) more = unknown
not_there w n (is_known less known) more = absurd (omega (arith, more, less))

-- one that is there
past_now : (w : Actors) (n : ℕ) →
    Agrees w n →
    (w.controller.next_number ≤ n → reach_of (connection_of w.controller n) ≡ gone) →
    reach_of (connection_of w.controller n) ≡ early →
    n < w.controller.next_number
past_now w n (is_unasked (inl more) unknown) none is = absurd (gone_early (sym (none more) ∙ is)) where
  gone_early : gone ≡ early → ⊥
  gone_early is = absurd cc
past_now w n (is_unasked (inr has) unknown) none is = has.0
past_now w n (is_asking has way) none is = has.past
past_now w n (is_unheard has unknown) none is = has.past
past_now w n (is_known past known) none is = past

pub unasked_are_unheard_of_new : (settings : Parameters) (events : List Event) → UnaskedAreUnknown settings events
unasked_are_unheard_of_new settings events n allowed octets from_one (inl more) =
    let w : Actors = world settings events in
    let agree : NamesAgree w = names_of settings events allowed octets in
    unheard_of w n from_one agree (not_there w n (agree.each n from_one) more)
unasked_are_unheard_of_new settings events n allowed octets from_one (inr has) =
    let w : Actors = world settings events in
    let agree : NamesAgree w = names_of settings events allowed octets in
    unheard_of w n from_one agree (not_asked w n (agree.each n from_one) (reach_early w n has))

pub dropped_are_unheard_new : (settings : Parameters) (events : List Event) (event : Event) → DroppedAreUnknown settings events event
dropped_are_unheard_new settings events event n allowed octets own from_one has closed =
    let w : Actors = world settings events in
    let agree : NamesAgree w = names_of settings events allowed octets in
    let before : Before w event = before_of settings events w event refl allowed octets own agree in
    let kept = keeps w event before in
    let is = reach_early w n has in
    to_unheard (actors_after w event) n from_one (kept.names agree) (kept.dropped n from_one (record { past = past_now w n (agree.each n from_one) (λ more. ap reach_of (none_beyond w.controller n (before.laws (steps.Tick 0) tt).numbered more)) is; is_early = is; unknown = not_asked w n (agree.each n from_one) is }) closed)

-- the switch takes
taken_is : (w : Actors) (first : OutboxEntry) (others : List OutboxEntry) →
    is_up w SWITCH_LINK ≡ true →
    outbox_of w SWITCH_LINK ≡ first ∷ others →
    actors_after w SwitchTakes ≡ switch_took (sccp_in first.out.frame) (with_outbox SWITCH_LINK others w)
unfolding event_after
taken_is w first others up pending =
    ap (λ (b : Bool). unwrap_or (if b then switch_took_first (outbox_of w SWITCH_LINK) w else None) w) up ∙ ap (λ (entries : List OutboxEntry). unwrap_or (switch_took_first entries w) w) pending

delivers_first : (w : Actors) (n : ℕ) (entries : List OutboxEntry) →
    1 ≤ n →
    NamesAgree w →
    w.controller.next_number ≤ 2 ^ 24 →
    is_up w SWITCH_LINK ≡ true →
    outbox_of w SWITCH_LINK ≡ entries →
    DeliversFirst w n entries ⊎ IsUnknownForGood (actors_after w SwitchTakes) n
delivers_first w n [] from_one agree few up pending = inl tt
delivers_first w n (first ∷ others) from_one agree few up pending =
    let h : IsFirst w first others = record { agree = agree; few = few; up = up; pending = pending } in
    elim (delivers_or w first others h n from_one) [
      | inl all ↦ inl all
      | inr never ↦ inr (subst (λ (v : Actors). IsUnknownForGood v n) (sym (taken_is w first others up pending)) (to_unheard (switch_took (sccp_in first.out.frame) (with_outbox SWITCH_LINK others w)) n from_one (names_after w first others h) never))
    ]

pub switch_delivers_or_refuses_new : (settings : Parameters) (events : List Event) → SwitchDeliversOrRefuses settings events
switch_delivers_or_refuses_new settings events n allowed octets from_one up =
    let w : Actors = world settings events in
    let agree : NamesAgree w = names_of settings events allowed octets in
    let h : Before w SwitchTakes = before_of settings events w SwitchTakes refl allowed octets tt agree in
    delivers_first w n (outbox_of w SWITCH_LINK) from_one agree h.few up refl
