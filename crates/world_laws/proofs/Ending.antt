-- SPDX-License-Identifier: MIT OR Apache-2.0
-- A connection that closed or was removed remains in order, whatever happens.
use Rattle.world_laws.proofs.Prelude.{◌≡◌, ℕ, List, [], ◌∷◌, ◌++◌, map, refl, sym, ap, ◌∙◌, subst, append_assoc, AllByRecursion, append-nil}
use Rattle.world_laws.proofs.Prelude.{map-append, Out, SWITCH_LINK, Connection, Forwarded, Rise, Parameters, Event, OutboxEntry}
use Rattle.world_laws.proofs.Prelude.{actors_after, put, taken, Actors, Link, modulus_in, outbox_of, breaks, flow, EndedAreInOrder}
use Rattle.world_laws.proofs.Prelude.{EndedRemainInOrder, LineUpsMayEnd, PutsNoMore, taken_of, waiting_of, carried_for}
use Rattle.controller_model.specs.Views.{forwarded}
use Rattle.world_laws.specs.LineUp.Order.{Ended}
use Rattle.world_laws.proofs.LineUp.Lines.{flow-append}
use Rattle.world_laws.proofs.LineUp.Ordering.{ended_alive, ended_loses, ended_sends, is_in_order_rise}
use Rattle.world_model.proofs.Outboxes.{Step, step}
use Rattle.world_model.proofs.Outboxes.Step.{kept_order}
use Rattle.world_laws.proofs.Others.{forwarded-append}
use Rattle.world_laws.proofs.SentGrows.{HasSent, sent_grows}
use Rattle.world_laws.proofs.SwitchTook.{switch_remains, waiting_in}
use Rattle.world_laws.proofs.Events.{world}

-- ---- it ends

pub line_ups_may_end_new : (m : ℕ) (w : Actors) (mobile : ℕ) (s : Connection) → LineUpsMayEnd m w mobile s
line_ups_may_end_new m w mobile s lined = record { one = lined.one; found = lined.found; in_order = ended_alive lined.lined.alive }

-- ---- what waits for the switch

waiting_append : (entries more : List OutboxEntry) (number : ℕ) →
    waiting_in (entries ++ more) number ≡ waiting_in entries number ++ waiting_in more number
waiting_append entries more number =
    ap (λ (outs : List Out). map (λ f. f.message) (forwarded outs number)) (map-append (λ (entry : OutboxEntry). entry.out) entries more)
    ∙ ap (λ (fs : List Forwarded). map (λ f. f.message) fs) (forwarded-append (map (λ entry. entry.out) entries) (map (λ entry. entry.out) more) number)
    ∙ map-append (λ (f : Forwarded). f.message) (forwarded (map (λ entry. entry.out) entries) number) (forwarded (map (λ entry. entry.out) more) number)

nothing_waits : (entries : List OutboxEntry) (number : ℕ) →
    AllByRecursion (λ entry. carried_for number entry.out ≡ []) entries →
    waiting_in entries number ≡ []
unfolding forwarded
nothing_waits [] number none = refl
nothing_waits (entry ∷ entries) number none = waiting_append (entry ∷ []) entries number ∙ ap (λ (xs : List (List ℕ)). xs ++ waiting_in entries number) none.0 ∙ nothing_waits entries number none.1

-- ---- the event

-- what is taken is the first that waits, and what is lost the last
moved_by : {m : ℕ} {sent : List (List ℕ)} {w v : Actors} {event : Event} (number : ℕ) → Step SWITCH_LINK w event v → PutsNoMore w number event → taken_of v number ≡ taken_of w number ++ waiting_in (taken SWITCH_LINK w event) number
    → Ended m sent (flow (waiting_of w number)) (flow (taken_of w number)) → Ended m sent (flow (waiting_of v number)) (flow (taken_of v number))
moved_by {m} {sent} {w} {v} {event} number (kept_order same flows) none takes ended = (ended.0, subst (λ (xs : List (List ℕ)). Rise m sent 0 xs ended.0) line ended.1) where
  first : List (List ℕ)
  first = waiting_in (taken SWITCH_LINK w event) number

  waits : waiting_of w number ≡ first ++ waiting_of v number
  waits = sym (append-nil (waiting_of w number)) ∙ ap (λ (xs : List (List ℕ)). waiting_of w number ++ xs) (sym (nothing_waits (put SWITCH_LINK w event) number none))
      ∙ sym (waiting_append (outbox_of w SWITCH_LINK) (put SWITCH_LINK w event) number) ∙ ap (λ (entries : List OutboxEntry). waiting_in entries number) flows ∙ waiting_append (taken SWITCH_LINK w event) (outbox_of v SWITCH_LINK) number

  line : flow (taken_of w number) ++ flow (waiting_of w number) ≡ flow (taken_of v number) ++ flow (waiting_of v number)
  line = ap (λ (xs : List (List ℕ)). flow (taken_of w number) ++ flow xs) waits ∙ ap (λ (xs : List (List ℕ)). flow (taken_of w number) ++ xs) (flow-append first (waiting_of v number))
      ∙ sym (append_assoc (flow (taken_of w number)) (flow first) (flow (waiting_of v number)))
      ∙ ap (λ (xs : List (List ℕ)). xs ++ flow (waiting_of v number)) (sym (flow-append (taken_of w number) first) ∙ ap flow (sym takes))
moved_by {m} {sent} {w} {v} {event} number (breaks broken nothing nobody) none takes ended =
    subst (λ (xs : List (List ℕ)). Ended m sent (flow xs) (flow (taken_of v number))) (sym waits)
    (subst (λ (xs : List (List ℕ)). Ended m sent [] (flow xs)) (sym same) (ended_loses [] (flow (waiting_of w number)) (flow (taken_of w number)) ended)) where
      waits : waiting_of v number ≡ []
      waits = ap (λ (link : Link). waiting_in link.outbox number) broken ∙ nothing_waits [] number tt

      same : taken_of v number ≡ taken_of w number
      same = takes ∙ ap (λ (entries : List OutboxEntry). taken_of w number ++ waiting_in entries number) nobody ∙ ap (λ (xs : List (List ℕ)). taken_of w number ++ xs) (nothing_waits [] number tt) ∙ append-nil (taken_of w number)

pub ended_remain_in_order_new : (settings : Parameters) (events : List Event) (event : Event) → EndedRemainInOrder settings events event
ended_remain_in_order_new settings events event mobile number delivers none ended =
    let w : Actors = world settings events in
    let m : ℕ = modulus_in settings in
    let has : HasSent mobile ended.one.end.sent (actors_after w event) = sent_grows mobile w event ended.one ended.found in
    record {
      one = has.one;
      found = has.found;
      in_order = subst (λ (sent : List (List ℕ)). Ended m sent (flow (waiting_of (actors_after w event) number)) (flow (taken_of (actors_after w event) number))) (sym has.is)
          (ended_sends (flow (waiting_of (actors_after w event) number)) (flow (taken_of (actors_after w event) number)) has.more
          (moved_by number (step SWITCH_LINK w event) none (switch_remains w event number delivers) ended.in_order));
    }

-- ---- what the switch accepted

pub ended_are_in_order_new : (m : ℕ) (w : Actors) (mobile number : ℕ) → EndedAreInOrder m w mobile number
ended_are_in_order_new m w mobile number two ended = is_in_order_rise (taken_of w number) (flow (waiting_of w number)) two ended.in_order.1
