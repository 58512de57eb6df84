-- SPDX-License-Identifier: MIT OR Apache-2.0
-- What the switch accepts of a line whose places rise.
use Rattle.world_laws.proofs.Prelude.{◌≡◌, ℕ, ◌+◌, ◌≤◌, List, [], ◌∷◌, ◌++◌, refl, sym, ap, ◌∙◌, subst, append_assoc, arith, append-nil}
use Rattle.world_laws.proofs.Prelude.{Rise, to_be_taken, DataLinkState, Rise-cut, Rise-front, Rise-grow, Rise-of_flow}
use Rattle.world_laws.proofs.Prelude.{accepted_list_from-rise, progress_from-rise, LineUp, flow, messages_in, parts_of, line, controls_in}
use Rattle.world_laws.proofs.Prelude.{controls_of, Alive, remains, sound, IsInOrder, arriving, by_mobile, by_relaying, by_change, by_break}
use Rattle.world_laws.proofs.Prelude.{none, first}
use Rattle.mobile_end.specs.RunsToEnd.{RunsToEnd}
use Rattle.world_laws.specs.LineUp.Places.{Item}
use Rattle.world_laws.specs.LineUp.Alive.Follows.{carries_on}
use Rattle.world_laws.specs.LineUp.Alive.ChangePhase.{rests}
use Rattle.world_laws.specs.LineUp.Order.{Ended}
use Rattle.world_laws.specs.LineUp.Opening.{opened}
use Rattle.world_laws.specs.LineUp.Steps.{Step, Steps}
use Rattle.world_laws.proofs.LineUp.Lines.{flow-append, flow-cons}
use Rattle.world_laws.proofs.LineUp.Following.{follows_rise}
use Rattle.world_laws.proofs.LineUp.Moving.{alive_mobile}
use Rattle.world_laws.proofs.LineUp.Relaying.{alive_relay}
use Rattle.world_laws.proofs.LineUp.Changing.{alive_change}
use Rattle.world_laws.proofs.LineUp.Breaking.{alive_break}

rise_list : {m n k : ℕ} {sent xs ys : List (List ℕ)} → xs ≡ ys → Rise m sent n xs k → Rise m sent n ys k
rise_list {m} {n} {k} {sent} same rise = subst (λ (list : List (List ℕ)). Rise m sent n list k) same rise

-- a connection that its initial message opened
pub alive_opened : (m : ℕ) (sent : List (List ℕ)) (link : DataLinkState) (initial : List ℕ) (items : List Item) →
    RunsToEnd m sent (flow (initial ∷ messages_in items)) link →
    controls_in items + controls_of (to_be_taken link) ≡ 0 →
    Alive m (opened sent link initial items)
alive_opened m sent link initial items going controls =
    let same : flow (initial ∷ messages_in items) ≡ line (opened sent link initial items) =
    flow-cons initial (messages_in items) ∙ ap (λ (rest : List (List ℕ)). flow (initial ∷ []) ++ rest) (sym (append-nil (flow (messages_in items)))) in
    record {
      follows = carries_on (subst (λ (list : List (List ℕ)). RunsToEnd m sent list link) same going);
      first = λ confirmed. refl;
      phase = rests remains (omega arith);
      condition = sound;
      bare = refl;
    }

-- what was taken, and what may still arrive
pub is_in_order_rise : {m : ℕ} {sent : List (List ℕ)} (taken rest : List (List ℕ)) {k : ℕ} →
    2 ≤ m →
    Rise m sent 0 (flow taken ++ rest) k →
    IsInOrder m sent taken rest
is_in_order_rise taken rest {k} two rise =
    let cut = Rise-cut (flow taken) rest rise in
    let front = Rise-of_flow taken cut.1 in
    record { count = cut.0; accepted = accepted_list_from-rise two front; no_gap = progress_from-rise two front; last = k; rise = cut.2 }

pub is_in_order_alive : {m : ℕ} {l : LineUp} → 2 ≤ m → Alive m l → IsInOrder m l.sent l.taken (arriving l)
is_in_order_alive {l} two alive =
    let rise = follows_rise alive.follows in
    is_in_order_rise l.taken (arriving l) two (rise_list (append_assoc (flow l.taken) (flow l.out) (parts_of (l.old ++ l.serving ∷ l.target ∷ []))) rise.1)

-- one thing after the other
pub alive_step : {m : ℕ} {before after : LineUp} → Step m before after → Alive m before → Alive m after
alive_step (by_mobile step) alive = alive_mobile step alive
alive_step (by_relaying step) alive = alive_relay step alive
alive_step (by_change step) alive = alive_change step alive
alive_step (by_break step) alive = alive_break step alive

pub alive_steps : {m : ℕ} {before after : LineUp} → Steps m before after → Alive m before → Alive m after
alive_steps (none l) alive = alive
alive_steps (first step steps) alive = alive_steps steps (alive_step step alive)

-- ---- the end

pub ended_alive : {m : ℕ} {l : LineUp} → Alive m l → Ended m l.sent l.out l.taken
ended_alive {l} alive =
    let rise = follows_rise alive.follows in
    let front = Rise-front (flow l.taken ++ flow l.out) (parts_of (l.old ++ l.serving ∷ l.target ∷ [])) rise.1 in
    (front.0, Rise-of_flow (l.taken ++ l.out) (rise_list (sym (flow-append l.taken l.out)) front.1))

pub ended_sends : {m : ℕ} {sent : List (List ℕ)} (out taken more : List (List ℕ)) →
    Ended m sent out taken →
    Ended m (sent ++ more) out taken
ended_sends out taken more ended = (ended.0, Rise-grow more ended.1)

pub ended_takes : {m : ℕ} {sent : List (List ℕ)} (out taken : List (List ℕ)) (x : List ℕ) →
    Ended m sent (x ∷ out) taken →
    Ended m sent out (taken ++ x ∷ [])
ended_takes out taken x ended = (ended.0, rise_list (sym (append_assoc taken (x ∷ []) out)) ended.1)

pub ended_loses : {m : ℕ} {sent : List (List ℕ)} (out lost taken : List (List ℕ)) →
    Ended m sent (out ++ lost) taken →
    Ended m sent out taken
ended_loses out lost taken ended = Rise-front (taken ++ out) lost (rise_list (sym (append_assoc taken out lost)) ended.1)

pub is_in_order_ended : {m : ℕ} {sent : List (List ℕ)} (out taken : List (List ℕ)) →
    2 ≤ m →
    Ended m sent out taken →
    IsInOrder m sent taken out
is_in_order_ended out taken two ended =
    let cut = Rise-cut taken out ended.1 in
    record { count = cut.0; accepted = accepted_list_from-rise two cut.1; no_gap = progress_from-rise two cut.1; last = ended.0; rise = cut.2 }
