-- SPDX-License-Identifier: MIT OR Apache-2.0
-- A connection is lined up from the row on that puts CR with its initial message.
use Rattle.world_laws.proofs.Prelude.{◌≡◌, ℕ, ◌+◌, Bool, true, false, not, List, [], ◌∷◌, ◌++◌, refl, sym, ap, ◌∙◌, subst, arith}
use Rattle.world_laws.proofs.Prelude.{append-nil, WaitConfirm, place_of, to_be_taken, DataLinkState, false≢true, Alive, sound, remains}
use Rattle.world_laws.proofs.Prelude.{fresh, flow, messages_in, with_items, controls_of, controls_in, on_serving, serving_tenure, assembled}
use Rattle.world_laws.proofs.Prelude.{OpeningLinesUp}
use Rattle.world_laws.specs.LineUp.Alive.Follows.{carries_on}
use Rattle.world_laws.specs.LineUp.Alive.ChangePhase.{rests}
use Rattle.world_laws.specs.LineUp.Places.{Item}
use Rattle.world_laws.proofs.LineUp.Following.{follows_line}
use Rattle.world_laws.proofs.LineUp.Lines.{flow-cons}
use Rattle.mobile_end.specs.RunsToEnd.{RunsToEnd}
use Rattle.world_laws.specs.OwnRow.{over}
use Rattle.world_laws.proofs.Cutting.{Cuts, cuts_itself, alive_cut}
use Rattle.world_laws.proofs.Cutting.Cuts.{breaks}
use Rattle.world_laws.proofs.OwnRow.{flow-twice}

-- the mobile's link continues behind the initial message and what is on its way up behind it
whole_opening : {m : ℕ} (sent : List (List ℕ)) (link : DataLinkState) (initial : List ℕ) (items : List Item) → RunsToEnd m sent (flow (initial ∷ messages_in items)) link → controls_in items + controls_of (to_be_taken link) ≡ 0
    → Alive m (assembled sent link on_serving WaitConfirm 0 [] (with_items fresh items) fresh (flow (initial ∷ [])) [])
whole_opening {m} sent link initial items runs none = record {
  follows = follows_line (flow-cons initial (messages_in items) ∙ ap (λ (xs : List (List ℕ)). xs ++ flow (messages_in items)) (sym (flow-twice (initial ∷ []))) ∙ ap (λ (xs : List (List ℕ)). flow (flow (initial ∷ [])) ++ xs) (sym (append-nil (flow (messages_in items))))) (carries_on runs);
  first = λ is. refl;
  phase = rests remains (omega arith);
  condition = sound;
  bare = refl;
}

-- its station's link may be down by then
cuts_fresh : (up : Bool) (items : List Item) →
    Cuts (with_items fresh items) (record { hold = []; items = items; is_lost = not up; is_done = false })
cuts_fresh true items = cuts_itself (with_items fresh items)
cuts_fresh false items = breaks [] refl (sym (append-nil (messages_in items))) refl

pub opening_lines_up_new : (m : ℕ) → OpeningLinesUp m
opening_lines_up_new m sent link initial arriving up s opens =
    subst (Alive m) (sym reads)
    (alive_cut sent link on_serving WaitConfirm 0 0 [] [] (with_items fresh (arriving (place_of s.serving))) (serving_tenure arriving up s.serving []) fresh fresh (flow (initial ∷ [])) [] (omega arith) tt (cuts_fresh (up s.serving.station) (arriving (place_of s.serving))) (cuts_itself fresh) (λ is. absurd (false≢true is))
    (whole_opening sent link initial (arriving (place_of s.serving)) opens.carries_on opens.no_control)) where
      reads : over arriving up s sent link on_serving 0 (flow (initial ∷ [])) [] ≡ assembled sent link on_serving WaitConfirm 0 [] (serving_tenure arriving up s.serving []) fresh (flow (initial ∷ [])) []
      reads = rw (opens.awaits, opens.none_drains, opens.none_held) refl
