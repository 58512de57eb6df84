-- SPDX-License-Identifier: MIT OR Apache-2.0
-- The row that puts CR keeps a connection lined up: the initial message moves from its channel to
-- what waits for the switch, and none of radio resource management is behind it.
use Rattle.world_laws.proofs.Prelude.{◌≡◌, ℕ, ◌+◌, Bool, true, false, List, [], ◌∷◌, ◌++◌, refl, sym, ap, ◌∙◌, append_assoc, arith}
use Rattle.world_laws.proofs.Prelude.{WaitConfirm, WaitEstablish, to_be_taken, DataLinkState, Alive, remains, controls_in, controls_of}
use Rattle.world_laws.proofs.Prelude.{flow, fresh, messages_in, on_serving, assembled}
use Rattle.world_laws.specs.LineUp.Alive.{ChangePhase}
use Rattle.world_laws.specs.LineUp.Alive.ChangePhase.{rests}
use Rattle.world_laws.specs.LineUp.Places.{Item, LineTenure}
use Rattle.world_laws.specs.LineUp.Places.Item.{brought}
use Rattle.world_laws.proofs.LineUp.Following.{follows_line}
use Rattle.world_laws.proofs.LineUp.Lines.{flow-cons}
use Rattle.world_laws.proofs.OwnRow.{flow-twice}

abbrev pub of_items : List Item → Bool → LineTenure
of_items items lost = record { hold = []; items = items; is_lost = lost; is_done = false }

-- nothing changes, and nothing of radio resource management is left behind the initial message
phase_bare : {serving link : ℕ} → serving + link ≡ 0 → ChangePhase false false 0 on_serving serving 0 0 link
phase_bare left = rests remains (omega (arith, left))

pub requests_alive : {m : ℕ} (sent : List (List ℕ)) (link : DataLinkState) (initial : List ℕ) (items : List Item) (lost : Bool) → controls_in items + controls_of (to_be_taken link) ≡ 0
    → Alive m (assembled sent link on_serving WaitEstablish 0 [] (of_items (brought initial ∷ items) lost) fresh [] [])
    → Alive m (assembled sent link on_serving WaitConfirm 0 [] (of_items items lost) fresh (flow (initial ∷ [])) [])
requests_alive {m} sent link initial items lost left alive = by lost alive where
  moves : (rest : List (List ℕ)) →
      flow (initial ∷ messages_in items) ++ rest ≡ flow (flow (initial ∷ [])) ++ (flow (messages_in items) ++ rest)
  moves rest = ap (λ (xs : List (List ℕ)). xs ++ rest) (flow-cons initial (messages_in items) ∙ ap (λ (xs : List (List ℕ)). xs ++ flow (messages_in items)) (sym (flow-twice (initial ∷ []))))
      ∙ append_assoc (flow (flow (initial ∷ []))) (flow (messages_in items)) rest

  by : (b : Bool) → Alive m (assembled sent link on_serving WaitEstablish 0 [] (of_items (brought initial ∷ items) b) fresh [] [])
      → Alive m (assembled sent link on_serving WaitConfirm 0 [] (of_items items b) fresh (flow (initial ∷ [])) [])
  by true alive = record {
    follows = follows_line (moves []) alive.follows;
    first = λ is. refl;
    phase = phase_bare left;
    condition = alive.condition;
    bare = refl;
  }
  by false alive = record {
    follows = follows_line (moves []) alive.follows;
    first = λ is. refl;
    phase = phase_bare left;
    condition = alive.condition;
    bare = refl;
  }
