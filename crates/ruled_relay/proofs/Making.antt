-- SPDX-License-Identifier: MIT OR Apache-2.0
-- An inbox is made place by place.
use Rattle.std.proofs.Common.{◌≡◌, ℕ, zero, suc, ◌+◌, ◌⊎◌, inl, inr, List, [], ◌∷◌, ◌++◌, length, refl, sym, ap, ◌∙◌, subst, ⊎_elim, arith, length-append, map}
use Rattle.std.proofs.lemmas.List.{map-append}
use mathlib.Core.Option.{some, some-injective, some-ne-none}
use lib.ListN.{get_elem?}
use Rattle.ruled_relay.specs.declared.item.What.{What}
use Rattle.ruled_relay.specs.Rule.{taking}
use Rattle.ruled_relay.specs.Ends.{AreNew}
use Rattle.ruled_relay.specs.Ends.{EndView}
use Rattle.ruled_relay.specs.Row.{EachAt, Row}
use Rattle.ruled_relay.specs.Inbox.{AreNewInbox, PassView, queues_of}
use Rattle.ruled_relay.proofs.Places.{within}
use Rattle.ruled_relay.proofs.Turns.{IsTaking}

module _ {A : Type 0} where
  -- of one more at the end, a place is an old one or the last
  at_more : (row : List A) (a b : A) (at : ℕ) →
      get_elem? (row ++ a ∷ []) at ≡ some b →
      (get_elem? row at ≡ some b) ⊎ ((at ≡ length row) × (a ≡ b))
  at_more [] a b zero e = inr (refl, some-injective a b e)
  at_more [] a b (suc at) e = absurd (some-ne-none b (sym e))
  at_more (x ∷ xs) a b zero e = inl e
  at_more (x ∷ xs) a b (suc at) e = ⊎_elim (λ h. inl h) (λ h. inr (ap suc h.0, h.1)) (at_more xs a b at e)

pub one_taking : (row : Row) (e : EndView What) → EachAt row (λ i e. IsTaking e) → IsTaking e → EachAt (row ++ e ∷ []) (λ i e. IsTaking e)
one_taking row e each new at d here = ⊎_elim (λ h. each at d h) (λ (h : (at ≡ length row) × (e ≡ d)). subst IsTaking h.1 new) (at_more row e d at here)

pub one_made : (capacity : ℕ) (desk : Row) (passes : List PassView) (e : EndView What) (p : PassView) → length desk ≡ length passes → AreNewInbox capacity desk passes
    → e ≡ record { queue = p.queue; capacity = capacity; seen = taking [] }
    → p ≡ record { queue = p.queue; capacity = capacity; source = length passes; put = [] }
    → AreNewInbox capacity (desk ++ e ∷ []) (passes ++ p ∷ [])
one_made capacity desk passes e p size made new_e new_p at d q here_d here_q =
    let Made : ℕ → EndView What → PassView → Type 0 =
    λ i x y. (x ≡ record { queue = y.queue; capacity = capacity; seen = taking [] }) × (y ≡ record { queue = y.queue; capacity = capacity; source = i; put = [] }) in
    ⊎_elim
    (λ old_d. ⊎_elim (λ old_q. made at d q old_d old_q) (λ (h : (at ≡ length passes) × (p ≡ q)). absurd (let w = within desk at d old_d in let k = h.0 in omega arith)) (at_more passes p q at here_q))
    (λ (h : (at ≡ length desk) × (e ≡ d)). ⊎_elim (λ old_q. absurd (let w = within passes at q old_q in let k = h.0 in omega arith))
    (λ (k : (at ≡ length passes) × (p ≡ q)). subst (λ (y : ℕ × EndView What × PassView). Made y.0 y.1 y.2) (λ i. (sym k.0 i, h.1 i, k.1 i)) (new_e, new_p)) (at_more passes p q at here_q))
    (at_more desk e d at here_d)

abbrev pub pass_at : ℕ → EndView What → PassView
pass_at n w = record { queue = w.queue; capacity = w.capacity; source = n; put = w.seen.put }

-- one more source: its end at the desk, and its pass
pub more_made : (capacity n : ℕ) (desk new_desk : Row) (passes new_passes : List PassView) (e w : EndView What) (p : PassView)
    → new_desk ≡ desk ++ e ∷ [] → new_passes ≡ passes ++ p ∷ []
    → length desk ≡ n → length passes ≡ n → EachAt desk (λ i e. IsTaking e) → AreNewInbox capacity desk passes → queues_of desk ≡ map (λ (y : PassView). y.queue) passes
    → AreNew capacity e w → p ≡ pass_at n w
    → (length new_desk ≡ n + 1) × (length new_passes ≡ n + 1) × EachAt new_desk (λ i e. IsTaking e) × AreNewInbox capacity new_desk new_passes
    × (queues_of new_desk ≡ map (λ (y : PassView). y.queue) new_passes)
more_made capacity n desk new_desk passes new_passes e w p is_desk is_passes size_d size_p each made paired fresh is_p =
    let same : p.queue ≡ e.queue = ap (λ (y : PassView). y.queue) is_p ∙ ap (λ (y : EndView What). y.queue) fresh.1 in
    let room : p.capacity ≡ capacity = ap (λ (y : PassView). y.capacity) is_p ∙ ap (λ (y : EndView What). y.capacity) fresh.1 in
    let place : p.source ≡ length passes = ap (λ (y : PassView). y.source) is_p ∙ sym size_p in
    let blank : p.put ≡ [] = ap (λ (y : PassView). y.put) is_p ∙ ap (λ (y : EndView What). y.seen.put) fresh.1 in
    let new_e : e ≡ record { queue = p.queue; capacity = capacity; seen = taking [] } = fresh.0 ∙ (λ k. record { queue = sym same k; capacity = capacity; seen = taking [] }) in
    let new_p : p ≡ record { queue = p.queue; capacity = capacity; source = length passes; put = [] } = λ k. record { queue = p.queue; capacity = room k; source = place k; put = blank k } in
    let new : IsTaking e = ap (λ (y : EndView What). y.seen) fresh.0 ∙ sym (ap (λ (y : EndView What). taking y.seen.taken) fresh.0) in (
      ap length is_desk ∙ omega (arith, length-append desk (e ∷ [])),
      ap length is_passes ∙ omega (arith, length-append passes (p ∷ [])),
      subst (λ (row : Row). EachAt row (λ i e. IsTaking e)) (sym is_desk) (one_taking desk e each new),
      subst (λ (y : Row × List PassView). AreNewInbox capacity y.0 y.1) (λ i. (sym is_desk i, sym is_passes i)) (one_made capacity desk passes e p (size_d ∙ sym size_p) made new_e new_p),
      ap queues_of is_desk ∙ map-append (λ (y : EndView What). y.queue) desk (e ∷ []) ∙ (λ k. paired k ++ sym same k ∷ [])
          ∙ sym (map-append (λ (y : PassView). y.queue) passes (p ∷ [])) ∙ ap (map (λ (y : PassView). y.queue)) (sym is_passes),
    )
